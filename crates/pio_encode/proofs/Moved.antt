-- A relocated word means the same as before, but for a jump's target.
use Rattle.std.proofs.Common.{◌≡◌, ℕ, ◌+◌, ◌*◌, ◌/◌, ◌^◌, ◌<◌, ◌==◌, nat_lt, Bool, true, false, cond, Option, Some, None, refl, rules, arith}
use Rattle.std.proofs.lemmas.Bool.Decides.{nat_tests}
use Rattle.pio_encode.specs.declared.act.Act.{Act}
use Rattle.pio_encode.specs.declared.act.MovDestination.{MovDestination}
use Rattle.pio_encode.specs.declared.act.MovOperation.{MovOperation}
use Rattle.pio_encode.specs.declared.act.MovSource.{MovSource}
use Rattle.pio_encode.specs.declared.rule.SideRule.{SideRule}
use Rattle.pio_encode.specs.Word.{bits, act_of, wait_at, in_at, push_or_pull_at, mov_with, mov_at, irq_at, set_at, reading_of}
use Rattle.pio_encode.specs.Relocation.{moved_act, relocated}

-- an act that no offset changes
record IsStill (offset : ℕ) (act : Act) : Type 0 where
  same : moved_act offset act ≡ act

still_if : (offset : ℕ) (b : Bool) (x y : Act) → IsStill offset x → IsStill offset y → IsStill offset (cond b x y)
still_if offset true x y h k = h
still_if offset false x y h k = k

still_wait : (offset w : ℕ) → IsStill offset (wait_at w)
unfolding wait_at
still_wait offset w = search (rules, still_if) depth 20

still_in : (offset w : ℕ) → IsStill offset (in_at w)
unfolding in_at
still_in offset w = search (rules, still_if) depth 20

still_push_or_pull : (offset w : ℕ) → IsStill offset (push_or_pull_at w)
unfolding push_or_pull_at
still_push_or_pull offset w = search (rules, still_if) depth 20

still_mov_with :
    (offset : ℕ) (d : Option MovDestination) (o : Option MovOperation) (s : Option MovSource) → IsStill offset (mov_with d o s)
still_mov_with offset (Some d) (Some o) (Some s) = record { same = refl }
still_mov_with offset (Some d) (Some o) None = record { same = refl }
still_mov_with offset (Some d) None s = record { same = refl }
still_mov_with offset None o s = record { same = refl }

still_irq : (offset w : ℕ) → IsStill offset (irq_at w)
unfolding irq_at
still_irq offset w = search (rules, still_if) depth 20

still_set : (offset w : ℕ) → IsStill offset (set_at w)
unfolding set_at
still_set offset w = search (rules, still_if) depth 20

-- only a word of kind 0 is a jump
still_other : (offset w : ℕ) → (bits w 13 3 == 0) ≡ false → IsStill offset (act_of w)
unfolding act_of mov_at
still_other offset w h =
    rw h (search (rules, still_if, still_wait, still_in, still_push_or_pull, still_mov_with, still_irq, still_set) depth 20)

-- a jump's target is moved
moved_jump :
    (word offset : ℕ) → bits word 13 3 ≡ 0 → bits word 0 5 + offset < 32 →
    act_of (word / 2 ^ 5 * 2 ^ 5 + (bits word 0 5 + offset)) ≡ moved_act offset (act_of word)
unfolding act_of
moved_jump word offset k t =
    let target = bits word 0 5 + offset in
    let w = word / 2 ^ 5 * 2 ^ 5 + target in
    let kind : bits w 13 3 ≡ 0 = omega arith in
    let field : bits w 5 3 ≡ bits word 5 3 = omega arith in
    let low : bits w 0 5 ≡ target = omega arith in
    rw (kind, field, low, k) refl

-- bits 12 to 8 stay
shared_stays : (word offset : ℕ) → bits word 0 5 + offset < 32 → bits (word / 2 ^ 5 * 2 ^ 5 + (bits word 0 5 + offset)) 8 5 ≡ bits word 8 5
shared_stays word offset t = omega arith

below : (a b : ℕ) → nat_lt a b ≡ true → a < b
below a b h = grind (arith, nat_tests)

is_zero : (a : ℕ) → (a == 0) ≡ true → a ≡ 0
is_zero a h = grind (arith, nat_tests)

-- by whether it is a jump, and whether its target stays below 32
moved_by_tests :
    (jump fits : Bool) (word offset moved : ℕ) (rule : SideRule) → (bits word 13 3 == 0) ≡ jump →
    nat_lt (bits word 0 5 + offset) 32 ≡ fits → relocated word offset ≡ Some moved →
    reading_of moved rule ≡ record (reading_of word rule) { act = moved_act offset (reading_of word rule).act }
unfolding reading_of
moved_by_tests true true word offset moved rule j f e =
    let target : bits word 0 5 + offset < 32 = below _ _ f in
    let is : Some (word / 2 ^ 5 * 2 ^ 5 + (bits word 0 5 + offset)) ≡ Some moved = rw (j, f) at e in
    let w : moved ≡ word / 2 ^ 5 * 2 ^ 5 + (bits word 0 5 + offset) = cc in
    rw (w, shared_stays word offset target, moved_jump word offset (is_zero _ j) target) refl
moved_by_tests true false word offset moved rule j f e =
    let is : None ≡ Some moved = rw (j, f) at e in cc
moved_by_tests false fits word offset moved rule j f e =
    let is : Some word ≡ Some moved = rw j at e in
    let w : moved ≡ word = cc in
    rw (w, (still_other offset word j).same) refl

-- a relocated word's reading is the old one with its act moved
pub moved_reading :
    (word offset moved : ℕ) (rule : SideRule) → relocated word offset ≡ Some moved →
    reading_of moved rule ≡ record (reading_of word rule) { act = moved_act offset (reading_of word rule).act }
moved_reading word offset moved rule e = moved_by_tests _ _ word offset moved rule refl refl e
