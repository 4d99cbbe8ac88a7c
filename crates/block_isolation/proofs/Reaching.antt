-- 32 rounds come to all addresses that a program can come to; and what a reached instruction has is among what is joined.
use Rattle.std.proofs.Common.{◌≡◌, ◌∙◌, ℕ, zero, suc, ◌+◌, ◌^◌, ◌<◌, ◌≤◌, Bool, true, false, cond, ◌&&◌, ◌||◌, ◌⊎◌, Option, Some, None, List, slice_index, refl, sym, ap, inl, inr, arith, bit_or}
use Rattle.std.proofs.lemmas.Bool.{cases_lt, or_parts}
use Rattle.pio_encode.specs.declared.act.Act.{Act}
use Rattle.pio_encode.specs.declared.act.Act.TheVariants.{Jmp, Wait, In, Out, Push, Pull, Mov, Irq, Set, Nothing}
use Rattle.pio_encode.specs.declared.act.Condition.{Condition}
use Rattle.pio_encode.specs.declared.act.Condition.TheVariants as condition
use Rattle.pio_encode.specs.Ranges.{IsInRange}
use Rattle.pio_encode.specs.Word.{act_of}
use Rattle.pin_matrix.specs.declared.machine.MachineSetup.{MachineSetup}
use Rattle.block_shares.specs.Acts.{has, jump_leads_to, leads_to, is_wild}
use Rattle.block_shares.specs.Reach.{next_after, act_at, gathered, leads_from, after_these, one_round, first_in, reach_in, reach_of, any_wild}
use Rattle.block_isolation.proofs.Bits.{has_or, has_or_left, has_or_right, has_own}
use Rattle.block_isolation.proofs.Counting.{count, Within, count-le, count_same, count_some}
use Rattle.block_isolation.proofs.Ranged.{ranged_word}

or_same : (a b : Bool) → (b ≡ true → a ≡ true) → a ≡ (a || b)
or_same true b h = refl
or_same false true h = h refl
or_same false false h = refl

and_rest : (a b : Bool) → a ≡ true → (a && b) ≡ false → b ≡ false
and_rest true b h k = k
and_rest false b h k = cc

and_under : (a x y : Bool) → (a ≡ true → x ≡ y) → (a && x) ≡ (a && y)
and_under true x y h = h refl
and_under false x y h = refl

round_more : (memory : List ℕ) (s : MachineSetup) (n i : ℕ) → i < 32 → has (reach_in memory s n) i ≡ true → has (reach_in memory s (suc n)) i ≡ true
unfolding reach_in
round_more memory s n i inside h = has_or_left (reach_in memory s n) (after_these memory s (reach_in memory s n)) i h

-- the first addresses are reached
begins : (memory : List ℕ) (s : MachineSetup) (i : ℕ) → has (first_in s.pending s.start) i ≡ true → has (reach_in memory s 0) i ≡ true
unfolding reach_in
begins memory s i h = h

-- a set of addresses has one
pub record HasOne (set : ℕ) : Type 0 where
  one : ℕ
  inside : one < 32
  there : has set one ≡ true

jump_has_one : (c : Condition) (address next : ℕ) → address < 32 → next < 32 → HasOne (jump_leads_to c address next)
jump_has_one condition.Always address next a n = record { one = address; inside = a; there = has_own address }
jump_has_one condition.XZero address next a n = record { one = next; inside = n; there = has_or_left (2 ^ next) (2 ^ address) next (has_own next) }
jump_has_one condition.XDecrement address next a n = record { one = next; inside = n; there = has_or_left (2 ^ next) (2 ^ address) next (has_own next) }
jump_has_one condition.YZero address next a n = record { one = next; inside = n; there = has_or_left (2 ^ next) (2 ^ address) next (has_own next) }
jump_has_one condition.YDecrement address next a n = record { one = next; inside = n; there = has_or_left (2 ^ next) (2 ^ address) next (has_own next) }
jump_has_one condition.XNotY address next a n = record { one = next; inside = n; there = has_or_left (2 ^ next) (2 ^ address) next (has_own next) }
jump_has_one condition.Pin address next a n = record { one = next; inside = n; there = has_or_left (2 ^ next) (2 ^ address) next (has_own next) }
jump_has_one condition.OsrNotEmpty address next a n = record { one = next; inside = n; there = has_or_left (2 ^ next) (2 ^ address) next (has_own next) }

next_has_one : (next : ℕ) → next < 32 → HasOne (2 ^ next)
next_has_one next n = record { one = next; inside = n; there = has_own next }

leads_has_one : (act : Act) (next : ℕ) → IsInRange act → next < 32 → HasOne (leads_to act next)
leads_has_one (Jmp c address) next range n = jump_has_one c address next range n
leads_has_one (Wait polarity source index) next range n = next_has_one next n
leads_has_one (In source count) next range n = next_has_one next n
leads_has_one (Out destination count) next range n = next_has_one next n
leads_has_one (Push if_full block) next range n = next_has_one next n
leads_has_one (Pull if_empty block) next range n = next_has_one next n
leads_has_one (Mov destination operation source) next range n = next_has_one next n
leads_has_one (Irq clear waits index) next range n = next_has_one next n
leads_has_one (Set destination value) next range n = next_has_one next n
leads_has_one Nothing next range n = next_has_one next n

first_has_one : (pending : Option ℕ) (start : ℕ) → start < 32 → HasOne (first_in pending start)
first_has_one None start below = next_has_one start below
first_has_one (Some word) start below = leads_has_one (act_of word) start (ranged_word word).range below

-- what an instruction of the set has is among what is joined
pub gathered_has : (f : ℕ → Act → ℕ) (memory : List ℕ) (set n a i : ℕ) → a < n → has set a ≡ true → has (f a (act_at memory a)) i ≡ true → has (gathered f memory set n) i ≡ true
unfolding gathered
gathered_has f memory set zero a i below inside h = absurd (omega arith)
gathered_has f memory set (suc n) a i below inside h =
    let here = cond (has set n) (f n (act_at memory n)) 0 in
    elim (cases_lt a n) [
      | inl low ↦ has_or_left (gathered f memory set n) here i (gathered_has f memory set n a i low inside h)
      | inr high ↦
          let e : n ≡ a = omega arith in
          let k : has set n ≡ true = ap (λ (j : ℕ). has set j) e ∙ inside in
          let g : has (f n (act_at memory n)) i ≡ true = ap (λ (j : ℕ). has (f j (act_at memory j)) i) e ∙ h in
          let own : has here i ≡ true = rw k g in
          has_or_right (gathered f memory set n) here i own
    ]

-- under a test
under : (b : Bool) (x y : ℕ) → (b ≡ true → x ≡ y) → cond b x 0 ≡ cond b y 0
under true x y e = e refl
under false x y e = refl

-- memories that agree where it matters give the same
pub gathered_same : (f : ℕ → Act → ℕ) (memory other : List ℕ) (set n : ℕ) → ((a : ℕ) → a < n → has set a ≡ true → slice_index memory a ≡ slice_index other a) → gathered f memory set n ≡ gathered f other set n
unfolding gathered
gathered_same f memory other set zero h = refl
gathered_same f memory other set (suc n) h =
    ap (λ (x : ℕ). bit_or x (cond (has set n) (f n (act_at memory n)) 0)) (gathered_same f memory other set n (λ a k. h a (omega (arith, k))))
    ∙ ap (bit_or (gathered f other set n)) (under (has set n) (f n (act_at memory n)) (f n (act_at other n)) (λ t. ap (λ (w : ℕ). f n (act_of w)) (h n (omega arith) t)))

pub gathered_of_same : (f : ℕ → Act → ℕ) (memory : List ℕ) (set other n : ℕ) → ((a : ℕ) → a < n → has set a ≡ has other a) → gathered f memory set n ≡ gathered f memory other n
unfolding gathered
gathered_of_same f memory set other zero h = refl
gathered_of_same f memory set other (suc n) h =
    ap (λ (x : ℕ). bit_or x (cond (has set n) (f n (act_at memory n)) 0)) (gathered_of_same f memory set other n (λ a k. h a (omega (arith, k))))
    ∙ ap (λ (b : Bool). bit_or (gathered f memory other n) (cond b (f n (act_at memory n)) 0)) (h n (omega arith))

-- nothing more is got in another round
abbrev IsClosed : List ℕ → MachineSetup → ℕ → Type 0
IsClosed memory s set = Within 32 (after_these memory s set) set

grows : (memory : List ℕ) (s : MachineSetup) (set : ℕ) → Within 32 set (one_round memory s set)
grows memory s set i inside h = has_or_left set (after_these memory s set) i h

-- a round more than a closed one has the same addresses
stays : (memory : List ℕ) (s : MachineSetup) (set : ℕ) → IsClosed memory s set → (i : ℕ) → i < 32 → has set i ≡ has (one_round memory s set) i
stays memory s set h i inside = or_same (has set i) (has (after_these memory s set) i) (h i inside) ∙ sym (has_or set (after_these memory s set) i)

closed_on : (memory : List ℕ) (s : MachineSetup) (set : ℕ) → IsClosed memory s set → IsClosed memory s (one_round memory s set)
closed_on memory s set h i inside k =
    let same : after_these memory s set ≡ after_these memory s (one_round memory s set) = gathered_of_same (leads_from s) memory set (one_round memory s set) 32 (stays memory s set h) in
    let k' : has (after_these memory s set) i ≡ true = ap (λ (x : ℕ). has x i) same ∙ k in
    sym (stays memory s set h i inside) ∙ h i inside k'

-- where a round gets no more, it is closed
closed_now : (memory : List ℕ) (s : MachineSetup) (set : ℕ) → count 32 (one_round memory s set) ≤ count 32 set → IsClosed memory s set
closed_now memory s set few i inside h =
    count_same 32 set (one_round memory s set) (grows memory s set) few i inside (has_or_right set (after_these memory s set) i h)

-- after n rounds it is closed, or n addresses and more were got
closed_or_more : (memory : List ℕ) (s : MachineSetup) (n : ℕ) → IsClosed memory s (reach_in memory s n) ⊎ (n < count 32 (reach_in memory s n))
unfolding reach_in
closed_or_more memory s zero = inr (
    let first = first_has_one s.pending s.start s.start_in_memory in
    let h : 1 ≤ count 32 (first_in s.pending s.start) = count_some 32 (first_in s.pending s.start) first.one first.inside first.there in omega (arith, h))
closed_or_more memory s (suc n) =
    elim (closed_or_more memory s n) [
      | inl closed ↦ inl (closed_on memory s (reach_in memory s n) closed)
      | inr more ↦ elim (cases_lt (count 32 (reach_in memory s n)) (count 32 (one_round memory s (reach_in memory s n)))) [
        | inl grown ↦ inr (omega (arith, more, grown))
        | inr same ↦ inl (closed_on memory s (reach_in memory s n) (closed_now memory s (reach_in memory s n) same))
      ]
    ]

-- so 32 rounds come to all
reach_closed : (memory : List ℕ) (s : MachineSetup) → IsClosed memory s (reach_of memory s)
reach_closed memory s =
    elim (closed_or_more memory s 32) [
      | inl closed ↦ closed
      | inr more ↦ absurd (let most = count-le 32 (reach_in memory s 32) in omega (arith, more, most))
    ]

-- where an instruction goes is reached
pub reach_goes : (memory : List ℕ) (s : MachineSetup) (a i : ℕ) → a < 32 → has (reach_of memory s) a ≡ true → i < 32 → has (leads_to (act_at memory a) (next_after s a)) i ≡ true → has (reach_of memory s) i ≡ true
reach_goes memory s a i below inside room h =
    reach_closed memory s i room (gathered_has (leads_from s) memory (reach_of memory s) 32 a i below inside h)

-- earlier rounds got no more
pub reach_grows : (memory : List ℕ) (s : MachineSetup) (n k : ℕ) → Within 32 (reach_in memory s n) (reach_in memory s (n + k))
reach_grows memory s n zero i inside h = let e : n ≡ n + 0 = omega arith in ap (λ (m : ℕ). has (reach_in memory s m) i) (sym e) ∙ h
reach_grows memory s n (suc k) i inside h =
    let e : n + suc k ≡ suc (n + k) = omega arith in
    ap (λ (m : ℕ). has (reach_in memory s m) i) e ∙ round_more memory s (n + k) i inside (reach_grows memory s n k i inside h)

-- the first addresses are reached
pub reach_starts : (memory : List ℕ) (s : MachineSetup) (i : ℕ) → i < 32 → has (first_in s.pending s.start) i ≡ true → has (reach_of memory s) i ≡ true
reach_starts memory s i inside h = reach_grows memory s 0 32 i inside (begins memory s i h)

-- no reached instruction is wild
pub wild_none : (memory : List ℕ) (set n a : ℕ) → any_wild memory set n ≡ false → a < n → has set a ≡ true → is_wild (act_at memory a) ≡ false
unfolding any_wild
wild_none memory set zero a h below inside = absurd (omega arith)
wild_none memory set (suc n) a h below inside =
    let parts = or_parts (any_wild memory set n) (has set n && is_wild (act_at memory n)) h in
    elim (cases_lt a n) [
      | inl low ↦ wild_none memory set n a parts.0 low inside
      | inr high ↦
          let e : a ≡ n = omega arith in
          ap (λ (j : ℕ). is_wild (act_at memory j)) e ∙ and_rest (has set n) (is_wild (act_at memory n)) (ap (λ (j : ℕ). has set j) (sym e) ∙ inside) parts.1
    ]

pub wild_same : (memory other : List ℕ) (set n : ℕ) → ((a : ℕ) → a < n → has set a ≡ true → slice_index memory a ≡ slice_index other a) → any_wild memory set n ≡ any_wild other set n
unfolding any_wild
wild_same memory other set zero h = refl
wild_same memory other set (suc n) h =
    ap (λ (x : Bool). x || (has set n && is_wild (act_at memory n))) (wild_same memory other set n (λ a k. h a (omega (arith, k))))
    ∙ ap (λ (x : Bool). any_wild other set n || x) (and_under (has set n) (is_wild (act_at memory n)) (is_wild (act_at other n)) (λ t. ap (λ (w : ℕ). is_wild (act_of w)) (h n (omega arith) t)))
