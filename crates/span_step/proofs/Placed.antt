-- After a context in range each next one is in range.
use Rattle.std.proofs.Common.{◌≡◌, ℕ, zero, suc, ◌+◌, ◌-◌, ◌%◌, ◌<◌, ◌≤◌, ◌==◌, max, nat_lt, nat_le, Bool, true, false, ◌&&◌, cond, if◌then◌else◌, Option, Some, None, List, [], ◌∷◌, ◌++◌, map, fold, refl, subst, rules, arith}
use Rattle.std.proofs.lemmas.Bool.{and_parts, leb-true}
use Rattle.std.specs.List.{flat_map, range_with_len}
use Rattle.std.proofs.lemmas.Bool.Decides.{nat_tests}
use Rattle.pin_matrix.specs.declared.machine.MachineSetup.{MachineSetup}
use Rattle.pin_matrix.specs.declared.setup.Setup.{Setup}
use Rattle.pin_matrix.specs.declared.span.PinSignal.TheVariants.{Level, Direction}
use Rattle.pin_matrix.specs.declared.span.Span.{Span}
use Rattle.pio_encode.specs.declared.op.Op.{Op}
use Rattle.pio_encode.specs.declared.act.Act.{Act}
use Rattle.pio_encode.specs.declared.act.Act.TheVariants.{Jmp, Wait, In, Out, Push, Pull, Mov, Irq, Set, Nothing}
use Rattle.pio_encode.specs.declared.act.Condition.{Condition}
use Rattle.pio_encode.specs.declared.act.Condition.TheVariants as condition
use Rattle.pio_encode.specs.declared.act.WaitSource.{WaitSource}
use Rattle.pio_encode.specs.declared.act.InSource.{InSource}
use Rattle.pio_encode.specs.declared.act.OutDestination.{OutDestination}
use Rattle.pio_encode.specs.declared.act.OutDestination.TheVariants as out_destination
use Rattle.pio_encode.specs.declared.act.MovDestination.{MovDestination}
use Rattle.pio_encode.specs.declared.act.MovDestination.TheVariants as mov_destination
use Rattle.pio_encode.specs.declared.act.MovOperation.{MovOperation}
use Rattle.pio_encode.specs.declared.act.MovSource.{MovSource}
use Rattle.pio_encode.specs.declared.act.SetDestination.{SetDestination}
use Rattle.pio_encode.specs.declared.act.SetDestination.TheVariants as set_destination
use Rattle.pio_encode.specs.Word.{bits, act_of, wait_at, in_at, push_or_pull_at, mov_at, mov_with, mov_destination_at, mov_operation_at, mov_source_at, irq_at, set_at, reading_of}
use Rattle.span_step.specs.declared.ages.Ages.{Ages}
use Rattle.span_step.specs.declared.course.Watch.{Watch}
use Rattle.span_step.specs.declared.stepped.Next.{Next}
use Rattle.span_step.specs.declared.stepped.Stepped.{Stepped}
use Rattle.span_step.specs.Contexts.{Context, is_small, is_placed}
use Rattle.span_step.specs.Outcomes.{ContextOutcome, outcomes, ways, taken, after_count, nothing_done, unknown_levels}
use Rattle.span_step.specs.Courses.{courses, prompt, delayed}
use Rattle.pin_matrix.specs.declared.assume.Assumption.{Assumption}
use Rattle.pin_matrix.specs.declared.assume.Follow.{Follow}
use Rattle.pin_matrix.specs.declared.assume.Range.{Range}
use Rattle.pin_matrix.specs.Assumptions.{follow_of, most_in, raised_x, raised_y}
use Rattle.pin_matrix.specs.Followed.{followed}
use Rattle.span_step.specs.declared.narrowing.Narrowing.{Narrowing}
use Rattle.span_step.specs.Narrowing.{all_narrowed, held, kept, knowing, meet, narrowed, narrowing_after, nexts_of, with_assumption, with_assumptions, with_held}
use Rattle.span_step.specs.Steps.{Visit, visit_of, next_address, address_after, end_after, with_end, end_of, with_outcome, with_unmet, nothing_found, wild_step, machine_steps, context_steps, step_by, is_lost}
use Rattle.span_step.specs.Laws.{AllPlaced}

-- the address of a JMP and the value of a SET are below 32
abbrev SmallAct : Act → Type 0
SmallAct (Jmp c address) = nat_lt address 32 ≡ true
SmallAct (Wait polarity source index) = Unit {0}
SmallAct (In source count) = Unit {0}
SmallAct (Out destination count) = Unit {0}
SmallAct (Push if_full block) = Unit {0}
SmallAct (Pull if_empty block) = Unit {0}
SmallAct (Mov destination operation source) = Unit {0}
SmallAct (Irq clear waits index) = Unit {0}
SmallAct (Set destination value) = nat_lt value 32 ≡ true
SmallAct Nothing = Unit {0}

record IsSmallAct (act : Act) : Type 0 where
  small : SmallAct act

either : (z : Bool) (a b : Act) → IsSmallAct a → IsSmallAct b → IsSmallAct (if z then a else b)
either true a b h k = h
either false a b h k = k

low_bits : (w : ℕ) → nat_lt (bits w 0 5) 32 ≡ true
low_bits w = let l : bits w 0 5 < 32 = omega arith in grind (arith, nat_tests)

jmp_small : (c : Condition) (w : ℕ) → IsSmallAct (Jmp c (bits w 0 5))
jmp_small c w = record { small = low_bits w }

wait_small : (p : Bool) (m : WaitSource) (n : ℕ) → IsSmallAct (Wait p m n)
wait_small p m n = record { small = tt }

in_small : (m : InSource) (n : ℕ) → IsSmallAct (In m n)
in_small m n = record { small = tt }

out_small : (d : OutDestination) (n : ℕ) → IsSmallAct (Out d n)
out_small d n = record { small = tt }

push_small : (p q : Bool) → IsSmallAct (Push p q)
push_small p q = record { small = tt }

pull_small : (p q : Bool) → IsSmallAct (Pull p q)
pull_small p q = record { small = tt }

irq_small : (p q : Bool) (n : ℕ) → IsSmallAct (Irq p q n)
irq_small p q n = record { small = tt }

set_small : (d : SetDestination) (w : ℕ) → IsSmallAct (Set d (bits w 0 5))
set_small d w = record { small = low_bits w }

nothing_small : IsSmallAct Nothing
nothing_small = record { small = tt }

small_wait : (w : ℕ) → IsSmallAct (wait_at w)
unfolding wait_at
small_wait w = search (rules, either, wait_small, nothing_small)

small_in : (w : ℕ) → IsSmallAct (in_at w)
unfolding in_at
small_in w = search (rules, either, in_small, nothing_small)

small_push : (w : ℕ) → IsSmallAct (push_or_pull_at w)
unfolding push_or_pull_at
small_push w = search (rules, either, push_small, pull_small, nothing_small)

small_with : (d : Option MovDestination) (o : Option MovOperation) (s : Option MovSource) → IsSmallAct (mov_with d o s)
small_with (Some d) (Some o) (Some s) = record { small = tt }
small_with (Some d) (Some o) None = record { small = tt }
small_with (Some d) None s = record { small = tt }
small_with None o s = record { small = tt }

small_mov : (w : ℕ) → IsSmallAct (mov_at w)
unfolding mov_at
small_mov w = small_with (mov_destination_at (bits w 5 3)) (mov_operation_at (bits w 3 2)) (mov_source_at (bits w 0 3))

small_irq : (w : ℕ) → IsSmallAct (irq_at w)
unfolding irq_at
small_irq w = search (rules, either, irq_small, nothing_small)

small_set : (w : ℕ) → IsSmallAct (set_at w)
unfolding set_at
small_set w = search (rules, either, set_small, nothing_small)

small_act : (w : ℕ) → IsSmallAct (act_of w)
unfolding act_of
small_act w = search (rules, either, jmp_small, small_wait, small_in, out_small, small_push, small_mov, small_irq, small_set)

-- where the program goes on at f, it goes on in the memory after the outcome
abbrev IsFine : ℕ → ContextOutcome → Type 0
IsFine f o = nat_lt (address_after o.jump f) 32 ≡ true

abbrev AllFine : ℕ → List ContextOutcome → Type 0
AllFine f [] = Unit {0}
AllFine f (o ∷ os) = IsFine f o × AllFine f os

module _ (s : MachineSetup) (sp : Span) (k : Context) (f : ℕ) (low : nat_lt f 32 ≡ true) where
  fine_pins : (ls : List (Option Bool × Option Bool)) → AllFine f (map (λ l. record (nothing_done k) { from = l.0; to = l.1 }) ls)
  fine_pins [] = tt
  fine_pins (l ∷ ls) = (low, fine_pins ls)

  no_jump : (c : Condition) → (after_count c k).jump ≡ None
  no_jump condition.Always = refl
  no_jump condition.XZero = refl
  no_jump condition.XDecrement = refl
  no_jump condition.YZero = refl
  no_jump condition.YDecrement = refl
  no_jump condition.XNotY = refl
  no_jump condition.Pin = refl
  no_jump condition.OsrNotEmpty = refl

  fine_ways : (t : Option Bool) (a : ℕ) (o : ContextOutcome) → nat_lt a 32 ≡ true → o.jump ≡ None → AllFine f (ways t a o)
  fine_ways (Some true) a o h r = (h, tt)
  fine_ways (Some false) a o h r = (rw r low, tt)
  fine_ways None a o h r = (h, (rw r low, tt))

  fine_outcomes : (act : Act) → SmallAct act → AllFine f (outcomes act s sp k)
  unfolding outcomes
  fine_outcomes (Jmp c address) h = fine_ways (taken c k) address (after_count c k) h (no_jump c)
  fine_outcomes (Wait polarity source index) h = (low, tt)
  fine_outcomes (In source count) h = (low, tt)
  fine_outcomes (Out out_destination.Pins count) h = fine_pins (unknown_levels Level s.out sp)
  fine_outcomes (Out out_destination.X count) h = (low, tt)
  fine_outcomes (Out out_destination.Y count) h = (low, tt)
  fine_outcomes (Out out_destination.Null count) h = (low, tt)
  fine_outcomes (Out out_destination.Pindirs count) h = fine_pins (unknown_levels Direction s.out sp)
  fine_outcomes (Out out_destination.Pc count) h = tt
  fine_outcomes (Out out_destination.Isr count) h = (low, tt)
  fine_outcomes (Out out_destination.Exec count) h = tt
  fine_outcomes (Push if_full block) h = (low, tt)
  fine_outcomes (Pull if_empty block) h = (low, tt)
  fine_outcomes (Mov mov_destination.Pins operation source) h = fine_pins (unknown_levels Level s.out sp)
  fine_outcomes (Mov mov_destination.X operation source) h = (low, tt)
  fine_outcomes (Mov mov_destination.Y operation source) h = (low, tt)
  fine_outcomes (Mov mov_destination.Exec operation source) h = tt
  fine_outcomes (Mov mov_destination.Pc operation source) h = tt
  fine_outcomes (Mov mov_destination.Isr operation source) h = (low, tt)
  fine_outcomes (Mov mov_destination.Osr operation source) h = (low, tt)
  fine_outcomes (Irq clear waits index) h = (low, tt)
  fine_outcomes (Set set_destination.Pins value) h = (low, tt)
  fine_outcomes (Set set_destination.X value) h = (low, tt)
  fine_outcomes (Set set_destination.Y value) h = (low, tt)
  fine_outcomes (Set set_destination.Pindirs value) h = (low, tt)
  fine_outcomes Nothing h = (low, tt)

-- what two ranges have in common goes no further than both
most_meet : (r s : Option Range) → most_in (meet r s) ≤ max (most_in r) (most_in s)
most_meet None s = omega arith
most_meet (Some r) None = omega arith
most_meet (Some r) (Some s) = omega arith

range_x : (address : ℕ) (found : Option Range × Option Range) (m : ℕ) (items : List Assumption) → most_in found.0 ≤ m → most_in (with_assumptions address found items).0 ≤ raised_x m items
unfolding with_assumptions raised_x
range_x address found m [] h = h
range_x address found m (a ∷ items) h = range_x address (with_assumption address found a) (max m (most_in a.x)) items (one (a.address == address)) where
  one : (z : Bool) → most_in (cond z (meet found.0 a.x, meet found.1 a.y) found).0 ≤ max m (most_in a.x)
  one true = omega (arith, h, most_meet found.0 a.x)
  one false = omega (arith, h)

range_y : (address : ℕ) (found : Option Range × Option Range) (m : ℕ) (items : List Assumption) → most_in found.1 ≤ m → most_in (with_assumptions address found items).1 ≤ raised_y m items
unfolding with_assumptions raised_y
range_y address found m [] h = h
range_y address found m (a ∷ items) h = range_y address (with_assumption address found a) (max m (most_in a.y)) items (one (a.address == address)) where
  one : (z : Bool) → most_in (cond z (meet found.0 a.x, meet found.1 a.y) found).1 ≤ max m (most_in a.y)
  one true = omega (arith, h, most_meet found.1 a.y)
  one false = omega (arith, h)

-- no range goes further than its register is followed
abbrev AreFollowed : Narrowing → Type 0
AreFollowed w = (most_in w.x ≤ w.follow.x) × (most_in w.y ≤ w.follow.y)

are_followed : (sp : Span) (address : ℕ) → AreFollowed (narrowing_after sp address)
unfolding narrowing_after follow_of
are_followed sp address =
    (omega (arith, range_x address (None, None) 0 sp.assume (omega arith)), omega (arith, range_y address (None, None) 0 sp.assume (omega arith)))

-- all are followed so far
abbrev AllSmall : ℕ → List (Option ℕ) → Type 0
AllSmall most [] = Unit {0}
AllSmall most (x ∷ xs) = (is_small most x ≡ true) × AllSmall most xs

small_numbers : (most lo n : ℕ) → (0 < n → lo + n ≤ most + 1) → AllSmall most (map Some (range_with_len lo n))
small_numbers most lo zero h = tt
small_numbers most lo (suc n) h =
    let all : lo + suc n ≤ most + 1 = h (omega arith) in
    (let l : lo ≤ most = omega (arith, all) in grind (arith, nat_tests), small_numbers most (lo + 1) n (λ p. omega (arith, all)))

kept_small : (limit : ℕ) (r : Option Range) (known : Option ℕ) → most_in r ≤ limit → AllSmall limit (kept r (held limit r known))
kept_small limit None None h = (refl, tt)
kept_small limit None (Some n) h = on (nat_le n limit) refl where
  on : (z : Bool) → nat_le n limit ≡ z → AllSmall limit (cond z (Some n) None ∷ [])
  on true e = (e, tt)
  on false e = (refl, tt)
kept_small limit (Some r) None h = small_numbers limit r.lo (r.hi + 1 - r.lo) (λ p. omega (arith, p, h))
kept_small limit (Some r) (Some n) h = on (nat_le r.lo n && nat_le n r.hi) refl where
  on : (z : Bool) → (nat_le r.lo n && nat_le n r.hi) ≡ z → AllSmall limit (cond z (Some n ∷ []) [])
  on true e = let l : n ≤ r.hi = leb-true n r.hi (and_parts (nat_le r.lo n) (nat_le n r.hi) e).1 in (let m : n ≤ limit = omega (arith, l, h) in grind (arith, nat_tests), tt)
  on false e = tt

-- the end of a course goes on in the memory, and what may be known after it is followed so far
abbrev IsHeld : Narrowing → Next → Type 0
IsHeld w n = (nat_lt n.context.address 32 ≡ true) × (AllSmall w.follow.x (kept w.x n.context.x) × AllSmall w.follow.y (kept w.y n.context.y))

abbrev AllHeld : Narrowing → List Next → Type 0
AllHeld w [] = Unit {0}
AllHeld w (n ∷ ns) = IsHeld w n × AllHeld w ns

held_push : (w : Narrowing) (ns : List Next) (n : Next) → AllHeld w ns → IsHeld w n → AllHeld w (ns ++ n ∷ [])
held_push w [] n h p = (p, tt)
held_push w (m ∷ ms) n h p = (h.0, held_push w ms n h.1 p)

held_end : (v : Visit) (w : Narrowing) (o : ContextOutcome) (ends : List Next) (x : Watch) → AreFollowed w → IsFine v.following o → AllHeld w ends → AllHeld w (ends ++ end_after v (with_held w o) x ∷ [])
held_end v w o ends x r p h = held_push w ends (end_after v (with_held w o) x) h (p, (kept_small w.follow.x w.x o.x r.0, kept_small w.follow.y w.y o.y r.1))

-- what is found of a row
record Good (w : Narrowing) (t : Stepped) : Type 0 where
  narrowing : t.narrowing ≡ w
  ends : AllHeld t.narrowing t.ends

held_outcome : (v : Visit) (w : Narrowing) (found : Stepped) (o : ContextOutcome) → AreFollowed w → IsFine v.following o → Good w found → Good w (with_outcome v found o)
unfolding with_outcome courses with_end
held_outcome v w found o r p h = by v.stalls where
  q : AreFollowed found.narrowing
  q = rw h.narrowing r

  first : Watch
  first = end_of v (prompt v.side o v.delay)

  by : (z : Bool) → Good w (fold (λ t ticks. with_end v (with_held found.narrowing o) t (end_of v ticks)) found (courses z v.side o v.delay))
  by true = record { narrowing = h.narrowing; ends = held_end v found.narrowing o (found.ends ++ end_after v (with_held found.narrowing o) first ∷ []) (end_of v (delayed v.side o v.delay)) q p (held_end v found.narrowing o found.ends first q p h.ends) }
  by false = record { narrowing = h.narrowing; ends = held_end v found.narrowing o found.ends first q p h.ends }

held_all : (v : Visit) (w : Narrowing) (found : Stepped) (os : List ContextOutcome) → AreFollowed w → AllFine v.following os → Good w found → Good w (fold (with_outcome v) found os)
held_all v w found [] r f h = h
held_all v w found (o ∷ os) r f h = held_all v w (with_outcome v found o) os r f.1 (held_outcome v w found o r f.0 h)

placed_append : (f : Follow) (ms ns : List Next) → AllPlaced f ms → AllPlaced f ns → AllPlaced f (ms ++ ns)
placed_append f [] ns h p = p
placed_append f (m ∷ ms) ns h p = (h.0, placed_append f ms ns h.1 p)

placed_by : (f : Follow) (a : ℕ) (x y : Option ℕ) → nat_lt a 32 ≡ true → is_small f.x x ≡ true → is_small f.y y ≡ true → is_placed f a x y ≡ true
placed_by f a x y h k l = rw (h, k, l) refl

placed_pairs : (f : Follow) (n : Next) (xs ys : List (Option ℕ)) → nat_lt n.context.address 32 ≡ true → AllSmall f.x xs → AllSmall f.y ys → AllPlaced f (flat_map (λ x. map (λ y. knowing n x y) ys) xs)
placed_pairs f n [] ys l h k = tt
placed_pairs f n (x ∷ xs) ys l h k = placed_append f _ _ (row ys k) (placed_pairs f n xs ys l h.1 k) where
  row : (ys : List (Option ℕ)) → AllSmall f.y ys → AllPlaced f (map (λ y. knowing n x y) ys)
  row [] k = tt
  row (y ∷ ys) k = (placed_by f n.context.address x y l h.0 k.0, row ys k.1)

placed_narrowed : (w : Narrowing) (n : Next) → IsHeld w n → AllPlaced w.follow (narrowed w n)
unfolding narrowed
placed_narrowed w n h = placed_pairs w.follow n (kept w.x n.context.x) (kept w.y n.context.y) h.0 h.1.0 h.1.1

placed_all : (w : Narrowing) (ends : List Next) → AllHeld w ends → AllPlaced w.follow (all_narrowed w ends)
placed_all w [] h = tt
placed_all w (n ∷ ends) h = placed_append w.follow (narrowed w n) (all_narrowed w ends) (placed_narrowed w n h.0) (placed_all w ends h.1)

placed_good : (w : Narrowing) (t : Stepped) → Good w t → AllPlaced w.follow (nexts_of t)
unfolding nexts_of
placed_good w t h = subst (λ (v : Narrowing). AllPlaced v.follow (all_narrowed t.narrowing t.ends)) h.narrowing (placed_all t.narrowing t.ends h.ends)

following_small : (s : MachineSetup) (a : ℕ) → nat_lt (next_address s a) 32 ≡ true
following_small s a = on (a == s.wrap_top) where
  on : (z : Bool) → nat_lt (if z then s.wrap_bottom else (a + 1) % 32) 32 ≡ true
  on true = let l : s.wrap_bottom < 32 = s.wrap_bottom_in_memory in grind (arith, nat_tests)
  on false = let l : (a + 1) % 32 < 32 = omega arith in grind (arith, nat_tests)

placed_step : (s : MachineSetup) (sp : Span) (op : Op) (k : Context) (a : Ages) → SmallAct op.act → Good (narrowing_after sp k.address) (step_by s sp op k a)
unfolding step_by visit_of
placed_step s sp op k a h = on (is_lost s op) where
  w : Narrowing
  w = narrowing_after sp k.address

  found : Good w (fold (with_outcome (visit_of s sp op k a)) (nothing_found w) (outcomes op.act s sp k))
  found = held_all (visit_of s sp op k a) w (nothing_found w) (outcomes op.act s sp k) (are_followed sp k.address) (fine_outcomes s sp k (next_address s k.address) (following_small s k.address) op.act h) (record { narrowing = refl; ends = tt })

  on : (z : Bool) → Good w (cond z (wild_step w) (with_unmet (fold (with_outcome (visit_of s sp op k a)) (nothing_found w) (outcomes op.act s sp k))))
  on true = record { narrowing = refl; ends = tt }
  on false = record { narrowing = found.narrowing; ends = found.ends }

follow_is : (sp : Span) (address : ℕ) → (narrowing_after sp address).follow ≡ followed sp
unfolding narrowing_after
follow_is sp address = refl

pub AllPlaced-context_steps : (u : Setup) (sp : Span) (k : Context) (a : Ages) → nat_lt k.address 32 ≡ true → AllPlaced (followed sp) (nexts_of (context_steps u sp k a))
unfolding context_steps reading_of
AllPlaced-context_steps u sp k a h = subst (λ f. AllPlaced f (nexts_of (context_steps u sp k a))) (follow_is sp k.address) (placed_good (narrowing_after sp k.address) _ (on _)) where
  on : (m : Option MachineSetup) → Good (narrowing_after sp k.address) (machine_steps m u.memory sp k a)
  on None = record { narrowing = refl; ends = tt }
  on (Some s) = placed_step s sp _ k a (small_act _).small
