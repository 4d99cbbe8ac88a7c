-- Which words a tick takes from TX, and when it says that TX is empty.
use Rattle.std.proofs.Common.{◌≡◌, ℕ, ◌+◌, ◌-◌, ◌<◌, ◌≤◌, ◌==◌, nat_le, Bool, true, false, not, cond, ◌&&◌, ◌||◌, Option, Some, None, is_some, List, [], ◌∷◌, length, slice_get, refl, sym, ap, ◌∙◌, inl, inr, arith}
use Rattle.std.proofs.lemmas.Bool.{cases_lt, false≢true}
use Rattle.std.proofs.lemmas.Bool.Decides.{nat_tests}
use Rattle.pio_encode.specs.declared.op.Op.{Op}
use Rattle.fifo_pair.specs.Fifos.{Fifos}
use Rattle.pin_matrix.specs.declared.machine.MachineSetup.{MachineSetup}
use Rattle.sm_registers.specs.declared.registers.Registers.{Registers}
use Rattle.sm_registers.specs.View.{View}
use Rattle.sm_registers.specs.declared.sticky.TheConstants.{TX_STALL}
use Rattle.sm_registers.specs.Queues.{Queues}
use Rattle.sm_registers.specs.Rules.{current_act, fills_osr, is_pull, bits_out, waits_for_tx, raises}
use Rattle.sm_registers.specs.Effects.{Effect, effect_of}
use Rattle.sm_registers.specs.State.{queues_of}
use Rattle.sm_registers.specs.Tick.{after_effect, refills, refilled, osr_filled_from, tick_delay, tick_by, tick_of}
use Rattle.sm_registers.proofs.Ticks.{op_now, effect_now, in_delay, at_rest, stalled_is, sticky_is}
use Rattle.sm_registers.proofs.Taken.{after_keeps}
use Rattle.sm_registers.proofs.Effects.{does}

-- a refill leaves a count below the threshold
below_if :
    (a b : Bool) (front : Option ℕ) (r : Registers) (threshold : ℕ) → a ≡ true → is_some front ≡ true → 1 ≤ threshold
    → (b ≡ false → r.out_count < threshold) → (cond (a && b) (osr_filled_from front r) r).out_count < threshold
below_if true true (Some w) r threshold h k some below = some
below_if true true None r threshold h k some below = cc
below_if true false front r threshold h k some below = below refl
below_if false b front r threshold h k some below = cc

not_reached : (threshold count : ℕ) → nat_le threshold count ≡ false → count < threshold
not_reached threshold count h = grind (arith, nat_tests)

pub below_refilled : (s : MachineSetup) (q : Queues) (r : Registers) → s.autopull ≡ true → is_some q.front ≡ true → (refilled s q r).out_count < s.pull_threshold
below_refilled s q r h k =
    below_if s.autopull (nat_le s.pull_threshold r.out_count) q.front r s.pull_threshold h k s.pulls_some (not_reached s.pull_threshold r.out_count)

pub osr_is_filled :
    (s : MachineSetup) (v : View) (q : Queues) (r : Registers) → s.autopull ≡ true → is_some q.front ≡ true
    → (tick_of s v q r).0.out_count < s.pull_threshold
unfolding tick_delay tick_by
osr_is_filled s v q r h k =
    elim (cases_lt 0 r.delay) [
      | inl more ↦ rw (in_delay s v q r more) (below_refilled s q _ h k)
      | inr none ↦ let left : r.delay ≡ 0 = omega arith in rw (at_rest s v q r left) (below_refilled s q _ h k)
    ]

all_three : (a b c : Bool) → a ≡ true → b ≡ true → c ≡ true → ((a && b) && c) ≡ true
all_three a b c h k l = rw (h, k, l) refl

refill_due : (s : MachineSetup) (q : Queues) (r : Registers) → s.autopull ≡ true → is_some q.front ≡ true → s.pull_threshold ≤ r.out_count → refills s q r ≡ true
refill_due s q r h k l =
    let reached : nat_le s.pull_threshold r.out_count ≡ true = grind (arith, nat_tests) in
    all_three s.autopull (nat_le s.pull_threshold r.out_count) (is_some q.front) h reached k

or_else : (a b : Bool) → (a ≡ false → b ≡ true) → (a || b) ≡ true
or_else true b h = refl
or_else false b h = h refl

pub taken_in_delay :
    (s : MachineSetup) (v : View) (q : Queues) (r : Registers) → s.autopull ≡ true → is_some q.front ≡ true
    → s.pull_threshold ≤ r.out_count → 0 < r.delay → (tick_of s v q r).1.take ≡ true
unfolding tick_delay
taken_in_delay s v q r h k l more =
    ap (λ x. x.1.take) (in_delay s v q r more) ∙ refill_due s q (record r { delay = r.delay - 1 }) h k l

taken_at_rest :
    (s : MachineSetup) (v : View) (q : Queues) (r : Registers) → s.autopull ≡ true → is_some q.front ≡ true
    → s.pull_threshold ≤ r.out_count → fills_osr (current_act v r) ≡ false → r.delay ≡ 0 → (tick_of s v q r).1.take ≡ true
unfolding tick_by
taken_at_rest s v q r h k l other left =
    let op : Op = op_now s v r in
    let e : Effect = effect_now s v q r in
    let does = does (current_act v r) s v q r in
    ap (λ x. x.1.take) (at_rest s v q r left)
    ∙ or_else e.take (refills s q (after_effect op.delay s r e))
    (λ t. refill_due s q (after_effect op.delay s r e) h k (omega (arith, l, s.pulls_a_word, does.least k other t, (after_keeps op.delay s r e).out_count)))

pub word_is_taken :
    (s : MachineSetup) (v : View) (q : Queues) (r : Registers) → s.autopull ≡ true → is_some q.front ≡ true
    → s.pull_threshold ≤ r.out_count → fills_osr (current_act v r) ≡ false → (tick_of s v q r).1.take ≡ true
word_is_taken s v q r h k l other =
    elim (cases_lt 0 r.delay) [
      | inl more ↦ taken_in_delay s v q r h k l more
      | inr none ↦ let left : r.delay ≡ 0 = omega arith in taken_at_rest s v q r h k l other left
    ]

-- no refill follows a word that the instruction took
middle_fails : (a b c : Bool) → b ≡ false → ((a && b) && c) ≡ false
middle_fails true b c h = rw h refl
middle_fails false b c h = refl

pub taken_once :
    (s : MachineSetup) (v : View) (q : Queues) (r : Registers) (delay : ℕ) → (effect_of (current_act v r) s v q r).take ≡ true
    → refills s q (after_effect delay s r (effect_of (current_act v r) s v q r)) ≡ false
taken_once s v q r delay t =
    let e : Effect = effect_now s v q r in
    let empty : (after_effect delay s r e).out_count ≡ 0 = (after_keeps delay s r e).out_count ∙ (does (current_act v r) s v q r).full t in
    let some : 1 ≤ s.pull_threshold = s.pulls_some in
    let below : nat_le s.pull_threshold (after_effect delay s r e).out_count ≡ false = grind (arith, nat_tests) in
    middle_fails s.autopull _ (is_some q.front) below

first_of : (a b c : Bool) → ((a && b) && c) ≡ true → a ≡ true
first_of true b c h = refl
first_of false b c h = cc

second_of : (a b c : Bool) → ((a && b) && c) ≡ true → b ≡ true
second_of true true c h = refl
second_of true false c h = cc
second_of false b c h = cc

refill_reached : (s : MachineSetup) (q : Queues) (r : Registers) (most : ℕ) → r.out_count ≤ most → refills s q r ≡ true → (s.autopull ≡ true) × (s.pull_threshold ≤ most)
refill_reached s q r most h t =
    let reached : nat_le s.pull_threshold r.out_count ≡ true = second_of s.autopull (nat_le s.pull_threshold r.out_count) (is_some q.front) t in
    let low : s.pull_threshold ≤ r.out_count = grind (arith, nat_tests) in
    (first_of s.autopull (nat_le s.pull_threshold r.out_count) (is_some q.front) t, omega arith)

drops_false : (a b : Bool) → a ≡ false → (a || b) ≡ true → b ≡ true
drops_false true b h k = cc
drops_false false b h k = k

only_at_rest :
    (s : MachineSetup) (v : View) (q : Queues) (r : Registers) → is_pull (current_act v r) ≡ false → (tick_of s v q r).1.take ≡ true
    → r.delay ≡ 0 → (s.autopull ≡ true) × (s.pull_threshold ≤ r.out_count + bits_out (current_act v r))
unfolding tick_by
only_at_rest s v q r other t left =
    let op : Op = op_now s v r in
    let e : Effect = effect_now s v q r in
    let does = does (current_act v r) s v q r in
    let refill : refills s q (after_effect op.delay s r e) ≡ true =
    drops_false e.take (refills s q (after_effect op.delay s r e)) (does.pulls other) (sym (ap (λ x. x.1.take) (at_rest s v q r left)) ∙ t) in
    refill_reached s q (after_effect op.delay s r e) _ (omega (arith, does.most other, (after_keeps op.delay s r e).out_count)) refill

only_in_delay :
    (s : MachineSetup) (v : View) (q : Queues) (r : Registers) (n : ℕ) → (tick_of s v q r).1.take ≡ true → 0 < r.delay
    → (s.autopull ≡ true) × (s.pull_threshold ≤ r.out_count + n)
unfolding tick_delay
only_in_delay s v q r n t more =
    refill_reached s q (record r { delay = r.delay - 1 }) _ (omega arith) (sym (ap (λ x. x.1.take) (in_delay s v q r more)) ∙ t)

pub taken_only :
    (s : MachineSetup) (v : View) (q : Queues) (r : Registers) → is_pull (current_act v r) ≡ false → (tick_of s v q r).1.take ≡ true
    → (s.autopull ≡ true) × (s.pull_threshold ≤ r.out_count + bits_out (current_act v r))
taken_only s v q r other t =
    elim (cases_lt 0 r.delay) [
      | inl more ↦ only_in_delay s v q r _ t more
      | inr none ↦ let left : r.delay ≡ 0 = omega arith in only_at_rest s v q r other t left
    ]

-- TX is dry where it holds no word
dry_is_empty : (words : List ℕ) → (length words == 0 || not (is_some (slice_get words 0))) ≡ true → words ≡ []
dry_is_empty [] h = refl
dry_is_empty (w ∷ words) h = let some : (length (w ∷ words) == 0) ≡ false = grind (arith, nat_tests) in absurd (false≢true (sym (rw some refl) ∙ h))

pub told_only :
    (s : MachineSetup) (v : View) (f : Fifos) (r : Registers) → raises TX_STALL (tick_of s v (queues_of f) r).1.sticky ≡ true → f.tx ≡ []
unfolding tick_delay
told_only s v f r t =
    let q : Queues = queues_of f in
    elim (cases_lt 0 r.delay) [
      | inl more ↦
          let quiet : raises TX_STALL (tick_of s v q r).1.sticky ≡ false = ap (λ x. raises TX_STALL x.1.sticky) (in_delay s v q r more) in cc
      | inr none ↦
          let left : r.delay ≡ 0 = omega arith in
          dry_is_empty f.tx ((does (current_act v r) s v q r).told (sym (ap (λ c. raises TX_STALL c) (sticky_is s v q r left)) ∙ t))
    ]

pub told_rises :
    (s : MachineSetup) (v : View) (f : Fifos) (r : Registers) → waits_for_tx (current_act v r) ≡ true → r.delay ≡ 0
    → (tick_of s v (queues_of f) r).1.stalled ≡ true → f.tx ≡ [] → raises TX_STALL (tick_of s v (queues_of f) r).1.sticky ≡ true
told_rises s v f r waits left stalls empty =
    let q : Queues = queues_of f in
    ap (λ c. raises TX_STALL c) (sticky_is s v q r left)
    ∙ (does (current_act v r) s v q r).rises waits (sym (stalled_is s v q r left) ∙ stalls) (ap (λ words. length words) empty)
