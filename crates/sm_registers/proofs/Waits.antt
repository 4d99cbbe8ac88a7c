-- What stalls, what is shifted in and what is written by side-set, in first and in late ticks.
use Rattle.std.proofs.Common.{◌≡◌, ℕ, ◌+◌, ◌^◌, ◌<◌, nat_le, min, Bool, true, false, cond, ◌&&◌, Option, Some, None, slice_index_or, refl, sym, ap, ◌∙◌, inl, inr, arith}
use Rattle.std.proofs.lemmas.Bool.{cases_lt}
use Rattle.pio_encode.specs.declared.act.Act.TheVariants.{In, Irq}
use Rattle.pio_encode.specs.declared.act.InSource.{InSource}
use Rattle.pio_encode.specs.declared.op.Op.{Op}
use Rattle.pio_encode.specs.Word.{reading_of}
use Rattle.irq_flags.specs.Flags.{flag_of}
use Rattle.shift_engine.specs.Shift.{shifted_in}
use Rattle.pin_matrix.specs.Pins.{writes_of}
use Rattle.pin_matrix.specs.declared.machine.MachineSetup.{MachineSetup}
use Rattle.sm_registers.specs.declared.registers.Registers.{Registers}
use Rattle.sm_registers.specs.View.{View}
use Rattle.sm_registers.specs.declared.intent.Intent.{Intent}
use Rattle.sm_registers.specs.Queues.{Queues}
use Rattle.sm_registers.specs.Rules.{current_act, HasSideSet, HoldsOrGives}
use Rattle.sm_registers.specs.Effects.{Effect, finished, stall, is_up, in_word, with_bits_in, in_effect, autopushed, irq_effect, effect_of}
use Rattle.sm_registers.specs.Tick.{current_word, side_writes, tick_delay, tick_by, tick_of}
use Rattle.sm_registers.proofs.Taken.{after_keeps}
use Rattle.sm_registers.proofs.Ticks.{op_now, effect_now, in_delay, at_rest, stalled_is, sets_is, word_is, rest_by}

-- side-set in a tick of a delay
pub side_delayed : (s : MachineSetup) (v : View) (q : Queues) (r : Registers) → 0 < r.delay → HasSideSet (tick_of s v q r).1 (0, 0) (0, 0)
unfolding tick_delay
side_delayed s v q r h = record {
  level = ap (λ x. slice_index_or x.1.level 1 (0, 0)) (in_delay s v q r h);
  direction = ap (λ x. slice_index_or x.1.direction 1 (0, 0)) (in_delay s v q r h);
}

-- side-set in a tick of an instruction
side_at_rest :
    (s : MachineSetup) (v : View) (q : Queues) (r : Registers) (w : ℕ × ℕ) → r.delay ≡ 0 → side_writes (op_now s v r).side r.begun s ≡ w
    → HasSideSet (tick_of s v q r).1 (cond s.side_rule.pindirs (0, 0) w) (cond s.side_rule.pindirs w (0, 0))
unfolding tick_by
side_at_rest s v q r w left h = record {
  level = ap (λ x. slice_index_or x.1.level 1 (0, 0)) (at_rest s v q r left) ∙ ap (λ w. cond s.side_rule.pindirs (0, 0) w) h;
  direction = ap (λ x. slice_index_or x.1.direction 1 (0, 0)) (at_rest s v q r left) ∙ ap (λ w. cond s.side_rule.pindirs w (0, 0)) h;
}

side_of_first : (side : Option ℕ) (begun : Bool) (s : MachineSetup) (value : ℕ) → begun ≡ false → side ≡ Some value → side_writes side begun s ≡ writes_of s.side value
side_of_first side begun s value h k = rw (k, h) refl

pub side_first :
    (s : MachineSetup) (v : View) (q : Queues) (r : Registers) (value : ℕ) → r.begun ≡ false → r.delay ≡ 0
    → (reading_of (current_word v r) s.side_rule).side ≡ Some value
    → HasSideSet (tick_of s v q r).1 (cond s.side_rule.pindirs (0, 0) (writes_of s.side value)) (cond s.side_rule.pindirs (writes_of s.side value) (0, 0))
side_first s v q r value first left h =
    side_at_rest s v q r (writes_of s.side value) left (side_of_first (op_now s v r).side r.begun s value first h)

no_side : (side : Option ℕ) (begun : Bool) (s : MachineSetup) → begun ≡ true → side_writes side begun s ≡ (0, 0)
no_side None begun s h = refl
no_side (Some value) true s h = refl
no_side (Some value) false s h = cc

none_either : (b : Bool) (i : Intent) → HasSideSet i (cond b (0, 0) (0, 0)) (cond b (0, 0) (0, 0)) → HasSideSet i (0, 0) (0, 0)
none_either true i h = record { level = h.level; direction = h.direction }
none_either false i h = record { level = h.level; direction = h.direction }

pub side_begun : (s : MachineSetup) (v : View) (q : Queues) (r : Registers) → r.begun ≡ true → HasSideSet (tick_of s v q r).1 (0, 0) (0, 0)
side_begun s v q r begun =
    elim (cases_lt 0 r.delay) [
      | inl more ↦ side_delayed s v q r more
      | inr none ↦
          let left : r.delay ≡ 0 = omega arith in
          none_either s.side_rule.pindirs _ (side_at_rest s v q r (0, 0) left (no_side (op_now s v r).side r.begun s begun))
    ]

-- an IRQ that waits
irq_now :
    (s : MachineSetup) (v : View) (q : Queues) (r : Registers) (clear waits : Bool) (index : ℕ) → current_act v r ≡ Irq clear waits index
    → effect_now s v q r ≡ irq_effect clear waits index s v r
unfolding effect_of
irq_now s v q r clear waits index is = ap (λ a. effect_of a s v q r) is

pub irq_first :
    (s : MachineSetup) (v : View) (q : Queues) (r : Registers) (index : ℕ) → current_act v r ≡ Irq false true index → r.delay ≡ 0
    → r.begun ≡ false → ((tick_of s v q r).1.stalled ≡ true) × ((tick_of s v q r).1.sets ≡ 2 ^ flag_of index s.id)
unfolding irq_effect
irq_first s v q r index is left first =
    let same = irq_now s v q r false true index is in
    let here : irq_effect false true index s v r ≡ record (stall r) { sets = 2 ^ flag_of index s.id } = rw first refl in (
      stalled_is s v q r left ∙ ap (λ e. e.stalled) same ∙ ap (λ e. e.stalled) here,
      sets_is s v q r left ∙ ap (λ e. e.sets) same ∙ ap (λ e. e.sets) here,
    )

stalls_while : (b : Bool) (r : Registers) → (cond b (stall r) (finished r)).stalled ≡ b
stalls_while true r = refl
stalls_while false r = refl

raises_none : (b : Bool) (r : Registers) → (cond b (stall r) (finished r)).sets ≡ 0
raises_none true r = refl
raises_none false r = refl

pub irq_late :
    (s : MachineSetup) (v : View) (q : Queues) (r : Registers) (index : ℕ) → current_act v r ≡ Irq false true index → r.delay ≡ 0
    → r.begun ≡ true
    → ((tick_of s v q r).1.stalled ≡ is_up v.flags.up (flag_of index s.id)) × ((tick_of s v q r).1.sets ≡ 0)
unfolding irq_effect
irq_late s v q r index is left begun =
    let same = irq_now s v q r false true index is in
    let up : Bool = is_up v.flags.up (flag_of index s.id) in
    let here : irq_effect false true index s v r ≡ cond up (stall r) (finished r) = rw begun refl in (
      stalled_is s v q r left ∙ ap (λ e. e.stalled) same ∙ ap (λ e. e.stalled) here ∙ stalls_while up r,
      sets_is s v q r left ∙ ap (λ e. e.sets) same ∙ ap (λ e. e.sets) here ∙ raises_none up r,
    )

pub irq_clear :
    (s : MachineSetup) (v : View) (q : Queues) (r : Registers) (waits : Bool) (index : ℕ) → current_act v r ≡ Irq true waits index
    → r.delay ≡ 0 → (tick_of s v q r).1.stalled ≡ false
unfolding irq_effect
irq_clear s v q r waits index is left =
    stalled_is s v q r left ∙ ap (λ e. e.stalled) (irq_now s v q r true waits index is)

-- an effect that leaves the ISR with these bits, or gives them and empties it
record GivesBits (isr count : ℕ) (e : Effect) : Type 0 where
  held : e.word ≡ None → (e.registers.isr ≡ isr) × (e.registers.in_count ≡ count)
  given : (w : ℕ) → e.word ≡ Some w → (w ≡ isr) × ((e.registers.isr ≡ 0) × (e.registers.in_count ≡ 0))

gives_if : (isr count : ℕ) (b : Bool) (x y : Effect) → GivesBits isr count x → GivesBits isr count y → GivesBits isr count (cond b x y)
gives_if isr count true x y h k = h
gives_if isr count false x y h k = k

gives_none : (isr count : ℕ) (e : Effect) → e.word ≡ None → e.registers.isr ≡ isr → e.registers.in_count ≡ count → GivesBits isr count e
gives_none isr count e h k l = record { held = λ t. (k, l); given = λ w t. cc }

same_word : (a w : ℕ) → Some a ≡ Some w → w ≡ a
same_word a w h = cc

gives_all : (isr count : ℕ) (e : Effect) → e.word ≡ Some isr → e.registers.isr ≡ 0 → e.registers.in_count ≡ 0 → GivesBits isr count e
gives_all isr count e h k l = record { held = λ t. cc; given = λ w t. (same_word isr w (sym h ∙ t), (k, l)) }

gives_autopushed : (s : MachineSetup) (q : Queues) (r : Registers) → GivesBits r.isr r.in_count (autopushed s q r)
gives_autopushed s q r =
    gives_if _ _ (s.autopush && nat_le s.push_threshold r.in_count) _ _
    (gives_if _ _ q.rx_full _ _ (gives_none _ _ _ refl refl refl) (gives_all _ _ _ refl refl refl))
    (gives_none _ _ _ refl refl refl)

-- the ISR after the tick is the effect's
isr_is : (s : MachineSetup) (v : View) (q : Queues) (r : Registers) → r.delay ≡ 0 → (tick_of s v q r).0.isr ≡ (effect_now s v q r).registers.isr
isr_is s v q r left =
    let op : Op = op_now s v r in
    let e : Effect = effect_now s v q r in
    ap (λ x. x.0.isr) (at_rest s v q r left) ∙ (rest_by op s q r e).isr ∙ (after_keeps op.delay s r e).isr

in_count_is : (s : MachineSetup) (v : View) (q : Queues) (r : Registers) → r.delay ≡ 0 → (tick_of s v q r).0.in_count ≡ (effect_now s v q r).registers.in_count
in_count_is s v q r left =
    let op : Op = op_now s v r in
    let e : Effect = effect_now s v q r in
    ap (λ x. x.0.in_count) (at_rest s v q r left) ∙ (rest_by op s q r e).in_count ∙ (after_keeps op.delay s r e).in_count

holds_or_gives :
    (s : MachineSetup) (v : View) (q : Queues) (r : Registers) (isr count : ℕ) → r.delay ≡ 0 → GivesBits isr count (effect_now s v q r)
    → HoldsOrGives isr count (tick_of s v q r)
holds_or_gives s v q r isr count left h =
    let word = word_is s v q r left in
    let bits = isr_is s v q r left in
    let counted = in_count_is s v q r left in
    record {
      held = λ t. let k = h.held (sym word ∙ t) in (bits ∙ k.0, counted ∙ k.1);
      given = λ w t. let k = h.given w (sym word ∙ t) in (k.0, (bits ∙ k.1.0, counted ∙ k.1.1));
    }

in_now :
    (s : MachineSetup) (v : View) (q : Queues) (r x : Registers) (source : InSource) (n : ℕ) → current_act v r ≡ In source n
    → cond r.begun r (with_bits_in (in_word source s v r) n s r) ≡ x → effect_now s v q r ≡ autopushed s q x
unfolding effect_of in_effect
in_now s v q r x source n is h = ap (λ a. effect_of a s v q r) is ∙ ap (λ y. autopushed s q y) h

pub in_late :
    (s : MachineSetup) (v : View) (q : Queues) (r : Registers) (source : InSource) (n : ℕ) → current_act v r ≡ In source n → r.delay ≡ 0
    → r.begun ≡ true → HoldsOrGives r.isr r.in_count (tick_of s v q r)
in_late s v q r source n is left begun =
    let same = in_now s v q r r source n is (ap (λ b. cond b r (with_bits_in (in_word source s v r) n s r)) begun) in
    holds_or_gives s v q r r.isr r.in_count left (rw same (gives_autopushed s q r))

pub in_first :
    (s : MachineSetup) (v : View) (q : Queues) (r : Registers) (source : InSource) (n : ℕ) → current_act v r ≡ In source n → r.delay ≡ 0
    → r.begun ≡ false
    → HoldsOrGives (shifted_in r.isr (in_word source s v r) n s.in_right) (min 32 (r.in_count + n)) (tick_of s v q r)
in_first s v q r source n is left first =
    let x : Registers = with_bits_in (in_word source s v r) n s r in
    let same = in_now s v q r x source n is (ap (λ b. cond b r x) first) in
    holds_or_gives s v q r x.isr x.in_count left (rw same (gives_autopushed s q x))
