-- Two runs that are the same to a machine which is alone in both stay so, clock by clock.
use Rattle.std.proofs.Common.{◌≡◌, ◌∙◌, ℕ, ◌^◌, ◌<◌, ◌==◌, true, cond, Option, Some, List, [], ◌∷◌, sym, ap}
use Rattle.std.specs.Int.{bit_at}
use Rattle.pin_matrix.specs.Pads.{seen_of}
use Rattle.pin_matrix.specs.Pins.{IsWrite, written, merged, last_of}
use Rattle.sm_registers.specs.declared.registers.Registers.{Registers}
use Rattle.sm_registers.specs.declared.intent.Intent.{Intent}
use Rattle.sm_registers.specs.Intents.{no_intent}
use Rattle.sm_registers.specs.View.{View}
use Rattle.sm_registers.specs.State.{queues_of}
use Rattle.dreq_pacing.specs.declared.due.Due.{Due}
use Rattle.dreq_pacing.specs.declared.line.Line.{Line}
use Rattle.dreq_pacing.specs.Lines.{IsSchedule, lines_in}
use Rattle.dreq_pacing.specs.Runs.{last_level, is_set, level_bit}
use Rattle.block_core.specs.Slots.{Slot, lined, has_tick, acted, settled_slot, place_after, place_intent}
use Rattle.block_core.specs.Block.{BlockState, outside_after, pads_in}
use Rattle.block_core.specs.Hosted.{Hosted, due_of}
use Rattle.block_core.specs.Shown.{requests_of}
use Rattle.block_shares.specs.declared.touched.Touches.{Touches}
use Rattle.block_shares.specs.Acts.{has}
use Rattle.block_shares.specs.Shares.{touched_by, own_pins, own_flags}
use Rattle.block_isolation.specs.Isolation.{AgreeOn, IsSameTo, own_lines}
use Rattle.block_isolation.proofs.Bits.{bits_same, has_same, has_or_left}
use Rattle.block_isolation.proofs.Dues.{SameDue, paced_at, says_lines}
use Rattle.block_isolation.proofs.Feeling.{SeemsSame, tick_same}
use Rattle.block_isolation.proofs.Homes.{IsHome}
use Rattle.block_isolation.proofs.Lining.{both_levels, clock_lines}
use Rattle.block_isolation.proofs.Places.{HomeSlot}
use Rattle.block_isolation.proofs.Premises.{TickLaws, PinLaws, LineLaws}
use Rattle.block_isolation.proofs.Running.{due_write}

-- One clock of the machine itself.

enabled_same : (d e : Due) (x : Slot) → SameDue x.machine.setup.id d e → lined d x ≡ lined e x
enabled_same d e x h = let a = h.enable in let b = h.disable in let c = h.restart in cc

settled_same : (d e : Due) (a : Registers × Intent) (x : Slot) → SameDue x.machine.setup.id d e → settled_slot d a x ≡ settled_slot e a x
unfolding settled_slot
settled_same d e a x h = let w = h.word in let r = h.read in let p = h.word_paced in let q = h.read_paced in cc

acted_same : TickLaws → PinLaws → (memory : List ℕ) (v w : View) (x : Slot) → v.memory ≡ memory → IsHome memory x.machine.setup x.machine.registers → SeemsSame (touched_by memory x.machine.setup) v w → acted v x ≡ acted w x
unfolding acted
acted_same ticks pins memory v w x same home seems =
    ap (λ (t : Registers × Intent). cond (has_tick x) t (x.machine.registers, no_intent))
    (tick_same ticks pins memory x.machine.setup v w (queues_of x.machine.ports.fifos) x.machine.registers same home seems)

pub record SlotSame (v w : View) (d e : Due) (o : Option Slot) : Type 0 where
  pub after : place_after v d o ≡ place_after w e o
  pub intent : place_intent v d o ≡ place_intent w e o

pub slot_same : TickLaws → PinLaws → (memory : List ℕ) (v w : View) (d e : Due) (x : Slot) → v.memory ≡ memory → HomeSlot memory x → SeemsSame (touched_by memory x.machine.setup) v w → SameDue x.machine.setup.id d e → SlotSame v w d e (Some x)
slot_same ticks pins memory v w d e x same home seems due =
    let act : acted v (lined d x) ≡ acted w (lined d x) = acted_same ticks pins memory v w (lined d x) same home.home seems in
    let line : lined d x ≡ lined e x = enabled_same d e x due in
    record {
      after = ap Some (ap (λ (a : Registers × Intent). settled_slot d a (lined d x)) act
          ∙ (settled_same d e (acted w (lined d x)) (lined d x) due
          ∙ ap (λ (y : Slot). settled_slot e (acted w y) y) line));
      intent = ap (λ (a : Registers × Intent). a.1) act ∙ ap (λ (y : Slot). (acted w y).1) line;
    }

-- The pins that it reads.

-- two runs in a clock, the same to the machine
pub record IsSameIn (m : ℕ) (t : Touches) (h k : Hosted) : Type 0 where
  pub state : IsSameTo m t h.run.state k.run.state
  pub outside : AgreeOn 32 t.reads h.run.state.outside k.run.state.outside
  pub pad_1 : AgreeOn 32 t.reads h.run.synchroniser.pad_1 k.run.synchroniser.pad_1
  pub pad_2 : AgreeOn 32 t.reads h.run.synchroniser.pad_2 k.run.synchroniser.pad_2
  pub paced : paced_at m h.transfers ≡ paced_at m k.transfers

read_is_own : (t : Touches) (p : ℕ) → has t.reads p ≡ true → has (own_pins t) p ≡ true
read_is_own t p h = has_or_left t.reads t.writes p h

pub seen_is_own : (t : Touches) (f : ℕ) → has t.sees f ≡ true → has (own_flags t) f ≡ true
seen_is_own t f h = has_or_left t.sees t.changes f h

-- one write, pin by pin
written_bit : PinLaws → (old p : ℕ) (w : ℕ × ℕ) → p < 32 → IsWrite w → bit_at (written old w) p ≡ cond (bit_at w.0 p == 1) (bit_at w.1 p) (bit_at old p)
unfolding merged last_of
written_bit pins old p w inside write = pins.last p old (w ∷ []) inside (write, tt)

three : (a b c x y z : ℕ) → a ≡ x → b ≡ y → c ≡ z → cond (a == 1) b c ≡ cond (x == 1) y z
three a b c x y z p q r = cc

pins_bit : LineLaws → (lines : List Line) → IsSchedule lines → (h : Hosted) (p : ℕ) → p < 32 → bit_at (due_of lines h).pins p ≡ is_set (last_level p (lines_in h.run.clock lines))
pins_bit laws lines fine h p inside =
    ap (λ (x : ℕ). bit_at x p) (says_lines lines h.run.clock (requests_of h.run.state) h.transfers).pins
    ∙ laws.set (lines_in h.run.clock lines) p (clock_lines h.run.clock lines fine) inside

values_bit : LineLaws → (lines : List Line) → IsSchedule lines → (h : Hosted) (p : ℕ) → p < 32 → bit_at (due_of lines h).values p ≡ level_bit (last_level p (lines_in h.run.clock lines))
values_bit laws lines fine h p inside =
    ap (λ (x : ℕ). bit_at x p) (says_lines lines h.run.clock (requests_of h.run.state) h.transfers).values
    ∙ laws.level (lines_in h.run.clock lines) p (clock_lines h.run.clock lines fine) inside

-- two schedules with the same own lines
pub record AreLines (m reads : ℕ) (lines others : List Line) : Type 0 where
  pub fine : IsSchedule lines
  pub other : IsSchedule others
  pub own : own_lines m reads lines ≡ own_lines m reads others

level_same : (m reads p : ℕ) (lines others : List Line) (h k : Hosted) → AreLines m reads lines others → h.run.clock ≡ k.run.clock → has reads p ≡ true → last_level p (lines_in h.run.clock lines) ≡ last_level p (lines_in k.run.clock others)
level_same m reads p lines others h k are clock own =
    both_levels m reads p h.run.clock lines others own are.own ∙ ap (λ (c : ℕ). last_level p (lines_in c others)) clock

pub outside_same : PinLaws → LineLaws → (m : ℕ) (t : Touches) (lines others : List Line) (h k : Hosted) → AreLines m t.reads lines others → h.run.clock ≡ k.run.clock → AgreeOn 32 t.reads h.run.state.outside k.run.state.outside → AgreeOn 32 t.reads (outside_after (due_of lines h) h.run.state.outside) (outside_after (due_of others k) k.run.state.outside)
outside_same pins laws m t lines others h k are clock same p inside own =
    let d = due_of lines h in
    let e = due_of others k in
    let last = level_same m t.reads p lines others h k are clock own in
    let set : bit_at d.pins p ≡ bit_at e.pins p = pins_bit laws lines are.fine h p inside ∙ (ap is_set last ∙ sym (pins_bit laws others are.other k p inside)) in
    let value : bit_at d.values p ≡ bit_at e.values p = values_bit laws lines are.fine h p inside ∙ (ap level_bit last ∙ sym (values_bit laws others are.other k p inside)) in
    let old : bit_at h.run.state.outside p ≡ bit_at k.run.state.outside p = bits_same _ _ p (same p inside own) in
    has_same _ _ p
    (written_bit pins h.run.state.outside p (d.pins, d.values) inside (due_write laws lines are.fine h)
    ∙ (three (bit_at d.pins p) (bit_at d.values p) (bit_at h.run.state.outside p) (bit_at e.pins p) (bit_at e.values p) (bit_at k.run.state.outside p) set value old
    ∙ sym (written_bit pins k.run.state.outside p (e.pins, e.values) inside (due_write laws others are.other k))))

pub pads_same : PinLaws → (m : ℕ) (t : Touches) (d e : Due) (a b : BlockState) → a.directions < 2 ^ 32 → b.directions < 2 ^ 32 → IsSameTo m t a b → AgreeOn 32 t.reads (outside_after d a.outside) (outside_after e b.outside) → AgreeOn 32 t.reads (pads_in d a) (pads_in e b)
pads_same pins m t d e a b word other same outside p inside own =
    let mine = read_is_own t p own in
    has_same _ _ p
    (pins.pad a.levels a.directions (outside_after d a.outside) p word inside
    ∙ (three _ _ _ _ _ _ (bits_same _ _ p (same.directions p inside mine)) (bits_same _ _ p (same.levels p inside mine)) (bits_same _ _ p (outside p inside own))
    ∙ sym (pins.pad b.levels b.directions (outside_after e b.outside) p other inside)))

pub seen_same : PinLaws → (reads bypass other pad pad_2 x x_2 : ℕ) → bypass < 2 ^ 32 → other < 2 ^ 32 → AgreeOn 32 reads bypass other → AgreeOn 32 reads pad x → AgreeOn 32 reads pad_2 x_2 → AgreeOn 32 reads (seen_of bypass pad pad_2) (seen_of other x x_2)
seen_same pins reads bypass other pad pad_2 x x_2 word words by now late p inside own =
    has_same _ _ p
    (pins.seen bypass pad pad_2 p word inside
    ∙ (three _ _ _ _ _ _ (bits_same _ _ p (by p inside own)) (bits_same _ _ p (now p inside own)) (bits_same _ _ p (late p inside own))
    ∙ sym (pins.seen other x x_2 p words inside)))
