-- What simple ticks do.
use Rattle.std.proofs.Common.{◌≡◌, ℕ, ◌-◌, ◌<◌, ◌==◌, nat_lt, Bool, true, false, not, ◌&&◌, cond, Option, Some, None, is_some, slice_index, refl, sym, ap, subst, ◌∙◌, arith}
use Rattle.std.proofs.lemmas.Bool.Decides.{nat_tests}
use Rattle.pio_encode.specs.declared.op.Op.{Op}
use Rattle.pio_encode.specs.declared.act.Act.{Act}
use Rattle.pio_encode.specs.Word.{reading_of}
use Rattle.pin_matrix.specs.Pins.{IsWrite, merged, writes_of}
use Rattle.pin_matrix.specs.declared.machine.MachineSetup.{MachineSetup}
use Rattle.pin_matrix.proofs.Mapped.{IsWrite-writes_of}
use Rattle.pin_matrix.proofs.Merging.{IsWrite-none}
use Rattle.sm_registers.specs.declared.decoded.Reading.{Reading}
use Rattle.sm_registers.specs.declared.end.End.{End}
use Rattle.sm_registers.specs.declared.end.End.TheVariants.{Stalls, GoesOn, Levels, Directions, Jumps, Executes}
use Rattle.sm_registers.specs.declared.intent.Intent.{Intent}
use Rattle.sm_registers.specs.declared.outputs.Outputs.{Outputs}
use Rattle.sm_registers.specs.declared.plan.Side.TheVariants as side
use Rattle.sm_registers.specs.declared.registers.Registers.{Registers}
use Rattle.sm_registers.specs.View.{View}
use Rattle.sm_registers.specs.Decoding.{IsReading}
use Rattle.sm_registers.specs.Effects.{Effect, effect_of}
use Rattle.sm_registers.specs.Ends.{effect_by, end_level, end_direction, end_stalls, written_end, written_side}
use Rattle.sm_registers.specs.Idling.{is_unmet, waits_again}
use Rattle.sm_registers.specs.declared.intent.Kind.TheVariants.{Delay, Late}
use Rattle.sm_registers.specs.Intents.{no_intent, no_wants, wants_of, written_by}
use Rattle.sm_registers.specs.Plans.{side_level, side_direction, side_of}
use Rattle.sm_registers.specs.Queues.{Queues}
use Rattle.sm_registers.specs.Ranges.{IsPlaced}
use Rattle.sm_registers.specs.Simple.{MakesTick, is_ready, is_simple, never_waits}
use Rattle.sm_registers.specs.State.{MachineState, queues_of}
use Rattle.sm_registers.specs.Tick.{after_effect, current_word, next_after, pc_after, refills, side_writes, tick_by, tick_of, tick_word, word_at}
use Rattle.sm_registers.proofs.Calm.{delay_counts, unmet_waits}
use Rattle.sm_registers.proofs.Effects.{does}
use Rattle.sm_registers.proofs.Placed.{placed_tick}

-- a tick is made, where it leaves these registers and pins, and wants nothing else
pub record IsMade (s : MachineSetup) (v : View) (q : Queues) (r after : Registers) (o put : Outputs) : Type 0 where
  pub registers : after ≡ (tick_of s v q r).0
  pub outputs : put ≡ written_by o (tick_of s v q r).1
  pub wants : wants_of (tick_of s v q r).1 ≡ no_wants

made_by : (s : MachineSetup) (v : View) (q : Queues) (r after : Registers) (o : Outputs) (i : Intent) → tick_of s v q r ≡ (after, i) → o ≡ written_by o i → wants_of i ≡ no_wants → IsMade s v q r after o o
made_by s v q r after o i h same none = record {
  registers = sym (ap (λ t. t.0) h);
  outputs = same ∙ sym (ap (λ t. written_by o t.1) h);
  wants = ap (λ t. wants_of t.1) h ∙ none;
}

-- the same of a machine, which was this
pub makes : (v : View) (m was : MachineState) (after : Registers) (o put : Outputs) → m ≡ was → IsMade m.setup v (queues_of m.ports.fifos) m.registers after o put → MakesTick v was (record m { registers = after }) o put
makes v m was after o put same is = subst (λ (x : MachineState). MakesTick v x (record m { registers = after }) o put) same (record {
  state = ap (λ (r : Registers). record m { registers = r }) is.registers;
  outputs = is.outputs;
  wants = is.wants;
})

-- and it keeps the ranges
pub stays_placed : (s : MachineSetup) (v : View) (q : Queues) (r after : Registers) (o put : Outputs) → IsMade s v q r after o put → IsPlaced r → IsPlaced after
stays_placed s v q r after o put is h = subst IsPlaced (sym is.registers) (placed_tick s v q r h)

-- without autopull nothing is refilled
no_refill : (s : MachineSetup) (q : Queues) (r : Registers) → s.autopull ≡ false → refills s q r ≡ false
no_refill s q r h = rw h refl

-- a tick that counts a delay
pub counted : (s : MachineSetup) (v : View) (q : Queues) (r : Registers) (o : Outputs) → s.autopull ≡ false → 0 < r.delay → IsMade s v q r (record r { delay = r.delay - 1 }) o o
unfolding merged
counted s v q r o off left =
    made_by s v q r (record r { delay = r.delay - 1 }) o (record no_intent { kind = Delay }) (delay_counts s v q r left (no_refill s q r off)) refl refl

again_by : (off zero begun unmet : Bool) → off ≡ false → zero ≡ true → begun ≡ true → unmet ≡ true → (not off && (zero && (begun && unmet))) ≡ true
again_by off zero begun unmet h i j k = rw (h, i, j, k) refl

-- a tick in which a WAIT waits once more
pub waited :
    (s : MachineSetup) (v : View) (q : Queues) (r : Registers) (o : Outputs) → s.autopull ≡ false → r.delay ≡ 0 → r.begun ≡ true
    → is_unmet (reading_of (current_word v r) s.side_rule).act s v ≡ true → IsMade s v q r r o o
unfolding merged
waited s v q r o off none begun unmet =
    let again : waits_again s v r ≡ true = again_by s.autopull (r.delay == 0) r.begun (is_unmet (reading_of (current_word v r) s.side_rule).act s v) off (ap (λ n. n == 0) none) begun unmet in
    made_by s v q r r o (record no_intent { kind = Late; stalled = true }) (unmet_waits s v q r again) refl refl

-- what is_ready says
pub record IsReady (s : MachineSetup) (r : Registers) : Type 0 where
  pub autopull : s.autopull ≡ false
  pub delay : nat_lt 0 r.delay ≡ false
  pub begun : r.begun ≡ false
  pub pending : r.pending ≡ None

ready_by : (autopull at_rest begun some : Bool) → (not autopull && (at_rest && (not begun && not some))) ≡ true → (autopull ≡ false) × ((at_rest ≡ true) × ((begun ≡ false) × (some ≡ false)))
ready_by false true false false h = (refl, (refl, (refl, refl)))
ready_by false true false true h = cc
ready_by false true true some h = cc
ready_by false false begun some h = cc
ready_by true at_rest begun some h = cc

none_some : (x : Option ℕ) → is_some x ≡ false → x ≡ None
none_some None h = refl
none_some (Some n) h = cc

at_rest : (n : ℕ) → (n == 0) ≡ true → nat_lt 0 n ≡ false
at_rest n h = grind (arith, nat_tests)

pub ready : (s : MachineSetup) (r : Registers) → is_ready s r ≡ true → IsReady s r
ready s r h = let parts = ready_by s.autopull (r.delay == 0) r.begun (is_some r.pending) h in record {
  autopull = parts.0;
  delay = at_rest r.delay parts.1.0;
  begun = parts.1.1.0;
  pending = none_some r.pending parts.1.1.1;
}

-- a machine of which that was asked is ready
pub anew : (s : MachineSetup) (r : Registers) → s.autopull ≡ false → r.delay ≡ 0 → r.begun ≡ false → is_some r.pending ≡ false → is_ready s r ≡ true
anew s r off none begun pending = rw (off, none, begun, pending) refl

-- and its tick is simple, where its instruction never waits
pub begins_simply : (op : Op) (s : MachineSetup) (v : View) (r : Registers) → is_ready s r ≡ true → op ≡ reading_of (slice_index v.memory r.pc) s.side_rule → never_waits op.act ≡ true → is_simple s v r ≡ true
begins_simply op s v r h is never =
    let parts = ready s r h in
    let here : current_word v r ≡ slice_index v.memory r.pc = ap (λ p. word_at p v r.pc) parts.pending in
    let same : never_waits (reading_of (current_word v r) s.side_rule).act ≡ true = ap (λ w. never_waits (reading_of w s.side_rule).act) here ∙ sym (ap (λ (o : Op). never_waits o.act) is) ∙ never in
    rw (parts.autopull, parts.delay, parts.begun, ap is_some parts.pending, same) refl

-- what the end of an instruction says of its effect
pub record IsEnd (e : Effect) (end : End) : Type 0 where
  pub level : e.level ≡ end_level end
  pub direction : e.direction ≡ end_direction end
  pub stalled : e.stalled ≡ end_stalls end

pub is_end : (r : Registers) (i : Intent) (end : End) → IsEnd (effect_by r i end) end
is_end r i Stalls = record { level = refl; direction = refl; stalled = refl }
is_end r i GoesOn = record { level = refl; direction = refl; stalled = refl }
is_end r i (Levels write) = record { level = refl; direction = refl; stalled = refl }
is_end r i (Directions write) = record { level = refl; direction = refl; stalled = refl }
is_end r i (Jumps address) = record { level = refl; direction = refl; stalled = refl }
is_end r i (Executes word) = record { level = refl; direction = refl; stalled = refl }

-- its writes are writes of pins
pub end_writes :
    (after : Registers) (end : End) (a : Act) (s : MachineSetup) (v : View) (q : Queues) (r : Registers) → effect_by after no_intent end ≡ effect_of a s v q r
    → IsWrite (end_level end) × IsWrite (end_direction end)
end_writes after end a s v q r h =
    let own = does a s v q r in
    let is = is_end after no_intent end in (
      subst IsWrite (sym (ap (λ (e : Effect). e.level) h) ∙ is.level) own.level.write,
      subst IsWrite (sym (ap (λ (e : Effect). e.direction) h) ∙ is.direction) own.direction.write,
    )

-- and so are side-set's, which are those of a first tick
pub record IsSide (s : MachineSetup) (side : Option ℕ) : Type 0 where
  pub level : side_level (side_of s side) ≡ cond s.side_rule.pindirs (0, 0) (side_writes side false s)
  pub direction : side_direction (side_of s side) ≡ cond s.side_rule.pindirs (side_writes side false s) (0, 0)
  pub writes_level : IsWrite (side_level (side_of s side))
  pub writes_direction : IsWrite (side_direction (side_of s side))

-- the same, where side-set goes to directions or not
abbrev BySide : (s : MachineSetup) (value : ℕ) (pindirs : Bool) → Type 0
BySide s value pindirs = let it = cond pindirs (side.Directions (writes_of s.side value)) (side.Levels (writes_of s.side value)) in
    (side_level it ≡ cond pindirs (0, 0) (writes_of s.side value)) × ((side_direction it ≡ cond pindirs (writes_of s.side value) (0, 0))
    × (IsWrite (side_level it) × IsWrite (side_direction it)))

by_side : (s : MachineSetup) (value : ℕ) (pindirs : Bool) → BySide s value pindirs
by_side s value true = (refl, (refl, (IsWrite-none, IsWrite-writes_of s.side value)))
by_side s value false = (refl, (refl, (IsWrite-writes_of s.side value, IsWrite-none)))

pub none_either : (b : Bool) → ◌≡◌ {A = ℕ × ℕ} (0, 0) (cond b (0, 0) (0, 0))
none_either true = refl
none_either false = refl

pub is_side : (s : MachineSetup) (side : Option ℕ) → IsSide s side
is_side s None = record {
  level = none_either s.side_rule.pindirs;
  direction = none_either s.side_rule.pindirs;
  writes_level = IsWrite-none;
  writes_direction = IsWrite-none;
}
is_side s (Some value) = let parts = by_side s value s.side_rule.pindirs in record {
  level = parts.0;
  direction = parts.1.0;
  writes_level = parts.1.1.0;
  writes_direction = parts.1.1.1;
}

-- an instruction from memory that never waits, by its effect
by_word :
    (op : Op) (s : MachineSetup) (v : View) (q : Queues) (r : Registers) → IsReady s r → op ≡ reading_of (slice_index v.memory r.pc) s.side_rule
    → tick_of s v q r ≡ tick_by op s q r (effect_of op.act s v q r)
unfolding tick_of tick_word
by_word op s v q r is h =
    let here : current_word v r ≡ slice_index v.memory r.pc = ap (λ p. word_at p v r.pc) is.pending in
    let same : reading_of (current_word v r) s.side_rule ≡ op = ap (λ w. reading_of w s.side_rule) here ∙ sym h in
    rw (is.delay, same) refl

-- what it wants, and what it leaves
wants_pins : (op : Op) (s : MachineSetup) (q : Queues) (r after : Registers) (end : End) → s.autopull ≡ false → wants_of (tick_by op s q r (effect_by after no_intent end)).1 ≡ no_wants
unfolding tick_by
wants_pins op s q r after Stalls h = rw h refl
wants_pins op s q r after GoesOn h = rw h refl
wants_pins op s q r after (Levels write) h = rw h refl
wants_pins op s q r after (Directions write) h = rw h refl
wants_pins op s q r after (Jumps address) h = rw h refl
wants_pins op s q r after (Executes word) h = rw h refl

leaves : (op : Op) (s : MachineSetup) (q : Queues) (r : Registers) (e : Effect) → s.autopull ≡ false → (tick_by op s q r e).0 ≡ after_effect op.delay s r e
unfolding tick_by
leaves op s q r e h = rw h refl

writes : (op : Op) (s : MachineSetup) (q : Queues) (r : Registers) (e : Effect) (end : End) (o : Outputs) → IsEnd e end → r.begun ≡ false → written_side (side_of s op.side) (written_end end o) ≡ written_by o (tick_by op s q r e).1
unfolding tick_by merged
writes op s q r e end o is begun =
    let side = is_side s op.side in
    rw (begun, is.level, is.direction, side.level, side.direction) refl

-- a tick that is the only one of an instruction from memory
pub only_tick :
    (op : Op) (s : MachineSetup) (v : View) (q : Queues) (r left after : Registers) (end : End) (o : Outputs) → is_ready s r ≡ true
    → op ≡ reading_of (slice_index v.memory r.pc) s.side_rule → effect_by left no_intent end ≡ effect_of op.act s v q r
    → after ≡ after_effect op.delay s r (effect_by left no_intent end)
    → IsMade s v q r after o (written_side (side_of s op.side) (written_end end o))
only_tick op s v q r left after end o h is effect concluded =
    let parts = ready s r h in
    let by : tick_of s v q r ≡ tick_by op s q r (effect_by left no_intent end) = by_word op s v q r parts is ∙ sym (ap (tick_by op s q r) effect) in record {
      registers = concluded ∙ sym (ap (λ t. t.0) by ∙ leaves op s q r _ parts.autopull);
      outputs = writes op s q r _ end o (is_end left no_intent end) parts.begun ∙ sym (ap (λ t. written_by o t.1) by);
      wants = ap (λ t. wants_of t.1) by ∙ wants_pins op s q r left end parts.autopull;
    }

-- where it goes on, as no word is pending
pub goes_on : (s : MachineSetup) (r : Registers) → is_ready s r ≡ true → next_after s r.pc ≡ pc_after None (is_some r.pending) s r
goes_on s r h = let parts = ready s r h in rw parts.pending refl

-- a word that was read, under the machine's setup
pub read_as : (s t : MachineSetup) (place word : ℕ) (reading : Reading) → t ≡ s → IsReading t place reading → reading.word ≡ word → IsReading s place reading × (reading.op ≡ reading_of word s.side_rule)
read_as s t place word reading same is h =
    let here : IsReading s place reading = subst (λ u. IsReading u place reading) same is in
    (here, here.op ∙ ap (λ w. reading_of w s.side_rule) h)
