-- A simple tick: it counts a delay, or only waits once more, or is the only one of an instruction.
use Rattle.std.proofs.Common.{◌≡◌, ◌∙◌, Bool, true, false, if◌then◌else◌, ap, arith, refl, subst, sym}
use Rattle.pio_encode.specs.declared.op.Op.{Op}
use Rattle.pin_matrix.specs.Pins.{IsWrite}
use Rattle.sm_registers.specs.declared.plan.Side.{Side}
use Rattle.sm_registers.specs.declared.simple.Tried.TheVariants.{Done, DoneReady}
use Rattle.sm_registers.specs.Ends.{written_side}
use Rattle.sm_registers.specs.Idling.{is_unmet}
use Rattle.sm_registers.specs.Intents.{no_intent}
use Rattle.sm_registers.specs.Plans.{side_level, side_direction, side_of}
use Rattle.sm_registers.specs.Simple.{is_done, is_ready, is_simple}
use Rattle.sm_registers.specs.State.{MachineState, queues_of}
use Rattle.sm_registers.proofs.SimpleTicks.{IsMade, anew, begins_simply, counted, end_writes, goes_on, is_side, makes, only_tick, read_as, stays_placed, waited}
use Rattle.sm_registers.proofs.machine.Machine.simple_tick.Given.{Over}
use Rattle.sm_registers.proofs.machine.Machine.simple_tick.Goals as goal
use Rattle.sm_registers.proofs.machine.Machine.simple_tick.Goals.{then-not-ready+else-self+else-self-gt0+else-self-2+else-is_some, else-not-ready}

pub returns-then-self-gt0-clause-done : goal.returns-then-self-gt0-clause-done
returns-then-self-gt0-clause-done g c = λ done.
    let b = c.self.inside in
    makes c.args.view.now _ _ _ c.args.outputs.now _ c.self.view_is
    (counted b.setup c.args.view.now (queues_of b.fifos) b.registers c.args.outputs.now c.if-self.false c.if-self-gt0.true)

pub returns-then-waits-clause-done : goal.returns-then-waits-clause-done
returns-then-waits-clause-done g c = λ done.
    let b = c.self.inside in
    let read = read_as b.setup _ _ _ c.reading.result.now (c.read.ensures.setup ∙ c.self.invariant.1) c.reading.ensures.reading (c.reading.ensures.word ∙ c.read.ensures.word ∙ c.current_word-place.ensures.word) in
    makes c.args.view.now _ _ _ c.args.outputs.now _ c.self.view_is
    (waited b.setup c.args.view.now (queues_of b.fifos) b.registers c.args.outputs.now c.if-self.false (omega (arith, c.if-self-gt0.false)) c.if-self-2.true
    (sym (ap (λ (o : Op). is_unmet o.act b.setup c.args.view.now) read.1) ∙ sym c.is_unmet-waits.ensures ∙ c.if-waits.true))

pub write_end-requires : goal.write_end-requires
write_end-requires g c =
    let b = c.self.inside in
    let writes = end_writes _ c.in-Some.end _ b.setup c.args.view.now (queues_of b.fifos) b.registers c.in-Some.ensures.effect in
    record { level = writes.0; direction = writes.1 }

pub write_side-requires : goal.write_side-requires
write_side-requires g c =
    let s = c.self.inside.setup in
    let read = read_as s _ _ _ c.reading-reading.result.now (c.read-2.ensures.setup ∙ c.self.invariant.1) c.reading-reading.ensures.reading (c.reading-reading.ensures.word ∙ c.read-2.ensures.word ∙ c.word.ensures) in
    let side = is_side s c.reading-reading.result.now.op.side in
    record {
      level = subst (λ (it : Side). IsWrite (side_level it)) (sym read.0.side) side.writes_level;
      direction = subst (λ (it : Side). IsWrite (side_direction it)) (sym read.0.side) side.writes_direction;
    }

-- the tick that begins an instruction is of a ready machine
ready_here : (g : Over) (c : goal.After-done-2 g) → is_ready c.self.inside.setup c.self.inside.registers ≡ true
ready_here g c = elim c.if-not-ready.branch [
  | then-not-ready+else-self+else-self-gt0+else-self-2+else-is_some w ↦
      anew c.self.inside.setup c.self.inside.registers w.if-self.false (omega (arith, w.if-self-gt0.false)) w.if-self-2.false (sym w.is_some.ensures ∙ w.if-is_some.false)
  | else-not-ready w ↦ subst (λ (m : MachineState). is_ready m.setup m.registers ≡ true) (sym c.self.view_is) (c.requires.ready w.if-not-ready.false)
]

-- and it is made
made_here : (g : Over) (c : goal.After-done-2 g) → IsMade c.self.inside.setup c.args.view.now (queues_of c.self.inside.fifos) c.self.inside.registers c.conclude-begins.new.registers c.args.outputs.now c.write_side.new.self
made_here g c =
    let b = c.self.inside in
    let reading = c.reading-reading.result.now in
    let read = read_as b.setup _ _ _ reading (c.read-2.ensures.setup ∙ c.self.invariant.1) c.reading-reading.ensures.reading (c.reading-reading.ensures.word ∙ c.read-2.ensures.word ∙ c.word.ensures) in
    let concluded = c.conclude-begins.ensures.after b.setup b.registers no_intent (read.0.next ∙ goes_on b.setup b.registers (ready_here g c)) in
    subst (IsMade b.setup c.args.view.now (queues_of b.fifos) b.registers c.conclude-begins.new.registers c.args.outputs.now)
    (sym (c.write_side.ensures ∙ ap (λ (it : Side). written_side it c.write_end.new.self) read.0.side ∙ ap (written_side (side_of b.setup reading.op.side)) c.write_end.ensures))
    (only_tick reading.op b.setup c.args.view.now (queues_of b.fifos) b.registers _ c.conclude-begins.new.registers c.in-Some.end c.args.outputs.now (ready_here g c) read.1 c.in-Some.ensures.effect concluded)

pub invariant_of-self-2 : goal.invariant_of-self-2
invariant_of-self-2 g c =
    let b = c.self.inside in
    let kept = c.self.invariant.0 in (
      record {
        placed = stays_placed b.setup c.args.view.now (queues_of b.fifos) b.registers _ c.args.outputs.now _ (made_here g c) kept.placed;
        fits = kept.fits;
        tx_room = kept.tx_room;
        rx_room = kept.rx_room;
      },
      c.read-2.ensures.setup ∙ c.self.invariant.1,
    )

pub returns-clause-done : goal.returns-clause-done
returns-clause-done g c = λ done.
    makes c.args.view.now _ _ _ c.args.outputs.now _ c.self.view_is (made_here g c)

done_either : (ready : Bool) → is_done (if ready then DoneReady else Done) ≡ true
done_either true = refl
done_either false = refl

pub returns-clause-simple : goal.returns-clause-simple
returns-clause-simple g c =
    let b = c.self.inside in
    let reading = c.reading-reading.result.now in
    let read = read_as b.setup _ _ _ reading (c.read-2.ensures.setup ∙ c.self.invariant.1) c.reading-reading.ensures.reading (c.reading-reading.ensures.word ∙ c.read-2.ensures.word ∙ c.word.ensures) in
    subst (λ (m : MachineState). is_done c.done-2.result ≡ is_simple m.setup c.args.view.now m.registers) c.self.view_is
    (ap is_done c.done-2.ensures ∙ done_either c.conclude-begins.result ∙ sym (begins_simply reading.op b.setup c.args.view.now b.registers (ready_here g c) read.1 (sym c.in-Some.ensures.made)))
