-- A tick keeps the registers in their ranges, takes a word only where TX has one, and gives one only where RX has room.
use Rattle.std.proofs.Common.{IsSome, IsTrue, ap, refl, subst, sym, ◌∙◌}
use Rattle.sm_registers.specs.Ranges.{IsPlaced}
use Rattle.sm_registers.specs.State.{queues_of}
use Rattle.sm_registers.specs.declared.intent.Intent.{Intent}
use Rattle.sm_registers.proofs.Placed.{placed_tick}
use Rattle.sm_registers.proofs.Fair.{some_front, has_room, fair_takes, fair_gives}
use Rattle.sm_registers.proofs.machine.Machine.tick.Goals as goal

pub invariant_of-self : goal.invariant_of-self
invariant_of-self g c = let kept = c.self.invariant.0 in (
  record {
    placed = subst IsPlaced (sym c.tick_of.ensures.registers)
        (placed_tick c.self.inside.setup c.args.view.now (queues_of c.self.inside.fifos) c.self.inside.registers kept.placed);
    fits = kept.fits;
    tx_room = kept.tx_room;
    rx_room = kept.rx_room;
  },
  c.tick_of.ensures.same ∙ c.self.invariant.1,
)

pub returns-clause-take : goal.returns-clause-take
returns-clause-take g c = λ t. some_front c.self.inside.fifos.tx
    (fair_takes c.self.inside.setup c.args.view.now c.self.inside.registers c.self.inside.fifos _ refl
    (subst IsTrue (ap (λ (i : Intent). i.take) c.tick_of.ensures.intent) t))

pub returns-clause-word : goal.returns-clause-word
returns-clause-word g c = λ t. has_room c.self.inside.fifos.rx_room c.self.inside.fifos.rx
    (fair_gives c.self.inside.setup c.args.view.now c.self.inside.registers c.self.inside.fifos _ refl
    (subst IsSome (ap (λ (i : Intent). i.word) c.tick_of.ensures.intent) t))
