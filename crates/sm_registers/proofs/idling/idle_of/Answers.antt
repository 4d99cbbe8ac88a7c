-- a WAIT that waits once more stays
use Rattle.std.proofs.Common.{◌≡◌, true, false, sym, ◌∙◌, refl}
use Rattle.sm_registers.specs.State.{queues_of}
use Rattle.sm_registers.specs.Idling as spec
use Rattle.sm_registers.specs.Tick as spec_tick
use Rattle.sm_registers.proofs.Calm.{unmet_stays}
use Rattle.sm_registers.proofs.idling.idle_of.Goals as goal

pub returns-then-waits_again : goal.returns-then-waits_again
returns-then-waits_again g c =
    let s = c.args.setup.now in
    let v = c.args.view.now in
    let q = queues_of c.args.fifos.now in
    let r = c.args.registers.now in
    let none : spec_tick.refills s q r ≡ false = sym c.refills.ensures ∙ c.if-refills.false in
    let some : spec.stays s v q r ≡ true = unmet_stays s v q r (sym c.waits_again.ensures ∙ c.if-waits_again.true) in
    record { value = rw (none, some) refl }
