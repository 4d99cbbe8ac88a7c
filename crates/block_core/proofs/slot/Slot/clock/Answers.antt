use Rattle.std.proofs.Common.{refl}
use Rattle.sm_registers.specs.State.{settled_ports}
use Rattle.block_core.specs.Slots.{settled_slot}
use Rattle.block_core.proofs.slot.Slot.clock.Goals as goal

pub returns-clause-after : goal.returns-clause-after
unfolding settled_slot settled_ports
returns-clause-after g c = rw (c.settle-used.ensures.after, c.act-intent.ensures.after, c.act-intent.ensures.intent, c.obey.ensures) refl
