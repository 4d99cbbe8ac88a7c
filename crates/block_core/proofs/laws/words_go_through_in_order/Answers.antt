use Rattle.std.proofs.Common.{None, false, slice_index_or}
use Rattle.fifo_pair.specs.Runs.{Events}
use Rattle.sm_registers.specs.State.{settled_ports}
use Rattle.sm_registers.specs.View.{View}
use Rattle.dreq_pacing.specs.declared.due.Due.{Due}
use Rattle.block_core.specs.Slots.{Slot, settled_slot, slot_intent}
use Rattle.block_core.proofs.laws.words_go_through_in_order.Goals as goal

-- what happens at the FIFOs in the clock
abbrev events : View → Due → Slot → Events
events v d s = record {
  take = (slot_intent v d s).take;
  machine_word = (slot_intent v d s).word;
  system_word = slice_index_or d.word s.machine.setup.id None;
  system_read = slice_index_or d.read s.machine.setup.id false;
}

pub returns : goal.returns
unfolding settled_slot settled_ports
returns c = record {
  tx = λ v d s. c.tx_loses_only_overruns.ensures (events v d s) s.machine.ports.fifos;
  rx = λ v d s. c.rx_loses_nothing.ensures (events v d s) s.machine.ports.fifos;
}
