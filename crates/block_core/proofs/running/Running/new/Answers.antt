use Rattle.std.proofs.Common.{option_map, ◌∙◌}
use Rattle.block_core.specs.Slots.{first_slot}
use Rattle.block_core.proofs.Showing.{first_sample}
use Rattle.block_core.proofs.SimpleSteps.{empty_same, first_is_empty}
use Rattle.block_core.proofs.Steps.{first_in_step}
use Rattle.block_core.proofs.PlacesTold.{first_told}
use Rattle.block_core.proofs.running.Running.new.Goals as goal

pub invariant_of-result : goal.invariant_of-result
invariant_of-result g c = (
  record {
    told = (
      first_told _ _ _ c.in_ok-slot_of.ensures,
      (first_told _ _ _ c.in_ok-slot_of-2.ensures, (first_told _ _ _ c.in_ok-slot_of-3.ensures, (first_told _ _ _ c.in_ok-slot_of-4.ensures, tt))),
    );
    first = first_in_step _ _ c.in_ok-slot_of.ensures;
    second = first_in_step _ _ c.in_ok-slot_of-2.ensures;
    third = first_in_step _ _ c.in_ok-slot_of-3.ensures;
    fourth = first_in_step _ _ c.in_ok-slot_of-4.ensures;
  },
  first_sample _ _ _ _ _ _ _ _ _ _ _ c.in_ok-slot_of.ensures c.in_ok-slot_of-2.ensures c.in_ok-slot_of-3.ensures c.in_ok-slot_of-4.ensures,
  record { alone = c.are_empty-alone.ensures ∙ empty_same (option_map first_slot) first_is_empty c.in_ok-slot_of-2.ensures c.in_ok-slot_of-3.ensures c.in_ok-slot_of-4.ensures; ready = λ h. cc },
)
