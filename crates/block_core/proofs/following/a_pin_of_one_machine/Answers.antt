use Rattle.std.proofs.Common.{◌∙◌, ap}
use Rattle.std.specs.Int.{bit_at}
use Rattle.block_core.specs.Block.{BlockState}
use Rattle.block_core.proofs.OwnPlace.{own_level, own_direction}
use Rattle.block_core.proofs.Ticking.{setups-states}
use Rattle.block_core.proofs.following.a_pin_of_one_machine.Goals as goal

pub returns : goal.returns
returns c = record {
  level = λ s memory seen host states begins follows id p inside others clock.
      ap (λ (b : BlockState). bit_at b.levels p) (follows clock)
      ∙ own_level c.writes_are_of_pins.ensures c.a_tick_writes_its_own_pins.ensures.level c.no_write_changes_nothing.ensures.write c.the_last_write_counts.ensures.pin c.the_last_write_counts.ensures.none
      s memory (seen clock) (host clock) (states clock) id p inside others (setups-states s memory seen host states begins follows clock);
  direction = λ s memory seen host states begins follows id p inside others clock.
      ap (λ (b : BlockState). bit_at b.directions p) (follows clock)
      ∙ own_direction c.writes_are_of_pins.ensures c.a_tick_writes_its_own_pins.ensures.direction c.no_write_changes_nothing.ensures.write c.the_last_write_counts.ensures.pin c.the_last_write_counts.ensures.none
      s memory (seen clock) (host clock) (states clock) id p inside others (setups-states s memory seen host states begins follows clock);
}
