use Rattle.span_check.proofs.Held.{provable_holds}
use Rattle.span_check.proofs.laws.a_provable_span_holds_in_every_run.Goals as goal

pub returns : goal.returns
returns c = provable_holds (record {
  ticks = c.a_tick_follows_the_table.ensures;
  room = c.open_ages_have_room.ensures;
  begins = c.a_start_is_under_way.ensures;
  levels = c.levels_are_last_writes.ensures;
  entries = c.each_entry_is_that_of_a_row.ensures;
  places_start = c.each_place_goes_its_own_way.ensures.start;
  places_go_on = c.each_place_goes_its_own_way.ensures.after;
  own_levels = c.a_pin_of_one_machine.ensures.level;
  own_directions = c.a_pin_of_one_machine.ensures.direction;
  stimulus = c.a_stimulus_is_a_system.ensures.run;
  memory = c.clocks_are_counted.ensures.memory;
  tick_test = c.tick_test.ensures;
})
