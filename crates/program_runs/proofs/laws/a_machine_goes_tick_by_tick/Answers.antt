use Rattle.program_runs.proofs.ByTicks.{by_ticks}
use Rattle.program_runs.proofs.laws.a_machine_goes_tick_by_tick.Goals as goal

pub returns : goal.returns
returns c = λ u lines id s pin int own steady. by_ticks (record {
  follows = c.a_block_sees_its_own_pads.ensures.hosted;
  places_start = c.each_place_goes_its_own_way.ensures.start;
  places_go_on = c.each_place_goes_its_own_way.ensures.after;
  own_pins = c.a_pin_of_one_machine.ensures.level;
  tick_test = c.tick_test.ensures;
}) u lines id s pin own steady int
