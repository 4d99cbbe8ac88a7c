use Rattle.program_runs.proofs.Clocks.{Laws, place_is, tick_fed, accepted_words}
use Rattle.program_runs.proofs.ByTicks.{left, pause}
use Rattle.program_runs.proofs.laws.a_machine_goes_clock_by_clock.Goals as goal

pub returns : goal.returns
returns c = record {
  place = λ u lines id s pin own steady. place_is laws u lines id s pin own (left laws u lines id s pin own steady);
  tick = λ u lines id s pin own steady clock h. (tick_fed laws u lines id s pin own (left laws u lines id s pin own steady) clock h).0;
  pause = pause laws;
  words = λ u lines id s pin own steady. accepted_words laws u lines id s pin own (left laws u lines id s pin own steady);
} where
  laws : Laws
  laws = record {
    follows = c.a_block_sees_its_own_pads.ensures.hosted;
    places_start = c.each_place_goes_its_own_way.ensures.start;
    places_go_on = c.each_place_goes_its_own_way.ensures.after;
    own_pins = c.a_pin_of_one_machine.ensures.level;
    tick_test = c.tick_test.ensures;
  }
