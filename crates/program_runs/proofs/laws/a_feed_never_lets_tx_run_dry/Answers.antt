use Rattle.program_runs.proofs.ByTicks.{is_stimulus, steady_feed, supplied}
use Rattle.program_runs.proofs.Words.{feed_of_words}
use Rattle.program_runs.proofs.laws.a_feed_never_lets_tx_run_dry.Goals as goal

pub returns : goal.returns
returns c = record {
  stimulus = is_stimulus;
  steady = steady_feed;
  words = feed_of_words;
  supply = supplied (record {
    follows = c.a_block_sees_its_own_pads.ensures.hosted;
    places_start = c.each_place_goes_its_own_way.ensures.start;
    places_go_on = c.each_place_goes_its_own_way.ensures.after;
    own_pins = c.a_pin_of_one_machine.ensures.level;
    tick_test = c.tick_test.ensures;
  });
}
