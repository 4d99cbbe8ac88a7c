use Rattle.span_refuted.proofs.Exactly.{Laws, unprovable_is_broken, provable_exactly}
use Rattle.span_refuted.proofs.laws.a_refused_span_is_broken.Goals as goal

pub returns : goal.returns
returns c = record {
  broken = unprovable_is_broken laws;
  exact = provable_exactly laws;
  verdict = λ u sp k cause ticks choice v. unprovable_is_broken laws u sp ticks choice v.alone v.unprovable;
} where
  laws : Laws
  laws = record {
    runs = record {
      places_start = c.each_place_goes_its_own_way.ensures.start;
      places_go_on = c.each_place_goes_its_own_way.ensures.after;
      own_pins = c.a_pin_of_one_machine.ensures.level;
      excused = c.a_plain_span_excuses_nothing.ensures.excused;
      misses = c.a_plain_span_excuses_nothing.ensures.misses;
      stimulus = c.a_stimulus_is_a_system.ensures.run;
      memory = c.clocks_are_counted.ensures.memory;
    };
    levels = c.levels_are_last_writes.ensures;
    tested = c.tick_test.ensures;
    stays = c.next_contexts_are_in_range.ensures;
    visits = c.an_unprovable_span_has_a_bad_visit.ensures;
    holds = c.a_provable_span_holds_in_every_run.ensures;
  }
