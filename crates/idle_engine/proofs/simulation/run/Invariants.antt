use Rattle.std.proofs.Common.{◌≡◌, ℕ, ◌+◌, ◌-◌, ◌<◌, ◌≤◌, false, true, Option, List}
use Rattle.block_core.specs.Stirring.{worked}
use Rattle.idle_engine.specs.Kinds.{IsCourse, IsUntil, shown_at}
use Rattle.idle_engine.proofs.RepeatedSamples.{IsTold}
use Rattle.idle_engine.proofs.simulation.run.Given as goal

-- The state is the run's in this clock, which stirs unless it is the first or the end. The trace was told of the clocks up to the
-- last one that may have shown something new, and those since show the same.
abbrev pub invariant-clocks : goal.invariant-clocks
invariant-clocks g l = let k = g.R.Runs.kind in
    let course = g.R.Runs.course l.fn.runs l.fn.ports in
    record {
      is_course : IsCourse k (g.R.Runs.lines l.fn.ports) (g.R.Runs.hosted l.fn.runs l.fn.ports) course;
      clocks_at : (n : ℕ) → k.in_clock (course.at n) n;
      run : g.R.Runs.hosted l.runs l.ports ≡ course.at l.clock;
      lines : g.R.Runs.lines l.ports ≡ g.R.Runs.lines l.fn.ports;
      may_ask : g.R.Runs.may_ask l.ports l.clock;
      within : l.clock ≤ l.clocks;
      until : IsUntil (k.acts (g.R.Runs.lines l.fn.ports) (g.R.Runs.hosted l.runs l.ports)) l.clocks l.clock l.until;
      stirs : 0 < l.clock → l.clock < l.clocks → k.stirs (g.R.Runs.lines l.fn.ports) (course.at l.clock) ≡ true;
      working : g.T.Trace.has_failed l.trace ≡ false;
      told : IsTold (shown_at k course) course.samples l.clock (λ s. (b : Option (List ℕ)) → g.T.Trace.ready l.fn.trace b → g.T.Trace.holds l.trace b s false);
      count : g.T.Trace.faults l.trace ≡ g.T.Trace.faults l.fn.trace;
      name : g.T.Trace.name l.trace ≡ g.T.Trace.name l.fn.trace;
      steps : l.steps + g.R.Runs.calls l.fn.runs ≡ l.fn.steps + g.R.Runs.calls l.runs;
      worked : l.steps ≡ l.fn.steps + worked (λ c. k.stirs (g.R.Runs.lines l.fn.ports) (course.at c)) l.clock;
    }

abbrev pub decreases-clocks : goal.decreases-clocks
decreases-clocks g l = l.clocks - l.clock
