use Rattle.std.proofs.Common.{rules, arith, ◌≡◌, ℕ, ◌+◌, Bool, false, true, Option, List, Result, Ok, Err, OnErr, subst, refl, sym, ap, ◌∙◌}
use Rattle.std.proofs.lemmas.Result.{on_err_weaker, on_ok_weaker}
use Rattle.idle_engine.specs.Kinds.{IsUntil, shown_at}
use Rattle.idle_engine.proofs.RepeatedSamples.{IsTold, is-held, is-next, is-told, told-after, told-at, told-none}
use Rattle.idle_engine.proofs.AfterLeaps.{IsAfterLeap, after_leap, course-next, in_clocks, shown-next, shows-again}
use Rattle.idle_engine.proofs.WorkedClocks.{worked-grows, worked-later, worked-none}
use Rattle.idle_engine.proofs.simulation.run.Given.{Over}
use Rattle.idle_engine.proofs.simulation.run.Goals as goal

-- what holds at all holds at an error
on_err : {T E P : Type 0} (r : Result T E) → P → OnErr r P
on_err (Ok x) p = tt
on_err (Err e) p = p

pub returns-in_err-begin-clause-err : goal.returns-in_err-begin-clause-err
returns-in_err-begin-clause-err g c =
    on_err c.from_residual.result (record {
      count = 0;
      within = omega arith;
      ended = false;
      whole = λ e. cc;
      run = sym c.requires.course.begins;
      breaks = λ b r. subst (λ (l : List g.row.V.Denot). g.T.Trace.broken c.begin.new.self b l false) (sym c.requires.course.samples.none) (c.in_err-begin.ensures.err b r);
    })

pub clocks-init : goal.clocks-init
clocks-init g c =
    let course = g.R.Runs.course c.args.runs.now c.args.ports.now in
    let k = g.R.Runs.kind in
    let none = worked-none (λ n. k.stirs (g.R.Runs.lines c.args.ports.now) (course.at n)) in
    record {
      is_course = c.requires.course;
      clocks_at = in_clocks k c.is_of_its_kind.ensures.kind (g.R.Runs.lines c.args.ports.now) _ _ c.requires.course;
      run = sym c.requires.course.begins;
      lines = refl;
      may_ask = c.requires.may_ask;
      within = omega arith;
      until = c.next_due-until.ensures;
      stirs = λ some. absurd (omega arith);
      working = search rules;
      told = told-none (shown_at k course) course.samples c.requires.course.samples _
          (λ b r. subst (λ (l : List g.row.V.Denot). g.T.Trace.holds c.begin.new.self b l false) (sym c.requires.course.samples.none) (c.in_ok-begin.ensures.ok b r));
      count = search rules;
      name = search rules;
      steps = search rules;
      worked = omega arith;
    }

pub step-stepped-requires-clause-clock : goal.step-stepped-requires-clause-clock
step-stepped-requires-clause-clock g c =
    let inv = c.clocks.invariant in
    subst (λ (h : g.R.Runs.Hosted). g.R.Runs.kind.in_clock h c.clocks.clock) (sym inv.run) (inv.clocks_at c.clocks.clock)

pub leap-clock-requires-clause-clock : goal.leap-clock-requires-clause-clock
leap-clock-requires-clause-clock g c =
    let inv = c.clocks.invariant in
    let run = course-next inv.is_course c.clocks.clock inv.run inv.lines c.step-stepped.ensures.run in
    subst (λ (h : g.R.Runs.Hosted). g.R.Runs.kind.in_clock h (c.clocks.clock + 1)) (sym run) (inv.clocks_at (c.clocks.clock + 1))

pub returns-in_err-tell-clause-err : goal.returns-in_err-tell-clause-err
returns-in_err-tell-clause-err g c =
    let course = g.R.Runs.course c.args.runs.now c.args.ports.now in
    let inv = c.clocks.invariant in
    let k = g.R.Runs.kind in
    let n = c.clocks.clock in
    let run = course-next inv.is_course n inv.run inv.lines c.step-stepped.ensures.run in
    let s = shown-next k course n _ _ run refl in
    on_err c.from_residual-in_err-tell.result (record {
      count = n + 1;
      within = omega arith;
      ended = false;
      whole = λ e. cc;
      run = run;
      breaks = λ b r.
          subst (λ (l : List g.row.V.Denot). g.T.Trace.broken c.tell.new.trace b l false)
          (is-told inv.is_course.samples inv.told s)
          (c.in_err-tell.ensures.err b (course.samples inv.told.last) (inv.told.told b r) (is-next inv.is_course.samples inv.told));
    })

pub returns-in_err-tell-clause-most : goal.returns-in_err-tell-clause-most
returns-in_err-tell-clause-most g c =
    let course = g.R.Runs.course c.args.runs.now c.args.ports.now in
    let inv = c.clocks.invariant in
    let test : ℕ → Bool = λ n. g.R.Runs.kind.stirs (g.R.Runs.lines c.args.ports.now) (course.at n) in
    let one = worked-later test c.clocks.clock (c.clocks.clock + 1) (omega arith) (λ some. inv.stirs some c.clocks-test.true) (λ j low below. absurd (omega arith)) in
    let more = worked-grows test (c.clocks.clock + 1) c.args.clocks (omega arith) in
    omega (arith, inv.worked, one, more, c.count.ensures)

-- the run after the clocks that were leapt over
run_after : (g : Over) (c : goal.After-leap-clock g) → IsAfterLeap g.R.Runs.kind (g.R.Runs.lines c.args.ports.now) (g.R.Runs.course c.args.runs.now c.args.ports.now) c.clocks.clock c.leap-clock.result c.step-stepped.result.until c.args.clocks (g.R.Runs.hosted c.leap-clock.new.runs c.step-stepped.new.ports)
run_after g c =
    let course = g.R.Runs.course c.args.runs.now c.args.ports.now in
    let inv = c.clocks.invariant in
    let k = g.R.Runs.kind in
    let lines = g.R.Runs.lines c.args.ports.now in
    let run = course-next inv.is_course c.clocks.clock inv.run inv.lines c.step-stepped.ensures.run in
    let own : g.R.Runs.lines c.step-stepped.new.ports ≡ lines = c.step-stepped.ensures.lines ∙ inv.lines in
    let until = subst (λ (l : g.R.Runs.Lines). IsUntil (k.acts l (g.R.Runs.hosted c.step-stepped.new.runs c.step-stepped.new.ports)) c.args.clocks (c.clocks.clock + 1) c.step-stepped.result.until) own c.step-stepped.ensures.until in
    after_leap k c.is_of_its_kind.ensures.kind lines _ course inv.is_course inv.clocks_at c.clocks.clock c.leap-clock.result c.step-stepped.result.until c.args.clocks _ _ run
    c.leap-clock.ensures.from c.leap-clock.ensures.until until c.leap-clock.ensures.run c.leap-clock.ensures.calm c.leap-clock.ensures.moves_on

-- what the trace was told of by then
told_after : (g : Over) (c : goal.After-leap-clock g) → IsTold (shown_at g.R.Runs.kind (g.R.Runs.course c.args.runs.now c.args.ports.now)) (g.R.Runs.course c.args.runs.now c.args.ports.now).samples c.leap-clock.result (λ s. (b : Option (List ℕ)) → g.T.Trace.ready c.args.trace.now b → g.T.Trace.holds c.tell.new.trace b s false)
told_after g c =
    let course = g.R.Runs.course c.args.runs.now c.args.ports.now in
    let inv = c.clocks.invariant in
    let k = g.R.Runs.kind in
    let n = c.clocks.clock in
    let run = course-next inv.is_course n inv.run inv.lines c.step-stepped.ensures.run in
    let s = shown-next k course n _ _ run refl in
    told-after (shown_at k course) course.samples inv.is_course.samples n c.leap-clock.result _ c.step-stepped.result.is_new _ _ c.leap-clock.ensures.from (run_after g c).same s
    (λ old some. shows-again k course n _ _ inv.run run (c.step-stepped.ensures.shown old) some) inv.told
    (λ tells holds next b r. c.in_ok-tell.ensures.ok tells b (course.samples inv.told.last) (holds b r) next)
    (λ again l holds b r. subst (λ t. g.T.Trace.holds t b l false) (sym (c.in_ok-tell.ensures.again again)) (holds b r))

pub clocks-preserved : goal.clocks-preserved
clocks-preserved g c =
    let course = g.R.Runs.course c.args.runs.now c.args.ports.now in
    let inv = c.clocks.invariant in
    let k = g.R.Runs.kind in
    let lines = g.R.Runs.lines c.args.ports.now in
    let after = run_after g c in
    let until = c.step-stepped.ensures.until in
    let test : ℕ → Bool = λ n. k.stirs lines (course.at n) in
    let one = worked-later test c.clocks.clock c.leap-clock.result c.leap-clock.ensures.from (λ some. inv.stirs some c.clocks-test.true) after.still in
    record {
      is_course = inv.is_course;
      clocks_at = inv.clocks_at;
      run = after.run;
      lines = c.step-stepped.ensures.lines ∙ inv.lines;
      may_ask = c.is_of_its_kind.ensures.waits c.step-stepped.new.ports _ (c.clocks.clock + 1) c.leap-clock.result c.step-stepped.ensures.may_ask c.leap-clock.ensures.from (λ j low below. until.rests j low (omega (arith, c.leap-clock.ensures.until)));
      within = omega (arith, c.leap-clock.ensures.until, until.within);
      until = after.rests;
      stirs = λ some. after.stirs;
      working = search rules;
      told = told_after g c;
      count = search rules;
      name = search rules;
      steps = search rules;
      worked = omega (arith, inv.worked, one, c.count.ensures);
    }

pub returns-clause-ok : goal.returns-clause-ok
returns-clause-ok g c =
    let course = g.R.Runs.course c.args.runs.now c.args.ports.now in
    let firsts = c.requires.course.samples in
    let at_end : c.clocks.clock ≡ c.args.clocks = omega arith in
    let told = told-at at_end c.clocks.invariant.told in
    on_ok_weaker c.end.result (λ end b r.
    subst (λ (l : List g.row.V.Denot). g.T.Trace.holds c.end.new.self b l true) (is-held firsts told) (end b (course.samples told.last) (told.told b r) (is-next firsts told))) c.end.ensures.ok

pub returns-clause-err : goal.returns-clause-err
returns-clause-err g c =
    let course = g.R.Runs.course c.args.runs.now c.args.ports.now in
    let firsts = c.requires.course.samples in
    let inv = c.clocks.invariant in
    let at_end : c.clocks.clock ≡ c.args.clocks = omega arith in
    let told = told-at at_end inv.told in
    on_err_weaker c.end.result (λ end. record {
      count = c.args.clocks;
      within = omega arith;
      ended = true;
      whole = λ e. refl;
      run = inv.run ∙ ap course.at at_end;
      breaks = λ b r.
          subst (λ (l : List g.row.V.Denot). g.T.Trace.broken c.end.new.self b l true) (is-held firsts told) (end b (course.samples told.last) (told.told b r) (is-next firsts told));
    }) c.end.ensures.err
