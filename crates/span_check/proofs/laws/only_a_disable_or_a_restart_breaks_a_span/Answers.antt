use Rattle.std.proofs.Common.{◌≡◌, ◌+◌, ap, ◌∙◌, arith}
use Rattle.block_core.specs.Block.{Run, first_run}
use Rattle.block_core.specs.Hosted.{host_of}
use Rattle.span_check.proofs.Breaking.{breaks_by_lines}
use Rattle.span_check.proofs.laws.only_a_disable_or_a_restart_breaks_a_span.Goals as goal

pub returns : goal.returns
returns c = λ u sp lines clock. breaks_by_lines u sp lines clock
    (ap (λ (r : Run). r.clock) (c.a_stimulus_is_a_system.ensures.run (first_run u) lines clock)
    ∙ c.clocks_are_counted.ensures.clock (first_run u) (host_of (first_run u) lines) clock
    ∙ (let e : 0 + clock ≡ clock = omega arith in e))
