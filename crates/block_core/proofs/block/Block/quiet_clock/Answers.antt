use Rattle.std.proofs.Common.{ap, sym, ◌∙◌, arith}
use Rattle.dreq_pacing.specs.Due.{quiet}
use Rattle.block_core.specs.Block.{Run, Worked, next}
use Rattle.block_core.proofs.SimpleSteps.{pads_stay}
use Rattle.block_core.proofs.Steps.{next_with}
use Rattle.block_core.proofs.block.Block.quiet_clock.Goals as goal

pub invariant_of-self-else-news : goal.invariant_of-self-else-news
invariant_of-self-else-news g c =
    let news = c.quiet_step-news.ensures in
    let clock = ap (λ (r : Run). r.clock) news.run in (
      omega (arith, clock, c.self.invariant.0),
      c.self.invariant.1 ∙ sym (pads_stay c.self.inside.pad c.self.inside.running _ news.run (news.shown c.if-news.false)),
    )

pub returns-then-news-clause-run : goal.returns-then-news-clause-run
returns-then-news-clause-run g c =
    next_with quiet c.self.inside.running c.self.inside.pad _ c.self.invariant.1 c.quiet_step-news.ensures.run
    ∙ ap (λ (w : Worked). next quiet w.run) c.self.view_is

pub returns-else-news-clause-run : goal.returns-else-news-clause-run
returns-else-news-clause-run g c =
    next_with quiet c.self.inside.running c.self.inside.pad _ c.self.invariant.1 c.quiet_step-news.ensures.run
    ∙ ap (λ (w : Worked). next quiet w.run) c.self.view_is
