use Rattle.std.proofs.Common.{◌+◌, ◌*◌, arith, ap, refl, ◌∙◌}
use Rattle.clock_divider.specs.Ticks.{is_tick}
use Rattle.program_runs.proofs.Pacing.{period, on_tick, off_tick}
use Rattle.program_runs.proofs.laws.ticks_are_multiples_of_the_divider.Goals as goal

pub returns : goal.returns
returns c = record {
  tick = λ int t some. ap (λ p. is_tick 0 p (int * t)) (period int int 0 some refl refl) ∙ on_tick c.tick_test.ensures int t some;
  none = λ int t e more less. ap (λ p. is_tick 0 p (int * t + e)) (period int int 0 (omega (arith, less)) refl refl) ∙ off_tick c.tick_test.ensures int t e more less;
}
