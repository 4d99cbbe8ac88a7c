-- In a tick less than a clock is left, so that the next tick is a period later.
use Rattle.std.proofs.Common.{◌≡◌, ℕ, true, ◌+◌, ◌-◌, ◌*◌, ◌^◌, ◌<◌, ◌≤◌, nat_lt, sym, ap, subst, ◌∙◌, arith}
use Rattle.std.proofs.lemmas.Bool.Decides.{nat_tests}
use Rattle.clock_divider.specs.Left.{IsLeft}
use Rattle.clock_divider.specs.Ticks.{is_tick}
use Rattle.clock_divider.specs.Timing.{Timing}
use Rattle.clock_divider.proofs.LeftLaws.{left-moved}
use Rattle.clock_divider.proofs.TickLaws.{is_tick-from_left}
use Rattle.clock_divider.proofs.divider.Divider.step_from_tick.Goals as goal

pub invariant_of-self : goal.invariant_of-self
invariant_of-self c =
    let d = c.self.inside in
    let kept = c.self.invariant in
    let now : is_tick d.restarted d.period d.clock ≡ true = subst (λ (t : Timing). is_tick t.restarted t.period t.clock ≡ true) (sym c.self.view_is) c.requires.tick in
    let test : nat_lt d.left 256 ≡ true = sym (is_tick-from_left d.restarted d.period d.clock d.left kept.begun kept.next) ∙ now in
    let soon : d.left < 256 = grind (arith, nat_tests) in
    let begun = kept.begun in
    let shortest = kept.shortest in
    let clock : d.clock < 2 ^ 40 = subst (λ (t : Timing). t.clock < 2 ^ 40) (sym c.self.view_is) c.requires.clock in
    let later = left-moved d.period (d.clock - d.restarted) d.left 1 1 (d.left + d.period - 256) kept.next (omega arith) (omega arith) in
    let same : d.clock - d.restarted + 1 ≡ d.clock + 1 - d.restarted = omega arith in
    record {
      begun = omega arith;
      in_range = omega arith;
      shortest = shortest;
      longest = kept.longest;
      next = subst (λ e. IsLeft d.period e (d.left + d.period - 256)) same later;
    }
