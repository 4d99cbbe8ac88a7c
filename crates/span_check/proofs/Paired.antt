-- Each of two blocks on one set of pins is in a run over the pads that both share.
use Rattle.std.proofs.Common.{◌≡◌, ℕ, suc, List, refl, sym, ap, ◌∙◌}
use Rattle.pin_matrix.specs.declared.setup.Setup.{Setup}
use Rattle.dreq_pacing.specs.declared.due.Due.{Due}
use Rattle.dreq_pacing.specs.declared.line.Line.{Line}
use Rattle.block_core.specs.Block.{BlockState, stepped, first_state}
use Rattle.block_core.specs.Following.{Follows}
use Rattle.block_core.specs.HostedTwin.{hosted_twin_at}
use Rattle.block_core.specs.Twin.{first_twin}

-- a run of states that are those of another run clock by clock
pub follows_too : (memory : List ℕ) (seen : ℕ → ℕ) (host : ℕ → Due) (these those : ℕ → BlockState)
    → ((c : ℕ) → these c ≡ those c) → Follows memory seen host those → Follows memory seen host these
follows_too memory seen host these those same follows c =
    same (suc c) ∙ (follows c ∙ ap (λ x. stepped memory (seen c) (host c) x) (sym (same c)))

-- they begin as their setups say
pub first_begins : (own : ℕ) (s t : Setup) (first second : List Line)
    → (hosted_twin_at (first_twin own s t) first second 0).first.run.state ≡ first_state s
unfolding hosted_twin_at
first_begins own s t first second = refl

pub second_begins : (own : ℕ) (s t : Setup) (first second : List Line)
    → (hosted_twin_at (first_twin own s t) first second 0).second.run.state ≡ first_state t
unfolding hosted_twin_at
second_begins own s t first second = refl
