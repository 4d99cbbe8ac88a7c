-- The runs of one block and of two are courses of their kinds, and what the first clocks show, as a trace is told of it.
use Rattle.std.proofs.Common.{◌≡◌, ℕ, ◌+◌, ◌≤◌, List, ◌++◌, refl, ap}
use Rattle.dreq_pacing.specs.declared.line.Line.{Line}
use Rattle.dreq_pacing.specs.Ports.{Ports, first_ports}
use Rattle.block_core.specs.declared.sample.Sample.{Sample}
use Rattle.block_core.specs.Block.{Run}
use Rattle.block_core.specs.Hosted.{hosted_at, samples, sample_at}
use Rattle.block_core.specs.HostedTwin.{hosted_twin_at, twin_samples, twin_sample_at, twin_stirring, twin_stirs_in}
use Rattle.block_core.specs.Inside.{insides, inside_at}
use Rattle.block_core.specs.Stirring.{stirring, stirs_in, worked}
use Rattle.block_core.specs.Twin.{TwinRun}
use Rattle.idle_engine.specs.Kinds.{AreFirsts, IsCourse}
use Rattle.idle_engine.specs.One.{one}
use Rattle.idle_engine.specs.OneInside.{one_inside}
use Rattle.idle_engine.specs.Twin.{twin}
use Rattle.idle_engine.proofs.GrowingLists.{firsts-from}
use Rattle.idle_engine.proofs.WorkedClocks.{worked-passing}

-- one sample a clock, and one of each of two blocks
pub samples-firsts : (start : Run) (lines : List Line) → AreFirsts (sample_at start lines) (samples start lines)
unfolding samples
samples-firsts start lines = record { none = refl; more = λ n. refl }

pub insides-firsts : (start : Run) (lines : List Line) → AreFirsts (inside_at start lines) (insides start lines)
unfolding insides
insides-firsts start lines = record { none = refl; more = λ n. refl }

pub twin_samples-firsts : (start : TwinRun) (first second : List Line)
    → AreFirsts (twin_sample_at start first second) (twin_samples start first second)
unfolding twin_samples
twin_samples-firsts start first second = record { none = refl; more = λ n. refl }

-- from ports at clock 0 on
pub one-course : (start : Run) (lines : List Line) (p : Ports) → start.clock ≡ 0 → p ≡ first_ports lines
    → IsCourse one p.lines (record { run = start; transfers = p.transfers })
    (record { at = hosted_at start p.lines; samples = samples start p.lines })
unfolding hosted_at
one-course start lines p fresh first = record {
  fresh = fresh;
  begins = rw (ap (λ (p : Ports). p.transfers) first) refl;
  goes = λ n. refl;
  samples = samples-firsts start p.lines;
}

pub inside-course : (start : Run) (lines : List Line) (p : Ports) → start.clock ≡ 0 → p ≡ first_ports lines
    → IsCourse one_inside p.lines (record { run = start; transfers = p.transfers })
    (record { at = hosted_at start p.lines; samples = insides start p.lines })
inside-course start lines p fresh first =
    let c = one-course start lines p fresh first in
    record { fresh = c.fresh; begins = c.begins; goes = c.goes; samples = insides-firsts start p.lines }

pub twin-course : (start : TwinRun) (first second : List Line) (p q : Ports) → start.first.clock ≡ 0
    → start.second.clock ≡ 0 → p ≡ first_ports first → q ≡ first_ports second
    → IsCourse twin (p.lines, q.lines)
    (record { own = start.own; first = record { run = start.first; transfers = p.transfers }; second = record { run = start.second; transfers = q.transfers } })
    (record { at = hosted_twin_at start p.lines q.lines; samples = twin_samples start p.lines q.lines })
unfolding hosted_twin_at
twin-course start first second p q fresh_first fresh_second is_first is_second = record {
  fresh = (fresh_first, fresh_second);
  begins = rw (ap (λ (p : Ports). p.transfers) is_first, ap (λ (p : Ports). p.transfers) is_second) refl;
  goes = λ n. refl;
  samples = twin_samples-firsts start p.lines q.lines;
}

-- at most one more clock is worked out singly than stir
pub worked-stirring : (start : Run) (lines : List Line) (n : ℕ)
    → worked (λ c. stirs_in lines (hosted_at start lines c)) n ≤ stirring start lines n + 1
unfolding stirring
worked-stirring start lines n = worked-passing (λ c. stirs_in lines (hosted_at start lines c)) (stirring start lines) (λ k. refl) n

pub worked-twin_stirring : (start : TwinRun) (first second : List Line) (n : ℕ)
    → worked (λ c. twin_stirs_in first second (hosted_twin_at start first second c)) n ≤ twin_stirring start first second n + 1
unfolding twin_stirring
worked-twin_stirring start first second n =
    worked-passing (λ c. twin_stirs_in first second (hosted_twin_at start first second c)) (twin_stirring start first second) (λ k. refl) n

-- the samples of more clocks begin with those of fewer
pub samples-from : (start : Run) (lines : List Line) (n more : ℕ)
    → (later : List Sample) × (samples start lines (n + more) ≡ samples start lines n ++ later)
samples-from start lines n more = firsts-from (sample_at start lines) (samples start lines) (samples-firsts start lines) n more
