use Rattle.block_core.specs.Hosted.{samples, sample_at}
use Rattle.block_core.specs.HostedTwin.{twin_samples, twin_sample_at}
use Rattle.block_core.specs.Inside.{insides, inside_at}
use Rattle.idle_engine.specs.Stops.{run_after, twin_after}
use Rattle.idle_engine.proofs.Courses.{insides-firsts, samples-firsts, twin_samples-firsts}
use Rattle.idle_engine.proofs.FirstParts.{stopped}
use Rattle.idle_engine.proofs.laws.a_stopped_run_leaves_a_first_part.Goals as goal

pub returns-clause-samples : goal.returns-clause-samples
returns-clause-samples c = λ start lines. stopped (run_after start lines) (sample_at start lines) (samples start lines) (samples-firsts start lines)

pub returns-clause-insides : goal.returns-clause-insides
returns-clause-insides c = λ start lines. stopped (run_after start lines) (inside_at start lines) (insides start lines) (insides-firsts start lines)

pub returns-clause-twin : goal.returns-clause-twin
returns-clause-twin c = λ start first second.
    stopped (twin_after start first second) (twin_sample_at start first second) (twin_samples start first second) (twin_samples-firsts start first second)
