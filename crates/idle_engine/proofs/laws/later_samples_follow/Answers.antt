use Rattle.idle_engine.proofs.Courses.{samples-from}
use Rattle.idle_engine.proofs.laws.later_samples_follow.Goals as goal

pub returns : goal.returns
returns c = samples-from
