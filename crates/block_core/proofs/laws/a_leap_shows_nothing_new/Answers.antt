use Rattle.block_core.proofs.NextStirs.{requests_leap, sample_leaps}
use Rattle.block_core.proofs.laws.a_leap_shows_nothing_new.Goals as goal

pub returns : goal.returns
returns c = record { requests = requests_leap; sample = sample_leaps }
