use Rattle.setup_keys.proofs.Exact.{setup_in_range}
use Rattle.setup_keys.proofs.laws.what_a_setup_says_is_in_range.Goals as goal

pub returns : goal.returns
returns c = setup_in_range
