use Rattle.std.proofs.Common.{rules}
use Rattle.block_config.proofs.Says.{says}
use Rattle.block_config.proofs.defaults.setup_of.Goals as goal

pub returns-then-not-fits_at-clause-value : goal.returns-then-not-fits_at-clause-value
returns-then-not-fits_at-clause-value c = search rules

pub returns-then-not-fits_at-clause-setup : goal.returns-then-not-fits_at-clause-setup
returns-then-not-fits_at-clause-setup c = search rules

pub returns-clause-value : goal.returns-clause-value
returns-clause-value c = search (rules, says)
