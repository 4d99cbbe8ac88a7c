use Rattle.pio_assemble.specs.Drafts.{drafted}
use Rattle.pio_assemble.proofs.draft.Draft.read.Goals as goal

pub returns-in-SideSet-clause-value : goal.returns-in-SideSet-clause-value
unfolding drafted
returns-in-SideSet-clause-value c = rw c.in-SideSet.is c.side_set.ensures.value
