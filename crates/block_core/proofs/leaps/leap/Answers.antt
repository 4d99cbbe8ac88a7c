use Rattle.block_core.proofs.leaps.leap.Goals as goal

pub leap-requires-clause-calm : goal.leap-requires-clause-calm
leap-requires-clause-calm g c = λ k lt. rw c.in-Some.is at (c.requires.calm k lt)
