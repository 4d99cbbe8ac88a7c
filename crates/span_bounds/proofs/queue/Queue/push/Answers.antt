use Rattle.span_bounds.proofs.Queues.{more_of}
use Rattle.span_bounds.proofs.queue.Queue.push.Goals as goal

pub returns-clause-more : goal.returns-clause-more
returns-clause-more c = rw (← c.self.view_is) (more_of _ _ _ c.in-Ok.ensures.permutation)
