use Rattle.std.proofs.Common.{refl, inl}
use Rattle.std.proofs.lemmas.List.Sorted.{IsPermutation-sym}
use Rattle.span_bounds.proofs.Queues.{more_of}
use Rattle.span_bounds.proofs.queue.Queue.pop.Goals as goal

pub returns-in-Some-clause-next : goal.returns-in-Some-clause-next
returns-in-Some-clause-next c = rw (← c.self.view_is) (inl (more_of _ _ _ (IsPermutation-sym _ _ c.in-Some.ensures.permutation), refl))
