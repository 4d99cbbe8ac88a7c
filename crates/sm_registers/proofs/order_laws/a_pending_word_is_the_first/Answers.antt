-- The word is by cases of the one that is pending.
use Rattle.std.proofs.Common.{ℕ, Option, ap}
use Rattle.sm_registers.specs.Tick.{word_at}
use Rattle.sm_registers.proofs.order_laws.a_pending_word_is_the_first.Goals as goal

pub returns-clause-pending : goal.returns-clause-pending
returns-clause-pending c s v word is = ap (λ (p : Option ℕ). word_at p v s.start) is

pub returns-clause-memory : goal.returns-clause-memory
returns-clause-memory c s v none = ap (λ (p : Option ℕ). word_at p v s.start) none
