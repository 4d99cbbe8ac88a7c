-- What stays of the ISR and what enters above it make one word.
use Rattle.std.proofs.Common.{rules}
use Rattle.shift_engine.proofs.Bounds.{joined_wide-lt}
use Rattle.shift_engine.proofs.shift.shift_in.Goals as goal

pub overflow_cast-result-then-right-2 : goal.overflow_cast-result-then-right-2
overflow_cast-result-then-right-2 c = search (rules, joined_wide-lt)
