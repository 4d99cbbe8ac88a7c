use Rattle.std.proofs.Common.{◌++◌, ◌∙◌, List, ℕ, ap, drop}
use Rattle.vcd_trace.proofs.place_lines.Places.write.Goals as goal

pub returns-clause-text : goal.returns-clause-text
returns-clause-text c = c.write.ensures.text ∙ ap (λ (t : List ℕ). t ++ drop c.args.end c.args.room.now) c.turn.ensures.lines.text
