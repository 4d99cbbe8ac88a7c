use Rattle.std.proofs.Common.{◌++◌, List, ℕ, sym, ap, ◌∙◌, drop}
use Rattle.vcd_trace.proofs.InsideLaws.{registers-none}
use Rattle.vcd_trace.proofs.usual.write_others.Goals as goal

pub returns-then-has_same_registers-clause-text : goal.returns-then-has_same_registers-clause-text
returns-then-has_same_registers-clause-text c =
    ap (λ (l : List ℕ). l ++ drop c.args.end c.args.room.now) (sym (registers-none c.args.first c.args.before.now c.args.now.now (sym c.has_same_registers.ensures ∙ c.if-has_same_registers.true)))
