use Rattle.std.proofs.Common.{List, ℕ, ◌+◌, [], ◌∷◌, drop, sym, ap, ◌∙◌, append_assoc}
use Rattle.vcd_trace.specs.VcdText.{identifier}
use Rattle.vcd_trace.proofs.line.write_bit.Goals as goal

pub returns-clause-text : goal.returns-clause-text
returns-clause-text c =
    c.write_name.ensures.text ∙ ap (λ (l : List ℕ). (48 + c.args.value) ∷ l) (sym (append_assoc (identifier c.args.id) (10 ∷ []) (drop c.args.end c.args.line.now)))
