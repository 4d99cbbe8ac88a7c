use Rattle.std.proofs.Common.{List, ℕ, ◌∷◌, ◌++◌, ap, ◌∙◌}
use Rattle.std.specs.Fmt.{digits}
use Rattle.std.specs.Prelude.{false}
use Rattle.vcd_trace.proofs.TextLaws.{vector_line-onto}
use Rattle.vcd_trace.proofs.line.write_vector.Goals as goal

pub returns-clause-text : goal.returns-clause-text
returns-clause-text c =
    c.write_bits.ensures.text ∙ ap (λ (l : List ℕ). 98 ∷ (digits 2 false c.args.value ++ l)) c.write_name-name.ensures.text
    ∙ vector_line-onto c.args.id c.args.value _
