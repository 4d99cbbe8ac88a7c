use Rattle.std.proofs.Common.{◌≡◌, length, sym, ◌∙◌, arith}
use Rattle.vcd_trace.specs.Groups.{vectors_of}
use Rattle.vcd_trace.proofs.ChangesLaws.{length-vectors_of, same_rest-changes}
use Rattle.vcd_trace.proofs.usual.changes_a_level.Goals as goal

pub returns-then-one_changes-clause-levels : goal.returns-then-one_changes-clause-levels
returns-then-one_changes-clause-levels c = λ is.
    let a = c.args.before.now in
    let b = c.args.now.now in
    let words_a : length (vectors_of a) ≡ 16 = length-vectors_of a (omega arith) (omega arith) (omega arith) (omega arith) in
    let words_b : length (vectors_of b) ≡ 16 = length-vectors_of b (omega arith) (omega arith) (omega arith) (omega arith) in
    same_rest-changes a b words_a words_b (sym c.has_same_rest.ensures ∙ is)
