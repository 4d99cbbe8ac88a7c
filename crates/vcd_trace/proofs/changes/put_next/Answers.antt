use Rattle.std.proofs.Common.{◌≡◌, [], length, sym, ap, ◌∙◌, arith, append-nil}
use Rattle.pio_edge.specs.Edge.{with_bytes}
use Rattle.pio_edge.proofs.PutLaws.{going_begins, takes_failed}
use Rattle.vcd_trace.specs.Groups.{vectors_of}
use Rattle.vcd_trace.proofs.ChangesLaws.{length-vectors_of, same_rest-changes, same_rest-equal}
use Rattle.vcd_trace.proofs.changes.put_next.Goals as goal

pub returns-in_err-put_changed_bits-clause-bytes : goal.returns-in_err-put_changed_bits-clause-bytes
returns-in_err-put_changed_bits-clause-bytes g c =
    let a = c.args.last.now in
    let b = c.args.now.now in
    let words_a : length (vectors_of a) ≡ 16 = length-vectors_of a (omega arith) (omega arith) (omega arith) (omega arith) in
    let words_b : length (vectors_of b) ≡ 16 = length-vectors_of b (omega arith) (omega arith) (omega arith) (omega arith) in
    let text = same_rest-changes a b words_a words_b (sym c.has_same_rest.ensures ∙ c.if-has_same_rest.true) in
    takes_failed _ _ _ _ _ _ [] c.from_residual.result (going_begins _ _) (text ∙ sym (append-nil _)) c.from_residual.ensures.0 c.in_err-put_changed_bits.ensures.bytes

pub returns-then-has_same_rest-clause-bytes : goal.returns-then-has_same_rest-clause-bytes
returns-then-has_same_rest-clause-bytes g c =
    let a = c.args.last.now in
    let b = c.args.now.now in
    let words_a : length (vectors_of a) ≡ 16 = length-vectors_of a (omega arith) (omega arith) (omega arith) (omega arith) in
    let words_b : length (vectors_of b) ≡ 16 = length-vectors_of b (omega arith) (omega arith) (omega arith) (omega arith) in
    let text = same_rest-changes a b words_a words_b (sym c.has_same_rest.ensures ∙ c.if-has_same_rest.true) in
    c.in_ok-put_changed_bits.ensures.bytes ∙ ap (with_bytes (g.S.Sink.taken c.args.sink.now)) (sym text)

pub returns-then-has_same_rest-clause-kept : goal.returns-then-has_same_rest-clause-kept
returns-then-has_same_rest-clause-kept g c =
    same_rest-equal c.args.last.now c.args.now.now (sym c.has_same_rest.ensures ∙ c.if-has_same_rest.true)
