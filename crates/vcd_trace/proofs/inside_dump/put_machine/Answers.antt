use Rattle.std.proofs.Common.{◌+◌, ◌++◌, ◌∙◌, sym, ap}
use Rattle.vcd_trace.specs.Groups.{bit_lines, vector_lines}
use Rattle.vcd_trace.specs.InsideGroups.{flags_of}
use Rattle.vcd_trace.proofs.InsideLaws.{machine-lines}
use Rattle.pio_edge.proofs.PutLaws.{going_begins, going_on, takes_failed, takes_last}
use Rattle.vcd_trace.proofs.inside_dump.put_machine.Goals as goal

pub returns-in_err-put_vectors-clause-bytes : goal.returns-in_err-put_vectors-clause-bytes
returns-in_err-put_vectors-clause-bytes g c =
    let m = c.args.machine.now in
    let bits = bit_lines (c.args.first + 8) 2 (flags_of m) in
    let text = machine-lines c.args.first m ∙ ap (λ l. vector_lines c.args.first l ++ bits) (sym c.words_of.ensures) in
    takes_failed _ _ _ _ _ _ _ c.from_residual.result (going_begins _ _) text c.from_residual.ensures.0 c.in_err-put_vectors.ensures.bytes

pub returns-clause-bytes : goal.returns-clause-bytes
returns-clause-bytes g c =
    let m = c.args.machine.now in
    let bits = bit_lines (c.args.first + 8) 2 (flags_of m) in
    let text = machine-lines c.args.first m ∙ ap (λ l. vector_lines c.args.first l ++ bits) (sym c.words_of.ensures)
    ∙ ap (λ n. vector_lines c.args.first c.words_of.result ++ bit_lines (c.args.first + 8) 2 n) (sym c.bits_of.ensures.value) in
    let g1 = going_on _ _ _ _ _ _ _ (going_begins _ _) text c.in_ok-put_vectors.ensures.bytes in
    takes_last _ _ _ _ _ c.put_bits.result g1 c.put_bits.ensures.bytes
