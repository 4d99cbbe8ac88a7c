use Rattle.std.proofs.Common.{◌+◌, ◌∙◌, ◌++◌, sym, refl, ap}
use Rattle.vcd_trace.specs.Groups.{bit_lines, vector_lines, vectors_of}
use Rattle.vcd_trace.proofs.ChangesLaws.{values-text}
use Rattle.pio_edge.proofs.PutLaws.{going_begins, going_on, takes_failed, takes_last}
use Rattle.vcd_trace.proofs.dump.put_values.Goals as goal

pub returns-in_err-put_bits-clause-bytes : goal.returns-in_err-put_bits-clause-bytes
returns-in_err-put_bits-clause-bytes g c =
    takes_failed _ _ _ _ _ _ _ c.from_residual.result (going_begins _ _) (values-text c.args.more c.args.sample.now c.vectors_of-vectors.ensures.count) c.from_residual.ensures.0 c.in_err-put_bits.ensures.bytes

pub returns-in_err-put_bits-2-clause-bytes : goal.returns-in_err-put_bits-2-clause-bytes
returns-in_err-put_bits-2-clause-bytes g c =
    let s = c.args.sample.now in
    let g1 = going_on _ _ _ _ _ _ _ (going_begins _ _) (values-text c.args.more s c.vectors_of-vectors.ensures.count) c.in_ok-put_bits.ensures.bytes in
    takes_failed _ _ _ _ _ (bit_lines (65 + c.args.more) 32 s.direction) _ c.from_residual-in_err-put_bits-2.result g1 refl c.from_residual-in_err-put_bits-2.ensures.0 c.in_err-put_bits-2.ensures.bytes

pub returns-in_err-put_bits-3-clause-bytes : goal.returns-in_err-put_bits-3-clause-bytes
returns-in_err-put_bits-3-clause-bytes g c =
    let s = c.args.sample.now in
    let g1 = going_on _ _ _ _ _ _ _ (going_begins _ _) (values-text c.args.more s c.vectors_of-vectors.ensures.count) c.in_ok-put_bits.ensures.bytes in
    let g2 = going_on _ _ _ _ _ (bit_lines (65 + c.args.more) 32 s.direction) (bit_lines (97 + c.args.more) 8 s.flags ++ vector_lines (105 + c.args.more) (vectors_of s)) g1 refl c.in_ok-put_bits-2.ensures.bytes in
    takes_failed _ _ _ _ _ (bit_lines (97 + c.args.more) 8 c.from.result) (vector_lines (105 + c.args.more) (vectors_of s)) c.from_residual-in_err-put_bits-3.result g2 (ap (λ n. bit_lines (97 + c.args.more) 8 n ++ vector_lines (105 + c.args.more) (vectors_of s)) (sym c.from.ensures)) c.from_residual-in_err-put_bits-3.ensures.0 c.in_err-put_bits-3.ensures.bytes

pub returns-clause-bytes : goal.returns-clause-bytes
returns-clause-bytes g c =
    let s = c.args.sample.now in
    let v = c.vectors_of-vectors in
    let g1 = going_on _ _ _ _ _ _ _ (going_begins _ _) (values-text c.args.more s v.ensures.count) c.in_ok-put_bits.ensures.bytes in
    let g2 = going_on _ _ _ _ _ (bit_lines (65 + c.args.more) 32 s.direction) (bit_lines (97 + c.args.more) 8 s.flags ++ vector_lines (105 + c.args.more) (vectors_of s)) g1 refl c.in_ok-put_bits-2.ensures.bytes in
    let g3 = going_on _ _ _ _ _ (bit_lines (97 + c.args.more) 8 c.from.result) (vector_lines (105 + c.args.more) v.result) g2
    (ap (λ n. bit_lines (97 + c.args.more) 8 n ++ vector_lines (105 + c.args.more) (vectors_of s)) (sym c.from.ensures) ∙ ap (λ x. bit_lines (97 + c.args.more) 8 c.from.result ++ vector_lines (105 + c.args.more) x) (sym v.ensures.values)) c.in_ok-put_bits-3.ensures.bytes in
    takes_last _ _ _ _ _ c.put_vectors.result g3 c.put_vectors.ensures.bytes
