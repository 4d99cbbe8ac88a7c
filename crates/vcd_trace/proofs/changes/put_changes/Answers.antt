use Rattle.std.proofs.Common.{◌+◌, ◌≡◌, ◌++◌, length, refl, arith}
use Rattle.vcd_trace.specs.Groups.{bit_changes, vector_changes, vectors_of}
use Rattle.vcd_trace.proofs.ChangesLaws.{changes-groups, length-vectors_of}
use Rattle.pio_edge.proofs.PutLaws.{going_begins, going_on, takes_failed, takes_last}
use Rattle.vcd_trace.proofs.changes.put_changes.Goals as goal

pub returns-in_err-put_changed_bits-clause-bytes : goal.returns-in_err-put_changed_bits-clause-bytes
returns-in_err-put_changed_bits-clause-bytes g c =
    let a = c.args.before.now in
    let b = c.args.now.now in
    let words_a : length (vectors_of a) ≡ 16 = length-vectors_of a (omega arith) (omega arith) (omega arith) (omega arith) in
    let words_b : length (vectors_of b) ≡ 16 = length-vectors_of b (omega arith) (omega arith) (omega arith) (omega arith) in
    let text = changes-groups c.args.more a b words_a words_b in
    takes_failed _ _ _ _ _ _ _ c.from_residual.result (going_begins _ _) text c.from_residual.ensures.0 c.in_err-put_changed_bits.ensures.bytes

pub returns-in_err-put_changed_bits-2-clause-bytes : goal.returns-in_err-put_changed_bits-2-clause-bytes
returns-in_err-put_changed_bits-2-clause-bytes g c =
    let a = c.args.before.now in
    let b = c.args.now.now in
    let words_a : length (vectors_of a) ≡ 16 = length-vectors_of a (omega arith) (omega arith) (omega arith) (omega arith) in
    let words_b : length (vectors_of b) ≡ 16 = length-vectors_of b (omega arith) (omega arith) (omega arith) (omega arith) in
    let text = changes-groups c.args.more a b words_a words_b in
    let g1 = going_on _ _ _ _ _ _ _ (going_begins _ _) text c.in_ok-put_changed_bits.ensures.bytes in
    takes_failed _ _ _ _ _ (bit_changes (65 + c.args.more) 32 a.direction b.direction) _ c.from_residual-in_err-put_changed_bits-2.result g1 refl c.from_residual-in_err-put_changed_bits-2.ensures.0 c.in_err-put_changed_bits-2.ensures.bytes

pub returns-in_err-put_changed_bits-3-clause-bytes : goal.returns-in_err-put_changed_bits-3-clause-bytes
returns-in_err-put_changed_bits-3-clause-bytes g c =
    let a = c.args.before.now in
    let b = c.args.now.now in
    let words_a : length (vectors_of a) ≡ 16 = length-vectors_of a (omega arith) (omega arith) (omega arith) (omega arith) in
    let words_b : length (vectors_of b) ≡ 16 = length-vectors_of b (omega arith) (omega arith) (omega arith) (omega arith) in
    let text = changes-groups c.args.more a b words_a words_b in
    let later = vector_changes (105 + c.args.more) (vectors_of a) (vectors_of b) in
    let g1 = going_on _ _ _ _ _ _ _ (going_begins _ _) text c.in_ok-put_changed_bits.ensures.bytes in
    let g2 = going_on _ _ _ _ _ (bit_changes (65 + c.args.more) 32 a.direction b.direction) (bit_changes (97 + c.args.more) 8 a.flags b.flags ++ later) g1 refl c.in_ok-put_changed_bits-2.ensures.bytes in
    let flags : bit_changes (97 + c.args.more) 8 a.flags b.flags ++ later ≡ bit_changes (97 + c.args.more) 8 c.from.result c.from-2.result ++ later = cc in
    takes_failed _ _ _ _ _ (bit_changes (97 + c.args.more) 8 c.from.result c.from-2.result) later c.from_residual-in_err-put_changed_bits-3.result g2 flags c.from_residual-in_err-put_changed_bits-3.ensures.0 c.in_err-put_changed_bits-3.ensures.bytes

pub returns-clause-bytes : goal.returns-clause-bytes
returns-clause-bytes g c =
    let a = c.args.before.now in
    let b = c.args.now.now in
    let words_a : length (vectors_of a) ≡ 16 = length-vectors_of a (omega arith) (omega arith) (omega arith) (omega arith) in
    let words_b : length (vectors_of b) ≡ 16 = length-vectors_of b (omega arith) (omega arith) (omega arith) (omega arith) in
    let text = changes-groups c.args.more a b words_a words_b in
    let later = vector_changes (105 + c.args.more) (vectors_of a) (vectors_of b) in
    let g1 = going_on _ _ _ _ _ _ _ (going_begins _ _) text c.in_ok-put_changed_bits.ensures.bytes in
    let g2 = going_on _ _ _ _ _ (bit_changes (65 + c.args.more) 32 a.direction b.direction) (bit_changes (97 + c.args.more) 8 a.flags b.flags ++ later) g1 refl c.in_ok-put_changed_bits-2.ensures.bytes in
    let flags : bit_changes (97 + c.args.more) 8 a.flags b.flags ++ later ≡ bit_changes (97 + c.args.more) 8 c.from.result c.from-2.result ++ later = cc in
    let g3 = going_on _ _ _ _ _ (bit_changes (97 + c.args.more) 8 c.from.result c.from-2.result) later g2 flags c.in_ok-put_changed_bits-3.ensures.bytes in
    takes_last _ _ _ _ _ c.put_changed_words.result g3 c.put_changed_words.ensures.bytes
