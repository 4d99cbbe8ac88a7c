use Rattle.std.proofs.Common.{◌-◌, bit_xor, sym, ap, subst, ◌∙◌, List, ℕ, arith, rules}
use Rattle.std.specs.Int.Bits.{xor_zero_l}
use Rattle.std.proofs.lemmas.Nat.{xor_lt, and_le_l}
use Rattle.pio_edge.specs.Puts.{Going}
use Rattle.pio_edge.proofs.PutLaws.{takes_failed, going_begins, going_on}
use Rattle.vcd_trace.specs.Groups.{bit_changes}
use Rattle.vcd_trace.proofs.TextLaws.{bit_changes-same, going_done}
use Rattle.vcd_trace.proofs.BitLaws.{xor_twice, lowest_within, changed_bits-next}
use Rattle.vcd_trace.proofs.changes.put_changed_bits.Goals as goal

pub loop-changed-init : goal.loop-changed-init
loop-changed-init g c =
    let a = c.args in
    let whole : List ℕ = bit_changes a.first a.count a.before a.now in
    record {
      going = subst (λ (r : List ℕ). Going (g.S.Sink.taken a.sink.now) (g.S.Sink.taken a.sink.now) whole r) (ap (λ x. bit_changes a.first a.count x a.now) (sym (xor_twice a.before a.now))) (going_begins _ whole);
      counts = search rules;
      within = xor_lt a.count a.before a.now c.requires.before c.requires.now;
    }

pub overflow_add-first : goal.overflow_add-first
overflow_add-first g c =
    let lowest = lowest_within c.loop-changed.changed c.args.count (omega arith) (search rules) c.loop-changed.invariant.within in
    omega (arith, lowest)

pub returns-in_err-put_bit-clause-bytes : goal.returns-in_err-put_bit-clause-bytes
returns-in_err-put_bit-clause-bytes g c =
    let a = c.args in
    takes_failed _ _ _ _ _ _ _ c.from_residual.result c.loop-changed.invariant.going
    (changed_bits-next a.first a.count c.loop-changed.changed a.now (omega arith) (search rules) c.loop-changed.invariant.within) c.from_residual.ensures.0 c.in_err-put_bit.ensures.bytes

pub loop-changed-preserved : goal.loop-changed-preserved
loop-changed-preserved g c =
    let a = c.args in
    let n = c.loop-changed.changed in
    record {
      going = going_on _ _ _ _ _ _ _ c.loop-changed.invariant.going (changed_bits-next a.first a.count n a.now (omega arith) (search rules) c.loop-changed.invariant.within) c.in_ok-put_bit.ensures.bytes;
      counts = c.in_ok-put_bit.ensures.cause.ok ∙ c.loop-changed.invariant.counts;
      within = omega (arith, and_le_l n (n - 1), c.loop-changed.invariant.within);
    }

pub returns-clause-bytes : goal.returns-clause-bytes
returns-clause-bytes g c =
    let a = c.args in
    going_done _ _ _ (bit_changes a.first a.count (bit_xor c.loop-changed.changed a.now) a.now) c.loop-changed.invariant.going
    (ap (λ x. bit_changes a.first a.count (bit_xor x a.now) a.now) c.loop-changed-test.false ∙ ap (λ x. bit_changes a.first a.count x a.now) (xor_zero_l a.now) ∙ bit_changes-same a.first a.count a.now)
