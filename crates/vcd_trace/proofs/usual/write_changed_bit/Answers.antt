use Rattle.std.proofs.Common.{◌<◌, ◌^◌, List, ℕ, ◌++◌, drop, bit_xor, sym, ap, ◌∙◌, arith}
use Rattle.std.proofs.lemmas.Nat.{xor_lt}
use Rattle.vcd_trace.proofs.BitLaws.{lowest_within}
use Rattle.vcd_trace.proofs.PlaceLaws.{bit_changes-none, bit_changes-one}
use Rattle.vcd_trace.proofs.usual.write_changed_bit.Goals as goal

pub returns-then-changed-eq0-clause-text : goal.returns-then-changed-eq0-clause-text
returns-then-changed-eq0-clause-text c =
    ap (λ (l : List ℕ). l ++ drop c.args.end c.args.room.now) (sym (bit_changes-none c.args.first c.args.before c.args.now c.if-changed-eq0.true))

pub overflow_add-first : goal.overflow_add-first
overflow_add-first c =
    let n = bit_xor c.args.before c.args.now in
    let fits : n < 2 ^ 32 = xor_lt 32 c.args.before c.args.now (omega arith) (omega arith) in
    let lowest = lowest_within n 32 (omega arith) fits fits in
    omega (arith, lowest)

pub overflow_shr-now : goal.overflow_shr-now
overflow_shr-now c =
    let n = bit_xor c.args.before c.args.now in
    let fits : n < 2 ^ 32 = xor_lt 32 c.args.before c.args.now (omega arith) (omega arith) in
    lowest_within n 32 (omega arith) fits fits

pub returns-clause-text : goal.returns-clause-text
returns-clause-text c =
    let n = bit_xor c.args.before c.args.now in
    let fits : n < 2 ^ 32 = xor_lt 32 c.args.before c.args.now (omega arith) (omega arith) in
    c.write_bit.ensures.text
    ∙ ap (λ (l : List ℕ). l ++ drop c.args.end c.args.room.now) (sym (bit_changes-one c.args.first c.args.before c.args.now (omega arith) fits c.requires.one))
