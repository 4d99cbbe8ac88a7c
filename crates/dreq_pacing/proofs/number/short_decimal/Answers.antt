use Rattle.std.proofs.Common.{arith}
use Rattle.dreq_pacing.proofs.Numbers.{few_digits}
use Rattle.dreq_pacing.proofs.number.short_decimal.Goals as goal

pub overflow_mul-number : goal.overflow_mul-number
overflow_mul-number c =
    let few = few_digits c.loop-byte.number c.loop-byte.byte-index 0 (omega arith) c.loop-byte.invariant.most (omega arith) in
    omega arith

pub overflow_add-number : goal.overflow_add-number
overflow_add-number c =
    let few = few_digits c.loop-byte.number c.loop-byte.byte-index c.in_ok-number.field-0 (omega arith) c.loop-byte.invariant.most c.in_ok-number.ensures.range in
    omega arith
