use Rattle.std.proofs.Common.{sym, arith}
use Rattle.span_texts.proofs.Digits.{digit_step}
use Rattle.span_texts.proofs.number.value_of.Goals as goal

pub loop-byte-preserved : goal.loop-byte-preserved
loop-byte-preserved c = record {
  whole = digit_step c.loop-byte.value _ c.loop-byte.byte-index c.in_ok-digit_of.field-0 c.args.digits.now _ (omega arith) (sym c.in_ok-digit_of.ensures.value) c.min-value.ensures c.loop-byte.invariant.whole;
  most = omega arith;
}
