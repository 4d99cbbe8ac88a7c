use Rattle.std.proofs.Common.{ℕ, ◌<◌, subst}
use Rattle.serial_receiver.proofs.Reading.{ends_so, known_more}
use Rattle.serial_receiver.proofs.line.proceed.Goals as goal

pub returns-then-begun-eq8 : goal.returns-then-begun-eq8
returns-then-begun-eq8 c =
    ends_so c.args.bit c.args.reached c.middle.result c.args.level c.args.begun c.loop-begun.begun c.middle.ensures c.if-reached-middle.false c.if-begun-eq8.true c.loop-begun.invariant

pub loop-begun-preserved : goal.loop-begun-preserved
loop-begun-preserved c =
    let P : ℕ → Type 0 = λ k. k < c.args.reached in
    let more = c.with_bit-begun.ensures in
    known_more c.args.bit c.args.reached c.args.level c.args.begun c.loop-begun.begun c.with_bit-begun.result (subst P c.middle.ensures c.if-reached-middle.false)
    more.start more.known more.byte c.loop-begun.invariant
