use Rattle.std.proofs.Common.{◌≡◌, refl, arith}
use Rattle.span_bounds.proofs.Takes.{AreReady-starts, AreReady-all}
use Rattle.span_bounds.proofs.take.add_ready.Goals as goal

pub loop-number-init : goal.loop-number-init
loop-number-init c = record { ready = AreReady-starts _ _ _ c.requires.ready; kept = refl }

pub returns-clause-ready : goal.returns-clause-ready
returns-clause-ready c =
    let all : c.loop-number.number ≡ c.end-number-end.result = omega (arith, c.loop-number-test.false, c.loop-number.auto.number-end) in
    AreReady-all _ _ _ c.end-number-end.result c.requires.numbers c.end-number-end.ensures.rest c.end-number-end.ensures.within (rw all at c.loop-number.invariant.ready)
