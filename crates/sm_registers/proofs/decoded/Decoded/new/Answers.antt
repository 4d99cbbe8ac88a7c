-- Each reading is that of the word 0 at its place.
use Rattle.std.proofs.Common.{◌≡◌, ◌+◌, ap, arith, slice_set, subst, sym}
use Rattle.sm_registers.proofs.Decoding.{AreFilled, fill_first, fill_next, filled}
use Rattle.sm_registers.proofs.decoded.Decoded.new.Goals as goal

pub loop-place-init : goal.loop-place-init
loop-place-init c = fill_first c.args.setup.now c.read_word-readings.result c.read_word-readings.ensures.word c.read_word-readings.ensures.reading

pub loop-place-preserved : goal.loop-place-preserved
loop-place-preserved c =
    subst (λ n. AreFilled c.args.setup.now (c.loop-place.place + 1) (slice_set c.loop-place.readings n c.read_word.result)) (sym c.from.ensures)
    (fill_next c.args.setup.now c.loop-place.place c.loop-place.readings c.read_word.result c.loop-place-test.true c.read_word.ensures.word c.read_word.ensures.reading c.loop-place.invariant)

pub invariant_of-result : goal.invariant_of-result
invariant_of-result c =
    let all : c.loop-place.place ≡ 33 = omega (arith, c.loop-place-test.false, c.loop-place.auto.place-end) in
    (filled c.args.setup.now c.loop-place.readings (subst (λ n. AreFilled c.args.setup.now n c.loop-place.readings) all c.loop-place.invariant)).0

pub returns : goal.returns
returns c =
    let all : c.loop-place.place ≡ 33 = omega (arith, c.loop-place-test.false, c.loop-place.auto.place-end) in
    ap (λ words. record { setup = c.args.setup.now; words = words })
    (filled c.args.setup.now c.loop-place.readings (subst (λ n. AreFilled c.args.setup.now n c.loop-place.readings) all c.loop-place.invariant)).1
