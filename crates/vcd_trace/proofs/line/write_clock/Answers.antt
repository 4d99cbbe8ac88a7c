use Rattle.std.proofs.Common.{ℕ, ◌-◌, ◌<◌, ◌≤◌, ◌^◌, [], ◌∷◌, ◌++◌, drop, length, refl, arith, ap, ◌∙◌}
use Rattle.std.specs.Fmt.{decimal}
use Rattle.std.proofs.lemmas.Fmt.{length-decimal-le}
use Rattle.std.proofs.Math.ListN.{length-set}
use Rattle.std.proofs.lemmas.List.{drop_all}
use Rattle.vcd_trace.proofs.Digits.{put_at}
use Rattle.vcd_trace.proofs.line.write_clock.Goals as goal

-- the greatest number has 20 digits
twenty_digits : (clock : ℕ) → clock < 2 ^ 64 → length (decimal clock) ≤ 20
twenty_digits clock h = length-decimal-le 20 clock (omega arith) (omega arith) h

pub write_digits-start-requires : goal.write_digits-start-requires
write_digits-start-requires c =
    let short = twenty_digits c.args.clock (omega arith) in
    (omega (arith, short), omega (arith, length-set c.args.line.now 21 10))

pub overflow_sub-start : goal.overflow_sub-start
overflow_sub-start c =
    let short = twenty_digits c.args.clock (omega arith) in
    omega (arith, short, c.write_digits-start.ensures.start)

pub returns-clause-text : goal.returns-clause-text
returns-clause-text c =
    let clock = c.args.clock in
    let short = twenty_digits clock (omega arith) in
    let w = c.write_digits-start in
    let last = put_at c.args.line.now 21 22 10 [] refl (omega arith) (drop_all 22 c.args.line.now (omega arith)) in
    put_at w.new.buf (w.result - 1) w.result 35 (drop w.result w.new.buf) (omega (arith, short, w.ensures.start)) (omega (arith, w.ensures.start)) refl
    ∙ ap (λ l. 35 ∷ l) (w.ensures.written ∙ ap (λ l. decimal clock ++ l) last)
