use Rattle.std.proofs.Common.{◌+◌, ◌*◌, ◌++◌, List, ℕ, sym, ap, ◌∙◌, drop}
use Rattle.vcd_trace.proofs.InsideLaws.{place-both}
use Rattle.vcd_trace.proofs.usual.write_place.Goals as goal

pub returns-then-before-now-2-clause-text : goal.returns-then-before-now-2-clause-text
returns-then-before-now-2-clause-text c =
    c.write.ensures.text
    ∙ ap (λ (l : List ℕ). l ++ drop c.args.end c.args.room.now) (sym (place-both (193 + 10 * c.args.place) c.args.before.now c.args.now.now c.if-before-now.true c.if-before-now-2.true))
