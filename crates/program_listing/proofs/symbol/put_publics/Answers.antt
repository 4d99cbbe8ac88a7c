use Rattle.std.proofs.Common.{◌+◌, drop, ap, sym, subst, ◌∙◌}
use Rattle.pio_edge.proofs.PutLaws.{takes_failed, going_on}
use Rattle.pio_edge.specs.Puts.{Going}
use Rattle.program_listing.specs.Listing.{public_lines}
use Rattle.program_listing.proofs.Publics.{public_lines-turn, public_lines-skip, going_skips}
use Rattle.program_listing.proofs.symbol.put_publics.Goals as goal
use Rattle.program_listing.proofs.symbol.put_publics.Goals.{then-symbol+in_ok-put_public, else-symbol}

pub returns-in_err-put_public-clause-bytes : goal.returns-in_err-put_public-clause-bytes
returns-in_err-put_public-clause-bytes g c =
    let turn = public_lines-turn c.args.symbols.now c.loop-symbol.symbol-index c.symbol-item.result c.loop-symbol-test.true c.symbol-item.is c.if-symbol.true in
    takes_failed _ _ _ _ _ _ _ c.from_residual.result c.loop-symbol.invariant.going turn c.from_residual.ensures.0 c.in_err-put_public.ensures.bytes

pub loop-symbol-preserved : goal.loop-symbol-preserved
loop-symbol-preserved g c =
    let i = c.loop-symbol.symbol-index in
    let symbols = c.args.symbols.now in
    let s = c.symbol-item.result in
    elim c.if-symbol.branch [
      | then-symbol+in_ok-put_public w ↦ record {
        going = going_on _ _ _ _ _ _ _ c.loop-symbol.invariant.going (public_lines-turn symbols i s c.loop-symbol-test.true c.symbol-item.is w.if-symbol.true) (ap g.S.Sink.taken w.sink-is ∙ w.in_ok-put_public.ensures.bytes);
        count = ap g.S.Sink.faults w.sink-is ∙ w.in_ok-put_public.ensures.cause.ok ∙ c.loop-symbol.invariant.count;
      }
      | else-symbol w ↦ record {
        going = subst (λ m. Going (g.S.Sink.taken c.args.sink.now) m (public_lines symbols) (public_lines (drop (i + 1) symbols))) (sym (ap g.S.Sink.taken w.sink-is)) (going_skips _ _ _ _ _ c.loop-symbol.invariant.going (public_lines-skip symbols i s c.loop-symbol-test.true c.symbol-item.is w.if-symbol.false));
        count = ap g.S.Sink.faults w.sink-is ∙ c.loop-symbol.invariant.count;
      }
    ]
