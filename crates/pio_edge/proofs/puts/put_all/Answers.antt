use Rattle.std.proofs.Common.{◌∙◌}
use Rattle.pio_edge.proofs.PutLaws.{takes_failed, flat_map-drop, going_on}
use Rattle.pio_edge.proofs.puts.put_all.Goals as goal

pub returns-in_err-put-clause-bytes : goal.returns-in_err-put-clause-bytes
returns-in_err-put-clause-bytes g c =
    takes_failed _ _ _ _ _ _ _ c.from_residual.result c.loop-piece.invariant.going (flat_map-drop (λ p. p.now) c.args.pieces.now c.loop-piece.piece-index _ c.loop-piece-test.true) c.from_residual.ensures.0 c.in_err-put.ensures.bytes

pub loop-piece-preserved : goal.loop-piece-preserved
loop-piece-preserved g c = record {
  going = going_on _ _ _ _ _ _ _ c.loop-piece.invariant.going (flat_map-drop (λ p. p.now) c.args.pieces.now c.loop-piece.piece-index _ c.loop-piece-test.true) c.in_ok-put.ensures.bytes;
  count = c.in_ok-put.ensures.cause.ok ∙ c.loop-piece.invariant.count;
}
