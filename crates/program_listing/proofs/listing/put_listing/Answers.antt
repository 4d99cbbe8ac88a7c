use Rattle.std.proofs.Common.{◌∙◌}
use Rattle.pio_edge.proofs.PutLaws.{takes_failed, going_on}
use Rattle.program_listing.proofs.Programs.{listing_text-turn}
use Rattle.program_listing.proofs.listing.put_listing.Goals as goal

pub returns-in_err-put_program-clause-bytes : goal.returns-in_err-put_program-clause-bytes
returns-in_err-put_program-clause-bytes g c =
    takes_failed _ _ _ _ _ _ _ c.from_residual.result c.loop-program.invariant.going (listing_text-turn c.args.programs.now c.loop-program.program-index c.program-item.result c.loop-program-test.true c.program-item.is) c.from_residual.ensures.0 c.in_err-put_program.ensures.bytes

pub loop-program-preserved : goal.loop-program-preserved
loop-program-preserved g c = record {
  going = going_on _ _ _ _ _ _ _ c.loop-program.invariant.going (listing_text-turn c.args.programs.now c.loop-program.program-index c.program-item.result c.loop-program-test.true c.program-item.is) c.in_ok-put_program.ensures.bytes;
  count = c.in_ok-put_program.ensures.cause.ok ∙ c.loop-program.invariant.count;
}
