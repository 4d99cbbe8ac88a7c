use Rattle.std.proofs.Common.{sym, subst}
use Rattle.dreq_pacing.specs.Lines.{IsScheduleOf}
use Rattle.dreq_pacing.proofs.BlockLines.{block_lines-schedule, block_end}
use Rattle.dreq_pacing.proofs.blocks.split.Goals as goal

pub of-requires : goal.of-requires
of-requires c = subst (IsScheduleOf 4) (sym (block_end 0 _ _ c.args.lines.items _ c.loop-line.invariant.first c.loop-line.invariant.counted c.in-None.ensures.steps.0)) (block_lines-schedule 0 8 c.args.lines.items c.requires)

pub of-requires-2 : goal.of-requires-2
of-requires-2 c = subst (IsScheduleOf 4) (sym (block_end 4 _ _ c.args.lines.items _ c.loop-line.invariant.second c.loop-line.invariant.counted c.in-None.ensures.steps.0)) (block_lines-schedule 4 8 c.args.lines.items c.requires)
