use Rattle.std.proofs.Common.{sym}
use Rattle.block_config.proofs.Covered.{memory_more, memory_ends}
use Rattle.block_config.proofs.loads.memory_of.Goals as goal

pub loop-load-preserved : goal.loop-load-preserved
loop-load-preserved c =
    memory_more c.args.loads.now c.loop-load.load-index c.load-item.result c.load-item.result c.deref.result.now c.loop-load.memory c.loaded-memory.result _ c.loop-load.invariant c.loop-load-test.true c.load-item.is c.deref.ensures.0 c.loaded-memory.ensures

pub returns : goal.returns
returns c = sym (memory_ends c.args.loads.now c.loop-load.load-index c.loop-load.memory _ c.loop-load.invariant c.loop-load-test.false)
