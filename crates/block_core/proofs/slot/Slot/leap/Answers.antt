use Rattle.block_core.specs.Slots.{Slot}
use Rattle.block_core.proofs.LeaptSlot.{calm_ticks}
use Rattle.block_core.proofs.slot.Slot.leap.Goals as goal

pub leap-requires : goal.leap-requires
leap-requires g c =
    let b = c.self.inside in
    let s : Slot = record { machine = b.machine; timing = b.divider; enabled = b.enabled; sent = b.sent; received = b.received } in
    calm_ticks c.a_calm_tick_only_counts.ensures.often c.args.view.now s c.args.self.now c.self.view_is c.if-self.true c.args.clocks c.ticks_within-ticks.result c.ticks_within-ticks.ensures.count c.requires.calm
