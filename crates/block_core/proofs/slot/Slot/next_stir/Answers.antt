use Rattle.std.proofs.Common.{◌≡◌, false, Some, refl, subst}
use Rattle.dreq_pacing.specs.Ports.{IsFirst}
use Rattle.block_core.specs.Leaps.{stirs_after}
use Rattle.block_core.specs.Slots.{Slot}
use Rattle.block_core.proofs.LeaptSlot.{disabled_leaps, never_stirs, first_stir}
use Rattle.block_core.proofs.slot.Slot.next_stir.Goals as goal

pub returns-then-not-self : goal.returns-then-not-self
returns-then-not-self g c = λ n le.
    let b = c.self.inside in
    let s : Slot = record { machine = b.machine; timing = b.divider; enabled = b.enabled; sent = b.sent; received = b.received } in
    subst (λ (s : Slot). stirs_after c.args.view.now (Some s) n ≡ false) c.self.view_is (disabled_leaps c.args.view.now s c.if-not-self.true n)

pub returns-in-Ticks : goal.returns-in-Ticks
returns-in-Ticks g c =
    let b = c.self.inside in
    let s : Slot = record { machine = b.machine; timing = b.divider; enabled = b.enabled; sent = b.sent; received = b.received } in
    let clocks = c.clocks_to_tick in
    subst (λ (s : Slot). IsFirst (stirs_after c.args.view.now (Some s)) 0 (Some clocks.result)) c.self.view_is
    (first_stir c.a_calm_tick_only_counts.ensures.often c.args.view.now s c.if-not-self.false c.in-Ticks.ticks c.in-Ticks.ticks clocks.result refl c.in-Ticks.ensures.first clocks.ensures.test clocks.ensures.count)

pub returns-in-Never : goal.returns-in-Never
returns-in-Never g c = λ n le.
    let b = c.self.inside in
    let s : Slot = record { machine = b.machine; timing = b.divider; enabled = b.enabled; sent = b.sent; received = b.received } in
    subst (λ (s : Slot). stirs_after c.args.view.now (Some s) n ≡ false) c.self.view_is
    (never_stirs c.a_calm_tick_only_counts.ensures.often c.args.view.now s c.in-Never.ensures.first n)
