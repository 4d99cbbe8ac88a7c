use Rattle.std.proofs.Common.{◌≡◌, false, not, ◌&&◌, ◌||◌, slice_index_or, subst}
use Rattle.block_core.specs.Slots.{Slot, has_tick, lined}
use Rattle.block_core.proofs.ClocksOfNote.{lined_tick}
use Rattle.block_core.proofs.slot.Slot.ticks_after.Goals as goal

pub returns : goal.returns
returns g c =
    let b = c.self.inside in
    let d = c.args.due.now in
    let place = c.place-place.result in
    let now = c.ticks_now-now.result in
    let s : Slot = record { machine = b.machine; timing = b.divider; enabled = b.enabled; sent = b.sent; received = b.received } in
    subst (λ (x : Slot). place ≡ x.machine.setup.id
    → ((slice_index_or d.enable place false || (not (slice_index_or d.disable place false) && b.enabled)) && (slice_index_or d.restart place false || now)) ≡ has_tick (lined d x))
    c.self.view_is (lined_tick d s place now c.ticks_now-now.ensures.value) c.place-place.ensures.id
