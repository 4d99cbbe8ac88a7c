use Rattle.std.proofs.Common.{◌≡◌, ◌+◌, ◌-◌, Some, ap, ◌∙◌, subst}
use Rattle.sm_registers.specs.declared.registers.Registers.{Registers}
use Rattle.block_core.specs.Conduct.{rests_in}
use Rattle.block_core.specs.Slots.{Slot}
use Rattle.block_core.proofs.DelayEnds.{rests-later}
use Rattle.block_core.proofs.slot.Slot.rests.Goals as goal

pub returns : goal.returns
returns g c =
    let b = c.self.inside in
    let s : Slot = record { machine = b.machine; timing = b.divider; enabled = b.enabled; sent = b.sent; received = b.received } in
    let clocks = c.clocks_to_tick in
    let same : c.registers.result.now.delay ≡ c.self.inside.machine.registers.delay = ap (λ (r : Registers). r.delay) c.registers.ensures.value in
    subst (λ (s : Slot). Some (c.args.clock + 1 + clocks.result) ≡ rests_in c.args.clock s) c.self.view_is
    (rests-later c.args.clock clocks.result c.from.result s
    (ap (λ (s : Slot). s.timing.clock) c.self.view_is ∙ c.requires.step)
    (λ none. c.if-delay-eq0.false (◌∙◌ {a = c.registers.result.now.delay} same none))
    c.if-not-self.false
    clocks.ensures.test
    clocks.ensures.count
    (c.from.ensures ∙ ap (λ n. n - 1) same))
