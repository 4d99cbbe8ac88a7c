-- Each plan of its own does what its act does.
use Rattle.std.proofs.Common.{subst, sym, ◌∙◌}
use Rattle.sm_registers.specs.declared.plan.Plan.{Plan}
use Rattle.sm_registers.specs.Effects as spec_effects
use Rattle.sm_registers.specs.State.{queues_of}
use Rattle.sm_registers.proofs.Planned.{HasEffect, has_effect}
use Rattle.sm_registers.proofs.simple.planned_effect.Goals as goal

pub returns-in-Jump-clause-effect : goal.returns-in-Jump-clause-effect
returns-in-Jump-clause-effect g c =
    let q = queues_of c.args.fifos.now in let op = c.args.reading.now.op in
    subst (λ (p : Plan). HasEffect p c.args.setup.now c.args.view.now c.args.registers.now (spec_effects.effect_of op.act c.args.setup.now c.args.view.now q c.args.registers.now))
    (sym c.requires.reading.1.plan ∙ c.in-Jump.is) (has_effect c.args.setup.now op.act c.args.view.now q c.args.registers.now c.requires.autopull)

pub returns-in-CountX-clause-effect : goal.returns-in-CountX-clause-effect
returns-in-CountX-clause-effect g c =
    let q = queues_of c.args.fifos.now in let op = c.args.reading.now.op in
    c.count_x.ensures c.args.setup.now c.args.view.now
    ∙ subst (λ (p : Plan). HasEffect p c.args.setup.now c.args.view.now c.args.registers.now (spec_effects.effect_of op.act c.args.setup.now c.args.view.now q c.args.registers.now))
    (sym c.requires.reading.1.plan ∙ c.in-CountX.is) (has_effect c.args.setup.now op.act c.args.view.now q c.args.registers.now c.requires.autopull)

pub returns-in-CountY-clause-effect : goal.returns-in-CountY-clause-effect
returns-in-CountY-clause-effect g c =
    let q = queues_of c.args.fifos.now in let op = c.args.reading.now.op in
    c.count_y.ensures c.args.setup.now c.args.view.now
    ∙ subst (λ (p : Plan). HasEffect p c.args.setup.now c.args.view.now c.args.registers.now (spec_effects.effect_of op.act c.args.setup.now c.args.view.now q c.args.registers.now))
    (sym c.requires.reading.1.plan ∙ c.in-CountY.is) (has_effect c.args.setup.now op.act c.args.view.now q c.args.registers.now c.requires.autopull)

pub returns-in-Set-clause-effect : goal.returns-in-Set-clause-effect
returns-in-Set-clause-effect g c =
    let q = queues_of c.args.fifos.now in let op = c.args.reading.now.op in
    subst (λ (p : Plan). HasEffect p c.args.setup.now c.args.view.now c.args.registers.now (spec_effects.effect_of op.act c.args.setup.now c.args.view.now q c.args.registers.now))
    (sym c.requires.reading.1.plan ∙ c.in-Set.is) (has_effect c.args.setup.now op.act c.args.view.now q c.args.registers.now c.requires.autopull)

pub returns-in-Out-clause-effect : goal.returns-in-Out-clause-effect
returns-in-Out-clause-effect g c =
    let q = queues_of c.args.fifos.now in let op = c.args.reading.now.op in
    c.put_bits_out.ensures
    ∙ subst (λ (p : Plan). HasEffect p c.args.setup.now c.args.view.now c.args.registers.now (spec_effects.effect_of op.act c.args.setup.now c.args.view.now q c.args.registers.now))
    (sym c.requires.reading.1.plan ∙ c.in-Out.is) (has_effect c.args.setup.now op.act c.args.view.now q c.args.registers.now c.requires.autopull)
