use Rattle.std.proofs.Common.{ap, sym, ◌∙◌}
use Rattle.pio_encode.specs.declared.act.Condition.{Condition}
use Rattle.sm_registers.specs.Effects as spec
use Rattle.sm_registers.proofs.jump.jmp_effect.Goals as goal

pub returns-in-XDecrement : goal.returns-in-XDecrement
returns-in-XDecrement c =
    c.count_x.ensures c.args.setup.now c.args.view.now
    ∙ ap (λ (k : Condition). spec.jmp_effect k c.args.address c.args.setup.now c.args.view.now c.args.registers.now) (sym c.in-XDecrement.is)

pub returns-in-YDecrement : goal.returns-in-YDecrement
returns-in-YDecrement c =
    c.count_y.ensures c.args.setup.now c.args.view.now
    ∙ ap (λ (k : Condition). spec.jmp_effect k c.args.address c.args.setup.now c.args.view.now c.args.registers.now) (sym c.in-YDecrement.is)
