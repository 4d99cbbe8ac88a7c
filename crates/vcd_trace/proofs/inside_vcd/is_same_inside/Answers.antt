use Rattle.std.proofs.Common.{Bool, ◌≡◌, true, eqb, ap, ◌∙◌, sym}
use Rattle.std.specs.Prelude.{◌&&◌}
use Rattle.vcd_trace.specs.InsideText.{same_machines}
use Rattle.vcd_trace.proofs.InsideSame.{derived_machines-are}
use Rattle.vcd_trace.proofs.inside_vcd.is_same_inside.Goals as goal
use Rattle.vcd_trace.proofs.inside_vcd.is_same_inside.Goals.{then-is_same, else-is_same}

pub returns-then-before-now : goal.returns-then-before-now
returns-then-before-now c =
    let a = c.args.before.now in
    let b = c.args.now.now in
    let machines = same_machines a.machines b.machines in
    elim c.if-is_same.branch [
      | then-is_same w ↦
          let pads : eqb a.pads b.pads ≡ true = sym w.value-is ∙ c.if-before-now.true in
          c.eq.ensures ∙ derived_machines-are a.machines b.machines
          ∙ sym (ap (λ (t : Bool). t && (eqb a.pads b.pads && machines)) (sym c.is_same.ensures ∙ w.if-is_same.true) ∙ ap (λ (t : Bool). t && machines) pads)
      | else-is_same w ↦ cc
    ]
