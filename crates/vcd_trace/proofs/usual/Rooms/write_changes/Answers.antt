use Rattle.std.proofs.Common.{◌++◌, List, ℕ, ap, ◌∙◌}
use Rattle.vcd_trace.specs.Groups.{bit_changes}
use Rattle.vcd_trace.proofs.usual.Rooms.write_changes.Goals as goal

pub returns-clause-text : goal.returns-clause-text
returns-clause-text c =
    let a = c.args.last.now in
    let b = c.args.now.now in
    c.write_changed_bit.ensures.text
    ∙ ap (λ (l : List ℕ). bit_changes 33 32 a.sample.level b.sample.level ++ l) (c.write_changed_bit-pads.ensures.text
    ∙ ap (λ (l : List ℕ). bit_changes 161 32 a.pads b.pads ++ l) c.write_machines-machines.ensures.text)
