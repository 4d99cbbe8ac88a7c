use Rattle.std.proofs.Common.{ℕ, List, inl, ap}
use Rattle.fault_lines.specs.declared.fault.Fault.TheVariants as fault
use Rattle.commands.proofs.span_fault.unproved.Goals as goal

pub returns-in-Ok : goal.returns-in-Ok
returns-in-Ok c = inl (ap (λ (name : List ℕ). fault.Unproved c.args.place name c.args.refusal) c.in-Ok.ensures)
