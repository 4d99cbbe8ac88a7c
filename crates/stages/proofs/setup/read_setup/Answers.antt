use Rattle.std.proofs.Common.{rules, None, [], map, refl}
use Rattle.pio_assemble.specs.Program.{assembled_of}
use Rattle.fault_lines.specs.declared.fault.File.TheVariants.{Config}
use Rattle.stages.proofs.Asking.{none_named, stops_last}
use Rattle.stages.proofs.Configured.{default_configured}
use Rattle.stages.proofs.setup.read_setup.Goals as goal

pub returns-in-Ok-clause-configured : goal.returns-in-Ok-clause-configured
returns-in-Ok-clause-configured g c =
    default_configured (map assembled_of c.args.programs.now) _ (c.the_default_is_not_clipped.ensures c.args.programs.now) c.in-Ok.ensures.value

pub returns-in-Err-At-clause-plan : goal.returns-in-Err-At-clause-plan
returns-in-Err-At-clause-plan g c =
    record { same = refl; stage = search rules; asked = rw c.in-None.is (stops_last [] Config None _ _ (none_named Config _)) }
