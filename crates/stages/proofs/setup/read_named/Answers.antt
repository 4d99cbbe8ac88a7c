use Rattle.std.proofs.Common.{rules, Some, [], refl}
use Rattle.fault_lines.specs.declared.fault.File.TheVariants.{Config}
use Rattle.stages.specs.Judged.{config_at}
use Rattle.stages.proofs.Asking.{stops_last}
use Rattle.stages.proofs.Parts.{no_memory}
use Rattle.stages.proofs.Configured.{config_configured}
use Rattle.stages.proofs.setup.read_named.Goals as goal

pub returns-in-Ok-clause-configured : goal.returns-in-Ok-clause-configured
returns-in-Ok-clause-configured g c =
    config_configured _ _ _ (c.a_configuration_is_not_clipped.ensures _ c.args.programs.now) c.in-Ok.ensures.value

-- as the search finds it; a wrong body is refused at once
pub returns-in-Ok-clause-plan : goal.returns-in-Ok-clause-plan
unfolding config_at
returns-in-Ok-clause-plan g c = record { same = c.in_ok-bytes.ensures.plan.same; stage = search rules steps 1000000; asked = c.in_ok-bytes.ensures.plan.asked }

pub returns-in-Err-Memory-clause-plan : goal.returns-in-Err-Memory-clause-plan
returns-in-Err-Memory-clause-plan g c = no_memory g.F.Shelf _ _ _ _ _ _ _ refl c.in_ok-bytes.ensures.plan

pub returns-clause-plan : goal.returns-clause-plan
unfolding config_at
returns-clause-plan g c = record {
  same = c.in_ok-bytes.ensures.plan.same;
  stage = search rules steps 1000000;
  asked = stops_last [] Config (Some c.args.name.now) _ _ c.in_ok-bytes.ensures.plan.asked;
}
