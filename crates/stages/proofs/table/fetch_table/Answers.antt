use Rattle.std.proofs.Common.{rules, Some, [], refl}
use Rattle.fault_lines.specs.declared.fault.File.TheVariants.{Table}
use Rattle.stages.specs.Judged.{table_at}
use Rattle.stages.proofs.Asking.{stops_last}
use Rattle.stages.proofs.Parts.{no_memory}
use Rattle.stages.proofs.table.fetch_table.Goals as goal

-- as the search finds it; a wrong body is refused at once
pub returns-in-Ok-clause-plan : goal.returns-in-Ok-clause-plan
unfolding table_at
returns-in-Ok-clause-plan g c = record { same = c.in_ok-bytes.ensures.plan.same; stage = search rules steps 1000000; asked = c.in_ok-bytes.ensures.plan.asked }

pub returns-in-Err-Memory-clause-plan : goal.returns-in-Err-Memory-clause-plan
returns-in-Err-Memory-clause-plan g c = no_memory g.F.Shelf _ _ _ _ _ _ _ refl c.in_ok-bytes.ensures.plan

pub returns-clause-plan : goal.returns-clause-plan
unfolding table_at
returns-clause-plan g c = record {
  same = c.in_ok-bytes.ensures.plan.same;
  stage = search rules steps 1000000;
  asked = stops_last [] Table (Some c.args.name.now) _ _ c.in_ok-bytes.ensures.plan.asked;
}
