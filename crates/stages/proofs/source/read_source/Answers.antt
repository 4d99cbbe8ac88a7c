use Rattle.std.proofs.Common.{rules, Some, [], refl}
use Rattle.fault_lines.specs.declared.fault.File.TheVariants.{Source}
use Rattle.stages.specs.Judged.{source_at}
use Rattle.stages.proofs.Asking.{stops_last}
use Rattle.stages.proofs.Parts.{no_memory}
use Rattle.stages.proofs.source.read_source.Goals as goal

-- as the search finds it; a wrong body is refused at once
pub returns-in-Ok : goal.returns-in-Ok
unfolding source_at
returns-in-Ok g c = record { same = c.in_ok-bytes.ensures.plan.same; stage = search rules steps 1000000; asked = c.in_ok-bytes.ensures.plan.asked }

pub returns-in-Err-Memory : goal.returns-in-Err-Memory
returns-in-Err-Memory g c = no_memory g.F.Shelf _ _ _ _ _ _ _ refl c.in_ok-bytes.ensures.plan

pub returns : goal.returns
unfolding source_at
returns g c = record {
  same = c.in_ok-bytes.ensures.plan.same;
  stage = search rules steps 1000000;
  asked = stops_last [] Source (Some c.args.name.now) _ _ c.in_ok-bytes.ensures.plan.asked;
}
