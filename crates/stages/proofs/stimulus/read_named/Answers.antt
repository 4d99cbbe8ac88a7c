use Rattle.std.proofs.Common.{rules, Some, [], refl}
use Rattle.fault_lines.specs.declared.fault.File.TheVariants.{Stimulus}
use Rattle.stages.specs.Judged.{stimulus_at}
use Rattle.stages.proofs.Asking.{stops_last}
use Rattle.stages.proofs.Parts.{no_memory}
use Rattle.stages.proofs.stimulus.read_named.Goals as goal

-- as the search finds it; a wrong body is refused at once
pub returns-in-Ok : goal.returns-in-Ok
unfolding stimulus_at
returns-in-Ok g c = record { same = c.in_ok-bytes.ensures.plan.same; stage = search rules steps 1000000; asked = c.in_ok-bytes.ensures.plan.asked }

pub returns-in-Err-Memory : goal.returns-in-Err-Memory
returns-in-Err-Memory g c = no_memory g.F.Shelf _ _ _ _ _ _ _ refl c.in_ok-bytes.ensures.plan

pub returns : goal.returns
unfolding stimulus_at
returns g c = record {
  same = c.in_ok-bytes.ensures.plan.same;
  stage = search rules steps 1000000;
  asked = stops_last [] Stimulus (Some c.args.name.now) _ _ c.in_ok-bytes.ensures.plan.asked;
}
