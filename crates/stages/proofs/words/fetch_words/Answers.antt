use Rattle.std.proofs.Common.{rules, Some, []}
use Rattle.fault_lines.specs.declared.fault.File.TheVariants.{Words}
use Rattle.stages.specs.Judged.{words_at}
use Rattle.stages.proofs.Asking.{stops_last}
use Rattle.stages.proofs.words.fetch_words.Goals as goal

-- as the search finds it; a wrong body is refused at once
pub returns-in-Ok : goal.returns-in-Ok
unfolding words_at
returns-in-Ok g c = record { same = c.in_ok-bytes.ensures.plan.same; stage = search rules steps 1000000; asked = c.in_ok-bytes.ensures.plan.asked }

pub returns : goal.returns
unfolding words_at
returns g c = record {
  same = c.in_ok-bytes.ensures.plan.same;
  stage = search rules steps 1000000;
  asked = stops_last [] Words (Some c.args.name.now) _ _ c.in_ok-bytes.ensures.plan.asked;
}
