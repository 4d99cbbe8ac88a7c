use Rattle.std.proofs.Common.{rules, arith, Some, []}
use Rattle.std.proofs.lemmas.Grind.{common_steps}
use Rattle.stages.proofs.Asking.{fails_alone, stops_last}
use Rattle.stages.proofs.fetch.fetch_file.Goals as goal

pub returns-in-Ok-clause-plan : goal.returns-in-Ok-clause-plan
returns-in-Ok-clause-plan g c = record {
  same = c.in-Ok.ensures.same;
  stage = grind (arith, common_steps);
  asked = stops_last [] c.args.role (Some c.args.name.now) _ _ (rw c.limit_of-most.ensures.value at c.in-Ok.ensures.asked);
}

pub returns-in-Err-Failed-clause-plan : goal.returns-in-Err-Failed-clause-plan
returns-in-Err-Failed-clause-plan g c = record {
  same = c.fetch.ensures.same;
  stage = search rules;
  asked = fails_alone c.args.role c.args.name.now _ _
      (rw (c.limit_of-most.ensures.value, c.in-Err-Failed.is, c.in-Err-Failed.field-0-is) at c.fetch.ensures.asked);
}

-- as the search finds it; a wrong body is refused at once
pub returns-in-Ok-2-clause-plan : goal.returns-in-Ok-2-clause-plan
returns-in-Ok-2-clause-plan g c =
    record { same = search rules; stage = grind (arith, common_steps); asked = search rules steps 300000 }
