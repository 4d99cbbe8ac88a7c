use Rattle.std.proofs.Common.{rules, tests, refl}
use Rattle.std.proofs.lemmas.Iterator.{YieldsList-from_range}
use Rattle.std.proofs.lemmas.Iterator.Search.{find_from_yields_List}
use Rattle.span_verdict.specs.Sharing.{shares}
use Rattle.span_verdict.proofs.Sharers.{searched}
use Rattle.span_verdict.proofs.sharing.first_sharer.Goals as goal

pub returns : goal.returns
returns c =
    searched c.args.machines.now c.args.span.now c.told-machines c.find.result
    (find_from_yields_List (shares c.args.machines.now c.args.span.now) _ _ _ c.find.ensures.ran (YieldsList-from_range 0 4 4 refl refl) (λ x b q k. search (rules, tests)))
