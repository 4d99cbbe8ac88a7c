use Rattle.std.proofs.Common.{rules, tests, refl}
use Rattle.std.proofs.lemmas.Iterator.Consumers.{YieldsList-from_first}
use Rattle.std.proofs.lemmas.Iterator.Search.{all_from_yields_List}
use Rattle.span_verdict.specs.Tables.{all_lie_in, lies_in}
use Rattle.span_verdict.proofs.rechecking.all_lie_in.Goals as goal

pub returns : goal.returns
unfolding all_lie_in
returns c =
    all_from_yields_List (λ n. lies_in c.args.table.now.follow c.args.table.now.rows n.context n.ages) _ _ _ c.all.ensures.ran
    (YieldsList-from_first (λ n. n) (λ nexts. nexts) c.args.nexts refl) (λ x b q k. search (rules, tests))
