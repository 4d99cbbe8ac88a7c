use Rattle.std.proofs.Common.{rules, tests, ◌≡◌, true, sym, ◌∙◌}
use Rattle.std.proofs.lemmas.Iterator.Consumers.{YieldsList-from_first}
use Rattle.std.proofs.lemmas.Iterator.Search.{all_from_yields_List}
use Rattle.std.specs.List.{list_all}
use Rattle.pin_matrix.specs.Followed.{followed}
use Rattle.span_step.specs.declared.ages.Ages.TheVariants.{Empty}
use Rattle.span_bounds.specs.Tables.{start_context}
use Rattle.span_verdict.specs.Tables.{is_right, lies_in}
use Rattle.span_verdict.proofs.Checks.{closed_and_good, tests_pass}
use Rattle.span_verdict.proofs.rechecking.is_proof.Goals as goal

pub returns-then-has_start-clause-sound : goal.returns-then-has_start-clause-sound
returns-then-has_start-clause-sound c =
    let u = c.args.setup.now in
    let sp = c.args.span.now in
    let t = c.args.table.now.rows in
    let all : c.all.result ≡ list_all (is_right u sp t) t =
    all_from_yields_List (is_right u sp t) _ _ _ c.all.ensures.ran
    (YieldsList-from_first (λ r. r) (λ rows. rows) t c.rows-rows.ensures.rows) (λ x b q k. search (rules, tests)) in
    let start : lies_in (followed sp) t (start_context u sp) Empty ≡ true = sym c.has_start.ensures.value ∙ c.if-has_start.true in
    (λ h. closed_and_good u sp t start (sym all ∙ h), λ h. all ∙ tests_pass u sp t (rw (← c.requires.follow) c.rows-rows.ensures.table) h)
