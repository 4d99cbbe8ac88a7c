use Rattle.std.proofs.Common.{rules, ◌≡◌, true, false, Some, None, List, sym, ap, ◌∙◌}
use Rattle.pin_matrix.specs.Followed.{followed}
use Rattle.span_step.specs.declared.ages.Ages.TheVariants.{Empty}
use Rattle.span_bounds.specs.declared.row.Row.{Row}
use Rattle.span_bounds.specs.Tables.{start_context}
use Rattle.span_verdict.specs.Flaws.{first_flaw, rows_flaw}
use Rattle.span_verdict.specs.Tables.{lies_in}
use Rattle.span_verdict.proofs.Flawless.{flawless, no_flaw, unstarted}
use Rattle.span_verdict.proofs.flawing.flaw.Goals as goal

pub returns-then-has_start-clause-none : goal.returns-then-has_start-clause-none
returns-then-has_start-clause-none c =
    let u = c.args.setup.now in
    let sp = c.args.span.now in
    let t = c.args.table.now.rows in
    let start : lies_in (followed sp) t (start_context u sp) Empty ≡ true = sym c.has_start.ensures.value ∙ c.if-has_start.true in
    let flaw : c.rows_flaw.result ≡ rows_flaw u sp t t =
    c.rows_flaw.ensures ∙ ap (λ (rs : List Row). rows_flaw u sp t rs) c.rows-rows.ensures.rows in
    (λ h. flawless u sp t start (sym flaw ∙ h), λ h. flaw ∙ no_flaw u sp t (rw (← c.requires.follow) c.rows-rows.ensures.table) h)

pub returns-else-has_start-clause-none : goal.returns-else-has_start-clause-none
returns-else-has_start-clause-none c =
    let u = c.args.setup.now in
    let sp = c.args.span.now in
    let t = c.args.table.now.rows in
    let start : lies_in (followed sp) t (start_context u sp) Empty ≡ false = sym c.has_start.ensures.value ∙ c.if-has_start.false in
    (λ h. absurd (none h), λ h. absurd (unstarted u sp t c.has_start.ensures.placed start h)) where
      none : {A : Type 0} {x : A} → Some x ≡ None → ⊥
      none e = cc

-- as the search finds it; a wrong body is refused at once
pub returns-else-has_start-clause-first : goal.returns-else-has_start-clause-first
unfolding first_flaw
returns-else-has_start-clause-first c = search rules
