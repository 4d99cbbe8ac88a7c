-- From what a run reads to a span of its setup, and on to the rows of a table file.
use Rattle.std.proofs.Common.{◌≡◌, ◌∙◌, ℕ, Option, Some, None, IfSome, List, [], ◌∷◌, Ok, Err, option_map, refl, sym, ap}
use Rattle.pio_edge.specs.Edge.{Files}
use Rattle.pio_edge.specs.declared.shelf.Shelf.{Ghosts as ShelfSeen}
use Rattle.pin_matrix.specs.Followed.{followed}
use Rattle.pin_matrix.specs.declared.setup.Setup.{Setup}
use Rattle.pin_matrix.specs.declared.span.Span.{Span}
use Rattle.dreq_pacing.specs.declared.line.Line.{Line}
use Rattle.span_bounds.specs.declared.row.Row.{Row}
use Rattle.fault_lines.specs.declared.fault.File.TheVariants as file
use Rattle.fault_lines.specs.declared.fault.Fault.{Fault}
use Rattle.fault_lines.specs.declared.fault.Fault.TheVariants as fault
use Rattle.stages.specs.Fetching.{slot, one_slot, run_slots}
use Rattle.stages.specs.Judged.{Judged, right, wrong, and_then, is_right, prepared_at, judged_span, span_at, table_at, recheck_at}
use Rattle.stages.specs.Named.{named_from, span_named}
use Rattle.stages.specs.Stages.{KeepsPlan, ReadFails, Shelved, run_plan, span_plan, table_plan, recheck_plan}
use Rattle.stages.proofs.Asking.{asks_first, stops_first, stops_last}
use Rattle.stages.proofs.Parts.{told, of_all, goes_on, went_nowhere, went_on, came_to, goes_right, fails_after, fails_further, gives_further}

-- what a run comes to decides what is said of the span of a name
span_of : (f : Files) (source : List ℕ) (config : Option (List ℕ)) (name : List ℕ) (j : Judged (Setup × List Line)) → prepared_at f source config None ≡ j
    → span_at f source config name ≡ and_then j (λ prepared. judged_span prepared.0 (span_named name prepared.0.spans))
unfolding span_at
span_of f source config name j e =
    ap (λ (k : Judged (Setup × List Line)). and_then k (λ prepared. judged_span prepared.0 (span_named name prepared.0.spans))) e

-- what the run fails with
pub span_fails : {F V W : Type 0} (seen : ShelfSeen F) (source : List ℕ) (config : Option (List ℕ)) (name : List ℕ) (view : V → Setup × List Line)
    (shown : W → Setup × Span) (before after : F) (e : Fault) → KeepsPlan seen (run_plan source config None) view before after (Err e)
    → KeepsPlan seen (span_plan source config name) shown before after (Err e)
span_fails seen source config name view shown before after e k =
    fails_further seen (run_plan source config None) _ view shown before after e (λ f w. span_of f source config name _ w) k

-- a span has the name
pub span_found : {F V : Type 0} (seen : ShelfSeen F) (source : List ℕ) (config : Option (List ℕ)) (name : List ℕ) (view : V → Setup × List Line) (v : V)
    (place : ℕ) (sp : Span) (before after : F) → KeepsPlan seen (run_plan source config None) view before after (Ok v)
    → Some (place, sp) ≡ named_from 0 name (view v).0.spans
    → KeepsPlan seen (span_plan source config name) (λ (asked : Setup × Span). asked) before after (Ok ((view v).0, sp))
span_found seen source config name view v place sp before after k found =
    gives_further seen (run_plan source config None) _ view _ before after v ((view v).0, sp)
    (λ f e. span_of f source config name _ e ∙ ap (λ o. judged_span (view v).0 (option_map (λ p. p.1) o)) (sym found)) k

-- none has it: the configuration was read last
pub no_span : {F V W : Type 0} (seen : ShelfSeen F) (source : List ℕ) (config : Option (List ℕ)) (name : List ℕ) (view : V → Setup × List Line) (v : V)
    (shown : W → Setup × Span) (before after : F) → KeepsPlan seen (run_plan source config None) view before after (Ok v)
    → None ≡ named_from 0 name (view v).0.spans → KeepsPlan seen (span_plan source config name) shown before after (Err fault.NoSpan)
no_span seen source config name view v shown before after k none = record {
  same = k.same;
  stage = (
    k.stage.0,
    told (seen.holds before) _ _
        (λ f e. span_of f source config name _ e ∙ ap (λ o. judged_span (view v).0 (option_map (λ p. p.1) o)) (sym none)) k.stage.1,
  );
  asked = stops_first (slot file.Source (Some source) ∷ slot file.Config config ∷ []) (one_slot file.Stimulus None) _ _ _
      (stops_last (one_slot file.Source (Some source)) file.Config config _ _ k.asked);
}

-- ---- and then a table file

-- from the span a recheck goes on to the table
from_span : (files : Option Files) (source : List ℕ) (config : Option (List ℕ)) (name table : List ℕ) (j : Judged (Setup × Span))
    → IfSome files (λ f. span_at f source config name ≡ j)
    → IfSome files (λ f. recheck_at f source config name table
    ≡ and_then j (λ asked. and_then (table_at (followed asked.1) f table) (λ rows. right (asked, rows))))
unfolding recheck_at
from_span files source config name table j s =
    goes_on files (λ f. recheck_at f source config name table) (λ f. span_at f source config name)
    (λ f asked. and_then (table_at (followed asked.1) f table) (λ rows. right (asked, rows))) j (of_all files _ (λ f. refl)) s

recheck_unread : (shelf : Shelved) (source : List ℕ) (config : Option (List ℕ)) (name table : List ℕ) (e : Fault)
    → ReadFails shelf (span_plan source config name) e → ReadFails shelf (recheck_plan source config name table) e
recheck_unread shelf source config name table (fault.Shelf file.Table) h = absurd h.0
recheck_unread shelf source config name table (fault.Shelf role) h = h
recheck_unread shelf source config name table fault.Memory h = h
recheck_unread shelf source config name table fault.Usage h = h
recheck_unread shelf source config name table fault.Out h = h
recheck_unread shelf source config name table (fault.Unproved place at refusal) h = h
recheck_unread shelf source config name table (fault.SecondUnproved place at refusal) h = h
recheck_unread shelf source config name table (fault.Flaw place at flaw) h = h
recheck_unread shelf source config name table e h = (h.0, from_span shelf.files source config name table (wrong e) h.1)

-- what is read before the table fails
pub recheck_fails : {F V W : Type 0} (seen : ShelfSeen F) (source : List ℕ) (config : Option (List ℕ)) (name table : List ℕ) (view : V → Setup × Span)
    (shown : W → (Setup × Span) × List Row) (before after : F) (e : Fault) → KeepsPlan seen (span_plan source config name) view before after (Err e)
    → KeepsPlan seen (recheck_plan source config name table) shown before after (Err e)
recheck_fails seen source config name table view shown before after e k = record {
  same = k.same;
  stage = recheck_unread _ source config name table e k.stage;
  asked = asks_first (run_slots source config None) (one_slot file.Table (Some table)) _ _ e k.asked;
}

-- the table fails, after the span was found
pub table_fails : {F V W : Type 0} (seen : ShelfSeen F) (source : List ℕ) (config : Option (List ℕ)) (name table : List ℕ) (asked : Setup × Span)
    (view : V → List Row) (shown : W → (Setup × Span) × List Row) (before mid after : F) (e : Fault)
    → KeepsPlan seen (span_plan source config name) (λ (a : Setup × Span). a) before mid (Ok asked)
    → KeepsPlan seen (table_plan (followed asked.1) table) view mid after (Err e)
    → KeepsPlan seen (recheck_plan source config name table) shown before after (Err e)
table_fails seen source config name table asked view shown before mid after e s k =
    fails_after seen (run_slots source config None) [] file.Table (Some table) (λ f. table_at (followed asked.1) f table)
    (λ f rows. right (asked, rows)) (recheck_plan source config name table) view shown before mid after e refl (λ P h. h)
    (told (seen.holds before) _ _ (λ f r. ap is_right r) s.stage.1) (from_span (seen.holds before) source config name table (right asked) s.stage.1)
    (went_on seen [] _ _ _ _ _ _ (went_nowhere seen before) s) k

-- or was read too
pub table_read : {F V : Type 0} (seen : ShelfSeen F) (source : List ℕ) (config : Option (List ℕ)) (name table : List ℕ) (asked : Setup × Span)
    (view : V → List Row) (v : V) (before mid after : F)
    → KeepsPlan seen (span_plan source config name) (λ (a : Setup × Span). a) before mid (Ok asked)
    → KeepsPlan seen (table_plan (followed asked.1) table) view mid after (Ok v)
    → KeepsPlan seen (recheck_plan source config name table) (λ (read : (Setup × Span) × List Row). read) before after (Ok (asked, view v))
table_read seen source config name table asked view v before mid after s k =
    let w = went_on seen [] _ _ _ _ _ _ (went_nowhere seen before) s in
    goes_right seen (recheck_plan source config name table) _ _ before after (went_on seen _ _ _ _ _ _ _ w k)
    (goes_on (seen.holds before) (λ f. recheck_at f source config name table) (λ f. table_at (followed asked.1) f table)
    (λ f rows. right (asked, rows)) (right (view v)) (from_span (seen.holds before) source config name table (right asked) s.stage.1)
    (came_to seen _ _ _ _ w k.stage.1))
