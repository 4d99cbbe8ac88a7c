-- How a task is done: by a text that is written, and by what is asked of spans.
use Rattle.std.proofs.Common.{◌≡◌, ◌≢◌, ◌∙◌, ℕ, Bool, Some, List, Result, Ok, Err, inl, inr, refl, sym, ap, subst}
use Rattle.pio_edge.specs.Edge.{TakesPrefix, with_bytes}
use Rattle.pin_matrix.specs.declared.setup.Setup.{Setup}
use Rattle.pin_matrix.specs.declared.span.Span.{Span}
use Rattle.span_bounds.specs.declared.row.Row.{Row}
use Rattle.span_bounds.specs.Tables.{FollowedRows}
use Rattle.span_check.specs.Proved.{HoldsInEveryRun, VerdictHolds}
use Rattle.span_verdict.specs.declared.verdict.Verdict.{Verdict}
use Rattle.span_verdict.specs.declared.verdict.Verdict.TheVariants as verdict
use Rattle.span_verdict.specs.Verdicts.{IsVerdict}
use Rattle.span_texts.specs.declared.refusal.Finding.{Finding}
use Rattle.span_texts.specs.declared.refusal.Refusal.{Refusal}
use Rattle.span_texts.specs.declared.refusal.Refusal.TheVariants.{Unproved}
use Rattle.span_texts.specs.FlawLines.{rechecked_line}
use Rattle.span_texts.specs.Rows.{table_text}
use Rattle.fault_lines.specs.declared.fault.Fault.{Fault}
use Rattle.fault_lines.specs.declared.fault.Fault.TheVariants as fault
use Rattle.fault_lines.specs.Output.{Output}
use Rattle.stages.specs.Named.{named_from}
use Rattle.stages.specs.Pairs.{AreBothRequired}
use Rattle.stages.specs.Spans.{AreRequired, AreVerdicts, IsProvableAlone, verdict_text}
use Rattle.stages.proofs.Naming.{found_named}
use Rattle.commands.specs.Does.{Does, HasWritten}
use Rattle.commands.specs.Needs.{RequiredBefore, AllRunsHold, IsMet, IsNamedAt, IsProvedBy}
use Rattle.commands.specs.Tasks.{Task, listing, trace, twin_trace, verdicts, tabled, rechecked, HasText}
use Rattle.commands.specs.Written.{HasTaken, Writes}
use Rattle.commands.specs.Tables.{TellsText}

-- ---- a text is written

-- a task writes this text, and what it needs of spans is met
pub record WritesTask (task : Task) (text : List ℕ) : Type 1 where
  pub has : (P : List ℕ → Type 0) → P text → HasText task P
  pub met : IsMet task
  pub asked : RequiredBefore task
  pub hold : AllRunsHold task

pub wrote : (task : Task) (text : List ℕ) (before after : Output) (r : Result (Unit {0}) Fault) → WritesTask task text → Writes before after text r
    → Does task before after r
wrote task text before after (Ok done) t w = (record { text = t.has _ w.taken; handed = w.handed; faults = w.faults }, (t.met, t.hold))
wrote task text before after (Err fault.Out) t w = (t.has _ w.part, (t.asked, w.rose))
wrote task text before after (Err fault.Memory) t w = w
wrote task text before after (Err e) t w = absurd w

-- a listing needs nothing
pub listed : (text : List ℕ) (before after : Output) (r : Result (Unit {0}) Fault) → Writes before after text r → Does (listing text) before after r
listed text before after r w = wrote (listing text) text before after r (record { has = λ P h. h; met = tt; asked = tt; hold = tt }) w

-- ---- spans are asked

-- those of a run
pub asked_fails : (u : Setup) (text : List ℕ) (out : Output) (e : Fault) → AreRequired u (Err e) → Does (trace u text) out out (Err e)
asked_fails u text out fault.Memory h = refl
asked_fails u text out (fault.Unproved place name refusal) h = (h, refl)
asked_fails u text out e h = absurd h

-- those of two blocks
pub both_fail : (s t : Setup) (text : List ℕ) (out : Output) (e : Fault) → AreBothRequired s t (Err e) → Does (twin_trace s t text) out out (Err e)
both_fail s t text out fault.Memory h = refl
both_fail s t text out (fault.Unproved place name refusal) h = (h, refl)
both_fail s t text out (fault.SecondUnproved place name refusal) h = (h, refl)
both_fail s t text out e h = absurd h

-- ---- verdicts

-- their lines failed
pub verdicts_fail : (u : Setup) (found : List (Result Finding Refusal)) (text : List ℕ) (before after : Output) (e : Fault) → AreVerdicts u u.spans found
    → text ≡ verdict_text u.spans found → Writes before after text (Err e) → Does (verdicts u) before after (Err e)
verdicts_fail u found text before after fault.Out v is h =
    ((found, v, subst (λ (t : List ℕ). TakesPrefix before.taken t after.taken) is h.part), (tt, h.rose))
verdicts_fail u found text before after fault.Memory v is h = h
verdicts_fail u found text before after e v is h = absurd h

-- they were written, and the first span that isn't provable ends the command
pub verdicts_end : (u : Setup) (found : List (Result Finding Refusal)) (text : List ℕ) (before after : Output) (r : Result (Unit {0}) Fault)
    → AreVerdicts u u.spans found → text ≡ verdict_text u.spans found → HasTaken before text after → AreRequired u r → r ≢ Err fault.Memory
    → Does (verdicts u) before after r
verdicts_end u found text before after r v is h asked memory = ends r asked memory
  where
    written : HasWritten (verdicts u) before after
    written = record {
      text = (found, v, subst (λ (t : List ℕ). after.taken ≡ with_bytes before.taken t) is h.taken);
      handed = h.handed;
      faults = h.faults;
    }

    ends : (r : Result (Unit {0}) Fault) → AreRequired u r → r ≢ Err fault.Memory → Does (verdicts u) before after r
    ends (Ok done) asked memory = (written, asked)
    ends (Err (fault.Unproved place name refusal)) asked memory = (asked, written)
    ends (Err fault.Memory) asked memory = absurd (memory refl)
    ends (Err e) asked memory = absurd asked

-- ---- the table of a span

-- a span that was found is the first of its own name
pub named_at : (u : Setup) (place : ℕ) (sp : Span) (name : List ℕ) → Some (place, sp) ≡ named_from 0 name u.spans → IsNamedAt u sp place sp.name
named_at u place sp name found =
    record { named = refl; first = ap (λ t. named_from 0 t u.spans) (found_named name u.spans 0 place sp found) ∙ sym found }

-- the text of its table is told, where the verdict has it
pub proved_does : (u : Setup) (sp : Span) (found : Verdict) (table : FollowedRows) (opens closes : Bool) (before after : Output)
    (r : Result (Unit {0}) Fault) → found ≡ verdict.Proved table opens closes → IsVerdict u sp found → VerdictHolds u sp found
    → TellsText before after (table_text table.rows) r → Does (tabled u sp) before after r
proved_does u sp found table opens closes before after r is v k (inl w) =
    let proved = (subst (IsVerdict u sp) is v).1 in
    let met : IsProvableAlone u sp = record { provable = proved.provable; alone = proved.alone } in
    wrote (tabled u sp) (table_text table.rows) before after r
    (record { has = λ P h. (table.rows, proved.table, (w.0, h)); met = met; asked = met; hold = subst (VerdictHolds u sp) is k }) w.1
proved_does u sp found table opens closes before after r is v k (inr long) =
    let proved = (subst (IsVerdict u sp) is v).1 in
    subst (λ (x : Result (Unit {0}) Fault). Does (tabled u sp) before after x) (sym long.1.0)
    (((table.rows, proved.table, long.0), record { provable = proved.provable; alone = proved.alone }), long.1.1)

-- ---- a table that is rechecked

-- the line of a table that proves the span was written, or not
pub rechecked_does : (u : Setup) (sp : Span) (rows : List Row) (before after : Output) (r : Result (Unit {0}) Fault) → IsProvedBy u sp rows
    → HoldsInEveryRun u sp → Writes before after (rechecked_line sp.name) r → Does (rechecked u sp rows) before after r
rechecked_does u sp rows before after r p k w =
    wrote (rechecked u sp rows) (rechecked_line sp.name) before after r (record { has = λ P h. h; met = p; asked = p; hold = k }) w
