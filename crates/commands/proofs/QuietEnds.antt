-- Completeness: what a quiet call comes to, end by end.
use Rattle.std.proofs.Common.{◌≡◌, ◌≢◌, ◌∙◌, ℕ, ◌<◌, Option, Some, None, List, IfSome, arith, inl, inr, refl, sym, ap, subst, le_refl}
use Rattle.pin_matrix.specs.declared.setup.Setup.{Setup}
use Rattle.pin_matrix.specs.declared.span.Span.{Span}
use Rattle.span_verdict.specs.Sharing.{IsUnshared, IsLeastSharer}
use Rattle.span_verdict.specs.declared.table_flaw.Flaw.{Flaw}
use Rattle.span_texts.specs.declared.refusal.Refusal.{Refusal}
use Rattle.span_texts.specs.declared.refusal.Refusal.TheVariants.{Unproved, Shared}
use Rattle.pio_edge.specs.Count.{Faults, failed_at, one_more}
use Rattle.pio_edge.specs.Edge.{Files, Rose, with_bytes}
use Rattle.fault_lines.specs.declared.fault.File.{File}
use Rattle.fault_lines.specs.declared.fault.File.TheVariants as file
use Rattle.fault_lines.specs.declared.fault.Fault.{Fault}
use Rattle.fault_lines.specs.declared.fault.Fault.TheVariants as fault
use Rattle.clap.specs.Walk.{Text}
use Rattle.command_line.specs.Words.{Asked, table, WordsAreTaken}
use Rattle.stages.specs.Judged.{Judged, right, wrong, IfRight}
use Rattle.stages.specs.Spans.{IsFirstRefused}
use Rattle.stages.specs.Stages.{HasSuch}
use Rattle.commands.specs.Tasks.{Task, listing, trace, twin_trace, verdicts, tabled, rechecked, judge, file_in, ComesTo, HasText, HasLongText}
use Rattle.commands.specs.Needs.{IsMet, IsNamedAt, IsRefusedBy, IsSecondRefusedBy, IsFlawed}
use Rattle.commands.specs.Outside.{Call}
use Rattle.commands.specs.Promise.{Ends, EndsTooLong}
use Rattle.commands.specs.Ends.{EndsAs}
use Rattle.commands.specs.Wanted.{wanted}
use Rattle.commands.specs.Complete.{EndsBySpans, EndsByTask, EndsByFiles, FilesDecide}
use Rattle.commands.proofs.NeverBoth.{not_both, never_both}

-- of known files, what holds of them holds
pub of_told : (P : Files → Type 0) (files : Option Files) (f : Files) → files ≡ Some f → IfSome files P → P f
of_told P files f e h =
    let k : IfSome (Some f) P = subst (λ (o : Option Files). IfSome o P) e h in
    k

-- the text of a task was taken
abbrev pub TookText : Call → Task → Type 0
TookText c task = HasText task (λ text. c.out_after.taken ≡ with_bytes c.out_before.taken text)

-- another machine may write a pin of a span, or none
not_shared : (u : Setup) (sp : Span) (m : ℕ) → IsUnshared u sp → IsLeastSharer u sp m → ⊥
not_shared u sp m alone least = let e = alone m in let f = least.sharing in cc

-- the least such machine is one
least_same : (u : Setup) (sp : Span) (m n : ℕ) → IsLeastSharer u sp m → IsLeastSharer u sp n → m ≡ n
least_same u sp m n p q =
    let up = not_below u sp m n p q in
    let down = not_below u sp n m q p in
    omega (arith, up, down)
  where
    not_below : (u : Setup) (sp : Span) (m n : ℕ) → IsLeastSharer u sp m → IsLeastSharer u sp n → n < m → ⊥
    not_below u sp m n p q lt = let e = p.first n lt in let f = q.sharing in cc

-- all was done where what the task needs is met
of_done : (c : Call) (task : Task) → TookText c task → IsMet task → EndsByTask c task None
of_done c (listing text) h p = (refl, h)
of_done c (trace u text) h p = record { provable = λ all. (refl, h); unprovable = λ not. absurd (not p) }
of_done c (twin_trace s t text) h p = record {
  provable = λ all too. (refl, h);
  first_unprovable = λ not. absurd (not p.0);
  second_unprovable = λ all not. absurd (not p.1);
}
of_done c (verdicts u) h p = record { provable = λ all. (refl, h); unprovable = λ not. absurd (not p) }
of_done c (tabled u sp) h p = record { provable = λ here. inl (refl, h); unprovable = λ not. absurd (not p) }
of_done c (rechecked u sp rows) h p = record {
  shared = λ m least. absurd (not_shared u sp m p.alone least);
  proved = λ here. (refl, h);
  unproved = λ alone not. absurd (not p.closed p.good);
}

-- what decides by each task decides by the files that come to one
by_task : (c : Call) (f : Files) (a : Asked) (P Q : Task → Type 0) (found : Option Fault) → c.files ≡ Some f → ComesTo c a P → ComesTo c a Q
    → ((task : Task) → P task → Q task → EndsByTask c task found) → EndsByFiles c (judge f a) found
by_task c f a P Q found told p q ends =
    on (judge f a) (of_told (λ g. IfRight (judge g a) P) c.files f told p) (of_told (λ g. IfRight (judge g a) Q) c.files f told q)
  where
    on : (j : Judged Task) → IfRight j P → IfRight j Q → EndsByFiles c j found
    on (right task) p q = ends task p q
    on (wrong e) p q = absurd p

-- a span is named by its own name
own_name : (u : Setup) (sp : Span) (place : ℕ) (name : List ℕ) → IsNamedAt u sp place name → IsNamedAt u sp place sp.name
own_name u sp place name h = subst (IsNamedAt u sp place) (sym h.named) h

-- the first span of a setup that isn't provable
of_spans : (c : Call) (task : Task) (u : Setup) (place : ℕ) (name : List ℕ) (r : Refusal) → IsFirstRefused u u.spans place name r
    → EndsBySpans c task (Some (fault.Unproved place name r)) u
of_spans c task u place name r h = record {
  provable = λ all. absurd (never_both u u.spans place name r all h);
  unprovable = λ not. record { place = place; name = name; refusal = r; fault = refl; first = h };
}

-- the first span of a task that isn't provable
of_first : (c : Call) (task : Task) (place : ℕ) (name : List ℕ) (r : Refusal) → IsRefusedBy task place name r → EndsByTask c task (Some (fault.Unproved place name r))
of_first c (listing text) place name r h = absurd h
of_first c (trace u text) place name r h = of_spans c (trace u text) u place name r h
of_first c (twin_trace s t text) place name r h = record {
  provable = λ all too. absurd (never_both s s.spans place name r all h);
  first_unprovable = λ not. record { place = place; name = name; refusal = r; fault = refl; first = h };
  second_unprovable = λ all not. absurd (never_both s s.spans place name r all h);
}
of_first c (verdicts u) place name r h = of_spans c (verdicts u) u place name r h
of_first c (tabled u sp) place name r h = record {
  provable = λ here. absurd (not_both u sp r here h.1);
  unprovable = λ not. record { place = place; named = own_name u sp place name h.0; refusal = r; why = h.1; fault = ap (λ (n : List ℕ). Some (fault.Unproved place n r)) (sym h.0.named) };
}
of_first c (rechecked u sp rows) place name (Unproved k cause) h = absurd h.1
of_first c (rechecked u sp rows) place name (Shared m) h = record {
  shared = λ n least. record {
    place = place;
    named = own_name u sp place name h.0;
    fault = ap (λ (t : List ℕ). Some (fault.Unproved place t (Shared m))) (sym h.0.named)
        ∙ ap (λ (k : ℕ). Some (fault.Unproved place sp.name (Shared k))) (least_same u sp m n h.1 least);
  };
  proved = λ here. absurd (not_shared u sp m here.alone h.1);
  unproved = λ alone not. absurd (not_shared u sp m alone h.1);
}

-- the first span of the second block that isn't provable
of_second : (c : Call) (task : Task) (place : ℕ) (name : List ℕ) (r : Refusal) → IsSecondRefusedBy task place name r → EndsByTask c task (Some (fault.SecondUnproved place name r))
of_second c (twin_trace s t text) place name r h = record {
  provable = λ all too. absurd (never_both t t.spans place name r too h.1);
  first_unprovable = λ not. absurd (not h.0);
  second_unprovable = λ all not. record { place = place; name = name; refusal = r; fault = refl; first = h.1 };
}
of_second c task place name r h = absurd h

-- the first flaw of a table
of_flaw : (c : Call) (task : Task) (place : ℕ) (name : List ℕ) (flaw : Flaw) → IsFlawed task place name flaw → EndsByTask c task (Some (fault.Flaw place name flaw))
of_flaw c (rechecked u sp rows) place name flaw h = record {
  shared = λ m least. absurd (not_shared u sp m h.1.alone least);
  proved = λ here. absurd (h.1.unproved here.closed here.good);
  unproved = λ alone not. record {
    place = place;
    named = own_name u sp place name h.0;
    flaw = flaw;
    first = h.1.first;
    fault = ap (λ (t : List ℕ). Some (fault.Flaw place t flaw)) (sym h.0.named);
  };
}
of_flaw c task place name flaw h = absurd h

-- a fault of the files
of_wrong : (c : Call) (j : Judged Task) (e : Fault) → j ≡ wrong e → EndsByFiles c j (Some e)
of_wrong c j e h = subst (λ (k : Judged Task). EndsByFiles c k (Some e)) (sym h) refl

-- the same of known files
of_faulty : (c : Call) (f : Files) (a : Asked) (e : Fault) → c.files ≡ Some f → IfSome c.files (λ g. judge g a ≡ wrong e) → EndsByFiles c (judge f a) (Some e)
of_faulty c f a e told h = of_wrong c (judge f a) e (of_told (λ g. judge g a ≡ wrong e) c.files f told h)

-- the text of the table of a provable span is too long
long_task : (c : Call) (task : Task) → HasLongText task → IsMet task → EndsByTask c task (Some (fault.TooLong file.Table))
long_task c (tabled u sp) h p = record { provable = λ here. inr (refl, h); unprovable = λ not. absurd (not p) }
long_task c task h p = absurd h

-- a file is too long, or the text of a table
of_too_long : (c : Call) (f : Files) (a : Asked) (role : File) → c.files ≡ Some f → EndsTooLong a c role → EndsByFiles c (judge f a) (Some (fault.TooLong role))
of_too_long c f (table source config name) file.Table told h =
    by_task c f (table source config name) _ _ _ told h.text h.spans (λ task long met. long_task c task long met)
of_too_long c f a role told h = of_faulty c f a (fault.TooLong role) told h.judged

-- a failed fetch raises the count
failed_rose : (name : Option (List ℕ)) (before after : Faults) → HasSuch name (λ n. after ≡ failed_at n before) → Rose before.count after.count
failed_rose None before after h = absurd h
failed_rose (Some n) before after h = subst (λ (a : Faults). Rose before.count a.count) (sym h) (le_refl (one_more before.count))

-- how a quiet call ends whose words ask for this, or for nothing
ends_by_files : (asked : Option Asked) (c : Call) (f : Files) (found : Option Fault) → Ends asked c found → c.files ≡ Some f → found ≢ Some fault.Usage → found ≢ Some fault.Memory → (Rose c.shelf_before.count c.shelf_after.count → ⊥) → (Rose c.out_before.faults c.out_after.faults → ⊥) → HasSuch asked (λ a. EndsByFiles c (judge f a) found)
ends_by_files (Some a) c f None h told usage memory shelf out = by_task c f a _ _ _ told h.writes.text h.spans (λ task took met. of_done c task took met)
ends_by_files asked c f (Some fault.Usage) h told usage memory shelf out = absurd (usage refl)
ends_by_files asked c f (Some fault.Memory) h told usage memory shelf out = absurd (memory refl)
ends_by_files (Some a) c f (Some (fault.Shelf role)) h told usage memory shelf out =
    absurd (shelf (failed_rose (file_in a role) c.shelf_before c.shelf_after h.named))
ends_by_files (Some a) c f (Some (fault.Unproved place name r)) h told usage memory shelf out =
    by_task c f a _ _ _ told h.first h.first (λ task p q. of_first c task place name r p)
ends_by_files (Some a) c f (Some (fault.SecondUnproved place name r)) h told usage memory shelf out =
    by_task c f a _ _ _ told h.first h.first (λ task p q. of_second c task place name r p)
ends_by_files (Some a) c f (Some (fault.Flaw place name flaw)) h told usage memory shelf out =
    by_task c f a _ _ _ told h.first h.first (λ task p q. of_flaw c task place name flaw p)
ends_by_files (Some a) c f (Some fault.Out) h told usage memory shelf out = absurd (out h.rose)
ends_by_files (Some a) c f (Some (fault.TooLong role)) h told usage memory shelf out = of_too_long c f a role told h
ends_by_files (Some a) c f (Some e) h told usage memory shelf out = of_faulty c f a e told h.judged
ends_by_files None c f found h told usage memory shelf out = absurd h

-- the files decide how a call ends that ends as promised, and not with Usage where its words are taken
pub files_decide : (words : List Text) (c : Call) (found : Option Fault) → EndsAs words c found → (WordsAreTaken words → found ≢ Some fault.Usage) → FilesDecide words c found
files_decide words c found ends taken f q = ends_by_files (wanted words) c f found ends q.told (taken q.words_taken) q.memory q.shelf q.out
