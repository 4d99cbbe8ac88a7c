-- Spans that are judged one after the other.
use Rattle.std.proofs.Common.{◌≡◌, ◌∙◌, ℕ, zero, suc, ◌+◌, ◌++◌, ◌<◌, ◌≤◌, arith, Option, Some, None, Result, Ok, Err, List, [], ◌∷◌, IsSome, length, take, get_or, slice_index_or, refl, sym, ap, subst, length-take-le}
use Rattle.std.proofs.Math.Seq.{take-suc}
use Rattle.std.specs.List.{AllByRecursion}
use Rattle.pin_matrix.specs.declared.setup.Setup.{Setup}
use Rattle.pin_matrix.specs.declared.span.Span.{Span}
use Rattle.span_bounds.specs.Tables.{IsProvable}
use Rattle.span_verdict.specs.Sharing.{IsUnshared}
use Rattle.span_verdict.specs.Verdicts.{IsVerdict}
use Rattle.span_verdict.specs.declared.verdict.Verdict.{Verdict}
use Rattle.span_verdict.specs.declared.verdict.Verdict.TheVariants as verdict
use Rattle.span_check.specs.Proved.{HoldsInEveryRun}
use Rattle.span_texts.specs.declared.refusal.Finding.{Finding}
use Rattle.span_texts.specs.declared.refusal.Refusal.{Refusal}
use Rattle.span_texts.specs.Refusals.{found_by}
use Rattle.fault_lines.specs.declared.fault.Fault.{Fault}
use Rattle.fault_lines.specs.declared.fault.Fault.TheVariants as fault
use Rattle.stages.specs.Configured.{AreConfigured}
use Rattle.stages.specs.Spans.{IsProvableAlone, AreProvable, AreRequired, AllHold, IsRefused, IsFirstRefused, IsVerdictOn, AreVerdicts, first_refused, IsFirstOf, AreJudged, IsNextVerdict}

-- what holds of each holds of the one at a place
pub all_at : {X : Type 0} (P : X → Type 0) (xs : List X) (i : ℕ) (d : X) → AllByRecursion P xs → i < length xs → P (get_or xs i d)
all_at P [] i d h lt = absurd (omega arith)
all_at P (x ∷ xs) zero d h lt = h.0
all_at P (x ∷ xs) (suc i) d h lt = all_at P xs i d h.1 (omega arith)

-- what a verdict without its table says
pub without_table : (u : Setup) (sp : Span) (v : Verdict) → IsVerdict u sp v → IsVerdictOn u sp (found_by sp v)
without_table u sp (verdict.Proved table opens closes) h = record { rows = table.rows; opens = opens; closes = closes; proved = h.1; said = refl }
without_table u sp (verdict.Unproved k cause) h = h
without_table u sp (verdict.Shared m) h = h

verdicts_more : (u : Setup) (spans : List Span) (found : List (Result Finding Refusal)) (sp : Span) (f : Result Finding Refusal) → AreVerdicts u spans found → IsVerdictOn u sp f → AreVerdicts u (spans ++ sp ∷ []) (found ++ f ∷ [])
verdicts_more u [] [] sp f h here = (here, tt)
verdicts_more u [] (g ∷ found) sp f h here = absurd h
verdicts_more u (s ∷ spans) [] sp f h here = absurd h
verdicts_more u (s ∷ spans) (g ∷ found) sp f h here = (h.0, verdicts_more u spans found sp f h.1 here)

provable_more : (u : Setup) (spans : List Span) (sp : Span) → AllByRecursion (IsProvableAlone u) spans → IsProvableAlone u sp → AllByRecursion (IsProvableAlone u) (spans ++ sp ∷ [])
provable_more u [] sp h here = (here, tt)
provable_more u (s ∷ spans) sp h here = (h.0, provable_more u spans sp h.1 here)

-- the first that isn't provable is the last one
refused_last : (u : Setup) (spans : List Span) (place : ℕ) (sp : Span) (r : Refusal) → length spans ≡ place → AllByRecursion (IsProvableAlone u) spans → IsRefused u sp r
    → IsFirstRefused u (spans ++ sp ∷ []) place sp.name r
refused_last u [] zero sp r at h here = (refl, here)
refused_last u [] (suc place) sp r at h here = absurd (omega (arith, at))
refused_last u (s ∷ spans) zero sp r at h here = absurd (omega (arith, at))
refused_last u (s ∷ spans) (suc place) sp r at h here = (h.0, refused_last u spans place sp r (omega (arith, at)) h.1 here)

-- or one before it
refused_before : (u : Setup) (spans : List Span) (sp : Span) (place : ℕ) (name : List ℕ) (r : Refusal) → IsFirstRefused u spans place name r
    → IsFirstRefused u (spans ++ sp ∷ []) place name r
refused_before u [] sp place name r h = absurd h
refused_before u (s ∷ spans) sp zero name r h = h
refused_before u (s ∷ spans) sp (suc place) name r h = (h.0, refused_before u spans sp place name r h.1)

first_more : (u : Setup) (spans : List Span) (refused : Option Fault) (place : ℕ) (sp : Span) (f : Result Finding Refusal) → length spans ≡ place → IsFirstOf u spans refused
    → IsVerdictOn u sp f → IsFirstOf u (spans ++ sp ∷ []) (first_refused refused place sp.name f)
first_more u spans None place sp (Ok told) at h here = provable_more u spans sp h (record { provable = here.proved.provable; alone = here.proved.alone })
first_more u spans None place sp (Err r) at h here = refused_last u spans place sp r at h here
first_more u spans (Some (fault.Unproved earlier name r)) place sp f at h here = refused_before u spans sp earlier name r h
first_more u spans (Some e) place sp f at h here = absurd h

plus_one : (n : ℕ) → n + 1 ≡ suc n
plus_one n = omega arith

-- one verdict more
pub judged_more : (u : Setup) (spans : List Span) (place : ℕ) (found : List (Result Finding Refusal)) (refused : Option Fault) (sp : Span) (f : Result Finding Refusal)
    → place < length spans → sp ≡ get_or spans place sp → AreJudged u (take place spans) found refused → IsVerdictOn u sp f
    → AreJudged u (take (place + 1) spans) (found ++ f ∷ []) (first_refused refused place sp.name f)
judged_more u spans place found refused sp f lt is h here =
    let e : take (place + 1) spans ≡ take place spans ++ sp ∷ [] = ap (λ n. take n spans) (plus_one place) ∙ take-suc spans place sp lt ∙ ap (λ x. take place spans ++ x ∷ []) (sym is) in
    let whole : AreJudged u (take place spans ++ sp ∷ []) (found ++ f ∷ []) (first_refused refused place sp.name f) = record {
      verdicts = verdicts_more u (take place spans) found sp f h.verdicts here;
      first = first_more u (take place spans) refused place sp f (length-take-le place spans (omega (arith, lt))) h.first here;
    } in
    subst (λ (l : List Span). AreJudged u l (found ++ f ∷ []) (first_refused refused place sp.name f)) (sym e) whole

-- the same by what the next verdict gives
pub judged_next : (u : Setup) (spans : List Span) (place : ℕ) (found after : List (Result Finding Refusal)) (earlier refused : Option Fault) (sp : Span)
    → place < length spans → sp ≡ get_or spans place sp → AreJudged u (take place spans) found earlier → IsNextVerdict u place sp found after earlier refused
    → AreJudged u (take (place + 1) spans) after refused
judged_next u spans place found after earlier refused sp lt is h next =
    let whole = judged_more u spans place found earlier sp next.found lt is h next.verdict in
    subst (λ (fs : List (Result Finding Refusal)). AreJudged u (take (place + 1) spans) fs refused) (sym next.more)
    (subst (λ (r : Option Fault). AreJudged u (take (place + 1) spans) (found ++ next.found ∷ []) r) (sym next.first) whole)

-- when all are judged
pub judged_all : (u : Setup) (spans : List Span) (place : ℕ) (found : List (Result Finding Refusal)) (refused : Option Fault) → length spans ≤ place → AreJudged u (take place spans) found refused → AreJudged u spans found refused
judged_all u spans place found refused le h = subst (λ (l : List Span). AreJudged u l found refused) (take_whole spans place le) h
  where
    take_whole : (l : List Span) (n : ℕ) → length l ≤ n → take n l ≡ l
    take_whole [] zero le = refl
    take_whole [] (suc n) le = refl
    take_whole (s ∷ l) zero le = absurd (omega arith)
    take_whole (s ∷ l) (suc n) le = ap (λ r. s ∷ r) (take_whole l n (omega arith))

-- so its fault is that of a command that requires them
pub refused_asked : (u : Setup) (e : Fault) → IsFirstOf u u.spans (Some e) → AreRequired u (Err e)
refused_asked u (fault.Unproved place name r) h = h
refused_asked u e h = absurd h

-- and no memory is wanted for it
pub never_memory : (u : Setup) (e : Fault) → IsFirstOf u u.spans (Some e) → ◌≡◌ {A = Result (Unit {0}) Fault} (Err e) (Err fault.Memory) → ⊥
never_memory u (fault.Unproved place name r) h is = cc
never_memory u e h is = absurd h

-- provable spans hold in every run
pub hold : (u : Setup) → ((v : Setup) (sp : Span) → IsSome (slice_index_or v.machines sp.machine None) → IsProvable v sp → IsUnshared v sp → HoldsInEveryRun v sp) → AreConfigured u → AreProvable u → AllHold u
hold u law configured provable = go u.spans configured provable
  where
    go : (spans : List Span) → AllByRecursion (λ sp. IsSome (slice_index_or u.machines sp.machine None)) spans → AllByRecursion (IsProvableAlone u) spans → AllByRecursion (HoldsInEveryRun u) spans
    go [] c p = tt
    go (sp ∷ spans) c p = (law u sp c.0 p.0.provable p.0.alone, go spans c.1 p.1)
