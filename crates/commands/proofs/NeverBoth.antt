-- Spans aren't both provable and refused.
use Rattle.std.proofs.Common.{ℕ, zero, suc, List, [], ◌∷◌}
use Rattle.std.specs.List.{AllByRecursion}
use Rattle.pin_matrix.specs.declared.setup.Setup.{Setup}
use Rattle.pin_matrix.specs.declared.span.Span.{Span}
use Rattle.span_texts.specs.declared.refusal.Refusal.{Refusal}
use Rattle.span_texts.specs.declared.refusal.Refusal.TheVariants.{Unproved, Shared}
use Rattle.stages.specs.Spans.{IsProvableAlone, IsRefused, IsFirstRefused}

-- a span isn't both
pub not_both : (u : Setup) (sp : Span) (r : Refusal) → IsProvableAlone u sp → IsRefused u sp r → ⊥
not_both u sp (Unproved k cause) p h = h.unprovable p.provable
not_both u sp (Shared m) p h = let e = p.alone m in let f = h.sharing in cc

-- nor are spans
pub never_both : (u : Setup) (spans : List Span) (place : ℕ) (name : List ℕ) (r : Refusal) → AllByRecursion (IsProvableAlone u) spans → IsFirstRefused u spans place name r → ⊥
never_both u [] place name r p h = h
never_both u (sp ∷ spans) zero name r p h = not_both u sp r p.0 h.1
never_both u (sp ∷ spans) (suc place) name r p h = never_both u spans place name r p.1 h.1
