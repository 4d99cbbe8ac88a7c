-- The law that refusing means something, by what the laws of the crates below say.
use Rattle.std.proofs.Common.{◌≡◌, ◌↔◌, ◌⊎◌, ℕ, Option, Some, None, IsSome, [], slice_index_or, inl, inr, refl}
use Rattle.pin_matrix.specs.declared.machine.MachineSetup.{MachineSetup}
use Rattle.pin_matrix.specs.declared.setup.Setup.{Setup}
use Rattle.pin_matrix.specs.declared.span.Span.{Span}
use Rattle.pin_matrix.specs.declared.span.SpanUnit.TheVariants.{Ticks}
use Rattle.span_bounds.specs.Tables.{IsProvable}
use Rattle.span_verdict.specs.Sharing.{IsUnshared}
use Rattle.span_check.specs.Proved.{HoldsInEveryRun}
use Rattle.span_check.specs.Runs.{HoldsUpTo}
use Rattle.span_refuted.specs.Broken.{IsBroken}
use Rattle.span_refuted.specs.OneWay.{LeavesNoChoice}
use Rattle.span_refuted.specs.Visits.{HasBadVisit}
use Rattle.span_refuted.proofs.Visiting.{StaysPlaced}
use Rattle.span_refuted.proofs.Clocks.{IsTested}
use Rattle.span_refuted.proofs.Clock.{AreLevels}
use Rattle.span_refuted.proofs.Alone.{AreRuns, bad_visit_is_broken}

-- what the laws say
pub record Laws : Type 0 where
  pub runs : AreRuns
  pub levels : AreLevels
  pub tested : IsTested
  pub stays : StaysPlaced
  pub visits : (u : Setup) (sp : Span) → LeavesNoChoice u sp → IsProvable u sp ⊎ HasBadVisit u sp
  pub holds : (u : Setup) (sp : Span) → IsSome (slice_index_or u.machines sp.machine None) → IsProvable u sp → IsUnshared u sp → HoldsInEveryRun u sp

provable_or_broken : Laws → (u : Setup) (sp : Span) → sp.unit ≡ Ticks → LeavesNoChoice u sp → IsUnshared u sp → IsProvable u sp ⊎ IsBroken u sp
provable_or_broken laws u sp ticks c alone = elim (laws.visits u sp c) [
  | inl proof ↦ inl proof
  | inr bad ↦ inr (bad_visit_is_broken laws.runs laws.levels laws.tested laws.stays u sp ticks c alone bad)
]

pub unprovable_is_broken : Laws → (u : Setup) (sp : Span) → sp.unit ≡ Ticks → LeavesNoChoice u sp → IsUnshared u sp → (IsProvable u sp → ⊥) → IsBroken u sp
unprovable_is_broken laws u sp ticks c alone none = elim (provable_or_broken laws u sp ticks c alone) [ inl proof ↦ absurd (none proof) | inr broken ↦ broken ]

configured : (m : Option MachineSetup) (s : MachineSetup) → m ≡ Some s → IsSome m
configured m s e = rw e refl

pub provable_exactly : Laws → (u : Setup) (sp : Span) → sp.unit ≡ Ticks → LeavesNoChoice u sp → IsUnshared u sp → IsProvable u sp ↔ ((n : ℕ) → HoldsUpTo sp u [] n)
provable_exactly laws u sp ticks c alone = (
  λ proof n. (laws.holds u sp (configured _ c.machine c.configured) proof alone).beside [] n,
  λ holds. elim (provable_or_broken laws u sp ticks c alone) [
    | inl proof ↦ proof
    | inr broken ↦ absurd (broken.broken (holds broken.clocks))
  ],
)
