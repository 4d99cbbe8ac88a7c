-- A span in ticks.
use Rattle.std.proofs.Common.{◌≡◌, ℕ, suc, ◌<◌, ◌≤◌, true, Option, Some, None, is_some, refl, ap, sym, subst}
use Rattle.pin_matrix.specs.declared.machine.MachineSetup.{MachineSetup}
use Rattle.pin_matrix.specs.declared.setup.Setup.{Setup}
use Rattle.pin_matrix.specs.declared.span.Span.{Span}
use Rattle.pin_matrix.specs.declared.span.SpanUnit.TheVariants.{Ticks}
use Rattle.dreq_pacing.specs.declared.due.Due.{Due}
use Rattle.block_core.specs.Block.{BlockState}
use Rattle.span_step.specs.declared.ages.Ages.{Ages}
use Rattle.span_step.specs.Contexts.{Context}
use Rattle.span_step.specs.Steps.{bounds_of, bounds_in, is_bounded, most_or, period_of}
use Rattle.span_check.specs.Marks.{Mark}
use Rattle.span_check.specs.Holding.{counted, IsAssumed, IsQuiet, IsUnexcused, Holds, IsUpTo}
use Rattle.span_check.specs.Runs.{marks_over}
use Rattle.span_check.proofs.Counting.{counted-suc, AreOpen}
use Rattle.span_check.proofs.Premises.{Laws}
use Rattle.span_check.proofs.Walk.{IsBeside, IsFine, there, fine}

-- no more than the greatest bound, if there is one
up_to : (least : ℕ) (max : Option ℕ) (n : ℕ) → (is_some max ≡ true → n ≤ most_or least max) → IsUpTo max n
up_to least None n h = tt
up_to least (Some most) n h = h refl

-- what is known of each clock, for each from-edge that is open and not excused, as long as X and Y are as assumed
abbrev AreFine : (min : ℕ) → (max : Option ℕ) → (most : ℕ) → (ℕ → Mark) → Type 0
AreFine min max most m =
    (c s : ℕ) → s < c → (m s).from ≡ true → IsQuiet m s c → IsUnexcused m s (suc c) → IsAssumed m (suc c) → IsFine (is_some max) min most (m c) (counted m s c)

by_clocks : (min : ℕ) (max : Option ℕ) (m : ℕ → Mark) → AreFine min max (most_or min max) m → ((c : ℕ) → IsAssumed m c → AreOpen m (λ s. is_some max ≡ true → counted m s c ≤ most_or min max) c) → (n : ℕ) → Holds Ticks min max m n
by_clocks min max m fine most n s below from = record {
  least = λ e ends inside spoken. subst (λ k. min ≤ k) (sym (counted-suc m s e ends.after)) ((fine e s ends.after from ends.first spoken.free spoken.assumed).least ends.edge);
  most = λ e ends inside spoken. up_to min max _ (λ b. subst (λ k. k ≤ most_or min max) (sym (counted-suc m s e ends.after)) ((fine e s ends.after from ends.first spoken.free spoken.assumed).most b));
  unclosed = λ quiet spoken. up_to min max _ (most n spoken.assumed s below from quiet spoken.free);
  strays = λ some c after inside quiet spoken. (fine c s after from quiet spoken.free spoken.assumed).strays some;
}

pub holds-ticks : (laws : Laws) (u : Setup) (sp : Span) (rows : Context → Option Ages) (s : MachineSetup) (seen : ℕ → ℕ) (host : ℕ → Due) (states : ℕ → BlockState) → IsBeside u sp rows s seen host states → sp.unit ≡ Ticks → (n : ℕ) → Holds Ticks sp.min sp.max (marks_over sp u.memory seen host states) n
unfolding bounds_of
holds-ticks laws u sp rows s seen host states b unit n =
    let marks : ℕ → Mark = marks_over sp u.memory seen host states in
    let bounds : bounds_of sp s ≡ (sp.min, most_or sp.min sp.max) = ap (λ k. bounds_in k sp (period_of s)) unit in
    let most : (c : ℕ) → IsAssumed marks c → AreOpen marks (λ from. is_bounded sp ≡ true → counted marks from c ≤ (bounds_of sp s).1) c =
    λ c assumed from below edge quiet free. ((there laws u sp rows s seen host states b c assumed).ages from below edge quiet free).1 in
    by_clocks sp.min sp.max marks
    (subst (λ (x : ℕ × ℕ). AreFine x.0 sp.max x.1 marks) bounds (fine laws u sp rows s seen host states b))
    (subst (λ (x : ℕ × ℕ). (c : ℕ) → IsAssumed marks c → AreOpen marks (λ from. is_bounded sp ≡ true → counted marks from c ≤ x.1) c) bounds most) n
