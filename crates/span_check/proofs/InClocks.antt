-- A span in clocks.
use Rattle.std.proofs.Common.{◌≡◌, ◌==◌, ℕ, zero, suc, ◌+◌, ◌-◌, ◌*◌, ◌/◌, ◌<◌, ◌≤◌, true, false, ◌||◌, cond, Option, Some, None, is_some, inl, inr, List, [], ◌∷◌, length, refl, ap, sym, subst, ◌∙◌, arith}
use Rattle.std.proofs.lemmas.Bool.{cases_lt}
use Rattle.std.proofs.lemmas.Bool.Decides.{nat_tests}
use Rattle.std.specs.List.{list_any}
use Rattle.std.specs.Option.{option_map}
use Rattle.pin_matrix.specs.declared.machine.MachineSetup.{MachineSetup}
use Rattle.pin_matrix.specs.declared.setup.Setup.{Setup}
use Rattle.pin_matrix.specs.declared.span.Span.{Span}
use Rattle.pin_matrix.specs.declared.span.SpanUnit.TheVariants.{Clocks}
use Rattle.pin_matrix.specs.Spans.{is_in_ticks}
use Rattle.dreq_pacing.specs.declared.due.Due.{Due}
use Rattle.block_core.specs.Slots.{Slot}
use Rattle.block_core.specs.Block.{BlockState}
use Rattle.block_core.specs.Following.{place_at}
use Rattle.span_step.specs.declared.ages.Ages.{Ages}
use Rattle.span_step.specs.Contexts.{Context}
use Rattle.span_step.specs.Steps.{bounds_of, bounds_in, least_ticks, most_or, most_ticks, period_of}
use Rattle.span_ticks.specs.UnderWay.{flow_of, is_excused_in}
use Rattle.span_check.specs.Marks.{Mark, names, mark_of, excused_at}
use Rattle.span_check.specs.Holding.{counted, IsAssumed, IsQuiet, IsUnbroken, IsUnexcused, IsSpokenOf, Holds, IsUpTo}
use Rattle.span_check.specs.Runs.{marks_over}
use Rattle.span_check.proofs.Counting.{counted-suc, assumed-before, free-before}
use Rattle.span_check.proofs.Periods.{no-more, no-less}
use Rattle.span_check.proofs.Premises.{Laws}
use Rattle.span_check.proofs.Walk.{IsBeside, there, fine}
use Rattle.span_check.proofs.Pacing.{IsRun, IsPaced, paced}

-- a divider's period is at least a clock
period-long : (s : MachineSetup) → 256 ≤ period_of s
period-long s = by s.int where
  by : (int : ℕ) → 256 ≤ 256 * cond (int == 0) 65536 int + s.frac
  by zero = omega arith
  by (suc int) = let e : (suc int == 0) ≡ false = grind (arith, nat_tests) in rw e (omega arith)

-- a span in clocks names no address
none-named : (sp : Span) → sp.unit ≡ Clocks → (address : ℕ) → names sp address ≡ false
none-named sp unit address = by sp.stalls (ap (λ k. is_in_ticks k || length sp.stalls == 0) (sym unit) ∙ sp.stalls_in_ticks) where
  by : (stalls : List ℕ) → (length stalls == 0) ≡ true → list_any (λ a. a == address) stalls ≡ false
  by [] h = refl
  by (x ∷ xs) h = absurd (grind (arith, nat_tests, h))

-- the clock in which a to-edge may still come
pub in-time : (sp : Span) (period max s c n : ℕ) (marks : ℕ → Mark) (b : BlockState) → 256 ≤ period → (p : IsPaced sp period marks s b c) → counted marks s c + 1 ≤ 256 * max / period → c ≤ s + max
in-time sp period max s c n marks b long p room =
    let more = no-more period p.first (counted marks s c + 1) max long room in
    omega (arith, p.between.next, p.start, more)

-- so many ticks take so many clocks
pub not-early : (sp : Span) (period min s c : ℕ) (marks : ℕ → Mark) (b : BlockState) → 256 ≤ period → (p : IsPaced sp period marks s b c) → (256 * min + period - 1) / period ≤ counted marks s c → s + min < c
not-early sp period min s c marks b long p enough =
    let less = no-less period p.first (counted marks s c) min long enough in
    omega (arith, p.between.last, p.start, less)

-- no more than the greatest bound, if there is one
up_to_each : (max : Option ℕ) (n : ℕ) → ((most : ℕ) → max ≡ Some most → n ≤ most) → IsUpTo max n
up_to_each None n h = tt
up_to_each (Some most) n h = h most refl

-- what a clock's mark says of how its machine stands
stands : (sp : Span) (memory : List ℕ) (seen : ℕ) (d : Due) (before after : BlockState) (m : Slot) → place_at before sp.machine ≡ Some m
    → (mark_of sp memory seen d before after).excused ≡ is_excused_in sp (flow_of m.machine.registers)
unfolding mark_of
stands sp memory seen d before after m e = ap (excused_at sp) e

pub holds-clocks : (laws : Laws) (u : Setup) (sp : Span) (rows : Context → Option Ages) (s : MachineSetup) (seen : ℕ → ℕ) (host : ℕ → Due) (states : ℕ → BlockState) → IsBeside u sp rows s seen host states → IsRun sp (period_of s) u.memory seen host states → sp.unit ≡ Clocks → (n : ℕ) → Holds Clocks sp.min sp.max (marks_over sp u.memory seen host states) n
unfolding bounds_of
holds-clocks laws u sp rows s seen host states b run unit n =
    let period : ℕ = period_of s in
    let marks : ℕ → Mark = marks_over sp u.memory seen host states in
    let bounds : bounds_of sp s ≡ (least_ticks sp.min period, most_or (least_ticks sp.min period) (option_map (most_ticks period) sp.max)) = ap (λ k. bounds_in k sp period) unit in
    let long = period-long s in
    let none = none-named sp unit in
    let at_pace : (f c : ℕ) → f < c → (marks f).from ≡ true → IsUnbroken marks f c → IsPaced sp period marks f (states c) c =
    paced laws sp period long none u.memory seen host states run in
    let open_room : (most : ℕ) → sp.max ≡ Some most → (f c : ℕ) → f < c → (marks f).from ≡ true → IsQuiet marks f c → IsUnexcused marks f (suc c) → IsAssumed marks (suc c) → counted marks f c + 1 ≤ most_ticks period most = λ most is f c below edge quiet free assumed.
    let at = there laws u sp rows s seen host states b c (assumed-before marks c assumed) in
    let r = at.m.machine.registers in
    let now : is_excused_in sp (flow_of r) ≡ false = sym (stands sp u.memory (seen c) (host c) (states c) (states (suc c)) at.m at.going.slot) ∙ free c below (omega arith) in
    let room : counted marks f c + 1 ≤ most_or (least_ticks sp.min period) (option_map (most_ticks period) sp.max) = subst (λ (x : ℕ × ℕ). counted marks f c + 1 ≤ x.1) bounds
    (laws.room u sp rows s r at.kept at.w b.configured b.sound (ap is_some is) none now at.going.under_way _ (at.ages f below edge quiet (free-before marks f c free)).0) in
    subst (λ (x : Option ℕ). counted marks f c + 1 ≤ most_or (least_ticks sp.min period) (option_map (most_ticks period) x)) is room in
    let within : (most : ℕ) → sp.max ≡ Some most → (f c : ℕ) → f < c → (marks f).from ≡ true → IsQuiet marks f c → IsSpokenOf Clocks marks f (suc c) → c ≤ f + most = λ most is f c below edge quiet spoken.
    in-time sp period most f c n marks (states c) long (at_pace f c below edge (λ d after less. spoken.unbroken d after (omega (arith, less)))) (open_room most is f c below edge quiet spoken.free spoken.assumed) in
    λ f below edge. record {
      least = λ e ends inside spoken.
          let each = fine laws u sp rows s seen host states b e f ends.after edge ends.first spoken.free spoken.assumed in
          let enough : (256 * sp.min + period - 1) / period ≤ counted marks f (suc e) = subst (λ (x : ℕ × ℕ). x.0 ≤ counted marks f (suc e)) bounds
          (subst (λ k. (bounds_of sp s).0 ≤ k) (sym (counted-suc marks f e ends.after)) (each.least ends.edge)) in
          omega (arith, not-early sp period sp.min f (suc e) marks (states (suc e)) long (at_pace f (suc e) (omega (arith, ends.after)) edge spoken.unbroken) enough);
      most = λ e ends inside spoken. up_to_each sp.max _ (λ most is. omega (arith, ends.after, within most is f e ends.after edge ends.first spoken));
      unclosed = λ quiet spoken. up_to_each sp.max _ (λ most is.
          last f n most below (λ c after e. within most is f c after edge (λ d more less. quiet d more (omega (arith, less, e))) (subst (IsSpokenOf Clocks marks f) e spoken)));
      strays = λ some c after inside quiet spoken. (fine laws u sp rows s seen host states b c f after edge quiet spoken.free spoken.assumed).strays some;
    } where
      -- the last clock before the end
      last : (f n most : ℕ) → f < n → ((c : ℕ) → f < c → n ≡ suc c → c ≤ f + most) → n - 1 - f ≤ most
      last f zero most below h = absurd (omega (arith, below))
      last f (suc c) most below h = elim (cases_lt f c) [
        | inl more ↦ omega (arith, h c more refl)
        | inr none ↦ omega (arith, none)
      ]
