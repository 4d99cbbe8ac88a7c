-- Bounds in clocks, in ticks.
use Rattle.std.proofs.Common.{◌≡◌, ℕ, ◌+◌, ◌-◌, ◌*◌, ◌/◌, ◌^◌, ◌<◌, ◌≤◌, ◌==◌, cond, Bool, true, false, Option, Some, None, unwrap_or, refl, subst, arith}
use Rattle.std.specs.Option.{ForSome, option_map}
use Rattle.std.specs.Prelude.{slice_index_or}
use Rattle.std.proofs.lemmas.Bool.Decides.{nat_tests}
use Rattle.std.proofs.Math.Nat.{div-lt_iff_lt-mul, mul-le-mul_left}
use Rattle.pin_matrix.specs.declared.machine.MachineSetup.{MachineSetup}
use Rattle.pin_matrix.specs.declared.setup.Setup.{Setup}
use Rattle.pin_matrix.specs.declared.span.Span.{Span}
use Rattle.pin_matrix.specs.declared.span.SpanUnit.{SpanUnit}
use Rattle.pin_matrix.specs.declared.span.SpanUnit.TheVariants.{Ticks, Clocks}
use Rattle.span_step.specs.Laws.{most_of, most_on}
use Rattle.span_step.specs.Steps.{least_ticks, most_ticks, most_or, bounds_in, bounds_of, period_of}

-- a tick takes at least a clock
pub period_least : (s : MachineSetup) → 256 ≤ period_of s
period_least s = on (s.int == 0) refl where
  on : (b : Bool) → (s.int == 0) ≡ b → 256 ≤ 256 * cond b 65536 s.int + s.frac
  on true e = omega arith
  on false e = let p : 1 ≤ s.int = grind (arith, nat_tests) in omega arith

-- so there are no more ticks than clocks
pub least_fits : (clocks period : ℕ) → 256 ≤ period → least_ticks clocks period ≤ clocks
least_fits c p h = omega (arith, lower) where
  more : c * 256 ≤ c * p
  more = mul-le-mul_left c h

  enough : (c + 1) * p ≡ c * p + p
  enough = omega arith

  lower : (256 * c + p - 1) / p < c + 1
  lower = (div-lt_iff_lt-mul {k = p} {x = 256 * c + p - 1} {y = c + 1} (omega arith)).1 (omega (arith, more, enough))

most_fits : (period clocks : ℕ) → 256 ≤ period → most_ticks period clocks ≤ clocks
most_fits p c h = omega (arith, lower) where
  more : c * 256 ≤ c * p
  more = mul-le-mul_left c h

  enough : (c + 1) * p ≡ c * p + p
  enough = omega arith

  lower : 256 * c / p < c + 1
  lower = (div-lt_iff_lt-mul {k = p} {x = 256 * c} {y = c + 1} (omega arith)).1 (omega (arith, more, enough))

-- what is in the place of a greatest bound is in range as the bounds are
in_place : (least : ℕ) (m : Option ℕ) → least < 2 ^ 24 → ForSome m (λ k. k < 2 ^ 24) → most_or least m < 2 ^ 24
in_place least None h k = omega (arith, h)
in_place least (Some n) h k = k n refl

most_in : (unit : SpanUnit) (sp : Span) (period : ℕ) → 256 ≤ period → (bounds_in unit sp period).1 < 2 ^ 24
most_in Ticks sp period h = in_place sp.min sp.max sp.min_fits sp.bounded
most_in Clocks sp period h = in_place (least_ticks sp.min period) (option_map (most_ticks period) sp.max) (omega (arith, least_fits sp.min period h, sp.min_fits)) (fits sp.max sp.bounded) where
  fits : (m : Option ℕ) → ForSome m (λ k. k < 2 ^ 24) → ForSome (option_map (most_ticks period) m) (λ k. k < 2 ^ 24)
  fits None k x e = absurd (bad e) where
    bad : None ≡ Some x → ⊥
    bad q = cc
  fits (Some n) k x e =
      subst (λ (o : Option ℕ). unwrap_or o 0 < 2 ^ 24) e (let l : most_ticks period n < 2 ^ 24 = omega (arith, most_fits period n h, k n refl) in l)

-- the greatest bound in ticks of a machine is in range, and what is in its place
pub most_small : (u : Setup) (sp : Span) → most_of u sp < 2 ^ 24
unfolding most_of bounds_of
most_small u sp = on (slice_index_or u.machines sp.machine None) where
  on : (m : Option MachineSetup) → most_on m sp < 2 ^ 24
  on None = omega arith
  on (Some s) = most_in sp.unit sp (period_of s) (period_least s)
