use Rattle.std.proofs.Common.{◌≡◌, ℕ, ◌-◌, ◌≤◌, Bool, true, false, cond, [], ◌∷◌, refl, arith}
use Rattle.std.proofs.lemmas.Bool.{ltb-false}
use Rattle.std.specs.Prelude.{nat_lt}
use Rattle.vcd_trace.specs.VcdText.{identifier}
use Rattle.vcd_trace.proofs.twin_laws.each_variable_has_its_own_identifier.Goals as goal

-- by whether each is of the first scope
by_scopes : (s t : Bool) (a b : ℕ) → nat_lt a 128 ≡ s → nat_lt b 128 ≡ t → cond s (a ∷ []) (126 ∷ (a - 128) ∷ []) ≡ cond t (b ∷ []) (126 ∷ (b - 128) ∷ []) → a ≡ b
by_scopes true true a b h k e = cc
by_scopes true false a b h k e = cc
by_scopes false true a b h k e = cc
by_scopes false false a b h k e =
    let same : a - 128 ≡ b - 128 = cc in
    let low : 128 ≤ a = ltb-false a 128 h in
    let other : 128 ≤ b = ltb-false b 128 k in
    omega arith

own : (a b : ℕ) → identifier a ≡ identifier b → a ≡ b
own a b = by_scopes (nat_lt a 128) (nat_lt b 128) a b refl refl

pub returns : goal.returns
returns c = own
