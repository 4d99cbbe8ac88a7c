-- The last sample of a list, repeated.
use Rattle.std.proofs.Common.{◌≡◌, ℕ, ◌-◌, List, [], ◌∷◌, ◌++◌, zero, suc, length, Some, refl, sym, ap, ◌∙◌, arith}
use Rattle.std.specs.Prelude.{replicate, slice_get}
use Rattle.block_core.specs.declared.sample.Sample.{Sample}
use Rattle.sample_trace.specs.Told.{last_of, held_to}

slice_get-last : (s : Sample) (rest : List Sample) → slice_get (s ∷ rest) (length rest) ≡ Some (last_of s rest)
slice_get-last s [] = refl
slice_get-last s (t ∷ rest) = slice_get-last t rest

-- the list held to a clock is the list and copies of the sample at its last place
pub held_to-last : (clock : ℕ) (l : List Sample) (last : Sample) → slice_get l (length l - 1) ≡ Some last → held_to clock l ≡ l ++ replicate (clock - length l) last
held_to-last clock [] last h = cc
held_to-last clock (s ∷ rest) last h =
    let same : Some (last_of s rest) ≡ Some last = sym (slice_get-last s rest) ∙ ap (slice_get (s ∷ rest)) (let e : length rest ≡ length (s ∷ rest) - 1 = omega arith in e) ∙ h in
    let last_is : last_of s rest ≡ last = cc in
    ap (λ t. (s ∷ rest) ++ replicate (clock - length (s ∷ rest)) t) last_is

-- one more copy comes after the others
pub replicate-push : (n : ℕ) (s : Sample) → replicate n s ++ s ∷ [] ≡ replicate (suc n) s
replicate-push zero s = refl
replicate-push (suc n) s = ap (λ t. s ∷ t) (replicate-push n s)
