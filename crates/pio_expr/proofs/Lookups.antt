-- What a map by name finds is the first symbol of the name.
use Rattle.std.proofs.Common.{◌≡◌, ℕ, zero, suc, ◌+◌, ◌<◌, Bool, true, false, List, [], ◌∷◌, Option, Some, None, refl, ap, ◌∙◌, arith, slice_get, get_or, string_bytes}
use Rattle.std.proofs.lemmas.Option.{same_Some}
use Rattle.std.specs.Map.{lookup, keys_of}
use Rattle.std.specs.Str.{bytes_eq}
use Rattle.std.specs.declared.string.String.{String}
use Rattle.std.specs.declared.alloc.Global.{Global}
use Rattle.pio_expr.specs.declared.symbol.Symbol.{Symbol}
use Rattle.pio_expr.specs.Values.{found_in}
use Rattle.pio_expr.specs.Views.{named_in}

-- a name that no key is
pub none_found : (name : List ℕ) (first : ℕ) (es : List (String Global × Symbol)) → lookup (λ k. bytes_eq name (string_bytes k)) es ≡ None → found_in first (named_in es) name ≡ None
unfolding found_in
none_found name first [] h = refl
none_found name first (e ∷ es) h = by (bytes_eq name (string_bytes e.0)) refl (none_found name (first + 1) es) where
  by : (b : Bool) → bytes_eq name (string_bytes e.0) ≡ b → (lookup (λ k. bytes_eq name (string_bytes k)) es ≡ None → found_in (first + 1) (named_in es) name ≡ None) → found_in first (named_in (e ∷ es)) name ≡ None
  by true t rest = let no : Some e.1 ≡ None = rw t at h in cc
  by false t rest = rw t (rest (rw t at h))

-- and back
pub none_kept : (name : List ℕ) (first : ℕ) (es : List (String Global × Symbol)) → found_in first (named_in es) name ≡ None → lookup (λ k. bytes_eq name (string_bytes k)) es ≡ None
unfolding found_in
none_kept name first [] h = refl
none_kept name first (e ∷ es) h = by (bytes_eq name (string_bytes e.0)) refl (none_kept name (first + 1) es) where
  by : (b : Bool) → bytes_eq name (string_bytes e.0) ≡ b → (found_in (first + 1) (named_in es) name ≡ None → lookup (λ k. bytes_eq name (string_bytes k)) es ≡ None) → lookup (λ k. bytes_eq name (string_bytes k)) (e ∷ es) ≡ None
  by true t rest = let it : Option (ℕ × Symbol) = Some (first, e.1) in let no : it ≡ None = rw t at h in cc
  by false t rest = rw t (rest (rw t at h))

-- the first key that is the name, with its place
pub first_found : (name : List ℕ) (first : ℕ) (es : List (String Global × Symbol)) (i : ℕ) (k : String Global) (s : Symbol) → slice_get es i ≡ Some (k, s) → bytes_eq name (string_bytes k) ≡ true → ((j : ℕ) → j < i → bytes_eq name (string_bytes (get_or (keys_of es) j k)) ≡ false) → found_in first (named_in es) name ≡ Some (first + i, s)
unfolding found_in
first_found name first [] i k s h t before = cc
first_found name first (e ∷ es) zero k s h t before =
    let same : e ≡ (k, s) = same_Some _ _ h in
    let it : bytes_eq name (string_bytes e.0) ≡ true = rw same t in
    let back : first + 0 ≡ first = omega arith in
    rw (it, back) (ap (λ p. Some (first, p.1)) same)
first_found name first (e ∷ es) (suc i) k s h t before =
    let other : bytes_eq name (string_bytes e.0) ≡ false = before 0 (omega arith) in
    let count : (first + 1) + i ≡ first + suc i = omega arith in
    rw other (first_found name (first + 1) es i k s h t (λ j l. before (suc j) (omega (arith, l))) ∙ ap (λ n. Some (n, s)) count)

-- the key at a place
pub own_key : (es : List (String Global × Symbol)) (i : ℕ) (k : String Global) (s : Symbol) → slice_get es i ≡ Some (k, s) → get_or (keys_of es) i k ≡ k
own_key [] i k s h = cc
own_key (e ∷ es) zero k s h = ap (λ p. p.0) (same_Some _ _ h)
own_key (e ∷ es) (suc i) k s h = own_key es i k s h
