-- Names in a set of texts are names in the list that it is seen as.
use Rattle.std.proofs.Common.{◌≡◌, ℕ, ◌++◌, ◌∷◌, [], ◌||◌, Bool, true, false, List, map, refl, ap, sym, ◌∙◌, string_bytes}
use Rattle.std.proofs.lemmas.List.{map-append}
use Rattle.std.specs.List.{list_any}
use Rattle.std.specs.Str.{bytes_eq}
use Rattle.std.specs.String.{string_eq}
use Rattle.std.specs.declared.string.String.{String}
use Rattle.std.specs.declared.alloc.Global.{Global}
use Rattle.indexmap.specs.IndexSet.{insert_key}
use Rattle.pio_assemble.specs.Checks.{is_among, with_name}

-- a text passes a test as it is seen
any_seen : (p : List ℕ → Bool) (ks : List (String Global)) → list_any p (map string_bytes ks) ≡ list_any (λ k. p (string_bytes k)) ks
any_seen p [] = refl
any_seen p (k ∷ ks) = ap (λ b. p (string_bytes k) || b) (any_seen p ks)

-- a text is among them as its name is among the names
pub among_seen : (text name : List ℕ) (ks : List (String Global)) → text ≡ name → list_any (λ k. bytes_eq text (string_bytes k)) ks ≡ is_among (map string_bytes ks) name
among_seen text name ks same = ap (λ t. list_any (λ k. bytes_eq t (string_bytes k)) ks) same ∙ sym (any_seen (bytes_eq name) ks)

-- one text more is one name more
pub added_seen : (key : String Global) (name : List ℕ) (ks : List (String Global)) → string_bytes key ≡ name → map string_bytes (insert_key string_eq ks key) ≡ with_name (map string_bytes ks) name
added_seen key name ks same = by (list_any (string_eq key) ks) refl where
  by : (b : Bool) → list_any (string_eq key) ks ≡ b → map string_bytes (insert_key string_eq ks key) ≡ with_name (map string_bytes ks) name
  by true e = let there : is_among (map string_bytes ks) name ≡ true = sym (among_seen (string_bytes key) name ks same) ∙ e in rw (e, there) refl
  by false e =
      let new : is_among (map string_bytes ks) name ≡ false = sym (among_seen (string_bytes key) name ks same) ∙ e in
      rw (e, new) (map-append string_bytes ks _ ∙ ap (λ t. map string_bytes ks ++ t ∷ []) same)
