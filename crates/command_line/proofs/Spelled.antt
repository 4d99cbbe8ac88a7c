-- How a word is spelled that clap reads as a long name, with a value or without one.
use Rattle.std.proofs.Common.{◌≡◌, ◌∙◌, ◌++◌, ◌==◌, ◌<◌, ◌≤◌, ℕ, Bool, true, false, cond, [], ◌∷◌, Option, Some, None, length, get_or, refl, sym, ap, ap₂, subst, true≢false, eqb-true, take_all, inl, inr, zero, suc, arith, codes, append_assoc}
use Rattle.std.specs.List.{after_first, before_first, position_or_len}
use Rattle.std.specs.Prelude.{option_and_then}
use Rattle.std.proofs.lemmas.Bool.{cases_lt, or_left, or_right}
use Rattle.std.proofs.lemmas.List.Folds.{list_any_none}
use Rattle.std.proofs.lemmas.List.Sums.{fails_before_first, passes_at_first, split_at_first}
use Rattle.std.proofs.lemmas.Option.{same_Some}
use Rattle.clap.specs.Lexer.{has_byte, long_of, long_of_rest, name_and_value, strip_byte}
use Rattle.clap.specs.Walk.{Text}

-- the name, and a value after `=` (61) where there is one
abbrev pub spelled : Text → Option Text → Text
spelled name None = name
spelled name (Some value) = name ++ 61 ∷ value

strip_is : (c : ℕ) (xs rest : Text) → strip_byte c xs ≡ Some rest → xs ≡ c ∷ rest
strip_is c [] rest e = cc
strip_is c (x ∷ xs) rest e = go (x == c) refl e
  where
    go : (b : Bool) → (x == c) ≡ b → cond b (Some xs) None ≡ Some rest → x ∷ xs ≡ c ∷ rest
    go true is e = ap₂ (λ y ys. y ∷ ys) (eqb-true x c is) (same_Some xs rest e)
    go false is e = cc

-- the byte stands at its first place
equals_at : (t : Text) → position_or_len (λ x. x == 61) t < length t → t ≡ before_first (λ x. x == 61) t ++ 61 ∷ after_first (λ x. x == 61) t
equals_at t lt =
    split_at_first (λ x. x == 61) t 0 lt
    ∙ ap (λ n. before_first (λ x. x == 61) t ++ n ∷ after_first (λ x. x == 61) t) (eqb-true _ 61 (passes_at_first (λ x. x == 61) t 0 lt))

none_at : (t : Text) → length t ≤ position_or_len (λ x. x == 61) t → has_byte 61 t ≡ false
none_at t le = list_any_none _ t (λ k d lt. fails_before_first (λ x. x == 61) t k d (omega arith))

some_at : (t : Text) → has_byte 61 t ≡ true → t ≡ before_first (λ x. x == 61) t ++ 61 ∷ after_first (λ x. x == 61) t
some_at t has = elim (cases_lt (position_or_len (λ x. x == 61) t) (length t)) [
  | inl lt ↦ equals_at t lt
  | inr le ↦ absurd (true≢false (sym has ∙ none_at t le))
]

any_at : (xs : Text) (k : ℕ) → k < length xs → (get_or xs k 0 == 61) ≡ true → has_byte 61 xs ≡ true
any_at [] k lt e = absurd (omega arith)
any_at (x ∷ xs) zero lt e = or_left (x == 61) _ e
any_at (x ∷ xs) (suc k) lt e = or_right (x == 61) _ (any_at xs k (omega arith) e)

whole_before : (t : Text) → has_byte 61 t ≡ false → t ≡ before_first (λ x. x == 61) t
whole_before t none = elim (cases_lt (position_or_len (λ x. x == 61) t) (length t)) [
  | inl lt ↦ absurd (true≢false (sym (any_at t _ lt (passes_at_first (λ x. x == 61) t 0 lt)) ∙ none))
  | inr le ↦ sym (take_all _ t le)
]

pair_text : (t name : Text) (v : Option Text) → name_and_value t ≡ (name, v) → t ≡ spelled name v
pair_text t name v e = go (has_byte 61 t) refl (ap (λ p. p.0) e) (ap (λ p. p.1) e)
  where
    go : (b : Bool) → has_byte 61 t ≡ b → before_first (λ x. x == 61) t ≡ name → cond b (Some (after_first (λ x. x == 61) t)) None ≡ v → t ≡ spelled name v
    go true has front back =
        subst (λ w. t ≡ spelled name w) back (some_at t has ∙ ap (λ n. n ++ 61 ∷ after_first (λ x. x == 61) t) front)
    go false has front back = subst (λ w. t ≡ spelled name w) back (whole_before t has ∙ front)

long_text : (word name : Text) (v : Option Text) → long_of word ≡ Some (name, v) → word ≡ 45 ∷ 45 ∷ spelled name v
long_text word name v e = first (strip_byte 45 word) refl e
  where
    rest_text : (t : Text) → long_of_rest t ≡ Some (name, v) → t ≡ spelled name v
    rest_text [] e = cc
    rest_text (x ∷ xs) e = pair_text (x ∷ xs) name v (same_Some _ _ e)

    second : (w : Text) (o : Option Text) → strip_byte 45 w ≡ o → option_and_then long_of_rest o ≡ Some (name, v) → w ≡ 45 ∷ spelled name v
    second w None is e = cc
    second w (Some t) is e = strip_is 45 w t is ∙ ap (λ r. 45 ∷ r) (rest_text t e)

    first : (o : Option Text) → strip_byte 45 word ≡ o → option_and_then long_of_rest (option_and_then (strip_byte 45) o) ≡ Some (name, v) → word ≡ 45 ∷ 45 ∷ spelled name v
    first None is e = cc
    first (Some w) is e = strip_is 45 word w is ∙ ap (λ r. 45 ∷ r) (second w (strip_byte 45 w) refl e)

pub attached_text : (word name id v : Text) → long_of word ≡ Some (name, Some v) → name ≡ id → word ≡ codes "--" ++ id ++ codes "=" ++ v
attached_text word name id v e same =
    long_text word name (Some v) e ∙ ap (λ (n : Text). 45 ∷ 45 ∷ (n ++ 61 ∷ v)) same ∙ ap (λ (t : Text). 45 ∷ 45 ∷ t) (sym (append_assoc id (61 ∷ []) v))

pub alone_text : (word name id : Text) → long_of word ≡ Some (name, None) → name ≡ id → word ≡ codes "--" ++ id
alone_text word name id e same = long_text word name None e ∙ ap (λ (n : Text). 45 ∷ 45 ∷ n) same
