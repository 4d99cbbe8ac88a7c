-- Values that are kept are those of the definition, whatever symbols are under way beside them.
use Rattle.std.proofs.Common.{◌≡◌, ℕ, zero, suc, ◌≤◌, ℤ, pos, Bool, true, false, List, [], ◌∷◌, length, take, Option, Some, None, Result, Ok, Err, refl, ap, sym, subst, ◌∙◌, ◌⊎◌, inl, inr, arith, nat_eq, slice_get, true≢false}
use Rattle.std.proofs.lemmas.Bool.{eqb-true}
use Rattle.std.proofs.Math.Seq.{take-length}
use Rattle.std.proofs.lemmas.Option.{same_Some}
use Rattle.pio_expr.specs.declared.expr.Item.{Item}
use Rattle.pio_expr.specs.declared.expr.Item.TheVariants as item
use Rattle.pio_expr.specs.declared.symbol.Symbol.TheVariants.{Define, Label}
use Rattle.pio_expr.specs.declared.fault.ValueKind.{ValueKind}
use Rattle.pio_expr.specs.declared.fault.ValueKind.TheVariants.{Unknown, Cycle}
use Rattle.pio_expr.specs.Values.{Scope, Found, found, in_program, is_among, number_by, left_by, worked_out, by_symbol, name_value}
use Rattle.pio_expr.specs.Frames.{Kept, kept_at, kept_value, by_kept, items_at, AreKept}
use Rattle.pio_expr.proofs.Workings.{goes_on, ends_in}
use Rattle.pio_expr.proofs.Finding.{items_of_found}

-- a value among some kept ones and the next is among the former, or it is the next
abbrev Newest : Kept → ℕ → ℕ → ℤ → Type 0
Newest kept m place v = (kept_at (take m kept) place ≡ Some v) ⊎ ((kept_at (take m kept) place ≡ None) × (slice_get kept m ≡ Some (place, v)))

newest : (kept : Kept) (m place : ℕ) (v : ℤ) → kept_at (take (suc m) kept) place ≡ Some v → Newest kept m place v
newest [] m place v h = cc
newest (e ∷ es) zero place v h = by (nat_eq place e.0) refl where
  by : (b : Bool) → nat_eq place e.0 ≡ b → Newest (e ∷ es) 0 place v
  by true t =
      let p : e.0 ≡ place = sym (eqb-true place e.0 t) in
      let q : e.1 ≡ v = same_Some _ _ (rw t at h) in
      inr (refl, (λ i. Some (p i, q i)))
  by false t = let no : None ≡ Some v = rw t at h in cc
newest (e ∷ es) (suc m) place v h = by (nat_eq place e.0) refl (newest es m place v) where
  further : nat_eq place e.0 ≡ false → Newest es m place v → Newest (e ∷ es) (suc m) place v
  further t (inl x) = inl (rw t x)
  further t (inr x) = inr (rw t x.0, x.1)

  by : (b : Bool) → nat_eq place e.0 ≡ b → (kept_at (take (suc m) es) place ≡ Some v → Newest es m place v) → Newest (e ∷ es) (suc m) place v
  by true t rest = inl (rw t (rw t at h))
  by false t rest = further t (rest (rw t at h))

-- what is kept stays kept
stays : (kept : Kept) (m place : ℕ) (v : ℤ) → kept_at (take m kept) place ≡ Some v → kept_at (take (suc m) kept) place ≡ Some v
stays [] zero place v h = cc
stays [] (suc m) place v h = h
stays (e ∷ es) zero place v h = cc
stays (e ∷ es) (suc m) place v h = by (nat_eq place e.0) refl (stays es m place v) where
  by : (b : Bool) → nat_eq place e.0 ≡ b → (kept_at (take m es) place ≡ Some v → kept_at (take (suc m) es) place ≡ Some v) → kept_at (take (suc (suc m)) (e ∷ es)) place ≡ Some v
  by true t rest = rw t (rw t at h)
  by false t rest = rw t (rest (rw t at h))

none_before : (kept : Kept) (m place : ℕ) → kept_at (take (suc m) kept) place ≡ None → kept_at (take m kept) place ≡ None
none_before kept m place h = by (kept_at (take m kept) place) refl where
  by : (o : Option ℤ) → kept_at (take m kept) place ≡ o → kept_at (take m kept) place ≡ None
  by None e = e
  by (Some v) e = let no : None ≡ Some v = sym h ∙ stays kept m place v e in cc

-- no kept place is among these
abbrev pub Apart : List ℕ → Kept → Type 0
Apart under kept = (q : ℕ) → is_among under q ≡ true → kept_at kept q ≡ None

number_more : (f g : List ℕ → Result ℤ ValueKind) (i : Item) (ns : List ℤ) (n : ℤ) → ((w : List ℕ) (x : ℤ) → f w ≡ Ok x → g w ≡ Ok x) → number_by f i ns ≡ Ok n → number_by g i ns ≡ Ok n
number_more f g (item.Name w) ns n more h = more w n h
number_more f g (item.Number m) ns n more h = h
number_more f g item.Add ns n more h = h
number_more f g item.Subtract ns n more h = h
number_more f g item.Multiply ns n more h = h
number_more f g item.Divide ns n more h = h
number_more f g item.Negate ns n more h = h
number_more f g item.Reverse ns n more h = h

-- where more names have values, an expression keeps its value
pub worked_more : (f g : List ℕ → Result ℤ ValueKind) (items : List Item) (ns : List ℤ) (v : ℤ) → ((w : List ℕ) (x : ℤ) → f w ≡ Ok x → g w ≡ Ok x) → worked_out f items ns ≡ Ok v → worked_out g items ns ≡ Ok v
unfolding worked_out
worked_more f g [] ns v more h = h
worked_more f g (i ∷ items) ns v more h = by (number_by f i ns) refl (λ n. worked_more f g items (n ∷ left_by i ns) v more) where
  by : (r : Result ℤ ValueKind) → number_by f i ns ≡ r → ((n : ℤ) → worked_out f items (n ∷ left_by i ns) ≡ Ok v → worked_out g items (n ∷ left_by i ns) ≡ Ok v) → worked_out g (i ∷ items) ns ≡ Ok v
  by (Ok n) e rest = goes_on g i items ns n (number_more f g i ns n more e) ∙ rest n (sym (goes_on f i items ns n e) ∙ h)
  by (Err fault) e rest = let no : Err fault ≡ Ok v = sym (ends_in f i items ns fault e) ∙ h in cc

-- the value of a name by what it is
module _ (scope : Scope) (under : List ℕ) (local : Bool) (name : List ℕ) where
  pub at_none : (n : ℕ) → found scope local name ≡ None → name_value n scope under local name ≡ Err (Unknown name)
  unfolding name_value
  at_none zero e = rw e refl
  at_none (suc n) e = rw e refl

  pub at_label : (n place k : ℕ) → found scope local name ≡ Some (place, Label k) → name_value n scope under local name ≡ Ok (pos k)
  unfolding name_value
  at_label zero place k e = rw e refl
  at_label (suc n) place k e = rw e refl

  pub at_cycle : (n place : ℕ) (items : List Item) → found scope local name ≡ Some (place, Define items) → is_among under place ≡ true → name_value n scope under local name ≡ Err (Cycle name)
  unfolding name_value
  at_cycle zero place items e t = rw e refl
  at_cycle (suc n) place items e t = rw (e, t) refl

  pub at_define : (n place : ℕ) (items : List Item) → found scope local name ≡ Some (place, Define items) → is_among under place ≡ false → name_value (suc n) scope under local name ≡ worked_out (name_value n scope (place ∷ under) (in_program scope place)) items []
  unfolding name_value
  at_define n place items e t = rw (e, t) refl

-- the kept values are those of names, where so many symbols more can be under way
abbrev Exact : Scope → Kept → ℕ → Type 0
Exact scope kept m = (n : ℕ) (under : List ℕ) (local : Bool) (name : List ℕ) (v : ℤ) → m ≤ n → Apart under (take m kept) → kept_value scope (take m kept) local name ≡ Ok v → name_value n scope under local name ≡ Ok v

-- by what the name is
exact_by : (scope : Scope) (some : Kept) (n : ℕ) (under : List ℕ) (local : Bool) (name : List ℕ) (v : ℤ) (f : Found) → found scope local name ≡ f → ((place : ℕ) (items : List Item) → found scope local name ≡ Some (place, Define items) → kept_at some place ≡ Some v → name_value n scope under local name ≡ Ok v)
    → by_symbol (λ n. n) (λ place items. by_kept name (kept_at some place)) name f ≡ Ok v → name_value n scope under local name ≡ Ok v
exact_by scope some n under local name v None e define h = let no : Err (Unknown name) ≡ Ok v = h in cc
exact_by scope some n under local name v (Some (place, Label k)) e define h = at_label scope under local name n place k e ∙ h
exact_by scope some n under local name v (Some (place, Define items)) e define h = by (kept_at some place) refl h where
  by : (o : Option ℤ) → kept_at some place ≡ o → by_kept name o ≡ Ok v → name_value n scope under local name ≡ Ok v
  by (Some w) k h' = define place items e (k ∙ ap (λ r. kept_or w r) h') where
    kept_or : ℤ → Result ℤ ValueKind → Option ℤ
    kept_or d (Ok x) = Some x
    kept_or d (Err fault) = None
  by None k h' = let no : Err (Cycle name) ≡ Ok v = h' in cc

exact_none : (scope : Scope) (kept : Kept) → Exact scope kept 0
exact_none scope kept n under local name v le apart h =
    exact_by scope [] n under local name v (found scope local name) refl (λ place items e k. let no : None ≡ Some v = k in cc) h

apart_more : (kept : Kept) (m place : ℕ) (under : List ℕ) → kept_at (take m kept) place ≡ None → Apart under (take (suc m) kept) → Apart (place ∷ under) (take m kept)
apart_more kept m place under none apart q h = by (nat_eq q place) refl where
  by : (b : Bool) → nat_eq q place ≡ b → kept_at (take m kept) q ≡ None
  by true t = ap (λ x. kept_at (take m kept) x) (eqb-true q place t) ∙ none
  by false t = none_before kept m q (apart q (rw t at h))

-- the newest of the kept
module _ (scope : Scope) (kept : Kept) (is : AreKept scope kept) (m : ℕ) (older : Exact scope kept m) where
  newest_exact : (n place : ℕ) (items : List Item) (under : List ℕ) (v : ℤ) → m ≤ n → Apart under (take (suc m) kept) → items_at scope place ≡ items → kept_at (take m kept) place ≡ None → slice_get kept m ≡ Some (place, v)
      → worked_out (name_value n scope (place ∷ under) (in_program scope place)) items [] ≡ Ok v
  newest_exact n place items under v le apart same none at =
      worked_more (kept_value scope (take m kept) (in_program scope place)) (name_value n scope (place ∷ under) (in_program scope place)) items [] v
      (λ w x h. older n (place ∷ under) (in_program scope place) w x le (apart_more kept m place under none apart) h)
      (subst (λ its. worked_out (kept_value scope (take m kept) (in_program scope place)) its [] ≡ Ok v) same (is m place v at).gives)

  exact_define : (n : ℕ) (under : List ℕ) (local : Bool) (name : List ℕ) (v : ℤ) → suc m ≤ n → Apart under (take (suc m) kept) → (place : ℕ) (items : List Item) → found scope local name ≡ Some (place, Define items)
      → kept_at (take (suc m) kept) place ≡ Some v → Newest kept m place v → name_value n scope under local name ≡ Ok v
  exact_define n under local name v le apart place items e k (inl there) =
      older n under local name v (omega (arith, le)) (λ q h. none_before kept m q (apart q h)) (rw (e, there) refl)
  exact_define zero under local name v le apart place items e k (inr there) = absurd (omega (arith, le))
  exact_define (suc n) under local name v le apart place items e k (inr there) =
      at_define scope under local name n place items e (not_under (is_among under place) refl) ∙ newest_exact n place items under v (omega (arith, le)) apart (items_of_found scope local name place items e) there.0 there.1
    where
      not_under : (b : Bool) → is_among under place ≡ b → is_among under place ≡ false
      not_under false t = t
      not_under true t = let no : None ≡ Some v = sym (apart place t) ∙ k in cc

  exact_more : Exact scope kept (suc m)
  exact_more n under local name v le apart h =
      exact_by scope (take (suc m) kept) n under local name v (found scope local name) refl (λ place items e k. exact_define n under local name v le apart place items e k (newest kept m place v k)) h

pub exact : (scope : Scope) (kept : Kept) → AreKept scope kept → (m : ℕ) → Exact scope kept m
exact scope kept is zero = exact_none scope kept
exact scope kept is (suc m) = exact_more scope kept is m (exact scope kept is m)

-- and the value of a define that is kept
kept_from : (scope : Scope) (kept : Kept) → AreKept scope kept → (m n place : ℕ) (v : ℤ) → m ≤ suc n → kept_at (take m kept) place ≡ Some v → worked_out (name_value n scope (place ∷ []) (in_program scope place)) (items_at scope place) [] ≡ Ok v
kept_from scope kept is zero n place v le h = let no : None ≡ Some v = h in cc
kept_from scope kept is (suc m) n place v le h = by (newest kept m place v h) (kept_from scope kept is m n place v (omega (arith, le))) where
  by : Newest kept m place v → (kept_at (take m kept) place ≡ Some v → worked_out (name_value n scope (place ∷ []) (in_program scope place)) (items_at scope place) [] ≡ Ok v) → worked_out (name_value n scope (place ∷ []) (in_program scope place)) (items_at scope place) [] ≡ Ok v
  by (inl there) rest = rest there
  by (inr there) rest = newest_exact scope kept is m (exact scope kept is m) n place (items_at scope place) [] v (omega (arith, le)) (λ q e. absurd (true≢false (sym e))) refl there.0 there.1

pub kept_exact : (scope : Scope) (kept : Kept) → AreKept scope kept → (n place : ℕ) (v : ℤ) → length kept ≤ suc n → kept_at kept place ≡ Some v → worked_out (name_value n scope (place ∷ []) (in_program scope place)) (items_at scope place) [] ≡ Ok v
kept_exact scope kept is n place v le h = kept_from scope kept is (length kept) n place v le (ap (λ es. kept_at es place) (take-length kept) ∙ h)

-- all that is kept is of names
pub all_exact : (scope : Scope) (kept : Kept) → AreKept scope kept → (n : ℕ) (under : List ℕ) (local : Bool) (name : List ℕ) (v : ℤ) → length kept ≤ n → Apart under kept → kept_value scope kept local name ≡ Ok v → name_value n scope under local name ≡ Ok v
all_exact scope kept is n under local name v le apart h =
    exact scope kept is (length kept) n under local name v le (λ q e. ap (λ es. kept_at es q) (take-length kept) ∙ apart q e) (ap (λ es. kept_value scope es local name) (take-length kept) ∙ h)
