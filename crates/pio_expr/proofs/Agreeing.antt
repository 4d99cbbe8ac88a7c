-- Which values of names agree with what a frame uses.
use Rattle.std.proofs.Common.{◌≡◌, ℕ, zero, suc, ◌<◌, ◌≤◌, ℤ, Bool, true, false, List, [], ◌∷◌, ◌++◌, length, take, Option, Some, None, Result, refl, ap, sym, subst, ◌∙◌, ◌⊎◌, inl, inr, arith, nat_eq, slice_get}
use Rattle.std.proofs.lemmas.List.{take-append-le}
use Rattle.std.proofs.Math.Seq.{take-append_seam}
use Rattle.std.proofs.lemmas.Option.{same_Some}
use Rattle.pio_expr.specs.declared.expr.Item.{Item}
use Rattle.pio_expr.specs.declared.symbol.Symbol.TheVariants.{Define, Label}
use Rattle.pio_expr.specs.declared.fault.ValueKind.{ValueKind}
use Rattle.pio_expr.specs.Values.{Scope, Found, found, is_among, by_symbol, name_value}
use Rattle.pio_expr.specs.Frames.{Kept, kept_at, kept_value, by_kept, number, look_by, looked_up, Agrees, AgreesBy, AreKept, IsKeptAt}
use Rattle.pio_expr.proofs.Keeping.{Apart, at_none, at_label, at_cycle, all_exact}

-- the values of the definition agree
agree_by : (scope : Scope) (kept : Kept) (n : ℕ) (under : List ℕ) (local : Bool) (name : List ℕ) → AreKept scope kept → length kept ≤ n → Apart under kept → (f : Found) → found scope local name ≡ f
    → AgreesBy (by_symbol number (λ place items. look_by (kept_at kept place) (is_among under place) name place items) name f) (name_value n scope under local name)
agree_by scope kept n under local name is le apart None e = at_none scope under local name n e
agree_by scope kept n under local name is le apart (Some (place, Label k)) e = at_label scope under local name n place k e
agree_by scope kept n under local name is le apart (Some (place, Define items)) e = by (kept_at kept place) (is_among under place) refl refl where
  by : (o : Option ℤ) (u : Bool) → kept_at kept place ≡ o → is_among under place ≡ u → AgreesBy (look_by o u name place items) (name_value n scope under local name)
  by (Some v) u k t = all_exact scope kept is n under local name v le apart (rw (e, k) refl)
  by None true k t = at_cycle scope under local name n place items e t
  by None false k t = tt

pub agrees_value : (scope : Scope) (kept : Kept) (n : ℕ) (under : List ℕ) (local : Bool) → AreKept scope kept → length kept ≤ n → Apart under kept → Agrees (looked_up scope kept (is_among under) local) (name_value n scope under local)
agrees_value scope kept n under local is le apart name = agree_by scope kept n under local name is le apart (found scope local name) refl

-- the kept values agree
kept_by : (kept : Kept) (under : ℕ → Bool) (name : List ℕ) (f : Found) → AgreesBy (by_symbol number (λ place items. look_by (kept_at kept place) (under place) name place items) name f) (by_symbol (λ n. n) (λ place items. by_kept name (kept_at kept place)) name f)
kept_by kept under name None = refl
kept_by kept under name (Some (place, Label k)) = refl
kept_by kept under name (Some (place, Define items)) = by (kept_at kept place) (under place) where
  by : (o : Option ℤ) (u : Bool) → AgreesBy (look_by o u name place items) (by_kept name o)
  by (Some v) u = refl
  by None true = refl
  by None false = tt

pub agrees_kept : (scope : Scope) (kept : Kept) (under : ℕ → Bool) (local : Bool) → Agrees (looked_up scope kept under local) (kept_value scope kept local)
agrees_kept scope kept under local name = kept_by kept under name (found scope local name)

-- what agrees where more is kept and as many are under way
abbrev pub IsMore : Kept → (ℕ → Bool) → Kept → (ℕ → Bool) → Type 0
IsMore kept under kept' under' = (q : ℕ) → ((v : ℤ) → kept_at kept q ≡ Some v → kept_at kept' q ≡ Some v) × (kept_at kept q ≡ None → under q ≡ true → (kept_at kept' q ≡ None) × (under' q ≡ true))

fewer_by : (name : List ℕ) (place : ℕ) (items : List Item) (r : Result ℤ ValueKind) (a b : Option ℤ) (u w : Bool) → ((v : ℤ) → a ≡ Some v → b ≡ Some v) → (a ≡ None → u ≡ true → (b ≡ None) × (w ≡ true)) → AgreesBy (look_by b w name place items) r → AgreesBy (look_by a u name place items) r
fewer_by name place items r (Some v) b u w same none h = rw (same v refl) at h
fewer_by name place items r None b true w same none h = rw ((none refl refl).0, (none refl refl).1) at h
fewer_by name place items r None b false w same none h = tt

fewer_found : (kept kept' : Kept) (under under' : ℕ → Bool) (name : List ℕ) (r : Result ℤ ValueKind) → IsMore kept under kept' under' → (f : Found) → AgreesBy (by_symbol number (λ place items. look_by (kept_at kept' place) (under' place) name place items) name f) r → AgreesBy (by_symbol number (λ place items. look_by (kept_at kept place) (under place) name place items) name f) r
fewer_found kept kept' under under' name r more None h = h
fewer_found kept kept' under under' name r more (Some (place, Label k)) h = h
fewer_found kept kept' under under' name r more (Some (place, Define items)) h = fewer_by name place items r (kept_at kept place) (kept_at kept' place) (under place) (under' place) (more place).0 (more place).1 h

pub agrees_fewer : (scope : Scope) (kept kept' : Kept) (under under' : ℕ → Bool) (local : Bool) (given : List ℕ → Result ℤ ValueKind) → IsMore kept under kept' under' → Agrees (looked_up scope kept' under' local) given → Agrees (looked_up scope kept under local) given
agrees_fewer scope kept kept' under under' local given more h name = fewer_found kept kept' under under' name (given name) more (found scope local name) (h name)

-- one value more is kept
pub pushed_some : (kept : Kept) (place q : ℕ) (v w : ℤ) → kept_at kept q ≡ Some w → kept_at (kept ++ (place, v) ∷ []) q ≡ Some w
pushed_some [] place q v w h = let no : None ≡ Some w = h in cc
pushed_some (e ∷ es) place q v w h = by (nat_eq q e.0) refl (pushed_some es place q v w) where
  by : (b : Bool) → nat_eq q e.0 ≡ b → (kept_at es q ≡ Some w → kept_at (es ++ (place, v) ∷ []) q ≡ Some w) → kept_at (e ∷ es ++ (place, v) ∷ []) q ≡ Some w
  by true t rest = rw t (rw t at h)
  by false t rest = rw t (rest (rw t at h))

pub pushed_none : (kept : Kept) (place q : ℕ) (v : ℤ) → kept_at kept q ≡ None → nat_eq q place ≡ false → kept_at (kept ++ (place, v) ∷ []) q ≡ None
pushed_none [] place q v h other = rw other refl
pushed_none (e ∷ es) place q v h other = by (nat_eq q e.0) refl (pushed_none es place q v) where
  by : (b : Bool) → nat_eq q e.0 ≡ b → (kept_at es q ≡ None → nat_eq q place ≡ false → kept_at (es ++ (place, v) ∷ []) q ≡ None) → kept_at (e ∷ es ++ (place, v) ∷ []) q ≡ None
  by true t rest = let no : Some e.1 ≡ None = rw t at h in cc
  by false t rest = rw t (rest (rw t at h) other)

pushed_at : {X : Type 0} (xs : List X) (x : X) (i : ℕ) (y : X) → slice_get (xs ++ x ∷ []) i ≡ Some y → ((i < length xs) × (slice_get xs i ≡ Some y)) ⊎ ((i ≡ length xs) × (x ≡ y))
pushed_at [] x zero y h = inr (refl, same_Some _ _ h)
pushed_at [] x (suc i) y h = let no : None ≡ Some y = h in cc
pushed_at (z ∷ xs) x zero y h = inl (omega arith, h)
pushed_at {X} (z ∷ xs) x (suc i) y h = by (pushed_at xs x i y h) where
  by : ((i < length xs) × (slice_get xs i ≡ Some y)) ⊎ ((i ≡ length xs) × (x ≡ y)) → ((suc i < length (z ∷ xs)) × (slice_get (z ∷ xs) (suc i) ≡ Some y)) ⊎ ((suc i ≡ length (z ∷ xs)) × (x ≡ y))
  by (inl a) = inl (omega (arith, a.0), a.1)
  by (inr b) = inr (omega (arith, b.0), b.1)

pub kept_pushed : (scope : Scope) (kept : Kept) (place : ℕ) (v : ℤ) → AreKept scope kept → IsKeptAt scope kept place v → AreKept scope (kept ++ (place, v) ∷ [])
kept_pushed scope kept place v is new i q w h = by (pushed_at kept (place, v) i (q, w) h) where
  by : ((i < length kept) × (slice_get kept i ≡ Some (q, w))) ⊎ ((i ≡ length kept) × (◌≡◌ {A = ℕ × ℤ} (place, v) (q, w))) → IsKeptAt scope (take i (kept ++ (place, v) ∷ [])) q w
  by (inl a) = subst (λ es. IsKeptAt scope es q w) (sym (take-append-le i kept ((place, v) ∷ []) (omega (arith, a.0)))) (is i q w a.1)
  by (inr b) = subst (λ es. IsKeptAt scope es q w) (sym (ap (λ j. take j (kept ++ (place, v) ∷ [])) b.0 ∙ take-append_seam kept ((place, v) ∷ []))) (subst (λ p. IsKeptAt scope kept p.0 p.1) b.1 new)
