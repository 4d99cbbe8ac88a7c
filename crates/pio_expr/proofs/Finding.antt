-- What a look-up finds is at its place.
use Rattle.std.proofs.Common.{◌≡◌, ℕ, zero, suc, ◌+◌, ◌<◌, Bool, true, false, List, [], ◌∷◌, ◌++◌, length, Option, Some, None, refl, ap, ◌∙◌, arith, slice_get, option_map}
use Rattle.std.proofs.lemmas.Option.{slice_get_within, same_Some}
use Rattle.std.proofs.lemmas.List.{length-append}
use Rattle.std.specs.Str.{bytes_eq}
use Rattle.pio_expr.specs.declared.expr.Item.{Item}
use Rattle.pio_expr.specs.declared.symbol.Symbol.{Symbol}
use Rattle.pio_expr.specs.declared.symbol.Symbol.TheVariants.{Define}
use Rattle.pio_expr.specs.Values.{Symbols, Scope, Found, found, found_in, or_global, program_of, count_of, own_place, IsOwnTo}
use Rattle.pio_expr.specs.Frames.{items_at, items_by, symbol_at}
use Rattle.pio_expr.specs.Work.{IsOwn}

symbol_in : Symbols → ℕ → Option Symbol
symbol_in symbols i = option_map (λ s. s.1) (slice_get symbols i)

in_front : (symbols more : Symbols) (i : ℕ) (s : Symbol) → symbol_in symbols i ≡ Some s → symbol_in (symbols ++ more) i ≡ Some s
unfolding symbol_in
in_front [] more i s h = cc
in_front (x ∷ symbols) more zero s h = h
in_front (x ∷ symbols) more (suc i) s h = in_front symbols more i s h

after : (symbols more : Symbols) (i : ℕ) → symbol_in (symbols ++ more) (length symbols + i) ≡ symbol_in more i
unfolding symbol_in
after [] more i = let none : 0 + i ≡ i = omega arith in rw none refl
after (x ∷ symbols) more i = let one : length (x ∷ symbols) + i ≡ suc (length symbols + i) = omega arith in rw one (after symbols more i)

abbrev IsAt : Symbols → ℕ → ℕ → Symbol → Type 0
IsAt symbols first place s = (i : ℕ) × (place ≡ first + i) × (symbol_in symbols i ≡ Some s)

is_at : (first : ℕ) (symbols : Symbols) (name : List ℕ) (place : ℕ) (s : Symbol) → found_in first symbols name ≡ Some (place, s) → IsAt symbols first place s
unfolding found_in symbol_in
is_at first [] name place s h = cc
is_at first (x ∷ symbols) name place s h = by (bytes_eq name x.0) refl (is_at (first + 1) symbols name place s) where
  further : IsAt symbols (first + 1) place s → IsAt (x ∷ symbols) first place s
  further there = (suc there.0, omega (arith, there.1), there.2)

  by : (b : Bool) → bytes_eq name x.0 ≡ b → (found_in (first + 1) symbols name ≡ Some (place, s) → IsAt symbols (first + 1) place s) → IsAt (x ∷ symbols) first place s
  by true t rest =
      let same : ◌≡◌ {A = ℕ × Symbol} (first, x.1) (place, s) = same_Some _ _ (rw t at h) in
      let p : first ≡ place = ap (λ y. y.0) same in
      (0, omega (arith, p), ap (λ y. Some y.1) same)
  by false t rest = further (rest (rw t at h))

globally : (scope : Scope) (name : List ℕ) (place : ℕ) (s : Symbol) → found_in 0 scope.globals name ≡ Some (place, s) → symbol_at scope place ≡ Some s
unfolding symbol_in
globally scope name place s h =
    let there = is_at 0 scope.globals name place s h in
    let p : place ≡ there.0 = there.1 ∙ omega arith in
    rw p (in_front scope.globals (program_of scope) there.0 s there.2)

-- the symbol that is found is at its place
pub found_is_there : (scope : Scope) (local : Bool) (name : List ℕ) (place : ℕ) (s : Symbol) → found scope local name ≡ Some (place, s) → symbol_at scope place ≡ Some s
unfolding symbol_in
found_is_there scope false name place s h = globally scope name place s h
found_is_there scope true name place s h = by (found_in (length scope.globals) (program_of scope) name) refl h where
  by : (f : Found) → found_in (length scope.globals) (program_of scope) name ≡ f → or_global scope.globals name f ≡ Some (place, s) → symbol_at scope place ≡ Some s
  by None e h' = globally scope name place s h'
  by (Some t) e h' =
      let there = is_at (length scope.globals) (program_of scope) name place s (e ∙ h') in
      rw (there.1) (after scope.globals (program_of scope) there.0 ∙ there.2)

pub items_of_symbol : (scope : Scope) (place : ℕ) (items : List Item) → symbol_at scope place ≡ Some (Define items) → items_at scope place ≡ items
unfolding items_at
items_of_symbol scope place items h = ap items_by h

pub items_of_found : (scope : Scope) (local : Bool) (name : List ℕ) (place : ℕ) (items : List Item) → found scope local name ≡ Some (place, Define items) → items_at scope place ≡ items
items_of_found scope local name place items h = items_of_symbol scope place items (found_is_there scope local name place (Define items) h)

-- and its place is one of the scope's
pub place_within : (scope : Scope) (place : ℕ) (s : Symbol) → symbol_at scope place ≡ Some s → place < count_of scope
place_within scope place s h = by (slice_get (scope.globals ++ program_of scope) place) refl h where
  by : (o : Option (List ℕ × Symbol)) → slice_get (scope.globals ++ program_of scope) place ≡ o → option_map (λ s. s.1) o ≡ Some s → place < count_of scope
  by None e h' = cc
  by (Some x) e h' = let within = slice_get_within (scope.globals ++ program_of scope) place x e in let both = length-append scope.globals (program_of scope) in omega (arith, within, both)

-- an expression that is own to a symbol is that of the symbol's place
pub own_is_there : (scope : Scope) (own : Option (List ℕ)) (items : List Item) → IsOwnTo scope own items → IsOwn scope (own_place scope own) items
own_is_there scope None items h = tt
own_is_there scope (Some name) items h = by (found scope true name) refl h where
  by : (f : Found) → found scope true name ≡ f → option_map (λ s. s.1) f ≡ Some (Define items) → IsOwn scope (option_map (λ s. s.0) f) items
  by None e h' = cc
  by (Some (place, s)) e h' = found_is_there scope true name place s e ∙ h'
