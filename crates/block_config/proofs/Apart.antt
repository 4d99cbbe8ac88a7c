-- The loads of a configuration lie apart.
use Rattle.std.proofs.Common.{◌≡◌, ℕ, suc, zero, ◌+◌, ◌<◌, ◌≤◌, ◌==◌, ◌&&◌, ◌||◌, ◌++◌, cond, Bool, true, false, Option, Some, None, Result, Ok, Err, List, [], ◌∷◌, refl, sym, subst, ◌∙◌, arith, codes, inl, inr}
use Rattle.std.specs.List.{find, range_with_len}
use Rattle.std.proofs.lemmas.Bool.{cases_Bool, false≢true, eqb-true, eqb-false, or_from, or_parts}
use Rattle.std.proofs.lemmas.List.Folds.{list_any-append}
use Rattle.toml.specs.Data.{Items, no_items, item, Members, as_table, get_member}
use Rattle.pio_assemble.specs.Program.{Assembled}
use Rattle.block_config.specs.declared.path.Section.{Section}
use Rattle.block_config.specs.declared.path.Section.TheVariants.{Load}
use Rattle.block_config.specs.Answer.{ConfigRefusal}
use Rattle.block_config.specs.Apart.{AreApart}
use Rattle.block_config.specs.Arrays.{gather}
use Rattle.block_config.specs.Loads.{covers, is_covered, first_shared, unshared, keeps_origin, placed_at, at_key, load_names, program_at, load_at, load_of_table, load_in, all_loads}
use Rattle.block_config.specs.Tables.{in_section, section_at, element_of, are_known}
use Rattle.block_config.specs.Memory.{fits_at}
use Rattle.block_config.specs.Programs.{Loaded}
use Rattle.block_config.specs.Values.{number_of}
use Rattle.block_config.proofs.Ranges.{goes_on, off_key}

none_here : (p : ℕ → Bool) (a i n : ℕ) (b : Bool) → p a ≡ b → cond b (Some a) (find p (range_with_len (a + 1) n)) ≡ None → (p a ≡ false) × (find p (range_with_len (a + 1) n) ≡ None)
none_here p a i n true is e = cc
none_here p a i n false is e = (is, e)

-- where no number of a range passes, none of them does
none_passes : (p : ℕ → Bool) (n a i : ℕ) → find p (range_with_len a n) ≡ None → a ≤ i → i < a + n → p i ≡ false
none_passes p zero a i e low high = absurd (omega arith)
none_passes p (suc n) a i e low high =
    let parts = none_here p a i n (p a) refl e in
    elim (cases_Bool (a == i)) [
      | inl same ↦ subst (λ (j : ℕ). p j ≡ false) (eqb-true a i same) parts.0
      | inr other ↦ none_passes p n (a + 1) i parts.1 (omega (arith, eqb-false a i other)) (omega arith)
    ]

-- a load covers nothing that others cover
abbrev Lone : List Loaded → Loaded → Type 0
Lone front l = (a : ℕ) → a < 32 → covers l a ≡ true → is_covered front a ≡ false

second_of : (a b : Bool) → (a && b) ≡ false → a ≡ true → b ≡ false
second_of true b e is = e
second_of false b e is = cc

lone_unshared : (front : List Loaded) (l found : Loaded) (o : Option ℕ) → first_shared front l ≡ o → unshared l o ≡ Ok found → Lone front found
unfolding first_shared
lone_unshared front l found (Some a) none e = cc
lone_unshared front l found None none e =
    let same : l ≡ found = cc in
    subst (Lone front) same (λ a within covered. second_of (covers l a) (is_covered front a) (none_passes (λ x. covers l x && is_covered front x) 32 0 a none (omega arith) within) covered)

lone_placed : (p : Assembled) (front : List Loaded) (address : ℕ) (found : Loaded) (fits : Bool) → (keeps_origin p.origin address && fits_at address p.words) ≡ fits
    → placed_at p front address ≡ Ok found → Lone front found
lone_placed p front address found true fit e =
    lone_unshared front (record { program = p; address = address }) found _ refl (rw fit at e)
lone_placed p front address found false fit e = let h = rw fit at e in cc

lone_in_section : (section : Section) (r : Result Loaded ConfigRefusal) (found : Loaded) → in_section section r ≡ Ok found → r ≡ Ok found
lone_in_section section (Ok l) found e = e
lone_in_section section (Err r) found e = cc

lone_of_table : (programs : List Assembled) (front : List Loaded) (t : Members) (found : Loaded) → load_of_table programs front t ≡ Ok found → Lone front found
lone_of_table programs front t found e =
    let at = goes_on (program_at programs front t) (λ p. load_at p front t) found e in
    let placed = goes_on (number_of (at_key at.value) (get_member (codes "at") t)) (placed_at at.value front) found (off_key (codes "at") _ found at.rest) in
    lone_placed at.value front placed.value found _ refl placed.rest

lone_known : (programs : List Assembled) (front : List Loaded) (section : Section) (t : Members) (found : Loaded) (known : Bool) → are_known load_names t ≡ known
    → section_at section load_names t (load_of_table programs front t) ≡ Ok found → Lone front found
lone_known programs front section t found true is e = lone_of_table programs front t found (lone_in_section section _ found (rw is at e))
lone_known programs front section t found false is e = let h = rw is at e in cc

lone_element : (programs : List Assembled) (front : List Loaded) (place : ℕ) (o : Option Members) (found : Loaded)
    → element_of (codes "load") o (λ t. section_at (Load place) load_names t (load_of_table programs front t)) ≡ Ok found → Lone front found
lone_element programs front place None found e = cc
lone_element programs front place (Some t) found e = lone_known programs front (Load place) t found _ refl e

taken : (a b : Bool) → (a || b) ≡ false → a ≡ true → false ≡ true
taken false b e is = is
taken true b e is = sym e

-- what one of the others covers a lone load doesn't
not_there : (f l : Loaded) (front : List Loaded) (a : ℕ) → a < 32 → covers f a ≡ true → Lone (f ∷ front) l → covers l a ≡ false
not_there f l front a within covered lone =
    elim (cases_Bool (covers l a)) [
      | inl there ↦ absurd (false≢true (taken (covers f a) (is_covered front a) (lone a within there) covered))
      | inr not_here ↦ not_here
    ]

-- a load after others that lie apart
apart_more : (front : List Loaded) (l : Loaded) → AreApart front → Lone front l → AreApart (front ++ l ∷ [])
apart_more [] l apart lone = (λ a within covered. refl, tt)
apart_more (f ∷ front) l apart lone = (
  λ a within covered. list_any-append (λ x. covers x a) front (l ∷ [])
      ∙ or_from (is_covered front a) (covers l a || false) (apart.0 a within covered) (or_from (covers l a) false (not_there f l front a within covered lone) refl),
  apart_more front l apart.1 (λ a within covered. (or_parts (covers f a) (is_covered front a) (lone a within covered)).1),
)

apart_gathered : (programs : List Assembled) (tables : Items) (place : ℕ) (front loads : List Loaded) → AreApart front → gather (load_in programs) place front tables ≡ Ok loads → AreApart loads
unfolding gather
apart_gathered programs no_items place front loads apart e = let same : front ≡ loads = cc in subst AreApart same apart
apart_gathered programs (item d rest) place front loads apart e =
    let next = goes_on (load_in programs place front d) (λ l. gather (load_in programs) (place + 1) (front ++ l ∷ []) rest) loads e in
    apart_gathered programs rest (place + 1) (front ++ next.value ∷ []) loads (apart_more front next.value apart (lone_element programs front place (as_table d) next.value next.found)) next.rest

pub loads_apart : (programs : List Assembled) (tables : Items) (loads : List Loaded) → all_loads programs tables ≡ Ok loads → AreApart loads
loads_apart programs tables loads e = apart_gathered programs tables 0 [] loads tt e
