-- What holds of each element that is read holds of all of them.
use Rattle.std.proofs.Common.{◌≡◌, ℕ, ◌+◌, ◌++◌, length, length-append, cond, Bool, true, false, Option, Some, None, Result, Ok, Err, List, [], ◌∷◌, ap, subst, arith}
use Rattle.std.specs.List.{find, AllByRecursion}
use Rattle.toml.specs.Data.{Data, Items, no_items, item, Members}
use Rattle.block_config.specs.Answer.{ConfigRefusal}
use Rattle.block_config.specs.Arrays.{count_items, gather}
use Rattle.block_config.specs.Tables.{in_section, section_at, element_of, are_known}
use Rattle.block_config.specs.declared.fault.ConfigKind.TheVariants.{UnknownKey}
use Rattle.block_config.specs.declared.path.Section.{Section}
use Rattle.block_config.proofs.Ranges.{goes_on}

all_more : {X : Type 0} (P : X → Type 0) (xs : List X) (x : X) → AllByRecursion P xs → P x → AllByRecursion P (xs ++ x ∷ [])
all_more P [] x h here = (here, tt)
all_more P (y ∷ ys) x h here = (h.0, all_more P ys x h.1 here)

pub gather_keeps : {X E : Type 0} (P : X → Type 0) (read : ℕ → List X → Data → Result X E) → ((place : ℕ) (front : List X) (d : Data) (x : X) → AllByRecursion P front → read place front d ≡ Ok x → P x)
    → (items : Items) (place : ℕ) (front all : List X) → AllByRecursion P front → gather read place front items ≡ Ok all → AllByRecursion P all
unfolding gather
gather_keeps P read reads no_items place front all h e = let same : front ≡ all = cc in subst (AllByRecursion P) same h
gather_keeps P read reads (item d rest) place front all h e =
    let next = goes_on (read place front d) (λ x. gather read (place + 1) (front ++ x ∷ []) rest) all e in
    gather_keeps P read reads rest (place + 1) (front ++ next.value ∷ []) all (all_more P front next.value h (reads place front d next.value h next.found)) next.rest

-- one thing is gathered of each element
pub gathered_count : {X E : Type 0} (read : ℕ → List X → Data → Result X E) (items : Items) (place : ℕ) (front all : List X) → gather read place front items ≡ Ok all → length all ≡ length front + count_items items
unfolding gather
gathered_count read no_items place front all e = let same : front ≡ all = cc in omega (arith, ap length same)
gathered_count read (item d rest) place front all e =
    let next = goes_on (read place front d) (λ x. gather read (place + 1) (front ++ x ∷ []) rest) all e in
    let later = gathered_count read rest (place + 1) (front ++ next.value ∷ []) all next.rest in
    let one = length-append front (next.value ∷ []) in
    omega (arith, later, one)

found_first : {X : Type 0} (P : X → Type 0) (b : Bool) (x y : X) (rest : Option X) → P y → (rest ≡ Some x → P x) → cond b (Some y) rest ≡ Some x → P x
found_first P true x y rest here later e = let same : y ≡ x = cc in subst P same here
found_first P false x y rest here later e = later e

-- what holds of all holds of the one that is found
pub found_keeps : {X : Type 0} (P : X → Type 0) (q : X → Bool) (xs : List X) (x : X) → AllByRecursion P xs → find q xs ≡ Some x → P x
found_keeps P q [] x h e = cc
found_keeps P q (y ∷ ys) x h e = found_first P (q y) x y (find q ys) h.0 (λ later. found_keeps P q ys x h.1 later) e

pub off_section : {X : Type 0} (section : Section) (r : Result X ConfigRefusal) (x : X) → in_section section r ≡ Ok x → r ≡ Ok x
off_section section (Ok y) x e = e
off_section section (Err r) x e = cc

pub known_read : {X : Type 0} (section : Section) (r : Result X ConfigRefusal) (x : X) (path : List ℕ) (known : Bool) → cond known (in_section section r) (Err (record { key = path; kind = UnknownKey })) ≡ Ok x → r ≡ Ok x
known_read section r x path true e = off_section section r x e
known_read section r x path false e = cc

-- what a table gives, of an element that is read
pub read_table : {X : Type 0} (name : List ℕ) (o : Option Members) (section : Section) (names : List (List ℕ)) (read : Members → Result X ConfigRefusal) (x : X)
    → element_of name o (λ t. section_at section names t (read t)) ≡ Ok x → (t : Members) × (read t ≡ Ok x)
read_table name None section names read x e = cc
read_table name (Some t) section names read x e = (t, known_read section (read t) x _ (are_known names t) e)

-- the table of an element that is read
pub element_read : {X : Type 0} (name : List ℕ) (o : Option Members) (read : Members → Result X ConfigRefusal) (x : X) → element_of name o read ≡ Ok x → (t : Members) × (read t ≡ Ok x)
element_read name None read x e = cc
element_read name (Some t) read x e = (t, e)
