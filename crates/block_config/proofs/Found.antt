-- What is found in a list seen by a view.
use Rattle.std.proofs.Common.{◌≡◌, ℕ, ◌||◌, cond, Bool, true, false, Option, Some, None, is_some, option_map, List, [], ◌∷◌, map, refl, ap, ◌∙◌}
use Rattle.std.specs.List.{find, list_any}
use Rattle.std.specs.Str.{bytes_eq}
use Rattle.block_config.specs.declared.programs.LoadedProgram.{LoadedProgram}
use Rattle.block_config.specs.Loads.{loaded_of, covers, is_covered}
use Rattle.block_config.specs.Programs.{Loaded, find_loaded}

first_or : {A B : Type 0} (f : A → B) (b : Bool) (x : A) (rest : Option A) → option_map f (cond b (Some x) rest) ≡ cond b (Some (f x)) (option_map f rest)
first_or f true x rest = refl
first_or f false x rest = refl

pub find_map : {A B : Type 0} (f : A → B) (q : B → Bool) (xs : List A) → option_map f (find (λ x. q (f x)) xs) ≡ find q (map f xs)
find_map f q [] = refl
find_map f q (x ∷ xs) = first_or f (q (f x)) x (find (λ x. q (f x)) xs) ∙ ap (cond (q (f x)) (Some (f x))) (find_map f q xs)

pub loaded_found : (name : List ℕ) (ls : List LoadedProgram) → option_map loaded_of (find (λ l. bytes_eq l.program.now.name name) ls) ≡ find_loaded name (map loaded_of ls)
loaded_found name ls = find_map loaded_of (λ l. bytes_eq l.program.name name) ls

-- one passes where the first that passes is found
pub any_found : {A : Type 0} (q : A → Bool) (xs : List A) → is_some (find q xs) ≡ list_any q xs
any_found q [] = refl
any_found q (x ∷ xs) = either (q x) x (find q xs) ∙ ap (λ b. q x || b) (any_found q xs) where
  either : {B : Type 0} (b : Bool) (y : B) (rest : Option B) → is_some (cond b (Some y) rest) ≡ (b || is_some rest)
  either true y rest = refl
  either false y rest = refl

-- a load covers an address where one is found
pub is_covered_found : (loads : List Loaded) (address : ℕ) (found : Option Loaded) → found ≡ find (λ l. covers l address) loads → is_some found ≡ is_covered loads address
is_covered_found loads address found e = ap is_some e ∙ any_found (λ l. covers l address) loads

-- a view of what is found is there where it is
pub seen_or_not : {A B : Type 0} (f : A → B) (o : Option A) → is_some (option_map f o) ≡ is_some o
seen_or_not f None = refl
seen_or_not f (Some x) = refl
