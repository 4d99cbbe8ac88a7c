-- A machine starts in the program that it runs, and in no other.
use Rattle.std.proofs.Common.{◌≡◌, ℕ, ◌+◌, ◌<◌, ◌≤◌, ℤ, pos, negsuc, cond, nat_le, nat_lt, Bool, true, false, Option, Some, None, Ok, List, [], ◌∷◌, length, refl, ap, sym, subst, ◌∙◌, arith, codes, inl, inr}
use Rattle.std.specs.List.{find, list_any}
use Rattle.std.specs.Str.{bytes_eq}
use Rattle.std.proofs.lemmas.Bool.{cases_Bool, false≢true, and_parts, ltb-true, lt-ltb, le-leb}
use Rattle.toml.specs.Data.{Members, get_member}
use Rattle.pio_assemble.specs.declared.symbols.ProgramSymbol.{ProgramSymbol}
use Rattle.block_config.specs.Apart.{AreApart}
use Rattle.block_config.specs.declared.fault.ConfigKind.TheVariants.{NoProgram}
use Rattle.block_config.specs.Spans.{load_of_machine}
use Rattle.setup_keys.specs.Block.{MachineKeys}
use Rattle.block_config.specs.Loads.{covers}
use Rattle.block_config.specs.Machines.{named_load, load_at, moved_place, start_of, start_at, machine_of_table}
use Rattle.block_config.specs.Programs.{Loaded, find_loaded, place_in, place_of, label_of}
use Rattle.block_config.specs.Values.{or_fault, text_of}
use Rattle.block_config.proofs.MachineParts.{machine_parts}
use Rattle.block_config.proofs.Ranges.{goes_on, off_key, ok_same}
use Rattle.block_config.proofs.RunParts.{run_parts}

found_covered : (p : Loaded → Bool) (ls : List Loaded) (l : Loaded) → find p ls ≡ Some l → list_any p ls ≡ true
found_covered p [] l e = cc
found_covered p (x ∷ ls) l e =
    elim (cases_Bool (p x)) [
      | inl passes ↦ rw passes refl
      | inr fails ↦ rw fails (found_covered p ls l (rw fails at e))
    ]

first_found : (b : Bool) (x l : Loaded) (rest : Option Loaded) → b ≡ true → x ≡ l → cond b (Some x) rest ≡ Some l
first_found b x l rest passes same = rw passes (ap Some same)

later_found : (b : Bool) (x l : Loaded) (rest : Option Loaded) → b ≡ false → rest ≡ Some l → cond b (Some x) rest ≡ Some l
later_found b x l rest fails found = rw fails found

is_first : (b : Bool) (x l : Loaded) (rest : Option Loaded) → b ≡ true → cond b (Some x) rest ≡ Some l → x ≡ l
is_first true x l rest is e = cc
is_first false x l rest is e = cc

is_later : (b : Bool) (x l : Loaded) (rest : Option Loaded) → b ≡ false → cond b (Some x) rest ≡ Some l → rest ≡ Some l
is_later true x l rest is e = cc
is_later false x l rest is e = e

-- the load of a name is the one that covers an address which it covers
found_again : (name : List ℕ) (start : ℕ) (ls : List Loaded) (l : Loaded) → AreApart ls → find_loaded name ls ≡ Some l → start < 32 → covers l start ≡ true
    → find (λ x. covers x start) ls ≡ Some l
found_again name start [] l apart e within here = cc
found_again name start (x ∷ ls) l apart e within here =
    elim (cases_Bool (bytes_eq x.program.name name)) [
      | inl named ↦
          let same : x ≡ l = is_first (bytes_eq x.program.name name) x l (find_loaded name ls) named e in
          first_found (covers x start) x l _ (subst (λ (y : Loaded). covers y start ≡ true) (sym same) here) same
      | inr other ↦
          let later : find (λ y. covers y start) ls ≡ Some l = found_again name start ls l apart.1 (is_later (bytes_eq x.program.name name) x l (find_loaded name ls) other e) within here in
          elim (cases_Bool (covers x start)) [
            | inl there ↦ absurd (false≢true (sym (apart.0 start within there) ∙ found_covered (λ y. covers y start) ls l later))
            | inr not_there ↦ later_found (covers x start) x l _ not_there later
          ]
    ]

covers_at : (l : Loaded) (a : ℕ) → l.address ≤ a → a < l.address + length l.program.words → covers l a ≡ true
covers_at l a low high = rw (le-leb l.address a low, lt-ltb a (l.address + length l.program.words) high) refl

place_tested : (n m k : ℕ) (b : Bool) → nat_lt n m ≡ b → cond b (Some n) None ≡ Some k → k < m
place_tested n m k true is e = let same : n ≡ k = cc in let below : n < m = ltb-true n m is in omega arith
place_tested n m k false is e = cc

place_below : (words : List ℕ) (z : ℤ) (k : ℕ) → place_in words z ≡ Some k → k < length words
place_below words (pos n) k e = place_tested n (length words) k _ refl e
place_below words (negsuc n) k e = cc

symbol_tested : (words : List ℕ) (s : ProgramSymbol) (k : ℕ) (b : Bool) → cond b (place_in words s.value) None ≡ Some k → k < length words
symbol_tested words s k true e = place_below words s.value k e
symbol_tested words s k false e = cc

label_below : (words : List ℕ) (o : Option ProgramSymbol) (k : ℕ) → place_of words o ≡ Some k → k < length words
label_below words None k e = cc
label_below words (Some s) k e = symbol_tested words s k s.is_label e

moved_covered : (l : Loaded) (o : Option ℕ) (start : ℕ) → ((k : ℕ) → o ≡ Some k → k < length l.program.words) → moved_place l.address o ≡ Ok start → covers l start ≡ true
moved_covered l None start below e = cc
moved_covered l (Some k) start below e =
    let same : l.address + k ≡ start = cc in
    let within : k < length l.program.words = below k refl in
    covers_at l start (omega arith) (omega arith)

pub start_covered : (l : Loaded) (o : Option (List ℕ)) (start : ℕ) → 1 ≤ length l.program.words → start_of l o ≡ Ok start → covers l start ≡ true
start_covered l None start some e = let same : l.address ≡ start = cc in covers_at l start (omega arith) (omega arith)
start_covered l (Some name) start some e = moved_covered l (label_of l.program name) start (label_below l.program.words _) e

some_of : (o : Option Loaded) (l : Loaded) → or_fault NoProgram o ≡ Ok l → o ≡ Some l
some_of None l e = cc
some_of (Some x) l e = let same : x ≡ l = cc in ap Some same

pub covered_below : (l : Loaded) (a : ℕ) → l.address + length l.program.words ≤ 32 → covers l a ≡ true → a < 32
covered_below l a fits here =
    let (low, high) = and_parts (nat_le l.address a) (nat_lt a (l.address + length l.program.words)) here in
    let below : a < l.address + length l.program.words = ltb-true a (l.address + length l.program.words) high in
    omega arith

pub named_found : (name : Option (List ℕ)) (loads : List Loaded) (l : Loaded) → named_load loads name ≡ Ok l → (n : List ℕ) × (find_loaded n loads ≡ Some l)
named_found None loads l e = cc
named_found (Some n) loads l e = (n, some_of (find_loaded n loads) l e)

starts_at : (machines : List (Option MachineKeys)) (loads : List Loaded) (t : Members) (m : MachineKeys) (l : Loaded) → load_at loads t ≡ Ok l → machine_of_table machines loads t ≡ Ok m → start_at l t ≡ Ok m.start
starts_at machines loads t m l named e =
    let parts = machine_parts machines loads t m e in
    let run = run_parts machines loads t parts.run parts.run_found in
    let there : start_at parts.run.load t ≡ Ok m.start = run.start_found ∙ ap (λ (k : MachineKeys). Ok k.start) parts.whole in
    subst (λ (x : Loaded). start_at x t ≡ Ok m.start) (ok_same parts.run.load l (sym run.load_found ∙ named)) there

pub in_its_program : (machines : List (Option MachineKeys)) (loads : List Loaded) (t : Members) (m : MachineKeys) (l : Loaded) → AreApart loads → load_at loads t ≡ Ok l
    → 1 ≤ length l.program.words → l.address + length l.program.words ≤ 32 → machine_of_table machines loads t ≡ Ok m → load_of_machine loads (Some m) ≡ Some l
in_its_program machines loads t m l apart named some fits e =
    let start = goes_on (text_of (get_member (codes "start") t)) (start_of l) m.start (off_key (codes "start") _ m.start (starts_at machines loads t m l named e)) in
    let here : covers l m.start ≡ true = start_covered l start.value m.start some start.rest in
    let program = goes_on (text_of (get_member (codes "program") t)) (named_load loads) l (off_key (codes "program") _ l named) in
    let found = named_found program.value loads l program.rest in
    let within : m.start < 32 = covered_below l m.start fits here in
    found_again found.0 m.start loads l apart found.1 within here
