-- Addresses that loads cover, programs by their names, and memory with loads in it.
use Rattle.std.proofs.Common.{◌≡◌, ℕ, suc, ◌+◌, ◌-◌, ◌<◌, ◌≤◌, ◌++◌, nat_lt, true, false, Bool, Bor, Option, Some, None, option_map, option_copied, List, [], ◌∷◌, map, drop, length, get_or, refl, ap, ◌∙◌, arith}
use Rattle.std.specs.List.{find, range_with_len}
use Rattle.std.proofs.lemmas.List.{drop_all, drop_more}
use Rattle.std.proofs.lemmas.List.Folds.{list_all-append}
use Rattle.std.proofs.lemmas.Bool.{lt-ltb}
use Rattle.pin_matrix.specs.Spans.{are_addresses}
use Rattle.std.specs.Str.{bytes_eq}
use Rattle.pio_assemble.specs.declared.program.Program.{Program}
use Rattle.pio_assemble.specs.Program.{assembled_of}
use Rattle.block_config.specs.declared.programs.LoadedProgram.{LoadedProgram}
use Rattle.block_config.specs.Loads.{loaded_of, find_program, memory_of}
use Rattle.block_config.specs.Memory.{loaded}
use Rattle.block_config.proofs.Found.{find_map}

range_more : (p : ℕ → Bool) (i n : ℕ) → p i ≡ false → find p (range_with_len i (suc n)) ≡ find p (range_with_len (i + 1) n)
range_more p i n fails = rw fails refl

range_hit : (p : ℕ → Bool) (i n : ℕ) → p i ≡ true → find p (range_with_len i (suc n)) ≡ Some i
range_hit p i n passes = rw passes refl

-- no address so far passes, nor this one
pub find_more : (p : ℕ → Bool) (i : ℕ) (all : Option ℕ) → all ≡ find p (range_with_len i (32 - i)) → i < 32 → p i ≡ false → all ≡ find p (range_with_len (i + 1) (32 - (i + 1)))
find_more p i all so_far within fails =
    let one : 32 - i ≡ suc (32 - (i + 1)) = omega arith in
    so_far ∙ rw one (range_more p i (32 - (i + 1)) fails)

-- this one passes
pub find_hit : (p : ℕ → Bool) (i : ℕ) (all : Option ℕ) → all ≡ find p (range_with_len i (32 - i)) → i < 32 → p i ≡ true → all ≡ Some i
find_hit p i all so_far within passes =
    let one : 32 - i ≡ suc (32 - (i + 1)) = omega arith in
    so_far ∙ rw one (range_hit p i (32 - (i + 1)) passes)

-- no address is left
pub find_ends : (p : ℕ → Bool) (i : ℕ) (all : Option ℕ) → all ≡ find p (range_with_len i (32 - i)) → 32 ≤ i → all ≡ None
find_ends p i all so_far past =
    let none : 32 - i ≡ 0 = omega arith in
    so_far ∙ rw none refl

through_reference : {A B : Type 0} (f : A → B) (r : Option (Bor A)) → option_map (λ x. f x.now) r ≡ option_map f (option_copied r)
through_reference f None = refl
through_reference f (Some x) = refl

pub program_found : (r : Option (Bor Program)) (name : List ℕ) (ps : List Program) → option_copied r ≡ find (λ p. bytes_eq p.name name) ps → option_map (λ p. assembled_of p.now) r ≡ find_program name (map assembled_of ps)
program_found r name ps found = through_reference assembled_of r ∙ ap (option_map assembled_of) found ∙ find_map assembled_of (λ p. bytes_eq p.name name) ps

-- one load further on
pub memory_more : (ls : List LoadedProgram) (i : ℕ) (d l : LoadedProgram) (words memory after all : List ℕ) → all ≡ memory_of memory (map loaded_of (drop i ls)) → i < length ls
    → l ≡ get_or ls i d → words ≡ l.program.now.words.items → after ≡ loaded memory l.address words → all ≡ memory_of after (map loaded_of (drop (i + 1) ls))
unfolding memory_of
memory_more ls i d l words memory after all so_far within is its more = so_far ∙ rw (drop_more ls i d within, ← is, more, its) refl

-- no load is left
pub memory_ends : (ls : List LoadedProgram) (i : ℕ) (memory all : List ℕ) → all ≡ memory_of memory (map loaded_of (drop i ls)) → length ls ≤ i → all ≡ memory
unfolding memory_of
memory_ends ls i memory all so_far past = so_far ∙ rw (drop_all i ls past) refl

-- one address more
pub addresses_more : (those after : List ℕ) (a : ℕ) → are_addresses those ≡ true → a < 32 → after ≡ those ++ a ∷ [] → are_addresses after ≡ true
addresses_more those after a all below more = rw (more, list_all-append (λ x. nat_lt x 32) those (a ∷ []), all, lt-ltb a 32 below) refl
