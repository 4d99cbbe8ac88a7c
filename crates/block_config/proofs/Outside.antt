-- What memory holds where no load lies, and that loads lie apart.
use Rattle.std.proofs.Common.{◌≡◌, ℕ, zero, suc, replicate, ◌+◌, ◌-◌, ◌<◌, ◌≤◌, ◌&&◌, nat_lt, nat_le, Bool, true, false, None, List, [], ◌∷◌, length, get_or, unwrap_or, refl, ap, ◌∙◌, arith, inl, inr}
use Rattle.std.proofs.lemmas.Bool.{cases_Bool, leb-false, ltb-false, lt-ltb, or_parts}
use Rattle.std.proofs.lemmas.List.FromFn.{get_or-map-range_with_len}
use Rattle.std.proofs.lemmas.Option.{slice_get_past}
use Rattle.block_config.specs.Loads.{covers, is_covered, memory_of}
use Rattle.block_config.specs.Memory.{word_at, loaded, no_words}
use Rattle.block_config.specs.Programs.{Loaded}

-- a program has no word where its load covers nothing
no_word : (first : ℕ) (words : List ℕ) (a : ℕ) (low within : Bool) → nat_le first a ≡ low → nat_lt a (first + length words) ≡ within → (low && within) ≡ false → word_at first words a ≡ None
no_word first words a false within p q e = rw (lt-ltb a first (leb-false first a p)) refl
no_word first words a true true p q e = cc
no_word first words a true false p q e =
    elim (cases_Bool (nat_lt a first)) [
      | inl below ↦ rw below refl
      | inr above ↦ let past : length words ≤ a - first = omega (arith, ltb-false a (first + length words) q, ltb-false a first above) in rw (above, slice_get_past words (a - first) past) refl
    ]

loaded_outside : (l : Loaded) (memory : List ℕ) (a : ℕ) → a < 32 → covers l a ≡ false → get_or (loaded memory l.address l.program.words) a 0 ≡ get_or memory a 0
loaded_outside l memory a within e =
    get_or-map-range_with_len (λ address. unwrap_or (word_at l.address l.program.words address) (get_or memory address 0)) 0 32 a a 0 within (omega arith)
    ∙ ap (λ w. unwrap_or w (get_or memory a 0)) (no_word l.address l.program.words a (nat_le l.address a) (nat_lt a (l.address + length l.program.words)) refl refl e)

pub memory_outside : (ls : List Loaded) (memory : List ℕ) (a : ℕ) → a < 32 → is_covered ls a ≡ false → get_or (memory_of memory ls) a 0 ≡ get_or memory a 0
unfolding memory_of
memory_outside [] memory a within e = refl
memory_outside (l ∷ ls) memory a within e =
    let parts = or_parts (covers l a) (is_covered ls a) e in
    memory_outside ls (loaded memory l.address l.program.words) a within parts.1 ∙ loaded_outside l memory a within parts.0

zeros : (n a : ℕ) → ◌≡◌ {A = ℕ} (get_or (replicate n 0) a 0) 0
zeros zero a = refl
zeros (suc n) zero = refl
zeros (suc n) (suc a) = zeros n a

pub nothing_there : (a : ℕ) → ◌≡◌ {A = ℕ} (get_or no_words a 0) 0
nothing_there a = zeros 32 a
