-- The instruction memory with a program loaded into it (RP2040 Datasheet, section 3.2.1; Pico SDK manual, on loading
-- programs; that other words are 0x0000 is a choice of this profile).
--   fits_at     a program of these words can be loaded at an address
--   word_at     the word that a loaded program has at an address
--   loaded      the memory with a program in it
use Rattle.std.specs.Prelude.{ℕ, ◌+◌, ◌-◌, nat_lt, nat_le, ◌&&◌, Bool, if◌then◌else◌, unwrap_or, Option, Some, None, is_some, List, length, map, slice_index, slice_get, replicate}
use Rattle.std.specs.List.{list_all, range_with_len}
use Rattle.pio_encode.specs.Relocation.{relocated}

-- no word would pass address 31, and no jump's target
abbrev pub fits_at : ℕ → List ℕ → Bool
fits_at address words = nat_le (address + length words) 32 && list_all (λ word. is_some (relocated word address)) words

-- a program's word, moved with the program; none where the program has none
abbrev pub moved : ℕ → Option ℕ → Option ℕ
moved first None = None
moved first (Some word) = relocated word first

-- the word at an address of a program whose first word is loaded at another
abbrev pub word_at : ℕ → List ℕ → ℕ → Option ℕ
word_at first words address = if nat_lt address first then None else moved first (slice_get words (address - first))

-- the memory with a program loaded at an address: its words there, and what was there before elsewhere
abbrev pub loaded : List ℕ → ℕ → List ℕ → List ℕ
loaded memory first words = map (λ address. unwrap_or (word_at first words address) (slice_index memory address)) (range_with_len 0 32)

-- a memory of which nothing is said
abbrev pub no_words : List ℕ
no_words = replicate 32 0
