-- What a sample shows: its 88 values, and whether two samples are one.
use Rattle.std.specs.Prelude.{ℕ, ◌/◌, ◌%◌, ◌==◌, ◌&&◌, Bool, true, false, List, [], ◌∷◌, ◌++◌, zero, suc}
use Rattle.block_core.specs.declared.sample.Sample.{Sample}

-- the low k bits of a number, bit 0 first
unfoldable pub bits_of : ℕ → ℕ → List ℕ
bits_of zero n = []
bits_of (suc k) n = (n % 2) ∷ bits_of k (n / 2)

-- the 88 values of a sample in order: levels, directions, flags, TX levels, RX levels, words read, sticky flags (choice of this profile)
abbrev pub values_of : Sample → List ℕ
values_of s = bits_of 32 s.level ++ bits_of 32 s.direction ++ bits_of 8 s.flags ++ s.tx ++ s.rx ++ s.got ++ s.sticky

-- two lists of numbers have the same numbers in the same places
abbrev pub same_numbers : List ℕ → List ℕ → Bool
same_numbers [] [] = true
same_numbers (a ∷ as') (b ∷ bs) = (a == b) && same_numbers as' bs
same_numbers _ _ = false

-- two samples show the same in every field
abbrev pub same_sample : Sample → Sample → Bool
same_sample a b = (a.level == b.level) && ((a.direction == b.direction) && ((a.flags == b.flags) && (same_numbers a.tx b.tx && (same_numbers a.rx b.rx && (same_numbers a.got b.got && same_numbers a.sticky b.sticky)))))
