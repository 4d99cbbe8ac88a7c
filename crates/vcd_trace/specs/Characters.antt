-- The characters of a value-change text, by their codes.
use Rattle.std.specs.Prelude.{ℕ}

-- LF
abbrev pub newline : ℕ
newline = 10

-- a space
abbrev pub blank : ℕ
blank = 32

-- `#`
abbrev pub hash : ℕ
hash = 35

-- `0`
abbrev pub digit_0 : ℕ
digit_0 = 48

-- `b`
abbrev pub letter_b : ℕ
letter_b = 98

-- `d`
abbrev pub letter_d : ℕ
letter_d = 100

-- `f`
abbrev pub letter_f : ℕ
letter_f = 102

-- `i`
abbrev pub letter_i : ℕ
letter_i = 105

-- `p`
abbrev pub letter_p : ℕ
letter_p = 112

-- `r`
abbrev pub letter_r : ℕ
letter_r = 114

-- `s`
abbrev pub letter_s : ℕ
letter_s = 115

-- `t`
abbrev pub letter_t : ℕ
letter_t = 116

-- `w`
abbrev pub letter_w : ℕ
letter_w = 119

-- `~`
abbrev pub tilde : ℕ
tilde = 126
