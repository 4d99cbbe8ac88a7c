-- What kinds of bytes a source has, and how far they reach.
use Rattle.std.specs.Prelude.{ℕ, ◌==◌, ◌||◌, not, Bool, List}
use Rattle.std.specs.List.{prefix_len, starts_with}
use Rattle.std.specs.Char.{is_ascii_alphabetic, is_ascii_digit}
use Rattle.std.specs.Prelude.{nat_eq}

-- LF
abbrev pub newline : ℕ
newline = 10

-- `_`
abbrev pub underscore : ℕ
underscore = 95

-- `;`
abbrev pub semicolon : ℕ
semicolon = 59

-- `.`
abbrev pub full_stop : ℕ
full_stop = 46

-- `,`
abbrev pub comma : ℕ
comma = 44

-- `:`
abbrev pub colon : ℕ
colon = 58

-- `[`
abbrev pub open_bracket : ℕ
open_bracket = 91

-- `]`
abbrev pub close_bracket : ℕ
close_bracket = 93

-- `(`
abbrev pub open_paren : ℕ
open_paren = 40

-- `)`
abbrev pub close_paren : ℕ
close_paren = 41

-- `+`
abbrev pub plus : ℕ
plus = 43

-- `-`
abbrev pub hyphen : ℕ
hyphen = 45

-- `*`
abbrev pub star : ℕ
star = 42

-- `/`
abbrev pub slash : ℕ
slash = 47

-- `!`
abbrev pub bang : ℕ
bang = 33

-- `~`
abbrev pub tilde : ℕ
tilde = 126

-- LF, which ends a line
abbrev pub is_newline : ℕ → Bool
is_newline b = b == newline

-- a letter or `_`, with which a name begins
abbrev pub is_letter : ℕ → Bool
is_letter b = is_ascii_alphabetic b || b == underscore

-- a letter, a digit or `_`
abbrev pub is_name_byte : ℕ → Bool
is_name_byte b = is_letter b || is_ascii_digit b

-- a letter, a digit, `_` or `-`: of what is between `%` and `{`
abbrev pub is_block_byte : ℕ → Bool
is_block_byte b = is_name_byte b || b == hyphen

-- how many bytes come before the first newline, or the end
abbrev pub line_length : List ℕ → ℕ
line_length text = prefix_len (λ b. not (is_newline b)) text

-- the text begins with the mark
abbrev pub begins_with : List ℕ → List ℕ → Bool
begins_with mark text = starts_with nat_eq text mark
