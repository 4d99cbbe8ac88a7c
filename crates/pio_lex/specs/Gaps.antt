-- What is between tokens (Pico SDK manual, section 3.3): blanks, comments, foreign blocks, and what follows
-- `.lang_opt` on its line.
use Rattle.std.specs.Prelude.{ℕ, ◌+◌, ◌==◌, ◌&&◌, ◌||◌, not, nat_lt, Bool, true, false, List, [], ◌∷◌, drop, Option, Some, None, option_map, Result, Ok, Err, slice_index, codes, if◌then◌else◌}
use Rattle.std.specs.List.{prefix_len}
use Rattle.pio_lex.specs.declared.fault.LexKind.{LexKind}
use Rattle.pio_lex.specs.declared.fault.LexKind.TheVariants.{OpenComment, OpenBlock}
use Rattle.pio_lex.specs.declared.token.TokenKind.{TokenKind}
use Rattle.pio_lex.specs.declared.token.TokenKind.TheVariants.{Newline, Directive}
use Rattle.pio_lex.specs.declared.directive.Directive.TheVariants.{LangOpt}
use Rattle.byte_lines.specs.Bytes.{is_blank}
use Rattle.pio_lex.specs.Bytes.{semicolon, is_newline, is_block_byte, line_length, begins_with}

-- no token comes after the last newline token, or after the beginning; comments may
abbrev pub begins_line : Option TokenKind → Bool
begins_line None = true
begins_line (Some Newline) = true
begins_line (Some _) = false

-- the last token is `.lang_opt`
abbrev pub is_lang_opt : Option TokenKind → Bool
is_lang_opt (Some (Directive LangOpt)) = true
is_lang_opt _ = false

-- a text without the blanks that it begins with
abbrev pub after_blanks : List ℕ → List ℕ
after_blanks text = drop (prefix_len is_blank text) text

-- how many bytes there are up to the end of the first `*/`
unfoldable pub through_close : List ℕ → Option ℕ
through_close [] = None
through_close (b ∷ bs) = if begins_with (codes "*/") (b ∷ bs) then Some 2 else option_map (λ n. n + 1) (through_close bs)

-- the length of a comment, from its `/*` to the first `*/` after these two bytes
unfoldable pub comment_length : List ℕ → Option ℕ
comment_length text = option_map (λ n. n + 2) (through_close (drop 2 text))

-- what the name of a block's language begins
abbrev pub names_block : List ℕ → Bool
names_block text = nat_lt 0 (prefix_len is_block_byte text) && begins_with (codes "{") (after_blanks (drop (prefix_len is_block_byte text) text))

-- a line that opens a foreign block: `%`, a name of letters, digits, `_` and `-`, and `{`, with blanks between
unfoldable pub opens_block : List ℕ → Bool
opens_block text = begins_with (codes "%") text && names_block (after_blanks (drop 1 text))

-- a line that closes a foreign block: its first bytes after blanks are `%}`
abbrev pub closes_block : List ℕ → Bool
closes_block line = begins_with (codes "%}") (after_blanks line)

-- the length of a foreign block: up to the end of the first later line that closes it
unfoldable pub block_length : List ℕ → Option ℕ
block_length [] = None
block_length (b ∷ bs) = if is_newline b && closes_block bs then Some (1 + line_length bs) else option_map (λ n. n + 1) (block_length bs)

-- a gap of this length, or the fault that it has no end
abbrev pub ended : LexKind → Option ℕ → Result (Option ℕ) LexKind
ended open_kind (Some n) = Ok (Some n)
ended open_kind None = Err open_kind

-- the gap that begins a text after a token of the kind `last`, where there is one, each as long as it can be
unfoldable pub gap_at : Option TokenKind → List ℕ → Result (Option ℕ) LexKind
gap_at last text =
    if is_lang_opt last && not (is_newline (slice_index text 0)) then Ok (Some (line_length text)) else
    if is_blank (slice_index text 0) then Ok (Some (prefix_len is_blank text)) else
    if slice_index text 0 == semicolon || begins_with (codes "//") text then Ok (Some (line_length text)) else
    if begins_with (codes "/*") text then ended OpenComment (comment_length text) else
    if begins_line last && opens_block text then ended OpenBlock (block_length text) else Ok None
