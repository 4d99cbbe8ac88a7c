-- The texts of programs: a program's text in three parts, and a text for each program.
use Rattle.std.proofs.Common.{◌≡◌, ℕ, ◌+◌, ◌<◌, Option, List, ◌++◌, Result, IsErr, map, length, drop, get_or, sym, ap, ◌∙◌}
use Rattle.std.proofs.lemmas.List.{at_drop_more}
use Rattle.pio_edge.specs.Edge.{with_bytes, TakesPrefix, Takes}
use Rattle.pio_edge.proofs.PutLaws.{with_bytes-append, takes_prefix-append_l, takes_prefix-append_r, takes_on, takes_off}
use Rattle.pio_assemble.specs.declared.program.Program.{Program}
use Rattle.pio_assemble.specs.declared.symbols.ProgramSymbol.{ProgramSymbol}
use Rattle.pio_assemble.specs.Program.{Assembled, assembled_of}
use Rattle.word_file.specs.Listing.{word_lines}
use Rattle.program_listing.specs.Listing.{program_line, public_lines, program_text, listing_text}

-- the line of a program failed, so that its text failed
pub fails_first : {T E : Type 0} (o m : Option (List ℕ)) (p : Assembled) (r : Result T E) → IsErr r → TakesPrefix o (program_line p) m → Takes o (program_text p) m r
fails_first o m p r f h =
    takes_off o m (program_line p ++ public_lines p.symbols) (word_lines p.side p.words) r f (takes_prefix-append_l o m (program_line p) (public_lines p.symbols) h)

-- the lines of its public symbols failed, so that its text failed
pub fails_second : {T E : Type 0} (o m n : Option (List ℕ)) (p : Assembled) (symbols : List ProgramSymbol) (r : Result T E) → symbols ≡ p.symbols → m ≡ with_bytes o (program_line p) → IsErr r → TakesPrefix m (public_lines symbols) n → Takes o (program_text p) n r
fails_second o m n p symbols r is line f h =
    let h' : TakesPrefix m (public_lines p.symbols) n = rw (sym is) h in
    takes_off o n (program_line p ++ public_lines p.symbols) (word_lines p.side p.words) r f (takes_prefix-append_r o m n (program_line p) (public_lines p.symbols) line h')

-- the lines of its words end its text, or fail in it
pub ends_third : {T E : Type 0} (o m n q : Option (List ℕ)) (p : Assembled) (symbols : List ProgramSymbol) (words : List ℕ) (r : Result T E) → symbols ≡ p.symbols → words ≡ p.words → m ≡ with_bytes o (program_line p) → n ≡ with_bytes m (public_lines symbols) → Takes n (word_lines p.side words) q r → Takes o (program_text p) q r
ends_third o m n q p symbols words r is are line lines h =
    let front : n ≡ with_bytes o (program_line p ++ public_lines p.symbols) = lines ∙ ap (λ s. with_bytes m (public_lines s)) is ∙ ap (λ t. with_bytes t (public_lines p.symbols)) line ∙ with_bytes-append o (program_line p) (public_lines p.symbols) in
    let h' : Takes n (word_lines p.side p.words) q r = rw (sym are) h in
    takes_on o n q (program_line p ++ public_lines p.symbols) (word_lines p.side p.words) r front h'

-- the texts from a program on are its own and those after it
pub listing_text-turn : (programs : List Program) (place : ℕ) (p : Program) → place < length programs → p ≡ get_or programs place p → listing_text (map assembled_of (drop place programs)) ≡ program_text (assembled_of p) ++ listing_text (map assembled_of (drop (place + 1) programs))
listing_text-turn programs place p lt e =
    at_drop_more (λ ps. listing_text (map assembled_of ps)) programs place p lt
    ∙ ap (λ q. program_text (assembled_of q) ++ listing_text (map assembled_of (drop (place + 1) programs))) (sym e)
