-- Which names are keywords and which directives, without regard to case (Pico SDK manual, section 3.3).
use Rattle.std.specs.Prelude.{ℕ, List, [], ◌∷◌, Option, option_map, unwrap_or, map, codes}
use Rattle.std.specs.List.{find}
use Rattle.std.specs.Str.{bytes_eq}
use Rattle.std.specs.Char.{to_ascii_lowercase}
use Rattle.pio_lex.specs.declared.keyword.Keyword.{Keyword}
use Rattle.pio_lex.specs.declared.keyword.Keyword.TheVariants as keyword
use Rattle.pio_lex.specs.declared.directive.Directive.{Directive}
use Rattle.pio_lex.specs.declared.directive.Directive.TheVariants as directive

-- the value of the first row whose text is the word, but for the case of letters
unfoldable pub row_of : {X Y : Type 0} → (X → List ℕ) → (X → Y) → List X → List ℕ → Option Y
row_of text value rows word = option_map value (find (λ row. bytes_eq (map to_ascii_lowercase (text row)) (map to_ascii_lowercase word)) rows)

-- the keywords, with the spellings that pioasm takes beside the manual's
unfoldable pub keywords : List (List ℕ × Keyword)
keywords =
    (codes "nop", keyword.Nop) ∷
    (codes "jmp", keyword.Jmp) ∷
    (codes "wait", keyword.Wait) ∷
    (codes "in", keyword.In) ∷
    (codes "out", keyword.Out) ∷
    (codes "push", keyword.Push) ∷
    (codes "pull", keyword.Pull) ∷
    (codes "mov", keyword.Mov) ∷
    (codes "irq", keyword.Irq) ∷
    (codes "set", keyword.Set) ∷
    (codes "iffull", keyword.IfFull) ∷
    (codes "if_full", keyword.IfFull) ∷
    (codes "ifempty", keyword.IfEmpty) ∷
    (codes "if_empty", keyword.IfEmpty) ∷
    (codes "block", keyword.Block) ∷
    (codes "noblock", keyword.NoBlock) ∷
    (codes "pins", keyword.Pins) ∷
    (codes "pindirs", keyword.Pindirs) ∷
    (codes "pin", keyword.Pin) ∷
    (codes "gpio", keyword.Gpio) ∷
    (codes "x", keyword.X) ∷
    (codes "y", keyword.Y) ∷
    (codes "null", keyword.Null) ∷
    (codes "isr", keyword.Isr) ∷
    (codes "osr", keyword.Osr) ∷
    (codes "osre", keyword.Osre) ∷
    (codes "exec", keyword.Exec) ∷
    (codes "pc", keyword.Pc) ∷
    (codes "status", keyword.Status) ∷
    (codes "rel", keyword.Rel) ∷
    (codes "clear", keyword.Clear) ∷
    (codes "nowait", keyword.NoWait) ∷
    (codes "side", keyword.Side) ∷
    (codes "sideset", keyword.Side) ∷
    (codes "side_set", keyword.Side) ∷
    (codes "opt", keyword.Opt) ∷
    (codes "optional", keyword.Opt) ∷
    (codes "public", keyword.Public) ∷
    []

-- the keyword that a word is
unfoldable pub keyword_of : List ℕ → Option Keyword
keyword_of word = row_of (λ row. row.0) (λ row. row.1) keywords word

-- the names of the known directives
unfoldable pub directives : List (List ℕ × Directive)
directives =
    (codes "program", directive.Program) ∷
    (codes "define", directive.Define) ∷
    (codes "origin", directive.Origin) ∷
    (codes "side_set", directive.SideSet) ∷
    (codes "wrap_target", directive.WrapTarget) ∷
    (codes "wrap", directive.Wrap) ∷
    (codes "word", directive.Word) ∷
    (codes "lang_opt", directive.LangOpt) ∷
    (codes "pio_version", directive.PioVersion) ∷
    []

-- the directive of a name
unfoldable pub directive_of : List ℕ → Directive
directive_of name = unwrap_or (row_of (λ row. row.0) (λ row. row.1) directives name) directive.Other
