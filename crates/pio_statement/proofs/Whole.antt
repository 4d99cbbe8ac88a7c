-- A statement takes its whole line, and an unknown directive is told exactly where one is on the line.
use Rattle.std.proofs.Common.{◌≡◌, ℕ, List, Bool, true, false, if◌then◌else◌, Ok, Err, ap, sym, refl}
use Rattle.pio_lex.specs.declared.token.Token.{Token}
use Rattle.pio_statement.specs.declared.fault.StatementKind.TheVariants as fault
use Rattle.pio_statement.specs.declared.statement.Statement.{Statement}
use Rattle.answers.specs.Answers.{◌>>=◌}
use Rattle.pio_statement.specs.Answer.{Read}
use Rattle.pio_statement.specs.Tokens.{ends_at}
use Rattle.pio_statement.specs.Statements.{statement_from}
use Rattle.pio_statement.specs.Lines.{line_end, has_unknown, whole, known_at, statement_at}
use Rattle.pio_statement.proofs.Known.{Known, onward, statement_known}

-- the whole line's answer by whether it ends
abbrev whole_by : Bool → Statement × ℕ → ℕ → Read Statement
whole_by ends read end = if ends then Ok (read.0, end) else Err fault.Syntax

whole_known : (ends : Bool) (read : Statement × ℕ) (end : ℕ) → Known (whole_by ends read end)
whole_known true read end = tt
whole_known false read end = tt

abbrev place_of : Read Statement → ℕ
place_of (Ok read) = read.1
place_of (Err kind) = 0

whole_after : (ends : Bool) (read : Statement × ℕ) (end to : ℕ) (s : Statement) → whole_by ends read end ≡ Ok (s, to) → to ≡ end
whole_after true read end to s e = sym (ap place_of e)
whole_after false read end to s e = cc

line_known : (source : List ℕ) (tokens : List Token) (from : ℕ) → Known (known_at source tokens from)
unfolding known_at
line_known source tokens from = onward _ _ (statement_known source tokens from) λ read. whole_known (ends_at tokens read.1) read (line_end tokens from)

not_unknown : (read : Read Statement) → Known read → read ≡ Err fault.Directive → ⊥
not_unknown (Ok x) known e = cc
not_unknown (Err fault.Directive) known e = known
not_unknown (Err fault.Syntax) known e = cc
not_unknown (Err fault.TooDeep) known e = cc
not_unknown (Err fault.Ambiguous) known e = cc

-- a statement that goes on to its line's end
goes_on : (tokens : List Token) (end to : ℕ) (s : Statement) (read : Read Statement) → (read >>= λ found. whole tokens found end) ≡ Ok (s, to) → to ≡ end
goes_on tokens end to s (Ok found) e = whole_after (ends_at tokens found.1) found end to s e
goes_on tokens end to s (Err kind) e = cc

known_after : (source : List ℕ) (tokens : List Token) (from to : ℕ) (s : Statement) → known_at source tokens from ≡ Ok (s, to) → to ≡ line_end tokens from
unfolding known_at
known_after source tokens from to s e = goes_on tokens (line_end tokens from) to s (statement_from source tokens from) e

after_by : (unknown : Bool) (read : Read Statement) (end to : ℕ) (s : Statement) → (read ≡ Ok (s, to) → to ≡ end) → (if unknown then Err fault.Directive else read) ≡ Ok (s, to) → to ≡ end
after_by true read end to s known e = cc
after_by false read end to s known e = known e

pub after : (source : List ℕ) (tokens : List Token) (from to : ℕ) (s : Statement) → statement_at source tokens from ≡ Ok (s, to) → to ≡ line_end tokens from
unfolding statement_at
after source tokens from to s e = after_by (has_unknown tokens from) (known_at source tokens from) (line_end tokens from) to s (known_after source tokens from to s) e

pub unknown : (source : List ℕ) (tokens : List Token) (from : ℕ) → has_unknown tokens from ≡ true → statement_at source tokens from ≡ Err fault.Directive
unfolding statement_at
unknown source tokens from h = rw h refl

only_by : (unknown : Bool) (read : Read Statement) → Known read → (if unknown then Err fault.Directive else read) ≡ Err fault.Directive → unknown ≡ true
only_by true read known e = refl
only_by false read known e = absurd (not_unknown read known e)

pub unknown_only : (source : List ℕ) (tokens : List Token) (from : ℕ) → statement_at source tokens from ≡ Err fault.Directive → has_unknown tokens from ≡ true
unfolding statement_at
unknown_only source tokens from e = only_by (has_unknown tokens from) (known_at source tokens from) (line_known source tokens from) e
