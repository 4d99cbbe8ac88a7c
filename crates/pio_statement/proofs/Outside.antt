-- After the last token there is no expression.
use Rattle.std.proofs.Common.{◌≡◌, ℕ, zero, suc, ◌≤◌, List, [], length, refl, ap, Option, Some, None, Err}
use Rattle.std.proofs.lemmas.Option.{slice_get_past}
use Rattle.pio_lex.specs.declared.token.Token.{Token}
use Rattle.pio_expr.specs.declared.fault.ExprKind.TheVariants.{Syntax}
use Rattle.pio_expr.specs.declared.mark.TokenMark.TheVariants as mark
use Rattle.pio_expr.specs.Marks.{mark_at, mark_by}
use Rattle.pio_expr.specs.Grammar.{misplaced, Progress, Readers, readers_by, readers, refused, read_items, most_open, expression_at}

mark_past : (tokens : List Token) (at : ℕ) → length tokens ≤ at → mark_at tokens at ≡ mark.Other
unfolding mark_at
mark_past tokens at h = ap mark_by (slice_get_past tokens at h)

-- no rule takes a token that is of no expression
by_rules : (source : List ℕ) (tokens : List Token) (deeper : Option Readers) (place : Progress) → mark_at tokens place.at ≡ mark.Other → (readers_by source tokens deeper).level place ≡ refused Syntax place
by_rules source tokens deeper place e = rw e (rw e refl)

at_depth : (source : List ℕ) (tokens : List Token) (n : ℕ) (place : Progress) → mark_at tokens place.at ≡ mark.Other → (readers source tokens n).level place ≡ refused Syntax place
unfolding readers
at_depth source tokens zero place e = by_rules source tokens None place e
at_depth source tokens (suc n) place e = by_rules source tokens (Some (readers source tokens n)) place e

pub outside : (source : List ℕ) (tokens : List Token) (at : ℕ) → length tokens ≤ at → expression_at source tokens at ≡ Err (misplaced at Syntax)
unfolding expression_at
outside source tokens at h = ap read_items (at_depth source tokens most_open (record { at = at; items = [] }) (mark_past tokens at h))
