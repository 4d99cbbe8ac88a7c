-- The side-set and the delay of an instruction's text: their tokens and their values.
--   Tail           what comes after an instruction: a side-set value, a delay, both or none
--   tail_row       its pieces
--   tail_of        the tail of a side-set value and a delay that fit a rule
use Rattle.std.proofs.Common.{◌≡◌, ℕ, ◌-◌, ◌^◌, ◌<◌, ◌≤◌, ◌==◌, Bool, true, false, List, [], ◌∷◌, ◌++◌, Option, None, Some, Ok, refl, sym, subst, pos, arith}
use Rattle.std.specs.Prelude.{decimal, codes}
use Rattle.std.proofs.lemmas.Bool.{le-leb, eqb-true}
use Rattle.std.proofs.Math.Nat.{pow-le-pow_right}
use Rattle.pio_lex.specs.declared.keyword.Keyword.TheVariants as keyword
use Rattle.pio_lex.specs.declared.token.TokenKind.TheVariants as kind
use Rattle.pio_lex.specs.declared.piece.Piece.{Piece}
use Rattle.pio_lex.specs.declared.piece.Piece.TheVariants as piece
use Rattle.pio_lex.specs.Words.{row_of, keywords, keyword_of}
use Rattle.pio_lex.specs.Gaps.{gap_at, opens_block}
use Rattle.pio_lex.specs.Spellings.{mark_at, token_at}
use Rattle.pio_lex.specs.Pieces.{piece_at}
use Rattle.pio_encode.specs.declared.rule.SideRule.{SideRule}
use Rattle.pio_encode.specs.Ranges.{delay_bits}
use Rattle.pio_encode.specs.Text.{side_text, delay_text}
use Rattle.pio_expr.specs.declared.expr.Item.{Item}
use Rattle.pio_expr.specs.declared.expr.Item.TheVariants as item
use Rattle.pio_expr.specs.Values.{Scope, worked_out}
use Rattle.pio_statement.specs.declared.instruction.Suffix.{Suffix}
use Rattle.pio_statement.specs.declared.instruction.Suffix.TheVariants as suffix
use Rattle.pio_assemble.specs.declared.quantity.Quantity.{Quantity}
use Rattle.pio_assemble.specs.declared.quantity.Quantity.TheVariants as quantity
use Rattle.pio_assemble.specs.Operands.{number_in, suffix_of, side_in, delay_in, SideIsWithin}
use Rattle.pio_assemble.proofs.TextRows.{AreRow}
use Rattle.pio_assemble.proofs.TextNumbers.{Follow, nothing, blank, bracket, after, number, numbered, spaced}

-- an expression that is a number
abbrev pub lone : ℕ → List Item
lone n = item.Number (pos n) ∷ []

-- its value, in a range, whatever symbols there are
pub value_in : (scope : Scope) (what : Quantity) (low high n : ℕ) → low ≤ n → n ≤ high → number_in scope what low high (lone n) ≡ Ok n
unfolding worked_out
value_in scope what low high n l h = rw (le-leb low n l, le-leb n high h) refl

-- what comes after an instruction
pub data Tail : Type 0 where
  bare : Tail
  sided : ℕ → Tail
  delayed : ℕ → Tail
  both : ℕ → ℕ → Tail

-- a delay's bytes after its blank
abbrev bracketed : ℕ → List ℕ
bracketed d = 91 ∷ decimal d ++ 93 ∷ []

-- its bytes
abbrev pub follow_of : Tail → Follow
follow_of bare = nothing
follow_of (sided v) = blank (codes "side " ++ decimal v ++ [])
follow_of (delayed d) = blank (bracketed d)
follow_of (both v d) = blank (codes "side " ++ decimal v ++ 32 ∷ bracketed d)

-- the pieces of a side-set value
abbrev side_pieces : ℕ → List Piece
side_pieces v = piece.Gap 1 ∷ piece.Token (kind.Keyword keyword.Side) 4 ∷ piece.Gap 1 ∷ number v ∷ []

-- the pieces of a delay
abbrev delay_pieces : ℕ → List Piece
delay_pieces d = piece.Gap 1 ∷ piece.Token kind.OpenBracket 1 ∷ number d ∷ piece.Token kind.CloseBracket 1 ∷ []

-- its pieces
abbrev pub tail_pieces : Tail → List Piece
tail_pieces bare = []
tail_pieces (sided v) = side_pieces v
tail_pieces (delayed d) = delay_pieces d
tail_pieces (both v d) = side_pieces v ++ delay_pieces d

-- what it says
abbrev pub tail_suffix : Tail → Suffix
tail_suffix bare = suffix.None
tail_suffix (sided v) = suffix.Side (lone v)
tail_suffix (delayed d) = suffix.Delay (lone d)
tail_suffix (both v d) = suffix.SideDelay (lone v) (lone d)

-- its numbers are at most 32
abbrev TailFits : Tail → Type 0
TailFits bare = Unit {0}
TailFits (sided v) = v < 33
TailFits (delayed d) = d < 33
TailFits (both v d) = (v < 33) × (d < 33)

delay_row : (d : ℕ) → d < 33 → AreRow (32 ∷ bracketed d) (delay_pieces d)
unfolding piece_at gap_at opens_block token_at mark_at
delay_row d h = (refl, refl, (refl, refl, numbered d h (bracket []) (piece.Token kind.CloseBracket 1 ∷ []) (refl, refl, refl)))

side_row : (v : ℕ) → v < 33 → (f : Follow) (pieces : List Piece) → AreRow (after f) pieces → AreRow (codes " side " ++ decimal v ++ after f) (side_pieces v ++ pieces)
unfolding piece_at gap_at opens_block token_at keyword_of keywords row_of
side_row v h f pieces row = (refl, refl, (refl, refl, spaced v h f pieces row))

tail_row : (t : Tail) → TailFits t → AreRow (after (follow_of t)) (tail_pieces t)
tail_row bare h = refl
tail_row (sided v) h = side_row v h nothing [] refl
tail_row (delayed d) h = delay_row d h
tail_row (both v d) h = side_row v h.0 (blank (bracketed d)) (delay_pieces d) (delay_row d h.1)

-- the tail of a side-set value and a delay
pub record IsTailOf (rule : SideRule) (side : Option ℕ) (delay : ℕ) : Type 0 where
  pub tail : Tail
  pub row : AreRow (after (follow_of tail)) (tail_pieces tail)
  pub text : side_text side ++ delay_text delay ≡ after (follow_of tail)
  pub means : (scope : Scope) → suffix_of scope rule (tail_suffix tail) ≡ Ok (record { side = side; delay = delay })

-- a number of at most five bits
small : (bits n : ℕ) → bits ≤ 5 → n < 2 ^ bits → n < 33
small bits n l h =
    let top : 2 ^ bits ≤ 2 ^ 5 = pow-le-pow_right {n = 2} (omega arith) l in
    omega arith

module _ (rule : SideRule) where
  few_bits : rule.bits ≤ 5
  few_bits = omega (arith, rule.fits)

  side_value : (scope : Scope) (v : ℕ) → v < 2 ^ rule.bits → side_in scope rule (lone v) ≡ Ok v
  side_value scope v h = value_in scope quantity.Side 0 (2 ^ rule.bits - 1) v (omega arith) (omega arith)

  delay_value : (scope : Scope) (d : ℕ) → d < 2 ^ delay_bits rule → delay_in scope rule (lone d) ≡ Ok d
  delay_value scope d h = value_in scope quantity.Delay 0 (2 ^ delay_bits rule - 1) d (omega arith) (omega arith)

  undelayed : (side : Option ℕ) → SideIsWithin rule side → IsTailOf rule side 0
  unfolding suffix_of
  undelayed None h = record { tail = bare; row = refl; text = refl; means = λ scope. refl }
  undelayed (Some v) h = record {
    tail = sided v;
    row = tail_row (sided v) (small rule.bits v few_bits h);
    text = refl;
    means = λ scope. rw (side_value scope v h) refl;
  }

  with_delay : (side : Option ℕ) (d : ℕ) → SideIsWithin rule side → d < 2 ^ delay_bits rule → (d == 0) ≡ false → IsTailOf rule side d
  unfolding suffix_of
  with_delay None d h k e = record {
    tail = delayed d;
    row = tail_row (delayed d) (small (delay_bits rule) d (omega arith) k);
    text = rw e refl;
    means = λ scope. rw (delay_value scope d k) refl;
  }
  with_delay (Some v) d h k e = record {
    tail = both v d;
    row = tail_row (both v d) (small rule.bits v few_bits h, small (delay_bits rule) d (omega arith) k);
    text = rw e refl;
    means = λ scope. rw (side_value scope v h, delay_value scope d k) refl;
  }

  pub tail_of : (side : Option ℕ) (d : ℕ) → SideIsWithin rule side → d < 2 ^ delay_bits rule → IsTailOf rule side d
  tail_of side d h k = by (d == 0) refl where
    by : (b : Bool) → (d == 0) ≡ b → IsTailOf rule side d
    by true e = subst (λ (n : ℕ). IsTailOf rule side n) (sym (eqb-true d 0 e)) (undelayed side h)
    by false e = with_delay side d h k e
