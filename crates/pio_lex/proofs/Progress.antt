-- What the loop over a source keeps: the pieces so far, their tokens and the line.
use Rattle.std.proofs.Common.{◌≡◌, ℕ, ◌+◌, ◌<◌, ◌≤◌, cond, List, [], ◌∷◌, ◌++◌, length, take, drop, Ok, Err, refl, sym, ap, subst, ◌∙◌, arith}
use Rattle.std.specs.List.{count_by}
use Rattle.std.proofs.Math.Seq.{take-add}
use Rattle.std.proofs.lemmas.List.{append-nil, length-drop}
use Rattle.std.proofs.lemmas.List.Sums.{sum_by-append}
use Rattle.pio_lex.specs.declared.fault.LexKind.{LexKind}
use Rattle.pio_lex.specs.declared.token.Token.{Token}
use Rattle.pio_lex.specs.declared.piece.Piece.{Piece}
use Rattle.pio_lex.specs.declared.piece.Piece.TheVariants as piece
use Rattle.pio_lex.specs.Bytes.{is_newline}
use Rattle.pio_lex.specs.Pieces.{piece_at, size, IsPieceLength}
use Rattle.pio_lex.specs.Tokens.{line_at, Place, start, last_kind, IsAt, tokens_of, after, AreBetween, IsTokens, IsFirstFault, AreInOrder}

-- one piece more
pub row_more : (source : List ℕ) (from : Place) (pieces : List Piece) (to : Place) (p : Piece) → AreBetween source from pieces to → IsAt source to p → AreBetween source from (pieces ++ p ∷ []) (after source to p)
row_more source from [] to p e s =
    let P : Place → Type 0 = λ q. IsAt source q p × (after source q p ≡ after source to p) in
    subst P (sym e) (s, refl)
row_more source from (q ∷ qs) to p h s = (h.0, row_more source (after source from q) qs to p h.1 s)

order_to : (from : ℕ) (tokens : List Token) (a b : ℕ) → a ≤ b → AreInOrder from tokens a → AreInOrder from tokens b
order_to from [] a b le h = omega arith
order_to from (t ∷ ts) a b le h = (h.0, h.1, order_to (t.first + t.length) ts a b le h.2)

order_push : (from : ℕ) (tokens : List Token) (t : Token) (a b : ℕ) → AreInOrder from tokens a → a ≤ t.first → 0 < t.length → t.first + t.length ≤ b → AreInOrder from (tokens ++ t ∷ []) b
order_push from [] t a b h above some below = (omega arith, some, below)
order_push from (x ∷ xs) t a b h above some below = (h.0, h.1, order_push (x.first + x.length) xs t a b h.2 above some below)

pub order_more : (tokens : List Token) (line at : ℕ) (p : Piece) → 0 < size p → AreInOrder 0 tokens at → AreInOrder 0 (tokens ++ tokens_of line at p) (at + size p)
order_more tokens line at (piece.Gap n) some h = subst (λ (ts : List Token). AreInOrder 0 ts (at + n)) (sym (append-nil tokens)) (order_to 0 tokens at (at + n) (omega arith) h)
order_more tokens line at (piece.Token kind n) some h = order_push 0 tokens _ at (at + n) h (omega arith) some (omega arith)

-- the line after some bytes
line_more : (source : List ℕ) (at n : ℕ) → line_at source at + count_by is_newline (take n (drop at source)) ≡ line_at source (at + n)
line_more source at n =
    let parts = sum_by-append (λ b. cond (is_newline b) 1 0) (take at source) (take n (drop at source)) in
    let joined = ap (count_by is_newline) (take-add at n source) in
    omega arith

pub record Reading (source : List ℕ) (tokens : List Token) (at line : ℕ) : Type 0 where
  pub pieces : List Piece
  pub before : AreBetween source start pieces (record { at = at; tokens = tokens })
  pub within : at ≤ length source
  pub at_line : line ≡ line_at source at
  pub in_order : AreInOrder 0 tokens at

pub reading_none : (source : List ℕ) → Reading source [] 0 1
reading_none source = record { pieces = []; before = refl; within = omega arith; at_line = refl; in_order = omega arith }

pub reading_more : (source : List ℕ) (tokens : List Token) (at line : ℕ) (p : Piece) (more : List Token) → Reading source tokens at line → at < length source → piece_at (last_kind tokens) (drop at source) ≡ Ok p → IsPieceLength (size p) (drop at source) → more ≡ tokens ++ tokens_of line at p → Reading source more (at + size p) (line + count_by is_newline (take (size p) (drop at source)))
reading_more source tokens at line p more r lt e fits grown =
    let place : Place = record { at = at; tokens = tokens } in
    let left = length-drop at source in
    let there : IsAt source place p = record { before_end = lt; is_there = e } in
    let here : tokens ++ tokens_of (line_at source at) at p ≡ more = ap (λ (k : ℕ). tokens ++ tokens_of k at p) (sym r.at_line) ∙ sym grown in
    record {
      pieces = r.pieces ++ p ∷ [];
      before = subst (λ (ts : List Token). AreBetween source start (r.pieces ++ p ∷ []) (record { at = at + size p; tokens = ts })) here (row_more source start r.pieces place p r.before there);
      within = omega (arith, fits.1);
      at_line = ap (λ k. k + count_by is_newline (take (size p) (drop at source))) r.at_line ∙ line_more source at (size p);
      in_order = subst (λ (ts : List Token). AreInOrder 0 ts (at + size p)) (sym grown) (order_more tokens line at p fits.0 r.in_order);
    }

pub reading_fault : (source : List ℕ) (tokens : List Token) (at line : ℕ) (fault : LexKind) → Reading source tokens at line → at < length source → piece_at (last_kind tokens) (drop at source) ≡ Err fault → IsFirstFault source line fault
reading_fault source tokens at line fault r lt e = record {
  pieces = r.pieces;
  place = record { at = at; tokens = tokens };
  before = r.before;
  before_end = lt;
  fault = e;
  at_line = r.at_line;
}

at_end : (source : List ℕ) (at line : ℕ) (tokens : List Token) → length source ≤ at → Reading source tokens at line → at ≡ length source
at_end source at line tokens le r = let h = r.within in omega arith

pub reading_all : (source : List ℕ) (tokens : List Token) (at line : ℕ) → length source ≤ at → Reading source tokens at line → IsTokens source tokens
reading_all source tokens at line le r = record {
  pieces = r.pieces;
  whole = subst (λ (k : ℕ). AreBetween source start r.pieces (record { at = k; tokens = tokens })) (at_end source at line tokens le r) r.before;
}

pub order_all : (source : List ℕ) (tokens : List Token) (at line : ℕ) → length source ≤ at → Reading source tokens at line → AreInOrder 0 tokens (length source)
order_all source tokens at line le r = subst (λ (k : ℕ). AreInOrder 0 tokens k) (at_end source at line tokens le r) r.in_order
