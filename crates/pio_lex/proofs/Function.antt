-- The reading as a function is the one that the relations tell.
use Rattle.std.proofs.Common.{◌≡◌, ℕ, zero, suc, ◌+◌, ◌<◌, ◌≤◌, List, [], ◌∷◌, length, drop, Result, Ok, Err, refl, sym, ap, subst, ◌∙◌, arith, lt-ltb}
use Rattle.std.specs.Prelude.{IfOk, IfErr}
use Rattle.std.proofs.lemmas.Bool.{le-ltb}
use Rattle.std.proofs.lemmas.List.{length-drop}
use Rattle.pio_lex.specs.declared.fault.LexKind.{LexKind}
use Rattle.pio_lex.specs.declared.fault.LexFault.{LexFault}
use Rattle.pio_lex.specs.declared.fault.LexFault.TheVariants.{Memory, Found}
use Rattle.pio_lex.specs.declared.token.Token.{Token}
use Rattle.pio_lex.specs.declared.piece.Piece.{Piece}
use Rattle.pio_lex.specs.Pieces.{piece_at}
use Rattle.pio_lex.specs.Tokens.{line_at, Place, start, last_kind, after, AreBetween, IsTokens, IsFirstFault}
use Rattle.pio_lex.specs.Reading.{read_from, reading_of}
use Rattle.pio_lex.specs.Fault.{LexRefusal}
use Rattle.pio_lex.specs.Answers.{IsFaultOf, Gives}
use Rattle.pio_lex.proofs.Sizes.{piece_within}

-- the reading at a place where so many pieces are allowed at least
abbrev Comes : List ℕ → Place → Result (List Token) LexRefusal → Type 0
Comes source place r = (more : ℕ) → length source ≤ place.at + more → read_from more source place ≡ r

-- the end is read as the tokens before it
at_end : (source : List ℕ) (place : Place) → length source ≤ place.at → Comes source place (Ok place.tokens)
unfolding read_from
at_end source place le zero enough = refl
at_end source place le (suc more) enough = rw (le-ltb place.at (length source) le) refl

-- a fault is read as that fault
at_fault : (source : List ℕ) (place : Place) (kind : LexKind) → place.at < length source → piece_at (last_kind place.tokens) (drop place.at source) ≡ Err kind → Comes source place (Err (record { line = line_at source place.at; kind = kind }))
unfolding read_from
at_fault source place kind lt e zero enough = absurd (omega arith)
at_fault source place kind lt e (suc more) enough = rw (lt-ltb place.at (length source) lt) (rw e refl)

-- a piece is read, and what comes after it
at_piece : (source : List ℕ) (place : Place) (p : Piece) (r : Result (List Token) LexRefusal) → place.at < length source → piece_at (last_kind place.tokens) (drop place.at source) ≡ Ok p → Comes source (after source place p) r → Comes source place r
unfolding read_from
at_piece source place p r lt e rest zero enough = absurd (omega arith)
at_piece source place p r lt e rest (suc more) enough =
    let left = length-drop place.at source in
    let some = piece_within (last_kind place.tokens) (drop place.at source) p (omega arith) e in
    let onward = rest more (omega (arith, some.0)) in
    rw (lt-ltb place.at (length source) lt) (rw e onward)

-- what is read at a place is read from each place before it
from_before : (source : List ℕ) (from : Place) (pieces : List Piece) (to : Place) (r : Result (List Token) LexRefusal) → AreBetween source from pieces to → Comes source to r → Comes source from r
from_before source from [] to r h comes = subst (λ (p : Place). Comes source p r) (sym h) comes
from_before source from (p ∷ pieces) to r h comes = at_piece source from p r h.0.before_end h.0.is_there (from_before source (after source from p) pieces to r h.1 comes)

pub tokens_are_read : (source : List ℕ) (tokens : List Token) → IsTokens source tokens → reading_of source ≡ Ok tokens
tokens_are_read source tokens h = from_before source start h.pieces _ (Ok tokens) h.whole (at_end source (record { at = length source; tokens = tokens }) (omega arith)) (length source) (omega arith)

pub fault_is_read : (source : List ℕ) (line : ℕ) (kind : LexKind) → IsFirstFault source line kind → reading_of source ≡ Err (record { line = line; kind = kind })
fault_is_read source line kind f =
    from_before source start f.pieces f.place (Err (record { line = line_at source f.place.at; kind = kind })) f.before (at_fault source f.place kind f.before_end f.fault) (length source) (omega arith)
    ∙ ap (λ (n : ℕ). Err (record { line = n; kind = kind })) (sym f.at_line)

pub answers : {X : Type 0} (view : X → List Token) (r : Result X LexFault) (source : List ℕ) → IfOk r (λ v. IsTokens source (view v)) → IfErr r (λ f. IsFaultOf source f) → Gives view r (reading_of source)
answers view (Ok v) source ok fault = tokens_are_read source (view v) ok
answers view (Err Memory) source ok fault = tt
answers view (Err (Found line kind)) source ok fault = fault_is_read source line kind fault
