-- Each source has just one reading: its tokens, or its first fault.
use Rattle.std.proofs.Common.{◌≡◌, ℕ, zero, suc, ◌+◌, ◌<◌, ◌≤◌, ◌⊎◌, inl, inr, List, [], ◌∷◌, length, drop, Result, Ok, Err, refl, sym, ap, subst, ◌∙◌, arith}
use Rattle.std.proofs.lemmas.List.{length-drop}
use Rattle.std.proofs.lemmas.Bool.{cases_lt}
use Rattle.pio_lex.specs.declared.fault.LexKind.{LexKind}
use Rattle.pio_lex.specs.declared.token.Token.{Token}
use Rattle.pio_lex.specs.declared.piece.Piece.{Piece}
use Rattle.pio_lex.specs.Pieces.{piece_at, size, IsPieceLength}
use Rattle.pio_lex.specs.Tokens.{line_at, Place, start, last_kind, IsAt, after, AreBetween, IsTokens, IsFirstFault, HasTokens, HasFault}
use Rattle.pio_lex.proofs.Sizes.{piece_within}

-- no piece is here
abbrev Stops : List ℕ → Place → Type 0
Stops source place = (p : Piece) → IsAt source place p → ⊥

same_piece : (r : Result Piece LexKind) (p q : Piece) → r ≡ Ok p → r ≡ Ok q → p ≡ q
same_piece r p q e f = cc

same_end : (source : List ℕ) (from : Place) (ps qs : List Piece) (to other : Place) → AreBetween source from ps to → AreBetween source from qs other → Stops source to → Stops source other → to ≡ other
same_end source from [] [] to other h k s t = sym h ∙ k
same_end source from [] (q ∷ qs) to other h k s t = absurd (s q (subst (λ (x : Place). IsAt source x q) h k.0))
same_end source from (p ∷ ps) [] to other h k s t = absurd (t p (subst (λ (x : Place). IsAt source x p) k h.0))
same_end source from (p ∷ ps) (q ∷ qs) to other h k s t =
    let e = same_piece (piece_at (last_kind from.tokens) (drop from.at source)) p q h.0.is_there k.0.is_there in
    let k1 = subst (λ (x : Piece). AreBetween source (after source from x) qs other) (sym e) k.1 in
    same_end source (after source from p) ps qs to other h.1 k1 s t

whole_stops : (source : List ℕ) (tokens : List Token) → Stops source (record { at = length source; tokens = tokens })
whole_stops source tokens p s = let lt = s.before_end in absurd (omega arith)

fault_is_no_piece : (r : Result Piece LexKind) (fault : LexKind) (p : Piece) → r ≡ Err fault → r ≡ Ok p → ⊥
fault_is_no_piece r fault p e f = cc

fault_stops : (source : List ℕ) (line : ℕ) (kind : LexKind) (f : IsFirstFault source line kind) → Stops source f.place
fault_stops source line kind f p s = fault_is_no_piece (piece_at (last_kind f.place.tokens) (drop f.place.at source)) kind p f.fault s.is_there

pub one_list : (source : List ℕ) (a b : List Token) → IsTokens source a → IsTokens source b → a ≡ b
one_list source a b h k = ap (λ (p : Place). p.tokens) (same_end source start h.pieces k.pieces _ _ h.whole k.whole (whole_stops source a) (whole_stops source b))

same_fault : (r : Result Piece LexKind) (k l : LexKind) → r ≡ Err k → r ≡ Err l → k ≡ l
same_fault r k l e f = cc

pub one_fault : (source : List ℕ) (line other : ℕ) (kind another : LexKind) → IsFirstFault source line kind → IsFirstFault source other another → (line ≡ other) × (kind ≡ another)
one_fault source line other kind another f g =
    let e = same_end source start f.pieces g.pieces f.place g.place f.before g.before (fault_stops source line kind f) (fault_stops source other another g) in
    let k = subst (λ (p : Place). piece_at (last_kind p.tokens) (drop p.at source) ≡ Err another) (sym e) g.fault in
    (f.at_line ∙ ap (λ (p : Place). line_at source p.at) e ∙ sym g.at_line, same_fault (piece_at (last_kind f.place.tokens) (drop f.place.at source)) kind another f.fault k)

pub apart : (source : List ℕ) (tokens : List Token) (line : ℕ) (kind : LexKind) → IsTokens source tokens → IsFirstFault source line kind → ⊥
apart source tokens line kind h f =
    let e = same_end source start h.pieces f.pieces _ f.place h.whole f.before (whole_stops source tokens) (fault_stops source line kind f) in
    let at : length source ≡ f.place.at = ap (λ (p : Place). p.at) e in
    let lt = f.before_end in
    omega arith

-- what is reached from a place: the end, or a fault
abbrev Reaches : List ℕ → Place → Type 0
Reaches source from =
    (pieces : List Piece) × (to : Place) × AreBetween source from pieces to
    × ((to.at ≡ length source) ⊎ ((to.at < length source) × ((kind : LexKind) × (piece_at (last_kind to.tokens) (drop to.at source) ≡ Err kind))))

one_more : (source : List ℕ) (from : Place) (p : Piece) → IsAt source from p → Reaches source (after source from p) → Reaches source from
one_more source from p s r = (p ∷ r.0, r.1, (s, r.2), r.3)

reaches : (fuel : ℕ) (source : List ℕ) (from : Place) → from.at ≤ length source → length source ≤ from.at + fuel → Reaches source from
reaches zero source from le enough = ([], from, refl, inl (omega arith))
reaches (suc fuel) source from le enough =
    elim (cases_lt from.at (length source)) [
      | inr h ↦ ([], from, refl, inl (omega arith))
      | inl lt ↦ reached (piece_at (last_kind from.tokens) (drop from.at source)) refl lt (λ p s h. let left = length-drop from.at source in reaches fuel source (after source from p) (omega (arith, h.1)) (omega (arith, h.0)))
    ] where
      reached : (r : Result Piece LexKind) → piece_at (last_kind from.tokens) (drop from.at source) ≡ r → from.at < length source → ((p : Piece) → IsAt source from p → IsPieceLength (size p) (drop from.at source) → Reaches source (after source from p)) → Reaches source from
      reached (Ok p) e lt next =
          let left = length-drop from.at source in
          let s : IsAt source from p = record { before_end = lt; is_there = e } in
          one_more source from p s (next p s (piece_within (last_kind from.tokens) (drop from.at source) p (omega arith) e))
      reached (Err kind) e lt next = ([], from, refl, inr (lt, (kind, e)))

pub some : (source : List ℕ) → HasTokens source ⊎ HasFault source
some source =
    let r = reaches (length source) source start (omega arith) (omega arith) in
    elim r.3 [
      | inl end ↦ inl (
        r.1.tokens,
        record {
          pieces = r.0;
          whole = subst (λ (k : ℕ). AreBetween source start r.0 (record { at = k; tokens = r.1.tokens })) end r.2;
        },
      )
      | inr fault ↦ inr (line_at source r.1.at, fault.1.0, record { pieces = r.0; place = r.1; before = r.2; before_end = fault.0; fault = fault.1.1; at_line = refl })
    ]
