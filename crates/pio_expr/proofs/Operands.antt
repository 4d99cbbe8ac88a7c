-- What reading a token where an operand is wanted leaves to read.
use Rattle.std.proofs.Common.{◌≡◌, ℕ, ◌+◌, ◌<◌, Bool, true, false, List, [], ◌∷◌, ◌++◌, length, Option, Some, None, Result, Ok, Err, refl, ap, sym, ◌∙◌, subst, cond, nat_lt, slice_get}
use Rattle.std.proofs.lemmas.Bool.{ltb-true, ltb-false, true≢false}
use Rattle.std.proofs.lemmas.Option.{slice_get_within, get_or_from_slice_get}
use Rattle.std.specs.List.{All}
use Rattle.pio_lex.specs.Tokens.{IsTokenOf}
use Rattle.pio_lex.specs.declared.token.Token.{Token}
use Rattle.pio_expr.specs.declared.fault.ExprKind.TheVariants.{Syntax, TooDeep, Ambiguous}
use Rattle.pio_expr.specs.declared.fault.ExprFault.{ExprFault}
use Rattle.pio_expr.specs.declared.fault.ExprFault.TheVariants as expr_fault
use Rattle.pio_expr.specs.declared.fault.ExprRefusal.{ExprRefusal}
use Rattle.pio_expr.specs.declared.mark.TokenMark.{TokenMark}
use Rattle.pio_expr.specs.declared.mark.TokenMark.TheVariants as mark
use Rattle.pio_expr.specs.declared.expr.Item.{Item}
use Rattle.pio_expr.specs.declared.turn.Turn.{Turn}
use Rattle.pio_expr.specs.declared.turn.Turn.TheVariants.{Operation, Closed, End}
use Rattle.pio_expr.specs.declared.waiting.Waiting.{Waiting}
use Rattle.pio_expr.specs.declared.waiting.Waiting.TheVariants as waiting
use Rattle.pio_expr.specs.Marks.{mark_at, mark_of, mark_by}
use Rattle.pio_expr.specs.Grammar.{misplaced, Progress, next, value_read, items_by, item_by, most_open}
use Rattle.pio_expr.specs.Waiting.{rest, openings, IsSound, HasExprFault}
use Rattle.pio_expr.specs.Turns.{innermost, is_level, is_reverse, opened, opening, first_before, all_before, kept_before, turn_by, operation_of}
use Rattle.pio_expr.proofs.Chains.{no_mark}
use Rattle.pio_expr.proofs.Opening.{Opens, opening_is}
use Rattle.pio_expr.proofs.After.{all_written}
use Rattle.pio_expr.proofs.Turning.{Turns, turn_is}

pub fault_is : {X : Type 0} (answer : Result X ExprRefusal) (refusal : ExprRefusal) (fault : ExprFault) → fault ≡ expr_fault.At refusal.place refusal.kind → answer ≡ Err refusal → HasExprFault answer fault
fault_is answer refusal fault told e = rw told e

pub opening_fault : (source : List ℕ) (tokens : List Token) (ws : List Waiting) (m : TokenMark) (p : Progress) (refusal : ExprRefusal) (fault : ExprFault) → fault ≡ expr_fault.At refusal.place refusal.kind → m ≡ mark_at tokens p.at → opening m p.at ws ≡ Err refusal → HasExprFault ((rest source tokens ws).wants p) fault
opening_fault source tokens ws m p refusal fault told is e = fault_is _ refusal fault told (subst (Opens source tokens ws p) e (opening_is source tokens ws m p (sym is)))

pub opening_more : (source : List ℕ) (tokens : List Token) (ws : List Waiting) (m : TokenMark) (p : Progress) (w : Waiting) → m ≡ mark_at tokens p.at → opening m p.at ws ≡ Ok (Some w) → ((rest source tokens ws).wants p ≡ (rest source tokens (w ∷ ws)).wants (next p)) × (IsSound ws → IsSound (w ∷ ws))
opening_more source tokens ws m p w is e = subst (Opens source tokens ws p) e (opening_is source tokens ws m p (sym is))

-- a value is written
pub opening_value : (source : List ℕ) (tokens : List Token) (ws : List Waiting) (m : TokenMark) (p : Progress) → m ≡ mark_at tokens p.at → opening m p.at ws ≡ Ok None → (rest source tokens ws).wants p ≡ (rest source tokens ws).unary (record { at = p.at + 1; items = p.items ++ items_by source (slice_get tokens p.at) })
unfolding value_read
opening_value source tokens ws m p is e = subst (Opens source tokens ws p) e (opening_is source tokens ws m p (sym is))

-- a token that opens something, or is a value, is among the tokens
pub opening_inside : (tokens : List Token) (ws : List Waiting) (m : TokenMark) (at : ℕ) (found : Option Waiting) → m ≡ mark_at tokens at → opening m at ws ≡ Ok found → at < length tokens
opening_inside tokens ws m at found is e = by_less (nat_lt at (length tokens)) refl where
  by_less : (b : Bool) → nat_lt at (length tokens) ≡ b → at < length tokens
  by_less true h = ltb-true at (length tokens) h
  by_less false h = absurd (outside (is ∙ no_mark tokens at (ltb-false at (length tokens) h)) e) where
    outside : m ≡ mark.Other → opening m at ws ≡ Ok found → ⊥
    outside other f = let g : Err (misplaced at Syntax) ≡ Ok found = ap (λ k. opening k at ws) (sym other) ∙ f in cc

never : (b : Bool) (w : Waiting) (fault : ExprRefusal) → cond b (Ok (Some w)) (Err fault) ≡ Ok None → ⊥
never true w fault e = cc
never false w fault e = cc

-- only a value opens nothing
pub opening_none : (ws : List Waiting) (m : TokenMark) (at : ℕ) → opening m at ws ≡ Ok None → m ≡ mark.Value
opening_none ws mark.Value at e = refl
opening_none ws mark.Open at e = absurd (never (nat_lt (openings ws) most_open) waiting.Paren (misplaced at TooDeep) e)
opening_none ws mark.Minus at e = absurd (by_top (is_reverse (innermost ws)) e) where
  by_top : (b : Bool) → cond b (Err (misplaced at Syntax)) (opened at ws waiting.Negate) ≡ Ok None → ⊥
  by_top true f = cc
  by_top false f = never (nat_lt (openings ws) most_open) waiting.Negate (misplaced at TooDeep) f
opening_none ws mark.Reverse at e = absurd (by_top (is_reverse (innermost ws)) (is_level (innermost ws)) (nat_lt (openings ws) most_open) e) where
  by_top : (b c d : Bool) → cond b (Err (misplaced at Syntax)) (cond c (cond d (Ok (Some (waiting.Reverse at))) (Err (misplaced at TooDeep))) (cond d (Err (misplaced at Ambiguous)) (Err (misplaced at TooDeep)))) ≡ Ok None → ⊥
  by_top true c d f = cc
  by_top false true true f = cc
  by_top false true false f = cc
  by_top false false true f = cc
  by_top false false false f = cc
opening_none ws mark.Close at e = cc
opening_none ws mark.Plus at e = cc
opening_none ws mark.Star at e = cc
opening_none ws mark.Slash at e = cc
opening_none ws mark.Other at e = cc

-- what is complete before a token is written: the same is left to read
pub after_same : (source : List ℕ) (tokens : List Token) (ws kept : List Waiting) (items more : List Item) (m : TokenMark) (at : ℕ) → mark_at tokens at ≡ m → IsSound ws → kept ≡ kept_before ws m → more ≡ items ++ all_before ws m → (rest source tokens ws).unary (record { at = at; items = items }) ≡ (rest source tokens kept).unary (record { at = at; items = more })
after_same source tokens ws kept items more m at is sound e f =
    let w = all_written source tokens ws m (record { at = at; items = items }) is sound in
    rw (e, f) w.same

-- and a token does this then
pub after_turn : (source : List ℕ) (tokens : List Token) (ws kept : List Waiting) (items : List Item) (m : TokenMark) (at : ℕ) (turn : Result Turn ExprRefusal) → mark_at tokens at ≡ m → IsSound ws → kept ≡ kept_before ws m → turn ≡ turn_by (operation_of m) (innermost kept) m at → Turns source tokens kept (record { at = at; items = items }) turn
after_turn source tokens ws kept items m at turn is sound e f =
    let p : Progress = record { at = at; items = items } in
    let w = all_written source tokens ws m p is sound in
    let done : first_before (innermost kept) m ≡ None = rw e w.done in
    let right : IsSound kept = rw e w.sound in
    subst (Turns source tokens kept p) (sym f) (turn_is source tokens kept m p is done right)

goes_on_turn : Result Turn ExprRefusal → Bool
goes_on_turn (Ok (Operation w)) = true
goes_on_turn (Ok Closed) = true
goes_on_turn (Ok End) = false
goes_on_turn (Err fault) = false

no_turn : (w : Option Waiting) (at : ℕ) → goes_on_turn (turn_by None w mark.Other at) ≡ false
unfolding goes_on_turn
no_turn None at = refl
no_turn (Some w) at = refl

-- an operation, or a `)`, is among the tokens
turn_inside : (tokens : List Token) (kept : List Waiting) (m : TokenMark) (at : ℕ) (turn : Result Turn ExprRefusal) → mark_at tokens at ≡ m → turn ≡ turn_by (operation_of m) (innermost kept) m at → goes_on_turn turn ≡ true → at < length tokens
turn_inside tokens kept m at turn is f goes = by_less (nat_lt at (length tokens)) refl where
  by_less : (b : Bool) → nat_lt at (length tokens) ≡ b → at < length tokens
  by_less true h = ltb-true at (length tokens) h
  by_less false h =
      let other : m ≡ mark.Other = sym is ∙ no_mark tokens at (ltb-false at (length tokens) h) in
      let g : goes_on_turn turn ≡ false = ap goes_on_turn (f ∙ ap (λ k. turn_by (operation_of k) (innermost kept) k at) other) ∙ no_turn (innermost kept) at in
      absurd (true≢false (sym goes ∙ g))

pub operation_inside : (tokens : List Token) (kept : List Waiting) (m : TokenMark) (at : ℕ) (w : Waiting) → mark_at tokens at ≡ m → Ok (Operation w) ≡ turn_by (operation_of m) (innermost kept) m at → at < length tokens
unfolding goes_on_turn
operation_inside tokens kept m at w is f = turn_inside tokens kept m at (Ok (Operation w)) is f refl

pub closed_inside : (tokens : List Token) (kept : List Waiting) (m : TokenMark) (at : ℕ) → mark_at tokens at ≡ m → Ok Closed ≡ turn_by (operation_of m) (innermost kept) m at → at < length tokens
unfolding goes_on_turn
closed_inside tokens kept m at is f = turn_inside tokens kept m at (Ok Closed) is f refl

-- the token at a place
pub value_token : (tokens : List Token) (at : ℕ) (t : Token) → slice_get tokens at ≡ Some t → mark.Value ≡ mark_at tokens at → mark_of t.kind ≡ mark.Value
unfolding mark_at
value_token tokens at t h e = sym (e ∙ ap mark_by h)

pub token_items : (source : List ℕ) (tokens : List Token) (at : ℕ) (t : Token) → slice_get tokens at ≡ Some t → items_by source (slice_get tokens at) ≡ item_by source t.kind t.first t.length ∷ []
token_items source tokens at t h = ap (items_by source) h

pub token_of_all : (source : List ℕ) (tokens : List Token) (at : ℕ) (t : Token) → slice_get tokens at ≡ Some t → All (IsTokenOf source) tokens → IsTokenOf source t
token_of_all source tokens at t h all = subst (IsTokenOf source) (get_or_from_slice_get tokens at t t h) (all at t (slice_get_within tokens at t h))

-- where no token is there is no operand
pub opening_outside : (source : List ℕ) (tokens : List Token) (ws : List Waiting) (p : Progress) → slice_get tokens p.at ≡ None → (rest source tokens ws).wants p ≡ Err (misplaced p.at Syntax)
unfolding mark_at
opening_outside source tokens ws p h = opening_is source tokens ws mark.Other p (ap mark_by h)
