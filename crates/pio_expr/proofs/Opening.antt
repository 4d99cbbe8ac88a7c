-- What a token does where an operand is wanted.
use Rattle.std.proofs.Common.{◌≡◌, ℕ, suc, ◌+◌, Bool, true, false, List, [], ◌∷◌, Option, Some, None, Result, Ok, Err, refl, ap, ◌∙◌, arith, nat_lt, cond}
use Rattle.std.proofs.lemmas.List.Sums.{sum_by-cons}
use Rattle.std.proofs.lemmas.Bool.{ltb-true, ltb-false}
use Rattle.pio_lex.specs.declared.token.Token.{Token}
use Rattle.pio_expr.specs.declared.expr.Item.TheVariants as item
use Rattle.pio_expr.specs.declared.fault.ExprKind.TheVariants.{Syntax, TooDeep, Ambiguous}
use Rattle.pio_expr.specs.declared.fault.ExprRefusal.{ExprRefusal}
use Rattle.pio_expr.specs.declared.mark.TokenMark.{TokenMark}
use Rattle.pio_expr.specs.declared.mark.TokenMark.TheVariants as mark
use Rattle.pio_expr.specs.declared.waiting.Waiting.{Waiting}
use Rattle.pio_expr.specs.declared.waiting.Waiting.TheVariants as waiting
use Rattle.pio_expr.specs.Marks.{mark_at}
use Rattle.pio_expr.specs.Grammar.{misplaced, Progress, readers, value_by, unary_by, level_by, then, next, written, value_read, closed, alone, most_open}
use Rattle.pio_expr.specs.Waiting.{rest, opens, openings, left, begins_level, IsSound}
use Rattle.pio_expr.specs.Turns.{innermost, is_level, is_reverse, opened, sign_at, reverse_at, opening}
use Rattle.pio_expr.proofs.Steps.{then_assoc, deeper_of, value_at, unary_at, level_at, wants_unary, wants_value, wants_plain}

-- what a token opens leaves the same to read
abbrev pub Opens : List ℕ → List Token → List Waiting → Progress → Result (Option Waiting) ExprRefusal → Type 0
Opens source tokens ws p (Ok None) = (rest source tokens ws).wants p ≡ (rest source tokens ws).unary (value_read source tokens p)
Opens source tokens ws p (Ok (Some w)) = ((rest source tokens ws).wants p ≡ (rest source tokens (w ∷ ws)).wants (next p)) × (IsSound ws → IsSound (w ∷ ws))
Opens source tokens ws p (Err fault) = (rest source tokens ws).wants p ≡ Err fault

openings_more : (w : Waiting) (ws : List Waiting) → opens w ≡ true → openings (w ∷ ws) ≡ openings ws + 1
openings_more w ws e = sum_by-cons (λ (x : Waiting). cond (opens x) 1 0) w ws ∙ ap (λ b. cond b 1 0 + openings ws) e ∙ omega arith

room : (w : Waiting) (ws : List Waiting) → opens w ≡ true → nat_lt (openings ws) most_open ≡ true → left ws ≡ suc (left (w ∷ ws))
room w ws e h = let more = openings_more w ws e in let less = ltb-true (openings ws) most_open h in omega (arith, more, less)

no_room : (ws : List Waiting) → nat_lt (openings ws) most_open ≡ false → left ws ≡ 0
no_room ws h = let less = ltb-false (openings ws) most_open h in omega (arith, less)

-- one more opening, by what is read on where there is room for it and where there is none
opened_is : (source : List ℕ) (tokens : List Token) (ws : List Waiting) (w : Waiting) (p : Progress) → opens w ≡ true
    → ((n : ℕ) → left ws ≡ suc n → n ≡ left (w ∷ ws) → (rest source tokens ws).wants p ≡ (rest source tokens (w ∷ ws)).wants (next p))
    → (left ws ≡ 0 → (rest source tokens ws).wants p ≡ Err (misplaced p.at TooDeep))
    → (IsSound ws → IsSound (w ∷ ws)) → Opens source tokens ws p (opened p.at ws w)
opened_is source tokens ws w p e more none sound = by_room (nat_lt (openings ws) most_open) refl where
  by_room : (b : Bool) → nat_lt (openings ws) most_open ≡ b → Opens source tokens ws p (cond b (Ok (Some w)) (Err (misplaced p.at TooDeep)))
  by_room true h = (more (left (w ∷ ws)) (room w ws e h) refl, sound)
  by_room false h = none (no_room ws h)

paren_is : (source : List ℕ) (tokens : List Token) (ws : List Waiting) (p : Progress) → mark_at tokens p.at ≡ mark.Open → Opens source tokens ws p (opened p.at ws waiting.Paren)
unfolding rest
paren_is source tokens ws p is = opened_is source tokens ws waiting.Paren p refl
    (λ n some same. plain ∙ ap (λ k. then (value_by source tokens mark.Open (deeper_of source tokens k) p) (rest source tokens ws).unary) some ∙ then_assoc ((readers source tokens n).level (next p)) (closed tokens) (rest source tokens ws).unary ∙ ap (λ k. then ((readers source tokens k).level (next p)) (λ q. then (closed tokens q) (rest source tokens ws).unary)) same)
    (λ none. plain ∙ ap (λ k. then (value_by source tokens mark.Open (deeper_of source tokens k) p) (rest source tokens ws).unary) none)
    (λ h. h) where
      plain : (rest source tokens ws).wants p ≡ then (value_by source tokens mark.Open (deeper_of source tokens (left ws)) p) (rest source tokens ws).unary
      plain = wants_plain source tokens ws mark.Open p is (λ e. cc) (λ e. cc)

sign_is : (source : List ℕ) (tokens : List Token) (ws : List Waiting) (p : Progress) → mark_at tokens p.at ≡ mark.Minus → is_reverse (innermost ws) ≡ false → Opens source tokens ws p (opened p.at ws waiting.Negate)
unfolding rest
sign_is source tokens ws p is other = opened_is source tokens ws waiting.Negate p refl
    (λ n some same. signed ∙ ap (λ k. then (unary_by source tokens mark.Minus (deeper_of source tokens k) p) (rest source tokens ws).unary) some ∙ then_assoc ((readers source tokens n).unary (next p)) (λ q. Ok (written item.Negate q)) (rest source tokens ws).unary ∙ ap (λ k. then ((readers source tokens k).unary (next p)) (λ q. (rest source tokens ws).unary (written item.Negate q))) same)
    (λ none. signed ∙ ap (λ k. then (unary_by source tokens mark.Minus (deeper_of source tokens k) p) (rest source tokens ws).unary) none)
    (λ h. h) where
      signed : (rest source tokens ws).wants p ≡ then (unary_by source tokens mark.Minus (deeper_of source tokens (left ws)) p) (rest source tokens ws).unary
      signed = wants_unary source tokens ws mark.Minus p is (λ e. cc) other ∙ ap (λ read. then read (rest source tokens ws).unary) (unary_at source tokens (left ws) mark.Minus p is)

-- a sign or a `::` after a `::` is no value
after_reverse : (source : List ℕ) (tokens : List Token) (ws : List Waiting) (m : TokenMark) (p : Progress) → mark_at tokens p.at ≡ m → value_by source tokens m (deeper_of source tokens (left ws)) p ≡ Err (misplaced p.at Syntax) → is_reverse (innermost ws) ≡ true → (rest source tokens ws).wants p ≡ Err (misplaced p.at Syntax)
after_reverse source tokens ws m p is none top = wants_value source tokens ws p top ∙ ap (λ read. then read (rest source tokens ws).unary) (value_at source tokens (left ws) m p is ∙ none)

minus_is : (source : List ℕ) (tokens : List Token) (ws : List Waiting) (p : Progress) → mark_at tokens p.at ≡ mark.Minus → Opens source tokens ws p (sign_at p.at ws)
minus_is source tokens ws p is = by_top (is_reverse (innermost ws)) refl where
  by_top : (b : Bool) → is_reverse (innermost ws) ≡ b → Opens source tokens ws p (cond b (Err (misplaced p.at Syntax)) (opened p.at ws waiting.Negate))
  by_top true e = after_reverse source tokens ws mark.Minus p is refl e
  by_top false e = sign_is source tokens ws p is e

-- at the beginning of a parenthesis a level is read
level_wants : (source : List ℕ) (tokens : List Token) (ws : List Waiting) (p : Progress) → is_level (innermost ws) ≡ true → (rest source tokens ws).wants p ≡ then ((readers source tokens (left ws)).level p) (rest source tokens ws).level
unfolding rest
level_wants source tokens [] p top = refl
level_wants source tokens (waiting.Paren ∷ below) p top = refl
level_wants source tokens (w ∷ below) p top = cc

level_begins : (ws : List Waiting) → is_level (innermost ws) ≡ true → begins_level ws ≡ true
level_begins [] top = refl
level_begins (waiting.Paren ∷ below) top = refl
level_begins (w ∷ below) top = cc

first_is : (source : List ℕ) (tokens : List Token) (ws : List Waiting) (p : Progress) → mark_at tokens p.at ≡ mark.Reverse → is_level (innermost ws) ≡ true → Opens source tokens ws p (opened p.at ws (waiting.Reverse p.at))
unfolding rest
first_is source tokens ws p is top = opened_is source tokens ws (waiting.Reverse p.at) p refl
    (λ n some same. begun ∙ ap (λ k. then (level_by source tokens mark.Reverse (deeper_of source tokens k) (readers source tokens (left ws)).unary p) (rest source tokens ws).level) some ∙ then_assoc ((readers source tokens n).value (next p)) (alone tokens p.at) (rest source tokens ws).level ∙ ap (λ k. then ((readers source tokens k).value (next p)) (λ q. then (alone tokens p.at q) (rest source tokens ws).level)) same)
    (λ none. begun ∙ ap (λ k. then (level_by source tokens mark.Reverse (deeper_of source tokens k) (readers source tokens (left ws)).unary p) (rest source tokens ws).level) none)
    (λ h. (level_begins ws top, h)) where
      begun : (rest source tokens ws).wants p ≡ then (level_by source tokens mark.Reverse (deeper_of source tokens (left ws)) (readers source tokens (left ws)).unary p) (rest source tokens ws).level
      begun = level_wants source tokens ws p top ∙ ap (λ read. then read (rest source tokens ws).level) (level_at source tokens (left ws) mark.Reverse p is)

-- further on in a parenthesis a unary is read
unary_wants : (source : List ℕ) (tokens : List Token) (ws : List Waiting) (p : Progress) → is_level (innermost ws) ≡ false → is_reverse (innermost ws) ≡ false → (rest source tokens ws).wants p ≡ then ((readers source tokens (left ws)).unary p) (rest source tokens ws).unary
unfolding rest
unary_wants source tokens [] p top other = cc
unary_wants source tokens (waiting.Paren ∷ below) p top other = cc
unary_wants source tokens (waiting.Reverse at ∷ below) p top other = cc
unary_wants source tokens (waiting.Negate ∷ below) p top other = refl
unary_wants source tokens (waiting.Multiply ∷ below) p top other = refl
unary_wants source tokens (waiting.Divide ∷ below) p top other = refl
unary_wants source tokens (waiting.Add ∷ below) p top other = refl
unary_wants source tokens (waiting.Subtract ∷ below) p top other = refl

later_is : (source : List ℕ) (tokens : List Token) (ws : List Waiting) (p : Progress) → mark_at tokens p.at ≡ mark.Reverse → is_level (innermost ws) ≡ false → is_reverse (innermost ws) ≡ false → (b : Bool) → nat_lt (openings ws) most_open ≡ b → Opens source tokens ws p (cond b (Err (misplaced p.at Ambiguous)) (Err (misplaced p.at TooDeep)))
later_is source tokens ws p is top other b e = by_room b e where
  read : (rest source tokens ws).wants p ≡ then (unary_by source tokens mark.Reverse (deeper_of source tokens (left ws)) p) (rest source tokens ws).unary
  read = unary_wants source tokens ws p top other ∙ ap (λ r. then r (rest source tokens ws).unary) (unary_at source tokens (left ws) mark.Reverse p is)

  by_room : (b : Bool) → nat_lt (openings ws) most_open ≡ b → Opens source tokens ws p (cond b (Err (misplaced p.at Ambiguous)) (Err (misplaced p.at TooDeep)))
  by_room true h = read ∙ ap (λ k. then (unary_by source tokens mark.Reverse (deeper_of source tokens k) p) (rest source tokens ws).unary) (room waiting.Paren ws refl h)
  by_room false h = read ∙ ap (λ k. then (unary_by source tokens mark.Reverse (deeper_of source tokens k) p) (rest source tokens ws).unary) (no_room ws h)

reverse_is : (source : List ℕ) (tokens : List Token) (ws : List Waiting) (p : Progress) → mark_at tokens p.at ≡ mark.Reverse → Opens source tokens ws p (reverse_at p.at ws)
reverse_is source tokens ws p is = by_top (is_reverse (innermost ws)) refl where
  by_level : is_reverse (innermost ws) ≡ false → (c : Bool) → is_level (innermost ws) ≡ c → Opens source tokens ws p (cond c (opened p.at ws (waiting.Reverse p.at)) (cond (nat_lt (openings ws) most_open) (Err (misplaced p.at Ambiguous)) (Err (misplaced p.at TooDeep))))
  by_level other true f = first_is source tokens ws p is f
  by_level other false f = later_is source tokens ws p is f other (nat_lt (openings ws) most_open) refl

  by_top : (b : Bool) → is_reverse (innermost ws) ≡ b → Opens source tokens ws p (cond b (Err (misplaced p.at Syntax)) (cond (is_level (innermost ws)) (opened p.at ws (waiting.Reverse p.at)) (cond (nat_lt (openings ws) most_open) (Err (misplaced p.at Ambiguous)) (Err (misplaced p.at TooDeep)))))
  by_top true e = after_reverse source tokens ws mark.Reverse p is refl e
  by_top false e = by_level e (is_level (innermost ws)) refl

-- every token, where an operand is wanted
pub opening_is : (source : List ℕ) (tokens : List Token) (ws : List Waiting) (m : TokenMark) (p : Progress) → mark_at tokens p.at ≡ m → Opens source tokens ws p (opening m p.at ws)
opening_is source tokens ws mark.Value p is = wants_plain source tokens ws mark.Value p is (λ e. cc) (λ e. cc)
opening_is source tokens ws mark.Open p is = paren_is source tokens ws p is
opening_is source tokens ws mark.Minus p is = minus_is source tokens ws p is
opening_is source tokens ws mark.Reverse p is = reverse_is source tokens ws p is
opening_is source tokens ws mark.Close p is = wants_plain source tokens ws mark.Close p is (λ e. cc) (λ e. cc)
opening_is source tokens ws mark.Plus p is = wants_plain source tokens ws mark.Plus p is (λ e. cc) (λ e. cc)
opening_is source tokens ws mark.Star p is = wants_plain source tokens ws mark.Star p is (λ e. cc) (λ e. cc)
opening_is source tokens ws mark.Slash p is = wants_plain source tokens ws mark.Slash p is (λ e. cc) (λ e. cc)
opening_is source tokens ws mark.Other p is = wants_plain source tokens ws mark.Other p is (λ e. cc) (λ e. cc)
