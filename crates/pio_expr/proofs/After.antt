-- What a token does after an operand.
use Rattle.std.proofs.Common.{◌≡◌, ℕ, true, List, [], ◌∷◌, ◌++◌, Option, Some, None, refl, ap, sym, ◌∙◌, rules, append_assoc, append-nil}
use Rattle.pio_lex.specs.declared.token.Token.{Token}
use Rattle.pio_expr.specs.declared.expr.Item.{Item}
use Rattle.pio_expr.specs.declared.expr.Item.TheVariants as item
use Rattle.pio_expr.specs.declared.mark.TokenMark.{TokenMark}
use Rattle.pio_expr.specs.declared.mark.TokenMark.TheVariants as mark
use Rattle.pio_expr.specs.declared.waiting.Waiting.{Waiting}
use Rattle.pio_expr.specs.declared.waiting.Waiting.TheVariants as waiting
use Rattle.pio_expr.specs.Marks.{mark_at}
use Rattle.pio_expr.specs.Grammar.{Progress, Parser, readers, then, written, alone_by, product_by, product_goes_on, sum_goes_on, product_operation, sum_operation}
use Rattle.pio_expr.specs.Waiting.{rest, left, begins_level, IsSound}
use Rattle.pio_expr.specs.Turns.{item_before, unless_product, unless_operation, innermost, first_before, all_before, kept_before}
use Rattle.pio_expr.proofs.Chains.{chain_ends}

-- at the beginning of a parenthesis, what is read after a unary goes on with a product, then with a sum
pub unary_of_level : (source : List ℕ) (tokens : List Token) (ws : List Waiting) (p : Progress) → begins_level ws ≡ true → (rest source tokens ws).unary p ≡ then (product_goes_on tokens (readers source tokens (left ws)).unary p) (rest source tokens ws).product
unfolding rest
unary_of_level source tokens [] p begins = refl
unary_of_level source tokens (waiting.Paren ∷ below) p begins = refl
unary_of_level source tokens (w ∷ below) p begins = cc

pub product_of_level : (source : List ℕ) (tokens : List Token) (ws : List Waiting) (p : Progress) → begins_level ws ≡ true → (rest source tokens ws).product p ≡ then (sum_goes_on tokens (readers source tokens (left ws)).unary p) (rest source tokens ws).level
unfolding rest
product_of_level source tokens [] p begins = refl
product_of_level source tokens (waiting.Paren ∷ below) p begins = refl
product_of_level source tokens (w ∷ below) p begins = cc

pub product_ends : (source : List ℕ) (tokens : List Token) (ws : List Waiting) (p : Progress) → product_operation (mark_at tokens p.at) ≡ None → begins_level ws ≡ true → (rest source tokens ws).unary p ≡ (rest source tokens ws).product p
product_ends source tokens ws p none begins =
    unary_of_level source tokens ws p begins ∙ ap (λ read. then read (rest source tokens ws).product) (chain_ends tokens product_operation (readers source tokens (left ws)).unary p none)

pub sum_ends : (source : List ℕ) (tokens : List Token) (ws : List Waiting) (p : Progress) → sum_operation (mark_at tokens p.at) ≡ None → begins_level ws ≡ true → (rest source tokens ws).product p ≡ (rest source tokens ws).level p
sum_ends source tokens ws p none begins =
    product_of_level source tokens ws p begins ∙ ap (λ read. then read (rest source tokens ws).level) (chain_ends tokens sum_operation (product_by tokens (readers source tokens (left ws)).unary) p none)

no_product : (m : TokenMark) (i j : Item) → unless_product m i ≡ Some j → (product_operation m ≡ None) × (i ≡ j)
no_product mark.Star i j e = cc
no_product mark.Slash i j e = cc
no_product _ i j e = (refl, search rules)

no_operation : (m : TokenMark) (i j : Item) → unless_operation m i ≡ Some j → (product_operation m ≡ None) × (sum_operation m ≡ None) × (alone_by m ≡ alone_by mark.Other) × (i ≡ j)
no_operation mark.Star i j e = cc
no_operation mark.Slash i j e = cc
no_operation mark.Plus i j e = cc
no_operation mark.Minus i j e = cc
no_operation _ i j e = (refl, refl, refl, search rules)

-- after an operation of a sum
sum_written : (source : List ℕ) (tokens : List Token) (below : List Waiting) (n : ℕ) (i : Item) (p : Progress) → product_operation (mark_at tokens p.at) ≡ None → begins_level below ≡ true → then (product_goes_on tokens (readers source tokens n).unary p) (λ place. (rest source tokens below).product (written i place)) ≡ (rest source tokens below).unary (written i p)
sum_written source tokens below n i p none begins =
    ap (λ read. then read (λ place. (rest source tokens below).product (written i place))) (chain_ends tokens product_operation (readers source tokens n).unary p none) ∙ sym (product_ends source tokens below (written i p) none begins)

-- what is complete before a token is written
pub one_before : (source : List ℕ) (tokens : List Token) (w : Waiting) (below : List Waiting) (i : Item) (p : Progress) → item_before w (mark_at tokens p.at) ≡ Some i → IsSound (w ∷ below) → ((rest source tokens (w ∷ below)).unary p ≡ (rest source tokens below).unary (written i p)) × IsSound below
unfolding rest
one_before source tokens waiting.Paren below i p e sound = cc
one_before source tokens waiting.Negate below i p e sound = (ap (λ j. (rest source tokens below).unary (written j p)) (search rules), sound)
one_before source tokens waiting.Multiply below i p e sound = (ap (λ j. (rest source tokens below).unary (written j p)) (search rules), sound)
one_before source tokens waiting.Divide below i p e sound = (ap (λ j. (rest source tokens below).unary (written j p)) (search rules), sound)
one_before source tokens waiting.Add below i p e sound =
    let h = no_product (mark_at tokens p.at) item.Add i e in
    (sum_written source tokens below (left below) item.Add p h.0 sound.0 ∙ ap (λ j. (rest source tokens below).unary (written j p)) h.1, sound.1)
one_before source tokens waiting.Subtract below i p e sound =
    let h = no_product (mark_at tokens p.at) item.Subtract i e in
    (sum_written source tokens below (left below) item.Subtract p h.0 sound.0 ∙ ap (λ j. (rest source tokens below).unary (written j p)) h.1, sound.1)
one_before source tokens (waiting.Reverse at) below i p e sound =
    let h = no_operation (mark_at tokens p.at) item.Reverse i e in
    let q : Progress = written item.Reverse p in
    (ap (λ (f : ℕ → Parser). then (f at q) (rest source tokens below).level) h.2 ∙ sym (sum_ends source tokens below q h.1 sound.0) ∙ sym (product_ends source tokens below q h.0 sound.0) ∙ ap (λ j. (rest source tokens below).unary (written j p)) h.3, sound.1)

-- more items at a place
abbrev pub onto : List Item → Progress → Progress
onto more p = record { at = p.at; items = p.items ++ more }

-- what is read on when all that is complete before a token is written
pub record IsWritten (source : List ℕ) (tokens : List Token) (ws : List Waiting) (m : TokenMark) (p : Progress) : Type 0 where
  pub same : (rest source tokens ws).unary p ≡ (rest source tokens (kept_before ws m)).unary (onto (all_before ws m) p)
  pub sound : IsSound (kept_before ws m)
  pub done : first_before (innermost (kept_before ws m)) m ≡ None

all_none : (source : List ℕ) (tokens : List Token) (w : Waiting) (below : List Waiting) (m : TokenMark) (p : Progress) → IsSound (w ∷ below) → item_before w m ≡ None → IsWritten source tokens (w ∷ below) m p
unfolding all_before kept_before
all_none source tokens w below m p sound e = record {
  same = rw e (ap (λ xs. (rest source tokens (w ∷ below)).unary (record { at = p.at; items = xs })) (sym (append-nil p.items)));
  sound = rw e sound;
  done = rw e e;
}

all_some : (source : List ℕ) (tokens : List Token) (w : Waiting) (below : List Waiting) (m : TokenMark) (i : Item) (p : Progress) → item_before w m ≡ Some i → (rest source tokens (w ∷ below)).unary p ≡ (rest source tokens below).unary (written i p) → IsWritten source tokens below m (written i p) → IsWritten source tokens (w ∷ below) m p
unfolding all_before kept_before
all_some source tokens w below m i p e same more = record {
  same = rw e (same ∙ more.same ∙ ap (λ xs. (rest source tokens (kept_before below m)).unary (record { at = p.at; items = xs })) (append_assoc p.items (i ∷ []) (all_before below m)));
  sound = rw e more.sound;
  done = rw e more.done;
}

pub all_written : (source : List ℕ) (tokens : List Token) (ws : List Waiting) (m : TokenMark) (p : Progress) → mark_at tokens p.at ≡ m → IsSound ws → IsWritten source tokens ws m p
unfolding all_before kept_before
all_written source tokens [] m p is sound = record { same = ap (λ xs. (rest source tokens []).unary (record { at = p.at; items = xs })) (sym (append-nil p.items)); sound = tt; done = refl }
all_written source tokens (w ∷ below) m p is sound = by_item (item_before w m) refl (λ i q. all_written source tokens below m q) where
  by_item : (o : Option Item) → item_before w m ≡ o → ((i : Item) (q : Progress) → mark_at tokens q.at ≡ m → IsSound below → IsWritten source tokens below m q) → IsWritten source tokens (w ∷ below) m p
  by_item None e more = all_none source tokens w below m p sound e
  by_item (Some i) e more =
      let one = one_before source tokens w below i p (ap (λ k. item_before w k) is ∙ e) sound in
      all_some source tokens w below m i p e one.0 (more i (written i p) is one.1)
