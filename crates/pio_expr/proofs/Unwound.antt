-- One step of writing what is complete before a token.
use Rattle.std.proofs.Common.{◌≡◌, List, [], ◌∷◌, drop, Some, None, refl}
use Rattle.pio_expr.specs.declared.expr.Item.{Item}
use Rattle.pio_expr.specs.declared.mark.TokenMark.{TokenMark}
use Rattle.pio_expr.specs.declared.waiting.Waiting.{Waiting}
use Rattle.pio_expr.specs.Turns.{innermost, first_before, all_before, kept_before}

pub one_written : (ws below : List Waiting) (m : TokenMark) (i : Item) → first_before (innermost ws) m ≡ Some i → below ≡ drop 1 ws → all_before ws m ≡ i ∷ all_before below m
unfolding all_before
one_written [] below m i h e = cc
one_written (w ∷ rest) below m i h e = rw (e, h) refl

pub one_kept : (ws below : List Waiting) (m : TokenMark) (i : Item) → first_before (innermost ws) m ≡ Some i → below ≡ drop 1 ws → kept_before ws m ≡ kept_before below m
unfolding kept_before
one_kept [] below m i h e = cc
one_kept (w ∷ rest) below m i h e = rw (e, h) refl

pub none_written : (ws : List Waiting) (m : TokenMark) → first_before (innermost ws) m ≡ None → all_before ws m ≡ []
unfolding all_before
none_written [] m h = refl
none_written (w ∷ rest) m h = rw h refl

pub none_kept : (ws : List Waiting) (m : TokenMark) → first_before (innermost ws) m ≡ None → kept_before ws m ≡ ws
unfolding kept_before
none_kept [] m h = refl
none_kept (w ∷ rest) m h = rw h refl
