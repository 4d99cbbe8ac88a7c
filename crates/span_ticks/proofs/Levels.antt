-- A pin's level after writes is the bit of the last one that holds it.
use Rattle.std.proofs.Common.{◌≡◌, ℕ, ◌==◌, Bool, true, false, cond, Some, None, unwrap_or, List, [], ◌∷◌, refl}
use Rattle.std.specs.Int.{bit_at}
use Rattle.pin_matrix.specs.Pins.{last_of}
use Rattle.span_ticks.specs.Following.{level_after}

-- one write
level_write : (p : ℕ) (z : Bool) (bit old : ℕ) (ws : List (ℕ × ℕ)) → ((old : ℕ) → level_after p ws (old == 1) ≡ (last_of p old ws == 1))
    → level_after p ws (unwrap_or (cond z (Some (bit == 1)) None) (old == 1)) ≡ (last_of p (cond z bit old) ws == 1)
level_write p true bit old ws h = h bit
level_write p false bit old ws h = h old

pub level_last : (p : ℕ) (writes : List (ℕ × ℕ)) (old : ℕ) → level_after p writes (old == 1) ≡ (last_of p old writes == 1)
unfolding last_of
level_last p [] old = refl
level_last p (w ∷ ws) old = level_write p (bit_at w.0 p == 1) (bit_at w.1 p) old ws (level_last p ws)
