-- The frames of levels in a row.
use Rattle.std.proofs.Common.{◌≡◌, ℕ, zero, suc, ◌+◌, ◌<◌, Bool, true, false, cond, leb, ltb, List, [], ◌∷◌, ◌++◌, refl, ap, ◌∙◌, arith, replicate}
use Rattle.std.specs.Prelude.{◌&&◌}
use Rattle.serial_receiver.specs.declared.frame.Frame.{Frame}
use Rattle.serial_receiver.specs.Frames.{bits_read, bit_value, falls, frame_at, frames_from, level_in, middle}
use Rattle.program_runs.specs.Levels.{row}
use Rattle.program_runs.proofs.Rows.{length-row}

same_level : (v : Bool) → falls v v ≡ false
same_level true = refl
same_level false = refl

passes_by : (a f : Bool) (x y : List Frame) → f ≡ false → cond (a && f) x y ≡ y
passes_by true f x y p = ap (λ b. cond b x y) p
passes_by false f x y p = refl

-- where the level doesn't fall, no frame begins
pub no_fall : (bit from clock : ℕ) (before level : Bool) (rest : List Bool) → falls before level ≡ false → frames_from bit from clock before (level ∷ rest) ≡ frames_from bit from (clock + 1) level rest
unfolding frames_from
no_fall bit from clock before level rest h = passes_by (leb from clock) (falls before level) _ _ h

-- so it is where it stays
pub level_stays : (bit from clock : ℕ) (v : Bool) (n : ℕ) (rest : List Bool) → frames_from bit from clock v (replicate n v ++ rest) ≡ frames_from bit from (clock + n) v rest
level_stays bit from clock v zero rest = ap (λ c. frames_from bit from c v rest) (let e : clock ≡ clock + 0 = omega arith in e)
level_stays bit from clock v (suc n) rest =
    no_fall bit from clock v v (replicate n v ++ rest) (same_level v) ∙ level_stays bit from (clock + 1) v n rest
    ∙ ap (λ c. frames_from bit from c v rest) (let e : clock + 1 + n ≡ clock + suc n = omega arith in e)

-- a row has a frame where the receiver looks for one, and its stop bit is in it
pub frame_of_row : (bit from clock : ℕ) (before : Bool) (at : ℕ → Bool) (n : ℕ) → frames_from bit from clock before (row at clock (suc n))
    ≡ cond (leb from clock && falls before (at clock))
    (cond (ltb (middle bit 8) (suc n)) (frame_at (level_in (row at clock (suc n))) bit clock ∷ frames_from bit (clock + middle bit 8 + 1) (clock + 1) (at clock) (row at (clock + 1) n)) [])
    (frames_from bit from (clock + 1) (at clock) (row at (clock + 1) n))
unfolding frames_from
frame_of_row bit from clock before at n =
    ap (λ k. cond (leb from clock && falls before (at clock))
    (cond (ltb (middle bit 8) (suc k)) (frame_at (level_in (row at clock (suc n))) bit clock ∷ frames_from bit (clock + middle bit 8 + 1) (clock + 1) (at clock) (row at (clock + 1) n)) [])
    (frames_from bit from (clock + 1) (at clock) (row at (clock + 1) n))) (length-row at (clock + 1) n)

-- the same data bits make the same byte
pub same_bits : (at up : ℕ → Bool) (one two k : ℕ) → ((i : ℕ) → i < k → at (middle one i) ≡ up (middle two i)) → bits_read at one k ≡ bits_read up two k
same_bits at up one two zero h = refl
same_bits at up one two (suc k) h =
    ap (λ n. n + bit_value (at (middle one k)) k) (same_bits at up one two k (λ i l. h i (omega (arith, l))))
    ∙ ap (λ v. bits_read up two k + bit_value v k) (h k (omega arith))

pub same_frame : (at up : ℕ → Bool) (one two s : ℕ) → ((i : ℕ) → i < 9 → at (middle one i) ≡ up (middle two i)) → frame_at at one s ≡ record { start = s; byte = bits_read up two 8; good = up (middle two 8) }
unfolding frame_at
same_frame at up one two s h =
    ap (λ b. let f : Frame = record { start = s; byte = b; good = at (middle one 8) } in f) (same_bits at up one two 8 (λ i l. h i (omega (arith, l))))
    ∙ ap (λ g. let f : Frame = record { start = s; byte = bits_read up two 8; good = g } in f) (h 8 (omega arith))
