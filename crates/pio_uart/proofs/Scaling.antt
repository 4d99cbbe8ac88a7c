-- A line that changes only every so many clocks: its frames are those of one that changes in every clock, so many times later.
--   at_clock         a frame's clock from its tick
use Rattle.std.proofs.Common.{◌≡◌, ℕ, zero, suc, ◌+◌, ◌-◌, ◌*◌, ◌<◌, ◌≤◌, inl, inr, Bool, true, false, cond, leb, ltb, List, [], ◌∷◌, ◌++◌, map, refl, sym, ap, ◌∙◌, arith, append-nil, replicate}
use Rattle.std.specs.Prelude.{◌&&◌}
use Rattle.std.proofs.lemmas.Bool.Decides.{nat_tests}
use Rattle.std.proofs.Math.Nat.{lt_of_mul-lt-mul_left, mul-add, mul-le-mul_left, mul-lt-mul_of_pos_left, mul-suc}
use Rattle.std.proofs.lemmas.Bool.{cases_lt, ltb-true}
use Rattle.serial_receiver.specs.declared.frame.Frame.{Frame}
use Rattle.serial_receiver.specs.Frames.{falls, frame_at, frames_from, level_in, middle}
use Rattle.program_runs.specs.Levels.{row}
use Rattle.program_runs.proofs.Rows.{get-row, row-split, row-same}
use Rattle.pio_uart.proofs.Rows.{level_stays, frame_of_row, same_frame}

-- a frame by the clock of its fall, where it has the tick's number and a tick comes every so many clocks
abbrev pub at_clock : ℕ → Frame → Frame
at_clock every f = record { start = every * f.start; byte = f.byte; good = f.good }

le_both : (a b c d : ℕ) → (a ≤ b → c ≤ d) → (c ≤ d → a ≤ b) → leb a b ≡ leb c d
le_both a b c d f g = grind (arith, nat_tests)

pub lt_both : (a b c d : ℕ) → (a < b → c < d) → (c < d → a < b) → ltb a b ≡ ltb c d
lt_both a b c d f g = grind (arith, nat_tests)

middle-scaled : (every i : ℕ) → middle (8 * every) i ≡ every * middle 8 i
middle-scaled every i = grind arith

middle-most : (i : ℕ) → i < 9 → middle 8 i ≤ 76
middle-most i h = grind arith

-- the receiver looks for a frame from the same ticks on
abbrev pub IsFrom : (every from tick : ℕ) → Type 0
IsFrom every from tick = (k : ℕ) → leb from (every * k) ≡ leb tick k

pub from_start : (every : ℕ) → IsFrom every 0 0
from_start every k = le_both 0 (every * k) 0 k (λ h. omega arith) (λ h. omega arith)

from_next : (every t : ℕ) → 1 ≤ every → IsFrom every (every * t + every * 76 + 1) (t + 76 + 1)
from_next every t p k = le_both (every * t + every * 76 + 1) (every * k) (t + 76 + 1) k
    (λ h. let e = mul-add every t 76 in let l : t + 76 < k = lt_of_mul-lt-mul_left every (omega (arith, h)) in omega (arith, l))
    (λ h. let e = mul-add every t 76 in let l = mul-lt-mul_of_pos_left {m = t + 76} {n = k} (omega (arith, h)) p in omega (arith, l))

-- two tests of which both are the same
abbrev choice : (looks falls whole : Bool) → (frame : Frame) → (next : List Frame) → (other : List Frame) → List Frame
choice looks fallen whole frame next other = cond (looks && fallen) (cond whole (frame ∷ next) []) other

scaled_choice : (every : ℕ) (a b whole full fallen : Bool) (f g : Frame) (xs ys us vs : List Frame) → a ≡ b → whole ≡ full → (full ≡ true → f ≡ at_clock every g)
    → xs ≡ map (at_clock every) ys → us ≡ map (at_clock every) vs → choice a fallen whole f xs us ≡ map (at_clock every) (choice b fallen full g ys vs)
scaled_choice every a b whole full true f g xs ys us vs p q frame next other = rw (p, q) (by b full refl) where
  by : (x y : Bool) → full ≡ y → choice x true y f xs us ≡ map (at_clock every) (choice x true y g ys vs)
  by true true e = ap (λ z. z ∷ xs) (frame e) ∙ ap (λ z. at_clock every g ∷ z) next
  by true false e = refl
  by false y e = other
scaled_choice every a b whole full false f g xs ys us vs p q frame next other = rw (p, q) (by b full) where
  by : (x y : Bool) → choice x false y f xs us ≡ map (at_clock every) (choice x false y g ys vs)
  by true y = other
  by false y = other

-- the first clocks of a row that are of its first tick, after the first of them, and the row of the ticks after it
record IsTick (every : ℕ) (at up : ℕ → Bool) (t n : ℕ) : Type 0 where
  same : ℕ
  rest : ℕ
  parts : row at (every * t) (suc n) ≡ up t ∷ (replicate same (up t) ++ row at (every * (t + 1)) rest)
  left : rest ≡ suc n - every
  clock : (bit from : ℕ) (v : Bool) → frames_from bit from (every * t + 1 + same) v (row at (every * (t + 1)) rest) ≡ frames_from bit from (every * (t + 1)) v (row at (every * (t + 1)) rest)

no_frames : (one two from tick clock t : ℕ) (before : Bool) (f : Frame → Frame) → frames_from one from clock before [] ≡ map f (frames_from two tick t before [])
unfolding frames_from
no_frames one two from tick clock t before f = refl

module _ (every : ℕ) (some : 1 ≤ every) (at up : ℕ → Bool) (held : (t e : ℕ) → e < every → at (every * t + e) ≡ up t) where
  next_tick : (t : ℕ) → every * t + every ≡ every * (t + 1)
  next_tick t = let e = mul-add every t 1 in let o : every * 1 ≡ every = omega arith in omega arith

  held_row : (t j : ℕ) → j ≤ every → row at (every * t) j ≡ replicate j (up t)
  held_row t j h = row-same at (every * t) j (up t) (λ k l. held t k (omega (arith, l, h)))

  one_tick : (t n : ℕ) → IsTick every at up t n
  unfolding frames_from
  one_tick t n = elim (cases_lt every (suc n)) [
    | inl long ↦ let rest = suc n - every in record {
      same = every - 1;
      rest = rest;
      parts =
          ap (row at (every * t)) (let e : suc n ≡ every + rest = omega arith in e) ∙ row-split at (every * t) every rest
          ∙ ap (λ xs. xs ++ row at (every * t + every) rest) (held_row t every (omega arith) ∙ ap (λ k. replicate k (up t)) (let e : every ≡ suc (every - 1) = omega arith in e))
          ∙ ap (λ c. up t ∷ (replicate (every - 1) (up t) ++ row at c rest)) (next_tick t);
      left = refl;
      clock = λ bit from v. ap (λ c. frames_from bit from c v (row at (every * (t + 1)) rest)) (let e : every * t + 1 + (every - 1) ≡ every * (t + 1) = let k = next_tick t in omega arith in e);
    }
    | inr short ↦ record {
      same = n;
      rest = 0;
      parts = held_row t (suc n) short ∙ ap (λ xs. up t ∷ xs) (sym (append-nil (replicate n (up t))));
      left = omega (arith, short);
      clock = λ bit from v. refl;
    }
  ]

  -- the frames after the first level of a tick are those after its clocks
  after_tick : (t n bit from : ℕ) → (h : IsTick every at up t n) → frames_from bit from (every * t + 1) (up t) (row at (every * t + 1) n) ≡ frames_from bit from (every * (t + 1)) (up t) (row at (every * (t + 1)) (suc n - every))
  after_tick t n bit from h =
      ap (frames_from bit from (every * t + 1) (up t)) tail ∙ level_stays bit from (every * t + 1) (up t) h.same (row at (every * (t + 1)) h.rest)
      ∙ h.clock bit from (up t) ∙ ap (λ k. frames_from bit from (every * (t + 1)) (up t) (row at (every * (t + 1)) k)) h.left where
        tail : row at (every * t + 1) n ≡ replicate h.same (up t) ++ row at (every * (t + 1)) h.rest
        tail = let p : at (every * t) ∷ row at (every * t + 1) n ≡ up t ∷ (replicate h.same (up t) ++ row at (every * (t + 1)) h.rest) = h.parts in cc

  head_level : (t : ℕ) → at (every * t) ≡ up t
  head_level t = ap at (let e : every * t ≡ every * t + 0 = omega arith in e) ∙ held t 0 (omega (arith, some))

  -- a frame is whole among the clocks where it is among the ticks
  whole : (ticks n : ℕ) → n ≤ every * ticks → every * ticks < n + every → ltb (middle (8 * every) 8) n ≡ ltb (middle 8 8) ticks
  whole ticks n most least = ap (λ k. ltb k n) (middle-scaled every 8) ∙ lt_both (every * 76) n 76 ticks
      (λ h. lt_of_mul-lt-mul_left every (omega (arith, h, most)))
      (λ h. let m = mul-le-mul_left {m = 77} {n = ticks} every (omega (arith, h)) in let e = mul-add every 76 1 in let o : every * 1 ≡ every = omega arith in let s : every * 77 ≡ every * (76 + 1) = refl in omega (arith, m, least))

  same_at : (t n ticks : ℕ) → every * 76 < n → 76 < ticks → (i : ℕ) → i < 9 → level_in (row at (every * t) n) (middle (8 * every) i) ≡ level_in (row up t ticks) (middle 8 i)
  same_at t n ticks long wide i h =
      let most = middle-most i h in
      let below = mul-le-mul_left every most in
      ap (level_in (row at (every * t) n)) (middle-scaled every i)
      ∙ get-row at (every * t) n (every * middle 8 i) (omega (arith, below, long))
      ∙ ap at (sym (mul-add every t (middle 8 i))) ∙ head_level (t + middle 8 i) ∙ sym (get-row up t ticks (middle 8 i) (omega (arith, most, wide)))

  frame_scaled : (t n ticks : ℕ) → every * 76 < n → 76 < ticks → frame_at (level_in (row at (every * t) n)) (8 * every) (every * t) ≡ at_clock every (frame_at (level_in (row up t ticks)) 8 t)
  unfolding frame_at
  frame_scaled t n ticks long wide = same_frame (level_in (row at (every * t) n)) (level_in (row up t ticks)) (8 * every) 8 (every * t) (same_at t n ticks long wide)

  pub scaled : (ticks n t from tick : ℕ) (before : Bool) → n ≤ every * ticks → every * ticks < n + every → IsFrom every from tick
      → frames_from (8 * every) from (every * t) before (row at (every * t) n) ≡ map (at_clock every) (frames_from 8 tick t before (row up t ticks))
  scaled zero zero t from tick before most least looks = no_frames (8 * every) 8 from tick (every * t) t before (at_clock every)
  scaled zero (suc n) t from tick before most least looks = absurd (let e : every * 0 ≡ 0 = omega arith in omega (arith, most))
  scaled (suc ticks) zero t from tick before most least looks = absurd (let e = mul-suc every ticks in omega (arith, least))
  scaled (suc ticks) (suc n) t from tick before most least looks =
      let h = one_tick t n in
      let more = mul-suc every ticks in
      let going : (f g : ℕ) → IsFrom every f g → frames_from (8 * every) f (every * t + 1) (at (every * t)) (row at (every * t + 1) n) ≡ map (at_clock every) (frames_from 8 g (t + 1) (up t) (row up (t + 1) ticks)) =
      λ f g l. ap (λ v. frames_from (8 * every) f (every * t + 1) v (row at (every * t + 1) n)) (head_level t)
      ∙ after_tick t n (8 * every) f h ∙ scaled ticks (suc n - every) (t + 1) f g (up t) (omega (arith, more, most)) (omega (arith, more, least)) l in
      frame_of_row (8 * every) from (every * t) before at n
      ∙ ap (λ v. choice (leb from (every * t)) (falls before v) (ltb (middle (8 * every) 8) (suc n)) (frame_at (level_in (row at (every * t) (suc n))) (8 * every) (every * t)) (frames_from (8 * every) (every * t + middle (8 * every) 8 + 1) (every * t + 1) (at (every * t)) (row at (every * t + 1) n)) (frames_from (8 * every) from (every * t + 1) (at (every * t)) (row at (every * t + 1) n))) (head_level t)
      ∙ scaled_choice every (leb from (every * t)) (leb tick t) (ltb (middle (8 * every) 8) (suc n)) (ltb (middle 8 8) (suc ticks)) (falls before (up t)) _ _ _ _ _ _
      (looks t) (whole (suc ticks) (suc n) most least)
      (λ full. let wide = ltb-true 76 (suc ticks) full in frame_scaled t (suc n) (suc ticks) (let m = mul-le-mul_left {m = 77} {n = suc ticks} every (omega (arith, wide)) in let e = mul-add every 76 1 in let o : every * 1 ≡ every = omega arith in let s : every * 77 ≡ every * (76 + 1) = refl in omega (arith, m, least)) wide)
      (ap (λ k. frames_from (8 * every) (every * t + k + 1) (every * t + 1) (at (every * t)) (row at (every * t + 1) n)) (middle-scaled every 8) ∙ going (every * t + every * 76 + 1) (t + 76 + 1) (from_next every t some))
      (going from tick looks)
      ∙ sym (ap (map (at_clock every)) (frame_of_row 8 tick t before up ticks))
