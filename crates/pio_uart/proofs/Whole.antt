-- Frames of levels in a row: none begins where the level stays high, and one that is whole is given.
--   IsFrame          the levels from a fall on make a good frame of a byte
use Rattle.std.proofs.Common.{◌≡◌, ◌==◌, ℕ, zero, suc, ◌+◌, ◌-◌, ◌*◌, ◌/◌, ◌%◌, ◌^◌, ◌<◌, ◌≤◌, Bool, true, false, cond, leb, ltb, List, [], ◌∷◌, refl, sym, ap, ◌∙◌, arith}
use Rattle.std.specs.Prelude.{◌&&◌}
use Rattle.std.proofs.lemmas.Bool.Decides.{nat_tests}
use Rattle.std.proofs.lemmas.Nat.{mod-pow-add}
use Rattle.std.proofs.lemmas.Bool.{lt-ltb, le-ltb, lt-leb, le-leb}
use Rattle.serial_receiver.specs.declared.frame.Frame.{Frame}
use Rattle.serial_receiver.specs.Frames.{bits_read, bit_value, falls, frame_at, frames_from, level_in, middle}
use Rattle.program_runs.specs.Levels.{row}
use Rattle.program_runs.proofs.Rows.{get-row}
use Rattle.pio_uart.proofs.Rows.{no_fall, frame_of_row, same_frame}

-- bit i of a word as a level
abbrev pub bit_level : (word i : ℕ) → Bool
bit_level word i = word / 2 ^ i % 2 == 1

-- the level falls in this clock, and from there on data bits and stop bit are a good frame of the low byte of this word
pub record IsFrame (bit : ℕ) (at : ℕ → Bool) (clock word : ℕ) : Type 0 where
  pub fall : at clock ≡ false
  pub data_bits : (i : ℕ) → i < 8 → at (clock + middle bit i) ≡ bit_level word i
  pub stop : at (clock + middle bit 8) ≡ true

-- the good frame of a word's low byte
abbrev pub frame_of : (clock word : ℕ) → Frame
frame_of clock word = record { start = clock; byte = word % 256; good = true }

one_bit : (word i : ℕ) → bit_value (bit_level word i) i ≡ (word / 2 ^ i % 2) * 2 ^ i
one_bit word i = by (word / 2 ^ i % 2) (omega arith) where
  by : (b : ℕ) → b < 2 → bit_value (b == 1) i ≡ b * 2 ^ i
  by zero h = let e : 0 * 2 ^ i ≡ 0 = omega arith in sym e
  by (suc zero) h = let e : 2 ^ i ≡ 1 * 2 ^ i = omega arith in e
  by (suc (suc b)) h = absurd (omega (arith, h))

-- the bits that were read are the low ones of the word
bits_of_word : (at : ℕ → Bool) (bit word k : ℕ) → ((i : ℕ) → i < k → at (middle bit i) ≡ bit_level word i) → bits_read at bit k ≡ word % 2 ^ k
bits_of_word at bit word zero h = omega arith
bits_of_word at bit word (suc k) h =
    ap (λ v. bits_read at bit k + bit_value v k) (h k (omega arith)) ∙ ap (λ n. bits_read at bit k + n) (one_bit word k)
    ∙ ap (λ n. n + (word / 2 ^ k % 2) * 2 ^ k) (bits_of_word at bit word k (λ i l. h i (omega (arith, l))))
    ∙ (let e = mod-pow-add word 1 k in let f : word % 2 ^ (1 + k) ≡ word % 2 ^ suc k = ap (λ j. word % 2 ^ j) (let s : 1 + k ≡ suc k = omega arith in s) in let g : 2 ^ 1 ≡ 2 = refl in let p : (word / 2 ^ k % 2 ^ 1) * 2 ^ k ≡ (word / 2 ^ k % 2) * 2 ^ k = refl in omega (arith, e, f))

middle-most : (bit i : ℕ) → i < 9 → middle bit i ≤ middle bit 8
middle-most bit i h = grind arith

leb-zero : (n : ℕ) → leb 0 n ≡ true
leb-zero n = grind (arith, nat_tests)

both_true : (a b : Bool) (frame : Frame) (next other : List Frame) → a ≡ true → b ≡ true → cond (a && true) (cond b (frame ∷ next) []) other ≡ frame ∷ next
both_true a b frame next other p q = rw (p, q) refl

not_whole : (a b : Bool) (frame : Frame) (next other : List Frame) → a ≡ true → b ≡ false → cond (a && true) (cond b (frame ∷ next) []) other ≡ []
not_whole a b frame next other p q = rw (p, q) refl

no_look : (a f : Bool) (x y : List Frame) → a ≡ false → cond (a && f) x y ≡ y
no_look a f x y p = rw p refl

same_look : (a b f : Bool) (x y z : List Frame) → a ≡ b → y ≡ z → cond (a && f) x y ≡ cond (b && f) x z
same_look a b f x y z p q = rw (p, q) refl

-- once its first clock has passed, a frame may begin in any clock
passed : (bit from clock : ℕ) (before : Bool) (levels : List Bool) → from ≤ clock → frames_from bit from clock before levels ≡ frames_from bit 0 clock before levels
unfolding frames_from
passed bit from clock before [] h = refl
passed bit from clock before (level ∷ rest) h =
    same_look (leb from clock) (leb 0 clock) (falls before level) _ _ _ (le-leb from clock h ∙ sym (leb-zero clock)) (passed bit from (clock + 1) level rest (omega (arith, h)))

-- before that none begins
skipped : (bit from clock : ℕ) (before : Bool) (at : ℕ → Bool) (n k : ℕ) → clock + suc k ≤ from → suc k ≤ n
    → frames_from bit from clock before (row at clock n) ≡ frames_from bit from (clock + suc k) (at (clock + k)) (row at (clock + suc k) (n - suc k))
skipped bit from clock before at zero k h l = absurd (omega (arith, l))
skipped bit from clock before at (suc n) zero h l =
    frame_of_row bit from clock before at n ∙ no_look (leb from clock) (falls before (at clock)) _ _ (lt-leb from clock (omega (arith, h)))
    ∙ ap (λ j. frames_from bit from (clock + 1) (at j) (row at (clock + 1) n)) (let e : clock ≡ clock + 0 = omega arith in e)
    ∙ ap (λ j. frames_from bit from (clock + 1) (at (clock + 0)) (row at (clock + 1) j)) (let e : n ≡ suc n - 1 = omega arith in e)
skipped bit from clock before at (suc n) (suc k) h l =
    frame_of_row bit from clock before at n ∙ no_look (leb from clock) (falls before (at clock)) _ _ (lt-leb from clock (omega (arith, h)))
    ∙ skipped bit from (clock + 1) (at clock) at n k (omega (arith, h)) (omega (arith, l))
    ∙ ap (λ j. frames_from bit from j (at (clock + 1 + k)) (row at j (n - suc k))) (let e : clock + 1 + suc k ≡ clock + suc (suc k) = omega arith in e)
    ∙ ap (λ j. frames_from bit from (clock + suc (suc k)) (at j) (row at (clock + suc (suc k)) (n - suc k))) (let e : clock + 1 + k ≡ clock + suc k = omega arith in e)
    ∙ ap (λ j. frames_from bit from (clock + suc (suc k)) (at (clock + suc k)) (row at (clock + suc (suc k)) j)) (let e : n - suc k ≡ suc n - suc (suc k) = omega arith in e)

-- no frame begins in a clock in which the level stays high
pub stays_high : (bit clock : ℕ) (at : ℕ → Bool) (n : ℕ) → at clock ≡ true → frames_from bit 0 clock true (row at clock (suc n)) ≡ frames_from bit 0 (clock + 1) true (row at (clock + 1) n)
stays_high bit clock at n h =
    no_fall bit 0 clock true (at clock) (row at (clock + 1) n) (ap (falls true) h) ∙ ap (λ v. frames_from bit 0 (clock + 1) v (row at (clock + 1) n)) h

-- a frame that isn't whole isn't given
pub cut_off : (bit clock word : ℕ) (at : ℕ → Bool) (n : ℕ) → IsFrame bit at clock word → n ≤ middle bit 8 → frames_from bit 0 clock true (row at clock n) ≡ []
unfolding frames_from
cut_off bit clock word at zero f h = refl
cut_off bit clock word at (suc n) f h =
    frame_of_row bit 0 clock true at n
    ∙ ap (λ v. cond (leb 0 clock && falls true v) (cond (ltb (middle bit 8) (suc n)) (frame_at (level_in (row at clock (suc n))) bit clock ∷ frames_from bit (clock + middle bit 8 + 1) (clock + 1) (at clock) (row at (clock + 1) n)) []) (frames_from bit 0 (clock + 1) (at clock) (row at (clock + 1) n))) f.fall
    ∙ not_whole (leb 0 clock) (ltb (middle bit 8) (suc n)) _ _ _ (leb-zero clock) (le-ltb (middle bit 8) (suc n) h)

-- one that is whole is given, and then the next one is looked for after its stop bit
pub given : (bit clock word : ℕ) (at : ℕ → Bool) (n : ℕ) → IsFrame bit at clock word → middle bit 8 < n
    → frames_from bit 0 clock true (row at clock n) ≡ frame_of clock word ∷ frames_from bit 0 (clock + middle bit 8 + 1) true (row at (clock + middle bit 8 + 1) (n - (middle bit 8 + 1)))
given bit clock word at zero f h = absurd (omega (arith, h))
given bit clock word at (suc n) f h =
    frame_of_row bit 0 clock true at n
    ∙ ap (λ v. cond (leb 0 clock && falls true v) (cond (ltb (middle bit 8) (suc n)) (frame_at (level_in (row at clock (suc n))) bit clock ∷ frames_from bit (clock + middle bit 8 + 1) (clock + 1) (at clock) (row at (clock + 1) n)) []) (frames_from bit 0 (clock + 1) (at clock) (row at (clock + 1) n))) f.fall
    ∙ both_true (leb 0 clock) (ltb (middle bit 8) (suc n)) _ _ _ (leb-zero clock) (lt-ltb (middle bit 8) (suc n) h)
    ∙ ap (λ x. x ∷ frames_from bit (clock + middle bit 8 + 1) (clock + 1) (at clock) (row at (clock + 1) n)) frame
    ∙ ap (λ xs. frame_of clock word ∷ xs) next where
      level : (i : ℕ) → i < 9 → level_in (row at clock (suc n)) (middle bit i) ≡ at (clock + middle bit i)
      level i l = get-row at clock (suc n) (middle bit i) (let m = middle-most bit i l in omega (arith, m, h))

      frame : frame_at (level_in (row at clock (suc n))) bit clock ≡ frame_of clock word
      frame = same_frame (level_in (row at clock (suc n))) (λ k. at (clock + k)) bit bit clock level
          ∙ ap (λ b. let x : Frame = record { start = clock; byte = b; good = at (clock + middle bit 8) } in x) (bits_of_word (λ k. at (clock + k)) bit word 8 f.data_bits)
          ∙ ap (λ g. let x : Frame = record { start = clock; byte = word % 256; good = g } in x) f.stop

      next : frames_from bit (clock + middle bit 8 + 1) (clock + 1) (at clock) (row at (clock + 1) n) ≡ frames_from bit 0 (clock + middle bit 8 + 1) true (row at (clock + middle bit 8 + 1) (suc n - (middle bit 8 + 1)))
      next = by (middle bit 8) refl h where
        by : (m : ℕ) → middle bit 8 ≡ m → m < suc n → frames_from bit (clock + m + 1) (clock + 1) (at clock) (row at (clock + 1) n) ≡ frames_from bit 0 (clock + m + 1) true (row at (clock + m + 1) (suc n - (m + 1)))
        by zero e l = absurd (let b = f.stop in let z : at (clock + 0) ≡ at clock = ap at (let q : clock + 0 ≡ clock = omega arith in q) in never (sym f.fall ∙ sym z ∙ ap (λ k. at (clock + k)) (sym e) ∙ b)) where
          never : false ≡ true → ⊥
          never x = cc
        by (suc k) e l =
            skipped bit (clock + suc k + 1) (clock + 1) (at clock) at n k (omega arith) (omega (arith, l))
            ∙ ap (λ j. frames_from bit (clock + suc k + 1) j (at (clock + 1 + k)) (row at j (n - suc k))) (let q : clock + 1 + suc k ≡ clock + suc k + 1 = omega arith in q)
            ∙ ap (λ v. frames_from bit (clock + suc k + 1) (clock + suc k + 1) v (row at (clock + suc k + 1) (n - suc k))) (ap at (let q : clock + 1 + k ≡ clock + suc k = omega arith in q) ∙ ap (λ j. at (clock + j)) (sym e) ∙ f.stop)
            ∙ passed bit (clock + suc k + 1) (clock + suc k + 1) true (row at (clock + suc k + 1) (n - suc k)) (omega arith)
            ∙ ap (λ j. frames_from bit 0 (clock + suc k + 1) true (row at (clock + suc k + 1) j)) (let q : n - suc k ≡ suc n - (suc k + 1) = omega arith in q)
