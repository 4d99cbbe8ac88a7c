-- With clocks enough each byte has its frame.
use Rattle.std.proofs.Common.{◌≡◌, ℕ, suc, ◌+◌, ◌*◌, ◌%◌, ◌<◌, ◌≤◌, true, cond, ltb, List, [], ◌∷◌, length, refl, ap, ◌∙◌, subst, arith}
use Rattle.std.proofs.lemmas.Bool.Decides.{nat_tests}
use Rattle.std.proofs.Math.Nat.{mul-le-mul_right}
use Rattle.serial_receiver.specs.declared.frame.Frame.{Frame}
use Rattle.pio_uart.specs.Feeding.{frames_fed}
use Rattle.commands.specs.Whole.{all_frames}

mul_up : (divider a b : ℕ) → a ≤ b → divider * a ≤ divider * b
mul_up divider a b h = let m = mul-le-mul_right {m = a} {n = b} divider h in grind arith

lt_true : (a b : ℕ) → a < b → ltb a b ≡ true
lt_true a b h = grind (arith, nat_tests)

-- the frames of these bytes, of which the first is frame j
all_from : (divider clocks j : ℕ) (bytes : List ℕ) → divider * (80 * (j + length bytes) + 5) < clocks
    → frames_fed divider clocks j bytes ≡ all_frames divider j bytes
all_from divider clocks j [] enough = refl
all_from divider clocks j (byte ∷ bytes) enough =
    ap (λ b. cond {A = List Frame} b (record { start = divider * (9 + 80 * j); byte = byte % 256; good = true } ∷ frames_fed divider clocks (j + 1) bytes) [])
    (lt_true (divider * (85 + 80 * j)) clocks (let m = mul_up divider (85 + 80 * j) (80 * (j + suc (length bytes)) + 5) (omega arith) in omega (arith, m, enough)))
    ∙ ap (λ (fs : List Frame). record { start = divider * (9 + 80 * j); byte = byte % 256; good = true } ∷ fs)
    (all_from divider clocks (j + 1) bytes
    (subst (λ i. divider * (80 * i + 5) < clocks) (let e : j + suc (length bytes) ≡ j + 1 + length bytes = omega arith in e) enough))

pub all_of : (divider clocks : ℕ) (bytes : List ℕ) → divider * (80 * length bytes + 5) < clocks
    → frames_fed divider clocks 0 bytes ≡ all_frames divider 0 bytes
all_of divider clocks bytes enough =
    all_from divider clocks 0 bytes
    (subst (λ i. divider * (80 * i + 5) < clocks) (let e : length bytes ≡ 0 + length bytes = omega arith in e) enough)
