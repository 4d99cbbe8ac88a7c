-- Which bit of a reversed word is which, and that std's reversal is this one.
use Rattle.std.proofs.Common.{◌≡◌, ℕ, zero, suc, ◌+◌, ◌-◌, ◌*◌, ◌/◌, ◌%◌, ◌^◌, ◌<◌, ◌≤◌, sym, ap, ◌∙◌, arith}
use Rattle.std.proofs.lemmas.Nat.{mul-le}
use Rattle.std.proofs.lemmas.Nat.Bits.{bit_at_cat_low, bit_at_cat_high, bit_at-suc, bit_at_lowest}
use Rattle.std.proofs.Math.Nat.{pow-suc, mod-mod, add-mul, mul_assoc, mul_comm}
use Rattle.std.specs.Int.{bit_at, reverse_bits_onto}
use Rattle.shift_engine.specs.Reverse.{reversed_low, reversed_bits}

-- n bits are below 2 ^ n.
pub reversed_low-lt : (n word : ℕ) → reversed_low n word < 2 ^ n
unfolding reversed_low
reversed_low-lt zero word = omega arith
reversed_low-lt (suc n) word =
    let rest = reversed_low-lt n (word / 2) in
    let lowest : word % 2 ≤ 1 = omega arith in
    let top : word % 2 * 2 ^ n ≤ 1 * 2 ^ n = mul-le (word % 2) (2 ^ n) 1 (2 ^ n) lowest (omega arith) in
    omega (arith, pow-suc 2 n)

-- Bit i of n reversed bits is the bit that has i of them above it.
pub bit_at-reversed_low : (n word i j : ℕ) → i + j + 1 ≡ n → bit_at (reversed_low n word) i ≡ bit_at word j
unfolding reversed_low
bit_at-reversed_low zero word i j e = absurd (omega arith)
bit_at-reversed_low (suc n) word i zero e =
    let last : i - n ≡ 0 = omega arith in
    bit_at_cat_high (word % 2) n (reversed_low n (word / 2)) i (reversed_low-lt n (word / 2)) (omega arith)
    ∙ ap (λ k. bit_at (word % 2) k) last ∙ bit_at_lowest (word % 2) ∙ mod-mod word 2 ∙ sym (bit_at_lowest word)
bit_at-reversed_low (suc n) word i (suc j) e =
    bit_at_cat_low (word % 2) n (reversed_low n (word / 2)) i (omega arith)
    ∙ bit_at-reversed_low n (word / 2) i j (omega arith) ∙ sym (bit_at-suc word j)

-- Bit i of a reversed word is its bit 31 - i.
pub bit_at-reversed_bits : (word i : ℕ) → i < 32 → bit_at (reversed_bits word) i ≡ bit_at word (31 - i)
unfolding reversed_bits
bit_at-reversed_bits word i h = bit_at-reversed_low 32 word i (31 - i) (omega arith)

-- std puts the reversed bits after those that it has.
pub reverse_bits_onto-reversed_low : (n word above : ℕ) → reverse_bits_onto n word above ≡ above * 2 ^ n + reversed_low n word
unfolding reverse_bits_onto reversed_low
reverse_bits_onto-reversed_low zero word above = omega arith
reverse_bits_onto-reversed_low (suc n) word above =
    let rest = reverse_bits_onto-reversed_low n (word / 2) (above * 2 + word % 2) in
    let moved : above * 2 * 2 ^ n ≡ above * 2 ^ suc n =
    mul_assoc above 2 (2 ^ n) ∙ ap (λ k. above * k) (mul_comm 2 (2 ^ n) ∙ sym (pow-suc 2 n)) in
    rest ∙ omega (arith, add-mul (above * 2) (word % 2) (2 ^ n), moved)

-- std's reversal of 32 bits is this one.
pub reverse_bits_is : (word : ℕ) → reverse_bits_onto 32 word 0 ≡ reversed_bits word
unfolding reversed_bits
reverse_bits_is word = reverse_bits_onto-reversed_low 32 word 0 ∙ omega arith
