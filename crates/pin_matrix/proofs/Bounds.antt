-- That a word turned round is a word, and is what the turn of std makes of it.
use Rattle.std.proofs.Common.{◌≡◌, ℕ, ◌+◌, ◌-◌, ◌*◌, ◌/◌, ◌%◌, ◌^◌, ◌<◌, ◌≤◌, bit_or, subst, refl, sym, ap, ◌∙◌, inl, inr, arith, add-zero}
use Rattle.std.proofs.lemmas.Bool.{cases_lt}
use Rattle.std.proofs.lemmas.Nat.{pow-add, pow_pos, mod-pow-add, mod_low, mul-add-lt, or_comm, or_shifted, shl-shr, shr_below}
use Rattle.std.specs.Int.{rotate_right, w32}
use Rattle.std.specs.Int.Bits.{or_self}
use Rattle.pin_matrix.specs.Pins.{rotated_right}

-- The upper bits moved down by n, and n bits above them.
pub joined-lt : (whole low n : ℕ) → whole < 2 ^ 32 → n ≤ 32 → low < 2 ^ n → whole / 2 ^ n + low * 2 ^ (32 - n) < 2 ^ 32
joined-lt whole low n word count below =
    let parts : (32 - n) + n ≡ 32 = omega arith in
    let split : 2 ^ ((32 - n) + n) ≡ 2 ^ 32 = let P : ℕ → Type 0 = λ m. 2 ^ ((32 - n) + n) ≡ 2 ^ m in subst P parts refl in
    let room : whole < 2 ^ ((32 - n) + n) = omega (arith, split) in
    let kept : whole / 2 ^ n < 2 ^ (32 - n) = shr_below whole (32 - n) n room in
    let all : low * 2 ^ (32 - n) + whole / 2 ^ n < 2 ^ (32 - n) * 2 ^ n = mul-add-lt low (2 ^ (32 - n)) (whole / 2 ^ n) (2 ^ n) below kept in
    omega (arith, split, pow-add 2 (32 - n) n)

-- a turn by no bits
unturned : (word : ℕ) → word < 2 ^ 32 → bit_or (word / 2 ^ 0) (word * 2 ^ 0 % 2 ^ 32) ≡ word
unturned word below =
    let right : word / 2 ^ 0 ≡ word = omega arith in
    let left : word * 2 ^ 0 % 2 ^ 32 ≡ word = omega arith in
    (λ i. bit_or (right i) (left i)) ∙ or_self word

-- a turn by some bits, but not all
turned_some : (word n : ℕ) → word < 2 ^ 32 → n ≤ 32 → bit_or (word / 2 ^ n) (word * 2 ^ (32 - n) % 2 ^ 32) ≡ rotated_right word n
turned_some word n below turn =
    let j : ℕ = 32 - n in
    let whole : 32 ≡ n + j = omega arith in
    let split : j + n ≡ 32 = omega arith in
    let room : word < 2 ^ (j + n) = let P : ℕ → Type 0 = λ m. word < 2 ^ m in subst P (sym split) below in
    let clear : word * 2 ^ j % 2 ^ j ≡ 0 = ap (λ x. x % 2 ^ j) (sym (add-zero (word * 2 ^ j))) ∙ mod_low word j 0 (pow_pos j) in
    let low : word * 2 ^ j % 2 ^ 32 ≡ word % 2 ^ n * 2 ^ j =
    ap (λ m. word * 2 ^ j % 2 ^ m) whole ∙ mod-pow-add (word * 2 ^ j) n j ∙ rw (shl-shr word j, clear) (add-zero _) in
    let high : word / 2 ^ n < 2 ^ j = shr_below word j n room in
    ap (bit_or (word / 2 ^ n)) low ∙ or_comm (word / 2 ^ n) (word % 2 ^ n * 2 ^ j)
    ∙ or_shifted (word % 2 ^ n) j (word / 2 ^ n) high ∙ omega arith

-- What std's turn makes of a word.
pub turned : (word n : ℕ) → word < 2 ^ 32 → n ≤ 32 → rotate_right w32 word n ≡ rotated_right word n
turned word n below turn =
    let T : (by left : ℕ) → ℕ = λ by left. bit_or (word / 2 ^ by) (word * 2 ^ left % 2 ^ 32) in
    elim (cases_lt n 32) [
      | inl some ↦
          let by : n % 32 ≡ n = omega arith in
          elim (cases_lt 0 n) [
            | inl any ↦
                let left : (32 - n % 32) % 32 ≡ 32 - n = omega arith in
                (λ i. T (by i) (left i)) ∙ turned_some word n below turn
            | inr none ↦
                let zero : n % 32 ≡ 0 = omega arith in
                let left : (32 - n % 32) % 32 ≡ 0 = omega arith in
                let at : n ≡ 0 = omega arith in
                let same : word ≡ rotated_right word 0 = omega arith in
                (λ i. T (zero i) (left i)) ∙ unturned word below ∙ same ∙ ap (rotated_right word) (sym at)
          ]
      | inr all ↦
          let at : n ≡ 32 = omega arith in
          let zero : n % 32 ≡ 0 = omega arith in
          let left : (32 - n % 32) % 32 ≡ 0 = omega arith in
          let same : word ≡ rotated_right word 32 = omega (arith, below) in
          (λ i. T (zero i) (left i)) ∙ unturned word below ∙ same ∙ ap (rotated_right word) (sym at)
    ]
