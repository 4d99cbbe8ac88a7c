-- Where a bit is in its word, by how many bits are left.
--   place_of         the place of the first of these bits
use Rattle.std.proofs.Common.{◌≡◌, ◌==◌, ℕ, suc, ◌+◌, ◌-◌, ◌*◌, ◌%◌, ◌<◌, ◌≤◌, Bool, true, false, cond, Option, Some, None, option_to_list, List, [], ◌∷◌, ◌++◌, length, length-append, refl, sym, ap, ◌∙◌, arith}
use Rattle.std.proofs.lemmas.Bool.Decides.{nat_tests}
use Rattle.sm_registers.specs.declared.registers.Registers.{Registers}
use Rattle.pio_ws2812.specs.Sending.{word_bits, bits_of}
use Rattle.pio_ws2812.proofs.Bits.{word_bits-is, length-bits_down}
use Rattle.pio_ws2812.proofs.Instructions.{Holds}

-- the place of the first of the bits that are left of a word; where none is, that of a new word
abbrev pub place_of : List Bool → ℕ
place_of bits = (24 - length bits) % 24

pub length-bits_of : (ws : List ℕ) → length (bits_of ws) ≡ 24 * length ws
length-bits_of [] = omega arith
length-bits_of (w ∷ ws) =
    length-append (word_bits w) (bits_of ws)
    ∙ (let e : length (word_bits w) ≡ 24 = ap length (word_bits-is w) ∙ length-bits_down w 0 24 in let f = length-bits_of ws in let g : length (word_bits w) + length (bits_of ws) ≡ 24 * suc (length ws) = omega (arith, e, f) in g)

pub most : (r : Registers) (bits : List Bool) → Holds r bits → length bits ≤ 24
most r bits h = let e : length bits ≡ 24 - r.out_count = ap length h.bits_are ∙ length-bits_down r.osr 0 (24 - r.out_count) in omega (arith, e)

-- a new word begins at its first bit
pub new_place : (o : Option ℕ) → place_of (bits_of (option_to_list o)) ≡ 0
new_place None = refl
new_place (Some w) = ap (λ n. (24 - n) % 24) (length-bits_of (w ∷ []))

-- the place after that of a bit, with the bits of the words that were taken meanwhile
abbrev pub next_place : ℕ → ℕ
next_place place = cond (place == 23) 0 (place + 1)

place_from : (n : ℕ) → n < 24 → (24 - suc n) % 24 ≡ 23 - n
place_from n l = omega (arith, l)

pub place_is : (bit : Bool) (bits : List Bool) → length bits < 24 → place_of (bit ∷ bits) ≡ 23 - length bits
place_is bit bits l = place_from (length bits) l

is_last : (n : ℕ) → n ≡ 23 → (n == 23) ≡ true
is_last n e = grind (arith, nat_tests)

not_last : (n : ℕ) → n < 23 → (n == 23) ≡ false
not_last n e = grind (arith, nat_tests)

pub last_place : (bit : Bool) → (place_of (bit ∷ []) == 23) ≡ true
last_place bit = refl

pub other_place : (bit next : Bool) (bits : List Bool) → length (next ∷ bits) < 24 → (place_of (bit ∷ next ∷ bits) == 23) ≡ false
other_place bit next bits l = not_last (place_of (bit ∷ next ∷ bits)) (let e = place_is bit (next ∷ bits) l in omega (arith, e, l))

pub place_next : (bit : Bool) (bits : List Bool) (ws : List ℕ) → length bits < 24 → length (bits ++ bits_of ws) ≤ 24 → place_of (bits ++ bits_of ws) ≡ next_place (place_of (bit ∷ bits))
place_next bit [] ws l m =
    let e = length-bits_of ws in
    let f : length ([] ++ bits_of ws) ≤ 24 = m in
    let g : (24 - length (bits_of ws)) % 24 ≡ 0 = omega (arith, e, f) in g
place_next bit (next ∷ bits) ws l m =
    let e = length-bits_of ws in
    let a : length ((next ∷ bits) ++ bits_of ws) ≡ length (next ∷ bits) + length (bits_of ws) = length-append (next ∷ bits) (bits_of ws) in
    let p = place_is bit (next ∷ bits) l in
    let some : 1 ≤ length (next ∷ bits) = omega arith in
    (let g : (24 - length ((next ∷ bits) ++ bits_of ws)) % 24 ≡ place_of (bit ∷ next ∷ bits) + 1 = omega (arith, e, a, p, l, m, some) in g)
    ∙ sym (ap (λ b. cond b 0 (place_of (bit ∷ next ∷ bits) + 1)) (other_place bit next bits l))
