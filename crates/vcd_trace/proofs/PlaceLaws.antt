-- Laws of texts that are written before a place of a room, and of the lines that are kept.
use Rattle.std.proofs.Common.{◌≡◌, ℕ, ◌+◌, ◌-◌, ◌/◌, ◌%◌, ◌^◌, ◌<◌, ◌≤◌, Bool, true, cond, List, [], ◌∷◌, ◌++◌, zero, suc, length, drop, take, inl, inr, sym, ap, ◌∙◌, arith, append-nil, length-append, length-drop, eq-zero-or-pos, false, bit_xor, w32}
use Rattle.std.specs.Prelude.{nat_lt}
use Rattle.std.specs.Fmt.{digits}
use Rattle.std.specs.Int.{bit_at, trailing_zeros}
use Rattle.std.specs.Int.Bits.{xor_zero_l}
use Rattle.std.proofs.lemmas.List.{drop-drop, drop_at, drop-append-le, length-take, take_all}
use borrow.Rule.Slice.PartMut.{mid_of, put_mid, post_of}
use Rattle.vcd_trace.specs.VcdText.{bit_line, identifier, vector_line}
use Rattle.vcd_trace.specs.Groups.{bit_changes}
use Rattle.vcd_trace.specs.PlaceText.{HasPlace, IsPlace, one_changes, place_lines}
use Rattle.vcd_trace.specs.declared.place_lines.PlaceLines.{PlaceLines}
use Rattle.vcd_trace.proofs.TextLaws.{bit_changes-same}
use Rattle.vcd_trace.proofs.BitLaws.{xor_twice, changed_bits-next}
use Rattle.vcd_trace.proofs.Digits.{binary_onto, binary_onto-all, binary_onto-last, binary_onto-step, half_fits, has_bit}

-- ---- texts before a place

-- what was copied to a place, from one of its bytes on
pub drop-copied : (a k s : ℕ) (xs ys : List ℕ) → a ≤ length xs → length ys ≡ k → s ≤ k → drop (a + s) (put_mid a k xs ys) ≡ drop s ys ++ drop (a + k) xs
drop-copied a k s xs ys low size within =
    sym (drop-drop s a (put_mid a k xs ys))
    ∙ ap (drop s) (drop_at (take a xs) (ys ++ post_of a k xs) a (omega (arith, length-take a xs, low)))
    ∙ drop-append-le s ys (post_of a k xs) (omega (arith, size, within))
    ∙ ap (λ (l : List ℕ). drop s ys ++ l) (drop-drop k a xs)

-- a room of a size, copied before an end
pub copied-before : (size end start : ℕ) (xs ys zs : List ℕ) → size ≤ end → end ≤ length xs → length zs ≡ size → start ≤ size → ys ≡ zs → drop (end - size + start) (put_mid (end - size) (end - (end - size)) xs ys) ≡ drop start zs ++ drop end xs
copied-before size end start xs ys zs low high long within e =
    ap (λ (k : ℕ). drop (end - size + start) (put_mid (end - size) k xs ys)) (let same : end - (end - size) ≡ size = omega (arith, low) in same)
    ∙ ap (λ (l : List ℕ). drop (end - size + start) (put_mid (end - size) size xs l)) e
    ∙ drop-copied (end - size) size start xs zs (omega (arith, high)) long within
    ∙ ap (λ (n : ℕ). drop start zs ++ drop n xs) (let same : end - size + size ≡ end = omega (arith, low) in same)

-- a room from a start on
pub rest-of-room : (size start : ℕ) (room : List ℕ) → length room ≡ size → mid_of start (size - start) room ≡ drop start room
rest-of-room size start room h = take_all (size - start) (drop start room) (omega (arith, length-drop start room, h))

-- ---- how long the lines are

onto-length : (j k n : ℕ) (acc : List ℕ) → 1 ≤ k → k ≤ j → n < 2 ^ k → length (binary_onto j n acc) ≤ k + length acc
onto-length zero k n acc h w f = absurd (omega (arith, h, w))
onto-length (suc j) k n acc h w f =
    elim (eq-zero-or-pos (n / 2)) [
      | inl z ↦ omega (arith, ap length (binary_onto-last (suc j) n acc (omega arith) z), h)
      | inr g ↦
          let fits : n / 2 < 2 ^ (k - 1) = half_fits (k - 1) k n (omega (arith, h)) f in
          let some : 1 ≤ k - 1 = has_bit (k - 1) (n / 2) fits (λ e. let z : n / 2 ≡ 0 = e in absurd (omega (arith, z, g))) in
          let rest = onto-length j (k - 1) (n / 2) ((48 + n % 2) ∷ acc) some (omega (arith, w)) fits in
          omega (arith, ap length (binary_onto-step j (suc j) n acc (omega arith) (λ e. let z : n / 2 ≡ 0 = e in absurd (omega (arith, z, g)))), rest, some)
    ]

digits-length : (k n : ℕ) → 1 ≤ k → k ≤ 64 → n < 2 ^ k → length (digits 2 false n) ≤ k
digits-length k n h w f =
    omega (arith, ap length (binary_onto-all n []), length-append (digits 2 false n) [], onto-length 64 k n [] h w f)

one_or_two : (b : Bool) (x y z : ℕ) → length (cond b (x ∷ []) (y ∷ z ∷ [])) ≤ 2
one_or_two true x y z = omega arith
one_or_two false x y z = omega arith

identifier-length : (id : ℕ) → length (identifier id) ≤ 2
identifier-length id = one_or_two (nat_lt id 128) id 126 (id - 128)

-- the line of a value, by how many bits it has
pub vector_line-length : (id k n : ℕ) → 1 ≤ k → k ≤ 64 → n < 2 ^ k → length (vector_line id n) ≤ k + 5
vector_line-length id k n h w f =
    omega (arith, digits-length k n h w f, identifier-length id, length-append (digits 2 false n) (32 ∷ (identifier id ++ 10 ∷ [])), length-append (identifier id) (10 ∷ []))

-- the lines of an address and a word
pub place_lines-length : (first pc instruction : ℕ) → pc < 2 ^ 8 → instruction < 2 ^ 16 → length (place_lines first pc instruction) ≤ 34
place_lines-length first pc instruction h k =
    omega (arith, length-append (vector_line first pc) (vector_line (first + 1) instruction), vector_line-length first 8 pc (omega arith) (omega arith) h, vector_line-length (first + 1) 16 instruction (omega arith) (omega arith) k)

-- written up to the end of a room for any two words, they are in its last 34 bytes
pub place-room : (first pc word p w : ℕ) (mid new : List ℕ) (second start : ℕ) → p ≡ pc → w ≡ word → pc < 2 ^ 8 → word < 2 ^ 16 → length new ≡ 74 → start ≤ 74
    → drop second mid ≡ vector_line (first + 1) w ++ [] → drop start new ≡ vector_line first p ++ drop second mid
    → (40 ≤ start) × (drop (start - 40) (take 34 (drop 40 new)) ≡ place_lines first pc word)
place-room first pc word p w mid new second start e f h k size within later line =
    let text : drop start new ≡ place_lines first pc word =
    line ∙ ap (λ (l : List ℕ). vector_line first p ++ l) (later ∙ append-nil (vector_line (first + 1) w))
    ∙ ap (λ (n : ℕ). vector_line first n ++ vector_line (first + 1) w) e
    ∙ ap (λ (n : ℕ). vector_line first pc ++ vector_line (first + 1) n) f in
    let low : 40 ≤ start = omega (arith, ap length text, length-drop start new, size, within, place_lines-length first pc word h k) in
    (low, ap (drop (start - 40)) (take_all 34 (drop 40 new) (omega (arith, length-drop 40 new, size))) ∙ drop-drop (start - 40) 40 new ∙ ap (λ (n : ℕ). drop n new) (let same : 40 + (start - 40) ≡ start = omega (arith, low) in same) ∙ text)

-- the lines that are kept are the lines of what they are kept for
pub place-same : (l : PlaceLines) (first pc instruction : ℕ) → l.first ≡ first → l.pc ≡ pc → l.instruction ≡ instruction → IsPlace l → HasPlace l first pc instruction
place-same l first pc instruction e f h own = record {
  within = own.within;
  text = own.text ∙ ap (λ (n : ℕ). place_lines n l.pc l.instruction) e ∙ ap (λ (n : ℕ). place_lines first n l.instruction) f ∙ ap (λ (n : ℕ). place_lines first pc n) h;
}

-- ---- one bit that changes

-- where one bit alone changes, there is its line
pub bit_changes-one : (first before now : ℕ) → 0 < bit_xor before now → bit_xor before now < 2 ^ 32 → one_changes before now → bit_changes first 32 before now ≡ bit_line (first + trailing_zeros w32 (bit_xor before now)) (bit_at now (trailing_zeros w32 (bit_xor before now)))
bit_changes-one first before now h f one =
    let n : ℕ = bit_xor before now in
    let line : List ℕ = bit_line (first + trailing_zeros w32 n) (bit_at now (trailing_zeros w32 n)) in
    ap (λ (x : ℕ). bit_changes first 32 x now) (sym (xor_twice before now))
    ∙ changed_bits-next first 32 n now h f f
    ∙ ap (λ (x : ℕ). line ++ bit_changes first 32 (bit_xor x now) now) one
    ∙ ap (λ (x : ℕ). line ++ bit_changes first 32 x now) (xor_zero_l now)
    ∙ ap (λ (l : List ℕ). line ++ l) (bit_changes-same first 32 now)
    ∙ append-nil line

-- where none does, there is none
pub bit_changes-none : (first before now : ℕ) → bit_xor before now ≡ 0 → bit_changes first 32 before now ≡ []
bit_changes-none first before now e =
    ap (λ (x : ℕ). bit_changes first 32 x now) (sym (xor_twice before now))
    ∙ ap (λ (x : ℕ). bit_changes first 32 (bit_xor x now) now) e
    ∙ ap (λ (x : ℕ). bit_changes first 32 x now) (xor_zero_l now)
    ∙ bit_changes-same first 32 now
