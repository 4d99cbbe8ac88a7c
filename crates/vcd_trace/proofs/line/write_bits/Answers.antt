use Rattle.std.proofs.Common.{◌≡◌, ℕ, List, ◌+◌, ◌-◌, ◌/◌, ◌%◌, ◌<◌, ◌≤◌, ◌^◌, ◌∷◌, ◌++◌, drop, zero, suc, arith, ap, sym, ◌∙◌, subst, refl}
use Rattle.std.proofs.Math.Pow.{shr_lt}
use Rattle.std.proofs.lemmas.List.{drop-drop}
use Rattle.vcd_trace.specs.ClockText.{four_digits}
use Rattle.vcd_trace.proofs.Digits.{binary_onto, binary_onto-all, binary_onto-four, binary_onto-top, count-ends, count_of, put_at}
use Rattle.vcd_trace.proofs.line.write_bits.Goals as goal

-- at the end all 32 digits have room
room_at-end : (end : ℕ) → end + 32 - end ≡ 32
room_at-end end = omega arith

digits_at-end : (end : ℕ) → end + 64 - end ≡ 64
digits_at-end end = omega arith

fours_at-end : (end : ℕ) → (end + 32 - end) % 4 ≡ 0
fours_at-end end = omega arith

-- a number with more than four digits has more than room for four
more_than-four : (k n : ℕ) → 16 ≤ n → n < 2 ^ k → 5 ≤ k
more_than-four zero n low h = absurd (omega (arith, low, h))
more_than-four (suc zero) n low h = absurd (omega (arith, low, h))
more_than-four (suc (suc zero)) n low h = absurd (omega (arith, low, h))
more_than-four (suc (suc (suc zero))) n low h = absurd (omega (arith, low, h))
more_than-four (suc (suc (suc (suc zero)))) n low h = absurd (omega (arith, low, h))
more_than-four (suc (suc (suc (suc (suc k))))) n low h = omega arith

-- a number of so many bits, divided by 16, has four less
sixteenth_fits : (j k n : ℕ) → k ≡ j + 4 → n < 2 ^ k → n / 16 < 2 ^ j
sixteenth_fits j k n e h = shr_lt j 4 (let P : ℕ → Type 0 = λ i. n < 2 ^ i in subst P e h)

-- the last four digits are those of what is left over by 16
four_digits-low : (n : ℕ) → four_digits (n % 16) ≡ four_digits n
four_digits-low n =
    let d8 : n % 16 / 8 % 2 ≡ n / 8 % 2 = omega arith in
    let d4 : n % 16 / 4 % 2 ≡ n / 4 % 2 = omega arith in
    let d2 : n % 16 / 2 % 2 ≡ n / 2 % 2 = omega arith in
    let d1 : n % 16 % 2 ≡ n % 2 = omega arith in
    let same : four_digits (n % 16) ≡ four_digits n = cc in
    same

pub loop-rest-init : goal.loop-rest-init
loop-rest-init c =
    let end = c.args.end in
    let value = c.args.value in
    let fits : value < 2 ^ 32 = omega arith in
    record {
      low = omega arith;
      high = omega arith;
      fours = fours_at-end end;
      size = refl;
      fits = subst (λ (k : ℕ). value < 2 ^ k) (sym (room_at-end end)) fits;
      text = ap (λ (k : ℕ). binary_onto k value (drop end c.args.line.now)) (digits_at-end end) ∙ binary_onto-all value (drop end c.args.line.now);
    }

pub write_four-requires : goal.write_four-requires
write_four-requires c =
    let l = c.loop-rest in
    record { number = omega arith; after = omega (arith, l.invariant.low, c.requires.after); before = omega (arith, l.invariant.high, l.invariant.size, c.requires.before) }

pub loop-rest-preserved : goal.loop-rest-preserved
loop-rest-preserved c =
    let l = c.loop-rest in
    let end = c.args.end in
    let i = l.invariant in
    let low : 16 ≤ l.rest = omega (arith, c.loop-rest-test.true) in
    let room = more_than-four (l.start + 32 - end) l.rest low i.fits in
    let less : l.start + 32 - end ≡ l.start - 4 + 32 - end + 4 = omega (arith, room) in
    let more : l.rest / 16 < 2 ^ (l.start - 4 + 32 - end) = sixteenth_fits (l.start - 4 + 32 - end) (l.start + 32 - end) l.rest less i.fits in
    record {
      low = omega (arith, room, i.fours, i.low);
      high = omega (arith, i.high);
      fours = omega (arith, room, i.fours);
      size = c.write_four.ensures.size ∙ i.size;
      fits = more;
      text = ap (binary_onto (l.start - 4 + 64 - end) (l.rest / 16)) (c.write_four.ensures.digits ∙ ap (λ (d : List ℕ). d ++ drop l.start l.line) (four_digits-low l.rest))
          ∙ sym (binary_onto-four (l.start - 4 + 64 - end) (l.start + 64 - end) l.rest (drop l.start l.line) (omega (arith, room)) low) ∙ i.text;
    }

pub overflow_sub-start-2 : goal.overflow_sub-start-2
overflow_sub-start-2 c =
    let l = c.loop-rest in
    let low : l.rest < 16 = omega (arith, c.loop-rest-test.false) in
    let ends = count-ends l.rest low in
    omega (arith, ends.1, c.from.ensures, l.invariant.low, c.requires.after)

pub returns-clause-after : goal.returns-clause-after
returns-clause-after c =
    let l = c.loop-rest in
    let low : l.rest < 16 = omega (arith, c.loop-rest-test.false) in
    let ends = count-ends l.rest low in
    omega (arith, ends.1, c.from.ensures, l.invariant.low, c.requires.after)

pub returns-clause-text : goal.returns-clause-text
returns-clause-text c =
    let l = c.loop-rest in
    let end = c.args.end in
    let i = l.invariant in
    let line = c.write_four-2.new.line in
    let size = c.write_four-2.ensures.size ∙ i.size in
    let old = drop l.start l.line in
    let count = c.from.result in
    let same : count ≡ count_of l.rest = c.from.ensures in
    let low : l.rest < 16 = omega (arith, c.loop-rest-test.false) in
    let ends = count-ends l.rest low in
    let at : l.start - 4 + (4 - count) ≡ l.start - count = omega (arith, same, ends.0, ends.1, i.low, c.requires.after) in
    let top : l.start + 64 - end ≡ suc (suc (suc (suc (l.start + 60 - end)))) = omega (arith, i.low) in
    put_at line (l.start - (count + 1)) (l.start - count) 98 (drop (l.start - count) line) (omega (arith, same, ends.0, ends.1, i.low, c.requires.after)) (omega (arith, same, ends.0, size, i.high, c.requires.before)) refl
    ∙ ap (λ (x : List ℕ). 98 ∷ x) (ap (λ (n : ℕ). drop n line) (sym at) ∙ sym (drop-drop (4 - count) (l.start - 4) line)
    ∙ ap (drop (4 - count)) c.write_four-2.ensures.digits ∙ ap (λ (k : ℕ). drop (4 - k) (four_digits l.rest ++ old)) same
    ∙ sym (binary_onto-top (l.start + 60 - end) l.rest old low)
    ∙ ap (λ (n : ℕ). binary_onto n l.rest old) (sym top) ∙ i.text)
