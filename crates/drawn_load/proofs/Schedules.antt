-- The lines of a load are a stimulus: they are in their ranges and in order, and none crowds another.
use Rattle.std.proofs.Common.{◌≡◌, ℕ, zero, suc, ◌+◌, ◌*◌, ◌%◌, ◌≤◌, refl, map, length, arith}
use Rattle.std.specs.List.{range_with_len, AllByRecursion}
use Rattle.std.proofs.lemmas.List.FromFn.{length-map-range_with_len}
use Rattle.dreq_pacing.specs.declared.line.Line.{Line}
use Rattle.dreq_pacing.specs.Lines.{IsSchedule, IsLine, MayPrecede}
use Rattle.drawn_load.specs.Draws.{sum_of_steps, edge_clock, step_of, word_of, words_of, letters_of}
use Rattle.drawn_load.specs.Loads.{pin_line, lines_of, feed_line, drain_line}
use Rattle.drawn_load.proofs.DrawLaws.{sum-more}

step_below : (x : ℕ) → 1 + x % 2000 ≤ 2000
step_below x = omega arith

period_below : (x : ℕ) → 1 + x % 64 ≤ 1000000
period_below x = omega arith

period_above : (x : ℕ) → 1 ≤ 1 + x % 64
period_above x = omega arith

-- the clocks never fall
later : (seed j : ℕ) → edge_clock seed j ≤ edge_clock seed (j + 1)
later seed j = let e = sum-more seed (j + 1) in omega arith

-- the clocks are small
bounded : (seed n : ℕ) → sum_of_steps seed n ≤ 2000 * n
unfolding sum_of_steps
bounded seed zero = omega arith
bounded seed (suc n) = let i = bounded seed n in let s : step_of seed n ≤ 2000 = step_below _ in omega arith

ahead : (l : Line) (seed a n : ℕ) → l.clock ≤ edge_clock seed a → AllByRecursion (MayPrecede l) (map (pin_line seed) (range_with_len a n))
ahead l seed a zero first = tt
ahead l seed a (suc n) first =
    let next = later seed a in
    (record { in_order = first; apart = refl }, ahead l seed (a + 1) n (omega arith))

pins_from : (seed a n : ℕ) → a + n ≤ 1000 → IsSchedule (map (pin_line seed) (range_with_len a n))
pins_from seed a zero few = tt
pins_from seed a (suc n) few =
    let b = bounded seed (a + 1) in
    let next = later seed a in
    (record { in_time = omega arith; act = omega arith }, ahead (pin_line seed a) seed (a + 1) n next, pins_from seed (a + 1) n (omega arith))

pub are_stimulus : (seed : ℕ) → IsSchedule (lines_of seed)
are_stimulus seed =
    let l = letters_of seed in
    let many : length (words_of seed) ≡ 256 = length-map-range_with_len (word_of seed) 0 256 in
    let feed : IsLine (feed_line l (words_of seed)) = record { in_time = omega arith; act = (omega arith, period_above _, period_below _, omega arith) } in
    let drain : IsLine (drain_line l) = record { in_time = omega arith; act = (omega arith, period_above _, period_below _) } in (
      feed,
      (record { in_order = omega arith; apart = refl }, ahead (feed_line l (words_of seed)) seed 0 1000 (omega arith)),
      (drain, ahead (drain_line l) seed 0 1000 (omega arith), pins_from seed 0 1000 (omega arith)),
    )
