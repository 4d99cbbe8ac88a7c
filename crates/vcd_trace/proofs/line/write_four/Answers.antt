use Rattle.std.proofs.Common.{◌≡◌, ℕ, ◌+◌, ◌-◌, ◌*◌, ◌∷◌, ◌++◌, drop, slice_index_or, slice_set, arith, refl, ap, ◌∙◌}
use Rattle.std.proofs.Math.ListN.{length-set}
use Rattle.vcd_trace.specs.declared.line.TheConstants.{FOURS}
use Rattle.vcd_trace.specs.ClockText.{four_digits}
use Rattle.vcd_trace.proofs.Digits.{FOURS_at, put_at}
use Rattle.vcd_trace.proofs.line.write_four.Goals as goal

pub returns-clause-digits : goal.returns-clause-digits
returns-clause-digits c =
    let end = c.args.end in
    let old = c.args.line.now in
    let at = c.from-first.result * 4 in
    let d0 = slice_index_or FOURS at 0 in
    let d1 = slice_index_or FOURS (at + 1) 0 in
    let d2 = slice_index_or FOURS (at + 2) 0 in
    let d3 = slice_index_or FOURS (at + 3) 0 in
    let one = slice_set old (end - 1) d3 in
    let two = slice_set one (end - 2) d2 in
    let three = slice_set two (end - 3) d1 in
    let size_one = length-set old (end - 1) d3 in
    let size_two = length-set one (end - 2) d2 in
    let size_three = length-set two (end - 3) d1 in
    let rest = drop end old in
    let written = put_at three (end - 4) (end - 3) d0 (d1 ∷ d2 ∷ d3 ∷ rest) (omega (arith, c.requires.after)) (omega (arith, c.requires.before, size_one, size_two, size_three))
    (put_at two (end - 3) (end - 2) d1 (d2 ∷ d3 ∷ rest) (omega (arith, c.requires.after)) (omega (arith, c.requires.before, size_one, size_two))
    (put_at one (end - 2) (end - 1) d2 (d3 ∷ rest) (omega (arith, c.requires.after)) (omega (arith, c.requires.before, size_one))
    (put_at old (end - 1) end d3 rest (omega (arith, c.requires.after)) (omega (arith, c.requires.before)) refl))) in
    let t = FOURS_at c.args.number c.requires.number in
    let e0 = t.first in
    let e1 = t.second in
    let e2 = t.third in
    let e3 = t.fourth in
    let same : (slice_index_or FOURS (c.args.number * 4) 0 ∷ slice_index_or FOURS (c.args.number * 4 + 1) 0 ∷ slice_index_or FOURS (c.args.number * 4 + 2) 0 ∷ slice_index_or FOURS (c.args.number * 4 + 3) 0 ∷ rest) ≡ four_digits c.args.number ++ rest = cc in
    written
    ∙ ap (λ (n : ℕ). slice_index_or FOURS (n * 4) 0 ∷ slice_index_or FOURS (n * 4 + 1) 0 ∷ slice_index_or FOURS (n * 4 + 2) 0 ∷ slice_index_or FOURS (n * 4 + 3) 0 ∷ rest) c.from-first.ensures
    ∙ same
