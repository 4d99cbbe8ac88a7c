use Rattle.std.proofs.Common.{ℕ, ◌≡◌, ◌*◌, ◌+◌, ◌/◌, ◌%◌, slice_index_or, ap, ◌∙◌}
use Rattle.itoa.proofs.Decimal.{PAIRS_at}
use Rattle.vcd_trace.specs.declared.clock_line.TheConstants.{PAIRS}
use Rattle.vcd_trace.proofs.clock_line.digits_of.Goals as goal

pub returns : goal.returns
returns c =
    let n = c.args.number in
    let p = PAIRS_at n c.requires in
    let tens : slice_index_or PAIRS (n * 2) 0 ≡ 48 + n / 10 = p.0 in
    let ones : slice_index_or PAIRS (n * 2 + 1) 0 ≡ 48 + n % 10 = p.1 in
    let both : (slice_index_or PAIRS (n * 2) 0, slice_index_or PAIRS (n * 2 + 1) 0) ≡ (48 + n / 10, 48 + n % 10) = cc in
    ap (λ (i : ℕ). (slice_index_or PAIRS (i * 2) 0, slice_index_or PAIRS (i * 2 + 1) 0)) c.from-place.ensures ∙ both
