use Rattle.std.proofs.Common.{◌≡◌, true, sym, ap, ◌∙◌}
use Rattle.span_bounds.specs.Edges.{at}
use Rattle.span_bounds.specs.Sums.{open_at}
use Rattle.span_bounds.proofs.Settling.{SettlesRow-begins, IsSettling-skip, waiting_ages}
use Rattle.span_bounds.proofs.settle.settle_number.Goals as goal

pub settle_row-requires-clause-row : goal.settle_row-requires-clause-row
settle_row-requires-clause-row g c =
    let o : open_at (at c.args.left.now c.args.number) ≡ true = ap open_at (sym c.at.ensures) ∙ (sym c.is_open.ensures ∙ c.if-is_open.true) in
    let t = c.requires.settling in
    SettlesRow-begins _ _ _ _ _ _ _ _ _ c.requires.number o c.put.ensures (waiting_ages _ _ _ _ _ _ _ _ c.requires.number t o c.ages_at-ages.ensures) t

pub returns-else-is_open-clause-settling : goal.returns-else-is_open-clause-settling
returns-else-is_open-clause-settling g c = IsSettling-skip _ _ _ _ _ _ _ (ap open_at (sym c.at.ensures) ∙ (sym c.is_open.ensures ∙ c.if-is_open.false)) c.requires.settling
