use Rattle.std.proofs.Common.{◌≡◌, ◌||◌, length}
use Rattle.std.specs.List.{list_any}
use Rattle.span_verdict.specs.Tables.{has_from_edge, has_closing_edge}
use Rattle.span_verdict.proofs.opening.edges_of.Given as goal

-- what the rows before those that are left say is kept
abbrev pub invariant-loop-row : goal.invariant-loop-row
invariant-loop-row l = record {
  opens : (l.opens || list_any (has_from_edge l.setup l.span) l.rest) ≡ list_any (has_from_edge l.setup l.span) l.fn.rows;
  closes : (l.closes || list_any (has_closing_edge l.setup l.span) l.rest) ≡ list_any (has_closing_edge l.setup l.span) l.fn.rows;
}

abbrev pub decreases-loop-row : goal.decreases-loop-row
decreases-loop-row l = length l.rest
