use Rattle.std.proofs.Common.{◌≡◌, ℕ, IsTrue, length, map, drop, option_map}
use Rattle.toml.specs.View.{items_view}
use Rattle.pin_matrix.specs.declared.assume.Assumption.{Assumption}
use Rattle.pin_matrix.specs.Assumptions.{are_assumptions, most_x, most_y}
use Rattle.block_config.specs.Arrays.{gather}
use Rattle.block_config.specs.Assume.{assumption_of, assumptions_of}
use Rattle.block_config.specs.Loads.{loaded_of}
use Rattle.block_config.proofs.assume.assumptions_of.Given as goal

-- the tables that are left go on from the assumptions so far, which a span may have, and whose greatest numbers are known
abbrev pub invariant-loop-place : goal.invariant-loop-place
invariant-loop-place l = record {
  x : l.reach.x ≡ most_x l.items.items;
  y : l.reach.y ≡ most_y l.items.items;
  count : length l.items.items ≡ l.place;
  fit : IsTrue (are_assumptions l.items.items);
  so_far : assumptions_of l.span (option_map loaded_of l.load) (items_view l.values)
      ≡ gather (assumption_of l.span (option_map loaded_of l.load)) l.place (map (λ (a : Assumption). a) l.items.items) (items_view (drop l.place l.values));
}
