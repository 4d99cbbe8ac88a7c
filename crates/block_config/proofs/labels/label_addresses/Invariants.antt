use Rattle.std.proofs.Common.{◌≡◌, ℕ, IsTrue, length, map, drop, option_map}
use Rattle.pin_matrix.specs.Spans.{are_addresses}
use Rattle.toml.specs.Data.{as_str}
use Rattle.toml.specs.View.{items_view}
use Rattle.block_config.specs.Arrays.{gather}
use Rattle.block_config.specs.Loads.{loaded_of}
use Rattle.block_config.specs.Spans.{label_of_element, label_addresses}
use Rattle.block_config.proofs.labels.label_addresses.Given as goal

-- the elements that are left go on from the addresses so far, each in memory
abbrev pub invariant-loop-place : goal.invariant-loop-place
invariant-loop-place l = record {
  count : length l.addresses.items ≡ l.place;
  in_memory : IsTrue (are_addresses l.addresses.items);
  so_far : label_addresses (option_map loaded_of l.load) (items_view l.values)
      ≡ gather (λ place front d. label_of_element (option_map loaded_of l.load) (as_str d)) l.place (map (λ (a : ℕ). a) l.addresses.items) (items_view (drop l.place l.values));
}
