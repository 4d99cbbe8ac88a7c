-- Numbers in the ranges of their fields: what `pin_matrix`'s types keep, of the numbers alone.
--   IsMachine, IsSpan, IsBlock   of a machine, a span and a block
use Rattle.std.specs.Prelude.{◌≡◌, ℕ, ◌+◌, ◌^◌, ◌<◌, ◌≤◌, ◌==◌, ◌||◌, ◌&&◌, not, true, Option, Some, None, List, [], ◌∷◌, length}
use Rattle.std.specs.List.{AllByRecursion}
use Rattle.std.specs.Option.{ForSome}
use Rattle.pin_matrix.specs.Spans.{is_in_ticks, is_span_name}
use Rattle.setup_keys.specs.Block.{MachineKeys, SpanKeys, BlockKeys}

-- what the type of a machine's setup keeps
pub record IsMachine (k : MachineKeys) : Type 0 where
  pub id_in_block : k.id < 4
  pub start_in_memory : k.start < 32
  pub isr_has_bits : k.isr_count ≤ 32
  pub osr_has_bits : k.osr_count ≤ 32
  pub divides : (not (k.int == 0) || k.frac == 0) ≡ true
  pub wrap_bottom_in_memory : k.wrap_bottom < 32
  pub wrap_top_in_memory : k.wrap_top < 32
  pub in_base_is_a_pin : k.in_base < 32
  pub jmp_pin_is_a_pin : k.jmp_pin < 32
  pub pushes_some : 1 ≤ k.push_threshold
  pub pushes_a_word : k.push_threshold ≤ 32
  pub pulls_some : 1 ≤ k.pull_threshold
  pub pulls_a_word : k.pull_threshold ≤ 32
  pub joins_one_way : not (k.join_tx && k.join_rx) ≡ true
  pub status_in_field : k.status_n < 16
  pub out_base_is_a_pin : k.out_base < 32
  pub out_count_fits : k.out_count ≤ 32
  pub set_base_is_a_pin : k.set_base < 32
  pub set_count_fits : k.set_count ≤ 32
  pub sets_five_at_most : k.set_count ≤ 5
  pub side_base_is_a_pin : k.side_base < 32
  pub side_count_fits : k.side_count ≤ 32

-- what the type of a span keeps
pub record IsSpan (k : SpanKeys) : Type 0 where
  pub named : is_span_name k.name ≡ true
  pub machine_in_block : k.machine < 4
  pub from_pin_is_a_pin : k.from_pin < 32
  pub to_pin_is_a_pin : k.to_pin < 32
  pub ordered : ForSome k.most (λ m. k.least ≤ m)
  pub min_fits : k.least < 2 ^ 24
  pub bounded : ForSome k.most (λ m. m < 2 ^ 24)
  pub stalls_in_ticks : (is_in_ticks k.unit || length k.stalls == 0) ≡ true

-- each machine of the list, which begins at this place, is in range and has its place's number as its own
abbrev pub ArePlaced : ℕ → List (Option MachineKeys) → Type 0
ArePlaced place [] = Unit {0}
ArePlaced place (None ∷ machines) = ArePlaced (place + 1) machines
ArePlaced place (Some m ∷ machines) = (m.id ≡ place) × IsMachine m × ArePlaced (place + 1) machines

-- what the type of a block's setup keeps: it has four places
pub record IsBlock (k : BlockKeys) : Type 0 where
  pub four : length k.machines ≡ 4
  pub placed : ArePlaced 0 k.machines
  pub spans : AllByRecursion IsSpan k.spans
