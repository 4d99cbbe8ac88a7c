-- What the type of a setup keeps, and what a machine's setup is by default.
use Rattle.std.specs.Prelude.{◌≡◌, ℕ, ◌+◌, ◌==◌, ◌&&◌, Bool, true, false, Option, Some, None, List, [], ◌∷◌}
use Rattle.pio_encode.specs.declared.rule.SideRule.{SideRule}
use Rattle.pin_matrix.specs.declared.mapping.Mapping.{Mapping}
use Rattle.pin_matrix.specs.declared.machine.MachineSetup.{MachineSetup}

-- each machine of the list, which begins at this place, has its place's number as its own
abbrev pub ids_are_places : ℕ → List (Option MachineSetup) → Bool
ids_are_places place [] = true
ids_are_places place (None ∷ machines) = ids_are_places (place + 1) machines
ids_are_places place (Some machine ∷ machines) = machine.id == place && ids_are_places (place + 1) machines

-- so many pins from this one on
abbrev pub IsRow : Mapping → ℕ → ℕ → Type 0
IsRow m base count = (m.base ≡ base) × (m.count ≡ count)

-- a machine's setup where nothing is said of it but its number and its side-set rule
pub record IsDefault (number : ℕ) (rule : SideRule) (m : MachineSetup) : Type 0 where
  pub id : m.id ≡ number
  pub start : m.start ≡ 0
  pub x : m.x ≡ 0
  pub y : m.y ≡ 0
  pub isr : m.isr ≡ 0
  pub osr : m.osr ≡ 0
  pub isr_count : m.isr_count ≡ 0
  pub osr_count : m.osr_count ≡ 32
  pub pending : m.pending ≡ None
  pub int : m.int ≡ 1
  pub frac : m.frac ≡ 0
  pub side_rule : m.side_rule ≡ rule
  pub wrap_bottom : m.wrap_bottom ≡ 0
  pub wrap_top : m.wrap_top ≡ 31
  pub in_base : m.in_base ≡ 0
  pub jmp_pin : m.jmp_pin ≡ 0
  pub out : IsRow m.out 0 0
  pub set : IsRow m.set 0 5
  pub side : IsRow m.side 0 rule.bits
  pub in_right : m.in_right ≡ true
  pub out_right : m.out_right ≡ true
  pub autopush : m.autopush ≡ false
  pub autopull : m.autopull ≡ false
  pub push_threshold : m.push_threshold ≡ 32
  pub pull_threshold : m.pull_threshold ≡ 32
  pub join_tx : m.join_tx ≡ false
  pub join_rx : m.join_rx ≡ false
  pub status_rx : m.status_rx ≡ false
  pub status_n : m.status_n ≡ 0
