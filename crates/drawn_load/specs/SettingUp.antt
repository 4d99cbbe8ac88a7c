-- What is known of a setup that is made field by field: words of private clauses.
--   SetsUp  that a machine's setup is what its row says, with all else at its default
--   IsLoad  that the block's setup is the load of some letters
use Rattle.std.specs.Prelude.{◌≡◌, true, false, Option, Some, None, List, [], ◌∷◌}
use Rattle.pin_matrix.specs.Setups.{IsRow}
use Rattle.pin_matrix.specs.declared.machine.MachineSetup.{MachineSetup}
use Rattle.pin_matrix.specs.declared.setup.Setup.{Setup}
use Rattle.drawn_load.specs.Draws.{Letters}
use Rattle.drawn_load.specs.NoSide.{no_side_set}
use Rattle.drawn_load.specs.Machines.{MachineRow, memory_of, pulse_row, bits_row, reader_row, answer_row}

-- A machine's setup is what its row says: it starts at its program's first word and wraps from the last one to it, without
-- side-set. All else is at its default.
pub record SetsUp (r : MachineRow) (m : MachineSetup) : Type 0 where
  pub id : m.id ≡ r.id
  pub start : m.start ≡ r.first
  pub x : m.x ≡ 0
  pub y : m.y ≡ 0
  pub isr : m.isr ≡ 0
  pub osr : m.osr ≡ 0
  pub isr_count : m.isr_count ≡ 0
  pub osr_count : m.osr_count ≡ 32
  pub pending : m.pending ≡ None
  pub int : m.int ≡ r.int
  pub frac : m.frac ≡ r.frac
  pub side_rule : m.side_rule ≡ no_side_set
  pub wrap_bottom : m.wrap_bottom ≡ r.first
  pub wrap_top : m.wrap_top ≡ r.last
  pub in_base : m.in_base ≡ r.in_base
  pub jmp_pin : m.jmp_pin ≡ 0
  pub out : IsRow m.out r.out_base r.out_count
  pub set : IsRow m.set r.set_base r.set_count
  pub side : IsRow m.side 0 0
  pub in_right : m.in_right ≡ true
  pub out_right : m.out_right ≡ true
  pub autopush : m.autopush ≡ r.autopush
  pub autopull : m.autopull ≡ r.autopull
  pub push_threshold : m.push_threshold ≡ 32
  pub pull_threshold : m.pull_threshold ≡ 32
  pub join_tx : m.join_tx ≡ false
  pub join_rx : m.join_rx ≡ false
  pub status_rx : m.status_rx ≡ false
  pub status_n : m.status_n ≡ 0

-- each machine is configured, and its row sets it up
abbrev pub EachSetsUp : List MachineRow → List (Option MachineSetup) → Type 0
EachSetsUp [] [] = Unit {0}
EachSetsUp [] (m ∷ ms) = ⊥
EachSetsUp (r ∷ rs) [] = ⊥
EachSetsUp (r ∷ rs) (None ∷ ms) = ⊥
EachSetsUp (r ∷ rs) (Some m ∷ ms) = SetsUp r m × EachSetsUp rs ms

-- the rows of the four machines
abbrev pub rows_of : Letters → List MachineRow
rows_of l = pulse_row ∷ bits_row l ∷ reader_row ∷ answer_row ∷ []

-- The setup of the block: pins 0, 1 and 3 are outputs, all pins are low and synchronised, and no span is asked of it.
pub record IsLoad (l : Letters) (s : Setup) : Type 0 where
  pub memory : s.memory ≡ memory_of l
  pub machines : EachSetsUp (rows_of l) s.machines
  pub high : s.high ≡ 0
  pub level : s.level ≡ 0
  pub out : s.out ≡ 11
  pub bypass : s.bypass ≡ 0
  pub spans : s.spans ≡ []
