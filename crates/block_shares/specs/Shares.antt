-- What a machine can feel of its block, and what two machines share.
--   writes_by     the pins of its mappings
--   touched_by    all that it reaches, reads, writes, sees and changes
--   touches_of    the same of the machine with a number
--   shares_of     what one machine can feel of another
--   IsAlone       a machine can feel nothing of any other
use Rattle.std.specs.Prelude.{◌≡◌, ◌≢◌, ℕ, ◌<◌, if◌then◌else◌, Option, Some, None, List, slice_index_or, bit_and, bit_or}
use Rattle.pin_matrix.specs.declared.machine.MachineSetup.{MachineSetup}
use Rattle.pin_matrix.specs.declared.mapping.Mapping.{Mapping}
use Rattle.pin_matrix.specs.declared.setup.Setup.{Setup}
use Rattle.block_shares.specs.declared.touched.Touches.{Touches}
use Rattle.block_shares.specs.Acts.{all_32, all_flags, pins_in, reads_of, sees_of, changes_of}
use Rattle.block_shares.specs.Reach.{of_first, gathered, reach_of, runs_wild}

-- the pins of a mapping
abbrev pub pins_of : Mapping → ℕ
pins_of m = pins_in m.base m.count

-- the pins of its side-set, its OUT and its SET: what it is mapped to, whatever its program does (RP2040 Datasheet, section 3.5.6)
abbrev pub writes_by : MachineSetup → ℕ
writes_by s = bit_or (pins_of s.side) (bit_or (pins_of s.out) (pins_of s.set))

-- what some of the words read, wait for, and change
abbrev pub reads_in : (memory : List ℕ) → MachineSetup → (set n : ℕ) → ℕ
reads_in memory s set n = gathered (λ a act. reads_of act s) memory set n

-- the flags that they wait for
abbrev pub sees_in : (memory : List ℕ) → MachineSetup → (set n : ℕ) → ℕ
sees_in memory s set n = gathered (λ a act. sees_of act s) memory set n

-- the flags that they change
abbrev pub changes_in : (memory : List ℕ) → MachineSetup → (set n : ℕ) → ℕ
changes_in memory s set n = gathered (λ a act. changes_of act s) memory set n

-- a machine whose words or addresses come from data may run any word: it is taken to reach and to feel all
abbrev pub touched_wildly : MachineSetup → Touches
touched_wildly s = record { reach = all_32; reads = all_32; writes = writes_by s; sees = all_flags; changes = all_flags }

-- what the words at these addresses touch, and the word that the machine executes first
abbrev pub touched_within : (memory : List ℕ) → MachineSetup → (set : ℕ) → Touches
touched_within memory s set = record {
  reach = set;
  reads = bit_or (of_first (λ act. reads_of act s) s.pending) (reads_in memory s set 32);
  writes = writes_by s;
  sees = bit_or (of_first (λ act. sees_of act s) s.pending) (sees_in memory s set 32);
  changes = bit_or (of_first (λ act. changes_of act s) s.pending) (changes_in memory s set 32);
}

-- what a machine touches whose program comes to these addresses
abbrev pub touched_from : (memory : List ℕ) → MachineSetup → (set : ℕ) → Touches
touched_from memory s set = if runs_wild memory s set then touched_wildly s else touched_within memory s set

-- what a machine touches
unfoldable pub touched_by : (memory : List ℕ) → MachineSetup → Touches
touched_by memory s = touched_from memory s (reach_of memory s)

-- a place without a machine touches nothing
abbrev pub touched_at : (memory : List ℕ) → Option MachineSetup → Touches
touched_at memory None = record { reach = 0; reads = 0; writes = 0; sees = 0; changes = 0 }
touched_at memory (Some s) = touched_by memory s

-- what the machine with this number touches
abbrev pub touches_of : Setup → (machine : ℕ) → Touches
touches_of setup machine = touched_at setup.memory (slice_index_or setup.machines machine None)

-- the pins that are a machine's own: those that it reads or may write
abbrev pub own_pins : Touches → ℕ
own_pins t = bit_or t.reads t.writes

-- the flags that are a machine's own: those that it waits for or changes
abbrev pub own_flags : Touches → ℕ
own_flags t = bit_or t.sees t.changes

-- what one machine can feel of another: its own pins that the other may write, and its own flags that the other changes
abbrev pub felt : (one other : Touches) → ℕ × ℕ
felt one other = (bit_and other.writes (own_pins one), bit_and other.changes (own_flags one))

-- what machine m can feel of machine k
abbrev pub shares_of : Setup → (m k : ℕ) → ℕ × ℕ
shares_of setup m k = felt (touches_of setup m) (touches_of setup k)

-- the machine can feel nothing of any other
abbrev pub IsAlone : Setup → (m : ℕ) → Type 0
IsAlone setup m = (k : ℕ) → k < 4 → k ≢ m → shares_of setup m k ≡ (0, 0)
