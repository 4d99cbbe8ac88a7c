-- What a block keeps true of its fields, which no contract names.
use Rattle.std.specs.Prelude.{◌≡◌, ℕ, ◌+◌, ◌^◌, ◌<◌, ◌≤◌, Bool, true, ◌&&◌, Option, Some, None, is_none, List, [], ◌∷◌}
use Rattle.std.specs.List.{AllByRecursion}
use Rattle.sm_registers.specs.StallFlags.{IsKnown}
use Rattle.sm_registers.specs.View.{View}
use Rattle.block_core.specs.declared.running.Known.{Known}
use Rattle.block_core.specs.declared.sample.Sample.{Sample}
use Rattle.block_core.specs.Block.{BlockState}
use Rattle.block_core.specs.Shown.{sample_of}
use Rattle.block_core.specs.Slots.{Slot, is_ready}

-- a place's divider is in this clock, and its transfers moved at most a word in each
abbrev pub IsInStep : ℕ → Option Slot → Type 0
IsInStep clock None = Unit {0}
IsInStep clock (Some s) = (s.timing.clock ≡ clock) × (s.sent ≤ clock) × (s.received ≤ clock)

-- a clock more can be counted
abbrev pub IsInTime : Option Slot → Type 0
IsInTime None = Unit {0}
IsInTime (Some s) = (s.timing.clock < 2 ^ 40) × (s.sent < 2 ^ 40) × (s.received < 2 ^ 40)

-- so many clocks more can be counted
abbrev pub HasTime : ℕ → Option Slot → Type 0
HasTime clocks None = Unit {0}
HasTime clocks (Some s) = s.timing.clock + clocks ≤ 2 ^ 40

-- the memory as a machine sees it; which pins and flags are up doesn't matter here
abbrev pub memory_alone : List ℕ → View
memory_alone memory = record { memory = memory; seen = 0; flags = record { up = 0 } }

-- where a machine's instruction stalled before, the flags of that stall are up
abbrev pub IsTold : List ℕ → Option Slot → Type 0
IsTold memory None = Unit {0}
IsTold memory (Some s) = IsKnown (memory_alone memory) s.machine.setup s.machine.registers s.machine.ports.sticky

-- the same of all places
abbrev pub AreTold : List ℕ → List (Option Slot) → Type 0
AreTold memory places = AllByRecursion (IsTold memory) places

-- All four are in step, and the flags of stalls are up.
pub record AreInStep (memory : List ℕ) (clock : ℕ) (a b c d : Option Slot) : Type 0 where
  pub told : AreTold memory (a ∷ b ∷ c ∷ d ∷ [])
  pub first : IsInStep clock a
  pub second : IsInStep clock b
  pub third : IsInStep clock c
  pub fourth : IsInStep clock d

-- the state of these places, pins and flags
abbrev pub state_of : (a b c d : Option Slot) (levels directions flags outside : ℕ) → BlockState
state_of a b c d levels directions flags outside = record {
  machines = a ∷ b ∷ c ∷ d ∷ [];
  levels = levels;
  directions = directions;
  flags = flags;
  outside = outside;
}

-- no machine is configured at any of three places
abbrev pub are_empty : {A : Type 0} → (b c d : Option A) → Bool
are_empty b c d = is_none b && (is_none c && is_none d)

-- What a block knows of its places is so: the others are empty; and a machine that is known to be ready is the only one.
pub record AreKnown (known : Known) (a b c d : Option Slot) : Type 0 where
  pub alone : known.alone ≡ are_empty b c d
  pub ready : known.ready ≡ true → (known.alone ≡ true) × (is_ready a ≡ true)

-- The sample is that of the state.
pub record IsSampleOf (state : BlockState) (sample : Sample) : Type 0 where
  pub is : sample ≡ sample_of state

-- No more clocks of two blocks were worked out singly than went by, and both are in the same clock.
pub record AreTwins (worked first second : ℕ) : Type 0 where
  pub calls : worked ≤ first
  pub same : second ≡ first
