-- Two blocks on one set of pins, clock by clock. Each is a block as ever, but for its pads, which both share.
--   TwinRun        both in some clock, and which pins the second owns
--   WorkedTwin     with the number of clocks that were worked out singly
--   of_owners      of each pin the bit of the block that owns it
--   shared_pads    the pads of two states
--   twin_pads_in   the pads of a clock
--   twin_next      both after a clock
--   twin_uses_fifos_in   whether anything is done at the FIFOs of each
--   first_twin     as two setups begin
--   twin_from      some clocks on
--   twin_at        those of two setups in each clock
--   twin_pad_at, last_twin_pad, twin_pad_before     the pads of a clock, of the clock before, and of two clocks before
--   leapt_twin    both after clocks in which nothing stirs
--   twin_pads_change   whether the pads change
--   twin_moves_on, twin_begins_or_changes   whether a clock moves one of the two on
use Rattle.std.specs.Prelude.{ℕ, zero, suc, ◌-◌, ◌^◌, Bool, ◌||◌, bit_and, bit_or}
use Rattle.std.specs.List.{list_any}
use Rattle.pin_matrix.specs.declared.setup.Setup.{Setup}
use Rattle.pin_matrix.specs.Pads.{pads_of}
use Rattle.dreq_pacing.specs.declared.due.Due.{Due}
use Rattle.dreq_pacing.specs.Due.{quiet}
use Rattle.block_core.specs.Block.{BlockState, Run, outside_after, uses_fifos_over, next_over, first_state, first_run_over}
use Rattle.block_core.specs.Leaps.{leapt}
use Rattle.block_core.specs.Stirring.{moves_on_over, pads_change_over, begins_now}

-- The pins that the second block owns, which no run changes, and both blocks in some clock.
pub record TwinRun : Type 0 where
  pub own : ℕ
  pub first : Run
  pub second : Run

-- Both with the number of the clocks that were worked out singly, each by a call.
pub record WorkedTwin : Type 0 where
  pub twin : TwinRun
  pub calls : ℕ

-- of each pin the second number's bit where the second block owns the pin, else the first's
abbrev pub of_owners : (own first second : ℕ) → ℕ
of_owners own first second = bit_or (bit_and first (2 ^ 32 - 1 - own)) (bit_and second own)

-- The pads: of each pin its owner's level where its owner's direction is out, else what the outside drives (RP2040 Datasheet,
-- section 2.19: a pin's function is that of one block).
abbrev pub shared_pads : (own : ℕ) → (first second : BlockState) → (outside : ℕ) → ℕ
shared_pads own first second outside =
    pads_of (of_owners own first.levels second.levels) (of_owners own first.directions second.directions) outside

-- The pads of a clock. The outside drives the first block's levels, whichever block owns the pin; the second's are not read
-- (choice of this profile).
abbrev pub twin_pads_in : Due → TwinRun → ℕ
twin_pads_in first t = shared_pads t.own t.first.state t.second.state (outside_after first t.first.state.outside)

-- Both one clock on, in which the system does this at the first and that at the second. Both see the same pads, by the levels
-- and directions at the clock's start, each through its own synchronisers.
unfoldable pub twin_next : (first second : Due) → TwinRun → TwinRun
twin_next first second t = record {
  own = t.own;
  first = next_over (twin_pads_in first t) first t.first;
  second = next_over (twin_pads_in first t) second t.second;
}

-- whether anything is done at a FIFO of the first block in a clock, and at one of the second
abbrev pub twin_uses_fifos_in : (first second : Due) → TwinRun → Bool × Bool
twin_uses_fifos_in first second t =
    (uses_fifos_over (twin_pads_in first t) first t.first, uses_fifos_over (twin_pads_in first t) second t.second)

-- the pads of two setups, before a line acts
abbrev pub first_twin_pads : (own : ℕ) → (first second : Setup) → ℕ
first_twin_pads own first second = shared_pads own (first_state first) (first_state second) first.high

-- both in clock 0, before which the pads were always those of the setups (choice of this profile)
abbrev pub first_twin : (own : ℕ) → (first second : Setup) → TwinRun
first_twin own first second = record {
  own = own;
  first = first_run_over (first_twin_pads own first second) first;
  second = first_run_over (first_twin_pads own first second) second;
}

-- both some clocks on, where the system does this in each at the first, and that at the second
unfoldable pub twin_from : TwinRun → (first second : ℕ → Due) → ℕ → TwinRun
twin_from start first second zero = start
twin_from start first second (suc c) = twin_next (first c) (second c) (twin_from start first second c)

-- those of two setups in each clock
abbrev pub twin_at : (own : ℕ) → (s t : Setup) → (first second : ℕ → Due) → ℕ → TwinRun
twin_at own s t first second clock = twin_from (first_twin own s t) first second clock

-- the pads of a clock, which both blocks share
abbrev pub twin_pad_at : (own : ℕ) → (s t : Setup) → (first second : ℕ → Due) → ℕ → ℕ
twin_pad_at own s t first second clock = twin_pads_in (first clock) (twin_at own s t first second clock)

-- the pads of the clock before; before clock 0 those of the setups, without a line
abbrev pub last_twin_pad : (own : ℕ) → (s t : Setup) → (first second : ℕ → Due) → ℕ → ℕ
last_twin_pad own s t first second zero = first_twin_pads own s t
last_twin_pad own s t first second (suc clock) = twin_pad_at own s t first second clock

-- the pads of two clocks before; before clock 0 they were always those of the setups, without a line
abbrev pub twin_pad_before : (own : ℕ) → (s t : Setup) → (first second : ℕ → Due) → ℕ → ℕ
twin_pad_before own s t first second zero = first_twin_pads own s t
twin_pad_before own s t first second (suc zero) = first_twin_pads own s t
twin_pad_before own s t first second (suc (suc clock)) = twin_pad_at own s t first second clock

-- both after n clocks in which nothing stirs and the system does nothing
abbrev pub leapt_twin : ℕ → TwinRun → TwinRun
leapt_twin n t = record { own = t.own; first = leapt n t.first; second = leapt n t.second }

-- the pads of the clock are not those of both clocks before, as either block's synchronisers hold them
abbrev pub twin_pads_change : (pad : ℕ) → TwinRun → Bool
twin_pads_change pad t = pads_change_over pad t.first || pads_change_over pad t.second

-- the clock moves one of the two on: its machines stir, or the pads that both see change
unfoldable pub twin_moves_on : (first second : Due) → TwinRun → Bool
twin_moves_on first second t =
    moves_on_over (twin_pads_in first t) first t.first || moves_on_over (twin_pads_in first t) second t.second

-- the clock moves one of the two on, whatever the machines see in it: the pads change, or a machine begins an instruction
unfoldable pub twin_begins_or_changes : TwinRun → Bool
twin_begins_or_changes t =
    twin_pads_change (twin_pads_in quiet t) t
    || (list_any begins_now t.first.state.machines || list_any begins_now t.second.state.machines)
