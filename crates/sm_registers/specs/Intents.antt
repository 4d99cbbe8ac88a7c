-- What a tick wants of its block: all that it does outside the machine's registers (`Intent`, `Kind`).
--   no_intent       that of a clock without a tick
--   two_writes      the instruction's write to pins, then side-set's
--   written_by      the outputs after both
--   Wants           the rest: flags and FIFOs
--   wants_of        that of an intent
--   no_wants        nothing of them
use Rattle.std.specs.Prelude.{ℕ, Bool, false, Option, None, List, [], ◌∷◌, slice_index_or}
use Rattle.pin_matrix.specs.Pins.{merged}
use Rattle.sm_registers.specs.declared.outputs.Outputs.{Outputs}
use Rattle.sm_registers.specs.declared.intent.Intent.{Intent}
use Rattle.sm_registers.specs.declared.intent.Kind.TheVariants.{Off}

-- nothing is written, lowered, raised, taken or given
abbrev pub no_intent : Intent
no_intent = record {
  level = (0, 0) ∷ (0, 0) ∷ [];
  direction = (0, 0) ∷ (0, 0) ∷ [];
  clears = 0;
  sets = 0;
  take = false;
  word = None;
  sticky = 0;
  kind = Off;
  stalled = false;
}

-- an intent's writes to levels, or to directions: the instruction's, then side-set's
abbrev pub two_writes : List (ℕ × ℕ) → List (ℕ × ℕ)
two_writes writes = slice_index_or writes 0 (0, 0) ∷ slice_index_or writes 1 (0, 0) ∷ []

-- the outputs after an intent's writes
abbrev pub written_by : Outputs → Intent → Outputs
written_by o i = record { levels = merged o.levels (two_writes i.level); directions = merged o.directions (two_writes i.direction) }

-- what is wanted besides pins: flags to be lowered and raised, a word taken of TX, a word given to RX, sticky flags raised
pub record Wants : Type 0 where
  pub clears : ℕ
  pub sets : ℕ
  pub take : Bool
  pub word : Option ℕ
  pub sticky : ℕ

-- what an intent wants of FIFOs and flags
abbrev pub wants_of : Intent → Wants
wants_of i = record { clears = i.clears; sets = i.sets; take = i.take; word = i.word; sticky = i.sticky }

-- nothing of them
abbrev pub no_wants : Wants
no_wants = wants_of no_intent
