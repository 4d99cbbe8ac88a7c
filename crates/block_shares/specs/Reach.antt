-- The addresses that a machine's program can come to, and what holds of the words there.
--   of_first      what the word has that a machine executes first
--   next_after    the address that follows one
--   gathered      what some of the words have, joined
--   first_in      the addresses that its first instruction from memory may have
--   reach_in      the addresses got in some rounds
--   any_wild      some reached word is wild
--   runs_wild     so is one of those, or the word that is executed first
use Rattle.std.specs.Prelude.{ℕ, zero, suc, ◌+◌, ◌%◌, ◌^◌, ◌==◌, Bool, false, ◌&&◌, ◌||◌, if◌then◌else◌, Option, Some, None, List, slice_index, bit_or}
use Rattle.pio_encode.specs.declared.act.Act.{Act}
use Rattle.pio_encode.specs.Word.{act_of}
use Rattle.pin_matrix.specs.declared.machine.MachineSetup.{MachineSetup}
use Rattle.block_shares.specs.Acts.{has, leads_to, is_wild}

-- the address that follows one: the program wraps after wrap_top, and the memory after 31 (RP2040 Datasheet, section 3.5.2)
abbrev pub next_after : MachineSetup → ℕ → ℕ
next_after s address = if address == s.wrap_top then s.wrap_bottom else (address + 1) % 32

-- the instruction at an address
abbrev pub act_at : (memory : List ℕ) → (address : ℕ) → Act
act_at memory address = act_of (slice_index memory address)

-- What the instructions at these addresses have, joined bit by bit, of the first n addresses of memory. What one has depends on
-- its address and its act.
unfoldable pub gathered : (f : ℕ → Act → ℕ) → (memory : List ℕ) → (set n : ℕ) → ℕ
gathered f memory set zero = 0
gathered f memory set (suc a) = bit_or (gathered f memory set a) (if has set a then f a (act_at memory a) else 0)

-- the addresses that may come after an instruction at this one
abbrev pub leads_from : MachineSetup → ℕ → Act → ℕ
leads_from s address act = leads_to act (next_after s address)

-- the addresses that may come after these
abbrev pub after_these : (memory : List ℕ) → MachineSetup → (set : ℕ) → ℕ
after_these memory s set = gathered (leads_from s) memory set 32

-- these, and those that may come after them
abbrev pub one_round : (memory : List ℕ) → MachineSetup → (set : ℕ) → ℕ
one_round memory s set = bit_or set (after_these memory s set)

-- what the word has that a machine executes first, by its act: nothing where none is pending at its start
abbrev pub of_first : (f : Act → ℕ) → (pending : Option ℕ) → ℕ
of_first f None = 0
of_first f (Some word) = f (act_of word)

-- The addresses that its first instruction from memory may have: its start; where a word is pending there, those that this goes on
-- at, which leaves PC unless it jumps.
abbrev pub first_in : (pending : Option ℕ) → (start : ℕ) → ℕ
first_in None start = 2 ^ start
first_in (Some word) start = leads_to (act_of word) start

-- the addresses got in so many rounds from the machine's first ones
unfoldable pub reach_in : (memory : List ℕ) → MachineSetup → (rounds : ℕ) → ℕ
reach_in memory s zero = first_in s.pending s.start
reach_in memory s (suc n) = one_round memory s (reach_in memory s n)

-- the addresses that the machine's program can come to, data aside: 32 rounds come to all of them
abbrev pub reach_of : (memory : List ℕ) → MachineSetup → ℕ
reach_of memory s = reach_in memory s 32

-- an instruction at one of these addresses is wild, of the first n addresses
unfoldable pub any_wild : (memory : List ℕ) → (set n : ℕ) → Bool
any_wild memory set zero = false
any_wild memory set (suc a) = any_wild memory set a || (has set a && is_wild (act_at memory a))

-- the word that a machine executes first is wild
abbrev pub begins_wild : (pending : Option ℕ) → Bool
begins_wild None = false
begins_wild (Some word) = is_wild (act_of word)

-- so is that word, or an instruction at one of these addresses
abbrev pub runs_wild : (memory : List ℕ) → MachineSetup → (set : ℕ) → Bool
runs_wild memory s set = begins_wild s.pending || any_wild memory set 32
