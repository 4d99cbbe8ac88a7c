-- The four machines of a load (choice of this profile): their programs, and a row of numbers for each.
--   memory_of  the instruction memory
--   pulse_row, bits_row, reader_row, answer_row   the rows of machines 0 to 3
use Rattle.std.specs.Prelude.{ℕ, ◌++◌, Bool, true, false, None, List, [], ◌∷◌, replicate}
use Rattle.pio_encode.specs.declared.act.Act.{Act}
use Rattle.pio_encode.specs.declared.act.Act.TheVariants.{Wait, In, Out, Irq, Set}
use Rattle.pio_encode.specs.declared.act.WaitSource.TheVariants as wait_source
use Rattle.pio_encode.specs.declared.act.InSource.TheVariants as in_source
use Rattle.pio_encode.specs.declared.act.OutDestination.TheVariants as out_destination
use Rattle.pio_encode.specs.declared.act.SetDestination.TheVariants as set_destination
use Rattle.pio_encode.specs.Word.{word_of}
use Rattle.drawn_load.specs.Draws.{Letters}
use Rattle.drawn_load.specs.NoSide.{no_side_set}

-- the word of an instruction without side-set, with its delay in ticks
abbrev pub word_with : ℕ → Act → ℕ
word_with delay act = word_of (record { side = None; delay = delay; act = act }) no_side_set

-- The programs one after another: `set pins, 1 [a]`, `irq nowait 0`, `set pins, 0 [b]`; `out pins, 1 [c]`; `wait 1 pin 0`,
-- `in pins, 8`, `wait 0 pin 0`; `wait 1 irq 0`, `set pins, 1 [c]`, `set pins, 0`.
abbrev pub words_from : Letters → List ℕ
words_from l =
    word_with l.a (Set set_destination.Pins 1)
    ∷ word_with 0 (Irq false false 0)
    ∷ word_with l.b (Set set_destination.Pins 0)
    ∷ word_with l.c (Out out_destination.Pins 1)
    ∷ word_with 0 (Wait true wait_source.Pin 0)
    ∷ word_with 0 (In in_source.Pins 8)
    ∷ word_with 0 (Wait false wait_source.Pin 0)
    ∷ word_with 0 (Wait true wait_source.Irq 0)
    ∷ word_with l.c (Set set_destination.Pins 1)
    ∷ word_with 0 (Set set_destination.Pins 0)
    ∷ []

-- the memory with these words from address 0 on, and 0 after them
abbrev pub memory_of : Letters → List ℕ
memory_of l = words_from l ++ replicate 22 0

-- What a row of the table of machines says: the machine's number, the first and the last address of its program, its divider,
-- the pin that its inputs count from, the pins of its OUT and SET, and whether it pushes and pulls by itself.
pub record MachineRow : Type 0 where
  pub id : ℕ
  pub first : ℕ
  pub last : ℕ
  pub int : ℕ
  pub frac : ℕ
  pub in_base : ℕ
  pub out_base : ℕ
  pub out_count : ℕ
  pub set_base : ℕ
  pub set_count : ℕ
  pub autopush : Bool
  pub autopull : Bool

-- a program from an address to another, in each clock a tick, without pins
abbrev pub looped_row : ℕ → ℕ → ℕ → MachineRow
looped_row id first last = record {
  id = id;
  first = first;
  last = last;
  int = 1;
  frac = 0;
  in_base = 0;
  out_base = 0;
  out_count = 0;
  set_base = 0;
  set_count = 0;
  autopush = false;
  autopull = false;
}

-- machine 0: a pulse on pin 0, in which it raises flag 0
abbrev pub pulse_row : MachineRow
pulse_row = record (looped_row 0 0 2) { set_count = 1 }

-- machine 1: bits shifted out to pin 1, by the divider i + f / 256
abbrev pub bits_row : Letters → MachineRow
bits_row l = record (looped_row 1 3 3) { int = l.i; frac = l.f; out_base = 1; out_count = 1; autopull = true }

-- machine 2: a reader of the pins from pin 2 on, at each pulse of pin 2
abbrev pub reader_row : MachineRow
reader_row = record (looped_row 2 4 6) { in_base = 2; autopush = true }

-- machine 3: an answer to the flag on pin 3
abbrev pub answer_row : MachineRow
answer_row = record (looped_row 3 7 9) { set_base = 3; set_count = 1 }
