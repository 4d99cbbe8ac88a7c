-- Rows of what machines did in the last clock of note, worked by hand from the datasheet: the definitions compute to them.
use Rattle.std.proofs.Common.{◌≡◌, ℕ, Bool, true, false, Option, Some, None, List, [], ◌∷◌, refl, arith}
use Rattle.clock_divider.specs.Ticks.{is_tick}
use Rattle.clock_divider.specs.Timing.{Timing}
use Rattle.fifo_pair.specs.Fifos.{settled}
use Rattle.pin_matrix.specs.Pins.{merged}
use Rattle.pin_matrix.specs.declared.machine.MachineSetup.{MachineSetup}
use Rattle.pio_encode.specs.Word.{wait_at, in_at, push_or_pull_at, mov_at, irq_at, set_at, act_of, side_of, delay_of, reading_of}
use Rattle.sm_registers.specs.Effects.{jmp_effect, wait_effect, in_effect, out_effect, push_effect, pull_effect, mov_effect, irq_effect, set_effect, effect_of}
use Rattle.sm_registers.specs.State.{settled_ports}
use Rattle.sm_registers.specs.Tick.{after_effect, tick_delay, tick_by, tick_word, tick_of}
use Rattle.dreq_pacing.specs.declared.line.LineAct.TheVariants.{Tx, Disable, Enable, Restart}
use Rattle.dreq_pacing.specs.declared.line.Line.{Line}
use Rattle.dreq_pacing.specs.Ports.{due_in, transfers_after, acts_in}
use Rattle.block_core.specs.declared.conduct.Conduct.{Conduct}
use Rattle.block_core.specs.declared.conduct.MachineConduct.{MachineConduct}
use Rattle.block_core.specs.Block.{Run, stepped, next}
use Rattle.block_core.specs.Conduct.{clock_of_tick, conduct_at, conduct_before, conduct_in, is_noted, machine_conduct, next_tick, no_conduct, rests_in}
use Rattle.block_core.specs.Hosted.{host_of, hosted_next, hosted_at}
use Rattle.block_core.specs.Shown.{requests_of, sample_of}
use Rattle.block_core.specs.Slots.{acted, settled_slot}
use Rattle.block_core.proofs.StirRows.{plain, pulling, run}

-- whether a clock is of note, and what is told of it where it is
abbrev noted_at : Run → List Line → ℕ → Bool
noted_at start lines clock = is_noted (host_of start lines clock) (hosted_at start lines clock).run

abbrev done_at : Run → List Line → ℕ → Conduct
done_at start lines clock = conduct_in (host_of start lines clock) (hosted_at start lines clock).run

-- machine 0 alone, with these output levels after the clock
abbrev told_as : (clock level : ℕ) → MachineConduct → Conduct
told_as clock level m = record { clock = clock; level = level; direction = 0; machines = Some m ∷ None ∷ None ∷ None ∷ [] }

-- the same, where no delay is left after the clock
abbrev told : (clock level : ℕ) → MachineConduct → Conduct
told clock level m = told_as clock level (record m { rests = Some clock })

-- it has the first tick of the instruction at an address, and finishes it; X and Y are 0 after it
abbrev at_once : (pc : ℕ) → MachineConduct
at_once pc = record {
  pc = pc;
  waits = false;
  comes = true;
  works = true;
  finishes = true;
  breaks = false;
  x = 0;
  y = 0;
  rests = None;
}

-- the same, but stalls
abbrev stalls : (pc : ℕ) → MachineConduct
stalls pc = record (at_once pc) { finishes = false }

-- it waits there at the clock's start, and finishes
abbrev late : (pc : ℕ) → MachineConduct
late pc = record (at_once pc) { waits = true; comes = false }

-- `pull block` and `set y, 5`, with a word for TX in clock 3
abbrev pull_run : Run
pull_run = run plain (32928 ∷ 57413 ∷ []) 0

abbrev word_in_3 : List Line
word_in_3 = record { clock = 3; act = Tx 0 7 } ∷ []

-- TX is empty in clock 0: the PULL begins and stalls (section 3.4.7)
pull_stalls : done_at pull_run word_in_3 0 ≡ told 0 0 (stalls 0)
unfolding is_tick settled merged wait_at in_at push_or_pull_at mov_at irq_at set_at act_of side_of delay_of reading_of jmp_effect wait_effect in_effect out_effect push_effect pull_effect mov_effect irq_effect set_effect effect_of settled_ports after_effect tick_delay tick_by tick_word tick_of due_in transfers_after acts_in stepped next hosted_next hosted_at requests_of sample_of acted settled_slot is_noted conduct_in machine_conduct rests_in next_tick clock_of_tick
pull_stalls = refl

-- in clocks 1 to 3 it stalls again, which is of no note: what clock 0 did is told on
pull_stalls_on : conduct_at pull_run word_in_3 3 ≡ told 0 0 (stalls 0)
unfolding is_tick settled merged wait_at in_at push_or_pull_at mov_at irq_at set_at act_of side_of delay_of reading_of jmp_effect wait_effect in_effect out_effect push_effect pull_effect mov_effect irq_effect set_effect effect_of settled_ports after_effect tick_delay tick_by tick_word tick_of due_in transfers_after acts_in stepped next hosted_next hosted_at requests_of sample_of acted settled_slot is_noted conduct_in machine_conduct rests_in next_tick clock_of_tick conduct_before no_conduct
pull_stalls_on = refl

-- in clock 4 it takes the word
pull_finishes : conduct_at pull_run word_in_3 4 ≡ told 4 0 (late 0)
unfolding is_tick settled merged wait_at in_at push_or_pull_at mov_at irq_at set_at act_of side_of delay_of reading_of jmp_effect wait_effect in_effect out_effect push_effect pull_effect mov_effect irq_effect set_effect effect_of settled_ports after_effect tick_delay tick_by tick_word tick_of due_in transfers_after acts_in stepped next hosted_next hosted_at requests_of sample_of acted settled_slot is_noted conduct_in machine_conduct rests_in next_tick clock_of_tick conduct_before no_conduct
pull_finishes = refl

-- SET has one tick, and Y is 5 after it
set_at_once : conduct_at pull_run word_in_3 5 ≡ told 5 0 (record (at_once 1) { y = 5 })
unfolding is_tick settled merged wait_at in_at push_or_pull_at mov_at irq_at set_at act_of side_of delay_of reading_of jmp_effect wait_effect in_effect out_effect push_effect pull_effect mov_effect irq_effect set_effect effect_of settled_ports after_effect tick_delay tick_by tick_word tick_of due_in transfers_after acts_in stepped next hosted_next hosted_at requests_of sample_of acted settled_slot is_noted conduct_in machine_conduct rests_in next_tick clock_of_tick conduct_before no_conduct
set_at_once = refl

-- `set x, 0 [31]` and `out pins, 1` with autopull, with a word for TX in clock 10
abbrev delay_run : Run
delay_run = run pulling (65312 ∷ 24577 ∷ []) 0

abbrev word_in_10 : List Line
word_in_10 = record { clock = 10; act = Tx 0 5 } ∷ []

-- SET finishes in clock 0, and the last of the 31 ticks of its delay comes in clock 31
delay_comes_after : done_at delay_run word_in_10 0 ≡ told_as 0 0 (record (at_once 0) { rests = Some 31 })
unfolding is_tick settled merged wait_at in_at push_or_pull_at mov_at irq_at set_at act_of side_of delay_of reading_of jmp_effect wait_effect in_effect out_effect push_effect pull_effect mov_effect irq_effect set_effect effect_of settled_ports after_effect tick_delay tick_by tick_word tick_of due_in transfers_after acts_in stepped next hosted_next hosted_at requests_of sample_of acted settled_slot is_noted conduct_in machine_conduct rests_in next_tick clock_of_tick
delay_comes_after = refl

-- its delay is of no note, nor is the refill in clock 11 within it (section 3.5.4)
delay_is_of_no_note : (noted_at delay_run word_in_10 1 ≡ false) × (noted_at delay_run word_in_10 11 ≡ false) × (noted_at delay_run word_in_10 31 ≡ false)
unfolding is_tick settled merged wait_at in_at push_or_pull_at mov_at irq_at set_at act_of side_of delay_of reading_of jmp_effect wait_effect in_effect out_effect push_effect pull_effect mov_effect irq_effect set_effect effect_of settled_ports after_effect tick_delay tick_by tick_word tick_of due_in transfers_after acts_in stepped next hosted_next hosted_at requests_of sample_of acted settled_slot is_noted conduct_in machine_conduct rests_in next_tick clock_of_tick
delay_is_of_no_note = (refl, refl, refl)

-- in the delay OUT isn't what it comes to next, nor does it work there; clock 31 is its last
in_a_delay : (done_at delay_run word_in_10 31).machines ≡ (told 31 0 (record (at_once 1) { comes = false; works = false; finishes = false })).machines
unfolding is_tick settled merged wait_at in_at push_or_pull_at mov_at irq_at set_at act_of side_of delay_of reading_of jmp_effect wait_effect in_effect out_effect push_effect pull_effect mov_effect irq_effect set_effect effect_of settled_ports after_effect tick_delay tick_by tick_word tick_of due_in transfers_after acts_in stepped next hosted_next hosted_at requests_of sample_of acted settled_slot is_noted conduct_in machine_conduct rests_in next_tick clock_of_tick
in_a_delay = refl

-- in clock 32 OUT shifts a bit out, and pin 0 rises
out_after_the_delay : done_at delay_run word_in_10 32 ≡ told 32 1 (at_once 1)
unfolding is_tick settled merged wait_at in_at push_or_pull_at mov_at irq_at set_at act_of side_of delay_of reading_of jmp_effect wait_effect in_effect out_effect push_effect pull_effect mov_effect irq_effect set_effect effect_of settled_ports after_effect tick_delay tick_by tick_word tick_of due_in transfers_after acts_in stepped next hosted_next hosted_at requests_of sample_of acted settled_slot is_noted conduct_in machine_conduct rests_in next_tick clock_of_tick
out_after_the_delay = refl

-- without the word it stalls on the empty OSR
out_stalls_after_the_delay : done_at delay_run [] 32 ≡ told 32 0 (stalls 1)
unfolding is_tick settled merged wait_at in_at push_or_pull_at mov_at irq_at set_at act_of side_of delay_of reading_of jmp_effect wait_effect in_effect out_effect push_effect pull_effect mov_effect irq_effect set_effect effect_of settled_ports after_effect tick_delay tick_by tick_word tick_of due_in transfers_after acts_in stepped next hosted_next hosted_at requests_of sample_of acted settled_slot is_noted conduct_in machine_conduct rests_in next_tick clock_of_tick
out_stalls_after_the_delay = refl

-- `mov exec, x` and `set pins, 1`, where X is this word
abbrev exec_run : (word : ℕ) → Run
exec_run word = run (record plain { x = word }) (41089 ∷ 57345 ∷ []) 0

-- X is `set y, 5`: in clock 1 it runs as the pending word, and no instruction in memory works or finishes (section 3.4.8)
pending_works_nowhere : done_at (exec_run 57413) [] 1 ≡ told 1 0 (record (at_once 1) { comes = false; works = false; finishes = false; x = 57413; y = 5 })
unfolding is_tick settled merged wait_at in_at push_or_pull_at mov_at irq_at set_at act_of side_of delay_of reading_of jmp_effect wait_effect in_effect out_effect push_effect pull_effect mov_effect irq_effect set_effect effect_of settled_ports after_effect tick_delay tick_by tick_word tick_of due_in transfers_after acts_in stepped next hosted_next hosted_at requests_of sample_of acted settled_slot is_noted conduct_in machine_conduct rests_in next_tick clock_of_tick
pending_works_nowhere = refl

-- that the word begins is of note, and where it is `pull block`, that it stalls again is not
pending_is_of_note : (noted_at (exec_run 57413) [] 1 ≡ true) × (noted_at (exec_run 32928) [] 1 ≡ true) × (noted_at (exec_run 32928) [] 2 ≡ false)
unfolding is_tick settled merged wait_at in_at push_or_pull_at mov_at irq_at set_at act_of side_of delay_of reading_of jmp_effect wait_effect in_effect out_effect push_effect pull_effect mov_effect irq_effect set_effect effect_of settled_ports after_effect tick_delay tick_by tick_word tick_of due_in transfers_after acts_in stepped next hosted_next hosted_at requests_of sample_of acted settled_slot is_noted conduct_in machine_conduct rests_in next_tick clock_of_tick
pending_is_of_note = (refl, refl, refl)

-- a pending word that waits hasn't the instruction at PC for itself
pending_waits : (done_at (exec_run 32928) [] 2).machines ≡ (told 2 0 (record (late 1) { works = false; finishes = false; x = 32928 })).machines
unfolding is_tick settled merged wait_at in_at push_or_pull_at mov_at irq_at set_at act_of side_of delay_of reading_of jmp_effect wait_effect in_effect out_effect push_effect pull_effect mov_effect irq_effect set_effect effect_of settled_ports after_effect tick_delay tick_by tick_word tick_of due_in transfers_after acts_in stepped next hosted_next hosted_at requests_of sample_of acted settled_slot is_noted conduct_in machine_conduct rests_in next_tick clock_of_tick
pending_waits = refl

-- in clock 2 SET follows
set_after_it : done_at (exec_run 57413) [] 2 ≡ told 2 1 (record (at_once 1) { x = 57413; y = 5 })
unfolding is_tick settled merged wait_at in_at push_or_pull_at mov_at irq_at set_at act_of side_of delay_of reading_of jmp_effect wait_effect in_effect out_effect push_effect pull_effect mov_effect irq_effect set_effect effect_of settled_ports after_effect tick_delay tick_by tick_word tick_of due_in transfers_after acts_in stepped next hosted_next hosted_at requests_of sample_of acted settled_slot is_noted conduct_in machine_conduct rests_in next_tick clock_of_tick
set_after_it = refl

-- a line on the machine in a clock, before its tick
abbrev disabled_in : ℕ → List Line
disabled_in clock = record { clock = clock; act = Disable 0 } ∷ []

abbrev restarted_in : ℕ → List Line
restarted_in clock = record { clock = clock; act = Restart 0 } ∷ []

abbrev enabled_in : ℕ → List Line
enabled_in clock = record { clock = clock; act = Enable 0 } ∷ []

-- disabled, and then enabled
abbrev off_and_on : (off on : ℕ) → List Line
off_and_on off on = record { clock = off; act = Disable 0 } ∷ enabled_in on

abbrev off_in_2_on_in_3 : List Line
off_in_2_on_in_3 = off_and_on 2 3

-- a machine that is disabled in clock 0 has no tick in it, but comes to its instruction
disabled : conduct_at pull_run (disabled_in 0) 5 ≡ told 0 0 (record (at_once 0) { works = false; finishes = false; breaks = true })
unfolding is_tick settled merged wait_at in_at push_or_pull_at mov_at irq_at set_at act_of side_of delay_of reading_of jmp_effect wait_effect in_effect out_effect push_effect pull_effect mov_effect irq_effect set_effect effect_of settled_ports after_effect tick_delay tick_by tick_word tick_of due_in transfers_after acts_in stepped next hosted_next hosted_at requests_of sample_of acted settled_slot is_noted conduct_in machine_conduct rests_in next_tick clock_of_tick conduct_before no_conduct
disabled = refl

-- one that is disabled while it waits goes on waiting
disabled_while_it_waits : done_at pull_run (disabled_in 2) 2 ≡ told 2 0 (record (late 0) { works = false; finishes = false; breaks = true })
unfolding is_tick settled merged wait_at in_at push_or_pull_at mov_at irq_at set_at act_of side_of delay_of reading_of jmp_effect wait_effect in_effect out_effect push_effect pull_effect mov_effect irq_effect set_effect effect_of settled_ports after_effect tick_delay tick_by tick_word tick_of due_in transfers_after acts_in stepped next hosted_next hosted_at requests_of sample_of acted settled_slot is_noted conduct_in machine_conduct rests_in next_tick clock_of_tick
disabled_while_it_waits = refl

-- enabling it is of note, though it only stalls again
enabled_again : done_at pull_run off_in_2_on_in_3 3 ≡ told 3 0 (record (late 0) { finishes = false })
unfolding is_tick settled merged wait_at in_at push_or_pull_at mov_at irq_at set_at act_of side_of delay_of reading_of jmp_effect wait_effect in_effect out_effect push_effect pull_effect mov_effect irq_effect set_effect effect_of settled_ports after_effect tick_delay tick_by tick_word tick_of due_in transfers_after acts_in stepped next hosted_next hosted_at requests_of sample_of acted settled_slot is_noted conduct_in machine_conduct rests_in next_tick clock_of_tick
enabled_again = refl

enabling_is_of_note : (noted_at pull_run off_in_2_on_in_3 3 ≡ true) × (noted_at pull_run (enabled_in 3) 3 ≡ true) × (noted_at pull_run (enabled_in 3) 2 ≡ false)
unfolding is_tick settled merged wait_at in_at push_or_pull_at mov_at irq_at set_at act_of side_of delay_of reading_of jmp_effect wait_effect in_effect out_effect push_effect pull_effect mov_effect irq_effect set_effect effect_of settled_ports after_effect tick_delay tick_by tick_word tick_of due_in transfers_after acts_in stepped next hosted_next hosted_at requests_of sample_of acted settled_slot is_noted conduct_in machine_conduct rests_in next_tick clock_of_tick
enabling_is_of_note = (refl, refl, refl)

-- `jmp 0` at address 0, with a tick in each fourth clock
abbrev jump_run : Run
jump_run = run (record plain { int = 4; divides = refl }) (0 ∷ []) 0

-- each tick begins and finishes it, though the states are alike
jumps_to_itself : (done_at jump_run [] 4 ≡ told 4 0 (at_once 0)) × (noted_at jump_run [] 4 ≡ true)
unfolding is_tick settled merged wait_at in_at push_or_pull_at mov_at irq_at set_at act_of side_of delay_of reading_of jmp_effect wait_effect in_effect out_effect push_effect pull_effect mov_effect irq_effect set_effect effect_of settled_ports after_effect tick_delay tick_by tick_word tick_of due_in transfers_after acts_in stepped next hosted_next hosted_at requests_of sample_of acted settled_slot is_noted conduct_in machine_conduct rests_in next_tick clock_of_tick
jumps_to_itself = (refl, refl)

-- in the clocks between it has no tick, and comes to it next
no_tick : (done_at jump_run [] 2 ≡ told 2 0 (record (at_once 0) { works = false; finishes = false })) × (noted_at jump_run [] 2 ≡ false)
unfolding is_tick settled merged wait_at in_at push_or_pull_at mov_at irq_at set_at act_of side_of delay_of reading_of jmp_effect wait_effect in_effect out_effect push_effect pull_effect mov_effect irq_effect set_effect effect_of settled_ports after_effect tick_delay tick_by tick_word tick_of due_in transfers_after acts_in stepped next hosted_next hosted_at requests_of sample_of acted settled_slot is_noted conduct_in machine_conduct rests_in next_tick clock_of_tick
no_tick = (refl, refl)

-- a divider that restarts in clock 2 has a tick at once (section 3.5.5)
restarts_with_a_tick : done_at jump_run (restarted_in 2) 2 ≡ told 2 0 (record (at_once 0) { breaks = true })
unfolding is_tick settled merged wait_at in_at push_or_pull_at mov_at irq_at set_at act_of side_of delay_of reading_of jmp_effect wait_effect in_effect out_effect push_effect pull_effect mov_effect irq_effect set_effect effect_of settled_ports after_effect tick_delay tick_by tick_word tick_of due_in transfers_after acts_in stepped next hosted_next hosted_at requests_of sample_of acted settled_slot is_noted conduct_in machine_conduct rests_in next_tick clock_of_tick
restarts_with_a_tick = refl

-- and then in each fourth clock
ticks_after_the_restart : (noted_at jump_run (restarted_in 2) 4 ≡ false) × (noted_at jump_run (restarted_in 2) 6 ≡ true)
unfolding is_tick settled merged wait_at in_at push_or_pull_at mov_at irq_at set_at act_of side_of delay_of reading_of jmp_effect wait_effect in_effect out_effect push_effect pull_effect mov_effect irq_effect set_effect effect_of settled_ports after_effect tick_delay tick_by tick_word tick_of due_in transfers_after acts_in stepped next hosted_next hosted_at requests_of sample_of acted settled_slot is_noted conduct_in machine_conduct rests_in next_tick clock_of_tick
ticks_after_the_restart = (refl, refl)

-- `set x, 7 [3]` and `set y, 5`, with a tick each so many clocks and 1/256 clocks
abbrev delayed : MachineSetup → Run
delayed machine = run machine (58151 ∷ 57413 ∷ []) 0

-- what is told of SET's clock, with the end of its delay
abbrev set_till : (clock : ℕ) → Option ℕ → Conduct
set_till clock rests = told_as clock 0 (record (at_once 0) { x = 7; rests = rests })

-- what is told of a clock in the delay with a line that doesn't disable it or restart its divider, and with one that does
abbrev in_delay_till : (clock : ℕ) → Option ℕ → Conduct
in_delay_till clock rests = told_as clock 0 (record (at_once 1) { comes = false; works = false; finishes = false; x = 7; rests = rests })

abbrev broken_till : (clock : ℕ) → Option ℕ → Conduct
broken_till clock rests = told_as clock 0 (record (at_once 1) { comes = false; works = false; finishes = false; breaks = true; x = 7; rests = rests })

-- with a tick in each clock the delay takes clocks 1 to 3; from clock 0 on its end is told
delay_of_three : (done_at (delayed plain) [] 0 ≡ set_till 0 (Some 3)) × (conduct_at (delayed plain) [] 3 ≡ set_till 0 (Some 3))
unfolding is_tick settled merged wait_at in_at push_or_pull_at mov_at irq_at set_at act_of side_of delay_of reading_of jmp_effect wait_effect in_effect out_effect push_effect pull_effect mov_effect irq_effect set_effect effect_of settled_ports after_effect tick_delay tick_by tick_word tick_of due_in transfers_after acts_in stepped next hosted_next hosted_at requests_of sample_of acted settled_slot is_noted conduct_in machine_conduct rests_in next_tick clock_of_tick conduct_before no_conduct
delay_of_three = (refl, refl)

-- clock 3 is in the delay, and in clock 4 the next SET works
three_ticks_of_delay : ((done_at (delayed plain) [] 3).machines ≡ (in_delay_till 3 (Some 3)).machines) × (done_at (delayed plain) [] 4 ≡ told 4 0 (record (at_once 1) { x = 7; y = 5 }))
unfolding is_tick settled merged wait_at in_at push_or_pull_at mov_at irq_at set_at act_of side_of delay_of reading_of jmp_effect wait_effect in_effect out_effect push_effect pull_effect mov_effect irq_effect set_effect effect_of settled_ports after_effect tick_delay tick_by tick_word tick_of due_in transfers_after acts_in stepped next hosted_next hosted_at requests_of sample_of acted settled_slot is_noted conduct_in machine_conduct rests_in next_tick clock_of_tick
three_ticks_of_delay = (refl, refl)

-- with a tick each 2.5 clocks, in 0, 2, 5, 7 and 10; and each 65,536, which is written 0 (section 3.5.5)
abbrev each_2_5 : MachineSetup
each_2_5 = record plain { int = 2; frac = 128; divides = refl }

abbrev each_65536 : MachineSetup
each_65536 = record plain { int = 0; divides = refl }

-- the delay takes the ticks of clocks 2, 5 and 7, and in clock 10 the next SET works
delay_between_clocks : (done_at (delayed each_2_5) [] 0 ≡ set_till 0 (Some 7)) × ((done_at (delayed each_2_5) [] 7).machines ≡ (in_delay_till 7 (Some 7)).machines) × (noted_at (delayed each_2_5) [] 7 ≡ false) × (noted_at (delayed each_2_5) [] 10 ≡ true)
unfolding is_tick settled merged wait_at in_at push_or_pull_at mov_at irq_at set_at act_of side_of delay_of reading_of jmp_effect wait_effect in_effect out_effect push_effect pull_effect mov_effect irq_effect set_effect effect_of settled_ports after_effect tick_delay tick_by tick_word tick_of due_in transfers_after acts_in stepped next hosted_next hosted_at requests_of sample_of acted settled_slot is_noted conduct_in machine_conduct rests_in next_tick clock_of_tick
delay_between_clocks = (refl, refl, refl, refl)

-- it takes the ticks of clocks 65,536, 131,072 and 196,608
longest_ticks : done_at (delayed each_65536) [] 0 ≡ set_till 0 (Some 196608)
unfolding is_tick settled merged wait_at in_at push_or_pull_at mov_at irq_at set_at act_of side_of delay_of reading_of jmp_effect wait_effect in_effect out_effect push_effect pull_effect mov_effect irq_effect set_effect effect_of settled_ports after_effect tick_delay tick_by tick_word tick_of due_in transfers_after acts_in stepped next hosted_next hosted_at requests_of sample_of acted settled_slot is_noted conduct_in machine_conduct rests_in next_tick clock_of_tick
longest_ticks = refl

-- a machine that is disabled in its delay tells no end of it, in its last clock too
disabled_in_its_delay : (done_at (delayed plain) (disabled_in 2) 2 ≡ broken_till 2 None) × (done_at (delayed plain) (disabled_in 3) 3 ≡ broken_till 3 None)
unfolding is_tick settled merged wait_at in_at push_or_pull_at mov_at irq_at set_at act_of side_of delay_of reading_of jmp_effect wait_effect in_effect out_effect push_effect pull_effect mov_effect irq_effect set_effect effect_of settled_ports after_effect tick_delay tick_by tick_word tick_of due_in transfers_after acts_in stepped next hosted_next hosted_at requests_of sample_of acted settled_slot is_noted conduct_in machine_conduct rests_in next_tick clock_of_tick
disabled_in_its_delay = (refl, refl)

-- after it nothing is left of it
disabled_after_its_delay : done_at (delayed plain) (disabled_in 4) 4 ≡ told 4 0 (record (at_once 1) { works = false; finishes = false; breaks = true; x = 7 })
unfolding is_tick settled merged wait_at in_at push_or_pull_at mov_at irq_at set_at act_of side_of delay_of reading_of jmp_effect wait_effect in_effect out_effect push_effect pull_effect mov_effect irq_effect set_effect effect_of settled_ports after_effect tick_delay tick_by tick_word tick_of due_in transfers_after acts_in stepped next hosted_next hosted_at requests_of sample_of acted settled_slot is_noted conduct_in machine_conduct rests_in next_tick clock_of_tick
disabled_after_its_delay = refl

-- one that is disabled in clock 2 and enabled in clock 5 has the ticks of its delay in clocks 1, 5 and 6
enabled_in_its_delay : (done_at (delayed plain) (off_and_on 2 5) 5 ≡ in_delay_till 5 (Some 6)) × (noted_at (delayed plain) (off_and_on 2 5) 5 ≡ true) × (noted_at (delayed plain) (off_and_on 2 5) 6 ≡ false) × (noted_at (delayed plain) (off_and_on 2 5) 7 ≡ true)
unfolding is_tick settled merged wait_at in_at push_or_pull_at mov_at irq_at set_at act_of side_of delay_of reading_of jmp_effect wait_effect in_effect out_effect push_effect pull_effect mov_effect irq_effect set_effect effect_of settled_ports after_effect tick_delay tick_by tick_word tick_of due_in transfers_after acts_in stepped next hosted_next hosted_at requests_of sample_of acted settled_slot is_noted conduct_in machine_conduct rests_in next_tick clock_of_tick
enabled_in_its_delay = (refl, refl, refl, refl)

-- with a tick in each fourth clock
abbrev each_fourth : MachineSetup
each_fourth = record plain { int = 4; divides = refl }

-- its delay ends in clock 12; with a restart in clock 6, which is a tick, in clock 10; with one in clock 8, which is one anyway, in 12
restarted_in_its_delay : (done_at (delayed each_fourth) [] 0 ≡ set_till 0 (Some 12)) × (done_at (delayed each_fourth) (restarted_in 6) 6 ≡ broken_till 6 (Some 10)) × (done_at (delayed each_fourth) (restarted_in 8) 8 ≡ broken_till 8 (Some 12))
unfolding is_tick settled merged wait_at in_at push_or_pull_at mov_at irq_at set_at act_of side_of delay_of reading_of jmp_effect wait_effect in_effect out_effect push_effect pull_effect mov_effect irq_effect set_effect effect_of settled_ports after_effect tick_delay tick_by tick_word tick_of due_in transfers_after acts_in stepped next hosted_next hosted_at requests_of sample_of acted settled_slot is_noted conduct_in machine_conduct rests_in next_tick clock_of_tick
restarted_in_its_delay = (refl, refl, refl)

-- a restart doesn't end a delay of one that is disabled
restarted_while_off : done_at (delayed plain) (record { clock = 2; act = Disable 0 } ∷ restarted_in 3) 3 ≡ broken_till 3 None
unfolding is_tick settled merged wait_at in_at push_or_pull_at mov_at irq_at set_at act_of side_of delay_of reading_of jmp_effect wait_effect in_effect out_effect push_effect pull_effect mov_effect irq_effect set_effect effect_of settled_ports after_effect tick_delay tick_by tick_word tick_of due_in transfers_after acts_in stepped next hosted_next hosted_at requests_of sample_of acted settled_slot is_noted conduct_in machine_conduct rests_in next_tick clock_of_tick
restarted_while_off = refl

-- `jmp x--, 0` and `jmp y--, 0` count down before the clock is over, and below 0 (section 3.4.2)
counts_down : (done_at (run (record plain { x = 2 }) (64 ∷ []) 0) [] 0 ≡ told 0 0 (record (at_once 0) { x = 1 })) × (done_at (run (record plain { x = 2 }) (64 ∷ []) 0) [] 2 ≡ told 2 0 (record (at_once 0) { x = 4294967295 })) × (done_at (run (record plain { y = 2 }) (128 ∷ []) 0) [] 0 ≡ told 0 0 (record (at_once 0) { y = 1 }))
unfolding is_tick settled merged wait_at in_at push_or_pull_at mov_at irq_at set_at act_of side_of delay_of reading_of jmp_effect wait_effect in_effect out_effect push_effect pull_effect mov_effect irq_effect set_effect effect_of settled_ports after_effect tick_delay tick_by tick_word tick_of due_in transfers_after acts_in stepped next hosted_next hosted_at requests_of sample_of acted settled_slot is_noted conduct_in machine_conduct rests_in next_tick clock_of_tick
counts_down = (refl, refl, refl)

-- with 0x1234 in the OSR
abbrev holding : MachineSetup
holding = record plain { osr = 4660; osr_count = 0; osr_has_bits = omega arith }

-- `out x, 32` and `out y, 8`
shifted_out : (done_at (run holding (24608 ∷ []) 0) [] 0 ≡ told 0 0 (record (at_once 0) { x = 4660 })) × (done_at (run holding (24648 ∷ []) 0) [] 0 ≡ told 0 0 (record (at_once 0) { y = 52 }))
unfolding is_tick settled merged wait_at in_at push_or_pull_at mov_at irq_at set_at act_of side_of delay_of reading_of jmp_effect wait_effect in_effect out_effect push_effect pull_effect mov_effect irq_effect set_effect effect_of settled_ports after_effect tick_delay tick_by tick_word tick_of due_in transfers_after acts_in stepped next hosted_next hosted_at requests_of sample_of acted settled_slot is_noted conduct_in machine_conduct rests_in next_tick clock_of_tick
shifted_out = (refl, refl)

-- a divider that was restarted in clock 10 with a tick each 2.5 clocks, in clocks 10, 12, 15, 17 and 20
abbrev restarted_10 : (clock : ℕ) → Timing
restarted_10 clock = record { clock = clock; restarted = 10; period = 640 }

-- the next tick may be in the clock itself
next_ticks : (next_tick (restarted_10 12) ≡ 1) × (next_tick (restarted_10 13) ≡ 2) × (clock_of_tick (restarted_10 12) 0 ≡ 12) × (clock_of_tick (restarted_10 13) 0 ≡ 15) × (clock_of_tick (restarted_10 13) 2 ≡ 20)
unfolding next_tick clock_of_tick
next_ticks = (refl, refl, refl, refl, refl)
