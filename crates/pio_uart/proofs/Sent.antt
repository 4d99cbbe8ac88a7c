-- The transmitter sends what it is fed.
use Rattle.std.proofs.Common.{◌≡◌, ◌==◌, ℕ, zero, suc, ◌+◌, ◌*◌, ◌%◌, ◌≤◌, true, Some, None, IfSome, List, [], ◌∷◌, ◌++◌, map, slice_get, slice_index_or, refl, sym, ap, subst, ◌∙◌, arith, append_assoc}
use Rattle.std.proofs.Math.Nat.{mul-zero}
use Rattle.std.proofs.lemmas.List.{map-append}
use Rattle.std.specs.Int.{bit_at}
use Rattle.std.specs.List.{AllByRecursion}
use Rattle.pin_matrix.specs.Pins.{is_high}
use Rattle.pin_matrix.specs.declared.machine.MachineSetup.{MachineSetup}
use Rattle.pin_matrix.specs.declared.setup.Setup.{Setup}
use Rattle.pin_matrix.specs.declared.span.PinSignal.TheVariants.{Level}
use Rattle.dreq_pacing.specs.declared.line.Line.{Line}
use Rattle.block_core.specs.Block.{first_run}
use Rattle.block_core.specs.Following.{OthersLeave, leaves}
use Rattle.block_core.specs.Hosted.{samples}
use Rattle.serial_receiver.specs.declared.frame.Frame.{Frame}
use Rattle.serial_receiver.specs.Frames.{frames_from, levels_of}
use Rattle.program_runs.specs.Accepted.{accepted}
use Rattle.program_runs.specs.Clocks.{IsOwn, regs_in, tx_in, level_in, taken_in}
use Rattle.program_runs.specs.Levels.{row, up_in, levels_in}
use Rattle.program_runs.specs.Runs.{ticks_in, GoesByTicks}
use Rattle.program_runs.specs.Steps.{IsStep, takes}
use Rattle.pio_uart.specs.Phases.{IsPulling}
use Rattle.pio_uart.specs.Sending.{IsSent, frames_in}
use Rattle.pio_uart.specs.Transmitter.{uart_memory, IsTransmitter}
use Rattle.pio_uart.proofs.Scaling.{at_clock, from_start, scaled}
use Rattle.pio_uart.proofs.Transmitting.{IsReady, IsWaiting, pulls}
use Rattle.pio_uart.proofs.Framed.{is_up, all_sent}

-- more words, after those that were taken
more_words : (words more : List ℕ) (fs : List Frame) → IsSent words fs → IsSent (words ++ more) fs
more_words words more fs h = record {
  good = h.good;
  bytes = record {
    rest = h.bytes.rest ++ map (λ w. w % 256) more;
    parts = map-append (λ w. w % 256) words more ∙ ap (λ ws. ws ++ map (λ w. w % 256) more) h.bytes.parts ∙ append_assoc _ h.bytes.rest (map (λ w. w % 256) more);
  };
}

-- frames at other clocks
good_frames : (every : ℕ) (fs : List Frame) → AllByRecursion (λ f. f.good ≡ true) fs → AllByRecursion (λ f. f.good ≡ true) (map (at_clock every) fs)
good_frames every [] h = tt
good_frames every (f ∷ fs) h = (h.0, good_frames every fs h.1)

same_bytes : (every : ℕ) (fs : List Frame) → map (λ f. f.byte) (map (at_clock every) fs) ≡ map (λ f. f.byte) fs
same_bytes every [] = refl
same_bytes every (f ∷ fs) = ap (λ bs. f.byte ∷ bs) (same_bytes every fs)

at_clocks : (every : ℕ) (words : List ℕ) (fs : List Frame) → IsSent words fs → IsSent words (map (at_clock every) fs)
at_clocks every words fs h = record {
  good = good_frames every fs h.good;
  bytes = record { rest = h.bytes.rest; parts = h.bytes.parts ∙ ap (λ bs. bs ++ h.bytes.rest) (sym (same_bytes every fs)) };
}

-- no other machine is there
others_leave : (s : MachineSetup) (other : ℕ) → (other ≡ 0 → ⊥) → IfSome (slice_index_or (Some s ∷ None ∷ None ∷ None ∷ []) other None) (λ m. leaves 0 Level m ≡ true)
others_leave s zero apart = absurd (apart refl)
others_leave s (suc zero) apart = tt
others_leave s (suc (suc zero)) apart = tt
others_leave s (suc (suc (suc zero))) apart = tt
others_leave s (suc (suc (suc (suc other)))) apart = tt

-- the setup's own machine, and pin 0, which no other one is mapped to
pub own : (int : ℕ) (u : Setup) → (t : IsTransmitter int u) → IsOwn u 0 t.machine 0
own int u t = record {
  in_block = omega arith;
  configured = ap (λ ms. slice_index_or ms 0 None) t.machines;
  number = t.is_set_up.id;
  is_pin = omega arith;
  alone = subst (OthersLeave Level 0 0) (sym t.machines) (others_leave t.machine);
}

-- what samples tell of a pin
abbrev pub AreTold : Type 0
AreTold = (u : Setup) (lines : List Line) (pin n : ℕ) → levels_in u lines pin n ≡ row (up_in u lines pin) 0 n

module _ (told : AreTold) (int : ℕ) (some : 1 ≤ int) (u : Setup) (t : IsTransmitter int u) (lines : List Line) (goes : GoesByTicks u lines 0 t.machine 0 int) where
  -- tick by tick, with its own words
  pub step : (k : ℕ) → IsStep t.machine uart_memory 0 (regs_in u lines t.machine (int * k)) (level_in u lines 0 (int * k)) (regs_in u lines t.machine (int * (k + 1))) (level_in u lines 0 (int * (k + 1))) (taken_in u lines t.machine (int * k))
  step k = let one = goes.step k in record {
    view = one.view;
    queues = one.queues;
    memory_is = one.memory_is ∙ t.memory;
    registers = one.registers;
    level_is = one.level_is;
    taken_is = one.taken_is;
  }

  pub front : (k : ℕ) → (step k).queues.front ≡ slice_get (tx_in u lines t.machine (int * k)) 0
  unfolding step
  front k = goes.front k

  pub high_at_first : level_in u lines 0 (int * 0) ≡ 1
  high_at_first = goes.first_level ∙ ap (λ l. bit_at l 0) t.level

  pub ready_at_first : IsReady (regs_in u lines t.machine (int * 0)) (level_in u lines 0 (int * 0))
  ready_at_first = record {
    at = subst IsPulling (sym goes.first_regs) (record { pc = t.is_set_up.start; delay = refl; pending = t.is_set_up.pending });
    level_is = λ b. high_at_first;
  }

  waits : IsWaiting (regs_in u lines t.machine (int * 0)) (level_in u lines 0 (int * 0)) 0 []
  waits = pulls ready_at_first high_at_first refl

  -- the frames of its ticks
  pub frames_are : (n : ℕ) → frames_in u lines (8 * int) n ≡ map (at_clock int) (frames_from 8 0 0 true (row (is_up (λ k. level_in u lines 0 (int * k))) 0 (ticks_in int n)))
  frames_are n =
      ap (λ l. frames_from (8 * int) 0 0 (is_high l 0) (levels_of 0 (samples (first_run u) lines n))) t.level
      ∙ ap (frames_from (8 * int) 0 0 true) (told u lines 0 n)
      ∙ ap (λ c. frames_from (8 * int) 0 c true (row (up_in u lines 0) c n)) (sym (mul-zero int))
      ∙ scaled int some (up_in u lines 0) (is_up (λ k. level_in u lines 0 (int * k))) (λ k e l. ap (λ v. v == 1) (goes.level k e l))
      (ticks_in int n) n 0 0 0 true (omega (arith, some)) (omega (arith, some)) (from_start int)

  pub sent : (n : ℕ) → IsSent (accepted (first_run u) lines 0 n) (frames_in u lines (8 * int) n)
  sent n =
      let ticks = ticks_in int n in
      let words = takes (λ k. taken_in u lines t.machine (int * k)) 0 ticks in
      let by_ticks : IsSent words (frames_from 8 0 0 true (row (is_up (λ k. level_in u lines 0 (int * k))) 0 ticks)) =
      all_sent int t.machine t.is_set_up (λ k. regs_in u lines t.machine (int * k)) (λ k. level_in u lines 0 (int * k)) (λ k. taken_in u lines t.machine (int * k)) step ticks ticks 0 [] (omega arith) waits in
      subst (λ ws. IsSent ws (frames_in u lines (8 * int) n)) (sym (goes.words n))
      (subst (IsSent (words ++ tx_in u lines t.machine n)) (sym (frames_are n))
      (at_clocks int (words ++ tx_in u lines t.machine n) _ (more_words words (tx_in u lines t.machine n) _ by_ticks)))
