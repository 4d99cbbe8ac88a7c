-- The transmitter's run, tick by tick, and what it sends in clocks.
use Rattle.std.proofs.Common.{◌≡◌, ◌==◌, ℕ, zero, suc, ◌+◌, ◌*◌, ◌^◌, ◌<◌, ◌≤◌, Bool, true, false, Some, None, IfSome, List, [], ◌∷◌, ◌++◌, slice_get, slice_index_or, refl, sym, ap, subst, ◌∙◌, arith, append_assoc}
use Rattle.std.proofs.Math.Nat.{mul-zero}
use Rattle.std.proofs.lemmas.Grind.{flat_map-append}
use Rattle.std.proofs.lemmas.Nat.Bits.{bit_at-zero}
use Rattle.std.specs.List.{AllByRecursion}
use Rattle.pin_matrix.specs.Pins.{is_high}
use Rattle.pin_matrix.specs.declared.machine.MachineSetup.{MachineSetup}
use Rattle.pin_matrix.specs.declared.setup.Setup.{Setup}
use Rattle.pin_matrix.specs.declared.span.PinSignal.TheVariants.{Level}
use Rattle.dreq_pacing.specs.declared.line.Line.{Line}
use Rattle.block_core.specs.Block.{first_run}
use Rattle.block_core.specs.Following.{OthersLeave, leaves}
use Rattle.program_runs.specs.Accepted.{accepted}
use Rattle.program_runs.specs.Clocks.{IsOwn, regs_in, tx_in, level_in, taken_in}
use Rattle.program_runs.specs.Levels.{row, up_in, levels_in}
use Rattle.program_runs.specs.Runs.{ticks_in, GoesByTicks}
use Rattle.program_runs.specs.Steps.{IsStep, takes}
use Rattle.pio_ws2812.specs.Pulses.{Pulse, pulses_from, bits_read}
use Rattle.pio_ws2812.specs.Sending.{word_bits, bits_of, pulses_in, IsSent}
use Rattle.pio_ws2812.specs.Transmitter.{ws2812_memory, IsTransmitter}
use Rattle.pio_ws2812.proofs.Bits.{none}
use Rattle.pio_ws2812.proofs.Instructions.{AreMapped}
use Rattle.pio_ws2812.proofs.Transmitting.{IsReady}
use Rattle.pio_ws2812.proofs.Sent.{all_sent}

-- no other machine is there
others_leave : (s : MachineSetup) (pin other : ℕ) → (other ≡ 0 → ⊥) → IfSome (slice_index_or (Some s ∷ None ∷ None ∷ None ∷ []) other None) (λ m. leaves pin Level m ≡ true)
others_leave s pin zero apart = absurd (apart refl)
others_leave s pin (suc zero) apart = tt
others_leave s pin (suc (suc zero)) apart = tt
others_leave s pin (suc (suc (suc zero))) apart = tt
others_leave s pin (suc (suc (suc (suc other)))) apart = tt

-- the setup's own machine, and its pin, which no other one is mapped to
pub own : (int pin : ℕ) (u : Setup) → (t : IsTransmitter int pin u) → IsOwn u 0 t.machine pin
own int pin u t = record {
  in_block = omega arith;
  configured = ap (λ ms. slice_index_or ms 0 None) t.machines;
  number = t.is_set_up.id;
  is_pin = t.is_pin;
  alone = subst (OthersLeave Level 0 pin) (sym t.machines) (others_leave t.machine pin);
}

-- what samples tell of a pin
abbrev pub AreTold : Type 0
AreTold = (u : Setup) (lines : List Line) (pin n : ℕ) → levels_in u lines pin n ≡ row (up_in u lines pin) 0 n

-- of words, those at the end and the first
all_after : (xs ys : List ℕ) → AllByRecursion (λ w. w < 2 ^ 32) (xs ++ ys) → AllByRecursion (λ w. w < 2 ^ 32) ys
all_after [] ys h = h
all_after (x ∷ xs) ys h = all_after xs ys h.1

the_first : (ws : List ℕ) (w : ℕ) → AllByRecursion (λ w. w < 2 ^ 32) ws → slice_get ws 0 ≡ Some w → w < 2 ^ 32
the_first [] w h e = absurd (never e) where
  never : None ≡ Some w → ⊥
  never e = cc
the_first (x ∷ ws) w h e = subst (λ k. k < 2 ^ 32) (let f : Some x ≡ Some w = e in let g : x ≡ w = cc in g) h.0

more_bits : (int : ℕ) (bits more : List Bool) (ps : List Pulse) → IsSent int 0 bits ps → IsSent int 0 (bits ++ more) ps
more_bits int bits more ps h = record {
  high = h.high;
  low = h.low;
  read = λ bound l m. let f = h.read bound l m in record { rest = f.rest ++ more; parts = ap (λ bs. bs ++ more) f.parts ∙ append_assoc (bits_read bound ps) f.rest more };
}

module _ (told : AreTold) (mapped : AreMapped) (int : ℕ) (some : 1 ≤ int) (pin : ℕ) (u : Setup) (t : IsTransmitter int pin u) (lines : List Line) (goes : GoesByTicks u lines 0 t.machine pin int)
    (words : (n : ℕ) → AllByRecursion (λ w. w < 2 ^ 32) (accepted (first_run u) lines 0 n)) where
  -- tick by tick, with its own words
  pub step : (k : ℕ) → IsStep t.machine ws2812_memory pin (regs_in u lines t.machine (int * k)) (level_in u lines pin (int * k)) (regs_in u lines t.machine (int * (k + 1))) (level_in u lines pin (int * (k + 1))) (taken_in u lines t.machine (int * k))
  step k = let one = goes.step k in record {
    view = one.view;
    queues = one.queues;
    memory_is = one.memory_is ∙ t.memory;
    registers = one.registers;
    level_is = one.level_is;
    taken_is = one.taken_is;
  }

  pub front : (k : ℕ) → (step k).queues.front ≡ slice_get (tx_in u lines t.machine (int * k)) 0
  unfolding step
  front k = goes.front k

  pub step_words : (k w : ℕ) → (step k).queues.front ≡ Some w → w < 2 ^ 32
  step_words k w e =
      the_first (tx_in u lines t.machine (int * k)) w
      (all_after (takes (λ j. taken_in u lines t.machine (int * j)) 0 (ticks_in int (int * k))) (tx_in u lines t.machine (int * k)) (subst (AllByRecursion (λ w. w < 2 ^ 32)) (goes.words (int * k)) (words (int * k))))
      (sym (front k) ∙ e)

  pub held : (k e : ℕ) → e < int → up_in u lines pin (int * k + e) ≡ (level_in u lines pin (int * (k + 1)) == 1)
  held k e l = ap (λ v. v == 1) (goes.level k e l)

  pub ready : IsReady (regs_in u lines t.machine (int * 0)) (level_in u lines pin (int * 0)) []
  ready = subst (λ r. IsReady r (level_in u lines pin (int * 0)) []) (sym goes.first_regs) (record {
    at = record { pc = t.is_set_up.start; delay = refl; pending = t.is_set_up.pending };
    holds = record { word = t.is_set_up.osr; bits_are = sym (rw t.is_set_up.osr_count (none t.machine.osr 0)) };
    low = λ b. absurd (never b);
  }) where
    never : false ≡ true → ⊥
    never e = cc

  pub pulses_are : (n : ℕ) → pulses_in u lines pin n ≡ pulses_from (int * 0) false (row (up_in u lines pin) (int * 0) n)
  pulses_are n =
      ap (λ l. pulses_from 0 (is_high l pin) (levels_in u lines pin n)) t.level
      ∙ ap (λ b. pulses_from 0 (b == 1) (levels_in u lines pin n)) (bit_at-zero pin)
      ∙ ap (pulses_from 0 false) (told u lines pin n)
      ∙ ap (λ c. pulses_from c false (row (up_in u lines pin) c n)) (sym (mul-zero int))

  pub sent : (n : ℕ) → IsSent int 0 (bits_of (accepted (first_run u) lines 0 n)) (pulses_in u lines pin n)
  sent n =
      let taken = takes (λ k. taken_in u lines t.machine (int * k)) 0 (ticks_in int n) in
      let so = all_sent int some pin t.machine t.is_set_up t.is_pin mapped (λ k. regs_in u lines t.machine (int * k)) (λ k. level_in u lines pin (int * k)) (λ k. taken_in u lines t.machine (int * k)) step step_words
      (up_in u lines pin) held (ticks_in int n) (ticks_in int n) n 0 [] (omega arith) (omega (arith, some)) ready in
      subst (λ ws. IsSent int 0 (bits_of ws) (pulses_in u lines pin n)) (sym (goes.words n))
      (subst (λ bs. IsSent int 0 bs (pulses_in u lines pin n)) (sym (flat_map-append word_bits taken (tx_in u lines t.machine n)))
      (subst (IsSent int 0 (bits_of taken ++ bits_of (tx_in u lines t.machine n))) (sym (pulses_are n))
      (more_bits int (bits_of taken) (bits_of (tx_in u lines t.machine n)) _ so.sent)))
