-- The transmitter's frames, tick by tick.
--   IsWhole          what comes of a word from its start bit on
use Rattle.std.proofs.Common.{◌≡◌, ◌==◌, ℕ, zero, suc, ◌+◌, ◌-◌, ◌*◌, ◌/◌, ◌%◌, ◌^◌, ◌<◌, ◌≤◌, inl, inr, Bool, true, false, Option, None, List, [], ◌∷◌, ◌++◌, map, refl, sym, ap, ◌∙◌, subst, arith, append_assoc}
use Rattle.std.specs.Prelude.{option_to_list}
use Rattle.std.proofs.lemmas.Bool.{cases_lt}
use Rattle.pin_matrix.specs.declared.machine.MachineSetup.{MachineSetup}
use Rattle.sm_registers.specs.declared.registers.Registers.{Registers}
use Rattle.serial_receiver.specs.declared.frame.Frame.{Frame}
use Rattle.serial_receiver.specs.Frames.{frames_from, middle}
use Rattle.program_runs.specs.Levels.{row}
use Rattle.program_runs.specs.Steps.{IsAtInstruction, IsStep, takes}
use Rattle.program_runs.proofs.Taking.{takes-split, takes-none}
use Rattle.pio_uart.proofs.Whole.{IsFrame, frame_of, stays_high, cut_off, given}
use Rattle.pio_uart.specs.Transmitter.{uart_memory, IsUartMachine}
use Rattle.pio_uart.specs.Sending.{IsSent}
use Rattle.pio_uart.proofs.Keeping.{Keeps}
use Rattle.pio_uart.proofs.Transmitting.{IsReady, IsWaiting, pulls, rests, sends, pull, wait, wait_for, weaken, high}

-- the level of a tick
abbrev pub is_up : (ℕ → ℕ) → ℕ → Bool
is_up levels t = levels (t + 1) == 1

none_sent : (words : List ℕ) → IsSent words []
none_sent words = record { good = tt; bytes = record { rest = map (λ w. w % 256) words; parts = refl } }

one_sent : (clock word : ℕ) (words : List ℕ) (frames : List Frame) → IsSent words frames → IsSent (word ∷ words) (frame_of clock word ∷ frames)
one_sent clock word words frames h = record { good = (refl, h.good); bytes = record { rest = h.bytes.rest; parts = ap (λ xs. word % 256 ∷ xs) h.bytes.parts } }

-- from the start bit of a word on: its frame, and then the transmitter waits again, with the words that it took meanwhile
pub record IsWhole (regs : ℕ → Registers) (levels : ℕ → ℕ) (taken : ℕ → Option ℕ) (t word : ℕ) : Type 0 where
  pub frame : IsFrame 8 (is_up levels) t word
  pub words : List ℕ
  pub waits : IsWaiting (regs (t + 77)) (levels (t + 77)) 0 words
  pub took : takes taken t 77 ≡ words

nothing : (words : List ℕ) (t : ℕ) → IsSent words (frames_from 8 0 t true [])
unfolding frames_from
nothing words t = none_sent words

module _ (int : ℕ) (s : MachineSetup) (h : IsUartMachine int s) (regs : ℕ → Registers) (levels : ℕ → ℕ) (taken : ℕ → Option ℕ)
    (run : (t : ℕ) → IsStep s uart_memory 0 (regs t) (levels t) (regs (t + 1)) (levels (t + 1)) (taken t)) where
  -- a PULL that begins
  pub ready : (t : ℕ) → IsAtInstruction 0 0 (regs t) → IsReady (regs t) (levels t)
  ready t a = record { at = record { pc = a.pc; delay = a.delay; pending = a.pending }; level_is = λ b. absurd (never (sym a.begun ∙ b)) } where
    never : false ≡ true → ⊥
    never e = cc

  pub nothing_before : (t word : ℕ) → Keeps levels taken t 8 0 → ((i : ℕ) → i < 8 → Keeps levels taken (t + 8 + 8 * i) 8 (word / 2 ^ i % 2)) → (j : ℕ) → j < 72 → taken (t + j) ≡ None
  nothing_before t word start bits j l = elim (cases_lt j 8) [
    | inl first ↦ start.nothing j first
    | inr later ↦
        ap taken (let e : t + j ≡ t + 8 + 8 * ((j - 8) / 8) + (j - 8) % 8 = omega (arith, later) in e)
        ∙ (bits ((j - 8) / 8) (omega (arith, l, later))).nothing ((j - 8) % 8) (omega arith)
  ]

  pub whole : (t word : ℕ) → IsAtInstruction 1 0 (regs t) → (regs t).osr ≡ word → IsWhole regs levels taken t word
  whole t word at osr = record {
    frame = record {
      fall = ap (λ n. n == 1) (ap levels (let e : t + 1 ≡ t + 0 + 1 = omega arith in e) ∙ sent.0.levels_are 0 (omega arith));
      data_bits = λ i l. ap (λ n. n == 1) (ap levels (let e : t + middle 8 i + 1 ≡ t + 8 + 8 * i + 4 + 1 = omega arith in e) ∙ (sent.1 i l).levels_are 4 (omega arith));
      stop = ap (λ n. n == 1) (ap levels (let e : t + 76 + 1 ≡ t + 77 = omega arith in e) ∙ high int s h regs levels taken run (t + 77) 3 words after);
    };
    words = words;
    waits = weaken int s h regs levels taken run (t + 77) 3 0 words (omega arith) after;
    took =
        takes-split taken t 72 5
        ∙ ap (λ ws. ws ++ takes taken (t + 72) 5) (takes-none taken t 72 (nothing_before t word sent.0 sent.1))
        ∙ ap (λ k. option_to_list (taken (t + 72)) ++ takes taken k 4) (let e : t + 72 + 1 ≡ t + 73 = omega arith in e);
  } where
    sent : Keeps levels taken t 8 0 × ((i : ℕ) → i < 8 → Keeps levels taken (t + 8 + 8 * i) 8 (word / 2 ^ i % 2)) × IsAtInstruction 0 0 (regs (t + 72))
    sent = sends int s h regs levels taken run t word at osr

    begins : IsWaiting (regs (t + 73)) (levels (t + 73)) 7 (option_to_list (taken (t + 72)))
    begins = subst (λ k. IsWaiting (regs k) (levels k) 7 (option_to_list (taken (t + 72)))) (let e : t + 72 + 1 ≡ t + 73 = omega arith in e) (pull int s h regs levels taken run (t + 72) (ready (t + 72) sent.2))

    words : List ℕ
    words = option_to_list (taken (t + 72)) ++ takes taken (t + 73) 4

    after : IsWaiting (regs (t + 77)) (levels (t + 77)) 3 words
    after = subst (λ k. IsWaiting (regs k) (levels k) 3 words) (let e : t + 73 + 4 ≡ t + 77 = omega arith in e) (wait_for int s h regs levels taken run 4 (t + 73) 3 (option_to_list (taken (t + 72))) (omega arith) begins).0

  -- in a tick before a start bit no frame begins
  goes_on : (t n : ℕ) (words : List ℕ) → IsWaiting (regs (t + 1)) (levels (t + 1)) 0 (words ++ option_to_list (taken t))
      → IsSent ((words ++ option_to_list (taken t)) ++ takes taken (t + 1) n) (frames_from 8 0 (t + 1) true (row (is_up levels) (t + 1) n))
      → IsSent (words ++ takes taken t (suc n)) (frames_from 8 0 t true (row (is_up levels) t (suc n)))
  goes_on t n words waits sent =
      subst (λ ws. IsSent ws (frames_from 8 0 t true (row (is_up levels) t (suc n)))) (append_assoc words (option_to_list (taken t)) (takes taken (t + 1) n))
      (subst (IsSent ((words ++ option_to_list (taken t)) ++ takes taken (t + 1) n)) (sym (stays_high 8 t (is_up levels) n (ap (λ k. k == 1) (high int s h regs levels taken run (t + 1) 0 (words ++ option_to_list (taken t)) waits)))) sent)

  -- the words of a frame, those taken in it and those after it
  words_after : (t n : ℕ) (word : ℕ) (words : List ℕ) → 76 < n → words ≡ word ∷ [] → (f : IsWhole regs levels taken t word) → word ∷ (f.words ++ takes taken (t + 76 + 1) (n - (76 + 1))) ≡ words ++ takes taken t n
  words_after t n word words l has f =
      ap (λ k. word ∷ (f.words ++ takes taken k (n - (76 + 1)))) (let e : t + 76 + 1 ≡ t + 77 = omega arith in e)
      ∙ ap (λ ws. word ∷ (ws ++ takes taken (t + 77) (n - 77))) (sym f.took)
      ∙ ap (λ ws. word ∷ ws) (sym (takes-split taken t 77 (n - 77)) ∙ ap (takes taken t) (let e : 77 + (n - 77) ≡ n = omega (arith, l) in e))
      ∙ ap (λ ws. ws ++ takes taken t n) (sym has)

  -- What it sends in so many ticks, from one on at which it waits: good frames of the words that it has and takes, in order.
  pub all_sent : (fuel n t : ℕ) (words : List ℕ) → n ≤ fuel → IsWaiting (regs t) (levels t) 0 words → IsSent (words ++ takes taken t n) (frames_from 8 0 t true (row (is_up levels) t n))
  all_sent fuel zero t words l g = nothing (words ++ []) t
  all_sent zero (suc n) t words l g = absurd (omega (arith, l))
  all_sent (suc fuel) (suc n) t words l (pulls ready one none) =
      let next = wait int s h regs levels taken run t 0 words (omega arith) (pulls ready one none) in
      goes_on t n words next (all_sent fuel n (t + 1) (words ++ option_to_list (taken t)) (omega (arith, l)) next)
  all_sent (suc fuel) (suc n) t words l (rests (suc left) m at one has) =
      let next = wait int s h regs levels taken run t 0 words (omega arith) (rests (suc left) (omega arith) at one has) in
      goes_on t n words next (all_sent fuel n (t + 1) (words ++ option_to_list (taken t)) (omega (arith, l)) next)
  all_sent (suc fuel) (suc n) t words l (rests zero m at one has) =
      let word = (regs t).osr in
      let f = whole t word at refl in
      elim (cases_lt 76 (suc n)) [
        | inl fits ↦
            subst (λ ws. IsSent ws (frames_from 8 0 t true (row (is_up levels) t (suc n)))) (words_after t (suc n) word words fits has f)
            (subst (IsSent (word ∷ (f.words ++ takes taken (t + 76 + 1) (suc n - (76 + 1))))) (sym (given 8 t word (is_up levels) (suc n) f.frame fits))
            (one_sent t word (f.words ++ takes taken (t + 76 + 1) (suc n - (76 + 1))) _
            (all_sent fuel (suc n - (76 + 1)) (t + 76 + 1) f.words (omega (arith, l)) (subst (λ k. IsWaiting (regs k) (levels k) 0 f.words) (let e : t + 77 ≡ t + 76 + 1 = omega arith in e) f.waits))))
        | inr cut ↦ subst (IsSent (words ++ takes taken t (suc n))) (sym (cut_off 8 t word (is_up levels) (suc n) f.frame cut)) (none_sent (words ++ takes taken t (suc n)))
      ]
