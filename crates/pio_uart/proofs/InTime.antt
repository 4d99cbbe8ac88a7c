-- The transmitter tick by tick, where a word is there whenever one is left: exactly which frames it sends, and when.
--   frames_after     the frames of words, of which the first is pulled at a tick
use Rattle.std.proofs.Common.{◌≡◌, ◌==◌, ℕ, zero, suc, ◌+◌, ◌-◌, ◌*◌, ◌/◌, ◌%◌, ◌^◌, ◌<◌, ◌≤◌, inl, inr, Bool, true, cond, ltb, Option, Some, None, option_to_list, List, [], ◌∷◌, ◌++◌, slice_get, refl, sym, ap, ◌∙◌, subst, arith}
use Rattle.std.proofs.lemmas.Bool.{cases_lt, lt-ltb, le-ltb}
use Rattle.pin_matrix.specs.declared.machine.MachineSetup.{MachineSetup}
use Rattle.sm_registers.specs.declared.registers.Registers.{Registers}
use Rattle.serial_receiver.specs.declared.frame.Frame.{Frame}
use Rattle.serial_receiver.specs.Frames.{frames_from}
use Rattle.pio_uart.specs.Transmitter.{uart_memory, IsUartMachine}
use Rattle.program_runs.specs.Levels.{row}
use Rattle.program_runs.specs.Steps.{IsAtInstruction, IsStep}
use Rattle.pio_uart.proofs.Whole.{frame_of, stays_high, cut_off, given}
use Rattle.pio_uart.specs.Phases.{IsPulling}
use Rattle.pio_uart.proofs.Instructions.{pull_tick, stall_tick}
use Rattle.pio_uart.proofs.Keeping.{Keeps}
use Rattle.pio_uart.proofs.Transmitting.{IsThere, IsReady, pulls, side_one, rests_for, sends, wait_for}
use Rattle.pio_uart.proofs.Framed.{is_up, ready, nothing_before, whole}

-- the frames of these words in the n ticks from the fifth tick after t on, where the first is pulled at tick t
abbrev pub frames_after : (t n : ℕ) → List ℕ → List Frame
frames_after t n [] = []
frames_after t n (word ∷ words) = cond (ltb 79 n) (frame_of (t + 8) word ∷ frames_after (t + 80) (n - 80) words) []

nothing_left : (bit clock other : ℕ) → frames_from bit 0 clock true [] ≡ frames_from bit 0 other true []
unfolding frames_from
nothing_left bit clock other = refl

no_frames : (bit clock : ℕ) → frames_from bit 0 clock true [] ≡ []
unfolding frames_from
no_frames bit clock = refl

-- no frame begins in clocks in which the level stays high
pub high_for : (bit clock k n : ℕ) (at : ℕ → Bool) → ((j : ℕ) → j < k → at (clock + j) ≡ true) → frames_from bit 0 clock true (row at clock n) ≡ frames_from bit 0 (clock + k) true (row at (clock + k) (n - k))
high_for bit clock zero n at h = ap (λ c. frames_from bit 0 c true (row at c n)) (let e : clock ≡ clock + 0 = omega arith in e) ∙ ap (λ m. frames_from bit 0 (clock + 0) true (row at (clock + 0) m)) (let e : n ≡ n - 0 = omega arith in e)
high_for bit clock (suc k) zero at h = nothing_left bit clock (clock + suc k) ∙ ap (λ m. frames_from bit 0 (clock + suc k) true (row at (clock + suc k) m)) (let e : 0 ≡ 0 - suc k = omega arith in e)
high_for bit clock (suc k) (suc n) at h =
    stays_high bit clock at n (ap at (let e : clock ≡ clock + 0 = omega arith in e) ∙ h 0 (omega arith))
    ∙ high_for bit (clock + 1) k n at (λ j l. ap at (let e : clock + 1 + j ≡ clock + (j + 1) = omega arith in e) ∙ h (j + 1) (omega (arith, l)))
    ∙ ap (λ c. frames_from bit 0 c true (row at c (n - k))) (let e : clock + 1 + k ≡ clock + suc k = omega arith in e)
    ∙ ap (λ m. frames_from bit 0 (clock + suc k) true (row at (clock + suc k) m)) (let e : n - k ≡ suc n - suc k = omega arith in e)

pub all_high : (bit clock n : ℕ) (at : ℕ → Bool) → ((j : ℕ) → j < n → at (clock + j) ≡ true) → frames_from bit 0 clock true (row at clock n) ≡ []
all_high bit clock n at h =
    high_for bit clock n n at h ∙ ap (λ m. frames_from bit 0 (clock + n) true (row at (clock + n) m)) (let e : n - n ≡ 0 = omega arith in e) ∙ no_frames bit (clock + n)

module _ (int : ℕ) (s : MachineSetup) (h : IsUartMachine int s) (regs : ℕ → Registers) (levels : ℕ → ℕ) (taken : ℕ → Option ℕ)
    (run : (t : ℕ) → IsStep s uart_memory 0 (regs t) (levels t) (regs (t + 1)) (levels (t + 1)) (taken t))
    (left : ℕ → List ℕ) (goes : (t : ℕ) → option_to_list (taken t) ++ left (t + 1) ≡ left t) (supply : (t : ℕ) → 1 ≤ t → (run t).queues.front ≡ slice_get (left t) 0) where
  -- a PULL that takes a word
  pulls_word : (t word : ℕ) (words : List ℕ) → 1 ≤ t → IsReady (regs t) (levels t) → left t ≡ word ∷ words
      → IsThere (regs (t + 1)) (levels (t + 1)) 1 7 (regs t).x word 1 × (left (t + 1) ≡ words)
  pulls_word t word words some g e =
      let k = run t in
      let front : k.queues.front ≡ Some word = supply t some ∙ ap (λ ws. slice_get ws 0) e in
      let d = pull_tick int s h k.view k.memory_is k.queues (regs t) word g.at front in
      let took : taken t ≡ Some word = k.taken_is ∙ ap (λ b. cond b k.queues.front None) d.takes ∙ front in
      let all : word ∷ left (t + 1) ≡ word ∷ words = ap (λ o. option_to_list o ++ left (t + 1)) (sym took) ∙ goes t ∙ e in (
        record {
          at = subst (IsAtInstruction 1 7) (sym k.registers) d.at;
          x_is = ap (λ (r : Registers). r.x) k.registers ∙ d.x_is;
          osr_is = ap (λ (r : Registers). r.osr) k.registers ∙ d.osr_is;
          level_is = k.level_is ∙ d.level_is (levels t) ∙ side_one int s h regs levels taken run (regs t).begun (levels t) g.level_is;
        },
        cc,
      )

  -- one that has none to take
  stalls : (t : ℕ) → 1 ≤ t → IsReady (regs t) (levels t) → left t ≡ [] → IsReady (regs (t + 1)) (levels (t + 1)) × (levels (t + 1) ≡ 1) × (left (t + 1) ≡ [])
  stalls t some g e =
      let k = run t in
      let front : k.queues.front ≡ None = supply t some ∙ ap (λ ws. slice_get ws 0) e in
      let d = stall_tick int s h k.view k.memory_is k.queues (regs t) g.at front in
      let took : taken t ≡ None = k.taken_is ∙ ap (λ b. cond b k.queues.front None) d.takes in
      let one : levels (t + 1) ≡ 1 = k.level_is ∙ d.level_is (levels t) ∙ side_one int s h regs levels taken run (regs t).begun (levels t) g.level_is in (
        record { at = subst IsPulling (sym k.registers) d.at; level_is = λ b. one },
        one,
        ap (λ o. option_to_list o ++ left (t + 1)) (sym took) ∙ goes t ∙ e,
      )

  stalls_for : (n t : ℕ) → 1 ≤ t → IsReady (regs t) (levels t) → left t ≡ [] → (j : ℕ) → j < n → levels (t + j + 1) ≡ 1
  stalls_for zero t some g e j l = absurd (omega (arith, l))
  stalls_for (suc n) t some g e zero l = ap levels (let q : t + 0 + 1 ≡ t + 1 = omega arith in q) ∙ (stalls t some g e).1
  stalls_for (suc n) t some g e (suc j) l =
      let k = stalls t some g e in
      ap levels (let q : t + suc j + 1 ≡ t + 1 + j + 1 = omega arith in q) ∙ stalls_for n (t + 1) (omega arith) k.0 k.2 j (omega (arith, l))

  -- in ticks that take nothing the same words are left
  left_for : (n t : ℕ) → ((j : ℕ) → j < n → taken (t + j) ≡ None) → left (t + n) ≡ left t
  left_for zero t none = ap left (let q : t + 0 ≡ t = omega arith in q)
  left_for (suc n) t none =
      ap left (let q : t + suc n ≡ t + 1 + n = omega arith in q)
      ∙ left_for n (t + 1) (λ j l. ap taken (let q : t + 1 + j ≡ t + (j + 1) = omega arith in q) ∙ none (j + 1) (omega (arith, l)))
      ∙ ap (λ o. option_to_list o ++ left (t + 1)) (sym (ap taken (let q : t ≡ t + 0 = omega arith in q) ∙ none 0 (omega arith))) ∙ goes t

  none_both : (t word : ℕ) → Keeps levels taken (t + 1) 7 1 → Keeps levels taken (t + 8) 8 0 → ((i : ℕ) → i < 8 → Keeps levels taken (t + 8 + 8 + 8 * i) 8 (word / 2 ^ i % 2)) → (j : ℕ) → j < 79 → taken (t + 1 + j) ≡ None
  none_both t word rest start bits j l = elim (cases_lt j 7) [
    | inl first ↦ rest.nothing j first
    | inr later ↦ ap taken (let q : t + 1 + j ≡ t + 8 + (j - 7) = omega (arith, later) in q) ∙ nothing_before int s h regs levels taken run (t + 8) word start bits (j - 7) (omega (arith, l, later))
  ]

  pub in_time : (words : List ℕ) (t n : ℕ) → 1 ≤ t → IsReady (regs t) (levels t) → left t ≡ words → frames_from 8 0 (t + 5) true (row (is_up levels) (t + 5) n) ≡ frames_after t n words
  in_time [] t n some g e =
      all_high 8 (t + 5) n (is_up levels) (λ j l. ap (λ v. v == 1) (ap levels (let q : t + 5 + j + 1 ≡ t + (5 + j) + 1 = omega arith in q) ∙ stalls_for (5 + n) t some g e (5 + j) (omega (arith, l))))
  in_time (word ∷ words) t n some g e =
      let p = pulls_word t word words some g e in
      let r = rests_for int s h regs levels taken run 7 (t + 1) 1 0 (regs t).x word 1 p.0 in
      let at : IsAtInstruction 1 0 (regs (t + 8)) = subst (λ k. IsAtInstruction 1 0 (regs k)) (let q : t + 1 + 7 ≡ t + 8 = omega arith in q) r.0.at in
      let osr : (regs (t + 8)).osr ≡ word = ap (λ k. (regs k).osr) (let q : t + 8 ≡ t + 1 + 7 = omega arith in q) ∙ r.0.osr_is in
      let sent = sends int s h regs levels taken run (t + 8) word at osr in
      let f = whole int s h regs levels taken run (t + 8) word at osr in
      let next : IsReady (regs (t + 80)) (levels (t + 80)) = ready int s h regs levels taken run (t + 80) (subst (λ k. IsAtInstruction 0 0 (regs k)) (let q : t + 8 + 72 ≡ t + 80 = omega arith in q) sent.2) in
      let rest : left (t + 80) ≡ words = ap left (let q : t + 80 ≡ t + 1 + 79 = omega arith in q) ∙ left_for 79 (t + 1) (none_both t word r.1 sent.0 sent.1) ∙ p.1 in
      high_for 8 (t + 5) 3 n (is_up levels) (λ j l. ap (λ v. v == 1) (ap levels (let q : t + 5 + j + 1 ≡ t + 1 + (4 + j) + 1 = omega arith in q) ∙ r.1.levels_are (4 + j) (omega (arith, l))))
      ∙ ap (λ c. frames_from 8 0 c true (row (is_up levels) c (n - 3))) (let q : t + 5 + 3 ≡ t + 8 = omega arith in q)
      ∙ elim (cases_lt 79 n) [
        | inl fits ↦
            given 8 (t + 8) word (is_up levels) (n - 3) f.frame (omega (arith, fits))
            ∙ ap (λ c. frame_of (t + 8) word ∷ frames_from 8 0 c true (row (is_up levels) c (n - 3 - (76 + 1)))) (let q : t + 8 + 76 + 1 ≡ t + 80 + 5 = omega arith in q)
            ∙ ap (λ m. frame_of (t + 8) word ∷ frames_from 8 0 (t + 80 + 5) true (row (is_up levels) (t + 80 + 5) m)) (let q : n - 3 - (76 + 1) ≡ n - 80 = omega arith in q)
            ∙ ap (λ fs. frame_of (t + 8) word ∷ fs) (in_time words (t + 80) (n - 80) (omega arith) next rest)
            ∙ sym (ap (λ b. cond b (frame_of (t + 8) word ∷ frames_after (t + 80) (n - 80) words) []) (lt-ltb 79 n fits))
        | inr cut ↦
            cut_off 8 (t + 8) word (is_up levels) (n - 3) f.frame (omega (arith, cut))
            ∙ sym (ap (λ b. cond b (frame_of (t + 8) word ∷ frames_after (t + 80) (n - 80) words) []) (le-ltb 79 n cut))
      ]

  -- from tick 0 on, at which no word is there yet
  pub from_the_start : (words : List ℕ) (n : ℕ) → IsReady (regs 0) (levels 0) → levels 0 ≡ 1 → (run 0).queues.front ≡ None → left 0 ≡ words → frames_from 8 0 0 true (row (is_up levels) 0 n) ≡ frames_after 1 (n - 6) words
  from_the_start words n g one front e =
      let k = run 0 in
      let d = stall_tick int s h k.view k.memory_is k.queues (regs 0) g.at front in
      let took : taken 0 ≡ None = k.taken_is ∙ ap (λ b. cond b k.queues.front None) d.takes in
      let now : levels 1 ≡ 1 = k.level_is ∙ d.level_is (levels 0) ∙ side_one int s h regs levels taken run (regs 0).begun (levels 0) g.level_is in
      let next : IsReady (regs 1) (levels 1) = record { at = subst IsPulling (sym k.registers) d.at; level_is = λ b. now } in
      let rest : left 1 ≡ words = ap (λ o. option_to_list o ++ left 1) (sym took) ∙ goes 0 ∙ e in
      high_for 8 0 6 n (is_up levels) (λ j l. ap (λ v. v == 1) ((wait_for int s h regs levels taken run 6 0 2 [] (omega arith) (pulls g one refl)).1 j l))
      ∙ in_time words 1 (n - 6) (omega arith) next rest
