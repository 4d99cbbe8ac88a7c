-- The transmitter tick by tick: how it waits for a word, and what it sends of one.
use Rattle.std.proofs.Common.{◌≡◌, ℕ, zero, suc, ◌+◌, ◌-◌, ◌*◌, ◌/◌, ◌%◌, ◌^◌, ◌<◌, ◌≤◌, Bool, true, false, cond, Option, Some, None, List, [], ◌∷◌, ◌++◌, refl, sym, ap, ◌∙◌, subst, arith, append-nil, append_assoc}
use Rattle.std.specs.Prelude.{option_to_list}
use Rattle.std.proofs.lemmas.Nat.{shr-shr}
use Rattle.pin_matrix.specs.declared.machine.MachineSetup.{MachineSetup}
use Rattle.sm_registers.specs.declared.registers.Registers.{Registers}
use Rattle.sm_registers.specs.View.{View}
use Rattle.sm_registers.specs.Queues.{Queues}
use Rattle.sm_registers.specs.Tick.{tick_of}
use Rattle.pio_uart.specs.Transmitter.{uart_memory, IsUartMachine}
use Rattle.program_runs.specs.Steps.{IsAtInstruction, IsStep, takes}
use Rattle.pio_uart.specs.Phases.{IsPulling}
use Rattle.pio_uart.proofs.Instructions.{IsTicked, delay_tick, set_tick, out_tick, loop_tick, last_tick, pull_tick, stall_tick}
use Rattle.pio_uart.proofs.Keeping.{Keeps, keeps-join, keeps-one}

-- the machine at the start of a tick: where it is, with X, OSR and pin 0's level
pub record IsThere (r : Registers) (now : ℕ) (address left x osr level : ℕ) : Type 0 where
  pub at : IsAtInstruction address left r
  pub x_is : r.x ≡ x
  pub osr_is : r.osr ≡ osr
  pub level_is : now ≡ level

-- it waits for a word with pin 0 high, or begins to
pub record IsReady (r : Registers) (now : ℕ) : Type 0 where
  pub at : IsPulling r
  pub level_is : r.begun ≡ true → now ≡ 1

-- No frame is under way and pin 0 is high: it waits for a word, or it has one and so many ticks are left at least before its start
-- bit. The words are those that it has.
pub data IsWaiting (r : Registers) (now least : ℕ) (words : List ℕ) : Type 0 where
  pulls : IsReady r now → now ≡ 1 → words ≡ [] → IsWaiting r now least words
  rests : (left : ℕ) → least ≤ left → IsAtInstruction 1 left r → now ≡ 1 → words ≡ r.osr ∷ [] → IsWaiting r now least words

module _ (int : ℕ) (s : MachineSetup) (h : IsUartMachine int s) (regs : ℕ → Registers) (levels : ℕ → ℕ) (taken : ℕ → Option ℕ)
    (run : (t : ℕ) → IsStep s uart_memory 0 (regs t) (levels t) (regs (t + 1)) (levels (t + 1)) (taken t)) where
  -- after a tick that takes nothing
  moved : (t address left x0 x osr0 osr now : ℕ) (level : ℕ → ℕ) → ((v : View) (q : Queues) → v.memory ≡ uart_memory → IsTicked (tick_of s v q (regs t)) address left x0 osr0 false level)
      → x0 ≡ x → osr0 ≡ osr → level (levels t) ≡ now → IsThere (regs (t + 1)) (levels (t + 1)) address left x osr now × Keeps levels taken t 1 now
  moved t address left x0 x osr0 osr now level ticked ex eo same =
      let k = run t in
      let d = ticked k.view k.queues k.memory_is in
      let next : levels (t + 1) ≡ now = k.level_is ∙ d.level_is (levels t) ∙ same in (
        record {
          at = subst (IsAtInstruction address left) (sym k.registers) d.at;
          x_is = ap (λ (r : Registers). r.x) k.registers ∙ d.x_is ∙ ex;
          osr_is = ap (λ (r : Registers). r.osr) k.registers ∙ d.osr_is ∙ eo;
          level_is = next;
        },
        keeps-one levels taken t now next (k.taken_is ∙ ap (λ b. cond b k.queues.front None) d.takes),
      )

  there_at : (t u address left x osr now : ℕ) → t ≡ u → IsThere (regs t) (levels t) address left x osr now → IsThere (regs u) (levels u) address left x osr now
  there_at t u address left x osr now e g = subst (λ k. IsThere (regs k) (levels k) address left x osr now) e g

  keeps_at : (t u n m now : ℕ) → t ≡ u → n ≡ m → Keeps levels taken t n now → Keeps levels taken u m now
  keeps_at t u n m now e f k = subst (λ a. Keeps levels taken a m now) e (subst (λ a. Keeps levels taken t a now) f k)

  -- the ticks of a delay
  pub rests_for : (n t address left x osr now : ℕ) → IsThere (regs t) (levels t) address (n + left) x osr now → IsThere (regs (t + n)) (levels (t + n)) address left x osr now × Keeps levels taken t n now
  rests_for zero t address left x osr now g = (
    there_at t (t + 0) address left x osr now (omega arith) (subst (λ k. IsThere (regs t) (levels t) address k x osr now) (let e : 0 + left ≡ left = omega arith in e) g),
    record { levels_are = λ j l. absurd (omega (arith, l)); nothing = λ j l. absurd (omega (arith, l)) },
  )
  rests_for (suc n) t address left x osr now g =
      let at : IsAtInstruction address (suc (n + left)) (regs t) = subst (λ k. IsAtInstruction address k (regs t)) (let e : suc n + left ≡ suc (n + left) = omega arith in e) g.at in
      let one = moved t address (n + left) (regs t).x x (regs t).osr osr now (λ old. old) (λ v q m. delay_tick int s h v m q (regs t) address (n + left) at) g.x_is g.osr_is g.level_is in
      let more = rests_for n (t + 1) address left x osr now one.0 in (
        there_at (t + 1 + n) (t + suc n) address left x osr now (omega arith) more.0,
        keeps_at t t (1 + n) (suc n) now refl (omega arith) (keeps-join levels taken t 1 n now one.1 more.1),
      )

  -- a data bit: OUT, and JMP with its delay
  sends_bit : (t x osr now : ℕ) → IsThere (regs t) (levels t) 2 0 x osr now → IsThere (regs (t + 1)) (levels (t + 1)) 3 0 x (osr / 2) (osr % 2) × Keeps levels taken t 1 (osr % 2)
  sends_bit t x osr now g = moved t 3 0 (regs t).x x ((regs t).osr / 2) (osr / 2) (osr % 2) (λ old. (regs t).osr % 2) (λ v q m. out_tick int s h v m q (regs t) g.at) g.x_is (ap (λ o. o / 2) g.osr_is) (ap (λ o. o % 2) g.osr_is)

  -- JMP with its delay, to an address
  bit_ends : (t address x x1 osr now level : ℕ) → Keeps levels taken t 1 level → IsThere (regs (t + 1 + 1)) (levels (t + 1 + 1)) address 6 x osr level × Keeps levels taken (t + 1) 1 level
      → IsThere (regs (t + 8)) (levels (t + 8)) address 0 x osr level × Keeps levels taken t 8 level
  bit_ends t address x x1 osr now level first jump =
      let rest = rests_for 6 (t + 1 + 1) address 0 x osr level jump.0 in (
        there_at (t + 1 + 1 + 6) (t + 8) address 0 x osr level (omega arith) rest.0,
        keeps-join levels taken t 1 7 level first (keeps-join levels taken (t + 1) 1 6 level jump.1 rest.1),
      )

  bit_more : (t x osr now : ℕ) → suc x < 8 → IsThere (regs t) (levels t) 2 0 (suc x) osr now → IsThere (regs (t + 8)) (levels (t + 8)) 2 0 x (osr / 2) (osr % 2) × Keeps levels taken t 8 (osr % 2)
  bit_more t x osr now l g =
      let a = sends_bit t (suc x) osr now g in
      bit_ends t 2 x x (osr / 2) now (osr % 2) a.1 (moved (t + 1) 2 6 x x (regs (t + 1)).osr (osr / 2) (osr % 2) (λ old. old) (λ v q m. loop_tick int s h v m q (regs (t + 1)) x a.0.at a.0.x_is (omega (arith, l))) refl a.0.osr_is a.0.level_is)

  bit_last : (t osr now : ℕ) → IsThere (regs t) (levels t) 2 0 0 osr now → IsThere (regs (t + 8)) (levels (t + 8)) 0 0 (2 ^ 32 - 1) (osr / 2) (osr % 2) × Keeps levels taken t 8 (osr % 2)
  bit_last t osr now g =
      let a = sends_bit t 0 osr now g in
      bit_ends t 0 (2 ^ 32 - 1) 0 (osr / 2) now (osr % 2) a.1 (moved (t + 1) 0 6 (2 ^ 32 - 1) (2 ^ 32 - 1) (regs (t + 1)).osr (osr / 2) (osr % 2) (λ old. old) (λ v q m. last_tick int s h v m q (regs (t + 1)) a.0.at a.0.x_is) refl a.0.osr_is a.0.level_is)

  -- the data bits that are left
  data_bits : (x t osr now : ℕ) → x < 8 → IsThere (regs t) (levels t) 2 0 x osr now → IsAtInstruction 0 0 (regs (t + 8 * (x + 1))) × ((i : ℕ) → i ≤ x → Keeps levels taken (t + 8 * i) 8 (osr / 2 ^ i % 2))
  data_bits zero t osr now l g = let b = bit_last t osr now g in (
    b.0.at,
    λ i m. subst (λ k. Keeps levels taken (t + 8 * k) 8 (osr / 2 ^ k % 2)) (let e : 0 ≡ i = omega (arith, m) in e) (keeps_at t (t + 8 * 0) 8 8 (osr / 2 ^ 0 % 2) (omega arith) refl (subst (Keeps levels taken t 8) (let e : osr % 2 ≡ osr / 2 ^ 0 % 2 = omega arith in e) b.1)),
  )
  data_bits (suc x) t osr now l g =
      let b = bit_more t x osr now l g in
      let more = data_bits x (t + 8) (osr / 2) (osr % 2) (omega (arith, l)) b.0 in (
        subst (λ k. IsAtInstruction 0 0 (regs k)) (let e : t + 8 + 8 * (x + 1) ≡ t + 8 * (suc x + 1) = omega arith in e) more.0,
        each b.1 more.1,
      ) where
        each : Keeps levels taken t 8 (osr % 2) → ((i : ℕ) → i ≤ x → Keeps levels taken (t + 8 + 8 * i) 8 (osr / 2 / 2 ^ i % 2)) → (i : ℕ) → i ≤ suc x → Keeps levels taken (t + 8 * i) 8 (osr / 2 ^ i % 2)
        each first rest zero m = keeps_at t (t + 8 * 0) 8 8 (osr / 2 ^ 0 % 2) (omega arith) refl (subst (Keeps levels taken t 8) (let e : osr % 2 ≡ osr / 2 ^ 0 % 2 = omega arith in e) first)
        each first rest (suc i) m =
            keeps_at (t + 8 + 8 * i) (t + 8 * suc i) 8 8 (osr / 2 ^ suc i % 2) (omega arith) refl
            (subst (λ w. Keeps levels taken (t + 8 + 8 * i) 8 (w % 2)) (shr-shr osr 1 i ∙ ap (λ k. osr / 2 ^ k) (let e : 1 + i ≡ suc i = omega arith in e)) (rest i (omega (arith, m))))

  -- SET with the start bit, and the data bits
  pub sends : (t word : ℕ) → IsAtInstruction 1 0 (regs t) → (regs t).osr ≡ word → Keeps levels taken t 8 0 × ((i : ℕ) → i < 8 → Keeps levels taken (t + 8 + 8 * i) 8 (word / 2 ^ i % 2)) × IsAtInstruction 0 0 (regs (t + 72))
  sends t word at osr =
      let a = moved t 2 7 7 7 (regs t).osr word 0 (λ old. 0) (λ v q m. set_tick int s h v m q (regs t) at) refl osr refl in
      let b = rests_for 7 (t + 1) 2 0 7 word 0 a.0 in
      let c = data_bits 7 (t + 8) word 0 (omega arith) (there_at (t + 1 + 7) (t + 8) 2 0 7 word 0 (omega arith) b.0) in (
        keeps-join levels taken t 1 7 0 a.1 b.1,
        λ i l. c.1 i (omega (arith, l)),
        subst (λ k. IsAtInstruction 0 0 (regs k)) (let e : t + 8 + 8 * (7 + 1) ≡ t + 72 = omega arith in e) c.0,
      )

  pub weaken : (t more least : ℕ) (words : List ℕ) → least ≤ more → IsWaiting (regs t) (levels t) more words → IsWaiting (regs t) (levels t) least words
  weaken t more least words l (pulls ready high none) = pulls ready high none
  weaken t more least words l (rests left m at high has) = rests left (omega (arith, l, m)) at high has

  pub high : (t least : ℕ) (words : List ℕ) → IsWaiting (regs t) (levels t) least words → levels t ≡ 1
  high t least words (pulls ready one none) = one
  high t least words (rests left m at one has) = one

  pub side_one : (begun : Bool) (old : ℕ) → (begun ≡ true → old ≡ 1) → cond begun old 1 ≡ 1
  side_one true old f = f refl
  side_one false old f = refl

  -- PULL, which takes a word where there is one
  pub pull : (t : ℕ) → IsReady (regs t) (levels t) → IsWaiting (regs (t + 1)) (levels (t + 1)) 7 (option_to_list (taken t))
  pull t g = by (run t).queues.front refl where
    by : (o : Option ℕ) → (run t).queues.front ≡ o → IsWaiting (regs (t + 1)) (levels (t + 1)) 7 (option_to_list (taken t))
    by (Some word) e =
        let k = run t in
        let d = pull_tick int s h k.view k.memory_is k.queues (regs t) word g.at e in
        rests 7 (omega arith) (subst (IsAtInstruction 1 7) (sym k.registers) d.at) (k.level_is ∙ d.level_is (levels t) ∙ side_one (regs t).begun (levels t) g.level_is)
        (ap option_to_list (k.taken_is ∙ ap (λ b. cond b k.queues.front None) d.takes ∙ e) ∙ ap (λ w. w ∷ []) (sym (ap (λ (r : Registers). r.osr) k.registers ∙ d.osr_is)))
    by None e =
        let k = run t in
        let d = stall_tick int s h k.view k.memory_is k.queues (regs t) g.at e in
        let one : levels (t + 1) ≡ 1 = k.level_is ∙ d.level_is (levels t) ∙ side_one (regs t).begun (levels t) g.level_is in
        pulls (record { at = subst IsPulling (sym k.registers) d.at; level_is = λ b. one }) one (ap option_to_list (k.taken_is ∙ ap (λ b. cond b k.queues.front None) d.takes))

  -- a tick before the start bit
  pub wait : (t least : ℕ) (words : List ℕ) → least < 8 → IsWaiting (regs t) (levels t) (suc least) words → IsWaiting (regs (t + 1)) (levels (t + 1)) least (words ++ option_to_list (taken t))
  wait t least words l (pulls ready one none) =
      subst (IsWaiting (regs (t + 1)) (levels (t + 1)) least) (ap (λ ws. ws ++ option_to_list (taken t)) (sym none)) (weaken (t + 1) 7 least (option_to_list (taken t)) (omega (arith, l)) (pull t ready))
  wait t least words l (rests left m at one has) =
      let at' : IsAtInstruction 1 (suc (left - 1)) (regs t) = subst (λ k. IsAtInstruction 1 k (regs t)) (let e : left ≡ suc (left - 1) = omega (arith, m) in e) at in
      let d = moved t 1 (left - 1) (regs t).x (regs t).x (regs t).osr (regs t).osr 1 (λ old. old) (λ v q m. delay_tick int s h v m q (regs t) 1 (left - 1) at') refl refl one in
      let nothing : taken t ≡ None = ap taken (let e : t ≡ t + 0 = omega arith in e) ∙ d.1.nothing 0 (omega arith) in
      rests (left - 1) (omega (arith, m)) d.0.at d.0.level_is
      (ap (λ o. words ++ option_to_list o) nothing ∙ append-nil words ∙ has ∙ ap (λ o. o ∷ []) (sym d.0.osr_is))

  -- some ticks before it
  pub wait_for : (n t least : ℕ) (words : List ℕ) → n + least < 9 → IsWaiting (regs t) (levels t) (n + least) words
      → IsWaiting (regs (t + n)) (levels (t + n)) least (words ++ takes taken t n) × ((j : ℕ) → j < n → levels (t + j + 1) ≡ 1)
  wait_for zero t least words l g = (
    subst (λ k. IsWaiting (regs k) (levels k) least (words ++ [])) (let e : t ≡ t + 0 = omega arith in e)
        (subst (IsWaiting (regs t) (levels t) least) (sym (append-nil words)) (subst (λ k. IsWaiting (regs t) (levels t) k words) (let e : 0 + least ≡ least = omega arith in e) g)),
    λ j m. absurd (omega (arith, m)),
  )
  wait_for (suc n) t least words l g =
      let one = wait t (n + least) words (omega (arith, l)) (subst (λ k. IsWaiting (regs t) (levels t) k words) (let e : suc n + least ≡ suc (n + least) = omega arith in e) g) in
      let more = wait_for n (t + 1) least (words ++ option_to_list (taken t)) (omega (arith, l)) one in (
        subst (IsWaiting (regs (t + suc n)) (levels (t + suc n)) least) (append_assoc words (option_to_list (taken t)) (takes taken (t + 1) n))
            (subst (λ k. IsWaiting (regs k) (levels k) least ((words ++ option_to_list (taken t)) ++ takes taken (t + 1) n)) (let e : t + 1 + n ≡ t + suc n = omega arith in e) more.0),
        each (high (t + 1) (n + least) (words ++ option_to_list (taken t)) one) more.1,
      ) where
        each : levels (t + 1) ≡ 1 → ((j : ℕ) → j < n → levels (t + 1 + j + 1) ≡ 1) → (j : ℕ) → j < suc n → levels (t + j + 1) ≡ 1
        each first rest zero m = ap levels (let e : t + 0 + 1 ≡ t + 1 = omega arith in e) ∙ first
        each first rest (suc j) m = ap levels (let e : t + suc j + 1 ≡ t + 1 + j + 1 = omega arith in e) ∙ rest j (omega (arith, m))
