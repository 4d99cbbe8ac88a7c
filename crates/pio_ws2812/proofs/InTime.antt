-- The transmitter where a word is there whenever one is left: exactly which pulses it sends, and when.
--   lead_fed         how long the pin is low before the first of some bits
use Rattle.std.proofs.Common.{◌≡◌, ◌==◌, ℕ, zero, suc, ◌+◌, ◌-◌, ◌*◌, ◌^◌, ◌<◌, ◌≤◌, inl, inr, min, Bool, true, false, cond, Option, Some, None, option_to_list, List, [], ◌∷◌, ◌++◌, slice_get, refl, sym, ap, subst, ◌∙◌, arith, append_assoc}
use Rattle.std.proofs.lemmas.Grind.{flat_map-append}
use Rattle.std.proofs.Math.Nat.{mul-le-mul_right}
use Rattle.std.proofs.lemmas.Bool.{cases_lt, lt-ltb, le-ltb}
use Rattle.pin_matrix.specs.declared.machine.MachineSetup.{MachineSetup}
use Rattle.sm_registers.specs.declared.registers.Registers.{Registers}
use Rattle.sm_registers.specs.Tick.{tick_of}
use Rattle.program_runs.specs.Levels.{row}
use Rattle.program_runs.specs.Steps.{IsStep, takes}
use Rattle.pio_ws2812.specs.Pulses.{lows, pulses_from}
use Rattle.pio_ws2812.specs.Sending.{word_bits, bits_of, high_of, low_of}
use Rattle.pio_ws2812.specs.Feeding.{low_fed, pulses_fed}
use Rattle.pio_ws2812.specs.Transmitter.{ws2812_memory, IsLightMachine}
use Rattle.pio_ws2812.proofs.Clocked.{stay}
use Rattle.pio_ws2812.proofs.Instructions.{AreMapped}
use Rattle.pio_ws2812.proofs.Numbers.{mul_add}
use Rattle.pio_ws2812.proofs.PulseRows.{row_at, no_pulses, stays, lows-for, low_in, before_pulse, pulse_of, lead_of}
use Rattle.pio_ws2812.proofs.Sent.{bit_row}
use Rattle.pio_ws2812.proofs.Transmitting.{IsReady, sends, waits}

-- how many of the clocks that are left are low before the first of these bits
abbrev lead_fed : (int n : ℕ) → List Bool → ℕ
lead_fed int n [] = n
lead_fed int n (bit ∷ bits) = min (3 * int) n

-- lists
none_of : (o : Option ℕ) (ws : List ℕ) → option_to_list o ++ ws ≡ [] → (o ≡ None) × (ws ≡ [])
none_of None ws e = (refl, e)
none_of (Some w) ws e = absurd (never e) where
  never : w ∷ ws ≡ [] → ⊥
  never e = cc

no_front : (ws : List ℕ) → slice_get ws 0 ≡ None → ws ≡ []
no_front [] e = refl
no_front (w ∷ ws) e = absurd (never e) where
  never : Some w ≡ None → ⊥
  never e = cc

-- from an empty TX no word is taken
not_taken : (take : Bool) (front : Option ℕ) → front ≡ None → cond take front None ≡ None
not_taken true front e = e
not_taken false front e = refl

first_is : (a b : Bool) (xs ys : List Bool) → a ∷ xs ≡ b ∷ ys → (a ≡ b) × (xs ≡ ys)
first_is a b xs ys e = (cc, cc)

-- the low after a pulse, up to the next one or the end
last_low : (int clocks from start n : ℕ) (bit : Bool) → n ≡ clocks - from → start ≡ from + 3 * int → low_in int n bit + (n - 10 * int) ≡ clocks - (start + high_of int bit)
last_low int clocks from start n true e f = omega (arith, e, f)
last_low int clocks from start n false e f = omega (arith, e, f)

next_low : (int clocks from start n : ℕ) (bit : Bool) → n ≡ clocks - from → start ≡ from + 3 * int → low_in int n bit + min (3 * int) (n - 10 * int) ≡ min (low_of int bit) (clocks - (start + high_of int bit))
next_low int clocks from start n true e f = omega (arith, e, f)
next_low int clocks from start n false e f = omega (arith, e, f)

low_is : (int clocks from start n : ℕ) (bit : Bool) (bits : List Bool) → n ≡ clocks - from → start ≡ from + 3 * int → low_in int n bit + lead_fed int (n - 10 * int) bits ≡ low_fed int (clocks - (start + high_of int bit)) bit bits
low_is int clocks from start n bit [] e f = last_low int clocks from start n bit e f
low_is int clocks from start n bit (next ∷ bits) e f = next_low int clocks from start n bit e f

module _ (int : ℕ) (some : 1 ≤ int) (pin : ℕ) (s : MachineSetup) (h : IsLightMachine int pin s) (is_pin : pin < 32) (mapped : AreMapped) (regs : ℕ → Registers) (levels : ℕ → ℕ) (taken : ℕ → Option ℕ)
    (run : (t : ℕ) → IsStep s ws2812_memory pin (regs t) (levels t) (regs (t + 1)) (levels (t + 1)) (taken t))
    (words : (t w : ℕ) → (run t).queues.front ≡ Some w → w < 2 ^ 32)
    (at : ℕ → Bool) (held : (t e : ℕ) → e < int → at (int * t + e) ≡ (levels (t + 1) == 1))
    (left : ℕ → List ℕ) (goes : (t : ℕ) → option_to_list (taken t) ++ left (t + 1) ≡ left t) (supply : (t : ℕ) → 1 ≤ t → (run t).queues.front ≡ slice_get (left t) 0) where
  -- where no word is left, the pin stays low
  stays_low : (k t : ℕ) → IsReady (regs t) (levels t) [] → left t ≡ [] → levels (t + k + 1) ≡ 0
  stays_low zero t g e = ap levels (let f : t + 0 + 1 ≡ t + 1 = omega arith in f) ∙ (waits int pin s h is_pin mapped regs levels taken run words t g).low
  stays_low (suc k) t g e =
      let w = waits int pin s h is_pin mapped regs levels taken run words t g in
      let n = none_of (taken t) (left (t + 1)) (goes t ∙ e) in
      ap levels (let f : t + suc k + 1 ≡ t + 1 + k + 1 = omega arith in f)
      ∙ stays_low k (t + 1) (subst (IsReady (regs (t + 1)) (levels (t + 1))) (ap (λ o. bits_of (option_to_list o)) n.0) w.next) n.1

  -- the words that are taken in some ticks, and those that are left then
  left_for : (n t : ℕ) → takes taken t n ++ left (t + n) ≡ left t
  left_for zero t = ap left (let e : t + 0 ≡ t = omega arith in e)
  left_for (suc n) t =
      append_assoc (option_to_list (taken t)) (takes taken (t + 1) n) (left (t + suc n))
      ∙ ap (λ ws. option_to_list (taken t) ++ ws) (ap (λ k. takes taken (t + 1) n ++ left k) (let e : t + suc n ≡ t + 1 + n = omega arith in e) ∙ left_for n (t + 1)) ∙ goes t

  -- where a tick leaves no bit, no word is left
  none_left : (t : ℕ) → 1 ≤ t → (run t).queues.front ≡ None → left (t + 1) ≡ []
  none_left t l e = (none_of (taken t) (left (t + 1)) (goes t ∙ no_front (left t) (sym (supply t l) ∙ e))).1

  -- the pulses from a tick on at which a bit begins, and the low before them
  pub record IsFed (clocks t : ℕ) (j : ℕ) (bits : List Bool) : Type 0 where
    pub pulses_are : pulses_from (int * t) false (row at (int * t) (clocks - int * t)) ≡ pulses_fed int clocks j bits
    pub lead_is : lows (row at (int * t) (clocks - int * t)) ≡ lead_fed int (clocks - int * t) bits

  -- nothing more
  ends : (clocks t j : ℕ) → IsReady (regs t) (levels t) [] → left t ≡ [] → IsFed clocks t j []
  ends clocks t j g e =
      let n = clocks - int * t in
      let low : (i : ℕ) → i < n * int → at (int * t + i) ≡ false = stay int at (λ k. levels (k + 1) == 1) held n t false (λ i l. ap (λ v. v == 1) (stays_low i t g e)) in
      let wide : n ≤ n * int = let m = mul-le-mul_right {m = 1} {n = int} n some in grind arith in
      let few : (i : ℕ) → i < n → at (int * t + i) ≡ false = λ i l. low i (omega (arith, l, wide)) in
      let nothing : n - n ≡ 0 = omega arith in record {
        pulses_are = stays n (int * t) n at false few ∙ ap (λ k. pulses_from (int * t + n) false (row at (int * t + n) k)) nothing ∙ no_pulses (int * t + n) false;
        lead_is = lows-for n (int * t) n at few ∙ ap (λ k. min n n + lows (row at (int * t + n) k)) nothing ∙ (let f : min n n + 0 ≡ n = omega arith in f);
      }

  -- one bit, before the bits after it
  one_bit : (clocks t j : ℕ) (bit : Bool) (hand bits : List Bool) → t ≡ 2 + 10 * j → IsReady (regs t) (levels t) (bit ∷ hand) → IsFed clocks (t + 10) (j + 1) bits → IsFed clocks t j (bit ∷ bits)
  one_bit clocks t j bit hand bits is g f =
      let n = clocks - int * t in
      let b = sends int pin s h is_pin mapped regs levels taken run words t bit hand g in
      let r = bit_row int some pin s h is_pin mapped regs levels taken run words at held t bit hand b in
      let start : int * (5 + 10 * j) ≡ int * t + 3 * int = ap (λ k. int * k) (let e : 5 + 10 * j ≡ t + 3 = omega (arith, is) in e) ∙ mul_add int t 3 in
      let clock : int * t + 10 * int ≡ int * (t + 10) = sym (mul_add int t 10) in
      let rest : n - 10 * int ≡ clocks - int * (t + 10) = let m = mul_add int t 10 in omega (arith, m) in
      record {
        pulses_are = elim (cases_lt (3 * int) n) [
          | inl long ↦
              pulse_of int (int * t) n at bit some r long
              ∙ ap (λ k. record { start = k; high = min (high_of int bit) (n - 3 * int); low = low_in int n bit + lows (row at (int * t + 10 * int) (n - 10 * int)) } ∷ pulses_from (int * t + 10 * int) false (row at (int * t + 10 * int) (n - 10 * int))) (sym start)
              ∙ ap (λ k. record { start = int * (5 + 10 * j); high = min (high_of int bit) k; low = low_in int n bit + lows (row at (int * t + 10 * int) (n - 10 * int)) } ∷ pulses_from (int * t + 10 * int) false (row at (int * t + 10 * int) (n - 10 * int))) (let e : n - 3 * int ≡ clocks - int * (5 + 10 * j) = omega (arith, start) in e)
              ∙ ap (λ k. record { start = int * (5 + 10 * j); high = min (high_of int bit) (clocks - int * (5 + 10 * j)); low = k } ∷ pulses_from (int * t + 10 * int) false (row at (int * t + 10 * int) (n - 10 * int)))
              (ap (λ k. low_in int n bit + k) (ap lows (row_at at (int * t + 10 * int) (int * (t + 10)) (n - 10 * int) (clocks - int * (t + 10)) clock rest) ∙ f.lead_is ∙ ap (λ k. lead_fed int k bits) (sym rest))
              ∙ low_is int clocks (int * t) (int * (5 + 10 * j)) n bit bits refl start)
              ∙ ap (λ ps. record { start = int * (5 + 10 * j); high = min (high_of int bit) (clocks - int * (5 + 10 * j)); low = low_fed int (clocks - (int * (5 + 10 * j) + high_of int bit)) bit bits } ∷ ps)
              (ap (λ c. pulses_from c false (row at c (n - 10 * int))) clock ∙ ap (λ k. pulses_from (int * (t + 10)) false (row at (int * (t + 10)) k)) rest ∙ f.pulses_are)
              ∙ sym (ap (λ v. cond v (record { start = int * (5 + 10 * j); high = min (high_of int bit) (clocks - int * (5 + 10 * j)); low = low_fed int (clocks - (int * (5 + 10 * j) + high_of int bit)) bit bits } ∷ pulses_fed int clocks (j + 1) bits) []) (lt-ltb (int * (5 + 10 * j)) clocks (omega (arith, start, long))))
          | inr short ↦
              before_pulse int (int * t) n at bit r short
              ∙ sym (ap (λ v. cond v (record { start = int * (5 + 10 * j); high = min (high_of int bit) (clocks - int * (5 + 10 * j)); low = low_fed int (clocks - (int * (5 + 10 * j) + high_of int bit)) bit bits } ∷ pulses_fed int clocks (j + 1) bits) []) (le-ltb (int * (5 + 10 * j)) clocks (omega (arith, start, short))))
        ];
        lead_is = lead_of int (int * t) n at bit some r;
      }

  -- the bits that are left
  pub in_time : (bits : List Bool) (clocks t j : ℕ) (hand : List Bool) → t ≡ 2 + 10 * j → IsReady (regs t) (levels t) hand → hand ++ bits_of (left t) ≡ bits → (hand ≡ [] → left t ≡ []) → IsFed clocks t j bits
  in_time [] clocks t j [] is g e dry = ends clocks t j g (dry refl)
  in_time [] clocks t j (bit ∷ hand) is g e dry = absurd (never e) where
    never : bit ∷ (hand ++ bits_of (left t)) ≡ [] → ⊥
    never e = cc
  in_time (b ∷ bits) clocks t j [] is g e dry = absurd (never (sym e ∙ ap bits_of (dry refl))) where
    never : b ∷ bits ≡ [] → ⊥
    never e = cc
  in_time (b ∷ bits) clocks t j (bit ∷ hand) is g e dry =
      let same = first_is bit b (hand ++ bits_of (left t)) bits e in
      let k = sends int pin s h is_pin mapped regs levels taken run words t bit hand g in
      let more : (hand ++ bits_of (takes taken t 10)) ++ bits_of (left (t + 10)) ≡ bits =
      append_assoc hand (bits_of (takes taken t 10)) (bits_of (left (t + 10))) ∙ ap (λ bs. hand ++ bs) (sym (flat_map-append word_bits (takes taken t 10) (left (t + 10))) ∙ ap bits_of (left_for 10 t)) ∙ same.1 in
      subst (λ v. IsFed clocks t j (v ∷ bits)) same.0
      (one_bit clocks t j bit hand bits is g
      (in_time bits clocks (t + 10) (j + 1) (hand ++ bits_of (takes taken t 10)) (omega (arith, is)) k.next more
      (λ d. ap left (let q : t + 10 ≡ t + 9 + 1 = omega arith in q) ∙ none_left (t + 9) (omega (arith, is)) (k.dry d))))

  -- from tick 0 on, at which no word is there yet
  pub from_the_start : (clocks : ℕ) (fed : List ℕ) → IsReady (regs 0) (levels 0) [] → (run 0).queues.front ≡ None → left 0 ≡ fed
      → pulses_from (int * 0) false (row at (int * 0) clocks) ≡ pulses_fed int clocks 0 (bits_of fed)
  from_the_start clocks fed g front e =
      let w0 = waits int pin s h is_pin mapped regs levels taken run words 0 g in
      let none : taken 0 ≡ None = (run 0).taken_is ∙ not_taken (tick_of s (run 0).view (run 0).queues (regs 0)).1.take (run 0).queues.front front in
      let g1 : IsReady (regs 1) (levels 1) [] = subst (IsReady (regs 1) (levels 1)) (ap (λ o. bits_of (option_to_list o)) none) w0.next in
      let left1 : left 1 ≡ fed = ap (λ o. option_to_list o ++ left 1) (sym none) ∙ goes 0 ∙ e in
      let w1 = waits int pin s h is_pin mapped regs levels taken run words 1 g1 in
      let bits : bits_of (option_to_list (taken 1)) ++ bits_of (left 2) ≡ bits_of fed = sym (flat_map-append word_bits (option_to_list (taken 1)) (left 2)) ∙ ap bits_of (goes 1 ∙ left1) in
      let f = in_time (bits_of fed) clocks 2 0 (bits_of (option_to_list (taken 1))) (omega arith) w1.next bits (λ d. none_left 1 (omega arith) (w1.dry d)) in
      let low : (j : ℕ) → j < 2 * int → at (int * 0 + j) ≡ false = stay int at (λ k. levels (k + 1) == 1) held 2 0 false (two w0.low w1.low) in
      let clock : int * 0 + 2 * int ≡ int * 2 = omega arith in
      stays (2 * int) (int * 0) clocks at false low ∙ ap (λ c. pulses_from c false (row at c (clocks - 2 * int))) clock
      ∙ ap (λ k. pulses_from (int * 2) false (row at (int * 2) k)) (let q : clocks - 2 * int ≡ clocks - int * 2 = omega arith in q) ∙ f.pulses_are where
        two : levels 1 ≡ 0 → levels 2 ≡ 0 → (j : ℕ) → j < 2 → (levels (0 + j + 1) == 1) ≡ false
        two a b zero l = ap (λ n. n == 1) a
        two a b (suc zero) l = ap (λ n. n == 1) b
        two a b (suc (suc j)) l = absurd (omega (arith, l))
