-- The pulses of the transmitter: those of the bits that it has and takes.
--   IsSoFar          what it sends in some clocks, from a tick on at which it begins an OUT
use Rattle.std.proofs.Common.{◌≡◌, ◌==◌, ℕ, zero, suc, ◌+◌, ◌-◌, ◌*◌, ◌^◌, ◌<◌, ◌≤◌, ◌⊎◌, inl, inr, nat_lt, min, Bool, true, false, cond, Option, Some, option_to_list, List, [], ◌∷◌, ◌++◌, length, refl, sym, ap, subst, ◌∙◌, arith}
use Rattle.std.proofs.Math.Nat.{mul-add, mul-suc, mul-le-mul_left}
use Rattle.std.proofs.lemmas.Grind.{flat_map-append}
use Rattle.std.proofs.lemmas.Bool.{cases_lt, lt-ltb, le-ltb}
use Rattle.pin_matrix.specs.declared.machine.MachineSetup.{MachineSetup}
use Rattle.sm_registers.specs.declared.registers.Registers.{Registers}
use Rattle.program_runs.specs.Levels.{row}
use Rattle.program_runs.specs.Steps.{IsStep, takes}
use Rattle.pio_ws2812.specs.Pulses.{Pulse, lows, pulses_from, bits_read}
use Rattle.pio_ws2812.specs.Sending.{word_bits, bits_of, high_of, low_of, low_after, IsLow, IsLastLow, AreLows, IsFirstPart, IsSent}
use Rattle.pio_ws2812.specs.Transmitter.{ws2812_memory, IsLightMachine}
use Rattle.pio_ws2812.proofs.Clocked.{stay}
use Rattle.pio_ws2812.proofs.Instructions.{AreMapped}
use Rattle.pio_ws2812.proofs.Numbers.{is_some, mul_add}
use Rattle.pio_ws2812.proofs.Places.{place_of, most, new_place, last_place, other_place, place_next}
use Rattle.pio_ws2812.proofs.PulseRows.{IsBitRow, no_pulses, stays, lows-for, lows-most, low_in, before_pulse, pulse_of, lead_of}
use Rattle.pio_ws2812.proofs.Transmitting.{IsReady, IsBit, bits-join, sends, waits, low_next}

-- With the bits that it has, and all bits from there on: the pulses, and how long the pin is low before the first of them.
pub record IsSoFar (int : ℕ) (hand bits : List Bool) (lead : ℕ) (ps : List Pulse) : Type 0 where
  pub sent : IsSent int (place_of hand) bits ps
  pub least : (p : Pulse) (more : List Pulse) → ps ≡ p ∷ more → 3 * int ≤ lead
  pub most : (bit : Bool) (bits : List Bool) → hand ≡ bit ∷ bits → lead ≤ 3 * int

empty : (p : Pulse) (more : List Pulse) → [] ≡ p ∷ more → ⊥
empty p more e = cc

no_bit : (bit : Bool) (bits : List Bool) → [] ≡ bit ∷ bits → ⊥
no_bit bit bits e = cc

nothing : (int : ℕ) (hand bits : List Bool) (lead : ℕ) → ((bit : Bool) (bits : List Bool) → hand ≡ bit ∷ bits → lead ≤ 3 * int) → IsSoFar int hand bits lead []
nothing int hand bits lead few = record {
  sent = record { high = tt; low = tt; read = λ bound l m. record { rest = bits; parts = refl } };
  least = λ p more e. absurd (empty p more e);
  most = few;
}

-- a pulse that has ended has its whole length
ended : (int n lead : ℕ) (bit : Bool) → lead ≤ n - 10 * int → 1 ≤ low_in int n bit + lead → min (high_of int bit) (n - 3 * int) ≡ high_of int bit
ended int n lead true m l = omega (arith, m, l)
ended int n lead false m l = omega (arith, m, l)

one_or_zero : (int high : ℕ) (bit : Bool) → high ≡ high_of int bit → (high ≡ 2 * int) ⊎ (high ≡ 7 * int)
one_or_zero int high true e = inr e
one_or_zero int high false e = inl e

pub told_by : (int bound : ℕ) (bit : Bool) → 2 * int ≤ bound → bound < 7 * int → nat_lt bound (high_of int bit) ≡ bit
told_by int bound true l m = lt-ltb bound (7 * int) m
told_by int bound false l m = le-ltb bound (2 * int) l

read_one : (int n lead bound : ℕ) (bit : Bool) (read rest : List Bool) → lead ≤ n - 10 * int → 2 * int ≤ bound → bound < 7 * int → IsFirstPart read rest
    → IsFirstPart (cond (low_in int n bit + lead == 0) [] (nat_lt bound (min (high_of int bit) (n - 3 * int)) ∷ read)) (bit ∷ rest)
read_one int n lead bound bit read rest most l m f = by (low_in int n bit + lead == 0) refl where
  by : (z : Bool) → (low_in int n bit + lead == 0) ≡ z → IsFirstPart (cond z [] (nat_lt bound (min (high_of int bit) (n - 3 * int)) ∷ read)) (bit ∷ rest)
  by true e = record { rest = bit ∷ rest; parts = refl }
  by false e =
      let same : nat_lt bound (min (high_of int bit) (n - 3 * int)) ≡ bit = ap (nat_lt bound) (ended int n lead bit most (is_some (low_in int n bit + lead) e)) ∙ told_by int bound bit l m in
      record { rest = f.rest; parts = ap (λ b. b ∷ rest) (sym same) ∙ ap (λ bs. nat_lt bound (min (high_of int bit) (n - 3 * int)) ∷ bs) f.parts }

-- how long the pin is low
not_longer : (int n lead : ℕ) (bit : Bool) → lead ≤ 3 * int → low_in int n bit + lead ≤ low_of int (nat_lt (2 * int) (min (high_of int bit) (n - 3 * int)))
not_longer int n lead true l = by (nat_lt (2 * int) (min (7 * int) (n - 3 * int))) where
  by : (b : Bool) → 0 + lead ≤ low_of int b
  by true = omega (arith, l)
  by false = omega (arith, l)
not_longer int n lead false l =
    subst (λ b. min (5 * int) (n - 5 * int) + lead ≤ low_of int b) (sym (le-ltb (2 * int) (min (2 * int) (n - 3 * int)) (omega arith))) (omega (arith, l))

whole_low : (int n lead : ℕ) (bit : Bool) → 1 ≤ int → 3 * int ≤ lead → lead ≤ n - 10 * int → nat_lt (2 * int) (min (high_of int bit) (n - 3 * int)) ≡ bit
whole_low int n lead true some l m = lt-ltb (2 * int) (min (7 * int) (n - 3 * int)) (omega (arith, some, l, m))
whole_low int n lead false some l m = le-ltb (2 * int) (min (2 * int) (n - 3 * int)) (omega arith)

at_least : (int n lead : ℕ) (bit : Bool) → 1 ≤ int → 3 * int ≤ lead → lead ≤ n - 10 * int → low_of int bit ≤ low_in int n bit + lead
at_least int n lead true some l m = omega (arith, l)
at_least int n lead false some l m = omega (arith, some, l, m)

exactly : (int n lead : ℕ) (bit : Bool) → 1 ≤ int → 3 * int ≤ lead → lead ≤ 3 * int → lead ≤ n - 10 * int → low_in int n bit + lead ≡ low_of int bit
exactly int n lead true some l k m = omega (arith, l, k)
exactly int n lead false some l k m = omega (arith, some, l, k, m)

module _ (int n start lead : ℕ) (bit : Bool) (some : 1 ≤ int) (within : lead ≤ n - 10 * int) where
  -- the pulse of a bit, with so many low clocks before the next one
  abbrev pulse : Pulse
  pulse = record { start = start; high = min (high_of int bit) (n - 3 * int); low = low_in int n bit + lead }

  lows_are : (bits : List Bool) (ws : List ℕ) (ps : List Pulse) → length bits < 24 → length (bits ++ bits_of ws) ≤ 24 → AreLows int (place_of (bits ++ bits_of ws)) ps
      → ((p : Pulse) (more : List Pulse) → ps ≡ p ∷ more → 3 * int ≤ lead) → ((next : Bool) (more : List Bool) → bits ++ bits_of ws ≡ next ∷ more → lead ≤ 3 * int)
      → AreLows int (place_of (bit ∷ bits)) (pulse ∷ ps)
  lows_are [] ws [] l m rest least most = subst (λ b. IsLastLow b (low_in int n bit + lead) (low_after int pulse)) (sym (last_place bit)) tt
  lows_are (next ∷ bits) ws [] l m rest least most =
      subst (λ b. IsLastLow b (low_in int n bit + lead) (low_after int pulse)) (sym (other_place bit next bits l)) (not_longer int n lead bit (most next (bits ++ bits_of ws) refl))
  lows_are [] ws (p ∷ ps) l m rest least most =
      let few = least p ps refl in (
        subst (λ b. IsLow b (low_in int n bit + lead) (low_after int pulse)) (sym (last_place bit))
            (subst (λ b. low_of int b ≤ low_in int n bit + lead) (sym (whole_low int n lead bit some few within)) (at_least int n lead bit some few within)),
        subst (λ k. AreLows int k (p ∷ ps)) (place_next bit [] ws l m) rest,
      )
  lows_are (next ∷ bits) ws (p ∷ ps) l m rest least most =
      let few = least p ps refl in (
        subst (λ b. IsLow b (low_in int n bit + lead) (low_after int pulse)) (sym (other_place bit next bits l))
            (exactly int n lead bit some few (most next (bits ++ bits_of ws) refl) within ∙ ap (low_of int) (sym (whole_low int n lead bit some few within))),
        subst (λ k. AreLows int k (p ∷ ps)) (place_next bit (next ∷ bits) ws l m) rest,
      )

  extend : (bits : List Bool) (ws : List ℕ) (rest : List Bool) (ps : List Pulse) → length bits < 24 → length (bits ++ bits_of ws) ≤ 24 → IsSoFar int (bits ++ bits_of ws) rest lead ps
      → IsSent int (place_of (bit ∷ bits)) (bit ∷ rest) (pulse ∷ ps)
  extend bits ws rest ps l m so = record {
    high = (λ low. one_or_zero int (min (high_of int bit) (n - 3 * int)) bit (ended int n lead bit within low), so.sent.high);
    low = lows_are bits ws ps l m so.sent.low so.least so.most;
    read = λ bound least most. read_one int n lead bound bit (bits_read bound ps) rest within least most (so.sent.read bound least most);
  }

module _ (int : ℕ) (some : 1 ≤ int) (pin : ℕ) (s : MachineSetup) (h : IsLightMachine int pin s) (is_pin : pin < 32) (mapped : AreMapped) (regs : ℕ → Registers) (levels : ℕ → ℕ) (taken : ℕ → Option ℕ)
    (run : (t : ℕ) → IsStep s ws2812_memory pin (regs t) (levels t) (regs (t + 1)) (levels (t + 1)) (taken t))
    (words : (t w : ℕ) → (run t).queues.front ≡ Some w → w < 2 ^ 32)
    (at : ℕ → Bool) (held : (t e : ℕ) → e < int → at (int * t + e) ≡ (levels (t + 1) == 1)) where
  -- the levels of a bit in clocks
  as_level : (bit : Bool) → (cond bit 1 0 == 1) ≡ bit
  as_level true = refl
  as_level false = refl

  pub bit_row : (t : ℕ) (bit : Bool) (bits : List Bool) → IsBit int pin s h is_pin mapped regs levels taken run words t bit bits → IsBitRow at int (int * t) bit
  bit_row t bit bits b = record {
    first = stay int at (λ k. levels (k + 1) == 1) held 3 t false (λ j l. ap (λ n. n == 1) (b.first j l));
    second = λ j l. ap at (let m = mul_add int t 3 in let e : int * t + 3 * int + j ≡ int * (t + 3) + j = omega (arith, m) in e)
        ∙ stay int at (λ k. levels (k + 1) == 1) held 2 (t + 3) true (λ i k. ap (λ n. n == 1) (b.second i k)) j l;
    third = λ j l. ap at (let m = mul_add int t 5 in let e : int * t + 5 * int + j ≡ int * (t + 5) + j = omega (arith, m) in e)
        ∙ stay int at (λ k. levels (k + 1) == 1) held 5 (t + 5) bit (λ i k. ap (λ n. n == 1) (b.third i k) ∙ as_level bit) j l;
    next = ap at (let m = mul_add int t 10 in let e : int * t + 10 * int ≡ int * (t + 10) + 0 = omega (arith, m) in e) ∙ held (t + 10) 0 (omega (arith, some))
        ∙ ap (λ n. n == 1) (low_next int pin s h is_pin mapped regs levels taken run words (t + 10) (bits ++ bits_of (takes taken t 10)) b.next);
  }

  at_clock : (hand bits : List Bool) (a b m n : ℕ) → a ≡ b → m ≡ n → IsSoFar int hand bits (lows (row at a m)) (pulses_from a false (row at a m)) → IsSoFar int hand bits (lows (row at b n)) (pulses_from b false (row at b n))
  at_clock hand bits a b m n e f k =
      subst (λ c. IsSoFar int hand bits (lows (row at c n)) (pulses_from c false (row at c n))) e (subst (λ j. IsSoFar int hand bits (lows (row at a j)) (pulses_from a false (row at a j))) f k)

  no_clocks : (hand bits : List Bool) (clock : ℕ) → IsSoFar int hand bits (lows (row at clock 0)) (pulses_from clock false (row at clock 0))
  no_clocks hand bits clock = subst (IsSoFar int hand bits 0) (sym (no_pulses clock false)) (nothing int hand bits 0 (λ bit more e. omega arith))

  -- a tick of an OUT that waits
  waiting : (t n k : ℕ) → IsReady (regs t) (levels t) []
      → IsSoFar int (bits_of (option_to_list (taken t))) (bits_of (option_to_list (taken t)) ++ bits_of (takes taken (t + 1) k)) (lows (row at (int * (t + 1)) (n - int))) (pulses_from (int * (t + 1)) false (row at (int * (t + 1)) (n - int)))
      → IsSoFar int [] ([] ++ bits_of (takes taken t (suc k))) (lows (row at (int * t) n)) (pulses_from (int * t) false (row at (int * t) n))
  waiting t n k g so =
      let w = waits int pin s h is_pin mapped regs levels taken run words t g in
      let low : (j : ℕ) → j < int → at (int * t + j) ≡ false = λ j l. held t j l ∙ ap (λ n. n == 1) w.low in
      let clock : int * t + int ≡ int * (t + 1) = let m = mul-add int t 1 in omega (arith, m) in
      let ps : pulses_from (int * t) false (row at (int * t) n) ≡ pulses_from (int * (t + 1)) false (row at (int * (t + 1)) (n - int)) = stays int (int * t) n at false low ∙ ap (λ c. pulses_from c false (row at c (n - int))) clock in
      let lead : lows (row at (int * t) n) ≡ min int n + lows (row at (int * (t + 1)) (n - int)) = lows-for int (int * t) n at low ∙ ap (λ c. min int n + lows (row at c (n - int))) clock in
      record {
        sent = subst (IsSent int 0 (bits_of (takes taken t (suc k)))) (sym ps)
            (subst (λ p. IsSent int p (bits_of (takes taken t (suc k))) (pulses_from (int * (t + 1)) false (row at (int * (t + 1)) (n - int)))) (new_place (taken t))
            (subst (λ bs. IsSent int (place_of (bits_of (option_to_list (taken t)))) bs (pulses_from (int * (t + 1)) false (row at (int * (t + 1)) (n - int)))) (sym (flat_map-append word_bits (option_to_list (taken t)) (takes taken (t + 1) k))) so.sent));
        least = λ p more e. let l = so.least p more (sym ps ∙ e) in omega (arith, lead, l);
        most = λ bit more e. absurd (no_bit bit more e);
      }

  -- a bit
  sending : (t n : ℕ) (bit : Bool) (bits rest : List Bool) → IsReady (regs t) (levels t) (bit ∷ bits)
      → IsSoFar int (bits ++ bits_of (takes taken t 10)) rest (lows (row at (int * t + 10 * int) (n - 10 * int))) (pulses_from (int * t + 10 * int) false (row at (int * t + 10 * int) (n - 10 * int)))
      → IsSoFar int (bit ∷ bits) (bit ∷ rest) (lows (row at (int * t) n)) (pulses_from (int * t) false (row at (int * t) n))
  sending t n bit bits rest g so =
      let b = sends int pin s h is_pin mapped regs levels taken run words t bit bits g in
      let r = bit_row t bit bits b in
      let lead = lead_of int (int * t) n at bit some r in
      let few : (next : Bool) (more : List Bool) → bit ∷ bits ≡ next ∷ more → lows (row at (int * t) n) ≤ 3 * int = λ next more e. omega (arith, lead) in
      let room : length bits < 24 = let m = most (regs t) (bit ∷ bits) g.holds in omega (arith, m) in
      let next : length (bits ++ bits_of (takes taken t 10)) ≤ 24 = most (regs (t + 10)) (bits ++ bits_of (takes taken t 10)) b.next.holds in
      elim (cases_lt (3 * int) n) [
        | inr short ↦ subst (IsSoFar int (bit ∷ bits) (bit ∷ rest) (lows (row at (int * t) n))) (sym (before_pulse int (int * t) n at bit r short)) (nothing int (bit ∷ bits) (bit ∷ rest) (lows (row at (int * t) n)) few)
        | inl long ↦ subst (IsSoFar int (bit ∷ bits) (bit ∷ rest) (lows (row at (int * t) n))) (sym (pulse_of int (int * t) n at bit some r long)) (record {
          sent = extend int n (int * t + 3 * int) (lows (row at (int * t + 10 * int) (n - 10 * int))) bit some (lows-most (int * t + 10 * int) (n - 10 * int) at) bits (takes taken t 10) rest _ room next so;
          least = λ p more e. omega (arith, lead, long);
          most = few;
        })
      ]

  pub all_sent : (fuel k n t : ℕ) (hand : List Bool) → k ≤ fuel → n ≤ int * k → IsReady (regs t) (levels t) hand
      → IsSoFar int hand (hand ++ bits_of (takes taken t k)) (lows (row at (int * t) n)) (pulses_from (int * t) false (row at (int * t) n))
  all_sent fuel zero n t hand l few g = at_clock hand (hand ++ bits_of (takes taken t 0)) (int * t) (int * t) 0 n refl (let e : int * 0 ≡ 0 = omega arith in omega (arith, few)) (no_clocks hand (hand ++ bits_of (takes taken t 0)) (int * t))
  all_sent zero (suc k) n t hand l few g = absurd (omega (arith, l))
  all_sent (suc fuel) (suc k) n t [] l few g =
      waiting t n k g (all_sent fuel k (n - int) (t + 1) (bits_of (option_to_list (taken t))) (omega (arith, l)) (let m = mul-suc int k in omega (arith, few, m))
      (waits int pin s h is_pin mapped regs levels taken run words t g).next)
  all_sent (suc fuel) (suc k) n t (bit ∷ bits) l few g =
      let b = sends int pin s h is_pin mapped regs levels taken run words t bit bits g in
      sending t n bit bits (bits ++ bits_of (takes taken t (suc k))) g (elim (cases_lt k 9) [
        | inr enough ↦
            let left : suc k ≡ 10 + (suc k - 10) = omega (arith, enough) in
            let few' : int * suc k ≡ int * (suc k - 10) + 10 * int = ap (λ j. int * j) (let q : suc k ≡ suc k - 10 + 10 = omega (arith, enough) in q) ∙ mul_add int (suc k - 10) 10 in
            subst (λ bs. IsSoFar int (bits ++ bits_of (takes taken t 10)) bs (lows (row at (int * t + 10 * int) (n - 10 * int))) (pulses_from (int * t + 10 * int) false (row at (int * t + 10 * int) (n - 10 * int))))
            (bits-join taken t bits 10 (suc k - 10) ∙ ap (λ j. bits ++ bits_of (takes taken t j)) (sym left))
            (at_clock (bits ++ bits_of (takes taken t 10)) ((bits ++ bits_of (takes taken t 10)) ++ bits_of (takes taken (t + 10) (suc k - 10))) (int * (t + 10)) (int * t + 10 * int) (n - 10 * int) (n - 10 * int) (mul_add int t 10) refl
            (all_sent fuel (suc k - 10) (n - 10 * int) (t + 10) (bits ++ bits_of (takes taken t 10)) (omega (arith, l)) (omega (arith, few, few')) b.next))
        | inl short ↦
            let few' : n - 10 * int ≡ 0 = let m = mul-le-mul_left {m = suc k} {n = 10} int (omega (arith, short)) in let e : int * 10 ≡ 10 * int = omega arith in omega (arith, few, m, e) in
            at_clock (bits ++ bits_of (takes taken t 10)) (bits ++ bits_of (takes taken t (suc k))) (int * t + 10 * int) (int * t + 10 * int) 0 (n - 10 * int) refl (sym few') (no_clocks (bits ++ bits_of (takes taken t 10)) (bits ++ bits_of (takes taken t (suc k))) (int * t + 10 * int))
      ])
