-- The transmitter tick by tick: how it waits for a word, and the ten ticks of a bit.
use Rattle.std.proofs.Common.{◌≡◌, ℕ, zero, suc, ◌+◌, ◌^◌, ◌<◌, ◌⊎◌, inl, inr, Bool, true, false, cond, Option, Some, None, option_to_list, List, [], ◌∷◌, ◌++◌, refl, sym, ap, subst, ◌∙◌, arith, append-nil, append_assoc}
use Rattle.std.proofs.lemmas.Grind.{flat_map-append}
use Rattle.pin_matrix.specs.declared.machine.MachineSetup.{MachineSetup}
use Rattle.sm_registers.specs.declared.registers.Registers.{Registers}
use Rattle.sm_registers.specs.View.{View}
use Rattle.sm_registers.specs.Queues.{Queues}
use Rattle.sm_registers.specs.Tick.{tick_of}
use Rattle.program_runs.specs.Steps.{IsAtInstruction, IsStep, takes}
use Rattle.program_runs.proofs.Taking.{takes-split}
use Rattle.pio_ws2812.specs.Sending.{word_bits, bits_of}
use Rattle.pio_ws2812.specs.Transmitter.{ws2812_memory, IsLightMachine}
use Rattle.pio_ws2812.proofs.Instructions.{AreMapped, Holds, IsShifting, IsTicked, delay_tick, out_tick, stall_tick, zero_tick, one_tick, back_tick, nop_tick}

-- the machine at the start of a tick: where it is, with X, the bits that are left in the OSR, and the pin's level
record IsThere (r : Registers) (now address left x : ℕ) (bits : List Bool) (level : ℕ) : Type 0 where
  at : IsAtInstruction address left r
  x_is : r.x ≡ x
  holds : Holds r bits
  level_is : now ≡ level

-- it is at the OUT with the pin low, or begins it
pub record IsReady (r : Registers) (now : ℕ) (bits : List Bool) : Type 0 where
  pub at : IsShifting r
  pub holds : Holds r bits
  pub low : r.begun ≡ true → now ≡ 0

-- the bits that are left, with those of words that are taken in ticks in a row
pub bits-join : (taken : ℕ → Option ℕ) (t : ℕ) (bits : List Bool) (a b : ℕ) → (bits ++ bits_of (takes taken t a)) ++ bits_of (takes taken (t + a) b) ≡ bits ++ bits_of (takes taken t (a + b))
bits-join taken t bits a b =
    append_assoc bits (bits_of (takes taken t a)) (bits_of (takes taken (t + a) b))
    ∙ ap (λ bs. bits ++ bs) (sym (flat_map-append word_bits (takes taken t a) (takes taken (t + a) b)) ∙ ap bits_of (sym (takes-split taken t a b)))

module _ (int pin : ℕ) (s : MachineSetup) (h : IsLightMachine int pin s) (is_pin : pin < 32) (mapped : AreMapped) (regs : ℕ → Registers) (levels : ℕ → ℕ) (taken : ℕ → Option ℕ)
    (run : (t : ℕ) → IsStep s ws2812_memory pin (regs t) (levels t) (regs (t + 1)) (levels (t + 1)) (taken t))
    (words : (t w : ℕ) → (run t).queues.front ≡ Some w → w < 2 ^ 32) where
  -- a bit is sent in ten ticks: low for three, high for two, and high or low for five. Then the next OUT begins, with the bits that are
  -- left and those of a word that was taken
  pub record IsBit (t : ℕ) (bit : Bool) (bits : List Bool) : Type 0 where
    pub first : (j : ℕ) → j < 3 → levels (t + j + 1) ≡ 0
    pub second : (j : ℕ) → j < 2 → levels (t + 3 + j + 1) ≡ 1
    pub third : (j : ℕ) → j < 5 → levels (t + 5 + j + 1) ≡ cond bit 1 0
    pub next : IsReady (regs (t + 10)) (levels (t + 10)) (bits ++ bits_of (takes taken t 10))
    pub dry : bits ++ bits_of (takes taken t 10) ≡ [] → (run (t + 9)).queues.front ≡ None

  -- a tick of an OUT that waits
  pub record IsWait (t : ℕ) : Type 0 where
    pub low : levels (t + 1) ≡ 0
    pub next : IsReady (regs (t + 1)) (levels (t + 1)) (bits_of (option_to_list (taken t)))
    pub dry : bits_of (option_to_list (taken t)) ≡ [] → (run t).queues.front ≡ None

  record IsMoved (t address left x : ℕ) (bits : List Bool) (level : ℕ) : Type 0 where
    there : IsThere (regs (t + 1)) (levels (t + 1)) address left x (bits ++ bits_of (option_to_list (taken t))) level
    dry : bits ++ bits_of (option_to_list (taken t)) ≡ [] → (run t).queues.front ≡ None

  -- after a tick
  moved : (t address left x0 x : ℕ) (bits : List Bool) (level : ℕ → ℕ) (now : ℕ)
      → ((v : View) (q : Queues) → v.memory ≡ ws2812_memory → ((w : ℕ) → q.front ≡ Some w → w < 2 ^ 32) → IsTicked pin q.front (tick_of s v q (regs t)) address left x0 bits level)
      → x0 ≡ x → level (levels t) ≡ now → IsMoved t address left x bits now
  moved t address left x0 x bits level now ticked ex same =
      let k = run t in
      let d = ticked k.view k.queues k.memory_is (words t) in
      let new : bits_of (option_to_list (cond (tick_of s k.view k.queues (regs t)).1.take k.queues.front None)) ≡ bits_of (option_to_list (taken t)) = ap (λ o. bits_of (option_to_list o)) (sym k.taken_is) in record {
        there = record {
          at = subst (IsAtInstruction address left) (sym k.registers) d.at;
          x_is = ap (λ (r : Registers). r.x) k.registers ∙ d.x_is ∙ ex;
          holds = subst (λ r. Holds r (bits ++ bits_of (option_to_list (taken t)))) (sym k.registers) (subst (λ bs. Holds (tick_of s k.view k.queues (regs t)).0 (bits ++ bs)) new d.holds);
          level_is = k.level_is ∙ d.level_is (levels t) ∙ same;
        };
        dry = λ g. d.dry (ap (λ bs. bits ++ bs) new ∙ g);
      }

  there_at : (t u address left x now : ℕ) (bits more : List Bool) → t ≡ u → bits ≡ more → IsThere (regs t) (levels t) address left x bits now → IsThere (regs u) (levels u) address left x more now
  there_at t u address left x now bits more e f g = subst (λ k. IsThere (regs k) (levels k) address left x more now) e (subst (λ bs. IsThere (regs t) (levels t) address left x bs now) f g)

  -- the bits with those of the words that are taken in some ticks
  abbrev hand : (t : ℕ) (bits : List Bool) (n : ℕ) → List Bool
  hand t bits n = bits ++ bits_of (takes taken t n)

  -- one more tick
  hand-one : (t : ℕ) (bits : List Bool) (a : ℕ) → hand t bits a ++ bits_of (option_to_list (taken (t + a))) ≡ hand t bits (a + 1)
  hand-one t bits a = ap (λ ws. hand t bits a ++ bits_of ws) (sym (append-nil (option_to_list (taken (t + a))))) ∙ bits-join taken t bits a 1

  -- one tick, after some ticks of a bit
  goes_on : (t a b address left x now : ℕ) (bits : List Bool) → a + 1 ≡ b → IsMoved (t + a) address left x (hand t bits a) now → IsThere (regs (t + b)) (levels (t + b)) address left x (hand t bits b) now
  goes_on t a b address left x now bits e m = there_at (t + a + 1) (t + b) address left x now _ _ (let f : t + a + 1 ≡ t + b = omega (arith, e) in f) (hand-one t bits a ∙ ap (hand t bits) e) m.there

  -- a tick of a delay
  rests : (t a address left x now : ℕ) (bits : List Bool) → IsThere (regs t) (levels t) address (suc left) x bits now → IsMoved t address left x bits now
  rests t a address left x now bits g = moved t address left (regs t).x x bits (λ old. old) now (λ v q m f. delay_tick int pin s h is_pin mapped v m q f (regs t) address left bits g.at g.holds) g.x_is g.level_is

  record IsRested (t a b address x now : ℕ) (bits : List Bool) (left : ℕ) : Type 0 where
    there : IsThere (regs (t + b)) (levels (t + b)) address left x (hand t bits b) now
    levels_are : (j : ℕ) → a + j < b → levels (t + a + j + 1) ≡ now

  -- some ticks of it
  rests_for : (n t a b address left x now : ℕ) (bits : List Bool) → a + n ≡ b → IsThere (regs (t + a)) (levels (t + a)) address (n + left) x (hand t bits a) now → IsRested t a b address x now bits left
  rests_for zero t a b address left x now bits e g = record {
    there = subst (λ k. IsThere (regs (t + b)) (levels (t + b)) address k x (hand t bits b) now) (let f : 0 + left ≡ left = omega arith in f)
        (there_at (t + a) (t + b) address (0 + left) x now _ _ (omega (arith, e)) (ap (hand t bits) (let f : a ≡ b = omega (arith, e) in f)) g);
    levels_are = λ j l. absurd (omega (arith, l, e));
  }
  rests_for (suc n) t a b address left x now bits e g =
      let one = rests (t + a) 0 address (n + left) x now (hand t bits a) (subst (λ k. IsThere (regs (t + a)) (levels (t + a)) address k x (hand t bits a) now) (let f : suc n + left ≡ suc (n + left) = omega arith in f) g) in
      let more = rests_for n t (a + 1) b address left x now bits (omega (arith, e)) (goes_on t a (a + 1) address (n + left) x now bits refl one) in record {
        there = more.there;
        levels_are = each one.there.level_is more.levels_are;
      } where
        each : levels (t + a + 1) ≡ now → ((j : ℕ) → a + 1 + j < b → levels (t + (a + 1) + j + 1) ≡ now) → (j : ℕ) → a + j < b → levels (t + a + j + 1) ≡ now
        each first rest zero l = ap levels (let f : t + a + 0 + 1 ≡ t + a + 1 = omega arith in f) ∙ first
        each first rest (suc j) l = ap levels (let f : t + a + suc j + 1 ≡ t + (a + 1) + j + 1 = omega arith in f) ∙ rest j (omega (arith, l))

  side_zero : (begun : Bool) (old : ℕ) → (begun ≡ true → old ≡ 0) → cond begun old 0 ≡ 0
  side_zero true old f = f refl
  side_zero false old f = refl

  -- levels of a tick, and of the ticks after it
  first_and_rest : (t a b now : ℕ) → levels (t + a + 1) ≡ now → ((j : ℕ) → a + 1 + j < b → levels (t + (a + 1) + j + 1) ≡ now) → (j : ℕ) → a + j < b → levels (t + a + j + 1) ≡ now
  first_and_rest t a b now first rest zero l = ap levels (let f : t + a + 0 + 1 ≡ t + a + 1 = omega arith in f) ∙ first
  first_and_rest t a b now first rest (suc j) l = ap levels (let f : t + a + suc j + 1 ≡ t + (a + 1) + j + 1 = omega arith in f) ∙ rest j (omega (arith, l))

  -- an OUT that shifts a bit, from tick t on
  shifts : (t : ℕ) (bit : Bool) (bits : List Bool) → IsReady (regs t) (levels t) (bit ∷ bits) → IsMoved t 1 2 (cond bit 1 0) bits 0
  shifts t bit bits g = moved t 1 2 (cond bit 1 0) (cond bit 1 0) bits (λ old. cond (regs t).begun old 0) 0 (λ v q m f. out_tick int pin s h is_pin mapped v m q f (regs t) bit bits g.at g.holds) refl (side_zero (regs t).begun (levels t) g.low)

  -- the JMP on X
  tests : (t : ℕ) (bit : Bool) (bits : List Bool) (now : ℕ) → IsThere (regs t) (levels t) 1 0 (cond bit 1 0) bits now → IsMoved t (cond bit 2 3) 1 (cond bit 1 0) bits 1
  tests t true bits now g = moved t 2 1 (regs t).x 1 bits (λ old. 1) 1 (λ v q m f. one_tick int pin s h is_pin mapped v m q f (regs t) bits g.at g.x_is g.holds) g.x_is refl
  tests t false bits now g = moved t 3 1 (regs t).x 0 bits (λ old. 1) 1 (λ v q m f. zero_tick int pin s h is_pin mapped v m q f (regs t) bits g.at g.x_is g.holds) g.x_is refl

  -- the JMP after a 1, or the `nop` after a 0
  ends : (t : ℕ) (bit : Bool) (bits : List Bool) (now : ℕ) → IsThere (regs t) (levels t) (cond bit 2 3) 0 (cond bit 1 0) bits now → IsMoved t 0 4 (cond bit 1 0) bits (cond bit 1 0)
  ends t true bits now g = moved t 0 4 (regs t).x 1 bits (λ old. 1) 1 (λ v q m f. back_tick int pin s h is_pin mapped v m q f (regs t) bits g.at g.holds) g.x_is refl
  ends t false bits now g = moved t 0 4 (regs t).x 0 bits (λ old. 0) 0 (λ v q m f. nop_tick int pin s h is_pin mapped v m q f (regs t) bits g.at g.holds) g.x_is refl

  -- a bit
  pub sends : (t : ℕ) (bit : Bool) (bits : List Bool) → IsReady (regs t) (levels t) (bit ∷ bits) → IsBit t bit bits
  sends t bit bits g = record {
    first = λ j l. ap levels (let f : t + j + 1 ≡ t + 0 + j + 1 = omega arith in f) ∙ first_and_rest t 0 3 0 (ap levels (let f : t + 0 + 1 ≡ t + 1 = omega arith in f) ∙ out.there.level_is) low.levels_are j (omega (arith, l));
    second = λ j l. first_and_rest t 3 5 1 test.there.level_is high.levels_are j (omega (arith, l));
    third = λ j l. first_and_rest t 5 10 (cond bit 1 0) end.there.level_is levels_after j (omega (arith, l));
    next = record {
      at = record { pc = there.at.pc; delay = there.at.delay; pending = there.at.pending };
      holds = there.holds;
      low = λ b. absurd (never (sym there.at.begun ∙ b));
    };
    dry = λ e. last.dry (hand-one t bits 9 ∙ e);
  } where
    never : false ≡ true → ⊥
    never e = cc

    out : IsMoved t 1 2 (cond bit 1 0) bits 0
    out = shifts t bit bits g

    begun : IsThere (regs (t + 1)) (levels (t + 1)) 1 2 (cond bit 1 0) (hand t bits 1) 0
    begun = there_at (t + 1) (t + 1) 1 2 (cond bit 1 0) 0 _ _ refl (ap (λ ws. bits ++ bits_of ws) (sym (append-nil (option_to_list (taken t))))) out.there

    low : IsRested t 1 3 1 (cond bit 1 0) 0 bits 0
    low = rests_for 2 t 1 3 1 0 (cond bit 1 0) 0 bits refl begun

    test : IsMoved (t + 3) (cond bit 2 3) 1 (cond bit 1 0) (hand t bits 3) 1
    test = tests (t + 3) bit (hand t bits 3) 0 low.there

    high : IsRested t 4 5 (cond bit 2 3) (cond bit 1 0) 1 bits 0
    high = rests_for 1 t 4 5 (cond bit 2 3) 0 (cond bit 1 0) 1 bits refl (goes_on t 3 4 (cond bit 2 3) 1 (cond bit 1 0) 1 bits refl test)

    end : IsMoved (t + 5) 0 4 (cond bit 1 0) (hand t bits 5) (cond bit 1 0)
    end = ends (t + 5) bit (hand t bits 5) 1 high.there

    rest : IsRested t 6 9 0 (cond bit 1 0) (cond bit 1 0) bits 1
    rest = rests_for 3 t 6 9 0 1 (cond bit 1 0) (cond bit 1 0) bits refl (goes_on t 5 6 0 4 (cond bit 1 0) (cond bit 1 0) bits refl end)

    last : IsMoved (t + 9) 0 0 (cond bit 1 0) (hand t bits 9) (cond bit 1 0)
    last = rests (t + 9) 0 0 0 (cond bit 1 0) (cond bit 1 0) (hand t bits 9) rest.there

    there : IsThere (regs (t + 10)) (levels (t + 10)) 0 0 (cond bit 1 0) (hand t bits 10) (cond bit 1 0)
    there = goes_on t 9 10 0 0 (cond bit 1 0) (cond bit 1 0) bits refl last

    cases : (j : ℕ) → 5 + 1 + j < 10 → (6 + j < 9) ⊎ (j ≡ 3)
    cases j l = grind (arith, l)

    levels_after : (j : ℕ) → 5 + 1 + j < 10 → levels (t + (5 + 1) + j + 1) ≡ cond bit 1 0
    levels_after j l = elim (cases j l) [
      | inl few ↦ rest.levels_are j few
      | inr three ↦ ap levels (let f : t + (5 + 1) + j + 1 ≡ t + 10 = omega (arith, three) in f) ∙ there.level_is
    ]

  -- an OUT without a bit
  pub waits : (t : ℕ) → IsReady (regs t) (levels t) [] → IsWait t
  waits t g =
      let k = run t in
      let d = stall_tick int pin s h is_pin mapped k.view k.memory_is k.queues (words t) (regs t) g.at g.holds in
      let new : bits_of (option_to_list (cond (tick_of s k.view k.queues (regs t)).1.take k.queues.front None)) ≡ bits_of (option_to_list (taken t)) = ap (λ o. bits_of (option_to_list o)) (sym k.taken_is) in
      let zero : levels (t + 1) ≡ 0 = k.level_is ∙ d.level_is (levels t) ∙ side_zero (regs t).begun (levels t) g.low in record {
        low = zero;
        next = record {
          at = subst IsShifting (sym k.registers) d.at;
          holds = subst (λ r. Holds r (bits_of (option_to_list (taken t)))) (sym k.registers) (subst (Holds (tick_of s k.view k.queues (regs t)).0) new d.holds);
          low = λ b. zero;
        };
        dry = λ e. d.dry (new ∙ e);
      }

  -- in its first tick an OUT leaves the pin low
  pub low_next : (t : ℕ) (bits : List Bool) → IsReady (regs t) (levels t) bits → levels (t + 1) ≡ 0
  low_next t [] g = (waits t g).low
  low_next t (bit ∷ bits) g = ap levels (let e : t + 1 ≡ t + 0 + 1 = omega arith in e) ∙ (sends t bit bits g).first 0 (omega arith)
