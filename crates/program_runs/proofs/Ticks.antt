-- From clocks to ticks: a machine whose divider has no fraction has a tick every so many clocks, and between two ticks nothing of it
-- changes.
use Rattle.std.proofs.Common.{◌≡◌, ℕ, zero, suc, ◌+◌, ◌-◌, ◌*◌, ◌<◌, ◌≤◌, inl, inr, true, false, Option, None, option_to_list, slice_get, List, ◌++◌, refl, sym, ap, ◌∙◌, arith}
use Rattle.std.proofs.Math.Nat.{mul-add, mul-suc}
use Rattle.std.proofs.lemmas.Bool.{cases_lt}
use Rattle.clock_divider.specs.Timing.{period_of}
use Rattle.clock_divider.specs.Ticks.{is_tick}
use Rattle.pin_matrix.specs.declared.machine.MachineSetup.{MachineSetup}
use Rattle.pin_matrix.specs.declared.setup.Setup.{Setup}
use Rattle.dreq_pacing.specs.declared.line.Line.{Line}
use Rattle.program_runs.specs.Clocks.{IsOwn, host_in, regs_in, level_in, taken_in, tx_in}
use Rattle.program_runs.specs.Steady.{IsLeft}
use Rattle.program_runs.specs.Steps.{IsStep, takes}
use Rattle.program_runs.proofs.Pacing.{period, on_tick, off_tick}
use Rattle.program_runs.proofs.Taking.{takes-split, takes-none}
use Rattle.program_runs.proofs.Clocks.{Laws, idle_regs, idle_level, idle_taken, tick_fed}

-- of a word that may be taken in every so many clocks alone: the words that are taken in clocks are those that are taken in ticks
module _ (int : ℕ) (some : 1 ≤ int) (taken : ℕ → Option ℕ) (pauses : (t e : ℕ) → 0 < e → e < int → taken (int * t + e) ≡ None) where
  after_tick : (t n : ℕ) → takes taken (int * t + 1) n ≡ takes taken (int * (t + 1)) (suc n - int)
  after_tick t n = elim (cases_lt int (suc n)) [
    | inl long ↦
        ap (takes taken (int * t + 1)) (let e : n ≡ (int - 1) + (suc n - int) = omega (arith, long, some) in e)
        ∙ takes-split taken (int * t + 1) (int - 1) (suc n - int)
        ∙ ap (λ ws. ws ++ takes taken (int * t + 1 + (int - 1)) (suc n - int)) (takes-none taken (int * t + 1) (int - 1) (λ j l. ap taken (let e : int * t + 1 + j ≡ int * t + (j + 1) = omega arith in e) ∙ pauses t (j + 1) (omega arith) (omega (arith, l))))
        ∙ ap (λ k. takes taken k (suc n - int)) (let m = mul-add int t 1 in let e : int * t + 1 + (int - 1) ≡ int * (t + 1) = omega (arith, m, some) in e)
    | inr short ↦
        takes-none taken (int * t + 1) n (λ j l. ap taken (let e : int * t + 1 + j ≡ int * t + (j + 1) = omega arith in e) ∙ pauses t (j + 1) (omega arith) (omega (arith, l, short)))
        ∙ ap (takes taken (int * (t + 1))) (let e : 0 ≡ suc n - int = omega (arith, short) in e)
  ]

  pub taken_by_ticks : (ticks n t : ℕ) → n ≤ int * ticks → int * ticks < n + int → takes taken (int * t) n ≡ takes (λ k. taken (int * k)) t ticks
  taken_by_ticks zero zero t most least = refl
  taken_by_ticks zero (suc n) t most least = absurd (let e : int * 0 ≡ 0 = omega arith in omega (arith, most))
  taken_by_ticks (suc ticks) zero t most least = absurd (let e = mul-suc int ticks in omega (arith, least, e))
  taken_by_ticks (suc ticks) (suc n) t most least =
      let more = mul-suc int ticks in
      ap (λ ws. option_to_list (taken (int * t)) ++ ws) (after_tick t n ∙ taken_by_ticks ticks (suc n - int) (t + 1) (omega (arith, most, more)) (omega (arith, least, more)))

  -- of words that are left: what is left after the clocks of a tick
  left_held : (left : ℕ → List ℕ) → ((c : ℕ) → option_to_list (taken c) ++ left (suc c) ≡ left c) → (t e : ℕ) → e < int → left (int * t + suc e) ≡ left (suc (int * t))
  left_held left goes t zero l = ap left (let q : int * t + 1 ≡ suc (int * t) = omega arith in q)
  left_held left goes t (suc e) l =
      ap left (let q : int * t + suc (suc e) ≡ suc (int * t + suc e) = omega arith in q)
      ∙ ap (λ o. option_to_list o ++ left (suc (int * t + suc e))) (sym (pauses t (suc e) (omega arith) l)) ∙ goes (int * t + suc e)
      ∙ left_held left goes t e (omega (arith, l))

  pub left_by_ticks : (left : ℕ → List ℕ) → ((c : ℕ) → option_to_list (taken c) ++ left (suc c) ≡ left c) → (t : ℕ) → option_to_list (taken (int * t)) ++ left (int * (t + 1)) ≡ left (int * t)
  left_by_ticks left goes t =
      ap (λ ws. option_to_list (taken (int * t)) ++ ws) (ap left (let m = mul-add int t 1 in let q : int * (t + 1) ≡ int * t + suc (int - 1) = omega (arith, m, some) in q) ∙ left_held left goes t (int - 1) (omega (arith, some)))
      ∙ goes (int * t)

module _ (laws : Laws) (u : Setup) (lines : List Line) (id : ℕ) (s : MachineSetup) (pin : ℕ) (own : IsOwn u id s pin) (left : (clock : ℕ) → IsLeft (host_in u lines clock) s.id)
    (int : ℕ) (some : 1 ≤ int) (divider : s.int ≡ int) (frac : s.frac ≡ 0) where
  ticks_on : (t : ℕ) → is_tick 0 (period_of s.int s.frac) (int * t) ≡ true
  ticks_on t = ap (λ p. is_tick 0 p (int * t)) (period int s.int s.frac some divider frac) ∙ on_tick laws.tick_test int t some

  pauses : (t e : ℕ) → 0 < e → e < int → is_tick 0 (period_of s.int s.frac) (int * t + e) ≡ false
  pauses t e more less = ap (λ p. is_tick 0 p (int * t + e)) (period int s.int s.frac some divider frac) ∙ off_tick laws.tick_test int t e more less

  -- from a tick to the next one its registers and the pin's level are what the tick left
  held_regs : (t e : ℕ) → e < int → regs_in u lines s (int * t + suc e) ≡ regs_in u lines s (suc (int * t))
  held_regs t zero l = ap (regs_in u lines s) (let q : int * t + 1 ≡ suc (int * t) = omega arith in q)
  held_regs t (suc e) l =
      ap (regs_in u lines s) (let q : int * t + suc (suc e) ≡ suc (int * t + suc e) = omega arith in q)
      ∙ idle_regs laws u lines id s pin own left (int * t + suc e) (pauses t (suc e) (omega arith) l) ∙ held_regs t e (omega (arith, l))

  pub held_level : (t e : ℕ) → e < int → level_in u lines pin (int * t + suc e) ≡ level_in u lines pin (suc (int * t))
  held_level t zero l = ap (level_in u lines pin) (let q : int * t + 1 ≡ suc (int * t) = omega arith in q)
  held_level t (suc e) l =
      ap (level_in u lines pin) (let q : int * t + suc (suc e) ≡ suc (int * t + suc e) = omega arith in q)
      ∙ idle_level laws u lines id s pin own left (int * t + suc e) (pauses t (suc e) (omega arith) l) ∙ held_level t e (omega (arith, l))

  next_tick : (t : ℕ) → int * (t + 1) ≡ int * t + suc (int - 1)
  next_tick t = let m = mul-add int t 1 in omega (arith, m, some)

  -- the machine tick by tick
  pub tick_run : (t : ℕ)
      → (k : IsStep s u.memory pin (regs_in u lines s (int * t)) (level_in u lines pin (int * t)) (regs_in u lines s (int * (t + 1))) (level_in u lines pin (int * (t + 1))) (taken_in u lines s (int * t))) × (k.queues.front ≡ slice_get (tx_in u lines s (int * t)) 0)
  tick_run t = let both = tick_fed laws u lines id s pin own left (int * t) (ticks_on t) in let k = both.0 in (
    record {
      view = k.view;
      queues = k.queues;
      memory_is = k.memory_is;
      registers = ap (regs_in u lines s) (next_tick t) ∙ held_regs t (int - 1) (omega (arith, some)) ∙ k.registers;
      level_is = ap (level_in u lines pin) (next_tick t) ∙ held_level t (int - 1) (omega (arith, some)) ∙ k.level_is;
      taken_is = k.taken_is;
    },
    both.1,
  )

  -- the level after each clock of a tick is that after the tick
  pub level_of_tick : (t e : ℕ) → e < int → level_in u lines pin (suc (int * t + e)) ≡ level_in u lines pin (int * (t + 1))
  level_of_tick t e l =
      ap (level_in u lines pin) (let q : suc (int * t + e) ≡ int * t + suc e = omega arith in q) ∙ held_level t e l
      ∙ sym (ap (level_in u lines pin) (next_tick t) ∙ held_level t (int - 1) (omega (arith, some)))

  -- between ticks no word is taken
  pub none_between : (t e : ℕ) → 0 < e → e < int → taken_in u lines s (int * t + e) ≡ None
  none_between t e more less = idle_taken laws u lines id s pin own left (int * t + e) (pauses t e more less)
