-- What the laws of a run tick by tick come to.
use Rattle.std.proofs.Common.{◌≡◌, ℕ, ◌*◌, ◌≤◌, false, List, [], ◌∷◌, ◌++◌, refl, sym, ap, ◌∙◌, arith}
use Rattle.std.proofs.Math.Nat.{mul-le-mul_left, mul-zero}
use Rattle.std.specs.Int.{bit_at}
use Rattle.clock_divider.specs.Timing.{period_of}
use Rattle.clock_divider.specs.Ticks.{is_tick}
use Rattle.pin_matrix.specs.declared.machine.MachineSetup.{MachineSetup}
use Rattle.pin_matrix.specs.declared.setup.Setup.{Setup}
use Rattle.dreq_pacing.specs.Lines.{IsSchedule}
use Rattle.dreq_pacing.specs.declared.line.Line.{Line}
use Rattle.block_core.specs.Block.{BlockState, first_run}
use Rattle.program_runs.specs.Clocks.{IsOwn, IsPause, host_in, regs_in, tx_in, level_in, taken_in}
use Rattle.program_runs.specs.Feeding.{fed, IsSupplied}
use Rattle.program_runs.specs.Runs.{ticks_in, GoesByTicks}
use Rattle.program_runs.specs.Steady.{IsSteady, IsLeft}
use Rattle.program_runs.specs.Steps.{takes}
use Rattle.program_runs.proofs.Steady.{left_alone}
use Rattle.program_runs.proofs.Clocks.{Laws, begins, idle_regs, idle_level, idle_taken, accepted_words}
use Rattle.program_runs.proofs.Ticks.{taken_by_ticks, left_by_ticks, tick_run, level_of_tick, none_between}
use Rattle.program_runs.proofs.Fed.{left_in, goes, front_is, at_first}

module _ (laws : Laws) (u : Setup) (lines : List Line) (id : ℕ) (s : MachineSetup) (pin : ℕ) (own : IsOwn u id s pin) (steady : IsSteady lines) where
  pub left : (clock : ℕ) → IsLeft (host_in u lines clock) s.id
  left clock = left_alone (first_run u) lines steady clock s.id

  pub pause : (c : ℕ) → is_tick 0 (period_of s.int s.frac) c ≡ false → IsPause u lines s pin c
  pause c h = record {
    registers = idle_regs laws u lines id s pin own left c h;
    level = idle_level laws u lines id s pin own left c h;
    taken = idle_taken laws u lines id s pin own left c h;
  }

  pub by_ticks : (int : ℕ) → 1 ≤ int → s.int ≡ int → s.frac ≡ 0 → GoesByTicks u lines id s pin int
  by_ticks int some divider frac = record {
    first_regs = ap (regs_in u lines s) (mul-zero int);
    first_tx = ap (tx_in u lines s) (mul-zero int);
    first_level = ap (level_in u lines pin) (mul-zero int) ∙ ap (λ (b : BlockState). bit_at b.levels pin) (begins u lines);
    step = λ t. (tick_run laws u lines id s pin own left int some divider frac t).0;
    front = λ t. (tick_run laws u lines id s pin own left int some divider frac t).1;
    level = level_of_tick laws u lines id s pin own left int some divider frac;
    words = λ n. accepted_words laws u lines id s pin own left n
        ∙ ap (λ ws. ws ++ tx_in u lines s n)
        (ap (λ c. takes (taken_in u lines s) c n) (sym (mul-zero int))
        ∙ taken_by_ticks int some (taken_in u lines s) (none_between laws u lines id s pin own left int some divider frac) (ticks_in int n) n 0 (omega (arith, some)) (omega (arith, some)));
  }

pub steady_feed : (words : List ℕ) → IsSteady (fed words)
steady_feed [] = tt
steady_feed (word ∷ words) = (refl, tt)

pub is_stimulus : (words : List ℕ) → IsSchedule (fed words)
is_stimulus [] = tt
is_stimulus (word ∷ words) = (record { in_time = omega arith; act = (omega arith, omega arith, omega arith, omega arith) }, tt, tt)

pub supplied : Laws → (u : Setup) (words : List ℕ) (s : MachineSetup) (pin int : ℕ) → IsOwn u 0 s pin → 1 ≤ int → s.int ≡ int → s.frac ≡ 0 → s.join_tx ≡ false → s.join_rx ≡ false
    → IsSupplied words (λ t. taken_in u (fed words) s (int * t)) (λ t. tx_in u (fed words) s (int * t))
supplied laws u words s pin int own some divider frac no_tx no_rx =
    let quiet = left laws u (fed words) 0 s pin own (steady_feed words) in record {
      left = λ t. left_in u words s (int * t);
      first = ap (left_in u words s) (mul-zero int) ∙ at_first laws u words s pin own quiet (no_tx, no_rx);
      goes = left_by_ticks int some (taken_in u (fed words) s) (none_between laws u (fed words) 0 s pin own quiet int some divider frac) (left_in u words s) (goes laws u words s pin own quiet (no_tx, no_rx));
      front = λ t l. front_is laws u words s pin own quiet (no_tx, no_rx) (int * t) (let m : int * 1 ≤ int * t = mul-le-mul_left int l in omega (arith, m, some));
    }
