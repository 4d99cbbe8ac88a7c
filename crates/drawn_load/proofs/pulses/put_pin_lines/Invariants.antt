use Rattle.std.proofs.Common.{◌≡◌, ℕ, ◌+◌, ◌*◌, ◌≤◌, ◌++◌, map}
use Rattle.std.specs.List.{range_with_len}
use Rattle.drawn_load.specs.Draws.{state_at, sum_of_steps}
use Rattle.drawn_load.specs.Loads.{pin_line}
use Rattle.drawn_load.proofs.pulses.put_pin_lines.Given as goal

-- so many steps are drawn, and the clock is their sum
abbrev pub invariant-loop-j : goal.invariant-loop-j
invariant-loop-j l = record {
  small : l.clock ≤ 2000 * l.j;
  state : (seed : ℕ) → l.initial.draws ≡ state_at seed 519 → l.draws ≡ state_at seed (519 + l.j);
  clock : (seed : ℕ) → l.initial.draws ≡ state_at seed 519 → l.clock ≡ sum_of_steps seed l.j;
  lines : (seed : ℕ) → l.initial.draws ≡ state_at seed 519
      → l.lines.items ≡ l.initial.lines.items ++ map (pin_line seed) (range_with_len 0 l.j);
}
