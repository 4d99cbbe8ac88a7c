-- One draw more, and what it leaves.
use Rattle.std.proofs.Common.{◌≡◌, ℕ, ◌+◌, ◌%◌, ◌==◌, ap, add-one}
use Rattle.dreq_pacing.specs.declared.line.Line.{Line}
use Rattle.dreq_pacing.specs.declared.line.LineAct.TheVariants.{Pin}
use Rattle.drawn_load.specs.Loads.{pin_line}
use Rattle.drawn_load.specs.Draws.{state_at, next_state, sum_of_steps, step_of}

pub state-more : (seed k : ℕ) → state_at seed (k + 1) ≡ next_state (state_at seed k)
unfolding state_at
state-more seed k = ap (state_at seed) (add-one k)

pub sum-more : (seed j : ℕ) → sum_of_steps seed (j + 1) ≡ sum_of_steps seed j + step_of seed j
unfolding sum_of_steps
sum-more seed j = ap (sum_of_steps seed) (add-one j)

-- line j of pin 2, if it comes in this clock
abbrev pub pin_at : ℕ → ℕ → Line
pin_at j clock = record { clock = clock; act = Pin 2 (j % 2 == 0) }

pub pin_line-is : {clock : ℕ} → (seed j : ℕ) → clock ≡ sum_of_steps seed (j + 1) → pin_at j clock ≡ pin_line seed j
pin_line-is seed j e = ap (pin_at j) e
