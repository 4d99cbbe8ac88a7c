-- Beside a stimulus that leaves the machines' ticks alone, the system enables, disables and restarts none.
use Rattle.std.proofs.Common.{◌≡◌, ◌==◌, ℕ, zero, suc, true, false, cond, List, [], ◌∷◌, slice_index_or, refl, ap, ◌∙◌}
use Rattle.dreq_pacing.specs.declared.line.LineAct.{LineAct}
use Rattle.dreq_pacing.specs.declared.line.LineAct.TheVariants.{Pin, Tx, Rx, Feed, Drain, Enable, Disable, Restart}
use Rattle.dreq_pacing.specs.declared.line.Line.{Line}
use Rattle.dreq_pacing.specs.declared.due.Due.{Due}
use Rattle.dreq_pacing.specs.Lines.{lines_in}
use Rattle.dreq_pacing.specs.Due.{quiet, no_machine, with_act, with_lines}
use Rattle.dreq_pacing.specs.Ports.{due_in}
use Rattle.block_core.specs.Block.{Run}
use Rattle.block_core.specs.Hosted.{hosted_at, host_of}
use Rattle.program_runs.specs.Steady.{is_steady, IsSteady, IsLeft}

-- the same machines are enabled, disabled and restarted
record IsAlike (d e : Due) : Type 0 where
  enable : d.enable ≡ e.enable
  disable : d.disable ≡ e.disable
  restart : d.restart ≡ e.restart

some_steady : (clock : ℕ) (lines : List Line) → IsSteady lines → IsSteady (lines_in clock lines)
some_steady clock [] h = tt
some_steady clock (l ∷ lines) h = elim (l.clock == clock) as (λ b. IsSteady (cond b (l ∷ lines_in clock lines) (lines_in clock lines))) [
  | true ↦ (h.0, some_steady clock lines h.1)
  | false ↦ some_steady clock lines h.1
]

alike_act : (act : LineAct) (d : Due) → is_steady act ≡ true → IsAlike (with_act act d) d
alike_act (Pin pin level) d h = record { enable = refl; disable = refl; restart = refl }
alike_act (Tx machine word) d h = record { enable = refl; disable = refl; restart = refl }
alike_act (Rx machine) d h = record { enable = refl; disable = refl; restart = refl }
alike_act (Feed machine every words) d h = record { enable = refl; disable = refl; restart = refl }
alike_act (Drain machine every) d h = record { enable = refl; disable = refl; restart = refl }
alike_act (Enable machine) d h = cc
alike_act (Disable machine) d h = cc
alike_act (Restart machine) d h = cc

alike_lines : (lines : List Line) (d : Due) → IsSteady lines → IsAlike (with_lines lines d) d
alike_lines [] d h = record { enable = refl; disable = refl; restart = refl }
alike_lines (l ∷ lines) d h =
    let one = alike_act l.act d h.0 in
    let more = alike_lines lines (with_act l.act d) h.1 in
    record { enable = more.enable ∙ one.enable; disable = more.disable ∙ one.disable; restart = more.restart ∙ one.restart }

none_at : (id : ℕ) → slice_index_or no_machine id false ≡ false
none_at zero = refl
none_at (suc zero) = refl
none_at (suc (suc zero)) = refl
none_at (suc (suc (suc zero))) = refl
none_at (suc (suc (suc (suc id)))) = refl

pub left_alone : (start : Run) (lines : List Line) → IsSteady lines → (clock id : ℕ) → IsLeft (host_of start lines clock) id
unfolding due_in
left_alone start lines h clock id =
    let now = (hosted_at start lines clock).run.clock in
    let k = alike_lines (lines_in now lines) quiet (some_steady now lines h) in record {
      enable = ap (λ xs. slice_index_or xs id false) k.enable ∙ none_at id;
      disable = ap (λ xs. slice_index_or xs id false) k.disable ∙ none_at id;
      restart = ap (λ xs. slice_index_or xs id false) k.restart ∙ none_at id;
    }
