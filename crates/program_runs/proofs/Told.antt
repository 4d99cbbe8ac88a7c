-- The levels that a run's samples tell of a pin are those of its states.
use Rattle.std.proofs.Common.{◌≡◌, ℕ, zero, suc, List, [], ◌∷◌, ◌++◌, refl, sym, ap, ◌∙◌}
use Rattle.std.proofs.lemmas.List.{map-append}
use Rattle.pin_matrix.specs.Pins.{is_high}
use Rattle.pin_matrix.specs.declared.setup.Setup.{Setup}
use Rattle.dreq_pacing.specs.declared.line.Line.{Line}
use Rattle.block_core.specs.Block.{first_run}
use Rattle.block_core.specs.Hosted.{samples, sample_at}
use Rattle.block_core.specs.Shown.{sample_of}
use Rattle.program_runs.specs.Levels.{row, up_in, levels_in}
use Rattle.program_runs.proofs.Rows.{row-more}

pub levels_told : (u : Setup) (lines : List Line) (pin n : ℕ) → levels_in u lines pin n ≡ row (up_in u lines pin) 0 n
unfolding samples sample_of
levels_told u lines pin zero = refl
levels_told u lines pin (suc n) =
    map-append (λ s. is_high s.level pin) (samples (first_run u) lines n) (sample_at (first_run u) lines n ∷ [])
    ∙ ap (λ ls. ls ++ up_in u lines pin n ∷ []) (levels_told u lines pin n) ∙ sym (row-more (up_in u lines pin) n)
