-- What a run reads, part by part: its source, its setup, its stimulus.
use Rattle.std.proofs.Common.{◌≡◌, ◌∙◌, ℕ, Option, Some, IfSome, List, [], ◌∷◌, Err, refl, ap}
use Rattle.pio_edge.specs.Edge.{Files}
use Rattle.pio_edge.specs.declared.shelf.Shelf.{Ghosts as ShelfSeen}
use Rattle.pio_assemble.specs.Program.{Assembled}
use Rattle.pin_matrix.specs.declared.setup.Setup.{Setup}
use Rattle.dreq_pacing.specs.declared.line.Line.{Line}
use Rattle.fault_lines.specs.declared.fault.File.TheVariants.{Source, Config, Stimulus}
use Rattle.fault_lines.specs.declared.fault.Fault.{Fault}
use Rattle.stages.specs.Judged.{Judged, right, and_then, is_right, source_at, setup_at, schedule_at, prepared_at}
use Rattle.stages.specs.Fetching.{slot}
use Rattle.stages.specs.Stages.{KeepsPlan, source_plan, setup_plan, schedule_plan, run_plan}
use Rattle.stages.proofs.Parts.{Went, told, both_told, of_all, goes_on, went_nowhere, fails_after}

-- what follows from a setup, and from programs
abbrev with_lines : Option (List ℕ) → Files → Setup → Judged (Setup × List Line)
with_lines stimulus f setup = and_then (schedule_at f stimulus) (λ lines. right (setup, lines))

abbrev with_setup : (config stimulus : Option (List ℕ)) → Files → List Assembled → Judged (Setup × List Line)
with_setup config stimulus f programs = and_then (setup_at f config programs) (with_lines stimulus f)

-- a run comes to what follows from its source
from_source : (files : Option Files) (source : List ℕ) (config stimulus : Option (List ℕ))
    → IfSome files (λ f. prepared_at f source config stimulus ≡ and_then (source_at f source) (with_setup config stimulus f))
unfolding prepared_at
from_source files source config stimulus = of_all files _ (λ f. refl)

-- from its setup
from_setup : (files : Option Files) (source : List ℕ) (config stimulus : Option (List ℕ)) (programs : List Assembled)
    → IfSome files (λ f. source_at f source ≡ right programs)
    → IfSome files (λ f. prepared_at f source config stimulus ≡ and_then (setup_at f config programs) (with_lines stimulus f))
from_setup files source config stimulus programs p =
    goes_on files (λ f. prepared_at f source config stimulus) (λ f. source_at f source) (with_setup config stimulus) (right programs)
    (from_source files source config stimulus) p

-- and from the lines of its stimulus
from_lines : (files : Option Files) (source : List ℕ) (config stimulus : Option (List ℕ)) (programs : List Assembled) (setup : Setup)
    → IfSome files (λ f. source_at f source ≡ right programs) → IfSome files (λ f. setup_at f config programs ≡ right setup)
    → IfSome files (λ f. prepared_at f source config stimulus ≡ with_lines stimulus f setup)
from_lines files source config stimulus programs setup p q =
    goes_on files (λ f. prepared_at f source config stimulus) (λ f. setup_at f config programs) (with_lines stimulus) (right setup)
    (from_setup files source config stimulus programs p) q

pub prepared : (files : Option Files) (source : List ℕ) (config stimulus : Option (List ℕ)) (programs : List Assembled) (setup : Setup) (lines : List Line)
    → IfSome files (λ f. source_at f source ≡ right programs) → IfSome files (λ f. setup_at f config programs ≡ right setup)
    → IfSome files (λ f. schedule_at f stimulus ≡ right lines) → IfSome files (λ f. prepared_at f source config stimulus ≡ right (setup, lines))
prepared files source config stimulus programs setup lines p q r =
    goes_on files (λ f. prepared_at f source config stimulus) (λ f. schedule_at f stimulus) (λ f lines. right (setup, lines)) (right lines)
    (from_lines files source config stimulus programs setup p q) r

-- ---- what each part fails with, the run fails with

-- the source
pub source_fails : {F V W : Type 0} (seen : ShelfSeen F) (source : List ℕ) (config stimulus : Option (List ℕ)) (view : V → List Assembled)
    (shown : W → Setup × List Line) (before after : F) (e : Fault) → KeepsPlan seen (source_plan source) view before after (Err e)
    → KeepsPlan seen (run_plan source config stimulus) shown before after (Err e)
source_fails seen source config stimulus view shown before after e k =
    fails_after seen [] (slot Config config ∷ slot Stimulus stimulus ∷ []) Source (Some source) (λ f. source_at f source)
    (with_setup config stimulus) (run_plan source config stimulus) view shown before before after e refl (λ P h. h)
    (of_all (seen.holds before) _ (λ f. refl)) (from_source (seen.holds before) source config stimulus) (went_nowhere seen before) k

-- the setup, after a source that came out right
pub setup_fails : {F V W : Type 0} (seen : ShelfSeen F) (source : List ℕ) (config stimulus : Option (List ℕ)) (programs : List Assembled)
    (view : V → Setup) (shown : W → Setup × List Line) (before mid after : F) (e : Fault)
    → IfSome (seen.holds before) (λ f. source_at f source ≡ right programs) → Went seen (slot Source (Some source) ∷ []) before mid
    → KeepsPlan seen (setup_plan config programs) view mid after (Err e) → KeepsPlan seen (run_plan source config stimulus) shown before after (Err e)
setup_fails seen source config stimulus programs view shown before mid after e p w k =
    fails_after seen (slot Source (Some source) ∷ []) (slot Stimulus stimulus ∷ []) Config config (λ f. setup_at f config programs)
    (with_lines stimulus) (run_plan source config stimulus) view shown before mid after e refl (λ P h. h)
    (told (seen.holds before) _ _ (λ f r. ap is_right r) p) (from_setup (seen.holds before) source config stimulus programs p) w k

-- the stimulus, after a setup that did too
pub lines_fail : {F V W : Type 0} (seen : ShelfSeen F) (source : List ℕ) (config stimulus : Option (List ℕ)) (programs : List Assembled) (setup : Setup)
    (view : V → List Line) (shown : W → Setup × List Line) (before mid after : F) (e : Fault)
    → IfSome (seen.holds before) (λ f. source_at f source ≡ right programs) → IfSome (seen.holds before) (λ f. setup_at f config programs ≡ right setup)
    → Went seen (slot Source (Some source) ∷ slot Config config ∷ []) before mid
    → KeepsPlan seen (schedule_plan stimulus) view mid after (Err e) → KeepsPlan seen (run_plan source config stimulus) shown before after (Err e)
lines_fail seen source config stimulus programs setup view shown before mid after e p q w k =
    fails_after seen (slot Source (Some source) ∷ slot Config config ∷ []) [] Stimulus stimulus (λ f. schedule_at f stimulus)
    (λ f lines. right (setup, lines)) (run_plan source config stimulus) view shown before mid after e refl (λ P h. h)
    (both_told (seen.holds before) _ _ _ (λ f r s. ap (λ (j : Judged (List Assembled)). is_right (and_then j (setup_at f config))) r ∙ ap is_right s) p q)
    (from_lines (seen.holds before) source config stimulus programs setup p q) w k
