-- What a run of two blocks reads, part by part: its source, both configurations, its stimulus.
use Rattle.std.proofs.Common.{◌≡◌, ◌∙◌, ℕ, true, Option, Some, IfSome, List, [], ◌∷◌, Err, refl, ap}
use Rattle.pio_edge.specs.Edge.{Files}
use Rattle.pio_edge.specs.declared.shelf.Shelf.{Ghosts as ShelfSeen}
use Rattle.pio_assemble.specs.Program.{Assembled}
use Rattle.pin_matrix.specs.declared.setup.Setup.{Setup}
use Rattle.dreq_pacing.specs.declared.line.Line.{Line}
use Rattle.block_config.specs.declared.owning.OwningSetup.{OwningSetup}
use Rattle.fault_lines.specs.declared.fault.File.TheVariants.{Source, Config, Second, Stimulus}
use Rattle.fault_lines.specs.declared.fault.Fault.{Fault}
use Rattle.stages.specs.declared.pair.TwoBlocks.{TwoBlocks}
use Rattle.stages.specs.Judged.{Judged, right, and_then, is_right, source_at, config_at, second_at, schedules_at, two_blocks, pair_at}
use Rattle.stages.specs.Fetching.{slot}
use Rattle.stages.specs.Stages.{KeepsPlan, source_plan, setup_plan, second_plan, schedules_plan, pair_plan}
use Rattle.stages.proofs.Parts.{Went, told, both_told, of_all, goes_on, went_nowhere, fails_after}

-- what follows from both setups, from the first one, and from programs
abbrev with_lines : Option (List ℕ) → Setup → Files → OwningSetup → Judged TwoBlocks
with_lines stimulus first f owning = and_then (schedules_at f stimulus) (λ lines. right (two_blocks first owning lines))

abbrev with_second : List ℕ → Option (List ℕ) → List Assembled → Files → Setup → Judged TwoBlocks
with_second second stimulus programs f first = and_then (second_at f second programs) (with_lines stimulus first f)

abbrev with_first : (config second : List ℕ) → Option (List ℕ) → Files → List Assembled → Judged TwoBlocks
with_first config second stimulus f programs = and_then (config_at f config programs) (with_second second stimulus programs f)

-- a run of two comes to what follows from its source
from_source : (files : Option Files) (source config second : List ℕ) (stimulus : Option (List ℕ))
    → IfSome files (λ f. pair_at f source config second stimulus ≡ and_then (source_at f source) (with_first config second stimulus f))
unfolding pair_at
from_source files source config second stimulus = of_all files _ (λ f. refl)

-- from its first configuration
from_first : (files : Option Files) (source config second : List ℕ) (stimulus : Option (List ℕ)) (programs : List Assembled)
    → IfSome files (λ f. source_at f source ≡ right programs)
    → IfSome files (λ f. pair_at f source config second stimulus ≡ with_first config second stimulus f programs)
from_first files source config second stimulus programs p =
    goes_on files (λ f. pair_at f source config second stimulus) (λ f. source_at f source) (with_first config second stimulus) (right programs)
    (from_source files source config second stimulus) p

-- from its second one
from_second : (files : Option Files) (source config second : List ℕ) (stimulus : Option (List ℕ)) (programs : List Assembled) (first : Setup)
    → IfSome files (λ f. source_at f source ≡ right programs) → IfSome files (λ f. config_at f config programs ≡ right first)
    → IfSome files (λ f. pair_at f source config second stimulus ≡ with_second second stimulus programs f first)
from_second files source config second stimulus programs first p q =
    goes_on files (λ f. pair_at f source config second stimulus) (λ f. config_at f config programs) (with_second second stimulus programs) (right first)
    (from_first files source config second stimulus programs p) q

-- and from the lines of its stimulus
from_lines : (files : Option Files) (source config second : List ℕ) (stimulus : Option (List ℕ)) (programs : List Assembled) (first : Setup) (owning : OwningSetup)
    → IfSome files (λ f. source_at f source ≡ right programs) → IfSome files (λ f. config_at f config programs ≡ right first)
    → IfSome files (λ f. second_at f second programs ≡ right owning)
    → IfSome files (λ f. pair_at f source config second stimulus ≡ with_lines stimulus first f owning)
from_lines files source config second stimulus programs first owning p q r =
    goes_on files (λ f. pair_at f source config second stimulus) (λ f. second_at f second programs) (with_lines stimulus first) (right owning)
    (from_second files source config second stimulus programs first p q) r

pub paired : (files : Option Files) (source config second : List ℕ) (stimulus : Option (List ℕ)) (programs : List Assembled) (first : Setup) (owning : OwningSetup)
    (lines : List Line × List Line) → IfSome files (λ f. source_at f source ≡ right programs) → IfSome files (λ f. config_at f config programs ≡ right first)
    → IfSome files (λ f. second_at f second programs ≡ right owning) → IfSome files (λ f. schedules_at f stimulus ≡ right lines)
    → IfSome files (λ f. pair_at f source config second stimulus ≡ right (two_blocks first owning lines))
paired files source config second stimulus programs first owning lines p q r s =
    goes_on files (λ f. pair_at f source config second stimulus) (λ f. schedules_at f stimulus) (λ f l. right (two_blocks first owning l)) (right lines)
    (from_lines files source config second stimulus programs first owning p q r) s

-- ---- what each part fails with, the run of two fails with

-- the source
pub source_fails : {F V W : Type 0} (seen : ShelfSeen F) (source config second : List ℕ) (stimulus : Option (List ℕ)) (view : V → List Assembled)
    (shown : W → TwoBlocks) (before after : F) (e : Fault) → KeepsPlan seen (source_plan source) view before after (Err e)
    → KeepsPlan seen (pair_plan source config second stimulus) shown before after (Err e)
source_fails seen source config second stimulus view shown before after e k =
    fails_after seen [] (slot Config (Some config) ∷ slot Second (Some second) ∷ slot Stimulus stimulus ∷ []) Source (Some source)
    (λ f. source_at f source) (with_first config second stimulus) (pair_plan source config second stimulus) view shown before before after e refl
    (λ P h. h) (of_all (seen.holds before) _ (λ f. refl)) (from_source (seen.holds before) source config second stimulus)
    (went_nowhere seen before) k

-- the first configuration, after a source that came out right
pub first_fails : {F V W : Type 0} (seen : ShelfSeen F) (source config second : List ℕ) (stimulus : Option (List ℕ)) (programs : List Assembled)
    (view : V → Setup) (shown : W → TwoBlocks) (before mid after : F) (e : Fault)
    → IfSome (seen.holds before) (λ f. source_at f source ≡ right programs) → Went seen (slot Source (Some source) ∷ []) before mid
    → KeepsPlan seen (setup_plan (Some config) programs) view mid after (Err e)
    → KeepsPlan seen (pair_plan source config second stimulus) shown before after (Err e)
first_fails seen source config second stimulus programs view shown before mid after e p w k =
    fails_after seen (slot Source (Some source) ∷ []) (slot Second (Some second) ∷ slot Stimulus stimulus ∷ []) Config (Some config)
    (λ f. config_at f config programs) (with_second second stimulus programs) (pair_plan source config second stimulus) view shown before mid after e refl
    (λ P h. h) (told (seen.holds before) _ _ (λ f r. ap is_right r) p)
    (from_first (seen.holds before) source config second stimulus programs p) w k

-- the second one, after both
pub second_fails : {F V W : Type 0} (seen : ShelfSeen F) (source config second : List ℕ) (stimulus : Option (List ℕ)) (programs : List Assembled) (first : Setup)
    (view : V → OwningSetup) (shown : W → TwoBlocks) (before mid after : F) (e : Fault)
    → IfSome (seen.holds before) (λ f. source_at f source ≡ right programs) → IfSome (seen.holds before) (λ f. config_at f config programs ≡ right first)
    → Went seen (slot Source (Some source) ∷ slot Config (Some config) ∷ []) before mid
    → KeepsPlan seen (second_plan second programs) view mid after (Err e)
    → KeepsPlan seen (pair_plan source config second stimulus) shown before after (Err e)
second_fails seen source config second stimulus programs first view shown before mid after e p q w k =
    fails_after seen (slot Source (Some source) ∷ slot Config (Some config) ∷ []) (slot Stimulus stimulus ∷ []) Second (Some second)
    (λ f. second_at f second programs) (with_lines stimulus first) (pair_plan source config second stimulus) view shown before mid after e refl
    (λ P h. h)
    (both_told (seen.holds before) _ _ _ (λ f r s. ap (λ (j : Judged (List Assembled)). is_right (and_then j (config_at f config))) r ∙ ap is_right s) p q)
    (from_second (seen.holds before) source config second stimulus programs first p q) w k

-- source and both configurations came out right
both_right : (files : Option Files) (source config second : List ℕ) (programs : List Assembled) (first : Setup) (owning : OwningSetup)
    → IfSome files (λ f. source_at f source ≡ right programs) → IfSome files (λ f. config_at f config programs ≡ right first)
    → IfSome files (λ f. second_at f second programs ≡ right owning)
    → IfSome files (λ f. is_right (and_then (source_at f source) (λ programs. and_then (config_at f config programs) (λ first. second_at f second programs))) ≡ true)
both_right files source config second programs first owning p q r =
    both_told files _ _ _ (λ f e s. ap is_right (e ∙ s))
    (goes_on files _ (λ f. config_at f config programs) (λ f first. second_at f second programs) (right first)
    (goes_on files (λ f. and_then (source_at f source) (λ programs. and_then (config_at f config programs) (λ first. second_at f second programs)))
    (λ f. source_at f source) (λ f programs. and_then (config_at f config programs) (λ first. second_at f second programs)) (right programs)
    (of_all files _ (λ f. refl)) p) q) r

-- the stimulus, after all three
pub lines_fail : {F V W : Type 0} (seen : ShelfSeen F) (source config second : List ℕ) (stimulus : Option (List ℕ)) (programs : List Assembled) (first : Setup)
    (owning : OwningSetup) (view : V → List Line × List Line) (shown : W → TwoBlocks) (before mid after : F) (e : Fault)
    → IfSome (seen.holds before) (λ f. source_at f source ≡ right programs) → IfSome (seen.holds before) (λ f. config_at f config programs ≡ right first)
    → IfSome (seen.holds before) (λ f. second_at f second programs ≡ right owning)
    → Went seen (slot Source (Some source) ∷ slot Config (Some config) ∷ slot Second (Some second) ∷ []) before mid
    → KeepsPlan seen (schedules_plan stimulus) view mid after (Err e)
    → KeepsPlan seen (pair_plan source config second stimulus) shown before after (Err e)
lines_fail seen source config second stimulus programs first owning view shown before mid after e p q r w k =
    fails_after seen (slot Source (Some source) ∷ slot Config (Some config) ∷ slot Second (Some second) ∷ []) [] Stimulus stimulus
    (λ f. schedules_at f stimulus) (λ f l. right (two_blocks first owning l)) (pair_plan source config second stimulus) view shown before mid after e refl
    (λ P h. h) (both_right (seen.holds before) source config second programs first owning p q r)
    (from_lines (seen.holds before) source config second stimulus programs first owning p q r) w k
