-- What a tick of an instruction wants.
use Rattle.std.proofs.Common.{◌≡◌, ℕ, Bool, true, false, ◌||◌, cond, Option, Some, None, [], ◌∷◌, refl, ap, ◌∙◌}
use Rattle.pio_encode.specs.declared.op.Op.{Op}
use Rattle.pin_matrix.specs.declared.machine.MachineSetup.{MachineSetup}
use Rattle.sm_registers.specs.declared.end.End.{End}
use Rattle.sm_registers.specs.declared.end.End.TheVariants.{Stalls, GoesOn, Levels, Directions, Jumps, Executes}
use Rattle.sm_registers.specs.declared.intent.Intent.{Intent}
use Rattle.sm_registers.specs.declared.plan.Side.{Side}
use Rattle.sm_registers.specs.declared.plan.Side.TheVariants as side
use Rattle.sm_registers.specs.declared.registers.Registers.{Registers}
use Rattle.sm_registers.specs.Effects.{Effect}
use Rattle.sm_registers.specs.Ends.{effect_by, end_level, end_direction, end_stalls}
use Rattle.sm_registers.specs.declared.intent.Kind.TheVariants.{First, Late}
use Rattle.sm_registers.specs.Plans.{side_level, side_direction, side_of}
use Rattle.sm_registers.specs.Queues.{Queues}
use Rattle.sm_registers.specs.Tick.{after_effect, refills, side_writes, tick_by}
use Rattle.sm_registers.proofs.SimpleTicks.{is_side, none_either}

-- what is written by side-set in a tick
in_tick : (s : MachineSetup) (value : Option ℕ) (begun : Bool) → Side
in_tick s value begun = cond begun side.Nothing (side_of s value)

begun_level : (s : MachineSetup) (value : Option ℕ) → (0, 0) ≡ cond s.side_rule.pindirs (0, 0) (side_writes value true s)
begun_level s None = none_either s.side_rule.pindirs
begun_level s (Some value) = none_either s.side_rule.pindirs

begun_direction : (s : MachineSetup) (value : Option ℕ) → (0, 0) ≡ cond s.side_rule.pindirs (side_writes value true s) (0, 0)
begun_direction s None = none_either s.side_rule.pindirs
begun_direction s (Some value) = none_either s.side_rule.pindirs

tick_level : (s : MachineSetup) (value : Option ℕ) (begun : Bool) → side_level (cond begun side.Nothing (side_of s value)) ≡ cond s.side_rule.pindirs (0, 0) (side_writes value begun s)
tick_level s value true = begun_level s value
tick_level s value false = (is_side s value).level

tick_direction : (s : MachineSetup) (value : Option ℕ) (begun : Bool) → side_direction (cond begun side.Nothing (side_of s value)) ≡ cond s.side_rule.pindirs (side_writes value begun s) (0, 0)
tick_direction s value true = begun_direction s value
tick_direction s value false = (is_side s value).direction

-- the intent of these ends
abbrev intent_by : End → (level direction : ℕ × ℕ) → (take begun : Bool) → Intent → Intent
intent_by end level direction take begun wants = record wants {
  level = end_level end ∷ level ∷ [];
  direction = end_direction end ∷ direction ∷ [];
  take = take;
  kind = cond begun Late First;
  stalled = end_stalls end;
}

by_end :
    (op : Op) (s : MachineSetup) (q : Queues) (r left : Registers) (wants : Intent) (end : End)
    → intent_by end (cond s.side_rule.pindirs (0, 0) (side_writes op.side r.begun s)) (cond s.side_rule.pindirs (side_writes op.side r.begun s) (0, 0))
    (wants.take || refills s q (after_effect op.delay s r (effect_by left wants end))) r.begun wants
    ≡ (tick_by op s q r (effect_by left wants end)).1
unfolding tick_by
by_end op s q r left wants Stalls = refl
by_end op s q r left wants GoesOn = refl
by_end op s q r left wants (Levels write) = refl
by_end op s q r left wants (Directions write) = refl
by_end op s q r left wants (Jumps address) = refl
by_end op s q r left wants (Executes word) = refl

pub wanted :
    (op : Op) (s : MachineSetup) (q : Queues) (r left after : Registers) (wants : Intent) (end : End) (e : Effect) (it : Side) (refilled : Bool) → effect_by left wants end ≡ e
    → it ≡ side_of s op.side → after ≡ after_effect op.delay s r (effect_by left wants end) → refilled ≡ refills s q after
    → intent_by end (side_level (cond r.begun side.Nothing it)) (side_direction (cond r.begun side.Nothing it)) (wants.take || refilled) r.begun wants
    ≡ (tick_by op s q r e).1
wanted op s q r left after wants end e it refilled effect side_is concluded taken =
    ap (λ x. intent_by end (side_level (cond r.begun side.Nothing x)) (side_direction (cond r.begun side.Nothing x)) (wants.take || refilled) r.begun wants) side_is
    ∙ ap (λ x. intent_by end x (side_direction (cond r.begun side.Nothing (side_of s op.side))) (wants.take || refilled) r.begun wants) (tick_level s op.side r.begun)
    ∙ ap (λ x. intent_by end (cond s.side_rule.pindirs (0, 0) (side_writes op.side r.begun s)) x (wants.take || refilled) r.begun wants) (tick_direction s op.side r.begun)
    ∙ ap (λ x. intent_by end (cond s.side_rule.pindirs (0, 0) (side_writes op.side r.begun s)) (cond s.side_rule.pindirs (side_writes op.side r.begun s) (0, 0)) (wants.take || x) r.begun wants) (taken ∙ ap (refills s q) concluded)
    ∙ by_end op s q r left wants end
    ∙ ap (λ x. (tick_by op s q r x).1) effect
