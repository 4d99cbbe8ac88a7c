-- Rows of steps of a whole setup with an assumption, and of what a tick keeps of it, worked by hand.
use Rattle.std.proofs.Common.{◌≡◌, ℕ, Bool, true, false, Option, Some, None, [], ◌∷◌, refl, arith}
use Rattle.pio_encode.specs.Word.{reading_of, act_of, push_or_pull_at, delay_of, side_of, mov_at, set_at}
use Rattle.pin_matrix.specs.Assumptions.{raised_x, raised_y, follow_of}
use Rattle.pin_matrix.specs.declared.assume.Range.{Range}
use Rattle.pin_matrix.specs.declared.setup.Setup.{Setup}
use Rattle.pin_matrix.specs.declared.span.Span.{Span}
use Rattle.sm_registers.specs.declared.intent.Intent.{Intent}
use Rattle.sm_registers.specs.declared.intent.Kind.{Kind}
use Rattle.sm_registers.specs.declared.intent.Kind.TheVariants.{Off, First, Late, Delay}
use Rattle.sm_registers.specs.declared.registers.Registers.{Registers}
use Rattle.sm_registers.specs.Intents.{no_intent}
use Rattle.sm_registers.specs.State.{first_registers}
use Rattle.span_step.specs.declared.ages.Ages.TheVariants.{Empty}
use Rattle.span_step.specs.declared.cause.Cause.TheVariants.{U6}
use Rattle.span_step.specs.declared.stepped.Next.{Next}
use Rattle.span_step.specs.Contexts.{Context}
use Rattle.span_step.specs.Courses.{courses, delayed, prompt, watched}
use Rattle.span_step.specs.Laws.{first_cause}
use Rattle.span_step.specs.Narrowing.{narrowed, narrowing_after, nexts_of, with_assumptions}
use Rattle.span_step.specs.Outcomes.{is_wild, may_stall, outcomes}
use Rattle.span_step.specs.Steps.{bounds_of, context_steps, rules_of, step_by, visit_of, with_end, with_outcome}
use Rattle.span_ticks.specs.Following.{kept_after}
use Rattle.span_check.proofs.WorkedSetups.{plain_machine, block_of, assuming_of}

-- `out x, 8`, `set x, 5`, `jmp x-- 0`, without autopull
program : Setup
program = block_of plain_machine refl (24616 ∷ 57381 ∷ 64 ∷ []) 0

-- a range
abbrev to : (lo hi : ℕ) → Option Range
to lo hi = Some (record { lo = lo; hi = hi })

-- a span with this assumption of the instruction at an address, and two with both
abbrev assuming : (address : ℕ) → (x y : Option Range) → Span
assuming address x y = assuming_of 9 (omega arith) (record { address = address; x = x; y = y } ∷ [])

abbrev assuming_two : (address : ℕ) → (one other : Option Range) → Span
assuming_two address one other = assuming_of 9 (omega arith) (record { address = address; x = one; y = None } ∷ record { address = address; x = other; y = None } ∷ [])

-- before or after an instruction, with both levels low
abbrev at : (address : ℕ) → (x y : Option ℕ) → Context
at address x y = record { address = address; x = x; y = y; from = false; to = false }

-- one that can come next, without ages
abbrev comes : (address : ℕ) → (x y : Option ℕ) → Next
comes address x y = record { context = at address x y; ages = Empty; passes = true }

-- after OUT each number of the range comes next, and Y is as it was
narrowed-row : nexts_of (context_steps program (assuming 0 (to 2 4) None) (at 0 (Some 9) (Some 7)) Empty) ≡ comes 1 (Some 2) (Some 7) ∷ comes 1 (Some 3) (Some 7) ∷ comes 1 (Some 4) (Some 7) ∷ []
unfolding program context_steps step_by visit_of rules_of bounds_of with_outcome with_end courses prompt delayed watched outcomes is_wild may_stall narrowing_after with_assumptions narrowed nexts_of follow_of raised_x raised_y reading_of act_of push_or_pull_at delay_of side_of set_at mov_at
narrowed-row = refl

-- without a range of this instruction any number does
elsewhere-row : nexts_of (context_steps program (assuming 1 (to 2 4) None) (at 0 (Some 9) (Some 7)) Empty) ≡ comes 1 None (Some 7) ∷ []
unfolding program context_steps step_by visit_of rules_of bounds_of with_outcome with_end courses prompt delayed watched outcomes is_wild may_stall narrowing_after with_assumptions narrowed nexts_of follow_of raised_x raised_y reading_of act_of push_or_pull_at delay_of side_of set_at mov_at
elsewhere-row = refl

-- of two ranges what both have comes
both-row : nexts_of (context_steps program (assuming_two 0 (to 2 4) (to 4 9)) (at 0 None None) Empty) ≡ comes 1 (Some 4) None ∷ []
unfolding program context_steps step_by visit_of rules_of bounds_of with_outcome with_end courses prompt delayed watched outcomes is_wild may_stall narrowing_after with_assumptions narrowed nexts_of follow_of raised_x raised_y reading_of act_of push_or_pull_at delay_of side_of set_at mov_at
both-row = refl

-- SET leaves 5, which is in the one range, and not in the other: then nothing comes, and the row is bad by U6
within-row : (nexts_of (context_steps program (assuming 1 (to 5 9) None) (at 1 None None) Empty) ≡ comes 2 (Some 5) None ∷ []) × (first_cause (context_steps program (assuming 1 (to 5 9) None) (at 1 None None) Empty).causes ≡ None)
unfolding program context_steps step_by visit_of rules_of bounds_of with_outcome with_end courses prompt delayed watched outcomes is_wild may_stall narrowing_after with_assumptions narrowed nexts_of follow_of raised_x raised_y reading_of act_of push_or_pull_at delay_of side_of set_at mov_at
within-row = (refl, refl)

outside-row : (nexts_of (context_steps program (assuming 1 (to 0 4) None) (at 1 None None) Empty) ≡ []) × (first_cause (context_steps program (assuming 1 (to 0 4) None) (at 1 None None) Empty).causes ≡ Some U6)
unfolding program context_steps step_by visit_of rules_of bounds_of with_outcome with_end courses prompt delayed watched outcomes is_wild may_stall narrowing_after with_assumptions narrowed nexts_of follow_of raised_x raised_y reading_of act_of push_or_pull_at delay_of side_of set_at mov_at
outside-row = (refl, refl)

-- nothing comes where the ranges have no number in common, or where Y is outside its own
apart-row : (first_cause (context_steps program (assuming_two 0 (to 2 4) (to 5 9)) (at 0 None None) Empty).causes ≡ Some U6) × (first_cause (context_steps program (assuming 0 (to 2 4) (to 8 9)) (at 0 None (Some 7)) Empty).causes ≡ Some U6)
unfolding program context_steps step_by visit_of rules_of bounds_of with_outcome with_end courses prompt delayed watched outcomes is_wild may_stall narrowing_after with_assumptions narrowed nexts_of follow_of raised_x raised_y reading_of act_of push_or_pull_at delay_of side_of set_at mov_at
apart-row = (refl, refl)

-- `x--` of a JMP counts before the range is asked: 3 falls to 2, and 0 to any number
counted-row : (nexts_of (context_steps program (assuming 2 (to 2 4) None) (at 2 (Some 3) None) Empty) ≡ comes 0 (Some 2) None ∷ []) × (nexts_of (context_steps program (assuming 2 (to 3 4) None) (at 2 (Some 0) None) Empty) ≡ comes 3 (Some 3) None ∷ comes 3 (Some 4) None ∷ []) × (first_cause (context_steps program (assuming 2 (to 3 4) None) (at 2 (Some 3) None) Empty).causes ≡ Some U6)
unfolding program context_steps step_by visit_of rules_of bounds_of with_outcome with_end courses prompt delayed watched outcomes is_wild may_stall narrowing_after with_assumptions narrowed nexts_of follow_of raised_x raised_y reading_of act_of push_or_pull_at delay_of side_of set_at mov_at
counted-row = (refl, refl, refl)

-- a machine with 5 in X, or 3, in a clock with an intent of this kind
abbrev five : (kind : Kind) → (stalled : Bool) → Registers × Intent
five kind stalled = (record (first_registers plain_machine) { x = 5 }, record no_intent { kind = kind; stalled = stalled })

abbrev three : (kind : Kind) → (stalled : Bool) → Registers × Intent
three kind stalled = (record (first_registers plain_machine) { x = 3 }, record no_intent { kind = kind; stalled = stalled })

-- where the instruction at 1 finishes, 5 isn't as assumed and 3 is; elsewhere nothing is assumed
finished-row : (kept_after (assuming 1 (to 2 4) None) true 1 (five First false) ≡ false) × (kept_after (assuming 1 (to 2 4) None) true 1 (five Late false) ≡ false) × (kept_after (assuming 1 (to 2 4) None) false 1 (three First false) ≡ true) × (kept_after (assuming 1 (to 2 4) None) false 2 (five First false) ≡ true)
finished-row = (refl, refl, refl, refl)

-- where it stalls, in a delay, and without a tick it stays as it was
unfinished-row : (kept_after (assuming 1 (to 2 4) None) true 1 (five First true) ≡ true) × (kept_after (assuming 1 (to 2 4) None) false 1 (three Late true) ≡ false) × (kept_after (assuming 1 (to 2 4) None) true 1 (five Delay false) ≡ true) × (kept_after (assuming 1 (to 2 4) None) false 1 (three Delay false) ≡ false) × (kept_after (assuming 1 (to 2 4) None) false 1 (three Off false) ≡ false) × (kept_after (assuming 1 (to 2 4) None) true 1 (five Off false) ≡ true)
unfinished-row = (refl, refl, refl, refl, refl, refl)
