-- Worked rows: machines without choice, and the first bad visits of their spans, worked out by hand.
use Rattle.std.proofs.Common.{◌≡◌, ℕ, zero, suc, ◌<◌, ◌≤◌, ◌^◌, ◌⊎◌, true, false, Some, None, List, [], ◌∷◌, ◌++◌, map, replicate, inl, inr, refl, arith}
use Rattle.pio_encode.specs.declared.act.Act.TheVariants.{Jmp, Wait, Out, Set, Nothing}
use Rattle.pio_encode.specs.declared.act.Condition.TheVariants as condition
use Rattle.pio_encode.specs.declared.act.OutDestination.TheVariants as out_destination
use Rattle.pio_encode.specs.declared.act.SetDestination.TheVariants as set_destination
use Rattle.pio_encode.specs.declared.act.WaitSource.TheVariants as wait_source
use Rattle.pio_encode.specs.Word.{reading_of, act_of, delay_of, side_of, set_at}
use Rattle.pin_matrix.specs.Assumptions.{follow_of, raised_x, raised_y}
use Rattle.pin_matrix.specs.declared.mapping.Mapping.{Mapping}
use Rattle.pin_matrix.specs.declared.machine.MachineSetup.{MachineSetup}
use Rattle.pin_matrix.specs.declared.setup.Setup.{Setup}
use Rattle.pin_matrix.proofs.Greatest.{of_some, of_none}
use Rattle.pin_matrix.specs.declared.span.PinSignal.TheVariants.{Level}
use Rattle.pin_matrix.specs.declared.span.Span.{Span}
use Rattle.pin_matrix.specs.declared.span.SpanUnit.TheVariants.{Ticks}
use Rattle.span_step.specs.declared.cause.Cause.TheVariants.{U1, U2}
use Rattle.span_step.specs.Courses.{prompt, courses, watched}
use Rattle.span_step.specs.Narrowing.{narrowed, narrowing_after, nexts_of, with_assumptions}
use Rattle.span_step.specs.Outcomes.{outcomes, is_wild, may_stall}
use Rattle.span_step.specs.Steps.{bounds_of, rules_of, visit_of, with_end, with_outcome, step_by, context_steps}
use Rattle.span_bounds.specs.Tables.{start_context}
use Rattle.span_refuted.specs.OneWay.{is_always, is_settled, has_one_way, goes_to, reached, instruction_at, LeavesNoChoice}
use Rattle.span_refuted.specs.Visits.{visit, cause_at}

-- pin 0
abbrev pin_0 : Mapping
pin_0 = record { base = 0; count = 1; base_is_a_pin = omega arith; count_fits = omega arith }

-- machine 0, which sets pin 0 and wraps after address 1
abbrev machine : MachineSetup
machine = record {
  id = 0;
  start = 0;
  x = 0;
  y = 0;
  isr = 0;
  osr = 0;
  isr_count = 0;
  osr_count = 32;
  pending = None;
  int = 1;
  frac = 0;
  side_rule = record { bits = 0; opt = false; pindirs = false; fits = omega arith };
  wrap_bottom = 0;
  wrap_top = 1;
  in_base = 0;
  jmp_pin = 0;
  out = pin_0;
  set = pin_0;
  side = record { base = 0; count = 0; base_is_a_pin = omega arith; count_fits = omega arith };
  in_right = true;
  out_right = true;
  autopush = false;
  autopull = false;
  push_threshold = 32;
  pull_threshold = 32;
  join_tx = false;
  join_rx = false;
  status_rx = false;
  status_n = 0;
  id_in_block = omega arith;
  start_in_memory = omega arith;
  isr_has_bits = omega arith;
  osr_has_bits = omega arith;
  divides = refl;
  wrap_bottom_in_memory = omega arith;
  wrap_top_in_memory = omega arith;
  in_base_is_a_pin = omega arith;
  jmp_pin_is_a_pin = omega arith;
  sets_five_at_most = omega arith;
  pushes_some = omega arith;
  pushes_a_word = omega arith;
  pulls_some = omega arith;
  pulls_a_word = omega arith;
  joins_one_way = refl;
  status_in_field = omega arith;
}

-- a block with this machine alone and these words from address 0 on
abbrev block : List ℕ → Setup
block words = record {
  memory = words ++ replicate 30 0;
  machines = Some machine ∷ None ∷ None ∷ None ∷ [];
  high = 0;
  level = 0;
  out = 1;
  bypass = 0;
  spans = [];
  at_their_places = refl;
}

-- the high time of pin 0
abbrev high_time : (min max : ℕ) → min ≤ max → max < 2 ^ 24 → Span
high_time min max ordered bounded = record {
  name = 97 ∷ [];
  machine = 0;
  from_pin = 0;
  from_signal = Some Level;
  from_rise = true;
  to_pin = 0;
  to_signal = Some Level;
  to_rise = false;
  unit = Ticks;
  min = min;
  max = Some max;
  stalls = [];
  prompt = false;
  without = [];
  from_at = [];
  to_at = [];
  assume = [];
  named = refl;
  machine_in_block = omega arith;
  from_pin_is_a_pin = omega arith;
  to_pin_is_a_pin = omega arith;
  ordered = of_some (λ m. min ≤ m) max ordered;
  min_fits = omega (arith, ordered, bounded);
  bounded = of_some (λ m. m < 2 ^ 24) max bounded;
  stalls_in_ticks = refl;
}

-- the same with a least bound alone
abbrev high_time_from : (min : ℕ) → min < 2 ^ 24 → Span
high_time_from min fits = record {
  name = 97 ∷ [];
  machine = 0;
  from_pin = 0;
  from_signal = Some Level;
  from_rise = true;
  to_pin = 0;
  to_signal = Some Level;
  to_rise = false;
  unit = Ticks;
  min = min;
  max = None;
  stalls = [];
  prompt = false;
  without = [];
  from_at = [];
  to_at = [];
  assume = [];
  named = refl;
  machine_in_block = omega arith;
  from_pin_is_a_pin = omega arith;
  to_pin_is_a_pin = omega arith;
  ordered = of_none (λ m. min ≤ m);
  min_fits = fits;
  bounded = of_none (λ m. m < 2 ^ 24);
  stalls_in_ticks = refl;
}

-- `set pins, 1`, `set pins, 0`
blink : Setup
blink = block (57345 ∷ 57344 ∷ [])

-- `set pins, 1`, `l: jmp l`
stuck : Setup
stuck = block (57345 ∷ 1 ∷ [])

-- two ticks are asked of the blink, and one comes; one is asked, and comes again and again; four are allowed of a high time
-- without end
blink-row : (cause_at blink (high_time 2 2 (omega arith) (omega arith)) 0 ≡ None) × (cause_at blink (high_time 2 2 (omega arith) (omega arith)) 1 ≡ Some U2)
unfolding blink visit start_context context_steps nexts_of narrowed narrowing_after with_assumptions follow_of raised_x raised_y step_by with_outcome with_end visit_of rules_of bounds_of courses prompt watched outcomes is_wild may_stall reading_of act_of delay_of side_of set_at
blink-row = (refl, refl)

blink-good-row : (cause_at blink (high_time 1 1 (omega arith) (omega arith)) 1 ≡ None) × (cause_at blink (high_time 1 1 (omega arith) (omega arith)) 3 ≡ None)
unfolding blink visit start_context context_steps nexts_of narrowed narrowing_after with_assumptions follow_of raised_x raised_y step_by with_outcome with_end visit_of rules_of bounds_of courses prompt watched outcomes is_wild may_stall reading_of act_of delay_of side_of set_at
blink-good-row = (refl, refl)

stuck-row : (cause_at stuck (high_time 0 4 (omega arith) (omega arith)) 4 ≡ None) × (cause_at stuck (high_time 0 4 (omega arith) (omega arith)) 5 ≡ Some U1)
unfolding stuck visit start_context context_steps nexts_of narrowed narrowing_after with_assumptions follow_of raised_x raised_y step_by with_outcome with_end visit_of rules_of bounds_of courses prompt watched outcomes is_wild may_stall reading_of act_of delay_of side_of set_at
stuck-row = (refl, refl)

-- with a least bound alone two ticks are missing as before, and a high time without end is right
blink-freely-row : (cause_at blink (high_time_from 1 (omega arith)) 1 ≡ None) × (cause_at blink (high_time_from 2 (omega arith)) 1 ≡ Some U2)
unfolding blink visit start_context context_steps nexts_of narrowed narrowing_after with_assumptions follow_of raised_x raised_y step_by with_outcome with_end visit_of rules_of bounds_of courses prompt watched outcomes is_wild may_stall reading_of act_of delay_of side_of set_at
blink-freely-row = (refl, refl)

stuck-freely-row : (cause_at stuck (high_time_from 4 (omega arith)) 5 ≡ None) × (cause_at stuck (high_time_from 4 (omega arith)) 6 ≡ None)
unfolding stuck visit start_context context_steps nexts_of narrowed narrowing_after with_assumptions follow_of raised_x raised_y step_by with_outcome with_end visit_of rules_of bounds_of courses prompt watched outcomes is_wild may_stall reading_of act_of delay_of side_of set_at
stuck-freely-row = (refl, refl)

-- the blink leaves no choice: it comes to addresses 0 and 1 in turn
starts_at_0 : reached blink machine 0 ≡ 0
unfolding reached
starts_at_0 = refl

after_0 : (i : ℕ) → reached blink machine i ≡ 0 → reached blink machine (suc i) ≡ 1
unfolding reached goes_to blink reading_of act_of set_at
after_0 i e = rw e refl

after_1 : (i : ℕ) → reached blink machine i ≡ 1 → reached blink machine (suc i) ≡ 0
unfolding reached goes_to blink reading_of act_of set_at
after_1 i e = rw e refl

in_turn : (i : ℕ) → (reached blink machine i ≡ 0) ⊎ (reached blink machine i ≡ 1)
in_turn zero = inl starts_at_0
in_turn (suc i) = elim (in_turn i) [ inl e ↦ inr (after_0 i e) | inr e ↦ inl (after_1 i e) ]

way_at : (i a : ℕ) → reached blink machine i ≡ a → has_one_way (instruction_at blink machine a).act machine ≡ true → has_one_way (instruction_at blink machine (reached blink machine i)).act machine ≡ true
way_at i a e h = rw e h

ways : (has_one_way (instruction_at blink machine 0).act machine ≡ true) × (has_one_way (instruction_at blink machine 1).act machine ≡ true)
unfolding is_settled may_stall blink reading_of act_of set_at
ways = (refl, refl)

blink-choice-row : LeavesNoChoice blink (high_time 2 2 (omega arith) (omega arith))
unfolding blink
blink-choice-row = record {
  simple = record { from = refl; to = refl; from_any = refl; to_any = refl; plain = record { waits = refl; leaves = refl; assumes = refl } };
  machine = machine;
  configured = refl;
  begins = refl;
  one_way = λ i. elim (in_turn i) [ inl e ↦ way_at i 0 e ways.0 | inr e ↦ way_at i 1 e ways.1 ];
}

-- what leaves a choice
choices-row : (has_one_way (Wait true wait_source.Gpio 5) machine ≡ false) × ((has_one_way (Jmp condition.Pin 3) machine ≡ false) × (has_one_way (Out out_destination.Pins 1) machine ≡ false))
unfolding is_settled may_stall
choices-row = (refl, (refl, refl))

-- what leaves none: a JMP without a condition, which goes on at its address, and instructions that need no word and no flag
settled-row : (has_one_way (Jmp condition.Always 3) machine ≡ true) × ((goes_to (Jmp condition.Always 3) 1 ≡ 3) × ((has_one_way (Set set_destination.Pins 1) machine ≡ true) × ((goes_to (Set set_destination.Pins 1) 1 ≡ 1) × (has_one_way Nothing machine ≡ true))))
unfolding is_settled may_stall goes_to
settled-row = (refl, (refl, (refl, (refl, refl))))

-- a JMP with any condition leaves a choice
jumps-row : map (λ c. is_always c) (condition.Always ∷ condition.XZero ∷ condition.XDecrement ∷ condition.YZero ∷ condition.YDecrement ∷ condition.XNotY ∷ condition.Pin ∷ condition.OsrNotEmpty ∷ [])
    ≡ true ∷ replicate 7 false
jumps-row = refl
