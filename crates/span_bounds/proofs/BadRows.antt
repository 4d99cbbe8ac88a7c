-- Rows of what is bad in every closed table, worked by hand: a table that is closed but not good counts.
use Rattle.std.proofs.Common.{◌≡◌, ◌<◌, ◌≤◌, ◌^◌, true, false, Some, None, List, [], ◌∷◌, replicate, refl, subst, arith}
use Rattle.std.proofs.lemmas.Bool.{both_ways}
use Rattle.pio_encode.specs.Word.{reading_of, act_of, delay_of, side_of, set_at}
use Rattle.pin_matrix.specs.declared.mapping.Mapping.{Mapping}
use Rattle.pin_matrix.specs.declared.machine.MachineSetup.{MachineSetup}
use Rattle.pin_matrix.specs.declared.setup.Setup.{Setup}
use Rattle.pin_matrix.specs.declared.span.PinSignal.TheVariants.{Level}
use Rattle.pin_matrix.specs.declared.span.Span.{Span}
use Rattle.pin_matrix.specs.declared.span.SpanUnit.TheVariants.{Ticks}
use Rattle.pin_matrix.specs.Assumptions.{follow_of, raised_x, raised_y}
use Rattle.pin_matrix.specs.Followed.{followed}
use Rattle.pin_matrix.proofs.Greatest.{of_some}
use Rattle.span_step.specs.declared.ages.Ages.TheVariants.{Empty, Between}
use Rattle.span_step.specs.declared.cause.Cause.TheVariants.{U1, U2}
use Rattle.span_step.specs.Contexts.{Context}
use Rattle.span_step.specs.Courses.{prompt, courses, watched}
use Rattle.span_step.specs.Narrowing.{narrowed, narrowing_after, nexts_of, with_assumptions}
use Rattle.span_step.specs.Outcomes.{outcomes, is_wild, may_stall}
use Rattle.span_step.specs.Steps.{bounds_of, rules_of, visit_of, with_end, with_outcome, step_by, context_steps}
use Rattle.span_bounds.specs.declared.row.Row.{Row}
use Rattle.span_bounds.specs.Tables.{start_context, IsTable, IsClosed}
use Rattle.span_bounds.specs.Answers.{IsBadEverywhere}
use Rattle.span_bounds.proofs.Least.{same_ages}

-- pin 0
abbrev pin_0 : Mapping
pin_0 = record { base = 0; count = 1; base_is_a_pin = omega arith; count_fits = omega arith }

-- machine 0, which sets pin 0 and wraps after address 1
abbrev machine : MachineSetup
machine = record {
  id = 0;
  start = 0;
  x = 0;
  y = 0;
  isr = 0;
  osr = 0;
  isr_count = 0;
  osr_count = 32;
  pending = None;
  int = 1;
  frac = 0;
  side_rule = record { bits = 0; opt = false; pindirs = false; fits = omega arith };
  wrap_bottom = 0;
  wrap_top = 1;
  in_base = 0;
  jmp_pin = 0;
  out = pin_0;
  set = pin_0;
  side = record { base = 0; count = 0; base_is_a_pin = omega arith; count_fits = omega arith };
  in_right = true;
  out_right = true;
  autopush = false;
  autopull = false;
  push_threshold = 32;
  pull_threshold = 32;
  join_tx = false;
  join_rx = false;
  status_rx = false;
  status_n = 0;
  id_in_block = omega arith;
  start_in_memory = omega arith;
  isr_has_bits = omega arith;
  osr_has_bits = omega arith;
  divides = refl;
  wrap_bottom_in_memory = omega arith;
  wrap_top_in_memory = omega arith;
  in_base_is_a_pin = omega arith;
  jmp_pin_is_a_pin = omega arith;
  sets_five_at_most = omega arith;
  pushes_some = omega arith;
  pushes_a_word = omega arith;
  pulls_some = omega arith;
  pulls_a_word = omega arith;
  joins_one_way = refl;
  status_in_field = omega arith;
}

-- `set pins, 1`, `set pins, 0`, again and again, from pin 0 low on
blink : Setup
blink = record {
  memory = 57345 ∷ 57344 ∷ replicate 30 0;
  machines = Some machine ∷ None ∷ None ∷ None ∷ [];
  high = 0;
  level = 0;
  out = 1;
  bypass = 0;
  spans = [];
  at_their_places = refl;
}

-- the high time of pin 0, of which two ticks are asked
two_ticks : Span
two_ticks = record {
  name = 97 ∷ [];
  machine = 0;
  from_pin = 0;
  from_signal = Some Level;
  from_rise = true;
  to_pin = 0;
  to_signal = Some Level;
  to_rise = false;
  unit = Ticks;
  min = 2;
  max = Some 2;
  stalls = [];
  prompt = false;
  without = [];
  from_at = [];
  to_at = [];
  assume = [];
  named = refl;
  machine_in_block = omega arith;
  from_pin_is_a_pin = omega arith;
  to_pin_is_a_pin = omega arith;
  ordered = of_some (λ m. 2 ≤ m) 2 (omega arith);
  min_fits = omega arith;
  bounded = of_some (λ m. m < 2 ^ 24) 2 (omega arith);
  stalls_in_ticks = refl;
}

-- before `set pins, 1` the pin is low, and before `set pins, 0` it is high; X and Y are 0
abbrev low : Context
low = record { address = 0; x = Some 0; y = Some 0; from = false; to = false }

abbrev high : Context
high = record { address = 1; x = Some 0; y = Some 0; from = true; to = true }

-- the row of the rise, with an open edge of age 0, and the row of the fall
abbrev table : List Row
table = record { context = low; ages = Empty } ∷ record { context = high; ages = Between 0 0 } ∷ []

table_row : IsTable (followed two_ticks) table
unfolding two_ticks follow_of raised_x raised_y
table_row = (refl, (refl, (refl, (refl, tt))))

closed_row : IsClosed blink two_ticks table
unfolding blink two_ticks start_context context_steps step_by with_outcome with_end visit_of rules_of bounds_of courses prompt watched outcomes is_wild may_stall reading_of act_of delay_of side_of set_at follow_of raised_x raised_y narrowing_after with_assumptions narrowed nexts_of
closed_row = record { starts = tt; steps = (((omega arith, omega arith), tt), ((tt, tt), tt)) }

-- The table is closed and isn't good, and it counts: its row of the fall is bad for U2, and not for U1; that of the rise isn't bad.
fall_row : IsBadEverywhere blink two_ticks high U1 → ⊥
unfolding blink two_ticks start_context context_steps step_by with_outcome with_end visit_of rules_of bounds_of courses prompt watched outcomes is_wild may_stall reading_of act_of delay_of side_of set_at follow_of raised_x raised_y narrowing_after with_assumptions narrowed nexts_of
fall_row is =
    let found = is.bad table table_row closed_row in
    both_ways _ (subst (λ a. (context_steps blink two_ticks high a).causes.u1 ≡ false) (same_ages found.1.0) refl) found.1.1

rise_row : IsBadEverywhere blink two_ticks low U2 → ⊥
unfolding blink two_ticks start_context context_steps step_by with_outcome with_end visit_of rules_of bounds_of courses prompt watched outcomes is_wild may_stall reading_of act_of delay_of side_of set_at follow_of raised_x raised_y narrowing_after with_assumptions narrowed nexts_of
rise_row is =
    let found = is.bad table table_row closed_row in
    both_ways _ (subst (λ a. (context_steps blink two_ticks low a).causes.u2 ≡ false) (same_ages found.1.0) refl) found.1.1
