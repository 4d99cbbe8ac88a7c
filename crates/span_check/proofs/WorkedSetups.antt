-- Setups of one machine for the worked rows.
use Rattle.std.proofs.Common.{ℕ, ◌<◌, ◌≤◌, ◌^◌, IsTrue, Bool, true, false, Some, None, List, [], ◌∷◌, ◌++◌, replicate, refl, arith}
use Rattle.pio_encode.specs.declared.rule.SideRule.{SideRule}
use Rattle.pin_matrix.specs.declared.assume.Assumption.{Assumption}
use Rattle.pin_matrix.specs.declared.mapping.Mapping.{Mapping}
use Rattle.pin_matrix.specs.declared.machine.MachineSetup.{MachineSetup}
use Rattle.pin_matrix.specs.declared.setup.Setup.{Setup}
use Rattle.pin_matrix.specs.Setups.{ids_are_places}
use Rattle.pin_matrix.specs.declared.span.PinSignal.TheVariants.{Level, Direction}
use Rattle.pin_matrix.specs.declared.span.Span.{Span}
use Rattle.pin_matrix.specs.declared.span.SpanUnit.TheVariants.{Ticks}
use Rattle.pin_matrix.proofs.Greatest.{of_some, of_none}

-- no side-set
abbrev pub no_side : SideRule
no_side = record { bits = 0; opt = false; pindirs = false; fits = omega arith }

-- `.side_set 1` and `.side_set 1 opt`
abbrev pub side_one : SideRule
side_one = record { bits = 1; opt = false; pindirs = false; fits = omega arith }

abbrev pub side_one_opt : SideRule
side_one_opt = record { bits = 1; opt = true; pindirs = false; fits = omega arith }

-- pin 0, or no pin
abbrev pub pin_0 : Mapping
pin_0 = record { base = 0; count = 1; base_is_a_pin = omega arith; count_fits = omega arith }

abbrev pub no_pin : Mapping
no_pin = record { base = 0; count = 0; base_is_a_pin = omega arith; count_fits = omega arith }

-- machine 0 by default, which wraps at address 31
abbrev pub plain_machine : MachineSetup
plain_machine = record {
  id = 0;
  start = 0;
  x = 0;
  y = 0;
  isr = 0;
  osr = 0;
  isr_count = 0;
  osr_count = 32;
  pending = None;
  int = 1;
  frac = 0;
  side_rule = no_side;
  wrap_bottom = 0;
  wrap_top = 31;
  in_base = 0;
  jmp_pin = 0;
  out = no_pin;
  set = pin_0;
  side = no_pin;
  in_right = true;
  out_right = true;
  autopush = false;
  autopull = false;
  push_threshold = 32;
  pull_threshold = 32;
  join_tx = false;
  join_rx = false;
  status_rx = false;
  status_n = 0;
  id_in_block = omega arith;
  start_in_memory = omega arith;
  isr_has_bits = omega arith;
  osr_has_bits = omega arith;
  divides = refl;
  wrap_bottom_in_memory = omega arith;
  wrap_top_in_memory = omega arith;
  in_base_is_a_pin = omega arith;
  jmp_pin_is_a_pin = omega arith;
  sets_five_at_most = omega arith;
  pushes_some = omega arith;
  pushes_a_word = omega arith;
  pulls_some = omega arith;
  pulls_a_word = omega arith;
  joins_one_way = refl;
  status_in_field = omega arith;
}

-- the same with OUT on pin 0 and autopull, over two words
abbrev pub pulling : MachineSetup
pulling = record plain_machine { out = pin_0; autopull = true; wrap_top = 1; wrap_top_in_memory = omega arith }

-- a block with this machine alone, these words from address 0 on, and pin 0 at this level
abbrev pub block_of : (m : MachineSetup) → IsTrue (ids_are_places 0 (Some m ∷ None ∷ None ∷ None ∷ [])) → (words : List ℕ) → (level : ℕ) → Setup
block_of m there words level = record {
  memory = words ++ replicate 28 0;
  machines = Some m ∷ None ∷ None ∷ None ∷ [];
  high = 0;
  level = level;
  out = 1;
  bypass = 0;
  spans = [];
  at_their_places = there;
}

-- a span of machine 0 between edges of pin 0
abbrev pub span_of : (from_rise to_rise : Bool) → (min max : ℕ) → min ≤ max → max < 2 ^ 24 → (stalls : List ℕ) → Span
span_of from_rise to_rise min max ordered bounded stalls = record {
  name = 97 ∷ [];
  machine = 0;
  from_pin = 0;
  from_signal = Some Level;
  from_rise = from_rise;
  to_pin = 0;
  to_signal = Some Level;
  to_rise = to_rise;
  unit = Ticks;
  min = min;
  max = Some max;
  stalls = stalls;
  prompt = false;
  without = [];
  from_at = [];
  to_at = [];
  assume = [];
  named = refl;
  machine_in_block = omega arith;
  from_pin_is_a_pin = omega arith;
  to_pin_is_a_pin = omega arith;
  ordered = of_some (λ m. min ≤ m) max ordered;
  min_fits = omega (arith, ordered, bounded);
  bounded = of_some (λ m. m < 2 ^ 24) max bounded;
  stalls_in_ticks = refl;
}

-- the same without a greatest bound
abbrev pub span_from : (from_rise to_rise : Bool) → (min : ℕ) → min < 2 ^ 24 → (stalls : List ℕ) → Span
span_from from_rise to_rise min fits stalls = record {
  name = 97 ∷ [];
  machine = 0;
  from_pin = 0;
  from_signal = Some Level;
  from_rise = from_rise;
  to_pin = 0;
  to_signal = Some Level;
  to_rise = to_rise;
  unit = Ticks;
  min = min;
  max = None;
  stalls = stalls;
  prompt = false;
  without = [];
  from_at = [];
  to_at = [];
  assume = [];
  named = refl;
  machine_in_block = omega arith;
  from_pin_is_a_pin = omega arith;
  to_pin_is_a_pin = omega arith;
  ordered = of_none (λ m. min ≤ m);
  min_fits = fits;
  bounded = of_none (λ m. m < 2 ^ 24);
  stalls_in_ticks = refl;
}

-- one between edges of the pin's direction
abbrev pub turn_of : (from_out to_out : Bool) → Span
turn_of from_out to_out = record (span_of from_out to_out 0 9 (omega arith) (omega arith) []) { from_signal = Some Direction; to_signal = Some Direction }

-- one between ends of instructions
abbrev pub ends_of : (from_at to_at : List ℕ) → Span
ends_of from_at to_at = record (span_of true false 1 1 (omega arith) (omega arith) []) { from_signal = None; to_signal = None; from_at = from_at; to_at = to_at }

-- one between edges that the instructions at these addresses make
abbrev pub made_at : (from_at to_at : List ℕ) → Span
made_at from_at to_at = record (span_of true false 1 1 (omega arith) (omega arith) []) { from_at = from_at; to_at = to_at }

-- one that speaks of nothing after which its machine waits, but at these addresses
abbrev pub prompt_of : (stalls : List ℕ) → Span
prompt_of stalls = record (span_of true false 1 1 (omega arith) (omega arith) stalls) { prompt = true }

-- one that leaves out ways through these addresses
abbrev pub without_of : (without : List ℕ) → Span
without_of without = record (span_of true false 0 9 (omega arith) (omega arith) []) { without = without }

-- one that assumes this of X and Y
abbrev pub assuming_of : (max : ℕ) → max < 2 ^ 24 → (assume : List Assumption) → Span
assuming_of max bounded assume = record (span_of true false 0 max (omega arith) bounded []) { assume = assume }
