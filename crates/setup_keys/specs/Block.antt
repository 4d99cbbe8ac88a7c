-- What a setup says, in numbers.
--   MachineKeys, SpanKeys, BlockKeys   what the setup of a machine, a span and a block say
--   keys_of_machine, ..                what one of the types says
use Rattle.std.specs.Prelude.{ℕ, Bool, Option, option_map, List, map}
use Rattle.pio_encode.specs.declared.rule.SideRule.{SideRule}
use Rattle.pin_matrix.specs.declared.assume.Assumption.{Assumption}
use Rattle.pin_matrix.specs.declared.machine.MachineSetup.{MachineSetup}
use Rattle.pin_matrix.specs.declared.span.PinSignal.{PinSignal}
use Rattle.pin_matrix.specs.declared.span.SpanUnit.{SpanUnit}
use Rattle.pin_matrix.specs.declared.span.Span.{Span}
use Rattle.pin_matrix.specs.declared.setup.Setup.{Setup}

-- what a machine's setup says (RP2040 Datasheet, section 3.7)
pub record MachineKeys : Type 0 where
  pub id : ℕ
  pub start : ℕ
  pub x : ℕ
  pub y : ℕ
  pub isr : ℕ
  pub osr : ℕ
  pub isr_count : ℕ
  pub osr_count : ℕ
  pub pending : Option ℕ
  pub int : ℕ
  pub frac : ℕ
  pub side_rule : SideRule
  pub wrap_bottom : ℕ
  pub wrap_top : ℕ
  pub in_base : ℕ
  pub jmp_pin : ℕ
  pub out_base : ℕ
  pub out_count : ℕ
  pub set_base : ℕ
  pub set_count : ℕ
  pub side_base : ℕ
  pub side_count : ℕ
  pub in_right : Bool
  pub out_right : Bool
  pub autopush : Bool
  pub autopull : Bool
  pub push_threshold : ℕ
  pub pull_threshold : ℕ
  pub join_tx : Bool
  pub join_rx : Bool
  pub status_rx : Bool
  pub status_n : ℕ

-- what a span says; `most` is none without a greatest bound, and a signal where the event is the end of an instruction
pub record SpanKeys : Type 0 where
  pub name : List ℕ
  pub machine : ℕ
  pub from_pin : ℕ
  pub from_signal : Option PinSignal
  pub from_rise : Bool
  pub to_pin : ℕ
  pub to_signal : Option PinSignal
  pub to_rise : Bool
  pub unit : SpanUnit
  pub least : ℕ
  pub most : Option ℕ
  pub stalls : List ℕ
  pub prompt : Bool
  pub without : List ℕ
  pub from_at : List ℕ
  pub to_at : List ℕ
  pub assume : List Assumption

-- what a block's setup says: its machines at their places
pub record BlockKeys : Type 0 where
  pub memory : List ℕ
  pub machines : List (Option MachineKeys)
  pub high : ℕ
  pub level : ℕ
  pub out : ℕ
  pub bypass : ℕ
  pub spans : List SpanKeys

-- what a machine's setup says
abbrev pub keys_of_machine : MachineSetup → MachineKeys
keys_of_machine m = record {
  id = m.id;
  start = m.start;
  x = m.x;
  y = m.y;
  isr = m.isr;
  osr = m.osr;
  isr_count = m.isr_count;
  osr_count = m.osr_count;
  pending = m.pending;
  int = m.int;
  frac = m.frac;
  side_rule = m.side_rule;
  wrap_bottom = m.wrap_bottom;
  wrap_top = m.wrap_top;
  in_base = m.in_base;
  jmp_pin = m.jmp_pin;
  out_base = m.out.base;
  out_count = m.out.count;
  set_base = m.set.base;
  set_count = m.set.count;
  side_base = m.side.base;
  side_count = m.side.count;
  in_right = m.in_right;
  out_right = m.out_right;
  autopush = m.autopush;
  autopull = m.autopull;
  push_threshold = m.push_threshold;
  pull_threshold = m.pull_threshold;
  join_tx = m.join_tx;
  join_rx = m.join_rx;
  status_rx = m.status_rx;
  status_n = m.status_n;
}

-- what a span says
abbrev pub keys_of_span : Span → SpanKeys
keys_of_span s = record {
  name = s.name;
  machine = s.machine;
  from_pin = s.from_pin;
  from_signal = s.from_signal;
  from_rise = s.from_rise;
  to_pin = s.to_pin;
  to_signal = s.to_signal;
  to_rise = s.to_rise;
  unit = s.unit;
  least = s.min;
  most = s.max;
  stalls = s.stalls;
  prompt = s.prompt;
  without = s.without;
  from_at = s.from_at;
  to_at = s.to_at;
  assume = s.assume;
}

-- what a block's setup says
abbrev pub keys_of_block : Setup → BlockKeys
keys_of_block s = record {
  memory = s.memory;
  machines = map (option_map keys_of_machine) s.machines;
  high = s.high;
  level = s.level;
  out = s.out;
  bypass = s.bypass;
  spans = map keys_of_span s.spans;
}
