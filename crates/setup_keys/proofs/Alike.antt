-- Two setups that say the same are one: what their types keep has one proof each.
use Rattle.std.proofs.Common.{◌≡◌, true, Option, Some, None, option_map, List, [], ◌∷◌, map, refl, ap, subst, ◌∙◌}
use Rattle.std.proofs.Math.Bridge.{le_prop}
use Rattle.std.proofs.Math.Bool.{Bool-set}
use Rattle.pin_matrix.specs.Setups.{ids_are_places}
use Rattle.pin_matrix.specs.declared.machine.MachineSetup.{MachineSetup}
use Rattle.pin_matrix.specs.declared.setup.Setup.{Setup}
use Rattle.pin_matrix.specs.declared.span.Span.{Span}
use Rattle.setup_keys.specs.Block.{MachineKeys, SpanKeys, BlockKeys, keys_of_machine, keys_of_span, keys_of_block}
use Rattle.setup_keys.specs.InRange.{IsMachine, IsSpan}

abbrev pub facts : (m : MachineSetup) → IsMachine (keys_of_machine m)
facts m = record {
  id_in_block = m.id_in_block;
  start_in_memory = m.start_in_memory;
  isr_has_bits = m.isr_has_bits;
  osr_has_bits = m.osr_has_bits;
  divides = m.divides;
  wrap_bottom_in_memory = m.wrap_bottom_in_memory;
  wrap_top_in_memory = m.wrap_top_in_memory;
  in_base_is_a_pin = m.in_base_is_a_pin;
  jmp_pin_is_a_pin = m.jmp_pin_is_a_pin;
  pushes_some = m.pushes_some;
  pushes_a_word = m.pushes_a_word;
  pulls_some = m.pulls_some;
  pulls_a_word = m.pulls_a_word;
  joins_one_way = m.joins_one_way;
  status_in_field = m.status_in_field;
  out_base_is_a_pin = m.out.base_is_a_pin;
  out_count_fits = m.out.count_fits;
  set_base_is_a_pin = m.set.base_is_a_pin;
  set_count_fits = m.set.count_fits;
  sets_five_at_most = m.sets_five_at_most;
  side_base_is_a_pin = m.side.base_is_a_pin;
  side_count_fits = m.side.count_fits;
}

abbrev pub machine_with : (k : MachineKeys) → IsMachine k → MachineSetup
machine_with k f = record {
  id = k.id;
  start = k.start;
  x = k.x;
  y = k.y;
  isr = k.isr;
  osr = k.osr;
  isr_count = k.isr_count;
  osr_count = k.osr_count;
  pending = k.pending;
  int = k.int;
  frac = k.frac;
  side_rule = k.side_rule;
  wrap_bottom = k.wrap_bottom;
  wrap_top = k.wrap_top;
  in_base = k.in_base;
  jmp_pin = k.jmp_pin;
  out = record { base = k.out_base; count = k.out_count; base_is_a_pin = f.out_base_is_a_pin; count_fits = f.out_count_fits };
  set = record { base = k.set_base; count = k.set_count; base_is_a_pin = f.set_base_is_a_pin; count_fits = f.set_count_fits };
  side = record { base = k.side_base; count = k.side_count; base_is_a_pin = f.side_base_is_a_pin; count_fits = f.side_count_fits };
  in_right = k.in_right;
  out_right = k.out_right;
  autopush = k.autopush;
  autopull = k.autopull;
  push_threshold = k.push_threshold;
  pull_threshold = k.pull_threshold;
  join_tx = k.join_tx;
  join_rx = k.join_rx;
  status_rx = k.status_rx;
  status_n = k.status_n;
  id_in_block = f.id_in_block;
  start_in_memory = f.start_in_memory;
  isr_has_bits = f.isr_has_bits;
  osr_has_bits = f.osr_has_bits;
  divides = f.divides;
  wrap_bottom_in_memory = f.wrap_bottom_in_memory;
  wrap_top_in_memory = f.wrap_top_in_memory;
  in_base_is_a_pin = f.in_base_is_a_pin;
  jmp_pin_is_a_pin = f.jmp_pin_is_a_pin;
  sets_five_at_most = f.sets_five_at_most;
  pushes_some = f.pushes_some;
  pushes_a_word = f.pushes_a_word;
  pulls_some = f.pulls_some;
  pulls_a_word = f.pulls_a_word;
  joins_one_way = f.joins_one_way;
  status_in_field = f.status_in_field;
}

facts_prop : (k : MachineKeys) → IsProp (IsMachine k)
facts_prop k = hlevel (le_prop, Bool-set)

pub same_machine : (a b : MachineSetup) → keys_of_machine a ≡ keys_of_machine b → a ≡ b
same_machine a b e =
    let P : MachineKeys → Type 0 = λ k. (f : IsMachine k) → a ≡ machine_with k f in
    subst P e (λ f. ap (machine_with (keys_of_machine a)) (facts_prop (keys_of_machine a) (facts a) f)) (facts b)

abbrev pub bounds : (s : Span) → IsSpan (keys_of_span s)
bounds s = record {
  named = s.named;
  machine_in_block = s.machine_in_block;
  from_pin_is_a_pin = s.from_pin_is_a_pin;
  to_pin_is_a_pin = s.to_pin_is_a_pin;
  ordered = s.ordered;
  min_fits = s.min_fits;
  bounded = s.bounded;
  stalls_in_ticks = s.stalls_in_ticks;
}

abbrev pub span_with : (k : SpanKeys) → IsSpan k → Span
span_with k f = record {
  name = k.name;
  machine = k.machine;
  from_pin = k.from_pin;
  from_signal = k.from_signal;
  from_rise = k.from_rise;
  to_pin = k.to_pin;
  to_signal = k.to_signal;
  to_rise = k.to_rise;
  unit = k.unit;
  min = k.least;
  max = k.most;
  stalls = k.stalls;
  prompt = k.prompt;
  without = k.without;
  from_at = k.from_at;
  to_at = k.to_at;
  assume = k.assume;
  named = f.named;
  machine_in_block = f.machine_in_block;
  from_pin_is_a_pin = f.from_pin_is_a_pin;
  to_pin_is_a_pin = f.to_pin_is_a_pin;
  ordered = f.ordered;
  min_fits = f.min_fits;
  bounded = f.bounded;
  stalls_in_ticks = f.stalls_in_ticks;
}

bounds_prop : (k : SpanKeys) → IsProp (IsSpan k)
bounds_prop k = hlevel (le_prop, Bool-set)

pub same_span : (a b : Span) → keys_of_span a ≡ keys_of_span b → a ≡ b
same_span a b e =
    let P : SpanKeys → Type 0 = λ k. (f : IsSpan k) → a ≡ span_with k f in
    subst P e (λ f. ap (span_with (keys_of_span a)) (bounds_prop (keys_of_span a) (bounds a) f)) (bounds b)

same_place : (a b : Option MachineSetup) → option_map keys_of_machine a ≡ option_map keys_of_machine b → a ≡ b
same_place None None e = refl
same_place None (Some n) e = cc
same_place (Some m) None e = cc
same_place (Some m) (Some n) e = ap Some (same_machine m n cc)

same_machines : (ms ns : List (Option MachineSetup)) → map (option_map keys_of_machine) ms ≡ map (option_map keys_of_machine) ns → ms ≡ ns
same_machines [] [] e = refl
same_machines [] (n ∷ ns) e = cc
same_machines (m ∷ ms) [] e = cc
same_machines (m ∷ ms) (n ∷ ns) e = ap (λ (o : Option MachineSetup). o ∷ ms) (same_place m n cc) ∙ ap (λ (os : List (Option MachineSetup)). n ∷ os) (same_machines ms ns cc)

same_spans : (ss ts : List Span) → map keys_of_span ss ≡ map keys_of_span ts → ss ≡ ts
same_spans [] [] e = refl
same_spans [] (t ∷ ts) e = cc
same_spans (s ∷ ss) [] e = cc
same_spans (s ∷ ss) (t ∷ ts) e = ap (λ (x : Span). x ∷ ss) (same_span s t cc) ∙ ap (λ (xs : List Span). t ∷ xs) (same_spans ss ts cc)

places_prop : (machines : List (Option MachineSetup)) → IsProp (ids_are_places 0 machines ≡ true)
places_prop machines = hlevel Bool-set

abbrev pub block_with : (k : BlockKeys) (machines : List (Option MachineSetup)) → ids_are_places 0 machines ≡ true → List Span → Setup
block_with k machines p spans =
    record { memory = k.memory; machines = machines; high = k.high; level = k.level; out = k.out; bypass = k.bypass; spans = spans; at_their_places = p }

same_parts : (k : BlockKeys) (machines others : List (Option MachineSetup)) (spans more : List Span) (p : ids_are_places 0 machines ≡ true) (q : ids_are_places 0 others ≡ true) → machines ≡ others → spans ≡ more
    → block_with k machines p spans ≡ block_with k others q more
same_parts k machines others spans more p q e s =
    let P : List (Option MachineSetup) → Type 0 = λ ms. (r : ids_are_places 0 ms ≡ true) → block_with k machines p spans ≡ block_with k ms r spans in
    subst P e (λ r. ap (λ (x : ids_are_places 0 machines ≡ true). block_with k machines x spans) (places_prop machines p r)) q
    ∙ ap (λ (x : List Span). block_with k others q x) s

-- two setups that say the same are one
pub same_block : (s t : Setup) → keys_of_block s ≡ keys_of_block t → s ≡ t
same_block s t e =
    let machines = same_machines s.machines t.machines (ap (λ (k : BlockKeys). k.machines) e) in
    let spans = same_spans s.spans t.spans (ap (λ (k : BlockKeys). k.spans) e) in
    same_parts (keys_of_block s) s.machines t.machines s.spans t.spans s.at_their_places t.at_their_places machines spans
    ∙ ap (λ (k : BlockKeys). block_with k t.machines t.at_their_places t.spans) e
