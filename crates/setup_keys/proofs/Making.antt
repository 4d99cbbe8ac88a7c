-- Each block in numbers has a setup: what is brought into range keeps what the types keep.
use Rattle.std.proofs.Common.{◌≡◌, ℕ, ◌==◌, true, Option, Some, None, option_map, List, [], ◌∷◌, map, slice_index_or, refl, ap}
use Rattle.pio_encode.specs.declared.rule.SideRule.{SideRule}
use Rattle.pin_matrix.specs.Setups.{ids_are_places}
use Rattle.pin_matrix.specs.Spans.{is_in_ticks}
use Rattle.pin_matrix.specs.declared.machine.MachineSetup.{MachineSetup}
use Rattle.pin_matrix.specs.declared.setup.Setup.{Setup}
use Rattle.pin_matrix.specs.declared.span.Span.{Span}
use Rattle.setup_keys.specs.Block.{MachineKeys, SpanKeys, BlockKeys, keys_of_machine, keys_of_span, keys_of_block}
use Rattle.setup_keys.specs.Clipped.{clipped_machine, clipped_span, clipped_block}
use Rattle.setup_keys.specs.InRange.{IsMachine, IsSpan}
use Rattle.setup_keys.specs.Rule.{RuleKeys, keys_of_rule, clipped_rule}
use Rattle.setup_keys.proofs.Alike.{machine_with, span_with, block_with}
use Rattle.setup_keys.proofs.Facts.{below_4, below_16, below_32, most_fits, least_fits, least_at_most, at_most, five_at_most, at_most_32, divides_at, joins_at, some_bits, few_bits, has_form, ticks_at, bits_fit}

-- a side-set rule says these numbers, brought into range
abbrev pub a_rule_says : (k : RuleKeys) → (r : SideRule) × (keys_of_rule r ≡ clipped_rule k)
a_rule_says k = (record { bits = (clipped_rule k).bits; opt = k.opt; pindirs = k.pindirs; fits = bits_fit k.bits k.opt }, refl)

machine_in_range : (place : ℕ) (k : MachineKeys) → IsMachine (clipped_machine place k)
machine_in_range place k = record {
  id_in_block = below_4 place;
  start_in_memory = below_32 k.start;
  isr_has_bits = at_most k.isr_count 32;
  osr_has_bits = at_most k.osr_count 32;
  divides = divides_at (k.int == 0) k.frac;
  wrap_bottom_in_memory = below_32 k.wrap_bottom;
  wrap_top_in_memory = below_32 k.wrap_top;
  in_base_is_a_pin = below_32 k.in_base;
  jmp_pin_is_a_pin = below_32 k.jmp_pin;
  pushes_some = some_bits k.push_threshold;
  pushes_a_word = few_bits k.push_threshold;
  pulls_some = some_bits k.pull_threshold;
  pulls_a_word = few_bits k.pull_threshold;
  joins_one_way = joins_at k.join_tx k.join_rx;
  status_in_field = below_16 k.status_n;
  out_base_is_a_pin = below_32 k.out_base;
  out_count_fits = at_most k.out_count 32;
  set_base_is_a_pin = below_32 k.set_base;
  set_count_fits = at_most_32 k.set_count;
  sets_five_at_most = five_at_most k.set_count;
  side_base_is_a_pin = below_32 k.side_base;
  side_count_fits = at_most k.side_count 32;
}

span_in_range : (k : SpanKeys) → IsSpan (clipped_span k)
span_in_range k = record {
  named = has_form k.name;
  machine_in_block = below_4 k.machine;
  from_pin_is_a_pin = below_32 k.from_pin;
  to_pin_is_a_pin = below_32 k.to_pin;
  ordered = least_at_most k.least k.most;
  min_fits = least_fits k.least k.most;
  bounded = most_fits k.most;
  stalls_in_ticks = ticks_at (is_in_ticks k.unit) k.stalls;
}

abbrev machine_of : ℕ → MachineKeys → MachineSetup
machine_of place k = machine_with (clipped_machine place k) (machine_in_range place k)

abbrev span_of : SpanKeys → Span
span_of k = span_with (clipped_span k) (span_in_range k)

-- each machine has its place's number
in_last : (d : Option MachineKeys) → ids_are_places 3 (option_map (machine_of 3) d ∷ []) ≡ true
in_last None = refl
in_last (Some m) = refl

in_third : (c d : Option MachineKeys) → ids_are_places 2 (option_map (machine_of 2) c ∷ option_map (machine_of 3) d ∷ []) ≡ true
in_third None d = in_last d
in_third (Some m) d = in_last d

in_second : (b c d : Option MachineKeys) → ids_are_places 1 (option_map (machine_of 1) b ∷ option_map (machine_of 2) c ∷ option_map (machine_of 3) d ∷ []) ≡ true
in_second None c d = in_third c d
in_second (Some m) c d = in_third c d

in_all : (a b c d : Option MachineKeys) → ids_are_places 0 (option_map (machine_of 0) a ∷ option_map (machine_of 1) b ∷ option_map (machine_of 2) c ∷ option_map (machine_of 3) d ∷ []) ≡ true
in_all None b c d = in_second b c d
in_all (Some m) b c d = in_second b c d

place_says : (place : ℕ) (o : Option MachineKeys) → option_map keys_of_machine (option_map (machine_of place) o) ≡ option_map (clipped_machine place) o
place_says place None = refl
place_says place (Some m) = refl

spans_say : (ks : List SpanKeys) → map keys_of_span (map span_of ks) ≡ map clipped_span ks
spans_say [] = refl
spans_say (k ∷ ks) = ap (λ (xs : List SpanKeys). clipped_span k ∷ xs) (spans_say ks)

-- a setup says these numbers, brought into range
pub a_setup_says : (k : BlockKeys) → (s : Setup) × (keys_of_block s ≡ clipped_block k)
a_setup_says k =
    let a = slice_index_or k.machines 0 None in
    let b = slice_index_or k.machines 1 None in
    let c = slice_index_or k.machines 2 None in
    let d = slice_index_or k.machines 3 None in
    let machines = option_map (machine_of 0) a ∷ option_map (machine_of 1) b ∷ option_map (machine_of 2) c ∷ option_map (machine_of 3) d ∷ [] in
    (block_with k machines (in_all a b c d) (map span_of k.spans), rw (place_says 0 a, place_says 1 b, place_says 2 c, place_says 3 d, spans_say k.spans) refl)
