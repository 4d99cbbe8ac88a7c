-- Numbers brought into the ranges of their fields: of numbers past a range what is too much is lost.
--   clipped_machine, clipped_span   of a machine and a span
--   clipped_block                   of a block, whose machines take their places' numbers
use Rattle.std.specs.Prelude.{ℕ, suc, ◌-◌, ◌%◌, ◌^◌, min, ◌==◌, ◌&&◌, not, if◌then◌else◌, Option, Some, None, option_map, List, [], ◌∷◌, map, slice_index_or}
use Rattle.pin_matrix.specs.Spans.{underscore, is_in_ticks, is_span_name}
use Rattle.setup_keys.specs.Block.{MachineKeys, SpanKeys, BlockKeys}

-- a number of bits from 1 to 32
abbrev pub bits_of : ℕ → ℕ
bits_of n = suc ((n - 1) % 32)

-- The numbers of the machine at a place: pins and addresses below 32, the counts of ISR and OSR 32 at most, SET writes five
-- pins at most, a divider of 0 has no fraction, and no machine's FIFOs are joined both ways.
abbrev pub clipped_machine : ℕ → MachineKeys → MachineKeys
clipped_machine place k = record k {
  id = place % 4;
  start = k.start % 32;
  isr_count = min k.isr_count 32;
  osr_count = min k.osr_count 32;
  frac = if k.int == 0 then 0 else k.frac;
  wrap_bottom = k.wrap_bottom % 32;
  wrap_top = k.wrap_top % 32;
  in_base = k.in_base % 32;
  jmp_pin = k.jmp_pin % 32;
  out_base = k.out_base % 32;
  out_count = min k.out_count 32;
  set_base = k.set_base % 32;
  set_count = min k.set_count 5;
  side_base = k.side_base % 32;
  side_count = min k.side_count 32;
  push_threshold = bits_of k.push_threshold;
  pull_threshold = bits_of k.pull_threshold;
  join_rx = k.join_rx && not k.join_tx;
  status_n = k.status_n % 16;
}

-- a span's name, `_` in place of one of another form
abbrev pub formed : List ℕ → List ℕ
formed name = if is_span_name name then name else underscore ∷ []

-- a greatest bound below 2 ^ 24, if there is one
abbrev pub clipped_most : Option ℕ → Option ℕ
clipped_most most = option_map (λ m. m % 2 ^ 24) most

-- a least bound below 2 ^ 24, and no more than the greatest
abbrev pub clipped_least : (least : ℕ) → (most : Option ℕ) → ℕ
clipped_least least None = least % 2 ^ 24
clipped_least least (Some m) = min least (m % 2 ^ 24)

-- the numbers of a span: both bounds are in range, and a span in clocks names no stalls
abbrev pub clipped_span : SpanKeys → SpanKeys
clipped_span k = record k {
  name = formed k.name;
  machine = k.machine % 4;
  from_pin = k.from_pin % 32;
  to_pin = k.to_pin % 32;
  least = clipped_least k.least k.most;
  most = clipped_most k.most;
  stalls = if is_in_ticks k.unit then k.stalls else [];
}

-- the numbers of the machine at a place, if there is one
abbrev pub clipped_at : List (Option MachineKeys) → ℕ → Option MachineKeys
clipped_at machines place = option_map (clipped_machine place) (slice_index_or machines place None)

-- the numbers of a block: it has four places
abbrev pub clipped_block : BlockKeys → BlockKeys
clipped_block k = record k {
  machines = clipped_at k.machines 0 ∷ clipped_at k.machines 1 ∷ clipped_at k.machines 2 ∷ clipped_at k.machines 3 ∷ [];
  spans = map clipped_span k.spans;
}
