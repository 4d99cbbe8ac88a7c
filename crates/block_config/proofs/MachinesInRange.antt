-- The machines of a configuration are in the ranges that their type keeps.
use Rattle.std.proofs.Common.{◌≡◌, ℕ, zero, suc, ◌+◌, ◌<◌, ◌≤◌, ◌==◌, ◌||◌, ◌&&◌, not, cond, Bool, true, false, Option, Some, None, is_some, Ok, Err, List, [], ◌∷◌, length, slice_set, slice_index_or, refl, ap, subst, ◌∙◌, codes, arith}
use Rattle.std.specs.List.{AllByRecursion}
use Rattle.std.specs.Str.{bytes_eq}
use Rattle.toml.specs.Data.{Items, no_items, item, Members, as_table, get_member}
use Rattle.block_config.specs.Answer.{ConfigRefusal}
use Rattle.setup_keys.specs.Block.{MachineKeys}
use Rattle.setup_keys.specs.InRange.{IsMachine, ArePlaced}
use Rattle.block_config.specs.declared.path.Section.TheVariants.{Machine}
use Rattle.block_config.specs.Machines.{id_key, clock_keys, pin_keys, flag_keys, status_key, count_keys, shift_keys, ClockKeys, clock_keys_of, divides, clock_at, PinKeys, pin_keys_of, pins_at, FlagKeys, flag_keys_of, joins_one_way, flags_at, CountKeys, count_keys_of, counts_at, FirstKeys, first_keys_of, pending_at, first_at, free_at, id_at, named_load, load_at, start_of, start_at, RunKeys, run_at, machine_keys_of, machine_of_table, machine_names, machine_in, machines_from}
use Rattle.block_config.specs.Programs.{Loaded}
use Rattle.block_config.specs.Tables.{and_then, number_at, flag_at, each_at}
use Rattle.block_config.specs.Values.{text_of}
use Rattle.block_config.proofs.Gathered.{found_keeps, read_table}
use Rattle.block_config.proofs.Home.{named_found, start_covered, covered_below}
use Rattle.block_config.proofs.LoadsFit.{IsLoad}
use Rattle.block_config.proofs.MachineParts.{machine_parts}
use Rattle.block_config.proofs.Ranges.{goes_on, off_key, ok_same, number_within, all_within, all_defaulted}
use Rattle.block_config.proofs.RunParts.{run_parts}

record Runs (r : RunKeys) : Type 0 where
  id : r.id < 4
  start : r.start < 32
  load : IsLoad r.load

record Shifts (k : CountKeys) : Type 0 where
  pushes_some : 1 ≤ k.push_threshold
  pushes_a_word : k.push_threshold ≤ 32
  pulls_some : 1 ≤ k.pull_threshold
  pulls_a_word : k.pull_threshold ≤ 32
  status : k.status_n < 16

record Begins (k : FirstKeys) : Type 0 where
  isr_count : k.isr_count ≤ 32
  osr_count : k.osr_count ≤ 32

record ArePins (k : PinKeys) : Type 0 where
  in_base : k.in_base < 32
  out_base : k.out_base < 32
  set_base : k.set_base < 32
  side_base : k.side_base < 32
  jmp_pin : k.jmp_pin < 32
  out_count : k.out_count ≤ 32
  set_count : k.set_count ≤ 5

same_id : (b : Bool) (id found : ℕ) (r : ConfigRefusal) → cond b (Err r) (Ok id) ≡ Ok found → id ≡ found
same_id true id found r e = cc
same_id false id found r e = ok_same id found e

id_within : (machines : List (Option MachineKeys)) (t : Members) (id : ℕ) → id_at machines t ≡ Ok id → id < 4
id_within machines t id e =
    let read = goes_on (number_at t id_key) (free_at machines) id e in
    let within = number_within t id_key read.value refl read.found in
    let same : read.value ≡ id = same_id (is_some (slice_index_or machines read.value None)) read.value id _ read.rest in
    let high : read.value ≤ 3 = within.1 in
    omega arith

load_fits : (loads : List Loaded) (t : Members) (l : Loaded) → AllByRecursion IsLoad loads → load_at loads t ≡ Ok l → IsLoad l
load_fits loads t l fit e =
    let program = goes_on (text_of (get_member (codes "program") t)) (named_load loads) l (off_key (codes "program") _ l e) in
    let found = named_found program.value loads l program.rest in
    found_keeps IsLoad (λ x. bytes_eq x.program.name found.0) loads l fit found.1

start_within : (l : Loaded) (t : Members) (start : ℕ) → IsLoad l → start_at l t ≡ Ok start → start < 32
start_within l t start fit e =
    let read = goes_on (text_of (get_member (codes "start") t)) (start_of l) start (off_key (codes "start") _ start e) in
    covered_below l start fit.within (start_covered l read.value start fit.program.some read.rest)

runs : (machines : List (Option MachineKeys)) (loads : List Loaded) (t : Members) (r : RunKeys) → AllByRecursion IsLoad loads → run_at machines loads t ≡ Ok r → Runs r
runs machines loads t r fit e =
    let parts = run_parts machines loads t r e in
    let lies = load_fits loads t r.load fit parts.load_found in
    record { id = id_within machines t r.id parts.id_found; start = start_within r.load t r.start lies parts.start_found; load = lies }

divided : (a b : Bool) (k found : ClockKeys) (r : ConfigRefusal) → cond (a && not b) (Err r) (Ok k) ≡ Ok found → ((not a || b) ≡ true) × (k ≡ found)
divided true false k found r e = cc
divided true true k found r e = (refl, ok_same k found e)
divided false b k found r e = (refl, ok_same k found e)

clock_divides : (t : Members) (k : ClockKeys) → clock_at t ≡ Ok k → (not (k.int == 0) || k.frac == 0) ≡ true
clock_divides t k e =
    let read = goes_on (each_at (number_at t) clock_keys) (λ values. divides (clock_keys_of values)) k e in
    let c = clock_keys_of read.value in
    let d = divided (c.int == 0) (c.frac == 0) c k _ read.rest in
    subst (λ (x : ClockKeys). (not (x.int == 0) || x.frac == 0) ≡ true) d.1 d.0

are_pins : (t : Members) (k : PinKeys) → pins_at t ≡ Ok k → ArePins k
are_pins t k e =
    let read = goes_on (each_at (number_at t) pin_keys) (λ values. Ok (pin_keys_of values)) k e in
    let w = all_within t pin_keys read.value [] 0 (all_defaulted pin_keys refl) refl read.found in
    let out : ArePins (pin_keys_of read.value) = record {
      in_base = omega (arith, w.1);
      out_base = omega (arith, w.2.1);
      set_base = omega (arith, w.2.2.1);
      side_base = omega (arith, w.2.2.2.1);
      jmp_pin = omega (arith, w.2.2.2.2.1);
      out_count = w.2.2.2.2.2.1;
      set_count = w.2.2.2.2.2.2.1;
    } in
    subst ArePins (ok_same (pin_keys_of read.value) k read.rest) out

one_way : (a b : Bool) (values found : List Bool) (r : ConfigRefusal) → cond (a && b) (Err r) (Ok values) ≡ Ok found → (not (a && b) ≡ true) × (values ≡ found)
one_way true true values found r e = cc
one_way true false values found r e = (refl, ok_same values found e)
one_way false b values found r e = (refl, ok_same values found e)

joined_one_way : (t : Members) (k : FlagKeys) → flags_at t ≡ Ok k → not (k.join_tx && k.join_rx) ≡ true
joined_one_way t k e =
    let read = goes_on (and_then (each_at (flag_at t) flag_keys) joins_one_way) (λ values. and_then (flag_at t status_key) (λ status. Ok (flag_keys_of values status))) k e in
    let flags = goes_on (each_at (flag_at t) flag_keys) joins_one_way read.value read.found in
    let status = goes_on (flag_at t status_key) (λ status. Ok (flag_keys_of read.value status)) k read.rest in
    let way = one_way (slice_index_or flags.value 4 false) (slice_index_or flags.value 5 false) flags.value read.value _ flags.rest in
    let joins : not (slice_index_or read.value 4 false && slice_index_or read.value 5 false) ≡ true =
    subst (λ (vs : List Bool). not (slice_index_or vs 4 false && slice_index_or vs 5 false) ≡ true) way.1 way.0 in
    subst (λ (x : FlagKeys). not (x.join_tx && x.join_rx) ≡ true) (ok_same (flag_keys_of read.value status.value) k status.rest) joins

shifts : (t : Members) (k : CountKeys) → counts_at t ≡ Ok k → Shifts k
shifts t k e =
    let read = goes_on (each_at (number_at t) count_keys) (λ values. Ok (count_keys_of values)) k e in
    let w = all_within t count_keys read.value [] 0 (all_defaulted count_keys refl) refl read.found in
    let out : Shifts (count_keys_of read.value) = record {
      pushes_some = w.0;
      pushes_a_word = w.1;
      pulls_some = w.2.0;
      pulls_a_word = w.2.1;
      status = omega (arith, w.2.2.1);
    } in
    subst Shifts (ok_same (count_keys_of read.value) k read.rest) out

begins : (t : Members) (k : FirstKeys) → first_at t ≡ Ok k → Begins k
begins t k e =
    let read = goes_on (each_at (number_at t) shift_keys) (λ values. and_then (pending_at t) (λ pending. Ok (first_keys_of values pending))) k e in
    let pending = goes_on (pending_at t) (λ pending. Ok (first_keys_of read.value pending)) k read.rest in
    let w = all_within t shift_keys read.value [] 0 (all_defaulted shift_keys refl) refl read.found in
    let out : Begins (first_keys_of read.value pending.value) = record { isr_count = w.2.2.1; osr_count = w.2.2.2.1 } in
    subst Begins (ok_same (first_keys_of read.value pending.value) k pending.rest) out

parts_in_range : (run : RunKeys) (clock : ClockKeys) (pins : PinKeys) (flags : FlagKeys) (counts : CountKeys) (first : FirstKeys) → Runs run → (not (clock.int == 0) || clock.frac == 0) ≡ true → ArePins pins
    → not (flags.join_tx && flags.join_rx) ≡ true → Shifts counts → Begins first → IsMachine (machine_keys_of run clock pins flags counts first)
parts_in_range run clock pins flags counts first r c p f s b =
    let within : run.load.address + length run.load.program.words ≤ 32 = r.load.within in
    let bottom : run.load.program.wrap_bottom < length run.load.program.words = r.load.program.bottom in
    let top : run.load.program.wrap_top < length run.load.program.words = r.load.program.top in
    let sets : pins.set_count ≤ 5 = p.set_count in
    record {
      id_in_block = r.id;
      start_in_memory = r.start;
      isr_has_bits = b.isr_count;
      osr_has_bits = b.osr_count;
      divides = c;
      wrap_bottom_in_memory = omega arith;
      wrap_top_in_memory = omega arith;
      in_base_is_a_pin = p.in_base;
      jmp_pin_is_a_pin = p.jmp_pin;
      pushes_some = s.pushes_some;
      pushes_a_word = s.pushes_a_word;
      pulls_some = s.pulls_some;
      pulls_a_word = s.pulls_a_word;
      joins_one_way = f;
      status_in_field = s.status;
      out_base_is_a_pin = p.out_base;
      out_count_fits = p.out_count;
      set_base_is_a_pin = p.set_base;
      set_count_fits = omega arith;
      sets_five_at_most = sets;
      side_base_is_a_pin = p.side_base;
      side_count_fits = omega (arith, run.load.program.side.fits);
    }

machine_in_range : (machines : List (Option MachineKeys)) (loads : List Loaded) (t : Members) (m : MachineKeys) → AllByRecursion IsLoad loads → machine_of_table machines loads t ≡ Ok m → IsMachine m
machine_in_range machines loads t m fit e =
    let parts = machine_parts machines loads t m e in
    subst IsMachine parts.whole
    (parts_in_range parts.run parts.clock parts.pins parts.flags parts.counts parts.first (runs machines loads t parts.run fit parts.run_found) (clock_divides t parts.clock parts.clock_found) (are_pins t parts.pins parts.pins_found)
    (joined_one_way t parts.flags parts.flags_found) (shifts t parts.counts parts.counts_found) (begins t parts.first parts.first_found))

kept_rest : (place : ℕ) (o : Option MachineKeys) (rest : List (Option MachineKeys)) → ArePlaced place (o ∷ rest) → ArePlaced (place + 1) rest
kept_rest place None rest h = h
kept_rest place (Some m) rest h = h.2

kept_after : (place : ℕ) (o : Option MachineKeys) (rest after : List (Option MachineKeys)) → ArePlaced place (o ∷ rest) → ArePlaced (place + 1) after → ArePlaced place (o ∷ after)
kept_after place None rest after h k = k
kept_after place (Some m) rest after h k = (h.0, h.1, k)

set_kept : (ms : List (Option MachineKeys)) (place i : ℕ) (m : MachineKeys) → ArePlaced place ms → m.id ≡ place + i → IsMachine m → ArePlaced place (slice_set ms i (Some m))
set_kept [] place i m h is f = tt
set_kept (o ∷ ms) place zero m h is f = (omega arith, f, kept_rest place o ms h)
set_kept (o ∷ ms) place (suc i) m h is f = kept_after place o ms _ h (set_kept ms (place + 1) i m (kept_rest place o ms h) (omega arith) f)

set_length : (ms : List (Option MachineKeys)) (i : ℕ) (o : Option MachineKeys) → length (slice_set ms i o) ≡ length ms
set_length [] i o = refl
set_length (x ∷ ms) zero o = refl
set_length (x ∷ ms) (suc i) o = ap suc (set_length ms i o)

-- four machines at their places
pub record AreFour (machines : List (Option MachineKeys)) : Type 0 where
  pub four : length machines ≡ 4
  pub kept : ArePlaced 0 machines

pub machines_in_range : (tables : Items) (place : ℕ) (machines all : List (Option MachineKeys)) (loads : List Loaded) → AllByRecursion IsLoad loads → AreFour machines → machines_from place machines loads tables ≡ Ok all → AreFour all
unfolding machines_from
machines_in_range no_items place machines all loads fit h e = subst AreFour (ok_same machines all e) h
machines_in_range (item d rest) place machines all loads fit h e =
    let next = goes_on (machine_in place machines loads d) (λ m. machines_from (place + 1) (slice_set machines m.id (Some m)) loads rest) all e in
    let m = next.value in
    let table = read_table (codes "machine") (as_table d) (Machine place) machine_names (machine_of_table machines loads) m next.found in
    let f : IsMachine m = machine_in_range machines loads table.0 m fit table.1 in
    let after : AreFour (slice_set machines m.id (Some m)) = record { four = set_length machines m.id (Some m) ∙ h.four; kept = set_kept machines 0 m.id m h.kept (omega arith) f } in
    machines_in_range rest (place + 1) (slice_set machines m.id (Some m)) all loads fit after next.rest
