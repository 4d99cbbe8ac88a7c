-- The spans of a configuration are in the ranges that their type keeps.
use Rattle.std.proofs.Common.{◌≡◌, ℕ, zero, suc, ◌<◌, ◌≤◌, ◌^◌, ◌==◌, ◌||◌, ◌&&◌, cond, nat_le, Bool, true, false, Option, Some, None, is_some, Result, Ok, Err, List, [], length, slice_index_or, refl, ap, ◌∙◌, subst, codes, arith}
use Rattle.std.specs.List.{AllByRecursion}
use Rattle.std.specs.Option.{ForSome}
use Rattle.pin_matrix.proofs.Greatest.{of_some, of_none}
use Rattle.std.proofs.lemmas.Bool.{ltb-false, leb-true}
use Rattle.toml.specs.Data.{Data, Items, Members, as_array, as_float, as_integer, as_str, as_table, get_member}
use Rattle.pin_matrix.specs.declared.assume.Assumption.{Assumption}
use Rattle.pin_matrix.specs.declared.span.SpanUnit.{SpanUnit}
use Rattle.pin_matrix.specs.declared.span.SpanUnit.TheVariants.{Ticks, Clocks}
use Rattle.pin_matrix.specs.Spans.{is_in_ticks, is_span_name}
use Rattle.block_config.specs.Answer.{ConfigRefusal}
use Rattle.block_config.specs.Arrays.{count_items, all_items}
use Rattle.setup_keys.specs.Block.{MachineKeys, SpanKeys}
use Rattle.block_config.specs.declared.edges.Edge.{Edge}
use Rattle.block_config.specs.declared.fault.ConfigKind.{ConfigKind}
use Rattle.block_config.specs.declared.fault.ConfigKind.TheVariants.{Many, WrongType, Range}
use Rattle.block_config.specs.declared.path.Section.TheVariants.{Span}
use Rattle.block_config.specs.Programs.{Loaded}
use Rattle.block_config.specs.Spans.{span_names, required, name_of, name_at, configured, machine_at, EventNames, from_names, to_names, pin_of, pin_at, edge_at, SpanEnds, ends_at, unit_at, least_at, is_endless, most_of, most_at, Bounds, is_under, ordered, bounds_at, load_of_span, label_of_element, label_addresses, labels_in, labels_of, most_stalls, stalls_at, prompt_key, without_at, Exempt, exempt_at, Events, events_at, SpanValues, values_at, span_keys_of, named_values, span_at, span_in, all_spans}
use Rattle.block_config.specs.Assume.{assume_at}
use Rattle.block_config.specs.Tables.{and_then, has_key, number_at, flag_at, section_at, are_known}
use Rattle.block_config.specs.Values.{map_ok, number_in, text_of}
use Rattle.setup_keys.specs.InRange.{IsSpan}
use Rattle.block_config.proofs.Gathered.{gather_keeps, gathered_count, known_read, element_read}
use Rattle.block_config.proofs.Ranges.{goes_on, in_read, off_key, ok_same, number_within}

record AreEnds (e : SpanEnds) : Type 0 where
  machine : e.machine < 4
  from_pin : e.from_pin < 32
  to_pin : e.to_pin < 32

record AreOrdered (b : Bounds) : Type 0 where
  ordered : ForSome b.most (λ m. b.least ≤ m)
  min_fits : b.least < 2 ^ 24
  bounded : ForSome b.most (λ m. m < 2 ^ 24)

name_tested : (name found : List ℕ) (b : Bool) → is_span_name name ≡ b → cond b (Ok name) (Err Range) ≡ Ok found → is_span_name found ≡ true
name_tested name found true is e = subst (λ (n : List ℕ). is_span_name n ≡ true) (ok_same name found e) is
name_tested name found false is e = cc

has_form : (o : Option (List ℕ)) (name : List ℕ) → name_of o ≡ Ok name → is_span_name name ≡ true
has_form None name e = cc
has_form (Some n) name e = name_tested n name _ refl e

pub named : (t : Members) (name : List ℕ) → name_at t ≡ Ok name → is_span_name name ≡ true
named t name e =
    let read = goes_on (text_of (get_member (codes "name") t)) name_of name (off_key (codes "name") _ name e) in
    has_form read.value name read.rest

same_machine : (b : Bool) (id found : ℕ) (r : ConfigRefusal) → cond b (Ok id) (Err r) ≡ Ok found → id ≡ found
same_machine true id found r e = ok_same id found e
same_machine false id found r e = cc

machine_within : (machines : List (Option MachineKeys)) (t : Members) (id : ℕ) → machine_at machines t ≡ Ok id → id < 4
machine_within machines t id e =
    let read = goes_on (number_at t (required (codes "machine") 3)) (configured machines) id e in
    let within = number_within t (required (codes "machine") 3) read.value refl read.found in
    let same : read.value ≡ id = same_machine (is_some (slice_index_or machines read.value None)) read.value id _ read.rest in
    let high : read.value ≤ 3 = within.1 in
    omega arith

pin_read : (done : Bool) (o : Option Data) (pin : ℕ) → pin_of done o ≡ Ok pin → pin < 32
pin_read true None pin e = let same : 0 ≡ pin = ok_same 0 pin e in omega arith
pin_read false None pin e = cc
pin_read done (Some d) pin e = let high = (in_read 0 31 (as_integer d) pin e).1 in omega (arith, high)

pin_within : (n : EventNames) (t : Members) (pin : ℕ) → pin_at n t ≡ Ok pin → pin < 32
pin_within n t pin e = pin_read (has_key n.done t) (get_member n.pin t) pin (off_key n.pin _ pin e)

ends_read : (machines : List (Option MachineKeys)) (t : Members) (ends : SpanEnds) (machine from_pin to_pin : Result ℕ ConfigRefusal) (from to : Result Edge ConfigRefusal)
    → machine_at machines t ≡ machine → pin_at from_names t ≡ from_pin → pin_at to_names t ≡ to_pin
    → and_then machine (λ machine. and_then from_pin (λ from_pin. and_then to_pin (λ to_pin. and_then from (λ from_edge. and_then to (λ to_edge.
    Ok (record { machine = machine; from_pin = from_pin; to_pin = to_pin; from_edge = from_edge; to_edge = to_edge })))))) ≡ Ok ends
    → AreEnds ends
ends_read machines t ends (Ok machine) (Ok a) (Ok b) (Ok from) (Ok to) m p q e =
    subst AreEnds (ok_same (record { machine = machine; from_pin = a; to_pin = b; from_edge = from; to_edge = to }) ends e)
    (record { machine = machine_within machines t machine m; from_pin = pin_within from_names t a p; to_pin = pin_within to_names t b q })
ends_read machines t ends (Err r) a b from to m p q e = cc
ends_read machines t ends (Ok machine) (Err r) b from to m p q e = cc
ends_read machines t ends (Ok machine) (Ok a) (Err r) from to m p q e = cc
ends_read machines t ends (Ok machine) (Ok a) (Ok b) (Err r) to m p q e = cc
ends_read machines t ends (Ok machine) (Ok a) (Ok b) (Ok from) (Err r) m p q e = cc

are_ends : (machines : List (Option MachineKeys)) (t : Members) (ends : SpanEnds) → ends_at machines t ≡ Ok ends → AreEnds ends
are_ends machines t ends e = ends_read machines t ends (machine_at machines t) (pin_at from_names t) (pin_at to_names t) (edge_at from_names t) (edge_at to_names t) refl refl refl e

-- a greatest bound that was read is in range
number_most : (r : Result ℕ ConfigKind) (most : ℕ) → map_ok (λ (n : ℕ). let o : Option ℕ = Some n in o) r ≡ Ok (Some most) → r ≡ Ok most
number_most (Ok n) most e = cc
number_most (Err kind) most e = cc

most_tested : (b : Bool) (d : Data) (most : ℕ) → cond b (Ok None) (map_ok (λ (n : ℕ). let o : Option ℕ = Some n in o) (number_in 0 16777215 d)) ≡ Ok (Some most) → most ≤ 16777215
most_tested true d most e = cc
most_tested false d most e = (in_read 0 16777215 (as_integer d) most (number_most (number_in 0 16777215 d) most e)).1

most_high : (o : Option Data) (most : ℕ) → most_of o ≡ Ok (Some most) → most ≤ 16777215
most_high None most e = cc
most_high (Some d) most e = most_tested (is_endless (as_float d)) d most e

not_under : (most : Option ℕ) (least : ℕ) → is_under most least ≡ false → ForSome most (λ m. least ≤ m)
not_under None least e = of_none (λ m. least ≤ m)
not_under (Some most) least e = of_some (λ m. least ≤ m) most (ltb-false most least e)

below_bits : (most : Option ℕ) → ((m : ℕ) → most ≡ Some m → m ≤ 16777215) → ForSome most (λ m. m < 2 ^ 24)
below_bits most h m e = omega (arith, h m e)

ordered_tested : (k found : Bounds) (r : ConfigRefusal) (b : Bool) → is_under k.most k.least ≡ b → cond b (Err r) (Ok k) ≡ Ok found → k.least ≤ 16777215 → ((m : ℕ) → k.most ≡ Some m → m ≤ 16777215)
    → AreOrdered found
ordered_tested k found r true is e low high = cc
ordered_tested k found r false is e low high =
    subst AreOrdered (ok_same k found e) (record { ordered = not_under k.most k.least is; min_fits = omega (arith, low); bounded = below_bits k.most high })

are_ordered : (t : Members) (bounds : Bounds) → bounds_at t ≡ Ok bounds → AreOrdered bounds
are_ordered t bounds e =
    let unit = goes_on (unit_at t) (λ unit. and_then (least_at t) (λ least. and_then (most_at t) (λ most. ordered (record { unit = unit; least = least; most = most })))) bounds e in
    let least = goes_on (least_at t) (λ least. and_then (most_at t) (λ most. ordered (record { unit = unit.value; least = least; most = most }))) bounds unit.rest in
    let most = goes_on (most_at t) (λ most. ordered (record { unit = unit.value; least = least.value; most = most })) bounds least.rest in
    let low = number_within t (required (codes "min") 16777215) least.value refl least.found in
    let high : (m : ℕ) → most.value ≡ Some m → m ≤ 16777215 = λ m is. most_high (get_member (codes "max") t) m (off_key (codes "max") _ most.value most.found ∙ ap (λ (o : Option ℕ). let r : Result (Option ℕ) ConfigKind = Ok o in r) is) in
    ordered_tested (record { unit = unit.value; least = least.value; most = most.value }) bounds _ _ refl most.rest low.1 high

-- stalls are in a span in ticks alone
abbrev AreInTicks : SpanUnit → ℕ → Type 0
AreInTicks unit stalls = (is_in_ticks unit || stalls == 0) ≡ true

pub few_in_ticks : (unit : SpanUnit) (stalls : ℕ) → stalls ≤ most_stalls unit → AreInTicks unit stalls
few_in_ticks Ticks stalls few = refl
few_in_ticks Clocks zero few = refl
few_in_ticks Clocks (suc stalls) few = absurd (omega (arith, few))

-- there are no more labels than there may be
counted_few : (most : ℕ) (load : Option Loaded) (ds : Items) (labels : List ℕ) (a b : Bool) → nat_le (count_items ds) most ≡ b → cond (a && b) (label_addresses load ds) (Err Range) ≡ Ok labels → length labels ≤ most
counted_few most load ds labels true true is e =
    let same = gathered_count (λ place front d. label_of_element load (as_str d)) ds 0 [] labels e in
    let within = leb-true (count_items ds) most is in
    omega (arith, same, within)
counted_few most load ds labels true false is e = cc
counted_few most load ds labels false b is e = cc

array_few : (least most : ℕ) (load : Option Loaded) (ds : Items) (labels : List ℕ) (texts few : Bool)
    → cond texts (cond few (cond (nat_le least (count_items ds) && nat_le (count_items ds) most) (label_addresses load ds) (Err Range)) (Err Many)) (Err WrongType) ≡ Ok labels → length labels ≤ most
array_few least most load ds labels true true e = counted_few most load ds labels (nat_le least (count_items ds)) (nat_le (count_items ds) most) refl e
array_few least most load ds labels true false e = cc
array_few least most load ds labels false few e = cc

items_few : (least most : ℕ) (load : Option Loaded) (o : Option Items) (labels : List ℕ) → labels_in least most load o ≡ Ok labels → length labels ≤ most
items_few least most load None labels e = cc
items_few least most load (Some ds) labels e = array_few least most load ds labels (all_items (λ d. is_some (as_str d)) ds) (nat_le (count_items ds) 16) e

value_few : (least most : ℕ) (load : Option Loaded) (o : Option Data) (labels : List ℕ) → labels_of least most load o ≡ Ok labels → length labels ≤ most
value_few least most load None labels e = subst (λ (s : List ℕ). length s ≤ most) (ok_same [] labels e) (omega arith)
value_few least most load (Some d) labels e = items_few least most load (as_array d) labels e

exempt_in_ticks : (unit : SpanUnit) (load : Option Loaded) (t : Members) (x : Exempt) → exempt_at unit load t ≡ Ok x → AreInTicks unit (length x.stalls)
exempt_in_ticks unit load t x e =
    let stalls = goes_on (stalls_at unit load t) (λ stalls. and_then (flag_at t prompt_key) (λ prompt. and_then (without_at load t) (λ without. Ok (record { stalls = stalls; prompt = prompt; without = without })))) x e in
    let prompt = goes_on (flag_at t prompt_key) (λ prompt. and_then (without_at load t) (λ without. Ok (record { stalls = stalls.value; prompt = prompt; without = without }))) x stalls.rest in
    let without = goes_on (without_at load t) (λ without. Ok (record { stalls = stalls.value; prompt = prompt.value; without = without })) x prompt.rest in
    subst (λ (y : Exempt). AreInTicks unit (length y.stalls)) (ok_same (record { stalls = stalls.value; prompt = prompt.value; without = without.value }) x without.rest)
    (few_in_ticks unit (length stalls.value) (value_few 0 (most_stalls unit) load (get_member (codes "stalls") t) stalls.value (off_key (codes "stalls") _ stalls.value stalls.found)))

parts_in_range : (name : List ℕ) (v : SpanValues) (assume : List Assumption) → is_span_name name ≡ true → AreEnds v.ends → AreOrdered v.bounds → AreInTicks v.bounds.unit (length v.exempt.stalls) → IsSpan (span_keys_of name v assume)
parts_in_range name v assume n e b s = record {
  named = n;
  machine_in_block = e.machine;
  from_pin_is_a_pin = e.from_pin;
  to_pin_is_a_pin = e.to_pin;
  ordered = b.ordered;
  min_fits = b.min_fits;
  bounded = b.bounded;
  stalls_in_ticks = s;
}

-- what a span says after its name is in range
record AreValues (v : SpanValues) : Type 0 where
  ends : AreEnds v.ends
  bounds : AreOrdered v.bounds
  stalls : AreInTicks v.bounds.unit (length v.exempt.stalls)

values_read : (t : Members) (v : SpanValues) (load : Option Loaded) (ends : SpanEnds) (bounds : Bounds) (exempt : Result Exempt ConfigRefusal) (events : Result Events ConfigRefusal) → AreEnds ends → AreOrdered bounds
    → exempt_at bounds.unit load t ≡ exempt → and_then exempt (λ exempt. and_then events (λ events. Ok (record { ends = ends; bounds = bounds; exempt = exempt; events = events }))) ≡ Ok v → AreValues v
values_read t v load ends bounds (Ok exempt) (Ok events) a o is e =
    subst AreValues (ok_same (record { ends = ends; bounds = bounds; exempt = exempt; events = events }) v e) (record { ends = a; bounds = o; stalls = exempt_in_ticks bounds.unit load t exempt is })
values_read t v load ends bounds (Err r) events a o is e = cc
values_read t v load ends bounds (Ok exempt) (Err r) a o is e = cc

values_bounded : (machines : List (Option MachineKeys)) (loads : List Loaded) (t : Members) (v : SpanValues) (ends : Result SpanEnds ConfigRefusal) (bounds : Result Bounds ConfigRefusal)
    → ends_at machines t ≡ ends → bounds_at t ≡ bounds
    → and_then ends (λ ends. and_then bounds (λ bounds. and_then (exempt_at bounds.unit (load_of_span machines loads ends.machine) t) (λ exempt. and_then (events_at (load_of_span machines loads ends.machine) t) (λ events.
    Ok (record { ends = ends; bounds = bounds; exempt = exempt; events = events }))))) ≡ Ok v
    → AreValues v
values_bounded machines loads t v (Ok ends) (Ok bounds) a o e =
    let load = load_of_span machines loads ends.machine in
    values_read t v load ends bounds (exempt_at bounds.unit load t) (events_at load t) (are_ends machines t ends a) (are_ordered t bounds o) refl e
values_bounded machines loads t v (Err r) bounds a o e = cc
values_bounded machines loads t v (Ok ends) (Err r) a o e = cc

-- the name of a table and what it says after it are in range
named_in_range : (machines : List (Option MachineKeys)) (loads : List Loaded) (t : Members) (v : List ℕ × SpanValues) → named_values machines loads t ≡ Ok v → (is_span_name v.0 ≡ true) × AreValues v.1
named_in_range machines loads t v e =
    let name = goes_on (name_at t) (λ name. and_then (values_at machines loads t) (λ values. Ok (name, values))) v e in
    let values = goes_on (values_at machines loads t) (λ values. Ok (name.value, values)) v name.rest in
    let are = values_bounded machines loads t values.value (ends_at machines t) (bounds_at t) refl refl values.found in
    subst (λ (w : List ℕ × SpanValues). (is_span_name w.0 ≡ true) × AreValues w.1) (ok_same (name.value, values.value) v values.rest) (named t name.value name.found, are)

table_in_range : (place : ℕ) (machines : List (Option MachineKeys)) (loads : List Loaded) (t : Members) (s : SpanKeys) → span_at place machines loads t ≡ Ok s → IsSpan s
table_in_range place machines loads t s e =
    let v = goes_on (section_at (Span place) span_names t (named_values machines loads t)) (λ v. and_then (assume_at place (load_of_span machines loads v.1.ends.machine) t) (λ assume. Ok (span_keys_of v.0 v.1 assume))) s e in
    let are = named_in_range machines loads t v.value (known_read (Span place) (named_values machines loads t) v.value _ (are_known span_names t) v.found) in
    let assume = goes_on (assume_at place (load_of_span machines loads v.value.1.ends.machine) t) (λ assume. Ok (span_keys_of v.value.0 v.value.1 assume)) s v.rest in
    subst IsSpan (ok_same (span_keys_of v.value.0 v.value.1 assume.value) s assume.rest)
    (parts_in_range v.value.0 v.value.1 assume.value are.0 are.1.ends are.1.bounds are.1.stalls)

pub spans_in_range : (machines : List (Option MachineKeys)) (loads : List Loaded) (tables : Items) (spans : List SpanKeys) → all_spans machines loads tables ≡ Ok spans → AllByRecursion IsSpan spans
spans_in_range machines loads tables spans e =
    gather_keeps IsSpan (span_in machines loads) (λ place front d s _ read.
    let table = element_read (codes "span") (as_table d) (λ t. span_at place machines loads t) s read in
    table_in_range place machines loads table.0 s table.1) tables 0 [] spans tt e
