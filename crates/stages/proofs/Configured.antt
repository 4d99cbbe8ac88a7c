-- The machine of each span that a configuration sets up is configured.
use Rattle.std.proofs.Common.{◌≡◌, ◌∙◌, ℕ, zero, suc, ◌+◌, ◌++◌, cond, Bool, true, false, Option, Some, None, is_some, option_map, Result, Ok, Err, List, [], ◌∷◌, IsSome, map, slice_index_or, refl, sym, ap, subst, codes}
use Rattle.std.specs.List.{AllByRecursion}
use Rattle.toml.specs.Data.{Items, no_items, item, Members, as_table}
use Rattle.answers.specs.Answers.{made}
use Rattle.pio_assemble.specs.Program.{Assembled}
use Rattle.pin_matrix.specs.declared.machine.MachineSetup.{MachineSetup}
use Rattle.pin_matrix.specs.declared.setup.Setup.{Setup}
use Rattle.pin_matrix.specs.declared.span.Span.{Span}
use Rattle.block_config.specs.Answer.{ConfigRefusal}
use Rattle.block_config.specs.Assume.{assume_at}
use Rattle.block_config.specs.Arrays.{gather}
use Rattle.setup_keys.specs.Block.{MachineKeys, SpanKeys, BlockKeys, keys_of_machine, keys_of_span, keys_of_block}
use Rattle.block_config.specs.Config.{document_of, parsed, sections_at, Sections, no_machines, owning_with, block_over, block_of_sections, block_of_table, said_of, config_block, config_setup_of, second_setup_of}
use Rattle.block_config.specs.Default.{default_block, default_setup_of}
use Rattle.block_config.specs.declared.edges.Edge.{Edge}
use Rattle.block_config.specs.Exact.{SaysExactly, OwnsExactly}
use Rattle.block_config.specs.Loads.{all_loads, memory_of}
use Rattle.block_config.specs.Machines.{machines_from}
use Rattle.block_config.specs.Memory.{no_words}
use Rattle.block_config.specs.Owning.{OwningKeys, keys_of_owning}
use Rattle.block_config.specs.declared.owning.OwningSetup.{OwningSetup}
use Rattle.block_config.specs.Pins.{pins_in}
use Rattle.block_config.specs.Programs.{Loaded}
use Rattle.block_config.specs.Spans.{span_names, configured, machine_at, from_names, to_names, pin_at, edge_at, required, SpanEnds, ends_at, bounds_at, exempt_at, events_at, load_of_span, SpanValues, values_at, span_keys_of, name_at, named_values, span_at, span_in, all_spans}
use Rattle.block_config.specs.declared.pins.BlockNumber.{BlockNumber}
use Rattle.block_config.specs.declared.pins.BlockNumber.TheVariants.{First, Second}
use Rattle.block_config.specs.declared.path.Section.{Section}
use Rattle.block_config.specs.declared.path.Section.TheVariants as section
use Rattle.block_config.specs.Tables.{and_then, number_at, are_known, in_section, section_at, element_of}
use Rattle.stages.specs.Configured.{AreConfigured}

-- what a step that came out right was made of
record Goes {X Y E : Type 0} (r : Result X E) (next : X → Result Y E) (y : Y) : Type 0 where
  value : X
  found : r ≡ Ok value
  rest : next value ≡ Ok y

goes_on : {X Y E : Type 0} (r : Result X E) (next : X → Result Y E) (y : Y) → and_then r next ≡ Ok y → Goes r next y
goes_on (Ok x) next y e = record { value = x; found = refl; rest = e }
goes_on (Err e') next y e = cc

ok_same : {X E : Type 0} (x y : X) → ◌≡◌ {A = Result X E} (Ok x) (Ok y) → x ≡ y
ok_same x y e = cc

-- ---- one span

IsPlaced : List (Option MachineKeys) → ℕ → Type 0
IsPlaced machines id = is_some (slice_index_or machines id None) ≡ true

tested : (machines : List (Option MachineKeys)) (b : Bool) (id found : ℕ) (r : ConfigRefusal) → is_some (slice_index_or machines id None) ≡ b → cond b (Ok id) (Err r) ≡ Ok found → IsPlaced machines found
unfolding IsPlaced
tested machines true id found r is e = subst (λ (n : ℕ). is_some (slice_index_or machines n None) ≡ true) (ok_same id found e) is
tested machines false id found r is e = cc

machine_placed : (machines : List (Option MachineKeys)) (t : Members) (id : ℕ) → machine_at machines t ≡ Ok id → IsPlaced machines id
machine_placed machines t id e =
    let read = goes_on (number_at t (required (codes "machine") 3)) (configured machines) id e in
    tested machines _ read.value id _ refl read.rest

-- the ends after a machine
ends_after : Members → ℕ → Result SpanEnds ConfigRefusal
ends_after t machine =
    and_then (pin_at from_names t) (λ from_pin. and_then (pin_at to_names t) (λ to_pin.
    and_then (edge_at from_names t) (λ from_edge. and_then (edge_at to_names t) (λ to_edge.
    Ok (record { machine = machine; from_pin = from_pin; to_pin = to_pin; from_edge = from_edge; to_edge = to_edge })))))

-- what the rest keeps of the machine
ends_keep : (machine : ℕ) (ends : SpanEnds) (from_pin to_pin : Result ℕ ConfigRefusal) (from to : Result Edge ConfigRefusal)
    → and_then from_pin (λ from_pin. and_then to_pin (λ to_pin. and_then from (λ from_edge. and_then to (λ to_edge.
    Ok (record { machine = machine; from_pin = from_pin; to_pin = to_pin; from_edge = from_edge; to_edge = to_edge }))))) ≡ Ok ends
    → ends.machine ≡ machine
ends_keep machine ends (Ok a) (Ok b) (Ok from) (Ok to) e =
    sym (ap (λ (x : SpanEnds). x.machine) (ok_same (record { machine = machine; from_pin = a; to_pin = b; from_edge = from; to_edge = to }) ends e))
ends_keep machine ends (Err r) b from to e = cc
ends_keep machine ends (Ok a) (Err r) from to e = cc
ends_keep machine ends (Ok a) (Ok b) (Err r) to e = cc
ends_keep machine ends (Ok a) (Ok b) (Ok from) (Err r) e = cc

ends_placed : (machines : List (Option MachineKeys)) (t : Members) (ends : SpanEnds) → ends_at machines t ≡ Ok ends → IsPlaced machines ends.machine
unfolding ends_after
ends_placed machines t ends e =
    let machine = goes_on (machine_at machines t) (ends_after t) ends e in
    subst (IsPlaced machines) (sym (ends_keep machine.value ends (pin_at from_names t) (pin_at to_names t) (edge_at from_names t) (edge_at to_names t) machine.rest)) (machine_placed machines t machine.value machine.found)

values_placed : (machines : List (Option MachineKeys)) (loads : List Loaded) (t : Members) (v : SpanValues) → values_at machines loads t ≡ Ok v → IsPlaced machines v.ends.machine
values_placed machines loads t v e =
    let ends = goes_on (ends_at machines t) (λ ends. and_then (bounds_at t) (λ bounds. and_then (exempt_at bounds.unit (load_of_span machines loads ends.machine) t) (λ exempt. and_then (events_at (load_of_span machines loads ends.machine) t) (λ events. Ok (record { ends = ends; bounds = bounds; exempt = exempt; events = events }))))) v e in
    let load = load_of_span machines loads ends.value.machine in
    let bounds = goes_on (bounds_at t) (λ bounds. and_then (exempt_at bounds.unit load t) (λ exempt. and_then (events_at load t) (λ events. Ok (record { ends = ends.value; bounds = bounds; exempt = exempt; events = events })))) v ends.rest in
    let exempt = goes_on (exempt_at bounds.value.unit load t) (λ exempt. and_then (events_at load t) (λ events. Ok (record { ends = ends.value; bounds = bounds.value; exempt = exempt; events = events }))) v bounds.rest in
    let events = goes_on (events_at load t) (λ events. Ok (record { ends = ends.value; bounds = bounds.value; exempt = exempt.value; events = events })) v exempt.rest in
    subst (λ (x : SpanValues). IsPlaced machines x.ends.machine) (ok_same _ v events.rest) (ends_placed machines t ends.value ends.found)

named_placed : (machines : List (Option MachineKeys)) (loads : List Loaded) (t : Members) (v : List ℕ × SpanValues) → named_values machines loads t ≡ Ok v → IsPlaced machines v.1.ends.machine
named_placed machines loads t v e =
    let name = goes_on (name_at t) (λ name. and_then (values_at machines loads t) (λ values. Ok (name, values))) v e in
    let values = goes_on (values_at machines loads t) (λ values. Ok (name.value, values)) v name.rest in
    subst (λ (x : List ℕ × SpanValues). IsPlaced machines x.1.ends.machine) (ok_same (name.value, values.value) v values.rest) (values_placed machines loads t values.value values.found)

-- ---- all spans

off_section : {X : Type 0} (section : Section) (r : Result X ConfigRefusal) (x : X) → in_section section r ≡ Ok x → r ≡ Ok x
off_section section (Ok y) x e = e
off_section section (Err r) x e = cc

known_read : {X : Type 0} (section : Section) (r : Result X ConfigRefusal) (x : X) (known : Bool) (refusal : ConfigRefusal) → cond known (in_section section r) (Err refusal) ≡ Ok x → r ≡ Ok x
known_read section r x true refusal e = off_section section r x e
known_read section r x false refusal e = cc

element_placed : (machines : List (Option MachineKeys)) (loads : List Loaded) (place : ℕ) (o : Option Members) (s : SpanKeys)
    → element_of (codes "span") o (λ t. span_at place machines loads t) ≡ Ok s → IsPlaced machines s.machine
element_placed machines loads place None s e = cc
element_placed machines loads place (Some t) s e =
    let said = goes_on (section_at (section.Span place) span_names t (named_values machines loads t)) (λ v. and_then (assume_at place (load_of_span machines loads v.1.ends.machine) t) (λ assume. Ok (span_keys_of v.0 v.1 assume))) s e in
    let load = load_of_span machines loads said.value.1.ends.machine in
    let assume = goes_on (assume_at place load t) (λ assume. Ok (span_keys_of said.value.0 said.value.1 assume)) s said.rest in
    subst (λ (x : SpanKeys). IsPlaced machines x.machine) (ok_same (span_keys_of said.value.0 said.value.1 assume.value) s assume.rest)
    (named_placed machines loads t said.value (known_read (section.Span place) (named_values machines loads t) said.value (are_known span_names t) _ said.found))

ArePlaced : List (Option MachineKeys) → List SpanKeys → Type 0
ArePlaced machines spans = AllByRecursion (λ s. IsPlaced machines s.machine) spans

one_more : (machines : List (Option MachineKeys)) (front : List SpanKeys) (s : SpanKeys) → ArePlaced machines front → IsPlaced machines s.machine → ArePlaced machines (front ++ s ∷ [])
unfolding ArePlaced
one_more machines [] s h here = (here, tt)
one_more machines (x ∷ front) s h here = (h.0, one_more machines front s h.1 here)

spans_placed : (machines : List (Option MachineKeys)) (loads : List Loaded) (tables : Items) (place : ℕ) (front all : List SpanKeys) → ArePlaced machines front → gather (span_in machines loads) place front tables ≡ Ok all → ArePlaced machines all
unfolding gather
spans_placed machines loads no_items place front all h e = subst (ArePlaced machines) (ok_same front all e) h
spans_placed machines loads (item d rest) place front all h e =
    let next = goes_on (span_in machines loads place front d) (λ x. gather (span_in machines loads) (place + 1) (front ++ x ∷ []) rest) all e in
    spans_placed machines loads rest (place + 1) (front ++ next.value ∷ []) all (one_more machines front next.value h (element_placed machines loads place (as_table d) next.value next.found)) next.rest

none_placed : (ms : List (Option MachineKeys)) → ArePlaced ms []
unfolding ArePlaced
none_placed ms = tt

-- ---- the setup

over_placed : (block : BlockNumber) (s : Sections) (loads : List Loaded) (k : OwningKeys) → block_over block s loads ≡ Ok k → ArePlaced k.block.machines k.block.spans
over_placed block s loads k e =
    let machines = goes_on (machines_from 0 no_machines loads s.machines) (λ machines. and_then (pins_in block s.pins) (λ pins. and_then (all_spans machines loads s.spans) (λ spans. Ok (owning_with (memory_of no_words loads) machines pins spans)))) k e in
    let pins = goes_on (pins_in block s.pins) (λ pins. and_then (all_spans machines.value loads s.spans) (λ spans. Ok (owning_with (memory_of no_words loads) machines.value pins spans))) k machines.rest in
    let spans = goes_on (all_spans machines.value loads s.spans) (λ spans. Ok (owning_with (memory_of no_words loads) machines.value pins.value spans)) k pins.rest in
    subst (λ (o : OwningKeys). ArePlaced o.block.machines o.block.spans) (ok_same _ k spans.rest) (spans_placed machines.value loads s.spans 0 [] spans.value (none_placed machines.value) spans.found)

said_placed : (block : BlockNumber) (bytes : List ℕ) (programs : List Assembled) (k : OwningKeys) → said_of block bytes programs ≡ Ok k → ArePlaced k.block.machines k.block.spans
said_placed block bytes programs k e =
    let table = goes_on (parsed (document_of bytes)) (block_of_table block programs) k e in
    let sections = goes_on (sections_at table.value) (block_of_sections block programs) k table.rest in
    let loads = goes_on (all_loads programs sections.value.loads) (block_over block sections.value) k sections.rest in
    over_placed block sections.value loads.value k loads.rest

block_placed : (said : Result OwningKeys ConfigRefusal) (k : BlockKeys) → ((o : OwningKeys) → said ≡ Ok o → ArePlaced o.block.machines o.block.spans) → made (λ o. o.block) said ≡ Ok k → ArePlaced k.machines k.spans
block_placed (Ok o) k placed e = subst (λ (b : BlockKeys). ArePlaced b.machines b.spans) (ok_same o.block k e) (placed o refl)
block_placed (Err r) k placed e = cc

config_placed : (bytes : List ℕ) (programs : List Assembled) (k : BlockKeys) → config_block bytes programs ≡ Ok k → ArePlaced k.machines k.spans
config_placed bytes programs k e = block_placed (said_of First bytes programs) k (said_placed First bytes programs) e

-- a machine that is there in what a setup says is there in the setup
there : (machines : List (Option MachineSetup)) (id : ℕ) → IsPlaced (map (option_map keys_of_machine) machines) id → IsSome (slice_index_or machines id None)
unfolding IsPlaced
there [] id h = absurd (not_there h)
  where
    not_there : false ≡ true → ⊥
    not_there e = cc
there (None ∷ machines) zero h = absurd (not_there h)
  where
    not_there : false ≡ true → ⊥
    not_there e = cc
there (Some m ∷ machines) zero h = refl
there (o ∷ machines) (suc id) h = there machines id h

all_there : (machines : List (Option MachineSetup)) (spans : List Span) → ArePlaced (map (option_map keys_of_machine) machines) (map keys_of_span spans) → AllByRecursion (λ sp. IsSome (slice_index_or machines sp.machine None)) spans
unfolding ArePlaced
all_there machines [] h = tt
all_there machines (sp ∷ spans) h = (there machines sp.machine h.0, all_there machines spans h.1)

-- the machine of each span of a configuration's setup
pub config_configured : (bytes : List ℕ) (programs : List Assembled) (u : Setup) → SaysExactly (config_setup_of bytes programs) (config_block bytes programs) → config_setup_of bytes programs ≡ Ok u → AreConfigured u
config_configured bytes programs u says e =
    let said : config_block bytes programs ≡ Ok (keys_of_block u) = sym says ∙ ap (made keys_of_block) e in
    all_there u.machines u.spans (config_placed bytes programs (keys_of_block u) said)

-- and of a second block's
pub second_configured : (bytes : List ℕ) (programs : List Assembled) (u : OwningSetup) → OwnsExactly (second_setup_of bytes programs) (said_of Second bytes programs) → second_setup_of bytes programs ≡ Ok u → AreConfigured u.setup
second_configured bytes programs u says e =
    let said : said_of Second bytes programs ≡ Ok (keys_of_owning u) = sym says ∙ ap (made keys_of_owning) e in
    all_there u.setup.machines u.setup.spans (said_placed Second bytes programs (keys_of_owning u) said)

-- the default has no spans
pub default_configured : (programs : List Assembled) (u : Setup) → SaysExactly (default_setup_of programs) (default_block programs) → default_setup_of programs ≡ Ok u → AreConfigured u
default_configured programs u says e = none u.spans (no_spans programs (keys_of_block u) (sym says ∙ ap (made keys_of_block) e))
  where
    fits : (k found : BlockKeys) (r : ConfigRefusal) (b : Bool) → cond b (Ok found) (Err r) ≡ Ok k → found.spans ≡ [] → k.spans ≡ []
    fits k found r true e n = subst (λ (x : BlockKeys). x.spans ≡ []) (ok_same found k e) n
    fits k found r false e n = cc

    no_spans : (ps : List Assembled) (k : BlockKeys) → default_block ps ≡ Ok k → k.spans ≡ []
    no_spans [] k e = cc
    no_spans (p ∷ ps) k e = fits k _ _ _ e refl

    none : (spans : List Span) → map keys_of_span spans ≡ [] → AllByRecursion (λ sp. IsSome (slice_index_or u.machines sp.machine None)) spans
    none [] e = tt
    none (sp ∷ spans) e = cc
