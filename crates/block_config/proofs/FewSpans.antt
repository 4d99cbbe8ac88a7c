-- A configuration has at most 64 spans.
use Rattle.std.proofs.Common.{◌≡◌, ◌+◌, ◌≤◌, cond, nat_le, Bool, true, false, Option, Result, Ok, Err, List, [], map, length, refl, ap, subst, codes, arith}
use Rattle.std.proofs.lemmas.Bool.{leb-true}
use Rattle.std.proofs.lemmas.List.{length-map}
use Rattle.toml.specs.Data.{Items, Members}
use Rattle.pin_matrix.specs.declared.span.Span.{Span}
use Rattle.block_config.specs.Answer.{ConfigRefusal}
use Rattle.block_config.specs.Arrays.{count_items}
use Rattle.setup_keys.specs.Block.{MachineKeys, keys_of_span}
use Rattle.block_config.specs.Config.{Sections, top_names, tables_at, pins_at, few_spans, spans_at, sections_of, sections_at}
use Rattle.block_config.specs.Programs.{Loaded}
use Rattle.block_config.specs.Spans.{span_in, all_spans}
use Rattle.block_config.specs.Tables.{and_then, are_known}
use Rattle.block_config.proofs.Ranges.{goes_on, ok_same}
use Rattle.block_config.proofs.Gathered.{gathered_count}

few_tested : (items found : Items) (few : Bool) (r : ConfigRefusal) → nat_le (count_items items) 64 ≡ few → cond few (Ok items) (Err r) ≡ Ok found → count_items found ≤ 64
few_tested items found true r is e = subst (λ (i : Items). count_items i ≤ 64) (ok_same items found e) (leb-true (count_items items) 64 is)
few_tested items found false r is e = cc

few_kept : (items found : Items) → few_spans items ≡ Ok found → count_items found ≤ 64
few_kept items found e = few_tested items found (nat_le (count_items items) 64) _ refl e

spans_read : (loads machines : Result Items ConfigRefusal) (pins : Result (Option Members) ConfigRefusal) (spans : Result Items ConfigRefusal) (s : Sections)
    → and_then loads (λ loads. and_then machines (λ machines. and_then pins (λ pins. and_then spans (λ spans. Ok (record { loads = loads; machines = machines; pins = pins; spans = spans }))))) ≡ Ok s
    → spans ≡ Ok s.spans
spans_read (Ok loads) (Ok machines) (Ok pins) (Ok spans) s e = ap (λ (x : Sections). Ok x.spans) (ok_same (record { loads = loads; machines = machines; pins = pins; spans = spans }) s e)
spans_read (Err r) machines pins spans s e = cc
spans_read (Ok loads) (Err r) pins spans s e = cc
spans_read (Ok loads) (Ok machines) (Err r) spans s e = cc
spans_read (Ok loads) (Ok machines) (Ok pins) (Err r) s e = cc

few_in_table : (t : Members) (s : Sections) → sections_of t ≡ Ok s → count_items s.spans ≤ 64
few_in_table t s e =
    let tables = goes_on (tables_at t (codes "span")) few_spans s.spans (spans_read (tables_at t (codes "load")) (tables_at t (codes "machine")) (pins_at t) (spans_at t) s e) in
    few_kept tables.value s.spans tables.rest

known_few : (t : Members) (s : Sections) (known : Bool) (r : ConfigRefusal) → cond known (sections_of t) (Err r) ≡ Ok s → count_items s.spans ≤ 64
known_few t s true r e = few_in_table t s e
known_few t s false r e = cc

pub few_in_sections : (t : Members) (s : Sections) → sections_at t ≡ Ok s → count_items s.spans ≤ 64
few_in_sections t s e = known_few t s (are_known top_names t) _ e

pub few_read : (machines : List (Option MachineKeys)) (loads : List Loaded) (tables : Items) (spans : List Span) → all_spans machines loads tables ≡ Ok (map keys_of_span spans) → count_items tables ≤ 64 → length spans ≤ 64
few_read machines loads tables spans e few =
    let count : length (map keys_of_span spans) ≡ 0 + count_items tables = gathered_count (span_in machines loads) tables 0 [] (map keys_of_span spans) e in
    omega (arith, count, length-map spans keys_of_span)
