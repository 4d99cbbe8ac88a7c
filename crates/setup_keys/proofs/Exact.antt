-- Numbers in range are not clipped.
use Rattle.std.proofs.Common.{◌≡◌, ℕ, ◌<◌, ◌≤◌, ◌^◌, ◌%◌, ◌+◌, suc, min, ◌==◌, ◌||◌, ◌&&◌, not, cond, Bool, true, false, Option, Some, None, option_map, List, [], ◌∷◌, map, length, refl, ap, sym, ◌∙◌, arith}
use Rattle.std.proofs.Math.Nat.{mod-eq_of_lt}
use Rattle.std.proofs.lemmas.Bool.{and_parts, eqb-true}
use Rattle.std.specs.List.{AllByRecursion}
use Rattle.std.specs.Option.{ForSome}
use Rattle.pin_matrix.specs.Setups.{ids_are_places}
use Rattle.pin_matrix.specs.Spans.{is_in_ticks, is_span_name, underscore}
use Rattle.pin_matrix.specs.declared.machine.MachineSetup.{MachineSetup}
use Rattle.pin_matrix.specs.declared.setup.Setup.{Setup}
use Rattle.pin_matrix.specs.declared.span.Span.{Span}
use Rattle.setup_keys.specs.Block.{MachineKeys, SpanKeys, BlockKeys, keys_of_machine, keys_of_span, keys_of_block}
use Rattle.setup_keys.specs.Clipped.{bits_of, clipped_machine, clipped_least, clipped_most, formed, clipped_span, clipped_at, clipped_block}
use Rattle.setup_keys.specs.InRange.{IsMachine, IsSpan, ArePlaced, IsBlock}
use Rattle.setup_keys.proofs.Alike.{facts, bounds, same_block}
use Rattle.setup_keys.proofs.Making.{a_setup_says}

frac_in : (whole : Bool) (frac : ℕ) → (not whole || frac == 0) ≡ true → cond whole 0 frac ≡ frac
frac_in false frac h = refl
frac_in true frac h = sym (eqb-true frac 0 h)

join_in : (tx rx : Bool) → not (tx && rx) ≡ true → (rx && not tx) ≡ rx
join_in true true h = cc
join_in true false h = refl
join_in false true h = refl
join_in false false h = refl

bits_in : (n : ℕ) → 1 ≤ n → n ≤ 32 → bits_of n ≡ n
bits_in n a b = ap suc (mod-eq_of_lt (omega arith)) ∙ omega arith

stalls_in : (ticks : Bool) (stalls : List ℕ) → (ticks || length stalls == 0) ≡ true → cond ticks stalls [] ≡ stalls
stalls_in true stalls h = refl
stalls_in false [] h = refl
stalls_in false (s ∷ ss) h = absurd (omega (arith, eqb-true (length (s ∷ ss)) 0 h))

name_in : (has : Bool) (name : List ℕ) → is_span_name name ≡ has → has ≡ true → cond has name (underscore ∷ []) ≡ name
name_in true name is h = refl
name_in false name is h = cc

machine_kept : (k : MachineKeys) (place : ℕ) → IsMachine k → k.id ≡ place → clipped_machine place k ≡ k
machine_kept k place f is =
    let id : place % 4 ≡ k.id = mod-eq_of_lt (omega (arith, f.id_in_block)) ∙ sym is in
    let start : k.start % 32 ≡ k.start = mod-eq_of_lt f.start_in_memory in
    let bottom : k.wrap_bottom % 32 ≡ k.wrap_bottom = mod-eq_of_lt f.wrap_bottom_in_memory in
    let top : k.wrap_top % 32 ≡ k.wrap_top = mod-eq_of_lt f.wrap_top_in_memory in
    let in_base : k.in_base % 32 ≡ k.in_base = mod-eq_of_lt f.in_base_is_a_pin in
    let jmp : k.jmp_pin % 32 ≡ k.jmp_pin = mod-eq_of_lt f.jmp_pin_is_a_pin in
    let out : k.out_base % 32 ≡ k.out_base = mod-eq_of_lt f.out_base_is_a_pin in
    let sets : k.set_base % 32 ≡ k.set_base = mod-eq_of_lt f.set_base_is_a_pin in
    let side : k.side_base % 32 ≡ k.side_base = mod-eq_of_lt f.side_base_is_a_pin in
    let isrs : min k.isr_count 32 ≡ k.isr_count = omega (arith, f.isr_has_bits) in
    let osrs : min k.osr_count 32 ≡ k.osr_count = omega (arith, f.osr_has_bits) in
    let outs : min k.out_count 32 ≡ k.out_count = omega (arith, f.out_count_fits) in
    let setss : min k.set_count 5 ≡ k.set_count = omega (arith, f.sets_five_at_most) in
    let sides : min k.side_count 32 ≡ k.side_count = omega (arith, f.side_count_fits) in
    let status : k.status_n % 16 ≡ k.status_n = mod-eq_of_lt f.status_in_field in
    rw (id, start, isrs, osrs, bottom, top, in_base, jmp, out, sets, side, outs, setss, sides, status, frac_in (k.int == 0) k.frac f.divides, join_in k.join_tx k.join_rx f.joins_one_way, bits_in k.push_threshold f.pushes_some f.pushes_a_word, bits_in k.pull_threshold f.pulls_some f.pulls_a_word) refl

most_in : (most : Option ℕ) → ForSome most (λ m. m < 2 ^ 24) → clipped_most most ≡ most
most_in None h = refl
most_in (Some n) h = ap (λ (m : ℕ). let o : Option ℕ = Some m in o) (mod-eq_of_lt (h n refl))

least_in : (least : ℕ) (most : Option ℕ) → ForSome most (λ m. least ≤ m) → least < 2 ^ 24 → ForSome most (λ m. m < 2 ^ 24) → clipped_least least most ≡ least
least_in least None o l b = mod-eq_of_lt l
least_in least (Some n) o l b =
    let e : n % 16777216 ≡ n = mod-eq_of_lt (b n refl) in
    let s : min least n ≡ least = omega (arith, o n refl) in
    rw e s

span_kept : (k : SpanKeys) → IsSpan k → clipped_span k ≡ k
span_kept k f =
    let machine : k.machine % 4 ≡ k.machine = mod-eq_of_lt f.machine_in_block in
    let from : k.from_pin % 32 ≡ k.from_pin = mod-eq_of_lt f.from_pin_is_a_pin in
    let to : k.to_pin % 32 ≡ k.to_pin = mod-eq_of_lt f.to_pin_is_a_pin in
    let most : clipped_most k.most ≡ k.most = most_in k.most f.bounded in
    let least : clipped_least k.least k.most ≡ k.least = least_in k.least k.most f.ordered f.min_fits f.bounded in
    let name : formed k.name ≡ k.name = name_in (is_span_name k.name) k.name refl f.named in
    rw (name, machine, from, to, least, most, stalls_in (is_in_ticks k.unit) k.stalls f.stalls_in_ticks) refl

spans_kept : (ks : List SpanKeys) → AllByRecursion IsSpan ks → map clipped_span ks ≡ ks
spans_kept [] h = refl
spans_kept (k ∷ ks) h = rw (span_kept k h.0, spans_kept ks h.1) refl

place_kept : (place : ℕ) (o : Option MachineKeys) (rest : List (Option MachineKeys)) → ArePlaced place (o ∷ rest) → (option_map (clipped_machine place) o ≡ o) × ArePlaced (place + 1) rest
place_kept place None rest h = (refl, h)
place_kept place (Some m) rest h = (ap Some (machine_kept m place h.1 h.0), h.2)

four_kept : (ks : List (Option MachineKeys)) → length ks ≡ 4 → ArePlaced 0 ks → clipped_at ks 0 ∷ clipped_at ks 1 ∷ clipped_at ks 2 ∷ clipped_at ks 3 ∷ [] ≡ ks
four_kept [] l h = absurd (omega arith)
four_kept (a ∷ []) l h = absurd (omega arith)
four_kept (a ∷ b ∷ []) l h = absurd (omega arith)
four_kept (a ∷ b ∷ c ∷ []) l h = absurd (omega arith)
four_kept (a ∷ b ∷ c ∷ d ∷ []) l h =
    let first = place_kept 0 a (b ∷ c ∷ d ∷ []) h in
    let second = place_kept 1 b (c ∷ d ∷ []) first.1 in
    let third = place_kept 2 c (d ∷ []) second.1 in
    let last = place_kept 3 d [] third.1 in
    rw (first.0, second.0, third.0, last.0) refl
four_kept (a ∷ b ∷ c ∷ d ∷ e ∷ more) l h = absurd (omega arith)

-- a block in range is not clipped
pub not_clipped : (k : BlockKeys) → IsBlock k → clipped_block k ≡ k
not_clipped k is =
    ap (λ (ms : List (Option MachineKeys)). record k { machines = ms; spans = map clipped_span k.spans }) (four_kept k.machines is.four is.placed)
    ∙ ap (λ (ss : List SpanKeys). record k { spans = ss }) (spans_kept k.spans is.spans)

places_in : (place : ℕ) (ms : List (Option MachineSetup)) → ids_are_places place ms ≡ true → ArePlaced place (map (option_map keys_of_machine) ms)
places_in place [] h = tt
places_in place (None ∷ ms) h = places_in (place + 1) ms h
places_in place (Some m ∷ ms) h =
    let (here, others) = and_parts (m.id == place) (ids_are_places (place + 1) ms) h in
    (eqb-true m.id place here, facts m, places_in (place + 1) ms others)

spans_in : (ss : List Span) → AllByRecursion IsSpan (map keys_of_span ss)
spans_in [] = tt
spans_in (s ∷ ss) = (bounds s, spans_in ss)

length_keys : (ms : List (Option MachineSetup)) → length (map (option_map keys_of_machine) ms) ≡ length ms
length_keys [] = refl
length_keys (m ∷ ms) = ap suc (length_keys ms)

-- what a setup says is in range
pub setup_in_range : (s : Setup) → length s.machines ≡ 4 → IsBlock (keys_of_block s)
setup_in_range s four = record { four = length_keys s.machines ∙ four; placed = places_in 0 s.machines s.at_their_places; spans = spans_in s.spans }

-- the setup of what a setup says is that setup
pub says_itself : (s : Setup) → length s.machines ≡ 4 → (a_setup_says (keys_of_block s)).0 ≡ s
says_itself s four =
    let found = a_setup_says (keys_of_block s) in
    same_block found.0 s (found.1 ∙ not_clipped (keys_of_block s) (setup_in_range s four))
