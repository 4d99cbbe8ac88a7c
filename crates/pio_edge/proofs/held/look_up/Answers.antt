use Rattle.std.proofs.Common.{ap, sym, ◌∙◌, map, string_bytes, Some}
use Rattle.std.specs.Ordering.{nat_cmp}
use Rattle.std.specs.Str.{bytes_eq}
use Rattle.std.specs.VecDeque.Iter.{deque_iter_rest}
use Rattle.std.specs.Cmp.Lexicographic.{slice_cmp}
use Rattle.std.specs.FinMap.{find, get-from_entries}
use Rattle.std.proofs.lemmas.Cmp.{nat_list_cmp_total}
use Rattle.pio_edge.proofs.Lookup.{find-here, find-later}
use Rattle.pio_edge.proofs.held.look_up.Goals as goal

pub loop-entry-init : goal.loop-entry-init
loop-entry-init c =
    get-from_entries nat_list_cmp_total _ _
    ∙ ap (λ es. find (slice_cmp nat_cmp) c.args.name.now (map (λ h. (string_bytes h.name, h.bytes.items)) es)) (sym c.into_iter-entry-iterator.ensures.into_iter_gives.0)

pub returns-then-eq : goal.returns-then-eq
returns-then-eq c =
    ap Some c.deref.ensures.value ∙ sym (c.loop-entry.invariant
    ∙ ap (λ es. find (slice_cmp nat_cmp) c.args.name.now (map (λ h. (string_bytes h.name, h.bytes.items)) es)) c.in-Some.ensures.steps
    ∙ find-here c.args.name.now (string_bytes c.in-Some.entry.now.name) c.in-Some.entry.now.bytes.items (map (λ h. (string_bytes h.name, h.bytes.items)) (deque_iter_rest c.next.new.self)) (c.if-eq.ensures ∙ ap (bytes_eq c.args.name.now) c.as_str.ensures.value))

pub loop-entry-preserved : goal.loop-entry-preserved
loop-entry-preserved c =
    c.loop-entry.invariant
    ∙ ap (λ es. find (slice_cmp nat_cmp) c.args.name.now (map (λ h. (string_bytes h.name, h.bytes.items)) es)) c.in-Some.ensures.steps
    ∙ find-later c.args.name.now (string_bytes c.in-Some.entry.now.name) c.in-Some.entry.now.bytes.items (map (λ h. (string_bytes h.name, h.bytes.items)) (deque_iter_rest c.next.new.self)) (c.if-eq.ensures ∙ ap (bytes_eq c.args.name.now) c.as_str.ensures.value)
