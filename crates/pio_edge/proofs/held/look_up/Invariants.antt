use Rattle.std.proofs.Common.{◌≡◌, map, string_bytes}
use Rattle.std.specs.Ordering.{nat_cmp}
use Rattle.std.specs.Cmp.Lexicographic.{slice_cmp}
use Rattle.std.specs.FinMap.{get, find, from_entries}
use Rattle.std.specs.VecDeque.Iter.{deque_iter_rest}
use Rattle.pio_edge.proofs.held.look_up.Given as goal

abbrev pub invariant-loop-entry : goal.invariant-loop-entry
invariant-loop-entry l =
    get (from_entries {R = slice_cmp nat_cmp} (map (λ h. (string_bytes h.name, h.bytes.items)) l.held.items)) l.name
    ≡ find (slice_cmp nat_cmp) l.name (map (λ h. (string_bytes h.name, h.bytes.items)) (deque_iter_rest l.entry-iterator))
