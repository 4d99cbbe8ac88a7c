-- A span with neither `prompt` nor `without` nor an assumption excuses and misses nothing, and one between edges of any instruction looks at edges alone.
use Rattle.std.proofs.Common.{◌≡◌, ◌↔◌, ℕ, suc, ◌==◌, Bool, true, false, not, ◌&&◌, ◌||◌, Option, Some, None, IsSome, List, [], refl, ap, ◌∙◌}
use Rattle.std.proofs.lemmas.Bool.{both_ways}
use Rattle.std.specs.List.{list_all, list_any}
use Rattle.pin_matrix.specs.declared.assume.Assumption.{Assumption}
use Rattle.pin_matrix.specs.declared.span.PinSignal.{PinSignal}
use Rattle.pin_matrix.specs.declared.span.Span.{Span}
use Rattle.pin_matrix.specs.declared.span.SpanUnit.{SpanUnit}
use Rattle.dreq_pacing.specs.declared.due.Due.{Due}
use Rattle.block_core.specs.Slots.{Slot}
use Rattle.block_core.specs.Block.{BlockState}
use Rattle.block_core.specs.Following.{intent_in, place_at}
use Rattle.pin_matrix.specs.Assumptions.{is_within}
use Rattle.span_step.specs.Steps.{is_event, is_named, is_left_out}
use Rattle.span_ticks.specs.Following.{finishes, works}
use Rattle.span_ticks.specs.UnderWay.{stands_before, flow_of}
use Rattle.span_check.specs.Asked.{IsOfEdges, IsPlain}
use Rattle.span_check.specs.Marks.{mark_of, excused_at, has_signal_edge, keeps_at, pc_at, pending_at}
use Rattle.span_check.specs.Holding.{IsUnbrokenIn, IsSpokenOf}
use Rattle.span_check.specs.Runs.{marks_over}

neither : (a b : Bool) → ((a && false) || (b && false)) ≡ false
neither true true = refl
neither true false = refl
neither false true = refl
neither false false = refl

never : (sp : Span) (m : Option Slot) → IsPlain sp → excused_at sp m ≡ false
never sp None plain = refl
never sp (Some m) plain =
    let f = flow_of m.machine.registers in
    ap (λ p. (f.begun && (p && not (is_named sp f.pc))) || (stands_before f && is_left_out sp f.pc)) plain.waits
    ∙ ap (λ (left : List ℕ). (f.begun && false) || (stands_before f && list_any (λ a. a == f.pc) left)) plain.leaves
    ∙ neither f.begun (stands_before f)

pub plain_free : (sp : Span) (memory : List ℕ) (seen : ℕ → ℕ) (host : ℕ → Due) (states : ℕ → BlockState) (clock : ℕ) → IsPlain sp → (marks_over sp memory seen host states clock).excused ≡ false
unfolding mark_of
plain_free sp memory seen host states clock plain = never sp (place_at (states clock) sp.machine) plain

-- without assumptions each X and Y is as assumed
all_kept : (sp : Span) (address : ℕ) (m : Option Slot) → IsPlain sp → keeps_at sp address m ≡ true
all_kept sp address None plain = refl
all_kept sp address (Some m) plain =
    let r = m.machine.registers in
    ap (λ (items : List Assumption). list_all (λ a. not (a.address == address) || (is_within a.x r.x && is_within a.y r.y)) items) plain.assumes

none_missed : (ends keeps : Bool) → keeps ≡ true → (ends && not keeps) ≡ false
none_missed true true e = refl
none_missed false true e = refl
none_missed ends false e = cc

pub plain_kept : (sp : Span) (memory : List ℕ) (seen : ℕ → ℕ) (host : ℕ → Due) (states : ℕ → BlockState) (clock : ℕ) → IsPlain sp → (marks_over sp memory seen host states clock).misses ≡ false
unfolding mark_of
plain_kept sp memory seen host states clock plain =
    let tick = intent_in memory (seen clock) (host clock) (states clock) sp.machine in
    let place = place_at (states clock) sp.machine in
    none_missed (finishes (works tick.kind (pending_at place)) tick.stalled) (keeps_at sp (pc_at place) (place_at (states (suc clock)) sp.machine)) (all_kept sp (pc_at place) (place_at (states (suc clock)) sp.machine) plain)

pub plain_spoken : (sp : Span) (memory : List ℕ) (seen : ℕ → ℕ) (host : ℕ → Due) (states : ℕ → BlockState) (unit : SpanUnit) (s end : ℕ) → IsPlain sp
    → IsSpokenOf unit (marks_over sp memory seen host states) s end ↔ IsUnbrokenIn unit (marks_over sp memory seen host states) s end
plain_spoken sp memory seen host states unit s end plain = (
  λ h. h.unbroken,
  λ h. record {
    free = λ c after before. plain_free sp memory seen host states c plain;
    assumed = λ f c misses from before. absurd (both_ways _ (plain_kept sp memory seen host states f plain) misses);
    unbroken = h;
  },
)

-- an edge that any instruction may make is an event
any_edge : (watched : Option PinSignal) (at : List ℕ) (address : ℕ) (edge works finishes : Bool) → IsSome watched → at ≡ [] → is_event watched at address edge works finishes ≡ edge
any_edge None at address edge works finishes s e = cc
any_edge (Some signal) at address edge works finishes s e = rw e (whole edge) where
  whole : (x : Bool) → (x && true) ≡ x
  whole true = refl
  whole false = refl

pub from_edge : (sp : Span) (memory : List ℕ) (seen : ℕ → ℕ) (host : ℕ → Due) (states : ℕ → BlockState) (clock : ℕ) → IsOfEdges sp
    → (marks_over sp memory seen host states clock).from ≡ has_signal_edge sp.from_signal sp.from_pin sp.from_rise (states clock) (states (suc clock))
unfolding mark_of
from_edge sp memory seen host states clock edges =
    let tick = intent_in memory (seen clock) (host clock) (states clock) sp.machine in
    let place = place_at (states clock) sp.machine in
    any_edge sp.from_signal sp.from_at (pc_at place) (has_signal_edge sp.from_signal sp.from_pin sp.from_rise (states clock) (states (suc clock)))
    (works tick.kind (pending_at place)) (finishes (works tick.kind (pending_at place)) tick.stalled) edges.from edges.from_any

pub to_edge : (sp : Span) (memory : List ℕ) (seen : ℕ → ℕ) (host : ℕ → Due) (states : ℕ → BlockState) (clock : ℕ) → IsOfEdges sp
    → (marks_over sp memory seen host states clock).to ≡ has_signal_edge sp.to_signal sp.to_pin sp.to_rise (states clock) (states (suc clock))
unfolding mark_of
to_edge sp memory seen host states clock edges =
    let tick = intent_in memory (seen clock) (host clock) (states clock) sp.machine in
    let place = place_at (states clock) sp.machine in
    any_edge sp.to_signal sp.to_at (pc_at place) (has_signal_edge sp.to_signal sp.to_pin sp.to_rise (states clock) (states (suc clock)))
    (works tick.kind (pending_at place)) (finishes (works tick.kind (pending_at place)) tick.stalled) edges.to edges.to_any
