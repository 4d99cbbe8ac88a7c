-- The law of this crate, by what the laws of the crates below say.
use Rattle.std.proofs.Common.{◌≡◌, ℕ, List, Option, Some, None, IsSome, slice_index_or, refl, ap, sym, subst, ◌∙◌}
use Rattle.pin_matrix.specs.Followed.{followed}
use Rattle.pin_matrix.specs.declared.machine.MachineSetup.{MachineSetup}
use Rattle.pin_matrix.specs.declared.setup.Setup.{Setup}
use Rattle.pin_matrix.specs.declared.span.Span.{Span}
use Rattle.pin_matrix.specs.declared.span.SpanUnit.{SpanUnit}
use Rattle.pin_matrix.specs.declared.span.SpanUnit.TheVariants.{Ticks, Clocks}
use Rattle.dreq_pacing.specs.declared.due.Due.{Due}
use Rattle.dreq_pacing.specs.declared.line.Line.{Line}
use Rattle.block_core.specs.Block.{BlockState, Run, first_run, first_state, stepped, next}
use Rattle.block_core.specs.Following.{Follows}
use Rattle.block_core.specs.Hosted.{hosted_at, hosted_next, host_of}
use Rattle.span_bounds.specs.Tables.{IsProvable}
use Rattle.span_verdict.specs.Sharing.{IsUnshared}
use Rattle.span_step.specs.declared.ages.Ages.{Ages}
use Rattle.span_step.specs.Contexts.{Context}
use Rattle.span_step.specs.Steps.{period_of}
use Rattle.span_check.specs.Holding.{Holds}
use Rattle.span_check.specs.Proved.{HoldsInEveryRun}
use Rattle.span_check.specs.Runs.{marks_over, HoldsOver, seen_beside, state_beside}
use Rattle.span_check.proofs.Premises.{Laws}
use Rattle.span_check.proofs.InTicks.{holds-ticks}
use Rattle.span_check.proofs.InClocks.{holds-clocks}
use Rattle.span_check.proofs.Pacing.{IsRun}
use Rattle.span_check.proofs.Walk.{IsBeside}
use Rattle.span_check.proofs.Sound.{rows_of, sound_table, beside, run_of}

by_unit : (laws : Laws) (u : Setup) (sp : Span) (rows : Context → Option Ages) (s : MachineSetup) (seen : ℕ → ℕ) (host : ℕ → Due) (states : ℕ → BlockState) → IsBeside u sp rows s seen host states → IsRun sp (period_of s) u.memory seen host states → (n : ℕ) (unit : SpanUnit) → sp.unit ≡ unit → HoldsOver sp u.memory seen host states n
by_unit laws u sp rows s seen host states b r n Ticks e =
    subst (λ k. Holds k sp.min sp.max (marks_over sp u.memory seen host states) n) (sym e) (holds-ticks laws u sp rows s seen host states b e n)
by_unit laws u sp rows s seen host states b r n Clocks e =
    subst (λ k. Holds k sp.min sp.max (marks_over sp u.memory seen host states) n) (sym e) (holds-clocks laws u sp rows s seen host states b r e n)

-- a machine is there
configured-as : (m : Option MachineSetup) → IsSome m → (s : MachineSetup) × (m ≡ Some s)
configured-as None h = cc
configured-as (Some s) h = (s, refl)

holds_over : (laws : Laws) (u : Setup) (sp : Span) → IsSome (slice_index_or u.machines sp.machine None) → IsProvable u sp → IsUnshared u sp → (seen : ℕ → ℕ) (host : ℕ → Due) (states : ℕ → BlockState) → states 0 ≡ first_state u → Follows u.memory seen host states → (n : ℕ) → HoldsOver sp u.memory seen host states n
holds_over laws u sp some p alone seen host states begins follows n =
    let machine = configured-as (slice_index_or u.machines sp.machine None) some in
    let s = machine.0 in
    by_unit laws u sp (rows_of (followed sp) p.rows) s seen host states
    (beside laws u sp s machine.1 alone seen host states begins follows p.rows (sound_table laws u sp p.rows p.table p.closed p.good) p.closed.starts)
    (run_of laws u sp s machine.1 alone seen host states begins follows) n sp.unit refl

-- the block's own run with a stimulus is such a run
beside_follows : (laws : Laws) (u : Setup) (lines : List Line) → Follows u.memory (seen_beside u lines) (host_of (first_run u) lines) (state_beside u lines)
unfolding hosted_at hosted_next next
beside_follows laws u lines c =
    let r = (hosted_at (first_run u) lines c).run in
    let same : r.memory ≡ u.memory = ap (λ (x : Run). x.memory) (laws.stimulus (first_run u) lines c) ∙ laws.memory (first_run u) (host_of (first_run u) lines) c in
    ap (λ m. stepped m (seen_beside u lines c) (host_of (first_run u) lines c) r.state) same

pub provable_holds : (laws : Laws) (u : Setup) (sp : Span) → IsSome (slice_index_or u.machines sp.machine None) → IsProvable u sp → IsUnshared u sp → HoldsInEveryRun u sp
unfolding hosted_at
provable_holds laws u sp some p alone = record {
  beside = λ lines n. holds_over laws u sp some p alone (seen_beside u lines) (host_of (first_run u) lines) (state_beside u lines) refl (beside_follows laws u lines) n;
  over_any_pads = holds_over laws u sp some p alone;
}
