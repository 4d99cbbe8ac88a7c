-- A machine begins under way: at its first instruction, with no word pending.
use Rattle.std.proofs.Common.{◌≡◌, true, false, Option, Some, None, slice_index_or, refl, inl}
use Rattle.pin_matrix.specs.declared.machine.MachineSetup.{MachineSetup}
use Rattle.pin_matrix.specs.declared.setup.Setup.{Setup}
use Rattle.pin_matrix.specs.declared.span.Span.{Span}
use Rattle.sm_registers.specs.State.{first_registers}
use Rattle.span_step.specs.declared.ages.Ages.{Ages}
use Rattle.span_step.specs.declared.ages.Ages.TheVariants.{Empty}
use Rattle.span_step.specs.Contexts.{Context}
use Rattle.span_step.specs.Courses.{start}
use Rattle.span_ticks.specs.Rows.{IsInRow, IsSoundTable}
use Rattle.span_ticks.specs.UnderWay.{IsContextOf, IsUnderWay, flow_of}
use Rattle.span_ticks.proofs.Ends.{begins_plain}

pub start_under_way : (u : Setup) (sp : Span) (rows : Context → Option Ages) (s : MachineSetup) (k : Context)
    → slice_index_or u.machines sp.machine None ≡ Some s → IsSoundTable u sp rows → IsContextOf sp k (flow_of (first_registers s))
    → IsInRow Empty (rows k) → IsUnderWay u sp rows s true (flow_of (first_registers s)) (start false k Empty)
start_under_way u sp rows s k configured table agrees row = inl (record {
  pending = plain (rows k) refl row;
  begun = refl;
  good = refl;
  comes = λ e. record { context = k; agrees = agrees; from = refl; to = refl; row = row };
  delayed = λ e. absurd (let x : true ≡ false = e in cc);
}) where
  plain : (o : Option Ages) → rows k ≡ o → IsInRow Empty o → s.pending ≡ None
  plain None e h = absurd h
  plain (Some a) e h = begins_plain u sp rows s k a configured (table.row k a agrees.placed e)
