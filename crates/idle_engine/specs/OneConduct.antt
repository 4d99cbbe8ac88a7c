-- The run of one block with a stimulus, which shows what its machines did in the last clock of note.
--   Conducting        the states of such a run
--   conducting_next   one clock on
--   conducting_from   some clocks on, if the system does nothing
--   one_conduct       the kind of such a run
use Rattle.std.specs.Prelude.{ℕ, zero, suc, List}
use Rattle.dreq_pacing.specs.declared.line.Line.{Line}
use Rattle.dreq_pacing.specs.Due.{quiet}
use Rattle.block_core.specs.declared.conduct.Conduct.{Conduct}
use Rattle.block_core.specs.Conduct.{conduct_after}
use Rattle.block_core.specs.Hosted.{Hosted, due_of, hosted_next}
use Rattle.idle_engine.specs.Kinds.{RunKind}
use Rattle.idle_engine.specs.One.{one}

-- A block with what is left of the transfers, and what is told of its last clock of note.
pub record Conducting : Type 0 where
  pub hosted : Hosted
  pub last : Conduct

-- one clock on
abbrev pub conducting_next : List Line → Conducting → Conducting
conducting_next lines h = record {
  hosted = hosted_next lines h.hosted;
  last = conduct_after (due_of lines h.hosted) h.hosted.run h.last;
}

-- the same, if the system does nothing
abbrev pub conducting_quiet : Conducting → Conducting
conducting_quiet h = record { hosted = one.quiet_next h.hosted; last = conduct_after quiet h.hosted.run h.last }

-- so many clocks on
unfoldable pub conducting_from : Conducting → ℕ → Conducting
conducting_from h zero = h
conducting_from h (suc n) = conducting_quiet (conducting_from h n)

-- the kind of such a run (`Kinds`): it goes as one that shows its sample
abbrev pub one_conduct : RunKind Conducting (List Line) Conduct
one_conduct = record {
  in_clock = λ h n. one.in_clock h.hosted n;
  acts = λ lines h n. one.acts lines h.hosted n;
  moves_on = λ h. one.moves_on h.hosted;
  stirs = λ lines h. one.stirs lines h.hosted;
  next = conducting_next;
  quiet_next = conducting_quiet;
  quiet_from = conducting_from;
  shown = λ h. h.last;
}
