-- The run of one block with a stimulus.
use Rattle.std.specs.Prelude.{◌≡◌, List}
use Rattle.dreq_pacing.specs.declared.line.Line.{Line}
use Rattle.dreq_pacing.specs.Due.{quiet}
use Rattle.dreq_pacing.specs.Ports.{acts_in}
use Rattle.block_core.specs.declared.sample.Sample.{Sample}
use Rattle.block_core.specs.Block.{next, run_from}
use Rattle.block_core.specs.Hosted.{Hosted, hosted_next}
use Rattle.block_core.specs.Shown.{requests_of, sample_of}
use Rattle.block_core.specs.Stirring.{moves_on, stirs_in}
use Rattle.idle_engine.specs.Kinds.{RunKind}

-- the kind of such a run (`Kinds`)
abbrev pub one : RunKind Hosted (List Line) Sample
one = record {
  in_clock = λ h n. h.run.clock ≡ n;
  acts = λ lines h n. acts_in lines n (requests_of h.run.state) h.transfers;
  moves_on = λ h. moves_on quiet h.run;
  stirs = stirs_in;
  next = hosted_next;
  quiet_next = λ h. record h { run = next quiet h.run };
  quiet_from = λ h n. record h { run = run_from h.run (λ c. quiet) n };
  shown = λ h. sample_of h.run.state;
}
