-- The run of one block with a stimulus, which shows what is inside the block.
use Rattle.std.specs.Prelude.{List}
use Rattle.dreq_pacing.specs.declared.line.Line.{Line}
use Rattle.block_core.specs.declared.inside.Inside.{Inside}
use Rattle.block_core.specs.Hosted.{Hosted}
use Rattle.block_core.specs.Inside.{inside_of}
use Rattle.idle_engine.specs.Kinds.{RunKind}
use Rattle.idle_engine.specs.One.{one}

-- the kind of such a run (`Kinds`): it goes as one that shows its sample
abbrev pub one_inside : RunKind Hosted (List Line) Inside
one_inside = record {
  in_clock = one.in_clock;
  acts = one.acts;
  moves_on = one.moves_on;
  stirs = one.stirs;
  next = one.next;
  quiet_next = one.quiet_next;
  quiet_from = one.quiet_from;
  shown = λ h. inside_of h.run;
}
