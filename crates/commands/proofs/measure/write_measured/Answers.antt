use Rattle.std.proofs.Common.{List, ℕ, subst}
use Rattle.block_core.specs.Block.{first_run}
use Rattle.commands.specs.Written.{Writes}
use Rattle.fault_lines.specs.Output.{output_of}
use Rattle.commands.proofs.MetersSeen.{as_many, lines_are_text}
use Rattle.commands.proofs.measure.write_measured.Goals as goal

pub write_lines-requires : goal.write_lines-requires
write_lines-requires g c = as_many _ _ c.as_slice.result.now c.in_ok-meter.meter c.in_ok-meter.ensures.seen c.as_slice.ensures.list

pub returns-clause-ends : goal.returns-clause-ends
returns-clause-ends g c =
    let old = c.args.out.now in
    let new = c.write_lines.new.out in
    let P : List ℕ → Type 0 = λ text. Writes (output_of (g.O.Sink.taken old) (g.O.Sink.waiting old) (g.O.Sink.faults old))
    (output_of (g.O.Sink.taken new) (g.O.Sink.waiting new) (g.O.Sink.faults new)) text c.write_lines.result in
    subst P (lines_are_text (first_run c.args.setup.now) c.args.setup.now.spans c.as_slice.result.now c.args.schedule.now c.args.clocks c.in_ok-meter.meter c.in_ok-meter.ensures.seen c.as_slice.ensures.list)
    c.write_lines.ensures
