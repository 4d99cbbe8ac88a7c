use Rattle.vcd_trace.proofs.PlaceLaws.{place-same}
use Rattle.vcd_trace.proofs.place_lines.PlaceLines.turn.Goals as goal

pub returns-then-self-instruction-clause-lines : goal.returns-then-self-instruction-clause-lines
returns-then-self-instruction-clause-lines c =
    place-same c.args.self.now c.args.first c.args.pc c.args.instruction c.if-self-first.true c.if-self-pc.true c.if-self-instruction.true c.requires.own
