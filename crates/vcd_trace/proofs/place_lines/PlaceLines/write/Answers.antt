use Rattle.std.proofs.Common.{arith}
use Rattle.vcd_trace.proofs.PlaceLaws.{copied-before}
use Rattle.vcd_trace.proofs.place_lines.PlaceLines.write.Goals as goal

pub returns-clause-text : goal.returns-clause-text
returns-clause-text c =
    let l = c.args.self.now in
    copied-before 34 c.args.end l.start c.args.room.now c.copy_from_slice.new.self l.room (omega arith) (omega arith) (omega arith) c.requires.within c.copy_from_slice.ensures.after
