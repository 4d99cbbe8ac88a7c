use Rattle.std.proofs.Common.{◌++◌, List, ℕ, refl, ap, ◌∙◌, drop, arith}
use Rattle.vcd_trace.specs.ClockText.{Line}
use Rattle.vcd_trace.proofs.UsualLaws.{gathered}
use Rattle.vcd_trace.proofs.usual.Rooms.write.Goals as goal

pub returns-clause-text : goal.returns-clause-text
returns-clause-text c =
    let w = c.write_changes-end in
    let after = drop w.result w.new.self.room in
    c.write.ensures.text
    ∙ ap (λ (v : Line). v.text ++ after) w.ensures.line
    ∙ ap (λ (l : List ℕ). l ++ after) (c.if-not-turn.ensures.text refl)
    ∙ gathered 1246 c.args.clock c.args.last.now c.args.now.now w.new.self.room w.result (c.if-not-is_usual.ensures.levels refl) (omega arith) w.ensures.before c.if-end-eq-ROOM.false w.ensures.text
