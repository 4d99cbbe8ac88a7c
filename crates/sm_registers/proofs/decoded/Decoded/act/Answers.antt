use Rattle.std.proofs.Common.{rules, ap, ◌∙◌}
use Rattle.pio_encode.specs.Word.{reading_of}
use Rattle.pio_encode.specs.declared.op.Op.{Op}
use Rattle.sm_registers.specs.Decoding.{Decoding}
use Rattle.sm_registers.proofs.Decoding.{reading_at}
use Rattle.sm_registers.proofs.decoded.Decoded.act.Goals as goal

pub returns-then-reading-word-clause-value : goal.returns-then-reading-word-clause-value
returns-then-reading-word-clause-value c =
    let is = reading_at c.self.inside.setup c.from.result c.self.inside.readings _ c.self.invariant (search rules) in
    ap (λ (o : Op). o.act) (is.op ∙ ap (λ w. reading_of w c.self.inside.setup.side_rule) c.if-reading-word.true
    ∙ ap (λ (d : Decoding). reading_of c.args.word d.setup.side_rule) c.self.view_is)

pub returns-then-reading-word-clause-act : goal.returns-then-reading-word-clause-act
returns-then-reading-word-clause-act c =
    (reading_at c.self.inside.setup c.from.result c.self.inside.readings _ c.self.invariant (search rules)).act
