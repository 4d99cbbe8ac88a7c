use Rattle.std.proofs.Common.{rules, ap}
use Rattle.sm_registers.specs.Decoding.{Decoding}
use Rattle.sm_registers.proofs.Decoding.{reading_in}
use Rattle.sm_registers.proofs.decoded.Decoded.reading.Goals as goal

pub returns-clause-reading : goal.returns-clause-reading
returns-clause-reading c =
    reading_in c.self.inside.setup c.args.self.now.setup c.from.result c.args.place c.self.inside.readings _
    (ap (λ (d : Decoding). d.setup) c.self.view_is) c.from.ensures c.self.invariant (search rules)
