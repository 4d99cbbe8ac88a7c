use Rattle.std.proofs.Common.{◌≡◌, ◌+◌, subst, arith}
use Rattle.sm_registers.specs.Decoding.{IsReading}
use Rattle.sm_registers.proofs.Decoding.{readings_set}
use Rattle.sm_registers.proofs.decoded.Decoded.decode.Goals as goal

pub invariant_of-self : goal.invariant_of-self
invariant_of-self c =
    let at : c.args.place ≡ 0 + c.from.result = omega (arith, c.from.ensures) in
    readings_set c.self.inside.setup 0 c.from.result c.self.inside.readings c.read_word.result c.self.invariant
    (subst (λ n. IsReading c.self.inside.setup n c.read_word.result) at c.read_word.ensures.reading)
