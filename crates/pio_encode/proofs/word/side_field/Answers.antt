-- The enable bit and the value leave the delay's bits free, so the shift loses nothing.
use Rattle.std.proofs.Common.{◌+◌, ◌*◌, ◌≤◌, ◌^◌, if◌then◌else◌, arith}
use Rattle.pio_encode.proofs.word.side_field.Goals as goal
use Rattle.pio_encode.proofs.Shares.{side_below}

room :
    (c : goal.After-delay_bits) →
    (if c.args.rule.now.opt then 2 ^ 4 else 0) + c.args.value * 2 ^ c.delay_bits.result + 2 ^ c.delay_bits.result ≤ 32
room c = side_below _ _ _ _ c.delay_bits.ensures.rest c.requires

pub overflow_add-result : goal.overflow_add-result
overflow_add-result c = omega (arith, room c)

pub returns-clause-value : goal.returns-clause-value
returns-clause-value c = rw (← c.delay_bits.ensures.value) (omega (arith, room c))

pub returns-clause-room : goal.returns-clause-room
returns-clause-room c = rw (← c.delay_bits.ensures.value) (omega (arith, room c))
