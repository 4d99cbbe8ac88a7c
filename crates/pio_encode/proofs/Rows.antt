-- Words of three programs, read and written by computing the definitions.
use Rattle.std.proofs.Common.{◌≡◌, ℕ, true, false, Option, Some, None, refl, arith}
use Rattle.pio_encode.specs.declared.act.Act.{Act}
use Rattle.pio_encode.specs.declared.act.Act.TheVariants.{Jmp, Out, Pull, Mov, Set}
use Rattle.pio_encode.specs.declared.act.Condition.TheVariants as condition
use Rattle.pio_encode.specs.declared.act.OutDestination.TheVariants as out_destination
use Rattle.pio_encode.specs.declared.act.MovDestination.TheVariants as mov_destination
use Rattle.pio_encode.specs.declared.act.MovOperation.TheVariants as mov_operation
use Rattle.pio_encode.specs.declared.act.MovSource.TheVariants as mov_source
use Rattle.pio_encode.specs.declared.act.SetDestination.TheVariants as set_destination
use Rattle.pio_encode.specs.declared.op.Op.{Op}
use Rattle.pio_encode.specs.declared.rule.SideRule.{SideRule}
use Rattle.pio_encode.specs.Word.{word_of, kind_of, operands_of, side_and_delay, reading_of, act_of, side_of, delay_of, push_or_pull_at, mov_at, set_at}

-- the word under the rule is read as these parts, and they are written to it
abbrev IsRow : ℕ → SideRule → Option ℕ → ℕ → Act → Type 0
IsRow w rule side delay act =
    let op : Op = record { side = side; delay = delay; act = act } in
    (reading_of w rule ≡ op) × (word_of op rule ≡ w)

abbrev plain : SideRule
plain = record { bits = 0; opt = false; pindirs = false; fits = omega arith }

abbrev one_bit : SideRule
one_bit = record { bits = 1; opt = false; pindirs = false; fits = omega arith }

abbrev one_bit_opt : SideRule
one_bit_opt = record { bits = 1; opt = true; pindirs = false; fits = omega arith }

-- a square wave
square_wave_0 : IsRow 0xe081 plain None 0 (Set set_destination.Pindirs 1)
unfolding reading_of act_of set_at side_of delay_of word_of kind_of operands_of side_and_delay
square_wave_0 = (refl, refl)

square_wave_1 : IsRow 0xe101 plain None 1 (Set set_destination.Pins 1)
unfolding reading_of act_of set_at side_of delay_of word_of kind_of operands_of side_and_delay
square_wave_1 = (refl, refl)

square_wave_3 : IsRow 0x0001 plain None 0 (Jmp condition.Always 1)
unfolding reading_of act_of side_of delay_of word_of kind_of operands_of side_and_delay
square_wave_3 = (refl, refl)

-- a ws2812 transmitter: one bit of side-set, always there
ws2812_0 : IsRow 0x6221 one_bit (Some 0) 2 (Out out_destination.X 1)
unfolding reading_of act_of side_of delay_of word_of kind_of operands_of side_and_delay
ws2812_0 = (refl, refl)

ws2812_1 : IsRow 0x1123 one_bit (Some 1) 1 (Jmp condition.XZero 3)
unfolding reading_of act_of side_of delay_of word_of kind_of operands_of side_and_delay
ws2812_1 = (refl, refl)

ws2812_3 : IsRow 0xa442 one_bit (Some 0) 4 (Mov mov_destination.Y mov_operation.Plain mov_source.Y)
unfolding reading_of act_of mov_at side_of delay_of word_of kind_of operands_of side_and_delay
ws2812_3 = (refl, refl)

-- a serial transmitter: one bit under opt
uart_0 : IsRow 0x9fa0 one_bit_opt (Some 1) 7 (Pull false true)
unfolding reading_of act_of push_or_pull_at side_of delay_of word_of kind_of operands_of side_and_delay
uart_0 = (refl, refl)

uart_1 : IsRow 0xf727 one_bit_opt (Some 0) 7 (Set set_destination.X 7)
unfolding reading_of act_of set_at side_of delay_of word_of kind_of operands_of side_and_delay
uart_1 = (refl, refl)

uart_3 : IsRow 0x0642 one_bit_opt None 6 (Jmp condition.XDecrement 2)
unfolding reading_of act_of side_of delay_of word_of kind_of operands_of side_and_delay
uart_3 = (refl, refl)
