-- The reading of an instruction's word is the instruction.
use Rattle.std.proofs.Common.{◌≡◌, ℕ, ◌+◌, ◌*◌, ◌^◌, ◌<◌, refl, arith, lit<}
use Rattle.pio_encode.specs.declared.act.Act.{Act}
use Rattle.pio_encode.specs.declared.act.Act.TheVariants.{Jmp, Wait, In, Out, Push, Pull, Mov, Irq, Set, Nothing}
use Rattle.pio_encode.specs.declared.op.Op.{Op}
use Rattle.pio_encode.specs.declared.rule.SideRule.{SideRule}
use Rattle.pio_encode.specs.Ranges.{OpFits, IsInRange}
use Rattle.pio_encode.specs.Word.{bits, kind_of, operands_of, side_and_delay, word_of, reading_of}
use Rattle.pio_encode.proofs.OperandNumbers.{bit_below, condition_below, wait_source_below, in_source_below, out_destination_below, mov_destination_below, mov_operation_below, mov_source_below, set_destination_below}
use Rattle.pio_encode.proofs.ActBack.{act_back}
use Rattle.pio_encode.proofs.SideBack.{side_back, delay_back, shares_below}

-- the kind has three bits
kind_below : (act : Act) → kind_of act < 8
unfolding kind_of
kind_below (Jmp condition address) = lit< tt
kind_below (Wait polarity source index) = lit< tt
kind_below (In source count) = lit< tt
kind_below (Out destination count) = lit< tt
kind_below (Push if_full block) = lit< tt
kind_below (Pull if_empty block) = lit< tt
kind_below (Mov destination operation source) = lit< tt
kind_below (Irq clear wait index) = lit< tt
kind_below (Set destination value) = lit< tt
kind_below Nothing = lit< tt

-- the operands have eight
operands_below : (act : Act) → IsInRange act → operands_of act < 256
unfolding operands_of
operands_below (Jmp condition address) r = omega (arith, condition_below condition)
operands_below (Wait polarity source index) r = omega (arith, bit_below polarity, wait_source_below source)
operands_below (In source count) r = omega (arith, in_source_below source)
operands_below (Out destination count) r = omega (arith, out_destination_below destination)
operands_below (Push if_full block) r = omega (arith, bit_below if_full, bit_below block)
operands_below (Pull if_empty block) r = omega (arith, bit_below if_empty, bit_below block)
operands_below (Mov destination operation source) r =
    omega (arith, mov_destination_below destination, mov_operation_below operation, mov_source_below source)
operands_below (Irq clear wait index) r = omega (arith, bit_below clear, bit_below wait)
operands_below (Set destination value) r = omega (arith, set_destination_below destination)
operands_below Nothing r = lit< tt

-- bits 12 to 8 of a word of three parts
shared_at : (kind shared operands : ℕ) → shared < 32 → operands < 256 → bits (kind * 2 ^ 13 + shared * 2 ^ 8 + operands) 8 5 ≡ shared
shared_at kind shared operands s o = omega arith

-- a word has sixteen bits
pub word_below : (op : Op) (rule : SideRule) → OpFits op rule → word_of op rule < 2 ^ 16
unfolding word_of
word_below op rule f =
    omega (arith, kind_below op.act, operands_below op.act f.operands, shares_below rule op.side op.delay f.side f.delay)

-- an instruction's word means the instruction
pub read_back : (op : Op) (rule : SideRule) → OpFits op rule → reading_of (word_of op rule) rule ≡ op
unfolding word_of reading_of
read_back op rule f =
    let few = shares_below rule op.side op.delay f.side f.delay in
    let shared = side_and_delay rule op.side op.delay in
    let at = shared_at (kind_of op.act) shared (operands_of op.act) few (operands_below op.act f.operands) in
    let act = act_back op.act shared f.instruction f.operands few in
    rw (at, act, side_back rule rule.opt op.side op.delay refl f.side f.delay, delay_back rule rule.opt op.side op.delay refl f.delay) refl
