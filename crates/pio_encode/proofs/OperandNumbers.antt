-- The numbers of the operands: each is within its field, and is read back as the operand.
use Rattle.std.proofs.Common.{◌≡◌, ◌<◌, lit<, refl, ◌==◌, Bool, true, false, Some}
use Rattle.pio_encode.specs.declared.act.Condition.{Condition}
use Rattle.pio_encode.specs.declared.act.Condition.TheVariants as condition
use Rattle.pio_encode.specs.declared.act.WaitSource.{WaitSource}
use Rattle.pio_encode.specs.declared.act.WaitSource.TheVariants as wait_source
use Rattle.pio_encode.specs.declared.act.InSource.{InSource}
use Rattle.pio_encode.specs.declared.act.InSource.TheVariants as in_source
use Rattle.pio_encode.specs.declared.act.OutDestination.{OutDestination}
use Rattle.pio_encode.specs.declared.act.OutDestination.TheVariants as out_destination
use Rattle.pio_encode.specs.declared.act.MovDestination.{MovDestination}
use Rattle.pio_encode.specs.declared.act.MovDestination.TheVariants as mov_destination
use Rattle.pio_encode.specs.declared.act.MovOperation.{MovOperation}
use Rattle.pio_encode.specs.declared.act.MovOperation.TheVariants as mov_operation
use Rattle.pio_encode.specs.declared.act.MovSource.{MovSource}
use Rattle.pio_encode.specs.declared.act.MovSource.TheVariants as mov_source
use Rattle.pio_encode.specs.declared.act.SetDestination.{SetDestination}
use Rattle.pio_encode.specs.declared.act.SetDestination.TheVariants as set_destination
use Rattle.pio_encode.specs.Word.{bit, condition_number, condition_at, wait_source_number, in_source_number, out_destination_number, out_destination_at, mov_destination_number, mov_destination_at, mov_operation_number, mov_operation_at, mov_source_number, mov_source_at, set_destination_number}

-- a bit
pub bit_below : (b : Bool) → bit b < 2
bit_below true = lit< tt
bit_below false = lit< tt

-- and its test
pub bit_back : (b : Bool) → (bit b == 1) ≡ b
bit_back true = refl
bit_back false = refl

pub condition_below : (x : Condition) → condition_number x < 8
condition_below condition.Always = lit< tt
condition_below condition.XZero = lit< tt
condition_below condition.XDecrement = lit< tt
condition_below condition.YZero = lit< tt
condition_below condition.YDecrement = lit< tt
condition_below condition.XNotY = lit< tt
condition_below condition.Pin = lit< tt
condition_below condition.OsrNotEmpty = lit< tt

pub condition_back : (x : Condition) → condition_at (condition_number x) ≡ x
condition_back condition.Always = refl
condition_back condition.XZero = refl
condition_back condition.XDecrement = refl
condition_back condition.YZero = refl
condition_back condition.YDecrement = refl
condition_back condition.XNotY = refl
condition_back condition.Pin = refl
condition_back condition.OsrNotEmpty = refl

pub wait_source_below : (x : WaitSource) → wait_source_number x < 4
wait_source_below wait_source.Gpio = lit< tt
wait_source_below wait_source.Pin = lit< tt
wait_source_below wait_source.Irq = lit< tt

pub in_source_below : (x : InSource) → in_source_number x < 8
in_source_below in_source.Pins = lit< tt
in_source_below in_source.X = lit< tt
in_source_below in_source.Y = lit< tt
in_source_below in_source.Null = lit< tt
in_source_below in_source.Isr = lit< tt
in_source_below in_source.Osr = lit< tt

pub out_destination_below : (x : OutDestination) → out_destination_number x < 8
out_destination_below out_destination.Pins = lit< tt
out_destination_below out_destination.X = lit< tt
out_destination_below out_destination.Y = lit< tt
out_destination_below out_destination.Null = lit< tt
out_destination_below out_destination.Pindirs = lit< tt
out_destination_below out_destination.Pc = lit< tt
out_destination_below out_destination.Isr = lit< tt
out_destination_below out_destination.Exec = lit< tt

pub out_destination_back : (x : OutDestination) → out_destination_at (out_destination_number x) ≡ x
out_destination_back out_destination.Pins = refl
out_destination_back out_destination.X = refl
out_destination_back out_destination.Y = refl
out_destination_back out_destination.Null = refl
out_destination_back out_destination.Pindirs = refl
out_destination_back out_destination.Pc = refl
out_destination_back out_destination.Isr = refl
out_destination_back out_destination.Exec = refl

pub mov_destination_below : (x : MovDestination) → mov_destination_number x < 8
mov_destination_below mov_destination.Pins = lit< tt
mov_destination_below mov_destination.X = lit< tt
mov_destination_below mov_destination.Y = lit< tt
mov_destination_below mov_destination.Exec = lit< tt
mov_destination_below mov_destination.Pc = lit< tt
mov_destination_below mov_destination.Isr = lit< tt
mov_destination_below mov_destination.Osr = lit< tt

pub mov_destination_back : (x : MovDestination) → mov_destination_at (mov_destination_number x) ≡ Some x
mov_destination_back mov_destination.Pins = refl
mov_destination_back mov_destination.X = refl
mov_destination_back mov_destination.Y = refl
mov_destination_back mov_destination.Exec = refl
mov_destination_back mov_destination.Pc = refl
mov_destination_back mov_destination.Isr = refl
mov_destination_back mov_destination.Osr = refl

pub mov_operation_below : (x : MovOperation) → mov_operation_number x < 4
mov_operation_below mov_operation.Plain = lit< tt
mov_operation_below mov_operation.Invert = lit< tt
mov_operation_below mov_operation.Reverse = lit< tt

pub mov_operation_back : (x : MovOperation) → mov_operation_at (mov_operation_number x) ≡ Some x
mov_operation_back mov_operation.Plain = refl
mov_operation_back mov_operation.Invert = refl
mov_operation_back mov_operation.Reverse = refl

pub mov_source_below : (x : MovSource) → mov_source_number x < 8
mov_source_below mov_source.Pins = lit< tt
mov_source_below mov_source.X = lit< tt
mov_source_below mov_source.Y = lit< tt
mov_source_below mov_source.Null = lit< tt
mov_source_below mov_source.Status = lit< tt
mov_source_below mov_source.Isr = lit< tt
mov_source_below mov_source.Osr = lit< tt

pub mov_source_back : (x : MovSource) → mov_source_at (mov_source_number x) ≡ Some x
mov_source_back mov_source.Pins = refl
mov_source_back mov_source.X = refl
mov_source_back mov_source.Y = refl
mov_source_back mov_source.Null = refl
mov_source_back mov_source.Status = refl
mov_source_back mov_source.Isr = refl
mov_source_back mov_source.Osr = refl

pub set_destination_below : (x : SetDestination) → set_destination_number x < 8
set_destination_below set_destination.Pins = lit< tt
set_destination_below set_destination.X = lit< tt
set_destination_below set_destination.Y = lit< tt
set_destination_below set_destination.Pindirs = lit< tt
