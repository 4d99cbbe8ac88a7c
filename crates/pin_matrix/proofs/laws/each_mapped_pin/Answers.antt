-- The pins of a mapping, and the bits that they get.
use Rattle.pin_matrix.proofs.Mapped.{IsWrite-writes_of, bit_at-mapped_pins, bit_at-mapped_bits}
use Rattle.pin_matrix.proofs.laws.each_mapped_pin.Goals as goal

pub returns : goal.returns
returns c = record { write = IsWrite-writes_of; pins = bit_at-mapped_pins; bits = bit_at-mapped_bits }
