use Rattle.std.proofs.Common.{◌≡◌, ◌≤◌, drop}
use Rattle.std.specs.Prelude.{option_map}
use Rattle.span_texts.specs.Numbers.{number_from, capped}
use Rattle.span_texts.proofs.number.value_of.Given as goal

-- the digits so far, with those that are left
abbrev pub invariant-loop-byte : goal.invariant-loop-byte
invariant-loop-byte l = record {
  whole : option_map capped (number_from l.value (drop l.byte-index l.digits)) ≡ option_map capped (number_from 0 l.digits);
  most : l.value ≤ 16777217;
}
