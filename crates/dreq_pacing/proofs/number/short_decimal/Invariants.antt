use Rattle.std.proofs.Common.{◌≡◌, ◌<◌, ◌^◌, drop}
use Rattle.dreq_pacing.specs.Number.{number_from}
use Rattle.dreq_pacing.proofs.number.short_decimal.Given as goal

-- the digits so far, with those that are left
abbrev pub invariant-loop-byte : goal.invariant-loop-byte
invariant-loop-byte l = record {
  whole : number_from 10 l.number (drop l.byte-index l.digits) ≡ number_from 10 0 l.digits;
  most : l.number < 10 ^ l.byte-index;
}
