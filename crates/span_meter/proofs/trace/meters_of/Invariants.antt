use Rattle.std.proofs.Common.{◌≡◌, map, take}
use Rattle.span_meter.specs.declared.meter.Meter.{Meter}
use Rattle.span_meter.specs.Measured.{ends_in}
use Rattle.span_meter.specs.Meters.{fresh, watched}
use Rattle.span_meter.proofs.trace.meters_of.Given as goal

-- there is a fresh meter for each span before this one
abbrev pub invariant-loop-span : goal.invariant-loop-span
invariant-loop-span l = record {
  fresh : l.meters.items ≡ map (λ (m : Meter). fresh m.edges) l.meters.items;
  watches : watched l.meters.items ≡ map ends_in (take l.span-index l.spans);
}
