-- What a meter of either kind says, and its lines.
use Rattle.std.specs.Prelude.{ℕ, List}
use Rattle.pin_matrix.specs.declared.span.Span.{Span}
use Rattle.span_meter.specs.declared.seen.SeenDistances.{SeenDistances}
use Rattle.span_meter.specs.SeenText.{seen_line}
use Rattle.span_meter.specs.Meters.{seen_so_far}
use Rattle.span_meter.specs.SpokenMeters.{spoken_so_far}
use Rattle.stages.specs.Spans.{span_lines}
use Rattle.commands.specs.declared.metered.Metered.{Metered}
use Rattle.commands.specs.declared.metered.Metered.TheVariants.{Plain, Spoken}

-- of each span what it has measured
abbrev pub seen_of_each : Metered → List SeenDistances
seen_of_each (Plain meter) = seen_so_far meter
seen_of_each (Spoken meter) = spoken_so_far meter

-- the line of what each span has measured
abbrev pub seen_lines : List Span → List SeenDistances → List ℕ
seen_lines spans seen = span_lines (λ sp s. seen_line sp.name s) spans seen
