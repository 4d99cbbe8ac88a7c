-- The edges that a meter keeps of a span.
use Rattle.span_meter.specs.declared.edges.Edges.{Edges}
use Rattle.span_meter.specs.Measured.{SpanEdges}

-- the edges that are kept
abbrev pub ends_of : Edges → SpanEdges
ends_of e = record { from_pin = e.from_pin; from_signal = e.from_signal; from_rise = e.from_rise; to_pin = e.to_pin; to_signal = e.to_signal; to_rise = e.to_rise }
