-- What the code's parts of a span's table say.
use Rattle.block_config.specs.declared.spans.EndValues.{EndValues}
use Rattle.block_config.specs.declared.spans.BoundValues.{BoundValues}
use Rattle.block_config.specs.declared.keys.EventKeys.{EventKeys}
use Rattle.block_config.specs.declared.spans.ExemptValues.{ExemptValues}
use Rattle.block_config.specs.declared.spans.EventValues.{EventValues}
use Rattle.block_config.specs.declared.spans.SpanValues.{SpanValues as Code}
use Rattle.block_config.specs.Spans.{EventNames, SpanEnds, Bounds, Exempt, Events, SpanValues}

-- the keys of an event
abbrev pub event_names : EventKeys → EventNames
event_names k = record { pin = k.pin.now; edge = k.edge.now; at = k.at.now; done = k.done.now }

-- the machine, the pins and the edges
abbrev pub ends_view : EndValues → SpanEnds
ends_view e = record { machine = e.machine; from_pin = e.from_pin; to_pin = e.to_pin; from_edge = e.from_edge; to_edge = e.to_edge }

-- the unit and the bounds
abbrev pub bounds_view : BoundValues → Bounds
bounds_view b = record { unit = b.unit; least = b.min; most = b.max }

-- what is exempt
abbrev pub exempt_view : ExemptValues → Exempt
exempt_view e = record { stalls = e.stalls.items; prompt = e.prompt; without = e.without.items }

-- the instructions of both events
abbrev pub events_view : EventValues → Events
events_view e = record { from_at = e.from_at.items; to_at = e.to_at.items }

-- all after the name
abbrev pub values_view : Code → SpanValues
values_view v = record { ends = ends_view v.ends; bounds = bounds_view v.bounds; exempt = exempt_view v.exempt; events = events_view v.events }
