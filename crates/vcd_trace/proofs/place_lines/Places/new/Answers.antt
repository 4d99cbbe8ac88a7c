use Rattle.std.proofs.lemmas.List.Elements.{All-replicate}
use Rattle.vcd_trace.specs.PlaceText.{IsPlace}
use Rattle.vcd_trace.proofs.place_lines.Places.new.Goals as goal

pub invariant_of-result : goal.invariant_of-result
invariant_of-result c = All-replicate IsPlace 128 c.new.result c.new.ensures.own
