-- Rows of spans between edges of any instruction.
use Rattle.std.proofs.Common.{◌≡◌, Some, None, IsSome, [], ◌∷◌, refl}
use Rattle.pin_matrix.specs.declared.span.PinSignal.{PinSignal}
use Rattle.pin_matrix.specs.declared.span.PinSignal.TheVariants.{Level, Direction}
use Rattle.pin_matrix.specs.declared.span.Span.{Span}
use Rattle.span_check.specs.Asked.{IsOfEdges}

-- an edge of a level and one of a direction, which any instruction may make
of_edges : (sp : Span) → IsOfEdges (record sp { from_signal = Some Level; to_signal = Some Direction; from_at = []; to_at = [] })
of_edges sp = record { from = refl; to = refl; from_any = refl; to_any = refl }

-- not where an instruction is named that alone makes the to-edge
of_one : (sp : Span) → IsOfEdges (record sp { to_at = 3 ∷ [] }) → ⊥
of_one sp e = let h : 3 ∷ [] ≡ [] = e.to_any in cc

-- nor where the from-event is the end of an instruction
of_an_end : (sp : Span) → IsOfEdges (record sp { from_signal = None }) → ⊥
of_an_end sp e = let h : IsSome {T = PinSignal} None = e.from in cc
