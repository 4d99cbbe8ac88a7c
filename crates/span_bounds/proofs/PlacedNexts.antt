-- What can come next after a row in range is in range.
use Rattle.std.proofs.Common.{◌≡◌, ℕ, zero, suc, ◌<◌, true, List, [], ◌∷◌, length, get_or, subst, sym, arith}
use Rattle.pin_matrix.specs.Followed.{followed}
use Rattle.pin_matrix.specs.declared.assume.Follow.{Follow}
use Rattle.pin_matrix.specs.declared.setup.Setup.{Setup}
use Rattle.pin_matrix.specs.declared.span.Span.{Span}
use Rattle.span_step.specs.declared.ages.Ages.{Ages}
use Rattle.span_step.specs.declared.stepped.Next.{Next}
use Rattle.span_step.specs.Contexts.{is_placed}
use Rattle.span_step.specs.Laws.{AllPlaced}
use Rattle.span_step.proofs.Placed.{AllPlaced-context_steps}
use Rattle.span_bounds.specs.Numbers.{context_at, contexts_of}
use Rattle.span_bounds.specs.Edges.{nexts_at, spot}
use Rattle.span_bounds.proofs.Placing.{address_below, number_below}

placed_at : (d : Follow) (ns : List Next) (k : ℕ) (e : Next) → AllPlaced d ns → k < length ns → is_placed d (get_or ns k e).context.address (get_or ns k e).context.x (get_or ns k e).context.y ≡ true
placed_at d [] k e h l = absurd (omega arith)
placed_at d (n ∷ ns) zero e h l = h.0
placed_at d (n ∷ ns) (suc k) e h l = placed_at d ns k e h.1 (omega arith)

pub placed_nexts : (u : Setup) (sp : Span) (i : ℕ) (a : Ages) → i < contexts_of sp → AllPlaced (followed sp) (nexts_at u sp i a)
unfolding nexts_at context_at
placed_nexts u sp i a l = AllPlaced-context_steps u sp (context_at (followed sp) i) a (address_below (followed sp) i l)

-- as the code has it
pub placed_item : (u : Setup) (sp : Span) (i : ℕ) (a : Ages) (items : List Next) (k : ℕ) (n : Next) → i < contexts_of sp → items ≡ nexts_at u sp i a → k < length items → n ≡ get_or items k n → is_placed (followed sp) n.context.address n.context.x n.context.y ≡ true
placed_item u sp i a items k n l e m q =
    subst (λ y. is_placed (followed sp) y.context.address y.context.x y.context.y ≡ true) (sym q) (placed_at (followed sp) items k n (subst (AllPlaced (followed sp)) (sym e) (placed_nexts u sp i a l)) m)

pub spot_below : (u : Setup) (sp : Span) (i : ℕ) (a : Ages) (items : List Next) (k : ℕ) (n : Next) → i < contexts_of sp → items ≡ nexts_at u sp i a → k < length items → n ≡ get_or items k n → spot (followed sp) n < contexts_of sp
spot_below u sp i a items k n l e m q = number_below (followed sp) n.context (placed_item u sp i a items k n l e m q)
