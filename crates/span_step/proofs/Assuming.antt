-- Where nothing is assumed of X and Y, each end of a course has one next.
use Rattle.std.proofs.Common.{◌≡◌, true, false, not, ◌&&◌, Option, Some, None, is_some, List, [], ◌∷◌, refl}
use Rattle.std.proofs.lemmas.Bool.{false≢true}
use Rattle.std.specs.List.{list_any}
use Rattle.pin_matrix.specs.declared.assume.Follow.{Follow}
use Rattle.pin_matrix.specs.declared.assume.Range.{Range}
use Rattle.span_step.specs.declared.narrowing.Narrowing.{Narrowing}
use Rattle.span_step.specs.declared.stepped.Next.{Next}
use Rattle.span_step.specs.Narrowing.{is_unmet, is_wide, narrowed, all_narrowed}

one_next : (f : Follow) (x y : Option Range) (n : Next) → (not (is_some x) && not (is_some y)) ≡ true → narrowed (record { follow = f; x = x; y = y }) n ≡ n ∷ []
unfolding narrowed
one_next f None None n h = refl
one_next f None (Some r) n h = absurd (false≢true h)
one_next f (Some r) y n h = absurd (false≢true h)

-- each end has itself as its next
pub wide_narrowed : (w : Narrowing) (n : Next) → is_wide w ≡ true → narrowed w n ≡ n ∷ []
wide_narrowed w n h = one_next w.follow w.x w.y n h

pub wide_all : (w : Narrowing) (ends : List Next) → is_wide w ≡ true → all_narrowed w ends ≡ ends
wide_all w [] h = refl
wide_all w (n ∷ ends) h = rw (wide_narrowed w n h, wide_all w ends h) refl

-- so none is unmet
pub wide_met : (w : Narrowing) (ends : List Next) → is_wide w ≡ true → list_any (λ n. is_unmet w n) ends ≡ false
wide_met w [] h = refl
wide_met w (n ∷ ends) h = rw (wide_narrowed w n h) (wide_met w ends h)
