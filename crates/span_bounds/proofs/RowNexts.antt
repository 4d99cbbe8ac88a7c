-- The nexts of a row, one after another: the ends themselves where nothing is assumed, else those of an iterator.
use Rattle.std.proofs.Common.{◌≡◌, ℕ, ◌+◌, ◌<◌, true, List, [], ◌∷◌, length, get_or, take, drop, sym, ap, ◌∙◌, arith}
use Rattle.std.proofs.lemmas.List.{drop_more, length-drop, take_all}
use Rattle.pin_matrix.specs.Followed.{followed}
use Rattle.pin_matrix.specs.declared.setup.Setup.{Setup}
use Rattle.pin_matrix.specs.declared.span.Span.{Span}
use Rattle.span_step.specs.declared.ages.Ages.{Ages}
use Rattle.span_step.specs.declared.stepped.Next.{Next}
use Rattle.span_step.specs.declared.stepped.Stepped.{Stepped}
use Rattle.span_step.specs.Narrowing.{is_wide, nexts_of}
use Rattle.span_step.specs.Steps.{context_steps}
use Rattle.span_step.proofs.Assuming.{wide_all}
use Rattle.span_bounds.specs.Numbers.{context_at}
use Rattle.span_bounds.specs.Edges.{nexts_at}

-- where nothing is assumed they are the ends
pub wide_items : (u : Setup) (sp : Span) (i : ℕ) (a : Ages) (s : Stepped) (items : List Next) → s ≡ context_steps u sp (context_at (followed sp) i) a → is_wide s.narrowing ≡ true → items ≡ s.ends → items ≡ nexts_at u sp i a
unfolding nexts_at nexts_of
wide_items u sp i a s items e w q = q ∙ sym (wide_all s.narrowing s.ends w) ∙ ap nexts_of e

-- an iterator begins with all of them
pub all_left : (u : Setup) (sp : Span) (i : ℕ) (a : Ages) (s : Stepped) (rest : List Next) → s ≡ context_steps u sp (context_at (followed sp) i) a → rest ≡ nexts_of s → rest ≡ drop 0 (nexts_at u sp i a)
unfolding nexts_at
all_left u sp i a s rest e q = q ∙ ap nexts_of e

-- a next is the one at a place, and others are left after it
pub record ComesNext (items : List Next) (k : ℕ) (n : Next) (rest : List Next) : Type 0 where
  pub below : k < length items
  pub here : n ≡ get_or items k n
  pub after : rest ≡ drop (k + 1) items

pub comes_next : (items : List Next) (k : ℕ) (n : Next) (rest new : List Next) → rest ≡ drop k items → rest ≡ n ∷ new → ComesNext items k n new
comes_next items k n rest new e q = record { below = below; here = here (sym q ∙ e ∙ drop_more items k n below); after = after (sym q ∙ e ∙ drop_more items k n below) } where
  below : k < length items
  below = let l = length-drop k items in let m = ap length e in let o = ap length q in omega (arith, l, m, o)

  here : n ∷ new ≡ get_or items k n ∷ drop (k + 1) items → n ≡ get_or items k n
  here h = cc

  after : n ∷ new ≡ get_or items k n ∷ drop (k + 1) items → new ≡ drop (k + 1) items
  after h = cc

-- where none is left all are done
pub none_left : (items : List Next) (k : ℕ) (rest : List Next) → rest ≡ drop k items → rest ≡ [] → take k items ≡ items
none_left items k rest e q =
    let l = length-drop k items in
    let m = ap length e in
    let o = ap length q in
    take_all k items (omega (arith, l, m, o))
