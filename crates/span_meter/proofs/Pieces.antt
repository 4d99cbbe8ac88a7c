-- The lines of what was measured, from the pieces that are put.
use Rattle.std.proofs.Common.{◌≡◌, ◌∙◌, ap, ℕ, List, [], ◌∷◌, ◌++◌, Some, codes, decimal, append_assoc, append-nil}
use Rattle.std.specs.List.{concat}
use Rattle.span_meter.specs.declared.seen.SeenDistances.{SeenDistances}
use Rattle.span_meter.specs.SeenText.{end_text, pairs_text}

-- the pieces of the front of a span with pairs, one after the other
unfoldable pub pieces : (name pairs least most : List ℕ) → List ℕ
pieces name pairs least most =
    concat (codes "span " ∷ name ∷ codes " seen " ∷ pairs ∷ codes " least " ∷ least ∷ codes " most " ∷ most ∷ [])

-- of equal texts they are the same
pub pieces-same : (name a b c x y z : List ℕ) → a ≡ x → b ≡ y → c ≡ z → pieces name a b c ≡ pieces name x y z
pieces-same name a b c x y z p q r = ap (λ i. pieces name i b c) p ∙ ap (λ i. pieces name x i c) q ∙ ap (λ i. pieces name x y i) r

-- eight texts in a row
eight : (a b c d e f g h : List ℕ) → concat (a ∷ b ∷ c ∷ d ∷ e ∷ f ∷ g ∷ h ∷ []) ≡ a ++ b ++ c ++ d ++ e ++ f ++ g ++ h
eight a b c d e f g h = simp (append_assoc, append-nil)

-- they are its front
pub pieces-front : (name : List ℕ) (s : SeenDistances) → pieces name (decimal s.pairs) (decimal s.least) (decimal s.most) ≡ pairs_text name s
unfolding pieces
pieces-front name s = eight (codes "span ") name (codes " seen ") (decimal s.pairs) (codes " least ") (decimal s.least) (codes " most ") (decimal s.most)

-- the pieces of the end of the line
unfoldable pub end_pieces : (clock : List ℕ) → List ℕ
end_pieces clock = concat (codes " assumed up to " ∷ clock ∷ codes "\n" ∷ [])

three : (a b c : List ℕ) → concat (a ∷ b ∷ c ∷ []) ≡ a ++ b ++ c
three a b c = simp (append_assoc, append-nil)

pub pieces-end : (text : List ℕ) (clock : ℕ) → text ≡ decimal clock → end_pieces text ≡ end_text (Some clock)
unfolding end_pieces
pieces-end text clock e = ap (λ t. concat (codes " assumed up to " ∷ t ∷ codes "\n" ∷ [])) e ∙ three (codes " assumed up to ") (decimal clock) (codes "\n")
