-- The line that tells something of a span at a context, from the pieces that are put.
use Rattle.std.proofs.Common.{◌≡◌, ℕ, List, [], ◌∷◌, ◌++◌, codes, decimal, append_assoc, append-nil}
use Rattle.std.specs.List.{concat}
use Rattle.span_texts.specs.Words.{told_line}

-- its pieces, one after the other
unfoldable pub pieces : (front name told address x y levels ending : List ℕ) → List ℕ
pieces front name told address x y levels ending =
    concat (front ∷ codes "span " ∷ name ∷ told ∷ address ∷ codes " x " ∷ x ∷ codes " y " ∷ y ∷ levels ∷ ending ∷ codes "\n" ∷ [])

-- twelve texts in a row
twelve : (a b c d e f g h i j k l : List ℕ)
    → concat (a ∷ b ∷ c ∷ d ∷ e ∷ f ∷ g ∷ h ∷ i ∷ j ∷ k ∷ l ∷ []) ≡ a ++ b ++ c ++ d ++ e ++ f ++ g ++ h ++ i ++ j ++ k ++ l
twelve a b c d e f g h i j k l = simp (append_assoc, append-nil)

-- they are its line
pub pieces-line : (front name told : List ℕ) (address : ℕ) (x y levels ending : List ℕ)
    → pieces front name told (decimal address) x y levels ending ≡ told_line front name told address x y levels ending
unfolding pieces
pieces-line front name told address x y levels ending =
    twelve front (codes "span ") name told (decimal address) (codes " x ") x (codes " y ") y levels ending (codes "\n")
