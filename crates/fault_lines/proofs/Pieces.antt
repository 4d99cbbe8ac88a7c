-- The line of a number out of its range, from the pieces that are put.
use Rattle.std.proofs.Common.{◌≡◌, ◌∙◌, ap, ℕ, ℤ, List, [], ◌∷◌, ◌++◌, codes, decimal, append_assoc, append-nil}
use Rattle.std.specs.Fmt.{signed_decimal}
use Rattle.std.specs.List.{concat}
use Rattle.pio_assemble.specs.declared.quantity.Quantity.{Quantity}
use Rattle.pio_assemble.specs.Fault.{quantity_text}
use Rattle.fault_lines.specs.Told.{source_fault}

-- the pieces one after the other
unfoldable pub joined : (number code what digits : List ℕ) → List ℕ
joined number code what digits =
    concat (codes "piotool: source line " ∷ number ∷ codes ": " ∷ code ∷ codes " " ∷ what ∷ codes " " ∷ digits ∷ codes "\n" ∷ [])

-- of equal texts it is the same
pub joined-same : (a b c d w x y z : List ℕ) → a ≡ w → b ≡ x → c ≡ y → d ≡ z → joined a b c d ≡ joined w x y z
joined-same a b c d w x y z e f g h = ap (λ t. joined t b c d) e ∙ ap (λ t. joined w t c d) f ∙ ap (λ t. joined w x t d) g ∙ ap (λ t. joined w x y t) h

-- nine texts in a row, five of them taken together
regrouped : (a b c d e f g h i : List ℕ) → concat (a ∷ b ∷ c ∷ d ∷ e ∷ f ∷ g ∷ h ∷ i ∷ []) ≡ a ++ b ++ c ++ (d ++ e ++ f ++ g ++ h) ++ i
regrouped a b c d e f g h i = simp (append_assoc, append-nil)

-- those of a number out of its range are its line
pub joined-line : (line : ℕ) (code : List ℕ) (what : Quantity) (value : ℤ) → joined (decimal line) code (quantity_text what) (signed_decimal value) ≡ source_fault line (code ++ codes " " ++ quantity_text what ++ codes " " ++ signed_decimal value)
unfolding joined
joined-line line code what value =
    regrouped (codes "piotool: source line ") (decimal line) (codes ": ") code (codes " ") (quantity_text what) (codes " ") (signed_decimal value) (codes "\n")
