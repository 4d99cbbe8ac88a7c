-- The line of a program, from the pieces that are put.
use Rattle.std.proofs.Common.{◌≡◌, ℕ, List, [], ◌∷◌, ◌++◌, codes, decimal, append_assoc, append-nil}
use Rattle.std.specs.List.{concat}
use Rattle.pio_assemble.specs.Program.{Assembled}
use Rattle.program_listing.specs.Listing.{origin_text, opt_text, pindirs_text, program_line}

-- the pieces one after the other
unfoldable pub joined : (name origin bits opt pindirs bottom top : List ℕ) → List ℕ
joined name origin bits opt pindirs bottom top =
    concat (codes "program " ∷ name ∷ codes " origin " ∷ origin ∷ codes " side " ∷ bits ∷ opt ∷ pindirs ∷ codes " wrap " ∷ bottom ∷ codes " " ∷ top ∷ codes "\n" ∷ [])

-- thirteen texts in a row, three of them taken together
regrouped : (a b c d e f g h i j k l m : List ℕ) → concat (a ∷ b ∷ c ∷ d ∷ e ∷ f ∷ g ∷ h ∷ i ∷ j ∷ k ∷ l ∷ m ∷ []) ≡ a ++ b ++ c ++ d ++ e ++ (f ++ g ++ h) ++ i ++ j ++ k ++ l ++ m
regrouped a b c d e f g h i j k l m = simp (append_assoc, append-nil)

-- those of a program are its line
pub joined-line : (p : Assembled) → joined p.name (origin_text p.origin) (decimal p.side.bits) (opt_text p.side.opt) (pindirs_text p.side.pindirs) (decimal p.wrap_bottom) (decimal p.wrap_top) ≡ program_line p
unfolding joined program_line
joined-line p =
    regrouped (codes "program ") p.name (codes " origin ") (origin_text p.origin) (codes " side ") (decimal p.side.bits) (opt_text p.side.opt) (pindirs_text p.side.pindirs) (codes " wrap ") (decimal p.wrap_bottom) (codes " ") (decimal p.wrap_top) (codes "\n")
