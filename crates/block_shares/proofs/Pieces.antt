-- The line of a share, from the pieces that are put.
use Rattle.std.proofs.Common.{◌≡◌, ℕ, List, [], ◌∷◌, ◌++◌, codes, decimal, append_assoc, append-nil}
use Rattle.std.specs.List.{concat}
use Rattle.block_shares.specs.Report.{digit_at, share_line}

-- the pieces, one after the other
unfoldable pub joined : (m k a b c d e f g h y z : List ℕ) → List ℕ
joined m k a b c d e f g h y z =
    concat (codes "machine " ∷ m ∷ codes " from " ∷ k ∷ codes " pins 0x" ∷ a ∷ b ∷ c ∷ d ∷ e ∷ f ∷ g ∷ h ∷ codes " flags 0x" ∷ y ∷ z ∷ codes "\n" ∷ [])

-- seventeen texts in a row, eight and two of them taken together
regrouped : (s t u v w a b c d e f g h x y z n : List ℕ)
    → concat (s ∷ t ∷ u ∷ v ∷ w ∷ a ∷ b ∷ c ∷ d ∷ e ∷ f ∷ g ∷ h ∷ x ∷ y ∷ z ∷ n ∷ [])
    ≡ s ++ t ++ u ++ v ++ w ++ (a ++ b ++ c ++ d ++ e ++ f ++ g ++ h) ++ x ++ (y ++ z) ++ n
regrouped s t u v w a b c d e f g h x y z n = simp (append_assoc, append-nil)

-- they are its line
pub joined-line : (m k : ℕ) (felt : ℕ × ℕ) → joined (decimal m) (decimal k) (digit_at felt.0 28) (digit_at felt.0 24) (digit_at felt.0 20) (digit_at felt.0 16) (digit_at felt.0 12) (digit_at felt.0 8) (digit_at felt.0 4) (digit_at felt.0 0) (digit_at felt.1 4) (digit_at felt.1 0) ≡ share_line m k felt
unfolding joined
joined-line m k felt =
    regrouped (codes "machine ") (decimal m) (codes " from ") (decimal k) (codes " pins 0x") (digit_at felt.0 28) (digit_at felt.0 24) (digit_at felt.0 20) (digit_at felt.0 16) (digit_at felt.0 12) (digit_at felt.0 8) (digit_at felt.0 4) (digit_at felt.0 0) (codes " flags 0x") (digit_at felt.1 4) (digit_at felt.1 0) (codes "\n")
