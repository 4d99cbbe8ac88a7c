-- The text of a summary, from the pieces that are put.
use Rattle.std.proofs.Common.{◌≡◌, ◌∙◌, ℕ, List, [], ◌∷◌, ◌++◌, codes, decimal, append_assoc, append-nil, ap}
use Rattle.std.specs.List.{concat}
use Rattle.drawn_load.specs.declared.summary.Summary.{Summary}
use Rattle.drawn_load.specs.Summaries.{summary_text}

-- the pieces, one after the other
unfoldable pub pieces : (clocks a b c sent got : List ℕ) → List ℕ
pieces clocks a b c sent got =
    concat (codes "clocks " ∷ clocks ∷ codes "\nedges 0 " ∷ a ∷ codes "\nedges 1 " ∷ b ∷ codes "\nedges 3 " ∷ c ∷ codes "\nsent " ∷ sent ∷ codes "\ngot " ∷ got ∷ codes "\n" ∷ [])

-- of equal texts they are the same
pub pieces-same : (a b c d e f u v w x y z : List ℕ)
    → a ≡ u → b ≡ v → c ≡ w → d ≡ x → e ≡ y → f ≡ z → pieces a b c d e f ≡ pieces u v w x y z
pieces-same a b c d e f u v w x y z p q r s t o =
    ap (λ i. pieces i b c d e f) p ∙ ap (λ i. pieces u i c d e f) q
    ∙ ap (λ i. pieces u v i d e f) r ∙ ap (λ i. pieces u v w i e f) s
    ∙ ap (λ i. pieces u v w x i f) t ∙ ap (λ i. pieces u v w x y i) o

-- names and numbers in turn, with an end before each name but the first
turns : (a b c d e f m n o p q r end : List ℕ)
    → concat (a ∷ m ∷ (end ++ b) ∷ n ∷ (end ++ c) ∷ o ∷ (end ++ d) ∷ p ∷ (end ++ e) ∷ q ∷ (end ++ f) ∷ r ∷ end ∷ [])
    ≡ (a ++ m ++ end) ++ (b ++ n ++ end) ++ (c ++ o ++ end) ++ (d ++ p ++ end) ++ (e ++ q ++ end) ++ (f ++ r ++ end)
turns a b c d e f m n o p q r end = simp (append_assoc, append-nil)

-- they are the text
pub pieces-text : (s : Summary)
    → pieces (decimal s.clocks) (decimal s.edges_0) (decimal s.edges_1) (decimal s.edges_3) (decimal s.sent) (decimal s.got) ≡ summary_text s
unfolding pieces summary_text
pieces-text s =
    turns (codes "clocks ") (codes "edges 0 ") (codes "edges 1 ") (codes "edges 3 ") (codes "sent ") (codes "got ")
    (decimal s.clocks) (decimal s.edges_0) (decimal s.edges_1) (decimal s.edges_3) (decimal s.sent) (decimal s.got) (codes "\n")
