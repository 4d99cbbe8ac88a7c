use Rattle.std.proofs.Common.{rules, ◌≡◌, ℕ, List, [], ◌∷◌, ◌++◌, length, slice_index_or, ap, ◌∙◌, refl, arith}
use Rattle.vcd_trace.proofs.variable.vectors_of.Goals as goal

-- the four elements of a list
abbrev elements : List ℕ → List ℕ
elements l = slice_index_or l 0 0 ∷ slice_index_or l 1 0 ∷ slice_index_or l 2 0 ∷ slice_index_or l 3 0 ∷ []

four : (l : List ℕ) → length l ≡ 4 → elements l ≡ l
four [] h = absurd (omega arith)
four (a ∷ []) h = absurd (omega arith)
four (a ∷ b ∷ []) h = absurd (omega arith)
four (a ∷ b ∷ c ∷ []) h = absurd (omega arith)
four (a ∷ b ∷ c ∷ d ∷ []) h = refl
four (a ∷ b ∷ c ∷ d ∷ e ∷ l) h = absurd (omega arith)

sixteen : (a b d e : List ℕ) → length a ≡ 4 → length b ≡ 4 → length d ≡ 4 → length e ≡ 4 → elements a ++ elements b ++ elements d ++ elements e ≡ a ++ b ++ d ++ e
sixteen a b d e h i j k =
    ap (λ x. elements a ++ elements b ++ elements d ++ x) (four e k) ∙ ap (λ x. elements a ++ elements b ++ x ++ e) (four d j)
    ∙ ap (λ x. elements a ++ x ++ d ++ e) (four b i) ∙ ap (λ x. x ++ b ++ d ++ e) (four a h)

pub returns-clause-values : goal.returns-clause-values
returns-clause-values c =
    let s = c.args.sample.now in
    let tx : length s.tx ≡ 4 = search (rules, c.type_inv.sample) in
    let rx : length s.rx ≡ 4 = search (rules, c.type_inv.sample) in
    let got : length s.got ≡ 4 = search (rules, c.type_inv.sample) in
    let sticky : length s.sticky ≡ 4 = search (rules, c.type_inv.sample) in
    let all = sixteen s.tx s.rx s.got s.sticky tx rx got sticky in
    cc
