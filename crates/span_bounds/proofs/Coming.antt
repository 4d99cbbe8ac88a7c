-- Lists of nexts and of numbers, element by element.
use Rattle.std.proofs.Common.{◌≡◌, ℕ, zero, suc, ◌+◌, ◌<◌, ◌⊎◌, List, [], ◌∷◌, ◌++◌, length, get_or, take, inl, inr, add-one, arith}
use Rattle.std.proofs.lemmas.Bool.{cases_lt}
use Rattle.span_step.specs.declared.stepped.Next.{Next}
use Rattle.span_bounds.specs.Edges.{EachNext, Among}

pub EachNext-at : (P : Next → Type 0) (ns : List Next) (k : ℕ) (d : Next) → EachNext P ns → k < length ns → P (get_or ns k d)
EachNext-at P [] k d h l = absurd (omega arith)
EachNext-at P (n ∷ ns) zero d h l = h.0
EachNext-at P (n ∷ ns) (suc k) d h l = EachNext-at P ns k d h.1 (omega arith)

more : (P : Next → Type 0) (ns : List Next) (k : ℕ) (d : Next) → k < length ns → EachNext P (take k ns) → P (get_or ns k d) → EachNext P (take (suc k) ns)
more P [] k d l h p = absurd (omega arith)
more P (n ∷ ns) zero d l h p = (p, tt)
more P (n ∷ ns) (suc k) d l h p = (h.0, more P ns k d (omega arith) h.1 p)

pub EachNext-more : (P : Next → Type 0) (ns : List Next) (k : ℕ) (d : Next) → k < length ns → EachNext P (take k ns) → P (get_or ns k d) → EachNext P (take (k + 1) ns)
EachNext-more P ns k d l h p = rw add-one (more P ns k d l h p)

pub EachNext-map : (P Q : Next → Type 0) → ((n : Next) → P n → Q n) → (ns : List Next) → EachNext P ns → EachNext Q ns
EachNext-map P Q f [] h = tt
EachNext-map P Q f (n ∷ ns) h = (f n h.0, EachNext-map P Q f ns h.1)

pub EachNext-both : (P Q R : Next → Type 0) → ((n : Next) → P n → Q n → R n) → (ns : List Next) → EachNext P ns → EachNext Q ns → EachNext R ns
EachNext-both P Q R f [] h k = tt
EachNext-both P Q R f (n ∷ ns) h k = (f n h.0 k.0, EachNext-both P Q R f ns h.1 k.1)

pub Among-push : (i j : ℕ) (w : List ℕ) → Among i (j ∷ w) → Among i (w ++ j ∷ [])
Among-push i j [] h = h
Among-push i j (x ∷ w) (inl e) = inr (Among-push i j w (inl e))
Among-push i j (x ∷ w) (inr (inl e)) = inl e
Among-push i j (x ∷ w) (inr (inr h)) = inr (Among-push i j w (inr h))

pub Among-pop : (i j : ℕ) (w : List ℕ) → Among i (w ++ j ∷ []) → Among i (j ∷ w)
Among-pop i j [] h = h
Among-pop i j (x ∷ w) (inl e) = inr (inl e)
Among-pop i j (x ∷ w) (inr h) = elim (Among-pop i j w h) [ inl e ↦ inl e | inr m ↦ inr (inr m) ]

-- below n, or n itself
pub below_or : (i n : ℕ) → i < n + 1 → (i < n) ⊎ (i ≡ n)
below_or i n l = elim (cases_lt i n) [ inl less ↦ inl less | inr more ↦ inr (omega arith) ]
