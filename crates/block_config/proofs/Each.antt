-- Values of keys read one after the other.
use Rattle.std.proofs.Common.{◌≡◌, ℕ, ◌+◌, ◌<◌, ◌≤◌, List, [], ◌∷◌, ◌++◌, Result, Ok, Err, map, drop, length, get_or, append_assoc, refl, ap, sym, ◌∙◌}
use Rattle.std.proofs.lemmas.List.{drop_more, drop_all, append-nil}
use Rattle.block_config.specs.Answer.{ConfigRefusal}
use Rattle.block_config.specs.Tables.{and_then, each_at, seen, refusal_of}
use Rattle.block_config.specs.declared.table.Lack.{Lack}

-- the values so far, and those that are left to read
abbrev pub before : {V : Type 0} → List V → Result (List V) ConfigRefusal → Result (List V) ConfigRefusal
before front r = and_then r (λ rest. Ok (front ++ rest))

pub before-nothing : {V : Type 0} (r : Result (List V) ConfigRefusal) → r ≡ before [] r
before-nothing (Ok vs) = refl
before-nothing (Err e) = refl

before_each : {V : Type 0} (front : List V) (v : V) (r : Result (List V) ConfigRefusal) → before front (and_then r (λ vs. Ok (v ∷ vs))) ≡ before (front ++ v ∷ []) r
before_each front v (Ok vs) = ap Ok (sym (append_assoc front (v ∷ []) vs))
before_each front v (Err e) = refl

-- one key further on
pub each_more : {X K V : Type 0} (says : X → K) (read : K → Result V ConfigRefusal) (xs : List X) (i : ℕ) (x d : X) (v : V) (front : List V) (all : Result (List V) ConfigRefusal)
    → all ≡ before front (each_at read (map says (drop i xs))) → i < length xs → x ≡ get_or xs i d → read (says x) ≡ Ok v
    → all ≡ before (front ++ v ∷ []) (each_at read (map says (drop (i + 1) xs)))
unfolding each_at
each_more says read xs i x d v front all so_far within is found =
    so_far ∙ rw (drop_more xs i d within, ← is, found) (before_each front v (each_at read (map says (drop (i + 1) xs))))

-- a key that is at fault
pub each_fails : {X K V : Type 0} (says : X → K) (read : K → Result V ConfigRefusal) (xs : List X) (i : ℕ) (x d : X) (e : ConfigRefusal) (front : List V) (all : Result (List V) ConfigRefusal)
    → all ≡ before front (each_at read (map says (drop i xs))) → i < length xs → x ≡ get_or xs i d → read (says x) ≡ Err e
    → all ≡ Err e
unfolding each_at
each_fails says read xs i x d e front all so_far within is found = so_far ∙ rw (drop_more xs i d within, ← is, found) refl

-- no key is left
pub each_ends : {X K V : Type 0} (says : X → K) (read : K → Result V ConfigRefusal) (xs : List X) (i : ℕ) (front : List V) (all : Result (List V) ConfigRefusal)
    → all ≡ before front (each_at read (map says (drop i xs))) → length xs ≤ i → all ≡ Ok front
unfolding each_at
each_ends says read xs i front all so_far past = so_far ∙ rw (drop_all i xs past) (ap Ok (append-nil front))

-- what a reading gives, of what the code gives
pub seen_ok : {X Y : Type 0} (f : X → Y) (r : Result X Lack) (x : X) → r ≡ Ok x → seen f r ≡ Ok (f x)
seen_ok f r x e = rw e refl

pub seen_err : {X Y : Type 0} (f : X → Y) (r : Result X Lack) (l : Lack) → r ≡ Err l → seen f r ≡ Err (refusal_of l)
seen_err f r l e = rw e refl
