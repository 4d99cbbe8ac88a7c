-- Elements of an array read one after the other.
use Rattle.std.proofs.Common.{◌≡◌, ℕ, ◌+◌, ◌<◌, ◌≤◌, ◌&&◌, suc, Bool, List, [], ◌∷◌, ◌++◌, Result, Ok, Err, map, drop, length, get_or, refl, ap, ◌∙◌}
use Rattle.std.specs.List.{list_all}
use Rattle.std.proofs.lemmas.List.{drop_all, map-append}
use Rattle.toml.specs.declared.value.Value.{Value}
use Rattle.toml.specs.Data.{Data}
use Rattle.toml.specs.View.{view, items_view}
use Rattle.toml.proofs.Views.{items_view-drop}
use Rattle.block_config.specs.Arrays.{count_items, all_items, gather}

-- one element further on
pub gather_more : {V X E : Type 0} (says : V → X) (read : ℕ → List X → Data → Result X E) (vs : List Value) (i : ℕ) (d : Value) (front after : List V) (x : V) (all : Result (List X) E)
    → all ≡ gather read i (map says front) (items_view (drop i vs)) → i < length vs → read i (map says front) (view (get_or vs i d)) ≡ Ok (says x) → after ≡ front ++ x ∷ []
    → all ≡ gather read (i + 1) (map says after) (items_view (drop (i + 1) vs))
unfolding gather
gather_more says read vs i d front after x all so_far within found more =
    so_far ∙ rw (items_view-drop vs i d within, found, more, map-append says front (x ∷ [])) refl

-- an element that is at fault
pub gather_fails : {V X E : Type 0} (says : V → X) (read : ℕ → List X → Data → Result X E) (vs : List Value) (i : ℕ) (d : Value) (front : List V) (e : E) (all : Result (List X) E)
    → all ≡ gather read i (map says front) (items_view (drop i vs)) → i < length vs → read i (map says front) (view (get_or vs i d)) ≡ Err e → all ≡ Err e
unfolding gather
gather_fails says read vs i d front e all so_far within found = so_far ∙ rw (items_view-drop vs i d within, found) refl

-- no element is left
pub gather_ends : {V X E : Type 0} (says : V → X) (read : ℕ → List X → Data → Result X E) (vs : List Value) (i : ℕ) (front : List V) (all : Result (List X) E)
    → all ≡ gather read i (map says front) (items_view (drop i vs)) → length vs ≤ i → all ≡ Ok (map says front)
unfolding gather
gather_ends says read vs i front all so_far past = so_far ∙ rw (drop_all i vs past) refl

-- how many elements the code's array has
pub count_seen : (vs : List Value) → count_items (items_view vs) ≡ length vs
count_seen [] = refl
count_seen (v ∷ vs) = ap suc (count_seen vs)

-- a test of each element
pub all_seen : (test : Data → Bool) (vs : List Value) → list_all (λ v. test (view v)) vs ≡ all_items test (items_view vs)
all_seen test [] = refl
all_seen test (v ∷ vs) = ap (λ b. test (view v) && b) (all_seen test vs)
