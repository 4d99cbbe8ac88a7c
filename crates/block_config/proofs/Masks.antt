-- Lists of pins read one after the other.
use Rattle.std.proofs.Common.{◌≡◌, ℕ, ◌+◌, ◌^◌, ◌<◌, ◌≤◌, bit_or, List, Result, Ok, Err, drop, length, get_or, refl, ◌∙◌}
use Rattle.std.proofs.lemmas.List.{drop_all}
use Rattle.toml.specs.declared.value.Value.{Value}
use Rattle.toml.specs.View.{view, items_view}
use Rattle.toml.proofs.Views.{items_view-drop}
use Rattle.block_config.specs.declared.fault.ConfigKind.{ConfigKind}
use Rattle.block_config.specs.Values.{number_in}
use Rattle.block_config.specs.Pins.{mask_from}

pub mask_more : (vs : List Value) (i : ℕ) (d : Value) (mask after pin : ℕ) (all : Result ℕ ConfigKind)
    → all ≡ mask_from mask (items_view (drop i vs)) → i < length vs → number_in 0 31 (view (get_or vs i d)) ≡ Ok pin → after ≡ bit_or mask (2 ^ pin)
    → all ≡ mask_from after (items_view (drop (i + 1) vs))
unfolding mask_from
mask_more vs i d mask after pin all so_far within found set = so_far ∙ rw (items_view-drop vs i d within, found, set) refl

pub mask_fails : (vs : List Value) (i : ℕ) (d : Value) (mask : ℕ) (kind : ConfigKind) (all : Result ℕ ConfigKind)
    → all ≡ mask_from mask (items_view (drop i vs)) → i < length vs → number_in 0 31 (view (get_or vs i d)) ≡ Err kind → all ≡ Err kind
unfolding mask_from
mask_fails vs i d mask kind all so_far within found = so_far ∙ rw (items_view-drop vs i d within, found) refl

pub mask_ends : (vs : List Value) (i mask : ℕ) (all : Result ℕ ConfigKind)
    → all ≡ mask_from mask (items_view (drop i vs)) → length vs ≤ i → all ≡ Ok mask
unfolding mask_from
mask_ends vs i mask all so_far past = so_far ∙ rw (drop_all i vs past) refl
