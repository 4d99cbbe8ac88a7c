-- The keys of a table, as its map has them and as its members.
use Rattle.std.proofs.Common.{◌≡◌, ℕ, ◌||◌, Bor, List, [], ◌∷◌, map, string_bytes, refl, ap}
use Rattle.std.specs.List.{list_all, list_any}
use Rattle.std.specs.Map.{keys_of}
use Rattle.std.specs.Str.{bytes_eq}
use Rattle.toml.specs.View.{members_view}
use Rattle.toml.proofs.Views.{Entry}
use Rattle.block_config.specs.Tables.{are_known}

among_seen : (key : List ℕ) (names : List (Bor (List ℕ))) → list_any (λ n. bytes_eq key n.now) names ≡ list_any (bytes_eq key) (map (λ n. n.now) names)
among_seen key [] = refl
among_seen key (n ∷ names) = ap (λ b. bytes_eq key n.now || b) (among_seen key names)

pub known_keys : (names : List (Bor (List ℕ))) (es : List Entry) → list_all (λ k. list_any (λ n. bytes_eq (string_bytes k) n.now) names) (keys_of es) ≡ are_known (map (λ n. n.now) names) (members_view es)
known_keys names [] = refl
known_keys names (e ∷ es) = rw (among_seen (string_bytes e.0) names, known_keys names es) refl
