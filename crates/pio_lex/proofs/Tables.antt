-- A table whose texts are borrowed, as a table of texts.
use Rattle.std.proofs.Common.{◌≡◌, ℕ, Bool, true, false, cond, List, [], ◌∷◌, map, Some, refl}
use Rattle.std.specs.Prelude.{option_map}
use Rattle.std.specs.List.{find}
use Rattle.std.specs.Str.{bytes_eq}
use Rattle.std.specs.Char.{to_ascii_lowercase}
use Rattle.pio_lex.specs.Words.{row_of}

pub viewed : {X Y : Type 0} (text : X → List ℕ) (value : X → Y) (rows : List X) (word : List ℕ) → row_of text value rows word ≡ row_of (λ (row : List ℕ × Y). row.0) (λ row. row.1) (map (λ row. (text row, value row)) rows) word
unfolding row_of
viewed text value [] word = refl
viewed {Y = Y} text value (x ∷ xs) word = viewed_by (bytes_eq (map to_ascii_lowercase (text x)) (map to_ascii_lowercase word)) (viewed text value xs word) where
  viewed_by : (b : Bool) → row_of text value xs word ≡ row_of (λ (row : List ℕ × Y). row.0) (λ row. row.1) (map (λ row. (text row, value row)) xs) word → option_map value (cond b (Some x) (find (λ row. bytes_eq (map to_ascii_lowercase (text row)) (map to_ascii_lowercase word)) xs)) ≡ option_map (λ (row : List ℕ × Y). row.1) (cond b (Some (text x, value x)) (find (λ (row : List ℕ × Y). bytes_eq (map to_ascii_lowercase row.0) (map to_ascii_lowercase word)) (map (λ row. (text row, value row)) xs)))
  viewed_by true e = refl
  viewed_by false e = e
