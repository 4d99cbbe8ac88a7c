-- The lines of frames, from the pieces that are put.
use Rattle.std.proofs.Common.{◌≡◌, ◌∙◌, ap, ℕ, List, [], ◌∷◌, ◌++◌, codes, decimal, append_assoc, append-nil}
use Rattle.std.specs.List.{concat}
use Rattle.serial_receiver.specs.declared.frame.Frame.{Frame}
use Rattle.serial_receiver.specs.FrameText.{byte_line, bad_line, hexadecimal}

-- the pieces of the line of a good frame, one after the other
unfoldable pub byte_pieces : (digits start : List ℕ) → List ℕ
byte_pieces digits start = concat (codes "byte 0x" ∷ digits ∷ codes " at " ∷ start ∷ codes "\n" ∷ [])

-- of equal texts they are the same
pub byte_pieces-same : (a b x y : List ℕ) → a ≡ x → b ≡ y → byte_pieces a b ≡ byte_pieces x y
byte_pieces-same a b x y p q = ap (λ i. byte_pieces i b) p ∙ ap (λ i. byte_pieces x i) q

five : (a b c d e : List ℕ) → concat (a ∷ b ∷ c ∷ d ∷ e ∷ []) ≡ a ++ b ++ c ++ d ++ e
five a b c d e = simp (append_assoc, append-nil)

-- they are its line
pub byte_pieces-line : (f : Frame) → byte_pieces (hexadecimal f.byte) (decimal f.start) ≡ byte_line f
unfolding byte_pieces
byte_pieces-line f = five (codes "byte 0x") (hexadecimal f.byte) (codes " at ") (decimal f.start) (codes "\n")

-- the pieces of the line of another one
unfoldable pub bad_pieces : (start : List ℕ) → List ℕ
bad_pieces start = concat (codes "bad at " ∷ start ∷ codes "\n" ∷ [])

three : (a b c : List ℕ) → concat (a ∷ b ∷ c ∷ []) ≡ a ++ b ++ c
three a b c = simp (append_assoc, append-nil)

-- they are its line
pub bad_pieces-line : (f : Frame) → bad_pieces (decimal f.start) ≡ bad_line f
unfolding bad_pieces
bad_pieces-line f = three (codes "bad at ") (decimal f.start) (codes "\n")
