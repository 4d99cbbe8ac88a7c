-- How a loop finds the end of a comment and of a foreign block.
use Rattle.std.proofs.Common.{◌≡◌, ℕ, ◌+◌, ◌<◌, ◌≤◌, Bool, true, false, cond, ◌&&◌, List, ◌∷◌, length, get_or, drop, Option, Some, None, refl, sym, ap, ◌∙◌, arith}
use Rattle.std.specs.Prelude.{option_map, codes}
use Rattle.std.proofs.lemmas.List.{at_drop_more, at_drop_all}
use Rattle.pio_lex.specs.Bytes.{is_newline, line_length, begins_with}
use Rattle.pio_lex.specs.Gaps.{through_close, comment_length, closes_block, block_length}

-- a length counted from k bytes before
abbrev pub shifted : ℕ → Option ℕ → Option ℕ
shifted k o = option_map (λ n. n + k) o

shifted_none : (o : Option ℕ) → shifted 0 o ≡ o
shifted_none None = refl
shifted_none (Some n) = ap (λ (k : ℕ). Some k) (omega arith)

shifted_more : (k : ℕ) (o : Option ℕ) → shifted (k + 1) o ≡ shifted k (shifted 1 o)
shifted_more k None = refl
shifted_more k (Some n) = ap (λ (k : ℕ). Some k) (omega arith)

close_cons : (b : ℕ) (bs : List ℕ) → through_close (b ∷ bs) ≡ cond (begins_with (codes "*/") (b ∷ bs)) (Some 2) (shifted 1 (through_close bs))
unfolding through_close
close_cons b bs = refl

-- what the loop over a comment keeps
abbrev pub Closing : List ℕ → ℕ → Type 0
Closing text i = shifted i (through_close (drop i text)) ≡ comment_length text

pub closing_none : (text : List ℕ) → Closing text 2
unfolding comment_length
closing_none text = refl

at_close : (text : List ℕ) (i : ℕ) → i < length text → through_close (drop i text) ≡ cond (begins_with (codes "*/") (drop i text)) (Some 2) (shifted 1 (through_close (drop (i + 1) text)))
at_close text i lt =
    let c = close_cons (get_or text i 0) (drop (i + 1) text) in
    at_drop_more through_close text i 0 lt ∙ c
    ∙ sym (at_drop_more (λ (xs : List ℕ). cond (begins_with (codes "*/") xs) (Some 2) (shifted 1 (through_close (drop (i + 1) text)))) text i 0 lt)

pub closing_more : (text : List ℕ) (i : ℕ) → i < length text → begins_with (codes "*/") (drop i text) ≡ false → Closing text i → Closing text (i + 1)
closing_more text i lt fails h =
    let e = at_close text i lt in
    let f : through_close (drop i text) ≡ shifted 1 (through_close (drop (i + 1) text)) = e ∙ ap (λ (b : Bool). cond b (Some 2) (shifted 1 (through_close (drop (i + 1) text)))) fails in
    shifted_more i (through_close (drop (i + 1) text)) ∙ ap (shifted i) (sym f) ∙ h

pub closing_found : (text : List ℕ) (i : ℕ) → i < length text → begins_with (codes "*/") (drop i text) ≡ true → Closing text i → Some (i + 2) ≡ comment_length text
closing_found text i lt passes h =
    let e = at_close text i lt in
    let f : through_close (drop i text) ≡ Some 2 = e ∙ ap (λ (b : Bool). cond b (Some 2) (shifted 1 (through_close (drop (i + 1) text)))) passes in
    let g : shifted i (Some 2) ≡ Some (i + 2) = ap (λ (k : ℕ). Some k) (omega arith) in
    sym g ∙ ap (shifted i) (sym f) ∙ h

pub closing_all : (text : List ℕ) (i : ℕ) → length text ≤ i → Closing text i → None ≡ comment_length text
unfolding through_close
closing_all text i le h = ap (shifted i) (sym (at_drop_all through_close text i le)) ∙ h

-- what the loop over a foreign block keeps
abbrev pub Blocking : List ℕ → ℕ → Type 0
Blocking text i = shifted i (block_length (drop i text)) ≡ block_length text

pub blocking_none : (text : List ℕ) → Blocking text 0
blocking_none text = shifted_none (block_length text)

at_block : (text : List ℕ) (i : ℕ) → i < length text → block_length (drop i text) ≡ cond (is_newline (get_or text i 0) && closes_block (drop (i + 1) text)) (Some (1 + line_length (drop (i + 1) text))) (shifted 1 (block_length (drop (i + 1) text)))
unfolding block_length
at_block text i lt = at_drop_more block_length text i 0 lt

pub blocking_more : (text : List ℕ) (i : ℕ) → i < length text → (is_newline (get_or text i 0) && closes_block (drop (i + 1) text)) ≡ false → Blocking text i → Blocking text (i + 1)
blocking_more text i lt fails h =
    let rest = block_length (drop (i + 1) text) in
    let f : block_length (drop i text) ≡ shifted 1 rest = at_block text i lt ∙ ap (λ (b : Bool). cond b (Some (1 + line_length (drop (i + 1) text))) (shifted 1 rest)) fails in
    shifted_more i rest ∙ ap (shifted i) (sym f) ∙ h

pub blocking_found : (text : List ℕ) (i : ℕ) → i < length text → (is_newline (get_or text i 0) && closes_block (drop (i + 1) text)) ≡ true → Blocking text i → Some (i + 1 + line_length (drop (i + 1) text)) ≡ block_length text
blocking_found text i lt passes h =
    let rest = block_length (drop (i + 1) text) in
    let n = line_length (drop (i + 1) text) in
    let f : block_length (drop i text) ≡ Some (1 + n) = at_block text i lt ∙ ap (λ (b : Bool). cond b (Some (1 + n)) (shifted 1 rest)) passes in
    let g : Some (i + 1 + n) ≡ shifted i (Some (1 + n)) = ap (λ (k : ℕ). Some k) (omega arith) in
    g ∙ ap (shifted i) (sym f) ∙ h

pub blocking_all : (text : List ℕ) (i : ℕ) → length text ≤ i → Blocking text i → None ≡ block_length text
unfolding block_length
blocking_all text i le h = ap (shifted i) (sym (at_drop_all block_length text i le)) ∙ h
