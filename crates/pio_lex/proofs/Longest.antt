-- No longer text from a token's first byte spells a token, and none does where a byte begins no token.
use Rattle.std.proofs.Common.{◌≡◌, ◌≢◌, ℕ, zero, suc, ◌+◌, ◌<◌, ◌≤◌, ◌⊎◌, inl, inr, Bool, true, false, cond, ◌&&◌, ◌||◌, not, eqb, List, [], ◌∷◌, length, get_or, take, drop, Option, Some, None, Result, Ok, Err, refl, sym, ap, subst, ◌∙◌, arith}
use Rattle.std.specs.Prelude.{option_map, codes, ok_or}
use Rattle.std.specs.List.{prefix_len, list_all}
use Rattle.std.specs.Char.{is_ascii_digit}
use Rattle.std.specs.Str.{bytes_eq}
use Rattle.std.proofs.lemmas.Bool.{and_parts, and_from, eqb-true, eqb-false, eq-eqb, or_from, both_ways, not-true}
use Rattle.std.proofs.lemmas.List.{length-take-le, length-drop}
use Rattle.pio_lex.specs.declared.fault.LexKind.{LexKind}
use Rattle.pio_lex.specs.declared.fault.LexKind.TheVariants.{BadByte, BadNumber, OpenComment, OpenBlock}
use Rattle.pio_lex.specs.declared.token.TokenKind.{TokenKind}
use Rattle.pio_lex.specs.declared.token.TokenKind.TheVariants as kind
use Rattle.byte_lines.specs.Bytes.{is_blank}
use Rattle.pio_lex.specs.Bytes.{is_newline, is_letter, is_name_byte, begins_with}
use Rattle.pio_lex.specs.Words.{directive_of}
use Rattle.pio_lex.specs.Numbers.{word_number}
use Rattle.pio_lex.specs.Gaps.{is_lang_opt, begins_line, comment_length, opens_block, block_length, ended, gap_at}
use Rattle.pio_lex.specs.Pieces.{token_piece, piece_by, piece_at}
use Rattle.pio_lex.specs.Tokens.{last_kind, IsFirstFault}
use Rattle.pio_lex.specs.Spellings.{begins_name, IsWord, IsSpelling, IsLongest, word_of, directive_at, counted, byte_mark, mark_at, token_at}
use Rattle.pio_lex.proofs.Sizes.{chosen, ok_pair, some_pair, one_byte, counted_is, mark_is, first_is, letter_is_name_byte, digit_is_name_byte}

-- ---- what a spelling looks like

abbrev IsAlone : ℕ → Type 0
IsAlone b = (b ≡ 10) ⊎ (byte_mark b ≢ None)

abbrev IsPair : ℕ → List ℕ → Type 0
IsPair b ws = ((b ≡ 58) × (ws ≡ 58 ∷ [])) ⊎ (((b ≡ 45) × (ws ≡ 45 ∷ [])) ⊎ ((b ≡ 33) × (ws ≡ 61 ∷ [])))

-- a byte with those after it: letters, digits and `_`; a directive; a byte alone; a pair of marks
abbrev Shape : ℕ → List ℕ → Type 0
Shape b ws = (list_all is_name_byte (b ∷ ws) ≡ true) ⊎ (((b ≡ 46) × IsWord ws) ⊎ (((ws ≡ []) × IsAlone b) ⊎ IsPair b ws))

head_is : (b c : ℕ) (bs cs : List ℕ) → b ∷ bs ≡ c ∷ cs → (b ≡ c) × (bs ≡ cs)
head_is b c bs cs e = (ap (λ (xs : List ℕ). get_or xs 0 0) e, ap (λ (xs : List ℕ). drop 1 xs) e)

alone : (code b : ℕ) (ws : List ℕ) → byte_mark code ≢ None → b ∷ ws ≡ code ∷ [] → Shape b ws
alone code b ws some e =
    let h = head_is b code ws [] e in
    inr (inr (inl (h.1, inr (subst (λ (c : ℕ). byte_mark c ≢ None) (sym h.0) some))))

some_mark : (k : TokenKind) → ◌≡◌ {A = Option TokenKind} (Some k) None → ⊥
some_mark k e = cc

shape_of : (k : TokenKind) (b : ℕ) (ws : List ℕ) → IsSpelling k (b ∷ ws) → Shape b ws
shape_of kind.Newline b ws e = let h = head_is b 10 ws [] e in inr (inr (inl (h.1, inl h.0)))
shape_of kind.Name b ws h = inl h.0.1
shape_of (kind.Keyword k) b ws h = inl h.0.1
shape_of (kind.Directive d) b ws h = inr (inl ((head_is b 46 ws ws h.0).0, h.1))
shape_of (kind.Number n) b ws h = inl h.0
shape_of kind.Comma b ws e = alone 44 b ws (some_mark kind.Comma) e
shape_of kind.Colon b ws e = alone 58 b ws (some_mark kind.Colon) e
shape_of kind.DoubleColon b ws e = inr (inr (inr (inl (head_is b 58 ws (58 ∷ []) e))))
shape_of kind.OpenBracket b ws e = alone 91 b ws (some_mark kind.OpenBracket) e
shape_of kind.CloseBracket b ws e = alone 93 b ws (some_mark kind.CloseBracket) e
shape_of kind.OpenParen b ws e = alone 40 b ws (some_mark kind.OpenParen) e
shape_of kind.CloseParen b ws e = alone 41 b ws (some_mark kind.CloseParen) e
shape_of kind.Plus b ws e = alone 43 b ws (some_mark kind.Plus) e
shape_of kind.Minus b ws e = alone 45 b ws (some_mark kind.Minus) e
shape_of kind.MinusMinus b ws e = inr (inr (inr (inr (inl (head_is b 45 ws (45 ∷ []) e)))))
shape_of kind.Star b ws e = alone 42 b ws (some_mark kind.Star) e
shape_of kind.Slash b ws e = alone 47 b ws (some_mark kind.Slash) e
shape_of kind.Bang b ws e = alone 33 b ws (some_mark kind.Bang) e
shape_of kind.NotEqual b ws e = inr (inr (inr (inr (inr (head_is b 33 ws (61 ∷ []) e)))))
shape_of kind.Tilde b ws e = alone 126 b ws (some_mark kind.Tilde) e

-- no shape fits, if each of the four is excluded
no_shape : (b : ℕ) (ws : List ℕ) → (list_all is_name_byte (b ∷ ws) ≡ true → ⊥) → ((b ≡ 46) × IsWord ws → ⊥) → (ws ≡ [] → IsAlone b → ⊥) → (IsPair b ws → ⊥) → Shape b ws → ⊥
no_shape b ws word directive one pair (inl h) = word h
no_shape b ws word directive one pair (inr (inl h)) = directive h
no_shape b ws word directive one pair (inr (inr (inl h))) = one h.0 h.1
no_shape b ws word directive one pair (inr (inr (inr h))) = pair h

-- a longer text is excluded, if its shape is
longer : (b : ℕ) (bs : List ℕ) (n : ℕ) → ((m : ℕ) → n ≤ m → m ≤ length bs → Shape b (take m bs) → ⊥) → IsLongest (b ∷ bs) n
longer b bs n isnt k zero lt le is = absurd (omega arith)
longer b bs n isnt k (suc m) lt le is = isnt m (omega arith) (omega arith) (shape_of k b (take m bs) is)

-- ---- lengths

nothing_taken : (m : ℕ) (bs : List ℕ) → m ≤ length bs → take m bs ≡ [] → m ≡ 0
nothing_taken m bs le e = let n = length-take-le m bs le in let k = ap (λ (xs : List ℕ). length xs) e in omega arith

one_taken : (m c : ℕ) (bs : List ℕ) → m ≤ length bs → take m bs ≡ c ∷ [] → m ≡ 1
one_taken m c bs le e = let n = length-take-le m bs le in let k = ap (λ (xs : List ℕ). length xs) e in omega arith

pair_taken : (b m : ℕ) (bs : List ℕ) → m ≤ length bs → IsPair b (take m bs) → m ≡ 1
pair_taken b m bs le (inl h) = one_taken m 58 bs le h.1
pair_taken b m bs le (inr (inl h)) = one_taken m 45 bs le h.1
pair_taken b m bs le (inr (inr h)) = one_taken m 61 bs le h.1

-- bytes that all pass are no more than the run
all_le : (p : ℕ → Bool) (xs : List ℕ) (m : ℕ) → m ≤ length xs → list_all p (take m xs) ≡ true → m ≤ prefix_len p xs
all_le p xs zero le h = omega arith
all_le p [] (suc m) le h = absurd (omega arith)
all_le p (x ∷ xs) (suc m) le h =
    let q = and_parts (p x) (list_all p (take m xs)) h in
    let rest = all_le p xs m (omega arith) q.1 in
    let here : prefix_len p (x ∷ xs) ≡ 1 + prefix_len p xs = ap (λ (t : Bool). cond t (1 + prefix_len p xs) 0) q.0 in
    omega arith

-- ---- the first byte of the other kinds of tokens

no_word : (b : ℕ) (ws : List ℕ) → is_name_byte b ≡ false → list_all is_name_byte (b ∷ ws) ≡ true → ⊥
no_word b ws isnt h = both_ways (is_name_byte b) isnt (and_parts (is_name_byte b) (list_all is_name_byte ws) h).0

no_name_byte : (b c : ℕ) → is_name_byte b ≡ true → b ≡ c → is_name_byte c ≡ false → ⊥
no_name_byte b c h e isnt = both_ways (is_name_byte b) (ap is_name_byte e ∙ isnt) h

no_pair : (b : ℕ) (ws : List ℕ) → is_name_byte b ≡ true → IsPair b ws → ⊥
no_pair b ws h (inl p) = no_name_byte b 58 h p.0 refl
no_pair b ws h (inr (inl p)) = no_name_byte b 45 h p.0 refl
no_pair b ws h (inr (inr p)) = no_name_byte b 33 h p.0 refl

other_pair : (c b : ℕ) (ws : List ℕ) → b ≡ c → c ≢ 58 → c ≢ 45 → c ≢ 33 → IsPair b ws → ⊥
other_pair c b ws e x y z (inl p) = x (sym e ∙ p.0)
other_pair c b ws e x y z (inr (inl p)) = y (sym e ∙ p.0)
other_pair c b ws e x y z (inr (inr p)) = z (sym e ∙ p.0)

longest_word : (b : ℕ) (bs : List ℕ) → is_name_byte b ≡ true → IsLongest (b ∷ bs) (prefix_len is_name_byte (b ∷ bs))
longest_word b bs here =
    let run : prefix_len is_name_byte (b ∷ bs) ≡ 1 + prefix_len is_name_byte bs = ap (λ (t : Bool). cond t (1 + prefix_len is_name_byte bs) 0) here in
    longer b bs (prefix_len is_name_byte (b ∷ bs)) (λ m lt le s. no_shape b (take m bs)
    (λ h. absurd (let all = all_le is_name_byte bs m le (and_parts (is_name_byte b) (list_all is_name_byte (take m bs)) h).1 in omega arith))
    (λ h. no_name_byte b 46 here h.0 refl)
    (λ h _. absurd (let none = nothing_taken m bs le h in omega arith))
    (λ h. no_pair b (take m bs) here h)
    s)

longest_newline : (b : ℕ) (bs : List ℕ) → b ≡ 10 → IsLongest (b ∷ bs) 1
longest_newline b bs e = longer b bs 1 (λ m lt le s. no_shape b (take m bs)
    (λ h. no_word b (take m bs) (ap is_name_byte e) h)
    (λ h. absurd (let f = h.0 in omega arith))
    (λ h _. absurd (let none = nothing_taken m bs le h in omega arith))
    (λ h. other_pair 10 b (take m bs) e (λ f. absurd (omega arith)) (λ f. absurd (omega arith)) (λ f. absurd (omega arith)) h)
    s)

dot_is_no_mark : (b : ℕ) → b ≡ 46 → IsAlone b → ⊥
dot_is_no_mark b e (inl f) = absurd (omega arith)
dot_is_no_mark b e (inr f) = f (ap byte_mark e)

begins_too : (m : ℕ) (bs : List ℕ) → begins_name (take m bs) ≡ true → begins_name bs ≡ true
begins_too zero bs e = absurd cc
begins_too (suc m) [] e = absurd cc
begins_too (suc m) (b ∷ bs) e = e

longest_directive : (b : ℕ) (bs : List ℕ) → b ≡ 46 → IsLongest (b ∷ bs) (1 + prefix_len is_name_byte bs)
longest_directive b bs e = longer b bs (1 + prefix_len is_name_byte bs) (λ m lt le s. no_shape b (take m bs)
    (λ h. no_word b (take m bs) (ap is_name_byte e) h)
    (λ h. absurd (let all = all_le is_name_byte bs m le h.1.1 in omega arith))
    (λ h a. dot_is_no_mark b e a)
    (λ h. other_pair 46 b (take m bs) e (λ f. absurd (omega arith)) (λ f. absurd (omega arith)) (λ f. absurd (omega arith)) h)
    s)

nothing_after_dot : (b : ℕ) (bs : List ℕ) → b ≡ 46 → begins_name bs ≡ false → IsLongest (b ∷ bs) 0
nothing_after_dot b bs e isnt = longer b bs 0 (λ m lt le s. no_shape b (take m bs)
    (λ h. no_word b (take m bs) (ap is_name_byte e) h)
    (λ h. both_ways (begins_name bs) isnt (begins_too m bs h.1.0))
    (λ h a. dot_is_no_mark b e a)
    (λ h. other_pair 46 b (take m bs) e (λ f. absurd (omega arith)) (λ f. absurd (omega arith)) (λ f. absurd (omega arith)) h)
    s)

-- a pair is
longest_pair : (b c : ℕ) (bs : List ℕ) → b ≡ c → is_name_byte c ≡ false → c ≢ 46 → IsLongest (b ∷ bs) 2
longest_pair b c bs e isnt dot = longer b bs 2 (λ m lt le s. no_shape b (take m bs)
    (λ h. no_word b (take m bs) (ap is_name_byte e ∙ isnt) h)
    (λ h. dot (sym e ∙ h.0))
    (λ h _. absurd (let none = nothing_taken m bs le h in omega arith))
    (λ h. absurd (let one = pair_taken b m bs le h in omega arith))
    s)

pair_begins : (b c d m : ℕ) (bs : List ℕ) → m ≤ length bs → b ≡ c → take m bs ≡ d ∷ [] → begins_with (c ∷ d ∷ []) (b ∷ bs) ≡ true
pair_begins b c d m bs le e f =
    let one = one_taken m d bs le f in
    let g : take 1 bs ≡ d ∷ [] = ap (λ (k : ℕ). take k bs) (sym one) ∙ f in
    let same : b ∷ take 1 bs ≡ c ∷ d ∷ [] = ap (λ (x : ℕ). x ∷ take 1 bs) e ∙ ap (λ (xs : List ℕ). c ∷ xs) g in
    ap (λ (xs : List ℕ). bytes_eq (c ∷ d ∷ []) xs) same ∙ alike c d where
      alike : (c d : ℕ) → bytes_eq (c ∷ d ∷ []) (c ∷ d ∷ []) ≡ true
      alike c d = and_from (eqb c c) (eqb d d && true) (eq-eqb c c refl) (and_from (eqb d d) true (eq-eqb d d refl) refl)

-- no pair is, nor a name, a number, a directive or a newline
pub record Apart (b : ℕ) (bs : List ℕ) : Type 0 where
  pub newline : is_newline b ≡ false
  pub name_byte : is_name_byte b ≡ false
  pub dot : eqb b 46 ≡ false
  pub colons : begins_with (codes "::") (b ∷ bs) ≡ false
  pub minuses : begins_with (codes "--") (b ∷ bs) ≡ false
  pub unequal : begins_with (codes "!=") (b ∷ bs) ≡ false

apart_pair : (b : ℕ) (bs : List ℕ) (m : ℕ) → Apart b bs → m ≤ length bs → IsPair b (take m bs) → ⊥
apart_pair b bs m a le (inl h) = both_ways (begins_with (codes "::") (b ∷ bs)) a.colons (pair_begins b 58 58 m bs le h.0 h.1)
apart_pair b bs m a le (inr (inl h)) = both_ways (begins_with (codes "--") (b ∷ bs)) a.minuses (pair_begins b 45 45 m bs le h.0 h.1)
apart_pair b bs m a le (inr (inr h)) = both_ways (begins_with (codes "!=") (b ∷ bs)) a.unequal (pair_begins b 33 61 m bs le h.0 h.1)

longest_byte : (b : ℕ) (bs : List ℕ) → Apart b bs → IsLongest (b ∷ bs) 1
longest_byte b bs a = longer b bs 1 (λ m lt le s. no_shape b (take m bs)
    (λ h. no_word b (take m bs) a.name_byte h)
    (λ h. eqb-false b 46 a.dot h.0)
    (λ h _. absurd (let none = nothing_taken m bs le h in omega arith))
    (λ h. apart_pair b bs m a le h)
    s)

no_alone : (b : ℕ) → is_newline b ≡ false → byte_mark b ≡ None → IsAlone b → ⊥
no_alone b isnt none (inl e) = eqb-false b 10 isnt e
no_alone b isnt none (inr f) = f none

nothing_there : (b : ℕ) (bs : List ℕ) → Apart b bs → byte_mark b ≡ None → IsLongest (b ∷ bs) 0
nothing_there b bs a none = longer b bs 0 (λ m lt le s. no_shape b (take m bs)
    (λ h. no_word b (take m bs) a.name_byte h)
    (λ h. eqb-false b 46 a.dot h.0)
    (λ h alone. no_alone b a.newline none alone)
    (λ h. apart_pair b bs m a le h)
    s)

-- ---- the whole

mark_apart : (b : ℕ) (bs : List ℕ) → is_newline b ≡ false → is_name_byte b ≡ false → eqb b 46 ≡ false → (k : TokenKind) (n : ℕ) → mark_at (b ∷ bs) ≡ Some (k, n) → IsLongest (b ∷ bs) n
unfolding mark_at
mark_apart b bs newline name dot k n e =
    let text : List ℕ = b ∷ bs in
    let P : ℕ → Type 0 = λ j. IsLongest (b ∷ bs) j in
    elim (chosen (begins_with (codes "::") text) _ _ _ e) [
      | inl h ↦ subst P (some_pair kind.DoubleColon k 2 n h.1) (longest_pair b 58 bs (first_is 58 (58 ∷ []) text h.0) refl (λ f. absurd (omega arith)))
      | inr h0 ↦ elim (chosen (begins_with (codes "--") text) _ _ _ h0.1) [
        | inl h ↦ subst P (some_pair kind.MinusMinus k 2 n h.1) (longest_pair b 45 bs (first_is 45 (45 ∷ []) text h.0) refl (λ f. absurd (omega arith)))
        | inr h1 ↦ elim (chosen (begins_with (codes "!=") text) _ _ _ h1.1) [
          | inl h ↦ subst P (some_pair kind.NotEqual k 2 n h.1) (longest_pair b 33 bs (first_is 33 (61 ∷ []) text h.0) refl (λ f. absurd (omega arith)))
          | inr h2 ↦ subst P (one_byte (byte_mark b) k n h2.1) (longest_byte b bs (record { newline = newline; name_byte = name; dot = dot; colons = h0.0; minuses = h1.0; unequal = h2.0 }))
        ]
      ]
    ]

some_is_none : (p : TokenKind × ℕ) → Some p ≡ None → ⊥
some_is_none p e = cc

no_byte : (o : Option TokenKind) → ◌≡◌ {A = Option (TokenKind × ℕ)} (option_map {U = TokenKind × ℕ} (λ mark. (mark, 1)) o) None → o ≡ None
no_byte None e = refl
no_byte (Some k) e = absurd cc

mark_nothing : (b : ℕ) (bs : List ℕ) → is_newline b ≡ false → is_name_byte b ≡ false → eqb b 46 ≡ false → mark_at (b ∷ bs) ≡ None → IsLongest (b ∷ bs) 0
unfolding mark_at
mark_nothing b bs newline name dot e =
    let text : List ℕ = b ∷ bs in
    elim (chosen (begins_with (codes "::") text) _ _ _ e) [
      | inl h ↦ absurd (some_is_none _ h.1)
      | inr h0 ↦ elim (chosen (begins_with (codes "--") text) _ _ _ h0.1) [
        | inl h ↦ absurd (some_is_none _ h.1)
        | inr h1 ↦ elim (chosen (begins_with (codes "!=") text) _ _ _ h1.1) [
          | inl h ↦ absurd (some_is_none _ h.1)
          | inr h2 ↦ nothing_there b bs (record { newline = newline; name_byte = name; dot = dot; colons = h0.0; minuses = h1.0; unequal = h2.0 }) (no_byte (byte_mark b) h2.1)
        ]
      ]
    ]

directive_longest : (b : ℕ) (bs : List ℕ) (k : TokenKind) (n : ℕ) → b ≡ 46 → directive_at (b ∷ bs) ≡ Ok (k, n) → IsLongest (b ∷ bs) n
unfolding directive_at
directive_longest b bs k n dot e =
    elim (chosen (not (begins_name bs)) (Err BadByte) (Ok (kind.Directive (directive_of (word_of bs)), 1 + prefix_len is_name_byte bs)) (Ok (k, n)) e) [
      | inl h ↦ absurd (cc (h.1))
      | inr h ↦ subst (λ (j : ℕ). IsLongest (b ∷ bs) j) (ok_pair _ k (1 + prefix_len is_name_byte bs) n h.1) (longest_directive b bs dot)
    ]

directive_nothing : (b : ℕ) (bs : List ℕ) → b ≡ 46 → directive_at (b ∷ bs) ≡ Err BadByte → IsLongest (b ∷ bs) 0
unfolding directive_at
directive_nothing b bs dot e =
    elim (chosen (not (begins_name bs)) (Err BadByte) (Ok (kind.Directive (directive_of (word_of bs)), 1 + prefix_len is_name_byte bs)) (Err BadByte) e) [
      | inl h ↦ nothing_after_dot b bs dot (not-true (begins_name bs) h.0)
      | inr h ↦ absurd (cc (h.1))
    ]

pub token_longest : (text : List ℕ) (k : TokenKind) (n : ℕ) → 0 < length text → token_at text ≡ Ok (k, n) → IsLongest text n
unfolding token_at
token_longest [] k n lt e = absurd (omega arith)
token_longest (b ∷ bs) k n lt e =
    let P : ℕ → Type 0 = λ j. IsLongest (b ∷ bs) j in
    elim (chosen (is_newline b) _ _ _ e) [
      | inl h ↦ subst P (ok_pair kind.Newline k 1 n h.1) (longest_newline b bs (eqb-true b 10 h.0))
      | inr h0 ↦ elim (chosen (is_letter b) _ _ _ h0.1) [
        | inl h ↦ subst P (ok_pair _ k (prefix_len is_name_byte (b ∷ bs)) n h.1) (longest_word b bs (letter_is_name_byte b h.0))
        | inr h1 ↦ elim (chosen (eqb b 46) _ _ _ h1.1) [
          | inl h ↦ directive_longest b bs k n (eqb-true b 46 h.0) h.1
          | inr h2 ↦ elim (chosen (is_ascii_digit b) _ _ _ h2.1) [
            | inl h ↦ subst P (counted_is (prefix_len is_name_byte (b ∷ bs)) (word_number (word_of (b ∷ bs))) k n h.1) (longest_word b bs (digit_is_name_byte b h.0))
            | inr h3 ↦ mark_apart b bs h0.0 (or_from (is_letter b) (is_ascii_digit b) h1.0 h3.0) h2.0 k n (mark_is (mark_at (b ∷ bs)) k n h3.1)
          ]
        ]
      ]
    ]

ok_is_bad : (p : TokenKind × ℕ) → ◌≡◌ {A = Result (TokenKind × ℕ) LexKind} (Ok p) (Err BadByte) → ⊥
ok_is_bad p e = cc

counted_is_not : (m : ℕ) (o : Option ℕ) → counted m o ≡ Err BadByte → ⊥
counted_is_not m (Some v) e = cc
counted_is_not m None e = number_is_not cc where
  number_is_not : BadNumber ≡ BadByte → ⊥
  number_is_not q = cc

no_mark : (o : Option (TokenKind × ℕ)) → ok_or o BadByte ≡ Err BadByte → o ≡ None
no_mark None e = refl
no_mark (Some p) e = absurd (ok_is_bad p e)

token_nothing : (text : List ℕ) → 0 < length text → token_at text ≡ Err BadByte → IsLongest text 0
unfolding token_at
token_nothing [] lt e = absurd (omega arith)
token_nothing (b ∷ bs) lt e =
    elim (chosen (is_newline b) _ _ _ e) [
      | inl h ↦ absurd (ok_is_bad _ h.1)
      | inr h0 ↦ elim (chosen (is_letter b) _ _ _ h0.1) [
        | inl h ↦ absurd (ok_is_bad _ h.1)
        | inr h1 ↦ elim (chosen (eqb b 46) _ _ _ h1.1) [
          | inl h ↦ directive_nothing b bs (eqb-true b 46 h.0) h.1
          | inr h2 ↦ elim (chosen (is_ascii_digit b) _ _ _ h2.1) [
            | inl h ↦ absurd (counted_is_not (prefix_len is_name_byte (b ∷ bs)) (word_number (word_of (b ∷ bs))) h.1)
            | inr h3 ↦ mark_nothing b bs h0.0 (or_from (is_letter b) (is_ascii_digit b) h1.0 h3.0) h2.0 (no_mark (mark_at (b ∷ bs)) h3.1)
          ]
        ]
      ]
    ]

-- ---- a gap is never a byte that begins no token

some_gap_is_bad : (o : Option ℕ) → ◌≡◌ {A = Result (Option ℕ) LexKind} (Ok o) (Err BadByte) → ⊥
some_gap_is_bad o e = cc

open_is_bad : (fault : LexKind) (o : Option ℕ) → fault ≢ BadByte → ended fault o ≡ Err BadByte → ⊥
open_is_bad fault (Some n) isnt e = cc
open_is_bad fault None isnt e = isnt cc

comment_is_not : OpenComment ≢ BadByte
comment_is_not e = cc

block_is_not : OpenBlock ≢ BadByte
block_is_not e = cc

no_gap_is_bad : (last : Option TokenKind) (text : List ℕ) → gap_at last text ≡ Err BadByte → ⊥
unfolding gap_at
no_gap_is_bad last text e =
    let b = get_or text 0 0 in
    elim (chosen (is_lang_opt last && not (is_newline b)) _ _ _ e) [
      | inl h ↦ some_gap_is_bad _ h.1
      | inr h0 ↦ elim (chosen (is_blank b) _ _ _ h0.1) [
        | inl h ↦ some_gap_is_bad _ h.1
        | inr h1 ↦ elim (chosen (eqb b 59 || begins_with (codes "//") text) _ _ _ h1.1) [
          | inl h ↦ some_gap_is_bad _ h.1
          | inr h2 ↦ elim (chosen (begins_with (codes "/*") text) _ _ _ h2.1) [
            | inl h ↦ open_is_bad OpenComment (comment_length text) comment_is_not h.1
            | inr h3 ↦ elim (chosen (begins_line last && opens_block text) _ _ _ h3.1) [
              | inl h ↦ open_is_bad OpenBlock (block_length text) block_is_not h.1
              | inr h ↦ some_gap_is_bad _ h.1
            ]
          ]
        ]
      ]
    ]

bad_token : (last : Option TokenKind) (text : List ℕ) → piece_at last text ≡ Err BadByte → token_at text ≡ Err BadByte
unfolding piece_at
bad_token last text e = by_gap (gap_at last text) refl e where
  by_token : (r : Result (TokenKind × ℕ) LexKind) → token_piece r ≡ Err BadByte → r ≡ Err BadByte
  by_token (Ok token) q = absurd cc
  by_token (Err f) q = let same : f ≡ BadByte = cc in ap (λ (k : LexKind). Err k) same

  by_gap : (g : Result (Option ℕ) LexKind) → gap_at last text ≡ g → piece_by g text ≡ Err BadByte → token_at text ≡ Err BadByte
  by_gap (Ok (Some m)) h q = absurd cc
  by_gap (Ok None) h q = by_token (token_at text) q
  by_gap (Err f) h q = let same : f ≡ BadByte = cc in absurd (no_gap_is_bad last text (h ∙ ap (λ (k : LexKind). Err k) same))

-- where a byte begins no token, no text does
pub bad_byte : (source : List ℕ) (line : ℕ) (f : IsFirstFault source line BadByte) → IsLongest (drop f.place.at source) 0
bad_byte source line f =
    let left = length-drop f.place.at source in
    let lt = f.before_end in
    token_nothing (drop f.place.at source) (omega arith) (bad_token (last_kind f.place.tokens) (drop f.place.at source) f.fault)
