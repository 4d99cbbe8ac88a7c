-- Numbers that are cut off past every range are refused as the numbers themselves are.
use Rattle.std.proofs.Common.{◌≡◌, ℕ, ◌<◌, ◌≤◌, ◌==◌, nat_le, false, Option, Some, None, List, [], ◌∷◌, Err, refl, sym, ap, ◌∙◌, inl, inr, arith}
use Rattle.std.specs.Prelude.{option_map}
use Rattle.std.proofs.lemmas.Bool.{and_right, cases_lt, le-ltb, lt-leb}
use Rattle.std.proofs.lemmas.Bool.Decides.{nat_tests}
use Rattle.std.proofs.lemmas.Option.{none-some, same_Some}
use Rattle.pin_matrix.specs.declared.assume.Follow.{Follow}
use Rattle.span_step.specs.declared.ages.Ages.{Ages}
use Rattle.span_step.specs.declared.ages.Ages.TheVariants.{Empty, Between}
use Rattle.span_bounds.specs.declared.row.Row.{Row}
use Rattle.span_texts.specs.declared.fault.TableKind.TheVariants.{BadLine}
use Rattle.span_texts.specs.declared.said.Said.{Said}
use Rattle.span_texts.specs.Capped.{capped_ages, capped_said}
use Rattle.span_texts.specs.TableLines.{known_in, ages_in, between, said_by, said_in, placed, known_placed, level_of, ages_placed, row_of, in_order, row_from}
use Rattle.span_texts.specs.Numbers.{number_in, capped}

-- all parts of a line
pub said_by-capped : (a : Option ℕ) (x y : Option (Option ℕ)) (f t : Option ℕ) (g : Option Ages)
    → said_by (option_map capped a) (option_map (option_map capped) x) (option_map (option_map capped) y) (option_map capped f) (option_map capped t) (option_map capped_ages g)
    ≡ option_map capped_said (said_by a x y f t g)
said_by-capped None x y f t g = refl
said_by-capped (Some a) None y f t g = refl
said_by-capped (Some a) (Some x) None f t g = refl
said_by-capped (Some a) (Some x) (Some y) None t g = refl
said_by-capped (Some a) (Some x) (Some y) (Some f) None g = refl
said_by-capped (Some a) (Some x) (Some y) (Some f) (Some t) None = refl
said_by-capped (Some a) (Some x) (Some y) (Some f) (Some t) (Some g) = refl

pub between-capped : (lo hi : Option ℕ) → between (option_map capped lo) (option_map capped hi) ≡ option_map capped_ages (between lo hi)
between-capped None hi = refl
between-capped (Some lo) None = refl
between-capped (Some lo) (Some hi) = refl

-- a line with five fields and more
pub whole_line : (fields ages : List (List ℕ)) (a x y f t : List ℕ) (r : Option Said) → fields ≡ a ∷ x ∷ y ∷ f ∷ t ∷ ages
    → r ≡ said_by (option_map capped (number_in a)) (option_map (option_map capped) (known_in x)) (option_map (option_map capped) (known_in y)) (option_map capped (number_in f)) (option_map capped (number_in t)) (option_map capped_ages (ages_in ages))
    → r ≡ option_map capped_said (said_in fields)
whole_line fields ages a x y f t r e h = rw e (h ∙ said_by-capped (number_in a) (known_in x) (known_in y) (number_in f) (number_in t) (ages_in ages))

-- the fields of a line, taken one by one
pub five_fields : (whole f0 f1 f2 f3 f4 f5 : List (List ℕ)) (a x y f t : List ℕ) → f0 ≡ whole → f0 ≡ a ∷ f1 → f1 ≡ x ∷ f2 → f2 ≡ y ∷ f3 → f3 ≡ f ∷ f4 → f4 ≡ t ∷ f5
    → whole ≡ a ∷ x ∷ y ∷ f ∷ t ∷ f5
five_fields whole f0 f1 f2 f3 f4 f5 a x y f t p q r s u v = cc

-- of equal parts the same is said
pub said_same : (r : Option Said) (a b : Option ℕ) (x c y d : Option (Option ℕ)) (f g t h : Option ℕ) (m n : Option Ages) → r ≡ said_by a x y f t m
    → a ≡ b → x ≡ c → y ≡ d → f ≡ g → t ≡ h → m ≡ n → r ≡ said_by b c d g h n
said_same r a b x c y d f g t h m n e i j k l o p = rw (← i, ← j, ← k, ← l, ← o, ← p) e

-- two fields of ages
pub two_fields : (lo hi : List ℕ) (fields : List (List ℕ)) (r : Option Ages) (a b : Option ℕ) → fields ≡ [] → r ≡ between a b
    → a ≡ option_map capped (number_in lo) → b ≡ option_map capped (number_in hi) → r ≡ option_map capped_ages (ages_in (lo ∷ hi ∷ fields))
two_fields lo hi fields r a b e h p q = rw e (h ∙ (ap (λ (o : Option ℕ). between o b) p ∙ ap (between (option_map capped (number_in lo))) q) ∙ between-capped (number_in lo) (number_in hi))

same : (n : ℕ) → n < 16777217 → capped n ≡ n
same n l = omega arith

past : (n : ℕ) → 16777217 ≤ n → capped n ≡ 16777217
past n l = omega arith

placed-capped : (n : ℕ) → placed (capped n) ≡ placed n
placed-capped n = elim (cases_lt n 16777217) [
  | inl lt ↦ ap placed (same n lt)
  | inr ge ↦ rw (past n ge, le-ltb n 32 (omega (arith, ge))) refl
]

known_placed-capped : (most : ℕ) (o : Option ℕ) → most < 16777217 → known_placed most (option_map capped o) ≡ known_placed most o
known_placed-capped most None k = refl
known_placed-capped most (Some n) k = elim (cases_lt n 16777217) [
  | inl lt ↦ ap (λ (i : ℕ). known_placed most (Some i)) (same n lt)
  | inr ge ↦ rw (past n ge, lt-leb 16777217 most k, lt-leb n most (omega (arith, k, ge))) refl
]

not_level : (n m : ℕ) → 16777217 ≤ n → m ≤ 1 → (n == m) ≡ false
not_level n m l k = grind (arith, nat_tests)

level_of-capped : (n : ℕ) → level_of (capped n) ≡ level_of n
level_of-capped n = elim (cases_lt n 16777217) [
  | inl lt ↦ ap level_of (same n lt)
  | inr ge ↦ rw (past n ge, not_level n 0 ge (omega arith), not_level n 1 ge (omega arith)) refl
]

ages_placed-capped : (a : Ages) → ages_placed (capped_ages a) ≡ ages_placed a
ages_placed-capped Empty = refl
ages_placed-capped (Between lo hi) = elim (cases_lt hi 16777217) [
  | inl near ↦ elim (cases_lt lo 16777217) [
    | inl lt ↦ rw (same lo lt, same hi near) refl
    | inr ge ↦ rw (past lo ge, same hi near, lt-leb 16777217 hi near, lt-leb lo hi (omega arith)) refl
  ]
  | inr far ↦ rw (past hi far, lt-leb hi 16777216 (omega arith), and_right (nat_le (capped lo) 16777217) false refl, and_right (nat_le lo hi) false refl) refl
]

-- X and Y are followed up to no more than numbers are read
pub record AreRead (d : Follow) : Type 0 where
  pub x : d.x < 16777217
  pub y : d.y < 16777217

pub row_of-capped : (d : Follow) (s : Said) → AreRead d → row_of d (capped_said s) ≡ row_of d s
row_of-capped d s k = rw (placed-capped s.address, known_placed-capped d.x s.x k.x, known_placed-capped d.y s.y k.y, level_of-capped s.from, level_of-capped s.to, ages_placed-capped s.ages) refl

-- a line that says nothing
pub none_said : (d : Follow) (least : ℕ) (o : Option Said) → None ≡ option_map capped_said o → Err BadLine ≡ row_from d least o
none_said d least None e = refl
none_said d least (Some s) e = absurd (none-some _ e)

-- a line that says this
pub some_said : (d : Follow) (least : ℕ) (o : Option Said) (s : Said) → AreRead d → Some s ≡ option_map capped_said o → in_order d least (row_of d s) ≡ row_from d least o
some_said d least None s k e = absurd (none-some _ (sym e))
some_said d least (Some t) s k e =
    let h : s ≡ capped_said t = same_Some s (capped_said t) e in
    ap (λ (r : Option Row). in_order d least r) (ap (row_of d) h ∙ row_of-capped d t k)
