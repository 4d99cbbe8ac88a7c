-- A name's text is ASCII.
use Rattle.std.proofs.Common.{◌≡◌, ℕ, ◌<◌, Bool, true, false, List, length, take, drop, refl, subst, arith, nat_lt, lit<, IsTrue, slice_index}
use Rattle.std.specs.List.{list_all}
use Rattle.std.specs.Str.{IsAscii, IsUtf8}
use Rattle.std.proofs.lemmas.List.Sums.{AllPass-from_list_all}
use Rattle.std.proofs.lemmas.List.{get_or_past}
use Rattle.std.proofs.lemmas.Bool.{ltb-true, ltb-false}
use Rattle.std.proofs.lemmas.Grind.{common_steps}
use Rattle.std.proofs.lemmas.Str.{IsUtf8-from_ascii}
use Rattle.pio_lex.specs.declared.token.Token.{Token}
use Rattle.pio_lex.specs.declared.token.TokenKind.{TokenKind}
use Rattle.pio_lex.specs.declared.token.TokenKind.TheVariants as kind
use Rattle.pio_lex.specs.Bytes.{is_name_byte}
use Rattle.pio_lex.specs.Tokens.{IsTokenOf}
use Rattle.pio_lex.specs.Spellings.{IsSpelling}
use Rattle.pio_expr.specs.declared.mark.TokenMark.TheVariants as mark
use Rattle.pio_expr.specs.Marks.{mark_of}

small : (b : ℕ) → is_name_byte b ≡ true → b < 128
small b h = grind (arith, common_steps)

ascii : (text : List ℕ) → IsTrue (list_all is_name_byte text) → IsAscii text
ascii text h i = by_place (nat_lt i (length text)) refl where
  by_place : (b : Bool) → nat_lt i (length text) ≡ b → slice_index text i < 128
  by_place true e = small (slice_index text i) (AllPass-from_list_all is_name_byte text h i 0 (ltb-true i (length text) e))
  by_place false e = let past : slice_index text i ≡ 0 = get_or_past text i 0 (ltb-false i (length text) e) in rw past (lit< tt)

pub name_is_text : (source : List ℕ) (t : Token) → IsTokenOf source t → t.kind ≡ kind.Name → IsUtf8 (take t.length (drop t.first source))
name_is_text source t is e =
    let spelled : IsSpelling kind.Name (take t.length (drop t.first source)) = subst (λ k. IsSpelling k (take t.length (drop t.first source))) e is.spelled in
    IsUtf8-from_ascii (take t.length (drop t.first source)) (ascii (take t.length (drop t.first source)) spelled.0.1)

-- a value that is no number is a name
pub name_of_value : (k : TokenKind) → mark_of k ≡ mark.Value → ((n : ℕ) → k ≡ kind.Number n → ⊥) → k ≡ kind.Name
name_of_value kind.Name e other = refl
name_of_value (kind.Number n) e other = absurd (other n refl)
name_of_value _ e other = cc
