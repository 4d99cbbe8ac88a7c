-- What a statement without a fault adds to a program: no word is one too many, and no wrap target comes after the last word.
use Rattle.std.proofs.Common.{◌≡◌, ℕ, ◌+◌, ◌-◌, ◌≤◌, ◌==◌, ◌∷◌, [], ◌++◌, Bool, true, false, not, List, length, length-append, Option, Some, None, Result, Ok, IfOk, refl, ap, ◌∙◌, arith, min}
use Rattle.std.proofs.lemmas.Bool.{not-false}
use Rattle.pio_expr.specs.Values.{Scope, value_of_name}
use Rattle.pio_statement.specs.declared.statement.Code.{Code}
use Rattle.pio_statement.specs.declared.statement.Statement.{Statement}
use Rattle.pio_statement.specs.declared.statement.Statement.TheVariants as statement
use Rattle.pio_assemble.specs.declared.before.Before.{Before}
use Rattle.pio_assemble.specs.declared.fault.SourceKind.{SourceKind}
use Rattle.pio_assemble.specs.declared.fault.SourceKind.TheVariants.{Twice, WrapPlace}
use Rattle.pio_assemble.specs.declared.quantity.Quantity.TheVariants as quantity
use Rattle.answers.specs.Answers.{◌>>=◌}
use Rattle.pio_assemble.specs.Checks.{statement_fault, symbol_fault, symbol_after, words_after, code_fault, fault_if, outside, after, ◌<|>◌}
use Rattle.pio_assemble.specs.Drafts.{Draft, drafted, with_symbol, with_word, coded, labelled, finished}
use Rattle.pio_assemble.specs.Lines.{word_by}
use Rattle.pio_assemble.specs.Operands.{number_in, valued}
use Rattle.pio_assemble.specs.Manual.{manual_drafted, manual_coded, manual_word_of_code, manual_finished}
use Rattle.setup_keys.specs.Rule.{most_bits}
use Rattle.pio_assemble.specs.Rules.{rule_of}
use Rattle.pio_assemble.specs.Source.{program_by}
use Rattle.pio_assemble.proofs.Faultless.{no_second, no_cause, kept_after, same_after, any}
use Rattle.pio_assemble.proofs.ManualScope.{has_room}
use Rattle.pio_assemble.proofs.ManualWords.{IsRule, word_same}

-- one word, where one is still to come
abbrev pub to_come : Bool → ℕ
to_come true = 1
to_come false = 0

-- what comes before a line is what a program has so far; a program with a name wraps to one of its words, or to one to come
pub record IsDraft (b : Before) (more : Bool) (d : Draft) : Type 0 where
  pub count : length d.words ≡ b.words
  pub rule : IsRule b.side_set d.side
  pub wraps : (name : List ℕ) → d.name ≡ Some name → d.wrap_bottom + 1 ≤ length d.words + to_come more

-- a statement adds what the manual says, and so leaves such a program
pub record IsDrafted (b : Before) (more : Bool) (r manual : Result Draft SourceKind) : Type 0 where
  pub same : r ≡ manual
  pub leaves : IfOk manual (IsDraft b more)

-- where both do the same to a program, nothing is to be shown but what is left
only : (b : Before) (more : Bool) (r : Result Draft SourceKind) → IfOk r (IsDraft b more) → IsDrafted b more r r
only b more r h = record { same = refl; leaves = h }

-- one word more
with_one : (b : Before) (more : Bool) (d : Draft) (word : ℕ) → IsDraft b true d → IsDraft (words_after b 1) more (record d { words = d.words ++ word ∷ [] })
with_one b more d word k = record {
  count = length-append d.words (word ∷ []) ∙ ap (λ n. n + 1) k.count;
  rule = k.rule;
  wraps = λ name h. omega (arith, length-append d.words (word ∷ []), k.wraps name h);
}

-- a word that has room
has_space : (d : Draft) (word : ℕ) → length d.words + 1 ≤ 32 → with_word d word ≡ Ok (record d { words = d.words ++ word ∷ [] })
has_space d word h = let fewer : (length d.words == 32) ≡ false = grind arith in rw fewer refl

-- code without a fault
coded_same : (scope : Scope) (b : Before) (more : Bool) (d : Draft) (c : Code) → code_fault b c ≡ None → IsDraft b true d → IsDrafted (words_after b 1) more (coded scope d c) (manual_coded scope d c)
coded_same scope b more d c fault k = record {
  same = ap (λ (r : Result ℕ SourceKind). r >>= with_word d) (word_same scope d.side b c k.rule fault) ∙ same_after (λ w. Unit {0}) (manual_word_of_code scope d.side c) (with_word d) (λ w. Ok (record d { words = d.words ++ w ∷ [] })) (any (manual_word_of_code scope d.side c)) (λ w u. has_space d w room);
  leaves = kept_after (λ w. Unit {0}) (IsDraft (words_after b 1) more) (manual_word_of_code scope d.side c) (λ w. Ok (record d { words = d.words ++ w ∷ [] })) (any (manual_word_of_code scope d.side c)) (λ w u. with_one b more d w k);
} where
  room : length d.words + 1 ≤ 32
  room = let all = has_room b c fault in omega (arith, all, k.count)

-- one symbol more
labelled_is : (b : Before) (more : Bool) (d : Draft) (public : Bool) (name : List ℕ) → IsDraft b more d → IsDraft (symbol_after b name) more (labelled d public name)
labelled_is b more d public name k = record { count = k.count; rule = k.rule; wraps = k.wraps }

-- a statement that begins no program and has no fault
pub drafted_same : (scope : Scope) (b : Before) (more : Bool) (d : Draft) (s : Statement) → program_by s ≡ None → statement_fault b more s ≡ None → IsDraft b (word_by s more) d → IsDrafted (after b s) more (drafted scope d s) (manual_drafted scope d s)
unfolding after statement_fault drafted manual_drafted
drafted_same scope b more d statement.Nothing h fault k = only b more (Ok d) k
drafted_same scope b more d (statement.Program name) h fault k = cc
drafted_same scope b more d (statement.Define public name items) h fault k =
    only (symbol_after b name) more _ (kept_after (λ v. Unit {0}) (IsDraft (symbol_after b name) more) (valued (value_of_name scope name)) (λ v. Ok (with_symbol d (record { name = name; value = v; public = public; is_label = false }))) (any (valued (value_of_name scope name))) (λ v u. record { count = k.count; rule = k.rule; wraps = k.wraps }))
drafted_same scope b more d (statement.Origin address) h fault k =
    only (record b { origin = true }) more _ (kept_after (λ n. Unit {0}) (IsDraft (record b { origin = true }) more) (number_in scope quantity.Origin 0 31 address) (λ n. Ok (record d { origin = Some n })) (any (number_in scope quantity.Origin 0 31 address)) (λ n u. record { count = k.count; rule = k.rule; wraps = k.wraps }))
drafted_same scope b more d (statement.SideSet bits opt pindirs) h fault k =
    only (record b { side_set = Some opt }) more _ (kept_after (λ n. Unit {0}) (IsDraft (record b { side_set = Some opt }) more) (number_in scope quantity.SideSet 0 (most_bits opt) bits) (λ n. Ok (record d { side = rule_of n opt pindirs })) (any (number_in scope quantity.SideSet 0 (most_bits opt) bits)) (λ n u. record { count = k.count; rule = refl; wraps = k.wraps }))
drafted_same scope b more d statement.WrapTarget h fault k =
    let placed = no_second (fault_if b.wrap_target Twice) (fault_if (not more) WrapPlace) (no_second (outside b) (fault_if b.wrap_target Twice <|> fault_if (not more) WrapPlace) fault) in
    let comes : more ≡ true = not-false more (no_cause (not more) WrapPlace placed) in
    only (record b { wrap_target = true }) more (Ok (record d { wrap_bottom = length d.words })) (record { count = k.count; rule = k.rule; wraps = λ name e. rw comes (omega arith) })
drafted_same scope b more d statement.Wrap h fault k =
    only (record b { wrap = true }) more (Ok (record d { wrap_top = Some (length d.words - 1) })) (record { count = k.count; rule = k.rule; wraps = k.wraps })
drafted_same scope b more d statement.LangOpt h fault k = only b more (Ok d) k
drafted_same scope b more d (statement.PioVersion version) h fault k =
    only b more _ (kept_after (λ n. Unit {0}) (IsDraft b more) (number_in scope quantity.PioVersion 0 0 version) (λ n. Ok d) (any (number_in scope quantity.PioVersion 0 0 version)) (λ n u. k))
drafted_same scope b more d (statement.Label public name None) h fault k =
    only (words_after (symbol_after b name) 0) more (Ok (labelled d public name)) (record { count = omega (arith, k.count); rule = k.rule; wraps = k.wraps })
drafted_same scope b more d (statement.Label public name (Some c)) h fault k =
    let inside = no_second (outside b) (symbol_fault b name <|> code_fault b c) fault in
    coded_same scope (symbol_after b name) more (labelled d public name) c (no_second (symbol_fault b name) (code_fault b c) inside) (labelled_is b true d public name k)
drafted_same scope b more d (statement.Code c) h fault k = coded_same scope b more d c (no_second (outside b) (code_fault b c) fault) k

-- a program after its last line has a word, and wraps to one of its words
pub finished_same : (b : Before) (d : Draft) → IsDraft b false d → finished d ≡ manual_finished d
finished_same b d k = by d.name refl where
  by : (o : Option (List ℕ)) → d.name ≡ o → finished d ≡ manual_finished d
  by None e = rw e refl
  by (Some name) e =
      let within = k.wraps name e in
      let some : (length d.words == 0) ≡ false = grind arith in
      let bottom : min d.wrap_bottom (length d.words - 1) ≡ d.wrap_bottom = omega (arith, within) in
      rw (e, some, bottom) refl
