-- What a level of clap's parse gives, and which level it enters, where it has no fault.
use Rattle.std.proofs.Common.{◌≡◌, ◌∙◌, ◌++◌, ◌||◌, ◌&&◌, ℕ, Bool, true, false, cond, not, List, [], ◌∷◌, Option, Some, None, is_some, option_map, option_and_then, refl, sym, ap, subst, true≢false, append_assoc, append-nil, slice_get, codes, unwrap_or, inl, inr, length, arith, ne_eqb}
use Rattle.std.specs.List.{AllByRecursion, find, fold, list_all, list_any}
use Rattle.std.specs.Option.{option_map_or}
use Rattle.std.specs.Str.{bytes_eq}
use Rattle.std.proofs.lemmas.Bool.{and_right, or_cases, or_parts, or_right, not-false}
use Rattle.clap.specs.Facts.{explicit_source}
use Rattle.clap.specs.Faults.{default_fault, defaults_fault, entered_fault, given_default_fault, level_fault, values_fault, other_fault, step_fault, turn_fault, walk_fault, word_fault}
use Rattle.clap.specs.Kinds.{Kinds, check_kinds, or_else, request_kinds}
use Rattle.clap.specs.Lexer.{long_of}
use Rattle.clap.specs.Simple.{App, Shape, entered, label_of, rows_at}
use Rattle.clap.specs.Takes.{is_given}
use Rattle.clap.specs.Values.{read_as}
use Rattle.clap.specs.Walk.{Names as Subcommands, Held, Outcome, Row, Rule, Step, Text, Waiting, Walk, action_of, after_flag, after_step, answers_to, arg_by_index, default_rows, done, first_of, has_row, idle, is_empty, long_or_other, next, nothing_held, one_of, option, plain, plain_word, positional, reading_by, refused, row_text, rows_after, short_or_plain, subcommand, subcommand_met, subcommand_or_other, to_positional, trailing, value, waits, walk, walk_from, walked, walked_from, with_default, word_met}
use Rattle.clap.specs.declared.builder.value_parser.Reading.{Reading}
use Rattle.clap.specs.declared.error.kind.ErrorKind.TheVariants as kind
use Rattle.clap.specs.declared.parser.matches.ValueSource.TheVariants.{DefaultValue}
use Rattle.clap.proofs.WalkLemmas.{both}
use Rattle.command_line.specs.Given.{AreNext}
use Rattle.command_line.proofs.Rows.{HeldHolds, IsFilled, IsOf, RowHolds, RowsHold, ValueHolds, all_of, found_passes, is_among, is_ordinary, neither, ordinary, settle_holds, stored_among, text_is, values_hold, with_values_holds}
use Rattle.command_line.proofs.Turns.{WalkHolds, turn_holds}

-- each two words in a row of these, the first of which comes after `before`
abbrev pub AreBeside : List Text → Text → List Text → Type 0
AreBeside words before [] = Unit {0}
AreBeside words before (x ∷ xs) = AreNext words before x × AreBeside words x xs

pub beside_all : (words front : List Text) (before : Text) (xs : List Text) → words ≡ front ++ before ∷ xs → AreBeside words before xs
beside_all words front before [] e = tt
beside_all words front before (x ∷ xs) e = (
  record { before = front; after = xs; parts = e },
  beside_all words (front ++ before ∷ []) x xs (e ∙ sym (append_assoc front (before ∷ []) (x ∷ xs))),
)

-- defaults that are there are given
some_given : (t : Text) (ts : List Text) (kinds : Kinds) → cond (false || is_empty (t ∷ ts)) [] kinds ≡ [] → kinds ≡ []
some_given t ts kinds e = go (is_empty (t ∷ ts)) (ne_eqb (length (t ∷ ts)) 0 (λ none. omega (arith, none))) e
  where
    go : (b : Bool) → b ≡ false → cond b [] kinds ≡ [] → kinds ≡ []
    go true none e = absurd (true≢false none)
    go false none e = e

module _ (s : Shape) (words : List Text) (all : list_all is_ordinary s.rules ≡ true) where
  walk_holds : (names : Subcommands) (before : Text) (xs : List Text) (w : Walk) → AreBeside words before xs → walk_fault s names w xs ≡ []
      → WalkHolds s.rules words before w → HeldHolds s.rules words (fold (walked s.rules names) w xs).held
  unfolding walk_fault
  walk_holds names before [] w beside e h = h.held
  walk_holds names before (x ∷ xs) w beside e h =
      let p = neither _ _ e in
      walk_holds names x xs (walked s.rules names w x) beside.1 p.1 (turn_holds s names words all before x beside.0 w p.0 h)

  -- ---- defaults

  default_holds : (a : Rule) (rows : List Row) → IsOf s.rules a → default_fault rows a ≡ [] → RowsHold s.rules words rows → RowsHold s.rules words (with_default rows a)
  default_holds a rows o e h = go (has_row a.id rows) a.defaults refl e
    where
      go : (b : Bool) (texts : List Text) → a.defaults ≡ texts → cond (b || is_empty texts) [] (given_default_fault a texts) ≡ []
          → RowsHold s.rules words (cond b rows (default_rows a.id (reading_by a) texts rows))
      go true texts is e = h
      go false [] is e = h
      go false (t ∷ ts) is e =
          with_values_holds s.rules words a.id (reading_by a) DefaultValue (t ∷ ts) rows (ordinary s.rules a all o).written tt
          (values_hold s.rules words a (t ∷ ts) o (neither (request_kinds (action_of a)) (values_fault a (t ∷ ts)) (some_given t ts _ e)).1
          (stored_among s.rules words a (t ∷ ts) o (λ v among. or_right (is_among v a.missing) (is_among v a.defaults) (subst (λ ds. is_among v ds ≡ true) (sym is) among)))) h

  defaults_hold : (rules : List Rule) (rows : List Row) → AllByRecursion (IsOf s.rules) rules → defaults_fault rows rules ≡ [] → RowsHold s.rules words rows
      → RowsHold s.rules words (fold with_default rows rules)
  unfolding defaults_fault
  defaults_hold [] rows of e h = h
  defaults_hold (a ∷ more) rows of e h =
      let p = neither _ _ e in defaults_hold more (with_default rows a) of.1 p.1 (default_holds a rows of.0 p.0 h)

  -- ---- a level

  -- each value passes and stands in the words, and each argument that is needed is there
  pub record LevelGives (rows : List Row) : Type 0 where
    pub rows_hold : RowsHold s.rules words rows
    pub needed : list_any (λ a. a.required && not (is_given a.id rows)) s.rules ≡ false

  last_check : (help sub argument : Bool) → check_kinds help sub argument ≡ [] → argument ≡ false
  last_check true sub argument e = cc
  last_check false true argument e = cc
  last_check false false true e = cc
  last_check false false false e = refl

  and_of : (b c : Bool) → b ≡ false → (not b && c) ≡ false → c ≡ false
  and_of true c none e = absurd (true≢false none)
  and_of false c none e = e

  pub level_gives : (before : Text) (xs : List Text) → AreBeside words before xs → level_fault s [] nothing_held xs false [] ≡ [] → LevelGives (rows_after s.rules [] xs)
  level_gives before xs beside e =
      let walked_on = neither _ _ e in
      let settling = neither _ _ walked_on.1 in
      let filling = neither _ _ settling.1 in
      let held = walk_holds [] before xs (walk_from nothing_held) beside walked_on.0 start in
      record {
        rows_hold = defaults_hold s.rules _ (all_of s.rules) filling.0 (settle_holds s.rules words all s.args_override_self _ settling.0 held);
        needed = and_of (s.subcommand_negates_reqs && false) _ (and_right s.subcommand_negates_reqs false refl) (last_check _ _ _ filling.1);
      }
    where
      start : WalkHolds s.rules words before (walk_from nothing_held)
      start = record { held = record { rows = tt; pending = tt }; waiting = λ none trails. tt }

-- ---- where a walk stops

-- the step is no subcommand, or one that may be entered
abbrev Enters : Shape → Step → Type 0
Enters s (subcommand name) = (bytes_eq name (codes "help") && not s.disable_help_subcommand) ≡ false
Enters s (next waiting) = Unit {0}
Enters s (trailing position) = Unit {0}
Enters s value = Unit {0}

plain_enters : (s : Shape) (c : List Rule) (waiting : Waiting) (word : Text) (h : Held) → Enters s (plain_word c waiting word h).1
plain_enters s c (option id) word h = tt
plain_enters s c idle word h = tt
plain_enters s c positional word h = tt

flag_enters : (s : Shape) (c : List Rule) (waiting : Waiting) (word : Text) (h : Held) (o : Outcome) → Enters s (after_flag c waiting word h o).1
flag_enters s c waiting word h done = tt
flag_enters s c waiting word h (waits id) = tt
flag_enters s c waiting word h plain = plain_enters s c waiting word h
flag_enters s c waiting word h refused = plain_enters s c waiting word h

short_enters : (s : Shape) (c : List Rule) (waiting : Waiting) (word : Text) (h : Held) (o : Option Text) → Enters s (short_or_plain c waiting word o h).1
short_enters s c waiting word h None = plain_enters s c waiting word h
short_enters s c waiting word h (Some flags) = flag_enters s c waiting word _ _

long_enters : (s : Shape) (c : List Rule) (waiting : Waiting) (word : Text) (h : Held) (o : Option (Text × Option Text)) → Enters s (long_or_other c waiting word o h).1
long_enters s c waiting word h None = short_enters s c waiting word h _
long_enters s c waiting word h (Some p) = flag_enters s c waiting word _ _

module _ (s : Shape) (names : Subcommands) where
  not_refused : (b : Bool) (kinds : Kinds) → cond b (kind.DisplayHelp ∷ kinds) [] ≡ [] → b ≡ false
  not_refused true kinds e = cc
  not_refused false kinds e = refl

  other_enters : (o : Option Text) (waiting : Waiting) (position : ℕ) (word : Text) (h : Held) → other_fault s o word h ≡ []
      → Enters s (subcommand_or_other s.rules o waiting position word h).1
  other_enters (Some name) waiting position word h e = not_refused _ _ e
  other_enters None waiting position word h e = go (bytes_eq word (45 ∷ 45 ∷ []))
    where
      go : (b : Bool) → Enters s (cond b (h, trailing position) (long_or_other s.rules waiting word (long_of word) h)).1
      go true = tt
      go false = long_enters s s.rules waiting word h _

  word_enters : (trails : Bool) (waiting : Waiting) (position : ℕ) (word : Text) (h : Held) → word_fault s names trails waiting word h ≡ []
      → Enters s (word_met s.rules names trails waiting position word h).1
  word_enters true waiting position word h e = tt
  word_enters false waiting position word h e = other_enters (subcommand_met names waiting word) waiting position word h e

  -- the walk stopped at a word, after which these came; it may be entered
  abbrev pub StopsIn : List Text → Option (Text × List Text) → Type 0
  StopsIn words None = Unit {0}
  StopsIn words (Some p) =
      (front : List Text) × (word : Text) × (words ≡ front ++ word ∷ p.1) × ((bytes_eq p.0 (codes "help") && not s.disable_help_subcommand) ≡ false)

  stop_after_step : (seen : List Text) (word : Text) (w : Walk) (h : Held) (step : Step) → w.stopped ≡ None → Enters s step
      → StopsIn (seen ++ word ∷ []) (after_step s.rules word w h step).stopped
  stop_after_step seen word w h (next waiting) none enters = subst (StopsIn (seen ++ word ∷ [])) (sym none) tt
  stop_after_step seen word w h (trailing position) none enters = subst (StopsIn (seen ++ word ∷ [])) (sym none) tt
  stop_after_step seen word w h (subcommand name) none enters = (seen, word, refl, enters)
  stop_after_step seen word w h value none enters = go (arg_by_index s.rules w.position)
    where
      go : (o : Option Rule) → StopsIn (seen ++ word ∷ []) (to_positional s.rules o word w h).stopped
      go None = subst (StopsIn (seen ++ word ∷ [])) (sym none) tt
      go (Some a) = tt

  stop_turn : (seen : List Text) (word : Text) (w : Walk) → turn_fault s names w word ≡ [] → StopsIn seen w.stopped
      → StopsIn (seen ++ word ∷ []) (walked s.rules names w word).stopped
  unfolding walked
  stop_turn seen word w e h = go w.stopped refl e h
    where
      go : (stop : Option (Text × List Text)) → w.stopped ≡ stop
          → cond (is_some stop) [] (or_else (word_fault s names w.is_trailing w.waiting word w.held)
          (step_fault s w.position (word_met s.rules names w.is_trailing w.waiting w.position word w.held).0
          (word_met s.rules names w.is_trailing w.waiting w.position word w.held).1)) ≡ []
          → StopsIn seen stop → StopsIn (seen ++ word ∷ []) (walked_from s.rules names stop w word).stopped
      go (Some p) is e h = (h.0, h.1, ap (λ l. l ++ word ∷ []) h.2 ∙ append_assoc h.0 (h.1 ∷ p.1) (word ∷ []), h.3)
      go None is e h = stop_after_step seen word w _ _ is (word_enters w.is_trailing w.waiting w.position word w.held (neither _ _ e).0)

  pub walk_stops : (seen xs : List Text) (w : Walk) → walk_fault s names w xs ≡ [] → StopsIn seen w.stopped
      → StopsIn (seen ++ xs) (fold (walked s.rules names) w xs).stopped
  unfolding walk_fault
  walk_stops seen [] w e h = subst (λ l. StopsIn l w.stopped) (sym (append-nil seen)) h
  walk_stops seen (x ∷ xs) w e h =
      let p = neither _ _ e in
      subst (λ l. StopsIn l (fold (walked s.rules names) (walked s.rules names w x) xs).stopped) (append_assoc seen (x ∷ []) xs)
      (walk_stops (seen ++ x ∷ []) xs (walked s.rules names w x) p.1 (stop_turn seen x w p.0 h))

-- ---- the subcommand

-- what was entered: the shape of a subcommand that answers to the name, the words after it, and its matches
pub record Entered (a : App) (words : List Text) (met : Text × List Row) : Type 0 where
  pub shape : Shape
  pub name : Text
  pub rest : List Text
  pub front : List Text
  pub word : Text
  pub parts : words ≡ front ++ word ∷ rest
  pub open_ : (bytes_eq name (codes "help") && not a.top.disable_help_subcommand) ≡ false
  pub found : find (λ s. answers_to name (label_of s)) a.subs ≡ Some shape
  pub passes : level_fault shape [] nothing_held rest false [] ≡ []
  pub named : shape.name ≡ met.0
  pub rows : rows_after shape.rules [] rest ≡ met.1

entered_by : (a : App) (words : List Text) (stop : Option (Text × List Text)) (met : Text × List Row) → StopsIn a.top [] words stop → entered_fault a stop ≡ []
    → entered a stop ≡ Some met → Entered a words met
entered_by a words None met h e is = cc
entered_by a words (Some p) met h e is = go (find (λ s. answers_to p.0 (label_of s)) a.subs) refl e is
  where
    go : (o : Option Shape) → find (λ s. answers_to p.0 (label_of s)) a.subs ≡ o → option_map_or (λ s. level_fault s [] nothing_held p.1 false []) o [] ≡ []
        → option_map (λ s. rows_at s p.1) o ≡ Some met → Entered a words met
    go None found e is = cc
    go (Some s) found e is = record {
      shape = s;
      name = p.0;
      rest = p.1;
      front = h.0;
      word = h.1;
      parts = h.2;
      open_ = h.3;
      found = found;
      passes = e;
      named = ap (λ (o : Option (Text × List Row)). (unwrap_or o (s.name, [])).0) is;
      rows = ap (λ (o : Option (Text × List Row)). (unwrap_or o ([], rows_after s.rules [] p.1)).1) is;
    }

-- a parse without a fault, and the subcommand that it entered
pub parse_enters : (a : App) (names : Subcommands) (words : List Text) (met : Text × List Row)
    → level_fault a.top names nothing_held words (is_some (entered a (walk a.top.rules names nothing_held words).stopped)) (entered_fault a (walk a.top.rules names nothing_held words).stopped) ≡ []
    → entered a (walk a.top.rules names nothing_held words).stopped ≡ Some met → Entered a words met
parse_enters a names words met e is =
    let p = neither _ _ e in
    entered_by a words _ met (walk_stops a.top names [] words (walk_from nothing_held) p.0 tt) (neither _ _ p.1).0 is

-- ---- what a subcommand's matches have

-- the value of an argument, which passes and stands in the words
pub record Has (c : List Rule) (words : List Text) (id : Text) (rows : List Row) : Type 0 where
  pub text : Text
  pub first : first_of id rows ≡ Some text
  pub one : one_of id rows ≡ Some text
  pub holds : ValueHolds c words id text

row_of : (c : List Rule) (words : List Text) (p : Row → Bool) (rows : List Row) (r : Row) → RowsHold c words rows → find p rows ≡ Some r → RowHolds c words r
row_of c words p [] r h e = cc
row_of c words p (x ∷ xs) r h e = go (p x) (row_of c words p xs r h.1) e
  where
    go : (b : Bool) → (find p xs ≡ Some r → RowHolds c words r) → cond b (Some x) (find p xs) ≡ Some r → RowHolds c words r
    go true rest e = subst (RowHolds c words) (same x r e) h.0
      where
        same : (x y : Row) → Some x ≡ Some y → x ≡ y
        same x y e = cc
    go false rest e = rest e

module _ (c : List Rule) (words : List Text) (id : Text) (rows : List Row) (h : RowsHold c words rows) where
  pub has_row_of : (r : Row) → find (λ x. bytes_eq x.id id) rows ≡ Some r → Has c words id rows
  has_row_of r is = go r.values refl held.some held.values
    where
      held : RowHolds c words r
      held = row_of c words (λ x. bytes_eq x.id id) rows r h is

      go : (vs : List Text) → r.values ≡ vs → IsFilled vs → AllByRecursion (ValueHolds c words r.id) vs → Has c words id rows
      go [] same filled holds = absurd filled
      go (v ∷ vs) same filled holds = record {
        text = v;
        first = ap (option_and_then (λ (x : Row). slice_get x.values 0)) is ∙ ap (λ (l : List Text). slice_get l 0) same;
        one = ap (option_and_then row_text) is ∙ ap (λ (l : List Text). option_map (read_as r.reading) (slice_get l 0)) same ∙ ap (λ (how : Reading). Some (read_as how v)) held.written;
        holds = subst (λ t. ValueHolds c words t v) (text_is r.id id (found_passes (λ x. bytes_eq x.id id) rows r is)) holds.0;
      }

  pub has_given : is_given id rows ≡ true → Has c words id rows
  has_given e = go (find (λ x. bytes_eq x.id id) rows) refl e
    where
      go : (o : Option Row) → find (λ x. bytes_eq x.id id) rows ≡ o → option_map_or (λ r. explicit_source r.source) o false ≡ true → Has c words id rows
      go None is e = absurd (true≢false (sym e))
      go (Some r) is e = has_row_of r is

-- an argument that is needed is given
pub needed_given : (c : List Rule) (id : Text) (rows : List Row) → list_any (λ a. a.required && not (is_given a.id rows)) c ≡ false
    → list_any (λ a. bytes_eq a.id id && a.required) c ≡ true → is_given id rows ≡ true
needed_given [] id rows e t = absurd (true≢false (sym t))
needed_given (a ∷ more) id rows e t = elim (or_cases (bytes_eq a.id id && a.required) _ t) [
  | inl here ↦ by_rule (both (bytes_eq a.id id) _ here) (or_parts (a.required && not (is_given a.id rows)) _ e).0
  | inr later ↦ needed_given more id rows (or_parts (a.required && not (is_given a.id rows)) _ e).1 later
]
  where
    by_rule : (bytes_eq a.id id ≡ true) × (a.required ≡ true) → (a.required && not (is_given a.id rows)) ≡ false → is_given id rows ≡ true
    by_rule p e =
        let open_ : not (is_given a.id rows) ≡ false = subst (λ b. (b && not (is_given a.id rows)) ≡ false) p.1 e in
        subst (λ t. is_given t rows ≡ true) (text_is a.id id p.0) (not-false _ open_)
