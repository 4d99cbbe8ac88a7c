-- What taken words ask for is given, command by command.
use Rattle.std.proofs.Common.{◌≡◌, ◌∙◌, ◌++◌, ◌||◌, ◌&&◌, ℕ, Bool, true, false, cond, not, List, [], ◌∷◌, Option, Some, None, is_some, option_map, option_and_then, refl, sym, ap, subst, drop, true≢false, append_assoc, codes, unwrap_or, IfSome, inl, inr, min, max, slice_get, arith, ◌⊎◌, if◌then◌else◌}
use Rattle.std.specs.List.{AllByRecursion, find, list_all, list_any}
use Rattle.std.specs.Option.{option_map_or}
use Rattle.std.specs.Str.{bytes_eq}
use Rattle.std.proofs.lemmas.Bool.{or_cases, not-true}
use Rattle.clap.specs.Faults.{level_fault}
use Rattle.clap.specs.Simple.{App, Shape, argument_words, built, built_leaf, help_shape, inherited, label_of, marked_built, names_of, subcommand_of, with_leaf_noted}
use Rattle.clap.specs.ValueTests.{is_unsigned_in}
use Rattle.clap.specs.Walk.{Row, Rule, Text, answers_to, first_of, has_long, nothing_held, row_text, rows_after}
use Rattle.clap.proofs.OnLiterals.{clap_on_literals}
use Rattle.clap.proofs.WalkLemmas.{both}
use Rattle.command_line.specs.Given.{GivesNumber, GivesText, GivesWord, IsGiven, TakenWords}
use Rattle.command_line.specs.Laws.{number_of}
use Rattle.command_line.specs.Tool.{bit_limit, clock_limit, divider_limit, least_bit, least_divider, pin_limit, seed_limit, side_limit, tool, asm_app, run_app, dis_app, check_app, gen_app, table_app, recheck_app, shares_app, measure_app, receive_app, uart_app, pair_app, inspect_app}
use Rattle.command_line.specs.Words.{Asked, asked_of, number_at, number_in, subcommand_asked, text_at}
use Rattle.command_line.proofs.Usual.{in_range, range_read}
use Rattle.command_line.proofs.Spelled.{alone_text, attached_text}
use Rattle.command_line.proofs.Rows.{Stands, attached, found_passes, is_among, is_filled, is_named, is_ordinary, is_passed, is_placed, is_stored, follows, placed, same_text, stored, text_is}
use Rattle.command_line.proofs.Levels.{AreBeside, Entered, Has, LevelGives, beside_all, has_given, has_row_of, level_gives, needed_given, parse_enters}

-- ---- from where a value stands to what the words give

-- an argument of this id is an option with this name alone; is a positional without a name; has nothing stored
abbrev is_long_rule : Text → Rule → Bool
is_long_rule id a =
    not (bytes_eq a.id id) || (option_map_or (λ l. bytes_eq l id) a.long false && (not (is_filled a.aliases) && not (is_some a.index)))

abbrev is_file_rule : Text → Rule → Bool
is_file_rule id a = not (bytes_eq a.id id) || (not (is_some a.long) && not (is_filled a.aliases))

abbrev is_bare_rule : Text → Rule → Bool
is_bare_rule id a = not (bytes_eq a.id id) || (not (is_filled a.missing) && not (is_filled a.defaults))

some_rule : (p q : Rule → Bool) (c : List Rule) → list_all p c ≡ true → list_any q c ≡ true → (a : Rule) × (p a ≡ true) × (q a ≡ true)
some_rule p q [] all any = absurd (true≢false (sym any))
some_rule p q (a ∷ more) all any = elim (or_cases (q a) _ any) [
  | inl here ↦ (a, (both (p a) _ all).0, here)
  | inr later ↦ some_rule p q more (both (p a) _ all).1 later
]

past : (b c : Bool) → (not b || c) ≡ true → b ≡ true → c ≡ true
past true c e t = e
past false c e t = absurd (true≢false (sym t))

none_filled : (texts : List Text) (v : Text) → not (is_filled texts) ≡ true → is_among v texts ≡ true → ⊥
none_filled [] v none among = true≢false (sym among)
none_filled (t ∷ ts) v none among = true≢false (sym none)

none_aliased : (texts : List Text) (v : Text) → not (is_filled texts) ≡ true → list_any (λ alias. bytes_eq alias v) texts ≡ true → ⊥
none_aliased [] v none among = true≢false (sym among)
none_aliased (t ∷ ts) v none among = true≢false (sym none)

name_is : (long : Option Text) (aliases : List Text) (id name : Text) → option_map_or (λ l. bytes_eq l id) long false ≡ true → not (is_filled aliases) ≡ true
    → (option_map_or (λ l. bytes_eq l name) long false || list_any (λ alias. bytes_eq alias name) aliases) ≡ true → name ≡ id
name_is None aliases id name is none has = absurd (true≢false (sym is))
name_is (Some l) aliases id name is none has = elim (or_cases (bytes_eq l name) _ has) [
  | inl same ↦ sym (text_is l name same) ∙ text_is l id is
  | inr other ↦ absurd (none_aliased aliases name none other)
]

no_name : (long : Option Text) (aliases : List Text) (name : Text) → not (is_some long) ≡ true → not (is_filled aliases) ≡ true
    → (option_map_or (λ l. bytes_eq l name) long false || list_any (λ alias. bytes_eq alias name) aliases) ≡ true → ⊥
no_name (Some l) aliases name is none has = true≢false (sym is)
no_name None aliases name is none has = none_aliased aliases name none has

nothing_stored : (missing defaults : List Text) (v : Text) → not (is_filled missing) ≡ true → not (is_filled defaults) ≡ true
    → (is_among v missing || is_among v defaults) ≡ true → ⊥
nothing_stored missing defaults v m d e = elim (or_cases (is_among v missing) _ e) [
  | inl among ↦ none_filled missing v m among
  | inr among ↦ none_filled defaults v d among
]

module _ (c : List Rule) (words : List Text) (id : Text) where
  bare : list_all (is_bare_rule id) c ≡ true → (v : Text) → is_stored c id v ≡ true → ⊥
  bare all v e =
      let r = some_rule (is_bare_rule id) (λ a. bytes_eq a.id id && (is_among v a.missing || is_among v a.defaults)) c all e in
      let test = both (bytes_eq r.0.id id) _ r.2 in
      let p = both (not (is_filled r.0.missing)) _ (past (bytes_eq r.0.id id) _ r.1 test.0) in
      nothing_stored r.0.missing r.0.defaults v p.0 p.1 test.1

  long_named : list_all (is_long_rule id) c ≡ true → (name : Text) → is_named c id name ≡ true → name ≡ id
  long_named all name e =
      let r = some_rule (is_long_rule id) (λ a. bytes_eq a.id id && has_long a name) c all e in
      let test = both (bytes_eq r.0.id id) _ r.2 in
      let p = both (option_map_or (λ l. bytes_eq l id) r.0.long false) _ (past (bytes_eq r.0.id id) _ r.1 test.0) in
      name_is r.0.long r.0.aliases id name p.0 (both (not (is_filled r.0.aliases)) _ p.1).0 test.1

  long_unplaced : list_all (is_long_rule id) c ≡ true → is_placed c id ≡ true → ⊥
  long_unplaced all e =
      let r = some_rule (is_long_rule id) (λ a. bytes_eq a.id id && is_some a.index) c all e in
      let test = both (bytes_eq r.0.id id) _ r.2 in
      let p = both (option_map_or (λ l. bytes_eq l id) r.0.long false) _ (past (bytes_eq r.0.id id) _ r.1 test.0) in
      true≢false (sym test.1 ∙ not-true (is_some r.0.index) (both (not (is_filled r.0.aliases)) _ p.1).1)

  -- the value of an option is given, or it is stored
  long_given : list_all (is_long_rule id) c ≡ true → (v : Text) → Stands c words id v → GivesText words id v ⊎ (is_stored c id v ≡ true)
  long_given all v (attached first second name next named long) = inl (record {
    first = first;
    second = second;
    next = next;
    given = inl (attached_text second name id v long (long_named all name named));
  })
  long_given all v (follows first name next named long) = inl (record {
    first = first;
    second = v;
    next = next;
    given = inr (alone_text first name id long (long_named all name named), refl);
  })
  long_given all v (placed first next at) = absurd (long_unplaced all at)
  long_given all v (stored is) = inr is

  option_given : list_all (is_long_rule id) c ≡ true → list_all (is_bare_rule id) c ≡ true → (v : Text) → Stands c words id v → GivesText words id v
  option_given long none v s = elim (long_given long v s) [ inl given ↦ given | inr is ↦ absurd (bare none v is) ]

  file_unnamed : list_all (is_file_rule id) c ≡ true → (name : Text) → is_named c id name ≡ true → ⊥
  file_unnamed all name e =
      let r = some_rule (is_file_rule id) (λ a. bytes_eq a.id id && has_long a name) c all e in
      let test = both (bytes_eq r.0.id id) _ r.2 in
      let p = both (not (is_some r.0.long)) _ (past (bytes_eq r.0.id id) _ r.1 test.0) in
      no_name r.0.long r.0.aliases name p.0 p.1 test.1

  -- and the value of a positional
  file_given : list_all (is_file_rule id) c ≡ true → list_all (is_bare_rule id) c ≡ true → (v : Text) → Stands c words id v → GivesWord words v
  file_given all none v (attached first second name next named long) = absurd (file_unnamed all name named)
  file_given all none v (follows first name next named long) = absurd (file_unnamed all name named)
  file_given all none v (placed first next at) = record { first = first; next = next }
  file_given all none v (stored is) = absurd (bare none v is)

-- ---- the arguments of a subcommand

-- a number in range as it is read
least_read : (least most : ℕ) (text : Text) → is_unsigned_in least most text ≡ true → max (min (number_in text) most) least ≡ number_of text
least_read least most text e =
    let r = in_range least most text e in
    let below = r.greatest in
    let above = r.least in
    rw r.same (omega (arith, above, below))

abbrev is_needed : List Rule → Text → Bool
is_needed c id = list_any (λ a. bytes_eq a.id id && a.required) c

-- where an argument of this id passes, it is a whole number from `least` to `most`
abbrev Whole : List Rule → Text → (least most : ℕ) → Type 0
Whole c id least most = (v : Text) → is_passed c id v ≡ true → is_unsigned_in least most v ≡ true

module _ (s : Shape) (words : List Text) (all : list_all is_ordinary s.rules ≡ true) (rows : List Row) (gives : LevelGives s words all rows) (id : Text) where
  had : is_needed s.rules id ≡ true → Has s.rules words id rows
  had need = has_given s.rules words id rows gives.rows_hold (needed_given s.rules id rows gives.needed need)

  text_is_first : (h : Has s.rules words id rows) → h.text ≡ text_at id rows
  text_is_first h = sym (ap (λ (o : Option Text). unwrap_or o []) h.first)

  text_part : is_needed s.rules id ≡ true → list_all (is_long_rule id) s.rules ≡ true → list_all (is_bare_rule id) s.rules ≡ true → GivesText words id (text_at id rows)
  text_part need long none =
      let h = had need in subst (GivesText words id) (text_is_first h) (option_given s.rules words id long none h.text h.holds.stands)

  file_part : is_needed s.rules id ≡ true → list_all (is_file_rule id) s.rules ≡ true → list_all (is_bare_rule id) s.rules ≡ true → GivesWord words (text_at id rows)
  file_part need plain none =
      let h = had need in subst (GivesWord words) (text_is_first h) (file_given s.rules words id plain none h.text h.holds.stands)

  option_part : list_all (is_long_rule id) s.rules ≡ true → list_all (is_bare_rule id) s.rules ≡ true → IfSome (first_of id rows) (GivesText words id)
  option_part long none = go (find (λ r. bytes_eq r.id id) rows) refl
    where
      go : (o : Option Row) → find (λ r. bytes_eq r.id id) rows ≡ o → IfSome (first_of id rows) (GivesText words id)
      go None is = subst (λ (o : Option Row). IfSome (option_and_then (λ r. slice_get r.values 0) o) (GivesText words id)) (sym is) tt
      go (Some r) is =
          let h = has_row_of s.rules words id rows gives.rows_hold r is in
          subst (λ (o : Option Text). IfSome o (GivesText words id)) (sym h.first) (option_given s.rules words id long none h.text h.holds.stands)

  number_part : (most : ℕ) → is_needed s.rules id ≡ true → list_all (is_long_rule id) s.rules ≡ true → list_all (is_bare_rule id) s.rules ≡ true
      → Whole s.rules id 0 most → GivesNumber words id 0 most (number_at most id rows)
  number_part most need long none whole =
      let h = had need in
      let w = whole h.text h.holds.passes in
      record {
        text = h.text;
        given = option_given s.rules words id long none h.text h.holds.stands;
        whole = w;
        number = ap (λ (o : Option Text). min (option_map_or number_in o 0) most) h.one ∙ range_read most h.text w;
      }

  number_part_from : (least most : ℕ) → is_needed s.rules id ≡ true → list_all (is_long_rule id) s.rules ≡ true → list_all (is_bare_rule id) s.rules ≡ true
      → Whole s.rules id least most → GivesNumber words id least most (max (number_at most id rows) least)
  number_part_from least most need long none whole =
      let h = had need in
      let w = whole h.text h.holds.passes in
      record {
        text = h.text;
        given = option_given s.rules words id long none h.text h.holds.stands;
        whole = w;
        number = ap (λ (o : Option Text). max (min (option_map_or number_in o 0) most) least) h.one ∙ least_read least most h.text w;
      }

  -- a number that need not be given, where 0 is stored
  stored_part : (most : ℕ) → list_all (is_long_rule id) s.rules ≡ true → ((v : Text) → is_stored s.rules id v ≡ true → number_in v ≡ 0) → Whole s.rules id 0 most
      → (number_at most id rows ≡ 0) ⊎ GivesNumber words id 0 most (number_at most id rows)
  stored_part most long zero_stored whole = go (find (λ r. bytes_eq r.id id) rows) refl
    where
      none_least : (n : ℕ) → n ≡ 0 → min n most ≡ 0
      none_least n e = omega (arith, e)

      by_row : (h : Has s.rules words id rows) → GivesText words id h.text ⊎ (is_stored s.rules id h.text ≡ true)
          → (number_at most id rows ≡ 0) ⊎ GivesNumber words id 0 most (number_at most id rows)
      by_row h (inl given) =
          let w = whole h.text h.holds.passes in
          inr (record { text = h.text; given = given; whole = w; number = ap (λ (o : Option Text). min (option_map_or number_in o 0) most) h.one ∙ range_read most h.text w })
      by_row h (inr is) =
          inl (ap (λ (o : Option Text). min (option_map_or number_in o 0) most) h.one ∙ none_least (number_in h.text) (zero_stored h.text is))

      go : (o : Option Row) → find (λ r. bytes_eq r.id id) rows ≡ o → (number_at most id rows ≡ 0) ⊎ GivesNumber words id 0 most (number_at most id rows)
      go None is = inl (ap (λ (o : Option Row). min (option_map_or number_in (option_and_then row_text o) 0) most) is ∙ none_least 0 refl)
      go (Some r) is =
          let h = has_row_of s.rules words id rows gives.rows_hold r is in by_row h (long_given s.rules words id long h.text h.holds.stands)

-- ---- each subcommand

only : (b : Bool) → (b || false) ≡ true → b ≡ true
only true e = refl
only false e = absurd (true≢false (sym e))

-- where the subcommand is entered by another name than `help`, and has no fault, what it asks for is given
abbrev IsGivenIn : Shape → Type 0
IsGivenIn s = (words : List Text) (name before : Text) (rest : List Text) → answers_to name (label_of s) ≡ true → bytes_eq name (codes "help") ≡ false
    → AreBeside words before rest → level_fault s [] nothing_held rest false [] ≡ [] → IsGiven words (subcommand_asked s.name (rows_after s.rules [] rest))

given_in : (s : Shape) (all : list_all is_ordinary s.rules ≡ true) → ((words : List Text) (rows : List Row) → LevelGives s words all rows → IsGiven words (subcommand_asked s.name rows))
    → IsGivenIn s
given_in s all gives words name before rest answers help beside e = gives words _ (level_gives s words all before rest beside e)

not_help : (name : Text) → (bytes_eq (codes "help") name || false) ≡ true → bytes_eq name (codes "help") ≡ false → ⊥
not_help name is other =
    true≢false (sym (subst (λ t. bytes_eq t (codes "help") ≡ true) (text_is (codes "help") name (only _ is)) (same_text (codes "help"))) ∙ other)

-- a subcommand as it is built below `tool`
abbrev below_tool : App → Shape
below_tool a = built_leaf (inherited (with_leaf_noted (marked_built tool.top)) a.top)

asm_in : IsGivenIn (below_tool asm_app)
unfolding clap_on_literals tool
asm_in = given_in (below_tool asm_app) refl (λ words rows g. file_part _ words refl rows g (codes "file") refl refl refl)

run_in : IsGivenIn (below_tool run_app)
unfolding clap_on_literals tool
run_in = given_in (below_tool run_app) refl (λ words rows g. (
  record {
    programs = record {
      program = text_part _ words refl rows g (codes "source") refl refl refl;
      setup = option_part _ words refl rows g (codes "config") refl refl;
    };
    lines = option_part _ words refl rows g (codes "stimulus") refl refl;
  },
  number_part _ words refl rows g (codes "clocks") clock_limit refl refl refl (λ v e. only _ e),
))

zero_is : (v : Text) → bytes_eq v (codes "0") ≡ true → number_in v ≡ 0
zero_is v e = subst (λ t. number_in t ≡ 0) (sym (text_is v (codes "0") e)) refl

dis_in : IsGivenIn (below_tool dis_app)
unfolding clap_on_literals tool
dis_in = given_in (below_tool dis_app) refl (λ words rows g. (
  file_part _ words refl rows g (codes "file") refl refl refl,
  stored_part _ words refl rows g (codes "side") side_limit refl (λ v e. zero_is v (only _ (only _ e))) (λ v e. only _ e),
))

check_in : IsGivenIn (below_tool check_app)
unfolding clap_on_literals tool
check_in = given_in (below_tool check_app) refl (λ words rows g. record {
  program = text_part _ words refl rows g (codes "source") refl refl refl;
  setup = option_part _ words refl rows g (codes "config") refl refl;
})

gen_in : IsGivenIn (below_tool gen_app)
unfolding clap_on_literals tool
gen_in = given_in (below_tool gen_app) refl (λ words rows g. (
  number_part _ words refl rows g (codes "seed") seed_limit refl refl refl (λ v e. only _ e),
  number_part _ words refl rows g (codes "clocks") clock_limit refl refl refl (λ v e. only _ e),
))

table_in : IsGivenIn (below_tool table_app)
unfolding clap_on_literals tool
table_in = given_in (below_tool table_app) refl (λ words rows g. (
  record {
    program = text_part _ words refl rows g (codes "source") refl refl refl;
    setup = option_part _ words refl rows g (codes "config") refl refl;
  },
  text_part _ words refl rows g (codes "span") refl refl refl,
))

recheck_in : IsGivenIn (below_tool recheck_app)
unfolding clap_on_literals tool
recheck_in = given_in (below_tool recheck_app) refl (λ words rows g. (
  record {
    program = text_part _ words refl rows g (codes "source") refl refl refl;
    setup = option_part _ words refl rows g (codes "config") refl refl;
  },
  text_part _ words refl rows g (codes "span") refl refl refl,
  text_part _ words refl rows g (codes "table") refl refl refl,
))

shares_in : IsGivenIn (below_tool shares_app)
unfolding clap_on_literals tool
shares_in = given_in (below_tool shares_app) refl (λ words rows g. record {
  program = text_part _ words refl rows g (codes "source") refl refl refl;
  setup = option_part _ words refl rows g (codes "config") refl refl;
})

measure_in : IsGivenIn (below_tool measure_app)
unfolding clap_on_literals tool
measure_in = given_in (below_tool measure_app) refl (λ words rows g. (
  record {
    programs = record {
      program = text_part _ words refl rows g (codes "source") refl refl refl;
      setup = option_part _ words refl rows g (codes "config") refl refl;
    };
    lines = option_part _ words refl rows g (codes "stimulus") refl refl;
  },
  number_part _ words refl rows g (codes "clocks") clock_limit refl refl refl (λ v e. only _ e),
))

receive_in : IsGivenIn (below_tool receive_app)
unfolding clap_on_literals tool
receive_in = given_in (below_tool receive_app) refl (λ words rows g. (
  record {
    programs = record {
      program = text_part _ words refl rows g (codes "source") refl refl refl;
      setup = option_part _ words refl rows g (codes "config") refl refl;
    };
    lines = option_part _ words refl rows g (codes "stimulus") refl refl;
  },
  number_part _ words refl rows g (codes "clocks") clock_limit refl refl refl (λ v e. only _ e),
  number_part _ words refl rows g (codes "pin") pin_limit refl refl refl (λ v e. only _ e),
  number_part_from _ words refl rows g (codes "bit") least_bit bit_limit refl refl refl (λ v e. only _ e),
))

uart_in : IsGivenIn (below_tool uart_app)
unfolding clap_on_literals tool
uart_in = given_in (below_tool uart_app) refl (λ words rows g. (
  text_part _ words refl rows g (codes "send") refl refl refl,
  number_part_from _ words refl rows g (codes "divider") least_divider divider_limit refl refl refl (λ v e. only _ e),
  number_part _ words refl rows g (codes "clocks") clock_limit refl refl refl (λ v e. only _ e),
))

pair_in : IsGivenIn (below_tool pair_app)
unfolding clap_on_literals tool
pair_in = given_in (below_tool pair_app) refl (λ words rows g. (
  record {
    programs = record {
      program = text_part _ words refl rows g (codes "source") refl refl refl;
      setup = text_part _ words refl rows g (codes "config") refl refl refl;
    };
    lines = option_part _ words refl rows g (codes "stimulus") refl refl;
  },
  text_part _ words refl rows g (codes "second") refl refl refl,
  number_part _ words refl rows g (codes "clocks") clock_limit refl refl refl (λ v e. only _ e),
))

inspect_in : IsGivenIn (below_tool inspect_app)
unfolding clap_on_literals tool
inspect_in = given_in (below_tool inspect_app) refl (λ words rows g. (
  record {
    programs = record {
      program = text_part _ words refl rows g (codes "source") refl refl refl;
      setup = option_part _ words refl rows g (codes "config") refl refl;
    };
    lines = option_part _ words refl rows g (codes "stimulus") refl refl;
  },
  number_part _ words refl rows g (codes "clocks") clock_limit refl refl refl (λ v e. only _ e),
))

help_in : IsGivenIn (built_leaf help_shape)
unfolding clap_on_literals tool
help_in words name before rest answers help beside e = absurd (not_help name answers help)

each_in : AllByRecursion IsGivenIn (built tool).subs
unfolding clap_on_literals tool
each_in = (asm_in, (run_in, (dis_in, (check_in, (gen_in, (table_in, (recheck_in, (shares_in, (measure_in, (receive_in, (uart_in, (pair_in, (inspect_in, (help_in, tt))))))))))))))

-- ---- all words

found_in : {X : Type 0} (P : X → Type 0) (p : X → Bool) (xs : List X) (x : X) → AllByRecursion P xs → find p xs ≡ Some x → P x
found_in P p [] x all e = cc
found_in P p (y ∷ ys) x all e = go (p y) (found_in P p ys x all.1) e
  where
    same : Some y ≡ Some x → y ≡ x
    same e = cc

    go : (b : Bool) → (find p ys ≡ Some x → P x) → cond b (Some y) (find p ys) ≡ Some x → P x
    go true rest e = subst P (same e) all.0
    go false rest e = rest e

-- the words that are parsed are the last of a call's
suffix : (b : Bool) (words : List Text) → (front : List Text) × (words ≡ front ++ (if b then words else drop 1 words))
suffix true words = ([], refl)
suffix false [] = ([], refl)
suffix false (w ∷ ws) = (w ∷ [], refl)

helps : (built tool).top.disable_help_subcommand ≡ false
unfolding clap_on_literals tool
helps = refl

not_both : (b c : Bool) → c ≡ false → (b && not c) ≡ false → b ≡ false
not_both true c none e = absurd (true≢false (ap not (sym none) ∙ e))
not_both false c none e = refl

entered_given : (words : List Text) (met : Text × List Row) → Entered (built tool) (argument_words tool words) met → IsGiven words (subcommand_asked met.0 met.1)
entered_given words met h =
    let front = suffix tool.top.no_binary_name words in
    let parts : words ≡ (front.0 ++ h.front) ++ h.word ∷ h.rest = front.1 ∙ ap (λ l. front.0 ++ l) h.parts ∙ sym (append_assoc front.0 h.front (h.word ∷ h.rest)) in
    let given = found_in IsGivenIn (λ s. answers_to h.name (label_of s)) (built tool).subs h.shape each_in h.found words h.name h.word h.rest
    (found_passes (λ s. answers_to h.name (label_of s)) (built tool).subs h.shape h.found)
    (not_both (bytes_eq h.name (codes "help")) _ helps h.open_) (beside_all words (front.0 ++ h.front) h.word h.rest parts) h.passes in
    subst (λ (n : Text). IsGiven words (subcommand_asked n met.1)) h.named
    (subst (λ (l : List Row). IsGiven words (subcommand_asked h.shape.name l)) h.rows given)

pub taken_words_law : TakenWords
unfolding asked_of
taken_words_law words a asks = go (subcommand_of tool words) refl asks.asked
  where
    same : (x y : Asked) → Some x ≡ Some y → x ≡ y
    same x y e = cc

    go : (o : Option (Text × List Row)) → subcommand_of tool words ≡ o → option_map (λ met. subcommand_asked met.0 met.1) o ≡ Some a → IsGiven words a
    go None is e = cc
    go (Some met) is e =
        subst (IsGiven words) (same _ a e) (entered_given words met (parse_enters (built tool) (names_of (built tool)) (argument_words tool words) met asks.taken is))
