-- What clap's rows hold where no step has a fault: each value passes its argument's parser, and stands among the words.
use Rattle.std.proofs.Common.{◌≡◌, ◌++◌, ◌||◌, ◌&&◌, Bool, true, false, cond, not, List, [], ◌∷◌, Option, Some, None, is_some, refl, sym, subst, length, nat_lt, true≢false}
use Rattle.std.specs.List.{AllByRecursion, find, list_all, list_any}
use Rattle.std.specs.Option.{option_map_or}
use Rattle.std.specs.Str.{bytes_eq}
use Rattle.std.proofs.lemmas.Bool.{and_from, or_left, or_right, not-true}
use Rattle.std.proofs.lemmas.Option.{same_Some}
use Rattle.std.proofs.lemmas.Slice.Eq.{bytes_eq-Decides}
use Rattle.clap.specs.Facts.{parser_of_value, unwrap_or_range}
use Rattle.clap.specs.Faults.{action_fault, settle_fault, use_fault, values_fault}
use Rattle.clap.specs.Kinds.{Kinds, or_else, range_kinds, value_kinds}
use Rattle.clap.specs.Lexer.{long_of}
use Rattle.clap.specs.Takes.{value_passes}
use Rattle.clap.specs.Values.{refused_kind}
use Rattle.clap.specs.ValueTests.{accepts}
use Rattle.clap.specs.Walk.{Held, Row, Rule, Text, action_of, arg_by_id, at_row, has_long, more_values, most_values, reacted, reading_by, settled_rows, stronger, takes_several, takes_values, used, used_as, used_by_id, values_or_missing, with_values, without}
use Rattle.clap.specs.declared.builder.action.ArgAction.{ArgAction}
use Rattle.clap.specs.declared.builder.action.ArgAction.TheVariants as action
use Rattle.clap.specs.declared.builder.value_parser.Reading.{Reading}
use Rattle.clap.specs.declared.builder.value_parser.Reading.TheVariants as reading
use Rattle.clap.specs.declared.error.kind.ErrorKind.{ErrorKind}
use Rattle.clap.specs.declared.error.kind.ErrorKind.TheVariants as kind
use Rattle.clap.specs.declared.parser.matches.ValueSource.{ValueSource}
use Rattle.clap.specs.declared.parser.matches.ValueSource.TheVariants.{CommandLine}
use Rattle.clap.proofs.WalkLemmas.{both}
use Rattle.command_line.specs.Given.{AreNext}

-- ---- one of the arguments

-- the argument is one of these: a test that it passes some pass, and one that all pass it passes
pub record IsOf (c : List Rule) (a : Rule) : Type 0 where
  pub any : (q : Rule → Bool) → q a ≡ true → list_any q c ≡ true
  pub each : (q : Rule → Bool) → list_all q c ≡ true → q a ≡ true

pub of_head : (x : Rule) (xs : List Rule) → IsOf (x ∷ xs) x
of_head x xs = record { any = λ q e. or_left (q x) (list_any q xs) e; each = λ q e. (both (q x) (list_all q xs) e).0 }

pub of_tail : (x : Rule) (xs : List Rule) (a : Rule) → IsOf xs a → IsOf (x ∷ xs) a
of_tail x xs a o = record {
  any = λ q e. or_right (q x) (list_any q xs) (o.any q e);
  each = λ q e. o.each q (both (q x) (list_all q xs) e).1;
}

-- an argument that was found is one of those, and passes the test
pub found_of : (p : Rule → Bool) (c : List Rule) (a : Rule) → find p c ≡ Some a → IsOf c a
found_of p [] a e = cc
found_of p (x ∷ xs) a e = go (p x) (found_of p xs a) e
  where
    go : (b : Bool) → (find p xs ≡ Some a → IsOf xs a) → cond b (Some x) (find p xs) ≡ Some a → IsOf (x ∷ xs) a
    go true rest e = subst (IsOf (x ∷ xs)) (same_Some x a e) (of_head x xs)
    go false rest e = of_tail x xs a (rest e)

pub found_passes : {X : Type 0} (p : X → Bool) (c : List X) (a : X) → find p c ≡ Some a → p a ≡ true
found_passes p [] a e = cc
found_passes p (x ∷ xs) a e = go (p x) refl (found_passes p xs a) e
  where
    go : (b : Bool) → p x ≡ b → (find p xs ≡ Some a → p a ≡ true) → cond b (Some x) (find p xs) ≡ Some a → p a ≡ true
    go true is rest e = subst (λ y. p y ≡ true) (same_Some x a e) is
    go false is rest e = rest e

-- each argument of a list is one of it
pub all_of : (c : List Rule) → AllByRecursion (IsOf c) c
all_of [] = tt
all_of (x ∷ xs) = (of_head x xs, each xs (all_of xs))
  where
    each : (ys : List Rule) → AllByRecursion (IsOf xs) ys → AllByRecursion (IsOf (x ∷ xs)) ys
    each [] h = tt
    each (y ∷ ys) h = (of_tail x xs y h.0, each ys h.1)

pub same_text : (t : Text) → bytes_eq t t ≡ true
same_text t = (bytes_eq-Decides t t).1 refl

pub text_is : (s t : Text) → bytes_eq s t ≡ true → s ≡ t
text_is s t e = (bytes_eq-Decides s t).0 e

-- ---- ordinary arguments

abbrev pub IsFilled : {X : Type 0} → List X → Type 0
IsFilled [] = ⊥
IsFilled (x ∷ xs) = Unit {0}

abbrev pub is_filled : {X : Type 0} → List X → Bool
is_filled [] = false
is_filled (x ∷ xs) = true

abbrev pub is_as_written : Reading → Bool
is_as_written reading.AsWritten = true
is_as_written _ = false

abbrev pub has_no_short : Rule → Bool
has_no_short a = not (is_some a.short) && not (is_filled a.short_aliases)

-- an option with a value, a flag, or one that asks for help; only the last may have a short name
abbrev pub suits : ArgAction → Rule → Bool
suits action.Set a = nat_lt 0 (unwrap_or_range a.range).start_inclusive && has_no_short a
suits action.SetTrue a = is_filled a.missing && has_no_short a
suits action.Help a = not (takes_values a)
suits _ a = false

-- it has one value at most, which is read as it is written
abbrev pub is_ordinary : Rule → Bool
is_ordinary a = is_as_written (reading_by a) && (not (takes_several a) && (not (nat_lt 1 (most_values a)) && suits (action_of a) a))

-- the same, one by one
pub record Ordinary (a : Rule) : Type 0 where
  pub written : reading_by a ≡ reading.AsWritten
  pub single : takes_several a ≡ false
  pub most : nat_lt 1 (most_values a) ≡ false
  pub fits : suits (action_of a) a ≡ true

as_written : (r : Reading) → is_as_written r ≡ true → r ≡ reading.AsWritten
as_written reading.AsWritten e = refl
as_written reading.WithoutMinus e = absurd (true≢false (sym e))
as_written reading.Boolish e = absurd (true≢false (sym e))
as_written reading.Falsey e = absurd (true≢false (sym e))

pub ordinary : (c : List Rule) (a : Rule) → list_all is_ordinary c ≡ true → IsOf c a → Ordinary a
ordinary c a all o =
    let p = both (is_as_written (reading_by a)) _ (o.each is_ordinary all) in
    let q = both (not (takes_several a)) _ p.1 in
    let r = both (not (nat_lt 1 (most_values a))) _ q.1 in
    record { written = as_written _ p.0; single = not-true _ q.0; most = not-true _ r.0; fits = r.1 }

-- ---- where a value stands

-- an option of this id has this name; a positional has this id; a value is stored with an argument of this id
abbrev pub is_named : List Rule → (id name : Text) → Bool
is_named c id name = list_any (λ a. bytes_eq a.id id && has_long a name) c

abbrev pub is_placed : List Rule → Text → Bool
is_placed c id = list_any (λ a. bytes_eq a.id id && is_some a.index) c

abbrev pub is_among : Text → List Text → Bool
is_among v texts = list_any (bytes_eq v) texts

abbrev pub is_stored : List Rule → (id v : Text) → Bool
is_stored c id v = list_any (λ a. bytes_eq a.id id && (is_among v a.missing || is_among v a.defaults)) c

-- a value is part of a word, or the word after its option's; or a positional's word; or it is stored with its argument
pub data Stands (c : List Rule) (words : List Text) (id v : Text) : Type 0 where
  attached : (first second name : Text) → AreNext words first second → is_named c id name ≡ true → long_of second ≡ Some (name, Some v) → Stands c words id v
  follows : (first name : Text) → AreNext words first v → is_named c id name ≡ true → long_of first ≡ Some (name, None) → Stands c words id v
  placed : (first : Text) → AreNext words first v → is_placed c id ≡ true → Stands c words id v
  stored : is_stored c id v ≡ true → Stands c words id v

-- an argument with this id takes the value
abbrev pub is_passed : List Rule → (id v : Text) → Bool
is_passed c id v = list_any (λ a. bytes_eq a.id id && value_passes a v) c

pub record ValueHolds (c : List Rule) (words : List Text) (id v : Text) : Type 0 where
  pub passes : is_passed c id v ≡ true
  pub stands : Stands c words id v

-- ---- rows

pub record RowHolds (c : List Rule) (words : List Text) (r : Row) : Type 0 where
  pub values : AllByRecursion (ValueHolds c words r.id) r.values
  pub some : IsFilled r.values
  pub written : r.reading ≡ reading.AsWritten

abbrev pub RowsHold : List Rule → List Text → List Row → Type 0
RowsHold c words rows = AllByRecursion (RowHolds c words) rows

all_append : {X : Type 0} (P : X → Type 0) (xs ys : List X) → AllByRecursion P xs → AllByRecursion P ys → AllByRecursion P (xs ++ ys)
all_append P [] ys h k = k
all_append P (x ∷ xs) ys h k = (h.0, all_append P xs ys h.1 k)

filled_more : {X : Type 0} (xs ys : List X) → IsFilled xs → IsFilled (xs ++ ys)
filled_more [] ys h = absurd h
filled_more (x ∷ xs) ys h = tt

pub neither : (a b : Kinds) → or_else a b ≡ [] → (a ≡ []) × (b ≡ [])
neither [] b e = (refl, e)
neither (k ∷ ks) b e = cc

-- no kind is none
pub none_refused : {T : Type 0} {k : ErrorKind} {ks : Kinds} → k ∷ ks ≡ [] → T
none_refused e = cc

value_passed : (a : Rule) (v : Text) → value_kinds a.ignore_case (parser_of_value a.parser) v ≡ [] → value_passes a v ≡ true
value_passed a v e = go (accepts a.ignore_case (parser_of_value a.parser) v) (refused_kind (parser_of_value a.parser)) e
  where
    go : (b : Bool) (k : ErrorKind) → cond b [] (k ∷ []) ≡ [] → b ≡ true
    go true k e = refl
    go false k e = cc

module _ (c : List Rule) (words : List Text) where
  at_row_holds : (id : Text) (change : Row → List Row) (missing rows : List Row)
      → ((r : Row) → bytes_eq r.id id ≡ true → RowHolds c words r → RowsHold c words (change r))
      → RowsHold c words missing → RowsHold c words rows → RowsHold c words (at_row id change missing rows)
  at_row_holds id change missing [] f m h = m
  at_row_holds id change missing (r ∷ rs) f m h = go (bytes_eq r.id id) refl (at_row_holds id change missing rs f m h.1)
    where
      go : (b : Bool) → bytes_eq r.id id ≡ b → RowsHold c words (at_row id change missing rs) → RowsHold c words (cond b (change r ++ rs) (r ∷ at_row id change missing rs))
      go true e rest = all_append (RowHolds c words) (change r) rs (f r e h.0) h.1
      go false e rest = (h.0, rest)

  without_holds : (id : Text) (rows : List Row) → RowsHold c words rows → RowsHold c words (without id rows)
  without_holds id rows h = at_row_holds id (λ r. []) [] rows (λ r e held. tt) tt h

  pub with_values_holds : (id : Text) (how : Reading) (s : ValueSource) (values : List Text) (rows : List Row) → how ≡ reading.AsWritten → IsFilled values
      → AllByRecursion (ValueHolds c words id) values → RowsHold c words rows → RowsHold c words (with_values id how s values rows)
  with_values_holds id how s values rows written filled vs h =
      at_row_holds id (more_values s values) (fresh ∷ []) rows (λ r e held. (more r e held, tt)) (record { values = vs; some = filled; written = written }, tt) h
    where
      fresh : Row
      fresh = record { id = id; values = values; count = None; source = Some s; reading = how }

      more : (r : Row) → bytes_eq r.id id ≡ true → RowHolds c words r → RowHolds c words (record r { values = r.values ++ values; source = Some (stronger r.source s) })
      more r e held = record {
        values = all_append (ValueHolds c words r.id) r.values values held.values
            (subst (λ t. AllByRecursion (ValueHolds c words t) values) (sym (text_is r.id id e)) vs);
        some = filled_more r.values values held.some;
        written = held.written;
      }

  -- ---- one use of an argument

  pub values_hold : (a : Rule) (vs : List Text) → IsOf c a → values_fault a vs ≡ [] → AllByRecursion (Stands c words a.id) vs → AllByRecursion (ValueHolds c words a.id) vs
  values_hold a [] o e s = tt
  values_hold a (v ∷ vs) o e s =
      let p = neither _ _ e in (
        record { passes = o.any (λ x. bytes_eq x.id a.id && value_passes x v) (and_from _ _ (same_text a.id) (value_passed a v p.0)); stands = s.0 },
        values_hold a vs o p.1 s.1,
      )

  pub stored_among : (a : Rule) (xs : List Text) → IsOf c a → ((v : Text) → is_among v xs ≡ true → (is_among v a.missing || is_among v a.defaults) ≡ true)
      → AllByRecursion (Stands c words a.id) xs
  stored_among a [] o f = tt
  stored_among a (v ∷ vs) o f = (
    stored (o.any (λ x. bytes_eq x.id a.id && (is_among v x.missing || is_among v x.defaults)) (and_from _ _ (same_text a.id) (f v (or_left _ _ (same_text v))))),
    stored_among a vs o (λ w e. f w (or_right _ _ e)),
  )

  stand_or_missing : (a : Rule) (values : List Text) → IsOf c a → AllByRecursion (Stands c words a.id) values → AllByRecursion (Stands c words a.id) (values_or_missing a values)
  stand_or_missing a [] o s = stored_among a a.missing o (λ v e. or_left _ _ e)
  stand_or_missing a (v ∷ vs) o s = s

  filled_text : (xs : List Text) → is_filled xs ≡ true → IsFilled xs
  filled_text [] e = absurd (true≢false (sym e))
  filled_text (x ∷ xs) e = tt

  refused_if : (b : Bool) (k : ErrorKind) (rest : Kinds) → b ≡ true → cond b (k ∷ []) rest ≡ [] → ⊥
  refused_if true k rest t e = cc
  refused_if false k rest t e = true≢false (sym t)

  set_filled : (a : Rule) (values : List Text) → nat_lt 0 (unwrap_or_range a.range).start_inclusive ≡ true
      → range_kinds (unwrap_or_range a.range).start_inclusive (most_values a) (length values) ≡ [] → IsFilled (values_or_missing a values)
  set_filled a (v ∷ vs) some e = tt
  set_filled a [] some e = absurd (refused_if _ kind.InvalidValue _ (and_from _ _ some refl) e)

  flag_filled : (a : Rule) (values : List Text) → is_filled a.missing ≡ true → IsFilled (values_or_missing a values)
  flag_filled a (v ∷ vs) some = tt
  flag_filled a [] some = filled_text a.missing some

  set_holds : (again : Bool) (a : Rule) (vs : List Text) (rows : List Row) → IsOf c a → Ordinary a → action_fault action.Set again a vs rows ≡ [] → IsFilled vs
      → AllByRecursion (Stands c words a.id) vs → RowsHold c words rows → RowsHold c words (with_values a.id (reading_by a) CommandLine vs (without a.id rows))
  set_holds again a vs rows o ord e filled s h =
      with_values_holds a.id (reading_by a) CommandLine vs (without a.id rows) ord.written filled (values_hold a vs o (neither _ _ e).1 s) (without_holds a.id rows h)

  use_holds : (x : ArgAction) (again : Bool) (a : Rule) (values : List Text) (rows : List Row) → IsOf c a → Ordinary a → suits x a ≡ true
      → range_kinds (unwrap_or_range a.range).start_inclusive (most_values a) (length values) ≡ [] → action_fault x again a (values_or_missing a values) rows ≡ []
      → AllByRecursion (Stands c words a.id) values → RowsHold c words rows → RowsHold c words (used_as x a.id (reading_by a) (values_or_missing a values) rows)
  use_holds action.Set again a values rows o ord suit range e s h =
      set_holds again a (values_or_missing a values) rows o ord e (set_filled a values (both _ _ suit).0 range) (stand_or_missing a values o s) h
  use_holds action.SetTrue again a values rows o ord suit range e s h =
      set_holds again a (values_or_missing a values) rows o ord e (flag_filled a values (both _ _ suit).0) (stand_or_missing a values o s) h
  use_holds action.Help again a values rows o ord suit range e s h = h
  use_holds action.Append again a values rows o ord suit range e s h = absurd (true≢false (sym suit))
  use_holds action.SetFalse again a values rows o ord suit range e s h = absurd (true≢false (sym suit))
  use_holds action.Count again a values rows o ord suit range e s h = absurd (true≢false (sym suit))
  use_holds action.HelpShort again a values rows o ord suit range e s h = absurd (true≢false (sym suit))
  use_holds action.HelpLong again a values rows o ord suit range e s h = absurd (true≢false (sym suit))
  use_holds action.Version again a values rows o ord suit range e s h = absurd (true≢false (sym suit))

  pub used_holds : (again : Bool) (a : Rule) (values : List Text) (rows : List Row) → IsOf c a → Ordinary a → use_fault again a values rows ≡ []
      → AllByRecursion (Stands c words a.id) values → RowsHold c words rows → RowsHold c words (used a values rows)
  used_holds again a values rows o ord e s h =
      let p = neither _ _ e in use_holds (action_of a) again a values rows o ord ord.fits p.0 p.1 s h

  -- ---- what is held

  abbrev pub PendingHolds : Option (Text × List Text) → Type 0
  PendingHolds None = Unit {0}
  PendingHolds (Some p) = AllByRecursion (Stands c words p.0) p.1

  pub record HeldHolds (h : Held) : Type 0 where
    pub rows : RowsHold c words h.rows
    pub pending : PendingHolds h.pending

  module _ (all : list_all is_ordinary c ≡ true) where
    settled_hold : (again : Bool) (p : Option (Text × List Text)) (rows : List Row)
        → option_map_or (λ q. option_map_or (λ a. use_fault again a q.1 rows) (arg_by_id c q.0) []) p [] ≡ []
        → PendingHolds p → RowsHold c words rows → RowsHold c words (settled_rows c p rows)
    settled_hold again None rows e s h = h
    settled_hold again (Some q) rows e s h = go (arg_by_id c q.0) refl e
      where
        go : (o : Option Rule) → arg_by_id c q.0 ≡ o → option_map_or (λ a. use_fault again a q.1 rows) o [] ≡ [] → RowsHold c words (used_by_id o q.1 rows)
        go None is e = h
        go (Some a) is e =
            let o = found_of (λ x. bytes_eq x.id q.0) c a is in
            let same = text_is a.id q.0 (found_passes (λ x. bytes_eq x.id q.0) c a is) in
            used_holds again a q.1 rows o (ordinary c a all o) e (subst (λ t. AllByRecursion (Stands c words t) q.1) (sym same) s) h

    pub settle_holds : (again : Bool) (h : Held) → settle_fault c again h ≡ [] → HeldHolds h → RowsHold c words (settled_rows c h.pending h.rows)
    settle_holds again h e held = settled_hold again h.pending h.rows e held.pending held.rows

    -- an argument is used after what was pending
    pub reacted_holds : (again : Bool) (a : Rule) (values : List Text) (h : Held) → IsOf c a
        → or_else (settle_fault c again h) (use_fault again a values (settled_rows c h.pending h.rows)) ≡ []
        → AllByRecursion (Stands c words a.id) values → HeldHolds h → HeldHolds (reacted c a values h)
    reacted_holds again a values h o e s held =
        let p = neither _ _ e in record {
          rows = used_holds again a values (settled_rows c h.pending h.rows) o (ordinary c a all o) p.1 s (settle_holds again h p.0 held);
          pending = tt;
        }
