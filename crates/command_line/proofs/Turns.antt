-- What clap's walk holds after one more word, where the word has no fault.
use Rattle.std.proofs.Common.{◌≡◌, ◌++◌, ◌||◌, ◌&&◌, ◌==◌, ℕ, zero, suc, Bool, true, false, cond, not, List, [], ◌∷◌, Option, Some, None, is_some, refl, sym, subst, length, drop, nat_lt, true≢false, slice_get, encode_utf8, chars}
use Rattle.std.specs.List.{list_all, list_any}
use Rattle.std.specs.Option.{option_map_or}
use Rattle.std.specs.Str.{bytes_eq}
use Rattle.std.proofs.lemmas.Bool.{and_from, and_right, not-true}
use Rattle.clap.specs.Faults.{action_fault, bundle_fault, bundle_step_fault, flag_word_fault, flags_fault, long_fault, option_fault, other_fault, react_fault, settle_fault, short_fault, step_fault, stray_fault, turn_fault, word_fault}
use Rattle.clap.specs.Kinds.{Kinds, or_else}
use Rattle.clap.specs.Lexer.{long_of, short_of}
use Rattle.clap.specs.Simple.{Shape}
use Rattle.clap.specs.Walk.{Names as Subcommands, Held, Outcome, Row, Rule, Step, Text, Waiting, Walk, action_of, after_flag, after_step, arg_by_id, arg_by_index, arg_by_long, arg_by_short, bundle, bundle_met, bundle_step, done, flag_met, has_long, has_short, idle, is_multiple, is_pending, long_met, long_or_other, most_values, next, option, option_met, option_word, pending_count, plain, plain_word, positional, positional_held, pushed, refused, settled, short_or_plain, started, subcommand, subcommand_met, subcommand_or_other, takes_several, takes_values, to_positional, trailing, value, waits, walked, walked_from, word_met}
use Rattle.clap.specs.declared.builder.action.ArgAction.{ArgAction}
use Rattle.clap.specs.declared.builder.action.ArgAction.TheVariants as action
use Rattle.clap.specs.declared.error.kind.ErrorKind.TheVariants as kind
use Rattle.clap.proofs.WalkLemmas.{both}
use Rattle.command_line.specs.Given.{AreNext}
use Rattle.command_line.proofs.Rows.{HeldHolds, IsOf, PendingHolds, Stands, attached, follows, found_of, found_passes, is_filled, is_named, is_ordinary, neither, none_refused, ordinary, placed, reacted_holds, same_text, settle_holds, suits, text_is}

-- ---- a bundle of short names

no_short : (short : Option ℕ) (aliases : List ℕ) (x : ℕ) → (not (is_some short) && not (is_filled aliases)) ≡ true
    → (option_map_or (λ s. s == x) short false || list_any (λ alias. alias == x) aliases) ≡ true → ⊥
no_short None [] x none has = true≢false (sym has)
no_short None (s ∷ ss) x none has = true≢false (sym none)
no_short (Some s) ss x none has = true≢false (sym none)

-- an ordinary argument with a short name asks for help, and has no value
help_of : (x : ArgAction) (a : Rule) (letter : ℕ) → suits x a ≡ true → has_short a letter ≡ true → (x ≡ action.Help) × (takes_values a ≡ false)
help_of action.Set a letter suit has = absurd (no_short a.short a.short_aliases letter (both _ _ suit).1 has)
help_of action.SetTrue a letter suit has = absurd (no_short a.short a.short_aliases letter (both _ _ suit).1 has)
help_of action.Help a letter suit has = (refl, not-true _ suit)
help_of action.Append a letter suit has = absurd (true≢false (sym suit))
help_of action.SetFalse a letter suit has = absurd (true≢false (sym suit))
help_of action.Count a letter suit has = absurd (true≢false (sym suit))
help_of action.HelpShort a letter suit has = absurd (true≢false (sym suit))
help_of action.HelpLong a letter suit has = absurd (true≢false (sym suit))
help_of action.Version a letter suit has = absurd (true≢false (sym suit))

without_values : (b : Bool) (with_one without : Kinds) → b ≡ false → cond b with_one without ≡ [] → without ≡ []
without_values true one without none e = absurd (true≢false none)
without_values false one without none e = e

-- and so no word has one that has no fault
no_help : (again : Bool) (a : Rule) (values raw : List Text) (rows : List Row) (x : ArgAction) → x ≡ action.Help → action_fault x again a raw rows ≡ [] → ⊥
no_help again a values raw rows action.Help is e = cc
no_help again a values raw rows action.Set is e = cc
no_help again a values raw rows action.SetTrue is e = cc
no_help again a values raw rows action.Append is e = cc
no_help again a values raw rows action.SetFalse is e = cc
no_help again a values raw rows action.Count is e = cc
no_help again a values raw rows action.HelpShort is e = cc
no_help again a values raw rows action.HelpLong is e = cc
no_help again a values raw rows action.Version is e = cc

module _ (c : List Rule) (all : list_all is_ordinary c ≡ true) (again : Bool) where
  no_letter : (letter : ℕ) (rest : Text) (h : Held) (more : Held → Kinds) (o : Option Rule) → arg_by_short c letter ≡ o
      → short_fault c again o rest h more ≡ [] → ⊥
  no_letter letter rest h more None is e = none_refused e
  no_letter letter rest h more (Some a) is e =
      let test : Rule → Bool = λ x. not (is_some x.index) && has_short x letter in
      let ord = ordinary c a all (found_of test c a is) in
      let help = help_of (action_of a) a letter ord.fits (both _ _ (found_passes test c a is)).1 in
      let react = (neither _ _ (without_values (takes_values a) _ _ help.1 e)).0 in
      let its_use = (neither _ _ react).1 in
      no_help again a [] _ _ (action_of a) help.0 (neither _ _ its_use).1

  -- a bundle without a fault has no letter, so it leaves all as it was
  bundle_same : (k : ℕ) (flags : Text) (skip : ℕ) (so_far : Outcome) (h : Held) → flags_fault c again k flags skip h ≡ []
      → bundle_met c k flags skip so_far h ≡ (h, so_far)
  unfolding flags_fault bundle_met
  bundle_same zero flags skip so_far h e = refl
  bundle_same (suc k) flags skip so_far h e = go (slice_get (chars flags) 0) skip (λ t n f. bundle_same k t n so_far h f) e
    where
      go : (o : Option ℕ) (n : ℕ) → ((t : Text) (m : ℕ) → flags_fault c again k t m h ≡ [] → bundle_met c k t m so_far h ≡ (h, so_far))
          → bundle_step_fault c again o flags n h (flags_fault c again k) ≡ [] → bundle_step c o flags n so_far h (bundle_met c k) ≡ (h, so_far)
      go None n rest e = refl
      go (Some x) zero rest e = absurd (no_letter x _ h _ (arg_by_short c x) refl e)
      go (Some x) (suc n) rest e = rest (drop (length (encode_utf8 x)) flags) n e

-- ---- what a word comes to

-- the word is the long name of an option of this id
abbrev pub Names : List Rule → Text → Text → Type 0
Names c word id = (name : Text) × (is_named c id name ≡ true) × (long_of word ≡ Some (name, None))

-- an option that waits has its name in the word before, and no value yet
abbrev pub WaitsFor : List Rule → Text → Waiting → Option (Text × List Text) → Type 0
WaitsFor c word (option id) pending = (pending ≡ Some (id, [])) × Names c word id
WaitsFor c word idle pending = Unit {0}
WaitsFor c word positional pending = Unit {0}

abbrev OutcomeWaits : List Rule → Text → Outcome → Option (Text × List Text) → Type 0
OutcomeWaits c word (waits id) pending = WaitsFor c word (option id) pending
OutcomeWaits c word done pending = Unit {0}
OutcomeWaits c word plain pending = ⊥
OutcomeWaits c word refused pending = ⊥

abbrev StepWaits : List Rule → Text → Step → Option (Text × List Text) → Type 0
StepWaits c word (next waiting) pending = WaitsFor c word waiting pending
StepWaits c word (trailing position) pending = Unit {0}
StepWaits c word (subcommand name) pending = Unit {0}
StepWaits c word value pending = Unit {0}

record MetHolds (c : List Rule) (words : List Text) (word : Text) (m : Held × Outcome) : Type 0 where
  held : HeldHolds c words m.0
  waiting : OutcomeWaits c word m.1 m.0.pending

record StepHolds (c : List Rule) (words : List Text) (word : Text) (m : Held × Step) : Type 0 where
  held : HeldHolds c words m.0
  waiting : StepWaits c word m.1 m.0.pending

-- an option has a rule of its id
named_found : (c : List Rule) (id name : Text) → is_named c id name ≡ true → arg_by_id c id ≡ None → ⊥
named_found [] id name named none = true≢false (sym named)
named_found (a ∷ more) id name named none = go (bytes_eq a.id id) (named_found more id name) named none
  where
    go : (b : Bool) → (is_named more id name ≡ true → arg_by_id more id ≡ None → ⊥) → ((b && has_long a name) || is_named more id name) ≡ true
        → cond b (Some a) (arg_by_id more id) ≡ None → ⊥
    go true rest named none = cc
    go false rest named none = rest named none

not_below : (b : Bool) (c : List Rule) (word id : Text) (pending : Option (Text × List Text)) → b ≡ false → WaitsFor c word (cond b (option id) idle) pending
not_below true c word id pending e = absurd (true≢false e)
not_below false c word id pending e = tt

module _ (c : List Rule) (words : List Text) (all : list_all is_ordinary c ≡ true) (again : Bool) (before word : Text) (beside : AreNext words before word) where
  option_holds : (a : Rule) (v : Option Text) (h : Held) (name : Text) → IsOf c a → is_named c a.id name ≡ true → long_of word ≡ Some (name, v)
      → option_fault c again a v h ≡ [] → HeldHolds c words h → MetHolds c words word (option_met c a v h)
  option_holds a (Some v) h name o named long e held = record {
    held = reacted_holds c words all again a (v ∷ []) h o e (attached before word name beside named long, tt) held;
    waiting = tt;
  }
  option_holds a None h name o named long e held = record {
    held = record { rows = settle_holds c words all again h e held; pending = tt };
    waiting = (refl, (name, named, long));
  }

  flag_holds : (a : Rule) (v : Option Text) (h : Held) → IsOf c a → cond (is_some v) (kind.TooManyValues ∷ []) (react_fault c again a [] h) ≡ []
      → HeldHolds c words h → MetHolds c words word (flag_met c a v h)
  flag_holds a (Some v) h o e held = none_refused e
  flag_holds a None h o e held = record { held = reacted_holds c words all again a [] h o e tt held; waiting = tt }

  long_holds : (name : Text) (v : Option Text) (h : Held) (o : Option Rule) → arg_by_long c name ≡ o → long_of word ≡ Some (name, v)
      → long_fault c again o v h ≡ [] → HeldHolds c words h → MetHolds c words word (long_met c o v h)
  long_holds name v h None is long e held = none_refused e
  long_holds name v h (Some a) is long e held = go (takes_values a) e
    where
      test : Rule → Bool
      test x = not (is_some x.index) && has_long x name

      o : IsOf c a
      o = found_of test c a is

      named : is_named c a.id name ≡ true
      named =
          o.any (λ x. bytes_eq x.id a.id && has_long x name)
          (and_from (bytes_eq a.id a.id) (has_long a name) (same_text a.id) (both (not (is_some a.index)) (has_long a name) (found_passes test c a is)).1)

      go : (b : Bool) → cond b (option_fault c again a v h) (cond (is_some v) (kind.TooManyValues ∷ []) (react_fault c again a [] h)) ≡ []
          → MetHolds c words word (cond b (option_met c a v h) (flag_met c a v h))
      go true e = option_holds a v h name o named long e held
      go false e = flag_holds a v h o e held

  -- ---- a word that is no flag

  push_holds : (id : Text) (p : Option (Text × List Text)) → p ≡ Some (id, []) → Stands c words id word
      → PendingHolds c words (Some ((started id p).0, (started id p).1 ++ word ∷ []))
  push_holds id p is s = subst (λ (q : Option (Text × List Text)). PendingHolds c words (Some ((started id q).0, (started id q).1 ++ word ∷ []))) (sym is) (s, tt)

  one_pending : (a : Rule) (id : Text) (p : Option (Text × List Text)) → p ≡ Some (id, []) → a.id ≡ id → nat_lt 1 (most_values a) ≡ false
      → nat_lt (pending_count a (Some ((started id p).0, (started id p).1 ++ word ∷ []))) (most_values a) ≡ false
  one_pending a id p is same most =
      subst (λ (q : Option (Text × List Text)). nat_lt (pending_count a (Some ((started id q).0, (started id q).1 ++ word ∷ []))) (most_values a) ≡ false) (sym is)
      (rw (subst (λ t. bytes_eq id t ≡ true) (sym same) (same_text id)) most)

  option_word_holds : (id : Text) (h : Held) (o : Option Rule) → arg_by_id c id ≡ o → WaitsFor c before (option id) h.pending → HeldHolds c words h
      → StepHolds c words word ((option_word o id word h).0, next (option_word o id word h).1)
  option_word_holds id h None is waiter held = absurd (named_found c id waiter.1.0 waiter.1.1 is)
  option_word_holds id h (Some a) is waiter held = record {
    held = record { rows = held.rows; pending = push_holds id h.pending waiter.0 (follows before waiter.1.0 beside waiter.1.1 waiter.1.2) };
    waiting = not_below _ c word id _ (one_pending a id h.pending waiter.0 (text_is a.id id (found_passes (λ x. bytes_eq x.id id) c a is))
        (ordinary c a all (found_of (λ x. bytes_eq x.id id) c a is)).most);
  }

  plain_holds : (waiting : Waiting) (h : Held) → WaitsFor c before waiting h.pending → HeldHolds c words h → StepHolds c words word (plain_word c waiting word h)
  plain_holds (option id) h waiter held = option_word_holds id h (arg_by_id c id) refl waiter held
  plain_holds idle h waiter held = record { held = held; waiting = tt }
  plain_holds positional h waiter held = record { held = held; waiting = tt }

  -- ---- a word

  after_long : (waiting : Waiting) (h : Held) (o : Outcome) → MetHolds c words word (h, o) → StepHolds c words word (after_flag c waiting word h o)
  after_long waiting h done m = record { held = m.held; waiting = tt }
  after_long waiting h (waits id) m = record { held = m.held; waiting = m.waiting }
  after_long waiting h plain m = absurd m.waiting
  after_long waiting h refused m = absurd m.waiting

  flags_hold : (waiting : Waiting) (flags : Text) (h : Held) (m : Held × Outcome) → m ≡ (record h { skip = 0 }, plain) → WaitsFor c before waiting h.pending
      → HeldHolds c words h → StepHolds c words word (after_flag c waiting word m.0 m.1)
  flags_hold waiting flags h m is waiter held =
      subst (λ (n : Held × Outcome). StepHolds c words word (after_flag c waiting word n.0 n.1)) (sym is)
      (plain_holds waiting (record h { skip = 0 }) waiter (record { rows = held.rows; pending = held.pending }))

  short_holds : (waiting : Waiting) (h : Held) (o : Option Text) → option_map_or (λ flags. bundle_fault c again flags h) o [] ≡ []
      → WaitsFor c before waiting h.pending → HeldHolds c words h → StepHolds c words word (short_or_plain c waiting word o h)
  short_holds waiting h None e waiter held = plain_holds waiting h waiter held
  short_holds waiting h (Some flags) e waiter held =
      flags_hold waiting flags h (bundle c flags h) (bundle_same c all again (length flags) flags h.skip plain (record h { skip = 0 }) e) waiter held

  flag_word_holds : (waiting : Waiting) (h : Held) (o : Option (Text × Option Text)) → long_of word ≡ o → flag_word_fault c again o word h ≡ []
      → WaitsFor c before waiting h.pending → HeldHolds c words h → StepHolds c words word (long_or_other c waiting word o h)
  flag_word_holds waiting h None long e waiter held = short_holds waiting h (short_of word) e waiter held
  flag_word_holds waiting h (Some p) long e waiter held =
      after_long waiting _ _ (long_holds p.0 p.1 h (arg_by_long c p.0) refl long e held)

  other_holds : (waiting : Waiting) (position : ℕ) (h : Held) → cond (bytes_eq word (45 ∷ 45 ∷ [])) [] (flag_word_fault c again (long_of word) word h) ≡ []
      → WaitsFor c before waiting h.pending → HeldHolds c words h
      → StepHolds c words word (cond (bytes_eq word (45 ∷ 45 ∷ [])) (h, trailing position) (long_or_other c waiting word (long_of word) h))
  other_holds waiting position h e waiter held = go (bytes_eq word (45 ∷ 45 ∷ [])) e
    where
      go : (b : Bool) → cond b [] (flag_word_fault c again (long_of word) word h) ≡ []
          → StepHolds c words word (cond b (h, trailing position) (long_or_other c waiting word (long_of word) h))
      go true e = record { held = held; waiting = tt }
      go false e = flag_word_holds waiting h (long_of word) refl e waiter held

-- ---- the walk

-- what the walk holds after the word `before`: an option waits only for the word after its name
pub record WalkHolds (c : List Rule) (words : List Text) (before : Text) (w : Walk) : Type 0 where
  pub held : HeldHolds c words w.held
  pub waiting : w.stopped ≡ None → w.is_trailing ≡ false → WaitsFor c before w.waiting w.held.pending

some_is_none : {X T : Type 0} (x : X) → Some x ≡ None → T
some_is_none x e = cc

stray : (s : Shape) → stray_fault s ≡ [] → ⊥
stray s e = go s.is_leaf e
  where
    go : (b : Bool) → cond b (kind.UnknownArgument ∷ []) (kind.UnknownArgument ∷ kind.InvalidSubcommand ∷ []) ≡ [] → ⊥
    go true e = none_refused e
    go false e = none_refused e

module _ (s : Shape) (names : Subcommands) (words : List Text) (all : list_all is_ordinary s.rules ≡ true) (before word : Text) (beside : AreNext words before word) where
  word_holds : (trails : Bool) (waiting : Waiting) (position : ℕ) (h : Held) → (trails ≡ false → WaitsFor s.rules before waiting h.pending)
      → word_fault s names trails waiting word h ≡ [] → HeldHolds s.rules words h → StepHolds s.rules words word (word_met s.rules names trails waiting position word h)
  word_holds true waiting position h waiter e held = record { held = held; waiting = tt }
  word_holds false waiting position h waiter e held =
      by_name (subcommand_met names waiting word) e
    where
      by_name : (o : Option Text) → other_fault s o word h ≡ [] → StepHolds s.rules words word (subcommand_or_other s.rules o waiting position word h)
      by_name (Some name) e = record { held = held; waiting = tt }
      by_name None e = other_holds s.rules words all s.args_override_self before word beside waiting position h e (waiter refl) held

  positional_word : (w : Walk) (h : Held) (a : Rule) → IsOf s.rules a → is_some a.index ≡ true → settle_fault s.rules s.args_override_self h ≡ []
      → HeldHolds s.rules words h → WalkHolds s.rules words word (to_positional s.rules (Some a) word w h)
  positional_word w h a o index e held = record {
    held = by_single (is_pending a h.pending && takes_several a) (and_right (is_pending a h.pending) _ (ordinary s.rules a all o).single);
    waiting = λ none trails. by_kind (is_multiple a);
  }
    where
      stands : Stands s.rules words a.id word
      stands = placed before beside (o.any (λ x. bytes_eq x.id a.id && is_some x.index) (and_from (bytes_eq a.id a.id) (is_some a.index) (same_text a.id) index))

      by_single : (b : Bool) → b ≡ false → HeldHolds s.rules words (pushed a.id word (cond b h (settled s.rules h)))
      by_single true e = absurd (true≢false e)
      by_single false e2 = record { rows = settle_holds s.rules words all s.args_override_self h e held; pending = (stands, tt) }

      by_kind : (b : Bool) → WaitsFor s.rules word (cond b positional idle) (positional_held s.rules a word h).pending
      by_kind true = tt
      by_kind false = tt

  value_holds : (w : Walk) (h : Held) (o : Option Rule) → arg_by_index s.rules w.position ≡ o
      → option_map_or (λ a. cond (is_pending a h.pending && takes_several a) [] (settle_fault s.rules s.args_override_self h)) o (stray_fault s) ≡ []
      → HeldHolds s.rules words h → WalkHolds s.rules words word (to_positional s.rules o word w h)
  value_holds w h None is e held = absurd (stray s e)
  value_holds w h (Some a) is e held =
      positional_word w h a o (index_some a.index (found_passes test s.rules a is))
      (by_single (is_pending a h.pending && takes_several a) (and_right (is_pending a h.pending) _ (ordinary s.rules a all o).single) e) held
    where
      test : Rule → Bool
      test x = option_map_or (λ k. k == w.position) x.index false

      o : IsOf s.rules a
      o = found_of test s.rules a is

      index_some : (i : Option ℕ) → option_map_or (λ k. k == w.position) i false ≡ true → is_some i ≡ true
      index_some (Some i) e = refl
      index_some None e = absurd (true≢false (sym e))

      by_single : (b : Bool) → b ≡ false → cond b [] (settle_fault s.rules s.args_override_self h) ≡ [] → settle_fault s.rules s.args_override_self h ≡ []
      by_single true t e = absurd (true≢false t)
      by_single false t e = e

  after_holds : (w : Walk) (h : Held) (step : Step) → step_fault s w.position h step ≡ [] → StepHolds s.rules words word (h, step)
      → WalkHolds s.rules words word (after_step s.rules word w h step)
  after_holds w h (next waiting) e m = record { held = m.held; waiting = λ none trails. m.waiting }
  after_holds w h (trailing position) e m = record { held = m.held; waiting = λ none trails. absurd (true≢false trails) }
  after_holds w h (subcommand name) e m = record { held = m.held; waiting = λ none trails. some_is_none (name, []) none }
  after_holds w h value e m = value_holds w h (arg_by_index s.rules w.position) refl e m.held

  pub turn_holds : (w : Walk) → turn_fault s names w word ≡ [] → WalkHolds s.rules words before w → WalkHolds s.rules words word (walked s.rules names w word)
  unfolding walked
  turn_holds w e held = go w.stopped refl e
    where
      go : (stop : Option (Text × List Text)) → w.stopped ≡ stop
          → cond (is_some stop) [] (or_else (word_fault s names w.is_trailing w.waiting word w.held)
          (step_fault s w.position (word_met s.rules names w.is_trailing w.waiting w.position word w.held).0
          (word_met s.rules names w.is_trailing w.waiting w.position word w.held).1)) ≡ []
          → WalkHolds s.rules words word (walked_from s.rules names stop w word)
      go (Some p) is e = record { held = held.held; waiting = λ none trails. some_is_none (p.0, p.1 ++ word ∷ []) none }
      go None is e =
          let p = neither _ _ e in
          after_holds w _ _ p.1 (word_holds w.is_trailing w.waiting w.position w.held (held.waiting is) p.0 held.held)
