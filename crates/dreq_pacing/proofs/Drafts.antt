-- What a reader keeps of the lines, one line on.
use Rattle.std.proofs.Common.{◌≡◌, ℕ, ◌<◌, ◌≤◌, ◌==◌, Bool, true, false, ◌||◌, ◌&&◌, Option, Some, None, List, [], ◌∷◌, ◌++◌, length, refl, sym, ap, subst, ◌∙◌, inl, inr, replicate, arith}
use Rattle.std.specs.Prelude.{slice_index_or, slice_set, IfSome}
use Rattle.std.specs.List.{AllByRecursion, list_any}
use Rattle.std.proofs.lemmas.Bool.{cases_lt, cases_eq, or_parts, or_from}
use Rattle.std.proofs.lemmas.Bool.Decides.{nat_tests}
use Rattle.std.proofs.lemmas.List.{get_or-set_same, get_or-set_other, get_or-replicate}
use Rattle.std.proofs.lemmas.List.Folds.{list_any-append}
use Rattle.dreq_pacing.specs.declared.line.Line.{Line}
use Rattle.dreq_pacing.specs.declared.line.LineAct.{LineAct}
use Rattle.dreq_pacing.specs.declared.line.LineAct.TheVariants.{Pin, Tx, Rx, Feed, Drain, Enable, Disable, Restart}
use Rattle.dreq_pacing.specs.Lines.{IsLineOf, IsActOf, IsScheduleOf, MayPrecede, is_place, is_transfer, is_access, transfer_of, access_of, has_transfer, has_access, is_crowded}
use Rattle.dreq_pacing.specs.Drafts.{IsDraft, taken_at, marked, still_taken}

all-append : (P : Line → Type 0) (ls : List Line) (l : Line) → AllByRecursion P ls → P l → AllByRecursion P (ls ++ l ∷ [])
all-append P [] l h p = (p, tt)
all-append P (k ∷ ks) l h p = (h.0, all-append P ks l h.1 p)

-- no access of a clock that is past all lines
pub none_later : (place clock last : ℕ) (ls : List Line) → last < clock → AllByRecursion (λ l. l.clock ≤ last) ls → list_any (is_access place clock) ls ≡ false
none_later place clock last [] lt h = refl
none_later place clock last (l ∷ ls) lt h =
    let low = h.0 in
    let no : (l.clock == clock) ≡ false = grind (arith, nat_tests) in
    ap (λ (b : Bool). (b && is_place place (access_of l.act)) || list_any (is_access place clock) ls) no ∙ none_later place clock last ls lt h.1

-- a place of a transfer is taken where the file has it
pub transfer_taken : (o : Option ℕ) (machines : ℕ) (lines : List Line) (clock : ℕ) (transfers accesses : List Bool) → IsDraft machines lines clock transfers accesses → IfSome o (λ p. p < 16) → taken_at o transfers ≡ has_transfer o lines
transfer_taken None machines lines clock transfers accesses d h = refl
transfer_taken (Some p) machines lines clock transfers accesses d h = d.transfer p h

-- a place of an access is taken where the clock has it
pub access_taken : (o : Option ℕ) (machines : ℕ) (lines : List Line) (clock : ℕ) (transfers accesses : List Bool) → IsDraft machines lines clock transfers accesses → IfSome o (λ p. p < 32) → taken_at o accesses ≡ has_access o clock lines
access_taken None machines lines clock transfers accesses d h = refl
access_taken (Some p) machines lines clock transfers accesses d h = d.access p h

pub access_none : (o : Option ℕ) (lines : List Line) (last clock : ℕ) → last < clock → AllByRecursion (λ l. l.clock ≤ last) lines → false ≡ has_access o clock lines
access_none None lines last clock lt h = refl
access_none (Some p) lines last clock lt h = sym (none_later p clock last lines lt h)

-- what may be done beside fewer machines may be done beside more
pub wider : (a : LineAct) (machines more : ℕ) → IsActOf machines a → machines ≤ more → IsActOf more a
wider (Pin p v) machines more h le = h
wider (Tx m w) machines more h le = omega arith
wider (Rx m) machines more h le = omega arith
wider (Feed m e ws) machines more h le = ((let k : m < machines = h.0 in omega arith), h.1, h.2, h.3)
wider (Drain m e) machines more h le = ((let k : m < machines = h.0 in omega arith), h.1, h.2)
wider (Enable m) machines more h le = omega arith
wider (Disable m) machines more h le = omega arith
wider (Restart m) machines more h le = omega arith

pub transfer_below : (a : LineAct) → IsActOf 8 a → IfSome (transfer_of a) (λ p. p < 16)
transfer_below (Pin p v) h = tt
transfer_below (Tx m w) h = tt
transfer_below (Rx m) h = tt
transfer_below (Feed m e ws) h = (let k : m < 8 = h.0 in omega arith)
transfer_below (Drain m e) h = (let k : m < 8 = h.0 in omega arith)
transfer_below (Enable m) h = tt
transfer_below (Disable m) h = tt
transfer_below (Restart m) h = tt

pub access_below : (a : LineAct) → IsActOf 8 a → IfSome (access_of a) (λ p. p < 32)
access_below (Pin p v) h = tt
access_below (Tx m w) h = (let k : m < 8 = h in omega arith)
access_below (Rx m) h = (let k : m < 8 = h in omega arith)
access_below (Feed m e ws) h = tt
access_below (Drain m e) h = tt
access_below (Enable m) h = (let k : m < 8 = h in omega arith)
access_below (Disable m) h = (let k : m < 8 = h in omega arith)
access_below (Restart m) h = (let k : m < 8 = h in omega arith)

or_end : (a : Bool) → (a || false) ≡ a
or_end true = refl
or_end false = refl

or_yes : (a : Bool) → (a || true) ≡ true
or_yes true = refl
or_yes false = refl

-- one place more is taken
marked-at : (o : Option ℕ) (taken : List Bool) (place : ℕ) → IfSome o (λ p. p < length taken) → slice_index_or (marked o taken) place false ≡ (slice_index_or taken place false || is_place place o)
marked-at None taken place h = sym (or_end (slice_index_or taken place false))
marked-at (Some p) taken place h =
    let old = slice_index_or taken place false in
    elim (cases_eq p place) [
      | inl same ↦ (let yes : (p == place) ≡ true = grind (arith, nat_tests) in
          let P : ℕ → Type 0 = λ q. slice_index_or (slice_set taken p true) q false ≡ true in
          subst P same (get_or-set_same taken p true false h)
          ∙ sym (ap (λ (b : Bool). old || b) yes ∙ or_yes old))
      | inr other ↦ (let no : (p == place) ≡ false = grind (arith, nat_tests) in
          get_or-set_other taken p place true false (λ e. other (sym e))
          ∙ sym (ap (λ (b : Bool). old || b) no ∙ or_end old))
    ]

-- the schedule with one line more
schedule-append : (machines : ℕ) (ls : List Line) (l : Line) → IsScheduleOf machines ls → IsLineOf machines l → AllByRecursion (λ k. MayPrecede k l) ls → IsScheduleOf machines (ls ++ l ∷ [])
schedule-append machines [] l s fine h = (fine, tt, tt)
schedule-append machines (k ∷ ks) l s fine h = (s.0, all-append (MayPrecede k) ks l s.1 h.0, schedule-append machines ks l s.2 fine h.1)

parts : (a b : Bool) (x : Bool) → ((a || false) || x) ≡ (a || x)
parts true b x = refl
parts false b x = refl

transfer-cons : (o : Option ℕ) (k : Line) (ks : List Line) → has_transfer o (k ∷ ks) ≡ (has_transfer o (k ∷ []) || has_transfer o ks)
transfer-cons None k ks = refl
transfer-cons (Some p) k ks = sym (parts (is_transfer p k) false (list_any (is_transfer p) ks))

access-cons : (o : Option ℕ) (c : ℕ) (k : Line) (ks : List Line) → has_access o c (k ∷ ks) ≡ (has_access o c (k ∷ []) || has_access o c ks)
access-cons None c k ks = refl
access-cons (Some p) c k ks = sym (parts (is_access p c k) false (list_any (is_access p c) ks))

-- a line that crowds none of the lines may be after each
precedes : (ls : List Line) (last : ℕ) (l : Line) → AllByRecursion (λ k. k.clock ≤ last) ls → last ≤ l.clock → is_crowded ls l ≡ false → AllByRecursion (λ k. MayPrecede k l) ls
precedes [] last l h le e = tt
precedes (k ∷ ks) last l h le e =
    let t = transfer_of l.act in
    let a = access_of l.act in
    let both = or_parts (has_transfer t (k ∷ ks)) (has_access a l.clock (k ∷ ks)) e in
    let ts = or_parts (has_transfer t (k ∷ [])) (has_transfer t ks) (sym (transfer-cons t k ks) ∙ both.0) in
    let as' = or_parts (has_access a l.clock (k ∷ [])) (has_access a l.clock ks) (sym (access-cons a l.clock k ks) ∙ both.1) in
    let low : k.clock ≤ last = h.0 in (
      record { in_order = omega arith; apart = or_from _ _ ts.0 as'.0 },
      precedes ks last l h.1 le (or_from _ _ ts.1 as'.1),
    )

latest-moved : (ls : List Line) (last clock : ℕ) → last ≤ clock → AllByRecursion (λ k. k.clock ≤ last) ls → AllByRecursion (λ k. k.clock ≤ clock) ls
latest-moved [] last clock le h = tt
latest-moved (k ∷ ks) last clock le h = ((let low : k.clock ≤ last = h.0 in omega arith), latest-moved ks last clock le h.1)

-- the accesses that still count are those of the clock
still : (machines : ℕ) (lines : List Line) (clock : ℕ) (transfers accesses : List Bool) (c : ℕ) → IsDraft machines lines clock transfers accesses → clock ≤ c → (place : ℕ) → place < 32 → slice_index_or (still_taken (c == clock) accesses) place false ≡ list_any (is_access place c) lines
still machines lines clock transfers accesses c d le place lt =
    elim (cases_lt clock c) [
      | inl later ↦ (let no : (c == clock) ≡ false = grind (arith, nat_tests) in
          ap (λ (b : Bool). slice_index_or (still_taken b accesses) place false) no
          ∙ (get_or-replicate 32 place false false lt ∙ sym (none_later place c clock lines later d.latest)))
      | inr ge ↦ (let same : clock ≡ c = omega arith in
          let yes : (c == clock) ≡ true = grind (arith, nat_tests) in
          ap (λ (b : Bool). slice_index_or (still_taken b accesses) place false) yes
          ∙ (d.access place lt ∙ ap (λ (n : ℕ). list_any (is_access place n) lines) same))
    ]

still-length : (b : Bool) (accesses : List Bool) → length accesses ≡ 32 → length (still_taken b accesses) ≡ 32
still-length true accesses e = e
still-length false accesses e = refl

some-along : (o : Option ℕ) (m n : ℕ) → m ≡ n → IfSome o (λ p. p < m) → IfSome o (λ p. p < n)
some-along None m n e h = tt
some-along (Some p) m n e h = omega arith

-- one line more
pub draft_on : (machines : ℕ) (lines : List Line) (clock : ℕ) (transfers accesses : List Bool) (l : Line) → IsDraft machines lines clock transfers accesses → IsLineOf machines l → clock ≤ l.clock → is_crowded lines l ≡ false → length transfers ≡ 16 → length accesses ≡ 32 → IsDraft machines (lines ++ l ∷ []) l.clock (marked (transfer_of l.act) transfers) (marked (access_of l.act) (still_taken (l.clock == clock) accesses))
draft_on machines lines clock transfers accesses l d fine le apart lt la =
    let t = transfer_of l.act in
    let a = access_of l.act in
    let kept = still_taken (l.clock == clock) accesses in
    let wide = wider l.act machines 8 fine.act d.most in
    record {
      some = d.some;
      most = d.most;
      schedule = schedule-append machines lines l d.schedule fine (precedes lines clock l d.latest le apart);
      latest = all-append (λ k. k.clock ≤ l.clock) lines l (latest-moved lines clock l.clock le d.latest) (omega arith);
      transfer = λ place below.
          marked-at t transfers place (some-along t 16 (length transfers) (sym lt) (transfer_below l.act wide))
          ∙ (ap (λ (b : Bool). b || is_place place t) (d.transfer place below)
          ∙ sym (list_any-append (is_transfer place) lines (l ∷ []) ∙ ap (λ (b : Bool). list_any (is_transfer place) lines || b) (or_end (is_place place t))));
      access = λ place below.
          let here : (l.clock == l.clock) ≡ true = grind (arith, nat_tests) in
          marked-at a kept place (some-along a 32 (length kept) (sym (still-length (l.clock == clock) accesses la)) (access_below l.act wide))
          ∙ (ap (λ (b : Bool). b || is_place place a) (still machines lines clock transfers accesses l.clock d le place below)
          ∙ sym (list_any-append (is_access place l.clock) lines (l ∷ [])
          ∙ ap (λ (b : Bool). list_any (is_access place l.clock) lines || b) (or_end (is_access place l.clock l) ∙ ap (λ (b : Bool). b && is_place place a) here)));
    }

-- no line so far
pub first_is : (machines : ℕ) (lines : List Line) → lines ≡ [] → 1 ≤ machines → machines ≤ 8 → IsDraft machines lines 0 (replicate 16 false) (replicate 32 false)
first_is machines lines empty some most =
    let P : List Line → Type 0 = λ ls. IsDraft machines ls 0 (replicate 16 false) (replicate 32 false) in
    subst P (sym empty) (record {
      some = some;
      most = most;
      schedule = tt;
      latest = tt;
      transfer = λ place below. get_or-replicate 16 place false false below;
      access = λ place below. get_or-replicate 32 place false false below;
    })
