-- Each distance that is spoken of is that of a pair.
use Rattle.std.proofs.Common.{◌≡◌, ℕ, suc, ◌+◌, ◌<◌, ◌≤◌, Bool, true, false, cond, Option, Some, None, List, [], ◌∷◌, length, refl, sym, ap, ◌∙◌, subst, arith, ◌⊎◌, inl, inr, ◌≢◌}
use Rattle.std.proofs.lemmas.Bool.{cases_eq}
use Rattle.std.specs.Option.{option_map}
use Rattle.std.specs.List.{AllByRecursion}
use Rattle.span_meter.specs.Measured.{with_distance}
use Rattle.span_meter.specs.Spoken.{AreMarksFrom, IsOfPair, Mark, clocks_to_spoken, spoken}

-- the first to-event from a clock on, where it comes within these clocks and none of them drops
abbrev FirstTo : (at : ℕ → Mark) → (end k : ℕ) → Option ℕ → Type 0
FirstTo at end k None = Unit {0}
FirstTo at end k (Some j) =
    (k + j < end) × ((at (k + j)).to ≡ true) × ((c : ℕ) → k ≤ c → c < k + j → (at c).to ≡ false) × ((c : ℕ) → k ≤ c → c ≤ k + j → (at c).drops ≡ false)

or_first : (test : ℕ → Bool) (k c : ℕ) → test k ≡ false → (suc k ≤ c → test c ≡ false) → k ≤ c → test c ≡ false
or_first test k c first rest low = on (cases_eq c k) where
  on : (c ≡ k) ⊎ (c ≢ k) → test c ≡ false
  on (inl e) = ap test e ∙ first
  on (inr n) = rest (omega arith)

next_first : (at : ℕ → Mark) (end k : ℕ) (drops to : Bool) (o : Option ℕ) → (at k).drops ≡ drops → (at k).to ≡ to → k < end → FirstTo at end (suc k) o → FirstTo at end k (cond drops None (cond to (Some 0) (option_map suc o)))
next_first at end k true to o d t low f = tt
next_first at end k false true o d t low f = (
  omega arith,
  ap (λ (c : ℕ). (at c).to) (let e : k + 0 ≡ k = omega arith in e) ∙ t,
  λ c from below. absurd (omega arith),
  λ c from below. ap (λ (c : ℕ). (at c).drops) (let e : c ≡ k = omega arith in e) ∙ d,
)
next_first at end k false false None d t low f = tt
next_first at end k false false (Some j) d t low f =
    let within = f.0 in (
      omega arith,
      ap (λ (c : ℕ). (at c).to) (let e : k + suc j ≡ suc k + j = omega arith in e) ∙ f.1,
      λ c from below. or_first (λ (c : ℕ). (at c).to) k c t (λ after. f.2 c after (omega arith)) from,
      λ c from below. or_first (λ (c : ℕ). (at c).drops) k c d (λ after. f.3 c after (omega arith)) from,
    )

first_to : (at : ℕ → Mark) (end k : ℕ) (ks : List Mark) → AreMarksFrom at k ks → k + length ks ≤ end → FirstTo at end k (clocks_to_spoken ks)
unfolding clocks_to_spoken
first_to at end k [] h le = tt
first_to at end k (m ∷ ks) h le =
    let P : Mark → Type 0 = λ v. FirstTo at end k (cond v.drops None (cond v.to (Some 0) (option_map suc (clocks_to_spoken ks)))) in
    subst P (sym h.0) (next_first at end k (at k).drops (at k).to (clocks_to_spoken ks) refl refl (omega arith) (first_to at end (suc k) ks h.1 (omega arith)))

one_pair : (at : ℕ → Mark) (end k : ℕ) → (at k).from ≡ true → (o : Option ℕ) → FirstTo at end (suc k) o → (ds : List ℕ) → AllByRecursion (IsOfPair at end) ds → AllByRecursion (IsOfPair at end) (with_distance o ds)
one_pair at end k start None f ds all = all
one_pair at end k start (Some j) f ds all = (
  record {
    s = k;
    e = suc k + j;
    long = omega arith;
    pair = record {
      from = start;
      after = omega arith;
      within = f.0;
      to = f.1;
      first = λ c low below. f.2 c low below;
      free = λ c low below. f.3 c low below;
    };
  },
  all,
)

where_from : (at : ℕ → Mark) (end k : ℕ) (b : Bool) → (at k).from ≡ b → (o : Option ℕ) → FirstTo at end (suc k) o → (ds : List ℕ) → AllByRecursion (IsOfPair at end) ds → AllByRecursion (IsOfPair at end) (cond b (with_distance o ds) ds)
where_from at end k true start o f ds all = one_pair at end k start o f ds all
where_from at end k false start o f ds all = all

all_pairs : (at : ℕ → Mark) (end k : ℕ) (ks : List Mark) → AreMarksFrom at k ks → k + length ks ≤ end → AllByRecursion (IsOfPair at end) (spoken ks)
unfolding spoken
all_pairs at end k [] h le = tt
all_pairs at end k (m ∷ ks) h le =
    let P : Mark → Type 0 = λ v. AllByRecursion (IsOfPair at end) (cond v.from (with_distance (clocks_to_spoken ks) (spoken ks)) (spoken ks)) in
    subst P (sym h.0) (where_from at end k (at k).from refl (clocks_to_spoken ks) (first_to at end (suc k) ks h.1 (omega arith)) (spoken ks) (all_pairs at end (suc k) ks h.1 (omega arith)))

pub distances_of_pairs : (at : ℕ → Mark) (ks : List Mark) → AreMarksFrom at 0 ks → AllByRecursion (IsOfPair at (length ks)) (spoken ks)
distances_of_pairs at ks h = all_pairs at (length ks) 0 ks h (omega arith)
