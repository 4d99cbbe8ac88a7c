-- One step of the frames: a fault, a wait, an end.
use Rattle.std.proofs.Common.{◌≡◌, ℕ, ◌+◌, ◌-◌, ◌<◌, ℤ, Bool, true, false, List, [], ◌∷◌, ◌++◌, length, Option, Some, None, Result, Ok, Err, refl, ap, sym, subst, ◌∙◌, ◌||◌, cond, arith, nat_eq, true≢false}
use Rattle.std.specs.List.{list_any}
use Rattle.std.specs.Map.{keys_of}
use Rattle.std.proofs.lemmas.Bool.{eqb-true, eq-eqb}
use Rattle.std.proofs.lemmas.List.Folds.{list_any-append}
use Rattle.std.proofs.lemmas.Map.Keys.{IsDistinct-cons}
use Rattle.std.proofs.lemmas.Map.Steps.{length-le_from_distinct_below}
use Rattle.pio_expr.specs.declared.expr.Item.{Item}
use Rattle.pio_expr.specs.declared.expr.Item.TheVariants as item
use Rattle.pio_expr.specs.declared.symbol.Symbol.TheVariants.{Define, Label}
use Rattle.pio_expr.specs.declared.fault.ValueFault.{ValueFault}
use Rattle.pio_expr.specs.declared.fault.ValueFault.TheVariants as value_fault
use Rattle.pio_expr.specs.declared.fault.ValueKind.{ValueKind}
use Rattle.pio_expr.specs.declared.frame.StackFrame.{StackFrame}
use Rattle.pio_expr.specs.declared.work.Work.{Work}
use Rattle.pio_expr.specs.Values.{Scope, Found, found, by_symbol, count_of, is_among, worked_out, name_value, value_at, IsValueFaultOf}
use Rattle.pio_expr.specs.Frames.{Kept, kept_at, is_local, items_at, symbol_at, Look, number, wanted, look_by, looked_up, Agrees, RestsAt}
use Rattle.pio_expr.specs.Work.{placed, places_of, items_of, IsFrame, AwaitedAt, IsAwaited, AreFrames, IsLowest, seen_of, AreSeen, frames_of, IsRightSoFar, left_to_do, Waited}
use Rattle.pio_expr.proofs.Finding.{items_of_symbol, found_is_there, place_within}
use Rattle.pio_expr.proofs.Agreeing.{agrees_value, agrees_fewer, IsMore}
use Rattle.pio_expr.proofs.Framing.{all_none, not_key, apart, seen_fit, keys_length, frame_value, fault_of_whole}

-- what the top frame shows of its expression, whatever agreeing values names have
abbrev pub Shown : Scope → Kept → List Item → Work → ((List ℕ → Result ℤ ValueKind) → Result ℤ ValueKind) → Type 0
Shown scope kept items old gives = (named : List ℕ → Result ℤ ValueKind) → Agrees (looked_up scope kept (is_among (places_of (frames_of old))) old.top.local) named → worked_out named (items_of scope items old.top.place) [] ≡ gives named

-- the set of the begun is that of the places, but for the kept ones
begun_more : (kept : Kept) (begun under : ℕ → Bool) → ((q : ℕ) → kept_at kept q ≡ None → begun q ≡ under q) → IsMore kept begun kept under
begun_more kept begun under same q = ((λ v e. e), (λ none t. (none, sym (same q none) ∙ t)))

pub shown : (scope : Scope) (kept : Kept) (own : Option ℕ) (items : List Item) (old : Work) → IsRightSoFar scope kept own items old → (gives : (List ℕ → Result ℤ ValueKind) → Result ℤ ValueKind)
    → ((named : List ℕ → Result ℤ ValueKind) → Agrees (looked_up scope kept (λ q. list_any (nat_eq q) old.begun.keys) old.top.local) named → worked_out named old.top.rest.now old.top.numbers.items ≡ gives named) → Shown scope kept items old gives
shown scope kept own items old st gives run named agrees =
    st.frames.0.going named agrees ∙ run named (agrees_fewer scope kept kept (λ q. list_any (nat_eq q) old.begun.keys) (is_among (places_of (frames_of old))) old.top.local named (begun_more kept (λ q. list_any (nat_eq q) old.begun.keys) (is_among (places_of (frames_of old))) st.begun) agrees)

-- so the definition gives it too
pub defined : (scope : Scope) (kept : Kept) (own : Option ℕ) (items : List Item) (old : Work) (r : Result ℤ ValueKind) → IsRightSoFar scope kept own items old → Shown scope kept items old (λ _. r) → frame_value scope items old.top.place (places_of old.below.items) ≡ r
defined scope kept own items old r st run =
    let places = places_of (frames_of old) in
    let n = count_of scope - length places in
    let fit = seen_fit scope kept places st.seen in
    let keys = keys_length kept in
    ap (λ l. worked_out (name_value n scope places l) (items_of scope items old.top.place) []) (sym st.frames.0.local)
    ∙ run (name_value n scope places old.top.local) (agrees_value scope kept n places old.top.local st.is_kept (omega (arith, fit, keys)) (apart kept places st.seen.distinct))

fault_is : (scope : Scope) (kept : Kept) (own : Option ℕ) (items : List Item) (old : Work) (fault : ValueKind) → IsRightSoFar scope kept own items old
    → ((named : List ℕ → Result ℤ ValueKind) → Agrees (looked_up scope kept (λ q. list_any (nat_eq q) old.begun.keys) old.top.local) named → worked_out named old.top.rest.now old.top.numbers.items ≡ Err fault) → value_at scope own items ≡ Err fault
fault_is scope kept own items old fault st run =
    fault_of_whole scope kept own items fault st.is_own st.is_kept old.top old.below.items st.frames st.lowest st.seen (defined scope kept own items old (Err fault) st (shown scope kept own items old st (λ _. Err fault) run))

-- a fault of the top frame
pub fault_step : (scope : Scope) (kept : Kept) (own : Option ℕ) (items : List Item) (old : Work) (fault : ValueFault) → IsRightSoFar scope kept own items old
    → ((named : List ℕ → Result ℤ ValueKind) → Agrees (looked_up scope kept (λ q. list_any (nat_eq q) old.begun.keys) old.top.local) named → IsValueFaultOf fault (worked_out named old.top.rest.now old.top.numbers.items)) → IsValueFaultOf fault (value_at scope own items)
fault_step scope kept own items old value_fault.Memory st run = tt
fault_step scope kept own items old (value_fault.Found kind) st run = fault_is scope kept own items old kind st run

-- a define that is wanted
place_or : ℕ → Result Look ValueKind → ℕ
place_or d (Ok (wanted p items)) = p
place_or d (Ok (number n)) = d
place_or d (Err fault) = d

items_or : List Item → Result Look ValueKind → List Item
items_or d (Ok (wanted p items)) = items
items_or d (Ok (number n)) = d
items_or d (Err fault) = d

is_wanted : Result Look ValueKind → Bool
is_wanted (Ok (wanted p items)) = true
is_wanted (Ok (number n)) = false
is_wanted (Err fault) = false

pub record IsWanted (kept : Kept) (under : ℕ → Bool) (f : Found) (place : ℕ) (items : List Item) : Type 0 where
  pub finds : f ≡ Some (place, Define items)
  pub unkept : kept_at kept place ≡ None
  pub idle : under place ≡ false

wanted_by : (kept : Kept) (under : ℕ → Bool) (name : List ℕ) (place : ℕ) (items : List Item) (f : Found) → by_symbol number (λ p its. look_by (kept_at kept p) (under p) name p its) name f ≡ Ok (wanted place items) → IsWanted kept under f place items
unfolding is_wanted place_or items_or
wanted_by kept under name place items None h = absurd (true≢false (sym (ap is_wanted h)))
wanted_by kept under name place items (Some (p, Label k)) h = absurd (true≢false (sym (ap is_wanted h)))
wanted_by kept under name place items (Some (p, Define its)) h = by (kept_at kept p) (under p) refl refl h where
  by : (o : Option ℤ) (u : Bool) → kept_at kept p ≡ o → under p ≡ u → look_by o u name p its ≡ Ok (wanted place items) → IsWanted kept under (Some (p, Define its)) place items
  by (Some v) u k t h' = absurd (true≢false (sym (ap is_wanted h')))
  by None true k t h' = absurd (true≢false (sym (ap is_wanted h')))
  by None false k t h' =
      let a : p ≡ place = ap (place_or p) h' in
      let b : its ≡ items = ap (items_or its) h' in
      record { finds = (λ i. Some (a i, Define (b i))); unkept = subst (λ x. kept_at kept x ≡ None) a k; idle = subst (λ x. under x ≡ false) a t }

pub record IsAsked (scope : Scope) (kept : Kept) (under : ℕ → Bool) (local : Bool) (rest : List Item) (place : ℕ) (items : List Item) : Type 0 where
  pub awaited : AwaitedAt scope local (Some place) rest
  pub unkept : kept_at kept place ≡ None
  pub idle : under place ≡ false
  pub expression : items_at scope place ≡ items
  pub within : place < count_of scope

pub asked : (scope : Scope) (kept : Kept) (under : ℕ → Bool) (local : Bool) (rest : List Item) (place : ℕ) (items : List Item) → RestsAt (looked_up scope kept under local) rest place items → IsAsked scope kept under local rest place items
asked scope kept under local [] place items h = absurd h
asked scope kept under local (item.Name name ∷ rest) place items h =
    let it = wanted_by kept under name place items (found scope local name) h in
    let at : symbol_at scope place ≡ Some (Define items) = found_is_there scope local name place (Define items) it.finds in
    let same : items_at scope place ≡ items = items_of_symbol scope place items at in
    record { awaited = it.finds ∙ ap (λ its. Some (place, Define its)) (sym same); unkept = it.unkept; idle = it.idle; expression = same; within = place_within scope place (Define items) at }
asked scope kept under local (i ∷ rest) place items h = absurd h

-- the frame that waits now, and the one that begins
module _ (scope : Scope) (kept : Kept) (own : Option ℕ) (items : List Item) (old : Work) (top : StackFrame) (st : IsRightSoFar scope kept own items old) (of_symbol : top.place ≡ old.top.place) (local : top.local ≡ old.top.local) where
  rested : Shown scope kept items old (λ named. worked_out named top.rest.now top.numbers.items) → IsFrame scope kept items (places_of (top ∷ old.below.items)) top
  rested run = record {
    local = local ∙ st.frames.0.local ∙ ap (is_local scope) (sym of_symbol);
    going = λ named agrees. ap (λ o. worked_out named (items_of scope items o) []) of_symbol ∙ run named (subst (λ l. Agrees (looked_up scope kept (is_among (places_of (frames_of old))) l) named) local (subst (λ o. Agrees (looked_up scope kept (is_among (placed o (places_of old.below.items))) top.local) named) of_symbol agrees));
  }

  rested_all : Shown scope kept items old (λ named. worked_out named top.rest.now top.numbers.items) → AreFrames scope kept items (top ∷ old.below.items)
  rested_all run = (rested run, awaited old.below.items st.frames.1, st.frames.2) where
    awaited : (below : List StackFrame) → IsAwaited scope old.top below → IsAwaited scope top below
    awaited [] h = tt
    awaited (caller ∷ below) h = subst (λ o. AwaitedAt scope caller.local o caller.rest.now) (sym of_symbol) h

  rested_lowest : IsLowest own (top ∷ old.below.items)
  rested_lowest = by old.below.items st.lowest where
    by : (below : List StackFrame) → IsLowest own (old.top ∷ below) → IsLowest own (top ∷ below)
    by [] h = of_symbol ∙ h
    by (caller ∷ below) h = h

  rested_places : places_of (top ∷ old.below.items) ≡ places_of (frames_of old)
  rested_places = ap (λ o. placed o (places_of old.below.items)) of_symbol

pub same_sym : (a b : ℕ) → nat_eq a b ≡ nat_eq b a
same_sym a b = by (nat_eq a b) (nat_eq b a) refl refl where
  by : (x y : Bool) → nat_eq a b ≡ x → nat_eq b a ≡ y → x ≡ y
  by true true p q = refl
  by false false p q = refl
  by true false p q = sym (eq-eqb b a (sym (eqb-true a b p))) ∙ q
  by false true p q = sym p ∙ eq-eqb a b (sym (eqb-true b a q))

pub begun_on : (p q : ℕ) (begun : Bool) (under : List ℕ) → begun ≡ is_among under q → cond (nat_eq p q) true begun ≡ is_among (p ∷ under) q
begun_on p q begun under h = by (nat_eq p q) refl where
  by : (b : Bool) → nat_eq p q ≡ b → cond b true begun ≡ (nat_eq q p || is_among under q)
  by true t = let u : nat_eq q p ≡ true = sym (same_sym p q) ∙ t in rw u refl
  by false t = let u : nat_eq q p ≡ false = sym (same_sym p q) ∙ t in rw u h

pub seen_new : (scope : Scope) (p : ℕ) (seen : List ℕ) → list_any (nat_eq p) seen ≡ false → p < count_of scope → AreSeen scope seen → AreSeen scope (p ∷ seen)
seen_new scope p seen new within are = record { distinct = IsDistinct-cons nat_eq p seen (all_none p seen new) are.distinct; within = λ q h. by q (nat_eq q p) refl h } where
  by : (q : ℕ) (b : Bool) → nat_eq q p ≡ b → (b || list_any (nat_eq q) seen) ≡ true → q < count_of scope
  by q true t h = subst (λ x. x < count_of scope) (sym (eqb-true q p t)) within
  by q false t h = are.within q h

unseen : (kept : Kept) (p : ℕ) (places : List ℕ) → kept_at kept p ≡ None → is_among places p ≡ false → list_any (nat_eq p) (places ++ keys_of kept) ≡ false
unseen kept p places none idle = list_any-append (nat_eq p) places (keys_of kept) ∙ (rw (idle, not_key kept p none) refl)

pub wait_step : (scope : Scope) (kept : Kept) (own : Option ℕ) (items : List Item) (old new : Work) (top : StackFrame) (place : ℕ) (its : List Item) → IsRightSoFar scope kept own items old → top.place ≡ old.top.place → top.local ≡ old.top.local
    → Shown scope kept items old (λ named. worked_out named top.rest.now top.numbers.items) → RestsAt (looked_up scope kept (λ q. list_any (nat_eq q) old.begun.keys) old.top.local) top.rest.now place its
    → Waited scope place its (record { top = top; below = old.below; begun = old.begun }) new → IsRightSoFar scope kept own items new × (left_to_do scope kept (frames_of new) < left_to_do scope kept (frames_of old))
wait_step scope kept own items old new top place its st of_symbol local run rests w =
    let it = asked scope kept (λ q. list_any (nat_eq q) old.begun.keys) old.top.local top.rest.now place its rests in
    let same : places_of (top ∷ old.below.items) ≡ places_of (frames_of old) = rested_places scope kept own items old top st of_symbol local in
    let places : places_of (frames_of new) ≡ place ∷ places_of (frames_of old) = (λ i. placed (w.of_symbol i) (places_of (w.below i))) ∙ ap (λ ps. place ∷ ps) same in
    let idle : is_among (places_of (frames_of old)) place ≡ false = sym (st.begun place it.unkept) ∙ it.idle in
    let seen : AreSeen scope (place ∷ seen_of (frames_of old) kept) = seen_new scope place (seen_of (frames_of old) kept) (unseen kept place (places_of (frames_of old)) it.unkept idle) it.within st.seen in
    let fit = length-le_from_distinct_below (place ∷ seen_of (frames_of old) kept) (count_of scope) seen.distinct seen.within in
    let frame : IsFrame scope kept items (places_of (frames_of new)) new.top = record {
      local = w.local ∙ ap (is_local scope) (sym w.of_symbol);
      going = λ named agrees. ap (λ o. worked_out named (items_of scope items o) []) w.of_symbol ∙ ap (λ xs. worked_out named xs []) (it.expression ∙ sym w.rest) ∙ ap (λ ns. worked_out named new.top.rest.now ns) (sym w.numbers);
    } in
    let awaited : IsAwaited scope new.top (top ∷ old.below.items) = subst (λ o. AwaitedAt scope top.local o top.rest.now) (sym w.of_symbol) (subst (λ l. AwaitedAt scope l (Some place) top.rest.now) (sym local) it.awaited) in
    let below : AreFrames scope kept items (top ∷ old.below.items) = rested_all scope kept own items old top st of_symbol local run in
    let longer : length (frames_of new) ≡ length (frames_of old) + 1 = ap (λ fs. length (new.top ∷ fs)) w.below ∙ omega arith in
    let more : length (seen_of (frames_of new) kept) ≡ length (place ∷ seen_of (frames_of old) kept) = ap (λ ps. length (ps ++ keys_of kept)) places in (
      record {
        is_own = st.is_own;
        is_kept = st.is_kept;
        frames = (frame, subst (IsAwaited scope new.top) (sym w.below) awaited, subst (AreFrames scope kept items) (sym w.below) below);
        lowest = subst (λ fs. IsLowest own (new.top ∷ fs)) (sym w.below) (rested_lowest scope kept own items old top st of_symbol local);
        seen = subst (λ ps. AreSeen scope (ps ++ keys_of kept)) (sym places) seen;
        begun = λ q none. w.begun q ∙ begun_on place q (list_any (nat_eq q) old.begun.keys) (places_of (frames_of old)) (st.begun q none) ∙ ap (λ ps. is_among ps q) (sym places);
      },
      omega (arith, fit, longer, more),
    )
