-- The end of the top frame: its value is kept, and the frame below goes on. And the first frame of all.
use Rattle.std.proofs.Common.{◌≡◌, ℕ, suc, ◌+◌, ◌-◌, ◌<◌, ℤ, Bool, true, false, List, [], ◌∷◌, ◌++◌, length, Option, Some, None, Result, Ok, Err, refl, ap, sym, subst, ◌∙◌, ◌||◌, arith, nat_eq, true≢false, append_assoc, slice_get, IfOk, OnOk, IfErr}
use Rattle.std.specs.List.{list_any, IsDistinct}
use Rattle.std.specs.Map.{keys_of}
use Rattle.std.specs.Result.{result_transpose}
use Rattle.std.proofs.lemmas.Bool.{eqb-true, eq-eqb, or_parts}
use Rattle.std.proofs.lemmas.List.{length-append, map-append}
use Rattle.std.proofs.lemmas.List.Folds.{list_any-append}
use Rattle.std.proofs.lemmas.Map.Keys.{IsDistinct-tail, IsDistinct-push}
use Rattle.indexmap.specs.IndexMap.{insert_entry}
use Rattle.pio_expr.specs.declared.expr.Item.{Item}
use Rattle.pio_expr.specs.declared.symbol.Symbol.TheVariants.{Define}
use Rattle.pio_expr.specs.declared.fault.ValueFault.{ValueFault}
use Rattle.pio_expr.specs.declared.fault.ValueFault.TheVariants.{Memory}
use Rattle.pio_expr.specs.declared.frame.StackFrame.{StackFrame}
use Rattle.pio_expr.specs.declared.work.Work.{Work}
use Rattle.pio_expr.specs.Values.{Scope, in_program, count_of, is_among, worked_out, name_value, value_at, IsValueFaultOf, Gives}
use Rattle.pio_expr.specs.Frames.{Kept, kept_at, kept_value, is_local, items_at, AreKept}
use Rattle.pio_expr.specs.Work.{placed, places_of, items_of, IsOwn, IsFrame, AreFrames, IsLowest, seen_of, AreSeen, frames_of, IsRightSoFar, left_to_do, StepsTo, Finished, IsNewlyKept, kept_of}
use Rattle.pio_expr.proofs.Finding.{items_of_symbol, place_within}
use Rattle.std.proofs.lemmas.Map.Steps.{length-le_from_distinct_below}
use Rattle.std.proofs.lemmas.Cmp.{nat_eq_equiv}
use Rattle.pio_expr.proofs.Keeping.{kept_exact}
use Rattle.pio_expr.proofs.Agreeing.{agrees_kept, agrees_fewer, IsMore, pushed_some, pushed_none, kept_pushed}
use Rattle.pio_expr.proofs.Framing.{head_new, not_key, not_kept, keys_length, frame_value, value_of_whole}
use Rattle.pio_expr.proofs.Stepping.{Shown, defined, seen_new}

-- a new place goes last
inserted : (kept : Kept) (p : ℕ) (v : ℤ) → kept_at kept p ≡ None → insert_entry nat_eq kept p v ≡ kept ++ (p, v) ∷ []
inserted [] p v h = refl
inserted (e ∷ es) p v h = by (nat_eq p e.0) refl (inserted es p v) where
  by : (b : Bool) → nat_eq p e.0 ≡ b → (kept_at es p ≡ None → insert_entry nat_eq es p v ≡ es ++ (p, v) ∷ []) → insert_entry nat_eq (e ∷ es) p v ≡ e ∷ es ++ (p, v) ∷ []
  by true t rest = let no : Some e.1 ≡ None = rw t at h in cc
  by false t rest = rw t (ap (λ xs. e ∷ xs) (rest (rw t at h)))

pushed_own : (kept : Kept) (p : ℕ) (v : ℤ) → kept_at kept p ≡ None → kept_at (kept ++ (p, v) ∷ []) p ≡ Some v
pushed_own [] p v h = let same : nat_eq p p ≡ true = eq-eqb p p refl in rw same refl
pushed_own (e ∷ es) p v h = by (nat_eq p e.0) refl (pushed_own es p v) where
  by : (b : Bool) → nat_eq p e.0 ≡ b → (kept_at es p ≡ None → kept_at (es ++ (p, v) ∷ []) p ≡ Some v) → kept_at (e ∷ es ++ (p, v) ∷ []) p ≡ Some v
  by true t rest = let no : Some e.1 ≡ None = rw t at h in cc
  by false t rest = rw t (rest (rw t at h))

-- a place that isn't kept now wasn't before, and isn't the new one
unkept_before : (kept : Kept) (p q : ℕ) (v : ℤ) → kept_at (kept ++ (p, v) ∷ []) q ≡ None → kept_at kept q ≡ None
unkept_before kept p q v h = by (kept_at kept q) refl where
  by : (o : Option ℤ) → kept_at kept q ≡ o → o ≡ None
  by None e = refl
  by (Some w) e = sym (pushed_some kept p q v w e) ∙ h

unkept_other : (kept : Kept) (p q : ℕ) (v : ℤ) → kept_at kept p ≡ None → kept_at (kept ++ (p, v) ∷ []) q ≡ None → nat_eq q p ≡ false
unkept_other kept p q v none h = by (nat_eq q p) refl where
  by : (b : Bool) → nat_eq q p ≡ b → b ≡ false
  by false t = refl
  by true t = let no : Some v ≡ None = sym (pushed_own kept p v none) ∙ ap (λ x. kept_at (kept ++ (p, v) ∷ []) x) (sym (eqb-true q p t)) ∙ h in cc

-- the frames below are as before, with one value more
module _ (scope : Scope) (kept : Kept) (items : List Item) (p : ℕ) (v : ℤ) where
  more_kept : (under : List ℕ) → is_among under p ≡ false → IsMore kept (is_among under) (kept ++ (p, v) ∷ []) (is_among under)
  more_kept under out q = ((λ w e. pushed_some kept p q v w e), (λ none t. (pushed_none kept p q v none (other (nat_eq q p) refl t), t))) where
    other : (b : Bool) → nat_eq q p ≡ b → is_among under q ≡ true → b ≡ false
    other false e t = refl
    other true e t = absurd (true≢false (sym t ∙ ap (is_among under) (eqb-true q p e) ∙ out))

  frame_kept : (under : List ℕ) (frame : StackFrame) → is_among under p ≡ false → IsFrame scope kept items under frame → IsFrame scope (kept ++ (p, v) ∷ []) items under frame
  frame_kept under frame out it = record {
    local = it.local;
    going = λ named agrees. it.going named (agrees_fewer scope kept (kept ++ (p, v) ∷ []) (is_among under) (is_among under) frame.local named (more_kept under out) agrees);
  }

  out_below : (o : Option ℕ) (places : List ℕ) → is_among (placed o places) p ≡ false → is_among places p ≡ false
  out_below None places h = h
  out_below (Some q) places h = (or_parts (nat_eq p q) (is_among places p) h).1

  frames_kept : (frames : List StackFrame) → is_among (places_of frames) p ≡ false → AreFrames scope kept items frames → AreFrames scope (kept ++ (p, v) ∷ []) items frames
  frames_kept [] out h = tt
  frames_kept (frame ∷ below) out h = (frame_kept (places_of (frame ∷ below)) frame out h.0, h.1, frames_kept below (out_below frame.place (places_of below) out) h.2)

keys_pushed : (kept : Kept) (p : ℕ) (v : ℤ) → keys_of (kept ++ (p, v) ∷ []) ≡ keys_of kept ++ p ∷ []
keys_pushed kept p v = map-append (λ e. e.0) kept ((p, v) ∷ [])

seen_pushed : (kept : Kept) (places : List ℕ) (p : ℕ) (v : ℤ) → places ++ keys_of (kept ++ (p, v) ∷ []) ≡ (places ++ keys_of kept) ++ p ∷ []
seen_pushed kept places p v = ap (λ ks. places ++ ks) (keys_pushed kept p v) ∙ sym (append_assoc places (keys_of kept) (p ∷ []))

seen_kept : (scope : Scope) (kept : Kept) (places : List ℕ) (p : ℕ) (v : ℤ) → AreSeen scope (p ∷ places ++ keys_of kept) → AreSeen scope (places ++ keys_of (kept ++ (p, v) ∷ []))
seen_kept scope kept places p v seen = subst (AreSeen scope) (sym (seen_pushed kept places p v)) (record {
  distinct = IsDistinct-push nat_eq_equiv (places ++ keys_of kept) p (IsDistinct-tail nat_eq p (places ++ keys_of kept) seen.distinct) (head_new p (places ++ keys_of kept) seen.distinct);
  within = λ q h. seen.within q (turned q (list_any (nat_eq q) (places ++ keys_of kept)) (nat_eq q p) (sym (list_any-append (nat_eq q) (places ++ keys_of kept) (p ∷ [])) ∙ h));
}) where
  turned : (q : ℕ) (a b : Bool) → (a || (b || false)) ≡ true → (b || a) ≡ true
  turned q true true h = refl
  turned q true false h = refl
  turned q false true h = refl
  turned q false false h = h

-- what holds of what is kept, once the top frame is left
pub record IsLeft (scope : Scope) (kept kept' : Kept) (items : List Item) (o : Option ℕ) (below : List StackFrame) (begun : List ℕ) : Type 0 where
  pub is_kept : AreKept scope kept'
  pub frames : AreFrames scope kept' items below
  pub seen : AreSeen scope (seen_of below kept')
  pub begun_on : (q : ℕ) → kept_at kept' q ≡ None → list_any (nat_eq q) begun ≡ is_among (places_of below) q
  pub as_many : length (seen_of below kept') ≡ length (placed o (places_of below) ++ keys_of kept)

left_by_symbol : (scope : Scope) (kept : Kept) (items : List Item) (p : ℕ) (v : ℤ) (below : List StackFrame) (begun : List ℕ) → AreKept scope kept → AreFrames scope kept items below → AreSeen scope (p ∷ places_of below ++ keys_of kept) → ((q : ℕ) → kept_at kept q ≡ None → list_any (nat_eq q) begun ≡ is_among (p ∷ places_of below) q)
    → worked_out (kept_value scope kept (in_program scope p)) (items_at scope p) [] ≡ Ok v → IsLeft scope kept (kept ++ (p, v) ∷ []) items (Some p) below begun
left_by_symbol scope kept items p v below begun is frames seen same gives =
    let places = places_of below in
    let new : (list_any (nat_eq p) places || list_any (nat_eq p) (keys_of kept)) ≡ false = sym (list_any-append (nat_eq p) places (keys_of kept)) ∙ head_new p (places ++ keys_of kept) seen.distinct in
    let none : kept_at kept p ≡ None = not_kept kept p (or_parts (list_any (nat_eq p) places) (list_any (nat_eq p) (keys_of kept)) new).1 in
    let same_p : nat_eq p p ≡ true = eq-eqb p p refl in
    let within : p < count_of scope = seen.within p (rw same_p refl) in
    record {
      is_kept = kept_pushed scope kept p v is (record { within = within; gives = gives });
      frames = frames_kept scope kept items p v below (or_parts (list_any (nat_eq p) places) (list_any (nat_eq p) (keys_of kept)) new).0 frames;
      seen = seen_kept scope kept places p v seen;
      begun_on = λ q h. same q (unkept_before kept p q v h) ∙ ap (λ b. b || is_among places q) (unkept_other kept p q v none h);
      as_many = ap (λ xs. length xs) (seen_pushed kept places p v) ∙ length-append (places ++ keys_of kept) (p ∷ []) ∙ omega arith;
    }

left_by : (scope : Scope) (kept kept' : Kept) (items : List Item) (o : Option ℕ) (v : ℤ) (below : List StackFrame) (begun : List ℕ) → AreKept scope kept → AreFrames scope kept items below → AreSeen scope (placed o (places_of below) ++ keys_of kept) → ((q : ℕ) → kept_at kept q ≡ None → list_any (nat_eq q) begun ≡ is_among (placed o (places_of below)) q)
    → worked_out (kept_value scope kept (is_local scope o)) (items_of scope items o) [] ≡ Ok v → IsNewlyKept kept o v kept' → IsLeft scope kept kept' items o below begun
left_by scope kept kept' items None v below begun is frames seen same gives new =
    subst (λ es. IsLeft scope kept es items None below begun) (sym new) (record { is_kept = is; frames = frames; seen = seen; begun_on = same; as_many = refl })
left_by scope kept kept' items (Some p) v below begun is frames seen same gives new =
    let apart : (list_any (nat_eq p) (places_of below) || list_any (nat_eq p) (keys_of kept)) ≡ false = sym (list_any-append (nat_eq p) (places_of below) (keys_of kept)) ∙ head_new p (places_of below ++ keys_of kept) seen.distinct in
    let none : kept_at kept p ≡ None = not_kept kept p (or_parts (list_any (nat_eq p) (places_of below)) (list_any (nat_eq p) (keys_of kept)) apart).1 in
    subst (λ es. IsLeft scope kept es items (Some p) below begun) (sym (new ∙ inserted kept p v none)) (left_by_symbol scope kept items p v below begun is frames seen same gives)

-- the end of the top frame
pub done_left : (scope : Scope) (kept kept' : Kept) (own : Option ℕ) (items : List Item) (old : Work) (v : ℤ) → IsRightSoFar scope kept own items old → Shown scope kept items old (λ _. Ok v) → IsNewlyKept kept old.top.place v kept' → IsLeft scope kept kept' items old.top.place old.below.items old.begun.keys
done_left scope kept kept' own items old v st run new =
    left_by scope kept kept' items old.top.place v old.below.items old.begun.keys st.is_kept st.frames.2 st.seen st.begun
    (ap (λ l. worked_out (kept_value scope kept l) (items_of scope items old.top.place) []) (sym st.frames.0.local) ∙ run (kept_value scope kept old.top.local) (agrees_kept scope kept (is_among (places_of (frames_of old))) old.top.local)) new

lowest_below : (own : Option ℕ) (top : StackFrame) (below : List StackFrame) (frame : StackFrame) (rest : List StackFrame) → below ≡ frame ∷ rest → IsLowest own (top ∷ below) → IsLowest own (frame ∷ rest)
lowest_below own top below frame rest same h = let it : IsLowest own (top ∷ frame ∷ rest) = subst (λ fs. IsLowest own (top ∷ fs)) same h in it

-- the frame below goes on
pub done_on : (scope : Scope) (kept kept' : Kept) (own : Option ℕ) (items : List Item) (old new : Work) (v : ℤ) → IsRightSoFar scope kept own items old → Shown scope kept items old (λ _. Ok v) → IsNewlyKept kept old.top.place v kept' → frames_of new ≡ old.below.items → new.begun.keys ≡ old.begun.keys
    → IsRightSoFar scope kept' own items new × (left_to_do scope kept' (frames_of new) < left_to_do scope kept (frames_of old))
done_on scope kept kept' own items old new v st run fresh below begun =
    let it = done_left scope kept kept' own items old v st run fresh in
    let as_many : length (seen_of (frames_of new) kept') ≡ length (seen_of (frames_of old) kept) = ap (λ fs. length (seen_of fs kept')) below ∙ it.as_many in
    let fewer : length (frames_of new) + 1 ≡ length (frames_of old) = ap (λ fs. length fs + 1) below ∙ omega arith in (
      record {
        is_own = st.is_own;
        is_kept = it.is_kept;
        frames = subst (AreFrames scope kept' items) (sym below) it.frames;
        lowest = lowest_below own old.top old.below.items new.top new.below.items (sym below) st.lowest;
        seen = subst (λ fs. AreSeen scope (seen_of fs kept')) (sym below) it.seen;
        begun = λ q h. ap (λ ks. list_any (nat_eq q) ks) begun ∙ it.begun_on q h ∙ ap (λ fs. is_among (places_of fs) q) (sym below);
      },
      omega (arith, as_many, fewer),
    )

-- the lowest frame is done
pub done_last : (scope : Scope) (kept kept' : Kept) (own : Option ℕ) (items : List Item) (old : Work) (v : ℤ) → IsRightSoFar scope kept own items old → Shown scope kept items old (λ _. Ok v) → IsNewlyKept kept old.top.place v kept' → old.below.items ≡ [] → (value_at scope own items ≡ Ok v) × AreKept scope kept'
done_last scope kept kept' own items old v st run fresh below =
    let it = done_left scope kept kept' own items old v st run fresh in
    let lowest : old.top.place ≡ own = subst (λ fs. IsLowest own (old.top ∷ fs)) below st.lowest in
    (value_of_whole scope own items v st.is_own old.top lowest (subst (λ fs. frame_value scope items old.top.place (places_of fs) ≡ Ok v) below (defined scope kept own items old (Ok v) st run)), it.is_kept)

-- a kept place is one of the scope's
key_at : (kept : Kept) (q : ℕ) → list_any (nat_eq q) (keys_of kept) ≡ true → (i : ℕ) × (v : ℤ) × (slice_get kept i ≡ Some (q, v))
key_at [] q h = absurd (true≢false (sym h))
key_at (e ∷ es) q h = by (nat_eq q e.0) refl (key_at es q) where
  later : (i : ℕ) × (v : ℤ) × (slice_get es i ≡ Some (q, v)) → (i : ℕ) × (v : ℤ) × (slice_get (e ∷ es) i ≡ Some (q, v))
  later there = (suc there.0, there.1, there.2)

  by : (b : Bool) → nat_eq q e.0 ≡ b → (list_any (nat_eq q) (keys_of es) ≡ true → (i : ℕ) × (v : ℤ) × (slice_get es i ≡ Some (q, v))) → (i : ℕ) × (v : ℤ) × (slice_get (e ∷ es) i ≡ Some (q, v))
  by true t rest = let p : e.0 ≡ q = sym (eqb-true q e.0 t) in (0, e.1, (λ j. Some (p j, e.1)))
  by false t rest = later (rest (rw t at h))

kept_seen : (scope : Scope) (kept : Kept) → AreKept scope kept → IsDistinct nat_eq (keys_of kept) → AreSeen scope (keys_of kept)
kept_seen scope kept is distinct = record { distinct = distinct; within = λ q h. found_within q (key_at kept q h) } where
  found_within : (q : ℕ) → (i : ℕ) × (v : ℤ) × (slice_get kept i ≡ Some (q, v)) → q < count_of scope
  found_within q there = (is there.0 q there.1 there.2).within

own_seen : (scope : Scope) (kept : Kept) (own : Option ℕ) (items : List Item) → IsOwn scope own items → kept_of kept own ≡ None → AreSeen scope (keys_of kept) → AreSeen scope (placed own [] ++ keys_of kept)
own_seen scope kept None items is_own none seen = seen
own_seen scope kept (Some p) items is_own none seen = seen_new scope p (keys_of kept) (not_key kept p none) (place_within scope p (Define items) is_own) seen

own_items : (scope : Scope) (own : Option ℕ) (items : List Item) → IsOwn scope own items → items_of scope items own ≡ items
own_items scope None items is_own = refl
own_items scope (Some p) items is_own = items_of_symbol scope p items is_own

-- the first frame
pub new_holds : (scope : Scope) (kept : Kept) (own : Option ℕ) (items : List Item) (new : Work) → IsOwn scope own items → AreKept scope kept → IsDistinct nat_eq (keys_of kept) → kept_of kept own ≡ None
    → new.top.place ≡ own → new.top.local ≡ is_local scope own → new.top.rest.now ≡ items → new.top.numbers.items ≡ [] → new.below.items ≡ [] → ((q : ℕ) → list_any (nat_eq q) new.begun.keys ≡ is_among (placed own []) q) → IsRightSoFar scope kept own items new
new_holds scope kept own items new is_own is distinct none place local rest numbers below begun =
    let alone : frames_of new ≡ new.top ∷ [] = ap (λ fs. new.top ∷ fs) below in
    let places : places_of (frames_of new) ≡ placed own [] = (λ i. placed (place i) (places_of (below i))) in
    let frame : IsFrame scope kept items (places_of (new.top ∷ [])) new.top = record {
      local = local ∙ ap (is_local scope) (sym place);
      going = λ named agrees. ap (λ o. worked_out named (items_of scope items o) []) place ∙ ap (λ xs. worked_out named xs []) (own_items scope own items is_own ∙ sym rest) ∙ ap (λ ns. worked_out named new.top.rest.now ns) (sym numbers);
    } in
    record {
      is_own = is_own;
      is_kept = is;
      frames = subst (AreFrames scope kept items) (sym alone) (frame, tt, tt);
      lowest = subst (IsLowest own) (sym alone) place;
      seen = subst (λ ps. AreSeen scope (ps ++ keys_of kept)) (sym places) (own_seen scope kept own items is_own none (kept_seen scope kept is distinct));
      begun = λ q h. begun q ∙ ap (λ ps. is_among ps q) (sym places);
    }

-- what a step of the end gives
pub end_steps : (scope : Scope) (kept kept' : Kept) (own : Option ℕ) (items : List Item) (old new : Work) (top : StackFrame) (v : ℤ) (result : Result (Option ℤ) ValueFault) → IsRightSoFar scope kept own items old → Shown scope kept items old (λ _. Ok v) → top.place ≡ old.top.place
    → IfOk result (Finished v (record { top = top; below = old.below; begun = old.begun }) new) → new.begun ≡ old.begun → OnOk result (IsNewlyKept kept top.place v kept') → IfErr result (λ fault. (fault ≡ Memory) × (kept' ≡ kept)) → StepsTo scope own items kept old kept' new result
end_steps scope kept kept' own items old new top v (Ok None) st run of_symbol finished begun fresh memory =
    done_on scope kept kept' own items old new v st run (subst (λ o. IsNewlyKept kept o v kept') of_symbol fresh) finished (ap (λ s. s.keys) begun)
end_steps scope kept kept' own items old new top v (Ok (Some n)) st run of_symbol finished begun fresh memory =
    let it = done_last scope kept kept' own items old v st run (subst (λ o. IsNewlyKept kept o v kept') of_symbol fresh) finished.1 in
    (it.0 ∙ ap Ok (sym finished.0), it.1)
end_steps scope kept kept' own items old new top v (Err fault) st run of_symbol finished begun fresh memory =
    (subst (λ f. IsValueFaultOf f (value_at scope own items)) (sym memory.0) tt, subst (AreKept scope) (sym memory.1) st.is_kept)

-- a symbol whose value is kept
pub kept_whole : (scope : Scope) (kept : Kept) (own : Option ℕ) (items : List Item) (v : ℤ) → IsOwn scope own items → AreKept scope kept → IsDistinct nat_eq (keys_of kept) → kept_of kept own ≡ Some v → value_at scope own items ≡ Ok v
kept_whole scope kept None items v is_own is distinct h = let no : None ≡ Some v = h in cc
kept_whole scope kept (Some p) items v is_own is distinct h =
    let seen = kept_seen scope kept is distinct in
    let fit = length-le_from_distinct_below (keys_of kept) (count_of scope) seen.distinct seen.within in
    let keys = keys_length kept in
    ap (λ its. worked_out (name_value (count_of scope - 1) scope (p ∷ []) (in_program scope p)) its []) (sym (items_of_symbol scope p items is_own))
    ∙ kept_exact scope kept is (count_of scope - 1) p v (omega (arith, fit, keys)) h

-- a step that doesn't go on ends with the value or the fault
pub ended : (scope : Scope) (own : Option ℕ) (items : List Item) (kept : Kept) (old : Work) (kept' : Kept) (new : Work) (step : Result (Option ℤ) ValueFault) (answer : Result ℤ ValueFault) → StepsTo scope own items kept old kept' new step → Some answer ≡ result_transpose step → Gives answer (value_at scope own items) × AreKept scope kept'
ended scope own items kept old kept' new (Ok None) answer steps e = absurd cc
ended scope own items kept old kept' new (Ok (Some n)) (Ok m) steps e = let same : n ≡ m = cc in (steps.0 ∙ ap Ok same, steps.1)
ended scope own items kept old kept' new (Ok (Some n)) (Err fault) steps e = absurd cc
ended scope own items kept old kept' new (Err fault) (Ok m) steps e = absurd cc
ended scope own items kept old kept' new (Err fault) (Err other) steps e = let same : fault ≡ other = cc in (subst (λ f. IsValueFaultOf f (value_at scope own items)) same steps.0, steps.1)
