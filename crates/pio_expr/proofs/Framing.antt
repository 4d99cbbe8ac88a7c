-- The frames: what a fault, an end or a wait of the top one means to the whole.
use Rattle.std.proofs.Common.{◌≡◌, ℕ, suc, ◌+◌, ◌-◌, ◌≤◌, ℤ, Bool, true, false, List, [], ◌∷◌, ◌++◌, length, Option, Some, None, Result, Ok, Err, refl, ap, sym, ◌∙◌, ◌||◌, arith, nat_eq, true≢false}
use Rattle.std.specs.List.{list_any, IsDistinct, AllByRecursion}
use Rattle.std.specs.Map.{keys_of}
use Rattle.std.proofs.lemmas.Bool.{eqb-true, or_parts, or_right}
use Rattle.std.proofs.lemmas.List.{length-append}
use Rattle.std.proofs.lemmas.List.Folds.{list_any-append}
use Rattle.std.proofs.lemmas.Map.Keys.{IsDistinct-tail, IsDistinct-head}
use Rattle.std.proofs.lemmas.Map.Steps.{length-le_from_distinct_below}
use Rattle.pio_expr.specs.declared.expr.Item.{Item}
use Rattle.pio_expr.specs.declared.expr.Item.TheVariants as item
use Rattle.pio_expr.specs.declared.fault.ValueKind.{ValueKind}
use Rattle.pio_expr.specs.declared.frame.StackFrame.{StackFrame}
use Rattle.pio_expr.specs.Values.{Scope, in_program, count_of, is_among, worked_out, name_value, value_at}
use Rattle.pio_expr.specs.Frames.{Kept, kept_at, is_local, items_at, AreKept}
use Rattle.pio_expr.specs.Work.{placed, places_of, items_of, IsOwn, IsFrame, AwaitedAt, AreFrames, IsLowest, seen_of, AreSeen}
use Rattle.pio_expr.proofs.Workings.{ends_in}
use Rattle.pio_expr.proofs.Finding.{items_of_symbol}
use Rattle.pio_expr.proofs.Keeping.{Apart, at_define}
use Rattle.pio_expr.proofs.Agreeing.{agrees_value}

-- no place of these is this one
any_none : (p : ℕ) (xs : List ℕ) → AllByRecursion (λ y. nat_eq p y ≡ false) xs → list_any (nat_eq p) xs ≡ false
any_none p [] h = refl
any_none p (x ∷ xs) h = rw h.0 (any_none p xs h.1)

pub all_none : (p : ℕ) (xs : List ℕ) → list_any (nat_eq p) xs ≡ false → AllByRecursion (λ y. nat_eq p y ≡ false) xs
all_none p [] h = tt
all_none p (x ∷ xs) h = by (nat_eq p x) refl (all_none p xs) where
  by : (b : Bool) → nat_eq p x ≡ b → (list_any (nat_eq p) xs ≡ false → AllByRecursion (λ y. nat_eq p y ≡ false) xs) → AllByRecursion (λ y. nat_eq p y ≡ false) (x ∷ xs)
  by true t rest = let no : true ≡ false = rw t at h in absurd (true≢false no)
  by false t rest = (t, rest (rw t at h))

pub head_new : (p : ℕ) (xs : List ℕ) → IsDistinct nat_eq (p ∷ xs) → list_any (nat_eq p) xs ≡ false
head_new p xs h = any_none p xs (IsDistinct-head nat_eq p xs h)

-- a place that isn't kept
pub not_kept : (kept : Kept) (q : ℕ) → list_any (nat_eq q) (keys_of kept) ≡ false → kept_at kept q ≡ None
not_kept [] q h = refl
not_kept (e ∷ es) q h = by (nat_eq q e.0) refl (not_kept es q) where
  by : (b : Bool) → nat_eq q e.0 ≡ b → (list_any (nat_eq q) (keys_of es) ≡ false → kept_at es q ≡ None) → kept_at (e ∷ es) q ≡ None
  by true t rest = let no : true ≡ false = rw t at h in absurd (true≢false no)
  by false t rest = rw t (rest (rw t at h))

pub not_key : (kept : Kept) (q : ℕ) → kept_at kept q ≡ None → list_any (nat_eq q) (keys_of kept) ≡ false
not_key [] q h = refl
not_key (e ∷ es) q h = by (nat_eq q e.0) refl (not_key es q) where
  by : (b : Bool) → nat_eq q e.0 ≡ b → (kept_at es q ≡ None → list_any (nat_eq q) (keys_of es) ≡ false) → list_any (nat_eq q) (keys_of (e ∷ es)) ≡ false
  by true t rest = let no : Some e.1 ≡ None = rw t at h in cc
  by false t rest = rw t (rest (rw t at h))

-- the symbols under way aren't kept
pub apart : (kept : Kept) (places : List ℕ) → IsDistinct nat_eq (places ++ keys_of kept) → Apart places kept
apart kept [] h q e = absurd (true≢false (sym e))
apart kept (p ∷ places) h q e = by (nat_eq q p) refl (apart kept places (IsDistinct-tail nat_eq p (places ++ keys_of kept) h) q) where
  by : (b : Bool) → nat_eq q p ≡ b → (is_among places q ≡ true → kept_at kept q ≡ None) → kept_at kept q ≡ None
  by true t rest =
      let new : (list_any (nat_eq p) places || list_any (nat_eq p) (keys_of kept)) ≡ false = sym (list_any-append (nat_eq p) places (keys_of kept)) ∙ head_new p (places ++ keys_of kept) h in
      ap (λ x. kept_at kept x) (eqb-true q p t) ∙ not_kept kept p (or_parts _ _ new).1
  by false t rest = rest (rw t at e)

-- they and the kept ones are no more than there are symbols
pub seen_fit : (scope : Scope) (kept : Kept) (places : List ℕ) → AreSeen scope (places ++ keys_of kept) → length places + length (keys_of kept) ≤ count_of scope
seen_fit scope kept places seen = let le = length-le_from_distinct_below (places ++ keys_of kept) (count_of scope) seen.distinct seen.within in let both = length-append places (keys_of kept) in omega (arith, le, both)

pub keys_length : (kept : Kept) → length (keys_of kept) ≡ length kept
keys_length [] = refl
keys_length (e ∷ es) = let rest = keys_length es in omega (arith, rest)

-- without the newest
pub seen_below : (scope : Scope) (kept : Kept) (o : Option ℕ) (places : List ℕ) → AreSeen scope (placed o places ++ keys_of kept) → AreSeen scope (places ++ keys_of kept)
seen_below scope kept None places seen = seen
seen_below scope kept (Some p) places seen = record { distinct = IsDistinct-tail nat_eq p (places ++ keys_of kept) seen.distinct; within = λ q h. seen.within q (or_right (nat_eq q p) (list_any (nat_eq q) (places ++ keys_of kept)) h) }

-- what the definition gives for the expression of the top frame
abbrev pub frame_value : Scope → List Item → Option ℕ → List ℕ → Result ℤ ValueKind
frame_value scope items o places = worked_out (name_value (count_of scope - length (placed o places)) scope (placed o places) (is_local scope o)) (items_of scope items o) []

lowest_by : (scope : Scope) (items : List Item) (own : Option ℕ) → IsOwn scope own items → frame_value scope items own [] ≡ value_at scope own items
lowest_by scope items None is = let all : count_of scope - 0 ≡ count_of scope = omega arith in rw all refl
lowest_by scope items (Some p) is = ap (λ its. worked_out (name_value (count_of scope - 1) scope (p ∷ []) (in_program scope p)) its []) (items_of_symbol scope p items is)

-- a frame goes on as the definition does
pub as_defined : (scope : Scope) (kept : Kept) (items : List Item) (frame : StackFrame) (below : List StackFrame) → AreKept scope kept → AreSeen scope (seen_of (frame ∷ below) kept) → IsFrame scope kept items (places_of (frame ∷ below)) frame
    → frame_value scope items frame.place (places_of below) ≡ worked_out (name_value (count_of scope - length (places_of (frame ∷ below))) scope (places_of (frame ∷ below)) frame.local) frame.rest.now frame.numbers.items
as_defined scope kept items frame below is seen it =
    let places = places_of (frame ∷ below) in
    let n = count_of scope - length places in
    let fit = seen_fit scope kept places seen in
    let keys = keys_length kept in
    ap (λ l. worked_out (name_value n scope places l) (items_of scope items frame.place) []) (sym it.local)
    ∙ it.going (name_value n scope places frame.local) (agrees_value scope kept n places frame.local is (omega (arith, fit, keys)) (apart kept places seen.distinct))

-- a fault of the symbol that is awaited is met at its name
fault_met : (scope : Scope) (kept : Kept) (items : List Item) (local : Bool) (places : List ℕ) (numbers : List ℤ) (fault : ValueKind) (o : Option ℕ) (rest : List Item) → AwaitedAt scope local o rest → AreSeen scope (placed o places ++ keys_of kept) → frame_value scope items o places ≡ Err fault
    → worked_out (name_value (count_of scope - length places) scope places local) rest numbers ≡ Err fault
fault_met scope kept items local places numbers fault (Some p) (item.Name name ∷ rest) awaited seen h =
    let fit = seen_fit scope kept (p ∷ places) seen in
    let one : count_of scope - length places ≡ suc (count_of scope - length (p ∷ places)) = omega (arith, fit) in
    let new : (list_any (nat_eq p) places || list_any (nat_eq p) (keys_of kept)) ≡ false = sym (list_any-append (nat_eq p) places (keys_of kept)) ∙ head_new p (places ++ keys_of kept) seen.distinct in
    let met : name_value (count_of scope - length places) scope places local name ≡ Err fault = ap (λ n. name_value n scope places local name) one ∙ at_define scope places local name (count_of scope - length (p ∷ places)) p (items_at scope p) awaited (or_parts _ _ new).0 ∙ h in
    ends_in (name_value (count_of scope - length places) scope places local) (item.Name name) rest numbers fault met
fault_met scope kept items local places numbers fault (Some p) [] awaited seen h = absurd awaited
fault_met scope kept items local places numbers fault (Some p) (i ∷ rest) awaited seen h = absurd awaited
fault_met scope kept items local places numbers fault None rest awaited seen h = absurd awaited

-- so a fault of the top frame is that of the whole
pub fault_of_whole : (scope : Scope) (kept : Kept) (own : Option ℕ) (items : List Item) (fault : ValueKind) → IsOwn scope own items → AreKept scope kept → (frame : StackFrame) (below : List StackFrame) → AreFrames scope kept items (frame ∷ below) → IsLowest own (frame ∷ below) → AreSeen scope (seen_of (frame ∷ below) kept)
    → frame_value scope items frame.place (places_of below) ≡ Err fault → value_at scope own items ≡ Err fault
fault_of_whole scope kept own items fault is_own is frame [] frames lowest seen h =
    sym (ap (λ o. frame_value scope items o []) lowest ∙ lowest_by scope items own is_own) ∙ h
fault_of_whole scope kept own items fault is_own is frame (caller ∷ below) frames lowest seen h =
    let seen_on = seen_below scope kept frame.place (places_of (caller ∷ below)) seen in
    fault_of_whole scope kept own items fault is_own is caller below frames.2 lowest seen_on
    (as_defined scope kept items caller below is seen_on frames.2.0 ∙ fault_met scope kept items caller.local (places_of (caller ∷ below)) caller.numbers.items fault frame.place caller.rest.now frames.1 seen h)

-- and the value of the lowest frame that of the whole
pub value_of_whole : (scope : Scope) (own : Option ℕ) (items : List Item) (value : ℤ) → IsOwn scope own items → (frame : StackFrame) → frame.place ≡ own → frame_value scope items frame.place [] ≡ Ok value → value_at scope own items ≡ Ok value
value_of_whole scope own items value is_own frame lowest h = sym (ap (λ o. frame_value scope items o []) lowest ∙ lowest_by scope items own is_own) ∙ h
