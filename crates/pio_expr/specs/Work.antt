-- What holds between the steps of working an expression out: more words of this crate's private clauses.
--   IsRightSoFar       how the frames lie to one another, to what is kept, and to the value that is asked
--   StepsTo            what one step gives
--   left_to_do         a number that each step makes smaller
use Rattle.std.specs.Prelude.{◌≡◌, ℕ, ◌+◌, ◌-◌, ◌*◌, ◌<◌, ℤ, Bool, true, List, [], ◌∷◌, ◌++◌, length, Option, Some, None, Result, Ok, Err, nat_eq, cond}
use Rattle.std.specs.List.{list_any, IsDistinct}
use Rattle.std.specs.Map.{keys_of}
use Rattle.indexmap.specs.IndexMap.{insert_entry}
use Rattle.pio_expr.specs.declared.expr.Item.{Item}
use Rattle.pio_expr.specs.declared.expr.Item.TheVariants as item
use Rattle.pio_expr.specs.declared.symbol.Symbol.TheVariants.{Define}
use Rattle.pio_expr.specs.declared.fault.ValueFault.{ValueFault}
use Rattle.pio_expr.specs.declared.fault.ValueKind.{ValueKind}
use Rattle.pio_expr.specs.declared.frame.StackFrame.{StackFrame}
use Rattle.pio_expr.specs.declared.work.Work.{Work}
use Rattle.pio_expr.specs.Values.{Scope, found, in_program, count_of, is_among, worked_out, value_at, IsValueFaultOf}
use Rattle.pio_expr.specs.Frames.{is_local, Kept, kept_at, items_at, symbol_at, looked_up, Agrees, AreKept}

-- the places of the frames' symbols, those under way
abbrev pub placed : Option ℕ → List ℕ → List ℕ
placed (Some place) places = place ∷ places
placed None places = places

-- the places of all frames' symbols
abbrev pub places_of : List StackFrame → List ℕ
places_of [] = []
places_of (frame ∷ below) = placed frame.place (places_of below)

-- the expression of a frame: that of its symbol, or the one that is asked
abbrev pub items_of : Scope → List Item → Option ℕ → List Item
items_of scope items (Some place) = items_at scope place
items_of scope items None = items

-- the expression that is asked is that of its place
abbrev pub IsOwn : Scope → Option ℕ → List Item → Type 0
IsOwn scope (Some place) items = symbol_at scope place ≡ Some (Define items)
IsOwn scope None items = Unit {0}

-- a frame has worked a part of its expression out, for all values of names that agree
pub record IsFrame (scope : Scope) (kept : Kept) (items : List Item) (under : List ℕ) (frame : StackFrame) : Type 0 where
  pub local : frame.local ≡ is_local scope frame.place
  pub going : (named : List ℕ → Result ℤ ValueKind) → Agrees (looked_up scope kept (is_among under) frame.local) named
      → worked_out named (items_of scope items frame.place) [] ≡ worked_out named frame.rest.now frame.numbers.items

-- the frame below rests at the name whose symbol this frame works out
abbrev pub AwaitedAt : Scope → Bool → Option ℕ → List Item → Type 0
AwaitedAt scope local (Some place) (item.Name name ∷ rest) = found scope local name ≡ Some (place, Define (items_at scope place))
AwaitedAt scope local _ _ = ⊥

-- a frame is what the one below it waits for
abbrev pub IsAwaited : Scope → StackFrame → List StackFrame → Type 0
IsAwaited scope frame [] = Unit {0}
IsAwaited scope frame (caller ∷ below) = AwaitedAt scope caller.local frame.place caller.rest.now

-- each frame is right, and is what the one below waits for
abbrev pub AreFrames : Scope → Kept → List Item → List StackFrame → Type 0
AreFrames scope kept items [] = Unit {0}
AreFrames scope kept items (frame ∷ below) = IsFrame scope kept items (places_of (frame ∷ below)) frame × IsAwaited scope frame below × AreFrames scope kept items below

-- the lowest frame is that of the expression that is asked
abbrev pub IsLowest : Option ℕ → List StackFrame → Type 0
IsLowest own [] = ⊥
IsLowest own (frame ∷ []) = frame.place ≡ own
IsLowest own (frame ∷ caller ∷ below) = IsLowest own (caller ∷ below)

-- the symbols that are under way or worked out: each once
abbrev pub seen_of : List StackFrame → Kept → List ℕ
seen_of frames kept = places_of frames ++ keys_of kept

-- they are distinct, and symbols of the scope
pub record AreSeen (scope : Scope) (seen : List ℕ) : Type 0 where
  pub distinct : IsDistinct nat_eq seen
  pub within : (place : ℕ) → list_any (nat_eq place) seen ≡ true → place < count_of scope

-- all frames, the top one in front
abbrev pub frames_of : Work → List StackFrame
frames_of work = work.top ∷ work.below.items

-- work in progress: its frames are right, and their lowest is the one that is asked
pub record IsRightSoFar (scope : Scope) (kept : Kept) (own : Option ℕ) (items : List Item) (work : Work) : Type 0 where
  pub is_own : IsOwn scope own items
  pub is_kept : AreKept scope kept
  pub frames : AreFrames scope kept items (frames_of work)
  pub lowest : IsLowest own (frames_of work)
  pub seen : AreSeen scope (seen_of (frames_of work) kept)
  pub begun : (place : ℕ) → kept_at kept place ≡ None → list_any (nat_eq place) work.begun.keys ≡ is_among (places_of (frames_of work)) place

-- twice the symbols that aren't seen yet, and the frames
abbrev pub left_to_do : Scope → Kept → List StackFrame → ℕ
left_to_do scope kept frames = 2 * (count_of scope - length (seen_of frames kept)) + length frames

-- what one step gives: it goes on, or the value or the fault of the whole is there
abbrev pub StepsTo : Scope → Option ℕ → List Item → Kept → Work → Kept → Work → Result (Option ℤ) ValueFault → Type 0
StepsTo scope own items kept old kept' new (Ok None) = IsRightSoFar scope kept' own items new × (left_to_do scope kept' (frames_of new) < left_to_do scope kept (frames_of old))
StepsTo scope own items kept old kept' new (Ok (Some n)) = (value_at scope own items ≡ Ok n) × AreKept scope kept'
StepsTo scope own items kept old kept' new (Err fault) = IsValueFaultOf fault (value_at scope own items) × AreKept scope kept'

-- the kept value of a symbol
abbrev pub kept_of : Kept → Option ℕ → Option ℤ
kept_of kept (Some place) = kept_at kept place
kept_of kept None = None

-- a frame for the symbol of a place is on the others
pub record Waited (scope : Scope) (place : ℕ) (items : List Item) (old new : Work) : Type 0 where
  pub below : new.below.items ≡ old.top ∷ old.below.items
  pub of_symbol : new.top.place ≡ Some place
  pub local : new.top.local ≡ in_program scope place
  pub rest : new.top.rest.now ≡ items
  pub numbers : new.top.numbers.items ≡ []
  pub begun : (q : ℕ) → list_any (nat_eq q) new.begun.keys ≡ cond (nat_eq place q) true (list_any (nat_eq q) old.begun.keys)

-- the top frame is gone; the value, where it was the lowest
abbrev pub Finished : ℤ → Work → Work → Option ℤ → Type 0
Finished value old new None = frames_of new ≡ old.below.items
Finished value old new (Some n) = (n ≡ value) × (old.below.items ≡ [])

-- the value of the frame's symbol is kept, if it is a symbol's
abbrev pub IsNewlyKept : Kept → Option ℕ → ℤ → Kept → Type 0
IsNewlyKept old (Some place) value new = new ≡ insert_entry nat_eq old place value
IsNewlyKept old None value new = new ≡ old
