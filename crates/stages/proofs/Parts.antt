-- Stages one after the other: what one of them fails with, the whole fails with, and what all of them give, the whole
-- gives.
use Rattle.std.proofs.Common.{◌≡◌, ◌∙◌, ℕ, true, Option, Some, None, IfSome, List, [], ◌∷◌, ◌++◌, Result, Ok, Err, refl, sym, ap, subst, append-nil}
use Rattle.pio_edge.specs.Count.{Faults, failed_at}
use Rattle.pio_edge.specs.Edge.{Files}
use Rattle.pio_edge.specs.declared.shelf.Shelf.{Ghosts as ShelfSeen}
use Rattle.fault_lines.specs.declared.fault.File.{File}
use Rattle.fault_lines.specs.declared.fault.File.TheVariants as file
use Rattle.fault_lines.specs.declared.fault.Fault.{Fault}
use Rattle.fault_lines.specs.declared.fault.Fault.TheVariants as fault
use Rattle.stages.specs.Judged.{Judged, right, wrong, and_then}
use Rattle.stages.specs.Fetching.{FileSlot, slot, fetches_of, name_in, one_slot, AsksUntil}
use Rattle.stages.specs.Stages.{HasSuch, Plan, ReadFails, KeepsPlan, Shelved, made_into, plan_of, shelved}
use Rattle.stages.proofs.Asking.{all_after, part_all, asks_first, asks_after}

-- of known files, what follows from one thing
pub told : (files : Option Files) (P R : Files → Type 0) → ((f : Files) → P f → R f) → IfSome files P → IfSome files R
told None P R so p = tt
told (Some f) P R so p = so f p

-- and from two
pub both_told : (files : Option Files) (P Q R : Files → Type 0) → ((f : Files) → P f → Q f → R f) → IfSome files P → IfSome files Q → IfSome files R
both_told None P Q R so p q = tt
both_told (Some f) P Q R so p q = so f p q

-- what is so of all files is so of the known ones
pub of_all : (files : Option Files) (R : Files → Type 0) → ((f : Files) → R f) → IfSome files R
of_all None R so = tt
of_all (Some f) R so = so f

-- the whole comes to what follows from what a part comes to
pub goes_on : {X Y : Type 0} (files : Option Files) (whole : Files → Judged Y) (part : Files → Judged X) (rest : Files → X → Judged Y) (j : Judged X)
    → IfSome files (λ f. whole f ≡ and_then (part f) (rest f)) → IfSome files (λ f. part f ≡ j) → IfSome files (λ f. whole f ≡ and_then j (rest f))
goes_on {X} files whole part rest j w p = both_told files _ _ _ (λ f e r. e ∙ ap (λ (k : Judged X). and_then k (rest f)) r) w p

-- ---- stages that came out right

-- These files were read and came: the shelf holds what it held, had no fault, and was asked for them in order.
pub record Went {F : Type 0} (seen : ShelfSeen F) (slots : List FileSlot) (before after : F) : Type 0 where
  pub same : seen.holds after ≡ seen.holds before
  pub quiet : seen.faults after ≡ seen.faults before
  pub asked : seen.fetched after ≡ seen.fetched before ++ fetches_of slots

-- none yet
pub went_nowhere : {F : Type 0} (seen : ShelfSeen F) (shelf : F) → Went seen [] shelf shelf
went_nowhere seen shelf = record { same = refl; quiet = refl; asked = sym (append-nil (seen.fetched shelf)) }

-- and those of one stage more
pub went_on : {F X Y : Type 0} (seen : ShelfSeen F) (xs : List FileSlot) (plan : Plan X) (view : Y → X) (y : Y) (before mid after : F)
    → Went seen xs before mid → KeepsPlan seen plan view mid after (Ok y) → Went seen (xs ++ plan.slots) before after
went_on seen xs plan view y before mid after w k = record {
  same = k.same ∙ w.same;
  quiet = k.stage.0 ∙ w.quiet;
  asked = all_after xs plan.slots _ _ _ w.asked k.asked;
}

-- what known files come to after a stage, they came to before it
pub came_to : {F : Type 0} (seen : ShelfSeen F) (slots : List FileSlot) (before mid : F) (P : Files → Type 0)
    → Went seen slots before mid → IfSome (seen.holds mid) P → IfSome (seen.holds before) P
came_to seen slots before mid P w h = subst (λ (files : Option Files). IfSome files P) w.same h

-- all of a plan's files came, and this is what they come to
pub goes_right : {F X Y : Type 0} (seen : ShelfSeen F) (plan : Plan X) (view : Y → X) (y : Y) (before after : F)
    → Went seen plan.slots before after → IfSome (seen.holds before) (λ f. plan.comes_to f ≡ right (view y))
    → KeepsPlan seen plan view before after (Ok y)
goes_right seen plan view y before after w h = record { same = w.same; stage = (w.quiet, h); asked = w.asked }

-- memory ran out after this file came
pub no_memory : {F X Y V W : Type 0} (seen : ShelfSeen F) (part : Plan X) (whole : Plan Y) (view : V → X) (shown : W → Y) (v : V) (before after : F)
    → part.slots ≡ whole.slots → KeepsPlan seen part view before after (Ok v) → KeepsPlan seen whole shown before after (Err fault.Memory)
no_memory seen part whole view shown v before after same k = record {
  same = k.same;
  stage = k.stage.0;
  asked = part_all whole.slots _ _ (k.asked ∙ ap (λ (slots : List FileSlot). seen.fetched before ++ fetches_of slots) same);
}

-- ---- a stage that fails

-- What is so of this file's role is so of each role in which a plan of this file alone has a name.
only : (own : File) (name : Option (List ℕ)) (P : List ℕ → Type 0) (R : File → Type 0) (role : File) → (HasSuch name P → R own)
    → HasSuch (name_in (one_slot own name) role) P → R role
only file.Source name P R file.Source so h = so h
only file.Words name P R file.Words so h = so h
only file.Config name P R file.Config so h = so h
only file.Second name P R file.Second so h = so h
only file.Stimulus name P R file.Stimulus so h = so h
only file.Table name P R file.Table so h = so h
only file.Send name P R file.Send so h = so h
only own name P R role so h = absurd h

-- what a stage of one file fails with, where the whole has this file in this role, comes to it, and goes on with it
part_fails : {X Y : Type 0} (files : Option Files) (before after : Faults) (own : File) (name : Option (List ℕ)) (part : Files → Judged X)
    (rest : Files → X → Judged Y) (whole : Plan Y) (e : Fault) → ((P : List ℕ → Type 0) → HasSuch name P → HasSuch (name_in whole.slots own) P)
    → IfSome files (λ f. whole.reaches f own ≡ true) → IfSome files (λ f. whole.comes_to f ≡ and_then (part f) (rest f))
    → ReadFails (shelved files before after) (plan_of part (one_slot own name)) e → ReadFails (shelved files before after) whole e
part_fails files before after own name part rest whole (fault.Shelf role) named reached comes h = (
  only own name (λ n. after ≡ failed_at n before) (λ r. HasSuch (name_in whole.slots r) (λ n. after ≡ failed_at n before)) role (named _) h.0,
  only own name (λ n. after ≡ failed_at n before) (λ r. IfSome files (λ f. whole.reaches f r ≡ true)) role (λ _. reached) h.0,
)
part_fails files before after own name part rest whole fault.Memory named reached comes h = h
part_fails files before after own name part rest whole fault.Usage named reached comes h = absurd h
part_fails files before after own name part rest whole fault.Out named reached comes h = absurd h
part_fails files before after own name part rest whole (fault.Unproved place at refusal) named reached comes h = absurd h
part_fails files before after own name part rest whole (fault.SecondUnproved place at refusal) named reached comes h = absurd h
part_fails files before after own name part rest whole (fault.Flaw place at flaw) named reached comes h = absurd h
part_fails files before after own name part rest whole e named reached comes h =
    (h.0, goes_on files whole.comes_to part rest (wrong e) comes h.1)

-- and after files that came
pub fails_after : {F X Y V W : Type 0} (seen : ShelfSeen F) (xs zs : List FileSlot) (own : File) (name : Option (List ℕ)) (part : Files → Judged X)
    (rest : Files → X → Judged Y) (whole : Plan Y) (view : V → X) (shown : W → Y) (before mid after : F) (e : Fault)
    → whole.slots ≡ xs ++ slot own name ∷ zs → ((P : List ℕ → Type 0) → HasSuch name P → HasSuch (name_in whole.slots own) P)
    → IfSome (seen.holds before) (λ f. whole.reaches f own ≡ true) → IfSome (seen.holds before) (λ f. whole.comes_to f ≡ and_then (part f) (rest f))
    → Went seen xs before mid → KeepsPlan seen (plan_of part (one_slot own name)) view mid after (Err e)
    → KeepsPlan seen whole shown before after (Err e)
fails_after seen xs zs own name part rest whole view shown before mid after e place named reached comes w k = record {
  same = k.same ∙ w.same;
  stage = part_fails (seen.holds before) (seen.faults before) (seen.faults after) own name part rest whole e named reached comes
      (subst (λ (n : Faults). ReadFails (shelved (seen.holds before) n (seen.faults after)) (plan_of part (one_slot own name)) e) w.quiet
      (subst (λ (files : Option Files). ReadFails (shelved files (seen.faults mid) (seen.faults after)) (plan_of part (one_slot own name)) e) w.same k.stage));
  asked = subst (λ (slots : List FileSlot). AsksUntil slots (seen.fetched before) (seen.fetched after) e) (sym place)
      (asks_after xs (slot own name ∷ zs) _ _ _ e w.asked (asks_first (one_slot own name) zs _ _ e k.asked));
}

-- ---- a plan that goes on from what the files of another come to

-- the same files, which come to this
abbrev pub further : {X Y : Type 0} → Plan X → (Files → Judged Y) → Plan Y
further plan comes_to = record { comes_to = comes_to; slots = plan.slots; reaches = plan.reaches }

further_fails : {X Y : Type 0} (shelf : Shelved) (plan : Plan X) (comes_to : Files → Judged Y) (e : Fault)
    → ((f : Files) → plan.comes_to f ≡ wrong e → comes_to f ≡ wrong e) → ReadFails shelf plan e → ReadFails shelf (further plan comes_to) e
further_fails shelf plan comes_to (fault.Shelf role) so h = h
further_fails shelf plan comes_to fault.Memory so h = h
further_fails shelf plan comes_to fault.Usage so h = h
further_fails shelf plan comes_to fault.Out so h = h
further_fails shelf plan comes_to (fault.Unproved place at refusal) so h = h
further_fails shelf plan comes_to (fault.SecondUnproved place at refusal) so h = h
further_fails shelf plan comes_to (fault.Flaw place at flaw) so h = h
further_fails shelf plan comes_to e so h = (h.0, told shelf.files _ _ so h.1)

-- what the one fails with, the other fails with
pub fails_further : {F X Y V W : Type 0} (seen : ShelfSeen F) (plan : Plan X) (comes_to : Files → Judged Y) (view : V → X) (shown : W → Y)
    (before after : F) (e : Fault) → ((f : Files) → plan.comes_to f ≡ wrong e → comes_to f ≡ wrong e)
    → KeepsPlan seen plan view before after (Err e) → KeepsPlan seen (further plan comes_to) shown before after (Err e)
fails_further seen plan comes_to view shown before after e so k =
    record { same = k.same; stage = further_fails _ plan comes_to e so k.stage; asked = k.asked }

-- and what it gives, the other gives
pub gives_further : {F X Y V W : Type 0} (seen : ShelfSeen F) (plan : Plan X) (comes_to : Files → Judged Y) (view : V → X) (shown : W → Y)
    (before after : F) (v : V) (w : W) → ((f : Files) → plan.comes_to f ≡ right (view v) → comes_to f ≡ right (shown w))
    → KeepsPlan seen plan view before after (Ok v) → KeepsPlan seen (further plan comes_to) shown before after (Ok w)
gives_further seen plan comes_to view shown before after v w so k =
    record { same = k.same; stage = (k.stage.0, told (seen.holds before) _ _ so k.stage.1); asked = k.asked }

-- where something is made of what the files come to
pub made : {F X Y V : Type 0} (seen : ShelfSeen F) (plan : Plan X) (make : X → Y) (view : V → X) (before after : F) (r : Result V Fault)
    → KeepsPlan seen plan view before after r → KeepsPlan seen (made_into plan make) (λ v. make (view v)) before after r
made {X} seen plan make view before after (Ok v) k =
    gives_further seen plan _ view _ before after v v (λ f e. ap (λ (j : Judged X). and_then j (λ x. right (make x))) e) k
made {X} seen plan make view before after (Err e) k =
    fails_further seen plan _ view _ before after e (λ f w. ap (λ (j : Judged X). and_then j (λ x. right (make x))) w) k
