-- The lines of one block of two are a stimulus of one block.
use Rattle.std.proofs.Common.{◌≡◌, ℕ, ◌+◌, ◌-◌, ◌<◌, ◌≤◌, ◌==◌, Bool, true, false, ◌||◌, ◌&&◌, cond, Option, Some, None, List, [], ◌∷◌, ◌++◌, map, length, refl, sym, ap, ◌∙◌, arith}
use Rattle.std.specs.Prelude.{IfSome, option_map}
use Rattle.std.specs.List.{AllByRecursion, filter}
use Rattle.std.proofs.lemmas.Bool.Decides.{nat_tests}
use Rattle.std.proofs.lemmas.List.{map-append, append-nil}
use Rattle.std.proofs.lemmas.List.Elements.{filter-append}
use Rattle.dreq_pacing.specs.declared.line.Line.{Line}
use Rattle.dreq_pacing.specs.declared.line.LineAct.{LineAct}
use Rattle.dreq_pacing.specs.declared.line.LineAct.TheVariants.{Pin, Tx, Rx, Feed, Drain, Enable, Disable, Restart}
use Rattle.dreq_pacing.specs.Lines.{IsActOf, IsScheduleOf, MayPrecede, is_place, transfer_of, access_of, has_transfer, has_access}
use Rattle.dreq_pacing.specs.Blocks.{machine_of, has_machine, is_own, own_act, own_line, block_lines}

-- the lines of a block, line by line
pub block_lines-append : (first : ℕ) (ls ks : List Line) → block_lines first (ls ++ ks) ≡ block_lines first ls ++ block_lines first ks
block_lines-append first ls ks = ap (map (own_line first)) (filter-append (is_own first) ls ks) ∙ map-append (own_line first) (filter (is_own first) ls) (filter (is_own first) ks)

-- a number among the four from another on
within : (first m : ℕ) → has_machine first (Some m) ≡ true → (first ≤ m) × (m < first + 4)
within first m h = (grind (arith, nat_tests), grind (arith, nat_tests))

-- what a block does is in its ranges
own_act-fine : (first machines : ℕ) (a : LineAct) → has_machine first (machine_of a) ≡ true → IsActOf machines a → IsActOf 4 (own_act first a)
own_act-fine first machines (Pin p v) own h = h
own_act-fine first machines (Tx m w) own h = (let k = within first m own in omega arith)
own_act-fine first machines (Rx m) own h = (let k = within first m own in omega arith)
own_act-fine first machines (Feed m e ws) own h = ((let k = within first m own in omega arith), h.1, h.2, h.3)
own_act-fine first machines (Drain m e) own h = ((let k = within first m own in omega arith), h.1, h.2)
own_act-fine first machines (Enable m) own h = (let k = within first m own in omega arith)
own_act-fine first machines (Disable m) own h = (let k = within first m own in omega arith)
own_act-fine first machines (Restart m) own h = (let k = within first m own in omega arith)

-- What a place is in the block: it is less by the first machine's number.
record IsMoved (first : ℕ) (place own : Option ℕ) : Type 0 where
  pub moved : own ≡ option_map (λ p. p - first) place
  pub past : IfSome place (λ p. first ≤ p)

place_moved : (first m n : ℕ) → has_machine first (Some m) ≡ true → IsMoved first (Some (n + m)) (Some (n + (m - first)))
place_moved first m n own = (let k = within first m own in record { moved = ap Some (omega arith); past = omega arith })

plain_moved : (first m : ℕ) → has_machine first (Some m) ≡ true → IsMoved first (Some m) (Some (m - first))
plain_moved first m own = (let k = within first m own in record { moved = refl; past = omega arith })

none_moved : (first : ℕ) → IsMoved first None None
none_moved first = record { moved = refl; past = tt }

transfer-moved : (first : ℕ) (a : LineAct) → has_machine first (machine_of a) ≡ true → IsMoved first (transfer_of a) (transfer_of (own_act first a))
transfer-moved first (Pin p v) own = none_moved first
transfer-moved first (Tx m w) own = none_moved first
transfer-moved first (Rx m) own = none_moved first
transfer-moved first (Feed m e ws) own = plain_moved first m own
transfer-moved first (Drain m e) own = place_moved first m 8 own
transfer-moved first (Enable m) own = none_moved first
transfer-moved first (Disable m) own = none_moved first
transfer-moved first (Restart m) own = none_moved first

access-moved : (first : ℕ) (a : LineAct) → has_machine first (machine_of a) ≡ true → IsMoved first (access_of a) (access_of (own_act first a))
access-moved first (Pin p v) own = none_moved first
access-moved first (Tx m w) own = plain_moved first m own
access-moved first (Rx m) own = place_moved first m 8 own
access-moved first (Feed m e ws) own = none_moved first
access-moved first (Drain m e) own = none_moved first
access-moved first (Enable m) own = place_moved first m 16 own
access-moved first (Disable m) own = place_moved first m 16 own
access-moved first (Restart m) own = place_moved first m 24 own

-- the places of a block are the same where those of both are
same_less : (first p q : ℕ) → first ≤ p → first ≤ q → ((p - first) == (q - first)) ≡ (p == q)
same_less first p q f g = grind (arith, nat_tests)

is_place-moved : (first p : ℕ) (o own : Option ℕ) → first ≤ p → IsMoved first o own → is_place (p - first) own ≡ is_place p o
is_place-moved first p None own le m = ap (is_place (p - first)) m.moved
is_place-moved first p (Some q) own le m = ap (is_place (p - first)) m.moved ∙ same_less first q p m.past le

-- what the block has is what both have
has_transfer-moved : (first : ℕ) (l : Line) (o own : Option ℕ) → is_own first l ≡ true → IsMoved first o own → has_transfer own (own_line first l ∷ []) ≡ has_transfer o (l ∷ [])
has_transfer-moved first l None own mine m = ap (λ (x : Option ℕ). has_transfer x (own_line first l ∷ [])) m.moved
has_transfer-moved first l (Some p) own mine m =
    ap (λ (x : Option ℕ). has_transfer x (own_line first l ∷ [])) m.moved
    ∙ ap (λ (b : Bool). b || false) (is_place-moved first p (transfer_of l.act) _ m.past (transfer-moved first l.act mine))

has_access-moved : (first clock : ℕ) (l : Line) (o own : Option ℕ) → is_own first l ≡ true → IsMoved first o own → has_access own clock (own_line first l ∷ []) ≡ has_access o clock (l ∷ [])
has_access-moved first clock l None own mine m = ap (λ (x : Option ℕ). has_access x clock (own_line first l ∷ [])) m.moved
has_access-moved first clock l (Some p) own mine m =
    ap (λ (x : Option ℕ). has_access x clock (own_line first l ∷ [])) m.moved
    ∙ ap (λ (b : Bool). ((l.clock == clock) && b) || false) (is_place-moved first p (access_of l.act) _ m.past (access-moved first l.act mine))

-- two lines of a block don't crowd each other where they don't among those of both
precedes-own : (first : ℕ) (l k : Line) → is_own first l ≡ true → is_own first k ≡ true → MayPrecede l k → MayPrecede (own_line first l) (own_line first k)
precedes-own first l k mine its h = record {
  in_order = h.in_order;
  apart =
      ap (λ (b : Bool). b || has_access (access_of (own_act first k.act)) k.clock (own_line first l ∷ [])) (has_transfer-moved first l (transfer_of k.act) _ mine (transfer-moved first k.act its))
      ∙ (ap (λ (b : Bool). has_transfer (transfer_of k.act) (l ∷ []) || b) (has_access-moved first k.clock l (access_of k.act) _ mine (access-moved first k.act its))
      ∙ h.apart);
}

-- a line of a block precedes those of the block that it precedes among all
precede-own : (first : ℕ) (l : Line) (ks : List Line) → is_own first l ≡ true → AllByRecursion (MayPrecede l) ks → AllByRecursion (MayPrecede (own_line first l)) (block_lines first ks)
precede-own first l [] mine h = tt
precede-own first l (k ∷ ks) mine h =
    elim (is_own first k) as (λ b. (is_own first k ≡ b) → AllByRecursion (MayPrecede (own_line first l)) (map (own_line first) (cond b (k ∷ filter (is_own first) ks) (filter (is_own first) ks)))) [
      | true ↦ λ its. (precedes-own first l k mine its h.0, precede-own first l ks mine h.1)
      | false ↦ λ its. precede-own first l ks mine h.1
    ] refl

-- the lines of a block are a stimulus
pub block_lines-schedule : (first machines : ℕ) (ls : List Line) → IsScheduleOf machines ls → IsScheduleOf 4 (block_lines first ls)
block_lines-schedule first machines [] h = tt
block_lines-schedule first machines (l ∷ ls) h =
    elim (is_own first l) as (λ b. (is_own first l ≡ b) → IsScheduleOf 4 (map (own_line first) (cond b (l ∷ filter (is_own first) ls) (filter (is_own first) ls)))) [
      | true ↦ λ mine. (
        record { in_time = h.0.in_time; act = own_act-fine first machines l.act mine h.0.act },
        precede-own first l ls mine h.1,
        block_lines-schedule first machines ls h.2,
      )
      | false ↦ λ mine. block_lines-schedule first machines ls h.2
    ] refl

-- a line of the first block is as it is among those of both
pub own_act-zero : (a : LineAct) → own_act 0 a ≡ a
own_act-zero (Pin p v) = refl
own_act-zero (Tx m w) = ap (λ (n : ℕ). Tx n w) (omega arith)
own_act-zero (Rx m) = ap Rx (omega arith)
own_act-zero (Feed m e ws) = ap (λ (n : ℕ). Feed n e ws) (omega arith)
own_act-zero (Drain m e) = ap (λ (n : ℕ). Drain n e) (omega arith)
own_act-zero (Enable m) = ap Enable (omega arith)
own_act-zero (Disable m) = ap Disable (omega arith)
own_act-zero (Restart m) = ap Restart (omega arith)

-- the only line, where it is for the block, and where it isn't
pub one_own : (first : ℕ) (l : Line) → is_own first l ≡ true → block_lines first (l ∷ []) ≡ own_line first l ∷ []
one_own first l mine = ap (λ (b : Bool). map (own_line first) (cond b (l ∷ []) [])) mine

pub one_other : (first : ℕ) (l : Line) → is_own first l ≡ false → block_lines first (l ∷ []) ≡ []
one_other first l not_mine = ap (λ (b : Bool). map (own_line first) (cond b (l ∷ []) [])) not_mine

-- all lines are shared out where none is left
pub block_end : (first : ℕ) (so_far left all : List Line) (n : ℕ) → so_far ++ block_lines first left ≡ block_lines first all → n ≡ length left → n ≡ 0 → so_far ≡ block_lines first all
block_end first so_far [] all n whole counted none = sym (append-nil so_far) ∙ whole
block_end first so_far (l ∷ ls) all n whole counted none = absurd (omega arith)
