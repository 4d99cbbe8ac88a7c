-- Clocks without a line and without a move.
use Rattle.std.proofs.Common.{◌≡◌, ℕ, zero, suc, ◌+◌, ◌-◌, ◌<◌, ◌≤◌, ◌||◌, Bool, false, cond, Option, Some, None, List, [], ◌∷◌, drop, refl, sym, ap, subst, ◌∙◌, arith, add-zero, add-suc, add-one}
use Rattle.std.specs.Prelude.{slice_get, slice_index_or}
use Rattle.std.proofs.lemmas.Bool.{or_parts}
use Rattle.dreq_pacing.specs.declared.line.Line.{Line}
use Rattle.dreq_pacing.specs.declared.due.Requests.{Requests}
use Rattle.dreq_pacing.specs.declared.transfer.Draining.{Draining}
use Rattle.dreq_pacing.specs.declared.transfer.Moved.{Moved}
use Rattle.dreq_pacing.specs.Lines.{has_lines, has_line, lines_in}
use Rattle.dreq_pacing.specs.Due.{quiet, with_lines}
use Rattle.dreq_pacing.specs.Transfers.{Feeding, Paced, Transfers, feed_moves, fed_word, fed, drain_moves, drained, moved}
use Rattle.dreq_pacing.specs.Ports.{Ports, acts_in, asked, due_at, due_in, first_ports, transfers_after, transfers_at, moves, moves_in, with_moves, done_in, begun_all, moved_all}
use Rattle.dreq_pacing.specs.Runs.{LeavesTransfers}

no_lines : (ls : List Line) → has_lines ls ≡ false → ls ≡ []
no_lines [] e = refl
no_lines (l ∷ ls) e = absurd (cc)

-- a feed and a drain that don't move
fed-still : (clock : ℕ) (up : Bool) (f : Feeding) → feed_moves clock up f ≡ false → (fed clock up f ≡ f) × (fed_word clock up f ≡ None)
fed-still clock up f e = (
  ap (λ (b : Bool). cond b (record { words = drop 1 f.words; every = f.every; due = clock + f.every }) f) e,
  ap (λ (b : Bool). cond b (slice_get f.words 0) None) e,
)

drained-still : (clock : ℕ) (up : Bool) (d : Option Draining) → drain_moves clock up d ≡ false → drained clock up d ≡ d
drained-still clock up None e = refl
drained-still clock up (Some d) e = ap (λ (b : Bool). cond b (Some (record { every = d.every; due = clock + d.every })) (Some d)) e

-- no word is moved
abbrev nothing : Moved
nothing = record { word = None; read = false }

-- what a machine's transfers move, while TX and RX are ready or aren't
abbrev moves_of : ℕ → Bool → Bool → Paced → Moved
moves_of clock tx rx p = record { word = fed_word clock tx p.feed; read = drain_moves clock rx p.drain }

still : (clock : ℕ) (tx rx : Bool) (p : Paced) → (feed_moves clock tx p.feed || drain_moves clock rx p.drain) ≡ false → (moved clock tx rx p ≡ p) × (moves_of clock tx rx p ≡ nothing)
still clock tx rx p e =
    let both = or_parts (feed_moves clock tx p.feed) (drain_moves clock rx p.drain) e in
    let f = fed-still clock tx p.feed both.0 in
    let m : Feeding → Option Draining → Paced = λ x y. record { feed = x; drain = y } in
    let n : Option ℕ → Bool → Moved = λ x y. record { word = x; read = y } in (
      ap (λ (x : Feeding). m x (drained clock rx p.drain)) f.0 ∙ ap (λ (y : Option Draining). m p.feed y) (drained-still clock rx p.drain both.1),
      ap (λ (x : Option ℕ). n x (drain_moves clock rx p.drain)) f.1 ∙ ap (λ (y : Bool). n None y) both.1,
    )

up_tx : Requests → ℕ → Bool
up_tx requests machine = slice_index_or requests.tx machine false

up_rx : Requests → ℕ → Bool
up_rx requests machine = slice_index_or requests.rx machine false

-- what no transfer moves, and no line does
quiet-moves : (a b c d : Moved) → a ≡ nothing → b ≡ nothing → c ≡ nothing → d ≡ nothing → with_moves quiet a b c d ≡ quiet
quiet-moves a b c d p q r s =
    ap (λ (x : Moved). with_moves quiet x b c d) p
    ∙ (ap (λ (x : Moved). with_moves quiet nothing x c d) q
    ∙ (ap (λ (x : Moved). with_moves quiet nothing nothing x d) r
    ∙ ap (λ (x : Moved). with_moves quiet nothing nothing nothing x) s))

four : Paced → Paced → Paced → Paced → Transfers
four a b c d = record { first = a; second = b; third = c; fourth = d }

same-four : (a b c d a' b' c' d' : Paced) → a ≡ a' → b ≡ b' → c ≡ c' → d ≡ d' → four a b c d ≡ four a' b' c' d'
same-four a b c d a' b' c' d' p q r s =
    ap (λ (x : Paced). four x b c d) p
    ∙ (ap (λ (x : Paced). four a' x c d) q
    ∙ (ap (λ (x : Paced). four a' b' x d) r
    ∙ ap (λ (x : Paced). four a' b' c' x) s))

still-all : (clock : ℕ) (requests : Requests) (t : Transfers) → moves_in clock requests t ≡ false → (done_in clock requests t quiet ≡ quiet) × (moved_all clock requests quiet t ≡ t)
unfolding four
still-all clock requests t e =
    let a = or_parts (moves 0 clock requests t.first) _ e in
    let b = or_parts (moves 1 clock requests t.second) _ a.1 in
    let c = or_parts (moves 2 clock requests t.third) (moves 3 clock requests t.fourth) b.1 in
    let p = still clock (slice_index_or requests.tx 0 false) (slice_index_or requests.rx 0 false) t.first a.0 in
    let q = still clock (slice_index_or requests.tx 1 false) (slice_index_or requests.rx 1 false) t.second b.0 in
    let r = still clock (slice_index_or requests.tx 2 false) (slice_index_or requests.rx 2 false) t.third c.0 in
    let s = still clock (slice_index_or requests.tx 3 false) (slice_index_or requests.rx 3 false) t.fourth c.1 in
    (quiet-moves _ _ _ _ p.1 q.1 r.1 s.1, same-four _ _ _ _ _ _ _ _ p.0 q.0 r.0 s.0)

pub quiet_due : (lines : List Line) (clock : ℕ) (requests : Requests) (t : Transfers) → acts_in lines clock requests t ≡ false → due_in lines clock requests t ≡ quiet
unfolding acts_in due_in
quiet_due lines clock requests t e =
    let both = or_parts (has_line clock lines) (moves_in clock requests t) e in
    ap (λ (ls : List Line). done_in clock requests (begun_all ls t) (with_lines ls quiet)) (no_lines (lines_in clock lines) both.0)
    ∙ (still-all clock requests t both.1).0

pub quiet_transfers : (lines : List Line) (clock : ℕ) (requests : Requests) (t : Transfers) → acts_in lines clock requests t ≡ false → transfers_after lines clock requests t ≡ t
unfolding acts_in transfers_after
quiet_transfers lines clock requests t e =
    let both = or_parts (has_line clock lines) (moves_in clock requests t) e in
    ap (λ (ls : List Line). moved_all clock requests (with_lines ls quiet) (begun_all ls t)) (no_lines (lines_in clock lines) both.0)
    ∙ (still-all clock requests t both.1).1

pub left_out : (lines : List Line) (requests : ℕ → Requests) (from n : ℕ) → ((c : ℕ) → from ≤ c → c < from + n → acts_in lines c (requests c) (transfers_at lines requests from) ≡ false) → transfers_at lines requests (from + n) ≡ transfers_at lines requests from
unfolding transfers_at
left_out lines requests from zero h = ap (transfers_at lines requests) (add-zero from)
left_out lines requests from (suc n) h =
    let t = transfers_at lines requests from in
    ap (transfers_at lines requests) (add-suc from n)
    ∙ (ap (transfers_after lines (from + n) (requests (from + n))) (left_out lines requests from n (λ c low below. h c low (omega arith)))
    ∙ quiet_transfers lines (from + n) (requests (from + n)) t (h (from + n) (omega arith) (omega arith)))

-- the transfers at a clock before which nothing happened
at_clock : (p : Ports) (requests : ℕ → Requests) (clock : ℕ) → LeavesTransfers requests p → p.next ≤ clock → ((c : ℕ) → p.next ≤ c → c < clock → acts_in p.lines c (requests c) p.transfers ≡ false) → p.transfers ≡ transfers_at p.lines requests clock
at_clock p requests clock f le none =
    let n = clock - p.next in
    let whole : p.next + n ≡ clock = omega arith in
    let T : Transfers → Type 0 = λ t. (c : ℕ) → p.next ≤ c → c < p.next + n → acts_in p.lines c (requests c) t ≡ false in
    let h : T (transfers_at p.lines requests p.next) = subst T f (λ c low below. none c low (omega arith)) in
    f ∙ (sym (left_out p.lines requests p.next n h) ∙ ap (transfers_at p.lines requests) whole)

pub follows_first : (lines : List Line) (requests : ℕ → Requests) → LeavesTransfers requests (first_ports lines)
unfolding transfers_at
follows_first lines requests = refl

pub follows_due : (p : Ports) (requests : ℕ → Requests) (clock : ℕ) → LeavesTransfers requests p → p.next ≤ clock → ((c : ℕ) → p.next ≤ c → c < clock → acts_in p.lines c (requests c) p.transfers ≡ false) → due_in p.lines clock (requests clock) p.transfers ≡ due_at p.lines requests clock
unfolding due_at
follows_due p requests clock f le none = ap (due_in p.lines clock (requests clock)) (at_clock p requests clock f le none)

pub follows_after : (p : Ports) (requests : ℕ → Requests) (clock : ℕ) → LeavesTransfers requests p → p.next ≤ clock → ((c : ℕ) → p.next ≤ c → c < clock → acts_in p.lines c (requests c) p.transfers ≡ false) → LeavesTransfers requests (asked clock (requests clock) p)
unfolding transfers_at
follows_after p requests clock f le none =
    ap (transfers_after p.lines clock (requests clock)) (at_clock p requests clock f le none)
    ∙ sym (ap (transfers_at p.lines requests) (add-one clock))
