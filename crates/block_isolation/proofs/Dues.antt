-- What the system does for a machine in a clock follows from the machine's own lines, its requests and its transfers.
use Rattle.std.proofs.Common.{◌≡◌, ◌∙◌, ℕ, zero, suc, ◌<◌, Bool, false, not, ◌||◌, Option, None, is_some, List, slice_index_or, refl, sym, ap, arith}
use Rattle.std.proofs.Math.ListN.{get_or-map}
use Rattle.dreq_pacing.specs.declared.due.Due.{Due}
use Rattle.dreq_pacing.specs.declared.due.Requests.{Requests}
use Rattle.dreq_pacing.specs.declared.line.Line.{Line}
use Rattle.dreq_pacing.specs.declared.transfer.Moved.{Moved}
use Rattle.dreq_pacing.specs.Due.{quiet, with_lines}
use Rattle.dreq_pacing.specs.Lines.{lines_in}
use Rattle.dreq_pacing.specs.Ports.{tx_ready, rx_ready, paced_moves, either_word, due_in, transfers_after}
use Rattle.dreq_pacing.specs.Transfers.{Paced, Transfers, begun, moved}
use Rattle.block_core.specs.Block.{BlockState}
use Rattle.block_core.specs.Following.{place_at}
use Rattle.block_core.specs.Shown.{shown_in, requests_of}
use Rattle.block_core.specs.Slots.{Slot}
use Rattle.block_isolation.proofs.Lining.{SameLines, same_at, both_lines, both_begun}
use Rattle.block_isolation.specs.Isolation.{own_lines}

-- a machine's transfers
pub paced_at : ℕ → Transfers → Paced
paced_at zero t = t.first
paced_at (suc zero) t = t.second
paced_at (suc (suc zero)) t = t.third
paced_at (suc (suc (suc m))) t = t.fourth

-- what the lines of a clock do
abbrev lined : List Line → ℕ → Due
lined lines c = with_lines (lines_in c lines) quiet

-- what a machine's transfers move
abbrev moves_of : ℕ → List Line → ℕ → Requests → Transfers → Moved
moves_of m lines c q t = paced_moves m c (lined lines c) q (begun m (lines_in c lines) (paced_at m t))

word_of_due : (m : ℕ) (lines : List Line) (c : ℕ) (q : Requests) (t : Transfers) → m < 4 → slice_index_or (due_in lines c q t).word m None ≡ either_word (slice_index_or (lined lines c).word m None) (moves_of m lines c q t).word
unfolding due_in paced_at
word_of_due zero lines c q t h = refl
word_of_due (suc zero) lines c q t h = refl
word_of_due (suc (suc zero)) lines c q t h = refl
word_of_due (suc (suc (suc zero))) lines c q t h = refl
word_of_due (suc (suc (suc (suc m)))) lines c q t h = absurd (omega arith)

read_of_due : (m : ℕ) (lines : List Line) (c : ℕ) (q : Requests) (t : Transfers) → m < 4 → slice_index_or (due_in lines c q t).read m false ≡ (slice_index_or (lined lines c).read m false || (moves_of m lines c q t).read)
unfolding due_in paced_at
read_of_due zero lines c q t h = refl
read_of_due (suc zero) lines c q t h = refl
read_of_due (suc (suc zero)) lines c q t h = refl
read_of_due (suc (suc (suc zero))) lines c q t h = refl
read_of_due (suc (suc (suc (suc m)))) lines c q t h = absurd (omega arith)

word_paced_of_due : (m : ℕ) (lines : List Line) (c : ℕ) (q : Requests) (t : Transfers) → m < 4 → slice_index_or (due_in lines c q t).word_paced m false ≡ is_some (moves_of m lines c q t).word
unfolding due_in paced_at
word_paced_of_due zero lines c q t h = refl
word_paced_of_due (suc zero) lines c q t h = refl
word_paced_of_due (suc (suc zero)) lines c q t h = refl
word_paced_of_due (suc (suc (suc zero))) lines c q t h = refl
word_paced_of_due (suc (suc (suc (suc m)))) lines c q t h = absurd (omega arith)

read_paced_of_due : (m : ℕ) (lines : List Line) (c : ℕ) (q : Requests) (t : Transfers) → m < 4 → slice_index_or (due_in lines c q t).read_paced m false ≡ (moves_of m lines c q t).read
unfolding due_in paced_at
read_paced_of_due zero lines c q t h = refl
read_paced_of_due (suc zero) lines c q t h = refl
read_paced_of_due (suc (suc zero)) lines c q t h = refl
read_paced_of_due (suc (suc (suc zero))) lines c q t h = refl
read_paced_of_due (suc (suc (suc (suc m)))) lines c q t h = absurd (omega arith)

paced_after : (m : ℕ) (lines : List Line) (c : ℕ) (q : Requests) (t : Transfers) → m < 4 → paced_at m (transfers_after lines c q t) ≡ moved c (tx_ready m (lined lines c) q) (rx_ready m (lined lines c) q) (begun m (lines_in c lines) (paced_at m t))
unfolding transfers_after paced_at
paced_after zero lines c q t h = refl
paced_after (suc zero) lines c q t h = refl
paced_after (suc (suc zero)) lines c q t h = refl
paced_after (suc (suc (suc zero))) lines c q t h = refl
paced_after (suc (suc (suc (suc m)))) lines c q t h = absurd (omega arith)

-- what the lines say of machines and pins stays next to the transfers
pub record SaysLines (lines : List Line) (c : ℕ) (d : Due) : Type 0 where
  pub pins : d.pins ≡ (with_lines (lines_in c lines) quiet).pins
  pub values : d.values ≡ (with_lines (lines_in c lines) quiet).values
  pub enable : d.enable ≡ (with_lines (lines_in c lines) quiet).enable
  pub disable : d.disable ≡ (with_lines (lines_in c lines) quiet).disable
  pub restart : d.restart ≡ (with_lines (lines_in c lines) quiet).restart

pub says_lines : (lines : List Line) (c : ℕ) (q : Requests) (t : Transfers) → SaysLines lines c (due_in lines c q t)
unfolding due_in
says_lines lines c q t = record { pins = refl; values = refl; enable = refl; disable = refl; restart = refl }

-- the same is done for the machine
pub record SameDue (m : ℕ) (d e : Due) : Type 0 where
  pub word : slice_index_or d.word m None ≡ slice_index_or e.word m None
  pub read : slice_index_or d.read m false ≡ slice_index_or e.read m false
  pub word_paced : slice_index_or d.word_paced m false ≡ slice_index_or e.word_paced m false
  pub read_paced : slice_index_or d.read_paced m false ≡ slice_index_or e.read_paced m false
  pub enable : slice_index_or d.enable m false ≡ slice_index_or e.enable m false
  pub disable : slice_index_or d.disable m false ≡ slice_index_or e.disable m false
  pub restart : slice_index_or d.restart m false ≡ slice_index_or e.restart m false

-- the same is asked
pub record SameRequest (m : ℕ) (q k : Requests) : Type 0 where
  pub tx : slice_index_or q.tx m false ≡ slice_index_or k.tx m false
  pub rx : slice_index_or q.rx m false ≡ slice_index_or k.rx m false

tx_asked : (m : ℕ) (b : BlockState) → slice_index_or (requests_of b).tx m false ≡ not (shown_in (place_at b m)).tx_full
unfolding requests_of
tx_asked m b = get_or-map (λ (x : Option Slot). not (shown_in x).tx_full) b.machines m None

rx_asked : (m : ℕ) (b : BlockState) → slice_index_or (requests_of b).rx m false ≡ not (shown_in (place_at b m)).rx_empty
unfolding requests_of
rx_asked m b = get_or-map (λ (x : Option Slot). not (shown_in x).rx_empty) b.machines m None

pub same_request : (m : ℕ) (a b : BlockState) → place_at a m ≡ place_at b m → SameRequest m (requests_of a) (requests_of b)
same_request m a b h = record {
  tx = tx_asked m a ∙ (ap (λ (x : Option Slot). not (shown_in x).tx_full) h ∙ sym (tx_asked m b));
  rx = rx_asked m a ∙ (ap (λ (x : Option Slot). not (shown_in x).rx_empty) h ∙ sym (rx_asked m b));
}

-- what moves is the same
ready_tx : (m : ℕ) (d e : Due) (q k : Requests) → SameLines m d e → SameRequest m q k → tx_ready m d q ≡ tx_ready m e k
ready_tx m d e q k h r = let w = same_at d.word e.word m None h.word in let t = r.tx in cc

ready_rx : (m : ℕ) (d e : Due) (q k : Requests) → SameLines m d e → SameRequest m q k → rx_ready m d q ≡ rx_ready m e k
ready_rx m d e q k h r = let w = same_at d.read e.read m false h.read in let t = r.rx in cc

paced_same : (m c : ℕ) (d e : Due) (q k : Requests) (p o : Paced) → SameLines m d e → SameRequest m q k → p ≡ o → paced_moves m c d q p ≡ paced_moves m c e k o
paced_same m c d e q k p o h r same = let t = ready_tx m d e q k h r in let x = ready_rx m d e q k h r in cc

moved_same : (m c : ℕ) (d e : Due) (q k : Requests) (p o : Paced) → SameLines m d e → SameRequest m q k → p ≡ o → moved c (tx_ready m d q) (rx_ready m d q) p ≡ moved c (tx_ready m e k) (rx_ready m e k) o
moved_same m c d e q k p o h r same = let t = ready_tx m d e q k h r in let x = ready_rx m d e q k h r in cc

begun_same : (m reads c : ℕ) (ls ks : List Line) (t u : Transfers) → own_lines m reads ls ≡ own_lines m reads ks → paced_at m t ≡ paced_at m u → begun m (lines_in c ls) (paced_at m t) ≡ begun m (lines_in c ks) (paced_at m u)
begun_same m reads c ls ks t u own same = ap (begun m (lines_in c ls)) same ∙ both_begun m reads c ls ks (paced_at m u) own

pub paced_on : (m reads c : ℕ) (ls ks : List Line) (q k : Requests) (t u : Transfers) → m < 4 → own_lines m reads ls ≡ own_lines m reads ks → SameRequest m q k → paced_at m t ≡ paced_at m u → paced_at m (transfers_after ls c q t) ≡ paced_at m (transfers_after ks c k u)
paced_on m reads c ls ks q k t u inside own asked same =
    paced_after m ls c q t inside
    ∙ (moved_same m c (lined ls c) (lined ks c) q k (begun m (lines_in c ls) (paced_at m t)) (begun m (lines_in c ks) (paced_at m u)) (both_lines m reads c ls ks own) asked (begun_same m reads c ls ks t u own same)
    ∙ sym (paced_after m ks c k u inside))

pub due_same : (m reads c : ℕ) (ls ks : List Line) (q k : Requests) (t u : Transfers) → m < 4 → own_lines m reads ls ≡ own_lines m reads ks → SameRequest m q k → paced_at m t ≡ paced_at m u → SameDue m (due_in ls c q t) (due_in ks c k u)
due_same m reads c ls ks q k t u inside own asked same =
    let lines = both_lines m reads c ls ks own in
    let d = lined ls c in
    let e = lined ks c in
    let moves : moves_of m ls c q t ≡ moves_of m ks c k u = paced_same m c d e q k (begun m (lines_in c ls) (paced_at m t)) (begun m (lines_in c ks) (paced_at m u)) lines asked (begun_same m reads c ls ks t u own same) in
    let word = same_at d.word e.word m None lines.word in
    let read = same_at d.read e.read m false lines.read in
    let one = says_lines ls c q t in
    let other = says_lines ks c k u in
    record {
      word = word_of_due m ls c q t inside ∙ (ap (λ (x : Option ℕ). either_word x (moves_of m ls c q t).word) word ∙ (ap (λ (x : Moved). either_word (slice_index_or e.word m None) x.word) moves ∙ sym (word_of_due m ks c k u inside)));
      read = read_of_due m ls c q t inside ∙ (ap (λ (x : Bool). x || (moves_of m ls c q t).read) read ∙ (ap (λ (x : Moved). slice_index_or e.read m false || x.read) moves ∙ sym (read_of_due m ks c k u inside)));
      word_paced = word_paced_of_due m ls c q t inside ∙ (ap (λ (x : Moved). is_some x.word) moves ∙ sym (word_paced_of_due m ks c k u inside));
      read_paced = read_paced_of_due m ls c q t inside ∙ (ap (λ (x : Moved). x.read) moves ∙ sym (read_paced_of_due m ks c k u inside));
      enable = ap (λ (x : List Bool). slice_index_or x m false) one.enable ∙ (same_at d.enable e.enable m false lines.enable ∙ sym (ap (λ (x : List Bool). slice_index_or x m false) other.enable));
      disable = ap (λ (x : List Bool). slice_index_or x m false) one.disable ∙ (same_at d.disable e.disable m false lines.disable ∙ sym (ap (λ (x : List Bool). slice_index_or x m false) other.disable));
      restart = ap (λ (x : List Bool). slice_index_or x m false) one.restart ∙ (same_at d.restart e.restart m false lines.restart ∙ sym (ap (λ (x : List Bool). slice_index_or x m false) other.restart));
    }
