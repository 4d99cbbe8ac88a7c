-- The words that a TX accepts with a stimulus are words of the stimulus.
use Rattle.std.proofs.Common.{◌==◌, ℕ, zero, suc, ◌+◌, ◌^◌, ◌<◌, Bool, true, false, cond, Option, Some, None, IfSome, option_to_list, List, [], ◌∷◌, ◌++◌, drop, nat_lt, length, slice_get, slice_index_or, slice_set}
use Rattle.std.specs.List.{AllByRecursion}
use Rattle.fifo_pair.specs.Fifos.{if_room}
use Rattle.dreq_pacing.specs.declared.line.LineAct.{LineAct}
use Rattle.dreq_pacing.specs.declared.line.LineAct.TheVariants.{Pin, Tx, Rx, Feed, Drain, Enable, Disable, Restart}
use Rattle.dreq_pacing.specs.declared.line.Line.{Line}
use Rattle.dreq_pacing.specs.declared.due.Due.{Due}
use Rattle.dreq_pacing.specs.Lines.{lines_in}
use Rattle.dreq_pacing.specs.Due.{quiet, with_act, with_lines}
use Rattle.dreq_pacing.specs.Transfers.{Feeding, Paced, Transfers, begun, begun_by, feed_moves, fed_word}
use Rattle.dreq_pacing.specs.Transfers as transfers
use Rattle.dreq_pacing.specs.Ports.{either_word, due_in, transfers_after}
use Rattle.block_core.specs.Slots.{Slot}
use Rattle.block_core.specs.Block.{Run}
use Rattle.block_core.specs.Following.{place_at}
use Rattle.block_core.specs.Hosted.{hosted_at, hosted_next, host_of}
use Rattle.program_runs.specs.Accepted.{accepted_in, accepted}
use Rattle.program_runs.specs.Feeding.{fed}
use Rattle.program_runs.specs.Words.{HasWords, AreWords}

abbrev IsWord : ℕ → Type 0
IsWord w = w < 2 ^ 32

abbrev MayBeWord : Option ℕ → Type 0
MayBeWord o = IfSome o IsWord

all_set : (xs : List (Option ℕ)) (i : ℕ) (o : Option ℕ) → MayBeWord o → AllByRecursion MayBeWord xs → AllByRecursion MayBeWord (slice_set xs i o)
all_set [] i o h k = tt
all_set (x ∷ xs) zero o h k = (h, k.1)
all_set (x ∷ xs) (suc i) o h k = (k.0, all_set xs i o h k.1)

any_of : (xs : List (Option ℕ)) (i : ℕ) → AllByRecursion MayBeWord xs → MayBeWord (slice_index_or xs i None)
any_of [] i k = tt
any_of (x ∷ xs) zero k = k.0
any_of (x ∷ xs) (suc i) k = any_of xs i k.1

-- those of lines
in_clock : (clock : ℕ) (lines : List Line) → AreWords lines → AreWords (lines_in clock lines)
in_clock clock [] h = tt
in_clock clock (l ∷ lines) h = elim (l.clock == clock) as (λ b. AreWords (cond b (l ∷ lines_in clock lines) (lines_in clock lines))) [
  | true ↦ (h.0, in_clock clock lines h.1)
  | false ↦ in_clock clock lines h.1
]

act_words : (act : LineAct) (d : Due) → HasWords act → AllByRecursion MayBeWord d.word → AllByRecursion MayBeWord (with_act act d).word
act_words (Pin pin level) d h k = k
act_words (Tx machine word) d h k = all_set d.word machine (Some word) h k
act_words (Rx machine) d h k = k
act_words (Feed machine every words) d h k = k
act_words (Drain machine every) d h k = k
act_words (Enable machine) d h k = k
act_words (Disable machine) d h k = k
act_words (Restart machine) d h k = k

line_words : (lines : List Line) (d : Due) → AreWords lines → AllByRecursion MayBeWord d.word → AllByRecursion MayBeWord (with_lines lines d).word
line_words [] d h k = k
line_words (l ∷ lines) d h k = line_words lines (with_act l.act d) h.1 (act_words l.act d h.0 k)

-- those of a feed
abbrev HasFeed : Paced → Type 0
HasFeed p = AllByRecursion IsWord p.feed.words

begun_one : (machine clock : ℕ) (act : LineAct) (p : Paced) → HasWords act → HasFeed p → HasFeed (begun_by machine clock act p)
begun_one machine clock (Pin pin level) p h k = k
begun_one machine clock (Tx m word) p h k = k
begun_one machine clock (Rx m) p h k = k
begun_one machine clock (Feed m every words) p h k = elim (m == machine) as (λ b. HasFeed (cond b (record p { feed = record { words = words; every = every; due = clock } }) p)) [
  | true ↦ h
  | false ↦ k
]
begun_one machine clock (Drain m every) p h k = elim (m == machine) as (λ b. HasFeed (cond b (record p { drain = Some (record { every = every; due = clock }) }) p)) [
  | true ↦ k
  | false ↦ k
]
begun_one machine clock (Enable m) p h k = k
begun_one machine clock (Disable m) p h k = k
begun_one machine clock (Restart m) p h k = k

begun_words : (machine : ℕ) (lines : List Line) (p : Paced) → AreWords lines → HasFeed p → HasFeed (begun machine lines p)
begun_words machine [] p h k = k
begun_words machine (l ∷ lines) p h k = begun_words machine lines (begun_by machine l.clock l.act p) h.1 (begun_one machine l.clock l.act p h.0 k)

less_one : (words : List ℕ) → AllByRecursion IsWord words → AllByRecursion IsWord (drop 1 words)
less_one [] k = tt
less_one (w ∷ words) k = k.1

front_word : (words : List ℕ) → AllByRecursion IsWord words → MayBeWord (slice_get words 0)
front_word [] k = tt
front_word (w ∷ words) k = k.0

fed_words : (clock : ℕ) (ready : Bool) (f : Feeding) → AllByRecursion IsWord f.words → AllByRecursion IsWord (transfers.fed clock ready f).words
fed_words clock ready f k = elim (feed_moves clock ready f) as (λ b. AllByRecursion IsWord (cond {A = Feeding} b (record { words = drop 1 f.words; every = f.every; due = clock + f.every }) f).words) [
  | true ↦ less_one f.words k
  | false ↦ k
]

moved_word : (clock : ℕ) (ready : Bool) (f : Feeding) → AllByRecursion IsWord f.words → MayBeWord (fed_word clock ready f)
moved_word clock ready f k = elim (feed_moves clock ready f) as (λ b. MayBeWord (cond b (slice_get f.words 0) None)) [
  | true ↦ front_word f.words k
  | false ↦ tt
]

either : (o p : Option ℕ) → MayBeWord o → MayBeWord p → MayBeWord (either_word o p)
either (Some w) p h k = h
either None p h k = k

record HaveFeeds (t : Transfers) : Type 0 where
  first : HasFeed t.first
  second : HasFeed t.second
  third : HasFeed t.third
  fourth : HasFeed t.fourth

no_words : AllByRecursion MayBeWord quiet.word
no_words = (tt, (tt, (tt, (tt, tt))))

module _ (start : Run) (lines : List Line) (h : AreWords lines) where
  feeds : (n : ℕ) → HaveFeeds (hosted_at start lines n).transfers
  unfolding hosted_at hosted_next transfers_after
  feeds zero = record { first = tt; second = tt; third = tt; fourth = tt }
  feeds (suc n) =
      let now = (hosted_at start lines n).run.clock in
      let k = feeds n in
      let w = in_clock now lines h in record {
        first = fed_words now _ _ (begun_words 0 (lines_in now lines) _ w k.first);
        second = fed_words now _ _ (begun_words 1 (lines_in now lines) _ w k.second);
        third = fed_words now _ _ (begun_words 2 (lines_in now lines) _ w k.third);
        fourth = fed_words now _ _ (begun_words 3 (lines_in now lines) _ w k.fourth);
      }

  given : (n id : ℕ) → MayBeWord (slice_index_or (host_of start lines n).word id None)
  unfolding due_in
  given n id =
      let now = (hosted_at start lines n).run.clock in
      let k = feeds n in
      let w = in_clock now lines h in
      let l = line_words (lines_in now lines) quiet w no_words in
      let one : (machine : ℕ) (ready : Bool) (p : Paced) → HasFeed p → MayBeWord (either_word (slice_index_or (with_lines (lines_in now lines) quiet).word machine None) (fed_word now ready (begun machine (lines_in now lines) p).feed)) =
      λ machine ready p f. either _ _ (any_of (with_lines (lines_in now lines) quiet).word machine l) (moved_word now ready (begun machine (lines_in now lines) p).feed (begun_words machine (lines_in now lines) p w f)) in
      any_of (host_of start lines n).word id (one 0 _ _ k.first, (one 1 _ _ k.second, (one 2 _ _ k.third, (one 3 _ _ k.fourth, tt))))

  with_room : (room : ℕ) (tx : List ℕ) (o : Option ℕ) → MayBeWord o → MayBeWord (if_room room tx o)
  with_room room tx None k = tt
  with_room room tx (Some w) k = elim (nat_lt (length tx) room) as (λ b. MayBeWord (cond b (Some w) None)) [
    | true ↦ k
    | false ↦ tt
  ]

  let_in : (n : ℕ) (p : Option Slot) → MayBeWord (accepted_in (host_of start lines n) p)
  let_in n None = tt
  let_in n (Some m) = with_room m.machine.ports.fifos.tx_room m.machine.ports.fifos.tx _ (given n m.machine.setup.id)

  more : (ws : List ℕ) (o : Option ℕ) → AllByRecursion IsWord ws → MayBeWord o → AllByRecursion IsWord (ws ++ option_to_list o)
  more [] None k m = tt
  more [] (Some w) k m = (m, tt)
  more (w ∷ ws) o k m = (k.0, more ws o k.1 m)

  pub accepted_are_words : (id n : ℕ) → AllByRecursion IsWord (accepted start lines id n)
  unfolding accepted
  accepted_are_words id zero = tt
  accepted_are_words id (suc n) = more (accepted start lines id n) _ (accepted_are_words id n) (let_in n (place_at (hosted_at start lines n).run.state id))

pub feed_of_words : (words : List ℕ) → AllByRecursion IsWord words → AreWords (fed words)
feed_of_words [] h = tt
feed_of_words (w ∷ words) h = (h, tt)
