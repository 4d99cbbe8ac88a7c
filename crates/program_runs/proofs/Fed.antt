-- A feed with a word a clock: from clock 1 on TX has a word wherever one is left.
use Rattle.std.proofs.Common.{◌≡◌, ◌==◌, ℕ, zero, suc, ◌+◌, ◌≤◌, Bool, true, false, not, cond, nat_lt, None, option_to_list, List, [], ◌∷◌, ◌++◌, length, slice_get, slice_index_or, refl, sym, ap, subst, ◌∙◌, arith, append_assoc}
use Rattle.std.proofs.Math.ListN.{get_or-map}
use Rattle.std.proofs.lemmas.Bool.Decides.{nat_tests}
use Rattle.std.proofs.lemmas.Bool.{le-leb, ltb-false}
use Rattle.fifo_pair.specs.Fifos.{queued, less_front, if_room, is_full, settled}
use Rattle.pin_matrix.specs.declared.machine.MachineSetup.{MachineSetup}
use Rattle.pin_matrix.specs.declared.setup.Setup.{Setup}
use Rattle.sm_registers.specs.State.{settled_ports}
use Rattle.dreq_pacing.specs.declared.due.Due.{Due}
use Rattle.dreq_pacing.specs.declared.line.Line.{Line}
use Rattle.dreq_pacing.specs.declared.due.Requests.{Requests}
use Rattle.dreq_pacing.specs.Lines.{lines_in}
use Rattle.dreq_pacing.specs.Due.{quiet, with_lines}
use Rattle.dreq_pacing.specs.Transfers.{Feeding, begun, fed_word}
use Rattle.dreq_pacing.specs.Transfers as transfers
use Rattle.dreq_pacing.specs.Ports.{tx_ready, either_word, due_in, transfers_after}
use Rattle.block_core.specs.Slots.{settled_slot}
use Rattle.block_core.specs.Block.{first_run, next}
use Rattle.block_core.specs.Hosted.{hosted_at, hosted_next}
use Rattle.block_core.specs.Shown.{shown_in, requests_of}
use Rattle.program_runs.specs.Clocks.{IsOwn, host_in, state_in, view_in, slots, act_in, tx_in, taken_in}
use Rattle.program_runs.specs.Feeding.{fed}
use Rattle.program_runs.specs.Steady.{IsLeft}
use Rattle.program_runs.proofs.Clocks.{Laws, place_is, setup_is, tx_after_clock}

-- TX and the words that the feed has left, after a clock in which a word moves where there is room
record IsMoved (take : Bool) (room : ℕ) (tx : List ℕ) (clock : ℕ) (f : Feeding) : Type 0 where
  goes : option_to_list (cond take (slice_get tx 0) None) ++ (queued (if_room room tx (fed_word clock (not (is_full room tx)) f)) (less_front take tx) ++ (transfers.fed clock (not (is_full room tx)) f).words) ≡ tx ++ f.words
  dry : queued (if_room room tx (fed_word clock (not (is_full room tx)) f)) (less_front take tx) ≡ [] → (transfers.fed clock (not (is_full room tx)) f).words ≡ []
  every : (transfers.fed clock (not (is_full room tx)) f).every ≡ f.every
  due : (transfers.fed clock (not (is_full room tx)) f).due ≤ clock + 1

front_and_rest : (take : Bool) (tx more : List ℕ) → option_to_list (cond take (slice_get tx 0) None) ++ (less_front take tx ++ more) ≡ tx ++ more
front_and_rest true [] more = refl
front_and_rest true (word ∷ tx) more = refl
front_and_rest false tx more = refl

not_empty : (xs : List ℕ) (x : ℕ) → xs ++ x ∷ [] ≡ [] → ⊥
not_empty [] x e = cc
not_empty (y ∷ xs) x e = cc

-- a full TX isn't empty after one word is taken
full_stays : (take : Bool) (tx : List ℕ) → 4 ≤ length tx → less_front take tx ≡ [] → ⊥
full_stays true [] l e = omega (arith, l)
full_stays true (x ∷ []) l e = omega (arith, l)
full_stays true (x ∷ y ∷ tx) l e = cc
full_stays false [] l e = omega (arith, l)
full_stays false (x ∷ tx) l e = cc

is_moved : (take : Bool) (tx words : List ℕ) (clock every due : ℕ) → every ≤ 1 → due ≤ clock → IsMoved take 4 tx clock (record { words = words; every = every; due = due })
is_moved take tx words clock every due few past = by (nat_lt (length tx) 4) refl words where
  by : (room : Bool) → nat_lt (length tx) 4 ≡ room → (ws : List ℕ) → IsMoved take 4 tx clock (record { words = ws; every = every; due = due })
  by true e [] = record {
    goes = rw (e, le-leb due clock past) (front_and_rest take tx []);
    dry = rw (e, le-leb due clock past) (λ q. refl);
    every = rw (e, le-leb due clock past) refl;
    due = rw (e, le-leb due clock past) (omega (arith, past));
  }
  by true e (w ∷ ws) = record {
    goes = rw (e, le-leb due clock past, e) (ap (λ xs. option_to_list (cond take (slice_get tx 0) None) ++ xs) (append_assoc (less_front take tx) (w ∷ []) ws) ∙ front_and_rest take tx (w ∷ ws));
    dry = rw (e, le-leb due clock past, e) (λ q. absurd (not_empty (less_front take tx) w q));
    every = rw (e, le-leb due clock past) refl;
    due = rw (e, le-leb due clock past) (omega (arith, few));
  }
  by false e ws = record {
    goes = rw e (front_and_rest take tx ws);
    dry = rw e (λ q. absurd (full_stays take tx (ltb-false (length tx) 4 e) q));
    every = rw e refl;
    due = rw e (omega (arith, past));
  }

-- the lines of a feed do nothing by themselves
quiet_lines : (words : List ℕ) (c : ℕ) → with_lines (lines_in c (fed words)) quiet ≡ quiet
quiet_lines [] c = refl
quiet_lines (word ∷ words) c = by (0 == c) where
  by : (b : Bool) → with_lines (cond b (fed (word ∷ words)) []) quiet ≡ quiet
  by true = refl
  by false = refl

later_lines : (words : List ℕ) (c : ℕ) → lines_in (suc c) (fed words) ≡ []
later_lines [] c = refl
later_lines (word ∷ words) c = ap (λ b. cond b (fed (word ∷ words)) []) later where
  later : (0 == suc c) ≡ false
  later = grind (arith, nat_tests)

-- a feed after the lines of a clock
abbrev pub feed_in : Setup → List ℕ → ℕ → Feeding
feed_in u words c = (begun 0 (lines_in c (fed words)) (hosted_at (first_run u) (fed words) c).transfers.first).feed

-- the words that are left in a clock: in TX and with the feed
abbrev pub left_in : Setup → List ℕ → MachineSetup → ℕ → List ℕ
left_in u words s c = tx_in u (fed words) s c ++ (feed_in u words c).words

clock_is : (u : Setup) (lines : List Line) (c : ℕ) → (hosted_at (first_run u) lines c).run.clock ≡ c
unfolding hosted_at hosted_next next
clock_is u lines zero = refl
clock_is u lines (suc c) = ap (λ n. n + 1) (clock_is u lines c) ∙ (let e : c + 1 ≡ suc c = omega arith in e)

first_feed : (u : Setup) (words : List ℕ) → feed_in u words 0 ≡ (begun 0 (lines_in 0 (fed words)) transfers.unpaced).feed
unfolding hosted_at
first_feed u words = refl

first_words : (words : List ℕ) → (begun 0 (lines_in 0 (fed words)) transfers.unpaced).feed.words ≡ words
first_words [] = refl
first_words (word ∷ words) = refl

first_every : (words : List ℕ) → (begun 0 (lines_in 0 (fed words)) transfers.unpaced).feed.every ≤ 1
first_every [] = omega arith
first_every (word ∷ words) = omega arith

first_due : (words : List ℕ) → (begun 0 (lines_in 0 (fed words)) transfers.unpaced).feed.due ≤ 0
first_due [] = omega arith
first_due (word ∷ words) = omega arith

module _ (laws : Laws) (u : Setup) (words : List ℕ) (s : MachineSetup) (pin : ℕ) (own : IsOwn u 0 s pin) (left : (clock : ℕ) → IsLeft (host_in u (fed words) clock) s.id) (joins : (s.join_tx ≡ false) × (s.join_rx ≡ false)) where
  room_is : (c : ℕ) → (slots u (fed words) s c).machine.ports.fifos.tx_room ≡ 4
  unfolding settled_slot settled_ports settled
  room_is zero = rw (joins.0, joins.1) refl
  room_is (suc c) = room_is c

  -- whether the machine asks for a word
  asks : (c : ℕ) → slice_index_or (requests_of (state_in u (fed words) c)).tx 0 false ≡ not (is_full 4 (tx_in u (fed words) s c))
  unfolding requests_of
  asks c =
      get_or-map (λ m. not (shown_in m).tx_full) (state_in u (fed words) c).machines 0 None
      ∙ ap (λ p. not (shown_in p).tx_full) (place_is laws u (fed words) 0 s pin own left c)
      ∙ ap (λ r. not (is_full r (tx_in u (fed words) s c))) (room_is c)

  -- the word that moves in a clock
  word_in : (c : ℕ) → slice_index_or (host_in u (fed words) c).word 0 None ≡ fed_word c (not (is_full 4 (tx_in u (fed words) s c))) (feed_in u words c)
  unfolding due_in
  word_in c =
      let h = hosted_at (first_run u) (fed words) c in
      let reqs : Requests = requests_of h.run.state in
      ap (λ k. either_word (slice_index_or (with_lines (lines_in k (fed words)) quiet).word 0 None) (fed_word k (tx_ready 0 (with_lines (lines_in k (fed words)) quiet) reqs) (begun 0 (lines_in k (fed words)) h.transfers.first).feed)) (clock_is u (fed words) c)
      ∙ ap (λ (q : Due). either_word (slice_index_or q.word 0 None) (fed_word c (tx_ready 0 q reqs) (feed_in u words c))) (quiet_lines words c)
      ∙ ap (λ b. fed_word c b (feed_in u words c)) (asks c)

  feed_next : (c : ℕ) → feed_in u words (suc c) ≡ transfers.fed c (not (is_full 4 (tx_in u (fed words) s c))) (feed_in u words c)
  unfolding hosted_at hosted_next transfers_after
  feed_next c =
      let h = hosted_at (first_run u) (fed words) c in
      let reqs : Requests = requests_of h.run.state in
      ap (λ ls. (begun 0 ls (hosted_at (first_run u) (fed words) (suc c)).transfers.first).feed) (later_lines words c)
      ∙ ap (λ k. transfers.fed k (tx_ready 0 (with_lines (lines_in k (fed words)) quiet) reqs) (begun 0 (lines_in k (fed words)) h.transfers.first).feed) (clock_is u (fed words) c)
      ∙ ap (λ (q : Due). transfers.fed c (tx_ready 0 q reqs) (feed_in u words c)) (quiet_lines words c)
      ∙ ap (λ b. transfers.fed c b (feed_in u words c)) (asks c)

  -- the next word of the feed is due
  times : (c : ℕ) → ((feed_in u words c).every ≤ 1) × ((feed_in u words c).due ≤ c)
  times zero = (
    subst (λ (f : Feeding). f.every ≤ 1) (sym (first_feed u words)) (first_every words),
    subst (λ (f : Feeding). f.due ≤ 0) (sym (first_feed u words)) (first_due words),
  )
  times (suc c) =
      let t = times c in
      let m = is_moved (act_in u (fed words) s c).1.take (tx_in u (fed words) s c) (feed_in u words c).words c (feed_in u words c).every (feed_in u words c).due t.0 t.1 in
      let same : transfers.fed c (not (is_full 4 (tx_in u (fed words) s c))) (feed_in u words c) ≡ feed_in u words (suc c) = sym (feed_next c) in (
        subst (λ (f : Feeding). f.every ≤ 1) same (let e = m.every in let l = t.0 in omega (arith, e, l)),
        subst (λ (f : Feeding). f.due ≤ suc c) same (let l = m.due in omega (arith, l)),
      )

  moved : (c : ℕ) → IsMoved (act_in u (fed words) s c).1.take 4 (tx_in u (fed words) s c) c (feed_in u words c)
  moved c = let t = times c in is_moved (act_in u (fed words) s c).1.take (tx_in u (fed words) s c) (feed_in u words c).words c (feed_in u words c).every (feed_in u words c).due t.0 t.1

  tx_next : (c : ℕ) → tx_in u (fed words) s (suc c) ≡ queued (if_room 4 (tx_in u (fed words) s c) (fed_word c (not (is_full 4 (tx_in u (fed words) s c))) (feed_in u words c))) (less_front (act_in u (fed words) s c).1.take (tx_in u (fed words) s c))
  tx_next c =
      let m = slots u (fed words) s c in
      let d = host_in u (fed words) c in
      tx_after_clock (view_in u (fed words) c) d m
      ∙ ap (λ r. queued (if_room r m.machine.ports.fifos.tx (slice_index_or d.word m.machine.setup.id None)) (less_front (act_in u (fed words) s c).1.take m.machine.ports.fifos.tx)) (room_is c)
      ∙ ap (λ (x : MachineSetup). queued (if_room 4 m.machine.ports.fifos.tx (slice_index_or d.word x.id None)) (less_front (act_in u (fed words) s c).1.take m.machine.ports.fifos.tx)) (setup_is laws u (fed words) 0 s pin own left c)
      ∙ ap (λ i. queued (if_room 4 m.machine.ports.fifos.tx (slice_index_or d.word i None)) (less_front (act_in u (fed words) s c).1.take m.machine.ports.fifos.tx)) own.number
      ∙ ap (λ w. queued (if_room 4 m.machine.ports.fifos.tx w) (less_front (act_in u (fed words) s c).1.take m.machine.ports.fifos.tx)) (word_in c)

  -- what is taken in a clock, and what is left after it
  pub goes : (c : ℕ) → option_to_list (taken_in u (fed words) s c) ++ left_in u words s (suc c) ≡ left_in u words s c
  goes c =
      ap (λ xs. option_to_list (taken_in u (fed words) s c) ++ (xs ++ (feed_in u words (suc c)).words)) (tx_next c)
      ∙ ap (λ (f : Feeding). option_to_list (taken_in u (fed words) s c) ++ (queued (if_room 4 (tx_in u (fed words) s c) (fed_word c (not (is_full 4 (tx_in u (fed words) s c))) (feed_in u words c))) (less_front (act_in u (fed words) s c).1.take (tx_in u (fed words) s c)) ++ f.words)) (feed_next c)
      ∙ (moved c).goes

  dry : (c : ℕ) → tx_in u (fed words) s (suc c) ≡ [] → (feed_in u words (suc c)).words ≡ []
  dry c e = ap (λ (f : Feeding). f.words) (feed_next c) ∙ (moved c).dry (sym (tx_next c) ∙ e)

  -- the front of TX is the first of the words that are left
  pub front_is : (c : ℕ) → 1 ≤ c → slice_get (tx_in u (fed words) s c) 0 ≡ slice_get (left_in u words s c) 0
  front_is zero some = absurd (omega (arith, some))
  front_is (suc c) some = on (tx_in u (fed words) s (suc c)) (feed_in u words (suc c)).words (dry c) where
    on : (tx more : List ℕ) → (tx ≡ [] → more ≡ []) → slice_get tx 0 ≡ slice_get (tx ++ more) 0
    on [] more h = ap (λ ws. slice_get ws 0) (sym (h refl))
    on (word ∷ tx) more h = refl

  pub at_first : left_in u words s 0 ≡ words
  at_first = ap (λ (f : Feeding). f.words) (first_feed u words) ∙ first_words words
