-- What a block says that transfers moved is what they did, clock by clock.
use Rattle.std.proofs.Common.{◌≡◌, ℕ, zero, suc, false, Option, Some, None, option_map, List, refl, ap, ap₂, sym, subst, ◌∙◌}
use Rattle.std.specs.Prelude.{slice_index_or}
use Rattle.std.proofs.Math.ListN.{get_or-map}
use Rattle.dreq_pacing.specs.declared.line.Line.{Line}
use Rattle.dreq_pacing.specs.declared.due.Due.{Due}
use Rattle.block_core.specs.Slots.{Slot, first_slot, counted, place_after, slot_after, settled_slot}
use Rattle.block_core.specs.Block.{Run, next, stepped, view_of, seen_in}
use Rattle.block_core.specs.Hosted.{hosted_at, hosted_next, host_of}
use Rattle.block_core.specs.Shown.{moved_of, moved_in}
use Rattle.pin_matrix.specs.declared.machine.MachineSetup.{MachineSetup}
use Rattle.setup_keys.specs.Block.{MachineKeys, keys_of_machine}
use Rattle.setup_keys.specs.Clipped.{clipped_block}
use Rattle.setup_keys.proofs.Making.{a_setup_says}
use Rattle.drawn_load.specs.Draws.{letters_of}
use Rattle.drawn_load.specs.Loads.{lines_of}
use Rattle.drawn_load.specs.Setups.{load_keys, setup_of}
use Rattle.drawn_load.specs.declared.summary.Summary.{Summary}
use Rattle.drawn_load.specs.Summaries.{start_of, times, sent_to, got_from, edges_of, summary_of}
use Rattle.drawn_load.specs.Counted.{counted_run}

-- the place has the machine with this number, and transfers moved so many words into its TX and out of its RX
record Has (id sent received : ℕ) (place : Option Slot) : Type 0 where
  slot : Slot
  is : place ≡ Some slot
  number : slot.machine.setup.id ≡ id
  into : slot.sent ≡ sent
  out_of : slot.received ≡ received

-- what becomes of a place in a clock of a run
abbrev place_in : Due → Run → Option Slot → Option Slot
place_in d r place = place_after (view_of r.memory (seen_in d r) r.state) d place

-- a clock more
after : (r : Run) (d : Due) (id a b : ℕ) (place : Option Slot) → Has id a b place
    → Has id (counted (slice_index_or d.word_paced id false) a) (counted (slice_index_or d.read_paced id false) b) (place_in d r place)
unfolding settled_slot
after r d id a b place h = record {
  slot = slot_after (view_of r.memory (seen_in d r) r.state) d h.slot;
  is = ap (place_in d r) h.is;
  number = h.number;
  into = ap₂ (λ k n. counted (slice_index_or d.word_paced k false) n) h.number h.into;
  out_of = ap₂ (λ k n. counted (slice_index_or d.read_paced k false) n) h.number h.out_of;
}

-- a place goes its own way
place_next : (id : ℕ) (d : Due) (r : Run) → slice_index_or (next d r).state.machines id None ≡ place_in d r (slice_index_or r.state.machines id None)
unfolding next stepped
place_next id d r = get_or-map (place_in d r) r.state.machines id None

-- a machine that begins with none
all_moved : (start : Run) (lines : List Line) (id n : ℕ) → Has id 0 0 (slice_index_or start.state.machines id None)
    → Has id (times (λ c. slice_index_or (host_of start lines c).word_paced id false) n) (times (λ c. slice_index_or (host_of start lines c).read_paced id false) n)
    (slice_index_or (hosted_at start lines n).run.state.machines id None)
unfolding hosted_at hosted_next times
all_moved start lines id zero h = h
all_moved start lines id (suc n) h =
    let r = (hosted_at start lines n).run in
    let d = host_of start lines n in
    subst (Has id _ _) (sym (place_next id d r)) (after r d id _ _ (slice_index_or r.state.machines id None) (all_moved start lines id n h))

-- the place of a machine at the start, of what its setup says
first_has : (id : ℕ) (k : MachineKeys) (o : Option MachineSetup) → option_map keys_of_machine o ≡ Some k → k.id ≡ id → Has id 0 0 (option_map first_slot o)
first_has id k None e is = cc
first_has id k (Some m) e is = record {
  slot = first_slot m;
  is = refl;
  number = let one : keys_of_machine m ≡ k = cc in ap (λ x. x.id) one ∙ is;
  into = refl;
  out_of = refl;
}

-- what the setup of a load says of a place
place_keys : (seed place : ℕ)
    → option_map keys_of_machine (slice_index_or (setup_of seed).machines place None) ≡ slice_index_or (clipped_block (load_keys (letters_of seed))).machines place None
place_keys seed place =
    sym (get_or-map (option_map keys_of_machine) (setup_of seed).machines place None)
    ∙ ap (λ b. slice_index_or b.machines place None) (a_setup_says (load_keys (letters_of seed))).1

-- the machine that is fed, and the one that is drained, begin with none
fed : (seed : ℕ) → Has 1 0 0 (slice_index_or (start_of seed).state.machines 1 None)
fed seed = first_has 1 _ (slice_index_or (setup_of seed).machines 1 None) (place_keys seed 1) refl

drained : (seed : ℕ) → Has 2 0 0 (slice_index_or (start_of seed).state.machines 2 None)
drained seed = first_has 2 _ (slice_index_or (setup_of seed).machines 2 None) (place_keys seed 2) refl

sent_is : (seed clocks : ℕ) → (moved_of 1 (hosted_at (start_of seed) (lines_of seed) clocks).run.state).0 ≡ sent_to 1 seed clocks
sent_is seed clocks =
    let h = all_moved (start_of seed) (lines_of seed) 1 clocks (fed seed) in
    ap (λ p. (moved_in p).0) h.is ∙ h.into

got_is : (seed clocks : ℕ) → (moved_of 2 (hosted_at (start_of seed) (lines_of seed) clocks).run.state).1 ≡ got_from 2 seed clocks
got_is seed clocks =
    let h = all_moved (start_of seed) (lines_of seed) 2 clocks (drained seed) in
    ap (λ p. (moved_in p).1) h.is ∙ h.out_of

pub run_is : (seed clocks : ℕ) → counted_run (start_of seed) (lines_of seed) clocks ≡ summary_of seed clocks
unfolding counted_run summary_of
run_is seed clocks =
    let summary : ℕ → ℕ → Summary = λ sent got. record {
      clocks = clocks;
      edges_0 = edges_of 0 seed clocks;
      edges_1 = edges_of 1 seed clocks;
      edges_3 = edges_of 3 seed clocks;
      sent = sent;
      got = got;
    } in
    ap₂ summary (sent_is seed clocks) (got_is seed clocks)
