-- What is true in each clock of one run: its numbers are words, its setups stay, and each machine is among its words.
use Rattle.std.proofs.Common.{◌≡◌, ◌∙◌, ℕ, zero, suc, ◌+◌, ◌^◌, ◌<◌, ◌==◌, true, Option, Some, None, option_map, IfSome, ◌⊎◌, List, [], ◌∷◌, slice_index_or, refl, sym, ap, subst, inl, inr, arith}
use Rattle.std.proofs.lemmas.Bool.{and_parts, eqb-true}
use Rattle.std.proofs.Math.ListN.{get_or-map}
use Rattle.pin_matrix.specs.Pins.{IsWrite, merged}
use Rattle.pin_matrix.specs.Setups.{ids_are_places}
use Rattle.pin_matrix.specs.declared.machine.MachineSetup.{MachineSetup}
use Rattle.pin_matrix.specs.declared.setup.Setup.{Setup}
use Rattle.sm_registers.specs.declared.intent.Intent.{Intent}
use Rattle.sm_registers.specs.State.{first_registers}
use Rattle.block_shares.specs.Acts.{has}
use Rattle.block_shares.specs.Reach.{first_in}
use Rattle.dreq_pacing.specs.declared.due.Due.{Due}
use Rattle.dreq_pacing.specs.declared.line.Line.{Line}
use Rattle.dreq_pacing.specs.Due.{quiet, with_lines}
use Rattle.dreq_pacing.specs.Lines.{IsSchedule, lines_in}
use Rattle.block_core.specs.Slots.{Slot, first_slot}
use Rattle.block_core.specs.Block.{BlockState, next, stepped, outside_after, seen_in, view_of, first_state, first_run, level_writes, direction_writes, intents_of}
use Rattle.block_core.specs.Following.{place_at}
use Rattle.block_core.specs.History.{OfEach}
use Rattle.block_core.specs.Hosted.{Hosted, due_of, hosted_next, hosted_at}
use Rattle.block_core.specs.Shown.{requests_of}
use Rattle.block_isolation.specs.Isolation.{HasWords}
use Rattle.block_isolation.proofs.Dues.{says_lines}
use Rattle.block_isolation.proofs.Lining.{clock_lines, lines_write}
use Rattle.block_isolation.proofs.Places.{HomeSlot, setups_of, each_after, home_after, setups_after, all_writes, levels_write, directions_write}
use Rattle.block_isolation.proofs.Premises.{TickLaws, PinLaws, LineLaws}
use Rattle.block_isolation.proofs.Bits.{has_own}
use Rattle.block_isolation.proofs.Homes.{IsAtFirst}
use Rattle.block_isolation.proofs.Reaching.{reach_starts}
use Rattle.block_isolation.proofs.Touching.{reach_within}

-- one run in a clock
pub record IsRunning (s : Setup) (clock : ℕ) (h : Hosted) : Type 0 where
  pub memory : h.run.memory ≡ s.memory
  pub clock_is : h.run.clock ≡ clock
  pub bypass : h.run.synchroniser.bypass ≡ s.bypass
  pub homes : OfEach (HomeSlot s.memory) h.run.state.machines
  pub setups : setups_of h.run.state.machines ≡ setups_of (first_state s).machines
  pub levels : h.run.state.levels < 2 ^ 32
  pub directions : h.run.state.directions < 2 ^ 32
  pub outside : h.run.state.outside < 2 ^ 32
  pub pad_1 : h.run.synchroniser.pad_1 < 2 ^ 32
  pub pad_2 : h.run.synchroniser.pad_2 < 2 ^ 32

-- what the system sets are writes of pins
pub due_write : LineLaws → (lines : List Line) → IsSchedule lines → (h : Hosted) → IsWrite ((due_of lines h).pins, (due_of lines h).values)
due_write laws lines fine h =
    let says = says_lines lines h.run.clock (requests_of h.run.state) h.transfers in
    let d = with_lines (lines_in h.run.clock lines) quiet in
    subst (λ (w : ℕ × ℕ). IsWrite w) (let p = says.pins in let v = says.values in cc) (lines_write laws (lines_in h.run.clock lines) (clock_lines h.run.clock lines fine))

outside_word : PinLaws → (d : Due) (old : ℕ) → IsWrite (d.pins, d.values) → old < 2 ^ 32 → outside_after d old < 2 ^ 32
unfolding merged
outside_word pins d old write word = pins.merged_word old ((d.pins, d.values) ∷ []) word (write, tt)

pub running_on : TickLaws → PinLaws → LineLaws → (s : Setup) (lines : List Line) → IsSchedule lines → (clock : ℕ) (h : Hosted) → IsRunning s clock h → IsRunning s (suc clock) (hosted_next lines h)
unfolding hosted_next next stepped
running_on ticks pins laws s lines fine clock h k =
    let d = due_of lines h in
    let b = h.run.state in
    let v = view_of h.run.memory (seen_in d h.run) b in
    let outside = outside_word pins d b.outside (due_write laws lines fine h) k.outside in
    record {
      memory = k.memory;
      clock_is = ap (λ (c : ℕ). c + 1) k.clock_is ∙ omega arith;
      bypass = k.bypass;
      homes = each_after (HomeSlot s.memory) (HomeSlot s.memory) v d (home_after ticks s.memory v d k.memory) b.machines k.homes;
      setups = setups_after v d b.machines ∙ k.setups;
      levels = pins.merged_word b.levels (level_writes (intents_of v d b.machines)) k.levels (all_writes (λ (i : Intent). i.level) v d pins.none (levels_write ticks pins.none v d) b.machines);
      directions = pins.merged_word b.directions (direction_writes (intents_of v d b.machines)) k.directions (all_writes (λ (i : Intent). i.direction) v d pins.none (directions_write ticks pins.none v d) b.machines);
      outside = outside;
      pad_1 = pins.pads_word b.levels b.directions (outside_after d b.outside) k.levels outside;
      pad_2 = k.pad_1;
    }

-- at the start
home_first : (memory : List ℕ) (s : Option MachineSetup) → IfSome (option_map first_slot s) (HomeSlot memory)
home_first memory None = tt
home_first memory (Some s) = record {
  home = record {
    placed = record { pc = s.start_in_memory; in_count = s.isr_has_bits; out_count = s.osr_has_bits; delay = omega arith };
    reached = λ none. reach_within memory s 32 (omega arith) s.start s.start_in_memory
        (reach_starts memory s s.start s.start_in_memory (ap (λ (p : Option ℕ). has (first_in p s.start) s.start) none ∙ has_own s.start));
    pending = inl (begins_pending s s.pending refl);
  };
} where
  begins_pending : (s : MachineSetup) (p : Option ℕ) → s.pending ≡ p → (s.pending ≡ None) ⊎ IsAtFirst s (first_registers s)
  begins_pending s None e = inl e
  begins_pending s (Some word) e = inr (record { word = word; first = e; pending = e; pc = refl })

pub running_first : PinLaws → (s : Setup) → HasWords s → (lines : List Line) → IsRunning s 0 (hosted_at (first_run s) lines 0)
unfolding hosted_at
running_first pins s words lines =
    let pad = pins.pads_word s.level s.out s.high words.level words.high in
    record {
      memory = refl;
      clock_is = refl;
      bypass = refl;
      homes = (home_first s.memory (slice_index_or s.machines 0 None), (home_first s.memory (slice_index_or s.machines 1 None), (home_first s.memory (slice_index_or s.machines 2 None), (home_first s.memory (slice_index_or s.machines 3 None), tt))));
      setups = refl;
      levels = words.level;
      directions = words.out;
      outside = words.high;
      pad_1 = pad;
      pad_2 = pad;
    }

-- The setups at places. A place with a machine is one of the four, and has the machine of its number.
pub record IsPlaceOf (s : Setup) (k : ℕ) (own : MachineSetup) : Type 0 where
  pub below : k < 4
  pub machine : slice_index_or s.machines k None ≡ Some own

setup_first : (o : Option MachineSetup) (own : MachineSetup) → option_map (λ (m : Slot). m.machine.setup) (option_map first_slot o) ≡ Some own → o ≡ Some own
setup_first None own h = cc
setup_first (Some s) own h = h

setup_place : (s : Setup) (k : ℕ) (own : MachineSetup) → option_map (λ (m : Slot). m.machine.setup) (place_at (first_state s) k) ≡ Some own → IsPlaceOf s k own
setup_place s zero own h = record { below = omega arith; machine = setup_first (slice_index_or s.machines 0 None) own h }
setup_place s (suc zero) own h = record { below = omega arith; machine = setup_first (slice_index_or s.machines 1 None) own h }
setup_place s (suc (suc zero)) own h = record { below = omega arith; machine = setup_first (slice_index_or s.machines 2 None) own h }
setup_place s (suc (suc (suc zero))) own h = record { below = omega arith; machine = setup_first (slice_index_or s.machines 3 None) own h }
setup_place s (suc (suc (suc (suc k)))) own h = cc

setups_at : (b : BlockState) (k : ℕ) → slice_index_or (setups_of b.machines) k None ≡ option_map (λ (m : Slot). m.machine.setup) (place_at b k)
setups_at b k = get_or-map (option_map (λ (m : Slot). m.machine.setup)) b.machines k None

pub place_setup : (s : Setup) (b : BlockState) → setups_of b.machines ≡ setups_of (first_state s).machines → (k : ℕ) (m : Slot) → place_at b k ≡ Some m → IsPlaceOf s k m.machine.setup
place_setup s b same k m h =
    setup_place s k m.machine.setup
    (sym (setups_at (first_state s) k) ∙ (ap (λ (xs : List (Option MachineSetup)). slice_index_or xs k None) (sym same) ∙ (setups_at b k ∙ ap (option_map (λ (x : Slot). x.machine.setup)) h)))

-- each machine has its place's number
id_place : (machines : List (Option MachineSetup)) (place k : ℕ) (own : MachineSetup) → ids_are_places place machines ≡ true → slice_index_or machines k None ≡ Some own → own.id ≡ place + k
id_place [] place k own h e = cc
id_place (None ∷ machines) place zero own h e = cc
id_place (None ∷ machines) place (suc k) own h e = let i = id_place machines (place + 1) k own h e in omega (arith, i)
id_place (Some m ∷ machines) place zero own h e =
    let parts = and_parts (m.id == place) (ids_are_places (place + 1) machines) h in
    let i : m.id ≡ place = eqb-true m.id place parts.0 in
    let same : m ≡ own = cc in
    let j : own.id ≡ m.id = ap (λ (x : MachineSetup). x.id) (sym same) in omega (arith, i, j)
id_place (Some m ∷ machines) place (suc k) own h e =
    let parts = and_parts (m.id == place) (ids_are_places (place + 1) machines) h in
    let i = id_place machines (place + 1) k own parts.1 e in omega (arith, i)

pub place_id : (s : Setup) (k : ℕ) (own : MachineSetup) → slice_index_or s.machines k None ≡ Some own → own.id ≡ k
place_id s k own h = let i = id_place s.machines 0 k own s.at_their_places h in omega (arith, i)
