-- A machine that is alone in two setups which agree on what is its own is the same in both runs, in each clock.
use Rattle.std.proofs.Common.{◌≡◌, ◌∙◌, ℕ, zero, suc, ◌^◌, ◌<◌, not, ◌&&◌, ◌||◌, Bool, true, Option, Some, None, option_map, IfSome, List, slice_index, slice_index_or, refl, sym, ap, subst, arith}
use Rattle.std.proofs.Math.ListN.{get_or-map}
use Rattle.pin_matrix.specs.Pins.{last_of}
use Rattle.pin_matrix.specs.declared.machine.MachineSetup.{MachineSetup}
use Rattle.pin_matrix.specs.declared.setup.Setup.{Setup}
use Rattle.sm_registers.specs.declared.intent.Intent.{Intent}
use Rattle.sm_registers.specs.Intents.{two_writes}
use Rattle.sm_registers.specs.View.{View}
use Rattle.dreq_pacing.specs.declared.due.Due.{Due}
use Rattle.dreq_pacing.specs.declared.line.Line.{Line}
use Rattle.dreq_pacing.specs.Due.{quiet}
use Rattle.dreq_pacing.specs.Lines.{IsSchedule}
use Rattle.dreq_pacing.specs.Ports.{due_in, transfers_after}
use Rattle.block_core.specs.Slots.{Slot, first_slot, place_after, place_intent}
use Rattle.block_core.specs.Block.{BlockState, next, stepped, outside_after, pads_in, seen_in, view_of, first_state, first_run}
use Rattle.block_core.specs.Following.{place_at}
use Rattle.block_core.specs.Hosted.{Hosted, due_of, hosted_next, hosted_at}
use Rattle.block_core.specs.Shown.{requests_of}
use Rattle.block_shares.specs.declared.touched.Touches.{Touches}
use Rattle.block_shares.specs.Acts.{has}
use Rattle.block_shares.specs.Shares.{touched_by, touched_at, touches_of, own_pins, own_flags, IsAlone}
use Rattle.block_isolation.specs.Isolation.{AgreeOn, AreAlikeTo, HasWords, IsSameTo, own_lines}
use Rattle.block_isolation.proofs.Bits.{bits_same, has_same}
use Rattle.block_isolation.proofs.Dues.{SameDue, paced_at, same_request, due_same, paced_on}
use Rattle.block_isolation.proofs.Feeling.{SeemsSame}
use Rattle.block_isolation.proofs.Isolating.{AreLines, IsSameIn, SlotSame, outside_same, pads_same, seen_same, slot_same, seen_is_own}
use Rattle.block_isolation.proofs.Others.{IsStateOf, home_at, level_after, direction_after, flag_after}
use Rattle.block_isolation.proofs.Places.{HomeSlot}
use Rattle.block_isolation.proofs.Premises.{TickLaws, PinLaws, LineLaws}
use Rattle.block_isolation.proofs.Running.{IsRunning, IsPlaceOf, running_first, running_on, place_setup, place_id}
use Rattle.block_isolation.proofs.Touching.{touched_same}

-- two setups and two schedules that are the same to a machine which is alone in both
pub record AreTwo (m : ℕ) (own : MachineSetup) (s t : Setup) (lines others : List Line) : Type 0 where
  pub inside : m < 4
  pub words : HasWords s
  pub other_words : HasWords t
  pub alone : IsAlone s m
  pub other_alone : IsAlone t m
  pub alike : AreAlikeTo m own (touches_of s m) s t
  pub are : AreLines m (touches_of s m).reads lines others

-- it touches the same in both
pub same_touches : (m : ℕ) (own : MachineSetup) (s t : Setup) → AreAlikeTo m own (touches_of s m) s t → touches_of s m ≡ touches_of t m
same_touches m own s t alike =
    let first : touches_of s m ≡ touched_by s.memory own = ap (touched_at s.memory) alike.here in
    let second : touches_of t m ≡ touched_by t.memory own = ap (touched_at t.memory) alike.there in
    let words = subst (λ (x : Touches). (a : ℕ) → a < 32 → has x.reach a ≡ true → slice_index s.memory a ≡ slice_index t.memory a) first alike.words in
    first ∙ (touched_same s.memory t.memory own words ∙ sym second)

state_of : (s : Setup) (c : ℕ) (h : Hosted) → IsRunning s c h → IsStateOf s h.run.state
state_of s c h r = record { homes = r.homes; setups = r.setups }

-- the place of a machine after a clock
place_stepped : (memory : List ℕ) (seen : ℕ) (d : Due) (b : BlockState) (m : ℕ) → place_at (stepped memory seen d b) m ≡ place_after (view_of memory seen b) d (place_at b m)
unfolding stepped
place_stepped memory seen d b m = get_or-map (place_after (view_of memory seen b) d) b.machines m None

-- what a run's machines see in a clock
abbrev view_in : List Line → Hosted → View
view_in lines h = view_of h.run.memory (seen_in (due_of lines h) h.run) h.run.state

-- the same clock
same_clock : (s t : Setup) (c : ℕ) (h k : Hosted) → IsRunning s c h → IsRunning t c k → h.run.clock ≡ k.run.clock
same_clock s t c h k one other = one.clock_is ∙ sym other.clock_is

dues_same : (m : ℕ) (own : MachineSetup) (s t : Setup) (lines others : List Line) (c : ℕ) (h k : Hosted) → AreTwo m own s t lines others → IsRunning s c h → IsRunning t c k → IsSameIn m (touches_of s m) h k → SameDue m (due_of lines h) (due_of others k)
dues_same m own s t lines others c h k two one other same =
    subst (λ (x : ℕ). SameDue m (due_of lines h) (due_in others x (requests_of k.run.state) k.transfers)) (same_clock s t c h k one other)
    (due_same m (touches_of s m).reads h.run.clock lines others (requests_of h.run.state) (requests_of k.run.state) h.transfers k.transfers two.inside two.are.own (same_request m h.run.state k.run.state same.state.place) same.paced)

-- what drives its pins from the outside
outsides_same : PinLaws → LineLaws → (m : ℕ) (own : MachineSetup) (s t : Setup) (lines others : List Line) (c : ℕ) (h k : Hosted) → AreTwo m own s t lines others → IsRunning s c h → IsRunning t c k → IsSameIn m (touches_of s m) h k → AgreeOn 32 (touches_of s m).reads (outside_after (due_of lines h) h.run.state.outside) (outside_after (due_of others k) k.run.state.outside)
outsides_same pins laws m own s t lines others c h k two one other same =
    outside_same pins laws m (touches_of s m) lines others h k two.are (same_clock s t c h k one other) same.outside

pads_now : PinLaws → LineLaws → (m : ℕ) (own : MachineSetup) (s t : Setup) (lines others : List Line) (c : ℕ) (h k : Hosted) → AreTwo m own s t lines others → IsRunning s c h → IsRunning t c k → IsSameIn m (touches_of s m) h k → AgreeOn 32 (touches_of s m).reads (pads_in (due_of lines h) h.run.state) (pads_in (due_of others k) k.run.state)
pads_now pins laws m own s t lines others c h k two one other same =
    pads_same pins m (touches_of s m) (due_of lines h) (due_of others k) h.run.state k.run.state one.directions other.directions same.state (outsides_same pins laws m own s t lines others c h k two one other same)

-- the pads of a clock are words
pads_word : TickLaws → PinLaws → LineLaws → (s : Setup) (lines others : List Line) (m c : ℕ) (h : Hosted) → AreLines m (touches_of s m).reads lines others → IsRunning s c h → pads_in (due_of lines h) h.run.state < 2 ^ 32
unfolding hosted_next next
pads_word ticks pins laws s lines others m c h are one = (running_on ticks pins laws s lines are.fine c h one).pad_1

other_pads_word : TickLaws → PinLaws → LineLaws → (t : Setup) (lines others : List Line) (m reads c : ℕ) (k : Hosted) → AreLines m reads lines others → IsRunning t c k → pads_in (due_of others k) k.run.state < 2 ^ 32
unfolding hosted_next next
other_pads_word ticks pins laws t lines others m reads c k are one = (running_on ticks pins laws t others are.other c k one).pad_1

-- so the views seem the same to it
seems : TickLaws → PinLaws → LineLaws → (m : ℕ) (own : MachineSetup) (s t : Setup) (lines others : List Line) (c : ℕ) (h k : Hosted) → AreTwo m own s t lines others → IsRunning s c h → IsRunning t c k → IsSameIn m (touches_of s m) h k → SeemsSame (touches_of s m) (view_in lines h) (view_in others k)
seems ticks pins laws m own s t lines others c h k two one other same =
    let reads = (touches_of s m).reads in
    let bypass : AgreeOn 32 reads h.run.synchroniser.bypass k.run.synchroniser.bypass = λ p inside mine. ap (λ (x : ℕ). has x p) one.bypass ∙ (two.alike.bypass p inside mine ∙ ap (λ (x : ℕ). has x p) (sym other.bypass)) in
    let mine_word : h.run.synchroniser.bypass < 2 ^ 32 = subst (λ (x : ℕ). x < 2 ^ 32) (sym one.bypass) two.words.bypass in
    let other_word : k.run.synchroniser.bypass < 2 ^ 32 = subst (λ (x : ℕ). x < 2 ^ 32) (sym other.bypass) two.other_words.bypass in
    let pad = pads_in (due_of lines h) h.run.state in
    let other_pad = pads_in (due_of others k) k.run.state in
    record {
      words = λ a inside reached. ap (λ (x : List ℕ). slice_index x a) one.memory ∙ (two.alike.words a inside reached ∙ ap (λ (x : List ℕ). slice_index x a) (sym other.memory));
      sees = record {
        on_pins = seen_same pins reads h.run.synchroniser.bypass k.run.synchroniser.bypass pad h.run.synchroniser.pad_2 other_pad k.run.synchroniser.pad_2 mine_word other_word bypass
            (pads_now pins laws m own s t lines others c h k two one other same) same.pad_2;
        on_flags = λ f inside sees. same.state.flags f inside (seen_is_own (touches_of s m) f sees);
        one = pins.seen_word h.run.synchroniser.bypass pad h.run.synchroniser.pad_2 (pads_word ticks pins laws s lines others m c h two.are one) one.pad_2;
        other = pins.seen_word k.run.synchroniser.bypass other_pad k.run.synchroniser.pad_2 (other_pads_word ticks pins laws t lines others m (touches_of s m).reads c k two.are other) other.pad_2;
      };
    }

-- what it does in the clock is the same
acts_same : TickLaws → PinLaws → (m : ℕ) (s : Setup) (v w : View) (d e : Due) (b : BlockState) → IsStateOf s b → v.memory ≡ s.memory → SeemsSame (touches_of s m) v w → SameDue m d e → (o : Option Slot) → place_at b m ≡ o → IfSome o (HomeSlot s.memory) → SlotSame v w d e o
acts_same ticks pins m s v w d e b state same look due None at home = record { after = refl; intent = refl }
acts_same ticks pins m s v w d e b state same look due (Some x) at home =
    let place : IsPlaceOf s m x.machine.setup = place_setup s b state.setups m x at in
    let touches : touches_of s m ≡ touched_by s.memory x.machine.setup = ap (touched_at s.memory) place.machine in
    let id : x.machine.setup.id ≡ m = place_id s m x.machine.setup place.machine in
    slot_same ticks pins s.memory v w d e x same home (subst (λ (t : Touches). SeemsSame t v w) touches look) (subst (λ (i : ℕ). SameDue i d e) (sym id) due)

-- pins and flags that get the same of it
pin_after : (p a b : ℕ) (x y : List (ℕ × ℕ)) → a ≡ b → x ≡ y → last_of p a (two_writes x) ≡ last_of p b (two_writes y)
pin_after p a b x y h k = ap (λ (o : ℕ). last_of p o (two_writes x)) h ∙ ap (λ (z : List (ℕ × ℕ)). last_of p b (two_writes z)) k

flag_same : (f : ℕ) (a b : Bool) (i j : Intent) → a ≡ b → i ≡ j → (has i.sets f || (a && not (has i.clears f))) ≡ (has j.sets f || (b && not (has j.clears f)))
flag_same f a b i j h k = ap (λ (x : Bool). has i.sets f || (x && not (has i.clears f))) h ∙ ap (λ (x : Intent). has x.sets f || (b && not (has x.clears f))) k

-- what drives the pins from the outside after a clock
outside_stepped : (t : Touches) (one other : List ℕ) (seen sight : ℕ) (d e : Due) (a b : BlockState) → AgreeOn 32 t.reads (outside_after d a.outside) (outside_after e b.outside) → AgreeOn 32 t.reads (stepped one seen d a).outside (stepped other sight e b).outside
unfolding stepped
outside_stepped t one other seen sight d e a b h = h

same_on : TickLaws → PinLaws → LineLaws → (m : ℕ) (own : MachineSetup) (s t : Setup) (lines others : List Line) (c : ℕ) (h k : Hosted) → AreTwo m own s t lines others → IsRunning s c h → IsRunning t c k → IsSameIn m (touches_of s m) h k → IsSameIn m (touches_of s m) (hosted_next lines h) (hosted_next others k)
unfolding hosted_next next
same_on ticks pins laws m own s t lines others c h k two one other same =
    let d = due_of lines h in
    let e = due_of others k in
    let v = view_in lines h in
    let w = view_in others k in
    let a = h.run.state in
    let b = k.run.state in
    let mine = touches_of s m in
    let state = state_of s c h one in
    let other_state = state_of t c k other in
    let touches = same_touches m own s t two.alike in
    let acts : SlotSame v w d e (place_at a m) = acts_same ticks pins m s v w d e a state one.memory (seems ticks pins laws m own s t lines others c h k two one other same) (dues_same m own s t lines others c h k two one other same) (place_at a m) refl (home_at s a m state) in
    let intents : place_intent v d (place_at a m) ≡ place_intent w e (place_at b m) = acts.intent ∙ ap (place_intent w e) same.state.place in
    let outside = outsides_same pins laws m own s t lines others c h k two one other same in
    record {
      state = record {
        place = place_stepped h.run.memory (seen_in d h.run) d a m ∙ (acts.after ∙ (ap (place_after w e) same.state.place ∙ sym (place_stepped k.run.memory (seen_in e k.run) e b m)));
        levels = λ p inside own_pin.
            let there : has (own_pins (touches_of t m)) p ≡ true = ap (λ (x : Touches). has (own_pins x) p) (sym touches) ∙ own_pin in
            has_same _ _ p
            (level_after ticks pins s m p (seen_in d h.run) d h.run.memory a two.alone state inside own_pin
            ∙ (pin_after p _ _ _ _ (bits_same _ _ p (same.state.levels p inside own_pin)) (ap (λ (i : Intent). i.level) intents)
            ∙ sym (level_after ticks pins t m p (seen_in e k.run) e k.run.memory b two.other_alone other_state inside there)));
        directions = λ p inside own_pin.
            let there : has (own_pins (touches_of t m)) p ≡ true = ap (λ (x : Touches). has (own_pins x) p) (sym touches) ∙ own_pin in
            has_same _ _ p
            (direction_after ticks pins s m p (seen_in d h.run) d h.run.memory a two.alone state inside own_pin
            ∙ (pin_after p _ _ _ _ (bits_same _ _ p (same.state.directions p inside own_pin)) (ap (λ (i : Intent). i.direction) intents)
            ∙ sym (direction_after ticks pins t m p (seen_in e k.run) e k.run.memory b two.other_alone other_state inside there)));
        flags = λ f inside own_flag.
            let there : has (own_flags (touches_of t m)) f ≡ true = ap (λ (x : Touches). has (own_flags x) f) (sym touches) ∙ own_flag in
            flag_after s m f (seen_in d h.run) d h.run.memory a one.memory two.alone state inside own_flag
            ∙ (flag_same f _ _ _ _ (same.state.flags f inside own_flag) intents
            ∙ sym (flag_after t m f (seen_in e k.run) e k.run.memory b other.memory two.other_alone other_state inside there));
      };
      outside = outside_stepped mine h.run.memory k.run.memory (seen_in d h.run) (seen_in e k.run) d e a b outside;
      pad_1 = pads_now pins laws m own s t lines others c h k two one other same;
      pad_2 = same.pad_1;
      paced = subst (λ (x : ℕ). paced_at m (transfers_after lines h.run.clock (requests_of a) h.transfers) ≡ paced_at m (transfers_after others x (requests_of b) k.transfers)) (same_clock s t c h k one other)
          (paced_on m mine.reads h.run.clock lines others (requests_of a) (requests_of b) h.transfers k.transfers two.inside two.are.own (same_request m a b same.state.place) same.paced);
    }

-- at the start
place_first : (s : Setup) (m : ℕ) → m < 4 → place_at (first_state s) m ≡ option_map first_slot (slice_index_or s.machines m None)
place_first s zero h = refl
place_first s (suc zero) h = refl
place_first s (suc (suc zero)) h = refl
place_first s (suc (suc (suc zero))) h = refl
place_first s (suc (suc (suc (suc m)))) h = absurd (omega arith)

first_same : (m : ℕ) (own : MachineSetup) (s t : Setup) (lines others : List Line) → AreTwo m own s t lines others → IsSameTo m (touches_of s m) (first_state s) (first_state t)
first_same m own s t lines others two = record {
  place = place_first s m two.inside ∙ (ap (option_map first_slot) (two.alike.here ∙ sym two.alike.there) ∙ sym (place_first t m two.inside));
  levels = two.alike.level;
  directions = two.alike.out;
  flags = λ f inside own_flag. refl;
}

same_first : PinLaws → (m : ℕ) (own : MachineSetup) (s t : Setup) (lines others : List Line) → AreTwo m own s t lines others → IsSameIn m (touches_of s m) (hosted_at (first_run s) lines 0) (hosted_at (first_run t) others 0)
unfolding hosted_at
same_first pins m own s t lines others two =
    let first = first_same m own s t lines others two in
    let pad : AgreeOn 32 (touches_of s m).reads (pads_in quiet (first_state s)) (pads_in quiet (first_state t)) =
    pads_same pins m (touches_of s m) quiet quiet (first_state s) (first_state t) two.words.out two.other_words.out first two.alike.high in
    record { state = first; outside = two.alike.high; pad_1 = pad; pad_2 = pad; paced = refl }

-- in each clock
running_at : TickLaws → PinLaws → LineLaws → (s : Setup) (lines : List Line) → HasWords s → IsSchedule lines → (clock : ℕ) → IsRunning s clock (hosted_at (first_run s) lines clock)
unfolding hosted_at
running_at ticks pins laws s lines words fine zero = running_first pins s words lines
running_at ticks pins laws s lines words fine (suc clock) = running_on ticks pins laws s lines fine clock (hosted_at (first_run s) lines clock) (running_at ticks pins laws s lines words fine clock)

same_at : TickLaws → PinLaws → LineLaws → (m : ℕ) (own : MachineSetup) (s t : Setup) (lines others : List Line) → AreTwo m own s t lines others → (clock : ℕ) → IsSameIn m (touches_of s m) (hosted_at (first_run s) lines clock) (hosted_at (first_run t) others clock)
unfolding hosted_at
same_at ticks pins laws m own s t lines others two zero = same_first pins m own s t lines others two
same_at ticks pins laws m own s t lines others two (suc clock) =
    same_on ticks pins laws m own s t lines others clock (hosted_at (first_run s) lines clock) (hosted_at (first_run t) others clock) two
    (running_at ticks pins laws s lines two.words two.are.fine clock) (running_at ticks pins laws t others two.other_words two.are.other clock)
    (same_at ticks pins laws m own s t lines others two clock)

pub isolated : TickLaws → PinLaws → LineLaws → (m : ℕ) (own : MachineSetup) (s t : Setup) (lines others : List Line) → m < 4 → HasWords s → HasWords t → IsSchedule lines → IsSchedule others → IsAlone s m → IsAlone t m → AreAlikeTo m own (touches_of s m) s t
    → own_lines m (touches_of s m).reads lines ≡ own_lines m (touches_of s m).reads others → (clock : ℕ) → IsSameTo m (touches_of s m) (hosted_at (first_run s) lines clock).run.state (hosted_at (first_run t) others clock).run.state
isolated ticks pins laws m own s t lines others inside words other_words fine other alone other_alone alike lines_same clock =
    (same_at ticks pins laws m own s t lines others (record {
      inside = inside;
      words = words;
      other_words = other_words;
      alone = alone;
      other_alone = other_alone;
      alike = alike;
      are = record { fine = fine; other = other; own = lines_same };
    }) clock).state
