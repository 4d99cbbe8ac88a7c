-- That the sample which a block keeps is that of its state.
use Rattle.std.proofs.Common.{◌≡◌, ℕ, Bool, true, false, ◌||◌, Option, Some, None, option_map, is_some, [], ◌∷◌, slice_index_or, bit_or, refl, ap, sym, ◌∙◌, subst}
use Rattle.std.specs.Int.Bits.{or_zero_l}
use Rattle.fifo_pair.specs.Fifos.{settled, is_over, is_under, got_word}
use Rattle.pin_matrix.specs.declared.machine.MachineSetup.{MachineSetup}
use Rattle.sm_registers.specs.State.{MachinePorts, got_after, settled_ports, told}
use Rattle.sm_registers.specs.View.{View}
use Rattle.dreq_pacing.specs.declared.due.Due.{Due}
use Rattle.block_core.specs.declared.sample.Sample.{Sample}
use Rattle.block_core.specs.Kept.{IsSampleOf, state_of}
use Rattle.block_core.specs.Leaps.{leapt_place}
use Rattle.block_core.specs.Shown.{Shows, sample_of, shown_in, with_shown}
use Rattle.block_core.specs.Slots.{Slot, first_slot, settled_slot, slot_after, slot_intent, slot_uses_fifos}
use Rattle.block_core.proofs.NextStirs.{shown_leaps}
use Rattle.block_core.proofs.Unused.{StaysQuiet}

-- ports of which nobody wants anything, and no flag of which rises, stay
abbrev ports_by : (take : Bool) (word w : Option ℕ) (read : Bool) (sticky : ℕ) → MachinePorts → MachinePorts
ports_by take word w read sticky p = record {
  fifos = settled take word w read p.fifos;
  got = got_after (got_word read p.fifos) p.got;
  sticky = bit_or (told (is_over w p.fifos) (is_under read p.fifos)) (bit_or sticky p.sticky);
}

ports_stay : StaysQuiet → (take : Bool) (word w : Option ℕ) (read : Bool) (sticky : ℕ) (p : MachinePorts) → (take || (is_some word || (is_some w || read))) ≡ false → sticky ≡ 0 → ports_by take word w read sticky p ≡ p
ports_stay law true word w read sticky p h e = cc
ports_stay law false (Some x) w read sticky p h e = cc
ports_stay law false None (Some x) read sticky p h e = cc
ports_stay law false None None true sticky p h e = cc
ports_stay law false None None false sticky p h e = rw (law p.fifos, e, or_zero_l p.sticky, or_zero_l p.sticky) refl

-- so nothing new is seen of its machine
shows_the_same : StaysQuiet → (v : View) (d : Due) (s : Slot) → slot_uses_fifos v d s ≡ false → (slot_intent v d s).sticky ≡ 0 → shown_in (Some (slot_after v d s)) ≡ shown_in (Some s)
unfolding settled_slot settled_ports
shows_the_same law v d s unused silent =
    let i = slot_intent v d s in
    let id = s.machine.setup.id in
    ap (λ (p : MachinePorts). shown_in (Some (record s { machine = record s.machine { ports = p } })))
    (ports_stay law i.take i.word (slice_index_or d.word id None) (slice_index_or d.read id false) i.sticky s.machine.ports unused silent)

pub still_shows : StaysQuiet → (place : ℕ) (v : View) (d : Due) (s t : Slot) (x : Sample) → t ≡ slot_after v d s → slot_uses_fifos v d s ≡ false → (slot_intent v d s).sticky ≡ 0 → Shows place (Some s) x → Shows place (Some t) x
still_shows law place v d s t x after unused silent h =
    subst (λ seen. x ≡ with_shown place seen x) (sym (ap (λ (m : Slot). shown_in (Some m)) after ∙ shows_the_same law v d s unused silent)) h

-- what a sample of a state has of each place, and what it is the sample of after what is seen of that place is new
module _ {a b c d : Option Slot} {levels directions flags outside : ℕ} {s : Sample} (kept : IsSampleOf (state_of a b c d levels directions flags outside) s) where
  pub shows_first : Shows 0 a s
  unfolding sample_of with_shown
  shows_first = subst (Shows 0 a) (sym kept.is) refl

  pub shows_second : Shows 1 b s
  unfolding sample_of with_shown
  shows_second = subst (Shows 1 b) (sym kept.is) refl

  pub shows_third : Shows 2 c s
  unfolding sample_of with_shown
  shows_third = subst (Shows 2 c) (sym kept.is) refl

  pub shows_fourth : Shows 3 d s
  unfolding sample_of with_shown
  shows_fourth = subst (Shows 3 d) (sym kept.is) refl

  pub first_new : (x : Option Slot) (t : Sample) → t ≡ with_shown 0 (shown_in x) s → IsSampleOf (state_of x b c d levels directions flags outside) t
  unfolding sample_of with_shown
  first_new x t e = record { is = e ∙ ap (with_shown 0 (shown_in x)) kept.is }

  pub second_new : (x : Option Slot) (t : Sample) → t ≡ with_shown 1 (shown_in x) s → IsSampleOf (state_of a x c d levels directions flags outside) t
  unfolding sample_of with_shown
  second_new x t e = record { is = e ∙ ap (with_shown 1 (shown_in x)) kept.is }

  pub third_new : (x : Option Slot) (t : Sample) → t ≡ with_shown 2 (shown_in x) s → IsSampleOf (state_of a b x d levels directions flags outside) t
  unfolding sample_of with_shown
  third_new x t e = record { is = e ∙ ap (with_shown 2 (shown_in x)) kept.is }

  pub fourth_new : (x : Option Slot) (t : Sample) → t ≡ with_shown 3 (shown_in x) s → IsSampleOf (state_of a b c x levels directions flags outside) t
  unfolding sample_of with_shown
  fourth_new x t e = record { is = e ∙ ap (with_shown 3 (shown_in x)) kept.is }

  pub pins_new : (l r f o : ℕ) → IsSampleOf (state_of a b c d l r f o) (record s { level = l; direction = r; flags = f })
  unfolding sample_of
  pins_new l r f o = record { is = ap (λ (x : Sample). record x { level = l; direction = r; flags = f }) kept.is }

  pub outputs_new : (l r : ℕ) → IsSampleOf (state_of a b c d l r flags outside) (record s { level = l; direction = r })
  unfolding sample_of
  outputs_new l r = record { is = ap (λ (x : Sample). record x { level = l; direction = r }) kept.is }

  -- over a rest it stays
  pub sample_leapt : (n : ℕ) (a' b' c' d' : Option Slot) → a' ≡ leapt_place n a → b' ≡ leapt_place n b → c' ≡ leapt_place n c → d' ≡ leapt_place n d → IsSampleOf (state_of a' b' c' d' levels directions flags outside) s
  unfolding sample_of
  sample_leapt n a' b' c' d' e f g h = record {
    is =
        rw (e, f, g, h, shown_leaps n a, shown_leaps n b, shown_leaps n c, shown_leaps n d) kept.is;
  }

-- at the start nothing is in the FIFOs, and nothing was read or reported
record ShowsNothing (place : Option Slot) : Type 0 where
  tx : (shown_in place).tx ≡ 0
  rx : (shown_in place).rx ≡ 0
  got : (shown_in place).got ≡ 0
  sticky : (shown_in place).sticky ≡ 0

first_shows_nothing : (m : Option MachineSetup) (place : Option Slot) → place ≡ option_map first_slot m → ShowsNothing place
first_shows_nothing m place e = subst ShowsNothing (sym e) (cases m) where
  cases : (m : Option MachineSetup) → ShowsNothing (option_map first_slot m)
  cases None = record { tx = refl; rx = refl; got = refl; sticky = refl }
  cases (Some setup) = record { tx = refl; rx = refl; got = refl; sticky = refl }

pub first_sample : (levels directions outside : ℕ) (l m n o : Option MachineSetup) (a b c d : Option Slot) → a ≡ option_map first_slot l → b ≡ option_map first_slot m → c ≡ option_map first_slot n → d ≡ option_map first_slot o → IsSampleOf (state_of a b c d levels directions 0 outside) (record {
  level = levels;
  direction = directions;
  flags = 0;
  tx = 0 ∷ 0 ∷ 0 ∷ 0 ∷ [];
  rx = 0 ∷ 0 ∷ 0 ∷ 0 ∷ [];
  got = 0 ∷ 0 ∷ 0 ∷ 0 ∷ [];
  sticky = 0 ∷ 0 ∷ 0 ∷ 0 ∷ [];
})
unfolding sample_of
first_sample levels directions outside l m n o a b c d e f g h =
    let one = first_shows_nothing l a e in
    let two = first_shows_nothing m b f in
    let three = first_shows_nothing n c g in
    let four = first_shows_nothing o d h in
    record {
      is = rw (
        one.tx,
        one.rx,
        one.got,
        one.sticky,
        two.tx,
        two.rx,
        two.got,
        two.sticky,
        three.tx,
        three.rx,
        three.got,
        three.sticky,
        four.tx,
        four.rx,
        four.got,
        four.sticky,
      ) refl;
    }
