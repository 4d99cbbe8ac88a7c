-- Rows of what two setups have to agree on for one machine, worked by hand: machine 0, which reads pin 1 and writes pin 0 from the two
-- words at addresses 0 and 1, is all that they share.
use Rattle.std.proofs.Common.{◌≡◌, ℕ, zero, suc, ◌<◌, Bool, true, false, not, ◌&&◌, ◌⊎◌, inl, inr, Some, None, List, [], ◌∷◌, ◌++◌, map, replicate, refl, sym, subst, arith}
use Rattle.std.specs.Prelude.{slice_index}
use Rattle.std.proofs.lemmas.Bool.{and_parts}
use Rattle.pin_matrix.specs.declared.machine.MachineSetup.{MachineSetup}
use Rattle.pin_matrix.specs.declared.setup.Setup.{Setup}
use Rattle.dreq_pacing.specs.declared.line.Line.{Line}
use Rattle.dreq_pacing.specs.declared.line.LineAct.TheVariants.{Pin, Tx, Rx, Feed, Drain, Enable, Disable, Restart}
use Rattle.block_shares.specs.declared.touched.Touches.{Touches}
use Rattle.block_shares.specs.Acts.{has}
use Rattle.block_isolation.specs.Isolation.{AgreeOn, HasWords, names, own_lines, AreAlikeTo}

-- a machine with this number, on SET pin 0
abbrev machine_0 : MachineSetup
machine_0 = record {
  id = 0;
  start = 0;
  x = 0;
  y = 0;
  isr = 0;
  osr = 0;
  isr_count = 0;
  osr_count = 32;
  pending = None;
  int = 1;
  frac = 0;
  side_rule = record { bits = 0; opt = false; pindirs = false; fits = omega arith };
  wrap_bottom = 0;
  wrap_top = 1;
  in_base = 0;
  jmp_pin = 0;
  out = record { base = 0; count = 0; base_is_a_pin = omega arith; count_fits = omega arith };
  set = record { base = 0; count = 1; base_is_a_pin = omega arith; count_fits = omega arith };
  side = record { base = 0; count = 0; base_is_a_pin = omega arith; count_fits = omega arith };
  in_right = true;
  out_right = true;
  autopush = false;
  autopull = false;
  push_threshold = 32;
  pull_threshold = 32;
  join_tx = false;
  join_rx = false;
  status_rx = false;
  status_n = 0;
  id_in_block = omega arith;
  start_in_memory = omega arith;
  isr_has_bits = omega arith;
  osr_has_bits = omega arith;
  divides = refl;
  wrap_bottom_in_memory = omega arith;
  wrap_top_in_memory = omega arith;
  in_base_is_a_pin = omega arith;
  jmp_pin_is_a_pin = omega arith;
  sets_five_at_most = omega arith;
  pushes_some = omega arith;
  pushes_a_word = omega arith;
  pulls_some = omega arith;
  pulls_a_word = omega arith;
  joins_one_way = refl;
  status_in_field = omega arith;
}

abbrev machine_1 : MachineSetup
machine_1 = record machine_0 { id = 1; start = 2; x = 9; id_in_block = omega arith; start_in_memory = omega arith }

-- it reaches addresses 0 and 1, reads pin 1 and writes pin 0
abbrev touches : Touches
touches = record { reach = 3; reads = 2; writes = 1; sees = 0; changes = 0 }

-- machine 0 alone, with pin 1 high from the outside and pin 0 out
abbrev one : Setup
one = record {
  memory = 8353 ∷ 57345 ∷ replicate 30 0;
  machines = Some machine_0 ∷ None ∷ None ∷ None ∷ [];
  high = 2;
  level = 0;
  out = 1;
  bypass = 0;
  spans = [];
  at_their_places = refl;
}

-- beside machine 1 and its word at address 2; pins 8 and on differ in all that a setup says of pins
abbrev other : Setup
other = record {
  memory = 8353 ∷ 57345 ∷ 2 ∷ replicate 29 0;
  machines = Some machine_0 ∷ Some machine_1 ∷ None ∷ None ∷ [];
  high = 258;
  level = 256;
  out = 769;
  bypass = 1024;
  spans = [];
  at_their_places = refl;
}

-- both have words of 32 bits
words_row : HasWords one × HasWords other
words_row = (
  record { level = omega arith; out = omega arith; high = omega arith; bypass = omega arith },
  record { level = omega arith; out = omega arith; high = omega arith; bypass = omega arith },
)

-- pin 31 may be high and out too, and there is no pin 32
all_pins_row : HasWords (record one { level = 4294967295; out = 4294967295; high = 4294967295; bypass = 4294967295 })
all_pins_row = record { level = omega arith; out = omega arith; high = omega arith; bypass = omega arith }

no_pin_row : HasWords (record one { level = 4294967296 }) → ⊥
no_pin_row has = omega (arith, has.level)

-- what is so of each number below one, checked one by one
abbrev all_below : ℕ → (ℕ → Bool) → Bool
all_below zero p = true
all_below (suc n) p = p n && all_below n p

same_or_less : (i n : ℕ) → i < suc n → (i ≡ n) ⊎ (i < n)
same_or_less i n less = grind (arith, less)

below : (n : ℕ) (p : ℕ → Bool) → all_below n p ≡ true → (i : ℕ) → i < n → p i ≡ true
below zero p h i less = absurd (omega (arith, less))
below (suc n) p h i less =
    let parts = and_parts (p n) (all_below n p) h in
    elim (same_or_less i n less) [ inl e ↦ subst (λ k. p k ≡ true) (sym e) parts.0 | inr l ↦ below n p parts.1 i l ]

clash : {b : Bool} → not b ≡ true → b ≡ true → ⊥
clash h k = cc

-- a set that has none but bits 0 and 1 asks for these alone
agree : (set x y : ℕ) → (has set 0 ≡ true → has x 0 ≡ has y 0) → has x 1 ≡ has y 1 → all_below 30 (λ j. not (has set (suc (suc j)))) ≡ true → AgreeOn 32 set x y
agree set x y at_0 at_1 others zero less set_has = at_0 set_has
agree set x y at_0 at_1 others (suc zero) less set_has = at_1
agree set x y at_0 at_1 others (suc (suc i)) less set_has = absurd (clash (below 30 (λ j. not (has set (suc (suc j)))) others i (omega (arith, less))) set_has)

-- the words at addresses 0 and 1 are the same, and the others aren't asked
same_words : (address : ℕ) → address < 32 → has 3 address ≡ true → slice_index one.memory address ≡ slice_index other.memory address
same_words zero less reached = refl
same_words (suc zero) less reached = refl
same_words (suc (suc address)) less reached = absurd (clash (below 30 (λ j. not (has 3 (suc (suc j)))) refl address (omega (arith, less))) reached)

-- to machine 0 both setups are alike, though another machine, its word and other pins differ
alike_row : AreAlikeTo 0 machine_0 touches one other
alike_row = record {
  here = refl;
  there = refl;
  words = same_words;
  level = agree 3 0 256 (λ h. refl) refl refl;
  out = agree 3 1 769 (λ h. refl) refl refl;
  high = agree 2 2 258 (λ h. refl) refl refl;
  bypass = agree 2 0 1024 (λ h. refl) refl refl;
}

-- they aren't where a word that it reaches differs, the level or the direction of its pin 0, or what drives its pin 1
word_row : AreAlikeTo 0 machine_0 touches one (record one { memory = replicate 32 0 }) → ⊥
word_row are = let e = are.words 1 (omega arith) refl in omega (arith, e)

level_row : AreAlikeTo 0 machine_0 touches one (record one { level = 1 }) → ⊥
level_row are = let e = are.level 0 (omega arith) refl in cc

out_row : AreAlikeTo 0 machine_0 touches one (record one { out = 0 }) → ⊥
out_row are = let e = are.out 0 (omega arith) refl in cc

high_row : AreAlikeTo 0 machine_0 touches one (record one { high = 0 }) → ⊥
high_row are = let e = are.high 1 (omega arith) refl in cc

bypass_row : AreAlikeTo 0 machine_0 touches one (record one { bypass = 2 }) → ⊥
bypass_row are = let e = are.bypass 1 (omega arith) refl in cc

-- Of two lines that name machine 0 or set pin 1 both are its own; those of machine 1 and of pin 0 aren't.
lines_row : own_lines 0 2
    (record { clock = 0; act = Pin 1 true } ∷ record { clock = 0; act = Pin 0 true } ∷ record { clock = 1; act = Tx 1 5 } ∷ record { clock = 2; act = Tx 0 6 } ∷ record { clock = 3; act = Restart 1 } ∷ [])
    ≡ record { clock = 0; act = Pin 1 true } ∷ record { clock = 2; act = Tx 0 6 } ∷ []
lines_row = refl

-- each kind of line that names machine 0 is
kinds_row : map (names 0 2) (Tx 0 1 ∷ Rx 0 ∷ Feed 0 1 (1 ∷ []) ∷ Drain 0 1 ∷ Enable 0 ∷ Disable 0 ∷ Restart 0 ∷ []) ≡ replicate 7 true
kinds_row = refl
