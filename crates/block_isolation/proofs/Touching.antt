-- What a machine touches: all, where it is wild; else what the words have that it reaches.
use Rattle.std.proofs.Common.{◌≡◌, ◌∙◌, ℕ, zero, suc, ◌+◌, ◌-◌, ◌<◌, ◌≤◌, Bool, true, false, cond, ◌||◌, ◌⊎◌, List, slice_index, refl, sym, ap, inl, inr, arith, bit_or}
use Rattle.std.proofs.lemmas.Bool.{cases_Bool, or_parts}
use Rattle.pin_matrix.specs.declared.machine.MachineSetup.{MachineSetup}
use Rattle.block_shares.specs.declared.touched.Touches.{Touches}
use Rattle.block_shares.specs.Acts.{has, is_wild, reads_of, sees_of, changes_of}
use Rattle.block_shares.specs.Reach.{act_at, of_first, gathered, leads_from, reach_in, reach_of, any_wild, begins_wild, runs_wild}
use Rattle.block_shares.specs.Shares.{writes_by, reads_in, sees_in, changes_in, touched_wildly, touched_within, touched_from, touched_by}
use Rattle.block_isolation.proofs.Bits.{has_ones}
use Rattle.block_isolation.proofs.Counting.{Within}
use Rattle.block_isolation.proofs.Reaching.{gathered_same, reach_grows, wild_none, wild_same}

-- neither the word that is executed first is wild nor a reached instruction
pub record IsTame (memory : List ℕ) (s : MachineSetup) : Type 0 where
  pub is : touched_by memory s ≡ touched_within memory s (reach_of memory s)
  pub first : begins_wild s.pending ≡ false
  pub tame : (a : ℕ) → a < 32 → has (reach_of memory s) a ≡ true → is_wild (act_at memory a) ≡ false

if_true : (b : Bool) (x y : Touches) → b ≡ true → cond b x y ≡ x
if_true b x y h = rw h refl

if_false : (b : Bool) (x y : Touches) → b ≡ false → cond b x y ≡ y
if_false b x y h = rw h refl

pub wild_or_tame : (memory : List ℕ) (s : MachineSetup) → (touched_by memory s ≡ touched_wildly s) ⊎ IsTame memory s
unfolding touched_by
wild_or_tame memory s =
    let set = reach_of memory s in
    elim (cases_Bool (runs_wild memory s set)) [
      | inl wild ↦ inl (if_true (runs_wild memory s set) (touched_wildly s) (touched_within memory s set) wild)
      | inr none ↦ let parts = or_parts (begins_wild s.pending) (any_wild memory set 32) none in inr (record {
        is = if_false (runs_wild memory s set) (touched_wildly s) (touched_within memory s set) none;
        first = parts.0;
        tame = λ a below inside. wild_none memory set 32 a parts.1 below inside;
      })
    ]

-- of the set that it reaches: all 32, or what the rounds got
pub reach_within : (memory : List ℕ) (s : MachineSetup) (n : ℕ) → n ≤ 32 → Within 32 (reach_in memory s n) (touched_by memory s).reach
reach_within memory s n few i inside h =
    let e : n + (32 - n) ≡ 32 = omega arith in
    let got : has (reach_of memory s) i ≡ true = ap (λ (k : ℕ). has (reach_in memory s k) i) (sym e) ∙ reach_grows memory s n (32 - n) i inside h in
    elim (wild_or_tame memory s) [
      | inl wild ↦ ap (λ (t : Touches). has t.reach i) wild ∙ has_ones 32 i inside
      | inr tame ↦ ap (λ (t : Touches). has t.reach i) tame.is ∙ got
    ]

-- its mappings are the same either way
pub writes_same : (memory : List ℕ) (s : MachineSetup) → (touched_by memory s).writes ≡ writes_by s
writes_same memory s =
    elim (wild_or_tame memory s) [
      | inl wild ↦ ap (λ (t : Touches). t.writes) wild
      | inr tame ↦ ap (λ (t : Touches). t.writes) tame.is
    ]

-- Where the words that it reaches are the same in another memory, it touches the same there.
reach_same : (memory other : List ℕ) (s : MachineSetup) → ((a : ℕ) → a < 32 → has (touched_by memory s).reach a ≡ true → slice_index memory a ≡ slice_index other a) → (n : ℕ) → n ≤ 32 → reach_in memory s n ≡ reach_in other s n
unfolding reach_in
reach_same memory other s h zero few = refl
reach_same memory other s h (suc n) few =
    let before = reach_same memory other s h n (omega arith) in
    let round : gathered (leads_from s) memory (reach_in memory s n) 32 ≡ gathered (leads_from s) other (reach_in memory s n) 32 =
    gathered_same (leads_from s) memory other (reach_in memory s n) 32 (λ a below inside. h a below (reach_within memory s n (omega arith) a below inside)) in
    ap (bit_or (reach_in memory s n)) round ∙ ap (λ (set : ℕ). bit_or set (gathered (leads_from s) other set 32)) before

pub touched_same : (memory other : List ℕ) (s : MachineSetup) → ((a : ℕ) → a < 32 → has (touched_by memory s).reach a ≡ true → slice_index memory a ≡ slice_index other a) → touched_by memory s ≡ touched_by other s
unfolding touched_by
touched_same memory other s h =
    let set = reach_of memory s in
    let agree : (a : ℕ) → a < 32 → has set a ≡ true → slice_index memory a ≡ slice_index other a = λ a below inside. h a below (reach_within memory s 32 (omega arith) a below inside) in
    let wild : runs_wild memory s set ≡ runs_wild other s set = ap (λ (b : Bool). begins_wild s.pending || b) (wild_same memory other set 32 agree) in
    let reads : reads_in memory s set 32 ≡ reads_in other s set 32 = gathered_same (λ a act. reads_of act s) memory other set 32 agree in
    let sees : sees_in memory s set 32 ≡ sees_in other s set 32 = gathered_same (λ a act. sees_of act s) memory other set 32 agree in
    let changes : changes_in memory s set 32 ≡ changes_in other s set 32 = gathered_same (λ a act. changes_of act s) memory other set 32 agree in
    let within : touched_within memory s set ≡ touched_within other s set = cc in
    ap (λ (b : Bool). cond b (touched_wildly s) (touched_within memory s set)) wild
    ∙ ap (λ (t : Touches). cond (runs_wild other s set) (touched_wildly s) t) within
    ∙ ap (touched_from other s) (reach_same memory other s h 32 (omega arith))
