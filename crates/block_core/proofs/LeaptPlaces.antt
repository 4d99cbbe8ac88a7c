-- When the machines of four places next stir over given pads, and what they are until then.
use Rattle.std.proofs.Common.{◌≡◌, ℕ, ◌+◌, ◌==◌, Bool, true, false, not, ◌&&◌, ◌||◌, ◌↔◌, IsTrue, Option, Some, None, List, refl, ap, ◌∙◌, sym, subst, arith}
use Rattle.std.proofs.lemmas.Bool.Decides.{nat_tests}
use Rattle.std.proofs.lemmas.Bool.{or_parts}
use Rattle.pin_matrix.specs.Pads.{Synchroniser, seen_of}
use Rattle.sm_registers.specs.View.{View}
use Rattle.dreq_pacing.specs.Due.{quiet}
use Rattle.dreq_pacing.specs.Ports.{IsFirst}
use Rattle.block_core.specs.Block.{Run}
use Rattle.block_core.specs.Kept.{IsInStep}
use Rattle.block_core.specs.Leaps.{leapt_place, leapt, stirs_after}
use Rattle.block_core.specs.Slots.{Slot}
use Rattle.block_core.specs.Stirring.{machines_stir_over}
use Rattle.block_core.proofs.Firsts.{first_same}
use Rattle.block_core.proofs.LeaptRun.{pads_same}
use Rattle.block_core.proofs.MergedWants.{join, view, run}

-- some clocks on, one of the four stirs
any_stirs : (memory : List ℕ) (clock levels directions flags outside : ℕ) (sync : Synchroniser) (a b c e : Option Slot) (pad : ℕ) (v : View) → v ≡ view memory (seen_of sync.bypass pad sync.pad_2) flags → (t : Bool) (n : ℕ) → (t || machines_stir_over pad quiet (leapt n (run memory clock levels directions flags outside sync a b c e))) ≡ ((((t || stirs_after v a n) || stirs_after v b n) || stirs_after v c n) || stirs_after v e n)
unfolding leapt
any_stirs memory clock levels directions flags outside sync a b c e pad v sees t n =
    subst (λ (w : View). (t || machines_stir_over pad quiet (leapt n (run memory clock levels directions flags outside sync a b c e))) ≡ ((((t || stirs_after w a n) || stirs_after w b n) || stirs_after w c n) || stirs_after w e n)) (sym sees)
    (let v = view memory (seen_of sync.bypass pad sync.pad_2) flags in join t (stirs_after v a n) (stirs_after v b n) (stirs_after v c n) (stirs_after v e n))

pub first_stirs : (memory : List ℕ) (clock levels directions flags outside : ℕ) (sync : Synchroniser) (a b c e : Option Slot) (pad : ℕ) (test : ℕ → Bool) (result : Option ℕ) (r : Run) (v : View) → run memory clock levels directions flags outside sync a b c e ≡ r → v ≡ view memory (seen_of sync.bypass pad sync.pad_2) flags → IsFirst (λ n. (((test n || stirs_after v a n) || stirs_after v b n) || stirs_after v c n) || stirs_after v e n) 0 result → IsFirst (λ n. test n || machines_stir_over pad quiet (leapt n r)) 0 result
first_stirs memory clock levels directions flags outside sync a b c e pad test result r v is sees h =
    subst (λ (r : Run). IsFirst (λ n. test n || machines_stir_over pad quiet (leapt n r)) 0 result) is
    (first_same _ (λ n. test n || machines_stir_over pad quiet (leapt n (run memory clock levels directions flags outside sync a b c e))) result
    (λ n. any_stirs memory clock levels directions flags outside sync a b c e pad v sees (test n) n) h)

-- some clocks on, none of the four stirs
pub record AreCalm (v : View) (a b c e : Option Slot) (n : ℕ) : Type 0 where
  pub first : stirs_after v a n ≡ false
  pub second : stirs_after v b n ≡ false
  pub third : stirs_after v c n ≡ false
  pub fourth : stirs_after v e n ≡ false

parted : (v : View) (a b c e : Option Slot) (n : ℕ) → (stirs_after v a n || (stirs_after v b n || (stirs_after v c n || (stirs_after v e n || false)))) ≡ false → AreCalm v a b c e n
parted v a b c e n h =
    let one = or_parts (stirs_after v a n) _ h in
    let two = or_parts (stirs_after v b n) _ one.1 in
    let three = or_parts (stirs_after v c n) _ two.1 in
    record { first = one.0; second = two.0; third = three.0; fourth = (or_parts (stirs_after v e n) false three.1).0 }

pub are_calm : (memory : List ℕ) (clock levels directions flags outside : ℕ) (sync : Synchroniser) (a b c e : Option Slot) (pad n : ℕ) (r : Run) (v : View) → run memory clock levels directions flags outside sync a b c e ≡ r → v ≡ view memory (seen_of sync.bypass pad sync.pad_2) flags → machines_stir_over pad quiet (leapt n r) ≡ false → AreCalm v a b c e n
unfolding leapt
are_calm memory clock levels directions flags outside sync a b c e pad n r v is sees h =
    subst (λ (w : View). AreCalm w a b c e n) (sym sees)
    (parted (view memory (seen_of sync.bypass pad sync.pad_2) flags) a b c e n (ap (λ (r : Run). machines_stir_over pad quiet (leapt n r)) is ∙ h))

-- the four after clocks in which they rest
pub leapt_run : (memory : List ℕ) (clock levels directions flags outside : ℕ) (sync : Synchroniser) (a b c e a2 b2 c2 e2 : Option Slot) (n : ℕ) → a2 ≡ leapt_place n a → b2 ≡ leapt_place n b → c2 ≡ leapt_place n c → e2 ≡ leapt_place n e → run memory (clock + n) levels directions flags outside sync a2 b2 c2 e2 ≡ leapt n (run memory clock levels directions flags outside sync a b c e)
unfolding leapt
leapt_run memory clock levels directions flags outside sync a b c e a2 b2 c2 e2 n ea eb ec ee = rw (ea, eb, ec, ee) refl

-- that the pads change
abbrev pub unsettled : (pad : ℕ) → Synchroniser → Bool
unsettled pad sync = not ((pad == sync.pad_1) && (pad == sync.pad_2))

-- the test of the synchronisers
is_settled : (pad a b : ℕ) → (pad ≡ a) × (pad ≡ b) → not ((pad == a) && (pad == b)) ≡ false
is_settled pad a b h =
    let first : (pad == a) ≡ true = let e = h.0 in grind (arith, nat_tests) in
    let second : (pad == b) ≡ true = let e = h.1 in grind (arith, nat_tests) in
    rw (first, second) refl

pub not_settled : (settled : Bool) (pad : ℕ) (sync : Synchroniser) → IsTrue settled ↔ ((pad ≡ sync.pad_1) × (pad ≡ sync.pad_2)) → not settled ≡ unsettled pad sync
not_settled true pad sync test = sym (is_settled pad sync.pad_1 sync.pad_2 (test.0 refl))
not_settled false pad sync test = elim (unsettled pad sync) as (λ b. unsettled pad sync ≡ b → true ≡ b) [
  | true ↦ λ e. refl
  | false ↦ λ e. let t : false ≡ true = test.1 (pads_same pad sync.pad_1 sync.pad_2 e) in cc
] refl

-- its places stay in step
pub in_step_leapt : (clock n : ℕ) (s t : Option Slot) → IsInStep clock s → t ≡ leapt_place n s → IsInStep (clock + n) t
in_step_leapt clock n s t h e = subst (IsInStep (clock + n)) (sym e) (leaps_in_step s h) where
  leaps_in_step : (s : Option Slot) → IsInStep clock s → IsInStep (clock + n) (leapt_place n s)
  leaps_in_step None h = tt
  leaps_in_step (Some s) h = (ap (λ c. c + n) h.0, omega (arith, h.1), omega (arith, h.2))
