-- A line with a word other than `feed` is the line of its fields' numbers.
use Rattle.std.proofs.Common.{◌≡◌, ℕ, ◌≤◌, ◌-◌, suc, ◌&&◌, cond, min, length, Bool, true, false, Option, Some, None, List, [], ◌∷◌, Result, Err, refl, sym, ap, ◌∙◌, arith}
use Rattle.std.specs.Prelude.{option_map, option_and_then, is_some}
use Rattle.dreq_pacing.specs.declared.fault.StimKind.{StimKind}
use Rattle.dreq_pacing.specs.declared.fault.StimKind.TheVariants.{BadLine}
use Rattle.dreq_pacing.specs.declared.verb.Verb.{Verb}
use Rattle.dreq_pacing.specs.declared.verb.Verb.TheVariants.{Pin, Tx, Rx, Feed, Drain, Enable, Disable, Restart}
use Rattle.dreq_pacing.specs.declared.line.Line.{Line}
use Rattle.dreq_pacing.specs.declared.line.LineAct.{LineAct}
use Rattle.dreq_pacing.specs.Lines.{last_clock}
use Rattle.dreq_pacing.specs.Number.{number_of, capped, within, is_number}
use Rattle.dreq_pacing.specs.Form.{fits, act_of, are_numbers, line_by, ranged}
use Rattle.dreq_pacing.specs.Short.{capped_of, machine_of, one_or_two, short_act, short_line}
use Rattle.dreq_pacing.proofs.Numbers.{within_capped}

machine-capped : (machines : ℕ) (o : Option ℕ) → machines ≤ 255 → machine_of machines (option_map capped o) ≡ machine_of machines o
machine-capped machines o le = within_capped 0 (machines - 1) o (omega arith)

-- a number past every range says what a greater one would
act-capped : (machines : ℕ) (verb : Verb) (a b : Option ℕ) → machines ≤ 255 → short_act machines verb (option_map capped a) (option_map capped b) ≡ short_act machines verb a b
act-capped machines Pin a b le = rw (within_capped 0 31 a (omega arith), within_capped 0 1 b (omega arith)) refl
act-capped machines Tx a b le = rw (machine-capped machines a le, within_capped 0 4294967295 b (omega arith)) refl
act-capped machines Rx a b le = rw (machine-capped machines a le) refl
act-capped machines Feed a b le = refl
act-capped machines Drain a b le = rw (machine-capped machines a le, within_capped 1 1000000 b (omega arith)) refl
act-capped machines Enable a b le = rw (machine-capped machines a le) refl
act-capped machines Disable a b le = rw (machine-capped machines a le) refl
act-capped machines Restart a b le = rw (machine-capped machines a le) refl

-- the line, by whether there are as many numbers as the word wants
said : Bool → Bool → Bool → Option ℕ → Option LineAct → Result Line StimKind
said clock fit numbers c what = cond (clock && (fit && numbers)) (ranged c what) (Err BadLine)

not-clock : (fit numbers : Bool) (c : Option ℕ) (what : Option LineAct) → said false fit numbers c what ≡ Err BadLine
unfolding said
not-clock fit numbers c what = refl

not-fit : (clock numbers : Bool) (c : Option ℕ) (what : Option LineAct) → said clock false numbers c what ≡ Err BadLine
unfolding said
not-fit true numbers c what = refl
not-fit false numbers c what = refl

not-numbers : (clock fit : Bool) (c : Option ℕ) (what : Option LineAct) → said clock fit false c what ≡ Err BadLine
unfolding said
not-numbers true true c what = refl
not-numbers true false c what = refl
not-numbers false true c what = refl
not-numbers false false c what = refl

good : (fit : Bool) (c d : Option ℕ) (v w : Option LineAct) → c ≡ d → v ≡ w → cond fit (ranged c v) (Err BadLine) ≡ said true fit true d w
unfolding said
good true c d v w p q = ap (λ (o : Option ℕ). ranged o v) p ∙ ap (λ (o : Option LineAct). ranged d o) q
good false c d v w p q = refl

-- the line of one field
one : (machines : ℕ) (verb : Verb) (c a : Option ℕ) → machines ≤ 255 → short_line machines verb (option_map capped c) (option_and_then (λ first. Some (first, None)) (option_map capped a)) ≡ said (is_some c) (fits verb 1) (is_some a && true) (within 0 last_clock c) (short_act machines verb a None)
one machines verb None a le = sym (not-clock (fits verb 1) (is_some a && true) (within 0 last_clock None) (short_act machines verb a None))
one machines verb (Some c) None le = sym (not-numbers true (fits verb 1) (within 0 last_clock (Some c)) (short_act machines verb None None))
one machines verb (Some c) (Some a) le = good (fits verb 1) _ _ _ _ (within_capped 0 last_clock (Some c) (omega arith)) (act-capped machines verb (Some a) None le)

-- the line of two fields
two : (machines : ℕ) (verb : Verb) (c a b : Option ℕ) → machines ≤ 255 → short_line machines verb (option_map capped c) (option_and_then (λ first. option_and_then (λ second. Some (first, Some second)) (option_map capped b)) (option_map capped a)) ≡ said (is_some c) (fits verb 2) (is_some a && (is_some b && true)) (within 0 last_clock c) (short_act machines verb a b)
two machines verb None a b le = sym (not-clock (fits verb 2) (is_some a && (is_some b && true)) (within 0 last_clock None) (short_act machines verb a b))
two machines verb (Some c) None b le = sym (not-numbers true (fits verb 2) (within 0 last_clock (Some c)) (short_act machines verb None b))
two machines verb (Some c) (Some a) None le = sym (not-numbers true (fits verb 2) (within 0 last_clock (Some c)) (short_act machines verb (Some a) None))
two machines verb (Some c) (Some a) (Some b) le = good (fits verb 2) _ _ _ _ (within_capped 0 last_clock (Some c) (omega arith)) (act-capped machines verb (Some a) (Some b) le)

-- the line of no field, or of more than two
other : (machines : ℕ) (verb : Verb) (c : Option ℕ) → short_line machines verb c None ≡ Err BadLine
other machines verb None = refl
other machines verb (Some c) = refl

fits-none : (verb : Verb) → fits verb 0 ≡ false
fits-none Pin = refl
fits-none Tx = refl
fits-none Rx = refl
fits-none Feed = refl
fits-none Drain = refl
fits-none Enable = refl
fits-none Disable = refl
fits-none Restart = refl

not-fitting : (clock numbers fit : Bool) (c : Option ℕ) (what : Option LineAct) → fit ≡ false → said clock fit numbers c what ≡ Err BadLine
not-fitting clock numbers fit c what e = ap (λ (t : Bool). said clock t numbers c what) e ∙ not-fit clock numbers c what

act-one : (machines : ℕ) (verb : Verb) (a : List ℕ) → fits verb 3 ≡ false → short_act machines verb (number_of a) None ≡ act_of machines verb (a ∷ [])
act-one machines Pin a e = refl
act-one machines Tx a e = refl
act-one machines Rx a e = refl
act-one machines Feed a e = absurd (cc)
act-one machines Drain a e = refl
act-one machines Enable a e = refl
act-one machines Disable a e = refl
act-one machines Restart a e = refl

act-two : (machines : ℕ) (verb : Verb) (a b : List ℕ) → fits verb 3 ≡ false → short_act machines verb (number_of a) (number_of b) ≡ act_of machines verb (a ∷ b ∷ [])
act-two machines Pin a b e = refl
act-two machines Tx a b e = refl
act-two machines Rx a b e = refl
act-two machines Feed a b e = absurd (cc)
act-two machines Drain a b e = refl
act-two machines Enable a b e = refl
act-two machines Disable a b e = refl
act-two machines Restart a b e = refl

three-fit : (verb : Verb) (n : ℕ) → fits verb 3 ≡ false → fits verb (min (suc (suc (suc n))) 3) ≡ false
three-fit verb n e = let three : min (suc (suc (suc n))) 3 ≡ 3 = omega arith in ap (fits verb) three ∙ e

-- the line of a word other than `feed`
pub short_is : (machines : ℕ) (verb : Verb) (clock : List ℕ) (args : List (List ℕ)) → machines ≤ 255 → fits verb 3 ≡ false → short_line machines verb (capped_of clock) (one_or_two args) ≡ line_by machines verb clock args
unfolding said
short_is machines verb clock [] le e =
    other machines verb (capped_of clock)
    ∙ sym (not-fitting (is_number clock) true (fits verb 0) (within 0 last_clock (number_of clock)) (act_of machines verb []) (fits-none verb))
short_is machines verb clock (a ∷ []) le e =
    one machines verb (number_of clock) (number_of a) le
    ∙ ap (λ (w : Option LineAct). said (is_number clock) (fits verb 1) (is_number a && true) (within 0 last_clock (number_of clock)) w) (act-one machines verb a e)
short_is machines verb clock (a ∷ b ∷ []) le e =
    two machines verb (number_of clock) (number_of a) (number_of b) le
    ∙ ap (λ (w : Option LineAct). said (is_number clock) (fits verb 2) (is_number a && (is_number b && true)) (within 0 last_clock (number_of clock)) w) (act-two machines verb a b e)
short_is machines verb clock (a ∷ b ∷ c ∷ more) le e =
    other machines verb (capped_of clock)
    ∙ sym (not-fitting (is_number clock) (are_numbers (a ∷ b ∷ c ∷ more)) (fits verb (min (length (a ∷ b ∷ c ∷ more)) 3)) (within 0 last_clock (number_of clock)) (act_of machines verb (a ∷ b ∷ c ∷ more)) (three-fit verb (length more) e))
