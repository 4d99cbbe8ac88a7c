-- What words as the usage has them ask for.
use Rattle.std.proofs.Common.{◌≡◌, ◌≢◌, ◌∙◌, ◌≤◌, ◌^◌, ◌==◌, ◌&&◌, zero, suc, ℕ, Bool, true, false, not, List, [], ◌∷◌, Option, None, Some, refl, ap, arith, inl, inr, nat_lt, length, leb-true, if◌then◌else◌}
use Rattle.std.specs.Prelude.{min, max, nat_le}
use Rattle.std.specs.List.{list_all}
use Rattle.std.specs.Char.{digit_value}
use Rattle.std.specs.Str.Parse.{without_leading_plus}
use Rattle.clap.specs.Walk.{Text}
use Rattle.clap.specs.Takes.{takes}
use Rattle.clap.specs.Faults.{fault_of}
use Rattle.clap.specs.Kinds.{Kinds, or_else}
use Rattle.clap.specs.ValueTests.{is_unsigned_in, is_numeral}
use Rattle.clap.specs.declared.error.kind.ErrorKind.TheVariants as kind
use Rattle.clap.proofs.OnLiterals.{clap_on_literals}
use Rattle.clap.proofs.WalkLemmas.{both}
use Rattle.command_line.specs.Tool.{bit_limit, clock_limit, divider_limit, least_bit, least_divider, pin_limit, seed_limit, side_limit, tool}
use Rattle.command_line.specs.Words.{Asked, WordsAreTaken, asm, run, check, table, recheck, shares, gen, dis, measure, receive, uart, pair, inspect, asked_of, number_in, has_no_room}
use Rattle.command_line.specs.Laws.{number_of, asm_words, run_words, check_words, table_words, recheck_words, shares_words, gen_words, dis_words, measure_words, receive_words, uart_words, pair_words, inspect_words, AskWhere, AsmWords, RunWords, CheckWords, TableWords, RecheckWords, SharesWords, GenWords, DisWords, MeasureWords, ReceiveWords, UartWords, PairWords, InspectWords}

-- ---- a number in range

-- the number that is read, and its ends
pub record Reads (low most : ℕ) (text : Text) : Type 0 where
  pub same : number_in text ≡ number_of text
  pub least : low ≤ number_of text
  pub greatest : number_of text ≤ most

pub in_range : (low most : ℕ) (text : Text) → is_unsigned_in low most text ≡ true → Reads low most text
in_range low most text e =
    let digits = without_leading_plus text in
    let n = number_of text in
    let outer = both (is_numeral digits) (nat_lt n (2 ^ 64) && (nat_le low n && nat_le n most)) e in
    let numeral = both (nat_lt 0 (length digits)) (list_all (λ d. nat_lt (digit_value d) 10) digits) outer.0 in
    let inner = both (nat_lt n (2 ^ 64)) (nat_le low n && nat_le n most) outer.1 in
    let ends = both (nat_le low n) (nat_le n most) inner.1 in
    record { same = rw (numeral.0, numeral.1, inner.0) refl; least = leb-true _ _ ends.0; greatest = leb-true _ _ ends.1 }

pub range_read : (most : ℕ) (text : Text) → is_unsigned_in 0 most text ≡ true → min (number_in text) most ≡ number_of text
range_read most text e = let r = in_range 0 most text e in let below = r.greatest in rw r.same (omega (arith, below))

bit_read : (text : Text) → is_unsigned_in least_bit bit_limit text ≡ true → max (min (number_in text) bit_limit) least_bit ≡ number_of text
bit_read text e =
    let r = in_range least_bit bit_limit text e in
    let below = r.greatest in
    let above = r.least in
    rw r.same (omega (arith, above, below))

divider_read : (text : Text) → is_unsigned_in least_divider divider_limit text ≡ true
    → max (min (number_in text) divider_limit) least_divider ≡ number_of text
divider_read text e =
    let r = in_range least_divider divider_limit text e in
    let below = r.greatest in
    let above = r.least in
    rw r.same (omega (arith, below, above))

-- ---- run

run_asks : (name source : Text) (config stimulus : Option Text) (clocks : Text)
    → asked_of (run_words name source config stimulus clocks) ≡ Some (run source config stimulus (min (number_in clocks) clock_limit))
unfolding clap_on_literals tool asked_of
run_asks name source None None clocks = refl
run_asks name source None (Some stimulus) clocks = refl
run_asks name source (Some config) None clocks = refl
run_asks name source (Some config) (Some stimulus) clocks = refl

-- the test of the number, and the tests of five arguments that pass
with_the_others : (in_range : Bool) → in_range ≡ true → (in_range && true && true && true && true && true) ≡ true
with_the_others true e = refl
with_the_others false e = e

run_takes : (name source : Text) (config stimulus : Option Text) (clocks : Text) → is_unsigned_in 0 clock_limit clocks ≡ true
    → takes tool (run_words name source config stimulus clocks) ≡ true
unfolding clap_on_literals tool
run_takes name source None None clocks e = with_the_others _ e
run_takes name source None (Some stimulus) clocks e = with_the_others _ e
run_takes name source (Some config) None clocks e = with_the_others _ e
run_takes name source (Some config) (Some stimulus) clocks e = with_the_others _ e

-- kinds with nothing after them, at so many levels
within : ℕ → Kinds → Kinds
within zero kinds = kinds
within (suc n) kinds = or_else (within n kinds) []

within_is : (n : ℕ) (kinds : Kinds) → within n kinds ≡ kinds
unfolding within
within_is zero kinds = refl
within_is (suc n) kinds = nothing_more (within n kinds) ∙ within_is n kinds
  where
    nothing_more : (ks : Kinds) → or_else ks [] ≡ ks
    nothing_more [] = refl
    nothing_more (k ∷ ks) = refl

-- the fault of a number, by its test
abbrev fault_where : Bool → Kinds
fault_where in_range = if in_range then [] else kind.ValueValidation ∷ []

-- the words have no fault but the number's, which clap's definition meets five levels down
run_computes : (name source : Text) (config stimulus : Option Text) (clocks : Text)
    → fault_of tool (run_words name source config stimulus clocks) ≡ within 5 (fault_where (is_unsigned_in 0 clock_limit clocks))
unfolding clap_on_literals tool within
run_computes name source None None clocks = refl
run_computes name source None (Some stimulus) clocks = refl
run_computes name source (Some config) None clocks = refl
run_computes name source (Some config) (Some stimulus) clocks = refl

run_fault : (name source : Text) (config stimulus : Option Text) (clocks : Text) (b : Bool) → is_unsigned_in 0 clock_limit clocks ≡ b
    → fault_of tool (run_words name source config stimulus clocks) ≡ fault_where b
run_fault name source config stimulus clocks b e = run_computes name source config stimulus clocks ∙ within_is 5 _ ∙ ap fault_where e

not_empty : (kinds : Kinds) → kinds ≡ kind.ValueValidation ∷ [] → kinds ≢ []
not_empty kinds one none = cc

taken_by : (words : List Text) (a : Asked) → takes tool words ≡ true → asked_of words ≡ Some a → has_no_room a ≡ false → WordsAreTaken words
taken_by words a taken asked room = record { takes = taken; room = λ b is. cc }

pub run_words_law : RunWords
run_words_law name source config stimulus clocks = go (is_unsigned_in 0 clock_limit clocks) refl
  where
    go : (b : Bool) → is_unsigned_in 0 clock_limit clocks ≡ b
        → AskWhere b (run_words name source config stimulus clocks) (run source config stimulus (number_of clocks))
    go true e =
        let asked = run_asks name source config stimulus clocks ∙ ap (λ n. Some (run source config stimulus n)) (range_read clock_limit clocks e) in
        let takes = run_takes name source config stimulus clocks e in
        (taken_by _ _ takes asked refl, record { taken = run_fault name source config stimulus clocks true e; asked = asked })
    go false e = inl (not_empty _ (run_fault name source config stimulus clocks false e))

-- ---- gen

gen_asks : (name seed clocks : Text)
    → asked_of (gen_words name seed clocks) ≡ Some (gen (min (number_in seed) seed_limit) (min (number_in clocks) clock_limit))
unfolding clap_on_literals tool asked_of
gen_asks name seed clocks = refl

-- the tests of two numbers, among tests that pass
both_tests : (s t : Bool) → s ≡ true → t ≡ true → ((((s && true) && true) && (((t && true) && true) && true)) && true && true) ≡ true
both_tests true true e f = refl
both_tests true false e f = f
both_tests false t e f = e

gen_takes : (name seed clocks : Text) → is_unsigned_in 0 seed_limit seed ≡ true → is_unsigned_in 0 clock_limit clocks ≡ true
    → takes tool (gen_words name seed clocks) ≡ true
unfolding clap_on_literals tool
gen_takes name seed clocks e f = both_tests _ _ e f

-- the first fault of the two numbers, where clap's definition meets it
first_of_both : Bool → Bool → Kinds
first_of_both s t = within 2 (or_else (within 2 (fault_where s)) (within 3 (fault_where t)))

gen_computes : (name seed clocks : Text) → fault_of tool (gen_words name seed clocks)
    ≡ first_of_both (is_unsigned_in 0 seed_limit seed) (is_unsigned_in 0 clock_limit clocks)
unfolding clap_on_literals tool within first_of_both
gen_computes name seed clocks = refl

first_is : (s t : Bool) → first_of_both s t ≡ fault_where (s && t)
unfolding within first_of_both
first_is true true = refl
first_is true false = refl
first_is false t = refl

gen_fault : (name seed clocks : Text) (s t : Bool) → is_unsigned_in 0 seed_limit seed ≡ s → is_unsigned_in 0 clock_limit clocks ≡ t
    → fault_of tool (gen_words name seed clocks) ≡ fault_where (s && t)
gen_fault name seed clocks s t e f =
    gen_computes name seed clocks ∙ ap (λ b. first_of_both b (is_unsigned_in 0 clock_limit clocks)) e ∙ ap (first_of_both s) f ∙ first_is s t

pub gen_words_law : GenWords
gen_words_law name seed clocks = go (is_unsigned_in 0 seed_limit seed) (is_unsigned_in 0 clock_limit clocks) refl refl
  where
    go : (s t : Bool) → is_unsigned_in 0 seed_limit seed ≡ s → is_unsigned_in 0 clock_limit clocks ≡ t
        → AskWhere (s && t) (gen_words name seed clocks) (gen (number_of seed) (number_of clocks))
    go true true e f =
        let asked = gen_asks name seed clocks ∙ ap (λ k. Some (gen k (min (number_in clocks) clock_limit))) (range_read seed_limit seed e)
        ∙ ap (λ n. Some (gen (number_of seed) n)) (range_read clock_limit clocks f) in
        (taken_by _ _ (gen_takes name seed clocks e f) asked refl, record { taken = gen_fault name seed clocks true true e f; asked = asked })
    go true false e f = inl (not_empty _ (gen_fault name seed clocks true false e f))
    go false t e f = inl (not_empty _ (gen_fault name seed clocks false t e f))

-- what clap's definition gives for words
record Gives (words : List Text) (a : Asked) : Type 0 where
  asked : asked_of words ≡ Some a
  takes : takes tool words ≡ true
  passes : fault_of tool words ≡ []

-- ---- asm

asm_gives : (name file : Text) → Gives (asm_words name file) (asm file)
unfolding clap_on_literals tool asked_of
asm_gives name file = record { asked = refl; takes = refl; passes = refl }

pub asm_words_law : AsmWords
asm_words_law name file =
    let g = asm_gives name file in
    (taken_by _ _ g.takes g.asked refl, record { taken = g.passes; asked = g.asked })

-- ---- check

check_gives : (name source : Text) (config : Option Text) → Gives (check_words name source config) (check source config)
unfolding clap_on_literals tool asked_of
check_gives name source None = record { asked = refl; takes = refl; passes = refl }
check_gives name source (Some config) = record { asked = refl; takes = refl; passes = refl }

pub check_words_law : CheckWords
check_words_law name source config =
    let g = check_gives name source config in
    (taken_by _ _ g.takes g.asked refl, record { taken = g.passes; asked = g.asked })

-- ---- table

table_gives : (name source : Text) (config : Option Text) (span : Text)
    → Gives (table_words name source config span) (table source config span)
unfolding clap_on_literals tool asked_of
table_gives name source None span = record { asked = refl; takes = refl; passes = refl }
table_gives name source (Some config) span = record { asked = refl; takes = refl; passes = refl }

pub table_words_law : TableWords
table_words_law name source config span =
    let g = table_gives name source config span in
    (taken_by _ _ g.takes g.asked refl, record { taken = g.passes; asked = g.asked })

-- ---- recheck

recheck_gives : (name source : Text) (config : Option Text) (span file : Text)
    → Gives (recheck_words name source config span file) (recheck source config span file)
unfolding clap_on_literals tool asked_of
recheck_gives name source None span file = record { asked = refl; takes = refl; passes = refl }
recheck_gives name source (Some config) span file = record { asked = refl; takes = refl; passes = refl }

pub recheck_words_law : RecheckWords
recheck_words_law name source config span file =
    let g = recheck_gives name source config span file in
    (taken_by _ _ g.takes g.asked refl, record { taken = g.passes; asked = g.asked })

-- ---- shares

shares_gives : (name source : Text) (config : Option Text) → Gives (shares_words name source config) (shares source config)
unfolding clap_on_literals tool asked_of
shares_gives name source None = record { asked = refl; takes = refl; passes = refl }
shares_gives name source (Some config) = record { asked = refl; takes = refl; passes = refl }

pub shares_words_law : SharesWords
shares_words_law name source config =
    let g = shares_gives name source config in
    (taken_by _ _ g.takes g.asked refl, record { taken = g.passes; asked = g.asked })

-- ---- dis

dis_gives : (name file : Text) (side : ℕ) (opt : Bool) → side ≤ side_limit → Gives (dis_words name file side opt) (dis file side opt)
unfolding clap_on_literals tool asked_of
dis_gives name file zero true h = record { asked = refl; takes = refl; passes = refl }
dis_gives name file zero false h = record { asked = refl; takes = refl; passes = refl }
dis_gives name file (suc zero) true h = record { asked = refl; takes = refl; passes = refl }
dis_gives name file (suc zero) false h = record { asked = refl; takes = refl; passes = refl }
dis_gives name file (suc (suc zero)) true h = record { asked = refl; takes = refl; passes = refl }
dis_gives name file (suc (suc zero)) false h = record { asked = refl; takes = refl; passes = refl }
dis_gives name file (suc (suc (suc zero))) true h = record { asked = refl; takes = refl; passes = refl }
dis_gives name file (suc (suc (suc zero))) false h = record { asked = refl; takes = refl; passes = refl }
dis_gives name file (suc (suc (suc (suc zero)))) true h = record { asked = refl; takes = refl; passes = refl }
dis_gives name file (suc (suc (suc (suc zero)))) false h = record { asked = refl; takes = refl; passes = refl }
dis_gives name file (suc (suc (suc (suc (suc zero))))) true h = record { asked = refl; takes = refl; passes = refl }
dis_gives name file (suc (suc (suc (suc (suc zero))))) false h = record { asked = refl; takes = refl; passes = refl }
dis_gives name file (suc (suc (suc (suc (suc (suc side)))))) opt h = absurd (omega arith)

pub dis_words_law : DisWords
dis_words_law name file side opt h = go (side == side_limit && opt) refl (dis_gives name file side opt h)
  where
    go : (full : Bool) → (side == side_limit && opt) ≡ full → Gives (dis_words name file side opt) (dis file side opt)
        → AskWhere (not full) (dis_words name file side opt) (dis file side opt)
    go true e g = inr (dis file side opt, record { taken = g.passes; asked = g.asked }, e)
    go false e g = (taken_by _ _ g.takes g.asked e, record { taken = g.passes; asked = g.asked })

-- ---- measure

measure_asks : (name source : Text) (config stimulus : Option Text) (clocks : Text)
    → asked_of (measure_words name source config stimulus clocks) ≡ Some (measure source config stimulus (min (number_in clocks) clock_limit))
unfolding clap_on_literals tool asked_of
measure_asks name source None None clocks = refl
measure_asks name source None (Some stimulus) clocks = refl
measure_asks name source (Some config) None clocks = refl
measure_asks name source (Some config) (Some stimulus) clocks = refl

measure_takes : (name source : Text) (config stimulus : Option Text) (clocks : Text) → is_unsigned_in 0 clock_limit clocks ≡ true
    → takes tool (measure_words name source config stimulus clocks) ≡ true
unfolding clap_on_literals tool
measure_takes name source None None clocks e = with_the_others _ e
measure_takes name source None (Some stimulus) clocks e = with_the_others _ e
measure_takes name source (Some config) None clocks e = with_the_others _ e
measure_takes name source (Some config) (Some stimulus) clocks e = with_the_others _ e

measure_computes : (name source : Text) (config stimulus : Option Text) (clocks : Text)
    → fault_of tool (measure_words name source config stimulus clocks) ≡ within 5 (fault_where (is_unsigned_in 0 clock_limit clocks))
unfolding clap_on_literals tool within
measure_computes name source None None clocks = refl
measure_computes name source None (Some stimulus) clocks = refl
measure_computes name source (Some config) None clocks = refl
measure_computes name source (Some config) (Some stimulus) clocks = refl

measure_fault : (name source : Text) (config stimulus : Option Text) (clocks : Text) (b : Bool) → is_unsigned_in 0 clock_limit clocks ≡ b
    → fault_of tool (measure_words name source config stimulus clocks) ≡ fault_where b
measure_fault name source config stimulus clocks b e =
    measure_computes name source config stimulus clocks ∙ within_is 5 _ ∙ ap fault_where e

pub measure_words_law : MeasureWords
measure_words_law name source config stimulus clocks = go (is_unsigned_in 0 clock_limit clocks) refl
  where
    go : (b : Bool) → is_unsigned_in 0 clock_limit clocks ≡ b
        → AskWhere b (measure_words name source config stimulus clocks) (measure source config stimulus (number_of clocks))
    go true e =
        let asked = measure_asks name source config stimulus clocks
        ∙ ap (λ n. Some (measure source config stimulus n)) (range_read clock_limit clocks e) in
        let takes = measure_takes name source config stimulus clocks e in
        (taken_by _ _ takes asked refl, record { taken = measure_fault name source config stimulus clocks true e; asked = asked })
    go false e = inl (not_empty _ (measure_fault name source config stimulus clocks false e))

-- ---- receive

receive_asks : (name source : Text) (config stimulus : Option Text) (clocks pin bit : Text)
    → asked_of (receive_words name source config stimulus clocks pin bit)
    ≡ Some (receive source config stimulus (min (number_in clocks) clock_limit) (min (number_in pin) pin_limit)
    (max (min (number_in bit) bit_limit) least_bit))
unfolding clap_on_literals tool asked_of
receive_asks name source None None clocks pin bit = refl
receive_asks name source None (Some stimulus) clocks pin bit = refl
receive_asks name source (Some config) None clocks pin bit = refl
receive_asks name source (Some config) (Some stimulus) clocks pin bit = refl

-- the tests of three numbers, among tests that pass
three_tests : (c p b : Bool) → c ≡ true → p ≡ true → b ≡ true
    → ((((c && true) && true) && (((p && true) && true) && (((b && true) && true) && true))) && true && true) ≡ true
three_tests true true true e f g = refl
three_tests true true false e f g = g
three_tests true false b e f g = f
three_tests false p b e f g = e

receive_takes : (name source : Text) (config stimulus : Option Text) (clocks pin bit : Text) → is_unsigned_in 0 clock_limit clocks ≡ true
    → is_unsigned_in 0 pin_limit pin ≡ true → is_unsigned_in least_bit bit_limit bit ≡ true
    → takes tool (receive_words name source config stimulus clocks pin bit) ≡ true
unfolding clap_on_literals tool
receive_takes name source None None clocks pin bit e f g = three_tests _ _ _ e f g
receive_takes name source None (Some stimulus) clocks pin bit e f g = three_tests _ _ _ e f g
receive_takes name source (Some config) None clocks pin bit e f g = three_tests _ _ _ e f g
receive_takes name source (Some config) (Some stimulus) clocks pin bit e f g = three_tests _ _ _ e f g

-- the first fault of the three numbers, where clap's definition meets it
first_of_three : Bool → Bool → Bool → Kinds
first_of_three c p b = within 2 (or_else (within 2 (fault_where c)) (or_else (within 2 (fault_where p)) (within 3 (fault_where b))))

receive_computes : (name source : Text) (config stimulus : Option Text) (clocks pin bit : Text)
    → fault_of tool (receive_words name source config stimulus clocks pin bit)
    ≡ first_of_three (is_unsigned_in 0 clock_limit clocks) (is_unsigned_in 0 pin_limit pin) (is_unsigned_in least_bit bit_limit bit)
unfolding clap_on_literals tool within first_of_three
receive_computes name source None None clocks pin bit = refl
receive_computes name source None (Some stimulus) clocks pin bit = refl
receive_computes name source (Some config) None clocks pin bit = refl
receive_computes name source (Some config) (Some stimulus) clocks pin bit = refl

first_of_three_is : (c p b : Bool) → first_of_three c p b ≡ fault_where (c && p && b)
unfolding within first_of_three
first_of_three_is true true true = refl
first_of_three_is true true false = refl
first_of_three_is true false b = refl
first_of_three_is false p b = refl

receive_fault : (name source : Text) (config stimulus : Option Text) (clocks pin bit : Text) (c p b : Bool)
    → is_unsigned_in 0 clock_limit clocks ≡ c → is_unsigned_in 0 pin_limit pin ≡ p → is_unsigned_in least_bit bit_limit bit ≡ b
    → fault_of tool (receive_words name source config stimulus clocks pin bit) ≡ fault_where (c && p && b)
receive_fault name source config stimulus clocks pin bit c p b e f g =
    receive_computes name source config stimulus clocks pin bit
    ∙ ap (λ x. first_of_three x (is_unsigned_in 0 pin_limit pin) (is_unsigned_in least_bit bit_limit bit)) e
    ∙ ap (λ x. first_of_three c x (is_unsigned_in least_bit bit_limit bit)) f ∙ ap (first_of_three c p) g ∙ first_of_three_is c p b

pub receive_words_law : ReceiveWords
receive_words_law name source config stimulus clocks pin bit =
    go (is_unsigned_in 0 clock_limit clocks) (is_unsigned_in 0 pin_limit pin) (is_unsigned_in least_bit bit_limit bit) refl refl refl
  where
    go : (c p b : Bool) → is_unsigned_in 0 clock_limit clocks ≡ c → is_unsigned_in 0 pin_limit pin ≡ p
        → is_unsigned_in least_bit bit_limit bit ≡ b
        → AskWhere (c && p && b) (receive_words name source config stimulus clocks pin bit)
        (receive source config stimulus (number_of clocks) (number_of pin) (number_of bit))
    go true true true e f g =
        let asked = receive_asks name source config stimulus clocks pin bit
        ∙ ap (λ n. Some (receive source config stimulus n (min (number_in pin) pin_limit) (max (min (number_in bit) bit_limit) least_bit)))
        (range_read clock_limit clocks e)
        ∙ ap (λ n. Some (receive source config stimulus (number_of clocks) n (max (min (number_in bit) bit_limit) least_bit)))
        (range_read pin_limit pin f)
        ∙ ap (λ n. Some (receive source config stimulus (number_of clocks) (number_of pin) n)) (bit_read bit g) in (
          taken_by _ _ (receive_takes name source config stimulus clocks pin bit e f g) asked refl,
          record { taken = receive_fault name source config stimulus clocks pin bit true true true e f g; asked = asked },
        )
    go true true false e f g = inl (not_empty _ (receive_fault name source config stimulus clocks pin bit true true false e f g))
    go true false b e f g = inl (not_empty _ (receive_fault name source config stimulus clocks pin bit true false b e f g))
    go false p b e f g = inl (not_empty _ (receive_fault name source config stimulus clocks pin bit false p b e f g))

-- ---- uart

uart_asks : (name send divider clocks : Text)
    → asked_of (uart_words name send divider clocks)
    ≡ Some (uart send (max (min (number_in divider) divider_limit) least_divider) (min (number_in clocks) clock_limit))
unfolding clap_on_literals tool asked_of
uart_asks name send divider clocks = refl

uart_takes : (name send divider clocks : Text) → is_unsigned_in least_divider divider_limit divider ≡ true
    → is_unsigned_in 0 clock_limit clocks ≡ true → takes tool (uart_words name send divider clocks) ≡ true
unfolding clap_on_literals tool
uart_takes name send divider clocks e f = both_tests _ _ e f

uart_computes : (name send divider clocks : Text) → fault_of tool (uart_words name send divider clocks)
    ≡ first_of_both (is_unsigned_in least_divider divider_limit divider) (is_unsigned_in 0 clock_limit clocks)
unfolding clap_on_literals tool within first_of_both
uart_computes name send divider clocks = refl

uart_fault : (name send divider clocks : Text) (s t : Bool) → is_unsigned_in least_divider divider_limit divider ≡ s
    → is_unsigned_in 0 clock_limit clocks ≡ t → fault_of tool (uart_words name send divider clocks) ≡ fault_where (s && t)
uart_fault name send divider clocks s t e f =
    uart_computes name send divider clocks ∙ ap (λ b. first_of_both b (is_unsigned_in 0 clock_limit clocks)) e ∙ ap (first_of_both s) f ∙ first_is s t

pub uart_words_law : UartWords
uart_words_law name send divider clocks =
    go (is_unsigned_in least_divider divider_limit divider) (is_unsigned_in 0 clock_limit clocks) refl refl
  where
    go : (s t : Bool) → is_unsigned_in least_divider divider_limit divider ≡ s → is_unsigned_in 0 clock_limit clocks ≡ t
        → AskWhere (s && t) (uart_words name send divider clocks) (uart send (number_of divider) (number_of clocks))
    go true true e f =
        let asked = uart_asks name send divider clocks
        ∙ ap (λ k. Some (uart send k (min (number_in clocks) clock_limit))) (divider_read divider e)
        ∙ ap (λ n. Some (uart send (number_of divider) n)) (range_read clock_limit clocks f) in
        (taken_by _ _ (uart_takes name send divider clocks e f) asked refl, record { taken = uart_fault name send divider clocks true true e f; asked = asked })
    go true false e f = inl (not_empty _ (uart_fault name send divider clocks true false e f))
    go false t e f = inl (not_empty _ (uart_fault name send divider clocks false t e f))

-- ---- pair

pair_asks : (name source config second : Text) (stimulus : Option Text) (clocks : Text)
    → asked_of (pair_words name source config second stimulus clocks)
    ≡ Some (pair source config second stimulus (min (number_in clocks) clock_limit))
unfolding clap_on_literals tool asked_of
pair_asks name source config second None clocks = refl
pair_asks name source config second (Some stimulus) clocks = refl

pair_takes : (name source config second : Text) (stimulus : Option Text) (clocks : Text) → is_unsigned_in 0 clock_limit clocks ≡ true
    → takes tool (pair_words name source config second stimulus clocks) ≡ true
unfolding clap_on_literals tool
pair_takes name source config second None clocks e = with_the_others _ e
pair_takes name source config second (Some stimulus) clocks e = with_the_others _ e

-- the words have no fault but the number's
pair_computes : (name source config second : Text) (stimulus : Option Text) (clocks : Text)
    → fault_of tool (pair_words name source config second stimulus clocks) ≡ within 5 (fault_where (is_unsigned_in 0 clock_limit clocks))
unfolding clap_on_literals tool within
pair_computes name source config second None clocks = refl
pair_computes name source config second (Some stimulus) clocks = refl

pair_fault : (name source config second : Text) (stimulus : Option Text) (clocks : Text) (b : Bool)
    → is_unsigned_in 0 clock_limit clocks ≡ b → fault_of tool (pair_words name source config second stimulus clocks) ≡ fault_where b
pair_fault name source config second stimulus clocks b e =
    pair_computes name source config second stimulus clocks ∙ within_is 5 _ ∙ ap fault_where e

pub pair_words_law : PairWords
pair_words_law name source config second stimulus clocks = go (is_unsigned_in 0 clock_limit clocks) refl
  where
    go : (b : Bool) → is_unsigned_in 0 clock_limit clocks ≡ b
        → AskWhere b (pair_words name source config second stimulus clocks) (pair source config second stimulus (number_of clocks))
    go true e =
        let asked = pair_asks name source config second stimulus clocks
        ∙ ap (λ n. Some (pair source config second stimulus n)) (range_read clock_limit clocks e) in
        let takes = pair_takes name source config second stimulus clocks e in
        (taken_by _ _ takes asked refl, record { taken = pair_fault name source config second stimulus clocks true e; asked = asked })
    go false e = inl (not_empty _ (pair_fault name source config second stimulus clocks false e))

-- ---- inspect

inspect_asks : (name source : Text) (config stimulus : Option Text) (clocks : Text)
    → asked_of (inspect_words name source config stimulus clocks) ≡ Some (inspect source config stimulus (min (number_in clocks) clock_limit))
unfolding clap_on_literals tool asked_of
inspect_asks name source None None clocks = refl
inspect_asks name source None (Some stimulus) clocks = refl
inspect_asks name source (Some config) None clocks = refl
inspect_asks name source (Some config) (Some stimulus) clocks = refl

inspect_takes : (name source : Text) (config stimulus : Option Text) (clocks : Text) → is_unsigned_in 0 clock_limit clocks ≡ true
    → takes tool (inspect_words name source config stimulus clocks) ≡ true
unfolding clap_on_literals tool
inspect_takes name source None None clocks e = with_the_others _ e
inspect_takes name source None (Some stimulus) clocks e = with_the_others _ e
inspect_takes name source (Some config) None clocks e = with_the_others _ e
inspect_takes name source (Some config) (Some stimulus) clocks e = with_the_others _ e

inspect_computes : (name source : Text) (config stimulus : Option Text) (clocks : Text)
    → fault_of tool (inspect_words name source config stimulus clocks) ≡ within 5 (fault_where (is_unsigned_in 0 clock_limit clocks))
unfolding clap_on_literals tool within
inspect_computes name source None None clocks = refl
inspect_computes name source None (Some stimulus) clocks = refl
inspect_computes name source (Some config) None clocks = refl
inspect_computes name source (Some config) (Some stimulus) clocks = refl

inspect_fault : (name source : Text) (config stimulus : Option Text) (clocks : Text) (b : Bool) → is_unsigned_in 0 clock_limit clocks ≡ b
    → fault_of tool (inspect_words name source config stimulus clocks) ≡ fault_where b
inspect_fault name source config stimulus clocks b e =
    inspect_computes name source config stimulus clocks ∙ within_is 5 _ ∙ ap fault_where e

pub inspect_words_law : InspectWords
inspect_words_law name source config stimulus clocks = go (is_unsigned_in 0 clock_limit clocks) refl
  where
    go : (b : Bool) → is_unsigned_in 0 clock_limit clocks ≡ b
        → AskWhere b (inspect_words name source config stimulus clocks) (inspect source config stimulus (number_of clocks))
    go true e =
        let asked = inspect_asks name source config stimulus clocks
        ∙ ap (λ n. Some (inspect source config stimulus n)) (range_read clock_limit clocks e) in
        let takes = inspect_takes name source config stimulus clocks e in
        (taken_by _ _ takes asked refl, record { taken = inspect_fault name source config stimulus clocks true e; asked = asked })
    go false e = inl (not_empty _ (inspect_fault name source config stimulus clocks false e))
