-- Rows of what it means that a span holds, worked by hand on the marks of some clocks, and of which lines break one.
use Rattle.std.proofs.Common.{◌≡◌, ℕ, zero, suc, ◌-◌, ◌<◌, ◌≤◌, ◌==◌, nat_le, Bool, true, false, Some, None, [], ◌∷◌, map, refl, sym, ◌∙◌, subst, arith}
use Rattle.std.proofs.lemmas.Bool.{eqb-true, false≢true}
use Rattle.std.proofs.lemmas.Bool.Decides.{nat_tests}
use Rattle.pin_matrix.specs.declared.span.SpanUnit.{SpanUnit}
use Rattle.pin_matrix.specs.declared.span.SpanUnit.TheVariants.{Ticks, Clocks}
use Rattle.dreq_pacing.specs.declared.due.Due.{Due}
use Rattle.dreq_pacing.specs.declared.line.LineAct.TheVariants.{Pin, Tx, Rx, Feed, Drain, Enable, Disable, Restart}
use Rattle.dreq_pacing.specs.Due.{quiet}
use Rattle.span_check.specs.Marks.{Mark, is_broken}
use Rattle.span_check.specs.Holding.{counted, IsQuiet, IsFirstToEdge, IsAssumed, IsUnbroken, IsUnbrokenIn, IsSpokenOf, Holds, HoldsFrom}
use Rattle.span_check.specs.Runs.{is_breaking}
use Rattle.span_check.proofs.Asking.{no_bound}

-- The from-edge comes in clock 2, and the to-edge in clock 4. Each clock has a tick that counts. These clocks have a line that breaks
-- the span, and these a late tick at an address that it doesn't name.
abbrev marks : (breaks strays : ℕ → Bool) → ℕ → Mark
marks breaks strays c = record { from = c == 2; to = c == 4; counts = true; strays = strays c; breaks = breaks c; excused = false; misses = false; rested = true }

-- none misses what is assumed
none_missed : (m : ℕ → Mark) (end : ℕ) → ((c : ℕ) → (m c).misses ≡ false) → IsAssumed m end
none_missed m end none f c misses from before = let e : false ≡ true = sym (none f) ∙ misses in cc

-- none is excused
spoken_row : (breaks strays : ℕ → Bool) (unit : SpanUnit) (end : ℕ) → IsUnbrokenIn unit (marks breaks strays) 2 end → IsSpokenOf unit (marks breaks strays) 2 end
spoken_row breaks strays unit end h = record { free = λ c after before. refl; assumed = none_missed (marks breaks strays) end (λ c. refl); unbroken = h }

abbrev nowhere : ℕ → Bool
nowhere c = false

-- the to-edge is the first one, two ticks or clocks after the from-edge
not_before : (breaks strays : ℕ → Bool) (c : ℕ) → 2 < c → c < 4 → (marks breaks strays c).to ≡ false
not_before breaks strays c after before = let e : c ≡ 3 = omega (arith, after, before) in rw e refl

first_row : (breaks strays : ℕ → Bool) → IsFirstToEdge (marks breaks strays) 2 4
first_row breaks strays = record { after = omega arith; first = not_before breaks strays; edge = refl }

two_row : (breaks strays : ℕ → Bool) → counted (marks breaks strays) 2 5 ≡ 2
unfolding counted
two_row breaks strays = refl

-- a line breaks the machine's clock 1
abbrev early : ℕ → Mark
early = marks (λ c. c == 1) nowhere

-- that is before the from-edge, so in clocks the span is spoken of, and with at least 3 it doesn't hold
none_between : (c : ℕ) → 2 < c → c < 5 → (early c).breaks ≡ false
none_between zero after before = absurd (omega (arith, after))
none_between (suc zero) after before = absurd (omega (arith, after))
none_between (suc (suc zero)) after before = absurd (omega (arith, after))
none_between (suc (suc (suc zero))) after before = refl
none_between (suc (suc (suc (suc zero)))) after before = refl
none_between (suc (suc (suc (suc (suc c))))) after before = absurd (omega (arith, before))

early_in_clocks : Holds Clocks 3 (Some 9) early 5 → ⊥
early_in_clocks holds = omega (arith, (holds 2 (omega arith) refl).least 4 (first_row _ _) (omega arith) (spoken_row _ _ Clocks 5 none_between))

-- with at most 1 neither
early_in_clocks_late : Holds Clocks 0 (Some 1) early 5 → ⊥
early_in_clocks_late holds = omega (arith, (holds 2 (omega arith) refl).most 4 (first_row _ _) (omega arith) (spoken_row _ _ Clocks 5 none_between))

-- a line breaks clock 3, while the span is open: in ticks it is spoken of all the same
abbrev disturbed : ℕ → Mark
disturbed = marks (λ c. c == 3) nowhere

disturbed_in_ticks : Holds Ticks 3 (Some 9) disturbed 5 → ⊥
disturbed_in_ticks holds = omega (arith, (holds 2 (omega arith) refl).least 4 (first_row _ _) (omega arith) (spoken_row _ _ Ticks 5 tt), two_row (λ c. c == 3) nowhere)

disturbed_in_ticks_late : Holds Ticks 0 (Some 1) disturbed 5 → ⊥
disturbed_in_ticks_late holds = omega (arith, (holds 2 (omega arith) refl).most 4 (first_row _ _) (omega arith) (spoken_row _ _ Ticks 5 tt), two_row (λ c. c == 3) nowhere)

-- in clocks nothing is said of it
disturbed_in_clocks : IsUnbroken disturbed 2 5 → ⊥
disturbed_in_clocks unbroken = let e = unbroken 3 (omega arith) (omega arith) in cc

-- a late tick comes in clock 3, while the span is open: in neither unit does it hold, whatever its bounds
abbrev straying : ℕ → Mark
straying = marks nowhere (λ c. c == 3)

quiet_before_3 : IsQuiet straying 2 3
quiet_before_3 c after before = absurd (omega (arith, after, before))

straying_in_ticks : (min max : ℕ) → Holds Ticks min (Some max) straying 5 → ⊥
straying_in_ticks min max holds = let e = (holds 2 (omega arith) refl).strays refl 3 (omega arith) (omega arith) quiet_before_3 (spoken_row _ _ Ticks 4 tt) in cc

straying_in_clocks : (min max : ℕ) → Holds Clocks min (Some max) straying 5 → ⊥
straying_in_clocks min max holds =
    let e = (holds 2 (omega arith) refl).strays refl 3 (omega arith) (omega arith) quiet_before_3 (spoken_row _ _ Clocks 4 (λ c after before. refl)) in cc

-- Without a greatest bound it holds with at least 2, in both units: neither the wait nor a longer time is amiss.
straying_freely_in_ticks : Holds Ticks 2 None straying 5
straying_freely_in_ticks s below from = subst (HoldsFrom Ticks 2 None straying 5) (sym (eqb-true s 2 from)) (record {
  least = λ e ends inside spoken. subst (λ k. 2 ≤ counted straying 2 (suc k)) (sym (eqb-true e 4 ends.edge)) (omega (arith, two_row nowhere (λ c. c == 3)));
  most = λ e ends inside spoken. tt;
  unclosed = λ quiet spoken. tt;
  strays = λ some. absurd (no_bound some);
})

straying_freely_in_clocks : Holds Clocks 2 None straying 5
straying_freely_in_clocks s below from = subst (HoldsFrom Clocks 2 None straying 5) (sym (eqb-true s 2 from)) (record {
  least = λ e ends inside spoken. subst (λ k. 2 ≤ suc k - 1 - 2) (sym (eqb-true e 4 ends.edge)) (omega arith);
  most = λ e ends inside spoken. tt;
  unclosed = λ quiet spoken. tt;
  strays = λ some. absurd (no_bound some);
})

-- with at least 3 it doesn't: a to-edge still comes too early
early_in_ticks_freely : Holds Ticks 3 None straying 5 → ⊥
early_in_ticks_freely holds = omega (arith, (holds 2 (omega arith) refl).least 4 (first_row _ _) (omega arith) (spoken_row _ _ Ticks 5 tt), two_row nowhere (λ c. c == 3))

early_in_clocks_freely : Holds Clocks 3 None straying 5 → ⊥
early_in_clocks_freely holds = omega (arith, (holds 2 (omega arith) refl).least 4 (first_row _ _) (omega arith) (spoken_row _ _ Clocks 5 (λ c after before. refl)))

-- The from-edge comes in clock 2, and no to-edge; in clock 6 the machine excuses it. Up to any clock this holds without a greatest bound, whatever the least; with at
-- most 2 it doesn't up to clock 6, when three ticks and clocks have gone by.
abbrev endless : ℕ → Mark
endless c = record { from = c == 2; to = false; counts = true; strays = false; breaks = false; excused = c == 6; misses = false; rested = true }

endless_freely : (min n : ℕ) → Holds Ticks min None endless n
endless_freely min n s below from = record {
  least = λ e ends inside spoken. absurd (false≢true ends.edge);
  most = λ e ends inside spoken. tt;
  unclosed = λ quiet spoken. tt;
  strays = λ some. absurd (no_bound some);
}

three_row : counted endless 2 6 ≡ 3
unfolding counted
three_row = refl

free_until_6 : (c : ℕ) → 2 < c → c < 6 → (endless c).excused ≡ false
free_until_6 c after before = let e : (c == 6) ≡ false = grind (arith, nat_tests, before) in e

endless_in_ticks : Holds Ticks 0 (Some 2) endless 6 → ⊥
endless_in_ticks holds = omega (arith, (holds 2 (omega arith) refl).unclosed (λ c after before. refl) (record { free = free_until_6; assumed = none_missed endless 6 (λ c. refl); unbroken = tt }), three_row)

endless_in_clocks : Holds Clocks 0 (Some 2) endless 6 → ⊥
endless_in_clocks holds = omega (arith, (holds 2 (omega arith) refl).unclosed (λ c after before. refl) (record { free = free_until_6; assumed = none_missed endless 6 (λ c. refl); unbroken = λ c after before. refl }))

-- up to clock 7 nothing is said of it
endless_excused : (unit : SpanUnit) → IsSpokenOf unit endless 2 7 → ⊥
endless_excused unit spoken = let e = spoken.free 6 (omega arith) (omega arith) in cc

-- The from-edge comes in clock 2 and the to-edge in clock 4, and the machine excuses from-edges in this clock.
abbrev excusing : (clock : ℕ) → ℕ → Mark
excusing clock c = record { from = c == 2; to = c == 4; counts = true; strays = false; breaks = false; excused = c == clock; misses = false; rested = true }

-- in the clock after the from-edge, and in that of the to-edge: nothing is said of it
excused_between : (unit : SpanUnit) → IsSpokenOf unit (excusing 3) 2 5 → ⊥
excused_between unit spoken = let e = spoken.free 3 (omega arith) (omega arith) in cc

excused_at_the_end : (unit : SpanUnit) → IsSpokenOf unit (excusing 4) 2 5 → ⊥
excused_at_the_end unit spoken = let e = spoken.free 4 (omega arith) (omega arith) in cc

-- in that of the from-edge, and in that after the to-edge: it is spoken of, and with at least 3 doesn't hold
quiet_row : (clock c : ℕ) → 2 < c → c < 4 → (excusing clock c).to ≡ false
quiet_row clock c after before = let e : c ≡ 3 = omega (arith, after, before) in rw e refl

not_between : (P : ℕ → Type 0) → P 3 → P 4 → (c : ℕ) → 2 < c → c < 5 → P c
not_between P three four zero after before = absurd (omega (arith, after))
not_between P three four (suc zero) after before = absurd (omega (arith, after))
not_between P three four (suc (suc zero)) after before = absurd (omega (arith, after))
not_between P three four (suc (suc (suc zero))) after before = three
not_between P three four (suc (suc (suc (suc zero)))) after before = four
not_between P three four (suc (suc (suc (suc (suc c))))) after before = absurd (omega (arith, before))

excused_before : Holds Clocks 3 (Some 9) (excusing 2) 5 → ⊥
excused_before holds =
    omega (
      arith,
      (holds 2 (omega arith) refl).least 4 (record { after = omega arith; first = quiet_row 2; edge = refl }) (omega arith)
          (record { free = not_between (λ c. (excusing 2 c).excused ≡ false) refl refl; assumed = none_missed (excusing 2) 5 (λ c. refl); unbroken = λ c after before. refl }),
    )

excused_after : Holds Clocks 3 (Some 9) (excusing 5) 5 → ⊥
excused_after holds =
    omega (
      arith,
      (holds 2 (omega arith) refl).least 4 (record { after = omega arith; first = quiet_row 5; edge = refl }) (omega arith)
          (record { free = not_between (λ c. (excusing 5 c).excused ≡ false) refl refl; assumed = none_missed (excusing 5) 5 (λ c. refl); unbroken = λ c after before. refl }),
    )

-- The from-edge comes in clock 2 and the to-edge in clock 4. In one clock an instruction leaves X or Y otherwise than assumed, and
-- from one clock on no delay is left.
abbrev missing : (clock rests : ℕ) → ℕ → Mark
missing clock rests c = record { from = c == 2; to = c == 4; counts = true; strays = false; breaks = false; excused = false; misses = c == clock; rested = nat_le rests c }

missing_before_4 : (clock rests c : ℕ) → 2 < c → c < 4 → (missing clock rests c).to ≡ false
missing_before_4 clock rests c after before = let e : c ≡ 3 = omega (arith, after, before) in rw e refl

missing_first : (clock rests : ℕ) → IsFirstToEdge (missing clock rests) 2 4
missing_first clock rests = record { after = omega arith; first = missing_before_4 clock rests; edge = refl }

-- until the delay is over it is spoken of
missing_spoken : (clock rests end : ℕ) → end ≤ rests → IsSpokenOf Clocks (missing clock rests) 2 end
missing_spoken clock rests end within = record {
  free = λ c after before. refl;
  assumed = λ f c misses from before. let e : nat_le rests c ≡ false = grind (arith, nat_tests, within, before) in e;
  unbroken = λ c after before. refl;
}

-- a delay that is over in clock 5: of the to-edge in clock 4 it is asked that it isn't too early, nor too late
missed_and_closed_early : Holds Clocks 3 (Some 9) (missing 3 5) 5 → ⊥
missed_and_closed_early holds = omega (arith, (holds 2 (omega arith) refl).least 4 (missing_first 3 5) (omega arith) (missing_spoken 3 5 5 (omega arith)))

missed_and_closed_late : Holds Clocks 0 (Some 1) (missing 3 5) 5 → ⊥
missed_and_closed_late holds = omega (arith, (holds 2 (omega arith) refl).most 4 (missing_first 3 5) (omega arith) (missing_spoken 3 5 5 (omega arith)))

-- one that is over in clock 4, in which the to-edge comes: nothing is said of it
missed_before : (unit : SpanUnit) → IsSpokenOf unit (missing 3 4) 2 5 → ⊥
missed_before unit spoken = let e = spoken.assumed 3 4 refl (omega arith) (omega arith) in cc

-- but of the time up to clock 4 it is
missed_and_open : Holds Clocks 0 (Some 0) (missing 3 4) 4 → ⊥
missed_and_open holds = omega (arith, (holds 2 (omega arith) refl).unclosed (missing_before_4 3 4) (missing_spoken 3 4 4 (omega arith)))

-- without a delay nothing is said from the clock of the instruction on, be it before the from-edge
missed_at_once : (unit : SpanUnit) → IsSpokenOf unit (missing 3 3) 2 4 → ⊥
missed_at_once unit spoken = let e = spoken.assumed 3 3 refl (omega arith) (omega arith) in cc

missed_earlier : (unit : SpanUnit) → IsSpokenOf unit (missing 1 1) 2 5 → ⊥
missed_earlier unit spoken = let e = spoken.assumed 1 1 refl (omega arith) (omega arith) in cc

-- an instruction that does so after the to-edge changes nothing
missed_after : Holds Clocks 3 (Some 9) (missing 5 0) 5 → ⊥
missed_after holds =
    omega (
      arith,
      (holds 2 (omega arith) refl).least 4 (missing_first 5 0) (omega arith)
          (record {
            free = λ c after before. refl;
            assumed = λ f c misses from before. absurd (let e : 5 ≡ f = sym (eqb-true f 5 misses) in omega (arith, e, from, before));
            unbroken = λ c after before. refl;
          }),
    )

-- of the lines that name machine 1 a disable and a restart break its spans, and no other line does
kinds_row : map (is_breaking 1) (Pin 1 true ∷ Tx 1 1 ∷ Rx 1 ∷ Feed 1 1 (1 ∷ []) ∷ Drain 1 1 ∷ Enable 1 ∷ Disable 1 ∷ Restart 1 ∷ [])
    ≡ false ∷ false ∷ false ∷ false ∷ false ∷ false ∷ true ∷ true ∷ []
kinds_row = refl

-- nor do those of the other machines
others_row : map (is_breaking 1) (Disable 0 ∷ Restart 0 ∷ Disable 2 ∷ Restart 2 ∷ Disable 3 ∷ Restart 3 ∷ [])
    ≡ false ∷ false ∷ false ∷ false ∷ false ∷ false ∷ []
others_row = refl

-- the same of what the system does in a clock: machine 3 is restarted and machine 2 disabled
abbrev busy : Due
busy = record quiet { disable = false ∷ false ∷ true ∷ false ∷ []; restart = false ∷ false ∷ false ∷ true ∷ []; enable = true ∷ true ∷ true ∷ true ∷ [] }

broken_row : map (is_broken busy) (0 ∷ 1 ∷ 2 ∷ 3 ∷ []) ≡ false ∷ false ∷ true ∷ true ∷ []
broken_row = refl

-- where nothing is done no machine's spans are broken
idle_row : map (is_broken quiet) (0 ∷ 1 ∷ 2 ∷ 3 ∷ []) ≡ false ∷ false ∷ false ∷ false ∷ []
idle_row = refl
