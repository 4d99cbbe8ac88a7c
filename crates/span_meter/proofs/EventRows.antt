-- Worked rows: the events of a clock, and what drops the from-events before it, worked out by hand.
use Rattle.std.proofs.Common.{◌≡◌, ℕ, true, false, Bool, Some, None, List, [], ◌∷◌, refl}
use Rattle.pin_matrix.specs.declared.span.PinSignal.TheVariants.{Level}
use Rattle.block_core.specs.declared.conduct.Conduct.{Conduct}
use Rattle.block_core.specs.declared.conduct.MachineConduct.{MachineConduct}
use Rattle.span_meter.specs.declared.pins.ShownPins.{ShownPins}
use Rattle.span_meter.specs.Events.{SpanEvent, SpanEvents, comes, is_dropped, marks}
use Rattle.span_meter.specs.Spoken.{clocks_to_spoken, spoken}

-- a machine at address 3, at an instruction that has its first tick in the clock and finishes
abbrev first : MachineConduct
first = record { pc = 3; waits = false; comes = true; works = true; finishes = true; breaks = false; x = 0; y = 0; rests = Some 0 }

-- its late tick, in which it stalls again; one in which it finishes; a tick of a delay; of a pending word, which ends
abbrev late : MachineConduct
late = record { pc = 3; waits = true; comes = false; works = true; finishes = false; breaks = false; x = 0; y = 0; rests = Some 0 }

abbrev last : MachineConduct
last = record { pc = 3; waits = true; comes = false; works = true; finishes = true; breaks = false; x = 0; y = 0; rests = Some 0 }

abbrev delay : MachineConduct
delay = record { pc = 3; waits = false; comes = false; works = false; finishes = false; breaks = false; x = 0; y = 0; rests = Some 0 }

-- the ends of these instructions, and rises of pin 0 that they make
abbrev done : List ℕ → SpanEvent
done at = record { pin = 0; signal = None; rise = false; at = at }

abbrev rise : List ℕ → SpanEvent
rise at = record { pin = 0; signal = Some Level; rise = true; at = at }

abbrev low : ShownPins
low = record { level = 0; direction = 0 }

abbrev high : ShownPins
high = record { level = 1; direction = 0 }

-- an end is that of an instruction at one of these: not a tick that stalls, nor one of a delay or a pending word
ends : (comes (done (7 ∷ 3 ∷ [])) low low (Some first) ≡ true) × (comes (done (3 ∷ [])) low high (Some last) ≡ true) × (comes (done (3 ∷ [])) low low (Some late) ≡ false) × (comes (done (3 ∷ [])) low low (Some delay) ≡ false) × (comes (done (4 ∷ [])) low low (Some first) ≡ false) × (comes (done (3 ∷ [])) low low None ≡ false)
ends = (refl, refl, refl, refl, refl, refl)

-- an edge is made by an instruction at one of these in any of its ticks, or by any where none is named
edges : (comes (rise (3 ∷ [])) low high (Some first) ≡ true) × (comes (rise (3 ∷ [])) low high (Some late) ≡ true) × (comes (rise (3 ∷ [])) low high (Some delay) ≡ false) × (comes (rise (4 ∷ [])) low high (Some first) ≡ false) × (comes (rise []) low high (Some delay) ≡ true) × (comes (rise []) low high None ≡ true) × (comes (rise (3 ∷ [])) high high (Some first) ≡ false) × (comes (rise []) high low (Some first) ≡ false)
edges = (refl, refl, refl, refl, refl, refl, refl, refl)

-- spans of machine 0 that are prompt, leave out ways, or are cut
abbrev span : (prompt : Bool) (stalls without : List ℕ) (cut : Bool) → SpanEvents
span prompt stalls without cut = record { machine = 0; from = rise []; to = done (3 ∷ []); prompt = prompt; stalls = stalls; without = without; cut = cut; assume = [] }

-- a wait drops where the span is prompt and the address isn't named
waits : (is_dropped (span true [] [] false) (Some late) ≡ true) × (is_dropped (span true [] [] false) (Some last) ≡ true) × (is_dropped (span true (3 ∷ []) [] false) (Some late) ≡ false) × (is_dropped (span true (4 ∷ []) [] false) (Some late) ≡ true) × (is_dropped (span false [] [] false) (Some late) ≡ false) × (is_dropped (span true [] [] false) (Some first) ≡ false) × (is_dropped (span true [] [] false) (Some delay) ≡ false)
waits = (refl, refl, refl, refl, refl, refl, refl)

-- a machine that comes to a way that is left out: not one that has begun there, or is in the delay before it
ways : (is_dropped (span false [] (3 ∷ []) false) (Some first) ≡ true) × (is_dropped (span false [] (4 ∷ []) false) (Some first) ≡ false) × (is_dropped (span false [] (3 ∷ []) false) (Some late) ≡ false) × (is_dropped (span false [] (3 ∷ []) false) (Some delay) ≡ false)
ways = (refl, refl, refl, refl)

-- a line that disables or restarts the machine cuts spans in clocks
lines : (is_dropped (span false [] (9 ∷ []) true) (Some (record delay { breaks = true })) ≡ true) × (is_dropped (span false [] (9 ∷ []) false) (Some (record delay { breaks = true })) ≡ false) × (is_dropped (span false [] (9 ∷ []) true) (Some delay) ≡ false) × (is_dropped (span false [] [] true) None ≡ false)
lines = (refl, refl, refl, refl)

-- what is told of a clock of note
abbrev told : (clock level : ℕ) → MachineConduct → Conduct
told clock level m = record { clock = clock; level = level; direction = 0; machines = Some m ∷ None ∷ None ∷ None ∷ [] }

-- What was done in a clock of note counts in that clock alone, however long it is told: pin 0 rises in clock 1, and SET at address
-- 3 ends in clock 4.
told_longer : spoken (marks (span false [] [] false) 0 low (told 0 0 delay ∷ told 1 1 delay ∷ told 1 1 delay ∷ told 1 1 delay ∷ told 4 1 first ∷ told 4 1 first ∷ [])) ≡ 3 ∷ []
unfolding marks spoken clocks_to_spoken
told_longer = refl

-- the same where it waited there: a prompt span speaks of no pair, one that names the address of this
told_of_a_wait : spoken (marks (span true [] [] false) 0 low (told 0 0 delay ∷ told 1 1 delay ∷ told 1 1 delay ∷ told 1 1 delay ∷ told 4 1 last ∷ [])) ≡ []
unfolding marks spoken clocks_to_spoken
told_of_a_wait = refl

told_of_a_named_wait : spoken (marks (span true (3 ∷ []) [] false) 0 low (told 0 0 delay ∷ told 1 1 delay ∷ told 1 1 delay ∷ told 1 1 delay ∷ told 4 1 last ∷ [])) ≡ 3 ∷ []
unfolding marks spoken clocks_to_spoken
told_of_a_named_wait = refl

-- another machine than the span's ends nothing of it
another_machine : spoken (marks (record (span false [] [] false) { machine = 1 }) 0 low (told 0 0 delay ∷ told 1 1 delay ∷ told 4 1 first ∷ [])) ≡ []
unfolding marks spoken clocks_to_spoken
another_machine = refl
