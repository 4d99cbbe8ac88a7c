-- Worked rows: up to where a run keeps what a span assumes, worked out by hand.
use Rattle.std.proofs.Common.{◌≡◌, ℕ, true, false, Bool, Option, Some, None, [], ◌∷◌, ◌++◌, refl}
use Rattle.pin_matrix.specs.declared.assume.Assumption.{Assumption}
use Rattle.pin_matrix.specs.declared.assume.Range.{Range}
use Rattle.pin_matrix.specs.declared.span.PinSignal.TheVariants.{Level}
use Rattle.block_core.specs.declared.conduct.Conduct.{Conduct}
use Rattle.block_core.specs.declared.conduct.MachineConduct.{MachineConduct}
use Rattle.span_meter.specs.declared.pins.ShownPins.{ShownPins}
use Rattle.span_meter.specs.declared.seen.SeenDistances.{SeenDistances}
use Rattle.pin_matrix.specs.Assumptions.{keeps}
use Rattle.span_meter.specs.Assumed.{assumed_from, assumed_up_to, misses, spoken_seen}
use Rattle.span_meter.specs.Events.{SpanEvent, SpanEvents, marks}
use Rattle.span_meter.specs.SeenText.{seen_line}
use Rattle.span_meter.specs.Spoken.{clocks_to_spoken, spoken}
use Rattle.std.specs.Prelude.{codes, decimal}

-- X from 2 to 5 after the instruction at address 3, and Y from 7 to 7
abbrev range : (lo hi : ℕ) → Option Range
range lo hi = Some (record { lo = lo; hi = hi })

abbrev of_x : (address lo hi : ℕ) → Assumption
of_x address lo hi = record { address = address; x = range lo hi; y = None }

abbrev of_y : (address lo hi : ℕ) → Assumption
of_y address lo hi = record { address = address; x = None; y = range lo hi }

-- the ends of a range are kept, and no number beside them
in_range : (keeps (of_x 3 2 5 ∷ []) 3 2 9 ≡ true) × (keeps (of_x 3 2 5 ∷ []) 3 5 9 ≡ true) × (keeps (of_x 3 2 5 ∷ []) 3 1 9 ≡ false) × (keeps (of_x 3 2 5 ∷ []) 3 6 9 ≡ false)
in_range = (refl, refl, refl, refl)

-- at another address anything is; of the other register nothing is assumed
elsewhere : (keeps (of_x 3 2 5 ∷ []) 4 6 9 ≡ true) × (keeps (of_y 3 2 5 ∷ []) 3 9 5 ≡ true) × (keeps (of_y 3 2 5 ∷ []) 3 5 9 ≡ false) × (keeps [] 3 6 9 ≡ true)
elsewhere = (refl, refl, refl, refl)

-- two assumptions at one address both hold
both : (keeps (of_x 3 2 5 ∷ of_x 3 4 8 ∷ []) 3 4 0 ≡ true) × (keeps (of_x 3 2 5 ∷ of_x 3 4 8 ∷ []) 3 3 0 ≡ false) × (keeps (of_x 3 2 5 ∷ of_x 3 4 8 ∷ []) 3 6 0 ≡ false) × (keeps (of_x 3 2 5 ∷ of_y 3 7 7 ∷ []) 3 3 6 ≡ false)
both = (refl, refl, refl, refl)

-- a machine at address 3 that finishes with this in X, whose delay is over then
abbrev ends : (x : ℕ) → (rests : Option ℕ) → MachineConduct
ends x rests = record { pc = 3; waits = false; comes = true; works = true; finishes = true; breaks = false; x = x; y = 0; rests = rests }

-- and one that does nothing
abbrev idles : (x : ℕ) → (rests : Option ℕ) → MachineConduct
idles x rests = record (ends x rests) { comes = false; works = false; finishes = false }

-- only an instruction that finishes misses one
finishing : (misses (of_x 3 2 5 ∷ []) (ends 6 (Some 0)) ≡ true) × (misses (of_x 3 2 5 ∷ []) (ends 5 (Some 0)) ≡ false) × (misses (of_x 3 2 5 ∷ []) (idles 6 (Some 0)) ≡ false)
finishing = (refl, refl, refl)

-- what is told of a clock of note
abbrev told : (clock level : ℕ) → MachineConduct → Conduct
told clock level m = record { clock = clock; level = level; direction = 0; machines = Some m ∷ None ∷ None ∷ None ∷ [] }

-- a span of machine 0 from rises of pin 0 to its falls, which assumes X from 2 to 5 after the instruction at address 3
abbrev edge : (rise : Bool) → SpanEvent
edge rise = record { pin = 0; signal = Some Level; rise = rise; at = [] }

abbrev span : SpanEvents
span = record { machine = 0; from = edge true; to = edge false; prompt = false; stalls = []; without = []; cut = true; assume = of_x 3 2 5 ∷ [] }

abbrev low : ShownPins
low = record { level = 0; direction = 0 }

-- without a miss there is no end
nothing : assumed_up_to span (told 0 0 (ends 2 (Some 0)) ∷ told 1 0 (ends 5 (Some 4)) ∷ told 1 0 (ends 5 (Some 4)) ∷ []) ≡ None
unfolding assumed_up_to assumed_from
nothing = refl

-- without a delay the clock of the miss is the end
at_once : assumed_up_to span (told 0 0 (ends 2 (Some 0)) ∷ told 1 0 (ends 6 (Some 1)) ∷ told 2 0 (ends 2 (Some 2)) ∷ []) ≡ Some 1
unfolding assumed_up_to assumed_from
at_once = refl

-- With a delay it is the clock of its last tick, which comes later at a divider of 2: told is the clock of the miss alone, and of
-- another machine's in it. Before that clock has gone by there is none.
after_a_delay : assumed_up_to span (told 0 0 (ends 6 (Some 4)) ∷ told 0 0 (ends 6 (Some 4)) ∷ told 2 0 (idles 6 (Some 4)) ∷ told 2 0 (idles 6 (Some 4)) ∷ told 2 0 (idles 6 (Some 4)) ∷ told 5 0 (ends 3 (Some 5)) ∷ []) ≡ Some 4
unfolding assumed_up_to assumed_from
after_a_delay = refl

before_its_end : assumed_up_to span (told 0 0 (ends 6 (Some 4)) ∷ told 0 0 (ends 6 (Some 4)) ∷ told 0 0 (ends 6 (Some 4)) ∷ told 0 0 (ends 6 (Some 4)) ∷ []) ≡ None
unfolding assumed_up_to assumed_from
before_its_end = refl

-- a line in clock 2 restarts the divider, and the delay is over later than it was told first
restarted : assumed_up_to span (told 0 0 (ends 6 (Some 3)) ∷ told 0 0 (ends 6 (Some 3)) ∷ told 2 0 (record (idles 6 (Some 5)) { breaks = true }) ∷ told 2 0 (idles 6 (Some 5)) ∷ told 2 0 (idles 6 (Some 5)) ∷ told 2 0 (idles 6 (Some 5)) ∷ []) ≡ Some 5
unfolding assumed_up_to assumed_from
restarted = refl

-- a line in clock 1 disables the machine in its delay, and one in clock 3 enables it
disabled : (assumed_up_to span (told 0 0 (ends 6 (Some 2)) ∷ told 1 0 (record (idles 6 None) { breaks = true }) ∷ told 1 0 (idles 6 None) ∷ []) ≡ None) × (assumed_up_to span (told 0 0 (ends 6 (Some 2)) ∷ told 1 0 (record (idles 6 None) { breaks = true }) ∷ told 1 0 (idles 6 None) ∷ told 3 0 (idles 6 (Some 4)) ∷ told 3 0 (idles 6 (Some 4)) ∷ []) ≡ Some 4)
unfolding assumed_up_to assumed_from
disabled = (refl, refl)

-- another machine misses nothing of this span's
another_machine : assumed_up_to (record span { machine = 1 }) (told 0 0 (ends 6 (Some 0)) ∷ told 1 0 (ends 6 (Some 1)) ∷ []) ≡ None
unfolding assumed_up_to assumed_from
another_machine = refl

-- Pin 0 rises in clock 0 and falls in clock 2: the pair counts where X is missed in clock 3, and not where it is in clock 2, in which the
-- pair ends, or before.
abbrev seen : (pairs distance : ℕ) → (assumed : Option ℕ) → SeenDistances
seen pairs distance assumed = record { pairs = pairs; least = distance; most = distance; assumed = assumed }

pair_before : spoken_seen span low (told 0 1 (ends 2 (Some 0)) ∷ told 1 1 (ends 2 (Some 1)) ∷ told 2 0 (ends 2 (Some 2)) ∷ told 3 0 (ends 6 (Some 3)) ∷ []) ≡ seen 1 2 (Some 3)
unfolding spoken_seen assumed_up_to assumed_from marks spoken clocks_to_spoken
pair_before = refl

pair_of_the_last_clock : spoken_seen span low (told 0 1 (ends 2 (Some 0)) ∷ told 1 1 (ends 2 (Some 1)) ∷ told 2 0 (ends 6 (Some 2)) ∷ told 3 0 (ends 2 (Some 3)) ∷ []) ≡ seen 0 0 (Some 2)
unfolding spoken_seen assumed_up_to assumed_from marks spoken clocks_to_spoken
pair_of_the_last_clock = refl

-- it counts too where the delay after the miss is over later
pair_in_the_delay : spoken_seen span low (told 0 1 (ends 2 (Some 0)) ∷ told 1 1 (ends 6 (Some 3)) ∷ told 2 0 (idles 6 (Some 3)) ∷ told 2 0 (idles 6 (Some 3)) ∷ []) ≡ seen 1 2 (Some 3)
unfolding spoken_seen assumed_up_to assumed_from marks spoken clocks_to_spoken
pair_in_the_delay = refl

-- and no pair after the end
pair_after : spoken_seen span low (told 0 0 (ends 6 (Some 0)) ∷ told 1 1 (ends 2 (Some 1)) ∷ told 2 0 (ends 2 (Some 2)) ∷ []) ≡ seen 0 0 (Some 0)
unfolding spoken_seen assumed_up_to assumed_from marks spoken clocks_to_spoken
pair_after = refl

-- without a miss all pairs count
all_pairs : spoken_seen span low (told 0 1 (ends 2 (Some 0)) ∷ told 1 0 (ends 2 (Some 1)) ∷ told 2 0 (ends 5 (Some 2)) ∷ []) ≡ seen 1 1 None
unfolding spoken_seen assumed_up_to assumed_from marks spoken clocks_to_spoken
all_pairs = refl

-- the lines: the end comes last
lines : (seen_line (codes "low") (seen 0 0 (Some 17)) ≡ (codes "span low seen 0") ++ (codes " assumed up to " ++ decimal 17 ++ codes "\n")) × (seen_line (codes "low") (seen 0 0 None) ≡ codes "span low seen 0\n")
unfolding seen_line
lines = (refl, refl)

line_of_pairs : seen_line (codes "low") (seen 2 4 (Some 17))
    ≡ (codes "span " ++ codes "low" ++ codes " seen " ++ decimal 2 ++ codes " least " ++ decimal 4 ++ codes " most " ++ decimal 4)
    ++ (codes " assumed up to " ++ decimal 17 ++ codes "\n")
unfolding seen_line
line_of_pairs = refl
