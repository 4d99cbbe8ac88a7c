-- Where the same is inside, and what the text says of it.
use Rattle.std.proofs.Common.{◌≡◌, ℕ, ◌+◌, ◌<◌, ◌^◌, Bool, true, false, cond, eqb, Option, Some, None, List, [], ◌∷◌, ◌++◌, length, refl, sym, ap, subst, ◌∙◌, arith, eq-eqb}
use Rattle.std.specs.Prelude.{◌&&◌, map, is_some, replicate}
use borrow.Author.Tests.{eqb-true}
use lib.Pointwise.{pointwise}
use Rattle.std.specs.Option.{option_eq}
use Rattle.block_core.specs.contracts.inside.MachineInsidePartialEq.TheImpl.{eq-value}
use Rattle.block_core.specs.declared.sample.Sample.{Sample}
use Rattle.block_core.specs.declared.inside.MachineInside.{MachineInside}
use Rattle.block_core.specs.declared.inside.Inside.{Inside}
use Rattle.block_core.specs.Sample.{bits_of, same_numbers, same_sample, values_of}
use Rattle.pio_edge.specs.Edge.{with_bytes, TakesPrefix}
use Rattle.vcd_trace.specs.Shows.{AreInside}
use Rattle.vcd_trace.specs.TextForm.{HasPut}
use Rattle.vcd_trace.specs.VcdText.{changes_over, clock_line, widths}
use Rattle.vcd_trace.specs.InsideText.{bit_of, first_of_machine, inside_changes_text, inside_form, inside_open_text, inside_step_text, inside_text_of, machine_changes, machine_values, machine_widths, machine_variables, machines_changes, same_inside, same_machine, same_machines}
use Rattle.vcd_trace.specs.InsideTold.{places_code, taken_code, told_first}
use Rattle.vcd_trace.specs.Groups.{bit_changes}
use Rattle.vcd_trace.proofs.FormLaws.{AddsNothing}
use Rattle.vcd_trace.proofs.ToldLaws.{and_true, same_numbers-self, same_sample-self, same_sample-equal}
use Rattle.vcd_trace.proofs.ChangesLaws.{both_true, length-bits_of, same_numbers-equal}
use Rattle.vcd_trace.proofs.SilenceLaws.{bits_of-same, change_lines-none, changes_over-some, first_none, last_none, same_numbers-from}
use Rattle.vcd_trace.proofs.TextLaws.{change_lines-same}
use Rattle.vcd_trace.proofs.InsideLaws.{inside_changes-parts}

-- ---- the same is inside

same_machine-self : (m : Option MachineInside) → same_machine m m ≡ true
same_machine-self None = refl
same_machine-self (Some m) = same_numbers-self (machine_values m)

same_machines-self : (l : List (Option MachineInside)) → same_machines l l ≡ true
same_machines-self [] = refl
same_machines-self (m ∷ rest) = and_true (same_machine m m) (same_machines rest rest) (same_machine-self m) (same_machines-self rest)

same_inside-self : (s : Inside) → same_inside s s ≡ true
same_inside-self s =
    and_true _ _ (same_sample-self s.sample) (and_true _ _ (eq-eqb s.pads s.pads refl) (same_machines-self s.machines))

-- what is repeated adds nothing
pub inside_repeats_add-nothing : (configured : List Bool) → AddsNothing (inside_form configured)
inside_repeats_add-nothing configured clock s = ap (λ (b : Bool). cond b [] (clock_line clock ++ inside_changes_text s s)) (same_inside-self s)

-- a clock in which something else is inside adds its line and the changes
pub inside_step-changed : (clock : ℕ) (a b : Inside) → same_inside a b ≡ false → inside_step_text clock a b ≡ clock_line clock ++ inside_changes_text a b
inside_step-changed clock a b h = ap (λ (t : Bool). cond t [] (clock_line clock ++ inside_changes_text a b)) h

-- the line, then the changes one by one
pub inside_step-parts : (clock : ℕ) (a b : Inside) → same_inside a b ≡ false
    → inside_step_text clock a b ≡ clock_line clock ++ (changes_over 0 a.sample b.sample ++ (bit_changes 161 32 a.pads b.pads ++ machines_changes 0 a.machines b.machines))
inside_step-parts clock a b h = inside_step-changed clock a b h ∙ ap (λ (x : List ℕ). clock_line clock ++ x) (inside_changes-parts a b)

-- where the same is inside, there is nothing
pub inside_step-same : (clock : ℕ) (a b : Inside) → same_inside a b ≡ true → inside_step_text clock a b ≡ []
inside_step-same clock a b h = ap (λ (t : Bool). cond t [] (clock_line clock ++ inside_changes_text a b)) h

-- a sample that is shown again has no changes
pub changes_over-same : (more : ℕ) (s : Sample) → changes_over more s s ≡ []
unfolding changes_over
changes_over-same more s = change_lines-same (33 + more) widths (values_of s)

-- with the sample, the pads and the machines of a clock, it is what is inside then
pub inside-whole : (now : Inside) (s : Sample) → s ≡ now.sample → record { sample = s; pads = now.pads; machines = now.machines } ≡ now
inside-whole now s e =
    let two : Inside = record { sample = now.sample; pads = now.pads; machines = now.machines } in
    let same : record { sample = s; pads = now.pads; machines = now.machines } ≡ two = cc in
    same

-- a Boolean is known by its bit
same_bit : (a b : Bool) → bit_of a ≡ bit_of b → a ≡ b
same_bit true true h = refl
same_bit false false h = refl
same_bit true false h = absurd (omega (arith, h))
same_bit false true h = absurd (omega (arith, h))

-- a machine is known by its values
machine-known : (a b : MachineInside) → machine_values a ≡ machine_values b → a ≡ b
machine-known a b h =
    let waits_bit : bit_of a.waits ≡ bit_of b.waits = cc in
    let enabled_bit : bit_of a.enabled ≡ bit_of b.enabled = cc in
    let waits : a.waits ≡ b.waits = same_bit a.waits b.waits waits_bit in
    let enabled : a.enabled ≡ b.enabled = same_bit a.enabled b.enabled enabled_bit in
    let one : MachineInside = record { pc = a.pc; instruction = a.instruction; x = a.x; y = a.y; isr = a.isr; osr = a.osr; isr_count = a.isr_count; osr_count = a.osr_count; waits = a.waits; enabled = a.enabled } in
    let two : MachineInside = record { pc = b.pc; instruction = b.instruction; x = b.x; y = b.y; isr = b.isr; osr = b.osr; isr_count = b.isr_count; osr_count = b.osr_count; waits = b.waits; enabled = b.enabled } in
    let same : one ≡ two = cc in
    same

same_machine-equal : (a b : Option MachineInside) → same_machine a b ≡ true → a ≡ b
same_machine-equal None None h = refl
same_machine-equal None (Some b) h = cc
same_machine-equal (Some a) None h = cc
same_machine-equal (Some a) (Some b) h = ap Some (machine-known a b (same_numbers-equal (machine_values a) (machine_values b) h))

same_machines-equal : (xs ys : List (Option MachineInside)) → same_machines xs ys ≡ true → xs ≡ ys
same_machines-equal [] [] h = refl
same_machines-equal [] (y ∷ ys) h = cc
same_machines-equal (x ∷ xs) [] h = cc
same_machines-equal (x ∷ xs) (y ∷ ys) h =
    let t = both_true (same_machine x y) (same_machines xs ys) h in
    let first : x ≡ y = same_machine-equal x y t.0 in
    let rest : xs ≡ ys = same_machines-equal xs ys t.1 in
    cc

-- where the same is inside, it is that
pub same_inside-equal : (a b : Inside) → same_inside a b ≡ true → a ≡ b
same_inside-equal a b h =
    let s = both_true (same_sample a.sample b.sample) _ h in
    let p = both_true (eqb a.pads b.pads) (same_machines a.machines b.machines) s.1 in
    let sample : a.sample ≡ b.sample = same_sample-equal a.sample b.sample s.0 in
    let pads : a.pads ≡ b.pads = eqb-true _ _ p.0 in
    let machines : a.machines ≡ b.machines = same_machines-equal a.machines b.machines p.1 in
    let one : Inside = record { sample = a.sample; pads = a.pads; machines = a.machines } in
    let two : Inside = record { sample = b.sample; pads = b.pads; machines = b.machines } in
    let same : one ≡ two = cc in
    same

-- ---- the derived comparison

-- by the values of one bit
by_bits : (a b : MachineInside) (waits other enabled another : Bool)
    → eq-value.it (record a { waits = waits; enabled = enabled }) (record b { waits = other; enabled = another })
    ≡ same_numbers (machine_values (record a { waits = waits; enabled = enabled })) (machine_values (record b { waits = other; enabled = another }))
by_bits a b true true true true = refl
by_bits a b true true true false = refl
by_bits a b true true false true = refl
by_bits a b true true false false = refl
by_bits a b true false true true = refl
by_bits a b true false true false = refl
by_bits a b true false false true = refl
by_bits a b true false false false = refl
by_bits a b false true true true = refl
by_bits a b false true true false = refl
by_bits a b false true false true = refl
by_bits a b false true false false = refl
by_bits a b false false true true = refl
by_bits a b false false true false = refl
by_bits a b false false false true = refl
by_bits a b false false false false = refl

derived_machine-is : (a b : MachineInside) → eq-value.it a b ≡ same_numbers (machine_values a) (machine_values b)
derived_machine-is a b = by_bits a b a.waits b.waits a.enabled b.enabled

derived_option-is : (a b : Option MachineInside) → option_eq eq-value.it a b ≡ same_machine a b
derived_option-is None None = refl
derived_option-is None (Some b) = refl
derived_option-is (Some a) None = refl
derived_option-is (Some a) (Some b) = derived_machine-is a b

pub derived_machines-are : (xs ys : List (Option MachineInside)) → pointwise (option_eq eq-value.it) xs ys ≡ same_machines xs ys
derived_machines-are [] [] = refl
derived_machines-are [] (y ∷ ys) = refl
derived_machines-are (x ∷ xs) [] = refl
derived_machines-are (x ∷ xs) (y ∷ ys) =
    ap (λ (t : Bool). t && pointwise (option_eq eq-value.it) xs ys) (derived_option-is x y) ∙ ap (λ (t : Bool). same_machine x y && t) (derived_machines-are xs ys)

-- ---- where nothing has a line, the same is inside

length-values : (m : MachineInside) → length (machine_values m) ≡ length machine_widths
unfolding machine_widths machine_variables
length-values m = refl

same_machine-from : (place : ℕ) (a b : Option MachineInside) → is_some a ≡ is_some b → machine_changes place a b ≡ [] → same_machine a b ≡ true
same_machine-from place None None s h = refl
same_machine-from place None (Some b) s h = cc
same_machine-from place (Some a) None s h = cc
same_machine-from place (Some a) (Some b) s h =
    same_numbers-from _ _ (change_lines-none (first_of_machine place) machine_widths (machine_values a) (machine_values b) (length-values a) (length-values b) h)

same_machines-from : (place : ℕ) (xs ys : List (Option MachineInside)) → map is_some xs ≡ map is_some ys → machines_changes place xs ys ≡ [] → same_machines xs ys ≡ true
same_machines-from place [] [] s h = refl
same_machines-from place [] (y ∷ ys) s h = cc
same_machines-from place (x ∷ xs) [] s h = cc
same_machines-from place (x ∷ xs) (y ∷ ys) s h =
    let here : is_some x ≡ is_some y = cc in
    let others : map is_some xs ≡ map is_some ys = cc in
    and_true _ _ (same_machine-from place x y here (first_none (machine_changes place x y) (machines_changes (place + 1) xs ys) h))
    (same_machines-from (place + 1) xs ys others (last_none (machine_changes place x y) (machines_changes (place + 1) xs ys) h))

same_pads-from : (a b : ℕ) → a < 2 ^ 32 → b < 2 ^ 32 → bit_changes 161 32 a b ≡ [] → eqb a b ≡ true
unfolding bit_changes
same_pads-from a b h k none =
    eq-eqb a b (bits_of-same 32 a b h k (change_lines-none 161 (replicate 32 1) (bits_of 32 a) (bits_of 32 b) (length-bits_of 32 a) (length-bits_of 32 b) none))

-- the sample has no line, so another part has one
inside_some : (t : Bool) (a b : Inside) → same_sample a.sample b.sample ≡ t → AreInside a b → same_inside a b ≡ false → inside_changes_text a b ≡ [] → ⊥
inside_some false a b e r differ none =
    let first : changes_over 0 a.sample b.sample ≡ [] = first_none _ _ (sym (inside_changes-parts a b) ∙ none) in
    changes_over-some 0 a.sample b.sample r.first.sample r.second.sample e first
inside_some true a b e r differ none =
    let rest = last_none (changes_over 0 a.sample b.sample) _ (sym (inside_changes-parts a b) ∙ none) in
    let pads : eqb a.pads b.pads ≡ true = same_pads-from a.pads b.pads r.first.pads r.second.pads (first_none (bit_changes 161 32 a.pads b.pads) _ rest) in
    let machines : same_machines a.machines b.machines ≡ true = same_machines-from 0 a.machines b.machines r.places (last_none (bit_changes 161 32 a.pads b.pads) _ rest) in
    let same : same_inside a b ≡ true = and_true _ _ e (and_true _ _ pads machines) in
    cc

pub inside_changes-some : (a b : Inside) → AreInside a b → same_inside a b ≡ false → inside_changes_text a b ≡ [] → ⊥
inside_changes-some a b = inside_some (same_sample a.sample b.sample) a b refl

-- ---- what is told

-- the machines that are declared are known from what is told of them
some_code : (l : List Bool) → 0 < places_code l
some_code [] = omega arith
some_code (here ∷ rest) = let more = some_code rest in omega (arith, more)

bit-low : (b : Bool) → bit_of b < 2
bit-low true = omega arith
bit-low false = omega arith

same_places : (a b : List Bool) → places_code a ≡ places_code b → a ≡ b
same_places [] [] h = refl
same_places [] (y ∷ b) h = let more = some_code b in absurd (omega (arith, h, more))
same_places (x ∷ a) [] h = let more = some_code a in absurd (omega (arith, h, more))
same_places (x ∷ a) (y ∷ b) h =
    let low = bit-low x in
    let other = bit-low y in
    let here : x ≡ y = same_bit x y (let e : bit_of x ≡ bit_of y = omega (arith, h, low, other) in e) in
    let rest : a ≡ b = same_places a b (let e : places_code a ≡ places_code b = omega (arith, h, low, other) in e) in
    cc

head : List ℕ → ℕ
head [] = 0
head (x ∷ xs) = x

apart : (a b : ℕ) → a ≡ b → a ≡ 0 → b ≡ 1 → ⊥
apart a b e f g = omega arith

same_taken : (a b : Option (List ℕ)) → taken_code a ≡ taken_code b → a ≡ b
unfolding head
same_taken None None h = refl
same_taken (Some a) (Some b) h = cc
same_taken None (Some b) h = absurd (apart (head (taken_code None)) (head (taken_code (Some b))) (ap head h) refl refl)
same_taken (Some a) None h = absurd (apart (head (taken_code None)) (head (taken_code (Some a))) (ap head (sym h)) refl refl)

-- both are known from what a trace names for them
pub told-known : (a b : List Bool) (s t : Option (List ℕ)) → told_first a s ≡ told_first b t → (a ≡ b) × (s ≡ t)
told-known a b s t h =
    let codes : places_code a ≡ places_code b = cc in
    let takens : taken_code s ≡ taken_code t = cc in
    (same_places a b codes, same_taken s t takens)

-- ---- the trace

-- the text before the first clock was put, by a trace that names these machines
pub begins : (own configured : List Bool) (now taken taken' : Option (List ℕ)) (last : Option Inside) → told_first own now ≡ told_first configured taken
    → taken' ≡ with_bytes now (inside_open_text own []) → last ≡ None → HasPut (inside_form configured) taken [] false taken' last
begins own configured now taken taken' last same bytes none =
    let known = told-known own configured now taken same in
    let P : List Bool → Type 0 = λ places. taken' ≡ with_bytes now (inside_open_text places []) in
    let Q : Option (List ℕ) → Type 0 = λ before. taken' ≡ with_bytes before (inside_open_text configured []) in
    record { text = subst Q known.1 (subst P known.0 bytes); remembered = none }

-- or only a first part of it
pub begin_breaks : (own configured : List Bool) (now taken taken' : Option (List ℕ)) → told_first own now ≡ told_first configured taken
    → TakesPrefix now (inside_open_text own []) taken' → TakesPrefix taken (inside_text_of configured [] false) taken'
begin_breaks own configured now taken taken' same bytes =
    let known = told-known own configured now taken same in
    let P : List Bool → Type 0 = λ places. TakesPrefix now (inside_open_text places []) taken' in
    let Q : Option (List ℕ) → Type 0 = λ before. TakesPrefix before (inside_open_text configured []) taken' in
    subst Q known.1 (subst P known.0 bytes)
