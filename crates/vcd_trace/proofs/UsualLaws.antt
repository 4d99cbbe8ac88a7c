-- What a usual clock adds: its line, then the lines of a level, of a pad and of the machines.
use Rattle.std.proofs.Common.{◌≡◌, ℕ, ◌+◌, ◌*◌, ◌≤◌, Bool, true, false, Option, Some, None, List, [], ◌∷◌, ◌++◌, length, drop, get_or, cond, eqb, refl, sym, ap, ◌∙◌, arith, append_assoc, append-nil, length-drop}
use Rattle.std.specs.Prelude.{replicate}
use Rattle.std.proofs.lemmas.List.{drop_all}
use Rattle.block_core.specs.declared.inside.MachineInside.{MachineInside}
use Rattle.block_core.specs.declared.inside.Inside.{Inside}
use Rattle.block_core.specs.Sample.{bits_of}
use Rattle.vcd_trace.specs.VcdText.{bit_line, change_lines, changes_over, clock_line, vector_line}
use Rattle.vcd_trace.specs.Groups.{bit_changes, vector_changes}
use Rattle.vcd_trace.specs.InsideText.{bit_of, first_of_machine, inside_changes_text, inside_step_text, machine_changes, machine_values, machine_widths, machines_changes, same_inside}
use Rattle.vcd_trace.specs.InsideGroups.{counts_of, flags_of, register_changes, registers_of}
use Rattle.vcd_trace.proofs.TextLaws.{bit_changes-same, change_lines-same}
use Rattle.vcd_trace.proofs.InsideLaws.{flags-bits, inside_changes-parts, machines_changes-turn}
use Rattle.vcd_trace.proofs.InsideSame.{changes_over-same, inside_step-changed, same_inside-equal}

-- the machines one by one
pub machines_changes-four : (a b : List (Option MachineInside)) (d e : Option MachineInside) → length a ≡ 4 → length b ≡ 4
    → machines_changes 0 a b ≡ machine_changes 0 (get_or a 0 d) (get_or b 0 e) ++ (machine_changes 1 (get_or a 1 d) (get_or b 1 e) ++ (machine_changes 2 (get_or a 2 d) (get_or b 2 e) ++ machine_changes 3 (get_or a 3 d) (get_or b 3 e)))
machines_changes-four a b d e h k =
    let m : ℕ → List ℕ = λ i. machine_changes i (get_or a i d) (get_or b i e) in
    let end : machines_changes 4 (drop 4 a) (drop 4 b) ≡ [] = ap (λ (l : List (Option MachineInside)). machines_changes 4 l (drop 4 b)) (drop_all 4 a (omega (arith, h))) in
    machines_changes-turn a b 0 d e (omega (arith, h)) (omega (arith, k))
    ∙ ap (λ (x : List ℕ). m 0 ++ x) (machines_changes-turn a b 1 d e (omega (arith, h)) (omega (arith, k))
    ∙ ap (λ (x : List ℕ). m 1 ++ x) (machines_changes-turn a b 2 d e (omega (arith, h)) (omega (arith, k))
    ∙ ap (λ (x : List ℕ). m 2 ++ x) (machines_changes-turn a b 3 d e (omega (arith, h)) (omega (arith, k))
    ∙ ap (λ (x : List ℕ). m 3 ++ x) end ∙ append-nil (m 3))))

-- four texts that were written each before the next one
pub chain-four : (a b c d first second third fourth end : List ℕ) → first ≡ a ++ second → second ≡ b ++ third → third ≡ c ++ fourth → fourth ≡ d ++ end → end ≡ [] → first ≡ a ++ (b ++ (c ++ d))
chain-four a b c d first second third fourth end e f h k last =
    e ∙ ap (λ (l : List ℕ). a ++ l) (f ∙ ap (λ (l : List ℕ). b ++ l) (h ∙ ap (λ (l : List ℕ). c ++ l) (k ∙ ap (λ (l : List ℕ). d ++ l) last ∙ append-nil d)))

-- machines that stay have no lines
machine_changes-same : (place : ℕ) (m : Option MachineInside) → machine_changes place m m ≡ []
machine_changes-same place None = refl
machine_changes-same place (Some m) = change_lines-same (first_of_machine place) machine_widths (machine_values m)

machines_changes-same : (place : ℕ) (l : List (Option MachineInside)) → machines_changes place l l ≡ []
machines_changes-same place [] = refl
machines_changes-same place (m ∷ rest) =
    ap (λ (x : List ℕ). x ++ machines_changes (place + 1) rest rest) (machine_changes-same place m) ∙ machines_changes-same (place + 1) rest

-- what stays has no lines
inside_changes-same : (s : Inside) → inside_changes_text s s ≡ []
inside_changes-same s =
    inside_changes-parts s s
    ∙ ap (λ (x : List ℕ). x ++ (bit_changes 161 32 s.pads s.pads ++ machines_changes 0 s.machines s.machines)) (changes_over-same 0 s.sample)
    ∙ ap (λ (x : List ℕ). x ++ machines_changes 0 s.machines s.machines) (bit_changes-same 161 32 s.pads)
    ∙ machines_changes-same 0 s.machines

-- where there are lines, they come after the clock's
step_by : (t : Bool) (clock : ℕ) (a b : Inside) → same_inside a b ≡ t → (inside_changes_text a b ≡ [] → ⊥) → inside_step_text clock a b ≡ clock_line clock ++ inside_changes_text a b
step_by true clock a b h some = absurd (some (ap (λ (s : Inside). inside_changes_text a s) (sym (same_inside-equal a b h)) ∙ inside_changes-same a))
step_by false clock a b h some = inside_step-changed clock a b h

-- the lines of a level, of a pad and of the machines
abbrev pub usual_changes : (a b : Inside) → List ℕ
usual_changes a b = bit_changes 33 32 a.sample.level b.sample.level ++ (bit_changes 161 32 a.pads b.pads ++ machines_changes 0 a.machines b.machines)

-- where there are some, they come after the clock's line
pub gathered : (size clock : ℕ) (a b : Inside) (room : List ℕ) (end : ℕ)
    → changes_over 0 a.sample b.sample ≡ bit_changes 33 32 a.sample.level b.sample.level → length room ≡ size → end ≤ size → (end ≡ size → ⊥)
    → drop end room ≡ usual_changes a b → clock_line clock ++ drop end room ≡ inside_step_text clock a b
gathered size clock a b room end rest h w some text =
    let whole : drop end room ≡ inside_changes_text a b =
    text ∙ sym (inside_changes-parts a b ∙ ap (λ (x : List ℕ). x ++ (bit_changes 161 32 a.pads b.pads ++ machines_changes 0 a.machines b.machines)) rest) in
    let lines : inside_changes_text a b ≡ [] → ⊥ = λ none.
    let e : drop end room ≡ [] = whole ∙ none in
    absurd (some (omega (arith, ap length e, length-drop end room, h, w))) in
    ap (λ (x : List ℕ). clock_line clock ++ x) whole ∙ sym (step_by (same_inside a b) clock a b refl lines)

-- ---- the registers

pair : (a b r : List ℕ) → a ++ (b ++ r) ≡ (a ++ (b ++ [])) ++ r
pair a b r = simp append_assoc

eight : (a b c d e f g r : List ℕ) → a ++ (b ++ (c ++ (d ++ ((e ++ f) ++ (g ++ r))))) ≡ ((a ++ (b ++ (c ++ (d ++ (e ++ (f ++ [])))))) ++ g) ++ r
eight a b c d e f g r = simp append_assoc

-- their lines one by one
abbrev pub word_change : (id before now : ℕ) → List ℕ
word_change id before now = cond (eqb before now) [] (vector_line id now)

abbrev pub flag_change : (id : ℕ) (before now : Bool) → List ℕ
flag_change id before now = cond (eqb (bit_of before) (bit_of now)) [] (bit_line id (bit_of now))

-- the lines of two bits
flags-changes : (id : ℕ) (a b c d : Bool) → bit_changes id 2 (bit_of a + 2 * bit_of b) (bit_of c + 2 * bit_of d) ≡ flag_change id a c ++ (flag_change (id + 1) b d ++ [])
unfolding bit_changes
flags-changes id a b c d =
    ap (λ (l : List ℕ). change_lines id (replicate 2 1) l (bits_of 2 (bit_of c + 2 * bit_of d))) (sym (flags-bits a b))
    ∙ ap (λ (l : List ℕ). change_lines id (replicate 2 1) (bit_of a ∷ bit_of b ∷ []) l) (sym (flags-bits c d))

pub counts-two : (id : ℕ) (a b : MachineInside) → vector_changes id (counts_of a) (counts_of b) ≡ word_change id a.isr_count b.isr_count ++ word_change (id + 1) a.osr_count b.osr_count
counts-two id a b = ap (λ (x : List ℕ). word_change id a.isr_count b.isr_count ++ x) (append-nil (word_change (id + 1) a.osr_count b.osr_count))

registers-ids : (id : ℕ) (a b : MachineInside) → vector_changes id (registers_of a) (registers_of b)
    ≡ word_change id a.x b.x ++ (word_change (id + 1) a.y b.y ++ (word_change (id + 2) a.isr b.isr ++ (word_change (id + 3) a.osr b.osr ++ (word_change (id + 4) a.isr_count b.isr_count ++ (word_change (id + 5) a.osr_count b.osr_count ++ [])))))
registers-ids id a b =
    ap (λ (n : ℕ). word_change id a.x b.x ++ (word_change (id + 1) a.y b.y ++ vector_changes n (a.isr ∷ a.osr ∷ counts_of a) (b.isr ∷ b.osr ∷ counts_of b))) (let e : id + 1 + 1 ≡ id + 2 = omega arith in e)
    ∙ ap (λ (n : ℕ). word_change id a.x b.x ++ (word_change (id + 1) a.y b.y ++ (word_change (id + 2) a.isr b.isr ++ vector_changes n (a.osr ∷ counts_of a) (b.osr ∷ counts_of b)))) (let e : id + 2 + 1 ≡ id + 3 = omega arith in e)
    ∙ ap (λ (n : ℕ). word_change id a.x b.x ++ (word_change (id + 1) a.y b.y ++ (word_change (id + 2) a.isr b.isr ++ (word_change (id + 3) a.osr b.osr ++ vector_changes n (counts_of a) (counts_of b))))) (let e : id + 3 + 1 ≡ id + 4 = omega arith in e)
    ∙ ap (λ (n : ℕ). word_change id a.x b.x ++ (word_change (id + 1) a.y b.y ++ (word_change (id + 2) a.isr b.isr ++ (word_change (id + 3) a.osr b.osr ++ (word_change (id + 4) a.isr_count b.isr_count ++ (word_change n a.osr_count b.osr_count ++ [])))))) (let e : id + 4 + 1 ≡ id + 5 = omega arith in e)

-- all of them, each before what follows it
pub registers-eight : (id : ℕ) (a b : MachineInside) (rest : List ℕ)
    → word_change id a.x b.x ++ (word_change (id + 1) a.y b.y ++ (word_change (id + 2) a.isr b.isr ++ (word_change (id + 3) a.osr b.osr
    ++ (vector_changes (id + 4) (counts_of a) (counts_of b) ++ (flag_change (id + 6) a.waits b.waits ++ (flag_change (id + 7) a.enabled b.enabled ++ rest))))))
    ≡ register_changes id a b ++ rest
registers-eight id a b rest =
    let w : ℕ → ℕ → ℕ → List ℕ = λ n v u. word_change n v u in
    let flags : List ℕ = flag_change (id + 6) a.waits b.waits ++ (flag_change (id + 6 + 1) a.enabled b.enabled ++ []) in
    let words : vector_changes id (registers_of a) (registers_of b)
    ≡ w id a.x b.x ++ (w (id + 1) a.y b.y ++ (w (id + 2) a.isr b.isr ++ (w (id + 3) a.osr b.osr ++ (w (id + 4) a.isr_count b.isr_count ++ (w (id + 5) a.osr_count b.osr_count ++ []))))) =
    registers-ids id a b in
    let two : vector_changes (id + 4) (counts_of a) (counts_of b) ≡ w (id + 4) a.isr_count b.isr_count ++ w (id + 5) a.osr_count b.osr_count =
    counts-two (id + 4) a b ∙ ap (λ (n : ℕ). w (id + 4) a.isr_count b.isr_count ++ w n a.osr_count b.osr_count) (let e : id + 4 + 1 ≡ id + 5 = omega arith in e) in
    let last : flag_change (id + 6) a.waits b.waits ++ (flag_change (id + 7) a.enabled b.enabled ++ rest) ≡ bit_changes (id + 6) 2 (flags_of a) (flags_of b) ++ rest =
    ap (λ (n : ℕ). flag_change (id + 6) a.waits b.waits ++ (flag_change n a.enabled b.enabled ++ rest)) (let e : id + 7 ≡ id + 6 + 1 = omega arith in e)
    ∙ pair (flag_change (id + 6) a.waits b.waits) (flag_change (id + 6 + 1) a.enabled b.enabled) rest
    ∙ ap (λ (x : List ℕ). x ++ rest) (sym (flags-changes (id + 6) a.waits a.enabled b.waits b.enabled)) in
    ap (λ (t : List ℕ). w id a.x b.x ++ (w (id + 1) a.y b.y ++ (w (id + 2) a.isr b.isr ++ (w (id + 3) a.osr b.osr ++ (vector_changes (id + 4) (counts_of a) (counts_of b) ++ t))))) last
    ∙ ap (λ (t : List ℕ). w id a.x b.x ++ (w (id + 1) a.y b.y ++ (w (id + 2) a.isr b.isr ++ (w (id + 3) a.osr b.osr ++ (t ++ (bit_changes (id + 6) 2 (flags_of a) (flags_of b) ++ rest)))))) two
    ∙ eight (w id a.x b.x) (w (id + 1) a.y b.y) (w (id + 2) a.isr b.isr) (w (id + 3) a.osr b.osr) (w (id + 4) a.isr_count b.isr_count) (w (id + 5) a.osr_count b.osr_count) (bit_changes (id + 6) 2 (flags_of a) (flags_of b)) rest
    ∙ ap (λ (t : List ℕ). (t ++ bit_changes (id + 6) 2 (flags_of a) (flags_of b)) ++ rest) (sym words)
