-- The line of a verdict on a span (choice of this profile). Each begins with some text before it: none where `check` writes it,
-- and the program's name in the line of a fault.
--   proved_line      the line of a span that is proved
--   refusal_line     the line of a span that isn't
--   verdict_line     the line of either
use Rattle.std.specs.Prelude.{ℕ, ◌++◌, Bool, true, false, Option, Some, None, List, Result, Ok, Err, codes}
use Rattle.span_step.specs.declared.cause.Cause.{Cause}
use Rattle.span_step.specs.Contexts.{Context}
use Rattle.span_texts.specs.declared.refusal.Finding.{Finding}
use Rattle.span_texts.specs.declared.refusal.Refusal.{Refusal}
use Rattle.span_texts.specs.declared.refusal.Refusal.TheVariants.{Unproved, Shared}
use Rattle.span_texts.specs.Words.{cause_ending, told_at, told_number}

-- whether a span opens, or closes
abbrev pub yes_text : Bool → List ℕ
yes_text false = codes "no"
yes_text true = codes "yes"

-- the line of a span that is proved, with this word for whether it opens
abbrev pub opening_line : (front name opens : List ℕ) → List ℕ
opening_line front name opens = front ++ codes "span " ++ name ++ codes " proved opens " ++ opens ++ codes "\n"

-- under which premises a span is proved: that its machine doesn't wait, and that its assumptions hold
abbrev pub premise_text : (prompt assumes : Bool) → List ℕ
premise_text false false = codes ""
premise_text true false = codes " under prompt"
premise_text false true = codes " under assume"
premise_text true true = codes " under prompt, assume"

-- the same with a word for whether it closes, and the premise
abbrev pub closing_line : (front name opens closes premise : List ℕ) → List ℕ
closing_line front name opens closes premise =
    front ++ codes "span " ++ name ++ codes " proved opens " ++ opens ++ codes " closes " ++ closes ++ premise ++ codes "\n"

-- the one or the other
abbrev pub line_by : (front name opens premise : List ℕ) → Option Bool → List ℕ
line_by front name opens premise None = opening_line front name opens
line_by front name opens premise (Some closes) = closing_line front name opens (yes_text closes) premise

-- the line of a span that is proved
abbrev pub proved_line : (front name : List ℕ) → Finding → List ℕ
proved_line front name f = line_by front name (yes_text f.opens) (premise_text f.prompt f.assumes) f.closes

-- the line of a span whose table has this bad context, for this cause
abbrev pub unproved_line : (front name : List ℕ) → Context → Cause → List ℕ
unproved_line front name k cause = told_at front name (codes " unproved at ") k (cause_ending cause)

-- the line of a span of which another machine may write a pin
abbrev pub shared_line : (front name : List ℕ) → (machine : ℕ) → List ℕ
shared_line front name machine = told_number front name (codes " unproved by machine ") machine (codes ": U5\n")

-- the line of a span that isn't proved
abbrev pub refusal_line : (front name : List ℕ) → Refusal → List ℕ
refusal_line front name (Unproved context cause) = unproved_line front name context cause
refusal_line front name (Shared machine) = shared_line front name machine

-- the line of a verdict
abbrev pub verdict_line : (front name : List ℕ) → Result Finding Refusal → List ℕ
verdict_line front name (Ok finding) = proved_line front name finding
verdict_line front name (Err refusal) = refusal_line front name refusal
