-- What the fields of a line say: first its form, then the ranges of its numbers (choice of this profile).
--   verb_of   the word after the clock
--   has_form  that all other fields are numbers, and as many as the word wants
--   act_of    what the numbers say, where they are in their ranges: machines are below so many
--   line_of   the line, or what is wrong with it
use Rattle.std.specs.Prelude.{ℕ, ◌-◌, ◌==◌, ◌&&◌, min, Bool, Option, Some, None, option_and_then, List, [], ◌∷◌, drop, slice_get, length, Result, Ok, Err, if◌then◌else◌, codes}
use Rattle.std.specs.List.{list_all}
use Rattle.std.specs.Str.{bytes_eq}
use Rattle.answers.specs.Steps.{◌>>=◌}
use Rattle.dreq_pacing.specs.declared.fault.StimKind.{StimKind}
use Rattle.dreq_pacing.specs.declared.fault.StimKind.TheVariants.{BadLine, Range}
use Rattle.dreq_pacing.specs.declared.verb.Verb.{Verb}
use Rattle.dreq_pacing.specs.declared.verb.Verb.TheVariants as verb
use Rattle.dreq_pacing.specs.declared.line.LineAct.{LineAct}
use Rattle.dreq_pacing.specs.declared.line.LineAct.TheVariants as act
use Rattle.dreq_pacing.specs.declared.line.Line.{Line}
use Rattle.dreq_pacing.specs.Lines.{last_clock, longest_period}
use Rattle.dreq_pacing.specs.Number.{is_number, in_range}

-- the greatest word
abbrev pub greatest_word : ℕ
greatest_word = 4294967295

-- the words that version 2 adds
abbrev pub second_verb_of : List ℕ → Option Verb
second_verb_of name =
    if bytes_eq name (codes "enable") then Some verb.Enable else
    if bytes_eq name (codes "disable") then Some verb.Disable else
    if bytes_eq name (codes "restart") then Some verb.Restart else None

-- the word of a name, in a file of version 2 or not
abbrev pub verb_of : Bool → List ℕ → Option Verb
verb_of two name =
    if bytes_eq name (codes "pin") then Some verb.Pin else
    if bytes_eq name (codes "tx") then Some verb.Tx else
    if bytes_eq name (codes "rx") then Some verb.Rx else
    if bytes_eq name (codes "feed") then Some verb.Feed else
    if bytes_eq name (codes "drain") then Some verb.Drain else
    if two then second_verb_of name else None

-- whether a word wants so many fields after it, where three is for more too
abbrev pub fits : Verb → ℕ → Bool
fits verb.Pin count = count == 2
fits verb.Tx count = count == 2
fits verb.Rx count = count == 1
fits verb.Feed count = count == 3
fits verb.Drain count = count == 2
fits verb.Enable count = count == 1
fits verb.Disable count = count == 1
fits verb.Restart count = count == 1

-- whether all fields are numbers
abbrev pub are_numbers : List (List ℕ) → Bool
are_numbers fields = list_all is_number fields

-- whether the clock and the fields after the word are numbers, and as many as the word wants: for a feed three or more
abbrev pub has_form : Verb → List ℕ → List (List ℕ) → Bool
has_form verb clock args = is_number clock && (fits verb (min (length args) 3) && are_numbers args)

-- the number of a field, where there is one from `low` to `high`
abbrev pub number : ℕ → ℕ → Option (List ℕ) → Option ℕ
number low high None = None
number low high (Some field) = in_range low high field

-- the machine of a field, where there is one of so many
abbrev pub machine : ℕ → Option (List ℕ) → Option ℕ
machine machines field = number 0 (machines - 1) field

-- the words that some fields are
abbrev pub all_words : List (List ℕ) → Option (List ℕ)
all_words [] = Some []
all_words (field ∷ fields) = do
  word ← in_range 0 greatest_word field
  words ← all_words fields
  Some (word ∷ words)

-- words, where there is one
abbrev pub if_any : List ℕ → Option (List ℕ)
if_any [] = None
if_any (word ∷ words) = Some (word ∷ words)

-- the words of a feed
abbrev pub words_of : List (List ℕ) → Option (List ℕ)
words_of fields = option_and_then if_any (all_words fields)

-- each form's act, where its fields are numbers in their ranges (choice of this profile): a pin's outside value
abbrev pub pin_act : Option (List ℕ) → Option (List ℕ) → Option LineAct
pin_act pin level = do
  p ← number 0 31 pin
  l ← number 0 1 level
  Some (act.Pin p (l == 1))

-- a word written to a TX FIFO
abbrev pub tx_act : ℕ → Option (List ℕ) → Option (List ℕ) → Option LineAct
tx_act machines field word = do
  m ← machine machines field
  w ← number 0 greatest_word word
  Some (act.Tx m w)

-- a read of an RX FIFO
abbrev pub rx_act : ℕ → Option (List ℕ) → Option LineAct
rx_act machines field = do
  m ← machine machines field
  Some (act.Rx m)

-- a transfer of words to a TX FIFO, at most one in so many clocks
abbrev pub feed_act : ℕ → Option (List ℕ) → Option (List ℕ) → List (List ℕ) → Option LineAct
feed_act machines field every words = do
  m ← machine machines field
  e ← number 1 longest_period every
  ws ← words_of words
  Some (act.Feed m e ws)

-- a transfer out of an RX FIFO, at most one in so many clocks
abbrev pub drain_act : ℕ → Option (List ℕ) → Option (List ℕ) → Option LineAct
drain_act machines field every = do
  m ← machine machines field
  e ← number 1 longest_period every
  Some (act.Drain m e)

-- a machine is enabled
abbrev pub enable_act : ℕ → Option (List ℕ) → Option LineAct
enable_act machines field = do
  m ← machine machines field
  Some (act.Enable m)

-- a machine is disabled
abbrev pub disable_act : ℕ → Option (List ℕ) → Option LineAct
disable_act machines field = do
  m ← machine machines field
  Some (act.Disable m)

-- a machine's divider is restarted
abbrev pub restart_act : ℕ → Option (List ℕ) → Option LineAct
restart_act machines field = do
  m ← machine machines field
  Some (act.Restart m)

-- what the fields after the word say, where they are in their ranges
abbrev pub act_of : ℕ → Verb → List (List ℕ) → Option LineAct
act_of machines verb.Pin args = pin_act (slice_get args 0) (slice_get args 1)
act_of machines verb.Tx args = tx_act machines (slice_get args 0) (slice_get args 1)
act_of machines verb.Rx args = rx_act machines (slice_get args 0)
act_of machines verb.Feed args = feed_act machines (slice_get args 0) (slice_get args 1) (drop 2 args)
act_of machines verb.Drain args = drain_act machines (slice_get args 0) (slice_get args 1)
act_of machines verb.Enable args = enable_act machines (slice_get args 0)
act_of machines verb.Disable args = disable_act machines (slice_get args 0)
act_of machines verb.Restart args = restart_act machines (slice_get args 0)

-- the line of a clock, where all is in its range
abbrev pub ranged : Option ℕ → Option LineAct → Result Line StimKind
ranged None act = Err Range
ranged (Some clock) None = Err Range
ranged (Some clock) (Some act) = Ok (record { clock = clock; act = act })

-- the line with a word, or what is wrong with it
abbrev pub line_by : ℕ → Verb → List ℕ → List (List ℕ) → Result Line StimKind
line_by machines verb clock args =
    if has_form verb clock args then ranged (in_range 0 last_clock clock) (act_of machines verb args) else Err BadLine

-- the same where there is a word
abbrev pub line_with : ℕ → Option Verb → List ℕ → List (List ℕ) → Result Line StimKind
line_with machines None clock args = Err BadLine
line_with machines (Some verb) clock args = line_by machines verb clock args

-- the line that fields are, beside so many machines, in a file of version 2 or not
abbrev pub line_of : ℕ → Bool → List (List ℕ) → Result Line StimKind
line_of machines two [] = Err BadLine
line_of machines two (clock ∷ []) = Err BadLine
line_of machines two (clock ∷ name ∷ args) = line_with machines (verb_of two name) clock args
