-- A line with a word other than `feed`, by the numbers of its fields, each worked out once.
--   capped_of    the number of a field, or one past every range where it is more
--   one_or_two   the numbers of one field or two
--   short_act    what the numbers say, where they are in their ranges
--   short_line   the line, or what is wrong with it
use Rattle.std.specs.Prelude.{ℕ, ◌-◌, ◌==◌, Option, Some, None, option_map, List, [], ◌∷◌, Result, Err, if◌then◌else◌}
use Rattle.answers.specs.Steps.{◌>>=◌}
use Rattle.dreq_pacing.specs.declared.fault.StimKind.{StimKind}
use Rattle.dreq_pacing.specs.declared.fault.StimKind.TheVariants.{BadLine}
use Rattle.dreq_pacing.specs.declared.verb.Verb.{Verb}
use Rattle.dreq_pacing.specs.declared.verb.Verb.TheVariants as verb
use Rattle.dreq_pacing.specs.declared.line.LineAct.{LineAct}
use Rattle.dreq_pacing.specs.declared.line.LineAct.TheVariants as act
use Rattle.dreq_pacing.specs.declared.line.Line.{Line}
use Rattle.dreq_pacing.specs.Lines.{last_clock, longest_period}
use Rattle.dreq_pacing.specs.Number.{number_of, capped, within}
use Rattle.dreq_pacing.specs.Form.{fits, greatest_word, ranged}

-- the number of a field, or one past every range where it is more
abbrev pub capped_of : List ℕ → Option ℕ
capped_of field = option_map capped (number_of field)

-- the numbers of one field or two, if there are so many and they are numbers
abbrev pub one_or_two : List (List ℕ) → Option (ℕ × Option ℕ)
one_or_two [] = None
one_or_two (a ∷ []) = do
  first ← capped_of a
  Some (first, None)
one_or_two (a ∷ b ∷ []) = do
  first ← capped_of a
  second ← capped_of b
  Some (first, Some second)
one_or_two (a ∷ b ∷ c ∷ more) = None

-- how many fields those numbers are
abbrev pub count_of : Option ℕ → ℕ
count_of None = 1
count_of (Some second) = 2

-- the machine of a number, where there is one of so many
abbrev pub machine_of : ℕ → Option ℕ → Option ℕ
machine_of machines number = within 0 (machines - 1) number

-- each word's act, where its numbers are in their ranges: a pin's outside value
abbrev pub pin_by : Option ℕ → Option ℕ → Option LineAct
pin_by pin level = do
  p ← within 0 31 pin
  l ← within 0 1 level
  Some (act.Pin p (l == 1))

-- a word written to a TX FIFO
abbrev pub tx_by : ℕ → Option ℕ → Option ℕ → Option LineAct
tx_by machines first word = do
  m ← machine_of machines first
  w ← within 0 greatest_word word
  Some (act.Tx m w)

-- a transfer out of an RX FIFO
abbrev pub drain_by : ℕ → Option ℕ → Option ℕ → Option LineAct
drain_by machines first every = do
  m ← machine_of machines first
  e ← within 1 longest_period every
  Some (act.Drain m e)

-- what a machine alone is named for
abbrev pub by_machine : (ℕ → LineAct) → ℕ → Option ℕ → Option LineAct
by_machine what machines first = do
  m ← machine_of machines first
  Some (what m)

-- what the numbers say, where they are in their ranges
abbrev pub short_act : ℕ → Verb → Option ℕ → Option ℕ → Option LineAct
short_act machines verb.Pin first second = pin_by first second
short_act machines verb.Tx first second = tx_by machines first second
short_act machines verb.Rx first second = by_machine act.Rx machines first
short_act machines verb.Feed first second = None
short_act machines verb.Drain first second = drain_by machines first second
short_act machines verb.Enable first second = by_machine act.Enable machines first
short_act machines verb.Disable first second = by_machine act.Disable machines first
short_act machines verb.Restart first second = by_machine act.Restart machines first

-- the line of these numbers, or what is wrong with it
abbrev pub short_line : ℕ → Verb → Option ℕ → Option (ℕ × Option ℕ) → Result Line StimKind
short_line machines verb None numbers = Err BadLine
short_line machines verb (Some clock) None = Err BadLine
short_line machines verb (Some clock) (Some (first, second)) =
    if fits verb (count_of second)
    then ranged (within 0 last_clock (Some clock)) (short_act machines verb (Some first) second)
    else Err BadLine
