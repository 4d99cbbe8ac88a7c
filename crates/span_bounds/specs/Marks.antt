-- Marks of the first sweep, as entries.
use Rattle.span_step.specs.declared.ages.Ages.TheVariants.{Empty, Between}
use Rattle.span_bounds.specs.declared.entry.Entry.{Entry}
use Rattle.span_bounds.specs.declared.entry.Entry.TheVariants as entry
use Rattle.span_bounds.specs.declared.marks.ContextMark.{ContextMark}
use Rattle.span_bounds.specs.declared.marks.ContextMark.TheVariants.{Absent, Closed, Open}

-- the entry that a mark is for, with the age 0 for any
abbrev pub marked : ContextMark → Entry
marked Absent = entry.Absent
marked Closed = entry.Present Empty
marked Open = entry.Present (Between 0 0)
