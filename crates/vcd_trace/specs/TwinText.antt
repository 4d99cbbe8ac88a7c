-- What the value-change text of the samples of two blocks is: as that of one, with a scope for each.
use Rattle.std.specs.Prelude.{ℕ, ◌&&◌, Bool, List, [], ◌++◌, codes, if◌then◌else◌}
use Rattle.block_core.specs.declared.sample.Sample.{Sample}
use Rattle.block_core.specs.Sample.{same_sample}
use Rattle.vcd_trace.specs.TextForm.{TextForm, opened_text, whole_text, told_text}
use Rattle.vcd_trace.specs.VcdText.{second_scope, scope_text, clock_line, values_over, changes_over}

-- the declaration commands: time scale, and a scope for each block
unfoldable pub twin_header_text : List ℕ
twin_header_text = codes "$timescale 1 ns $end\n" ++ scope_text (codes "$scope module pio0 $end\n") 0 ++ scope_text (codes "$scope module pio1 $end\n") second_scope ++ codes "$enddefinitions $end\n"

-- `$dumpvars`, all values of the first block, then of the second, `$end`
unfoldable pub twin_dump_text : Sample × Sample → List ℕ
twin_dump_text s = codes "$dumpvars\n" ++ values_over 0 s.0 ++ values_over second_scope s.1 ++ codes "$end\n"

-- the values that a clock changes of the first block, then of the second
abbrev pub twin_changes_text : (before now : Sample × Sample) → List ℕ
twin_changes_text before now = changes_over 0 before.0 now.0 ++ changes_over second_scope before.1 now.1

-- two pairs of samples show the same
abbrev pub same_samples : (before now : Sample × Sample) → Bool
same_samples before now = same_sample before.0 now.0 && same_sample before.1 now.1

-- what a clock adds to the text: nothing where its samples are those of the clock before
abbrev pub twin_step_text : ℕ → (before now : Sample × Sample) → List ℕ
twin_step_text clock before now = if same_samples before now then [] else clock_line clock ++ twin_changes_text before now

-- the text of pairs of samples
abbrev pub twin_form : TextForm (Sample × Sample)
twin_form = record { head = twin_header_text ++ clock_line 0; first = twin_dump_text; later = twin_step_text; closing = clock_line }

-- the text of the samples from clock 0 on, without the clock that closes it
abbrev pub twin_open_text : List (Sample × Sample) → List ℕ
twin_open_text told = opened_text twin_form told

-- the whole text of the samples from clock 0 on
abbrev pub twin_text : List (Sample × Sample) → List ℕ
twin_text told = whole_text twin_form told

-- the text after these samples, with the clock that closes it where they have ended
abbrev pub twin_text_of : List (Sample × Sample) → Bool → List ℕ
twin_text_of told ended = told_text twin_form told ended
