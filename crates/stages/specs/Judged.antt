-- What the files of a command come to: bytes within their limit, programs, words, a setup, the lines of a stimulus; or
-- the first fault in the order of reading.
use Rattle.std.specs.Prelude.{ℕ, nat_lt, Bool, true, false, if◌then◌else◌, Option, Some, None, List, [], length, Result, Ok, Err}
use Rattle.std.specs.FinMap.{get}
use Rattle.pio_edge.specs.Edge.{Files}
use Rattle.pio_assemble.specs.Program.{Assembled}
use Rattle.pio_assemble.specs.Answers.{SourceRefusal}
use Rattle.pio_assemble.specs.Source.{reads_source}
use Rattle.fault_lines.specs.declared.fault.File.{File}
use Rattle.fault_lines.specs.declared.fault.File.TheVariants as file
use Rattle.fault_lines.specs.declared.fault.Fault.{Fault}
use Rattle.fault_lines.specs.declared.fault.Fault.TheVariants as fault
use Rattle.dreq_pacing.specs.declared.line.Line.{Line}
use Rattle.dreq_pacing.specs.Reading as stimulus
use Rattle.dreq_pacing.specs.Reading.{stimulus_of}
use Rattle.dreq_pacing.specs.Blocks.{pair_stimulus_of}
use Rattle.pin_matrix.specs.Followed.{followed}
use Rattle.pin_matrix.specs.declared.assume.Follow.{Follow}
use Rattle.pin_matrix.specs.declared.setup.Setup.{Setup}
use Rattle.block_config.specs.Answer as config
use Rattle.block_config.specs.Config.{config_setup_of, second_setup_of}
use Rattle.block_config.specs.declared.owning.OwningSetup.{OwningSetup}
use Rattle.block_config.specs.Default.{default_setup_of}
use Rattle.word_file.specs.declared.fault.WordFault.{WordFault}
use Rattle.word_file.specs.Reading.{word_file}
use Rattle.pin_matrix.specs.declared.span.Span.{Span}
use Rattle.span_bounds.specs.declared.row.Row.{Row}
use Rattle.span_texts.specs.Faults as table_file
use Rattle.span_texts.specs.Reading.{table_of}
use Rattle.stages.specs.Named.{span_named}
use Rattle.stages.specs.declared.pair.TwoBlocks.{TwoBlocks}

-- a value, or the first fault on the way to it
pub data Judged (X : Type 0) : Type 0 where
  right : X → Judged X
  wrong : Fault → Judged X

-- what comes next where there was no fault so far
abbrev pub and_then : {X Y : Type 0} → Judged X → (X → Judged Y) → Judged Y
and_then (right x) next = next x
and_then (wrong e) next = wrong e

-- it is right, and its value satisfies the property
abbrev pub IfRight : {X : Type 0} → Judged X → (X → Type 0) → Type 0
IfRight (right x) P = P x
IfRight (wrong e) P = ⊥

-- it is right
abbrev pub is_right : {X : Type 0} → Judged X → Bool
is_right (right x) = true
is_right (wrong e) = false

-- how many bytes a file may have (choice of this profile)
abbrev pub limit : File → ℕ
limit file.Source = 262144
limit file.Words = 262144
limit file.Config = 262144
limit file.Second = 262144
limit file.Stimulus = 33554432
limit file.Table = 8388608
limit file.Send = 65536

-- a file's bytes, if it is there and within its limit
abbrev pub read_at : File → Option (List ℕ) → Judged (List ℕ)
read_at role None = wrong (fault.Shelf role)
read_at role (Some bytes) = if nat_lt (limit role) (length bytes) then wrong (fault.TooLong role) else right bytes

-- a reading of a source, or its fault
abbrev pub judged_source : Result (List Assembled) SourceRefusal → Judged (List Assembled)
judged_source (Ok programs) = right programs
judged_source (Err refusal) = wrong (fault.Source refusal.line refusal.kind)

-- the programs of the source with this name
unfoldable pub source_at : Files → List ℕ → Judged (List Assembled)
source_at files name = and_then (read_at file.Source (get files name)) (λ bytes. judged_source (reads_source bytes))

-- a reading of a word file, or its fault
abbrev pub judged_words : Result (List ℕ) WordFault → Judged (List ℕ)
judged_words (Ok words) = right words
judged_words (Err refusal) = wrong (fault.Words refusal.line refusal.kind)

-- the words of the file with this name
unfoldable pub words_at : Files → List ℕ → Judged (List ℕ)
words_at files name = and_then (read_at file.Words (get files name)) (λ bytes. judged_words (word_file bytes))

-- a setup, or its fault
abbrev pub judged_setup : Result Setup config.ConfigRefusal → Judged Setup
judged_setup (Ok setup) = right setup
judged_setup (Err refusal) = wrong (fault.Config refusal.key refusal.kind)

-- what the configuration with this name makes of programs
unfoldable pub config_at : Files → List ℕ → List Assembled → Judged Setup
config_at files name programs = and_then (read_at file.Config (get files name)) (λ bytes. judged_setup (config_setup_of bytes programs))

-- the same, and the default setup where none is named
abbrev pub setup_at : Files → Option (List ℕ) → List Assembled → Judged Setup
setup_at files None programs = judged_setup (default_setup_of programs)
setup_at files (Some name) programs = config_at files name programs

-- a second block's setup with the pins that it owns, or its fault
abbrev pub judged_second : Result OwningSetup config.ConfigRefusal → Judged OwningSetup
judged_second (Ok second) = right second
judged_second (Err refusal) = wrong (fault.Second refusal.key refusal.kind)

-- what the second block's configuration with this name makes of programs
unfoldable pub second_at : Files → List ℕ → List Assembled → Judged OwningSetup
second_at files name programs = and_then (read_at file.Second (get files name)) (λ bytes. judged_second (second_setup_of bytes programs))

-- a reading of a stimulus, or its fault
abbrev pub judged_stimulus : Result (List Line) stimulus.StimulusRefusal → Judged (List Line)
judged_stimulus (Ok lines) = right lines
judged_stimulus (Err refusal) = wrong (fault.Stim refusal.line refusal.kind)

-- the lines of the stimulus with this name
unfoldable pub stimulus_at : Files → List ℕ → Judged (List Line)
stimulus_at files name = and_then (read_at file.Stimulus (get files name)) (λ bytes. judged_stimulus (stimulus_of bytes))

-- the same, and no lines where none is named
abbrev pub schedule_at : Files → Option (List ℕ) → Judged (List Line)
schedule_at files None = right []
schedule_at files (Some name) = stimulus_at files name

-- the setup of a source's programs and the lines of a stimulus, in this order
unfoldable pub prepared_at : Files → List ℕ → Option (List ℕ) → Option (List ℕ) → Judged (Setup × List Line)
prepared_at files source config stimulus =
    and_then (source_at files source) (λ programs. and_then (setup_at files config programs) (λ setup.
    and_then (schedule_at files stimulus) (λ lines. right (setup, lines))))

-- a reading of the stimulus of two blocks, or its fault
abbrev pub judged_lines : Result (List Line × List Line) stimulus.StimulusRefusal → Judged (List Line × List Line)
judged_lines (Ok lines) = right lines
judged_lines (Err refusal) = wrong (fault.Stim refusal.line refusal.kind)

-- the lines of each block in the stimulus with this name
unfoldable pub pair_stimulus_at : Files → List ℕ → Judged (List Line × List Line)
pair_stimulus_at files name = and_then (read_at file.Stimulus (get files name)) (λ bytes. judged_lines (pair_stimulus_of bytes))

-- the same, and no lines where none is named
abbrev pub schedules_at : Files → Option (List ℕ) → Judged (List Line × List Line)
schedules_at files None = right ([], [])
schedules_at files (Some name) = pair_stimulus_at files name

-- two blocks, and the lines of each
abbrev pub two_blocks : Setup → OwningSetup → List Line × List Line → TwoBlocks
two_blocks first second lines = record {
  first = first;
  second = second.setup;
  own = second.own;
  first_lines = lines.0;
  second_lines = lines.1;
}

-- the setups of both blocks and the lines of each: source, configuration, second configuration and stimulus, in this
-- order
unfoldable pub pair_at : Files → (source config second : List ℕ) → (stimulus : Option (List ℕ)) → Judged TwoBlocks
pair_at files source config second stimulus =
    and_then (source_at files source) (λ programs. and_then (config_at files config programs) (λ first.
    and_then (second_at files second programs) (λ owning. and_then (schedules_at files stimulus) (λ lines.
    right (two_blocks first owning lines)))))

-- a span of a setup, or the fault that none has the name
abbrev pub judged_span : Setup → Option Span → Judged (Setup × Span)
judged_span u None = wrong fault.NoSpan
judged_span u (Some sp) = right (u, sp)

-- the setup of a source's programs, and the first span of it with this name
unfoldable pub span_at : Files → List ℕ → Option (List ℕ) → List ℕ → Judged (Setup × Span)
span_at files source config name =
    and_then (prepared_at files source config None) (λ prepared. judged_span prepared.0 (span_named name prepared.0.spans))

-- a reading of a table file, or its fault
abbrev pub judged_table : Result (List Row) table_file.TableRefusal → Judged (List Row)
judged_table (Ok rows) = right rows
judged_table (Err refusal) = wrong (fault.Table refusal.line refusal.kind)

-- the rows of the table file with this name, where X and Y are followed so far
unfoldable pub table_at : Follow → Files → List ℕ → Judged (List Row)
table_at d files name = and_then (read_at file.Table (get files name)) (λ bytes. judged_table (table_of d bytes))

-- the setup and its span of this name, and then the rows of a table file
unfoldable pub recheck_at : Files → List ℕ → Option (List ℕ) → List ℕ → List ℕ → Judged ((Setup × Span) × List Row)
recheck_at files source config name table =
    and_then (span_at files source config name) (λ asked. and_then (table_at (followed asked.1) files table) (λ rows. right (asked, rows)))
