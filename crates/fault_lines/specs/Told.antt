-- The end of a call: its status and its line (choice of this profile).
use Rattle.std.specs.Prelude.{◌≡◌, ℕ, ◌⊎◌, ◌++◌, Option, Some, None, List, [], codes, decimal}
use Rattle.pio_edge.specs.Edge.{Rose, with_bytes, TakesPrefix}
use Rattle.pio_assemble.specs.declared.fault.SourceKind.{SourceKind}
use Rattle.pio_assemble.specs.Fault.{kind_text as source_text}
use Rattle.block_config.specs.declared.fault.ConfigKind.{ConfigKind}
use Rattle.block_config.specs.Fault.{kind_text}
use Rattle.word_file.specs.declared.fault.WordKind.{WordKind}
use Rattle.word_file.specs.Fault.{code_of as word_code}
use Rattle.dreq_pacing.specs.declared.fault.StimKind.{StimKind}
use Rattle.dreq_pacing.specs.Fault.{code_of as stim_code}
use Rattle.span_texts.specs.VerdictLines.{refusal_line}
use Rattle.span_texts.specs.declared.fault.TableKind.{TableKind}
use Rattle.span_texts.specs.Faults.{code_of as table_code}
use Rattle.span_texts.specs.FlawLines.{flaw_line}
use Rattle.fault_lines.specs.Output.{Output}
use Rattle.fault_lines.specs.declared.fault.File.{File}
use Rattle.fault_lines.specs.declared.fault.File.TheVariants as file
use Rattle.fault_lines.specs.declared.fault.Fault.{Fault}
use Rattle.fault_lines.specs.declared.fault.Fault.TheVariants as fault

-- the status of an end
abbrev pub status_of : Option Fault → ℕ
status_of None = 0
status_of (Some fault.Usage) = 2
status_of (Some (fault.Shelf role)) = 4
status_of (Some (fault.TooLong role)) = 1
status_of (Some (fault.Words line kind)) = 1
status_of (Some (fault.Source line kind)) = 1
status_of (Some (fault.Config key kind)) = 1
status_of (Some (fault.Second key kind)) = 1
status_of (Some (fault.Stim line kind)) = 1
status_of (Some fault.NoSpan) = 1
status_of (Some (fault.Table line kind)) = 1
status_of (Some (fault.Unproved place name refusal)) = 3
status_of (Some (fault.SecondUnproved place name refusal)) = 3
status_of (Some (fault.Flaw place name flaw)) = 3
status_of (Some fault.Out) = 5
status_of (Some fault.Memory) = 6

-- the word for a file
abbrev pub file_word : File → List ℕ
file_word file.Source = codes "source"
file_word file.Words = codes "words"
file_word file.Config = codes "config"
file_word file.Second = codes "second"
file_word file.Stimulus = codes "stimulus"
file_word file.Table = codes "table"
file_word file.Send = codes "send"

-- the line of a file that wasn't fetched
abbrev pub shelf_line : File → List ℕ
shelf_line role = codes "piotool: shelf " ++ file_word role ++ codes "\n"

-- the line of a file past its limit
abbrev pub long_line : File → List ℕ
long_line role = codes "piotool: long " ++ file_word role ++ codes "\n"

-- a line that names a place: what comes before its number, the number, and a fault's text
abbrev pub line_fault : List ℕ → ℕ → List ℕ → List ℕ
line_fault front line code = front ++ decimal line ++ codes ": " ++ code ++ codes "\n"

-- the line of a word file's fault
abbrev pub words_line : ℕ → WordKind → List ℕ
words_line line kind = line_fault (codes "piotool: words line ") line (word_code kind)

-- the line of a source's fault, with this text after its number
abbrev pub source_fault : ℕ → List ℕ → List ℕ
source_fault line text = line_fault (codes "piotool: source line ") line text

-- the line of a source's fault
abbrev pub source_line : ℕ → SourceKind → List ℕ
source_line line kind = source_fault line (source_text kind)

-- the line of a key of a configuration: what comes before the key, the key, and a fault's text
abbrev pub key_line : List ℕ → List ℕ → List ℕ → List ℕ
key_line front key text = front ++ key ++ codes ": " ++ text ++ codes "\n"

-- the line of a configuration's fault, where this comes before the key
abbrev pub config_line : List ℕ → List ℕ → ConfigKind → List ℕ
config_line front key kind = key_line front key (kind_text kind)

-- the line of a stimulus's fault
abbrev pub stimulus_line : ℕ → StimKind → List ℕ
stimulus_line line kind = line_fault (codes "piotool: stimulus line ") line (stim_code kind)

-- the line of a table file's fault
abbrev pub table_line : ℕ → TableKind → List ℕ
table_line line kind = line_fault (codes "piotool: table line ") line (table_code kind)

-- the line of a fault
unfoldable pub fault_line : Fault → List ℕ
fault_line fault.Usage = codes "piotool: usage\n"
fault_line (fault.Shelf role) = shelf_line role
fault_line (fault.TooLong role) = long_line role
fault_line (fault.Words line kind) = words_line line kind
fault_line (fault.Source line kind) = source_line line kind
fault_line (fault.Config key kind) = config_line (codes "piotool: config ") key kind
fault_line (fault.Second key kind) = config_line (codes "piotool: second ") key kind
fault_line (fault.Stim line kind) = stimulus_line line kind
fault_line fault.NoSpan = codes "piotool: nospan\n"
fault_line (fault.Table line kind) = table_line line kind
fault_line (fault.Unproved place name refusal) = refusal_line (codes "piotool: ") name refusal
fault_line (fault.SecondUnproved place name refusal) = refusal_line (codes "piotool: second ") name refusal
fault_line (fault.Flaw place name flaw) = flaw_line (codes "piotool: ") name flaw
fault_line fault.Out = codes "piotool: out\n"
fault_line fault.Memory = codes "piotool: memory\n"

-- the line was put and flushed, or a first part of it taken where the count rose
abbrev pub TellsLine : Output → Output → List ℕ → Type 0
TellsLine before after line =
    ((after.taken ≡ with_bytes before.taken line) × (after.waiting ≡ []))
    ⊎ (TakesPrefix before.taken line after.taken × Rose before.faults after.faults)

-- a fault has its line, and the end of a whole command has none
abbrev pub TellsFault : Output → Output → Option Fault → Type 0
TellsFault before after None = after ≡ before
TellsFault before after (Some fault) = TellsLine before after (fault_line fault)
