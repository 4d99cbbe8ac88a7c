-- What a command comes to, from its files alone: a task, or the first fault in the order of reading.
--   Task        what the files have a command do
--   plan_for    what a command reads, and its task; judge: the task, or the first fault; file_in: its file in a role
--   HasText     the text of a task satisfies a property; ComesTo: the known files give a task that does
use Rattle.std.specs.Prelude.{ℕ, ◌<◌, ◌≤◌, Bool, Option, None, is_some, IfSome, List, [], length, map, if◌then◌else◌}
use Rattle.std.specs.List.{flat_map}
use Rattle.pio_edge.specs.Edge.{Files}
use Rattle.fault_lines.specs.declared.fault.File.{File}
use Rattle.fault_lines.specs.declared.fault.File.TheVariants.{Table, Send}
use Rattle.vcd_trace.specs.InsideText.{inside_text}
use Rattle.vcd_trace.specs.TwinText.{twin_text}
use Rattle.vcd_trace.specs.VcdText.{vcd_text}
use Rattle.span_meter.specs.Assumed.{spoken_seen}
use Rattle.span_meter.specs.Events.{events_in, is_selective}
use Rattle.span_meter.specs.Measured.{ends_in, measured, pins_in, seen_of}
use Rattle.span_meter.specs.SeenText.{seen_line}
use Rattle.span_meter.specs.declared.seen.SeenDistances.{SeenDistances}
use Rattle.serial_receiver.specs.Frames.{frames, levels_of}
use Rattle.serial_receiver.specs.FrameText.{frames_text}
use Rattle.pio_uart.specs.Feeding.{frames_fed}
use Rattle.pin_matrix.specs.Pins.{is_high}
use Rattle.dreq_pacing.specs.declared.line.Line.{Line}
use Rattle.block_core.specs.Block.{Run, first_run}
use Rattle.block_core.specs.Conduct.{conducts}
use Rattle.block_core.specs.Hosted.{samples}
use Rattle.block_core.specs.HostedTwin.{twin_samples}
use Rattle.block_core.specs.Inside.{insides}
use Rattle.block_core.specs.Twin.{TwinRun, first_twin}
use Rattle.pin_matrix.specs.declared.setup.Setup.{Setup}
use Rattle.pin_matrix.specs.declared.span.Span.{Span}
use Rattle.span_bounds.specs.declared.row.Row.{Row}
use Rattle.span_bounds.specs.Answers.{IsGoodLeast}
use Rattle.span_texts.specs.Rows.{table_text}
use Rattle.span_texts.specs.FlawLines.{rechecked_line}
use Rattle.command_line.specs.Words.{Asked, asm, run, check, table, recheck, shares, gen, dis, measure, receive, uart, pair, inspect}
use Rattle.program_listing.specs.Listing.{listing_text}
use Rattle.word_file.specs.Listing.{word_lines, rule_for}
use Rattle.block_shares.specs.Report.{shares_text}
use Rattle.drawn_load.specs.Summaries.{summary_of, summary_text}
use Rattle.stages.specs.Spans.{HasVerdicts}
use Rattle.stages.specs.Judged.{Judged, right, IfRight, limit}
use Rattle.stages.specs.Stages.{Plan, plan_of, made_into, file_plan, source_plan, words_plan, run_plan, pair_plan, span_plan, recheck_plan}
use Rattle.stages.specs.Fetching.{FileSlot, name_in}
use Rattle.commands.specs.Outside.{Call}
use Rattle.stages.specs.declared.pair.TwoBlocks.{TwoBlocks}

-- What the files have a command do: write a text; write a text where each span of a setup, or of two, is provable;
-- write the lines of the verdicts on the spans of a setup; write the table of a span where it is provable; or tell that
-- a table proves a span.
pub data Task : Type 0 where
  listing : List ℕ → Task
  trace : Setup → List ℕ → Task
  twin_trace : (first second : Setup) → List ℕ → Task
  verdicts : Setup → Task
  tabled : Setup → Span → Task
  rechecked : Setup → Span → List Row → Task

-- the text of so many clocks from a start, with the lines of a stimulus
unfoldable pub trace_text : Run → List Line → ℕ → List ℕ
trace_text start lines clocks = vcd_text (samples start lines clocks)

-- two blocks in clock 0
abbrev pub twin_start : TwoBlocks → TwinRun
twin_start p = first_twin p.own p.first p.second

-- the text of so many clocks of two blocks from a start, with the lines of each
unfoldable pub twin_trace_text : TwinRun → (first second : List Line) → ℕ → List ℕ
twin_trace_text start first second clocks = twin_text (twin_samples start first second clocks)

-- the text of what is inside the block of a setup in so many clocks, with the lines of a stimulus: it has a scope for
-- each machine that is configured
unfoldable pub inspected_text : Setup → List Line → ℕ → List ℕ
inspected_text s lines clocks = inside_text (map is_some s.machines) (insides (first_run s) lines clocks)

-- What a span measures in so many clocks from a start, with the lines of a stimulus: every pair of its edges, or those
-- that it speaks of where it speaks not of every one, up to where X or Y isn't as it assumes. Before clock 0 the pins
-- are the start's.
abbrev pub seen_in : Run → Span → List Line → ℕ → SeenDistances
seen_in start sp lines clocks =
    if is_selective sp
    then spoken_seen (events_in sp) (pins_in start.state) (conducts start lines clocks)
    else seen_of (measured (ends_in sp) (pins_in start.state) (samples start lines clocks))

-- the line of what each span measures, in order
unfoldable pub measured_text : Run → List Span → List Line → ℕ → List ℕ
measured_text start spans lines clocks = flat_map (λ sp. seen_line sp.name (seen_in start sp lines clocks)) spans

-- the line of each frame that a pin sends at so many clocks a bit: before clock 0 its level is the start's
unfoldable pub received_text : Run → (pin bit : ℕ) → List Line → ℕ → List ℕ
received_text start pin bit lines clocks =
    frames_text (frames bit (is_high start.state.levels pin) (levels_of pin (samples start lines clocks)))

-- the line of each byte that the transmitter sends in so many clocks of a run that feeds it these bytes: byte j at its
-- clock
unfoldable pub sent_text : (divider : ℕ) → (bytes : List ℕ) → (clocks : ℕ) → List ℕ
sent_text divider bytes clocks = frames_text (frames_fed divider clocks 0 bytes)

-- what each command reads, and what it has to do with it; `check`, `table` and `shares` read what a run without a
-- stimulus reads
abbrev pub plan_for : Asked → Plan Task
plan_for (asm name) = made_into (source_plan name) (λ programs. listing (listing_text programs))
plan_for (run source config stimulus clocks) =
    made_into (run_plan source config stimulus) (λ prepared. trace prepared.0 (trace_text (first_run prepared.0) prepared.1 clocks))
plan_for (check source config) = made_into (run_plan source config None) (λ prepared. verdicts prepared.0)
plan_for (table source config name) = made_into (span_plan source config name) (λ asked. tabled asked.0 asked.1)
plan_for (recheck source config name file) =
    made_into (recheck_plan source config name file) (λ asked. rechecked asked.0.0 asked.0.1 asked.1)
plan_for (shares source config) = made_into (run_plan source config None) (λ prepared. listing (shares_text prepared.0))
plan_for (gen seed clocks) =
    made_into (plan_of (λ files. right (summary_of seed clocks)) []) (λ summary. listing (summary_text summary))
plan_for (dis name side opt) = made_into (words_plan name) (λ words. listing (word_lines (rule_for side opt) words))
plan_for (measure source config stimulus clocks) =
    made_into (run_plan source config stimulus)
    (λ prepared. listing (measured_text (first_run prepared.0) prepared.0.spans prepared.1 clocks))
plan_for (receive source config stimulus clocks pin bit) =
    made_into (run_plan source config stimulus) (λ prepared. listing (received_text (first_run prepared.0) pin bit prepared.1 clocks))
plan_for (uart send divider clocks) = made_into (file_plan Send send) (λ bytes. listing (sent_text divider bytes clocks))
plan_for (inspect source config stimulus clocks) =
    made_into (run_plan source config stimulus) (λ prepared. listing (inspected_text prepared.0 prepared.1 clocks))
plan_for (pair source config second stimulus clocks) =
    made_into (pair_plan source config second stimulus)
    (λ p. twin_trace p.first p.second (twin_trace_text (twin_start p) p.first_lines p.second_lines clocks))

-- what a command's files come to: its task, or the first fault in the order of reading
unfoldable pub judge : Files → Asked → Judged Task
judge files a = (plan_for a).comes_to files

-- the files that a command reads, in the order of reading
abbrev pub slots_of : Asked → List FileSlot
slots_of a = (plan_for a).slots

-- the name of the file that a command reads in this role, where it reads one
abbrev pub file_in : Asked → File → Option (List ℕ)
file_in a role = name_in (slots_of a) role

-- a command comes to the file of this role: what it reads before is right
abbrev pub reaches : Files → Asked → File → Bool
reaches files a role = (plan_for a).reaches files role

-- the known files give a task that satisfies the property
abbrev pub ComesTo : Call → Asked → (Task → Type 0) → Type 0
ComesTo c a P = IfSome c.files (λ f. IfRight (judge f a) P)

-- the text of the least closed table of a span, which is good, satisfies the property
abbrev pub HasTable : Setup → Span → (List ℕ → Type 0) → Type 0
HasTable u sp P = (rows : List Row) × IsGoodLeast u sp rows × P (table_text rows)

-- the same of a text that is no longer than a table file may be
abbrev pub HasShortTable : Setup → Span → (List ℕ → Type 0) → Type 0
HasShortTable u sp P = HasTable u sp (λ text. (length text ≤ limit Table) × P text)

-- the text of the least closed table of a span, which is good, is longer than a table file may be
abbrev pub HasLongTable : Setup → Span → Type 0
HasLongTable u sp = HasTable u sp (λ text. limit Table < length text)

-- the text that a task writes satisfies the property
abbrev pub HasText : Task → (List ℕ → Type 0) → Type 0
HasText (listing text) P = P text
HasText (trace u text) P = P text
HasText (twin_trace s t text) P = P text
HasText (verdicts u) P = HasVerdicts u P
HasText (tabled u sp) P = HasShortTable u sp P
HasText (rechecked u sp rows) P = P (rechecked_line sp.name)

-- the text of a task is longer than a file of its kind may be: only `table` writes what a command reads
abbrev pub HasLongText : Task → Type 0
HasLongText (tabled u sp) = HasLongTable u sp
HasLongText task = ⊥
