-- What a call has done that ended with status 0: a record for each command, over known files. Each is a law from
-- `Passes`.
--   Passed          the files are known, and the command kept its promise, without a fault
--   AsmPassed ..    what the command then read, wrote, and what holds of it
use Rattle.std.specs.Prelude.{◌≡◌, ℕ, ◌≤◌, Bool, Option, Some, None, is_some, List, [], length, map, Result}
use Rattle.std.specs.FinMap.{get}
use Rattle.std.specs.List.{flat_map}
use Rattle.pio_edge.specs.Edge.{Files}
use Rattle.pio_assemble.specs.Program.{Assembled}
use Rattle.program_listing.specs.Listing.{listing_text}
use Rattle.word_file.specs.Listing.{word_lines, rule_for}
use Rattle.pin_matrix.specs.declared.setup.Setup.{Setup}
use Rattle.pin_matrix.specs.declared.span.Span.{Span}
use Rattle.pin_matrix.specs.Pins.{is_high}
use Rattle.dreq_pacing.specs.declared.line.Line.{Line}
use Rattle.block_core.specs.Block.{first_run}
use Rattle.block_core.specs.Hosted.{samples}
use Rattle.block_core.specs.HostedTwin.{twin_samples}
use Rattle.block_core.specs.Inside.{insides}
use Rattle.vcd_trace.specs.InsideText.{inside_text}
use Rattle.vcd_trace.specs.VcdText.{vcd_text}
use Rattle.vcd_trace.specs.TwinText.{twin_text}
use Rattle.span_meter.specs.SeenText.{seen_line}
use Rattle.serial_receiver.specs.Frames.{frames, levels_of}
use Rattle.serial_receiver.specs.FrameText.{frames_text}
use Rattle.pio_uart.specs.Feeding.{frames_fed}
use Rattle.block_shares.specs.Report.{shares_text}
use Rattle.drawn_load.specs.Summaries.{summary_of, summary_text}
use Rattle.span_bounds.specs.declared.row.Row.{Row}
use Rattle.span_bounds.specs.Answers.{IsGoodLeast}
use Rattle.span_check.specs.Proved.{HoldsInEveryRun}
use Rattle.span_texts.specs.declared.refusal.Finding.{Finding}
use Rattle.span_texts.specs.declared.refusal.Refusal.{Refusal}
use Rattle.span_texts.specs.Rows.{table_text}
use Rattle.span_texts.specs.FlawLines.{rechecked_line}
use Rattle.fault_lines.specs.declared.fault.File.TheVariants.{Send, Table}
use Rattle.command_line.specs.Words.{Asked}
use Rattle.stages.specs.declared.pair.TwoBlocks.{TwoBlocks}
use Rattle.stages.specs.Judged.{right, limit, read_at, source_at, words_at, prepared_at, span_at, recheck_at, pair_at}
use Rattle.stages.specs.Pairs.{AllHoldInPairs}
use Rattle.stages.specs.Spans.{IsProvableAlone, AreProvable, AllHold, AreVerdicts, verdict_text}
use Rattle.commands.specs.Outside.{Call, SameShelf}
use Rattle.commands.specs.Needs.{IsProvedBy}
use Rattle.commands.specs.Tasks.{seen_in, twin_start}
use Rattle.commands.specs.Promise.{Passes}
use Rattle.commands.specs.Written.{HasTaken}

-- the files are known, and the command kept its promise, without a fault
pub record Passed (c : Call) (files : Files) (a : Asked) : Type 0 where
  pub known : c.files ≡ Some files
  pub passes : Passes c a

-- the output took exactly this text and handed it on; no fetch and no output failed
pub record Writing (c : Call) (text : List ℕ) : Type 0 where
  pub took : HasTaken c.out_before text c.out_after
  pub shelf : SameShelf c

-- `run`: the files give this setup and these lines. It wrote the trace of the samples that stepping gives, clock by
-- clock, and each span of the setup holds in every run.
pub record RunPassed (c : Call) (files : Files) (source : List ℕ) (config stimulus : Option (List ℕ)) (clocks : ℕ) : Type 0 where
  pub setup : Setup
  pub lines : List Line
  pub given : prepared_at files source config stimulus ≡ right (setup, lines)
  pub wrote : Writing c (vcd_text (samples (first_run setup) lines clocks))
  pub provable : AreProvable setup
  pub holds : AllHold setup

-- `pair`: the files give these two blocks with the lines of each. It wrote the trace of the samples of both, and each
-- span of either holds in every run of both.
pub record PairPassed (c : Call) (files : Files) (source config second : List ℕ) (stimulus : Option (List ℕ)) (clocks : ℕ) : Type 0 where
  pub blocks : TwoBlocks
  pub given : pair_at files source config second stimulus ≡ right blocks
  pub wrote : Writing c (twin_text (twin_samples (twin_start blocks) blocks.first_lines blocks.second_lines clocks))
  pub provable : AreProvable blocks.first × AreProvable blocks.second
  pub hold : AllHoldInPairs blocks.first blocks.second

-- `check`: it wrote a line for each span of the setup, with its verdict, and each span holds in every run
pub record CheckPassed (c : Call) (files : Files) (source : List ℕ) (config : Option (List ℕ)) : Type 0 where
  pub setup : Setup
  pub given : prepared_at files source config None ≡ right (setup, [])
  pub found : List (Result Finding Refusal)
  pub verdicts : AreVerdicts setup setup.spans found
  pub wrote : Writing c (verdict_text setup.spans found)
  pub provable : AreProvable setup
  pub holds : AllHold setup

-- `table`: this is the first span of the name. It wrote the least closed table of it, which is good and fits a table
-- file, and the span holds in every run.
pub record TablePassed (c : Call) (files : Files) (source : List ℕ) (config : Option (List ℕ)) (name : List ℕ) : Type 0 where
  pub setup : Setup
  pub span : Span
  pub given : span_at files source config name ≡ right (setup, span)
  pub rows : List Row
  pub least : IsGoodLeast setup span rows
  pub wrote : Writing c (table_text rows)
  pub fits : length (table_text rows) ≤ limit Table
  pub provable : IsProvableAlone setup span
  pub holds : HoldsInEveryRun setup span

-- `recheck`: this is the first span of the name, and these are the rows of the table file. They are closed and good, no
-- other machine may write a pin of the span, and it holds in every run, whoever made the table.
pub record RecheckPassed (c : Call) (files : Files) (source : List ℕ) (config : Option (List ℕ)) (name file : List ℕ) : Type 0 where
  pub setup : Setup
  pub span : Span
  pub rows : List Row
  pub given : recheck_at files source config name file ≡ right ((setup, span), rows)
  pub wrote : Writing c (rechecked_line span.name)
  pub proved : IsProvedBy setup span rows
  pub holds : HoldsInEveryRun setup span

-- `measure`: it wrote a line for each span, with what it measures in the run (`seen_in`)
pub record MeasurePassed (c : Call) (files : Files) (source : List ℕ) (config stimulus : Option (List ℕ)) (clocks : ℕ) : Type 0 where
  pub setup : Setup
  pub lines : List Line
  pub given : prepared_at files source config stimulus ≡ right (setup, lines)
  pub wrote : Writing c (flat_map (λ sp. seen_line sp.name (seen_in (first_run setup) sp lines clocks)) setup.spans)

-- `receive`: it wrote a line for each frame that a serial receiver hears on the pin, in the samples of the run
pub record ReceivePassed (c : Call) (files : Files) (source : List ℕ) (config stimulus : Option (List ℕ)) (clocks pin bit : ℕ) : Type 0 where
  pub setup : Setup
  pub lines : List Line
  pub given : prepared_at files source config stimulus ≡ right (setup, lines)
  pub wrote : Writing c (frames_text (frames bit (is_high (first_run setup).state.levels pin)
      (levels_of pin (samples (first_run setup) lines clocks))))

-- `inspect`: the files give this setup and these lines. It wrote the trace of what stepping has inside the block, clock
-- by clock, with a scope for each configured machine. No span is required.
pub record InspectPassed (c : Call) (files : Files) (source : List ℕ) (config stimulus : Option (List ℕ)) (clocks : ℕ) : Type 0 where
  pub setup : Setup
  pub lines : List Line
  pub given : prepared_at files source config stimulus ≡ right (setup, lines)
  pub wrote : Writing c (inside_text (map is_some setup.machines) (insides (first_run setup) lines clocks))

-- `uart`: these are the bytes of the file. It wrote the line of each byte that is sent to its end within the clocks, in
-- order.
pub record UartPassed (c : Call) (files : Files) (send : List ℕ) (divider clocks : ℕ) : Type 0 where
  pub bytes : List ℕ
  pub given : read_at Send (get files send) ≡ right bytes
  pub wrote : Writing c (frames_text (frames_fed divider clocks 0 bytes))

-- `shares`: it wrote what each machine of the setup shares with each other one
pub record SharesPassed (c : Call) (files : Files) (source : List ℕ) (config : Option (List ℕ)) : Type 0 where
  pub setup : Setup
  pub given : prepared_at files source config None ≡ right (setup, [])
  pub wrote : Writing c (shares_text setup)

-- `gen`: it wrote the summary of the load that the seed draws, whatever files there are
pub record GenPassed (c : Call) (seed clocks : ℕ) : Type 0 where
  pub wrote : Writing c (summary_text (summary_of seed clocks))

-- `asm`: these are the programs of the source. It wrote their listing.
pub record AsmPassed (c : Call) (files : Files) (name : List ℕ) : Type 0 where
  pub programs : List Assembled
  pub given : source_at files name ≡ right programs
  pub wrote : Writing c (listing_text programs)

-- `dis`: these are the words of the file. It wrote the text of each, under the rule of so many side-set bits.
pub record DisPassed (c : Call) (files : Files) (name : List ℕ) (side : ℕ) (opt : Bool) : Type 0 where
  pub words : List ℕ
  pub given : words_at files name ≡ right words
  pub wrote : Writing c (word_lines (rule_for side opt) words)
