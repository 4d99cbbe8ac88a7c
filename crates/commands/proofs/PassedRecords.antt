-- What each command has done where it passes: from the end of a call to the record of its command.
use Rattle.std.proofs.Common.{◌≡◌, ℕ, Bool, Option, Some, None, List, [], refl, ap, subst}
use Rattle.clap.specs.Walk.{Text}
use Rattle.pio_edge.specs.Edge.{Files, with_bytes}
use Rattle.std.specs.FinMap.{get}
use Rattle.program_listing.specs.Listing.{listing_text}
use Rattle.word_file.specs.Listing.{word_lines, rule_for}
use Rattle.pio_assemble.specs.Program.{Assembled}
use Rattle.pin_matrix.specs.declared.setup.Setup.{Setup}
use Rattle.dreq_pacing.specs.declared.line.Line.{Line}
use Rattle.block_core.specs.Block.{first_run}
use Rattle.block_shares.specs.Report.{shares_text}
use Rattle.fault_lines.specs.Told.{status_of}
use Rattle.fault_lines.specs.declared.fault.Fault.{Fault}
use Rattle.fault_lines.specs.declared.fault.Fault.TheVariants as fault
use Rattle.fault_lines.specs.declared.fault.File.TheVariants.{Send}
use Rattle.command_line.specs.Words.{Asked, asm, run, check, table, recheck, shares, gen, dis, measure, receive, uart, pair, inspect}
use Rattle.stages.specs.Judged.{Judged, right, wrong, and_then, IfRight, read_at, source_at, setup_at, words_at, prepared_at, span_at, recheck_at, pair_at}
use Rattle.commands.specs.Outside.{Call}
use Rattle.commands.specs.Needs.{IsMet, AllRunsHold}
use Rattle.commands.specs.Tasks.{Task, listing, trace, twin_trace, verdicts, tabled, rechecked, judge, trace_text, twin_start, twin_trace_text, measured_text, received_text, inspected_text, sent_text}
use Rattle.commands.specs.Promise.{Passes, Ends}
use Rattle.commands.specs.Ends.{EndsAs}
use Rattle.commands.specs.Wanted.{wanted}
use Rattle.commands.specs.Passed.{Passed, Writing, RunPassed, PairPassed, CheckPassed, TablePassed, RecheckPassed, MeasurePassed, ReceivePassed, InspectPassed, UartPassed, SharesPassed, GenPassed, AsmPassed, DisPassed}
use Rattle.commands.proofs.QuietEnds.{of_told, TookText}

-- only a call without a fault has status 0
pub no_fault : (found : Option Fault) → status_of found ≡ 0 → found ≡ None
no_fault None is = refl
no_fault (Some fault.Usage) is = cc
no_fault (Some (fault.Shelf role)) is = cc
no_fault (Some (fault.TooLong role)) is = cc
no_fault (Some (fault.Words line kind)) is = cc
no_fault (Some (fault.Source line kind)) is = cc
no_fault (Some (fault.Config key kind)) is = cc
no_fault (Some (fault.Second key kind)) is = cc
no_fault (Some (fault.Stim line kind)) is = cc
no_fault (Some fault.NoSpan) is = cc
no_fault (Some (fault.Table line kind)) is = cc
no_fault (Some (fault.Unproved place name refusal)) is = cc
no_fault (Some (fault.SecondUnproved place name refusal)) is = cc
no_fault (Some (fault.Flaw place name flaw)) is = cc
no_fault (Some fault.Out) is = cc
no_fault (Some fault.Memory) is = cc

-- a call with status 0 kept the promise of the command that its words want
pub kept : (words : List Text) (c : Call) (a : Asked) (found : Option Fault) → wanted words ≡ Some a → EndsAs words c found → status_of found ≡ 0
    → Passes c a
kept words c a found asked ends is =
    subst (λ (o : Option Asked). Ends o c None) asked (subst (λ (f : Option Fault). EndsAs words c f) (no_fault found is) ends)

-- what known files give: the text of the task was taken, what it needs of spans is met, and they hold in every run
abbrev Done : Call → Judged Task → Type 0
Done c j = IfRight j (TookText c) × IfRight j IsMet × IfRight j AllRunsHold

done : (c : Call) (f : Files) (a : Asked) → Passed c f a → Done c (judge f a)
done c f a p = (
  of_told (λ g. IfRight (judge g a) (TookText c)) c.files f p.known p.passes.writes.text,
  of_told (λ g. IfRight (judge g a) IsMet) c.files f p.known p.passes.spans,
  of_told (λ g. IfRight (judge g a) AllRunsHold) c.files f p.known p.passes.holds,
)

-- files that come to a task come to what it is made of
made_of : {X : Type 0} (c : Call) (j : Judged X) (task : X → Task) → Done c (and_then j (λ x. right (task x)))
    → (x : X) × (j ≡ right x) × TookText c (task x) × IsMet (task x) × AllRunsHold (task x)
made_of c (right x) task h = (x, refl, h.0, h.1, h.2)
made_of c (wrong e) task h = absurd h.0

-- a run without a stimulus has no lines
abbrev without_lines : Setup → Judged (Setup × List Line)
without_lines setup = right (setup, [])

of_setup : (j : Judged Setup) (u : Setup) (lines : List Line) → and_then j without_lines ≡ right (u, lines) → and_then j without_lines ≡ right (u, [])
of_setup (right setup) u lines e =
    let pair : ◌≡◌ {A = Setup × List Line} (setup, []) (u, lines) = cc in
    ap (λ (p : Setup × List Line). without_lines p.0) pair
of_setup (wrong fault) u lines e = cc

of_source : (j : Judged (List Assembled)) (next : List Assembled → Judged Setup) (u : Setup) (lines : List Line)
    → and_then j (λ programs. and_then (next programs) without_lines) ≡ right (u, lines)
    → and_then j (λ programs. and_then (next programs) without_lines) ≡ right (u, [])
of_source (right programs) next u lines e = of_setup (next programs) u lines e
of_source (wrong fault) next u lines e = cc

no_lines : (f : Files) (source : List ℕ) (config : Option (List ℕ)) (u : Setup) (lines : List Line) → prepared_at f source config None ≡ right (u, lines)
    → prepared_at f source config None ≡ right (u, [])
unfolding prepared_at
no_lines f source config u lines e = of_source (source_at f source) (setup_at f config) u lines e

-- a text that was taken was written
writing : (c : Call) (f : Files) (a : Asked) (text : List ℕ) → Passed c f a
    → c.out_after.taken ≡ with_bytes c.out_before.taken text → Writing c text
writing c f a text p taken =
    record { took = record { taken = taken; handed = p.passes.writes.handed; faults = p.passes.writes.out }; shelf = p.passes.shelf }

pub run_passed : (c : Call) (f : Files) (source : List ℕ) (config stimulus : Option (List ℕ)) (clocks : ℕ)
    → Passed c f (run source config stimulus clocks) → RunPassed c f source config stimulus clocks
unfolding judge trace_text
run_passed c f source config stimulus clocks p =
    let m = made_of c (prepared_at f source config stimulus) (λ prepared. trace prepared.0 (trace_text (first_run prepared.0) prepared.1 clocks)) (done c f _ p) in
    record {
      setup = m.0.0;
      lines = m.0.1;
      given = m.1;
      wrote = writing c f _ _ p m.2;
      provable = m.3;
      holds = m.4;
    }

pub pair_passed : (c : Call) (f : Files) (source config second : List ℕ) (stimulus : Option (List ℕ)) (clocks : ℕ)
    → Passed c f (pair source config second stimulus clocks) → PairPassed c f source config second stimulus clocks
unfolding judge twin_trace_text
pair_passed c f source config second stimulus clocks p =
    let m = made_of c (pair_at f source config second stimulus)
    (λ b. twin_trace b.first b.second (twin_trace_text (twin_start b) b.first_lines b.second_lines clocks)) (done c f _ p) in
    record {
      blocks = m.0;
      given = m.1;
      wrote = writing c f _ _ p m.2;
      provable = m.3;
      hold = m.4;
    }

pub check_passed : (c : Call) (f : Files) (source : List ℕ) (config : Option (List ℕ))
    → Passed c f (check source config) → CheckPassed c f source config
unfolding judge
check_passed c f source config p =
    let m = made_of c (prepared_at f source config None) (λ prepared. verdicts prepared.0) (done c f _ p) in
    record {
      setup = m.0.0;
      given = no_lines f source config _ _ m.1;
      found = m.2.0;
      verdicts = m.2.1;
      wrote = writing c f _ _ p m.2.2;
      provable = m.3;
      holds = m.4;
    }

pub table_passed : (c : Call) (f : Files) (source : List ℕ) (config : Option (List ℕ)) (name : List ℕ)
    → Passed c f (table source config name) → TablePassed c f source config name
unfolding judge
table_passed c f source config name p =
    let m = made_of c (span_at f source config name) (λ asked. tabled asked.0 asked.1) (done c f _ p) in
    record {
      setup = m.0.0;
      span = m.0.1;
      given = m.1;
      rows = m.2.0;
      least = m.2.1;
      wrote = writing c f _ _ p m.2.2.1;
      fits = m.2.2.0;
      provable = m.3;
      holds = m.4;
    }

pub recheck_passed : (c : Call) (f : Files) (source : List ℕ) (config : Option (List ℕ)) (name file : List ℕ)
    → Passed c f (recheck source config name file) → RecheckPassed c f source config name file
unfolding judge
recheck_passed c f source config name file p =
    let m = made_of c (recheck_at f source config name file) (λ asked. rechecked asked.0.0 asked.0.1 asked.1) (done c f _ p) in
    record {
      setup = m.0.0.0;
      span = m.0.0.1;
      rows = m.0.1;
      given = m.1;
      wrote = writing c f _ _ p m.2;
      proved = m.3;
      holds = m.4;
    }

pub measure_passed : (c : Call) (f : Files) (source : List ℕ) (config stimulus : Option (List ℕ)) (clocks : ℕ)
    → Passed c f (measure source config stimulus clocks) → MeasurePassed c f source config stimulus clocks
unfolding judge measured_text
measure_passed c f source config stimulus clocks p =
    let m = made_of c (prepared_at f source config stimulus) (λ prepared. listing (measured_text (first_run prepared.0) prepared.0.spans prepared.1 clocks)) (done c f _ p) in
    record { setup = m.0.0; lines = m.0.1; given = m.1; wrote = writing c f _ _ p m.2 }

pub receive_passed : (c : Call) (f : Files) (source : List ℕ) (config stimulus : Option (List ℕ)) (clocks pin bit : ℕ)
    → Passed c f (receive source config stimulus clocks pin bit) → ReceivePassed c f source config stimulus clocks pin bit
unfolding judge received_text
receive_passed c f source config stimulus clocks pin bit p =
    let m = made_of c (prepared_at f source config stimulus) (λ prepared. listing (received_text (first_run prepared.0) pin bit prepared.1 clocks)) (done c f _ p) in
    record { setup = m.0.0; lines = m.0.1; given = m.1; wrote = writing c f _ _ p m.2 }

pub inspect_passed : (c : Call) (f : Files) (source : List ℕ) (config stimulus : Option (List ℕ)) (clocks : ℕ)
    → Passed c f (inspect source config stimulus clocks) → InspectPassed c f source config stimulus clocks
unfolding judge inspected_text
inspect_passed c f source config stimulus clocks p =
    let m = made_of c (prepared_at f source config stimulus) (λ prepared. listing (inspected_text prepared.0 prepared.1 clocks)) (done c f _ p) in
    record { setup = m.0.0; lines = m.0.1; given = m.1; wrote = writing c f _ _ p m.2 }

pub uart_passed : (c : Call) (f : Files) (send : List ℕ) (divider clocks : ℕ)
    → Passed c f (uart send divider clocks) → UartPassed c f send divider clocks
unfolding judge sent_text
uart_passed c f send divider clocks p =
    let m = made_of c (read_at Send (get f send)) (λ bytes. listing (sent_text divider bytes clocks)) (done c f _ p) in
    record { bytes = m.0; given = m.1; wrote = writing c f _ _ p m.2 }

pub shares_passed : (c : Call) (f : Files) (source : List ℕ) (config : Option (List ℕ))
    → Passed c f (shares source config) → SharesPassed c f source config
unfolding judge
shares_passed c f source config p =
    let m = made_of c (prepared_at f source config None) (λ prepared. listing (shares_text prepared.0)) (done c f _ p) in
    record { setup = m.0.0; given = no_lines f source config _ _ m.1; wrote = writing c f _ _ p m.2 }

pub gen_passed : (c : Call) (f : Files) (seed clocks : ℕ) → Passed c f (gen seed clocks) → GenPassed c seed clocks
unfolding judge
gen_passed c f seed clocks p = record { wrote = writing c f _ _ p (done c f (gen seed clocks) p).0 }

pub asm_passed : (c : Call) (f : Files) (name : List ℕ) → Passed c f (asm name) → AsmPassed c f name
unfolding judge
asm_passed c f name p =
    let m = made_of c (source_at f name) (λ programs. listing (listing_text programs)) (done c f _ p) in
    record { programs = m.0; given = m.1; wrote = writing c f _ _ p m.2 }

pub dis_passed : (c : Call) (f : Files) (name : List ℕ) (side : ℕ) (opt : Bool)
    → Passed c f (dis name side opt) → DisPassed c f name side opt
unfolding judge
dis_passed c f name side opt p =
    let m = made_of c (words_at f name) (λ read. listing (word_lines (rule_for side opt) read)) (done c f _ p) in
    record { words = m.0; given = m.1; wrote = writing c f _ _ p m.2 }
