-- A command works out no more clocks than those of its files' run that are worked out, nor than it is asked for.
use Rattle.std.proofs.Common.{◌≡◌, ◌+◌, ◌≤◌, ℕ, Option, Some, None, List, IfSome, sym, subst, arith}
use Rattle.std.specs.Option.{option_map_or}
use Rattle.pio_edge.specs.Edge.{Files}
use Rattle.dreq_pacing.specs.declared.line.Line.{Line}
use Rattle.block_core.specs.Block.{Run, first_run}
use Rattle.block_core.specs.Twin.{TwinRun}
use Rattle.idle_engine.specs.Worked.{worked_in, twin_worked_in}
use Rattle.drawn_load.specs.Loads.{lines_of}
use Rattle.drawn_load.specs.Summaries.{start_of}
use Rattle.pio_uart.specs.Feeding.{fed}
use Rattle.pio_uart.specs.OneSetup.{transmitter_of}
use Rattle.command_line.specs.Words.{Asked, run, gen, measure, receive, uart, pair, inspect, asked_of, clocks_asked, most_clocks}
use Rattle.stages.specs.Judged.{Judged, right, wrong}
use Rattle.commands.specs.Tasks.{twin_start}
use Rattle.commands.specs.Steps.{worked_for}
use Rattle.commands.specs.Worked.{worked_if, worked_at, most_worked}

-- no more than all clocks are worked out
abbrev AreFew : Type 0
AreFew = (start : Run) (lines : List Line) (clocks : ℕ) → worked_in start lines clocks ≤ clocks

abbrev TwinsAreFew : Type 0
TwinsAreFew = (start : TwinRun) (first second : List Line) (clocks : ℕ) → twin_worked_in start first second clocks ≤ clocks

-- where the files come to this
pub worked_by : {X : Type 0} (files : Option Files) (comes_to : Files → Judged X) (worked : X → ℕ) (clocks before after : ℕ) (x : X)
    → IfSome files (λ f. comes_to f ≡ right x) → worked x ≤ clocks → after ≤ before + worked x → after ≤ before + worked_at files comes_to worked clocks
worked_by None comes_to worked clocks before after x same few h = omega (arith, h, few)
worked_by {X} (Some f) comes_to worked clocks before after x same few h =
    subst (λ (j : Judged X). after ≤ before + worked_if worked j) (sym same) h

-- whatever they come to
few_of : {X : Type 0} (worked : X → ℕ) (clocks : ℕ) (j : Judged X) → ((x : X) → worked x ≤ clocks) → worked_if worked j ≤ clocks
few_of worked clocks (right x) few = few x
few_of worked clocks (wrong e) few = omega arith

-- whether they are known or not
few_at : {X : Type 0} (files : Option Files) (comes_to : Files → Judged X) (worked : X → ℕ) (clocks : ℕ) → ((x : X) → worked x ≤ clocks)
    → worked_at files comes_to worked clocks ≤ clocks
few_at None comes_to worked clocks few = omega arith
few_at (Some f) comes_to worked clocks few = few_of worked clocks (comes_to f) few

-- a command works out no more clocks than it is asked for
pub most_asked : AreFew → TwinsAreFew → (files : Option Files) (a : Asked) → most_worked files a ≤ clocks_asked a
most_asked few both files (run source config stimulus clocks) = few_at files _ _ clocks (λ p. few (first_run p.0) p.1 clocks)
most_asked few both files (measure source config stimulus clocks) = few_at files _ _ clocks (λ p. few (first_run p.0) p.1 clocks)
most_asked few both files (receive source config stimulus clocks pin bit) = few_at files _ _ clocks (λ p. few (first_run p.0) p.1 clocks)
most_asked few both files (inspect source config stimulus clocks) = few_at files _ _ clocks (λ p. few (first_run p.0) p.1 clocks)
most_asked few both files (uart send divider clocks) = few_at files _ _ clocks (λ bytes. few (first_run (transmitter_of divider)) (fed bytes) clocks)
most_asked few both files (pair source config second stimulus clocks) =
    few_at files _ _ clocks (λ p. both (twin_start p) p.first_lines p.second_lines clocks)
most_asked few both files (gen seed clocks) = few (start_of seed) (lines_of seed) clocks
most_asked few both files a = omega arith

of_asked : (files : Option Files) → ((a : Asked) → most_worked files a ≤ clocks_asked a) → (a : Option Asked)
    → option_map_or (most_worked files) a 0 ≤ option_map_or clocks_asked a 0
of_asked files most None = let none : 0 ≤ 0 = omega arith in none
of_asked files most (Some a) = most a

-- nor does the call
pub most_of_words : (files : Option Files) (words : List (List ℕ)) (before after : ℕ) → ((f : Option Files) (a : Asked) → most_worked f a ≤ clocks_asked a)
    → after ≤ before + worked_for files words → after ≤ before + most_clocks words
most_of_words files words before after most h =
    let le : worked_for files words ≤ most_clocks words = of_asked files (most files) (asked_of words) in
    omega (arith, h, le)
