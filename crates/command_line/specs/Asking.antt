-- What subcommands ask for, but for the first of them: the later parts of `subcommand_asked`.
use Rattle.std.specs.Prelude.{List, codes, if◌then◌else◌}
use Rattle.std.specs.Str.{bytes_eq}
use Rattle.clap.specs.Walk.{Row, Text}
use Rattle.command_line.specs.Words.{Asked, dis_asked, gen_asked, inspect_asked, measure_asked, pair_asked, receive_asked}
use Rattle.command_line.specs.Words.{recheck_asked, shares_asked, uart_asked}

-- the arguments of `receive`, `uart`, `pair` and `inspect` by name, and else those of `dis`
abbrev pub observer_asked : Text → List Row → Asked
observer_asked name rows =
    if bytes_eq name (codes "receive") then receive_asked rows
    else if bytes_eq name (codes "uart") then uart_asked rows
    else if bytes_eq name (codes "pair") then pair_asked rows
    else if bytes_eq name (codes "inspect") then inspect_asked rows
    else dis_asked rows

-- the arguments of `recheck`, `shares`, `gen` and `measure` by name, and else those of the names above
abbrev pub checker_asked : Text → List Row → Asked
checker_asked name rows =
    if bytes_eq name (codes "recheck") then recheck_asked rows
    else if bytes_eq name (codes "shares") then shares_asked rows
    else if bytes_eq name (codes "gen") then gen_asked rows
    else if bytes_eq name (codes "measure") then measure_asked rows
    else observer_asked name rows
