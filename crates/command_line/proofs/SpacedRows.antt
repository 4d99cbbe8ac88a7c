-- Rows of calls as the pages have them, each option a word and its value the next, worked by hand. The laws of `Usual` are of the
-- spelling `--name=X`.
use Rattle.std.proofs.Common.{◌≡◌, true, false, List, [], ◌∷◌, None, Some, refl, inl, codes}
use Rattle.clap.specs.Walk.{Text}
use Rattle.clap.specs.Takes.{takes}
use Rattle.clap.specs.Faults.{fault_of}
use Rattle.clap.specs.Kinds.{Kinds}
use Rattle.clap.specs.declared.error.kind.ErrorKind.{ErrorKind}
use Rattle.clap.proofs.OnLiterals.{clap_on_literals}
use Rattle.command_line.specs.Tool.{tool}
use Rattle.command_line.specs.Words.{Asked, WordsAreRefused, asm, run, check, table, recheck, shares, gen, dis, measure, receive, uart, pair, inspect, asked_of, has_no_room}
use Rattle.command_line.specs.Laws.{AskWhere}

-- the words after the program's name
abbrev call : List Text → List Text
call words = codes "piotool" ∷ words

-- each part computes
asks : (words : List Text) (a : Asked) → takes tool words ≡ true → fault_of tool words ≡ [] → asked_of words ≡ Some a
    → has_no_room a ≡ false → AskWhere true words a
asks words a takes taken asked room = (record { takes = takes; room = λ b is. cc }, record { taken = taken; asked = asked })

-- `asm squarewave.pio`
asm_row : AskWhere true
    (call (codes "asm" ∷ codes "squarewave.pio" ∷ []))
    (asm (codes "squarewave.pio"))
unfolding clap_on_literals tool asked_of
asm_row = asks _ _ refl refl refl refl

-- `run --source squarewave.pio --config square.toml --clocks 8`
run_row : AskWhere true
    (call (codes "run" ∷ codes "--source" ∷ codes "squarewave.pio" ∷ codes "--config" ∷ codes "square.toml" ∷ codes "--clocks" ∷ codes "8" ∷ []))
    (run (codes "squarewave.pio") (Some (codes "square.toml")) None 8)
unfolding clap_on_literals tool asked_of
run_row = asks _ _ refl refl refl refl

-- `check --source squarewave.pio --config square.toml`
check_row : AskWhere true
    (call (codes "check" ∷ codes "--source" ∷ codes "squarewave.pio" ∷ codes "--config" ∷ codes "square.toml" ∷ []))
    (check (codes "squarewave.pio") (Some (codes "square.toml")))
unfolding clap_on_literals tool asked_of
check_row = asks _ _ refl refl refl refl

-- `table --source squarewave.pio --config square.toml --span high`
table_row : AskWhere true
    (call (codes "table" ∷ codes "--source" ∷ codes "squarewave.pio" ∷ codes "--config" ∷ codes "square.toml" ∷ codes "--span" ∷ codes "high" ∷ []))
    (table (codes "squarewave.pio") (Some (codes "square.toml")) (codes "high"))
unfolding clap_on_literals tool asked_of
table_row = asks _ _ refl refl refl refl

-- `recheck --source squarewave.pio --config square.toml --span high --table kept.table`
recheck_row : AskWhere true
    (call (codes "recheck" ∷ codes "--source" ∷ codes "squarewave.pio" ∷ codes "--config" ∷ codes "square.toml" ∷ codes "--span" ∷ codes "high" ∷ codes "--table" ∷ codes "kept.table" ∷ []))
    (recheck (codes "squarewave.pio") (Some (codes "square.toml")) (codes "high") (codes "kept.table"))
unfolding clap_on_literals tool asked_of
recheck_row = asks _ _ refl refl refl refl

-- `shares --source ping_pong.pio --config ping_pong.toml`
shares_row : AskWhere true
    (call (codes "shares" ∷ codes "--source" ∷ codes "ping_pong.pio" ∷ codes "--config" ∷ codes "ping_pong.toml" ∷ []))
    (shares (codes "ping_pong.pio") (Some (codes "ping_pong.toml")))
unfolding clap_on_literals tool asked_of
shares_row = asks _ _ refl refl refl refl

-- `gen --seed 7 --clocks 1000`
gen_row : AskWhere true
    (call (codes "gen" ∷ codes "--seed" ∷ codes "7" ∷ codes "--clocks" ∷ codes "1000" ∷ []))
    (gen 7 1000)
unfolding clap_on_literals tool asked_of
gen_row = asks _ _ refl refl refl refl

-- `dis three.hex --side 2 --opt`
dis_row : AskWhere true
    (call (codes "dis" ∷ codes "three.hex" ∷ codes "--side" ∷ codes "2" ∷ codes "--opt" ∷ []))
    (dis (codes "three.hex") 2 true)
unfolding clap_on_literals tool asked_of
dis_row = asks _ _ refl refl refl refl

-- `dis square.hex`: no side-set bits
bare_dis_row : AskWhere true (call (codes "dis" ∷ codes "square.hex" ∷ [])) (dis (codes "square.hex") 0 false)
unfolding clap_on_literals tool asked_of
bare_dis_row = asks _ _ refl refl refl refl

-- `measure --source ws2812.pio --config ws2812.toml --stimulus ws2812.stim --clocks 280`
measure_row : AskWhere true
    (call (codes "measure" ∷ codes "--source" ∷ codes "ws2812.pio" ∷ codes "--config" ∷ codes "ws2812.toml" ∷ codes "--stimulus" ∷ codes "ws2812.stim" ∷ codes "--clocks" ∷ codes "280" ∷ []))
    (measure (codes "ws2812.pio") (Some (codes "ws2812.toml")) (Some (codes "ws2812.stim")) 280)
unfolding clap_on_literals tool asked_of
measure_row = asks _ _ refl refl refl refl

-- `receive --source uart.pio --config uart.toml --stimulus uart.stim --clocks 420 --pin 0 --bit 16`
receive_row : AskWhere true
    (call (codes "receive" ∷ codes "--source" ∷ codes "uart.pio" ∷ codes "--config" ∷ codes "uart.toml" ∷ codes "--stimulus" ∷ codes "uart.stim" ∷ codes "--clocks" ∷ codes "420" ∷ codes "--pin" ∷ codes "0" ∷ codes "--bit" ∷ codes "16" ∷ []))
    (receive (codes "uart.pio") (Some (codes "uart.toml")) (Some (codes "uart.stim")) 420 0 16)
unfolding clap_on_literals tool asked_of
receive_row = asks _ _ refl refl refl refl

-- `uart --send hello.txt --divider 10 --clocks 2000`
uart_row : AskWhere true
    (call (codes "uart" ∷ codes "--send" ∷ codes "hello.txt" ∷ codes "--divider" ∷ codes "10" ∷ codes "--clocks" ∷ codes "2000" ∷ []))
    (uart (codes "hello.txt") 10 2000)
unfolding clap_on_literals tool asked_of
uart_row = asks _ _ refl refl refl refl

-- `pair --source link.pio --config link.toml --second link.second.toml --stimulus link.stim --clocks 420`
pair_row : AskWhere true
    (call (codes "pair" ∷ codes "--source" ∷ codes "link.pio" ∷ codes "--config" ∷ codes "link.toml" ∷ codes "--second" ∷ codes "link.second.toml" ∷ codes "--stimulus" ∷ codes "link.stim" ∷ codes "--clocks" ∷ codes "420" ∷ []))
    (pair (codes "link.pio") (codes "link.toml") (codes "link.second.toml") (Some (codes "link.stim")) 420)
unfolding clap_on_literals tool asked_of
pair_row = asks _ _ refl refl refl refl

-- `inspect --source waits.pio --clocks 12`
inspect_row : AskWhere true
    (call (codes "inspect" ∷ codes "--source" ∷ codes "waits.pio" ∷ codes "--clocks" ∷ codes "12" ∷ []))
    (inspect (codes "waits.pio") None None 12)
unfolding clap_on_literals tool asked_of
inspect_row = asks _ _ refl refl refl refl

-- a value that is missing at the end, or where the next option stands
refused : (words : List Text) (k : ErrorKind) (more : Kinds) → fault_of tool words ≡ k ∷ more → WordsAreRefused words
refused words k more e = inl (λ none. cc)

-- `run --source squarewave.pio --clocks`
no_clocks_row : WordsAreRefused (call (codes "run" ∷ codes "--source" ∷ codes "squarewave.pio" ∷ codes "--clocks" ∷ []))
unfolding clap_on_literals tool
no_clocks_row = refused _ _ _ refl

-- `run --source --config square.toml --clocks 8`
no_source_row : WordsAreRefused
    (call (codes "run" ∷ codes "--source" ∷ codes "--config" ∷ codes "square.toml" ∷ codes "--clocks" ∷ codes "8" ∷ []))
unfolding clap_on_literals tool
no_source_row = refused _ _ _ refl
