-- What words as the usage has them ask for: laws above clap's definition of a parse.
use Rattle.std.specs.Prelude.{◌++◌, ◌+◌, ◌≤◌, ◌==◌, ◌&&◌, ℕ, Bool, true, false, not, Option, None, Some, List, [], ◌∷◌, codes, if◌then◌else◌}
use Rattle.std.specs.Str.Parse.{digits_value, without_leading_plus}
use Rattle.clap.specs.ValueTests.{is_unsigned_in}
use Rattle.clap.specs.Walk.{Text}
use Rattle.command_line.specs.Tool.{bit_limit, clock_limit, divider_limit, least_bit, least_divider, pin_limit, seed_limit, side_limit}
use Rattle.command_line.specs.Words.{Asked, Asks, WordsAreRefused, WordsAreTaken, asm, check, dis, gen, inspect, measure, pair, receive, recheck, run, shares, table, uart}

-- the number of decimal digits, where a plus may come first
abbrev pub number_of : Text → ℕ
number_of text = digits_value 10 (without_leading_plus text)

-- the words are taken and ask for this where the test passes, and else they are refused
abbrev pub AskWhere : Bool → List Text → Asked → Type 0
AskWhere true words a = WordsAreTaken words × Asks words a
AskWhere false words a = WordsAreRefused words

-- `asm -- FILE`, of a program of any name
abbrev pub asm_words : Text → Text → List Text
asm_words name file = name ∷ codes "asm" ∷ codes "--" ∷ file ∷ []

-- they ask for the listing of FILE, whatever FILE is
abbrev pub AsmWords : Type 0
AsmWords = (name file : Text) → AskWhere true (asm_words name file) (asm file)

-- an option `--name=X`, where it is given
abbrev pub given : Text → Option Text → List Text
given option None = []
given option (Some text) = (option ++ text) ∷ []

-- `run --source=S [--config=C] [--stimulus=T] --clocks=N`, of a program of any name
abbrev pub run_words : Text → Text → Option Text → Option Text → Text → List Text
run_words name source config stimulus clocks =
    name ∷ codes "run" ∷ (codes "--source=" ++ source) ∷ (given (codes "--config=") config
    ++ given (codes "--stimulus=") stimulus ++ (codes "--clocks=" ++ clocks) ∷ [])

-- they ask for N clocks of S under C and T, or under none, exactly where N is a whole number in range, whatever S, C and T are
abbrev pub RunWords : Type 0
RunWords = (name source : Text) (config stimulus : Option Text) (clocks : Text)
    → AskWhere (is_unsigned_in 0 clock_limit clocks) (run_words name source config stimulus clocks)
    (run source config stimulus (number_of clocks))

-- `check --source=S [--config=C]`, of a program of any name
abbrev pub check_words : Text → Text → Option Text → List Text
check_words name source config = name ∷ codes "check" ∷ (codes "--source=" ++ source) ∷ given (codes "--config=") config

-- they ask for the verdicts on the spans of C over S, whatever S and C are
abbrev pub CheckWords : Type 0
CheckWords = (name source : Text) (config : Option Text) → AskWhere true (check_words name source config) (check source config)

-- `table --source=S [--config=C] --span=NAME`, of a program of any name
abbrev pub table_words : Text → Text → Option Text → Text → List Text
table_words name source config span =
    name ∷ codes "table" ∷ (codes "--source=" ++ source) ∷ (given (codes "--config=") config ++ (codes "--span=" ++ span) ∷ [])

-- they ask for the table of the span NAME of C over S, whatever S, C and NAME are
abbrev pub TableWords : Type 0
TableWords = (name source : Text) (config : Option Text) (span : Text)
    → AskWhere true (table_words name source config span) (table source config span)

-- `recheck --source=S [--config=C] --span=NAME --table=F`, of a program of any name
abbrev pub recheck_words : Text → Text → Option Text → Text → Text → List Text
recheck_words name source config span file =
    name ∷ codes "recheck" ∷ (codes "--source=" ++ source) ∷ (given (codes "--config=") config
    ++ (codes "--span=" ++ span) ∷ (codes "--table=" ++ file) ∷ [])

-- they ask whether the table in F proves the span NAME of C over S, whatever S, C, NAME and F are
abbrev pub RecheckWords : Type 0
RecheckWords = (name source : Text) (config : Option Text) (span file : Text)
    → AskWhere true (recheck_words name source config span file) (recheck source config span file)

-- `shares --source=S [--config=C]`, of a program of any name
abbrev pub shares_words : Text → Text → Option Text → List Text
shares_words name source config = name ∷ codes "shares" ∷ (codes "--source=" ++ source) ∷ given (codes "--config=") config

-- they ask what the machines of C over S share, whatever S and C are
abbrev pub SharesWords : Type 0
SharesWords = (name source : Text) (config : Option Text) → AskWhere true (shares_words name source config) (shares source config)

-- `gen --seed=K --clocks=N`, of a program of any name
abbrev pub gen_words : Text → Text → Text → List Text
gen_words name seed clocks = name ∷ codes "gen" ∷ (codes "--seed=" ++ seed) ∷ (codes "--clocks=" ++ clocks) ∷ []

-- they ask for N clocks of the load that K draws exactly where both are whole numbers in range, whatever K and N are
abbrev pub GenWords : Type 0
GenWords = (name seed clocks : Text)
    → AskWhere (is_unsigned_in 0 seed_limit seed && is_unsigned_in 0 clock_limit clocks) (gen_words name seed clocks)
    (gen (number_of seed) (number_of clocks))

-- `measure --source=S [--config=C] [--stimulus=T] --clocks=N`, of a program of any name
abbrev pub measure_words : Text → Text → Option Text → Option Text → Text → List Text
measure_words name source config stimulus clocks =
    name ∷ codes "measure" ∷ (codes "--source=" ++ source) ∷ (given (codes "--config=") config
    ++ given (codes "--stimulus=") stimulus ++ (codes "--clocks=" ++ clocks) ∷ [])

-- they ask for what N clocks show of the spans of C over S, exactly where N is a whole number in range, whatever S, C and T are
abbrev pub MeasureWords : Type 0
MeasureWords = (name source : Text) (config stimulus : Option Text) (clocks : Text)
    → AskWhere (is_unsigned_in 0 clock_limit clocks) (measure_words name source config stimulus clocks)
    (measure source config stimulus (number_of clocks))

-- `receive --source=S [--config=C] [--stimulus=T] --clocks=N --pin=P --bit=B`, of a program of any name
abbrev pub receive_words : Text → Text → Option Text → Option Text → Text → Text → Text → List Text
receive_words name source config stimulus clocks pin bit =
    name ∷ codes "receive" ∷ (codes "--source=" ++ source) ∷ (given (codes "--config=") config
    ++ given (codes "--stimulus=") stimulus
    ++ (codes "--clocks=" ++ clocks) ∷ (codes "--pin=" ++ pin) ∷ (codes "--bit=" ++ bit) ∷ [])

-- the three numbers are in range
abbrev pub are_in_range : Text → Text → Text → Bool
are_in_range clocks pin bit =
    is_unsigned_in 0 clock_limit clocks && is_unsigned_in 0 pin_limit pin && is_unsigned_in least_bit bit_limit bit

-- they ask for the bytes on pin P at B clocks a bit in N clocks of S under C and T, exactly where the three are whole numbers in
-- range, whatever S, C and T are
abbrev pub ReceiveWords : Type 0
ReceiveWords = (name source : Text) (config stimulus : Option Text) (clocks pin bit : Text)
    → AskWhere (are_in_range clocks pin bit) (receive_words name source config stimulus clocks pin bit)
    (receive source config stimulus (number_of clocks) (number_of pin) (number_of bit))

-- `uart --send=F --divider=I --clocks=N`, of a program of any name
abbrev pub uart_words : Text → Text → Text → Text → List Text
uart_words name send divider clocks =
    name ∷ codes "uart" ∷ (codes "--send=" ++ send) ∷ (codes "--divider=" ++ divider) ∷ (codes "--clocks=" ++ clocks) ∷ []

-- they ask for what the transmitter sends of F in N clocks with a tick every I clocks, exactly where both are whole numbers in range,
-- whatever F is
abbrev pub UartWords : Type 0
UartWords = (name send divider clocks : Text)
    → AskWhere (is_unsigned_in least_divider divider_limit divider && is_unsigned_in 0 clock_limit clocks)
    (uart_words name send divider clocks) (uart send (number_of divider) (number_of clocks))

-- `pair --source=S --config=A --second=B [--stimulus=T] --clocks=N`, of a program of any name
abbrev pub pair_words : Text → Text → Text → Text → Option Text → Text → List Text
pair_words name source config second stimulus clocks =
    name ∷ codes "pair" ∷ (codes "--source=" ++ source) ∷ (codes "--config=" ++ config) ∷ (codes "--second=" ++ second)
    ∷ (given (codes "--stimulus=") stimulus ++ (codes "--clocks=" ++ clocks) ∷ [])

-- they ask for N clocks of two blocks, of S under A and under B, beside T or beside none, exactly where N is a whole number in range,
-- whatever S, A, B and T are
abbrev pub PairWords : Type 0
PairWords = (name source config second : Text) (stimulus : Option Text) (clocks : Text)
    → AskWhere (is_unsigned_in 0 clock_limit clocks) (pair_words name source config second stimulus clocks)
    (pair source config second stimulus (number_of clocks))

-- `inspect --source=S [--config=C] [--stimulus=T] --clocks=N`, of a program of any name
abbrev pub inspect_words : Text → Text → Option Text → Option Text → Text → List Text
inspect_words name source config stimulus clocks =
    name ∷ codes "inspect" ∷ (codes "--source=" ++ source) ∷ (given (codes "--config=") config
    ++ given (codes "--stimulus=") stimulus ++ (codes "--clocks=" ++ clocks) ∷ [])

-- they ask for what is inside the block in N clocks of S under C and T, exactly where N is a whole number in range, whatever S, C and T
-- are
abbrev pub InspectWords : Type 0
InspectWords = (name source : Text) (config stimulus : Option Text) (clocks : Text)
    → AskWhere (is_unsigned_in 0 clock_limit clocks) (inspect_words name source config stimulus clocks)
    (inspect source config stimulus (number_of clocks))

-- the digit `0`; the others follow it
abbrev pub digit_0 : ℕ
digit_0 = 48

-- `dis --side=n [--opt] -- FILE`, of a program of any name, where n is one digit
abbrev pub dis_words : Text → Text → ℕ → Bool → List Text
dis_words name file side opt =
    name ∷ codes "dis" ∷ (codes "--side=" ++ (digit_0 + side) ∷ [])
    ∷ (if opt then codes "--opt" ∷ codes "--" ∷ file ∷ [] else codes "--" ∷ file ∷ [])

-- they ask for the text of FILE exactly where there is room for `--opt`, whatever FILE is
abbrev pub DisWords : Type 0
DisWords = (name file : Text) (side : ℕ) (opt : Bool) → side ≤ side_limit
    → AskWhere (not (side == side_limit && opt)) (dis_words name file side opt) (dis file side opt)
