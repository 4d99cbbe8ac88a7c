-- What words give: where the texts and numbers that they ask for stand among them.
--   GivesText    an option is given this text
--   GivesNumber  an option is given a whole number in range, and this is the number
--   IsGiven      each text and number of what words ask for is given
use Rattle.std.specs.Prelude.{◌≡◌, ◌⊎◌, ◌++◌, ℕ, true, Option, Some, IfSome, List, ◌∷◌, codes}
use Rattle.clap.specs.ValueTests.{is_unsigned_in}
use Rattle.clap.specs.Walk.{Text}
use Rattle.command_line.specs.Tool.{bit_limit, clock_limit, divider_limit, least_bit, least_divider, pin_limit, seed_limit, side_limit}
use Rattle.command_line.specs.Words.{Asked, Asks, asm, check, dis, gen, inspect, measure, pair, receive, recheck, run, shares, table, uart}
use Rattle.command_line.specs.Laws.{number_of}

-- the second of these two words comes right after the first
pub record AreNext (words : List Text) (first second : Text) : Type 0 where
  pub before : List Text
  pub after : List Text
  pub parts : words ≡ before ++ first ∷ second ∷ after

-- the second word is `--name=text`; or the first is `--name`, and the second the text
abbrev pub IsGivenBy : (name text first second : Text) → Type 0
IsGivenBy name text first second =
    (second ≡ codes "--" ++ name ++ codes "=" ++ text) ⊎ ((first ≡ codes "--" ++ name) × (second ≡ text))

-- the words give the option of this name this text
pub record GivesText (words : List Text) (name text : Text) : Type 0 where
  pub first : Text
  pub second : Text
  pub next : AreNext words first second
  pub given : IsGivenBy name text first second

-- the words give the option of this name a whole number from `least` to `most`, and this is the number
pub record GivesNumber (words : List Text) (name : Text) (least most n : ℕ) : Type 0 where
  pub text : Text
  pub given : GivesText words name text
  pub whole : is_unsigned_in least most text ≡ true
  pub number : n ≡ number_of text

-- the text is one of the words after the first
pub record GivesWord (words : List Text) (text : Text) : Type 0 where
  pub first : Text
  pub next : AreNext words first text

-- the source, and a configuration where there is one
pub record GivesSetup (words : List Text) (source : Text) (config : Option Text) : Type 0 where
  pub program : GivesText words (codes "source") source
  pub setup : IfSome config (GivesText words (codes "config"))

-- the same, and a stimulus where there is one
pub record GivesFiles (words : List Text) (source : Text) (config stimulus : Option Text) : Type 0 where
  pub programs : GivesSetup words source config
  pub lines : IfSome stimulus (GivesText words (codes "stimulus"))

-- the clocks of a run
abbrev pub GivesClocks : List Text → ℕ → Type 0
GivesClocks words clocks = GivesNumber words (codes "clocks") 0 clock_limit clocks

-- each text is one that the words give, and each number that of such a text, in range; the side-set bits are 0 where
-- none are given
abbrev pub IsGiven : List Text → Asked → Type 0
IsGiven words (asm file) = GivesWord words file
IsGiven words (run source config stimulus clocks) = GivesFiles words source config stimulus × GivesClocks words clocks
IsGiven words (check source config) = GivesSetup words source config
IsGiven words (table source config span) = GivesSetup words source config × GivesText words (codes "span") span
IsGiven words (recheck source config span file) =
    GivesSetup words source config × GivesText words (codes "span") span × GivesText words (codes "table") file
IsGiven words (shares source config) = GivesSetup words source config
IsGiven words (gen seed clocks) = GivesNumber words (codes "seed") 0 seed_limit seed × GivesClocks words clocks
IsGiven words (dis file side opt) = GivesWord words file × ((side ≡ 0) ⊎ GivesNumber words (codes "side") 0 side_limit side)
IsGiven words (measure source config stimulus clocks) = GivesFiles words source config stimulus × GivesClocks words clocks
IsGiven words (receive source config stimulus clocks pin bit) =
    GivesFiles words source config stimulus × GivesClocks words clocks × GivesNumber words (codes "pin") 0 pin_limit pin
    × GivesNumber words (codes "bit") least_bit bit_limit bit
IsGiven words (uart send divider clocks) =
    GivesText words (codes "send") send × GivesNumber words (codes "divider") least_divider divider_limit divider × GivesClocks words clocks
IsGiven words (pair source config second stimulus clocks) =
    GivesFiles words source (Some config) stimulus × GivesText words (codes "second") second × GivesClocks words clocks
IsGiven words (inspect source config stimulus clocks) = GivesFiles words source config stimulus × GivesClocks words clocks

-- whatever words `tool` takes, what they ask for is given
abbrev pub TakenWords : Type 0
TakenWords = (words : List Text) (a : Asked) → Asks words a → IsGiven words a
