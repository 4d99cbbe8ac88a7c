-- The report on what machines share (choice of this profile).
--   hex_text       a number in hexadecimal
--   share_line     what a machine can feel of another
--   alone_line     that it can feel nothing of any other
--   machine_text   the lines of a machine
--   shares_text    those of all machines
use Rattle.std.specs.Prelude.{ℕ, ◌/◌, ◌%◌, ◌^◌, ◌==◌, ◌&&◌, ◌||◌, Bool, if◌then◌else◌, None, List, [], ◌++◌, codes, decimal, slice_index_or, is_some, not}
use Rattle.pin_matrix.specs.declared.setup.Setup.{Setup}
use Rattle.block_shares.specs.Shares.{shares_of}

-- a digit, of 16 values, in lower case
abbrev pub digit_text : ℕ → List ℕ
digit_text n =
    if n == 0 then codes "0" else if n == 1 then codes "1" else if n == 2 then codes "2" else if n == 3 then codes "3" else
    if n == 4 then codes "4" else if n == 5 then codes "5" else if n == 6 then codes "6" else if n == 7 then codes "7" else
    if n == 8 then codes "8" else if n == 9 then codes "9" else if n == 10 then codes "a" else if n == 11 then codes "b" else
    if n == 12 then codes "c" else if n == 13 then codes "d" else if n == 14 then codes "e" else codes "f"

-- the digit of a number whose lowest bit is this one
abbrev pub digit_at : ℕ → ℕ → List ℕ
digit_at n low = digit_text (n / 2 ^ low % 16)

-- pins: eight digits
abbrev pub pins_text : ℕ → List ℕ
pins_text n =
    digit_at n 28 ++ digit_at n 24 ++ digit_at n 20 ++ digit_at n 16 ++ digit_at n 12 ++ digit_at n 8 ++ digit_at n 4 ++ digit_at n 0

-- flags: two digits
abbrev pub flags_text : ℕ → List ℕ
flags_text n = digit_at n 4 ++ digit_at n 0

-- the line of what machine m can feel of machine k
abbrev pub share_line : (m k : ℕ) → ℕ × ℕ → List ℕ
share_line m k felt =
    codes "machine " ++ decimal m ++ codes " from " ++ decimal k ++ codes " pins 0x" ++ pins_text felt.0 ++ codes " flags 0x" ++ flags_text felt.1 ++ codes "\n"

-- the line of a machine that can feel nothing of another
abbrev pub alone_line : ℕ → List ℕ
alone_line m = codes "machine " ++ decimal m ++ codes " alone\n"

-- no pin and no flag
abbrev pub is_nothing : ℕ × ℕ → Bool
is_nothing felt = felt.0 == 0 && felt.1 == 0

-- machine m can feel something of machine k, another one
abbrev pub feels : Setup → (m k : ℕ) → Bool
feels setup m k = not (k == m) && not (is_nothing (shares_of setup m k))

-- its line, where it can
abbrev pub share_text : Setup → (m k : ℕ) → List ℕ
share_text setup m k = if feels setup m k then share_line m k (shares_of setup m k) else []

-- machine m can feel something of any other
abbrev pub feels_any : Setup → (m : ℕ) → Bool
feels_any setup m = feels setup m 0 || (feels setup m 1 || (feels setup m 2 || feels setup m 3))

-- a line for each other machine that it can feel something of, in order of their numbers
abbrev pub share_texts : Setup → (m : ℕ) → List ℕ
share_texts setup m = share_text setup m 0 ++ share_text setup m 1 ++ share_text setup m 2 ++ share_text setup m 3

-- the lines of a machine that is configured
abbrev pub machine_text : Setup → (m : ℕ) → List ℕ
machine_text setup m =
    if is_some (slice_index_or setup.machines m None) then (if feels_any setup m then share_texts setup m else alone_line m) else []

-- the lines of all machines that are configured, in order of their numbers
unfoldable pub shares_text : Setup → List ℕ
shares_text setup = machine_text setup 0 ++ machine_text setup 1 ++ machine_text setup 2 ++ machine_text setup 3
