-- Loads that share no address, a consequence of the definitions (`loads_share_no_address`).
use Rattle.std.specs.Prelude.{◌≡◌, ℕ, ◌<◌, true, false, List, [], ◌∷◌}
use Rattle.block_config.specs.Loads.{covers, is_covered}
use Rattle.block_config.specs.Programs.{Loaded}

-- what one of the loads covers, no later one does
abbrev pub AreApart : List Loaded → Type 0
AreApart [] = Unit {0}
AreApart (l ∷ ls) = ((address : ℕ) → address < 32 → covers l address ≡ true → is_covered ls address ≡ false) × AreApart ls
