-- What making a setup step by step gives.
use Rattle.std.specs.Prelude.{◌≡◌, None, [], ◌∷◌}
use Rattle.pin_matrix.specs.declared.setup.Setup.{Setup}

-- no machine is configured, and no pin is driven high, an output or without synchroniser
pub record IsEmptySetup (s : Setup) : Type 0 where
  pub machines : s.machines ≡ None ∷ None ∷ None ∷ None ∷ []
  pub high : s.high ≡ 0
  pub level : s.level ≡ 0
  pub out : s.out ≡ 0
  pub bypass : s.bypass ≡ 0

-- all but the machines is the same
pub record HasRestOf (s before : Setup) : Type 0 where
  pub memory : s.memory ≡ before.memory
  pub high : s.high ≡ before.high
  pub level : s.level ≡ before.level
  pub out : s.out ≡ before.out
  pub bypass : s.bypass ≡ before.bypass
  pub spans : s.spans ≡ before.spans
