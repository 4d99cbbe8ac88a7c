-- What a machine sees of its own FIFOs in a clock, as they are at its start.
use Rattle.std.specs.Prelude.{ℕ, Bool, Option}

-- the oldest word of TX, if any; how many words are in TX and in RX; whether RX has no room left, as one that is disabled
-- has not
pub record Queues : Type 0 where
  pub front : Option ℕ
  pub tx_level : ℕ
  pub rx_level : ℕ
  pub rx_full : Bool
