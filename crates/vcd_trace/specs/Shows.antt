-- What the fields of a sample, and of what is inside a block, can hold: the ranges of their types.
use Rattle.std.specs.Prelude.{◌≡◌, ◌<◌, ◌^◌, length}
use Rattle.block_core.specs.declared.sample.Sample.{Sample}
use Rattle.block_core.specs.declared.inside.Inside.{Inside}
use Rattle.vcd_trace.specs.InsideText.{places_of}

-- 32 pins, eight flags, four machines
pub record IsSample (s : Sample) : Type 0 where
  pub level : s.level < 2 ^ 32
  pub direction : s.direction < 2 ^ 32
  pub flags : s.flags < 2 ^ 8
  pub tx : length s.tx ≡ 4
  pub rx : length s.rx ≡ 4
  pub got : length s.got ≡ 4
  pub sticky : length s.sticky ≡ 4

-- both samples of a pair are in these ranges
pub record AreSamples (pair : Sample × Sample) : Type 0 where
  pub first : IsSample pair.0
  pub second : IsSample pair.1

-- a sample, 32 pads, four machines
pub record IsInside (s : Inside) : Type 0 where
  pub sample : IsSample s.sample
  pub pads : s.pads < 2 ^ 32
  pub machines : length s.machines ≡ 4

-- both are in these ranges, and the same machines are configured
pub record AreInside (before now : Inside) : Type 0 where
  pub first : IsInside before
  pub second : IsInside now
  pub places : places_of before ≡ places_of now
