-- What is read where numbers past every range are cut off.
use Rattle.std.specs.Prelude.{option_map}
use Rattle.span_step.specs.declared.ages.Ages.{Ages}
use Rattle.span_step.specs.declared.ages.Ages.TheVariants.{Empty, Between}
use Rattle.span_texts.specs.declared.said.Said.{Said}
use Rattle.span_texts.specs.Numbers.{capped}

-- ages, or numbers past every range
abbrev pub capped_ages : Ages → Ages
capped_ages Empty = Empty
capped_ages (Between lo hi) = Between (capped lo) (capped hi)

-- the same of all that a line says
abbrev pub capped_said : Said → Said
capped_said s = record {
  address = capped s.address;
  x = option_map capped s.x;
  y = option_map capped s.y;
  from = capped s.from;
  to = capped s.to;
  ages = capped_ages s.ages;
}
