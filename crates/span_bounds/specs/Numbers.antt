-- The contexts in order: by address, then X, then Y, of which any comes after the last that is followed, then the levels.
--   contexts         how many there are
--   number_of        a context's place in this order
--   context_at       the context at a place
use Rattle.std.specs.Prelude.{ℕ, ◌+◌, ◌*◌, ◌/◌, ◌%◌, ◌==◌, Bool, true, false, if◌then◌else◌, Option, Some, None}
use Rattle.pin_matrix.specs.Followed.{followed}
use Rattle.pin_matrix.specs.declared.assume.Follow.{Follow}
use Rattle.pin_matrix.specs.declared.span.Span.{Span}
use Rattle.span_step.specs.Contexts.{Context}

-- how many contexts there are: X and Y with any, an address, two levels
unfoldable pub contexts : Follow → ℕ
contexts f = 4 * ((f.y + 2) * ((f.x + 2) * 32))

-- how many a span has
abbrev pub contexts_of : Span → ℕ
contexts_of sp = contexts (followed sp)

-- the place of what is known of X or Y: any comes after the last that is followed
abbrev pub known_number : ℕ → Option ℕ → ℕ
known_number most None = most + 1
known_number most (Some n) = n

-- a level's place
abbrev pub level_number : Bool → ℕ
level_number false = 0
level_number true = 1

-- a context's place in the order
abbrev pub number_of : Follow → Context → ℕ
number_of f k = ((k.address * (f.x + 2) + known_number f.x k.x) * (f.y + 2) + known_number f.y k.y) * 4 + 2 * level_number k.from + level_number k.to

-- what is known of X or Y at a place
abbrev pub known_at : ℕ → ℕ → Option ℕ
known_at most n = if n == most + 1 then None else Some n

-- the context at a place below their number
unfoldable pub context_at : Follow → ℕ → Context
context_at f i = record {
  address = i / 4 / (f.y + 2) / (f.x + 2);
  x = known_at f.x (i / 4 / (f.y + 2) % (f.x + 2));
  y = known_at f.y (i / 4 % (f.y + 2));
  from = i / 2 % 2 == 1;
  to = i % 2 == 1;
}
