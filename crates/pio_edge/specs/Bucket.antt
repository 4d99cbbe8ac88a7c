-- What a sink in memory is: the bytes that it took, the room that it has, and which of its calls fail.
use Rattle.std.specs.Prelude.{ℕ, ◌-◌, ◌==◌, min, Bool, ◌&&◌, Option, Some, None, List, ◌++◌, length, take, find, nat_lt, not, if◌then◌else◌}
use Rattle.std.specs.Option.{option_map, is_none}
use Rattle.pio_edge.specs.Count.{one_more}

-- the bytes taken, how many it can hold, the calls that fail with what each takes, the calls and faults so far
pub record Bucket : Type 0 where
  pub bytes : List ℕ
  pub room : ℕ
  pub fails : List (ℕ × ℕ)
  pub calls : ℕ
  pub faults : ℕ

-- how many first bytes the next call takes, where its number, from 1 on, is listed
abbrev pub listed : Bucket → Option ℕ
listed b = option_map (λ p. p.1) (find (λ p. p.0 == one_more b.calls) b.fails)

-- how many bytes still fit
abbrev pub room_left : Bucket → ℕ
room_left b = b.room - length b.bytes

-- whether a put of so many bytes passes: it isn't listed, and they fit
abbrev pub put_passes : Bucket → ℕ → Bool
put_passes b size = is_none (listed b) && not (nat_lt (room_left b) size)

-- how many first bytes of so many are taken: all or none where nothing is listed,
-- else as many as the list and the room left both allow
abbrev pub count_at : Option ℕ → ℕ → ℕ → ℕ
count_at None left size = if nat_lt left size then 0 else size
count_at (Some most) left size = min size (min most left)

-- how many first bytes of so many a put takes
abbrev pub put_count : Bucket → ℕ → ℕ
put_count b size = count_at (listed b) (room_left b) size

-- the sink after a put
abbrev pub after_put : Bucket → List ℕ → Bucket
after_put b piece = record b {
  bytes = b.bytes ++ take (put_count b (length piece)) piece;
  calls = one_more b.calls;
  faults = if put_passes b (length piece) then b.faults else one_more b.faults;
}

-- whether finish passes: it isn't listed
abbrev pub finish_passes : Bucket → Bool
finish_passes b = is_none (listed b)

-- the sink after finish, which takes nothing
abbrev pub after_finish : Bucket → Bucket
after_finish b = record b {
  calls = one_more b.calls;
  faults = if finish_passes b then b.faults else one_more b.faults;
}
