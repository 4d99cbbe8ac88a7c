-- The edges of a pin in samples.
--   edges_in   how many there are
--   Counted    what a trace keeps that counts them
use Rattle.std.specs.Prelude.{◌≡◌, ℕ, ◌+◌, ◌^◌, ◌-◌, ◌<◌, ◌==◌, List, [], ◌∷◌, if◌then◌else◌, min, replicate, slice_index_or}
use Rattle.std.specs.Int.{bit_at}
use Rattle.block_core.specs.declared.sample.Sample.{Sample}

-- 1 where the output levels before and after a clock differ at the pin, else 0
abbrev pub edge_of : ℕ → ℕ → ℕ → ℕ
edge_of pin before level = if bit_at before pin == bit_at level pin then 0 else 1

-- How often the output level of the pin changes in the samples, with these levels before the first one.
unfoldable pub edges_in : ℕ → ℕ → List Sample → ℕ
edges_in pin before [] = 0
edges_in pin before (s ∷ rest) = edge_of pin before s.level + edges_in pin s.level rest

-- the output levels after the samples
unfoldable pub levels_after : ℕ → List Sample → ℕ
levels_after before [] = before
levels_after before (s ∷ rest) = levels_after s.level rest

-- The most that a count may be.
abbrev pub most : ℕ
most = 2 ^ 64 - 1

-- what a trace keeps: the output levels before the first sample and after the last, and a count for each pin
pub record Counts : Type 0 where
  pub first : ℕ
  pub last : ℕ
  pub counts : List ℕ

-- a trace before its first sample
abbrev pub no_edges : ℕ → Counts
no_edges levels = record { first = levels; last = levels; counts = replicate 32 0 }

-- each count grew by the edge of its pin, as far as it may
abbrev pub HasGrown : ℕ → ℕ → List ℕ → List ℕ → Type 0
HasGrown before level old new = (pin : ℕ) → pin < 32 → slice_index_or new pin 0 ≡ min (slice_index_or old pin 0 + edge_of pin before level) most

-- The trace began with these levels, it knows the last ones, and each count is that of its pin's edges, up to the most.
pub record HasCounted (levels : ℕ) (told : List Sample) (t : Counts) : Type 0 where
  pub first : t.first ≡ levels
  pub last : t.last ≡ levels_after levels told
  pub edges : (pin : ℕ) → pin < 32 → slice_index_or t.counts pin 0 ≡ min (edges_in pin levels told) most
