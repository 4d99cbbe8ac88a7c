use Rattle.std.proofs.Common.{◌≡◌, ◌-◌, ◌≤◌, ◌++◌, length, vec_capacity}
use Rattle.std.specs.Prelude.{replicate}
use Rattle.sample_trace.proofs.list.hold.Given as goal

-- so many copies of the last sample come after the list
abbrev pub invariant-loop : goal.invariant-loop
invariant-loop l = record {
  items : l.samples.items ≡ l.initial.samples.items ++ replicate (l.counter - length l.initial.samples.items) l.last;
  within : l.counter - length l.initial.samples.items ≤ l.clock - length l.initial.samples.items;
  capacity : vec_capacity l.initial.samples ≤ vec_capacity l.samples;
}
