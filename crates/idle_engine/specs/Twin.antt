-- The run of two blocks on one set of pins, each with its stimulus.
use Rattle.std.specs.Prelude.{◌≡◌, ◌||◌, List}
use Rattle.dreq_pacing.specs.declared.line.Line.{Line}
use Rattle.dreq_pacing.specs.Due.{quiet}
use Rattle.dreq_pacing.specs.Ports.{acts_in}
use Rattle.block_core.specs.declared.sample.Sample.{Sample}
use Rattle.block_core.specs.HostedTwin.{HostedTwin, twin_of, hosted_twin_next, twin_stirs_in}
use Rattle.block_core.specs.Shown.{requests_of, sample_of}
use Rattle.block_core.specs.Twin.{TwinRun, twin_next, twin_from, twin_moves_on}
use Rattle.idle_engine.specs.Kinds.{RunKind}

-- two hosted blocks, with these in their place and what is left of their transfers
abbrev pub with_twin : HostedTwin → TwinRun → HostedTwin
with_twin h t = record {
  own = t.own;
  first = record { run = t.first; transfers = h.first.transfers };
  second = record { run = t.second; transfers = h.second.transfers };
}

-- the kind of such a run (`Kinds`)
abbrev pub twin : RunKind HostedTwin (List Line × List Line) (Sample × Sample)
twin = record {
  in_clock = λ h n. (h.first.run.clock ≡ n) × (h.second.run.clock ≡ n);
  acts = λ lines h n.
      acts_in lines.0 n (requests_of h.first.run.state) h.first.transfers
      || acts_in lines.1 n (requests_of h.second.run.state) h.second.transfers;
  moves_on = λ h. twin_moves_on quiet quiet (twin_of h);
  stirs = λ lines h. twin_stirs_in lines.0 lines.1 h;
  next = λ lines h. hosted_twin_next lines.0 lines.1 h;
  quiet_next = λ h. with_twin h (twin_next quiet quiet (twin_of h));
  quiet_from = λ h n. with_twin h (twin_from (twin_of h) (λ c. quiet) (λ c. quiet) n);
  shown = λ h. (sample_of h.first.run.state, sample_of h.second.run.state);
}
