-- One step of the checker: from a context with its ages to the next ones.
--   bounds_of        a span's bounds in ticks of its machine
--   is_bounded       it has a greatest bound
--   is_named         stalls at an address are left out
--   is_left_out      ways through an address are left out
--   is_excused       where a machine stands so that its span doesn't speak of the from-events before
--   is_event         an event of a span comes
--   next_address     the address that follows
--   side_of          what side-set writes to the two pins
--   Visit            what all courses of a row share
--   with_outcome     what is found with one more outcome, by each of its courses
--   is_lost          no address is known after a row
--   step_by          the step of a machine's row
--   context_steps    the step of a span's row
use Rattle.std.specs.Prelude.{ℕ, ◌+◌, ◌-◌, ◌*◌, ◌/◌, ◌%◌, ◌==◌, Bool, true, false, not, ◌&&◌, ◌||◌, if◌then◌else◌, Option, Some, None, is_some, option_map, List, [], ◌∷◌, ◌++◌, fold, length, slice_index, slice_index_or}
use Rattle.std.specs.List.{list_any}
use Rattle.pio_encode.specs.declared.op.Op.{Op}
use Rattle.pio_encode.specs.Word.{reading_of}
use Rattle.pin_matrix.specs.Spans.{side_signal}
use Rattle.pin_matrix.specs.declared.machine.MachineSetup.{MachineSetup}
use Rattle.pin_matrix.specs.declared.setup.Setup.{Setup}
use Rattle.pin_matrix.specs.declared.span.PinSignal.{PinSignal}
use Rattle.pin_matrix.specs.declared.span.Span.{Span}
use Rattle.pin_matrix.specs.declared.span.SpanUnit.{SpanUnit}
use Rattle.pin_matrix.specs.declared.span.SpanUnit.TheVariants.{Ticks, Clocks}
use Rattle.span_step.specs.declared.ages.Ages.{Ages}
use Rattle.span_step.specs.declared.course.Tick.{Tick}
use Rattle.span_step.specs.declared.course.Watch.{Watch}
use Rattle.span_step.specs.declared.levels.Write.{Write}
use Rattle.span_step.specs.declared.stepped.Next.{Next}
use Rattle.span_step.specs.declared.stepped.Stepped.{Stepped}
use Rattle.span_step.specs.Contexts.{Context}
use Rattle.span_step.specs.declared.narrowing.Narrowing.{Narrowing}
use Rattle.span_step.specs.Narrowing.{narrowing_after, with_held, is_unmet_at_an_end}
use Rattle.span_step.specs.Outcomes.{ContextOutcome, written_to, outcomes, is_wild, may_stall}
use Rattle.span_step.specs.Courses.{Rules, courses, no_causes, joined, start, followed}

-- the clocks of 256 ticks, at least 256; a divider of 0 means 65,536 (RP2040 Datasheet, section 3.5.5)
abbrev pub period_of : MachineSetup → ℕ
period_of s = 256 * (if s.int == 0 then 65536 else s.int) + s.frac

-- The greatest bound with this least one. Where there is none it is one below the least, above which ages are alike.
abbrev pub most_or : (least : ℕ) → Option ℕ → ℕ
most_or least None = least - 1
most_or least (Some most) = most

-- the least number of ticks that takes at least so many clocks, for any place of the first tick
abbrev pub least_ticks : (clocks period : ℕ) → ℕ
least_ticks clocks period = (256 * clocks + period - 1) / period

-- the greatest number of ticks that takes at most so many clocks, for any place of the first tick
abbrev pub most_ticks : (period clocks : ℕ) → ℕ
most_ticks period clocks = 256 * clocks / period

-- a span's bounds in ticks
abbrev pub bounds_in : SpanUnit → Span → ℕ → ℕ × ℕ
bounds_in Ticks sp period = (sp.min, most_or sp.min sp.max)
bounds_in Clocks sp period =
    (least_ticks sp.min period, most_or (least_ticks sp.min period) (option_map (most_ticks period) sp.max))

-- the same of a machine
unfoldable pub bounds_of : Span → MachineSetup → ℕ × ℕ
bounds_of sp s = bounds_in sp.unit sp (period_of s)

-- the span has a greatest bound
abbrev pub is_bounded : Span → Bool
is_bounded sp = is_some sp.max

-- this address is one of these
abbrev pub is_among : List ℕ → ℕ → Bool
is_among addresses address = list_any (λ a. a == address) addresses

-- stalls at this address are left out
abbrev pub is_named : Span → ℕ → Bool
is_named sp address = is_among sp.stalls address

-- ways through the instruction at this address are left out
abbrev pub is_left_out : Span → ℕ → Bool
is_left_out sp address = is_among sp.without address

-- An event comes, where a machine is at this address. Of a watched signal it is an edge, and where instructions are named one that
-- comes while the machine works at one of them; else it is the end of one of them.
abbrev pub is_event : (watched : Option PinSignal) → (at : List ℕ) → (address : ℕ) → (edge works finishes : Bool) → Bool
is_event (Some signal) at address edge works finishes = edge && (length at == 0 || (works && is_among at address))
is_event None at address edge works finishes = finishes && is_among at address

-- an edge in the row of this address is an event
abbrev pub are_edges_events : Option PinSignal → List ℕ → ℕ → Bool
are_edges_events (Some signal) at address = length at == 0 || is_among at address
are_edges_events None at address = false

-- the end of the instruction at this address is one
abbrev pub is_end_event : Option PinSignal → List ℕ → ℕ → Bool
is_end_event (Some signal) at address = false
is_end_event None at address = is_among at address

-- A stall at this address excuses open from-events: the span speaks only of ways on which its machine doesn't wait, but at the
-- named addresses.
abbrev pub is_excusing : Span → ℕ → Bool
is_excusing sp address = sp.prompt && not (is_named sp address)

-- How a machine stands at the start of a clock so that the span doesn't speak of the from-events before. It waits at this
-- address: it has begun the instruction there. It stands before this address: it comes to the instruction there next, with no
-- delay left, nothing pending and nothing begun.
abbrev pub is_excused : Span → (address : ℕ) → (waits stands_before : Bool) → Bool
is_excused sp address waits stands_before =
    (waits && is_excusing sp address) || (stands_before && is_left_out sp address)

-- what the span asks of a row at this address
unfoldable pub rules_of : MachineSetup → Span → ℕ → Rules
rules_of s sp address = let bounds = bounds_of sp s in record {
  from_rise = sp.from_rise;
  from_edges = are_edges_events sp.from_signal sp.from_at address;
  from_ends = is_end_event sp.from_signal sp.from_at address;
  to_rise = sp.to_rise;
  to_edges = are_edges_events sp.to_signal sp.to_at address;
  to_ends = is_end_event sp.to_signal sp.to_at address;
  min = bounds.0;
  max = bounds.1;
  bounded = is_bounded sp;
  named = is_named sp address;
  excuses = is_excusing sp address;
}

-- the address that follows: the program wraps after wrap_top, and the memory after 31 (section 3.5.2)
abbrev pub next_address : MachineSetup → ℕ → ℕ
next_address s address = if address == s.wrap_top then s.wrap_bottom else (address + 1) % 32

-- what side-set writes to the two pins
abbrev pub side_of : MachineSetup → Span → Option ℕ → Write
side_of s sp None = record { from = None; to = None }
side_of s sp (Some value) = written_to (side_signal s) s.side value sp

-- what all courses of a row share: what the span asks, side-set, delay, whether there is a stall, the address that follows,
-- whether ways through the row are left out, and the row
pub record Visit : Type 0 where
  pub rules : Rules
  pub side : Write
  pub delay : ℕ
  pub stalls : Bool
  pub following : ℕ
  pub left_out : Bool
  pub context : Context
  pub ages : Ages

-- a visit of a row whose instruction this is
unfoldable pub visit_of : MachineSetup → Span → Op → Context → Ages → Visit
visit_of s sp op k ages = record {
  rules = rules_of s sp k.address;
  side = side_of s sp op.side;
  delay = op.delay;
  stalls = may_stall op.act s;
  following = next_address s k.address;
  left_out = is_left_out sp k.address;
  context = k;
  ages = ages;
}

-- the address that an instruction goes to
abbrev pub address_after : Option ℕ → ℕ → ℕ
address_after (Some address) following = address
address_after None following = following

-- where a course ends, with its ages
abbrev pub end_after : Visit → ContextOutcome → Watch → Next
end_after v o w = record {
  context = record { address = address_after o.jump v.following; x = o.x; y = o.y; from = w.from; to = w.to };
  ages = w.ages;
  passes = w.passes;
}

-- what is found with the end of one more course
unfoldable pub with_end : Visit → ContextOutcome → Stepped → Watch → Stepped
with_end v o found w = record {
  ends = found.ends ++ end_after v o w ∷ [];
  narrowing = found.narrowing;
  causes = joined found.causes w.causes;
  from_edge = found.from_edge || w.from_edge;
  closes = found.closes || w.closes;
}

-- the end of a course
abbrev pub end_of : Visit → List Tick → Watch
end_of v ticks = followed v.rules ticks (start v.left_out v.context v.ages)

-- what is found with one more outcome, by each of its courses
unfoldable pub with_outcome : Visit → Stepped → ContextOutcome → Stepped
with_outcome v found o =
    fold (λ t ticks. with_end v (with_held found.narrowing o) t (end_of v ticks)) found (courses v.stalls v.side o v.delay)

-- nothing is found yet of a row after which this narrows
abbrev pub nothing_found : Narrowing → Stepped
nothing_found w = record { ends = []; narrowing = w; causes = no_causes; from_edge = false; closes = false }

-- nothing is found but U4
abbrev pub wild_step : Narrowing → Stepped
wild_step w = record (nothing_found w) { causes = record no_causes { u4 = true } }

-- what is found at last: U6 where the span's assumptions let nothing come next after some end
abbrev pub with_unmet : Stepped → Stepped
with_unmet found = record found { causes = record found.causes { u6 = is_unmet_at_an_end found } }

-- No address is known after a row: its instruction sets PC, or the next instruction, from data; or the machine begins with a pending
-- word, which isn't followed.
abbrev pub is_lost : MachineSetup → Op → Bool
is_lost s op = is_wild op.act || is_some s.pending

-- the step of a row whose instruction this is: U4 alone where no address is known after it, else what its outcomes give
unfoldable pub step_by : MachineSetup → Span → Op → Context → Ages → Stepped
step_by s sp op k ages =
    let w = narrowing_after sp k.address in
    if is_lost s op
    then wild_step w
    else with_unmet (fold (with_outcome (visit_of s sp op k ages)) (nothing_found w) (outcomes op.act s sp k))

-- the step of a row of this machine, by the word at its address
abbrev pub machine_steps : Option MachineSetup → List ℕ → Span → Context → Ages → Stepped
machine_steps None memory sp k ages = nothing_found (narrowing_after sp k.address)
machine_steps (Some s) memory sp k ages = step_by s sp (reading_of (slice_index memory k.address) s.side_rule) k ages

-- The step of a row of the span's machine: where its courses end, which `nexts_of` narrows to what can come next, the causes for which the row is bad, whether a
-- from-event comes, and whether a to-event comes while one is open. There is none where the machine isn't configured.
unfoldable pub context_steps : Setup → Span → Context → Ages → Stepped
context_steps u sp k ages = machine_steps (slice_index_or u.machines sp.machine None) u.memory sp k ages
