use Rattle.std.proofs.Common.{◌<◌, Ok, length, option_map, refl, sym, ap, ◌∙◌, arith}
use Rattle.std.proofs.lemmas.Result.{err_from_is_err_and}
use Rattle.std.proofs.lemmas.List.{map-id}
use Rattle.toml.specs.View.{view}
use Rattle.pin_matrix.specs.declared.assume.Assumption.{Assumption}
use Rattle.pin_matrix.specs.Assumptions.{raised_x, raised_y}
use Rattle.block_config.specs.Arrays.{gather}
use Rattle.block_config.specs.Assume.{assumption_of}
use Rattle.block_config.specs.Loads.{loaded_of}
use Rattle.block_config.proofs.Assumed.{asked_for, one_more, most_x_more, most_y_more, taken_whole}
use Rattle.block_config.proofs.Gather.{gather_more, gather_fails, gather_ends, count_seen}
use Rattle.block_config.proofs.Placing.{refuses_on}
use Rattle.block_config.proofs.assume.assumptions_of.Goals as goal

pub loop-place-init : goal.loop-place-init
unfolding raised_x raised_y
loop-place-init c = rw c.new-items.ensures.items (record { x = refl; y = refl; count = refl; fit = refl; so_far = refl })

pub returns-in_err-item : goal.returns-in_err-item
returns-in_err-item c =
    let p = err_from_is_err_and c.from_residual.result c.from_residual.ensures.1 in
    let load = option_map loaded_of c.args.load in
    let so_far = c.loop-place.invariant in
    let items = c.loop-place.items.items in
    let value = view c.index-values-place.result in
    let same = asked_for c.args.span load c.loop-place.place c.loop-place.reach.x c.loop-place.reach.y items value so_far.x so_far.y in
    rw (p.1, p.2) (refuses_on c.in_err-item.field-0.0 _ _
    (λ e f. gather_fails (λ (a : Assumption). a) (assumption_of c.args.span load) c.args.values.now c.loop-place.place c.index-values-place.result items e _ so_far.so_far c.loop-place-test.true (rw (← c.index-values-place.is) (same ∙ f)))
    c.in_err-item.ensures.value)

pub loop-place-preserved : goal.loop-place-preserved
loop-place-preserved c =
    let load = option_map loaded_of c.args.load in
    let so_far = c.loop-place.invariant in
    let items = c.loop-place.items.items in
    let after = c.push.new.self.items in
    let item = c.in_ok-item.item in
    let more = c.in_ok-push.ensures.items in
    let within : length items < 16 = omega (arith, count_seen c.args.values.now, so_far.count, c.requires) in
    let same = asked_for c.args.span load c.loop-place.place c.loop-place.reach.x c.loop-place.reach.y items (view c.index-values-place.result) so_far.x so_far.y in
    record {
      x = c.further-reach.ensures.x ∙ most_x_more items after item c.loop-place.reach.x so_far.x more;
      y = c.further-reach.ensures.y ∙ most_y_more items after item c.loop-place.reach.y so_far.y more;
      count = omega (arith, c.in_ok-push.ensures.len, so_far.count);
      fit = one_more items after item c.loop-place.reach.x c.loop-place.reach.y so_far.x so_far.y so_far.fit within c.in_ok-item.ensures.fits more;
      so_far = gather_more (λ (a : Assumption). a) (assumption_of c.args.span load) c.args.values.now c.loop-place.place c.index-values-place.result items after item _ so_far.so_far c.loop-place-test.true
          (rw (← c.index-values-place.is) (same ∙ c.in_ok-item.ensures.value)) more;
    }

pub returns-in-Some : goal.returns-in-Some
returns-in-Some c =
    let items = c.loop-place.items.items in
    gather_ends (λ (a : Assumption). a) (assumption_of c.args.span (option_map loaded_of c.args.load)) c.args.values.now c.loop-place.place items _ c.loop-place.invariant.so_far c.loop-place-test.false
    ∙ ap Ok (map-id items ∙ taken_whole items c.in-Some.assumptions c.loop-place.invariant.fit c.in-Some.ensures)
