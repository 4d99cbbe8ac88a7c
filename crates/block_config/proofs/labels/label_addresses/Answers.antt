use Rattle.std.proofs.Common.{ℕ, Ok, ◌<◌, length, option_map, sym, ap, ◌∙◌, arith, rules}
use Rattle.std.proofs.lemmas.Result.{err_from_is_err_and}
use Rattle.std.proofs.lemmas.List.{map-id}
use Rattle.toml.specs.Data.{as_str}
use Rattle.block_config.specs.Loads.{loaded_of}
use Rattle.block_config.specs.Spans.{label_of_element}
use Rattle.block_config.proofs.Covered.{addresses_more}
use Rattle.block_config.proofs.Gather.{gather_more, gather_fails, gather_ends, count_seen}
use Rattle.block_config.proofs.labels.label_addresses.Goals as goal

pub push-requires : goal.push-requires
push-requires c =
    let within : length c.loop-place.addresses.items < 16 = omega (arith, count_seen c.args.values.now, c.loop-place.invariant.count) in
    search (rules, within)

pub returns-in_err-address-clause-value : goal.returns-in_err-address-clause-value
returns-in_err-address-clause-value c =
    let p = err_from_is_err_and c.from_residual.result c.from_residual.ensures.1 in
    rw (p.1, p.2) (sym (gather_fails (λ (a : ℕ). a) (λ place front d. label_of_element (option_map loaded_of c.args.load) (as_str d)) c.args.values.now c.loop-place.place c.index-values-place.result c.loop-place.addresses.items c.in_err-address.field-0.0 _ c.loop-place.invariant.so_far c.loop-place-test.true (rw (← c.index-values-place.is) (sym c.in_err-address.ensures.value))))

pub loop-place-preserved : goal.loop-place-preserved
loop-place-preserved c = record {
  count = omega (arith, c.push.ensures.len, c.loop-place.invariant.count);
  in_memory = addresses_more c.loop-place.addresses.items c.push.new.self.items c.in_ok-address.address c.loop-place.invariant.in_memory c.in_ok-address.ensures.in_memory c.push.ensures.items;
  so_far = gather_more (λ (a : ℕ). a) (λ place front d. label_of_element (option_map loaded_of c.args.load) (as_str d)) c.args.values.now c.loop-place.place c.index-values-place.result c.loop-place.addresses.items c.push.new.self.items c.in_ok-address.address _ c.loop-place.invariant.so_far c.loop-place-test.true (rw (← c.index-values-place.is) (sym c.in_ok-address.ensures.value)) c.push.ensures.items;
}

pub returns-clause-value : goal.returns-clause-value
returns-clause-value c =
    sym (gather_ends (λ (a : ℕ). a) (λ place front d. label_of_element (option_map loaded_of c.args.load) (as_str d)) c.args.values.now c.loop-place.place c.loop-place.addresses.items _ c.loop-place.invariant.so_far c.loop-place-test.false ∙ ap Ok (map-id c.loop-place.addresses.items))

pub returns-clause-count : goal.returns-clause-count
returns-clause-count c = omega (arith, count_seen c.args.values.now, c.loop-place.invariant.count)
