use Rattle.std.proofs.Common.{◌≡◌, ◌+◌, ◌-◌, [], ◌∷◌, ◌++◌, Some, suc, length, vec_len, sym, ap, ◌∙◌, append_assoc, arith}
use Rattle.std.specs.Prelude.{replicate, slice_get}
use Rattle.sample_trace.proofs.ListLaws.{held_to-last, replicate-push}
use Rattle.sample_trace.proofs.list.hold.Goals as goal

pub loop-preserved : goal.loop-preserved
loop-preserved c =
    let told = c.args.samples.now.items in
    let l = c.loop in
    let last = c.in-Some.last in
    let len : length told ≡ vec_len c.args.samples.now = ap length (sym c.deref.ensures.value) ∙ c.deref.ensures.len in
    let n = l.counter - length told in
    record {
      items = c.push.ensures.items ∙ ap (λ x. x ++ last ∷ []) l.invariant.items ∙ append_assoc told (replicate n last) (last ∷ [])
          ∙ ap (λ x. told ++ x) (replicate-push n last ∙ ap (λ k. replicate k last) (let e : suc n ≡ l.counter + 1 - length told = omega arith in e));
      within = omega arith;
      capacity = omega arith;
    }

pub returns-after-loop-clause-items : goal.returns-after-loop-clause-items
returns-after-loop-clause-items c =
    let told = c.args.samples.now.items in
    let l = c.loop in
    let last = c.in-Some.last in
    let len : length told ≡ vec_len c.args.samples.now = ap length (sym c.deref.ensures.value) ∙ c.deref.ensures.len in
    let at_last : slice_get told (length told - 1) ≡ Some last = cc (c.last.ensures.value, c.in-Some.ensures, c.deref.ensures.value) in
    l.invariant.items ∙ ap (λ k. told ++ replicate k last) (let e : l.counter - length told ≡ c.args.clock - length told = omega arith in e)
    ∙ sym (held_to-last c.args.clock told last at_last)
