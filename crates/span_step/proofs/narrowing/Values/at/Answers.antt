use Rattle.std.proofs.Common.{◌<◌, ◌+◌, ◌-◌, length, None, Some, get_or, sym, ap, subst, refl, ◌∙◌, arith}
use Rattle.std.proofs.lemmas.List.FromFn.{length-map-range_with_len, get_or-map-range_with_len}
use Rattle.span_step.specs.Narrowing.{values_of, numbers_in}
use Rattle.span_step.proofs.narrowing.Values.at.Goals as goal

pub overflow_add-result : goal.overflow_add-result
overflow_add-result c =
    let few : c.args.place < c.in-Each.range.hi + 1 - c.in-Each.range.lo = subst (λ n. c.args.place < n) (ap (λ v. length (values_of v)) c.in-Each.is ∙ length-map-range_with_len Some c.in-Each.range.lo _) c.requires in
    omega (arith, few, c.from.ensures)

pub overflow_cast-result : goal.overflow_cast-result
overflow_cast-result c =
    let few : c.args.place < c.in-Each.range.hi + 1 - c.in-Each.range.lo = subst (λ n. c.args.place < n) (ap (λ v. length (values_of v)) c.in-Each.is ∙ length-map-range_with_len Some c.in-Each.range.lo _) c.requires in
    omega (arith, few, c.from.ensures)

pub returns-in-Each : goal.returns-in-Each
returns-in-Each c =
    let few : c.args.place < c.in-Each.range.hi + 1 - c.in-Each.range.lo = subst (λ n. c.args.place < n) (ap (λ v. length (values_of v)) c.in-Each.is ∙ length-map-range_with_len Some c.in-Each.range.lo _) c.requires in
    ap (λ n. Some (n + c.args.place)) c.from.ensures
    ∙ sym (ap (λ v. get_or (values_of v) c.args.place None) c.in-Each.is ∙ get_or-map-range_with_len Some c.in-Each.range.lo (numbers_in c.in-Each.range) c.args.place _ None few refl)
