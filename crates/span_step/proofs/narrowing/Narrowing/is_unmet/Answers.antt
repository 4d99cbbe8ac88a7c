use Rattle.std.proofs.Common.{◌≡◌, ℕ, zero, suc, ◌*◌, ◌<◌, false, length, nat_eq, refl, sym, ap, ◌∙◌, arith}
use Rattle.std.proofs.lemmas.Bool.Decides.{nat_tests}
use Rattle.span_step.specs.Narrowing.{kept, knowing, narrowed}
use Rattle.span_step.proofs.Pairs.{length-pairs}
use Rattle.span_step.proofs.narrowing.Narrowing.is_unmet.Goals as goal

some : (n : ℕ) → 0 < n → nat_eq n 0 ≡ false
some n h = grind (arith, nat_tests, h)

times : (a b : ℕ) → (a ≡ 0 → ⊥) → nat_eq (a * b) 0 ≡ nat_eq b 0
times zero b h = absurd (h refl)
times (suc a) zero h = ap (λ k. nat_eq k 0) (let e : suc a * zero ≡ zero = omega arith in e)
times (suc a) (suc b) h = some (suc a * suc b) (omega arith) ∙ sym (some (suc b) (omega arith))

pub returns-then-len-eq0 : goal.returns-then-len-eq0
unfolding narrowed
returns-then-len-eq0 c =
    let w = c.args.self.now in
    let n = c.args.end.now in
    let xs = kept w.x n.context.x in
    let ys = kept w.y n.context.y in
    let none : length xs ≡ 0 = ap length (sym c.xs.ensures) ∙ sym c.len.ensures.value ∙ c.if-len-eq0.true in
    let product : length xs * length ys ≡ 0 = ap (λ k. k * length ys) none ∙ (let e : 0 * length ys ≡ 0 = omega arith in e) in
    ap (λ k. nat_eq k 0) (c.if-len-eq0.true ∙ sym (length-pairs (λ x y. knowing n x y) xs ys ∙ product))

pub returns-else-len-eq0 : goal.returns-else-len-eq0
unfolding narrowed
returns-else-len-eq0 c =
    let w = c.args.self.now in
    let n = c.args.end.now in
    let xs = kept w.x n.context.x in
    let ys = kept w.y n.context.y in
    let some : length xs ≡ c.len.result = ap length (sym c.xs.ensures) ∙ sym c.len.ensures.value in
    let here : c.len-else-len-eq0.result ≡ length ys = c.len-else-len-eq0.ensures.value ∙ ap length c.ys.ensures in
    ap (λ k. nat_eq k 0) here ∙ sym (ap (λ k. nat_eq k 0) (length-pairs (λ x y. knowing n x y) xs ys) ∙ times (length xs) (length ys) (λ e. c.if-len-eq0.false (sym some ∙ e)))
