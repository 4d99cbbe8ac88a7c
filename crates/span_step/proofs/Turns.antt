-- What is left to come, from a turn of an end on.
use Rattle.std.proofs.Common.{◌≡◌, ℕ, ◌+◌, ◌*◌, ◌/◌, ◌%◌, ◌-◌, ◌<◌, ◌≤◌, true, Option, None, List, [], ◌∷◌, ◌++◌, length, get_or, take, drop, sym, ap, ◌∙◌, arith}
use Rattle.std.proofs.lemmas.List.{append-nil, length-append, get_or_append_left, drop_at, drop_more}
use Rattle.span_step.specs.declared.narrowing.Narrowing.{Narrowing}
use Rattle.span_step.specs.declared.stepped.Next.{Next}
use Rattle.span_step.specs.Narrowing.{IsTurn, all_narrowed, is_wide, kept, knowing, narrowed, nexts_left}
use Rattle.span_step.proofs.Assuming.{wide_all}
use Rattle.span_step.proofs.Pairs.{length-pairs, turn-pairs}

-- the end at a place
module _ (w : Narrowing) (ends : List Next) (p : ℕ) (end : Next) (here : drop p ends ≡ end ∷ drop (p + 1) ends) where
  abbrev pub rest : List Next
  rest = all_narrowed w (drop (p + 1) ends)

  -- how many come after it
  pub count : length (narrowed w end) ≡ length (kept w.x end.context.x) * length (kept w.y end.context.y)
  unfolding narrowed
  count = length-pairs (λ x y. knowing end x y) (kept w.x end.context.x) (kept w.y end.context.y)

  from_here : all_narrowed w (drop p ends) ≡ narrowed w end ++ rest
  from_here = ap (all_narrowed w) here

  turns : all_narrowed w (take 1 (drop p ends)) ≡ narrowed w end
  turns = ap (λ l. all_narrowed w (take 1 l)) here ∙ append-nil (narrowed w end)

  -- a turn that is one of its
  pub is_turn : (t : ℕ) → t < length (narrowed w end) → IsTurn w ends p t
  is_turn t h = omega (arith, h, ap length turns)

  pub of_turn : (t : ℕ) → IsTurn w ends p t → t ≤ length (narrowed w end) - 1
  of_turn t h = omega (arith, h, ap length turns)

  -- the one of a turn
  pub here_is : (t : ℕ) → t < length (narrowed w end) → get_or (narrowed w end) t end ≡ knowing end (get_or (kept w.x end.context.x) (t / length (kept w.y end.context.y)) None) (get_or (kept w.y end.context.y) (t % length (kept w.y end.context.y)) None)
  unfolding narrowed
  here_is t h = turn-pairs (λ x y. knowing end x y) (kept w.x end.context.x) (kept w.y end.context.y) t None None end (omega (arith, h, count))

  -- how many come, as the code counts them
  pub counted : (a b : ℕ) (xs ys : List (Option ℕ)) → a ≡ length xs → xs ≡ kept w.x end.context.x → b ≡ length ys → ys ≡ kept w.y end.context.y → length (narrowed w end) ≡ a * b
  counted a b xs ys ea ex eb ey = count ∙ ap (λ n. n * length (kept w.y end.context.y)) (sym (ea ∙ ap length ex)) ∙ ap (λ n. a * n) (sym (eb ∙ ap length ey))

  -- the one of a turn, as the code takes it
  pub named : (t n m : ℕ) (k : Next) (x y : Option ℕ) (xs ys : List (Option ℕ)) → t < length (narrowed w end) → k ≡ knowing end x y → x ≡ get_or xs (t / n) None → y ≡ get_or ys (t % m) None
      → n ≡ length ys → m ≡ length ys → xs ≡ kept w.x end.context.x → ys ≡ kept w.y end.context.y → get_or (narrowed w end) t end ≡ k
  named t n m k x y xs ys h is at_x at_y en em ex ey =
      let kx = kept w.x end.context.x in
      let ky = kept w.y end.context.y in
      here_is t h ∙ sym (is
      ∙ ap (λ v. knowing end v y) (at_x ∙ ap (λ l. get_or l (t / n) None) ex ∙ ap (λ i. get_or kx (t / i) None) (en ∙ ap length ey))
      ∙ ap (λ v. knowing end (get_or kx (t / length ky) None) v) (at_y ∙ ap (λ l. get_or l (t % m) None) ey ∙ ap (λ i. get_or ky (t % i) None) (em ∙ ap length ey)))

  -- it comes first
  first : (t : ℕ) → t < length (narrowed w end) → nexts_left w ends p t ≡ get_or (narrowed w end) t end ∷ drop (t + 1) (narrowed w end ++ rest)
  first t h = ap (drop t) from_here
      ∙ drop_more (narrowed w end ++ rest) t end (omega (arith, h, length-append (narrowed w end) rest))
      ∙ ap (λ n. n ∷ drop (t + 1) (narrowed w end ++ rest)) (get_or_append_left (narrowed w end) rest end t h)

  -- then the next turn
  pub middle : (t : ℕ) → t + 1 < length (narrowed w end) → nexts_left w ends p t ≡ get_or (narrowed w end) t end ∷ nexts_left w ends p (t + 1)
  middle t h = first t (omega (arith, h)) ∙ ap (λ l. get_or (narrowed w end) t end ∷ drop (t + 1) l) (sym from_here)

  -- or the next end
  pub last : (t : ℕ) → t + 1 ≡ length (narrowed w end) → nexts_left w ends p t ≡ get_or (narrowed w end) t end ∷ nexts_left w ends (p + 1) 0
  last t h = first t (omega (arith, h)) ∙ ap (λ l. get_or (narrowed w end) t end ∷ l) (drop_at (narrowed w end) rest (t + 1) (sym h))

  -- where nothing comes after it
  pub skipped : (t : ℕ) → t ≡ 0 → length (narrowed w end) ≡ 0 → nexts_left w ends p t ≡ nexts_left w ends (p + 1) 0
  skipped t h none = ap (drop t) from_here ∙ ap (λ n. drop n (narrowed w end ++ rest)) h ∙ drop_at (narrowed w end) rest 0 none

few : (ends : List Next) → length (take 1 ends) ≤ 1
few [] = omega arith
few (n ∷ ends) = omega arith

-- where nothing is assumed there is one turn
pub wide_turn : (w : Narrowing) (ends : List Next) (p t : ℕ) → is_wide w ≡ true → IsTurn w ends p t → t ≡ 0
wide_turn w ends p t h turn = omega (arith, turn, ap length (wide_all w (take 1 (drop p ends)) h), few (drop p ends))

pub wide_first : (w : Narrowing) (ends : List Next) (p t : ℕ) (end : Next) → is_wide w ≡ true → IsTurn w ends p t → drop p ends ≡ end ∷ drop (p + 1) ends → nexts_left w ends p t ≡ end ∷ nexts_left w ends (p + 1) t
wide_first w ends p t end h turn here =
    let first : t ≡ 0 = wide_turn w ends p t h turn in
    ap (λ n. drop n (all_narrowed w (drop p ends))) first ∙ wide_all w (drop p ends) h ∙ here
    ∙ ap (λ l. end ∷ l) (sym (wide_all w (drop (p + 1) ends) h)) ∙ ap (λ n. end ∷ drop n (all_narrowed w (drop (p + 1) ends))) (sym first)

-- the first turn is one of each end
pub first_turn : (w : Narrowing) (ends : List Next) (p : ℕ) → IsTurn w ends p 0
first_turn w ends p = omega arith
