use Rattle.std.proofs.Common.{◌≡◌, ap, ◌∙◌}
use Rattle.drawn_load.specs.Draws.{state_at, next_state, drawn, number_of}
use Rattle.drawn_load.proofs.first.draw_letters.Goals as goal

pub returns-clause-letters : goal.returns-clause-letters
unfolding state_at
returns-clause-letters c =
    let s = c.args.draws.now in
    let s1 : c.below-a.new.self ≡ state_at s 1 = c.below-a.ensures.state in
    let s2 : c.below-b.new.self ≡ state_at s 2 = c.below-b.ensures.state ∙ ap next_state s1 in
    let s3 : c.below-c.new.self ≡ state_at s 3 = c.below-c.ensures.state ∙ ap next_state s2 in
    let s4 : c.below.new.self ≡ state_at s 4 = c.below.ensures.state ∙ ap next_state s3 in
    let s5 : c.below-f.new.self ≡ state_at s 5 = c.below-f.ensures.state ∙ ap next_state s4 in
    let s6 : c.below-2.new.self ≡ state_at s 6 = c.below-2.ensures.state ∙ ap next_state s5 in
    let s7 : c.below-3.new.self ≡ state_at s 7 = c.below-3.ensures.state ∙ ap next_state s6 in
    let a : c.below-a.result ≡ drawn s 0 32 = c.below-a.ensures.value ∙ ap (number_of 32) s1 in
    let b : c.below-b.result ≡ drawn s 1 32 = c.below-b.ensures.value ∙ ap (number_of 32) s2 in
    let d : c.below-c.result ≡ drawn s 2 16 = c.below-c.ensures.value ∙ ap (number_of 16) s3 in
    let i : c.below.result ≡ drawn s 3 8 = c.below.ensures.value ∙ ap (number_of 8) s4 in
    let f : c.below-f.result ≡ drawn s 4 256 = c.below-f.ensures.value ∙ ap (number_of 256) s5 in
    let e : c.below-2.result ≡ drawn s 5 64 = c.below-2.ensures.value ∙ ap (number_of 64) s6 in
    let g : c.below-3.result ≡ drawn s 6 64 = c.below-3.ensures.value ∙ ap (number_of 64) s7 in
    cc (a, b, d, i, f, e, g)

pub returns-clause-state : goal.returns-clause-state
unfolding state_at
returns-clause-state c =
    let s = c.args.draws.now in
    let s1 : c.below-a.new.self ≡ state_at s 1 = c.below-a.ensures.state in
    let s2 : c.below-b.new.self ≡ state_at s 2 = c.below-b.ensures.state ∙ ap next_state s1 in
    let s3 : c.below-c.new.self ≡ state_at s 3 = c.below-c.ensures.state ∙ ap next_state s2 in
    let s4 : c.below.new.self ≡ state_at s 4 = c.below.ensures.state ∙ ap next_state s3 in
    let s5 : c.below-f.new.self ≡ state_at s 5 = c.below-f.ensures.state ∙ ap next_state s4 in
    let s6 : c.below-2.new.self ≡ state_at s 6 = c.below-2.ensures.state ∙ ap next_state s5 in
    c.below-3.ensures.state ∙ ap next_state s6
