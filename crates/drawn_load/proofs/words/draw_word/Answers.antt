use Rattle.std.proofs.Common.{◌≡◌, ◌+◌, ◌*◌, ◌%◌, ◌<◌, ap, sym, ◌∙◌, arith}
use Rattle.drawn_load.specs.Draws.{state_at, next_state, drawn, number_of}
use Rattle.drawn_load.proofs.DrawLaws.{state-more}
use Rattle.drawn_load.proofs.words.draw_word.Goals as goal

pub returns-clause-state : goal.returns-clause-state
returns-clause-state c seed k at =
    let one : c.below-upper.new.self ≡ state_at seed (k + 1) = c.below-upper.ensures.state ∙ ap next_state at ∙ sym (state-more seed k) in
    let two : k + 1 + 1 ≡ k + 2 = omega arith in
    c.below-lower.ensures.state ∙ ap next_state one ∙ sym (state-more seed (k + 1)) ∙ ap (state_at seed) two

pub returns-clause-word : goal.returns-clause-word
returns-clause-word c seed k at =
    let one : c.below-upper.new.self ≡ state_at seed (k + 1) = c.below-upper.ensures.state ∙ ap next_state at ∙ sym (state-more seed k) in
    let two : c.below-lower.new.self ≡ state_at seed (k + 1 + 1) = c.below-lower.ensures.state ∙ ap next_state one ∙ sym (state-more seed (k + 1)) in
    let upper : c.below-upper.result ≡ drawn seed k 65536 = c.below-upper.ensures.value ∙ ap (number_of 65536) one in
    let lower : c.below-lower.result ≡ drawn seed (k + 1) 65536 = c.below-lower.ensures.value ∙ ap (number_of 65536) two in
    let small : c.below-upper.result < 65536 = c.below-upper.ensures.range in
    let fits : c.below-upper.result * 65536 % 4294967296 ≡ c.below-upper.result * 65536 = omega arith in
    ap (λ w. w + c.below-lower.result) fits ∙ ap (λ w. w * 65536 + c.below-lower.result) upper ∙ ap (λ w. drawn seed k 65536 * 65536 + w) lower
