-- The words of a feed stay in order.
use Rattle.std.proofs.Common.{◌≡◌, ℕ, ◌+◌, ◌&&◌, nat_le, Bool, true, false, cond, None, List, [], ◌∷◌, ◌++◌, drop, refl, sym, ap, ◌∙◌, append_assoc}
use Rattle.std.specs.Prelude.{slice_get, option_to_list}
use Rattle.dreq_pacing.specs.Transfers.{Feeding, feed_moves, has_words, fed_word, fed}
use Rattle.dreq_pacing.specs.Runs.{FeedClock, fed_by, words_moved}

-- one clock, by whether a word moves
one-way : (b : Bool) (words : List ℕ) (every due later : ℕ) → (b ≡ true → has_words words ≡ true) → words ≡ option_to_list (cond b (slice_get words 0) None) ++ (cond {A = Feeding} b (record { words = drop 1 words; every = every; due = later }) (record { words = words; every = every; due = due })).words
one-way true [] every due later h = absurd (let e = h refl in cc)
one-way true (w ∷ ws) every due later h = refl
one-way false words every due later h = refl

has_one : (a b c : Bool) → (a && (b && c)) ≡ true → c ≡ true
has_one true true c e = e
has_one true false c e = absurd (cc)
has_one false b c e = absurd (cc)

one-clock : (clock : ℕ) (ready : Bool) (f : Feeding) → f.words ≡ option_to_list (fed_word clock ready f) ++ (fed clock ready f).words
one-clock clock ready f =
    one-way (feed_moves clock ready f) f.words f.every f.due (clock + f.every) (has_one ready (nat_le f.due clock) (has_words f.words))

pub in_order : (clocks : List FeedClock) (f : Feeding) → f.words ≡ words_moved clocks f ++ (fed_by clocks f).words
in_order [] f = refl
in_order (c ∷ cs) f =
    one-clock c.0 c.1 f
    ∙ (ap (λ (ws : List ℕ). option_to_list (fed_word c.0 c.1 f) ++ ws) (in_order cs (fed c.0 c.1 f))
    ∙ sym (append_assoc (option_to_list (fed_word c.0 c.1 f)) (words_moved cs (fed c.0 c.1 f)) (fed_by cs (fed c.0 c.1 f)).words))
