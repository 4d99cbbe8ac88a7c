-- What a clock, and any number of them, leaves of the words of both FIFOs.
use Rattle.std.proofs.Common.{◌≡◌, ℕ, ◌<◌, Bool, true, false, not, ◌&&◌, Option, List, [], ◌∷◌, ◌++◌, length, slice_get, ◌==◌, is_some, option_to_list, refl, sym, ap, ◌∙◌, append_assoc, append-nil, if◌then◌else◌, IsSome, arith}
use Rattle.std.proofs.lemmas.Bool.Decides.{nat_tests}
use Rattle.fifo_pair.specs.Fifos.{Fifos, Fits, queued, less_front, if_room, settled, is_over, is_under, got_word}
use Rattle.fifo_pair.specs.Runs.{Events, after_clock, after_clocks, into_tx, out_of_tx, into_rx, out_of_rx}
use Rattle.fifo_pair.proofs.Words.{queued-append, if_room-dropped, front-less_front, length-less_front, length-let_in, length-queued}

-- no FIFO gets longer than its room
pub fits-settled : (take : Bool) (m s : Option ℕ) (read : Bool) (f : Fifos) → Fits f → (IsSome m → length f.rx < f.rx_room) → Fits (settled take m s read f)
unfolding settled
fits-settled take m s read f fits has_room = record {
  tx = length-let_in f.tx_room f.tx (less_front take f.tx) s (length-less_front take f.tx) fits.tx;
  rx = length-queued f.rx_room f.rx (less_front read f.rx) m (length-less_front read f.rx) fits.rx has_room;
}

-- words ++ what comes in ≡ what goes out ++ the words then
kept_by : (taken : Bool) (o : Option ℕ) (words : List ℕ) → words ++ option_to_list o ≡ (if taken then option_to_list (slice_get words 0) else []) ++ queued o (less_front taken words)
kept_by taken o words =
    let out : List ℕ = if taken then option_to_list (slice_get words 0) else [] in
    let rest : List ℕ = less_front taken words in
    ap (λ w. w ++ option_to_list o) (front-less_front taken words) ∙ append_assoc out rest (option_to_list o)
    ∙ ap (λ w. out ++ w) (sym (queued-append o rest))

-- TX in one clock
pub tx_kept : (e : Events) (f : Fifos) → f.tx ++ (if is_over e.system_word f then [] else option_to_list e.system_word) ≡ (if e.take then option_to_list (slice_get f.tx 0) else []) ++ (after_clock e f).tx
unfolding settled
tx_kept e f =
    ap (λ w. f.tx ++ w) (sym (if_room-dropped f.tx_room f.tx e.system_word))
    ∙ kept_by e.take (if_room f.tx_room f.tx e.system_word) f.tx

-- the same of the word that the system gets
got_is : (read : Bool) (f : Fifos) → (if read then option_to_list (slice_get f.rx 0) else []) ≡ option_to_list (got_word read f)
got_is true f = refl
got_is false f = refl

-- RX in one clock
pub rx_kept : (e : Events) (f : Fifos) → f.rx ++ option_to_list e.machine_word ≡ option_to_list (got_word e.system_read f) ++ (after_clock e f).rx
unfolding settled
rx_kept e f =
    kept_by e.system_read e.machine_word f.rx ∙ ap (λ w. w ++ (after_clock e f).rx) (got_is e.system_read f)

-- a first clock that keeps its words, and more clocks that do
one_more : (now came more went kept later end : List ℕ) → now ++ came ≡ went ++ kept → kept ++ more ≡ later ++ end → now ++ (came ++ more) ≡ (went ++ later) ++ end
one_more now came more went kept later end first rest =
    sym (append_assoc now came more) ∙ ap (λ w. w ++ more) first ∙ append_assoc went kept more
    ∙ ap (λ w. went ++ w) rest ∙ sym (append_assoc went later end)

-- TX in any number of clocks
pub tx_kept_on : (es : List Events) (f : Fifos) → f.tx ++ into_tx es f ≡ out_of_tx es f ++ (after_clocks es f).tx
tx_kept_on [] f = append-nil f.tx
tx_kept_on (e ∷ es) f = one_more f.tx _ _ _ (after_clock e f).tx _ _ (tx_kept e f) (tx_kept_on es (after_clock e f))

-- RX in any number of clocks
pub rx_kept_on : (es : List Events) (f : Fifos) → f.rx ++ into_rx es ≡ out_of_rx es f ++ (after_clocks es f).rx
rx_kept_on [] f = append-nil f.rx
rx_kept_on (e ∷ es) f = one_more f.rx _ _ _ (after_clock e f).rx _ _ (rx_kept e f) (rx_kept_on es (after_clock e f))

-- there is an oldest word exactly where a list isn't empty
some_front : (words : List ℕ) → is_some (slice_get words 0) ≡ not (length words == 0)
some_front [] = refl
some_front (word ∷ words) = grind (arith, nat_tests)

-- a read gets a word, or it is an underrun
pub got-under : (read : Bool) (f : Fifos) → is_some (got_word read f) ≡ (read && not (is_under read f))
got-under false f = refl
got-under true f = some_front f.rx
