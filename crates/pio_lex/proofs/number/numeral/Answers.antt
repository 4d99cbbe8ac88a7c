use Rattle.std.proofs.Common.{◌≡◌, ◌+◌, ◌*◌, None, get_or, arith, rules, sym, ap, ◌∙◌, true, false}
use Rattle.std.specs.Char.{digit_value, is_digit}
use Rattle.pio_lex.specs.Numbers.{within}
use Rattle.pio_lex.proofs.Numbers.{reading_none, reading_more, no_digit, is_within, not_within, too_large}
use Rattle.pio_lex.proofs.number.numeral.Goals as goal

pub returns-in_err-value : goal.returns-in_err-value
returns-in_err-value c =
    let ds = c.args.digits.now in
    let m = c.loop-byte.value * c.args.radix + digit_value (get_or ds c.loop-byte.byte-index 0) in
    let digit : c.in_ok-digit.digit ≡ digit_value (get_or ds c.loop-byte.byte-index 0) = search rules in
    let none : within m ≡ None = ap (λ d. within (c.loop-byte.value * c.args.radix + d)) (sym digit) ∙ sym c.in_err-value.ensures in
    let gives : c.from_residual-in_err-value.result ≡ None = search rules in
    gives ∙ too_large c.args.radix c.loop-byte.value ds c.loop-byte.byte-index (omega arith) (omega arith) (not_within m none) c.loop-byte.invariant

pub loop-byte-init : goal.loop-byte-init
loop-byte-init c = reading_none c.args.radix c.args.digits.now

pub extended-requires-clause-value : goal.extended-requires-clause-value
extended-requires-clause-value c = c.loop-byte.invariant.small

pub extended-requires-clause-radix : goal.extended-requires-clause-radix
extended-requires-clause-radix c = c.requires.high

pub returns-in_err-digit : goal.returns-in_err-digit
returns-in_err-digit c =
    let ds = c.args.digits.now in
    let digit : is_digit (get_or ds c.loop-byte.byte-index 0) c.args.radix ≡ false = search rules in
    let gives : c.from_residual.result ≡ None = search rules in
    gives ∙ no_digit c.args.radix c.loop-byte.value ds c.loop-byte.byte-index (omega arith) digit c.loop-byte.invariant

pub loop-byte-preserved : goal.loop-byte-preserved
loop-byte-preserved c =
    let ds = c.args.digits.now in
    let is : is_digit (get_or ds c.loop-byte.byte-index 0) c.args.radix ≡ true = search rules in
    let digit : c.in_ok-digit.digit ≡ digit_value (get_or ds c.loop-byte.byte-index 0) = search rules in
    let value = is_within (c.loop-byte.value * c.args.radix + c.in_ok-digit.digit) c.in_ok-value.value c.in_ok-value.ensures in
    reading_more c.args.radix c.loop-byte.value c.in_ok-value.value ds c.loop-byte.byte-index (omega arith) is (value.0 ∙ ap (λ d. c.loop-byte.value * c.args.radix + d) digit) value.1 c.loop-byte.invariant
