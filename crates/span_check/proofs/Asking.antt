-- What a span asks, with a greatest bound and without one.
use Rattle.std.proofs.Common.{◌↔◌, ℕ, IsSome, Some, None, refl}
use Rattle.pin_matrix.specs.declared.span.SpanUnit.{SpanUnit}
use Rattle.span_check.specs.Asked.{HoldsBetween, IsNeverEarly}
use Rattle.span_check.specs.Holding.{Holds}
use Rattle.span_check.specs.Marks.{Mark}

-- no greatest bound is there
pub no_bound : IsSome {T = ℕ} None → ⊥
no_bound e = cc

pub asks_between : (unit : SpanUnit) (min max : ℕ) (m : ℕ → Mark) (n : ℕ) → Holds unit min (Some max) m n ↔ HoldsBetween unit min max m n
asks_between unit min max m n = (
  λ h s below from. let a = h s below from in record { least = a.least; most = a.most; unclosed = a.unclosed; strays = a.strays refl },
  λ h s below from. let a = h s below from in record { least = a.least; most = a.most; unclosed = a.unclosed; strays = λ some. a.strays },
)

pub asks_least : (unit : SpanUnit) (min : ℕ) (m : ℕ → Mark) (n : ℕ) → Holds unit min None m n ↔ IsNeverEarly unit min m n
asks_least unit min m n = (
  λ h s below from. (h s below from).least,
  λ h s below from. record {
    least = h s below from;
    most = λ e ends inside spoken. tt;
    unclosed = λ quiet spoken. tt;
    strays = λ some. absurd (no_bound some);
  },
)

pub asks_more : (unit : SpanUnit) (min max : ℕ) (m : ℕ → Mark) (n : ℕ) → Holds unit min (Some max) m n → Holds unit min None m n
asks_more unit min max m n h = (asks_least unit min m n).1 (λ s below from. (h s below from).least)
