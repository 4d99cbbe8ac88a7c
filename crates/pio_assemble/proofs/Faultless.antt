-- What follows where there is no fault.
use Rattle.std.proofs.Common.{◌≡◌, ℕ, Bool, true, false, Option, Some, None, Result, Ok, Err, IfOk, refl}
use Rattle.pio_assemble.specs.declared.fault.SourceKind.{SourceKind}
use Rattle.answers.specs.Answers.{◌>>=◌}
use Rattle.pio_assemble.specs.Answers.{SourceRefusal}
use Rattle.pio_assemble.specs.Checks.{fault_or, fault_if, ◌<|>◌}

-- none on a line, and none after it
pub no_fault : (number : ℕ) (fault : Option SourceKind) (rest : Option SourceRefusal) → fault_or number fault rest ≡ None → (fault ≡ None) × (rest ≡ None)
no_fault number (Some kind) rest h = cc
no_fault number None rest h = (refl, h)

-- neither the first of two
pub no_first : (a b : Option SourceKind) → (a <|> b) ≡ None → a ≡ None
no_first (Some kind) b h = cc
no_first None b h = refl

-- nor the second
pub no_second : (a b : Option SourceKind) → (a <|> b) ≡ None → b ≡ None
no_second (Some kind) b h = cc
no_second None b h = h

-- and so there is no cause
pub no_cause : (cause : Bool) (kind : SourceKind) → fault_if cause kind ≡ None → cause ≡ false
no_cause true kind h = cc
no_cause false kind h = refl

-- what is kept by a value and by what comes next is kept by both
pub kept_after : {X Y : Type 0} (Q : X → Type 0) (P : Y → Type 0) (r : Result X SourceKind) (next : X → Result Y SourceKind) → IfOk r Q → ((x : X) → Q x → IfOk (next x) P) → IfOk (r >>= next) P
kept_after Q P (Ok x) next h k = k x h
kept_after Q P (Err kind) next h k = tt

-- what comes next is the same where it is the same for what is kept
pub same_after : {X Y : Type 0} (Q : X → Type 0) (r : Result X SourceKind) (next other : X → Result Y SourceKind) → IfOk r Q → ((x : X) → Q x → next x ≡ other x) → (r >>= next) ≡ (r >>= other)
same_after Q (Ok x) next other h k = k x h
same_after Q (Err kind) next other h k = refl

-- of a value nothing need be known
pub any : {X : Type 0} (r : Result X SourceKind) → IfOk r (λ x. Unit {0})
any (Ok x) = tt
any (Err kind) = tt
