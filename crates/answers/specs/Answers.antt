-- Relates a returned result to the defined one. A definition gives a value or the first fault; a call gives a view of this
-- value, this fault, or want of memory, which is always allowed. A fault that is returned tells the defined fault, or
-- nothing where memory ran out: each fault type has one function `told` that says so.
--   ◌>>=◌      the next step, where there was no fault so far
--   made       what is made of a defined value
--   Refuses    a fault that tells this, or nothing, is the defined one
--   Gives      a returned value, seen by a view, is the defined one, or a returned fault is
--   Answers    the same without a view
--   Finds      a check that passed found no fault, and one that didn't returned the fault that is found
use Rattle.std.specs.Prelude.{◌≡◌, Option, Some, None, Result, Ok, Err}

-- the next step, where there was no fault so far
infixl 10 ◌>>=◌
abbrev pub ◌>>=◌ : {X Y K : Type 0} → Result X K → (X → Result Y K) → Result Y K
(Ok x) >>= next = next x
(Err fault) >>= next = Err fault

-- what is made of a defined value
abbrev pub made : {X Y K : Type 0} → (X → Y) → Result X K → Result Y K
made f (Ok x) = Ok (f x)
made f (Err fault) = Err fault

-- a fault that tells this is the defined one; one that tells nothing is want of memory
abbrev pub Refuses : {Y K : Type 0} → Option K → Result Y K → Type 0
Refuses None defined = Unit {0}
Refuses (Some fault) defined = defined ≡ Err fault

-- a returned value, seen by a view, is the defined one, or a returned fault is
abbrev pub Gives : {X Y E K : Type 0} → (E → Option K) → (X → Y) → Result X E → Result Y K → Type 0
Gives told view (Ok x) defined = defined ≡ Ok (view x)
Gives told view (Err fault) defined = Refuses (told fault) defined

-- a returned value is the defined one, or a returned fault is
abbrev pub Answers : {X E K : Type 0} → (E → Option K) → Result X E → Result X K → Type 0
Answers told (Ok x) defined = defined ≡ Ok x
Answers told (Err fault) defined = Refuses (told fault) defined

-- a fault that tells this is the one that is found; one that tells nothing is want of memory
abbrev pub IsFound : {K : Type 0} → Option K → Option K → Type 0
IsFound None found = Unit {0}
IsFound (Some fault) found = found ≡ Some fault

-- a check that passed found no fault, and one that didn't returned the fault that is found
abbrev pub Finds : {X E K : Type 0} → (E → Option K) → Result X E → Option K → Type 0
Finds told (Ok x) found = found ≡ None
Finds told (Err fault) found = IsFound (told fault) found
