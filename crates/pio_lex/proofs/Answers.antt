-- What a reading that meets its definition gives: nothing else can be the answer.
use Rattle.std.proofs.Common.{◌≡◌, ℕ, List, Result, Ok, Err, refl, sym, ap}
use Rattle.std.specs.Prelude.{IfOk, IfErr}
use Rattle.std.specs.List.{All}
use Rattle.pio_lex.specs.declared.fault.LexKind.{LexKind}
use Rattle.pio_lex.specs.declared.fault.LexFault.{LexFault}
use Rattle.pio_lex.specs.declared.fault.LexFault.TheVariants.{Memory, Found}
use Rattle.pio_lex.specs.declared.token.Token.{Token}
use Rattle.pio_lex.specs.Tokens.{IsTokens, IsTokenOf, IsFirstFault}
use Rattle.pio_lex.specs.Fault.{LexRefusal}
use Rattle.pio_lex.specs.Answers.{IsFaultOf, Gives}
use Rattle.pio_lex.proofs.Spelled.{all_spelled}
use Rattle.pio_lex.proofs.Readings.{one_list, one_fault, apart}

pub gives : {X : Type 0} (view : X → List Token) (r : Result X LexFault) (source : List ℕ) (t : List Token) → IfOk r (λ v. IsTokens source (view v)) → IfErr r (λ f. IsFaultOf source f) → IsTokens source t → Gives view r (Ok t)
gives view (Ok v) source t ok fault is = ap (λ (x : List Token). Ok x) (sym (one_list source (view v) t ok is))
gives view (Err Memory) source t ok fault is = tt
gives view (Err (Found line kind)) source t ok fault is = absurd (apart source t line kind is fault)

-- the same line and kind are the same refusal
same_refusal : (line at : ℕ) (kind cause : LexKind) → (at ≡ line) × (cause ≡ kind) → ◌≡◌ {A = Result (List Token) LexRefusal} (Err (record { line = line; kind = kind })) (Err (record { line = at; kind = cause }))
same_refusal line at kind cause e = rw (e.0, e.1) refl

pub refuses : {X : Type 0} (view : X → List Token) (r : Result X LexFault) (source : List ℕ) (line : ℕ) (kind : LexKind) → IfOk r (λ v. IsTokens source (view v)) → IfErr r (λ f. IsFaultOf source f) → IsFirstFault source line kind → Gives view r (Err (record { line = line; kind = kind }))
refuses view (Ok v) source line kind ok fault is = absurd (apart source (view v) line kind ok is)
refuses view (Err Memory) source line kind ok fault is = tt
refuses view (Err (Found at cause)) source line kind ok fault is = same_refusal line at kind cause (one_fault source at line cause kind fault is)

pub each_spelled : {X : Type 0} (view : X → List Token) (r : Result X LexFault) (source : List ℕ) → IfOk r (λ v. IsTokens source (view v)) → IfOk r (λ v. All (IsTokenOf source) (view v))
each_spelled view (Ok v) source ok = all_spelled source (view v) ok
each_spelled view (Err f) source ok = tt
