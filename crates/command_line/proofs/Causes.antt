-- What clap's definition of `tool` gives: the matches and the order, or why there are none.
use Rattle.std.proofs.Common.{◌≡◌, ◌≢◌, ◌↔◌, ◌∙◌, true, List, [], ◌∷◌, Option, Some, inl, inr, refl, subst, ap, sym, Result, Err}
use Rattle.std.specs.Option.{option_map}
use Rattle.clap.specs.Walk.{Row, Text}
use Rattle.clap.specs.Values.{kind_of}
use Rattle.clap.specs.Kinds.{HasKind, Kinds}
use Rattle.clap.specs.Simple.{App, is_simple, subcommand_of}
use Rattle.clap.specs.Faults.{fault_of, is_simple_and_free}
use Rattle.clap.specs.Takes.{takes}
use Rattle.clap.specs.declared.error.Error.{Error}
use Rattle.clap.specs.declared.error.kind.ErrorKind.TheVariants as kind
use Rattle.clap.proofs.OnLiterals.{clap_on_literals}
use Rattle.command_line.specs.Tool.{tool}
use Rattle.command_line.specs.Words.{Asked, Asks, IsFaultOfWords, asked_of, subcommand_asked}
use Rattle.command_line.specs.declared.order.WordsFault.{WordsFault}
use Rattle.command_line.specs.declared.order.WordsFault.TheVariants.{Usage, Memory}

-- clap's definition says which matches `tool` has, and which kinds of error
simple : is_simple tool ≡ true
unfolding clap_on_literals tool
simple = refl

simple_and_free : is_simple_and_free tool ≡ true
unfolding clap_on_literals tool
simple_and_free = refl

pub wants_subcommand : tool.top.subcommand_required ≡ true
unfolding tool
wants_subcommand = refl

-- so a command that is `tool` has what clap says of such a command
pub matches_at_tool : (P : App → Type 0) (a : App) → a ≡ tool → (is_simple a ≡ true → P a) → P tool
matches_at_tool P a is holds = subst P is (holds (ap is_simple is ∙ simple))

pub kinds_at_tool : (P : App → Type 0) (a : App) → a ≡ tool → (is_simple_and_free a ≡ true → P a) → P tool
kinds_at_tool P a is holds = subst P is (holds (ap is_simple_and_free is ∙ simple_and_free))

-- an error that isn't for want of memory has one of the kinds, so there is one
some_kind : (kinds : Kinds) (e : Error) → HasKind kinds e → kind_of e ≢ kind.OutOfMemory → kinds ≢ []
some_kind [] e (inl memory) other = absurd (other memory)
some_kind [] e (inr among) other = absurd among
some_kind (k ∷ ks) e has other = λ same. cc

-- the cause of a fault that was made of clap's error
pub cause_of_error : (words : List Text) (fault : WordsFault) (e : Error)
    → (fault ≡ Usage) ↔ (kind_of e ≢ kind.OutOfMemory) → HasKind (fault_of tool words) e → IsFaultOfWords words fault
cause_of_error words Usage e made has = inl (some_kind _ e has (made.0 refl))
cause_of_error words Memory e made has = tt

-- words that `tool` takes are no usage fault
pub not_usage : {T : Type 0} (words : List Text) (r : Result T WordsFault) (fault : WordsFault) (e : Error) (a : App) → r ≡ Err fault
    → a ≡ tool → (fault ≡ Usage) ↔ (kind_of e ≢ kind.OutOfMemory) → (takes a words ≡ true → kind_of e ≡ kind.OutOfMemory)
    → takes tool words ≡ true → r ≢ Err Usage
not_usage words r Usage e a told is made memory taken same =
    made.0 refl (memory (subst (λ x. takes x words ≡ true) (sym is) taken))
not_usage words r Memory e a told is made memory taken same = cc

-- what the subcommand asks for is what the words ask for
pub asks : (words : List Text) (a : Asked) (met : Option (Text × List Row)) → fault_of tool words ≡ []
    → met ≡ subcommand_of tool words → option_map (λ p. subcommand_asked p.0 p.1) met ≡ Some a → Asks words a
unfolding asked_of
asks words a met taken is order =
    record { taken = taken; asked = sym (ap (option_map (λ p. subcommand_asked p.0 p.1)) is) ∙ order }
