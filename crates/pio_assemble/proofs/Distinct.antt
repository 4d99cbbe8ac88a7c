-- The programs of a source have different names.
use Rattle.std.proofs.Common.{◌≡◌, ◌≢◌, ℕ, ◌==◌, ◌∷◌, [], ◌++◌, ◌||◌, Bool, true, false, List, map, Option, Some, None, Result, Ok, Err, refl, sym, ap, subst, ◌∙◌, length, IfOk}
use Rattle.std.proofs.lemmas.List.{map-append, append-nil}
use Rattle.std.proofs.lemmas.List.Folds.{list_any-append}
use Rattle.std.proofs.lemmas.Slice.Eq.{bytes_eq-Decides}
use Rattle.std.specs.List.{list_any}
use Rattle.std.specs.Str.{bytes_eq}
use Rattle.std.proofs.lemmas.Bool.{or_parts}
use Rattle.pio_lex.specs.Fault.{LexRefusal}
use Rattle.pio_lex.specs.declared.token.Token.{Token}
use Rattle.pio_lex.specs.Reading.{reading_of}
use Rattle.pio_expr.specs.Values.{Scope}
use Rattle.pio_statement.specs.declared.fault.StatementKind.{StatementKind}
use Rattle.pio_statement.specs.declared.statement.Statement.{Statement}
use Rattle.pio_assemble.specs.declared.before.Before.{Before}
use Rattle.pio_assemble.specs.declared.fault.SourceFault.{SourceFault}
use Rattle.pio_assemble.specs.declared.fault.SourceKind.{SourceKind}
use Rattle.pio_assemble.specs.declared.fault.SourceKind.TheVariants.{Duplicate}
use Rattle.pio_assemble.specs.declared.line.SourceLine.{SourceLine}
use Rattle.pio_assemble.specs.declared.program.Program.{Program}
use Rattle.answers.specs.Answers.{◌>>=◌}
use Rattle.pio_assemble.specs.Answers.{SourceRefusal, Gives, at_line}
use Rattle.pio_assemble.specs.Checks.{first_fault, line_fault as fault_of_line, statement_fault, nothing_before, after, after_line, is_among, with_name, duplicate}
use Rattle.pio_assemble.specs.Drafts.{Draft, begun, drafted, finished}
use Rattle.pio_assemble.specs.Lines.{has_word, lines_of}
use Rattle.pio_assemble.specs.Program.{Assembled, assembled_of}
use Rattle.pio_assemble.specs.Source.{program_by, program_on, program_scope, programs_from, programs_by, with_programs, unless_fault, global_scope, reads_source, reads_tokens, Differs, AreDistinct}
use Rattle.pio_assemble.proofs.Faultless.{no_fault, no_first, no_cause}
use Rattle.pio_assemble.proofs.Keeping.{name_or, name_kept, programs_kept, begins_by}

-- the names of programs
abbrev pub names_of : List Assembled → List (List ℕ)
names_of programs = map (λ p. p.name) programs

-- none of these names is among those
abbrev AreNew : List (List ℕ) → List (List ℕ) → Type 0
AreNew names [] = Unit {0}
AreNew names (n ∷ more) = (is_among names n ≡ false) × AreNew names more

-- a name that is not among these with one more is not among these, and is another one
new_without : (names : List (List ℕ)) (name n : List ℕ) → is_among names name ≡ false → is_among (with_name names name) n ≡ false → (is_among names n ≡ false) × (n ≢ name)
new_without names name n new h =
    let more : with_name names name ≡ names ++ name ∷ [] = rw new refl in
    let apart : (list_any (bytes_eq n) names || list_any (bytes_eq n) (name ∷ [])) ≡ false = sym (list_any-append (bytes_eq n) names (name ∷ [])) ∙ ap (λ ns. is_among ns n) (sym more) ∙ h in
    let both = or_parts (list_any (bytes_eq n) names) (list_any (bytes_eq n) (name ∷ [])) apart in
    let other = (or_parts (bytes_eq n name) false both.1).0 in
    (both.0, λ same. let it : bytes_eq n name ≡ true = (bytes_eq-Decides n name).1 same in cc)

all_new_without : (names : List (List ℕ)) (name : List ℕ) (ns : List (List ℕ)) → is_among names name ≡ false → AreNew (with_name names name) ns → AreNew names ns × Differs name ns
all_new_without names name [] new h = (tt, tt)
all_new_without names name (n ∷ ns) new h =
    let one = new_without names name n new h.0 in
    let rest = all_new_without names name ns new h.1 in
    ((one.0, rest.0), (one.1, rest.1))

-- the program that is read, or none, before the rest
abbrev own : Option (List ℕ) → Bool → List (List ℕ)
own None kept = []
own (Some name) true = name ∷ []
own (Some name) false = []

record Named (names : List (List ℕ)) (name : Option (List ℕ)) (programs : List Assembled) : Type 0 where
  kept : Bool
  rest : List (List ℕ)
  whole : names_of programs ≡ own name kept ++ rest
  new : AreNew names rest
  distinct : AreDistinct rest

-- a draft gives its program, or none
record Finished (d : Draft) : Type 0 where
  kept : Bool
  names : names_of (finished d) ≡ own d.name kept

finish : (d : Draft) → Finished d
finish d = by d.name refl where
  some : (name : List ℕ) (none : Bool) → d.name ≡ Some name → (length d.words == 0) ≡ none → Finished d
  some name true h e = record { kept = false; names = rw (h, e) refl }
  some name false h e = record { kept = true; names = rw (h, e) refl }

  by : (o : Option (List ℕ)) → d.name ≡ o → Finished d
  by None h = record { kept = false; names = rw h refl }
  by (Some name) h = some name (length d.words == 0) h refl

-- a program that begins is new, and so are those after it
all_after : (names : List (List ℕ)) (name : List ℕ) (programs : List Assembled) → is_among names name ≡ false → Named (with_name names name) (Some name) programs → AreNew names (names_of programs) × AreDistinct (names_of programs)
all_after names name programs new h = by h.kept refl where
  others : AreNew names h.rest × Differs name h.rest
  others = all_new_without names name h.rest new h.new

  by : (kept : Bool) → h.kept ≡ kept → AreNew names (names_of programs) × AreDistinct (names_of programs)
  by true e =
      let whole : names_of programs ≡ name ∷ h.rest = h.whole ∙ ap (λ k. own (Some name) k ++ h.rest) e in
      rw whole ((new, others.0), (others.1, h.distinct))
  by false e =
      let whole : names_of programs ≡ h.rest = h.whole ∙ ap (λ k. own (Some name) k ++ h.rest) e in
      rw whole (others.0, h.distinct)

with_programs_ok : (first : List Assembled) (r : Result (List Assembled) SourceRefusal) (programs : List Assembled) → with_programs first r ≡ Ok programs → (others : List Assembled) × (r ≡ Ok others) × (first ++ others ≡ programs)
with_programs_ok first (Ok others) programs h = (others, refl, cc)
with_programs_ok first (Err refusal) programs h = cc

NamedAfter : List SourceLine → Type 0
NamedAfter lines = (b : Before) (scope : Scope) (d : Draft) (programs : List Assembled) → first_fault b lines ≡ None → programs_from lines scope d ≡ Ok programs → Named b.programs d.name programs

module _ (l : SourceLine) (lines : List SourceLine) (rest : NamedAfter lines) (b : Before) (scope : Scope) (d : Draft) (programs : List Assembled) where
  -- a line that begins a program
  named_begins : (s : Statement) (name : List ℕ) → program_by s ≡ Some name → statement_fault b (has_word lines) s ≡ None → first_fault (after b s) lines ≡ None
      → with_programs (finished d) (programs_from lines (program_scope scope lines) (begun (Some name))) ≡ Ok programs → Named b.programs d.name programs
  unfolding NamedAfter
  named_begins s name h fault passes reads =
      let begins = begins_by b (has_word lines) s name h in
      let new : is_among b.programs name ≡ false = no_cause (is_among b.programs name) (Duplicate name) (no_first (duplicate b.programs name) _ (sym begins.fault ∙ fault)) in
      let read = with_programs_ok (finished d) (programs_from lines (program_scope scope lines) (begun (Some name))) programs reads in
      let following = subst (λ names. Named names (Some name) read.0) begins.programs (rest (after b s) (program_scope scope lines) (begun (Some name)) read.0 passes read.1) in
      let all = all_after b.programs name read.0 new following in
      let f = finish d in
      record {
        kept = f.kept;
        rest = names_of read.0;
        whole = ap names_of (sym read.2) ∙ map-append (λ (p : Assembled). p.name) (finished d) read.0 ∙ ap (λ ns. ns ++ names_of read.0) f.names;
        new = all.0;
        distinct = all.1;
      }

  -- one that adds to a program
  named_adds : (s : Statement) → program_by s ≡ None → first_fault (after b s) lines ≡ None
      → (r : Result Draft SourceKind) → drafted scope d s ≡ r → (at_line l.number r >>= programs_from lines scope) ≡ Ok programs → Named b.programs d.name programs
  unfolding NamedAfter
  named_adds s h passes (Err kind) e reads = cc
  named_adds s h passes (Ok more) e reads =
      let name : more.name ≡ d.name = ap (name_or d.name) (sym e) ∙ name_kept scope d s in
      subst (λ n. Named b.programs n programs) name (subst (λ names. Named names more.name programs) (programs_kept b s h) (rest (after b s) scope more programs passes reads))

  named_line : (r : Result Statement StatementKind) → fault_of_line b (has_word lines) r ≡ None → first_fault (after_line b r) lines ≡ None
      → programs_by (programs_from lines) scope d (record l { reading = r }) lines (program_on r) ≡ Ok programs → Named b.programs d.name programs
  named_line (Err kind) fault passes reads = cc
  named_line (Ok s) fault passes reads = by (program_by s) refl reads where
    by : (o : Option (List ℕ)) → program_by s ≡ o → programs_by (programs_from lines) scope d (record l { reading = Ok s }) lines o ≡ Ok programs → Named b.programs d.name programs
    by (Some name) h reads' = named_begins s name h fault passes reads'
    by None h reads' = named_adds s h passes (drafted scope d s) refl reads'

named : (lines : List SourceLine) → NamedAfter lines
unfolding first_fault programs_from NamedAfter
named [] b scope d programs passes reads =
    let same : finished d ≡ programs = cc in
    let f = finish d in
    record { kept = f.kept; rest = []; whole = ap names_of (sym same) ∙ f.names ∙ sym (append-nil (own d.name f.kept)); new = tt; distinct = tt }
named (l ∷ lines) b scope d programs passes reads =
    let split = no_fault l.number (fault_of_line b (has_word lines) l.reading) (first_fault (after_line b l.reading) lines) passes in
    named_line l lines (named lines) b scope d programs l.reading split.0 split.1 reads

-- the programs of a source
distinct_names : (source : List ℕ) (programs : List Assembled) → reads_source source ≡ Ok programs → AreDistinct (names_of programs)
unfolding reads_source NamedAfter
distinct_names source programs h = by (reading_of source) h where
  checked : (lines : List SourceLine) (fault : Option SourceRefusal) → first_fault nothing_before lines ≡ fault → unless_fault fault lines ≡ Ok programs → AreDistinct (names_of programs)
  checked lines (Some refusal) e reads = cc
  checked lines None e reads =
      let all = named lines nothing_before (global_scope lines) (begun None) programs e reads in
      rw (all.whole) all.distinct

  by : (read : Result (List Token) LexRefusal) → reads_tokens source read ≡ Ok programs → AreDistinct (names_of programs)
  by (Err refusal) reads = cc
  by (Ok tokens) reads = checked (lines_of source tokens) (first_fault nothing_before (lines_of source tokens)) refl reads

-- as they are seen
names_seen : (programs : List Program) → names_of (map assembled_of programs) ≡ map (λ p. p.name) programs
names_seen [] = refl
names_seen (p ∷ programs) = ap (λ names. p.name ∷ names) (names_seen programs)

-- what was returned of a source has different names
pub distinct_of : {X : Type 0} (view : X → List Program) (source : List ℕ) (result : Result X SourceFault) → Gives (λ v. map assembled_of (view v)) result (reads_source source) → IfOk result (λ v. AreDistinct (map (λ p. p.name) (view v)))
distinct_of view source (Ok v) h = subst AreDistinct (names_seen (view v)) (distinct_names source (map assembled_of (view v)) h)
distinct_of view source (Err fault) h = tt
