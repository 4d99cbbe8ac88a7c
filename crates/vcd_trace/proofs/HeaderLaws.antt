-- Laws of the declarations.
use Rattle.std.proofs.Common.{◌≡◌, ℕ, ◌+◌, ◌-◌, ◌≤◌, ◌<◌, List, [], ◌∷◌, ◌++◌, zero, suc, length, drop, get_or, refl, sym, ap, ◌∙◌, append_assoc, length-append, arith}
use Rattle.std.specs.Prelude.{codes}
use Rattle.std.proofs.Math.ListN.{drop_of_length-le}
use Rattle.vcd_trace.specs.declared.header.TheConstants.{GROUPS}
use Rattle.vcd_trace.specs.VcdText.{Variable, variable, numbered, variables, declaration, declarations, scope_of, scope_text, header_text}
use Rattle.vcd_trace.specs.TwinText.{twin_header_text}
use Rattle.vcd_trace.proofs.TextLaws.{drop_at}

pub length-numbered : (letter width from count : ℕ) → length (numbered letter width from count) ≡ count
length-numbered letter width from zero = refl
length-numbered letter width from (suc more) = ap suc (length-numbered letter width (from + 1) more)

-- variables in two rows have the declarations of the one, then of the other
pub declarations-append : (id : ℕ) (xs ys : List Variable) → declarations id (xs ++ ys) ≡ declarations id xs ++ declarations (id + length xs) ys
declarations-append id [] ys = ap (λ i. declarations i ys) (let e : id ≡ id + 0 = omega arith in e)
declarations-append id (x ∷ xs) ys =
    ap (λ t. declaration id x ++ t) (declarations-append (id + 1) xs ys ∙ ap (λ i. declarations (id + 1) xs ++ declarations i ys) (let e : id + 1 + length xs ≡ id + suc (length xs) = omega arith in e))
    ∙ sym (append_assoc (declaration id x) (declarations (id + 1) xs) (declarations (id + suc (length xs)) ys))

-- the variables of a group from one on: its declaration, then those after it
pub numbered-turn : (first letter width count number : ℕ) → number < count → declarations (first + number) (numbered letter width number (count - number)) ≡ declaration (first + number) (variable letter width number) ++ declarations (first + (number + 1)) (numbered letter width (number + 1) (count - (number + 1)))
numbered-turn first letter width count number h =
    ap (λ k. declarations (first + number) (numbered letter width number k)) (let e : count - number ≡ suc (count - (number + 1)) = omega arith in e)
    ∙ ap (λ i. declaration (first + number) (variable letter width number) ++ declarations i (numbered letter width (number + 1) (count - (number + 1)))) (let e : first + number + 1 ≡ first + (number + 1) = omega arith in e)

-- a group: the letter, the width, and how many
abbrev Group : Type 0
Group = ℕ × ℕ × ℕ

-- its variables
abbrev group_variables : Group → List Variable
group_variables g = numbered g.0 g.1 0 g.2

-- the variables of these groups
abbrev variables_of : List Group → List Variable
variables_of [] = []
variables_of (g ∷ rest) = group_variables g ++ variables_of rest

-- the declarations of the groups from one on
unfoldable pub groups_text : ℕ → List Group → ℕ → List ℕ
groups_text id groups i = declarations id (variables_of (drop i groups))

-- how many variables the groups from one on have
unfoldable pub count_from : List Group → ℕ → ℕ
count_from groups i = length (variables_of (drop i groups))

abbrev pub no_group : Group
no_group = (0, 0, 0)

pub groups_text-all : (id : ℕ) → groups_text id GROUPS 0 ≡ declarations id variables
unfolding groups_text variables
groups_text-all id = refl

pub count_from-all : count_from GROUPS 0 ≡ 88
unfolding count_from
count_from-all = refl

pub groups_text-none : (id i : ℕ) (groups : List Group) → length groups ≤ i → groups_text id groups i ≡ []
unfolding groups_text
groups_text-none id i groups h = ap (λ x. declarations id (variables_of x)) (drop_of_length-le groups h)

-- the declarations of a group, then those of the groups after it
pub groups_text-turn : (id i : ℕ) (groups : List Group) → i < length groups → groups_text id groups i ≡ declarations id (group_variables (get_or groups i no_group)) ++ groups_text (id + (get_or groups i no_group).2) groups (i + 1)
unfolding groups_text
groups_text-turn id i groups h =
    let g : Group = get_or groups i no_group in
    ap (λ x. declarations id (variables_of x)) (drop_at groups i no_group h)
    ∙ declarations-append id (group_variables g) (variables_of (drop (i + 1) groups))
    ∙ ap (λ n. declarations id (group_variables g) ++ declarations (id + n) (variables_of (drop (i + 1) groups))) (length-numbered g.0 g.1 0 g.2)

pub count_from-turn : (i : ℕ) (groups : List Group) → i < length groups → count_from groups i ≡ (get_or groups i no_group).2 + count_from groups (i + 1)
unfolding count_from
count_from-turn i groups h =
    let g : Group = get_or groups i no_group in
    ap (λ x. length (variables_of x)) (drop_at groups i no_group h)
    ∙ length-append (group_variables g) (variables_of (drop (i + 1) groups))
    ∙ ap (λ n. n + length (variables_of (drop (i + 1) groups))) (length-numbered g.0 g.1 0 g.2)

-- a scope's lines one by one
pub scope_of-parts : (opening : List ℕ) (id : ℕ) (those : List Variable) → scope_of opening id those ≡ opening ++ (declarations id those ++ codes "$upscope $end\n")
scope_of-parts opening id those = append_assoc opening (declarations id those) (codes "$upscope $end\n")

-- the declaration commands one by one
pub header-parts : header_text ≡ codes "$timescale 1 ns $end\n" ++ (scope_text (codes "$scope module pio $end\n") 0 ++ codes "$enddefinitions $end\n")
unfolding header_text
header-parts = append_assoc (codes "$timescale 1 ns $end\n") (scope_text (codes "$scope module pio $end\n") 0) (codes "$enddefinitions $end\n")

pub twin_header-parts : twin_header_text ≡ codes "$timescale 1 ns $end\n" ++ (scope_text (codes "$scope module pio0 $end\n") 0 ++ (scope_text (codes "$scope module pio1 $end\n") 128 ++ codes "$enddefinitions $end\n"))
unfolding twin_header_text
twin_header-parts =
    append_assoc (codes "$timescale 1 ns $end\n" ++ scope_text (codes "$scope module pio0 $end\n") 0) (scope_text (codes "$scope module pio1 $end\n") 128) (codes "$enddefinitions $end\n")
    ∙ append_assoc (codes "$timescale 1 ns $end\n") (scope_text (codes "$scope module pio0 $end\n") 0) (scope_text (codes "$scope module pio1 $end\n") 128 ++ codes "$enddefinitions $end\n")
