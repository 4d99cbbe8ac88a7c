-- Of two blocks on the same pins the second says nothing of the outside, and the first nothing of owned pins.
use Rattle.std.proofs.Common.{◌≡◌, ℕ, Ordering, Less, Equal, Greater, nat_cmp, is_eq, Bool, true, false, Option, Some, None, Result, Ok, Err, List, codes, refl, sym, ap, subst, ◌∙◌}
use Rattle.std.specs.Cmp.Lexicographic.{slice_cmp}
use Rattle.std.specs.List.{list_any}
use Rattle.std.specs.Ordering.{match_ordering}
use Rattle.std.specs.Str.{bytes_eq}
use Rattle.std.proofs.lemmas.Bool.{and_parts, false≢true}
use Rattle.std.proofs.lemmas.Map.Text.{is_eq-slice_cmp}
use Rattle.std.proofs.lemmas.Slice.Eq.{bytes_eq-Decides}
use Rattle.toml.specs.Data.{Data, Members, no_members, member, get_member}
use Rattle.pio_assemble.specs.Program.{Assembled}
use Rattle.block_config.specs.declared.path.Section.TheVariants.{Pins}
use Rattle.block_config.specs.declared.pins.BlockNumber.{BlockNumber}
use Rattle.block_config.specs.declared.pins.BlockNumber.TheVariants.{First, Second}
use Rattle.block_config.specs.Answer.{ConfigRefusal}
use Rattle.block_config.specs.Config.{said_of}
use Rattle.block_config.specs.Owning.{OwningKeys}
use Rattle.block_config.specs.Pins.{PinTable, mask_at, pin_table_at, pin_names, pins_in}
use Rattle.block_config.specs.Tables.{and_then, in_section, are_known}
use Rattle.block_config.proofs.Ranges.{ok_same}
use Rattle.block_config.proofs.Said.{said_parts}

same_keys : (key k : List ℕ) → slice_cmp nat_cmp key k ≡ Equal → key ≡ k
same_keys key k e = (bytes_eq-Decides key k).0 (sym (is_eq-slice_cmp key k) ∙ ap is_eq e)

-- a member under a known key isn't one under a key that isn't known
another : (key k : List ℕ) (names : List (List ℕ)) (d : Data) (rest : Members) (r : Ordering) → slice_cmp nat_cmp key k ≡ r
    → list_any (bytes_eq key) names ≡ false → list_any (bytes_eq k) names ≡ true → get_member key rest ≡ None
    → match_ordering r (get_member key rest) (Some d) (get_member key rest) ≡ None
another key k names d rest Less e out known none = none
another key k names d rest Equal e out known none = absurd (false≢true (sym out ∙ subst (λ (x : List ℕ). list_any (bytes_eq x) names ≡ true) (sym (same_keys key k e)) known))
another key k names d rest Greater e out known none = none

-- a table of known keys has no other
absent : (key : List ℕ) (names : List (List ℕ)) (t : Members) → list_any (bytes_eq key) names ≡ false → are_known names t ≡ true → get_member key t ≡ None
absent key names no_members out known = refl
absent key names (member k d rest) out known =
    let parts = and_parts (list_any (bytes_eq k) names) (are_known names rest) known in
    another key k names d rest _ refl out parts.0 (absent key names rest out parts.1)

mask_absent : (t : Members) (key : List ℕ) → get_member key t ≡ None → mask_at t key ≡ Ok 0
mask_absent t key e = rw e refl

-- the first and the last list of a table
record Lists (t : Members) (p : PinTable) : Type 0 where
  high : mask_at t (codes "high") ≡ Ok p.high
  own : mask_at t (codes "own") ≡ Ok p.own

lists_read : (t : Members) (p : PinTable) (high level out bypass own : Result ℕ ConfigRefusal) → mask_at t (codes "high") ≡ high → mask_at t (codes "own") ≡ own
    → and_then high (λ high. and_then level (λ level. and_then out (λ out. and_then bypass (λ bypass. and_then own (λ own.
    Ok (record { high = high; level = level; out = out; bypass = bypass; own = own })))))) ≡ Ok p → Lists t p
lists_read t p (Ok high) (Ok level) (Ok out) (Ok bypass) (Ok own) h o e =
    let whole = ok_same (record { high = high; level = level; out = out; bypass = bypass; own = own }) p e in
    record { high = h ∙ ap (λ (x : PinTable). Ok x.high) whole; own = o ∙ ap (λ (x : PinTable). Ok x.own) whole }
lists_read t p (Err r) level out bypass own h o e = cc
lists_read t p (Ok high) (Err r) out bypass own h o e = cc
lists_read t p (Ok high) (Ok level) (Err r) bypass own h o e = cc
lists_read t p (Ok high) (Ok level) (Ok out) (Err r) own h o e = cc
lists_read t p (Ok high) (Ok level) (Ok out) (Ok bypass) (Err r) h o e = cc

lists_of : (t : Members) (p : PinTable) → pin_table_at t ≡ Ok p → Lists t p
lists_of t p e = lists_read t p (mask_at t (codes "high")) (mask_at t (codes "level")) (mask_at t (codes "out")) (mask_at t (codes "bypass")) (mask_at t (codes "own")) refl refl e

-- a table that was read has known keys
record Read (block : BlockNumber) (t : Members) (p : PinTable) : Type 0 where
  known : are_known (pin_names block) t ≡ true
  lists : Lists t p

read_known : (block : BlockNumber) (t : Members) (p : PinTable) (known : Bool) → are_known (pin_names block) t ≡ known → pins_in block (Some t) ≡ Ok p → Read block t p
read_known block t p true is e = record { known = is; lists = lists_of t p (off_section (pin_table_at t) (rw is at e)) }
  where
    off_section : (r : _) → in_section Pins r ≡ Ok p → r ≡ Ok p
    off_section (Ok q) e = e
    off_section (Err q) e = cc
read_known block t p false is e = let h = rw is at e in cc

no_outside : (t : Option Members) (p : PinTable) → pins_in Second t ≡ Ok p → p.high ≡ 0
no_outside None p e = sym (ap (λ (x : PinTable). x.high) (ok_same _ p e))
no_outside (Some t) p e =
    let read = read_known Second t p _ refl e in
    ok_same p.high 0 (sym read.lists.high ∙ mask_absent t (codes "high") (absent (codes "high") (pin_names Second) t refl read.known))

no_owned : (t : Option Members) (p : PinTable) → pins_in First t ≡ Ok p → p.own ≡ 0
no_owned None p e = sym (ap (λ (x : PinTable). x.own) (ok_same _ p e))
no_owned (Some t) p e =
    let read = read_known First t p _ refl e in
    ok_same p.own 0 (sym read.lists.own ∙ mask_absent t (codes "own") (absent (codes "own") (pin_names First) t refl read.known))

pub second_has_no_outside : (bytes : List ℕ) (programs : List Assembled) (k : OwningKeys) → said_of Second bytes programs ≡ Ok k → k.block.high ≡ 0
second_has_no_outside bytes programs k e =
    let parts = said_parts Second bytes programs k e in
    sym (ap (λ (o : OwningKeys). o.block.high) parts.over.whole) ∙ no_outside parts.sections.pins parts.over.pins parts.over.pins_found

pub first_owns_nothing : (bytes : List ℕ) (programs : List Assembled) (k : OwningKeys) → said_of First bytes programs ≡ Ok k → k.own ≡ 0
first_owns_nothing bytes programs k e =
    let parts = said_parts First bytes programs k e in
    sym (ap (λ (o : OwningKeys). o.own) parts.over.whole) ∙ no_owned parts.sections.pins parts.over.pins parts.over.pins_found
