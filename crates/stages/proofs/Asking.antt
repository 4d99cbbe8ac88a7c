-- What stages ask one after the other, and what was asked where one of them ends with a fault.
use Rattle.std.proofs.Common.{◌≡◌, ◌∙◌, ℕ, false, Option, Some, None, List, [], ◌∷◌, ◌++◌, refl, sym, ap, append_assoc, append-nil}
use Rattle.std.proofs.lemmas.List.Concat.{flat_map-append}
use Rattle.pio_edge.specs.Fetched.{Fetched}
use Rattle.fault_lines.specs.declared.fault.File.{File}
use Rattle.fault_lines.specs.declared.fault.File.TheVariants as file
use Rattle.fault_lines.specs.declared.fault.Fault.{Fault}
use Rattle.fault_lines.specs.declared.fault.Fault.TheVariants as fault
use Rattle.stages.specs.Fetching.{FileSlot, slot, fetch_of, fetch_at, fetches_of, AsksUpTo, FailsAt, CameLast, AsksPart, AsksUntil}

fetches_of-append : (xs ys : List FileSlot) → fetches_of (xs ++ ys) ≡ fetches_of xs ++ fetches_of ys
fetches_of-append xs ys = flat_map-append (λ (s : FileSlot). fetch_at s.role s.name) xs ys

-- ---- all files

-- all of some files, and then all of further ones
pub all_after : (xs ys : List FileSlot) (before mid after : List Fetched) → mid ≡ before ++ fetches_of xs
    → after ≡ mid ++ fetches_of ys → after ≡ before ++ fetches_of (xs ++ ys)
all_after xs ys before mid after m h =
    h ∙ ap (λ (l : List Fetched). l ++ fetches_of ys) m ∙ append_assoc before (fetches_of xs) (fetches_of ys)
    ∙ ap (λ (l : List Fetched). before ++ l) (sym (fetches_of-append xs ys))

-- nothing is asked of no file
pub none_named : (role : File) (before : List Fetched) → before ≡ before ++ fetches_of (slot role None ∷ [])
none_named role before = sym (append-nil before)

-- all files are a first part of them
pub part_all : (xs : List FileSlot) (before after : List Fetched) → after ≡ before ++ fetches_of xs
    → AsksPart xs before after
part_all xs before after h = record { earlier = xs; later = []; place = sym (append-nil xs); asked = h }

-- and so is none
pub part_none : (xs : List FileSlot) (before : List Fetched) → AsksPart xs before before
part_none xs before = record { earlier = []; later = xs; place = refl; asked = sym (append-nil before) }

-- the last file was asked last
pub stops_last : (xs : List FileSlot) (role : File) (name : Option (List ℕ)) (before after : List Fetched)
    → after ≡ before ++ fetches_of (xs ++ slot role name ∷ []) → CameLast (xs ++ slot role name ∷ []) role before after
stops_last xs role name before after h = record {
  name = name;
  last = record {
    earlier = xs;
    later = [];
    place = refl;
    asked = h ∙ ap (λ (l : List Fetched). before ++ l)
        (fetches_of-append xs (slot role name ∷ [])
        ∙ ap (λ (l : List Fetched). fetches_of xs ++ l) (append-nil (fetch_at role name)));
  };
}

-- the one file was asked, and failed
pub fails_alone : (role : File) (name : List ℕ) (before after : List Fetched) → after ≡ before ++ fetch_of role name false ∷ []
    → FailsAt (slot role (Some name) ∷ []) role before after
fails_alone role name before after h =
    record { name = name; last = record { earlier = []; later = []; place = refl; asked = h } }

-- ---- a part of the first files is one of all

up_to_first : (xs ys : List FileSlot) (own : FileSlot) (last before after : List Fetched) → AsksUpTo xs own last before after
    → AsksUpTo (xs ++ ys) own last before after
up_to_first xs ys own last before after h = record {
  earlier = h.earlier;
  later = h.later ++ ys;
  place = ap (λ (l : List FileSlot). l ++ ys) h.place ∙ append_assoc h.earlier (own ∷ h.later) ys;
  asked = h.asked;
}

pub stops_first : (xs ys : List FileSlot) (role : File) (before after : List Fetched) → CameLast xs role before after
    → CameLast (xs ++ ys) role before after
stops_first xs ys role before after h =
    record { name = h.name; last = up_to_first xs ys _ _ before after h.last }

-- what a stage that reads the first files fails with
pub asks_first : (xs ys : List FileSlot) (before after : List Fetched) (e : Fault) → AsksUntil xs before after e
    → AsksUntil (xs ++ ys) before after e
asks_first xs ys before after fault.Memory h = record {
  earlier = h.earlier;
  later = h.later ++ ys;
  place = ap (λ (l : List FileSlot). l ++ ys) h.place ∙ append_assoc h.earlier h.later ys;
  asked = h.asked;
}
asks_first xs ys before after (fault.Shelf role) h =
    record { name = h.name; last = up_to_first xs ys _ _ before after h.last }
asks_first xs ys before after (fault.TooLong role) h = stops_first xs ys role before after h
asks_first xs ys before after (fault.Words line kind) h = stops_first xs ys file.Words before after h
asks_first xs ys before after (fault.Source line kind) h = stops_first xs ys file.Source before after h
asks_first xs ys before after (fault.Config key kind) h = stops_first xs ys file.Config before after h
asks_first xs ys before after (fault.Second key kind) h = stops_first xs ys file.Second before after h
asks_first xs ys before after (fault.Stim line kind) h = stops_first xs ys file.Stimulus before after h
asks_first xs ys before after (fault.Table line kind) h = stops_first xs ys file.Table before after h
asks_first xs ys before after fault.NoSpan h = stops_first xs ys file.Config before after h
asks_first xs ys before after e h = absurd h

-- ---- a part of later files, after all of the first ones

up_to_after : (xs ys : List FileSlot) (own : FileSlot) (last before mid after : List Fetched) → mid ≡ before ++ fetches_of xs
    → AsksUpTo ys own last mid after → AsksUpTo (xs ++ ys) own last before after
up_to_after xs ys own last before mid after m h = record {
  earlier = xs ++ h.earlier;
  later = h.later;
  place = ap (λ (l : List FileSlot). xs ++ l) h.place ∙ sym (append_assoc xs h.earlier (own ∷ h.later));
  asked = h.asked ∙ ap (λ (l : List Fetched). l ++ (fetches_of h.earlier ++ last)) m
      ∙ append_assoc before (fetches_of xs) (fetches_of h.earlier ++ last)
      ∙ ap (λ (l : List Fetched). before ++ l)
      (sym (append_assoc (fetches_of xs) (fetches_of h.earlier) last)
      ∙ ap (λ (l : List Fetched). l ++ last) (sym (fetches_of-append xs h.earlier)));
}

stops_after : (xs ys : List FileSlot) (role : File) (before mid after : List Fetched) → mid ≡ before ++ fetches_of xs
    → CameLast ys role mid after → CameLast (xs ++ ys) role before after
stops_after xs ys role before mid after m h =
    record { name = h.name; last = up_to_after xs ys _ _ before mid after m h.last }

-- what a stage that reads later files fails with
pub asks_after : (xs ys : List FileSlot) (before mid after : List Fetched) (e : Fault) → mid ≡ before ++ fetches_of xs
    → AsksUntil ys mid after e → AsksUntil (xs ++ ys) before after e
asks_after xs ys before mid after fault.Memory m h = record {
  earlier = xs ++ h.earlier;
  later = h.later;
  place = ap (λ (l : List FileSlot). xs ++ l) h.place ∙ sym (append_assoc xs h.earlier h.later);
  asked = all_after xs h.earlier before mid after m h.asked;
}
asks_after xs ys before mid after (fault.Shelf role) m h =
    record { name = h.name; last = up_to_after xs ys _ _ before mid after m h.last }
asks_after xs ys before mid after (fault.TooLong role) m h = stops_after xs ys role before mid after m h
asks_after xs ys before mid after (fault.Words line kind) m h = stops_after xs ys file.Words before mid after m h
asks_after xs ys before mid after (fault.Source line kind) m h = stops_after xs ys file.Source before mid after m h
asks_after xs ys before mid after (fault.Config key kind) m h = stops_after xs ys file.Config before mid after m h
asks_after xs ys before mid after (fault.Second key kind) m h = stops_after xs ys file.Second before mid after m h
asks_after xs ys before mid after (fault.Stim line kind) m h = stops_after xs ys file.Stimulus before mid after m h
asks_after xs ys before mid after (fault.Table line kind) m h = stops_after xs ys file.Table before mid after m h
asks_after xs ys before mid after fault.NoSpan m h = stops_after xs ys file.Config before mid after m h
asks_after xs ys before mid after e m h = absurd h
