-- The table that the bytes of a configuration are.
use Rattle.std.proofs.Common.{◌≡◌, ℕ, List, Some, None, Ok, IsUtf8, codes, refl, inl, inr}
use Rattle.std.specs.Str.{is_utf8}
use Rattle.std.proofs.lemmas.Bool.{cases_Bool}
use Rattle.std.proofs.lemmas.Str.{IsUtf8-from_is_utf8, is_utf8-from_IsUtf8}
use Rattle.toml.specs.Data.{Members}
use Rattle.toml.specs.Parse.{parse_document}
use Rattle.block_config.specs.declared.fault.ConfigFault.{ConfigFault}
use Rattle.block_config.specs.declared.fault.ConfigFault.TheVariants.{Memory, At}
use Rattle.block_config.specs.declared.fault.ConfigKind.TheVariants.{NotToml}
use Rattle.answers.specs.Answers.{Refuses}
use Rattle.block_config.specs.Answer.{Tells, told}
use Rattle.block_config.specs.Config.{document_of, parsed}

pub parsed_table : (bytes : List ℕ) (t : Members) → IsUtf8 bytes → parse_document bytes ≡ Some t → parsed (document_of bytes) ≡ Ok t
parsed_table bytes t u e = rw (is_utf8-from_IsUtf8 bytes u, e) refl

no_document : (bytes : List ℕ) → (IsUtf8 bytes → parse_document bytes ≡ None) → document_of bytes ≡ None
no_document bytes h =
    elim (cases_Bool (is_utf8 bytes)) [
      | inl it_is ↦ rw (it_is, h (IsUtf8-from_is_utf8 bytes it_is)) refl
      | inr other ↦ rw other refl
    ]

pub not_parsed : (fault : ConfigFault) (bytes : List ℕ) → (IsUtf8 bytes → parse_document bytes ≡ None) → Tells fault (codes "file") NotToml → Refuses (told fault) (parsed (document_of bytes))
not_parsed Memory bytes h tells = tt
not_parsed (At key kind) bytes h tells = rw (no_document bytes h, tells.0, tells.1) refl
