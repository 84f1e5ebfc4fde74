-- What the parser's answers say of the document.
use Rattle.std.proofs.Common.{◌≡◌, ℕ, List, None, inl, inr}
use Rattle.std.specs.Str.{IsUtf8, is_utf8}
use Rattle.std.proofs.lemmas.Bool.{cases_Bool}
use Rattle.std.proofs.lemmas.Str.{IsUtf8-from_is_utf8}
use Rattle.toml.specs.Parse.{parse_document}
use Rattle.hg_members.specs.MemberFile.{document_of}

pub document_of-refused : (bytes : List ℕ) → (IsUtf8 bytes → parse_document bytes ≡ None) → document_of bytes ≡ None
document_of-refused bytes refused =
    elim (cases_Bool (is_utf8 bytes)) [
      | inl is_text ↦ rw (is_text, refused (IsUtf8-from_is_utf8 bytes is_text))
      | inr is_none ↦ rw is_none
    ]
