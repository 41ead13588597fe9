-- A document from what the crate that reads TOML says of its text.
use Rattle.std.proofs.Common.{◌≡◌, ℕ, List, true, false, Some, None, if◌then◌else◌, IsUtf8, sym, refl}
use Rattle.std.specs.Str.{is_utf8}
use Rattle.std.proofs.lemmas.Str.{is_utf8-from_IsUtf8, IsUtf8-from_is_utf8}
use Rattle.toml.specs.Data.{Members}
use Rattle.toml.specs.Parse.{parse_document}
use Rattle.input_book.specs.Document.{document}

pub document-some : (bytes : List ℕ) (ms : Members) → IsUtf8 bytes → parse_document bytes ≡ Some ms → Some ms ≡ document bytes
unfolding document
document-some bytes ms utf8 read = rw (is_utf8-from_IsUtf8 bytes utf8) (sym read)

pub document-none : (bytes : List ℕ) → (IsUtf8 bytes → parse_document bytes ≡ None) → None ≡ document bytes
unfolding document
document-none bytes refused =
    elim (is_utf8 bytes) as (λ b. is_utf8 bytes ≡ b → None ≡ (if b then parse_document bytes else None)) [
      | true ↦ λ utf8. sym (refused (IsUtf8-from_is_utf8 bytes utf8))
      | false ↦ λ _. refl
    ] refl
