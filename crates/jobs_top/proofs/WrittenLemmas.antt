-- A line that isn't written.
use Rattle.std.proofs.Common.{◌≡◌, ℕ, List, [], Option, Some, None, refl, ap, sym}
use Rattle.std.proofs.lemmas.List.{append-nil}
use Rattle.outside.specs.Written.{bytes_behind, WritesPrefix}

bytes_behind-nil : (old : Option (List ℕ)) → old ≡ bytes_behind old []
bytes_behind-nil None = refl
bytes_behind-nil (Some before) = ap Some (sym (append-nil before))

-- nothing was written
pub WritesPrefix-none : (bytes : List ℕ) (old : Option (List ℕ)) → WritesPrefix bytes old old
WritesPrefix-none bytes old = (bytes, record { prefix = []; whole = refl; written = bytes_behind-nil old })
