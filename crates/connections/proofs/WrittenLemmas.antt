-- Pieces that are written one behind the other.
use Rattle.std.proofs.Common.{◌≡◌, ℕ, List, ◌++◌, take, drop, Option, Some, None, Ok}
use Rattle.std.proofs.Common.{refl, append_assoc, ap, ◌∙◌}
use Rattle.std.proofs.lemmas.List.{take-append-drop}
use Rattle.std.specs.Option.{option_map}
use Rattle.outside.specs.Written.{bytes_behind, WritesAllBut}
use Rattle.connections.specs.ConnBytes.{bytes_after_write}

written-behind : (old : Option (List ℕ)) (prefix piece : List ℕ) (count : ℕ)
    → option_map (bytes_after_write piece (Ok count)) (bytes_behind old prefix)
    ≡ bytes_behind old (prefix ++ take count piece)
written-behind None prefix piece count = refl
written-behind (Some before) prefix piece count =
    ap Some (append_assoc before prefix (take count piece))

-- a further piece was written
pub WritesAllBut-more : (rest bytes : List ℕ) (old new next : Option (List ℕ)) (count : ℕ)
    → WritesAllBut rest bytes old new → next ≡ option_map (bytes_after_write rest (Ok count)) new
    → WritesAllBut (drop count rest) bytes old next
WritesAllBut-more rest bytes old new next count w e = record {
  prefix = w.prefix ++ take count rest;
  whole = append_assoc w.prefix (take count rest) (drop count rest)
      ∙ ap (λ more. w.prefix ++ more) (take-append-drop count rest) ∙ w.whole;
  written = e ∙ ap (option_map (bytes_after_write rest (Ok count))) w.written
      ∙ written-behind old w.prefix rest count;
}
