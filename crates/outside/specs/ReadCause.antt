-- The cause of a refusal to read, as the files gave it.
use Rattle.std.specs.Prelude.{◌≡◌}
use Rattle.outside.specs.declared.files.FileErr.{FileErr}
use Rattle.outside.specs.declared.files.FileErr.TheVariants.{Fault as file_fault}
use Rattle.outside.specs.declared.files.FileErr.TheVariants.{Memory as file_memory}
use Rattle.outside.specs.declared.segment.ReadErr.{ReadErr}
use Rattle.outside.specs.declared.segment.ReadErr.TheVariants.{Fault, Memory}

-- the refusal names the cause that the files named
abbrev pub HasSameCause : FileErr → ReadErr → Type 0
HasSameCause file_fault error = error ≡ Fault
HasSameCause file_memory error = error ≡ Memory
