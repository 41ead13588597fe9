-- The line that is written with each status other than Done, OutFault and Refused (docs/GUIDE, "Printed text").
use Rattle.std.specs.Prelude.{ℕ, List, ◌++◌, codes}

abbrev pub usage_line : List ℕ
usage_line = codes "error 2 Usage\n"

-- a label and what it is of, on a line
unfoldable pub labelled : List ℕ → List ℕ → List ℕ
labelled label detail = label ++ codes " " ++ detail ++ codes "\n"

-- the name is that of the last file that was asked for
abbrev pub read_fault_line : List ℕ → List ℕ
read_fault_line name = labelled (codes "error 5 ReadFault") name

abbrev pub memory_line : List ℕ
memory_line = codes "error 11 Memory\n"
