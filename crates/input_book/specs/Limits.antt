-- How long and how many the parts of a document may be.
use Rattle.std.specs.Prelude.{ℕ}

-- the bytes of a document
abbrev pub max_document : ℕ
max_document = 1_048_576

-- the streams of a document
abbrev pub max_streams : ℕ
max_streams = 8

-- the partitions of all its streams
abbrev pub max_partitions : ℕ
max_partitions = 32

-- the segments of a partition
abbrev pub max_segments : ℕ
max_segments = 4_096

-- the references of a document
abbrev pub max_references : ℕ
max_references = 4

-- the snapshots of all its references
abbrev pub max_snapshots : ℕ
max_snapshots = 64

-- the columns of a source
abbrev pub max_columns : ℕ
max_columns = 64

-- the bytes of the name of a source or a column
abbrev pub max_name : ℕ
max_name = 64

-- the bytes of the name of a file
abbrev pub max_file : ℕ
max_file = 255

-- the texts of a column's path
abbrev pub max_path : ℕ
max_path = 8

-- the seconds of a policy, and those that stand where the document says none
abbrev pub max_late : ℕ
max_late = 1_728_000

abbrev pub max_disorder : ℕ
max_disorder = 600

abbrev pub max_skew : ℕ
max_skew = 1_728_000

abbrev pub default_late : ℕ
default_late = 5

abbrev pub default_disorder : ℕ
default_disorder = 0

abbrev pub default_skew : ℕ
default_skew = 300
