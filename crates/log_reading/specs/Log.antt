-- The log of the streams that a plan uses: each partition's segments as the files hold them, where every
-- partition counts as ended (docs/INPUTS, "Verdicts").
use Rattle.std.specs.Prelude.{ℕ, List, [], ◌∷◌, map, slice_get, Bool, true, Option, Some, None}
use Rattle.std.specs.List.{flat_map}
use Rattle.arrival_log.specs.Kept.{HeardLane}
use Rattle.arrival_log.specs.Log.{LaneSegment, lane_entries}
use Rattle.arrival_text.specs.CsvItems.{csv_items_of}
use Rattle.arrival_text.specs.JsonItems.{json_items_of}
use Rattle.arrival_text.specs.Segments.{max_segment, too_long_items}
use Rattle.event_value.specs.declared.kind.Column.{Column}
use Rattle.event_value.specs.declared.kind.Format.{Format}
use Rattle.event_value.specs.declared.kind.Format.TheVariants.{Json, Csv, Avro, JsonExact}
use Rattle.query_plan.specs.declared.plan.StreamUse.{StreamUse}
use Rattle.event_value.specs.declared.record.Item.{Item}
use Rattle.event_value.specs.declared.record.Item.TheVariants.{Bad}
use Rattle.event_value.specs.declared.record.Rule.TheVariants.{Damaged}
use Rattle.input_types.specs.declared.inputs.Partition.{Partition}
use Rattle.input_types.specs.declared.inputs.SegmentName.{SegmentName}
use Rattle.input_types.specs.declared.inputs.Stream.{Stream}
use Rattle.outside.specs.KnownFiles.{KnownFiles, file_of}
use Rattle.outside.specs.Segment.{segment_of}
use Rattle.outside.specs.declared.segment.Segment.{Segment}
use Rattle.outside.specs.declared.segment.Segment.TheVariants.{Bytes, TooLong}

-- the one item of a file in a format without a reader, which no accepted document has
abbrev pub unreadable_items : List Item
unreadable_items = Bad Damaged ∷ []

-- the items of the bytes of a file, whose records are stamped with an enqueue moment or aren't
abbrev pub items_in : Format → List Column → Bool → List ℕ → List Item
items_in Json columns stamped bytes = json_items_of columns stamped bytes
items_in (Csv delimiter) columns stamped bytes = csv_items_of columns stamped delimiter bytes
items_in Avro columns stamped bytes = unreadable_items
items_in JsonExact columns stamped bytes = unreadable_items

-- the items of a file up to the limit of a segment, or the one of a longer file
abbrev pub items_of_segment : Format → List Column → Segment → List Item
items_of_segment format columns (Bytes bytes) = items_in format columns true bytes
items_of_segment format columns TooLong = too_long_items

-- the items of a file of a stream
abbrev pub items_of_file : KnownFiles → Stream → List ℕ → List Item
items_of_file files stream name =
    items_of_segment stream.format stream.columns (segment_of max_segment (file_of files name))

-- a segment of a stream, as the files hold it
abbrev pub segment_in : KnownFiles → Stream → SegmentName → LaneSegment
segment_in files stream segment =
    record { items = items_of_file files stream segment.file; through = segment.through }

-- the lane of a partition, wholly heard and ended
abbrev pub lane_in : KnownFiles → Stream → Partition → HeardLane
lane_in files stream partition =
    record { front = lane_entries (map (segment_in files stream) partition.segments); closed = true }

-- the lanes of a stream, in order
abbrev pub lanes_in : KnownFiles → Option Stream → List HeardLane
lanes_in files None = []
lanes_in files (Some stream) = map (lane_in files stream) stream.partitions

-- the log of the streams that are used, in order
abbrev pub log_in : KnownFiles → List Stream → List StreamUse → List (List HeardLane)
log_in files streams used = map (λ u. lanes_in files (slice_get streams u.stream)) used

-- the names of the files of some segments, in order
abbrev pub files_of_segments : List SegmentName → List (List ℕ)
files_of_segments segments = map (λ segment. segment.file) segments

-- the names of the files of a partition, in order of the segments
abbrev pub partition_files : Partition → List (List ℕ)
partition_files partition = files_of_segments partition.segments

-- the names of the files of a stream, in order of the partitions
abbrev pub stream_files : Option Stream → List (List ℕ)
stream_files None = []
stream_files (Some stream) = flat_map partition_files stream.partitions

-- the names of the files of the streams that are used, in order
abbrev pub log_files : List Stream → List StreamUse → List (List ℕ)
log_files streams used = flat_map (λ u. stream_files (slice_get streams u.stream)) used
