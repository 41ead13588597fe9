use Rattle.std.proofs.Common.{◌≤◌, take, drop}
use Rattle.log_reading.specs.Asking.{AsksAllBut}
use Rattle.log_reading.specs.Feeding.{FeedsFiles}
use Rattle.log_reading.specs.Log.{files_of_segments}
use Rattle.log_reading.proofs.files.feed_segments.Given as goal

-- the lane was fed the segments so far
abbrev pub invariant-loop-segment : goal.invariant-loop-segment
invariant-loop-segment g l = record {
  fed :
      FeedsFiles (g.F.Files.known l.fn.files) l.stream (take l.segment-index l.segments) l.fn.lane l.fed;
  asked :
      AsksAllBut (files_of_segments (drop l.segment-index l.segments)) (files_of_segments l.segments)
      (g.F.Files.known l.fn.files) (g.F.Files.known l.files);
  never_falls : g.F.Files.faults l.fn.files ≤ g.F.Files.faults l.files;
}
