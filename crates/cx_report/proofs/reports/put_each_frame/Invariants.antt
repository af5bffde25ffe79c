use Rattle.std.proofs.Common.{◌≡◌, ◌++◌, take}
use Rattle.std.specs.List.{flat_map}
use Rattle.cx_report.specs.Report.{frame_text}
use Rattle.cx_report.proofs.reports.put_each_frame.Given as goal

abbrev pub invariant-frames : goal.invariant-frames
invariant-frames l = l.out.items ≡ l.fn.out.items ++ flat_map frame_text (take l.frame-index l.frames)
