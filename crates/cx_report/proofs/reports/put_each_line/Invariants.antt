use Rattle.std.proofs.Common.{◌≡◌, ◌++◌, take}
use Rattle.std.specs.List.{flat_map}
use Rattle.cx_report.specs.Report.{line_text}
use Rattle.cx_report.proofs.reports.put_each_line.Given as goal

abbrev pub invariant-lines : goal.invariant-lines
invariant-lines l = l.out.items ≡ l.fn.out.items ++ flat_map line_text (take l.line-index l.lines)
