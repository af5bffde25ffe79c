-- The text of a report.
use Rattle.std.specs.Prelude.{ℕ, ◌-◌, List, [], ◌++◌, length, codes, decimal, slice_get}
use Rattle.std.specs.List.{flat_map}
use Rattle.std.specs.Option.{option_map_or}
use Rattle.cx_base.specs.declared.diag.Diag.{Diag}
use Rattle.cx_base.specs.declared.diag.Frame.{Frame}
use Rattle.cx_base.specs.declared.diag.Mark.{Mark}
use Rattle.cx_base.specs.declared.diag.Span.{Span}
use Rattle.cx_base.specs.Rules.{tag_of}
use Rattle.cx_report.specs.declared.verdict.Mode.{Mode}
use Rattle.cx_report.specs.declared.verdict.Mode.TheVariants.{Print, Check, Notes}
use Rattle.cx_report.specs.declared.verdict.Verdict.{Verdict}
use Rattle.cx_report.specs.declared.verdict.Verdict.TheVariants.{Accepted, Refused}
use Rattle.cx_report.specs.declared.verdict.Line.{Line}
use Rattle.cx_report.specs.declared.verdict.LineKind.{LineKind}
use Rattle.cx_report.specs.declared.verdict.LineKind.TheVariants.{Constexpr}

-- `LINE:COL`
abbrev pub mark_text : Mark → List ℕ
mark_text m = decimal m.line ++ codes ":" ++ decimal m.col

abbrev pub span_text : Span → List ℕ
span_text s = mark_text s.start ++ codes "-" ++ mark_text s.end

abbrev pub kind_text : LineKind → List ℕ
kind_text Constexpr = codes "constexpr"

-- `LINE:COL KIND NAME = VALUE`
unfoldable pub line_text : Line → List ℕ
line_text l = mark_text l.start ++ codes " " ++ kind_text l.kind ++ codes " " ++ l.name ++ codes " = " ++ l.text ++ codes "\n"

-- `LINE:COL-LINE:COL TAG`
unfoldable pub diag_text : Diag → List ℕ
diag_text d = span_text d.span ++ codes " " ++ tag_of d.rule ++ codes "\n"

-- `LINE:COL-LINE:COL in NAME`
unfoldable pub frame_text : Frame → List ℕ
frame_text f = span_text f.span ++ codes " in " ++ f.name ++ codes "\n"

-- a line for each constant, which the mode `check` leaves out
abbrev pub lines_text : Mode → List Line → List ℕ
lines_text Print lines = flat_map line_text lines
lines_text Check lines = []
lines_text Notes lines = flat_map line_text lines

-- a line for each call that hadn't returned, innermost first, which the mode `notes` alone gives
abbrev pub frames_text : Mode → List Frame → List ℕ
frames_text Print frames = []
frames_text Check frames = []
frames_text Notes frames = flat_map frame_text frames

-- the lines and their number, or the line of the diagnostic and its calls
unfoldable pub report_of : Mode → Verdict → List ℕ
report_of mode (Accepted lines) = lines_text mode lines ++ codes "accepted " ++ decimal (length lines) ++ codes "\n"
report_of mode (Refused d) = diag_text d ++ frames_text mode d.frames

-- the value's text in the last line, if there is one
abbrev pub last_value : List Line → List ℕ
last_value lines = option_map_or (λ (line : Line). line.text) (slice_get lines (length lines - 1)) []

-- `made BYTES bytes, accepted N, last VALUE` of a unit with so many bytes, or the line of the diagnostic
unfoldable pub summary_of : ℕ → Verdict → List ℕ
summary_of bytes (Accepted lines) =
    codes "made " ++ decimal bytes ++ codes " bytes, accepted " ++ decimal (length lines) ++ codes ", last " ++ last_value lines ++ codes "\n"
summary_of bytes (Refused d) = diag_text d
