-- Marks count from the bytes before them.
use Rattle.std.specs.Prelude.{ℕ, not, ◌+◌, ◌≤◌, ◌==◌, List, length, reverse, count_by, fold, if◌then◌else◌}
use Rattle.std.specs.List.{prefix_len}
use Rattle.cx_base.specs.declared.diag.Mark.{Mark}
use Rattle.cx_tokens.specs.Bytes.{is_line_feed}

-- how many bytes stand behind the last line feed
abbrev pub bytes_in_line : List ℕ → ℕ
bytes_in_line before = prefix_len (λ b. not (is_line_feed b)) (reverse before)

-- One line more than there are line feeds before it, and one column more than there are bytes since the last of them.
abbrev pub mark_of : List ℕ → Mark
mark_of before = record { byte = length before; line = 1 + count_by is_line_feed before; col = 1 + bytes_in_line before }

-- one byte further on
abbrev pub mark_after : Mark → ℕ → Mark
mark_after m b = record {
  byte = m.byte + 1;
  line = if b == 10 then m.line + 1 else m.line;
  col = if b == 10 then 1 else m.col + 1;
}

-- some bytes further on
abbrev pub marks_on : Mark → List ℕ → Mark
marks_on m bytes = fold mark_after m bytes

-- a mark behind so many bytes
pub record Counts (m : Mark) (n : ℕ) : Type 0 where
  pub byte : m.byte ≤ n
  pub line : m.line ≤ n + 1
  pub col : m.col ≤ n + 1
