-- When bytes that come later can't change what begins a rest of the text ([lex.phases], [lex.pptoken]).
use Rattle.std.specs.Prelude.{ℕ, Bool, ◌+◌, ◌==◌, ◌&&◌, nat_le, List, if◌then◌else◌, length}
use Rattle.cx_tokens.specs.Bytes.{byte_at}
use Rattle.cx_tokens.specs.Cut.{found_at}
use Rattle.cx_tokens.specs.Pieces.{size_of}
use Rattle.cx_tokens.specs.Space.{line_size}

-- How many bytes from the front on tell what begins here, but for those directly behind them: where a `#` may be a marker's, its line does.
abbrev pub told_by : Bool → List ℕ → ℕ
told_by opens rest = if opens && byte_at rest 0 == 35 then line_size 1 rest else size_of (found_at opens rest)

-- three bytes stand behind these
abbrev pub is_decided : Bool → List ℕ → Bool
is_decided opens rest = nat_le (told_by opens rest + 3) (length rest)
