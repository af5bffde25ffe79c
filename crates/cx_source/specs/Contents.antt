-- What a unit is made of: the bytes that are read of a source.
use Rattle.std.specs.Prelude.{ℕ, ◌+◌, List, take}

-- a longer source is refused ([implimits])
abbrev pub longest_source : ℕ
longest_source = 4194304

-- what is read of a source that has these bytes left: all of it, or one byte more than the longest
abbrev pub read_of : List ℕ → List ℕ
read_of bytes = take (longest_source + 1) bytes
