-- Sets of classes of tokens.
use Rattle.std.specs.Prelude.{Bool, true, false, ◌||◌}
use Rattle.cx_syntax.specs.declared.class.Class.{Class}
use Rattle.cx_syntax.specs.declared.class.Class.TheVariants as k
use Rattle.cx_syntax.specs.Readers.{just}
use Rattle.cx_syntax.specs.Sets.{starts_assign, starts_specs}

-- what an enumeration, and no variable, has behind `enum`
abbrev pub follows_enum : Class → Bool
follows_enum k.Class = true
follows_enum k.Struct = true
follows_enum k.OpenBracket = true
follows_enum k.Colon = true
follows_enum k.OpenBrace = true
follows_enum _ = false

-- and behind its name
abbrev pub follows_enum_name : Class → Bool
follows_enum_name k.Colon = true
follows_enum_name k.Semicolon = true
follows_enum_name k.OpenBrace = true
follows_enum_name _ = false

-- label
abbrev pub starts_label : Class → Bool
starts_label k.Case = true
starts_label k.Default = true
starts_label _ = false

-- a statement that a word or a mark begins
abbrev pub starts_other_stmt : Class → Bool
starts_other_stmt k.OpenBrace = true
starts_other_stmt k.Semicolon = true
starts_other_stmt k.If = true
starts_other_stmt k.While = true
starts_other_stmt k.Do = true
starts_other_stmt k.For = true
starts_other_stmt k.Switch = true
starts_other_stmt k.Break = true
starts_other_stmt k.Continue = true
starts_other_stmt k.Return = true
starts_other_stmt _ = false

-- a statement behind its attributes
abbrev pub starts_stmt_kind : Class → Bool
starts_stmt_kind c = starts_other_stmt c || starts_assign c

-- item
abbrev pub starts_item : Class → Bool
starts_item c = starts_stmt_kind c || (starts_specs c || (just k.OpenBracket c || (just k.StaticAssert c || (just k.Using c || just k.Typedef c))))

-- what stands in the braces of a `switch`
abbrev pub starts_switch_item : Class → Bool
starts_switch_item c = starts_label c || starts_item c
