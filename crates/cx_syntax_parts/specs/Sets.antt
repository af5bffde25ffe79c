-- Sets of classes of tokens.
use Rattle.std.specs.Prelude.{Bool, true, false}
use Rattle.cx_syntax.specs.declared.class.Class.{Class}
use Rattle.cx_syntax.specs.declared.class.Class.TheVariants as k

-- any token but a bracket or END ([dcl.attr.grammar])
abbrev pub is_plain : Class → Bool
is_plain k.OpenParen = false
is_plain k.CloseParen = false
is_plain k.OpenBracket = false
is_plain k.CloseBracket = false
is_plain k.OpenBrace = false
is_plain k.CloseBrace = false
is_plain k.End = false
is_plain _ = true

-- what a token or a group of an attribute begins with
abbrev pub starts_soup : Class → Bool
starts_soup k.CloseParen = false
starts_soup k.CloseBracket = false
starts_soup k.CloseBrace = false
starts_soup k.End = false
starts_soup _ = true

-- behind the `enum` of a scoped enumeration ([dcl.enum])
abbrev pub is_enum_key : Class → Bool
is_enum_key k.Class = true
is_enum_key k.Struct = true
is_enum_key _ = false

-- what may stand between `=` and `;` at the end of a function's declaration ([dcl.fct.def.general], [class.abstract])
abbrev pub is_tail_word : Class → Bool
is_tail_word k.Default = true
is_tail_word k.Delete = true
is_tail_word k.Zero = true
is_tail_word _ = false

-- `override` and `final`, be they names of types or not ([class.virtual])
abbrev pub is_virtual : Class → Bool
is_virtual k.OverrideType = true
is_virtual k.OverrideIdent = true
is_virtual k.FinalType = true
is_virtual k.FinalIdent = true
is_virtual _ = false

-- [class.access]
abbrev pub is_access : Class → Bool
is_access k.Public = true
is_access k.Protected = true
is_access k.Private = true
is_access _ = false

-- what a tail begins with
abbrev pub starts_tail : Class → Bool
starts_tail k.Semicolon = true
starts_tail k.Equal = true
starts_tail _ = false
