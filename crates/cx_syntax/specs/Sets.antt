-- Sets of classes of tokens.
use Rattle.std.specs.Prelude.{ℕ, zero, suc, Bool, true, false, ◌&&◌, not}
use Rattle.cx_syntax.specs.declared.class.Class.{Class}
use Rattle.cx_syntax.specs.declared.class.Class.TheVariants as k

-- ---- names, words and operators

-- TYPE
abbrev pub is_type : Class → Bool
is_type k.TypeName = true
is_type k.FinalType = true
is_type k.OverrideType = true
is_type _ = false

-- ID
abbrev pub is_id : Class → Bool
is_id k.Ident = true
is_id k.FinalIdent = true
is_id k.OverrideIdent = true
is_id _ = false

-- name = ID | TYPE
abbrev pub is_name : Class → Bool
is_name k.TypeName = true
is_name k.FinalType = true
is_name k.OverrideType = true
is_name k.Ident = true
is_name k.FinalIdent = true
is_name k.OverrideIdent = true
is_name _ = false

-- mod ([dcl.spec])
abbrev pub is_modifier : Class → Bool
is_modifier k.Constexpr = true
is_modifier k.Consteval = true
is_modifier k.Constinit = true
is_modifier k.Inline = true
is_modifier k.Static = true
is_modifier k.Extern = true
is_modifier k.Virtual = true
is_modifier k.Explicit = true
is_modifier k.Const = true
is_modifier _ = false

-- word ([dcl.type.simple])
abbrev pub is_word : Class → Bool
is_word k.Void = true
is_word k.Bool = true
is_word k.Char = true
is_word k.Short = true
is_word k.Int = true
is_word k.Long = true
is_word k.Signed = true
is_word k.Unsigned = true
is_word k.Auto = true
is_word _ = false

-- mod | word
abbrev pub is_modifier_or_word : Class → Bool
is_modifier_or_word k.Constexpr = true
is_modifier_or_word k.Consteval = true
is_modifier_or_word k.Constinit = true
is_modifier_or_word k.Inline = true
is_modifier_or_word k.Static = true
is_modifier_or_word k.Extern = true
is_modifier_or_word k.Virtual = true
is_modifier_or_word k.Explicit = true
is_modifier_or_word k.Const = true
is_modifier_or_word k.Void = true
is_modifier_or_word k.Bool = true
is_modifier_or_word k.Char = true
is_modifier_or_word k.Short = true
is_modifier_or_word k.Int = true
is_modifier_or_word k.Long = true
is_modifier_or_word k.Signed = true
is_modifier_or_word k.Unsigned = true
is_modifier_or_word k.Auto = true
is_modifier_or_word _ = false

-- key | "enum" ([dcl.type.elab])
abbrev pub is_elaboration : Class → Bool
is_elaboration k.Struct = true
is_elaboration k.Class = true
is_elaboration k.Union = true
is_elaboration k.Enum = true
is_elaboration _ = false

-- ++ -- ([expr.post.incr], [expr.pre.incr])
abbrev pub is_step : Class → Bool
is_step k.PlusPlus = true
is_step k.MinusMinus = true
is_step _ = false

-- an operator before its operand ([expr.unary.op], [expr.pre.incr])
abbrev pub is_prefix : Class → Bool
is_prefix k.PlusPlus = true
is_prefix k.MinusMinus = true
is_prefix k.Star = true
is_prefix k.Amp = true
is_prefix k.Plus = true
is_prefix k.Minus = true
is_prefix k.Not = true
is_prefix k.Tilde = true
is_prefix _ = false

-- what a primary expression of one token is: a number, a character, or one of four words
abbrev pub is_literal : Class → Bool
is_literal k.Number = true
is_literal k.Zero = true
is_literal k.CharLiteral = true
is_literal k.True = true
is_literal k.False = true
is_literal k.Nullptr = true
is_literal k.This = true
is_literal _ = false

-- the word of a named cast
abbrev pub is_cast_word : Class → Bool
is_cast_word k.StaticCast = true
is_cast_word k.ConstCast = true
is_cast_word k.ReinterpretCast = true
is_cast_word _ = false

-- what a member stands behind
abbrev pub is_reach : Class → Bool
is_reach k.Dot = true
is_reach k.Arrow = true
is_reach _ = false

-- asgop ([expr.ass])
abbrev pub is_assignment : Class → Bool
is_assignment k.Equal = true
is_assignment k.PlusEqual = true
is_assignment k.MinusEqual = true
is_assignment k.StarEqual = true
is_assignment k.SlashEqual = true
is_assignment k.PercentEqual = true
is_assignment k.ShiftLeftEqual = true
is_assignment k.ShiftRightEqual = true
is_assignment k.AmpEqual = true
is_assignment k.CaretEqual = true
is_assignment k.PipeEqual = true
is_assignment _ = false

-- the operators of a level: Star Slash Percent
abbrev pub is_multiplying : Class → Bool
is_multiplying k.Star = true
is_multiplying k.Slash = true
is_multiplying k.Percent = true
is_multiplying _ = false

-- the operators of a level: Plus Minus
abbrev pub is_adding : Class → Bool
is_adding k.Plus = true
is_adding k.Minus = true
is_adding _ = false

-- the operators of a level: ShiftLeft ShiftRight
abbrev pub is_shifting : Class → Bool
is_shifting k.ShiftLeft = true
is_shifting k.ShiftRight = true
is_shifting _ = false

-- the operators of a level: Less Greater LessEqual GreaterEqual
abbrev pub is_comparing : Class → Bool
is_comparing k.Less = true
is_comparing k.Greater = true
is_comparing k.LessEqual = true
is_comparing k.GreaterEqual = true
is_comparing _ = false

-- the operators of a level: EqualEqual NotEqual
abbrev pub is_equating : Class → Bool
is_equating k.EqualEqual = true
is_equating k.NotEqual = true
is_equating _ = false

-- the operators of a level: Amp
abbrev pub is_bit_and : Class → Bool
is_bit_and k.Amp = true
is_bit_and _ = false

-- the operators of a level: Caret
abbrev pub is_bit_xor : Class → Bool
is_bit_xor k.Caret = true
is_bit_xor _ = false

-- the operators of a level: Pipe
abbrev pub is_bit_or : Class → Bool
is_bit_or k.Pipe = true
is_bit_or _ = false

-- the operators of a level: AmpAmp
abbrev pub is_logical_and : Class → Bool
is_logical_and k.AmpAmp = true
is_logical_and _ = false

-- the operators of a level: PipePipe
abbrev pub is_logical_or : Class → Bool
is_logical_or k.PipePipe = true
is_logical_or _ = false

-- none
abbrev pub is_no_operator : Class → Bool
is_no_operator _ = false

-- the operators of a level, tightest first
abbrev pub operators : ℕ → Class → Bool
operators zero = is_multiplying
operators (suc zero) = is_adding
operators (suc (suc zero)) = is_shifting
operators (suc (suc (suc zero))) = is_comparing
operators (suc (suc (suc (suc zero)))) = is_equating
operators (suc (suc (suc (suc (suc zero))))) = is_bit_and
operators (suc (suc (suc (suc (suc (suc zero)))))) = is_bit_xor
operators (suc (suc (suc (suc (suc (suc (suc zero))))))) = is_bit_or
operators (suc (suc (suc (suc (suc (suc (suc (suc zero)))))))) = is_logical_and
operators (suc (suc (suc (suc (suc (suc (suc (suc (suc zero))))))))) = is_logical_or
operators (suc (suc (suc (suc (suc (suc (suc (suc (suc (suc n)))))))))) = is_no_operator

-- the operators that do not follow the type of a `new`
abbrev pub is_after_new : Class → Bool
is_after_new k.Star = true
is_after_new k.Amp = true
is_after_new k.AmpAmp = true
is_after_new _ = false

-- those of a level that may follow an operand, given whether it ends in the type of a `new`
abbrev pub allowed : ℕ → Bool → Class → Bool
allowed p open_new c = operators p c && not (open_new && is_after_new c)

-- an operator of one token that a function may be named by ([over.oper])
abbrev pub is_single_operator : Class → Bool
is_single_operator k.Arrow = true
is_single_operator k.Tilde = true
is_single_operator k.Not = true
is_single_operator k.PlusPlus = true
is_single_operator k.MinusMinus = true
is_single_operator k.Star = true
is_single_operator k.Slash = true
is_single_operator k.Percent = true
is_single_operator k.Plus = true
is_single_operator k.Minus = true
is_single_operator k.ShiftLeft = true
is_single_operator k.ShiftRight = true
is_single_operator k.Less = true
is_single_operator k.Greater = true
is_single_operator k.LessEqual = true
is_single_operator k.GreaterEqual = true
is_single_operator k.EqualEqual = true
is_single_operator k.NotEqual = true
is_single_operator k.Amp = true
is_single_operator k.Caret = true
is_single_operator k.Pipe = true
is_single_operator k.Equal = true
is_single_operator k.PlusEqual = true
is_single_operator k.MinusEqual = true
is_single_operator k.StarEqual = true
is_single_operator k.SlashEqual = true
is_single_operator k.PercentEqual = true
is_single_operator k.ShiftLeftEqual = true
is_single_operator k.ShiftRightEqual = true
is_single_operator k.AmpEqual = true
is_single_operator k.CaretEqual = true
is_single_operator k.PipeEqual = true
is_single_operator _ = false

-- ---- what a symbol begins with

-- qtype, and "::"? fname but for `operator`
abbrev pub starts_name : Class → Bool
starts_name k.TypeName = true
starts_name k.FinalType = true
starts_name k.OverrideType = true
starts_name k.Ident = true
starts_name k.FinalIdent = true
starts_name k.OverrideIdent = true
starts_name k.ColonColon = true
starts_name _ = false

-- the end of an fname
abbrev pub starts_last : Class → Bool
starts_last k.Ident = true
starts_last k.FinalIdent = true
starts_last k.OverrideIdent = true
starts_last k.Operator = true
starts_last _ = false

-- fname
abbrev pub starts_fname : Class → Bool
starts_fname k.TypeName = true
starts_fname k.FinalType = true
starts_fname k.OverrideType = true
starts_fname k.Ident = true
starts_fname k.FinalIdent = true
starts_fname k.OverrideIdent = true
starts_fname k.Operator = true
starts_fname _ = false

-- named
abbrev pub starts_named : Class → Bool
starts_named k.Struct = true
starts_named k.Class = true
starts_named k.Union = true
starts_named k.Enum = true
starts_named k.TypeName = true
starts_named k.FinalType = true
starts_named k.OverrideType = true
starts_named k.Ident = true
starts_named k.FinalIdent = true
starts_named k.OverrideIdent = true
starts_named k.ColonColon = true
starts_named _ = false

-- the type among specs
abbrev pub starts_typed : Class → Bool
starts_typed k.Void = true
starts_typed k.Bool = true
starts_typed k.Char = true
starts_typed k.Short = true
starts_typed k.Int = true
starts_typed k.Long = true
starts_typed k.Signed = true
starts_typed k.Unsigned = true
starts_typed k.Auto = true
starts_typed k.Struct = true
starts_typed k.Class = true
starts_typed k.Union = true
starts_typed k.Enum = true
starts_typed k.TypeName = true
starts_typed k.FinalType = true
starts_typed k.OverrideType = true
starts_typed k.Ident = true
starts_typed k.FinalIdent = true
starts_typed k.OverrideIdent = true
starts_typed k.ColonColon = true
starts_typed _ = false

-- specs
abbrev pub starts_specs : Class → Bool
starts_specs k.Constexpr = true
starts_specs k.Consteval = true
starts_specs k.Constinit = true
starts_specs k.Inline = true
starts_specs k.Static = true
starts_specs k.Extern = true
starts_specs k.Virtual = true
starts_specs k.Explicit = true
starts_specs k.Const = true
starts_specs k.Void = true
starts_specs k.Bool = true
starts_specs k.Char = true
starts_specs k.Short = true
starts_specs k.Int = true
starts_specs k.Long = true
starts_specs k.Signed = true
starts_specs k.Unsigned = true
starts_specs k.Auto = true
starts_specs k.Struct = true
starts_specs k.Class = true
starts_specs k.Union = true
starts_specs k.Enum = true
starts_specs k.TypeName = true
starts_specs k.FinalType = true
starts_specs k.OverrideType = true
starts_specs k.Ident = true
starts_specs k.FinalIdent = true
starts_specs k.OverrideIdent = true
starts_specs k.ColonColon = true
starts_specs _ = false

-- "(" args? ")" | braces
abbrev pub starts_given : Class → Bool
starts_given k.OpenParen = true
starts_given k.OpenBrace = true
starts_given _ = false

-- more
abbrev pub starts_more : Class → Bool
starts_more k.OpenBracket = true
starts_more k.OpenParen = true
starts_more k.PlusPlus = true
starts_more k.MinusMinus = true
starts_more k.Dot = true
starts_more k.Arrow = true
starts_more _ = false

-- "::"? fname
abbrev pub starts_id_expression : Class → Bool
starts_id_expression k.TypeName = true
starts_id_expression k.FinalType = true
starts_id_expression k.OverrideType = true
starts_id_expression k.Ident = true
starts_id_expression k.FinalIdent = true
starts_id_expression k.OverrideIdent = true
starts_id_expression k.ColonColon = true
starts_id_expression k.Operator = true
starts_id_expression _ = false

-- head, and so postfix
abbrev pub starts_head : Class → Bool
starts_head k.Number = true
starts_head k.Zero = true
starts_head k.CharLiteral = true
starts_head k.True = true
starts_head k.False = true
starts_head k.Nullptr = true
starts_head k.This = true
starts_head k.StrLiteral = true
starts_head k.OpenParen = true
starts_head k.TypeName = true
starts_head k.FinalType = true
starts_head k.OverrideType = true
starts_head k.Ident = true
starts_head k.FinalIdent = true
starts_head k.OverrideIdent = true
starts_head k.ColonColon = true
starts_head k.Operator = true
starts_head k.Void = true
starts_head k.Bool = true
starts_head k.Char = true
starts_head k.Short = true
starts_head k.Int = true
starts_head k.Long = true
starts_head k.Signed = true
starts_head k.Unsigned = true
starts_head k.Auto = true
starts_head k.StaticCast = true
starts_head k.ConstCast = true
starts_head k.ReinterpretCast = true
starts_head _ = false

-- unary, and so cast, chain and cond
abbrev pub starts_unary : Class → Bool
starts_unary k.Number = true
starts_unary k.Zero = true
starts_unary k.CharLiteral = true
starts_unary k.True = true
starts_unary k.False = true
starts_unary k.Nullptr = true
starts_unary k.This = true
starts_unary k.StrLiteral = true
starts_unary k.OpenParen = true
starts_unary k.TypeName = true
starts_unary k.FinalType = true
starts_unary k.OverrideType = true
starts_unary k.Ident = true
starts_unary k.FinalIdent = true
starts_unary k.OverrideIdent = true
starts_unary k.ColonColon = true
starts_unary k.Operator = true
starts_unary k.Void = true
starts_unary k.Bool = true
starts_unary k.Char = true
starts_unary k.Short = true
starts_unary k.Int = true
starts_unary k.Long = true
starts_unary k.Signed = true
starts_unary k.Unsigned = true
starts_unary k.Auto = true
starts_unary k.StaticCast = true
starts_unary k.ConstCast = true
starts_unary k.ReinterpretCast = true
starts_unary k.Sizeof = true
starts_unary k.Alignof = true
starts_unary k.PlusPlus = true
starts_unary k.MinusMinus = true
starts_unary k.Star = true
starts_unary k.Amp = true
starts_unary k.Plus = true
starts_unary k.Minus = true
starts_unary k.Not = true
starts_unary k.Tilde = true
starts_unary k.Delete = true
starts_unary k.New = true
starts_unary _ = false

-- assign, and so expr
abbrev pub starts_assign : Class → Bool
starts_assign k.Number = true
starts_assign k.Zero = true
starts_assign k.CharLiteral = true
starts_assign k.True = true
starts_assign k.False = true
starts_assign k.Nullptr = true
starts_assign k.This = true
starts_assign k.StrLiteral = true
starts_assign k.OpenParen = true
starts_assign k.TypeName = true
starts_assign k.FinalType = true
starts_assign k.OverrideType = true
starts_assign k.Ident = true
starts_assign k.FinalIdent = true
starts_assign k.OverrideIdent = true
starts_assign k.ColonColon = true
starts_assign k.Operator = true
starts_assign k.Void = true
starts_assign k.Bool = true
starts_assign k.Char = true
starts_assign k.Short = true
starts_assign k.Int = true
starts_assign k.Long = true
starts_assign k.Signed = true
starts_assign k.Unsigned = true
starts_assign k.Auto = true
starts_assign k.StaticCast = true
starts_assign k.ConstCast = true
starts_assign k.ReinterpretCast = true
starts_assign k.Sizeof = true
starts_assign k.Alignof = true
starts_assign k.PlusPlus = true
starts_assign k.MinusMinus = true
starts_assign k.Star = true
starts_assign k.Amp = true
starts_assign k.Plus = true
starts_assign k.Minus = true
starts_assign k.Not = true
starts_assign k.Tilde = true
starts_assign k.Delete = true
starts_assign k.New = true
starts_assign k.Throw = true
starts_assign _ = false

-- clause
abbrev pub starts_clause : Class → Bool
starts_clause k.Number = true
starts_clause k.Zero = true
starts_clause k.CharLiteral = true
starts_clause k.True = true
starts_clause k.False = true
starts_clause k.Nullptr = true
starts_clause k.This = true
starts_clause k.StrLiteral = true
starts_clause k.OpenParen = true
starts_clause k.TypeName = true
starts_clause k.FinalType = true
starts_clause k.OverrideType = true
starts_clause k.Ident = true
starts_clause k.FinalIdent = true
starts_clause k.OverrideIdent = true
starts_clause k.ColonColon = true
starts_clause k.Operator = true
starts_clause k.Void = true
starts_clause k.Bool = true
starts_clause k.Char = true
starts_clause k.Short = true
starts_clause k.Int = true
starts_clause k.Long = true
starts_clause k.Signed = true
starts_clause k.Unsigned = true
starts_clause k.Auto = true
starts_clause k.StaticCast = true
starts_clause k.ConstCast = true
starts_clause k.ReinterpretCast = true
starts_clause k.Sizeof = true
starts_clause k.Alignof = true
starts_clause k.PlusPlus = true
starts_clause k.MinusMinus = true
starts_clause k.Star = true
starts_clause k.Amp = true
starts_clause k.Plus = true
starts_clause k.Minus = true
starts_clause k.Not = true
starts_clause k.Tilde = true
starts_clause k.Delete = true
starts_clause k.New = true
starts_clause k.Throw = true
starts_clause k.OpenBrace = true
starts_clause _ = false

-- what stands behind the chain of an assign
abbrev pub starts_tail : Class → Bool
starts_tail k.Equal = true
starts_tail k.PlusEqual = true
starts_tail k.MinusEqual = true
starts_tail k.StarEqual = true
starts_tail k.SlashEqual = true
starts_tail k.PercentEqual = true
starts_tail k.ShiftLeftEqual = true
starts_tail k.ShiftRightEqual = true
starts_tail k.AmpEqual = true
starts_tail k.CaretEqual = true
starts_tail k.PipeEqual = true
starts_tail k.Question = true
starts_tail _ = false

-- what only a type begins with
abbrev pub begins_type : Class → Bool
begins_type k.Constexpr = true
begins_type k.Consteval = true
begins_type k.Constinit = true
begins_type k.Inline = true
begins_type k.Static = true
begins_type k.Extern = true
begins_type k.Virtual = true
begins_type k.Explicit = true
begins_type k.Const = true
begins_type k.Struct = true
begins_type k.Class = true
begins_type k.Union = true
begins_type k.Enum = true
begins_type _ = false

-- STR
abbrev pub is_string : Class → Bool
is_string k.StrLiteral = true
is_string _ = false

-- what may stand behind a name that is an expression in parentheses
abbrev pub follows_name : Class → Bool
follows_name k.OpenBracket = true
follows_name k.OpenParen = true
follows_name k.PlusPlus = true
follows_name k.MinusMinus = true
follows_name k.Dot = true
follows_name k.Arrow = true
follows_name k.Star = true
follows_name k.Slash = true
follows_name k.Percent = true
follows_name k.Plus = true
follows_name k.Minus = true
follows_name k.ShiftLeft = true
follows_name k.ShiftRight = true
follows_name k.Less = true
follows_name k.Greater = true
follows_name k.LessEqual = true
follows_name k.GreaterEqual = true
follows_name k.EqualEqual = true
follows_name k.NotEqual = true
follows_name k.Amp = true
follows_name k.Caret = true
follows_name k.Pipe = true
follows_name k.AmpAmp = true
follows_name k.PipePipe = true
follows_name k.Equal = true
follows_name k.PlusEqual = true
follows_name k.MinusEqual = true
follows_name k.StarEqual = true
follows_name k.SlashEqual = true
follows_name k.PercentEqual = true
follows_name k.ShiftLeftEqual = true
follows_name k.ShiftRightEqual = true
follows_name k.AmpEqual = true
follows_name k.CaretEqual = true
follows_name k.PipeEqual = true
follows_name k.Question = true
follows_name k.Comma = true
follows_name k.CloseParen = true
follows_name _ = false

-- the word `operator`
abbrev pub is_operator_word : Class → Bool
is_operator_word k.Operator = true
is_operator_word _ = false
