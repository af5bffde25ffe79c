-- Sets of classes of tokens.
use Rattle.std.specs.Prelude.{Bool, true, false, not, ◌&&◌}
use Rattle.cx_syntax.specs.declared.class.Class.{Class}
use Rattle.cx_syntax.specs.declared.class.Class.TheVariants as k
use Rattle.cx_syntax.specs.Sets.{is_id, starts_typed}

-- what a type begins with where a name may be declared: all but an ID
abbrev pub leads_type : Class → Bool
leads_type c = starts_typed c && not (is_id c)

-- what an initializer begins with ([dcl.init])
abbrev pub starts_init : Class → Bool
starts_init k.Equal = true
starts_init k.OpenBrace = true
starts_init k.OpenParen = true
starts_init _ = false

-- what a declarator of a variable begins with: `*`, `&` or its name ([dcl.decl])
abbrev pub starts_var : Class → Bool
starts_var k.Star = true
starts_var k.Amp = true
starts_var k.Ident = true
starts_var k.FinalIdent = true
starts_var k.OverrideIdent = true
starts_var _ = false

-- what a parameter, and a local variable, begins with: `[` of an attribute, or specifiers ([dcl.fct])
abbrev pub starts_param : Class → Bool
starts_param k.OpenBracket = true
starts_param k.Constexpr = true
starts_param k.Consteval = true
starts_param k.Constinit = true
starts_param k.Inline = true
starts_param k.Static = true
starts_param k.Extern = true
starts_param k.Virtual = true
starts_param k.Explicit = true
starts_param k.Const = true
starts_param k.Void = true
starts_param k.Bool = true
starts_param k.Char = true
starts_param k.Short = true
starts_param k.Int = true
starts_param k.Long = true
starts_param k.Signed = true
starts_param k.Unsigned = true
starts_param k.Auto = true
starts_param k.Struct = true
starts_param k.Class = true
starts_param k.Union = true
starts_param k.Enum = true
starts_param k.TypeName = true
starts_param k.FinalType = true
starts_param k.OverrideType = true
starts_param k.Ident = true
starts_param k.FinalIdent = true
starts_param k.OverrideIdent = true
starts_param k.ColonColon = true
starts_param _ = false
