-- Sets of classes of tokens.
use Rattle.std.specs.Prelude.{Bool, true, false, ◌||◌}
use Rattle.cx_syntax.specs.declared.class.Class.{Class}
use Rattle.cx_syntax.specs.declared.class.Class.TheVariants as k
use Rattle.cx_syntax.specs.Readers.{just}
use Rattle.cx_syntax.specs.Sets.{begins_type, is_elaboration, is_type, is_word, starts_specs}
use Rattle.cx_syntax_parts.specs.Sets.{is_access}

-- key ([class.pre])
abbrev pub is_key : Class → Bool
is_key k.Struct = true
is_key k.Class = true
is_key k.Union = true
is_key _ = false

-- `final`, be it a type's name or not ([class.pre])
abbrev pub is_final : Class → Bool
is_final k.FinalType = true
is_final k.FinalIdent = true
is_final _ = false

-- ---- what tells alternatives apart

-- what only a type begins with behind modifiers: a word, a key, `enum` or `::`
abbrev pub leads_typed : Class → Bool
leads_typed c = is_word c || (is_elaboration c || just k.ColonColon c)

-- what stands behind `(` only where parameters do
abbrev pub begins_params : Class → Bool
begins_params c = just k.CloseParen c || (just k.OpenBracket c || (is_word c || begins_type c))

-- what a declarator's name begins with in a function alone
abbrev pub begins_qualified : Class → Bool
begins_qualified c = is_type c || just k.Operator c

-- behind a class's name and perhaps `final`: bases or members
abbrev pub begins_class_body : Class → Bool
begins_class_body k.Colon = true
begins_class_body k.OpenBrace = true
begins_class_body _ = false

-- directly behind a class's name: `;`, bases or members
abbrev pub begins_class_end : Class → Bool
begins_class_end c = just k.Semicolon c || begins_class_body c

-- ---- what a symbol begins with

-- entity: attributes or specs
abbrev pub starts_entity : Class → Bool
starts_entity c = just k.OpenBracket c || starts_specs c

-- ctor, dtor or entity
abbrev pub starts_function : Class → Bool
starts_function c = just k.Tilde c || starts_entity c

abbrev pub starts_member : Class → Bool
starts_member c = is_access c || (just k.Semicolon c || (just k.StaticAssert c || (just k.Using c || (just k.Typedef c || starts_function c))))

abbrev pub starts_decl : Class → Bool
starts_decl c = just k.Semicolon c || (just k.Namespace c || (just k.StaticAssert c || (just k.Using c || (just k.Typedef c || starts_entity c))))
