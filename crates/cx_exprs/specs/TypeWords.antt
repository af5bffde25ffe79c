-- Integer types as they are written ([dcl.type.simple], [dcl.type.cv]).
use Rattle.std.specs.Prelude.{ℕ, suc, Bool, true, false, ◌==◌, ◌||◌, not, length, List, [], ◌∷◌, Option, None, Some, option_and_then}
use Rattle.cx_base.specs.declared.int_type.IntType.{IntType}
use Rattle.cx_base.specs.declared.int_type.IntType.TheVariants as type
use Rattle.cx_base.specs.declared.rule.Rule.TheVariants as rule
use Rattle.cx_tree.specs.declared.specifiers.Modifier.{Modifier}
use Rattle.cx_tree.specs.declared.specifiers.ModifierWord.TheVariants as modifier
use Rattle.cx_tree.specs.declared.specifiers.Ptrs.{Ptrs}
use Rattle.cx_tree.specs.declared.specifiers.SimpleType.{SimpleType}
use Rattle.cx_tree.specs.declared.specifiers.Specs.{Specs}
use Rattle.cx_tree.specs.declared.specifiers.SpecsType.{SpecsType}
use Rattle.cx_tree.specs.declared.specifiers.SpecsType.TheVariants as specs
use Rattle.cx_tree.specs.declared.specifiers.TypeWord.{TypeWord}
use Rattle.cx_tree.specs.declared.specifiers.TypeWord.TheVariants as word
use Rattle.cx_tree.specs.declared.specifiers.WordOrModifier.{WordOrModifier}
use Rattle.cx_tree.specs.declared.specifiers.WordOrModifier.TheVariants as part
use Rattle.cx_plain.specs.Expressions.{Bounds, no_bounds, bound, TypeWritten, Written}
use Rattle.cx_exprs.specs.declared.words.Consts.{Consts}
use Rattle.cx_exprs.specs.declared.words.Consts.TheVariants as consts
use Rattle.cx_exprs.specs.declared.words.Core.{Core}
use Rattle.cx_exprs.specs.declared.words.Core.TheVariants as core
use Rattle.cx_exprs.specs.declared.words.Length.{Length}
use Rattle.cx_exprs.specs.declared.words.Length.TheVariants as len
use Rattle.cx_exprs.specs.declared.words.Named.{Named}
use Rattle.cx_exprs.specs.declared.words.Named.TheVariants as named
use Rattle.cx_exprs.specs.declared.words.Sign.{Sign}
use Rattle.cx_exprs.specs.declared.words.Sign.TheVariants as sign
use Rattle.cx_exprs.specs.declared.words.Words.{Words}
use Rattle.cx_exprs.specs.Typing.{Alternative, Typed, World, and_then, node}

-- ---- the words of a type, in any order

-- one of `void`, `bool`, `char`, `int` and `auto`, once
abbrev pub with_core : Core → Words → Option Words
with_core c w = elim w.core [ core.Missing ↦ Some (record w { core = c }) | _ ↦ None ]

-- `signed` or `unsigned`, once
abbrev pub with_sign : Sign → Words → Option Words
with_sign s w = elim w.sign [ sign.Missing ↦ Some (record w { sign = s }) | _ ↦ None ]

-- `short` once
abbrev pub with_short : Words → Option Words
with_short w = elim w.length [ len.Missing ↦ Some (record w { length = len.Short }) | _ ↦ None ]

-- `long` once or twice
abbrev pub with_long : Words → Option Words
with_long w = elim w.length [ len.Missing ↦ Some (record w { length = len.Long }) | len.Long ↦ Some (record w { length = len.LongLong }) | _ ↦ None ]

abbrev pub with_word : TypeWord → Words → Option Words
with_word word.Void w = with_core core.Void w
with_word word.Bool w = with_core core.Bool w
with_word word.Char w = with_core core.Char w
with_word word.Int w = with_core core.Int w
with_word word.Auto w = with_core core.Auto w
with_word word.Short w = with_short w
with_word word.Long w = with_long w
with_word word.Signed w = with_sign sign.Signed w
with_word word.Unsigned w = with_sign sign.Unsigned w

abbrev pub no_words : Words
no_words = record { core = core.Missing; sign = sign.Missing; length = len.Missing }

-- the types that are made of `int` or of no such word
abbrev pub int_named : Sign → Length → IntType
int_named sign.Unsigned len.Missing = type.UInt
int_named sign.Unsigned len.Short = type.UShort
int_named sign.Unsigned len.Long = type.ULong
int_named sign.Unsigned len.LongLong = type.ULongLong
int_named _ len.Missing = type.Int
int_named _ len.Short = type.Short
int_named _ len.Long = type.Long
int_named _ len.LongLong = type.LongLong

abbrev pub char_named : Sign → IntType
char_named sign.Missing = type.Char
char_named sign.Signed = type.SChar
char_named sign.Unsigned = type.UChar

-- what stands with no other word, and what stands with no length
abbrev pub alone : Named → Sign → Length → Named
alone n sign.Missing len.Missing = n
alone n _ _ = named.Nothing

abbrev pub char_type : Sign → Length → Named
char_type s len.Missing = named.Int (char_named s)
char_type s _ = named.Nothing

-- no word names no type
abbrev pub plain_int : Sign → Length → Named
plain_int sign.Missing len.Missing = named.Nothing
plain_int s l = named.Int (int_named s l)

-- what the words name ([dcl.type.simple])
abbrev pub named_by : Core → Sign → Length → Named
named_by core.Missing s l = plain_int s l
named_by core.Int s l = named.Int (int_named s l)
named_by core.Char s l = char_type s l
named_by core.Bool s l = alone (named.Int type.Bool) s l
named_by core.Void s l = alone named.Other s l
named_by core.Auto s l = alone named.Auto s l

abbrev pub named_words : Option Words → Named
named_words None = named.Nothing
named_words (Some w) = named_by w.core w.sign w.length

abbrev pub with_part : Option Words → WordOrModifier → Option Words
with_part w (part.Word t) = option_and_then (with_word t) w
with_part w (part.Modifier m) = w

abbrev pub with_parts : Option Words → List WordOrModifier → Option Words
with_parts w [] = w
with_parts w (p ∷ ps) = with_parts (with_part w p) ps

-- what the type among specifiers names; a name of a type isn't built
abbrev pub named_type : SpecsType → Named
named_type specs.Missing = named.Nothing
named_type (specs.Words t ps) = named_words (with_parts (with_word t no_words) ps)
named_type (specs.Named n ms) = named.Other

-- ---- `const`, once at most, and no other specifier

abbrev pub with_const : Consts → Consts
with_const consts.Missing = consts.Once
with_const _ = consts.Wrong

abbrev pub with_modifier : Consts → Modifier → Consts
with_modifier c m = elim m.word [ modifier.Const ↦ with_const c | _ ↦ consts.Wrong ]

abbrev pub with_modifiers : Consts → List Modifier → Consts
with_modifiers c [] = c
with_modifiers c (m ∷ ms) = with_modifiers (with_modifier c m) ms

abbrev pub modifier_in : Consts → WordOrModifier → Consts
modifier_in c (part.Word t) = c
modifier_in c (part.Modifier m) = with_modifier c m

abbrev pub modifiers_in : Consts → List WordOrModifier → Consts
modifiers_in c [] = c
modifiers_in c (p ∷ ps) = modifiers_in (modifier_in c p) ps

abbrev pub type_modifiers : Consts → SpecsType → Consts
type_modifiers c specs.Missing = c
type_modifiers c (specs.Words t ps) = modifiers_in c ps
type_modifiers c (specs.Named n ms) = with_modifiers c ms

abbrev pub consts_of : Specs → Consts
consts_of s = type_modifiers (with_modifiers consts.Missing s.modifiers) s.ty

-- ---- alternatives

abbrev pub is_no_type : Named → Bool
is_no_type named.Nothing = true
is_no_type named.Auto = true
is_no_type _ = false

abbrev pub is_other : Named → Bool
is_other named.Other = true
is_other _ = false

abbrev pub is_wrong : Consts → Bool
is_wrong consts.Wrong = true
is_wrong _ = false

abbrev pub int_in : Named → IntType
int_in (named.Int ty) = ty
int_in _ = type.Int

-- specifiers of a type without a name; `auto` isn't allowed there
abbrev pub specifiers : Named → Consts → Alternative IntType
specifiers n c = record {
  tests = (is_no_type n, rule.BadType) ∷ (is_wrong c, rule.BadSpecifier) ∷ (is_other n, rule.LeftOutForm) ∷ [];
  form = int_in n;
}

abbrev pub bounds_in : Bounds → ℕ
bounds_in no_bounds = 0
bounds_in (bound e at bs) = suc (bounds_in bs)

-- with stars, as a reference, or with so many bounds
abbrev pub is_decorated : Ptrs → ℕ → Bool
is_decorated p bounds = not (length p.stars == 0) || (p.is_reference || not (bounds == 0))

-- pointers, references and arrays aren't built
abbrev pub undecorated : Ptrs → Bounds → IntType → Alternative IntType
undecorated p bs ty = record { tests = (is_decorated p (bounds_in bs), rule.LeftOutForm) ∷ []; form = ty }

-- a type without a name ([dcl.name])
abbrev pub type_written : TypeWritten → World → Typed IntType
type_written (Written s p bs at) w = and_then (node s.span (specifiers (named_type s.ty) (consts_of s)) w) (λ ty w1. node at (undecorated p bs ty) w1)

-- a type of one word ([expr.type.conv])
abbrev pub word_type : SimpleType → World → Typed IntType
word_type t w = node t.span (specifiers (named_words (with_word t.word no_words)) consts.Missing) w
