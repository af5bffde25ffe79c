-- The specifiers of a declaration beside its type ([dcl.spec]).
use Rattle.std.specs.Prelude.{Bool, true, false, List, [], ◌∷◌}
use Rattle.cx_tree.specs.declared.specifiers.Modifier.{Modifier}
use Rattle.cx_tree.specs.declared.specifiers.ModifierWord.{ModifierWord}
use Rattle.cx_tree.specs.declared.specifiers.ModifierWord.TheVariants as modifier
use Rattle.cx_tree.specs.declared.specifiers.Specs.{Specs}
use Rattle.cx_tree.specs.declared.specifiers.SpecsType.{SpecsType}
use Rattle.cx_tree.specs.declared.specifiers.SpecsType.TheVariants as specs
use Rattle.cx_tree.specs.declared.specifiers.WordOrModifier.{WordOrModifier}
use Rattle.cx_tree.specs.declared.specifiers.WordOrModifier.TheVariants as part
use Rattle.cx_decls.specs.declared.specifiers.Specifiers.{Specifiers}
use Rattle.cx_decls.specs.declared.specifiers.Times.{Times}
use Rattle.cx_decls.specs.declared.specifiers.Times.TheVariants as times

abbrev pub again : Times → Times
again times.Never = times.Once
again _ = times.Twice

abbrev pub with_word : ModifierWord → Specifiers → Specifiers
with_word modifier.Constexpr s = record s { constexpr = again s.constexpr }
with_word modifier.Const s = record s { konst = again s.konst }
with_word _ s = record s { others = true }

abbrev pub with_words : Specifiers → List Modifier → Specifiers
with_words s [] = s
with_words s (m ∷ ms) = with_words (with_word m.word s) ms

abbrev pub with_part : Specifiers → WordOrModifier → Specifiers
with_part s (part.Word t) = s
with_part s (part.Modifier m) = with_word m.word s

abbrev pub with_parts : Specifiers → List WordOrModifier → Specifiers
with_parts s [] = s
with_parts s (p ∷ ps) = with_parts (with_part s p) ps

abbrev pub type_specifiers : Specifiers → SpecsType → Specifiers
type_specifiers s specs.Missing = s
type_specifiers s (specs.Words t ps) = with_parts s ps
type_specifiers s (specs.Named n ms) = with_words s ms

abbrev pub no_specifiers : Specifiers
no_specifiers = record { constexpr = times.Never; konst = times.Never; others = false }

-- before the type and behind its first word
abbrev pub specifiers : Specs → Specifiers
specifiers s = type_specifiers (with_words no_specifiers s.modifiers) s.ty

abbrev pub stands : Times → Bool
stands times.Never = false
stands _ = true

abbrev pub stands_twice : Times → Bool
stands_twice times.Twice = true
stands_twice _ = false
