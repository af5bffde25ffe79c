-- Each symbol has a spelling, and each of its fronts goes on to one at the same number of levels.
use Rattle.std.proofs.Common.{◌≡◌, ℕ, zero, suc, true, refl}
use Rattle.cx_grammar.specs.Language.{Language}
use Rattle.cx_grammar.specs.Sets.{of}
use Rattle.cx_syntax.specs.declared.class.Class.TheVariants as k
use Rattle.cx_syntax.specs.declared.lexeme.Lexeme.{Lexeme}
use Rattle.cx_syntax.specs.Classes.{class_at, same_class}
use Rattle.cx_syntax.specs.Sets.{is_type, is_id, is_string}
use Rattle.cx_syntax.specs.Values.{ident_of, text_of}
use Rattle.cx_syntax.specs.Grammar.{deeper}
use Rattle.cx_syntax.proofs.Continued.{Viable, viable_the, viable_both, viable_as, viable_or, viable_maybe, viable_many, viable_measured, viable_absent, viable_there}
use Rattle.cx_syntax.proofs.Viable.{sample, some_pick, some_the, before, behind, viable_specs, viable_typeid, viable_cond, viable_below}
use Rattle.cx_syntax_parts.specs.Sets.{is_plain, is_enum_key, is_tail_word, is_virtual, is_access}
use Rattle.cx_syntax_parts.specs.Values.{no_levels, tail_of, virtual_of, access_of}
use Rattle.cx_syntax_parts.specs.Grammar as g

-- ---- words

pub viable_tail : Viable g.tail
unfolding same_class
viable_tail = viable_or (viable_as _ (some_the k.Semicolon refl)) (before k.Equal refl (behind k.Semicolon refl (some_pick is_tail_word tail_of k.Default refl)))

pub viable_virt : Viable g.virt
viable_virt = viable_many (some_pick is_virtual virtual_of k.FinalIdent refl)

pub viable_access : Viable g.access
viable_access = some_pick is_access access_of k.Public refl

pub viable_pieces : Viable g.pieces
viable_pieces = let piece = some_pick is_string text_of k.StrLiteral refl in viable_as _ (viable_both piece (viable_many piece))

pub viable_base : Viable g.enum_base
unfolding same_class
viable_base = before k.Colon refl viable_specs

-- ---- attributes

module _ (d : Language Lexeme ℕ) (e : Viable d) where
  pub viable_soup_over : Viable (g.soup_over d)
  unfolding same_class
  viable_soup_over = viable_or (some_pick is_plain no_levels k.Comma refl) (viable_or (before k.OpenParen refl (behind k.CloseParen refl (viable_as _ (viable_many e))))
      (viable_or (before k.OpenBracket refl (behind k.CloseBracket refl (viable_as _ (viable_many e)))) (before k.OpenBrace refl (behind k.CloseBrace refl (viable_as _ (viable_many e))))))

pub viable_deeper_soup : (n : ℕ) → Viable (g.deeper_soup n)
viable_deeper_soup zero = viable_absent
viable_deeper_soup (suc n) = viable_there refl (viable_as suc (viable_soup_over (g.deeper_soup n) (viable_deeper_soup n)))

module _ (n : ℕ) where
  pub viable_soups : Viable (g.several (g.soup n))
  viable_soups = viable_as _ (viable_many (viable_soup_over (g.deeper_soup n) (viable_deeper_soup n)))

  pub viable_attribute : Viable (g.attribute n)
  unfolding same_class
  viable_attribute = before k.OpenBracket refl (before k.OpenBracket refl (behind k.CloseBracket refl (behind k.CloseBracket refl viable_soups)))

  pub viable_attrs : Viable (g.attrs n)
  viable_attrs = viable_as _ (viable_many viable_attribute)

  pub viable_noex : Viable (g.noex n)
  unfolding same_class
  viable_noex = viable_as _ (viable_maybe (before k.Noexcept refl (viable_maybe (before k.OpenParen refl (behind k.CloseParen refl viable_soups)))))

  -- ---- declarations

  pub viable_assert : Viable (g.assert n)
  unfolding same_class
  viable_assert = viable_as _ (viable_measured _ (viable_both (before k.StaticAssert refl (before k.OpenParen refl (viable_cond (deeper n) (viable_below n))))
      (behind k.Semicolon refl (behind k.CloseParen refl (viable_maybe (before k.Comma refl viable_pieces))))))

  pub viable_alias : Viable (g.alias n)
  unfolding same_class
  viable_alias = viable_as _ (viable_measured _ (viable_both (before k.Using refl (some_pick is_type ident_of k.TypeName refl))
      (viable_both viable_attrs (before k.Equal refl (behind k.Semicolon refl (viable_typeid (deeper n) (viable_below n)))))))

  pub viable_enumr : Viable (g.enumr n)
  unfolding same_class
  viable_enumr = viable_as _ (viable_measured _ (viable_both (some_pick is_id ident_of k.Ident refl) (viable_both viable_attrs (viable_maybe (before k.Equal refl (viable_cond (deeper n) (viable_below n)))))))

  pub viable_enums : Viable (g.enums n)
  unfolding same_class
  viable_enums = viable_as _ (before k.OpenBrace refl (behind k.CloseBrace refl (viable_maybe (viable_as _ (viable_both viable_enumr (viable_as _ (viable_both (viable_many (before k.Comma refl viable_enumr)) (viable_maybe (some_the k.Comma refl)))))))))

  pub viable_enum_end : Viable (g.enum_end n)
  unfolding same_class
  viable_enum_end = viable_or (viable_as _ (some_the k.Semicolon refl)) (viable_as _ (behind k.Semicolon refl viable_enums))

  pub viable_enum : Viable (g.enum n)
  unfolding same_class
  viable_enum = viable_as _ (viable_measured _ (viable_or
      (viable_as _ (before k.Enum refl (viable_both (viable_maybe (viable_the (of class_at is_enum_key) (sample k.Class) refl)) (viable_both viable_attrs (viable_both (some_pick is_type ident_of k.TypeName refl) (viable_both (viable_maybe viable_base) viable_enum_end))))))
      (viable_as _ (before k.Enum refl (viable_both viable_attrs (viable_both (viable_maybe viable_base) (behind k.Semicolon refl viable_enums)))))))

-- ---- levels

pub assert_stays : (n : ℕ) → (g.assert n).stays ≡ true
assert_stays zero = refl
assert_stays (suc n) = refl
