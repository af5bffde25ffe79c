-- The token that ends every list is in no spelling and no front of one.
use Rattle.std.proofs.Common.{ℕ, zero, suc, refl}
use Rattle.cx_grammar.specs.Language.{Language}
use Rattle.cx_grammar.specs.Sets.{of}
use Rattle.cx_grammar.proofs.Plain.{plain_the, plain_both, plain_as, plain_or, plain_maybe, plain_many, plain_measured, plain_absent, plain_there}
use Rattle.cx_syntax.specs.declared.class.Class.TheVariants as k
use Rattle.cx_syntax.specs.declared.lexeme.Lexeme.{Lexeme}
use Rattle.cx_syntax.specs.Classes.{class_at, same_class}
use Rattle.cx_syntax.specs.Sets.{is_type, is_id, is_string}
use Rattle.cx_syntax.specs.Values.{ident_of, text_of}
use Rattle.cx_syntax.specs.Grammar.{deeper}
use Rattle.cx_syntax.proofs.Endless.{Endless, ended, not_end, endless_pick, endless_the, before, behind, endless_specs, endless_typeid, endless_cond, endless_below}
use Rattle.cx_syntax_parts.specs.Sets.{is_plain, is_enum_key, is_tail_word, is_virtual, is_access}
use Rattle.cx_syntax_parts.specs.Values.{no_levels, tail_of, virtual_of, access_of}
use Rattle.cx_syntax_parts.specs.Grammar as g

-- ---- words

pub endless_tail : Endless g.tail
unfolding same_class
endless_tail = plain_or (plain_as _ (endless_the k.Semicolon refl)) (before k.Equal refl (behind k.Semicolon refl (endless_pick is_tail_word tail_of refl)))

pub endless_virt : Endless g.virt
unfolding same_class
endless_virt = plain_many (endless_pick is_virtual virtual_of refl)

pub endless_access : Endless g.access
unfolding same_class
endless_access = endless_pick is_access access_of refl

pub endless_pieces : Endless g.pieces
unfolding same_class
endless_pieces = let piece = endless_pick is_string text_of refl in plain_as _ (plain_both piece (plain_many piece))

pub endless_base : Endless g.enum_base
unfolding same_class
endless_base = before k.Colon refl endless_specs

-- ---- attributes

module _ (d : Language Lexeme ℕ) (e : Endless d) where
  pub endless_soup_over : Endless (g.soup_over d)
  unfolding same_class
  endless_soup_over = plain_or (endless_pick is_plain no_levels refl) (plain_or (before k.OpenParen refl (behind k.CloseParen refl (plain_as _ (plain_many e))))
      (plain_or (before k.OpenBracket refl (behind k.CloseBracket refl (plain_as _ (plain_many e)))) (before k.OpenBrace refl (behind k.CloseBrace refl (plain_as _ (plain_many e))))))

pub endless_deeper_soup : (n : ℕ) → Endless (g.deeper_soup n)
endless_deeper_soup zero = plain_absent ended
endless_deeper_soup (suc n) = plain_there (plain_as suc (endless_soup_over (g.deeper_soup n) (endless_deeper_soup n)))

module _ (n : ℕ) where
  pub endless_soups : Endless (g.several (g.soup n))
  endless_soups = plain_as _ (plain_many (endless_soup_over (g.deeper_soup n) (endless_deeper_soup n)))

  pub endless_attrs : Endless (g.attrs n)
  unfolding same_class
  endless_attrs = plain_as _ (plain_many (before k.OpenBracket refl (before k.OpenBracket refl (behind k.CloseBracket refl (behind k.CloseBracket refl endless_soups)))))

  pub endless_noex : Endless (g.noex n)
  unfolding same_class
  endless_noex = plain_as _ (plain_maybe (before k.Noexcept refl (plain_maybe (before k.OpenParen refl (behind k.CloseParen refl endless_soups)))))

  -- ---- declarations

  pub endless_assert : Endless (g.assert n)
  unfolding same_class
  endless_assert = plain_as _ (plain_measured _ (plain_both (before k.StaticAssert refl (before k.OpenParen refl (endless_cond (deeper n) (endless_below n))))
      (behind k.Semicolon refl (behind k.CloseParen refl (plain_maybe (before k.Comma refl endless_pieces))))))

  pub endless_alias : Endless (g.alias n)
  unfolding same_class
  endless_alias = plain_as _ (plain_measured _ (plain_both (before k.Using refl (endless_pick is_type ident_of refl))
      (plain_both endless_attrs (before k.Equal refl (behind k.Semicolon refl (endless_typeid (deeper n) (endless_below n)))))))

  pub endless_enumr : Endless (g.enumr n)
  unfolding same_class
  endless_enumr = plain_as _ (plain_measured _ (plain_both (endless_pick is_id ident_of refl) (plain_both endless_attrs (plain_maybe (before k.Equal refl (endless_cond (deeper n) (endless_below n)))))))

  pub endless_enums : Endless (g.enums n)
  unfolding same_class
  endless_enums = plain_as _ (before k.OpenBrace refl (behind k.CloseBrace refl (plain_maybe (plain_as _ (plain_both endless_enumr (plain_as _ (plain_both (plain_many (before k.Comma refl endless_enumr)) (plain_maybe (endless_the k.Comma refl)))))))))

  pub endless_enum_end : Endless (g.enum_end n)
  unfolding same_class
  endless_enum_end = plain_or (plain_as _ (endless_the k.Semicolon refl)) (plain_as _ (behind k.Semicolon refl endless_enums))

  pub endless_enum : Endless (g.enum n)
  unfolding same_class
  endless_enum = plain_as _ (plain_measured _ (plain_or
      (plain_as _ (before k.Enum refl (plain_both (plain_maybe (plain_the (of class_at is_enum_key) (not_end is_enum_key refl))) (plain_both endless_attrs (plain_both (endless_pick is_type ident_of refl) (plain_both (plain_maybe endless_base) endless_enum_end))))))
      (plain_as _ (before k.Enum refl (plain_both endless_attrs (plain_both (plain_maybe endless_base) (behind k.Semicolon refl endless_enums)))))))
