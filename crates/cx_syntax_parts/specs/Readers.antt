-- The readers of the rules: each has the name of its language, and chooses by the tokens ahead and then by the level.
use Rattle.std.specs.Prelude.{ℕ, zero, suc, Bool, true, false, List, Option, Some, None}
use Rattle.cx_tree.specs.declared.names.Ident.{Ident}
use Rattle.cx_tree.specs.declared.specifiers.Specs.{Specs}
use Rattle.cx_tree.specs.declared.exprs.Expr.{Expr}
use Rattle.cx_tree.specs.declared.exprs.TypeId.{TypeId}
use Rattle.cx_tree.specs.declared.decls.Access.{Access}
use Rattle.cx_tree.specs.declared.decls.Alias.{Alias}
use Rattle.cx_tree.specs.declared.decls.Assert.{Assert}
use Rattle.cx_tree.specs.declared.decls.Enumeration.{Enumeration}
use Rattle.cx_tree.specs.declared.decls.EnumerationKind.{EnumerationKind}
use Rattle.cx_tree.specs.declared.decls.Enumerator.{Enumerator}
use Rattle.cx_tree.specs.declared.decls.Tail.{Tail}
use Rattle.cx_tree.specs.declared.decls.Tail.TheVariants as ends
use Rattle.cx_tree.specs.declared.decls.Virtual.{Virtual}
use Rattle.cx_syntax.specs.declared.class.Class.{Class}
use Rattle.cx_syntax.specs.declared.class.Class.TheVariants as k
use Rattle.cx_syntax.specs.declared.lexeme.Lexeme.{Lexeme}
use Rattle.cx_grammar.specs.Language.{joined}
use Rattle.cx_grammar.specs.Sets.{of}
use Rattle.cx_grammar.specs.Reading.{Reader, token, the, refuse, guarded, many_of, maybe_if, trailed_by, measured_by, ◌>>◌, ◌<$>◌, ◌⊳◌, ◌⊲◌}
use Rattle.cx_levels.specs.Levels.{greatest}
use Rattle.cx_syntax.specs.Classes.{class_at, is}
use Rattle.cx_syntax.specs.Sets.{is_type, is_id, is_string}
use Rattle.cx_syntax.specs.Values.{pick, span_of, text_of, or_none}
use Rattle.cx_syntax.specs.Readers as r
use Rattle.cx_syntax.specs.Readers.{choose, just, id, type_only, specs}
use Rattle.cx_syntax_parts.specs.Sets.{is_plain, starts_soup, is_enum_key, is_tail_word, is_virtual, is_access}
use Rattle.cx_syntax_parts.specs.Values.{no_levels, noexcept_levels, assert_of, alias_of, enumerator_of, Named, named_of, scoped_enum_of, unnamed_of, enumeration_of, tail_of, virtual_of, access_of}

-- ---- attributes and `noexcept`

-- any number of them, of which the deepest counts
abbrev pub several : (Lexeme → Bool) → Reader Lexeme ℕ → Reader Lexeme ℕ
several p r = greatest <$> many_of p r

-- the soup one level deeper
pub record Soups : Type 0 where
  -- there is such a level
  pub room : Bool
  pub soup : Reader Lexeme ℕ

module _ (d : Soups) where
  abbrev pub soups_below : Reader Lexeme ℕ
  soups_below = several (of class_at starts_soup) (guarded d.room d.soup)

  -- soup between two tokens
  abbrev pub group : Class → Class → Reader Lexeme ℕ
  group open_class close_class = is open_class ⊳ soups_below ⊲ is close_class

  unfoldable pub soup_over : Reader Lexeme ℕ
  soup_over = choose is_plain (token (pick is_plain no_levels))
      (choose (just k.OpenParen) (group k.OpenParen k.CloseParen)
      (choose (just k.OpenBracket) (group k.OpenBracket k.CloseBracket)
      (group k.OpenBrace k.CloseBrace)))

-- with so many levels left
unfoldable pub deeper_soup : ℕ → Soups
deeper_soup zero = record { room = false; soup = refuse }
deeper_soup (suc n) = record { room = true; soup = suc <$> soup_over (deeper_soup n) }

-- ---- words

unfoldable pub tail : Reader Lexeme Tail
tail = choose (just k.Semicolon) ((λ _. ends.Plain) <$> the (is k.Semicolon)) (is k.Equal ⊳ token (pick is_tail_word tail_of) ⊲ is k.Semicolon)

abbrev pub virtual : Reader Lexeme Virtual
virtual = token (pick is_virtual virtual_of)

unfoldable pub virt : Reader Lexeme (List Virtual)
virt = many_of (of class_at is_virtual) virtual

abbrev pub access : Reader Lexeme Access
access = token (pick is_access access_of)

abbrev pub piece : Reader Lexeme (List ℕ)
piece = token (pick is_string text_of)

unfoldable pub pieces : Reader Lexeme (List (List ℕ))
pieces = joined <$> (piece >> many_of (of class_at is_string) piece)

-- (":" specs)?
abbrev pub enum_base : Reader Lexeme (Option Specs)
enum_base = maybe_if (is k.Colon) (is k.Colon ⊳ specs)

module _ (n : ℕ) where
  abbrev pub soup : Reader Lexeme ℕ
  soup = soup_over (deeper_soup n)

  abbrev pub soups : Reader Lexeme ℕ
  soups = several (of class_at starts_soup) soup

  unfoldable pub attribute : Reader Lexeme ℕ
  attribute = is k.OpenBracket ⊳ is k.OpenBracket ⊳ soups ⊲ is k.CloseBracket ⊲ is k.CloseBracket

  unfoldable pub attrs : Reader Lexeme ℕ
  attrs = several (is k.OpenBracket) attribute

  -- ("(" soup* ")")?
  abbrev pub noex_soups : Reader Lexeme (Option ℕ)
  noex_soups = maybe_if (is k.OpenParen) (is k.OpenParen ⊳ soups ⊲ is k.CloseParen)

  unfoldable pub noex : Reader Lexeme ℕ
  noex = noexcept_levels <$> maybe_if (is k.Noexcept) (is k.Noexcept ⊳ noex_soups)

  -- ---- declarations

  abbrev pub cond : Reader Lexeme Expr
  cond = r.cond (r.deeper n)

  -- ("," STR+)?
  abbrev pub message : Reader Lexeme (Option (List (List ℕ)))
  message = maybe_if (is k.Comma) (is k.Comma ⊳ pieces)

  unfoldable pub assert : Reader Lexeme Assert
  assert = assert_of <$> measured_by span_of (is k.StaticAssert ⊳ is k.OpenParen ⊳ cond >> message ⊲ is k.CloseParen ⊲ is k.Semicolon)

  abbrev pub alias_parts : Reader Lexeme (Ident × (ℕ × TypeId))
  alias_parts = is k.Using ⊳ type_only >> attrs >> is k.Equal ⊳ r.typeid (r.deeper n) ⊲ is k.Semicolon

  unfoldable pub alias : Reader Lexeme Alias
  alias = alias_of <$> measured_by span_of alias_parts

  -- ("=" cond)?
  abbrev pub enumr_value : Reader Lexeme (Option Expr)
  enumr_value = maybe_if (is k.Equal) (is k.Equal ⊳ cond)

  abbrev pub enumr_rest : Reader Lexeme (ℕ × Option Expr)
  enumr_rest = attrs >> enumr_value

  unfoldable pub enumr : Reader Lexeme Enumerator
  enumr = enumerator_of <$> measured_by span_of (id >> enumr_rest)

  -- one enumerator and perhaps more
  abbrev pub enumrs : Reader Lexeme (List Enumerator)
  enumrs = trailed_by (is k.Comma) (of class_at is_id) enumr

  unfoldable pub enums : Reader Lexeme (List Enumerator)
  enums = or_none <$> (is k.OpenBrace ⊳ maybe_if (of class_at is_id) enumrs ⊲ is k.CloseBrace)

  unfoldable pub enum_end : Reader Lexeme (Option (List Enumerator))
  enum_end = choose (just k.Semicolon) ((λ _. None) <$> the (is k.Semicolon)) (Some <$> (enums ⊲ is k.Semicolon))

  -- behind the attributes of an enumeration with a name
  unfoldable pub named : Reader Lexeme Named
  named = type_only >> enum_base >> enum_end

  -- and of one without
  unfoldable pub unnamed : Reader Lexeme (Option Specs × List Enumerator)
  unnamed = enum_base >> enums ⊲ is k.Semicolon

  -- behind `enum class` and `enum struct`
  unfoldable pub scoped_enum : Reader Lexeme (ℕ × EnumerationKind)
  scoped_enum = scoped_enum_of <$> (of class_at is_enum_key ⊳ (attrs >> named))

  -- behind the attributes of another enumeration
  unfoldable pub unscoped_kind : Reader Lexeme EnumerationKind
  unscoped_kind = choose is_type (named_of false <$> named) (unnamed_of <$> unnamed)

  -- behind `enum`
  unfoldable pub enum_kind : Reader Lexeme (ℕ × EnumerationKind)
  enum_kind = choose is_enum_key scoped_enum (attrs >> unscoped_kind)

  unfoldable pub enum : Reader Lexeme Enumeration
  enum = enumeration_of <$> measured_by span_of (is k.Enum ⊳ enum_kind)
