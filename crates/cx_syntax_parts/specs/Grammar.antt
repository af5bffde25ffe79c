-- The grammar of attributes and of the declarations without statements ([dcl.attr], [dcl.pre], [dcl.typedef], [dcl.enum]): one line for each alternative.
-- Each symbol is given at the number of levels that are left where it stands.
use Rattle.std.specs.Prelude.{ℕ, zero, suc, List, Option, Some, None}
use Rattle.cx_tree.specs.declared.specifiers.Specs.{Specs}
use Rattle.cx_tree.specs.declared.exprs.Expr.{Expr}
use Rattle.cx_tree.specs.declared.decls.Access.{Access}
use Rattle.cx_tree.specs.declared.decls.Alias.{Alias}
use Rattle.cx_tree.specs.declared.decls.Assert.{Assert}
use Rattle.cx_tree.specs.declared.decls.Enumeration.{Enumeration}
use Rattle.cx_tree.specs.declared.decls.EnumerationKind.{EnumerationKind}
use Rattle.cx_tree.specs.declared.decls.Enumerator.{Enumerator}
use Rattle.cx_tree.specs.declared.decls.Tail.{Tail}
use Rattle.cx_tree.specs.declared.decls.Tail.TheVariants as ends
use Rattle.cx_tree.specs.declared.decls.Virtual.{Virtual}
use Rattle.cx_syntax.specs.declared.class.Class.TheVariants as k
use Rattle.cx_syntax.specs.declared.lexeme.Lexeme.{Lexeme}
use Rattle.cx_grammar.specs.Language.{Language, one, the, ◌>>◌, ◌<$>◌, ◌∥◌, ◌⊳◌, ◌⊲◌, maybe, many, trailed, measured, joined, absent, there}
use Rattle.cx_grammar.specs.Sets.{of}
use Rattle.cx_levels.specs.Levels.{greatest}
use Rattle.cx_syntax.specs.Classes.{class_at, is}
use Rattle.cx_syntax.specs.Sets.{is_string}
use Rattle.cx_syntax.specs.Values.{pick, span_of, text_of, or_none}
use Rattle.cx_syntax.specs.Grammar as g
use Rattle.cx_syntax.specs.Grammar.{id, type_only, specs}
use Rattle.cx_syntax_parts.specs.Sets.{is_plain, is_enum_key, is_tail_word, is_virtual, is_access}
use Rattle.cx_syntax_parts.specs.Values.{no_levels, noexcept_levels, assert_of, alias_of, enumerator_of, named_enum_of, unnamed_enum_of, enumeration_of, tail_of, virtual_of, access_of}

-- ---- attributes ([dcl.attr.grammar]) and `noexcept` ([except.spec])

-- any number of them, of which the deepest counts
abbrev pub several : Language Lexeme ℕ → Language Lexeme ℕ
several g = greatest <$> many g

-- over the soup one level deeper
module _ (deeper_soup : Language Lexeme ℕ) where
  -- soup = any token but a bracket or END | "(" soup^* ")" | "[" soup^* "]" | "{" soup^* "}"
  abbrev pub soup_over : Language Lexeme ℕ
  soup_over = one (pick is_plain no_levels)
      ∥ (is k.OpenParen ⊳ several deeper_soup ⊲ is k.CloseParen)
      ∥ (is k.OpenBracket ⊳ several deeper_soup ⊲ is k.CloseBracket)
      ∥ (is k.OpenBrace ⊳ several deeper_soup ⊲ is k.CloseBrace)

-- the soup one level deeper, with so many levels left; it counts one more
abbrev pub deeper_soup : ℕ → Language Lexeme ℕ
deeper_soup zero = absent
deeper_soup (suc n) = there (suc <$> soup_over (deeper_soup n))

-- ---- words

-- tail = ";" | "=" ("default" | "delete" | "0") ";"
abbrev pub tail : Language Lexeme Tail
tail = ((λ _. ends.Plain) <$> the (is k.Semicolon)) ∥ (is k.Equal ⊳ one (pick is_tail_word tail_of) ⊲ is k.Semicolon)

-- virt = ("override" | "final")*
abbrev pub virt : Language Lexeme (List Virtual)
virt = many (one (pick is_virtual virtual_of))

-- access = "public" | "protected" | "private"
abbrev pub access : Language Lexeme Access
access = one (pick is_access access_of)

-- STR+
abbrev pub pieces : Language Lexeme (List (List ℕ))
pieces = joined <$> (one (pick is_string text_of) >> many (one (pick is_string text_of)))

-- ":" specs
abbrev pub enum_base : Language Lexeme Specs
enum_base = is k.Colon ⊳ specs

module _ (n : ℕ) where
  abbrev pub soup : Language Lexeme ℕ
  soup = soup_over (deeper_soup n)

  -- "[" "[" soup* "]" "]"
  abbrev pub attribute : Language Lexeme ℕ
  attribute = is k.OpenBracket ⊳ is k.OpenBracket ⊳ several soup ⊲ is k.CloseBracket ⊲ is k.CloseBracket

  -- attrs = ("[" "[" soup* "]" "]")*
  abbrev pub attrs : Language Lexeme ℕ
  attrs = several attribute

  -- noex = ("noexcept" ("(" soup* ")")?)?
  abbrev pub noex : Language Lexeme ℕ
  noex = noexcept_levels <$> maybe (is k.Noexcept ⊳ maybe (is k.OpenParen ⊳ several soup ⊲ is k.CloseParen))

  -- ---- declarations

  abbrev cond : Language Lexeme Expr
  cond = g.cond (g.deeper n)

  -- assert = "static_assert" "(" cond ("," STR+)? ")" ";"
  abbrev pub assert : Language Lexeme Assert
  assert = assert_of <$> measured span_of (is k.StaticAssert ⊳ is k.OpenParen ⊳ cond >> maybe (is k.Comma ⊳ pieces) ⊲ is k.CloseParen ⊲ is k.Semicolon)

  -- alias = "using" TYPE attrs "=" typeid ";"
  abbrev pub alias : Language Lexeme Alias
  alias = alias_of <$> measured span_of (is k.Using ⊳ type_only >> attrs >> is k.Equal ⊳ g.typeid (g.deeper n) ⊲ is k.Semicolon)

  -- enumr = ID attrs ("=" cond)?
  abbrev pub enumr : Language Lexeme Enumerator
  enumr = enumerator_of <$> measured span_of (id >> attrs >> maybe (is k.Equal ⊳ cond))

  -- enums = "{" (enumr ("," enumr)* ","?)? "}"
  abbrev pub enums : Language Lexeme (List Enumerator)
  enums = or_none <$> (is k.OpenBrace ⊳ maybe (trailed (is k.Comma) enumr) ⊲ is k.CloseBrace)

  -- ";" | enums ";"
  abbrev pub enum_end : Language Lexeme (Option (List Enumerator))
  enum_end = ((λ _. None) <$> the (is k.Semicolon)) ∥ (Some <$> (enums ⊲ is k.Semicolon))

  -- "enum" ("class" | "struct")? attrs TYPE (":" specs)? (";" | enums ";")
  abbrev pub named_enum : Language Lexeme (ℕ × EnumerationKind)
  named_enum = named_enum_of <$> (is k.Enum ⊳ (maybe (the (of class_at is_enum_key)) >> attrs >> type_only >> maybe enum_base >> enum_end))

  -- "enum" attrs (":" specs)? enums ";"
  abbrev pub unnamed_enum : Language Lexeme (ℕ × EnumerationKind)
  unnamed_enum = unnamed_enum_of <$> (is k.Enum ⊳ (attrs >> maybe enum_base >> enums ⊲ is k.Semicolon))

  -- enum = "enum" ("class" | "struct")? attrs TYPE (":" specs)? (";" | enums ";") | "enum" attrs (":" specs)? enums ";"
  abbrev pub enum : Language Lexeme Enumeration
  enum = enumeration_of <$> measured span_of (named_enum ∥ unnamed_enum)
