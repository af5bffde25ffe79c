-- Attributes and the declarations without statements are spelled with those numbers of levels left that are as many as they go deep
-- ([dcl.attr], [dcl.pre], [dcl.enum], [implimits]): one line for each rule.
use Rattle.std.proofs.Common.{◌≡◌, ℕ, max, List, Option, Some, None, refl}
use Rattle.cx_tree.specs.declared.decls.EnumerationKind.{EnumerationKind}
use Rattle.cx_tree.specs.declared.decls.Enumerator.{Enumerator}
use Rattle.cx_levels.specs.Levels.{perhaps}
use Rattle.cx_levels.specs.StmtLevels.{levels_of_alias, levels_of_assert, levels_of_enumeration, levels_of_enumeration_kind, levels_of_enumerator}
use Rattle.cx_syntax.specs.declared.class.Class.TheVariants as k
use Rattle.cx_syntax.specs.Classes.{is}
use Rattle.cx_syntax.specs.Values.{or_none}
use Rattle.cx_syntax_parts.specs.Values.{assert_of, alias_of, enumerator_of, named_enum_of, unnamed_enum_of, enumeration_of}
use Rattle.cx_syntax_parts.specs.Grammar as g
use Rattle.cx_syntax_parts.proofs.Nested.{attrs_count, noex_count}
use Rattle.cx_level_law.proofs.Counted.{Counted, of_all, counted_flat, counted_as, counted_both, counted_first, counted_second, counted_before, counted_behind, counted_or, counted_maybe, counted_trailed}
use Rattle.cx_level_law.proofs.Exprs.{counted_placed, in_braces, below, cond_counted, typeid_counted}

-- attributes and `noexcept` have their own number
abbrev pub own : ℕ → ℕ
own levels = levels

abbrev pub levels_of_enumerators : List Enumerator → ℕ
levels_of_enumerators = of_all levels_of_enumerator

abbrev levels_of_enum_parts : ℕ × EnumerationKind → ℕ
levels_of_enum_parts u = max u.0 (levels_of_enumeration_kind u.1)

-- a list that may be left out
pub listed : {A : Type 0} (levels : A → ℕ) (o : Option (List A)) → of_all levels (or_none o) ≡ perhaps (of_all levels) o
listed levels None = refl
listed levels (Some vs) = refl

module _ (n m : ℕ) where
  pub attrs_counted : Counted own n m (g.attrs n) (g.attrs m)
  attrs_counted = record { within = λ ts v s. (attrs_count n m ts v s).0; again = λ ts v s l. (attrs_count n m ts v s).1 l }

  pub noex_counted : Counted own n m (g.noex n) (g.noex m)
  noex_counted = record { within = λ ts v s. (noex_count n m ts v s).0; again = λ ts v s l. (noex_count n m ts v s).1 l }

  pub assert_counted : Counted levels_of_assert n m (g.assert n) (g.assert m)
  assert_counted = counted_placed levels_of_assert assert_of (λ u. refl)
      (counted_first _ (counted_before (is k.StaticAssert) (counted_before (is k.OpenParen) (cond_counted (below n m)))))

  pub alias_counted : Counted levels_of_alias n m (g.alias n) (g.alias m)
  alias_counted = counted_placed levels_of_alias alias_of (λ u. refl) (counted_second _
      (counted_both attrs_counted (counted_before (is k.Equal) (counted_behind (is k.Semicolon) (typeid_counted (below n m))))))

  enumr_counted : Counted levels_of_enumerator n m (g.enumr n) (g.enumr m)
  enumr_counted = counted_placed levels_of_enumerator enumerator_of (λ u. refl) (counted_second _
      (counted_both attrs_counted (counted_maybe (counted_before (is k.Equal) (cond_counted (below n m))))))

  enums_counted : Counted levels_of_enumerators n m (g.enums n) (g.enums m)
  enums_counted = counted_as levels_of_enumerators or_none (listed levels_of_enumerator) (in_braces
      (counted_maybe (counted_trailed (is k.Comma) enumr_counted)))

  enum_end_counted : Counted (perhaps levels_of_enumerators) n m (g.enum_end n) (g.enum_end m)
  enum_end_counted = counted_or (counted_as (perhaps levels_of_enumerators) (λ _. None) (λ v. refl) (counted_flat _))
      (counted_as (perhaps levels_of_enumerators) Some (λ v. refl) (counted_behind (is k.Semicolon) enums_counted))

  named_enum_counted : Counted levels_of_enum_parts n m (g.named_enum n) (g.named_enum m)
  named_enum_counted = counted_as levels_of_enum_parts named_enum_of (λ u. refl) (counted_before (is k.Enum) (counted_second _
      (counted_both attrs_counted (counted_second _ (counted_second _ enum_end_counted)))))

  unnamed_enum_counted : Counted levels_of_enum_parts n m (g.unnamed_enum n) (g.unnamed_enum m)
  unnamed_enum_counted = counted_as levels_of_enum_parts unnamed_enum_of (λ u. refl) (counted_before (is k.Enum)
      (counted_both attrs_counted (counted_second _ (counted_behind (is k.Semicolon) enums_counted))))

  pub enum_counted : Counted levels_of_enumeration n m (g.enum n) (g.enum m)
  enum_counted = counted_placed levels_of_enumeration enumeration_of (λ u. refl) (counted_or named_enum_counted unnamed_enum_counted)
