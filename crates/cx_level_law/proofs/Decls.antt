-- Functions, classes, namespaces and units are spelled with those numbers of levels left that are as many as they go deep
-- ([dcl.fct], [class], [namespace.def], [basic.link], [implimits]): one line for each rule.
use Rattle.std.proofs.Common.{◌≡◌, ℕ, zero, suc, max, List, Option, Some, None, refl, ap}
use Rattle.cx_tree.specs.declared.decls.Body.TheVariants as bodies
use Rattle.cx_tree.specs.declared.decls.ConstructorBody.TheVariants as ends
use Rattle.cx_tree.specs.declared.decls.Decl.{Decl}
use Rattle.cx_tree.specs.declared.decls.DeclKind.TheVariants as d
use Rattle.cx_tree.specs.declared.decls.EntityKind.TheVariants as e
use Rattle.cx_tree.specs.declared.decls.Member.{Member}
use Rattle.cx_tree.specs.declared.decls.MemberInit.{MemberInit}
use Rattle.cx_tree.specs.declared.decls.MemberKind.TheVariants as mk
use Rattle.cx_tree.specs.declared.decls.Param.{Param}
use Rattle.cx_tree.specs.declared.names.FunctionName.{FunctionName}
use Rattle.cx_tree.specs.declared.specifiers.Modifier.{Modifier}
use Rattle.cx_tree.specs.declared.specifiers.Ptrs.{Ptrs}
use Rattle.cx_tree.specs.declared.stmts.Block.{Block}
use Rattle.cx_grammar.specs.Language.{Language}
use Rattle.cx_levels.specs.DeclLevels.{levels_of_base, levels_of_body, levels_of_class, levels_of_class_body, levels_of_constructor, levels_of_constructor_body, levels_of_decl, levels_of_decl_kind, levels_of_destructor, levels_of_entity, levels_of_entity_kind, levels_of_function, levels_of_member, levels_of_member_init, levels_of_member_kind, levels_of_namespace, levels_of_param, levels_of_unit}
use Rattle.cx_levels.specs.Levels.{perhaps}
use Rattle.cx_levels.specs.StmtLevels.{levels_of_block}
use Rattle.cx_syntax.specs.declared.class.Class.TheVariants as k
use Rattle.cx_syntax.specs.declared.lexeme.Lexeme.{Lexeme}
use Rattle.cx_syntax.specs.Classes.{is}
use Rattle.cx_syntax_decls.specs.Values.{function_of, FunctionEnd, entity_of, member_init_of, block_made_of, ConstructorEnd, constructor_of, DestructorEnd, destructor_of, member_of, base_of, body_of, class_of, namespace_of, decl_of, unit_of}
use Rattle.cx_syntax_decls.specs.Grammar as g
use Rattle.cx_syntax_decls.specs.Grammar.{final_class}
use Rattle.cx_level_law.proofs.Counted.{Counted, of_all, one_more, counted_flat, counted_as, counted_both, counted_first, counted_second, counted_before, counted_behind, counted_or, counted_maybe, counted_many, counted_separated, counted_unless, counted_absent, counted_last, counted_there}
use Rattle.cx_level_law.proofs.Exprs.{counted_placed, in_parens, in_braces, below, given_counted}
use Rattle.cx_level_law.proofs.Parts.{listed, attrs_counted, noex_counted, assert_counted, alias_counted, enum_counted}
use Rattle.cx_level_law.proofs.Vars.{vars_counted, params_counted}
use Rattle.cx_level_law.proofs.Stmts.{block_counted}
use Rattle.cx_level_law.proofs.DeclNodes.{member_levels, access_levels, empty_member_levels, assert_member_levels, alias_member_levels, typedef_member_levels, enum_member_levels, class_member_levels, constructor_levels, destructor_levels, entity_member_levels, class_body_levels, class_levels, decl_levels, empty_decl_levels, namespace_decl_levels, assert_decl_levels, alias_decl_levels, typedef_decl_levels, enum_decl_levels, class_decl_levels, entity_decl_levels, namespace_levels}

abbrev levels_of_params : Option (List Param) → ℕ
levels_of_params = perhaps (of_all levels_of_param)

-- what stands behind the parameters, and what of a constructor and of a destructor behind the modifiers
abbrev levels_of_end : FunctionEnd → ℕ
levels_of_end u = max u.1.0 (levels_of_body u.1.1.1)

abbrev levels_of_ctor_end : ConstructorEnd → ℕ
levels_of_ctor_end u = max (levels_of_params u.1.0) (max u.1.1.0 (levels_of_constructor_body u.1.1.1))

abbrev levels_of_dtor_end : DestructorEnd → ℕ
levels_of_dtor_end u = max u.1.0 (levels_of_body u.1.1.1)

function_levels : (u : Ptrs × (FunctionName × (Option (List Param) × FunctionEnd)))
    → levels_of_function (function_of u) ≡ max (levels_of_params u.1.1.0) (levels_of_end u.1.1.1)
function_levels u = ap (λ x. max x (levels_of_end u.1.1.1)) (listed levels_of_param u.1.1.0)

made_levels : (u : Option (List MemberInit) × Block)
    → levels_of_constructor_body (block_made_of u) ≡ max (perhaps (of_all levels_of_member_init) u.0) (levels_of_block u.1)
made_levels u = ap (λ x. max x (levels_of_block u.1)) (listed levels_of_member_init u.0)

ctor_levels : (u : ℕ × (List Modifier × ConstructorEnd)) → levels_of_constructor (constructor_of u) ≡ max u.0 (levels_of_ctor_end u.1.1)
ctor_levels u = ap (λ x. max u.0 (max x (max u.1.1.1.1.0 (levels_of_constructor_body u.1.1.1.1.1)))) (listed levels_of_param u.1.1.1.0)

module _ (n m : ℕ) where
  -- ---- functions and variables

  paren_params_counted : Counted levels_of_params n m (g.paren_params n) (g.paren_params m)
  paren_params_counted = in_parens (counted_maybe (params_counted n m))

  body_counted : Counted levels_of_body n m (g.body n) (g.body m)
  body_counted = counted_or (counted_as levels_of_body bodies.Tail (λ x. refl) (counted_flat _))
      (counted_as levels_of_body bodies.Block (λ x. refl) (block_counted n m))

  function_end_counted : Counted levels_of_end n m (g.function_end n) (g.function_end m)
  function_end_counted = counted_second _ (counted_both (noex_counted n m) (counted_second _ body_counted))

  function_counted : Counted levels_of_function n m (g.function n) (g.function m)
  function_counted = counted_as levels_of_function function_of function_levels
      (counted_second _ (counted_second _ (counted_both paren_params_counted function_end_counted)))

  entity_kind_counted : Counted levels_of_entity_kind n m (g.entity_kind n) (g.entity_kind m)
  entity_kind_counted = counted_or (counted_as levels_of_entity_kind e.Vars (λ x. refl) (counted_behind (is k.Semicolon) (vars_counted n m)))
      (counted_as levels_of_entity_kind e.Function (λ x. refl) function_counted)

  entity_counted : Counted levels_of_entity n m (g.entity n) (g.entity m)
  entity_counted = counted_unless final_class
      (counted_as levels_of_entity entity_of (λ u. refl) (counted_both (attrs_counted n m) (counted_second _ entity_kind_counted)))

  -- ---- special member functions

  minit_counted : Counted levels_of_member_init n m (g.minit n) (g.minit m)
  minit_counted = counted_placed levels_of_member_init member_init_of (λ u. refl) (counted_second _ (given_counted (below n m)))

  ctor_body_counted : Counted levels_of_constructor_body n m (g.ctor_body n) (g.ctor_body m)
  ctor_body_counted = counted_or (counted_as levels_of_constructor_body ends.Tail (λ x. refl) (counted_flat _))
      (counted_as levels_of_constructor_body block_made_of made_levels
      (counted_both (counted_maybe (counted_before (is k.Colon) (counted_separated (is k.Comma) minit_counted))) (block_counted n m)))

  ctor_end_counted : Counted levels_of_ctor_end n m (g.ctor_end n) (g.ctor_end m)
  ctor_end_counted = counted_second _ (counted_both paren_params_counted (counted_both (noex_counted n m) ctor_body_counted))

  ctor_counted : Counted levels_of_constructor n m (g.ctor n) (g.ctor m)
  ctor_counted = counted_as levels_of_constructor constructor_of ctor_levels (counted_both (attrs_counted n m) (counted_second _ ctor_end_counted))

  dtor_end_counted : Counted levels_of_dtor_end n m (g.dtor_end n) (g.dtor_end m)
  dtor_end_counted = counted_second _ (counted_both (noex_counted n m) (counted_second _ body_counted))

  dtor_counted : Counted levels_of_destructor n m (g.dtor n) (g.dtor m)
  dtor_counted = counted_as levels_of_destructor destructor_of (λ u. refl) (counted_both (attrs_counted n m) (counted_second _ dtor_end_counted))

  -- ---- classes

  base_counted : Counted levels_of_base n m (g.base n) (g.base m)
  base_counted = counted_placed levels_of_base base_of (λ u. refl) (counted_first _ (attrs_counted n m))

  bases_counted : Counted (of_all levels_of_base) n m (g.bases n) (g.bases m)
  bases_counted = counted_before (is k.Colon) (counted_separated (is k.Comma) base_counted)

  module _ {x y : Language Lexeme Member} (h : Counted (one_more levels_of_member) n m x y) where
    class_body_counted : Counted levels_of_class_body n m (g.class_body n x) (g.class_body m y)
    class_body_counted = counted_as levels_of_class_body body_of class_body_levels (counted_second _ (counted_both (counted_maybe bases_counted)
        (counted_before (is k.OpenBrace) (counted_behind (is k.Semicolon) (counted_behind (is k.CloseBrace) (counted_many h))))))

    class_end_counted : Counted (perhaps levels_of_class_body) n m (g.class_end n x) (g.class_end m y)
    class_end_counted = counted_or (counted_as (perhaps levels_of_class_body) (λ _. None) (λ v. refl) (counted_flat _))
        (counted_as (perhaps levels_of_class_body) Some (λ v. refl) class_body_counted)

    class_over_counted : Counted levels_of_class n m (g.class_over n x) (g.class_over m y)
    class_over_counted = counted_placed levels_of_class class_of class_levels
        (counted_second _ (counted_both (attrs_counted n m) (counted_second _ class_end_counted)))

    member_kind_counted : Counted levels_of_member_kind n m (g.member_kind n x) (g.member_kind m y)
    member_kind_counted = counted_or (counted_as levels_of_member_kind mk.Access access_levels (counted_flat _))
        (counted_or (counted_as levels_of_member_kind (λ _. mk.Empty) empty_member_levels (counted_flat _))
        (counted_or (counted_as levels_of_member_kind mk.Assert assert_member_levels (assert_counted n m))
        (counted_or (counted_as levels_of_member_kind mk.Alias alias_member_levels (alias_counted n m))
        (counted_or (counted_as levels_of_member_kind mk.Typedef typedef_member_levels (counted_flat _))
        (counted_or (counted_as levels_of_member_kind mk.Enum enum_member_levels (enum_counted n m))
        (counted_or (counted_as levels_of_member_kind mk.Class class_member_levels class_over_counted)
        (counted_or (counted_as levels_of_member_kind mk.Constructor constructor_levels ctor_counted)
        (counted_or (counted_as levels_of_member_kind mk.Destructor destructor_levels dtor_counted)
        (counted_as levels_of_member_kind mk.Entity entity_member_levels entity_counted)))))))))

    member_over_counted : Counted levels_of_member n m (g.member_over n x) (g.member_over m y)
    member_over_counted = counted_placed levels_of_member member_of member_levels member_kind_counted

members_below : (n m : ℕ) → Counted (one_more levels_of_member) n m (g.deeper_member n) (g.deeper_member m)
members_below zero m = counted_absent _ m (g.deeper_member m)
members_below (suc n) zero = counted_last (member_over_counted n 0 (members_below n 0))
members_below (suc n) (suc m) = counted_there (member_over_counted n m (members_below n m))

-- ---- namespaces, declarations and units

module _ (n m : ℕ) {x y : Language Lexeme Decl} (h : Counted (one_more levels_of_decl) n m x y) where
  space_over_counted : Counted levels_of_namespace n m (g.space_over n x) (g.space_over m y)
  space_over_counted =
      counted_as levels_of_namespace namespace_of namespace_levels (counted_both (counted_before (is k.Namespace) (attrs_counted n m))
      (counted_second _ (in_braces (counted_many h))))

  decl_kind_counted : Counted levels_of_decl_kind n m (g.decl_kind n x) (g.decl_kind m y)
  decl_kind_counted = counted_or (counted_as levels_of_decl_kind (λ _. d.Empty) empty_decl_levels (counted_flat _))
      (counted_or (counted_as levels_of_decl_kind d.Namespace namespace_decl_levels space_over_counted)
      (counted_or (counted_as levels_of_decl_kind d.Assert assert_decl_levels (assert_counted n m))
      (counted_or (counted_as levels_of_decl_kind d.Alias alias_decl_levels (alias_counted n m))
      (counted_or (counted_as levels_of_decl_kind d.Typedef typedef_decl_levels (counted_flat _))
      (counted_or (counted_as levels_of_decl_kind d.Enum enum_decl_levels (enum_counted n m))
      (counted_or (counted_as levels_of_decl_kind d.Class class_decl_levels (class_over_counted n m (members_below n m)))
      (counted_as levels_of_decl_kind d.Entity entity_decl_levels (entity_counted n m))))))))

  decl_over_counted : Counted levels_of_decl n m (g.decl_over n x) (g.decl_over m y)
  decl_over_counted = counted_placed levels_of_decl decl_of decl_levels decl_kind_counted

decls_below : (n m : ℕ) → Counted (one_more levels_of_decl) n m (g.deeper_decl n) (g.deeper_decl m)
decls_below zero m = counted_absent _ m (g.deeper_decl m)
decls_below (suc n) zero = counted_last (decl_over_counted n 0 (decls_below n 0))
decls_below (suc n) (suc m) = counted_there (decl_over_counted n m (decls_below n m))

pub unit_counted : (n m : ℕ) → Counted levels_of_unit n m (g.unit n) (g.unit m)
unit_counted n m =
    counted_as levels_of_unit unit_of (λ u. refl) (counted_behind (is k.End) (counted_many (decl_over_counted n m (decls_below n m))))
