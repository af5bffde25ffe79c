-- The token that ends every list is in no spelling and no front of one.
use Rattle.std.proofs.Common.{ℕ, zero, suc, refl}
use Rattle.cx_grammar.proofs.Plain.{plain_both, plain_as, plain_or, plain_maybe, plain_many, plain_unless, plain_measured, plain_with_tail, plain_absent, plain_there}
use Rattle.cx_syntax.specs.declared.class.Class.TheVariants as k
use Rattle.cx_syntax.specs.Classes.{same_class}
use Rattle.cx_syntax.specs.Grammar as e
use Rattle.cx_syntax.specs.Readers.{just}
use Rattle.cx_syntax.specs.Sets.{is_id}
use Rattle.cx_syntax.specs.Values.{ident_of}
use Rattle.cx_syntax.proofs.Endless.{Endless, ended, endless_pick, endless_the, before, behind, endless_specs, endless_ptrs, endless_expr, endless_cond, endless_braces, endless_below as exprs_below}
use Rattle.cx_syntax_parts.proofs.Endless.{endless_attrs, endless_assert, endless_alias, endless_enum}
use Rattle.cx_syntax_vars.proofs.Endless.{endless_typedef, endless_local, endless_bare_local}
use Rattle.cx_syntax_stmts.specs.Grammar as g
use Rattle.cx_syntax_stmts.specs.Values.{place_of}

module _ (n : ℕ) where
  endless_deep : Endless (e.deeper n).expr
  endless_deep = (exprs_below n).expr

  endless_whole : Endless (e.expr (e.deeper n))
  endless_whole = endless_expr (e.deeper n) (exprs_below n)

  endless_condition : Endless (g.condition n)
  unfolding same_class
  endless_condition = before k.OpenParen refl (behind k.CloseParen refl endless_deep)

  pub endless_label : Endless (g.label n)
  unfolding same_class
  endless_label = plain_as _ (plain_measured _ (plain_or (plain_as _ (before k.Case refl (behind k.Colon refl (endless_cond (e.deeper n) (exprs_below n))))) (plain_as _ (before k.Default refl (endless_the k.Colon refl)))))

  endless_expr_stmt : Endless (g.expr_stmt n)
  unfolding same_class
  endless_expr_stmt = plain_as _ (behind k.Semicolon refl (plain_unless _ endless_whole))

  endless_return : Endless (g.return_stmt n)
  unfolding same_class
  endless_return = plain_as _ (before k.Return refl (behind k.Semicolon refl (plain_maybe (plain_or (plain_as _ endless_whole) (plain_as _ (endless_braces (e.deeper n) (exprs_below n)))))))

  endless_for_head : Endless (g.for_head n)
  unfolding same_class
  endless_for_head = plain_or
      (plain_as _ (plain_both (plain_or (plain_as _ (endless_bare_local n)) (plain_as _ (behind k.Semicolon refl (plain_maybe (plain_unless _ endless_deep))))) (plain_both (behind k.Semicolon refl (plain_maybe endless_deep)) (plain_maybe endless_deep))))
      (plain_as _ (plain_both (plain_both endless_specs (plain_both endless_ptrs (endless_pick is_id ident_of refl))) (before k.Colon refl endless_deep)))

  -- over the symbols one level deeper
  module _ (d : g.Deeper) (stmt : Endless d.stmt) (item : Endless d.item) where
    pub block_over : Endless (g.block_with n d)
    unfolding same_class
    block_over = plain_as _ (plain_measured _ (plain_both (before k.OpenBrace refl (plain_many item)) (endless_pick (just k.CloseBrace) place_of refl)))

    endless_if : Endless (g.if_stmt n d)
    unfolding same_class
    endless_if = plain_as _ (plain_with_tail _ (plain_both (before k.If refl (plain_maybe (endless_the k.Constexpr refl))) (plain_both endless_condition stmt)) (before k.Else refl stmt))

    endless_switch : Endless (g.switch_stmt n d)
    unfolding same_class
    endless_switch = plain_as _ (plain_both (before k.Switch refl endless_condition) (before k.OpenBrace refl (behind k.CloseBrace refl (plain_many (plain_or (plain_as _ endless_label) (plain_as _ item))))))

    endless_kind : Endless (g.stmt_kind n d)
    unfolding same_class
    endless_kind = plain_or (plain_as _ block_over) (plain_or (plain_as _ (endless_the k.Semicolon refl)) (plain_or endless_if
        (plain_or (plain_as _ (plain_both (endless_pick (just k.While) place_of refl) (plain_both endless_condition stmt)))
        (plain_or (plain_as _ (plain_both (endless_pick (just k.Do) place_of refl) (plain_both stmt (before k.While refl (behind k.Semicolon refl endless_condition)))))
        (plain_or (plain_as _ (plain_both (plain_both (endless_pick (just k.For) place_of refl) (before k.OpenParen refl (behind k.CloseParen refl endless_for_head))) stmt))
        (plain_or endless_switch
        (plain_or (plain_as _ (behind k.Semicolon refl (endless_pick (just k.Break) place_of refl)))
        (plain_or (plain_as _ (behind k.Semicolon refl (endless_pick (just k.Continue) place_of refl)))
        (plain_or endless_return endless_expr_stmt)))))))))

    pub stmt_over : Endless (g.stmt_with n d)
    stmt_over = plain_as _ (plain_measured _ (plain_both (endless_attrs n) endless_kind))

    pub item_over : Endless (g.item_with n d)
    item_over = plain_or (plain_as _ (endless_assert n)) (plain_or (plain_as _ (endless_alias n)) (plain_or (plain_as _ endless_typedef) (plain_or (plain_as _ (endless_enum n)) (plain_or (plain_as _ stmt_over) (plain_as _ (endless_local n))))))

pub record EndlessBelow (d : g.Deeper) : Type 0 where
  pub stmt : Endless d.stmt
  pub item : Endless d.item

pub endless_below : (n : ℕ) → EndlessBelow (g.deeper n)
endless_below zero = record { stmt = plain_absent ended; item = plain_absent ended }
endless_below (suc n) = let b = endless_below n in record { stmt = plain_there (stmt_over n (g.deeper n) b.stmt b.item); item = plain_there (item_over n (g.deeper n) b.stmt b.item) }

pub endless_stmt : (n : ℕ) → Endless (g.stmt n)
endless_stmt n = let b = endless_below n in stmt_over n (g.deeper n) b.stmt b.item

pub endless_item : (n : ℕ) → Endless (g.item n)
endless_item n = let b = endless_below n in item_over n (g.deeper n) b.stmt b.item

pub endless_block : (n : ℕ) → Endless (g.block n)
endless_block n = let b = endless_below n in block_over n (g.deeper n) b.stmt b.item
