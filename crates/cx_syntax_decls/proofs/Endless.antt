-- The token that ends every list is in no spelling and no front of one; a unit's spelling ends in it.
use Rattle.std.proofs.Common.{ℕ, zero, suc, refl}
use Rattle.cx_grammar.proofs.Plain.{plain_absent, plain_as, plain_both, plain_many, plain_maybe, plain_measured, plain_or, plain_the, plain_there, plain_unless}
use Rattle.cx_grammar.specs.Language.{many}
use Rattle.cx_grammar.specs.Sets.{of}
use Rattle.cx_syntax.specs.declared.class.Class.TheVariants as k
use Rattle.cx_syntax.specs.Classes.{class_at, same_class}
use Rattle.cx_syntax.specs.Sets.{is_id, is_modifier, is_type}
use Rattle.cx_syntax.specs.Values.{ident_of, modifier_of}
use Rattle.cx_syntax.specs.Grammar as e
use Rattle.cx_syntax.proofs.Endless.{Endless, before, behind, endless_below, endless_destructor_name, endless_fname, endless_pick, endless_ptrs, endless_qtype, endless_specs, endless_the, given, not_end}
use Rattle.cx_syntax_decls.specs.Grammar as g
use Rattle.cx_syntax_decls.specs.Grammar.{final_class}
use Rattle.cx_syntax_decls.specs.Sets.{is_final, is_key}
use Rattle.cx_syntax_decls.specs.Values.{key_of}
use Rattle.cx_syntax_decls.proofs.Lower.{endless_access, endless_alias, endless_assert, endless_attrs, endless_block, endless_enum, endless_noex, endless_params, endless_tail, endless_typedef, endless_vars, endless_virt}

module _ (n : ℕ) where
  paren_params : Endless (g.paren_params n)
  unfolding same_class
  paren_params = before k.OpenParen refl (behind k.CloseParen refl (plain_maybe (endless_params n)))

  body : Endless (g.body n)
  body = plain_or (plain_as _ endless_tail) (plain_as _ (endless_block n))

  pub endless_entity : Endless (g.entity n)
  unfolding same_class
  endless_entity = plain_unless final_class (plain_as _ (plain_both (endless_attrs n) (plain_both endless_specs (plain_or (plain_as _ (behind k.Semicolon refl (endless_vars n)))
      (plain_as _ (plain_as _ (plain_both endless_ptrs (plain_both endless_fname (plain_both paren_params (plain_both (plain_maybe (endless_the k.Const refl)) (plain_both (endless_noex n) (plain_both endless_virt body))))))))))))

  pub endless_minit : Endless (g.minit n)
  unfolding same_class
  endless_minit = plain_as _ (plain_measured _ (plain_both (plain_or (plain_as _ endless_qtype) (plain_as _ (endless_pick is_id ident_of refl))) (given (e.deeper n) (endless_below n))))

  mods : Endless (many e.modifier)
  unfolding same_class
  mods = plain_many (endless_pick is_modifier modifier_of refl)

  pub endless_ctor : Endless (g.ctor n)
  unfolding same_class
  endless_ctor = plain_as _ (plain_both (endless_attrs n) (plain_both mods (plain_both (endless_pick is_type ident_of refl) (plain_both paren_params (plain_both (endless_noex n)
      (plain_or (plain_as _ endless_tail) (plain_as _ (plain_both (plain_maybe (before k.Colon refl (plain_as _ (plain_both endless_minit (plain_many (before k.Comma refl endless_minit)))))) (endless_block n)))))))))

  pub endless_dtor : Endless (g.dtor n)
  unfolding same_class
  endless_dtor = plain_as _ (plain_both (endless_attrs n) (plain_both mods (plain_both (behind k.CloseParen refl (behind k.OpenParen refl endless_destructor_name)) (plain_both (endless_noex n) (plain_both endless_virt body)))))

  pub endless_base : Endless (g.base n)
  endless_base = plain_as _ (plain_measured _ (plain_both (endless_attrs n) (plain_both (plain_maybe endless_access) endless_qtype)))

module _ (n : ℕ) (below : Endless (g.deeper_member n)) where
  class_over : Endless (g.class n)
  unfolding same_class
  class_over = plain_as _ (plain_measured _ (plain_both (endless_pick is_key key_of refl) (plain_both (endless_attrs n) (plain_both (endless_pick is_type ident_of refl) (plain_or (plain_as _ (endless_the k.Semicolon refl))
      (plain_as _ (plain_as _ (plain_both (plain_maybe (plain_the (of class_at is_final) (not_end is_final refl))) (plain_both (plain_maybe (before k.Colon refl (plain_as _ (plain_both (endless_base n) (plain_many (before k.Comma refl (endless_base n)))))))
      (before k.OpenBrace refl (behind k.Semicolon refl (behind k.CloseBrace refl (plain_many below)))))))))))))

  member_over : Endless (g.member n)
  unfolding same_class
  member_over = plain_as _ (plain_measured _ (plain_or (plain_as _ (behind k.Colon refl endless_access)) (plain_or (plain_as _ (endless_the k.Semicolon refl)) (plain_or (plain_as _ (endless_assert n)) (plain_or (plain_as _ (endless_alias n))
      (plain_or (plain_as _ endless_typedef) (plain_or (plain_as _ (endless_enum n)) (plain_or (plain_as _ class_over) (plain_or (plain_as _ (endless_ctor n)) (plain_or (plain_as _ (endless_dtor n)) (plain_as _ (endless_entity n))))))))))))

deep_member : (n : ℕ) → Endless (g.deeper_member n)
deep_member zero = plain_absent _
deep_member (suc n) = plain_there (member_over n (deep_member n))

pub endless_member : (n : ℕ) → Endless (g.member n)
endless_member n = member_over n (deep_member n)

pub endless_class : (n : ℕ) → Endless (g.class n)
endless_class n = class_over n (deep_member n)

module _ (n : ℕ) (below : Endless (g.deeper_decl n)) where
  space_over : Endless (g.space n)
  unfolding same_class
  space_over = plain_as _ (plain_both (before k.Namespace refl (endless_attrs n)) (plain_both (plain_as _ (plain_both (endless_pick is_id ident_of refl) (plain_many (before k.ColonColon refl (endless_pick is_id ident_of refl)))))
      (before k.OpenBrace refl (behind k.CloseBrace refl (plain_many below)))))

  decl_over : Endless (g.decl n)
  unfolding same_class
  decl_over = plain_as _ (plain_measured _ (plain_or (plain_as _ (endless_the k.Semicolon refl)) (plain_or (plain_as _ space_over) (plain_or (plain_as _ (endless_assert n)) (plain_or (plain_as _ (endless_alias n))
      (plain_or (plain_as _ endless_typedef) (plain_or (plain_as _ (endless_enum n)) (plain_or (plain_as _ (endless_class n)) (plain_as _ (endless_entity n))))))))))

deep_decl : (n : ℕ) → Endless (g.deeper_decl n)
deep_decl zero = plain_absent _
deep_decl (suc n) = plain_there (decl_over n (deep_decl n))

pub endless_decl : (n : ℕ) → Endless (g.decl n)
endless_decl n = decl_over n (deep_decl n)

pub endless_space : (n : ℕ) → Endless (g.space n)
endless_space n = space_over n (deep_decl n)

-- the declarations of a unit, without the token that ends it
pub endless_decls : (n : ℕ) → Endless (many (g.decl n))
endless_decls n = plain_many (endless_decl n)
