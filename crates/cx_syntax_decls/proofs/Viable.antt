-- Each symbol has a spelling, and each of its fronts goes on to one at the same number of levels.
use Rattle.std.proofs.Common.{◌≡◌, ℕ, zero, suc, Bool, true, false, not, ◌&&◌, List, [], ◌∷◌, ◌++◌, Some, None, refl, sym, ap, if◌then◌else◌, inl, inr}
use Rattle.std.proofs.lemmas.List.{append-nil}
use Rattle.cx_grammar.specs.Language.{Language, in_first, many}
use Rattle.cx_grammar.proofs.Heads.{not_both}
use Rattle.cx_tree.specs.declared.decls.Entity.{Entity}
use Rattle.cx_grammar.specs.Sets.{of}
use Rattle.cx_syntax.specs.declared.class.Class.TheVariants as k
use Rattle.cx_syntax.specs.declared.lexeme.Lexeme.{Lexeme}
use Rattle.cx_syntax.specs.Classes.{class_at, is, same_class}
use Rattle.cx_syntax.specs.Sets.{is_elaboration, is_id, is_modifier, is_name, is_type, is_word}
use Rattle.cx_syntax.specs.Values.{ident_of, modifier_of, span_of, word_of}
use Rattle.cx_syntax.specs.Grammar as e
use Rattle.cx_syntax.specs.Readers.{just}
use Rattle.cx_syntax.proofs.Ahead.{and_first, and_second, no_second}
use Rattle.cx_syntax.proofs.Basics.{apart, begun_pick, both_true, false_of, sub}
use Rattle.cx_syntax.proofs.TypeOrExpr.{typed_specs, unseen_by, word_typed}
use Rattle.cx_syntax.proofs.Continued.{Goes, Viable, viable_absent, viable_as, viable_both, viable_many, viable_maybe, viable_measured, viable_or, viable_the, viable_there}
use Rattle.cx_syntax.proofs.Viable.{before, behind, given, sample, some_pick, some_the, viable_below, viable_destructor_name, viable_fname, viable_ptrs, viable_qtype, viable_specs}
use Rattle.cx_syntax_decls.specs.Grammar as g
use Rattle.cx_syntax_decls.specs.Grammar.{final_class}
use Rattle.cx_syntax_decls.specs.Sets.{is_final, is_key}
use Rattle.cx_syntax_decls.specs.Values.{key_of}
use Rattle.cx_syntax_vars.specs.Grammar as vg
use Rattle.cx_syntax_decls.proofs.Elaborated.{named_never, specs_entity, specs_spelled}
use Rattle.cx_syntax_decls.proofs.Entities.{plain_entity}
use Rattle.cx_syntax_decls.proofs.MemberFunctions.{type_kind}
use Rattle.cx_syntax_decls.proofs.Parens.{no_ptrs, no_ptrs_spelled}
use Rattle.cx_syntax_decls.proofs.Lower.{viable_access, viable_alias, viable_assert, viable_attrs, viable_block, viable_enum, viable_noex, viable_params, viable_tail, viable_typedef, viable_vars, viable_virt}

module _ (n : ℕ) where
  paren_params : Viable (g.paren_params n)
  unfolding same_class
  paren_params = before k.OpenParen refl (behind k.CloseParen refl (viable_maybe (viable_params n)))

  body : Viable (g.body n)
  body = viable_or (viable_as _ viable_tail) (viable_as _ (viable_block n))

  viable_plain : Viable (plain_entity n)
  unfolding same_class
  viable_plain = viable_as _ (viable_both (viable_attrs n) (viable_both viable_specs (viable_or (viable_as _ (behind k.Semicolon refl (viable_vars n)))
      (viable_as _ (viable_as _ (viable_both viable_ptrs (viable_both viable_fname (viable_both paren_params (viable_both (viable_maybe (some_the k.Const refl)) (viable_both (viable_noex n) (viable_both viable_virt body)))))))))))

  pub viable_minit : Viable (g.minit n)
  viable_minit = viable_as _ (viable_measured _ (viable_both (viable_or (viable_as _ viable_qtype) (viable_as _ (some_pick is_id ident_of k.Ident refl))) (given (e.deeper n) (viable_below n))))

  mods : Viable (many e.modifier)
  mods = viable_many (some_pick is_modifier modifier_of k.Const refl)

  pub viable_ctor : Viable (g.ctor n)
  unfolding same_class
  viable_ctor = viable_as _ (viable_both (viable_attrs n) (viable_both mods (viable_both (some_pick is_type ident_of k.TypeName refl) (viable_both paren_params (viable_both (viable_noex n)
      (viable_or (viable_as _ viable_tail) (viable_as _ (viable_both (viable_maybe (before k.Colon refl (viable_as _ (viable_both viable_minit (viable_many (before k.Comma refl viable_minit)))))) (viable_block n)))))))))

  pub viable_dtor : Viable (g.dtor n)
  unfolding same_class
  viable_dtor = viable_as _ (viable_both (viable_attrs n) (viable_both mods (viable_both (behind k.CloseParen refl (behind k.OpenParen refl viable_destructor_name)) (viable_both (viable_noex n) (viable_both viable_virt body)))))

  pub viable_base : Viable (g.base n)
  viable_base = viable_as _ (viable_measured _ (viable_both (viable_attrs n) (viable_both (viable_maybe viable_access) viable_qtype)))

-- ---- an entity that is no class with `final` ([class.pre])

-- a value that the tokens spell
record Spelled {A : Type 0} (g : Language Lexeme A) (x : List Lexeme) : Type 0 where
  pub value : A
  pub is : g.spells x value

abbrev end : Lexeme
end = sample k.Semicolon

-- a variable with this name, and `;`
module _ (n : ℕ) (v : Lexeme) (id : is_id v.class ≡ true) where
  id_spelled : e.id.spells (v ∷ []) (ident_of v)
  id_spelled = record { token = v; alone = refl; fits = ap (λ b. if b then Some (ident_of v) else None) id }

  var_spelled : Spelled (vg.var n) (v ∷ [])
  var_spelled = record {
    value = _;
    is = record {
      value = ((no_ptrs, (ident_of v, (_, ([], None)))), span_of (v ∷ []));
      made = refl;
      part = record {
        part = record {
          front = [];
          back = v ∷ [];
          cut = refl;
          first = no_ptrs_spelled;
          second = record {
            front = v ∷ [];
            back = [];
            cut = refl;
            first = id_spelled;
            second = record {
              front = [];
              back = [];
              cut = refl;
              first = record { value = []; made = refl; part = refl };
              second = record { front = []; back = []; cut = refl; first = inr (record { value = tt; made = refl; part = refl }); second = inl (record { value = tt; made = refl; part = refl }) };
            };
          };
        };
        measure = refl;
      };
    };
  }

  vars_spelled : Spelled (g.entity_kind n) (v ∷ end ∷ [])
  unfolding same_class
  vars_spelled = record {
    value = _;
    is = inl (record {
      value = var_spelled.value ∷ [];
      made = refl;
      part = record {
        value = (var_spelled.value ∷ [], tt);
        made = refl;
        part = record {
          front = v ∷ [];
          back = end ∷ [];
          cut = refl;
          first = record { value = (var_spelled.value, []); made = refl; part = record { front = v ∷ []; back = []; cut = refl; first = var_spelled.is; second = refl } };
          second = record { token = end; alone = refl; fits = refl };
        };
      };
    });
  }

module _ (n : ℕ) (t u v : Lexeme) (key : is_key t.class ≡ true) (type : is_type u.class ≡ true) (final : is_final v.class ≡ true) where
  elaborates : is_elaboration t.class ≡ true
  elaborates = sub is_key is_elaboration refl t key

  end_spelled : is_id v.class ≡ true → Spelled (plain_entity n) (t ∷ u ∷ v ∷ end ∷ [])
  end_spelled id = let s = specs_spelled t elaborates u v type (sub is_final is_name refl v final) in let z = vars_spelled n v id in record {
    value = _;
    is = record {
      value = (_, (s.0, z.value));
      made = refl;
      part = record { front = []; back = t ∷ u ∷ v ∷ end ∷ []; cut = refl; first = record { value = []; made = refl; part = refl }; second = record { front = t ∷ u ∷ []; back = v ∷ end ∷ []; cut = refl; first = s.1; second = z.is } };
    };
  }

  -- behind a TYPE `final` no brace is spelled
  type_never : (w : Lexeme) (rest : List Lexeme) (x : Entity) → is_type v.class ≡ true → is k.OpenBrace w ≡ true → (plain_entity n).spells (t ∷ u ∷ v ∷ w ∷ rest) x → ⊥
  unfolding same_class
  type_never w rest x typed brace s = (named_never t u (v ∷ w ∷ rest) elaborates type (unseen_by (apart is_final (just k.ColonColon) refl) (v ∷ w ∷ rest) final) (unseen_by (apart is_final is_modifier refl) (v ∷ w ∷ rest) final)
      (type_kind v w rest typed (false_of (is k.ColonColon w) (λ j. apart (just k.OpenBrace) (just k.ColonColon) refl w brace j)))).only n (t ∷ u ∷ v ∷ w ∷ rest) [] x (sym (append-nil (t ∷ u ∷ v ∷ w ∷ rest))) s

  ended : (w : Lexeme) (rest : List Lexeme) (x : Entity) → is k.OpenBrace w ≡ true → (plain_entity n).spells (t ∷ u ∷ v ∷ w ∷ rest) x → Spelled (plain_entity n) (t ∷ u ∷ v ∷ end ∷ [])
  ended w rest x brace s = ended_by (is_type v.class) refl
    where
      ended_by : (b : Bool) → is_type v.class ≡ b → Spelled (plain_entity n) (t ∷ u ∷ v ∷ end ∷ [])
      ended_by true b = absurd (type_never w rest x b brace s)
      ended_by false b = end_spelled (sub (λ c. is_final c && not (is_type c)) is_id refl v (both_true (is_final v.class) (not (is_type v.class)) final (ap not b)))

-- the end in the place of the brace
module _ (n : ℕ) (t u v w : Lexeme) (rest : List Lexeme) (x : Entity) (s : (plain_entity n).spells (t ∷ u ∷ v ∷ w ∷ rest) x) (f : final_class (t ∷ u ∷ v ∷ w ∷ rest) ≡ true) where
  three : ((is_key t.class && is_type u.class) && is_final v.class) ≡ true
  three = and_first ((is_key t.class && is_type u.class) && is_final v.class) (is k.OpenBrace w) f

  two : (is_key t.class && is_type u.class) ≡ true
  two = and_first (is_key t.class && is_type u.class) (is_final v.class) three

  other_end : Spelled (g.entity n) (t ∷ u ∷ v ∷ end ∷ [])
  unfolding same_class
  other_end = let z = ended n t u v (and_first (is_key t.class) (is_type u.class) two) (and_second (is_key t.class) (is_type u.class) two) (and_second (is_key t.class && is_type u.class) (is_final v.class) three) w rest x
      (and_second ((is_key t.class && is_type u.class) && is_final v.class) (is k.OpenBrace w) f) s in record { value = z.value; is = record { part = z.is; clear = no_second ((is_key t.class && is_type u.class) && is_final v.class) } }

module _ (n : ℕ) (t : Lexeme) where
  -- a continuation that may be a class's
  entity_by : (x more : List Lexeme) (v : Entity) → (plain_entity n).spells (t ∷ x ++ more) v → final_class (t ∷ x) ≡ false → (b : Bool) → final_class (t ∷ x ++ more) ≡ b → Goes (g.entity n) (t ∷ x)
  entity_by x more v s c false f = record { more = more; value = v; spelled = record { part = s; clear = f } }
  entity_by [] [] v s c true f = absurd (not_both f refl)
  entity_by [] (a ∷ []) v s c true f = absurd (not_both f refl)
  entity_by [] (a ∷ b ∷ []) v s c true f = absurd (not_both f refl)
  entity_by [] (a ∷ b ∷ d ∷ more) v s c true f = let z = other_end n t a b d more v s f in record { more = a ∷ b ∷ end ∷ []; value = z.value; spelled = z.is }
  entity_by (a ∷ []) [] v s c true f = absurd (not_both f refl)
  entity_by (a ∷ []) (b ∷ []) v s c true f = absurd (not_both f refl)
  entity_by (a ∷ []) (b ∷ d ∷ more) v s c true f = let z = other_end n t a b d more v s f in record { more = b ∷ end ∷ []; value = z.value; spelled = z.is }
  entity_by (a ∷ b ∷ []) [] v s c true f = absurd (not_both f refl)
  entity_by (a ∷ b ∷ []) (d ∷ more) v s c true f = let z = other_end n t a b d more v s f in record { more = end ∷ []; value = z.value; spelled = z.is }
  entity_by (a ∷ b ∷ d ∷ x) more v s c true f = absurd (not_both f c)

  entity_front : (x : List Lexeme) → (g.entity n).begins (t ∷ x) → Goes (g.entity n) (t ∷ x)
  entity_front x b = let p = (viable_plain n).front refl t x b.part in entity_by x p.more p.value p.spelled b.clear (final_class (t ∷ x ++ p.more)) refl

abbrev int : Lexeme
int = sample k.Int

pub viable_entity : (n : ℕ) → Viable (g.entity n)
viable_entity n = record {
  any = λ s. let p = entity_front n int [] (record { part = int_begun n; clear = refl }) in record { more = int ∷ p.more; value = p.value; spelled = p.spelled };
  front = λ s t x b. entity_front n t x b;
}
  where
    int_begun : (n : ℕ) → (plain_entity n).begins (int ∷ [])
    int_begun n = specs_entity n (int ∷ []) (in_first (typed_specs (int ∷ []) (word_typed (int ∷ []) (begun_pick is_word word_of int refl))))

-- ---- classes, members, namespaces, declarations

module _ (n : ℕ) (below : Viable (g.deeper_member n)) where
  class_over : Viable (g.class n)
  unfolding same_class
  class_over = viable_as _ (viable_measured _ (viable_both (some_pick is_key key_of k.Struct refl) (viable_both (viable_attrs n) (viable_both (some_pick is_type ident_of k.TypeName refl) (viable_or (viable_as _ (some_the k.Semicolon refl))
      (viable_as _ (viable_as _ (viable_both (viable_maybe (viable_the (of class_at is_final) (sample k.FinalIdent) refl)) (viable_both (viable_maybe (before k.Colon refl (viable_as _ (viable_both (viable_base n) (viable_many (before k.Comma refl (viable_base n)))))))
      (before k.OpenBrace refl (behind k.Semicolon refl (behind k.CloseBrace refl (viable_many below)))))))))))))

  member_over : Viable (g.member n)
  unfolding same_class
  member_over = viable_as _ (viable_measured _ (viable_or (viable_as _ (behind k.Colon refl viable_access)) (viable_or (viable_as _ (some_the k.Semicolon refl)) (viable_or (viable_as _ (viable_assert n)) (viable_or (viable_as _ (viable_alias n))
      (viable_or (viable_as _ viable_typedef) (viable_or (viable_as _ (viable_enum n)) (viable_or (viable_as _ class_over) (viable_or (viable_as _ (viable_ctor n)) (viable_or (viable_as _ (viable_dtor n)) (viable_as _ (viable_entity n))))))))))))

deep_member : (n : ℕ) → Viable (g.deeper_member n)
deep_member zero = viable_absent
deep_member (suc n) = viable_there refl (member_over n (deep_member n))

pub viable_member : (n : ℕ) → Viable (g.member n)
viable_member n = member_over n (deep_member n)

pub viable_class : (n : ℕ) → Viable (g.class n)
viable_class n = class_over n (deep_member n)

module _ (n : ℕ) (below : Viable (g.deeper_decl n)) where
  space_over : Viable (g.space n)
  unfolding same_class
  space_over = viable_as _ (viable_both (before k.Namespace refl (viable_attrs n)) (viable_both (viable_as _ (viable_both (some_pick is_id ident_of k.Ident refl) (viable_many (before k.ColonColon refl (some_pick is_id ident_of k.Ident refl)))))
      (before k.OpenBrace refl (behind k.CloseBrace refl (viable_many below)))))

  decl_over : Viable (g.decl n)
  unfolding same_class
  decl_over = viable_as _ (viable_measured _ (viable_or (viable_as _ (some_the k.Semicolon refl)) (viable_or (viable_as _ space_over) (viable_or (viable_as _ (viable_assert n)) (viable_or (viable_as _ (viable_alias n))
      (viable_or (viable_as _ viable_typedef) (viable_or (viable_as _ (viable_enum n)) (viable_or (viable_as _ (viable_class n)) (viable_as _ (viable_entity n))))))))))

deep_decl : (n : ℕ) → Viable (g.deeper_decl n)
deep_decl zero = viable_absent
deep_decl (suc n) = viable_there refl (decl_over n (deep_decl n))

pub viable_decl : (n : ℕ) → Viable (g.decl n)
viable_decl n = decl_over n (deep_decl n)

pub viable_space : (n : ℕ) → Viable (g.space n)
viable_space n = space_over n (deep_decl n)

pub viable_unit : (n : ℕ) → Viable (g.unit n)
unfolding same_class
viable_unit n = viable_as _ (behind k.End refl (viable_many (viable_decl n)))
