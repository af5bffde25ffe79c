-- Each symbol has a spelling, and each of its fronts goes on to one at the same number of levels.
use Rattle.std.proofs.Common.{◌≡◌, ℕ, zero, suc, Bool, true, false, List, [], ◌∷◌, ◌++◌, Option, Some, None, refl, sym, ◌∙◌, ap, inl, inr}
use Rattle.std.proofs.lemmas.List.{append-nil}
use Rattle.cx_grammar.specs.Language.{Language, upto}
use Rattle.cx_grammar.specs.Reading.{sees}
use Rattle.cx_grammar.proofs.Heads.{not_both}
use Rattle.cx_tree.specs.declared.exprs.Expr.{Expr}
use Rattle.cx_tree.specs.declared.exprs.ExprKind.{ExprKind}
use Rattle.cx_syntax.specs.declared.class.Class.TheVariants as k
use Rattle.cx_syntax.specs.declared.lexeme.Lexeme.{Lexeme}
use Rattle.cx_syntax.specs.Classes.{same_class}
use Rattle.cx_syntax.specs.Ahead.{qtype_end}
use Rattle.cx_syntax.specs.Sets.{is_type, is_id, is_word}
use Rattle.cx_syntax.specs.Values.{span_of, ident_of, expr_of, closed, Operand}
use Rattle.cx_syntax.specs.Grammar as g
use Rattle.cx_syntax.specs.Grammar.{deeper}
use Rattle.cx_syntax.proofs.Basics.{at}
use Rattle.cx_syntax.proofs.Continued.{Goes, Viable, viable_both, viable_as, viable_or, viable_maybe, viable_many, viable_measured}
use Rattle.cx_syntax.proofs.Viable.{sample, some_pick, before, behind, so_many, viable_specs, viable_ptrs, viable_assign, viable_braces, viable_below}
use Rattle.cx_syntax_parts.proofs.Viable.{viable_attrs}
use Rattle.cx_syntax_vars.specs.Ahead.{left_of, is_some, begins_made}
use Rattle.cx_syntax_vars.specs.Grammar as l
use Rattle.cx_syntax_vars.proofs.Arguments.{made_by}
use Rattle.cx_syntax_vars.proofs.OpenNames.{ExprBehind, run_open, open_run, closed_run, ended_run}

-- ---- a name alone spells each rule that holds a name

-- a value that the tokens spell
pub record Spelled {A : Type 0} (g : Language Lexeme A) (x : List Lexeme) : Type 0 where
  pub value : A
  pub is : g.spells x value

whole : (x : List Lexeme) → x ≡ x ++ []
whole x = sym (append-nil x)

module _ (x : List Lexeme) where
  spelled_head : (n : ℕ) (v : ExprKind) → (g.id_expression (deeper n)).spells x v → (g.head (deeper n)).spells x (expr_of (v, span_of x))
  spelled_head n v s = record { value = (v, span_of x); made = refl; part = record { part = inr (inr (inr (inr (inr (inl s))))); measure = refl } }

  spelled_postfix : (n : ℕ) (v : Expr) → (g.head (deeper n)).spells x v → (g.postfix (deeper n)).spells x v
  spelled_postfix n v s = record { value = ((v, []), span_of x); made = refl; part = record { part = record { front = x; back = []; cut = whole x; first = s; second = refl }; measure = refl } }

  spelled_cast : (n : ℕ) (v : Expr) → (g.postfix (deeper n)).spells x v → (g.cast (deeper n)).spells x (closed v)
  spelled_cast n v s = inr (inr (inr (inr (inr (inr (record { value = v; made = refl; part = s }))))))

  spelled_chain : (n p : ℕ) (v : Operand) → (g.cast (deeper n)).spells x v → (g.chain (deeper n) p).spells x v
  spelled_chain n zero v s = s
  spelled_chain n (suc p) v s = record { value = ((v, []), span_of x); made = refl; part = record { part = record { front = x; back = []; cut = whole x; first = spelled_chain n p v s; second = refl }; measure = refl } }

  spelled_assign : (n : ℕ) (v : Operand) → (g.chain (deeper n) 10).spells x v → (g.assign (deeper n)).spells x v.0
  spelled_assign n v s = inr (record { value = ((v, None), span_of x); made = refl; part = record { part = record { front = x; back = []; cut = whole x; first = s; second = inl (record { value = tt; made = refl; part = refl }) }; measure = refl } })

  spelled_args : (n : ℕ) (v : ExprKind) → (g.id_expression (deeper n)).spells x v → Spelled (g.args (deeper (suc n))) x
  spelled_args n v s = let v2 = expr_of (v, span_of x) in record {
    value = v2 ∷ [];
    is = record {
      value = (v2, []);
      made = refl;
      part = record { front = x; back = []; cut = whole x; first = spelled_assign n (closed v2) (spelled_chain n 10 (closed v2) (spelled_cast n v2 (spelled_postfix n v2 (spelled_head n v s)))); second = refl };
    };
  }

-- ---- arguments that do not begin with a type that is made

no_word : (x : List Lexeme) (b : Bool) → sees (at is_word) x ≡ b → begins_made x ≡ false → sees (at is_word) x ≡ false
no_word x true e c = let both : true ≡ false = sym (ap (λ b. is_some (made_by b x)) e) ∙ c in cc
no_word x false e c = e

-- no type comes first, as long as no word does
clear_by : (x : List Lexeme) → sees (at is_word) x ≡ false → qtype_end x ≡ None → begins_made x ≡ false
clear_by x w e = ap (λ b. is_some (made_by b x)) w ∙ ap (λ o. is_some (left_of o)) e

module _ (n : ℕ) where
  viable_args : Viable (g.args (deeper n))
  unfolding same_class
  viable_args = viable_as _ (viable_both (viable_below n).assign (viable_many (before k.Comma refl (viable_below n).assign)))

-- a front that is a name goes on to a name
by_name : (n : ℕ) (t : Lexeme) (x : List Lexeme) → sees (at is_word) (t ∷ x) ≡ false → ExprBehind (t ∷ x) → Goes (l.init_args (suc n)) (t ∷ x)
by_name n t x w e = let s = spelled_args (t ∷ (x ++ e.more)) n e.value (e.spelled n) in record { more = e.more; value = s.value; spelled = record { part = s.is; clear = clear_by (t ∷ (x ++ e.more)) w e.end } }

-- another goes on to any arguments
by_other : (n : ℕ) (t : Lexeme) (x : List Lexeme) → sees (at is_word) (t ∷ x) ≡ false → run_open (t ∷ x) ≡ false → qtype_end (t ∷ x) ≡ None → Goes (g.args (deeper (suc n))) (t ∷ x) → Goes (l.init_args (suc n)) (t ∷ x)
by_other n t x w o e p = record { more = p.more; value = p.value; spelled = record { part = p.spelled; clear = clear_by (t ∷ (x ++ p.more)) w (closed_run t x p.more o e) } }

no_type : (t : Lexeme) (x : List Lexeme) (o : Option (List Lexeme)) → qtype_end (t ∷ x) ≡ o → sees (at is_word) (t ∷ x) ≡ false → begins_made (t ∷ x) ≡ false → run_open (t ∷ x) ≡ false → qtype_end (t ∷ x) ≡ None
no_type t x None e w c o = e
no_type t x (Some []) e w c o = absurd (not_both (ended_run (t ∷ x) e) o)
no_type t x (Some (u ∷ rest)) e w c o = absurd (not_both (ap (λ b. is_some (made_by b (t ∷ x))) w ∙ ap (λ z. is_some (left_of z)) e) c)

front_by : (n : ℕ) (t : Lexeme) (x : List Lexeme) (b : Bool) → run_open (t ∷ x) ≡ b → sees (at is_word) (t ∷ x) ≡ false → begins_made (t ∷ x) ≡ false → (g.args (deeper (suc n))).begins (t ∷ x) → Goes (l.init_args (suc n)) (t ∷ x)
front_by n t x true o w c b = by_name n t x w (open_run t x o)
front_by n t x false o w c b = by_other n t x w o (no_type t x (qtype_end (t ∷ x)) refl w c o) ((viable_args (suc n)).front refl t x b)

abbrev id : Lexeme
id = sample k.Ident

name_alone : ExprBehind (id ∷ [])
unfolding same_class
name_alone = open_run id [] refl

any_name : (n : ℕ) → Goes (l.init_args (suc n)) []
any_name n = let p = by_name n id [] refl name_alone in record { more = id ∷ p.more; value = p.value; spelled = p.spelled }

viable_init_args : (n : ℕ) → Viable (l.init_args n)
viable_init_args zero = record { any = λ s. absurd (let f : false ≡ true = s in cc); front = λ s t x b. absurd (let f : false ≡ true = s in cc) }
viable_init_args (suc n) = record { any = λ s. any_name n; front = λ s t x b. front_by n t x (run_open (t ∷ x)) refl (no_word (t ∷ x) (sees (at is_word) (t ∷ x)) refl b.clear) b.clear b.part }

-- ---- rules

pub viable_typedef : Viable l.typedef
unfolding same_class
viable_typedef = viable_as _ (viable_measured _ (before k.Typedef refl (viable_both viable_specs (viable_both viable_ptrs (behind k.Semicolon refl (some_pick is_type ident_of k.TypeName refl))))))

module _ (n : ℕ) where
  viable_bounds : Viable (upto 16 (g.bound (deeper n)))
  unfolding same_class
  viable_bounds = so_many 16 (viable_as _ (viable_measured _ (before k.OpenBracket refl (behind k.CloseBracket refl (viable_maybe (viable_below n).cond)))))

  pub viable_init : Viable (l.init n)
  unfolding same_class
  viable_init = let braces = viable_braces (deeper n) (viable_below n) in viable_as _ (viable_measured _ (viable_or
      (viable_or (viable_as _ (before k.Equal refl (viable_assign (deeper n) (viable_below n)))) (viable_as _ (before k.Equal refl braces)))
      (viable_or (viable_as _ braces) (viable_as _ (viable_as _ (viable_measured _ (before k.OpenParen refl (behind k.CloseParen refl (viable_init_args n)))))))))

  pub viable_var : Viable (l.var n)
  unfolding same_class
  viable_var = viable_as _ (viable_measured _ (viable_both viable_ptrs (viable_both (some_pick is_id ident_of k.Ident refl) (viable_both (viable_attrs n) (viable_both viable_bounds (viable_maybe viable_init))))))

  pub viable_vars : Viable (l.vars n)
  unfolding same_class
  viable_vars = viable_as _ (viable_both viable_var (viable_many (before k.Comma refl viable_var)))

  pub viable_param : Viable (l.param n)
  unfolding same_class
  viable_param = viable_as _ (viable_measured _ (viable_both (viable_attrs n) (viable_both viable_specs (viable_both viable_ptrs (viable_both (viable_maybe (some_pick is_id ident_of k.Ident refl))
      (viable_both viable_bounds (viable_maybe (before k.Equal refl (viable_below n).assign))))))))

  pub viable_params : Viable (l.params n)
  unfolding same_class
  viable_params = viable_as _ (viable_both viable_param (viable_many (before k.Comma refl viable_param)))

  pub viable_declared : Viable (l.declared n)
  unfolding same_class
  viable_declared = viable_both viable_specs (behind k.Semicolon refl viable_vars)

  pub viable_local : Viable (l.local n)
  viable_local = viable_as _ (viable_measured _ (viable_both (viable_attrs n) viable_declared))

  pub viable_bare_local : Viable (l.bare_local n)
  viable_bare_local = viable_as _ (viable_measured _ viable_declared)
