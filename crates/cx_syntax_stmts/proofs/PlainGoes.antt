-- A front of an expression that does not begin with a type and `(` goes on to such an expression, at the same number of levels.
use Rattle.std.proofs.Common.{◌≡◌, ℕ, zero, suc, Bool, true, false, List, [], ◌∷◌, ◌++◌, length, Option, Some, None, refl, sym, ◌∙◌, ap, inl, inr, append_assoc, if◌then◌else◌}
use Rattle.std.proofs.lemmas.List.{append-nil}
use Rattle.cx_grammar.specs.Language.{Language, maybe, trailed, ◌⊲◌}
use Rattle.cx_grammar.proofs.Heads.{not_both}
use Rattle.cx_grammar.proofs.Levels.{begun_by}
use Rattle.cx_tree.specs.declared.exprs.Expr.{Expr}
use Rattle.cx_tree.specs.declared.exprs.ExprKind.{ExprKind}
use Rattle.cx_tree.specs.declared.exprs.Given.TheVariants as gives
use Rattle.cx_syntax.specs.declared.class.Class.TheVariants as k
use Rattle.cx_syntax.specs.declared.lexeme.Lexeme.{Lexeme}
use Rattle.cx_syntax.specs.Ahead.{qtype_end}
use Rattle.cx_syntax.specs.Classes.{is, same_class}
use Rattle.cx_syntax.specs.Grammar as e
use Rattle.cx_syntax.specs.Sets.{is_word}
use Rattle.cx_syntax.specs.Values.{is_there, span_of, word_of, expr_of, closed, Operand}
use Rattle.cx_syntax.proofs.Continued.{Goes, Viable}
use Rattle.cx_syntax.proofs.Viable.{sample, viable_expr, viable_braces, viable_below}
use Rattle.cx_syntax_vars.proofs.Arguments.{type_run}
use Rattle.cx_syntax_vars.proofs.OpenNames.{ExprBehind, run_open, open_run, closed_run, ended_run}
use Rattle.cx_syntax_stmts.specs.Ahead.{type_end, at_paren, begins_call}
use Rattle.cx_syntax_stmts.specs.Grammar as g
use Rattle.cx_syntax_stmts.proofs.Calls.{type_end_is}

-- ---- what spells a head spells an expr

pub record Spelled {A : Type 0} (h : Language Lexeme A) (x : List Lexeme) : Type 0 where
  pub value : A
  pub is : h.spells x value

pub whole : (x : List Lexeme) → x ≡ x ++ []
whole x = sym (append-nil x)

module _ (x : List Lexeme) (n : ℕ) where
  spelled_postfix : (v : ExprKind) → (e.head_kind (e.deeper n)).spells x v → (e.postfix (e.deeper n)).spells x (expr_of (v, span_of x))
  spelled_postfix v s = record {
    value = ((expr_of (v, span_of x), []), span_of x);
    made = refl;
    part = record { part = record { front = x; back = []; cut = whole x; first = record { value = (v, span_of x); made = refl; part = record { part = s; measure = refl } }; second = refl }; measure = refl };
  }

  spelled_cast : (v : Expr) → (e.postfix (e.deeper n)).spells x v → (e.cast (e.deeper n)).spells x (closed v)
  spelled_cast v s = inr (inr (inr (inr (inr (inr (record { value = v; made = refl; part = s }))))))

  spelled_chain : (p : ℕ) (v : Operand) → (e.cast (e.deeper n)).spells x v → (e.chain (e.deeper n) p).spells x v
  spelled_chain zero v s = s
  spelled_chain (suc p) v s = record { value = ((v, []), span_of x); made = refl; part = record { part = record { front = x; back = []; cut = whole x; first = spelled_chain p v s; second = refl }; measure = refl } }

  spelled_assign : (v : Operand) → (e.chain (e.deeper n) 10).spells x v → (e.assign (e.deeper n)).spells x v.0
  spelled_assign v s = inr (record { value = ((v, None), span_of x); made = refl; part = record { part = record { front = x; back = []; cut = whole x; first = s; second = inl (record { value = tt; made = refl; part = refl }) }; measure = refl } })

  pub spelled_expr : (v : ExprKind) → (e.head_kind (e.deeper n)).spells x v → Spelled (e.expr (e.deeper n)) x
  spelled_expr v s = let v2 = expr_of (v, span_of x) in record {
    value = v2;
    is = record {
      value = ((v2, []), span_of x);
      made = refl;
      part = record { part = record { front = x; back = []; cut = whole x; first = spelled_assign (closed v2) (spelled_chain 10 (closed v2) (spelled_cast v2 (spelled_postfix v s))); second = refl }; measure = refl };
    };
  }

-- ---- the test

abbrev pub calls : Option (List Lexeme) → Bool
calls o = is_there (at_paren o)

pub no_paren : (b : Bool) (l : ℕ) → is_there (if b then Some l else None) ≡ false → b ≡ false
no_paren true l e = let both : true ≡ false = e in cc
no_paren false l e = refl

pub clear_end : (x rest : List Lexeme) (u : Lexeme) → type_end x ≡ Some (u ∷ rest) → is k.OpenParen u ≡ false → begins_call x ≡ false
clear_end x rest u e p = ap calls e ∙ ap (λ b. is_there (if b then Some (length (u ∷ rest)) else None)) p

pub end_clear : (x rest : List Lexeme) (u : Lexeme) → type_end x ≡ Some (u ∷ rest) → begins_call x ≡ false → is k.OpenParen u ≡ false
end_clear x rest u e c = no_paren (is k.OpenParen u) (length (u ∷ rest)) (sym (ap calls e) ∙ c)

-- ---- each front goes on

module _ (n : ℕ) where
  abbrev plain : Language Lexeme Expr
  plain = g.plain (e.expr (e.deeper n))

  -- a word goes on to braces
  pub word_goes : (t : Lexeme) → is_word t.class ≡ true → Goes plain (t ∷ [])
  unfolding same_class
  word_goes t w =
      let b = sample k.OpenBrace in
      let p = (viable_braces (e.deeper n) (viable_below n)).front refl b [] (begun_by (λ m. maybe (trailed (is k.Comma) (e.clause (e.deeper m))) ⊲ is k.CloseBrace) (is k.OpenBrace) b refl n) in
      let s = spelled_expr (t ∷ b ∷ p.more) n _ (inr (inr (inr (inr (inl (record {
        value = (word_of t, gives.Braces p.value);
        made = refl;
        part = record {
          front = t ∷ [];
          back = b ∷ p.more;
          cut = refl;
          first = record { token = t; alone = refl; fits = ap (λ c. if c then Some (word_of t) else None) w };
          second = inr (record { value = p.value; made = refl; part = p.spelled });
        };
      })))))) in
      record { more = b ∷ p.more; value = s.value; spelled = record { part = s.is; clear = clear_end (t ∷ b ∷ p.more) p.more b (type_end_is (t ∷ b ∷ p.more) true w) refl } }

  -- a name goes on to a name that is no type's
  pub name_goes : (t : Lexeme) (x : List Lexeme) → is_word t.class ≡ false → ExprBehind (t ∷ x) → Goes plain (t ∷ x)
  name_goes t x w b = let s = spelled_expr (t ∷ (x ++ b.more)) n b.value (inr (inr (inr (inr (inr (inl (b.spelled n))))))) in
      record { more = b.more; value = s.value; spelled = record { part = s.is; clear = ap calls (type_end_is (t ∷ (x ++ b.more)) false w ∙ b.end) } }

  -- what goes on as an expression does, where the type and what is behind it do not change
  pub same_goes : (t : Lexeme) (x : List Lexeme) → ((y : List Lexeme) → begins_call (t ∷ (x ++ y)) ≡ false) → (e.expr (e.deeper n)).begins (t ∷ x) → Goes plain (t ∷ x)
  same_goes t x c b = let p = (viable_expr (e.deeper n) (viable_below n)).front refl t x b in record { more = p.more; value = p.value; spelled = record { part = p.spelled; clear = c p.more } }

  pub typed_goes : (t : Lexeme) (x : List Lexeme) (o : Option (List Lexeme)) → qtype_end (t ∷ x) ≡ o → is_word t.class ≡ false → run_open (t ∷ x) ≡ false → begins_call (t ∷ x) ≡ false → (e.expr (e.deeper n)).begins (t ∷ x) → Goes plain (t ∷ x)
  typed_goes t x None q w r c b = same_goes t x (λ y. ap calls (type_end_is (t ∷ (x ++ y)) false w ∙ closed_run t x y r q)) b
  typed_goes t x (Some []) q w r c b = absurd (not_both (ended_run (t ∷ x) q) r)
  typed_goes t x (Some (u ∷ rest)) q w r c b =
      let f = type_run (t ∷ x) u rest q in
      let p = end_clear (t ∷ x) rest u (type_end_is (t ∷ x) false w ∙ q) c in
      same_goes t x (λ y. clear_end (t ∷ (x ++ y)) (rest ++ y) u (type_end_is (t ∷ (x ++ y)) false w ∙ (ap (λ l. qtype_end (l ++ y)) f.cut ∙ (ap qtype_end (append_assoc f.run (u ∷ rest) y) ∙ f.more u (rest ++ y) f.token))) p) b

  pub by_run : (t : Lexeme) (x : List Lexeme) (b : Bool) → run_open (t ∷ x) ≡ b → is_word t.class ≡ false → begins_call (t ∷ x) ≡ false → (e.expr (e.deeper n)).begins (t ∷ x) → Goes plain (t ∷ x)
  by_run t x true r w c b = name_goes t x w (open_run t x r)
  by_run t x false r w c b = typed_goes t x (qtype_end (t ∷ x)) refl w r c b

  pub by_word : (t : Lexeme) (x : List Lexeme) (b : Bool) → is_word t.class ≡ b → begins_call (t ∷ x) ≡ false → (e.expr (e.deeper n)).begins (t ∷ x) → Goes plain (t ∷ x)
  by_word t [] true w c b = word_goes t w
  by_word t (u ∷ x) true w c b = let p = end_clear (t ∷ u ∷ x) x u (type_end_is (t ∷ u ∷ x) true w) c in same_goes t (u ∷ x) (λ y. clear_end (t ∷ u ∷ (x ++ y)) (x ++ y) u (type_end_is (t ∷ u ∷ (x ++ y)) true w) p) b
  by_word t x false w c b = by_run t x (run_open (t ∷ x)) refl w c b

  pub any_name : Goes plain []
  unfolding same_class
  any_name = let p = name_goes (sample k.Ident) [] refl (open_run (sample k.Ident) [] refl) in record { more = sample k.Ident ∷ p.more; value = p.value; spelled = p.spelled }

  pub viable_plain : Viable plain
  viable_plain = record { any = λ s. any_name; front = λ s t x b. by_word t x (is_word t.class) refl b.clear b.part }

pub no_room : {A : Type 0} → false ≡ true → A
no_room e = absurd (let no : ⊥ = cc in no)

-- the same one level deeper
pub viable_plain_deep : (n : ℕ) → Viable (g.plain (e.deeper n).expr)
viable_plain_deep zero = record { any = no_room; front = λ s t x b. no_room s }
viable_plain_deep (suc n) = record {
  any = λ s. let p = any_name n in record { more = p.more; value = p.value; spelled = record { part = p.spelled.part; clear = p.spelled.clear } };
  front = λ s t x b. let p = by_word n t x (is_word t.class) refl b.clear b.part in record { more = p.more; value = p.value; spelled = record { part = p.spelled.part; clear = p.spelled.clear } };
}
