-- Arguments in parentheses that may not be left out, and that do not begin with a type that something is made of: where neither stands there they are read as others are.
use Rattle.std.proofs.Common.{◌≡◌, ℕ, Bool, true, false, if◌then◌else◌, List, [], ◌∷◌, ◌++◌, length, Option, Some, None, refl, sym, ◌∙◌, ap, subst, inl, inr, arith}
use Rattle.cx_base.specs.declared.rule.Rule.TheVariants.{Syntax, Nesting}
use Rattle.cx_base.specs.declared.diag.Span.{Span}
use Rattle.cx_grammar.specs.Exact.{Family, Outcome, done, stop, Exact}
use Rattle.cx_grammar.specs.Reading.{Reader, made, sees, the, token_by, taken, guarded, maybe_if, separated_by, ◌>>=◌}
use Rattle.cx_grammar.specs.Sets.{of}
use Rattle.cx_grammar.proofs.Heads.{Heads}
use Rattle.cx_grammar.proofs.Steps.{Exactly}
use Rattle.cx_tree.specs.declared.exprs.Args.{Args}
use Rattle.cx_tree.specs.declared.exprs.Expr.{Expr}
use Rattle.cx_syntax.specs.declared.class.Class.TheVariants as k
use Rattle.cx_syntax.specs.declared.lexeme.Lexeme.{Lexeme}
use Rattle.cx_syntax.specs.Classes.{class_at, is}
use Rattle.cx_syntax.specs.Sets.{starts_assign}
use Rattle.cx_syntax.specs.Values.{span_of, args_of}
use Rattle.cx_syntax.specs.Readers as r
use Rattle.cx_syntax.proofs.Depth.{heads_args}
use Rattle.cx_syntax.proofs.Lists.{args_there}
use Rattle.cx_syntax.proofs.Exact.{sound}
use Rattle.cx_syntax_vars.specs.Ahead.{type_made_at}
use Rattle.cx_syntax_vars.specs.Readers as s
use Rattle.cx_syntax_vars.specs.Values.{list_of}
use Rattle.cx_parser_vars.specs.Parts.{no_args_at, no_args_by, refused_at}

-- ---- a list that begins no spelling is refused where it begins

module _ {A : Type 0} {L : Family Lexeme A} {p : Lexeme → Bool} (left : ℕ) (h : Heads L p) (ts : List Lexeme) (unseen : sees p ts ≡ false) where
  unlike : (t : Lexeme) (rest : List Lexeme) → ts ≡ t ∷ rest → p t ≡ true → ⊥
  unlike t rest e f = let c : true ≡ false = sym f ∙ (sym (ap (sees p) e) ∙ unseen) in cc

  unspelled : (used rest : List Lexeme) (v : A) → ts ≡ used ++ rest → (L left).spells used v → ⊥
  unspelled [] rest v e z = h.full left v z
  unspelled (t ∷ used) rest v e z = unlike t (used ++ rest) e (h.spells left t used v z)

  none_used : (used rest : List Lexeme) → ts ≡ used ++ rest → ((x y : List Lexeme) → used ≡ x ++ y → (L left).begins x) → used ≡ []
  none_used [] rest e b = refl
  none_used (t ∷ used) rest e b = absurd (unlike t (used ++ rest) e (h.begins left t [] (b (t ∷ []) used refl)))

  refused_by : (go : A → Lexeme → Bool) (o : Outcome Lexeme A) → Exact L go left ts o → o ≡ stop Syntax (length ts)
  refused_by go (done v rest) d = absurd (unspelled d.used rest v d.core.cut (d.spells left (omega arith)))
  refused_by go (stop rule l) d =
      let none = none_used d.used d.rest d.core.cut (d.core.begins left (omega arith)) in
      let whole : ts ≡ d.rest = d.core.cut ∙ ap (λ u. u ++ d.rest) none in
      let size : l ≡ length ts = sym d.size ∙ ap length (sym whole) in
      elim d.is [
        | inl e ↦ ap (λ q. stop q l) e ∙ ap (stop Syntax) size
        | inr e ↦ let deep = d.deep e in let P : List Lexeme → Type 0 = λ u. (L deep.enough).begins (u ++ deep.token ∷ []) in
            absurd (unlike deep.token deep.after (whole ∙ deep.is) (h.begins deep.enough deep.token [] (subst P none (deep.begins deep.enough (omega arith)))))
      ]

  refused : {go : A → Lexeme → Bool} {read : Reader Lexeme A} → Exactly L go left read → read ts ≡ stop Syntax (length ts)
  refused {go = go} {read = read} g = refused_by go (read ts) (g.at ts)

-- ---- what stands between parentheses

-- the list, and the parenthesis behind it
abbrev closed : {A : Type 0} → Outcome Lexeme A → Outcome Lexeme A
closed {A = A} o = made (λ (pair : A × Unit {0}). pair.0) (o >>= (λ a rest. made (λ b. (a, b)) (the (is k.CloseParen) rest)))

-- the parenthesis before it, which is there where b is true
abbrev opened : {A : Type 0} → Bool → Lexeme → List Lexeme → Reader Lexeme A → Outcome Lexeme A
opened {A = A} b t rest read = made (λ (pair : Unit {0} × A). pair.1) (token_by (if b then Some tt else None) t rest >>= (λ u after. made (λ (v : A). (u, v)) (closed (read after))))

abbrev spanned : {A : Type 0} → List Lexeme → Outcome Lexeme A → Outcome Lexeme (A × Span)
spanned ts o = o >>= (λ v rest. done (v, span_of (taken ts rest)) rest)

-- what is read from the parenthesis on, where `rest` behind it gives o
abbrev inside : {A : Type 0} → Lexeme → List Lexeme → Outcome Lexeme A → Outcome Lexeme (A × Span)
inside t rest o = spanned (t ∷ rest) (opened true t rest (λ after. o))

close_same : (ts : List Lexeme) (v : List Expr) (o : Outcome Lexeme (Unit {0}))
    → made args_of (spanned ts (made (λ (pair : Unit {0} × Option (List Expr)). pair.1) (made (λ w. (tt, w)) (made (λ (pair : Option (List Expr) × Unit {0}). pair.0) (made (λ b. (Some v, b)) o)))))
    ≡ made list_of (spanned ts (made (λ (pair : Unit {0} × List Expr). pair.1) (made (λ w. (tt, w)) (made (λ (pair : List Expr × Unit {0}). pair.0) (made (λ b. (v, b)) o)))))
close_same ts v (done u rest) = refl
close_same ts v (stop rule left) = refl

made_same : (t : Lexeme) (rest : List Lexeme) (o : Outcome Lexeme (List Expr)) → made args_of (inside t rest (made Some o)) ≡ made list_of (inside t rest o)
made_same t rest (done v after) = close_same (t ∷ rest) v (the (is k.CloseParen) after)
made_same t rest (stop rule left) = refl

abbrev maybe_args : ℕ → Reader Lexeme (Option (List Expr))
maybe_args left = maybe_if (of class_at starts_assign) (r.args (r.deeper left))

module _ (left : ℕ) (t : Lexeme) (rest : List Lexeme) where
  args_by : (b : Bool) → is k.OpenParen t ≡ b → r.paren_args (r.deeper left) (t ∷ rest) ≡ made args_of (spanned (t ∷ rest) (opened b t rest (maybe_args left)))
  unfolding r.paren_args
  args_by b e = ap (λ c. made args_of (spanned (t ∷ rest) (opened c t rest (maybe_args left)))) e

  module _ (there : (r.deeper left).room ≡ true) where
    init_by : (b : Bool) → is k.OpenParen t ≡ b → s.paren_init left (t ∷ rest) ≡ made list_of (spanned (t ∷ rest) (opened b t rest (s.init_args left)))
    unfolding s.paren_init
    init_by b e = ap (λ c. if c then made list_of (spanned (t ∷ rest) (opened (is k.OpenParen t) t rest (s.init_args left))) else stop Nesting (length (t ∷ rest))) there
        ∙ ap (λ c. made list_of (spanned (t ∷ rest) (opened c t rest (s.init_args left)))) e

    init_as : (o : Outcome Lexeme (List Expr)) → is k.OpenParen t ≡ true → s.init_args left rest ≡ o → s.paren_init left (t ∷ rest) ≡ made list_of (inside t rest o)
    init_as o e q = init_by true e ∙ ap (λ z. made list_of (inside t rest z)) q

    args_refused : sees (of class_at starts_assign) rest ≡ false → r.args (r.deeper left) rest ≡ stop Syntax (length rest)
    unfolding r.args
    args_refused unseen = ap (λ b. guarded b (separated_by (is k.Comma) (r.deeper left).assign) rest) there ∙ refused left heads_args rest unseen (args_there left (sound left) there)

    -- the list is not begun, or it begins with a type that something is made of
    refused_at_first : (m : Option ℕ) (c : Bool) (l : ℕ) → type_made_at rest ≡ m → sees (of class_at starts_assign) rest ≡ c → no_args_by m rest ≡ Some l → s.init_args left rest ≡ stop Syntax l
    unfolding s.init_args
    refused_at_first (Some first) c l e f g = ap (λ o. s.args_by left o rest) e ∙ (let same : first ≡ l = cc in ap (stop Syntax) same)
    refused_at_first None true l e f g = absurd (let some : None ≡ Some l = sym (ap (λ b. if b then None else Some (length rest)) f) ∙ g in cc)
    refused_at_first None false l e f g = ap (λ o. s.args_by left o rest) e ∙ (args_refused f ∙ (let some : Some (length rest) ≡ Some l = sym (ap (λ b. if b then None else Some (length rest)) f) ∙ g in let same : length rest ≡ l = cc in ap (stop Syntax) same))

    -- neither is so
    args_same : (m : Option ℕ) (c : Bool) → type_made_at rest ≡ m → sees (of class_at starts_assign) rest ≡ c → no_args_by m rest ≡ None → maybe_args left rest ≡ made Some (s.init_args left rest)
    unfolding s.init_args
    args_same (Some first) c e f g = cc
    args_same None false e f g = absurd (let some : Some (length rest) ≡ None = sym (ap (λ b. if b then None else Some (length rest)) f) ∙ g in cc)
    args_same None true e f g = ap (λ b. if b then made Some (r.args (r.deeper left) rest) else done None rest) f ∙ sym (ap (λ o. made Some (s.args_by left o rest)) e)

    refused_first : (b : Bool) (l : ℕ) → is k.OpenParen t ≡ b → refused_at (t ∷ rest) ≡ Some l → s.paren_init left (t ∷ rest) ≡ stop Syntax l
    refused_first true l e q = init_as (stop Syntax l) e (refused_at_first (type_made_at rest) (sees (of class_at starts_assign) rest) l refl refl (sym (ap (λ b. if b then no_args_at rest else None) e) ∙ q))
    refused_first false l e q = absurd (let some : None ≡ Some l = sym (ap (λ b. if b then no_args_at rest else None) e) ∙ q in cc)

    same_first : (b : Bool) → is k.OpenParen t ≡ b → refused_at (t ∷ rest) ≡ None → r.paren_args (r.deeper left) (t ∷ rest) ≡ s.paren_init left (t ∷ rest)
    same_first true e q = args_by true e ∙ (ap (λ o. made args_of (inside t rest o)) (args_same (type_made_at rest) (sees (of class_at starts_assign) rest) refl refl (sym (ap (λ b. if b then no_args_at rest else None) e) ∙ q))
        ∙ (made_same t rest (s.init_args left rest) ∙ sym (init_by true e)))
    same_first false e q = args_by false e ∙ sym (init_by false e)

module _ (left : ℕ) (there : (r.deeper left).room ≡ true) where
  pub paren_refused : (ts : List Lexeme) (l : ℕ) → refused_at ts ≡ Some l → s.paren_init left ts ≡ stop Syntax l
  paren_refused [] l q = cc
  paren_refused (t ∷ rest) l q = refused_first left t rest there (is k.OpenParen t) l refl q

  pub paren_same : (ts : List Lexeme) → refused_at ts ≡ None → r.paren_args (r.deeper left) ts ≡ s.paren_init left ts
  unfolding s.paren_init r.paren_args
  paren_same [] q = let f : Bool → Outcome Lexeme Args = λ c. if c then stop Syntax 0 else stop Nesting 0 in sym (ap f there)
  paren_same (t ∷ rest) q = same_first left t rest there (is k.OpenParen t) refl q

-- where there is no level deeper
pub paren_deep : (left : ℕ) (ts : List Lexeme) → (r.deeper left).room ≡ false → s.paren_init left ts ≡ stop Nesting (length ts)
unfolding s.paren_init
paren_deep left ts e = ap (λ c. guarded c (λ us. made list_of (spanned us (s.paren_parts left us))) ts) e
