-- What goes on with a name that is an expression in parentheses.
use Rattle.std.proofs.Common.{◌≡◌, ℕ, zero, suc, Bool, true, false, not, ◌&&◌, ◌||◌, if◌then◌else◌, List, [], ◌∷◌, ◌++◌, Some, None, refl, sym, ap, inl, inr}
use Rattle.std.proofs.lemmas.List.{append-nil}
use Rattle.cx_grammar.specs.Language.{maybe, trailed, some, whole, in_first, in_second, ◌⊲◌}
use Rattle.cx_grammar.proofs.Levels.{begun_by}
use Rattle.cx_tree.specs.declared.exprs.Expr.{Expr}
use Rattle.cx_tree.specs.declared.exprs.ExprKind.{ExprKind}
use Rattle.cx_syntax.specs.declared.class.Class.{Class}
use Rattle.cx_syntax.specs.declared.class.Class.TheVariants as k
use Rattle.cx_syntax.specs.declared.lexeme.Lexeme.{Lexeme}
use Rattle.cx_syntax.specs.Classes.{is, same_class}
use Rattle.cx_syntax.specs.Linked.{then_first, then_second}
use Rattle.cx_syntax.specs.Sets.{operators, allowed, is_after_new, is_step, is_reach, is_assignment, starts_more, starts_tail, starts_given, follows_name}
use Rattle.cx_syntax.specs.Values.{span_of, expr_of, binary_of, step_of, reach_of, assignment_of}
use Rattle.cx_syntax.specs.Grammar as g
use Rattle.cx_syntax.specs.Readers.{just}
use Rattle.cx_syntax.proofs.Basics.{at, sub, begun_pick, both_true}
use Rattle.cx_syntax.proofs.Depth as h
use Rattle.cx_syntax.proofs.Begins.{or_begins}
use Rattle.cx_syntax.proofs.Chains.{chain_stays}
use Rattle.cx_syntax.proofs.TypeOrExpr.{postfix_unary, unary_cast, cast_chain, chain_expr}

-- the operators of the levels below
abbrev pub level_in : ℕ → Class → Bool
level_in zero c = false
level_in (suc p) c = level_in p c || operators p c

pub or_either : {P : Type 0} (b c : Bool) → (b || c) ≡ true → (b ≡ true → P) → (c ≡ true → P) → P
or_either true c e f h = f refl
or_either false c e f h = h e

pub given_begun : (c : Lexeme) (n : ℕ) → at starts_given c ≡ true → (g.given (g.deeper n)).begins (c ∷ [])
unfolding same_class
given_begun c n e = or_begins (just k.OpenParen c.class) (just k.OpenBrace c.class) (sub starts_given (λ d. just k.OpenParen d || just k.OpenBrace d) refl c e)
    (λ i. some refl (begun_by (λ m. maybe (g.args (g.deeper m)) ⊲ is k.CloseParen) (is k.OpenParen) c i n)) (λ i. some refl (begun_by (λ m. maybe (trailed (is k.Comma) (g.clause (g.deeper m))) ⊲ is k.CloseBrace) (is k.OpenBrace) c i n))

module _ (n : ℕ) (x : List Lexeme) (w : ExprKind) (s : (g.id_expression (g.deeper (suc n))).spells x w) where
  abbrev whole_head : Expr
  whole_head = expr_of (w, span_of x)

  pub head_spelled : (g.head (g.deeper (suc n))).spells x whole_head
  head_spelled = record { value = (w, span_of x); made = refl; part = record { part = inr (inr (inr (inr (inr (inl s))))); measure = refl } }

  pub postfix_spelled : (g.postfix (g.deeper (suc n))).spells x whole_head
  postfix_spelled = record { value = ((whole_head, []), span_of x); made = refl; part = record { part = record { front = x; back = []; cut = sym (append-nil x); first = head_spelled; second = refl }; measure = refl } }

  pub cast_spelled : (g.cast (g.deeper (suc n))).spells x (whole_head, false)
  cast_spelled = inr (inr (inr (inr (inr (inr (record { value = whole_head; made = refl; part = postfix_spelled }))))))

  pub chain_spelled : (p : ℕ) → (g.chain (g.deeper (suc n)) p).spells x (whole_head, false)
  chain_spelled zero = cast_spelled
  chain_spelled (suc p) = record { value = (((whole_head, false), []), span_of x); made = refl; part = record { part = record { front = x; back = []; cut = sym (append-nil x); first = chain_spelled p; second = refl }; measure = refl } }

  pub assign_spelled : (g.assign (g.deeper (suc n))).spells x whole_head
  assign_spelled = inr (record { value = (((whole_head, false), None), span_of x); made = refl; part = record { part = record { front = x; back = []; cut = sym (append-nil x); first = chain_spelled 10; second = inl (record { value = tt; made = refl; part = refl }) }; measure = refl } })

  pub expr_spelled : (g.expr (g.deeper (suc n))).spells x whole_head
  expr_spelled = record { value = ((whole_head, []), span_of x); made = refl; part = record { part = record { front = x; back = []; cut = sym (append-nil x); first = assign_spelled; second = refl }; measure = refl } }

  module _ (f : Lexeme) where
    pub more_begun : at starts_more f ≡ true → (g.more (g.deeper (suc n))).begins (f ∷ [])
    unfolding same_class
    more_begun e = or_begins (just k.OpenBracket f.class) (h.starts_call_or_more f.class) (sub starts_more (λ c. just k.OpenBracket c || h.starts_call_or_more c) refl f e)
        (λ i. some refl (begun_by (λ m. (g.deeper m).expr ⊲ is k.CloseBracket) (is k.OpenBracket) f i (suc n)))
        (λ i. some refl (or_begins (just k.OpenParen f.class) (h.starts_step_or_member f.class) i (λ j. some refl (begun_by (λ m. maybe (g.args (g.deeper m)) ⊲ is k.CloseParen) (is k.OpenParen) f j (suc n)))
        (λ j. some refl (or_begins (is_step f.class) (is_reach f.class) j (λ o. some refl (begun_pick is_step step_of f o)) (λ o. some refl (in_first (begun_pick is_reach reach_of f o)))))))

    pub chain_begun : (x : List Lexeme) → (g.chain (g.deeper (suc n)) 10).begins x → (g.expr (g.deeper (suc n))).begins x
    chain_begun x b = chain_expr (suc n) x (in_first b)

    pub behind_more : at starts_more f ≡ true → (g.expr (g.deeper (suc n))).begins (x ++ f ∷ [])
    behind_more e = chain_begun (x ++ f ∷ []) (cast_chain (suc n) 10 (x ++ f ∷ []) (unary_cast (suc n) (x ++ f ∷ []) (postfix_unary (suc n) (x ++ f ∷ [])
        (in_second x (f ∷ []) whole_head refl head_spelled (record { front = []; back = f ∷ []; cut = refl; turns = []; whole = refl; next = some refl (more_begun e) })))))

    pub chain_next : (p : ℕ) → level_in p f.class ≡ true → (g.chain (g.deeper (suc n)) p).begins (x ++ f ∷ [])
    chain_next zero e = absurd (let c : false ≡ true = e in cc)
    chain_next (suc p) e = or_either (level_in p f.class) (operators p f.class) e (λ i. then_first (chain_next p i))
        (λ i. then_second x (f ∷ []) (whole_head, false) refl (chain_spelled p) (record {
          front = [];
          back = f ∷ [];
          cut = refl;
          turns = [];
          whole = refl;
          next = some (chain_stays p (suc n)) (in_first (begun_pick (allowed p false) binary_of f (both_true (operators p f.class) (not (false && is_after_new f.class)) i refl)));
        }))

    pub tail_begun : at starts_tail f ≡ true → (g.expr (g.deeper (suc n))).begins (x ++ f ∷ [])
    unfolding same_class
    tail_begun e = chain_expr (suc n) (x ++ f ∷ []) (in_second x (f ∷ []) (whole_head, false) refl (chain_spelled 10) (inr (some refl (or_begins (is_assignment f.class) (just k.Question f.class)
        (sub starts_tail (λ c. is_assignment c || just k.Question c) refl f e) (λ i. some refl (in_first (begun_pick is_assignment assignment_of f i))) (λ i. some refl (in_first (begun_by (λ m. (g.deeper m).expr ⊲ is k.Colon) (is k.Question) f i (suc n))))))))

    pub comma_begun : at (just k.Comma) f ≡ true → (g.expr (g.deeper (suc n))).begins (x ++ f ∷ [])
    comma_begun e = in_second x (f ∷ []) whole_head refl assign_spelled (record { front = []; back = f ∷ []; cut = refl; turns = []; whole = refl; next = some refl (begun_by (λ m. g.assign (g.deeper m)) (is k.Comma) f e (suc n)) })

    abbrev InParens : Type 0
    InParens = ((g.deeper (suc (suc n))).expr ⊲ is k.CloseParen).begins (x ++ f ∷ [])

    pub name_goes_on : at follows_name f ≡ true → InParens
    unfolding same_class
    name_goes_on e = or_either (starts_more f.class) (level_in 10 f.class || (starts_tail f.class || (just k.Comma f.class || just k.CloseParen f.class)))
        (sub follows_name (λ c. starts_more c || (level_in 10 c || (starts_tail c || (just k.Comma c || just k.CloseParen c)))) refl f e) (λ i. in_first (behind_more i))
        (λ i. or_either (level_in 10 f.class) (starts_tail f.class || (just k.Comma f.class || just k.CloseParen f.class)) i (λ j. in_first (chain_begun (x ++ f ∷ []) (chain_next 10 j)))
        (λ j. or_either (starts_tail f.class) (just k.Comma f.class || just k.CloseParen f.class) j (λ o. in_first (tail_begun o))
        (λ o. or_either (just k.Comma f.class) (just k.CloseParen f.class) o (λ v. in_first (comma_begun v))
        (λ v. in_second x (f ∷ []) whole_head refl expr_spelled (whole tt (record { token = f; alone = refl; fits = ap (λ b. if b then Some tt else None) v }))))))
