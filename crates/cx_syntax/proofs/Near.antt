-- Near the last level: where an expression in parentheses stands and only a type may, the fault is the token that the expression goes on with.
use Rattle.std.proofs.Common.{◌≡◌, ℕ, suc, ◌≤◌, Bool, true, false, not, ◌||◌, if◌then◌else◌, List, [], ◌∷◌, ◌++◌, length, refl, sym, ◌∙◌, ap, subst, inl, inr, arith, length-append, append_assoc}
use Rattle.std.proofs.lemmas.List.{append-nil}
use Rattle.cx_base.specs.declared.rule.Rule.TheVariants.{Syntax, Nesting}
use Rattle.cx_grammar.specs.Language.{in_first, in_second, ◌⊲◌}
use Rattle.cx_grammar.specs.Exact.{Outcome, done, stop, Exact, Within}
use Rattle.cx_grammar.specs.Reading.{sees}
use Rattle.cx_grammar.specs.Reads.{tail_of}
use Rattle.cx_grammar.specs.Sets.{by}
use Rattle.cx_grammar.proofs.Lists.{splits}
use Rattle.cx_grammar.proofs.Heads.{Apart, heads_the, same_sub}
use Rattle.cx_grammar.proofs.Unless.{front_by}
use Rattle.cx_tree.specs.declared.names.TypeName.{TypeName}
use Rattle.cx_tree.specs.declared.exprs.ExprKind.{ExprKind}
use Rattle.cx_syntax.specs.declared.class.Class.{Class}
use Rattle.cx_syntax.specs.declared.class.Class.TheVariants as k
use Rattle.cx_syntax.specs.declared.lexeme.Lexeme.{Lexeme}
use Rattle.cx_syntax.specs.Classes.{is, same_class}
use Rattle.cx_syntax.specs.Ahead.{type_ahead, type_fault, fault_at, qtype_end, ends_bare}
use Rattle.cx_syntax.specs.Sets.{is_word, is_operator_word, begins_type, starts_name, starts_id_expression, starts_given, starts_assign, follows_name}
use Rattle.cx_syntax.specs.Values.{Operand, word_of}
use Rattle.cx_syntax.specs.Grammar as g
use Rattle.cx_syntax.specs.Readers as r
use Rattle.cx_syntax.specs.Readers.{just}
use Rattle.cx_syntax.proofs.Basics.{at, apart, sub}
use Rattle.cx_syntax.proofs.Names.{goes_name}
use Rattle.cx_syntax.proofs.Depth as h
use Rattle.cx_syntax.proofs.Begins as b
use Rattle.cx_syntax.proofs.Beside.{reach, used_holds, begins_in, reach_within}
use Rattle.cx_syntax.proofs.Fronts.{Blocked, Short, Never, never_short, never_as, never_elsewhere, never_both, never_ended, short_more, short_done, short_stop, short_below}
use Rattle.cx_syntax.proofs.Primary.{exactly_id, stopped}
use Rattle.cx_syntax.proofs.TypeOrExpr.{ExprFront, starts_other, starts_primary, goes_past, unseen_by, seen_head, short_expr, short_head_kind, head_expr, made_head, id_head, type_head, word_read, expr_at_word, qtype_read, expr_at_type, expr_at_other, qtype_stop, front_at, not_false}
use Rattle.cx_syntax.proofs.NameFaults.{NameFault, behind_type, behind_id, behind_scope, at_first, name_fault_of, word_fault}
use Rattle.cx_syntax.proofs.Following.{given_begun, name_goes_on}
use Rattle.cx_syntax.proofs.Sizeof.{Near, syntax, nesting}

abbrev pub NearFront : List Lexeme → Type 0
NearFront u = (f : ExprFront u) × Near u f.run f.rest

pub fault_is : (goes : Class → Bool) (rest : List Lexeme) (b : Bool) → sees (at goes) rest ≡ b → fault_at {A = Operand} goes rest ≡ stop (if b then Nesting else Syntax) (length rest)
fault_is goes rest b e = ap (λ c. stop (if c then Nesting else Syntax) (length rest)) e

-- ---- a word or a type's name with what an object is made from behind it

pub nothing_more : (d y b : List Lexeme) → b ≡ d ++ y → length y ≡ length b → d ≡ []
nothing_more [] y b e l = refl
nothing_more (t ∷ d) y b e l = let m = ap length e in let n = length-append (t ∷ d) y in absurd (omega arith)

pub near_word : (t : Lexeme) (rest : List Lexeme) (is_it : is_word t.class ≡ true) → sees (at starts_given) rest ≡ true → NearFront (t ∷ rest)
near_word t [] is_it e = absurd (let c : false ≡ true = e in cc)
near_word t (c ∷ after) is_it e = let rest = c ∷ after in let f = front_at (expr_at_word t rest is_it e) in let w = word_read t rest is_it in (
  f,
  nesting c after (ap (λ b. word_fault b (sees (is k.ColonColon) (t ∷ rest)) (t ∷ rest)) is_it ∙ fault_is starts_given rest true e) refl
      (λ n. in_first (head_expr (suc n) (w.used ++ c ∷ []) (made_head (suc n) (w.used ++ c ∷ []) (in_second w.used (c ∷ []) (word_of t) refl (w.spells 0 (omega arith)) (given_begun c (suc n) e))))),
)

pub near_type : (u rest : List Lexeme) (v : TypeName) (a : r.qtype u ≡ done v rest) → sees (at begins_type) u ≡ false → sees (at starts_given) rest ≡ true → type_fault {A = Operand} u ≡ fault_at starts_given rest → NearFront u
near_type u [] v a none e o = absurd (let c : false ≡ true = e in cc)
near_type u (c ∷ after) v a none e o = let rest = c ∷ after in let f = front_at (expr_at_type u rest v a none e) in let w = qtype_read u rest v a in (
  f,
  nesting c after (o ∙ fault_is starts_given rest true e) refl
      (λ n. in_first (head_expr (suc n) (w.used ++ c ∷ []) (type_head (suc n) (w.used ++ c ∷ []) (in_second w.used (c ∷ []) v refl (w.spells (suc n) (omega arith)) (given_begun c (suc n) e))))),
)

-- ---- other names

-- two cuts of one list behind which as many tokens are left
pub same_used : (x y a b : List Lexeme) → x ++ y ≡ a ++ b → length y ≡ length b → (x ≡ a) × (y ≡ b)
same_used x y a b e l = elim (splits x y a b e) [
  | inl (d, p, q) ↦ let n = nothing_more d y b q l in (p ∙ (ap (λ z. a ++ z) n ∙ append-nil a), sym (q ∙ ap (λ z. z ++ y) n))
  | inr (d, p, q) ↦ let n = nothing_more d b y q (sym l) in (sym (p ∙ (ap (λ z. x ++ z) n ∙ append-nil x)), q ∙ ap (λ z. z ++ b) n)
]

module _ (u : List Lexeme) (none : sees (at begins_type) u ≡ false) (no_word : sees (at is_word) u ≡ false) where
  module _ (left : ℕ) (a : r.qtype u ≡ stop Syntax left) where
    pub never_made : Never (λ n. g.type_made (g.deeper n)) u (qtype_stop u left a).used
    unfolding same_class
    never_made = never_as _ (never_ended (short_stop (λ n. g.qtype) (at goes_name) (at goes_name) 0 u (same_sub (at goes_name)) left (qtype_stop u left a)) h.heads_given (apart goes_name starts_given refl))

    -- an expr that ends as the name does goes no further
    pub never_named : (q : Class → Bool) → Apart (at q) (at goes_past) → Apart (at q) (at (just k.CloseParen)) → sees (at starts_id_expression) u ≡ true → Short (λ n. g.id_expression (g.deeper n)) (at q) u (qtype_stop u left a).used
        → Never (λ n. (g.deeper n).expr ⊲ is k.CloseParen) u (qtype_stop u left a).used
    unfolding same_class
    never_named q past close first s = never_as _ (never_ended (short_below h.below_expr (short_expr q past u (qtype_stop u left a).used (unseen_by (apart starts_id_expression starts_other refl) u first)
        (short_head_kind q u (qtype_stop u left a).used (unseen_by (apart starts_id_expression starts_primary refl) u first) (never_short (at q) (never_elsewhere h.heads_word_made u no_word (qtype_stop u left a).used)) s (never_short (at q) never_made)))) (heads_the (is k.CloseParen)) close)

  -- ---- the last name is an ID

  abbrev not_following : Class → Bool
  not_following c = not (follows_name c)

  pub blocked_at : (y : List Lexeme) → sees (at follows_name) y ≡ false → Blocked (at not_following) y
  blocked_at [] e = λ t r c. cc
  blocked_at (v ∷ y) e = λ t r c. let same_token : v ≡ t = cc in subst (λ z. at not_following z ≡ true) same_token (ap not e)

  module _ (rest : List Lexeme) (w : ExprKind) (a : r.qtype u ≡ stop Syntax (length rest)) (b : r.id_expression (r.deeper 0) u ≡ done w rest) (o : type_fault {A = Operand} u ≡ fault_at follows_name rest) where
    pub id_read : Exact (λ n. g.id_expression (g.deeper n)) (by (at goes_name)) 0 u (done w rest)
    id_read = let P : Outcome Lexeme ExprKind → Type 0 = λ z. Exact (λ n. g.id_expression (g.deeper n)) (by (at goes_name)) 0 u z in subst P b ((exactly_id 0 (r.deeper 0)).at u)

    pub id_cut : ((qtype_stop u (length rest) a).used ≡ id_read.used) × ((qtype_stop u (length rest) a).rest ≡ rest)
    id_cut = let s = qtype_stop u (length rest) a in same_used s.used s.rest id_read.used rest (sym s.core.cut ∙ id_read.core.cut) s.size

    pub id_reach : reach (r.id_expression (r.deeper 0) u) ≤ length rest
    id_reach = let l = ap reach b in omega arith

    pub id_first : sees (at starts_id_expression) u ≡ true
    id_first = seen_head h.heads_id_expression 0 id_read.used rest u w id_read.core.cut (id_read.spells 0 (omega arith))

    abbrev id_front : ExprFront u
    id_front = front_at (expr_at_other u (length rest) a id_reach none no_word)

    pub id_syntax : sees (at follows_name) rest ≡ false → Near u (qtype_stop u (length rest) a).used (qtype_stop u (length rest) a).rest
    unfolding same_class
    id_syntax e = let s = qtype_stop u (length rest) a in syntax (o ∙ (fault_is follows_name rest false e ∙ ap (stop Syntax) (sym s.size)))
        (never_named (length rest) a not_following (apart not_following goes_past refl) (apart not_following (just k.CloseParen) refl) id_first
        (short_more (let P : List Lexeme → Type 0 = λ x. Within s.used x in subst P id_cut.0 ([], sym (append-nil s.used)))
        (short_done (λ n. g.id_expression (g.deeper n)) (at goes_name) (at not_following) 0 u (sub goes_name not_following refl) w rest id_read (blocked_at rest e))))

    pub id_nesting : (f : Lexeme) (after : List Lexeme) → rest ≡ f ∷ after → at follows_name f ≡ true → Near u (qtype_stop u (length rest) a).used (qtype_stop u (length rest) a).rest
    id_nesting f after c e = let s = qtype_stop u (length rest) a in
        nesting f after (o ∙ (fault_is follows_name rest true (ap (sees (at follows_name)) c ∙ e) ∙ ap (stop Nesting) (sym s.size))) (id_cut.1 ∙ c)
        (λ n. let P : List Lexeme → Type 0 = λ x. ((g.deeper (suc (suc n))).expr ⊲ is k.CloseParen).begins (x ++ f ∷ []) in subst P (sym id_cut.0) (name_goes_on n id_read.used w (id_read.spells (suc n) (omega arith)) f e))

    pub id_near : (y : List Lexeme) → rest ≡ y → (c : Bool) → sees (at follows_name) y ≡ c → Near u (qtype_stop u (length rest) a).used (qtype_stop u (length rest) a).rest
    id_near y e false c = id_syntax (ap (sees (at follows_name)) e ∙ c)
    id_near [] e true c = absurd (let z : false ≡ true = c in cc)
    id_near (f ∷ after) e true c = id_nesting f after e c

  -- ---- `::` comes last

  module _ (front rest : List Lexeme) (cut : u ≡ front ++ rest) (first : sees (at starts_name) u ≡ true) (a : r.qtype u ≡ stop Syntax (length rest)) (o : type_fault {A = Operand} u ≡ fault_at is_operator_word rest)
      (stops : sees (at is_operator_word) rest ≡ false → r.id_expression (r.deeper 0) u ≡ stop Syntax (length rest))
      (goes : (f : Lexeme) (after : List Lexeme) → rest ≡ f ∷ after → at is_operator_word f ≡ true → reach (r.id_expression (r.deeper 0) u) ≤ length after)
    where
      scope_cut : ((qtype_stop u (length rest) a).used ≡ front) × ((qtype_stop u (length rest) a).rest ≡ rest)
      scope_cut = let s = qtype_stop u (length rest) a in same_used s.used s.rest front rest (sym s.core.cut ∙ cut) s.size

      starts_expression : (ts : List Lexeme) → sees (at starts_name) ts ≡ true → sees (at starts_id_expression) ts ≡ true
      starts_expression [] e = e
      starts_expression (t ∷ ts) e = sub starts_name starts_id_expression refl t e

      scope_syntax : sees (at is_operator_word) rest ≡ false → Near u (qtype_stop u (length rest) a).used (qtype_stop u (length rest) a).rest
      unfolding same_class
      scope_syntax e = let s = qtype_stop u (length rest) a in let i = stopped (exactly_id 0 (r.deeper 0)) u (length rest) (stops e) in syntax (o ∙ (fault_is is_operator_word rest false e ∙ ap (stop Syntax) (sym s.size)))
          (never_named (length rest) a goes_name (apart goes_name goes_past refl) (apart goes_name (just k.CloseParen) refl) (starts_expression u first)
          (short_more (front_by i.used i.rest s.used s.rest (sym i.core.cut ∙ s.core.cut) (let x = i.size in let y = s.size in omega arith))
          (short_stop (λ n. g.id_expression (g.deeper n)) (at goes_name) (at goes_name) 0 u (same_sub (at goes_name)) (length rest) i)))

      scope_nesting : (f : Lexeme) (after : List Lexeme) → rest ≡ f ∷ after → at is_operator_word f ≡ true → Near u (qtype_stop u (length rest) a).used (qtype_stop u (length rest) a).rest
      scope_nesting f after c e = let s = qtype_stop u (length rest) a in let i = (exactly_id 0 (r.deeper 0)).at u in
          let whole : u ≡ (s.used ++ f ∷ []) ++ after = s.core.cut ∙ (ap (λ l. s.used ++ l) (scope_cut.1 ∙ c) ∙ sym (append_assoc s.used (f ∷ []) after)) in
          let d = used_holds (λ n. g.id_expression (g.deeper n)) (by (at goes_name)) 0 u (r.id_expression (r.deeper 0) u) i (s.used ++ f ∷ []) after whole (goes f after c e) in
          nesting f after (o ∙ (fault_is is_operator_word rest true (ap (sees (at is_operator_word)) c ∙ e) ∙ ap (stop Nesting) (sym s.size))) (scope_cut.1 ∙ c)
          (λ n. in_first (head_expr (suc n) (s.used ++ f ∷ []) (id_head (suc n) (s.used ++ f ∷ []) (begins_in (λ n. g.id_expression (g.deeper n)) (by (at goes_name)) 0 u (r.id_expression (r.deeper 0) u) i (suc n) (omega arith) (s.used ++ f ∷ []) d.0 d.1))))

      scope_near : (y : List Lexeme) → rest ≡ y → (c : Bool) → sees (at is_operator_word) y ≡ c → Near u (qtype_stop u (length rest) a).used (qtype_stop u (length rest) a).rest
      scope_near y e false c = scope_syntax (ap (sees (at is_operator_word)) e ∙ c)
      scope_near [] e true c = absurd (let z : false ≡ true = c in cc)
      scope_near (f ∷ after) e true c = scope_nesting f after e c

      scope_by : (y : List Lexeme) → rest ≡ y → (c : Bool) → sees (at is_operator_word) y ≡ c → reach (r.id_expression (r.deeper 0) u) ≤ length rest
      scope_by y e false c = let l = ap reach (stops (ap (sees (at is_operator_word)) e ∙ c)) in omega arith
      scope_by [] e true c = absurd (let z : false ≡ true = c in cc)
      scope_by (f ∷ after) e true c = let g = goes f after e c in let l = ap length e in let m = length-append (f ∷ []) after in omega arith

  -- ---- no name

  module _ (a : r.qtype u ≡ stop Syntax (length u)) (o : type_fault {A = Operand} u ≡ fault_at starts_assign u) where
    pub first_cut : ((qtype_stop u (length u) a).used ≡ []) × ((qtype_stop u (length u) a).rest ≡ u)
    first_cut = let s = qtype_stop u (length u) a in same_used s.used s.rest [] u (sym s.core.cut) s.size

    pub first_near : (y : List Lexeme) → u ≡ y → (c : Bool) → sees (at starts_assign) y ≡ c → Near u (qtype_stop u (length u) a).used (qtype_stop u (length u) a).rest
    first_near y e false c = let s = qtype_stop u (length u) a in let unseen = ap (sees (at starts_assign)) e ∙ c in
        syntax (o ∙ (fault_is starts_assign u false unseen ∙ ap (stop Syntax) (sym s.size))) (never_as _ (never_both _ (never_elsewhere h.heads_deep_expr u unseen s.used)))
    first_near [] e true c = absurd (let z : false ≡ true = c in cc)
    first_near (f ∷ after) e true c = let s = qtype_stop u (length u) a in nesting f after (o ∙ (fault_is starts_assign u true (ap (sees (at starts_assign)) e ∙ c) ∙ ap (stop Nesting) (sym s.size))) (first_cut.1 ∙ e)
        (λ n. let P : List Lexeme → Type 0 = λ x. ((g.deeper (suc (suc n))).expr ⊲ is k.CloseParen).begins (x ++ f ∷ []) in subst P (sym first_cut.0) (in_first (b.begins_expr f n c)))

    pub first_reach : reach (r.id_expression (r.deeper 0) u) ≤ length u
    first_reach = reach_within (λ n. g.id_expression (g.deeper n)) (by (at goes_name)) 0 u (r.id_expression (r.deeper 0) u) ((exactly_id 0 (r.deeper 0)).at u)

-- ---- all

pub near_name : (u : List Lexeme) → sees (at begins_type) u ≡ false → sees (at is_word) u ≡ false → ends_bare (qtype_end u) ≡ false → NameFault u → NearFront u
near_name u none no_word h (behind_type rest v e a o) = near_type u rest v a none (not_false (sees (at starts_given) rest) (sym (ap ends_bare e) ∙ h)) o
near_name u none no_word h (behind_id rest w a b o) = (id_front u none no_word rest w a b o, id_near u none no_word rest w a b o rest refl (sees (at follows_name) rest) refl)
near_name u none no_word h (behind_scope front rest c first a o s goes) = (
  front_at (expr_at_other u (length rest) a (scope_by u none no_word front rest c first a o s goes rest refl (sees (at is_operator_word) rest) refl) none no_word),
  scope_near u none no_word front rest c first a o s goes rest refl (sees (at is_operator_word) rest) refl,
)
near_name u none no_word h (at_first a o) = (front_at (expr_at_other u (length u) a (first_reach u none no_word a o) none no_word), first_near u none no_word a o u refl (sees (at starts_assign) u) refl)

abbrev pub by_word : Bool → List Lexeme → Bool
by_word b u = if b then not (sees (at starts_given) (tail_of u)) else ends_bare (qtype_end u)

pub near_by : (u : List Lexeme) (b c : Bool) → sees (at begins_type) u ≡ b → sees (at is_word) u ≡ c → (b || by_word c u) ≡ false → NearFront u
near_by u true c p q h = absurd (let both : true ≡ false = h in cc)
near_by [] false true p q h = absurd (let both : false ≡ true = q in cc)
near_by (t ∷ rest) false true p q h = near_word t rest q (not_false (sees (at starts_given) rest) h)
near_by u false false p q h = near_name u p q h (name_fault_of u q)

pub near : (u : List Lexeme) → type_ahead u ≡ false → NearFront u
near u h = near_by u (sees (at begins_type) u) (sees (at is_word) u) refl refl h
