-- The reader of `sizeof` is exact, given those one level deeper; near the last level an expression in parentheses is not there ([expr.sizeof]).
use Rattle.std.proofs.Common.{◌≡◌, ℕ, zero, suc, ◌≤◌, Bool, true, false, if◌then◌else◌, List, [], ◌∷◌, ◌++◌, length, Some, None, refl, sym, ◌∙◌, ap, subst, inl, inr, arith}
use Rattle.cx_base.specs.declared.rule.Rule.TheVariants.{Syntax, Nesting}
use Rattle.cx_grammar.specs.Language.{the, present, BeginsPresent, none_yet, some, nothing, in_first, in_second, ◌∥◌, ◌⊳◌, ◌⊲◌}
use Rattle.cx_grammar.specs.Exact.{Family, Outcome, stop, Within}
use Rattle.cx_grammar.specs.Reading.{sees}
use Rattle.cx_grammar.specs.Reads.{tail_of}
use Rattle.cx_grammar.proofs.Heads.{heads_before}
use Rattle.cx_grammar.proofs.Parts.{not_nesting}
use Rattle.cx_grammar.proofs.Unless.{within_trans}
use Rattle.cx_grammar.proofs.Steps.{Exactly, ExactlyAt, exactly_made}
use Rattle.cx_grammar.proofs.Choices.{Right, right_of, right_two, exactly_on}
use Rattle.cx_grammar.proofs.Levels.{there_present, present_at, begun_by}
use Rattle.cx_tree.specs.declared.exprs.ExprKind.TheVariants as e
use Rattle.cx_syntax.specs.declared.class.Class.TheVariants as k
use Rattle.cx_syntax.specs.declared.lexeme.Lexeme.{Lexeme}
use Rattle.cx_syntax.specs.Classes.{is, same_class}
use Rattle.cx_syntax.specs.Ahead.{type_ahead, type_fault, fault_at}
use Rattle.cx_syntax.specs.Sets.{is_prefix, starts_unary, starts_head}
use Rattle.cx_syntax.specs.Values.{span_of, closed_kind, sizeof_operand, Operand}
use Rattle.cx_syntax.specs.Grammar as g
use Rattle.cx_syntax.specs.Readers as r
use Rattle.cx_syntax.specs.Readers.{just}
use Rattle.cx_syntax.proofs.Basics.{at, exactly_pair, exactly_stays, exactly_choice}
use Rattle.cx_syntax.proofs.Valued.{exactly_spanned, exactly_led}
use Rattle.cx_syntax.specs.Goes.{goes_operand}
use Rattle.cx_syntax.proofs.Depth as h
use Rattle.cx_syntax.proofs.Begins as b
use Rattle.cx_syntax.proofs.Lists.{Sound, exactly_deep}
use Rattle.cx_syntax.proofs.Beside.{covers_present, first_begun, second_begun}
use Rattle.cx_syntax.proofs.Fronts.{Never, never_covers, never_elsewhere, never_as, never_measured, never_present, never_led, never_below, none_front}
use Rattle.cx_syntax.proofs.TypeOrExpr.{TypeFront, ExprFront, type_front, expr_front, postfix_unary}
use Rattle.cx_syntax.proofs.Operands.{prefix_at, delete_at, exactly_new, exactly_alignof, exactly_sizeof_type, exactly_closed}
use Rattle.cx_syntax.proofs.Casts.{never_unary, never_unary_at, paren_types, never_typeid_at, unary_begun, paren_spelled}

abbrev pub sizeofs : Family Lexeme Operand
sizeofs n = g.sizeof_type (g.deeper n) ∥ g.sizeof_expr (g.deeper n)

-- ---- where the levels leave the type alone, and what stands there is an expression

-- In parentheses an expr goes no further than a typeid, or it goes on with the next token.
pub data Near (u run rest : List Lexeme) : Type 0 where
  syntax : type_fault {A = Operand} u ≡ stop Syntax (length rest) → Never (λ n. (g.deeper n).expr ⊲ is k.CloseParen) u run → Near u run rest
  nesting : (f : Lexeme) (after : List Lexeme) → type_fault {A = Operand} u ≡ stop Nesting (length rest) → rest ≡ f ∷ after
      → ((n : ℕ) → ((g.deeper (suc (suc n))).expr ⊲ is k.CloseParen).begins (run ++ f ∷ [])) → Near u run rest

-- Both begin with `used`, and the type goes no further.
module _ (left : ℕ) (ts used rest : List Lexeme) (cut : ts ≡ used ++ rest) (begun : (n : ℕ) (x y : List Lexeme) → used ≡ x ++ y → (g.sizeof_type (g.deeper n)).begins x) (type : Never (λ n. g.sizeof_type (g.deeper n)) ts used) where
  pub type_ends : (n : ℕ) (x y : List Lexeme) → ts ≡ x ++ y → BeginsPresent (g.sizeof_type (g.deeper n)) x → Within used x
  type_ends n x y e (none_yet c) = none_front used x c
  type_ends n x y e (some st b) = type.ends n x y e b

  pub expr_ends : (never : Never (λ n. g.sizeof_expr (g.deeper n)) ts used) (n : ℕ) (x y : List Lexeme) → ts ≡ x ++ y → BeginsPresent (g.sizeof_expr (g.deeper n)) x → Within used x
  expr_ends never n x y e (none_yet c) = none_front used x c
  expr_ends never n x y e (some st b) = never.ends n x y e b

  -- the expression goes no further either
  pub near_syntax : Never (λ n. g.sizeof_expr (g.deeper n)) ts used → Right sizeofs (goes_operand 0) left ts (stop Syntax (length rest))
  near_syntax expr = record {
    exact = record {
      used = used;
      rest = rest;
      size = refl;
      is = inl refl;
      deep = λ e. absurd (not_nesting e);
      core = record {
        cut = cut;
        begins = λ n p x y e. inl (some refl (begun n x y e));
        only = λ n q x y w e s. elim s [ inl a ↦ absurd (type.only n x y w e a) | inr b ↦ absurd (expr.only n x y w e b) ];
        ends = λ n q x y e s. elim s [ inl a ↦ type_ends n x y e a | inr b ↦ expr_ends expr n x y e b ];
      };
    };
  }

  -- with more levels it goes on with the next token
  pub near_nesting : (f : Lexeme) (after : List Lexeme) → rest ≡ f ∷ after → ((x y : List Lexeme) (w : Operand) → ts ≡ x ++ y → (g.sizeof_expr (g.deeper left)).spells x w → ⊥)
      → ((x y : List Lexeme) → ts ≡ x ++ y → BeginsPresent (g.sizeof_expr (g.deeper left)) x → Within used x)
      → (enough : ℕ) → ((n : ℕ) → enough ≤ n → BeginsPresent (g.sizeof_expr (g.deeper n)) (used ++ f ∷ [])) → Right sizeofs (goes_operand 0) left ts (stop Nesting (length rest))
  near_nesting f after is_next spells ends enough deeper = record {
    exact = record {
      used = used;
      rest = rest;
      size = refl;
      is = inr refl;
      deep = λ e. record { token = f; after = after; is = is_next; enough = enough; begins = λ n p. inr (deeper n p) };
      core = record {
        cut = cut;
        begins = λ n p x y e. inl (some refl (begun n x y e));
        only = λ n q x y w e s. elim s [ inl a ↦ absurd (type.only n x y w e a) | inr b ↦ absurd (let P : ℕ → Type 0 = λ m. (g.sizeof_expr (g.deeper m)).spells x w in spells x y w e (subst P (q refl) b)) ];
        ends = λ n q x y e s. elim s [ inl a ↦ type_ends n x y e a | inr b ↦ (let P : ℕ → Type 0 = λ m. BeginsPresent (g.sizeof_expr (g.deeper m)) x in ends x y e (subst P (q refl) b)) ];
      };
    };
  }

-- ---- at `sizeof`

module _ (t : Lexeme) (is_word : is k.Sizeof t ≡ true) where
  pub word_spelled : (the (is k.Sizeof)).spells (t ∷ []) tt
  word_spelled = record { token = t; alone = refl; fits = ap (λ b. if b then Some tt else None) is_word }

  module _ (p : Lexeme) (u : List Lexeme) (open_paren : is k.OpenParen p ≡ true) where
    pub never_expr : (f : TypeFront u) → Never (λ n. g.sizeof_expr (g.deeper n)) (t ∷ p ∷ u) (t ∷ p ∷ f.run)
    never_expr f = never_as sizeof_operand (never_measured span_of (never_led (is k.Sizeof) t (never_below h.below_unary (never_unary_at p u open_paren f))))

    pub never_type : (f : ExprFront u) → Never (λ n. g.sizeof_type (g.deeper n)) (t ∷ p ∷ u) (t ∷ p ∷ f.run)
    never_type f = never_as closed_kind (never_measured span_of (never_as e.SizeofType (never_led (is k.Sizeof) t (never_typeid_at p u open_paren f))))

    pub type_begun : (f : TypeFront u) (n : ℕ) → (g.sizeof_type (g.deeper n)).begins (t ∷ p ∷ f.run)
    type_begun f n = in_second (t ∷ []) (p ∷ f.run) tt refl word_spelled (paren_types p u open_paren f n)

    pub expr_begun : (f : ExprFront u) (n : ℕ) → (g.sizeof_expr (g.deeper (suc (suc n)))).begins (t ∷ p ∷ f.run)
    expr_begun f n = in_second (t ∷ []) (p ∷ f.run) tt refl word_spelled (unary_begun p u open_paren f n)

    -- ---- near the last level

    pub front_begun : (f : ExprFront u) (n : ℕ) (x y : List Lexeme) → t ∷ p ∷ f.run ≡ x ++ y → (g.sizeof_type (g.deeper n)).begins x
    front_begun f n [] y e = in_first (nothing refl)
    front_begun f n (a ∷ []) y e = let heads : t ≡ a = cc in let P : List Lexeme → Type 0 = λ l. (g.sizeof_type (g.deeper n)).begins l in
        subst P (ap (λ z. z ∷ []) heads) (begun_by (λ m. is k.OpenParen ⊳ g.typeid (g.deeper m) ⊲ is k.CloseParen) (is k.Sizeof) t is_word n)
    front_begun f n (a ∷ c ∷ x) y e = let heads : t ≡ a = cc in let seconds : p ≡ c = cc in let tails : f.run ≡ x ++ y = cc in let P : List Lexeme → Type 0 = λ l. (g.sizeof_type (g.deeper n)).begins l in
        subst P (ap (λ z. z ∷ p ∷ x) heads ∙ ap (λ z. a ∷ z ∷ x) seconds) (in_second (t ∷ []) (p ∷ x) tt refl word_spelled (in_second (p ∷ []) x tt refl (paren_spelled p u open_paren) (in_first (f.types n x y tails))))

    pub deep_begun : (run : List Lexeme) (f : Lexeme) → ((n : ℕ) → ((g.deeper (suc (suc n))).expr ⊲ is k.CloseParen).begins (run ++ f ∷ [])) → (n : ℕ) → 3 ≤ n → BeginsPresent (g.sizeof_expr (g.deeper n)) (t ∷ p ∷ (run ++ f ∷ []))
    deep_begun run f deeper zero l = absurd (omega arith)
    deep_begun run f deeper (suc zero) l = absurd (omega arith)
    deep_begun run f deeper (suc (suc zero)) l = absurd (omega arith)
    deep_begun run f deeper (suc (suc (suc n))) l = some refl (in_second (t ∷ []) (p ∷ (run ++ f ∷ [])) tt refl word_spelled (postfix_unary (suc (suc n)) (p ∷ (run ++ f ∷ []))
        (in_first (inr (some refl (inr (some refl (inl (some refl (in_second (p ∷ []) (run ++ f ∷ []) tt refl (paren_spelled p u open_paren) (deeper n)))))))))))

    -- at the last two levels no expression in parentheses is there
    pub none_last : (used x y : List Lexeme) → t ∷ p ∷ u ≡ x ++ y → BeginsPresent (g.sizeof_expr (g.deeper 0)) x → Within used x
    none_last used x y e (none_yet c) = none_front used x c
    none_last used x y e (some st b) = let c : false ≡ true = st in cc

    pub paren_none : Never (λ (n : ℕ). present (g.paren (g.deeper 0))) (p ∷ u) []
    paren_none = record { only = λ n x y w e z. z.part.part.second.part.first; ends = λ n x y e z. elim z [ none_yet c ↦ none_front [] x c | some st b ↦ absurd (let c : false ≡ true = st in cc) ] }

    pub unary_none : Never (λ (n : ℕ). (g.deeper 1).unary) (p ∷ u) []
    unary_none = let s = never_unary p u open_paren (λ n. 0) [] paren_none in record { only = s.only; ends = s.ends }

    pub before_none : Never (λ (n : ℕ). g.sizeof_expr (g.deeper 1)) (t ∷ p ∷ u) (t ∷ [])
    before_none = never_as sizeof_operand (never_measured span_of (never_led (is k.Sizeof) t unary_none))

    pub before_ends : (run x y : List Lexeme) → t ∷ p ∷ u ≡ x ++ y → BeginsPresent (g.sizeof_expr (g.deeper 1)) x → Within (t ∷ p ∷ run) x
    before_ends run x y e (none_yet c) = none_front (t ∷ p ∷ run) x c
    before_ends run x y e (some st b) = within_trans (t ∷ p ∷ run) (t ∷ []) x (p ∷ run, refl) (before_none.ends 0 x y e b)

    abbrev LastRight : ℕ → Type 0
    LastRight left = Right sizeofs (goes_operand 0) left (t ∷ p ∷ u) (type_fault u)

    module _ (f : ExprFront u) where
      near_by : (left : ℕ) → ((x y : List Lexeme) (w : Operand) → t ∷ p ∷ u ≡ x ++ y → (g.sizeof_expr (g.deeper left)).spells x w → ⊥)
          → ((x y : List Lexeme) → t ∷ p ∷ u ≡ x ++ y → BeginsPresent (g.sizeof_expr (g.deeper left)) x → Within (t ∷ p ∷ f.run) x) → Near u f.run f.rest → LastRight left
      near_by left spells ends (syntax fault s) = let P : Outcome Lexeme Operand → Type 0 = λ o. Right sizeofs (goes_operand 0) left (t ∷ p ∷ u) o in
          subst P (sym fault) (near_syntax left (t ∷ p ∷ u) (t ∷ p ∷ f.run) f.rest (ap (λ l. t ∷ p ∷ l) f.cut) (front_begun f) (never_type f)
          (never_as sizeof_operand (never_measured span_of (never_led (is k.Sizeof) t (never_below h.below_unary (never_unary p u open_paren (λ n. n) (p ∷ f.run) (never_present (never_as e.Paren (never_led (is k.OpenParen) p s)))))))))
      near_by left spells ends (nesting c after fault is_next deeper) = let P : Outcome Lexeme Operand → Type 0 = λ o. Right sizeofs (goes_operand 0) left (t ∷ p ∷ u) o in
          subst P (sym fault) (near_nesting left (t ∷ p ∷ u) (t ∷ p ∷ f.run) f.rest (ap (λ l. t ∷ p ∷ l) f.cut) (front_begun f) (never_type f) c after is_next spells ends 3 (deep_begun f.run c deeper))

      near_last : Near u f.run f.rest → LastRight 0
      near_last s = near_by 0 (λ x y w e z. z.part.part.part.second) (none_last (t ∷ p ∷ f.run)) s

      near_before : Near u f.run f.rest → LastRight 1
      near_before s = near_by 1 (λ x y w e z. before_none.only 0 x y w e z) (before_ends f.run) s

-- ---- the reader

abbrev pub paren_read : ℕ → List Lexeme → List Lexeme → Bool → Outcome Lexeme Operand
paren_read left u ts b = if b then r.sizeof_type (r.deeper left) ts else (if (r.deeper left).room_for_two then r.sizeof_expr (r.deeper left) ts else type_fault u)

pub type_right : (left : ℕ) → Sound left → (ts : List Lexeme) → Right (λ n. present (g.sizeof_type (g.deeper n))) (goes_operand 0) left ts (r.sizeof_type (r.deeper left) ts)
type_right left d ts = there_present refl (λ n. refl) (right_of (exactly_sizeof_type left d) ts)

pub expr_there : (left : ℕ) → Sound left → (r.deeper left).room ≡ true → Exactly (λ n. g.sizeof_expr (g.deeper n)) (goes_operand 0) left (r.sizeof_expr (r.deeper left))
unfolding r.sizeof_expr
expr_there left d there = exactly_made (λ w t. goes_operand 0 w.0 t) (goes_operand 0) sizeof_operand (λ v t i. i) (exactly_spanned span_of (goes_operand 0) (exactly_led (goes_operand 0) (is k.Sizeof) (d.unary there)))

pub has_room : (m : ℕ) → (r.deeper (suc m)).room ≡ true
unfolding r.deeper
has_room m = refl

pub expr_right : (m : ℕ) → Sound (suc m) → (ts : List Lexeme) → Right (λ n. present (g.sizeof_expr (g.deeper n))) (goes_operand 0) (suc m) ts (r.sizeof_expr (r.deeper (suc m)) ts)
expr_right m d ts = right_of (exactly_deep (let l : 1 ≤ suc m = omega arith in l) (λ n. refl) (expr_there (suc m) d (has_room m))) ts

abbrev pub two_by : ℕ → List Lexeme → List Lexeme → Bool → Outcome Lexeme Operand
two_by left u ts b = if b then r.sizeof_expr (r.deeper left) ts else type_fault u

pub no_two : (r.deeper 0).room_for_two ≡ false
unfolding r.deeper
no_two = refl

pub one_left : (r.deeper 1).room_for_two ≡ false
unfolding r.deeper
one_left = refl

pub two_left : (m : ℕ) → (r.deeper (suc (suc m))).room_for_two ≡ true
unfolding r.deeper
two_left m = refl

module _ (near : (u : List Lexeme) → type_ahead u ≡ false → (f : ExprFront u) × Near u f.run f.rest) where
  module _ (t : Lexeme) (is_word : is k.Sizeof t ≡ true) (p : Lexeme) (u : List Lexeme) (open_paren : is k.OpenParen p ≡ true) where
    pub expr_paren : (left : ℕ) → Sound left → type_ahead u ≡ false → Right sizeofs (goes_operand 0) left (t ∷ p ∷ u) (two_by left u (t ∷ p ∷ u) (r.deeper left).room_for_two)
    expr_paren zero d e = let n = near u e in let P : Bool → Type 0 = λ b. Right sizeofs (goes_operand 0) 0 (t ∷ p ∷ u) (two_by 0 u (t ∷ p ∷ u) b) in subst P (sym no_two) (near_last t is_word p u open_paren n.0 n.1)
    expr_paren (suc zero) d e = let n = near u e in let P : Bool → Type 0 = λ b. Right sizeofs (goes_operand 0) 1 (t ∷ p ∷ u) (two_by 1 u (t ∷ p ∷ u) b) in subst P (sym one_left) (near_before t is_word p u open_paren n.0 n.1)
    expr_paren (suc (suc m)) d e = let f = expr_front u e in let P : Bool → Type 0 = λ b. Right sizeofs (goes_operand 0) (suc (suc m)) (t ∷ p ∷ u) (two_by (suc (suc m)) u (t ∷ p ∷ u) b) in
        subst P (sym (two_left m)) (second_begun (expr_right (suc m) d (t ∷ p ∷ u)) (t ∷ p ∷ f.run) f.rest (ap (λ l. t ∷ p ∷ l) f.cut) (covers_present (never_covers (goes_operand 0) (never_type t is_word p u open_paren f)))
        (some refl (expr_begun t is_word p u open_paren f m)))

    pub paren_at : (left : ℕ) → Sound left → (b : Bool) → type_ahead u ≡ b → Right sizeofs (goes_operand 0) left (t ∷ p ∷ u) (paren_read left u (t ∷ p ∷ u) b)
    paren_at left d true e = let f = type_front u e in first_begun (type_right left d (t ∷ p ∷ u)) (t ∷ p ∷ f.run) f.rest (ap (λ l. t ∷ p ∷ l) f.cut)
        (covers_present (never_covers (goes_operand 0) (never_expr t is_word p u open_paren f))) (some refl (type_begun t is_word p u open_paren f left))
    paren_at left d false e = expr_paren left d e

  -- no parenthesis stands behind the word
  abbrev unary_read : List Lexeme → Bool → ℕ → List Lexeme → Outcome Lexeme Operand
  unary_read v b left ts = if b then r.sizeof_expr (r.deeper left) ts else fault_at starts_unary v

  pub no_room : (r.deeper 0).room ≡ false
  unfolding r.deeper
  no_room = refl

  module _ (t : Lexeme) (is_word : is k.Sizeof t ≡ true) (v : List Lexeme) (no_paren : sees (is k.OpenParen) v ≡ false) where
    pub type_only : Never (λ n. g.sizeof_type (g.deeper n)) (t ∷ v) (t ∷ [])
    type_only = never_as closed_kind (never_measured span_of (never_as e.SizeofType (never_led (is k.Sizeof) t (never_elsewhere (heads_before {G = λ n. g.typeid (g.deeper n) ⊲ is k.CloseParen} (is k.OpenParen)) v no_paren []))))

    pub word_begun : (n : ℕ) (x y : List Lexeme) → t ∷ [] ≡ x ++ y → (g.sizeof_type (g.deeper n)).begins x
    word_begun n [] y e = in_first (nothing refl)
    word_begun n (a ∷ []) y e = let heads : t ≡ a = cc in let P : List Lexeme → Type 0 = λ l. (g.sizeof_type (g.deeper n)).begins l in
        subst P (ap (λ z. z ∷ []) heads) (begun_by (λ m. is k.OpenParen ⊳ g.typeid (g.deeper m) ⊲ is k.CloseParen) (is k.Sizeof) t is_word n)
    word_begun n (a ∷ c ∷ x) y e = cc

    pub none_begun : (x y : List Lexeme) → t ∷ v ≡ x ++ y → BeginsPresent (g.sizeof_expr (g.deeper 0)) x → Within (t ∷ []) x
    none_begun x y e (none_yet c) = none_front (t ∷ []) x c
    none_begun x y e (some st b) = let c : false ≡ true = st in cc

    pub next_begun : (f : Lexeme) → at starts_unary f ≡ true → (n : ℕ) → 2 ≤ n → BeginsPresent (g.sizeof_expr (g.deeper n)) (t ∷ f ∷ [])
    next_begun f s zero l = absurd (omega arith)
    next_begun f s (suc zero) l = absurd (omega arith)
    next_begun f s (suc (suc n)) l = some refl (in_second (t ∷ []) (f ∷ []) tt refl (word_spelled t is_word) (b.begins_unary f n s))

    abbrev fault_right : Bool → Type 0
    fault_right c = Right sizeofs (goes_operand 0) 0 (t ∷ v) (stop (if c then Nesting else Syntax) (length v))

    pub last_seen : (w : List Lexeme) → v ≡ w → sees (at starts_unary) w ≡ true → fault_right true
    last_seen [] e s = absurd (let c : false ≡ true = s in cc)
    last_seen (f ∷ after) e s = near_nesting 0 (t ∷ v) (t ∷ []) v refl word_begun type_only f after e (λ x y w c z. z.part.part.part.second) none_begun 2 (next_begun f s)

    pub last_by : (c : Bool) → sees (at starts_unary) v ≡ c → fault_right c
    last_by false e = near_syntax 0 (t ∷ v) (t ∷ []) v refl word_begun type_only (never_as sizeof_operand (never_measured span_of (never_led (is k.Sizeof) t (never_elsewhere h.heads_deep_unary v e []))))
    last_by true e = last_seen v refl e

    pub unary_at : (left : ℕ) → Sound left → Right sizeofs (goes_operand 0) left (t ∷ v) (unary_read v (r.deeper left).room left (t ∷ v))
    unary_at zero d = let P : Bool → Type 0 = λ b. Right sizeofs (goes_operand 0) 0 (t ∷ v) (unary_read v b 0 (t ∷ v)) in subst P (sym no_room) (last_by (sees (at starts_unary) v) refl)
    unary_at (suc m) d = let P : Bool → Type 0 = λ b. Right sizeofs (goes_operand 0) (suc m) (t ∷ v) (unary_read v b (suc m) (t ∷ v)) in
        subst P (sym (has_room m)) (second_begun (expr_right m d (t ∷ v)) (t ∷ []) v refl (covers_present (never_covers (goes_operand 0) type_only)) (some refl (begun_by (λ n. (g.deeper n).unary) (is k.Sizeof) t is_word (suc m))))

  -- ---- the choice behind the word

  pub sizeof_by : (left : ℕ) → Sound left → (t : Lexeme) → is k.Sizeof t ≡ true → (v : List Lexeme) (b : Bool) → sees (is k.OpenParen) v ≡ b
      → Right sizeofs (goes_operand 0) left (t ∷ v) (if b then paren_read left (tail_of v) (t ∷ v) (type_ahead (tail_of v)) else unary_read v (r.deeper left).room left (t ∷ v))
  sizeof_by left d t is_word [] true s = absurd (let c : false ≡ true = s in cc)
  sizeof_by left d t is_word (p ∷ u) true s = paren_at t is_word p u s left d (type_ahead u) refl
  sizeof_by left d t is_word v false s = unary_at t is_word v s left d

  pub sizeof_at : (left : ℕ) → Sound left → ExactlyAt (at (just k.Sizeof)) (λ n. present (sizeofs n)) (goes_operand 0) left (r.sizeof (r.deeper left))
  unfolding r.sizeof
  sizeof_at left d = exactly_on (at (just k.Sizeof)) (r.sizeof (r.deeper left)) (λ t v s. right_two (sizeof_by left d t s v (sees (is k.OpenParen) v) refl))

  pub exactly_unary : (left : ℕ) → Sound left → Exactly (λ n. g.unary (g.deeper n)) (goes_operand 0) left (r.unary (r.deeper left))
  unfolding r.unary same_class
  exactly_unary left d = exactly_choice is_prefix h.starts_delete_or_more refl h.heads_prefix h.heads_delete_or_more (prefix_at left d)
      (exactly_pair (exactly_choice (just k.Delete) h.starts_new_or_more refl h.heads_delete h.heads_new_or_more (delete_at left d)
      (exactly_pair (exactly_choice (just k.New) h.starts_alignof_or_more refl h.heads_new h.heads_alignof_or_more (present_at refl (λ n. refl) (exactly_new left d))
      (exactly_pair (exactly_choice (just k.Alignof) h.starts_sizeof_or_head refl h.heads_alignof h.heads_sizeof_or_head (present_at refl (λ n. refl) (exactly_alignof left d))
      (exactly_pair (exactly_choice (just k.Sizeof) starts_head refl h.heads_sizeof h.heads_closed (sizeof_at left d) (exactly_stays refl (λ n. refl) (exactly_closed left d))))))))))
