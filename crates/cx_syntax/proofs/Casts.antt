-- The readers of `sizeof`, of unary expressions and of casts are exact, given those one level deeper ([expr.sizeof], [expr.unary], [expr.cast]).
use Rattle.std.proofs.Common.{◌≡◌, ℕ, zero, suc, Bool, true, false, if◌then◌else◌, List, [], ◌∷◌, length, Some, None, refl, sym, ◌∙◌, ap, subst, inl, inr}
use Rattle.cx_base.specs.declared.rule.Rule.TheVariants.{Nesting}
use Rattle.cx_grammar.specs.Language.{the, present, some, in_first, in_second, ◌∥◌, ◌⊳◌, ◌⊲◌}
use Rattle.cx_grammar.specs.Exact.{Family, Outcome, done, stop, Exact}
use Rattle.cx_grammar.specs.Reading.{Reader, made, measured_by, sees, taken, ◌>>=◌, ◌<$>◌ as ◌<$$>◌}
use Rattle.cx_grammar.specs.Reads.{tail_of}
use Rattle.cx_grammar.proofs.Heads.{Heads, Apart, heads_the, never_apart}
use Rattle.cx_grammar.proofs.Steps.{Exactly, exactly_made, exactly_then}
use Rattle.cx_grammar.proofs.Choices.{Right, right_of, second_of_two}
use Rattle.cx_grammar.proofs.Levels.{marked, there_present}
use Rattle.cx_tree.specs.declared.exprs.ExprKind.{ExprKind}
use Rattle.cx_tree.specs.declared.exprs.ExprKind.TheVariants as e
use Rattle.cx_syntax.specs.declared.class.Class.{Class}
use Rattle.cx_syntax.specs.declared.class.Class.TheVariants as k
use Rattle.cx_syntax.specs.declared.lexeme.Lexeme.{Lexeme}
use Rattle.cx_syntax.specs.Classes.{is, same_class}
use Rattle.cx_syntax.specs.Ahead.{type_ahead}
use Rattle.cx_syntax.specs.Sets.{is_literal, is_string, is_cast_word, is_word, is_prefix, starts_unary}
use Rattle.cx_syntax.specs.Values.{span_of, expr_of, postfixed, closed, cast_of, Operand}
use Rattle.cx_syntax.specs.Grammar as g
use Rattle.cx_syntax.specs.Readers as r
use Rattle.cx_syntax.specs.Readers.{just, choose}
use Rattle.cx_syntax.proofs.Basics.{at, apart, choose_first, choose_rest}
use Rattle.cx_syntax.proofs.Names.{goes_name}
use Rattle.cx_syntax.proofs.Valued.{exactly_spanned}
use Rattle.cx_syntax.specs.Goes.{goes_operand}
use Rattle.cx_syntax.proofs.Depth as h
use Rattle.cx_syntax.proofs.Begins as b
use Rattle.cx_syntax.proofs.Lists.{Sound}
use Rattle.cx_syntax.proofs.Beside.{covers_present, first_begun, second_begun, nesting_beside}
use Rattle.cx_syntax.proofs.Fronts.{Never, never_covers, never_elsewhere, never_as, never_measured, never_two, never_pair, never_present, never_both, never_ended, never_led, short_below}
use Rattle.cx_syntax.proofs.TypeOrExpr.{TypeFront, ExprFront, type_front, expr_front, ends_type, unseen_by, postfix_unary}
use Rattle.cx_syntax.proofs.Operands.{exactly_paren_typeid}

-- ---- the ends of the choices

abbrev pub sizeof_or_head : r.Readers → Reader Lexeme Operand
sizeof_or_head d = choose (just k.Sizeof) (r.sizeof d) (r.closed_postfix d)

abbrev pub alignof_or_more : r.Readers → Reader Lexeme Operand
alignof_or_more d = choose (just k.Alignof) (r.alignof_type d) (sizeof_or_head d)

abbrev pub new_or_more : r.Readers → Reader Lexeme Operand
new_or_more d = choose (just k.New) (r.new d) (alignof_or_more d)

abbrev pub delete_or_more : r.Readers → Reader Lexeme Operand
delete_or_more d = choose (just k.Delete) (r.delete d) (new_or_more d)

abbrev pub cast_or_made : r.Readers → Reader Lexeme ExprKind
cast_or_made d = choose is_cast_word (r.word_cast d) (choose is_word (r.word_made d) (r.named_head d))

abbrev pub paren_or_made : r.Readers → Reader Lexeme ExprKind
paren_or_made d = choose (just k.OpenParen) (r.paren d) (cast_or_made d)

abbrev pub string_or_more : r.Readers → Reader Lexeme ExprKind
string_or_more d = choose is_string (r.string d) (paren_or_made d)

pub heads_via : {A : Type 0} {L : Family Lexeme A} {p : Lexeme → Bool} (level : ℕ → ℕ) → Heads L p → Heads (λ n. L (level n)) p
heads_via level h = record { blank = λ n. h.blank (level n); full = λ n. h.full (level n); spells = λ n. h.spells (level n); begins = λ n. h.begins (level n) }

-- ---- at a parenthesis

module _ (t : Lexeme) (u : List Lexeme) (open_paren : is k.OpenParen t ≡ true) where
  pub elsewhere_paren : {A : Type 0} {L : Family Lexeme A} (p : Class → Bool) (level : ℕ → ℕ) → Heads L (at p) → Apart (at (just k.OpenParen)) (at p) → (used : List Lexeme) → Never (λ n. L (level n)) (t ∷ u) used
  elsewhere_paren p level heads a used = never_elsewhere (heads_via level heads) (t ∷ u) (unseen_by a (t ∷ u) open_paren) used

  -- a unary expression goes as far as what stands in the parentheses
  pub never_unary : (level : ℕ → ℕ) (used : List Lexeme) → Never (λ n. present (g.paren (g.deeper (level n)))) (t ∷ u) used → Never (λ n. g.unary (g.deeper (level n))) (t ∷ u) used
  unfolding same_class
  never_unary level used s = never_two (elsewhere_paren is_prefix level h.heads_prefix (apart (just k.OpenParen) is_prefix refl) used)
      (never_two (elsewhere_paren (just k.Delete) level h.heads_delete (apart (just k.OpenParen) (just k.Delete) refl) used)
      (never_two (elsewhere_paren (just k.New) level h.heads_new (apart (just k.OpenParen) (just k.New) refl) used)
      (never_two (elsewhere_paren (just k.Alignof) level h.heads_alignof (apart (just k.OpenParen) (just k.Alignof) refl) used)
      (never_two (elsewhere_paren (just k.Sizeof) level h.heads_sizeof (apart (just k.OpenParen) (just k.Sizeof) refl) used)
      (never_as closed (never_as postfixed (never_measured span_of (never_both _ (never_as expr_of (never_measured span_of
      (never_two (elsewhere_paren is_literal level h.heads_literal (apart (just k.OpenParen) is_literal refl) used)
      (never_two (elsewhere_paren is_string level h.heads_string (apart (just k.OpenParen) is_string refl) used)
      (never_pair s (never_present (elsewhere_paren h.starts_cast_or_made level h.heads_cast_or_made (apart (just k.OpenParen) h.starts_cast_or_made refl) used)))))))))))))))

  pub paren_spelled : (the (is k.OpenParen)).spells (t ∷ []) tt
  paren_spelled = record { token = t; alone = refl; fits = ap (λ b. if b then Some tt else None) open_paren }

  -- ---- at a type

  pub never_unary_at : (f : TypeFront u) → Never (λ n. g.unary (g.deeper n)) (t ∷ u) (t ∷ f.run)
  unfolding same_class
  never_unary_at f = never_unary (λ n. n) (t ∷ f.run) (never_present (never_as e.Paren (never_led (is k.OpenParen) t (never_as _ (never_ended (short_below h.below_expr f.expr) (heads_the (is k.CloseParen)) (apart goes_name (just k.CloseParen) refl))))))

  pub paren_types : (f : TypeFront u) (n : ℕ) → (is k.OpenParen ⊳ g.typeid (g.deeper n) ⊲ is k.CloseParen).begins (t ∷ f.run)
  paren_types f n = in_second (t ∷ []) f.run tt refl paren_spelled (in_first (f.types n))

  -- ---- at an expression

  pub never_typeid_at : (f : ExprFront u) → Never (λ n. is k.OpenParen ⊳ g.typeid (g.deeper n) ⊲ is k.CloseParen) (t ∷ u) (t ∷ f.run)
  unfolding same_class
  never_typeid_at f = never_led (is k.OpenParen) t (never_as _ (never_ended f.typeid (heads_the (is k.CloseParen)) (apart ends_type (just k.CloseParen) refl)))

  pub unary_begun : (f : ExprFront u) (n : ℕ) → (g.unary (g.deeper (suc n))).begins (t ∷ f.run)
  unary_begun f n = postfix_unary (suc n) (t ∷ f.run) (in_first (inr (some refl (inr (some refl (inl (some refl (in_second (t ∷ []) f.run tt refl paren_spelled (in_first (f.exprs n))))))))))

  -- ---- at the last level

  pub unary_nests : r.unary (r.deeper 0) (t ∷ u) ≡ stop Nesting (length (t ∷ u))
  unfolding r.unary r.postfix r.head r.head_kind r.paren r.deeper same_class
  unary_nests = let ts = t ∷ u in let d = r.deeper 0 in
      choose_rest is_prefix (r.prefix d) (delete_or_more d) ts (unseen_by (apart (just k.OpenParen) is_prefix refl) ts open_paren)
      ∙ (choose_rest (just k.Delete) (r.delete d) (new_or_more d) ts (unseen_by (apart (just k.OpenParen) (just k.Delete) refl) ts open_paren)
      ∙ (choose_rest (just k.New) (r.new d) (alignof_or_more d) ts (unseen_by (apart (just k.OpenParen) (just k.New) refl) ts open_paren)
      ∙ (choose_rest (just k.Alignof) (r.alignof_type d) (sizeof_or_head d) ts (unseen_by (apart (just k.OpenParen) (just k.Alignof) refl) ts open_paren)
      ∙ (choose_rest (just k.Sizeof) (r.sizeof d) (r.closed_postfix d) ts (unseen_by (apart (just k.OpenParen) (just k.Sizeof) refl) ts open_paren)
      ∙ ap (λ o. made closed (made postfixed ((made expr_of (o >>= (λ v rest. done (v, span_of (taken ts rest)) rest)) >>= (λ a rest. made (λ b. (a, b)) (r.mores d rest))) >>= (λ v rest. done (v, span_of (taken ts rest)) rest))))
      (choose_rest is_literal (r.literal d) (string_or_more d) ts (unseen_by (apart (just k.OpenParen) is_literal refl) ts open_paren)
      ∙ (choose_rest is_string (r.string d) (paren_or_made d) ts (unseen_by (apart (just k.OpenParen) is_string refl) ts open_paren)
      ∙ choose_first (just k.OpenParen) (r.paren d) (cast_or_made d) ts open_paren))))))

-- ---- a cast or a unary expression

abbrev pub cast_read : ℕ → List Lexeme → Bool → Outcome Lexeme Operand
cast_read left ts b = if b then r.type_cast (r.deeper left) ts else r.unary (r.deeper left) ts

abbrev pub casts : Family Lexeme Operand
casts n = g.type_cast (g.deeper n) ∥ g.unary (g.deeper n)

-- what may be read, given how unary expressions are read
module _ (left : ℕ) (d : Sound left) (u : Exactly (λ n. g.unary (g.deeper n)) (goes_operand 0) left (r.unary (r.deeper left))) where
  pub type_cast_there : (r.deeper left).room ≡ true → Exactly (λ n. g.type_cast (g.deeper n)) (goes_operand 0) left (cast_of <$$> measured_by span_of (r.type_cast_parts (r.deeper left)))
  unfolding same_class
  type_cast_there there = exactly_made (λ w t. goes_operand 0 w.0.1 t) (goes_operand 0) cast_of (λ v t i. i) (exactly_spanned span_of (λ w t. goes_operand 0 w.1 t)
      (exactly_then (goes_operand 0) (exactly_paren_typeid left d) (d.cast there) h.heads_deep_cast (never_apart (at starts_unary))))

  pub type_cast_right : (t : Lexeme) (ts : List Lexeme) → is k.OpenParen t ≡ true → Right (λ n. present (g.type_cast (g.deeper n))) (goes_operand 0) left (t ∷ ts) (r.type_cast (r.deeper left) (t ∷ ts))
  unfolding r.type_cast
  type_cast_right t ts s = marked (λ n. (r.deeper n).room) h.room left (b.type_cast_marked t s) type_cast_there

pub unary_right : (left : ℕ) → Exactly (λ n. g.unary (g.deeper n)) (goes_operand 0) left (r.unary (r.deeper left)) → (ts : List Lexeme) → Right (λ n. present (g.unary (g.deeper n))) (goes_operand 0) left ts (r.unary (r.deeper left) ts)
unary_right left u ts = there_present refl (λ n. refl) (right_of u ts)

pub cast_nests : (ts : List Lexeme) → r.type_cast (r.deeper 0) ts ≡ stop Nesting (length ts)
unfolding r.type_cast r.deeper
cast_nests ts = refl

pub last_read : (t : Lexeme) (ts : List Lexeme) → is k.OpenParen t ≡ true → (b : Bool) → cast_read 0 (t ∷ ts) b ≡ stop Nesting (length (t ∷ ts))
last_read t ts s true = cast_nests (t ∷ ts)
last_read t ts s false = unary_nests t ts s

-- at the last level none of the two is there
pub cast_last : (d : Sound 0) → Exactly (λ n. g.unary (g.deeper n)) (goes_operand 0) 0 (r.unary (r.deeper 0)) → (t : Lexeme) (ts : List Lexeme) → is k.OpenParen t ≡ true → (b : Bool) → Right casts (goes_operand 0) 0 (t ∷ ts) (cast_read 0 (t ∷ ts) b)
cast_last d u t ts s b =
    let P : Outcome Lexeme Operand → Type 0 = λ o. Exact (λ n. present (g.type_cast (g.deeper n))) (goes_operand 0) 0 (t ∷ ts) o in
    let Q : Outcome Lexeme Operand → Type 0 = λ o. Exact (λ n. present (g.unary (g.deeper n))) (goes_operand 0) 0 (t ∷ ts) o in
    let R : Outcome Lexeme Operand → Type 0 = λ o. Right casts (goes_operand 0) 0 (t ∷ ts) o in
    let both : Right casts (goes_operand 0) 0 (t ∷ ts) (stop Nesting (length (t ∷ ts))) = record {
      exact = nesting_beside (λ n. present (g.type_cast (g.deeper n))) (λ n. present (g.unary (g.deeper n))) (goes_operand 0) 0 (t ∷ ts) (length (t ∷ ts))
          (subst P (cast_nests (t ∷ ts)) (type_cast_right 0 d u t ts s).exact) (subst Q (unary_nests t ts s) (unary_right 0 u (t ∷ ts)).exact);
    } in subst R (sym (last_read t ts s b)) both

-- before it the one that the tokens ahead tell goes as far as the other
pub cast_before : (m : ℕ) (d : Sound (suc m)) → Exactly (λ n. g.unary (g.deeper n)) (goes_operand 0) (suc m) (r.unary (r.deeper (suc m))) → (t : Lexeme) (ts : List Lexeme) → is k.OpenParen t ≡ true
    → (b : Bool) → type_ahead ts ≡ b → Right casts (goes_operand 0) (suc m) (t ∷ ts) (cast_read (suc m) (t ∷ ts) b)
cast_before m d u t ts s true e = let f = type_front ts e in
    first_begun (type_cast_right (suc m) d u t ts s) (t ∷ f.run) f.rest (ap (λ l. t ∷ l) f.cut) (covers_present (never_covers (goes_operand 0) (never_unary_at t ts s f))) (some refl (in_first (paren_types t ts s f (suc m))))
cast_before m d u t ts s false e = let f = expr_front ts e in
    second_begun (unary_right (suc m) u (t ∷ ts)) (t ∷ f.run) f.rest (ap (λ l. t ∷ l) f.cut)
    (covers_present (never_covers (goes_operand 0) (never_as cast_of (never_measured span_of (never_both _ (never_typeid_at t ts s f)))))) (some refl (unary_begun t ts s f m))

module _ (left : ℕ) (d : Sound left) (u : Exactly (λ n. g.unary (g.deeper n)) (goes_operand 0) left (r.unary (r.deeper left))) where
  pub unary_only : (ts : List Lexeme) → sees (is k.OpenParen) ts ≡ false → Right casts (goes_operand 0) left ts (r.unary (r.deeper left) ts)
  unary_only ts s = second_of_two h.heads_type_cast s (unary_right left u ts)

pub cast_paren : (left : ℕ) → Sound left → Exactly (λ n. g.unary (g.deeper n)) (goes_operand 0) left (r.unary (r.deeper left)) → (t : Lexeme) (ts : List Lexeme) → is k.OpenParen t ≡ true → Right casts (goes_operand 0) left (t ∷ ts) (cast_read left (t ∷ ts) (type_ahead ts))
cast_paren zero d u t ts s = cast_last d u t ts s (type_ahead ts)
cast_paren (suc m) d u t ts s = cast_before m d u t ts s (type_ahead ts) refl

abbrev pub ahead_by : Bool → List Lexeme → Bool
ahead_by b ts = if b then type_ahead (tail_of ts) else false

pub cast_at : (left : ℕ) → Sound left → Exactly (λ n. g.unary (g.deeper n)) (goes_operand 0) left (r.unary (r.deeper left)) → (ts : List Lexeme) (b : Bool) → sees (is k.OpenParen) ts ≡ b → Right casts (goes_operand 0) left ts (cast_read left ts (ahead_by b ts))
cast_at left d u [] true s = absurd (let c : false ≡ true = s in cc)
cast_at left d u (t ∷ ts) true s = cast_paren left d u t ts s
cast_at left d u ts false s = unary_only left d u ts s

pub exactly_cast : (left : ℕ) → Sound left → Exactly (λ n. g.unary (g.deeper n)) (goes_operand 0) left (r.unary (r.deeper left)) → Exactly casts (goes_operand 0) left (r.cast (r.deeper left))
unfolding r.cast
exactly_cast left d u = record { at = λ ts. (cast_at left d u ts (sees (is k.OpenParen) ts) refl).exact }
