-- The spans of expressions, form by form.
use Rattle.std.proofs.Common.{◌≡◌, ℕ, suc, ◌-◌, List, [], ◌∷◌, length, slice_get, map, None, Some, arith, refl}
use Rattle.cx_base.specs.declared.diag.Span.{Span}
use Rattle.cx_tree.specs.declared.exprs.Clause.TheFolds.{fold_out-MoreKind}
use Rattle.cx_tree.specs.declared.exprs.Clause.TheOpen.{MoreKind-F}
use Rattle.cx_tree.specs.declared.exprs.Expr.{Expr}
use Rattle.cx_tree.specs.declared.exprs.ExprKind.TheVariants as k
use Rattle.cx_tree.specs.declared.exprs.More.{More}
use Rattle.cx_tree.specs.declared.exprs.MoreKind.{MoreKind}
use Rattle.cx_tree.specs.declared.exprs.Operation.{Operation}
use Rattle.cx_plain.specs.Expressions.{Expression}
use Rattle.cx_plain.specs.ExpressionViews.{Level, chained, comma_list, joining, operand, part, part_step, placed, postfixed, tree}
use Rattle.cx_plain.specs.Spans.{from_to, span_of}
use Rattle.cx_plain.proofs.ExpressionForms.{extent_is, is_chain, is_comma, is_paren, is_postfix, operand_is, part_is}

pub span_paren : (x a : Expr) → x.kind ≡ k.Paren a → span_of (tree x) ≡ span_of (tree a)
span_paren x a h = rw (is_paren x a h) refl

last_of_more : (n : ℕ) → suc (suc n) - 1 ≡ suc (suc n - 1)
last_of_more n = omega arith

-- what is behind a first expression ends with the last of it
behind_ends : {A : Type 0} (extent : A → Span) (join : Expression → A → Expression) (go : Expression → List A → Expression) (first : Span)
    → ((x : Expression) → go x [] ≡ x) → ((x : Expression) (a : A) (bs : List A) → go x (a ∷ bs) ≡ go (join x a) bs)
    → ((x : Expression) (a : A) → span_of (join x a) ≡ from_to first (extent a))
    → (x : Expression) (bs : List A) (a : A) → Some a ≡ slice_get bs (length bs - 1) → span_of (go x bs) ≡ from_to first (extent a)
behind_ends extent join go first none more ends x [] a h = (cc)
behind_ends extent join go first none more ends x (b ∷ []) a h =
    let e : a ≡ b = cc in rw (more x b [], none (join x b), ends x b, e) refl
behind_ends extent join go first none more ends x (b ∷ c ∷ bs) a h =
    rw (more x b (c ∷ bs)) (behind_ends extent join go first none more ends (join x b) (c ∷ bs) a (rw (last_of_more (length bs)) at h))

none_behind : {A : Type 0} (bs : List A) → None ≡ slice_get bs (length bs - 1) → bs ≡ []
none_behind [] h = refl
none_behind (a ∷ []) h = (cc)
none_behind (a ∷ b ∷ bs) h = let e : b ∷ bs ≡ [] = none_behind (b ∷ bs) (rw (last_of_more (length bs)) at h) in (cc)

pub span_chain : (x a : Expr) (os : List Operation) (o : Operation) → x.kind ≡ k.Chain a os → Some o ≡ slice_get os (length os - 1) → span_of (tree x) ≡ from_to a.extent o.operand.extent
span_chain x a os o h l =
    rw (is_chain x a os h)
    (behind_ends (λ (p : Operation). p.operand.extent) _ (λ y ps. chained a.extent y (map operand ps)) a.extent (λ y. refl) (λ y p ps. refl) (λ y p. rw (operand_is p, extent_is p.operand) refl) (tree a) os o l)

pub span_no_chain : (x a : Expr) (os : List Operation) → x.kind ≡ k.Chain a os → None ≡ slice_get os (length os - 1) → span_of (tree x) ≡ span_of (tree a)
span_no_chain x a os h l = rw (is_chain x a os h, none_behind os l) refl

pub span_comma : (x a : Expr) (bs : List Expr) (b : Expr) → x.kind ≡ k.Comma a bs → Some b ≡ slice_get bs (length bs - 1) → span_of (tree x) ≡ from_to a.extent b.extent
span_comma x a bs b h l =
    rw (is_comma x a bs h)
    (behind_ends (λ (p : Expr). p.extent) _ (λ y ps. comma_list a.extent y (map placed ps)) a.extent (λ y. refl) (λ y p ps. refl) (λ y p. rw (extent_is p) refl) (tree a) bs b l)

pub span_no_comma : (x a : Expr) (bs : List Expr) → x.kind ≡ k.Comma a bs → None ≡ slice_get bs (length bs - 1) → span_of (tree x) ≡ span_of (tree a)
span_no_comma x a bs h l = rw (is_comma x a bs h, none_behind bs l) refl

part_step_span : (m : Level MoreKind-F) (y : Expression) (at : Span) → span_of (part_step m y at) ≡ at
part_step_span (MoreKind-F.Subscript i) y at = refl
part_step_span (MoreKind-F.Call a) y at = refl
part_step_span MoreKind-F.Increment y at = refl
part_step_span MoreKind-F.Decrement y at = refl
part_step_span (MoreKind-F.Member r n) y at = refl
part_step_span (MoreKind-F.Destroy r n) y at = refl

joining_span : (m : MoreKind) (y : Expression) (at : Span) → span_of (joining m y at) ≡ at
unfolding joining
joining_span m y at = rw fold_out-MoreKind (part_step_span _ y at)

part_ends : (m : More) (y : Expression) (first : Span) → span_of ((part m).0 y (from_to first (part m).1)) ≡ from_to first m.span
part_ends m y first = rw (part_is m) (joining_span m.kind y (from_to first m.span))

pub span_postfix : (x a : Expr) (ms : List More) (m : More) → x.kind ≡ k.Postfix a ms → Some m ≡ slice_get ms (length ms - 1) → span_of (tree x) ≡ from_to a.extent m.span
span_postfix x a ms m h l =
    rw (is_postfix x a ms h)
    (behind_ends (λ (p : More). p.span) _ (λ y ps. postfixed a.extent y (map part ps)) a.extent (λ y. refl) (λ y p ps. refl) (λ y p. part_ends p y a.extent) (tree a) ms m l)

pub span_no_postfix : (x a : Expr) (ms : List More) → x.kind ≡ k.Postfix a ms → None ≡ slice_get ms (length ms - 1) → span_of (tree x) ≡ span_of (tree a)
span_no_postfix x a ms h l = rw (is_postfix x a ms h, none_behind ms l) refl

pub ruleset spans = (span_paren, span_postfix, span_no_postfix, span_chain, span_no_chain, span_comma, span_no_comma)
