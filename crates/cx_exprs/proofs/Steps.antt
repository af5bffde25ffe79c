-- How the steps of typing follow one another.
use Rattle.std.proofs.Common.{◌≡◌, ℕ, suc, ◌+◌, ◌<◌, ◌≤◌, List, [], ◌∷◌, length, get_or, map, drop, refl, sym, ◌∙◌, subst, add-one, drop-cons}
use Rattle.std.proofs.lemmas.List.{drop_all}
use Rattle.cx_base.specs.declared.diag.Span.{Span}
use Rattle.cx_tree.specs.declared.exprs.Expr.{Expr}
use Rattle.cx_tree.specs.declared.exprs.Operation.{Operation}
use Rattle.cx_plain.specs.Expressions as e
use Rattle.cx_plain.specs.Expressions.{Expression}
use Rattle.cx_plain.specs.ExpressionViews.{Placed, chained, comma_list, operand, placed}
use Rattle.cx_plain.specs.Spans.{from_to}
use Rattle.cx_exprs.specs.declared.answer.ElabAnswer.{ElabAnswer}
use Rattle.cx_exprs.specs.declared.answer.ElabAnswer.TheVariants as answer
use Rattle.cx_exprs.specs.Desks.{IsFault}
use Rattle.cx_exprs.specs.Expressions.{typed}
use Rattle.cx_exprs.specs.Parts.{Tree}
use Rattle.cx_exprs.specs.Sequences.{joined, joined_comma, right_of, typed_behind, typed_chain, typed_commas}
use Rattle.cx_exprs.specs.Typing.{World, Typed, Good, Fault, and_then}

pub then_good : {A B : Type 0} (t : Typed A) (g : A → World → Typed B) (a : A) (w : World) (r : Typed B) → t ≡ Good a w → g a w ≡ r → and_then t g ≡ r
then_good t g a w r h k = rw h k

pub then_fault : {A B : Type 0} (t : Typed A) (g : A → World → Typed B) (a : ElabAnswer) → IsFault a t → IsFault a (and_then t g)
then_fault t g (answer.Fault d) h = rw h refl
then_fault t g answer.Memory h = tt

then_then : {A B C : Type 0} (t : Typed A) (f : A → World → Typed B) (g : B → World → Typed C) → and_then (and_then t f) g ≡ and_then t (λ a w. and_then (f a w) g)
then_then (Good a w) f g = refl
then_then (Fault d) f g = refl

good_is : {A : Type 0} (t : Typed A) → and_then t (λ x w. Good x w) ≡ t
good_is (Good x w) = refl
good_is (Fault d) = refl

then_same : {A B : Type 0} (t : Typed A) (f g : A → World → Typed B) → ((a : A) (w : World) → f a w ≡ g a w) → and_then t f ≡ and_then t g
then_same (Good a w) f g h = h a w
then_same (Fault d) f g h = refl

-- ---- operations and commas as plain trees

chain_step : (s : Span) (a : Expression) (o : Operation) (g : Tree → World → Typed Tree) (w : World) → and_then (typed (e.Binary (operand o).0 a (operand o).1.tree (from_to s (operand o).1.extent)) w) g ≡ and_then (typed a w) (λ x u. and_then (typed (right_of o).tree u) (λ y v. g (joined o x y (from_to s (right_of o).extent)) v))
chain_step s a o g w = then_then (typed a w) _ g ∙ then_same (typed a w) _ _ (λ x u. then_then (typed (right_of o).tree u) _ g)

pub chain_typed : (s : Span) (a : Expression) (os : List Operation) (w : World) → typed (chained s a (map operand os)) w ≡ and_then (typed a w) (λ x u. typed_chain s x os u)
chain_typed s a [] w = sym (good_is (typed a w))
chain_typed s a (o ∷ os) w = chain_typed s (e.Binary (operand o).0 a (operand o).1.tree (from_to s (operand o).1.extent)) os w ∙ chain_step s a o (λ x u. typed_chain s x os u) w

comma_step : (s : Span) (a : Expression) (b : Expr) (g : Tree → World → Typed Tree) (w : World) → and_then (typed (e.Comma a (placed b).tree (from_to s (placed b).extent)) w) g ≡ and_then (typed a w) (λ x u. and_then (typed (placed b).tree u) (λ y v. g (joined_comma b x y (from_to s (placed b).extent)) v))
comma_step s a b g w = then_then (typed a w) _ g ∙ then_same (typed a w) _ _ (λ x u. then_then (typed (placed b).tree u) _ g)

pub commas_typed : (s : Span) (a : Expression) (bs : List Expr) (w : World) → typed (comma_list s a (map placed bs)) w ≡ and_then (typed a w) (λ x u. typed_commas s x bs u)
commas_typed s a [] w = sym (good_is (typed a w))
commas_typed s a (b ∷ bs) w = commas_typed s (e.Comma a (placed b).tree (from_to s (placed b).extent)) bs w ∙ comma_step s a b (λ x u. typed_commas s x bs u) w

-- ---- loops

module _ {A : Type 0} (part : A → Placed) (join : A → Tree → Tree → Span → Tree) (s : Span) where
  pub next_typed : (items : List A) (i : ℕ) (a : A) (x y : Tree) (w u : World) (t : Typed Tree) → i < length items → a ≡ get_or items i a → typed_behind part join s x (drop i items) w ≡ t → typed (part a).tree w ≡ Good y u → typed_behind part join s (join a x y (from_to s (part a).extent)) (drop (i + 1) items) u ≡ t
  next_typed items i a x y w u t less is h k =
      let h' : typed_behind part join s x (a ∷ drop (suc i) items) w ≡ t = rw (drop-cons items i a less, ← is) at h in
      rw add-one (sym (then_good (typed (part a).tree w) _ y u _ k refl) ∙ h')

  pub fault_typed : (items : List A) (i : ℕ) (a : A) (x : Tree) (w : World) (t : Typed Tree) (e : ElabAnswer) → i < length items → a ≡ get_or items i a → typed_behind part join s x (drop i items) w ≡ t → IsFault e (typed (part a).tree w) → IsFault e t
  fault_typed items i a x w t e less is h k =
      let h' : typed_behind part join s x (a ∷ drop (suc i) items) w ≡ t = rw (drop-cons items i a less, ← is) at h in
      subst (IsFault e) h' (then_fault (typed (part a).tree w) _ e k)

  pub end_typed : (items : List A) (i : ℕ) (x : Tree) (w : World) (t : Typed Tree) → length items ≤ i → typed_behind part join s x (drop i items) w ≡ t → t ≡ Good x w
  end_typed items i x w t less h = let h' : typed_behind part join s x [] w ≡ t = rw (drop_all i items less) at h in sym h'
