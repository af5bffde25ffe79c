-- The readers of operands are exact, given those one level deeper ([expr.unary], [expr.new], [expr.delete]).
use Rattle.std.proofs.Common.{◌≡◌, ℕ, Bool, true, false, not, ◌||◌, List, [], ◌∷◌, ◌++◌, Option, Some, None, refl, sym, subst, inl, inr}
use Rattle.cx_grammar.specs.Language.{the, maybe, present, ◌>>◌, ◌<$>◌, ◌⊳◌, ◌⊲◌}
use Rattle.cx_grammar.specs.Exact.{Family}
use Rattle.cx_grammar.specs.Reading.{Reader, measured_by, ◌<$>◌ as ◌<$$>◌, ◌>>◌ as ◌|>◌}
use Rattle.cx_grammar.specs.Sets.{by, never}
use Rattle.cx_grammar.proofs.Both.{Joins}
use Rattle.cx_grammar.proofs.Heads.{Heads, Opens, Sub, Apart, heads_before, opens_maybe, opens_both, opens_sub, never_sub, same_sub}
use Rattle.cx_grammar.proofs.Steps.{Exactly, ExactlyAt, exactly_token, exactly_as, exactly_made, exactly_before, exactly_behind, exactly_maybe, exactly_next, exactly_then}
use Rattle.cx_grammar.proofs.Choices.{exactly_on}
use Rattle.cx_grammar.proofs.Levels.{marked, present_at}
use Rattle.cx_grammar.proofs.Sides.{exactly_measured}
use Rattle.cx_tree.specs.declared.exprs.Expr.{Expr}
use Rattle.cx_tree.specs.declared.exprs.ExprKind.TheVariants as e
use Rattle.cx_tree.specs.declared.exprs.Given.{Given}
use Rattle.cx_syntax.specs.declared.class.Class.{Class}
use Rattle.cx_syntax.specs.declared.class.Class.TheVariants as k
use Rattle.cx_syntax.specs.declared.lexeme.Lexeme.{Lexeme}
use Rattle.cx_syntax.specs.Classes.{is, same_class}
use Rattle.cx_syntax.specs.Sets.{is_prefix, starts_specs, starts_given, starts_unary}
use Rattle.cx_syntax.specs.Values.{span_of, is_there, Operand, closed, closed_kind, prefixed, deleted, new_operand}
use Rattle.cx_syntax.specs.Grammar as g
use Rattle.cx_syntax.specs.Readers as r
use Rattle.cx_syntax.specs.Readers.{just}
use Rattle.cx_syntax.proofs.Basics.{at, apart, sub, opens_upto}
use Rattle.cx_syntax.proofs.Specifiers.{goes_stars, exactly_specs, exactly_stars, heads_star}
use Rattle.cx_syntax.proofs.Valued.{exactly_go, exactly_joined, exactly_spanned, exactly_perhaps}
use Rattle.cx_syntax.specs.Goes.{goes_typeid, goes_postfix, goes_new, goes_by, goes_operand, goes_args}
use Rattle.cx_syntax.proofs.Depth as h
use Rattle.cx_syntax.proofs.Begins as b
use Rattle.cx_syntax.proofs.Lists.{Sound, exactly_typeid, exactly_given}
use Rattle.cx_syntax.proofs.Primary.{exactly_postfix}

-- ---- what an object is made from, at the end of a `new`: behind it nothing goes on, and without it what goes on with the type

abbrev pub new_goes : (Class → Bool) → Option Given → Lexeme → Bool
new_goes q None t = at q t
new_goes q (Some given) t = false

pub new_more : (q p : Class → Bool) → Sub (at q) (at p) → (w : Option Given) (t : Lexeme) → new_goes q w t ≡ true → new_goes p w t ≡ true
new_more q p k None t i = k t i
new_more q p k (Some given) t i = i

pub new_none : (q : Class → Bool) (w : Option Given) (t : Lexeme) → w ≡ None → at q t ≡ true → new_goes q w t ≡ true
new_none q w t e i = let P : Option Given → Type 0 = λ z. new_goes q z t ≡ true in subst P (sym e) i

-- a part before what ends so
module _ {A B : Type 0} (G : Family Lexeme A) (H : Family Lexeme B) (last : B → Option Given) (qg qh q p : Class → Bool)
    (o : Opens H (at p)) (a : Apart (at qg) (at p)) (kg : Sub (at qg) (at q)) (kh : Sub (at qh) (at q)) (none : (n : ℕ) (u : B) → (H n).spells [] u → last u ≡ None)
  where
    pub joins : Joins G H (by (at qg)) (λ u t. new_goes qh (last u) t) (λ v t. new_goes q (last v.1) t)
    joins = record {
      begins = λ n v t x b i. a t i (o.begins n t x b);
      spells = λ n v t x w b i. a t i (o.spells n t x w b);
      after = λ v t i. new_more qh q kh (last v.1) t i;
      over = λ n v t b i. new_none q (last v.1) t (none n v.1 b) (kg t i);
    }

pub exactly_ahead : {A B : Type 0} {G : Family Lexeme A} {H : Family Lexeme B} (last : B → Option Given) (qg qh q p : Class → Bool) {left : ℕ} {read : Reader Lexeme A} {s : Reader Lexeme B}
    → Opens H (at p) → Apart (at qg) (at p) → Sub (at qg) (at q) → Sub (at qh) (at q) → ((n : ℕ) (u : B) → (H n).spells [] u → last u ≡ None)
    → Exactly G (by (at qg)) left read → Exactly H (λ u t. new_goes qh (last u) t) left s → Exactly (λ n. G n >> H n) (λ v t. new_goes q (last v.1) t) left (read |> s)
exactly_ahead {G = G} {H = H} last qg qh q p o a kg kh none g f = exactly_joined (by (at qg)) (λ u t. new_goes qh (last u) t) (λ v t. new_goes q (last v.1) t) (joins G H last qg qh q p o a kg kh none) g f

pub no_given : (n : ℕ) (w : Option Given) → (maybe (g.given (g.deeper n))).spells [] w → w ≡ None
no_given n None s = refl
no_given n (Some v) (inl a) = let e = a.made in cc
no_given n (Some v) (inr a) = absurd (h.heads_given.full n a.value a.part)

pub back_blank : (x y : List Lexeme) → [] ≡ x ++ y → y ≡ []
back_blank [] y e = sym e
back_blank (t ∷ x) y e = cc

pub no_given_behind : {A B : Type 0} (G : Family Lexeme A) (H : Family Lexeme B) (last : B → Option Given) → ((n : ℕ) (u : B) → (H n).spells [] u → last u ≡ None) → (n : ℕ) (u : A × B) → (G n >> H n).spells [] u → last u.1 ≡ None
no_given_behind G H last none n u s = none n u.1 (let P : List Lexeme → Type 0 = λ l. (H n).spells l u.1 in subst P (back_blank s.front s.back s.cut) s.second)

abbrev pub goes_bound : Class → Bool
goes_bound c = just k.OpenBracket c || starts_given c

abbrev pub goes_starred : Class → Bool
goes_starred c = goes_stars c || goes_bound c

abbrev pub starts_starred : Class → Bool
starts_starred c = just k.Star c || goes_bound c

module _ (left : ℕ) (d : Sound left) where
  -- ---- an operator before an operand

  pub prefix_there : (r.deeper left).room ≡ true → Exactly (λ n. g.prefix (g.deeper n)) (goes_operand 0) left (prefixed <$$> measured_by span_of (r.prefix_parts (r.deeper left)))
  prefix_there there = exactly_made (λ w t. goes_operand 0 w.0.1 t) (goes_operand 0) prefixed (λ v t i. i) (exactly_spanned span_of (λ w t. goes_operand 0 w.1 t) (exactly_next (goes_operand 0) exactly_token (d.cast there)))

  pub prefix_at : ExactlyAt (at is_prefix) (λ n. present (g.prefix (g.deeper n))) (goes_operand 0) left (r.prefix (r.deeper left))
  unfolding r.prefix
  prefix_at = exactly_on (at is_prefix) (r.prefix (r.deeper left)) (λ t ts s. marked (λ n. (r.deeper n).room) h.room left (b.prefix_marked t s) prefix_there)

  -- ---- delete

  pub exactly_brackets : Exactly (λ n. maybe (is k.OpenBracket ⊳ the (is k.CloseBracket))) (by (at (just k.OpenBracket))) left r.brackets
  exactly_brackets = exactly_maybe (at (just k.OpenBracket)) (heads_before {G = λ n. the (is k.CloseBracket)} (is k.OpenBracket)) (present_at refl (λ n. refl) (exactly_before (is k.OpenBracket) exactly_token))
      (never_sub (is k.OpenBracket)) (same_sub (is k.OpenBracket))

  pub delete_there : (r.deeper left).room ≡ true → Exactly (λ n. g.delete (g.deeper n)) (goes_operand 0) left (deleted <$$> measured_by span_of (r.delete_parts (r.deeper left)))
  unfolding same_class
  delete_there there = exactly_made (λ w t. goes_operand 0 w.0.1 t) (goes_operand 0) deleted (λ v t i. i) (exactly_spanned span_of (λ w t. goes_operand 0 w.1 t)
      (exactly_then (goes_operand 0) (exactly_before (is k.Delete) exactly_brackets) (d.cast there) h.heads_deep_cast (apart (just k.OpenBracket) starts_unary refl)))

  pub delete_at : ExactlyAt (at (just k.Delete)) (λ n. present (g.delete (g.deeper n))) (goes_operand 0) left (r.delete (r.deeper left))
  unfolding r.delete
  delete_at = exactly_on (at (just k.Delete)) (r.delete (r.deeper left)) (λ t ts s. marked (λ n. (r.deeper n).room) h.room left (b.delete_marked t s) delete_there)

  -- ---- new

  pub new_bound_there : (r.deeper left).room ≡ true → Exactly (λ n. g.new_bound (g.deeper n)) (by never) left (r.new_bound_parts (r.deeper left))
  unfolding same_class
  new_bound_there there = exactly_before (is k.OpenBracket) (exactly_behind (is k.CloseBracket) (d.expr there) (apart goes_args (just k.CloseBracket) refl))

  pub new_bound_at : ExactlyAt (at (just k.OpenBracket)) (λ n. present (g.new_bound (g.deeper n))) (by never) left (r.new_bound (r.deeper left))
  unfolding r.new_bound
  new_bound_at = exactly_on (at (just k.OpenBracket)) (r.new_bound (r.deeper left)) (λ t ts s. marked (λ n. (r.deeper n).room) h.room left (b.new_bound_marked t s) new_bound_there)

  pub heads_new_bound : Heads (λ n. g.new_bound (g.deeper n)) (at (just k.OpenBracket))
  heads_new_bound = heads_before {G = λ n. (g.deeper n).expr ⊲ is k.CloseBracket} (is k.OpenBracket)

  pub exactly_maybe_bound : Exactly (λ n. maybe (g.new_bound (g.deeper n))) (by (at (just k.OpenBracket))) left (r.maybe_new_bound (r.deeper left))
  exactly_maybe_bound = exactly_maybe (at (just k.OpenBracket)) heads_new_bound new_bound_at (never_sub (is k.OpenBracket)) (same_sub (is k.OpenBracket))

  pub exactly_maybe_given : Exactly (λ n. maybe (g.given (g.deeper n))) (λ w t. new_goes starts_given w t) left (r.maybe_given (r.deeper left))
  exactly_maybe_given = exactly_perhaps (by never) (new_goes starts_given) h.heads_given (present_at refl (λ n. refl) (exactly_given left d)) (λ v t i. i) (λ t i. i)

  pub exactly_new_end : Exactly (λ n. maybe (g.new_bound (g.deeper n)) >> maybe (g.given (g.deeper n))) (λ v t. new_goes goes_bound v.1 t) left (r.new_end (r.deeper left))
  unfolding same_class
  exactly_new_end = exactly_ahead (λ w. w) (just k.OpenBracket) starts_given goes_bound starts_given (opens_maybe h.heads_given) (apart (just k.OpenBracket) starts_given refl)
      (sub (just k.OpenBracket) goes_bound refl) (sub starts_given goes_bound refl) no_given exactly_maybe_bound exactly_maybe_given

  pub opens_new_end : Opens (λ n. maybe (g.new_bound (g.deeper n)) >> maybe (g.given (g.deeper n))) (at goes_bound)
  unfolding same_class
  opens_new_end = opens_both (opens_sub (sub (just k.OpenBracket) goes_bound refl) (opens_maybe heads_new_bound)) (opens_sub (sub starts_given goes_bound refl) (opens_maybe h.heads_given))

  pub none_end : (n : ℕ) (u : Option Expr × Option Given) → (maybe (g.new_bound (g.deeper n)) >> maybe (g.given (g.deeper n))).spells [] u → u.1 ≡ None
  none_end n u s = no_given_behind (λ m. maybe (g.new_bound (g.deeper m))) (λ m. maybe (g.given (g.deeper m))) (λ w. w) no_given n u s

  pub exactly_starred : Exactly (λ n. g.stars >> maybe (g.new_bound (g.deeper n)) >> maybe (g.given (g.deeper n))) (λ v t. new_goes goes_starred v.1.1 t) left (r.new_starred (r.deeper left))
  unfolding same_class
  exactly_starred = exactly_ahead (λ u. u.1) goes_stars goes_bound goes_starred goes_bound opens_new_end (apart goes_stars goes_bound refl) (sub goes_stars goes_starred refl) (sub goes_bound goes_starred refl) none_end
      (exactly_stars left) exactly_new_end

  pub opens_starred : Opens (λ n. g.stars >> maybe (g.new_bound (g.deeper n)) >> maybe (g.given (g.deeper n))) (at starts_starred)
  unfolding same_class
  opens_starred = opens_both (opens_sub (sub (just k.Star) starts_starred refl) (opens_upto heads_star 64)) (opens_sub (sub goes_bound starts_starred refl) opens_new_end)

  pub flag_goes : (w : Option Given) (t : Lexeme) → new_goes goes_new w t ≡ true → goes_by 0 (not (is_there w)) t.class ≡ true
  flag_goes None t i = i
  flag_goes (Some v) t i = cc

  pub exactly_new : Exactly (λ n. g.new (g.deeper n)) (goes_operand 0) left (r.new (r.deeper left))
  unfolding r.new same_class
  exactly_new = exactly_made (λ w t. new_goes goes_new w.0.1.1.1 t) (goes_operand 0) new_operand (λ w t i. flag_goes w.0.1.1.1 t i) (exactly_spanned span_of (λ v t. new_goes goes_new v.1.1.1 t)
      (exactly_ahead (λ u. u.1.1) starts_specs goes_starred goes_new starts_starred opens_starred (apart starts_specs starts_starred refl) (sub starts_specs goes_new refl) (sub goes_starred goes_new refl)
      (no_given_behind (λ m. g.stars) (λ m. maybe (g.new_bound (g.deeper m)) >> maybe (g.given (g.deeper m))) (λ u. u.1) none_end) (exactly_before (is k.New) (exactly_specs left)) exactly_starred))

  -- ---- alignof, and postfix expressions

  pub exactly_paren_typeid : Exactly (λ n. is k.OpenParen ⊳ g.typeid (g.deeper n) ⊲ is k.CloseParen) (by never) left (r.paren_typeid (r.deeper left))
  unfolding same_class
  exactly_paren_typeid = exactly_before (is k.OpenParen) (exactly_behind (is k.CloseParen) (exactly_typeid left d) (apart goes_typeid (just k.CloseParen) refl))

  pub nothing_goes : (v : Operand) (t : Lexeme) → by never v t ≡ true → goes_operand 0 v t ≡ true
  nothing_goes v t i = cc

  pub exactly_alignof : Exactly (λ n. g.alignof_type (g.deeper n)) (goes_operand 0) left (r.alignof_type (r.deeper left))
  unfolding r.alignof_type
  exactly_alignof = exactly_go (by never) (goes_operand 0) nothing_goes (exactly_as closed_kind (exactly_measured span_of (exactly_as e.AlignofType (exactly_before (is k.Alignof) exactly_paren_typeid))))

  pub exactly_sizeof_type : Exactly (λ n. g.sizeof_type (g.deeper n)) (goes_operand 0) left (r.sizeof_type (r.deeper left))
  unfolding r.sizeof_type
  exactly_sizeof_type = exactly_go (by never) (goes_operand 0) nothing_goes (exactly_as closed_kind (exactly_measured span_of (exactly_as e.SizeofType (exactly_before (is k.Sizeof) exactly_paren_typeid))))

  pub exactly_closed : Exactly (λ n. closed <$> g.postfix (g.deeper n)) (goes_operand 0) left (r.closed_postfix (r.deeper left))
  exactly_closed = exactly_made (by (at goes_postfix)) (goes_operand 0) closed (λ v t i. i) (exactly_postfix left d)
