-- The readers of assignment, conditional and comma expressions are exact, and so are all readers at each number of levels ([expr.ass], [expr.cond], [expr.throw], [expr.comma]).
use Rattle.std.proofs.Common.{◌≡◌, ℕ, Bool, true, false, ◌||◌, if◌then◌else◌, List, ◌∷◌, refl}
use Rattle.cx_grammar.specs.Language.{present, ◌<$>◌, ◌∥◌}
use Rattle.cx_grammar.specs.Exact.{Outcome}
use Rattle.cx_grammar.specs.Reading.{guarded, ◌<$>◌ as ◌<$$>◌}
use Rattle.cx_grammar.specs.Sets.{by}
use Rattle.cx_grammar.proofs.Heads.{Apart, heads_before, opens_maybe, opens_many, never_apart, same_sub, or_left, or_right}
use Rattle.cx_grammar.proofs.Steps.{Exactly, ExactlyAt, exactly_token, exactly_as, exactly_before, exactly_behind, exactly_both, exactly_open, exactly_maybe, exactly_many}
use Rattle.cx_grammar.proofs.Choices.{Right, right_two, first_of_two, second_of_two, exactly_on}
use Rattle.cx_grammar.proofs.Levels.{marked, present_at}
use Rattle.cx_grammar.proofs.Sides.{exactly_measured}
use Rattle.cx_syntax.specs.declared.class.Class.{Class}
use Rattle.cx_syntax.specs.declared.class.Class.TheVariants as k
use Rattle.cx_syntax.specs.declared.lexeme.Lexeme.{Lexeme}
use Rattle.cx_syntax.specs.declared.parts.Tail.{Tail}
use Rattle.cx_syntax.specs.Classes.{is, same_class}
use Rattle.cx_syntax.specs.Sets.{is_assignment, starts_unary, starts_assign, starts_tail}
use Rattle.cx_syntax.specs.Values.{span_of, assigned_of, chosen_of, tailed, condition, thrown, comma_of}
use Rattle.cx_syntax.specs.Grammar as g
use Rattle.cx_syntax.specs.Readers as r
use Rattle.cx_syntax.specs.Readers.{just}
use Rattle.cx_syntax.proofs.Basics.{at, apart, sub, exactly_stays, exactly_choice, false_of}
use Rattle.cx_syntax.proofs.Valued.{exactly_go}
use Rattle.cx_syntax.specs.Goes.{goes_by, goes_operand, goes_chain, goes_assign, goes_args}
use Rattle.cx_syntax.proofs.Depth as h
use Rattle.cx_syntax.proofs.Begins as b
use Rattle.cx_syntax.proofs.Lists.{Sound}

pub chain_goes : (b : Bool) (c : Class) → goes_by 10 b c ≡ true → goes_chain c ≡ true
chain_goes true c i = or_right (goes_by 10 false c) i
chain_goes false c i = or_left (goes_by 10 false c) (goes_by 10 true c) i

pub not_or : (b c : Bool) → (b || c) ≡ true → b ≡ false → c ≡ true
not_or true c e f = absurd (let both : true ≡ false = f in cc)
not_or false c e f = e

pub unseen_one : (p q : Class → Bool) → Apart (at p) (at q) → (t : Lexeme) → at p t ≡ true → at q t ≡ false
unseen_one p q a t e = false_of (q t.class) (λ i. a t e i)

module _ (left : ℕ) (d : Sound left) (chain : Exactly (λ n. g.chain (g.deeper n) 10) (goes_operand 10) left (r.chain (r.deeper left) 10)) where
  pub chain_by : Exactly (λ n. g.chain (g.deeper n) 10) (by (at goes_chain)) left (r.chain (r.deeper left) 10)
  chain_by = exactly_go (goes_operand 10) (by (at goes_chain)) (λ v t i. chain_goes v.1 t.class i) chain

  -- ---- what stands behind a chain

  pub assigned_there : (r.deeper left).room ≡ true → Exactly (λ n. g.assigned (g.deeper n)) (by (at goes_assign)) left (assigned_of <$$> r.assigned_parts (r.deeper left))
  assigned_there there = exactly_as assigned_of (exactly_both exactly_token (d.assign there) h.heads_deep_assign (never_apart (at starts_assign)))

  pub choice_there : (r.deeper left).room ≡ true → Exactly (λ n. g.choice (g.deeper n)) (by (at goes_assign)) left (r.choice_parts (r.deeper left))
  unfolding same_class
  choice_there there = exactly_both (exactly_before (is k.Question) (exactly_behind (is k.Colon) (d.expr there) (apart goes_args (just k.Colon) refl))) (d.assign there) h.heads_deep_assign (never_apart (at starts_assign))

  abbrev tail_read : List Lexeme → Bool → Outcome Lexeme Tail
  tail_read ts c = if c then r.assigned (r.deeper left) ts else r.chosen (r.deeper left) ts

  pub tail_right : (t : Lexeme) (ts : List Lexeme) → at starts_tail t ≡ true → (c : Bool) → is_assignment t.class ≡ c → Right (λ n. g.assigned (g.deeper n) ∥ (chosen_of <$> g.choice (g.deeper n))) (by (at goes_assign)) left (t ∷ ts) (tail_read (t ∷ ts) c)
  unfolding r.assigned r.chosen same_class
  tail_right t ts s true e = first_of_two (marked (λ n. (r.deeper n).room) h.room left (b.assigned_marked t e) assigned_there) h.heads_chosen (unseen_one is_assignment (just k.Question) (apart is_assignment (just k.Question) refl) t e)
  tail_right t ts s false e = let q = not_or (is_assignment t.class) (just k.Question t.class) (sub starts_tail (λ c. is_assignment c || just k.Question c) refl t s) e in
      second_of_two h.heads_assigned e (marked (λ n. (r.deeper n).room) h.room left (b.chosen_marked t q) (λ there. exactly_as chosen_of (choice_there there)))

  pub tail_at : ExactlyAt (at starts_tail) (λ n. present (g.assigned (g.deeper n) ∥ (chosen_of <$> g.choice (g.deeper n)))) (by (at goes_assign)) left (r.tail (r.deeper left))
  unfolding r.tail
  tail_at = exactly_on (at starts_tail) (r.tail (r.deeper left)) (λ t ts s. right_two (tail_right t ts s (is_assignment t.class) refl))

  pub exactly_chain_or_more : Exactly (λ n. g.chain_or_more (g.deeper n)) (by (at goes_assign)) left (r.chain_or_more (r.deeper left))
  unfolding r.chain_or_more same_class
  exactly_chain_or_more = exactly_as tailed (exactly_measured span_of (exactly_open (at goes_assign) chain_by
      (exactly_maybe (at goes_assign) h.heads_tail tail_at (same_sub (at goes_assign)) (sub starts_tail goes_assign refl)) (opens_maybe h.heads_tail)
      (apart goes_chain starts_tail refl) (sub goes_chain goes_assign refl) (same_sub (at goes_assign))))

  pub choice_at : ExactlyAt (at (just k.Question)) (λ n. present (g.choice (g.deeper n))) (by (at goes_assign)) left (r.choice (r.deeper left))
  unfolding r.choice
  choice_at = exactly_on (at (just k.Question)) (r.choice (r.deeper left)) (λ t ts s. marked (λ n. (r.deeper n).room) h.room left (b.choice_marked t s) choice_there)

  pub exactly_cond : Exactly (λ n. g.cond (g.deeper n)) (by (at goes_assign)) left (r.cond (r.deeper left))
  unfolding r.cond same_class
  exactly_cond = exactly_as condition (exactly_measured span_of (exactly_open (at goes_assign) chain_by
      (exactly_maybe (at goes_assign) h.heads_choice choice_at (same_sub (at goes_assign)) (sub (just k.Question) goes_assign refl)) (opens_maybe h.heads_choice)
      (apart goes_chain (just k.Question) refl) (sub goes_chain goes_assign refl) (same_sub (at goes_assign))))

  -- ---- throw, assign, expr

  pub thrown_at : ExactlyAt (at starts_assign) (λ n. present (g.deeper n).assign) (by (at goes_assign)) left (guarded (r.deeper left).room (r.deeper left).assign)
  thrown_at = exactly_on (at starts_assign) (guarded (r.deeper left).room (r.deeper left).assign) (λ t ts s. marked (λ n. (r.deeper n).room) h.room left (b.assign_marked t s) d.assign)

  pub exactly_throw : Exactly (λ n. g.throw (g.deeper n)) (by (at goes_assign)) left (r.throw (r.deeper left))
  unfolding r.throw same_class
  exactly_throw = exactly_as thrown (exactly_measured span_of (exactly_before (is k.Throw) (exactly_maybe (at goes_assign) h.heads_deep_assign thrown_at (same_sub (at goes_assign)) (sub starts_assign goes_assign refl))))

  pub exactly_assign : Exactly (λ n. g.assign (g.deeper n)) (by (at goes_assign)) left (r.assign (r.deeper left))
  unfolding r.assign same_class
  exactly_assign = exactly_choice (just k.Throw) starts_unary refl h.heads_throw h.heads_chain_or_more (present_at refl (λ n. refl) exactly_throw) (exactly_stays refl (λ n. refl) exactly_chain_or_more)

  pub exactly_expr : Exactly (λ n. g.expr (g.deeper n)) (by (at goes_args)) left (r.expr (r.deeper left))
  unfolding r.expr same_class
  exactly_expr = let heads_other = heads_before {G = λ n. g.assign (g.deeper n)} (is k.Comma) in exactly_as comma_of (exactly_measured span_of (exactly_open (at goes_args) exactly_assign
      (exactly_many (at goes_args) heads_other (present_at refl (λ n. refl) (exactly_before (is k.Comma) exactly_assign)) (sub goes_assign goes_args refl) (sub (just k.Comma) goes_args refl) (apart goes_assign (just k.Comma) refl))
      (opens_many heads_other) (apart goes_assign (just k.Comma) refl) (sub goes_assign goes_args refl) (same_sub (at goes_args))))
