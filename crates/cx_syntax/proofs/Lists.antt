-- The readers of types and of lists in parentheses and braces are exact, given those one level deeper ([dcl.name], [dcl.array], [expr.call], [dcl.init.list]).
use Rattle.std.proofs.Common.{◌≡◌, ℕ, zero, suc, ◌≤◌, Bool, true, ◌||◌, refl, arith}
use Rattle.cx_grammar.specs.Language.{upto, trailed, present, ◌>>◌, ◌<$>◌}
use Rattle.cx_grammar.specs.Exact.{Family}
use Rattle.cx_grammar.specs.Reading.{Reader, guarded, separated_by, trailed_by}
use Rattle.cx_grammar.specs.Sets.{by, never}
use Rattle.cx_grammar.proofs.Heads.{Opens, heads_as, opens_both, opens_sub, never_apart, never_sub, same_sub}
use Rattle.cx_grammar.proofs.Steps.{Exactly, ExactlyAt, exactly_as, exactly_before, exactly_behind, exactly_open, exactly_maybe, exactly_upto, exactly_separated}
use Rattle.cx_grammar.proofs.Choices.{exactly_on}
use Rattle.cx_grammar.proofs.Levels.{marked, present_at, present_deep}
use Rattle.cx_grammar.proofs.Sides.{exactly_measured}
use Rattle.cx_grammar.proofs.Parts.{exact_present}
use Rattle.cx_grammar.proofs.Sames.{exactly_same, swapped}
use Rattle.cx_grammar.proofs.Trailed.{exactly_trailed, heads_trailed}
use Rattle.cx_tree.specs.declared.exprs.Clause.TheVariants as clauses
use Rattle.cx_tree.specs.declared.exprs.Given.TheVariants as gives
use Rattle.cx_syntax.specs.declared.class.Class.{Class}
use Rattle.cx_syntax.specs.declared.class.Class.TheVariants as k
use Rattle.cx_syntax.specs.declared.lexeme.Lexeme.{Lexeme}
use Rattle.cx_syntax.specs.Classes.{is, same_class}
use Rattle.cx_syntax.specs.Sets.{starts_specs, starts_unary, starts_assign, starts_clause}
use Rattle.cx_syntax.specs.Values.{span_of, bound_of, typeid_of, args_of, braces_of}
use Rattle.cx_syntax.specs.Grammar as g
use Rattle.cx_syntax.specs.Readers as r
use Rattle.cx_syntax.specs.Readers.{just}
use Rattle.cx_syntax.proofs.Basics.{at, apart, sub, exactly_widened, exactly_stays, exactly_choice, opens_upto}
use Rattle.cx_syntax.proofs.Specifiers.{goes_ptrs, starts_ptrs, exactly_specs, exactly_ptrs, opens_ptrs}
use Rattle.cx_syntax.specs.Goes.{goes_typeid, goes_assign, goes_args, goes_clauses, goes_operand}
use Rattle.cx_syntax.proofs.Depth.{room, heads_bound, heads_paren_args, heads_braces, heads_args, heads_clause, heads_deep_assign, heads_deep_braces, heads_deep_cond}
use Rattle.cx_syntax.proofs.Begins.{cond_marked, args_marked, clauses_marked}

-- The readers one level deeper are exact, where there is such a level.
pub record Sound (left : ℕ) : Type 0 where
  pub expr : (r.deeper left).room ≡ true → Exactly (λ n. (g.deeper n).expr) (by (at goes_args)) left (r.deeper left).expr
  pub assign : (r.deeper left).room ≡ true → Exactly (λ n. (g.deeper n).assign) (by (at goes_assign)) left (r.deeper left).assign
  pub cond : (r.deeper left).room ≡ true → Exactly (λ n. (g.deeper n).cond) (by (at goes_assign)) left (r.deeper left).cond
  pub cast : (r.deeper left).room ≡ true → Exactly (λ n. (g.deeper n).cast) (goes_operand 0) left (r.deeper left).cast
  pub unary : (r.deeper left).room ≡ true → Exactly (λ n. (g.deeper n).unary) (goes_operand 0) left (r.deeper left).unary
  pub braces : (r.deeper left).room ≡ true → Exactly (λ n. (g.deeper n).braces) (by never) left (r.deeper left).braces

pub deep : (n : ℕ) → (r.deeper n).room ≡ true → 1 ≤ n
unfolding r.deeper
deep zero e = cc
deep (suc n) e = omega arith

pub stays_from : {A : Type 0} (G : Family Lexeme A) → ((n : ℕ) → (G (suc n)).stays ≡ true) → (n : ℕ) → 1 ≤ n → (G n).stays ≡ true
stays_from G s zero p = absurd (omega arith)
stays_from G s (suc n) p = s n

-- an alternative that is present where there is a level deeper
pub exactly_deep : {A : Type 0} {G : Family Lexeme A} {go : A → Lexeme → Bool} {left : ℕ} {read : Reader Lexeme A} → 1 ≤ left → ((n : ℕ) → (G (suc n)).stays ≡ true) → Exactly G go left read → Exactly (λ n. present (G n)) go left read
exactly_deep {G = G} {go = go} {left = left} {read = read} some_left s g = record { at = λ ts. exact_present G go left ts (read ts) (λ n p. let l : 1 ≤ n = omega arith in stays_from G s n l) (g.at ts) }

abbrev pub behind_specs : Class → Bool
behind_specs c = goes_ptrs c || just k.OpenBracket c

abbrev pub heads_behind_specs : Class → Bool
heads_behind_specs c = starts_ptrs c || just k.OpenBracket c

pub opens_declarator : Opens (λ n. g.ptrs >> upto 16 (g.bound (g.deeper n))) (at heads_behind_specs)
unfolding same_class
opens_declarator = opens_both (opens_sub (sub starts_ptrs heads_behind_specs refl) opens_ptrs) (opens_sub (sub (just k.OpenBracket) heads_behind_specs refl) (opens_upto heads_bound 16))

module _ (left : ℕ) (d : Sound left) where
  -- ---- types

  pub cond_at : ExactlyAt (at starts_unary) (λ n. present (g.deeper n).cond) (by (at goes_assign)) left (guarded (r.deeper left).room (r.deeper left).cond)
  cond_at = exactly_on (at starts_unary) (guarded (r.deeper left).room (r.deeper left).cond) (λ t ts h. marked (λ n. (r.deeper n).room) room left (cond_marked t h) d.cond)

  pub exactly_bound : Exactly (λ n. g.bound (g.deeper n)) (by never) left (r.bound (r.deeper left))
  unfolding r.bound same_class
  exactly_bound = exactly_as bound_of (exactly_measured span_of (exactly_before (is k.OpenBracket) (exactly_behind (is k.CloseBracket)
      (exactly_maybe (at goes_assign) heads_deep_cond cond_at (same_sub (at goes_assign)) (sub starts_unary goes_assign refl)) (apart goes_assign (just k.CloseBracket) refl))))

  pub exactly_bounds : Exactly (λ n. upto 16 (g.bound (g.deeper n))) (by (at (just k.OpenBracket))) left (r.bounds (r.deeper left))
  exactly_bounds = exactly_upto (at (just k.OpenBracket)) heads_bound (present_at refl (λ n. refl) exactly_bound) (never_sub (is k.OpenBracket)) (same_sub (is k.OpenBracket)) 16 (never_apart (is k.OpenBracket))

  pub exactly_declarator : Exactly (λ n. g.ptrs >> upto 16 (g.bound (g.deeper n))) (by (at behind_specs)) left (r.declarator (r.deeper left))
  unfolding same_class
  exactly_declarator = exactly_open (at behind_specs) (exactly_ptrs left) exactly_bounds (opens_upto heads_bound 16) (apart goes_ptrs (just k.OpenBracket) refl) (sub goes_ptrs behind_specs refl) (sub (just k.OpenBracket) behind_specs refl)

  pub exactly_typeid : Exactly (λ n. g.typeid (g.deeper n)) (by (at goes_typeid)) left (r.typeid (r.deeper left))
  unfolding r.typeid same_class
  exactly_typeid = exactly_as typeid_of (exactly_measured span_of (exactly_open (at goes_typeid) (exactly_specs left) exactly_declarator opens_declarator
      (apart starts_specs heads_behind_specs refl) (sub starts_specs goes_typeid refl) (sub behind_specs goes_typeid refl)))

  -- ---- lists

  pub args_there : (r.deeper left).room ≡ true → Exactly (λ n. g.args (g.deeper n)) (by (at goes_args)) left (separated_by (is k.Comma) (r.deeper left).assign)
  unfolding same_class
  args_there there = exactly_separated (at goes_args) heads_deep_assign (is k.Comma) (d.assign there)
      (present_deep (deep left there) (λ n. refl) (exactly_before (is k.Comma) (d.assign there))) (apart goes_assign (just k.Comma) refl) (sub goes_assign goes_args refl) (sub (just k.Comma) goes_args refl)

  pub args_at : ExactlyAt (at starts_assign) (λ n. present (g.args (g.deeper n))) (by (at goes_args)) left (r.args (r.deeper left))
  unfolding r.args
  args_at = exactly_on (at starts_assign) (r.args (r.deeper left)) (λ t ts h. marked (λ n. (r.deeper n).room) room left (args_marked t h) args_there)

  pub exactly_paren_args : Exactly (λ n. g.paren_args (g.deeper n)) (by never) left (r.paren_args (r.deeper left))
  unfolding r.paren_args same_class
  exactly_paren_args = exactly_as args_of (exactly_measured span_of (exactly_before (is k.OpenParen) (exactly_behind (is k.CloseParen)
      (exactly_maybe (at goes_args) heads_args args_at (same_sub (at goes_args)) (sub starts_assign goes_args refl)) (apart goes_args (just k.CloseParen) refl))))

  pub exactly_clause : (r.deeper left).room ≡ true → Exactly (λ n. g.clause (g.deeper n)) (by (at goes_assign)) left (r.clause (r.deeper left))
  unfolding r.clause same_class
  exactly_clause there = exactly_same (swapped (λ n. clauses.Nested <$> (g.deeper n).braces) (λ n. clauses.Value <$> (g.deeper n).assign))
      (exactly_choice (just k.OpenBrace) starts_assign refl (heads_as clauses.Nested heads_deep_braces) (heads_as clauses.Value heads_deep_assign)
      (present_deep (deep left there) (λ n. refl) (exactly_as clauses.Nested (exactly_widened (never_sub (at goes_assign)) (d.braces there))))
      (exactly_deep (deep left there) (λ n. refl) (exactly_as clauses.Value (d.assign there))))

  pub clause_stays : (r.deeper left).room ≡ true → (n : ℕ) → left ≤ n → (g.clause (g.deeper n)).stays ≡ true
  clause_stays there zero p = let l = deep left there in absurd (omega arith)
  clause_stays there (suc n) p = refl

  pub clauses_there : (r.deeper left).room ≡ true → Exactly (λ n. trailed (is k.Comma) (g.clause (g.deeper n))) (by (at goes_clauses)) left (trailed_by (is k.Comma) (at starts_clause) (r.clause (r.deeper left)))
  unfolding same_class
  clauses_there there = exactly_trailed (at goes_clauses) heads_clause (exactly_clause there) (clause_stays there) (apart goes_assign (just k.Comma) refl) (sub goes_assign goes_clauses refl)
      (sub (just k.Comma) goes_clauses refl) (sub starts_clause goes_clauses refl)

  pub clauses_at : ExactlyAt (at starts_clause) (λ n. present (trailed (is k.Comma) (g.clause (g.deeper n)))) (by (at goes_clauses)) left (r.clauses_in (r.deeper left))
  unfolding r.clauses_in
  clauses_at = exactly_on (at starts_clause) (r.clauses_in (r.deeper left)) (λ t ts h. marked (λ n. (r.deeper n).room) room left (clauses_marked t h) clauses_there)

  pub exactly_braces : Exactly (λ n. g.braces (g.deeper n)) (by never) left (r.braces (r.deeper left))
  unfolding r.braces same_class
  exactly_braces = exactly_as braces_of (exactly_measured span_of (exactly_before (is k.OpenBrace) (exactly_behind (is k.CloseBrace)
      (exactly_maybe (at goes_clauses) (heads_trailed (is k.Comma) heads_clause) clauses_at (same_sub (at goes_clauses)) (sub starts_clause goes_clauses refl)) (apart goes_clauses (just k.CloseBrace) refl))))

  pub exactly_given : Exactly (λ n. g.given (g.deeper n)) (by never) left (r.given (r.deeper left))
  unfolding r.given same_class
  exactly_given = exactly_choice (just k.OpenParen) (just k.OpenBrace) refl (heads_as gives.Args heads_paren_args) (heads_as gives.Braces heads_braces)
      (present_at refl (λ n. refl) (exactly_as gives.Args exactly_paren_args)) (exactly_stays refl (λ n. refl) (exactly_as gives.Braces exactly_braces))
