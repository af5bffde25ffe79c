-- What the rules of expressions begin with, and the rules one level deeper.
use Rattle.std.proofs.Common.{◌≡◌, ℕ, zero, suc, Bool, true, false, ◌||◌, List, [], ◌∷◌, ◌++◌, refl, sym, subst, inl}
use Rattle.cx_grammar.specs.Language.{one, the, maybe, ◌<$>◌, ◌∥◌, ◌⊳◌, ◌⊲◌}
use Rattle.cx_grammar.specs.Exact.{Family}
use Rattle.cx_grammar.proofs.Lists.{no_front}
use Rattle.cx_grammar.proofs.Heads.{heads_behind, Heads, heads_as, heads_both, heads_before, heads_or, heads_sub, heads_measured, opens_sub}
use Rattle.cx_grammar.proofs.Levels.{Below, Room, heads_below}
use Rattle.cx_tree.specs.declared.exprs.ExprKind.TheVariants as e
use Rattle.cx_tree.specs.declared.exprs.MoreKind.TheVariants as m
use Rattle.cx_tree.specs.declared.exprs.Clause.TheVariants as clauses
use Rattle.cx_tree.specs.declared.exprs.Given.TheVariants as gives
use Rattle.cx_syntax.specs.declared.class.Class.{Class}
use Rattle.cx_syntax.specs.declared.class.Class.TheVariants as k
use Rattle.cx_syntax.specs.declared.parts.MemberPart.TheVariants as part
use Rattle.cx_syntax.specs.Classes.{is, same_class}
use Rattle.cx_syntax.specs.Linked.{then_by, then_first, then_second, links}
use Rattle.cx_syntax.specs.Sets.{is_word, is_literal, is_string, is_cast_word, is_step, is_reach, is_prefix, is_assignment, starts_specs, starts_name, starts_fname, starts_id_expression, starts_given, starts_head, starts_more, starts_unary, starts_assign, starts_clause, starts_tail}
use Rattle.cx_syntax.specs.Values.{pick, span_of, text_of, literal_of, word_of, assignment_of, prefix_of, step_of, reach_of, cast_word_of, args_of, braces_of, typeid_of, bound_of, expr_of, name_of, made_of_word, made_of_type, named_cast, member_of, more_of, postfixed, closed, closed_kind, prefixed, sizeof_operand, deleted, new_operand, cast_of, ends_open, chained, assigned_of, chosen_of, tailed, condition, thrown, comma_of}
use Rattle.cx_syntax.specs.Grammar as g
use Rattle.cx_syntax.specs.Readers as r
use Rattle.cx_syntax.specs.Readers.{just}
use Rattle.cx_syntax.proofs.Basics.{at, sub, heads_pick, heads_after}
use Rattle.cx_syntax.proofs.Names.{heads_fname, heads_fname_parts, heads_destructor_name, heads_qtype, opens_colons, goes_name}
use Rattle.cx_syntax.proofs.Specifiers.{heads_specs}

-- ---- a part with what may follow its value

pub front_head : {T A : Type 0} {G : Family T A} {p : T → Bool} → Heads G p → (n : ℕ) (t : T) (x f b : List T) (v : A) → t ∷ x ≡ f ++ b → (G n).spells f v → p t ≡ true
front_head h n t x [] b v e s = absurd (h.full n v s)
front_head {G = G} {p = p} h n t x (u ∷ f) b v e s = let heads : u ≡ t = cc in subst (λ z. p z ≡ true) heads (h.spells n u f v s)

pub heads_then : {T A B : Type 0} {G : Family T A} (H : A → Family T B) {p : T → Bool} → Heads G p → Heads (λ n. then_by (G n) (λ v. H v n)) p
heads_then {T = T} {G = G} H h = record {
  blank = λ n. then_first (h.blank n);
  full = λ n w s. h.full n w.0 (let P : List T → Type 0 = λ l. (G n).spells l w.0 in subst P (no_front s.front s.back (sym s.cut)) s.first);
  spells = λ n t x w s. front_head h n t x s.front s.back w.0 s.cut s.first;
  begins = λ n t x b. elim b [ then_first c ↦ h.begins n t x c | then_second f k w cut s c ↦ front_head h n t x f k w cut s ];
}

-- ---- types and lists

pub heads_bound : Heads (λ n. g.bound (g.deeper n)) (at (just k.OpenBracket))
heads_bound = heads_as bound_of (heads_measured span_of (heads_before {G = λ n. maybe (g.deeper n).cond ⊲ is k.CloseBracket} (is k.OpenBracket)))

pub heads_typeid : Heads (λ n. g.typeid (g.deeper n)) (at starts_specs)
heads_typeid = heads_as typeid_of (heads_measured span_of (heads_both _ heads_specs))

pub heads_paren_args : Heads (λ n. g.paren_args (g.deeper n)) (at (just k.OpenParen))
heads_paren_args = heads_as args_of (heads_measured span_of (heads_before {G = λ n. maybe (g.args (g.deeper n)) ⊲ is k.CloseParen} (is k.OpenParen)))

pub heads_braces : Heads (λ n. g.braces (g.deeper n)) (at (just k.OpenBrace))
heads_braces = heads_as braces_of (heads_measured span_of (heads_before {G = λ n. maybe _ ⊲ is k.CloseBrace} (is k.OpenBrace)))

pub heads_given : Heads (λ n. g.given (g.deeper n)) (at starts_given)
unfolding same_class
heads_given = heads_sub (sub (λ c. just k.OpenParen c || just k.OpenBrace c) starts_given refl) (heads_or (heads_as gives.Args heads_paren_args) (heads_as gives.Braces heads_braces))

-- ---- heads

pub heads_literal : Heads (λ n. g.literal (g.deeper n)) (at is_literal)
heads_literal = heads_pick is_literal literal_of

pub heads_string : Heads (λ n. g.string (g.deeper n)) (at is_string)
heads_string = heads_as e.Str (heads_as _ (heads_both _ (heads_pick is_string text_of)))

pub heads_paren : Heads (λ n. g.paren (g.deeper n)) (at (just k.OpenParen))
heads_paren = heads_as e.Paren (heads_before {G = λ n. (g.deeper n).expr ⊲ is k.CloseParen} (is k.OpenParen))

pub heads_word_cast : Heads (λ n. g.word_cast (g.deeper n)) (at is_cast_word)
heads_word_cast = heads_as named_cast (heads_both _ (heads_pick is_cast_word cast_word_of))

pub heads_word_made : Heads (λ n. g.word_made (g.deeper n)) (at is_word)
heads_word_made = heads_as made_of_word (heads_both _ (heads_pick is_word word_of))

pub heads_id_expression : Heads (λ n. g.id_expression (g.deeper n)) (at starts_id_expression)
unfolding same_class
heads_id_expression = heads_as name_of (heads_measured span_of (heads_after (opens_sub (sub goes_name starts_id_expression refl) opens_colons) (λ n. inl refl) (heads_sub (sub starts_fname starts_id_expression refl) heads_fname_parts)))

pub heads_type_made : Heads (λ n. g.type_made (g.deeper n)) (at starts_name)
heads_type_made = heads_as made_of_type (heads_both _ heads_qtype)

-- the end of the choice among heads
abbrev pub starts_named_head : Class → Bool
starts_named_head c = starts_id_expression c || starts_name c

abbrev pub starts_made : Class → Bool
starts_made c = is_word c || starts_named_head c

abbrev pub starts_cast_or_made : Class → Bool
starts_cast_or_made c = is_cast_word c || starts_made c

abbrev pub starts_paren_or_made : Class → Bool
starts_paren_or_made c = just k.OpenParen c || starts_cast_or_made c

abbrev pub starts_string_or_more : Class → Bool
starts_string_or_more c = is_string c || starts_paren_or_made c

pub heads_named_head : Heads (λ n. g.id_expression (g.deeper n) ∥ g.type_made (g.deeper n)) (at starts_named_head)
heads_named_head = heads_or heads_id_expression heads_type_made

pub heads_made : Heads (λ n. g.word_made (g.deeper n) ∥ g.id_expression (g.deeper n) ∥ g.type_made (g.deeper n)) (at starts_made)
heads_made = heads_or heads_word_made heads_named_head

pub heads_cast_or_made : Heads (λ n. g.word_cast (g.deeper n) ∥ g.word_made (g.deeper n) ∥ g.id_expression (g.deeper n) ∥ g.type_made (g.deeper n)) (at starts_cast_or_made)
heads_cast_or_made = heads_or heads_word_cast heads_made

pub heads_paren_or_made : Heads (λ n. g.paren (g.deeper n) ∥ g.word_cast (g.deeper n) ∥ g.word_made (g.deeper n) ∥ g.id_expression (g.deeper n) ∥ g.type_made (g.deeper n)) (at starts_paren_or_made)
heads_paren_or_made = heads_or heads_paren heads_cast_or_made

pub heads_string_or_more : Heads (λ n. g.string (g.deeper n) ∥ g.paren (g.deeper n) ∥ g.word_cast (g.deeper n) ∥ g.word_made (g.deeper n) ∥ g.id_expression (g.deeper n) ∥ g.type_made (g.deeper n)) (at starts_string_or_more)
heads_string_or_more = heads_or heads_string heads_paren_or_made

pub heads_head_kind : Heads (λ n. g.head_kind (g.deeper n)) (at starts_head)
unfolding same_class
heads_head_kind = heads_sub (sub (λ c. is_literal c || starts_string_or_more c) starts_head refl) (heads_or heads_literal heads_string_or_more)

pub heads_head : Heads (λ n. g.head (g.deeper n)) (at starts_head)
heads_head = heads_as expr_of (heads_measured span_of heads_head_kind)

-- ---- what stands behind a head

pub heads_subscript : Heads (λ n. g.subscript (g.deeper n)) (at (just k.OpenBracket))
heads_subscript = heads_as m.Subscript (heads_before {G = λ n. (g.deeper n).expr ⊲ is k.CloseBracket} (is k.OpenBracket))

pub heads_call : Heads (λ n. m.Call <$> g.paren_args (g.deeper n)) (at (just k.OpenParen))
heads_call = heads_as m.Call heads_paren_args

pub heads_step : Heads (λ n. one (pick is_step step_of)) (at is_step)
heads_step = heads_pick is_step step_of

pub heads_destructor : Heads (λ n. part.Destructor <$> (g.destructor_name ⊲ is k.OpenParen ⊲ is k.CloseParen)) (at (just k.Tilde))
heads_destructor = heads_as part.Destructor (heads_behind {G = λ n. g.destructor_name ⊲ is k.OpenParen} (is k.CloseParen) (heads_behind {G = λ n. g.destructor_name} (is k.OpenParen) heads_destructor_name))

pub heads_member_name : Heads (λ n. part.Name <$> g.fname) (at starts_fname)
heads_member_name = heads_as part.Name heads_fname

abbrev pub starts_member_part : Class → Bool
starts_member_part c = starts_fname c || just k.Tilde c

pub heads_member_part : Heads (λ n. g.member_part) (at starts_member_part)
heads_member_part = heads_or heads_member_name heads_destructor

pub heads_member : Heads (λ n. g.member) (at is_reach)
heads_member = heads_as member_of (heads_both _ (heads_pick is_reach reach_of))

abbrev pub starts_step_or_member : Class → Bool
starts_step_or_member c = is_step c || is_reach c

abbrev pub starts_call_or_more : Class → Bool
starts_call_or_more c = just k.OpenParen c || starts_step_or_member c

pub heads_step_or_member : Heads (λ n. one (pick is_step step_of) ∥ g.member) (at starts_step_or_member)
heads_step_or_member = heads_or heads_step heads_member

pub heads_call_or_more : Heads (λ n. (m.Call <$> g.paren_args (g.deeper n)) ∥ one (pick is_step step_of) ∥ g.member) (at starts_call_or_more)
heads_call_or_more = heads_or heads_call heads_step_or_member

pub heads_more_kind : Heads (λ n. g.more_kind (g.deeper n)) (at starts_more)
unfolding same_class
heads_more_kind = heads_sub (sub (λ c. just k.OpenBracket c || starts_call_or_more c) starts_more refl) (heads_or heads_subscript heads_call_or_more)

pub heads_more : Heads (λ n. g.more (g.deeper n)) (at starts_more)
heads_more = heads_as more_of (heads_measured span_of heads_more_kind)

pub heads_postfix : Heads (λ n. g.postfix (g.deeper n)) (at starts_head)
heads_postfix = heads_as postfixed (heads_measured span_of (heads_both _ heads_head))

-- ---- operands

pub heads_prefix : Heads (λ n. g.prefix (g.deeper n)) (at is_prefix)
heads_prefix = heads_as prefixed (heads_measured span_of (heads_both _ (heads_pick is_prefix prefix_of)))

pub heads_delete : Heads (λ n. g.delete (g.deeper n)) (at (just k.Delete))
heads_delete = heads_as deleted (heads_measured span_of (heads_both (λ n. (g.deeper n).cast) (heads_before {G = λ n. maybe (is k.OpenBracket ⊳ the (is k.CloseBracket))} (is k.Delete))))

pub heads_new : Heads (λ n. g.new (g.deeper n)) (at (just k.New))
heads_new = heads_as new_operand (heads_measured span_of (heads_both _ (heads_before {G = λ n. g.specs} (is k.New))))

pub heads_alignof : Heads (λ n. g.alignof_type (g.deeper n)) (at (just k.Alignof))
heads_alignof = heads_as closed_kind (heads_measured span_of (heads_as e.AlignofType (heads_before {G = λ n. is k.OpenParen ⊳ g.typeid (g.deeper n) ⊲ is k.CloseParen} (is k.Alignof))))

pub heads_sizeof_type : Heads (λ n. g.sizeof_type (g.deeper n)) (at (just k.Sizeof))
heads_sizeof_type = heads_as closed_kind (heads_measured span_of (heads_as e.SizeofType (heads_before {G = λ n. is k.OpenParen ⊳ g.typeid (g.deeper n) ⊲ is k.CloseParen} (is k.Sizeof))))

pub heads_sizeof_expr : Heads (λ n. g.sizeof_expr (g.deeper n)) (at (just k.Sizeof))
heads_sizeof_expr = heads_as sizeof_operand (heads_measured span_of (heads_before {G = λ n. (g.deeper n).unary} (is k.Sizeof)))

pub same_either : (b : Bool) → (b || b) ≡ true → b ≡ true
same_either true e = refl
same_either false e = e

pub heads_sizeof : Heads (λ n. g.sizeof_type (g.deeper n) ∥ g.sizeof_expr (g.deeper n)) (at (just k.Sizeof))
heads_sizeof = heads_sub (λ t e. same_either (just k.Sizeof t.class) e) (heads_or heads_sizeof_type heads_sizeof_expr)

pub heads_closed : Heads (λ n. closed <$> g.postfix (g.deeper n)) (at starts_head)
heads_closed = heads_as closed heads_postfix

abbrev pub starts_sizeof_or_head : Class → Bool
starts_sizeof_or_head c = just k.Sizeof c || starts_head c

abbrev pub starts_alignof_or_more : Class → Bool
starts_alignof_or_more c = just k.Alignof c || starts_sizeof_or_head c

abbrev pub starts_new_or_more : Class → Bool
starts_new_or_more c = just k.New c || starts_alignof_or_more c

abbrev pub starts_delete_or_more : Class → Bool
starts_delete_or_more c = just k.Delete c || starts_new_or_more c

pub heads_sizeof_or_head : Heads (λ n. (g.sizeof_type (g.deeper n) ∥ g.sizeof_expr (g.deeper n)) ∥ (closed <$> g.postfix (g.deeper n))) (at starts_sizeof_or_head)
heads_sizeof_or_head = heads_or heads_sizeof heads_closed

pub heads_alignof_or_more : Heads (λ n. g.alignof_type (g.deeper n) ∥ (g.sizeof_type (g.deeper n) ∥ g.sizeof_expr (g.deeper n)) ∥ (closed <$> g.postfix (g.deeper n))) (at starts_alignof_or_more)
heads_alignof_or_more = heads_or heads_alignof heads_sizeof_or_head

pub heads_new_or_more : Heads (λ n. g.new (g.deeper n) ∥ g.alignof_type (g.deeper n) ∥ (g.sizeof_type (g.deeper n) ∥ g.sizeof_expr (g.deeper n)) ∥ (closed <$> g.postfix (g.deeper n))) (at starts_new_or_more)
heads_new_or_more = heads_or heads_new heads_alignof_or_more

pub heads_delete_or_more : Heads (λ n. g.delete (g.deeper n) ∥ g.new (g.deeper n) ∥ g.alignof_type (g.deeper n) ∥ (g.sizeof_type (g.deeper n) ∥ g.sizeof_expr (g.deeper n)) ∥ (closed <$> g.postfix (g.deeper n))) (at starts_delete_or_more)
heads_delete_or_more = heads_or heads_delete heads_new_or_more

pub heads_unary : Heads (λ n. g.unary (g.deeper n)) (at starts_unary)
unfolding same_class
heads_unary = heads_sub (sub (λ c. is_prefix c || starts_delete_or_more c) starts_unary refl) (heads_or heads_prefix heads_delete_or_more)

pub heads_type_cast : Heads (λ n. g.type_cast (g.deeper n)) (at (just k.OpenParen))
heads_type_cast = heads_as cast_of (heads_measured span_of (heads_both (λ n. (g.deeper n).cast) (heads_before {G = λ n. g.typeid (g.deeper n) ⊲ is k.CloseParen} (is k.OpenParen))))

pub heads_cast : Heads (λ n. g.cast (g.deeper n)) (at starts_unary)
unfolding same_class
heads_cast = heads_sub (sub (λ c. just k.OpenParen c || starts_unary c) starts_unary refl) (heads_or heads_type_cast heads_unary)

-- ---- chains, and what holds them

pub heads_chain : (p : ℕ) → Heads (λ n. g.chain (g.deeper n) p) (at starts_unary)
heads_chain zero = heads_cast
heads_chain (suc p) = heads_as chained (heads_measured span_of (heads_then (λ first n. links (g.turn (g.deeper n) p (g.chain (g.deeper n) p)) ends_open first.1) (heads_chain p)))

pub heads_assigned : Heads (λ n. g.assigned (g.deeper n)) (at is_assignment)
heads_assigned = heads_as assigned_of (heads_both (λ n. (g.deeper n).assign) (heads_pick is_assignment assignment_of))

pub heads_choice : Heads (λ n. g.choice (g.deeper n)) (at (just k.Question))
heads_choice = heads_both (λ n. (g.deeper n).assign) (heads_before {G = λ n. (g.deeper n).expr ⊲ is k.Colon} (is k.Question))

pub heads_chosen : Heads (λ n. chosen_of <$> g.choice (g.deeper n)) (at (just k.Question))
heads_chosen = heads_as chosen_of heads_choice

pub heads_tail : Heads (λ n. g.assigned (g.deeper n) ∥ (chosen_of <$> g.choice (g.deeper n))) (at starts_tail)
unfolding same_class
heads_tail = heads_sub (sub (λ c. is_assignment c || just k.Question c) starts_tail refl) (heads_or heads_assigned heads_chosen)

pub heads_chain_or_more : Heads (λ n. g.chain_or_more (g.deeper n)) (at starts_unary)
heads_chain_or_more = heads_as tailed (heads_measured span_of (heads_both _ (heads_chain 10)))

pub heads_throw : Heads (λ n. g.throw (g.deeper n)) (at (just k.Throw))
heads_throw = heads_as thrown (heads_measured span_of (heads_before {G = λ n. maybe (g.deeper n).assign} (is k.Throw)))

pub heads_assign : Heads (λ n. g.assign (g.deeper n)) (at starts_assign)
unfolding same_class
heads_assign = heads_sub (sub (λ c. just k.Throw c || starts_unary c) starts_assign refl) (heads_or heads_throw heads_chain_or_more)

pub heads_cond : Heads (λ n. g.cond (g.deeper n)) (at starts_unary)
heads_cond = heads_as condition (heads_measured span_of (heads_both _ (heads_chain 10)))

pub heads_expr : Heads (λ n. g.expr (g.deeper n)) (at starts_assign)
heads_expr = heads_as comma_of (heads_measured span_of (heads_both _ heads_assign))

-- ---- one level deeper

pub below_expr : Below (λ n. (g.deeper n).expr) (λ n. g.expr (g.deeper n))
below_expr = record { none = refl; one_less = λ n. refl }

pub below_assign : Below (λ n. (g.deeper n).assign) (λ n. g.assign (g.deeper n))
below_assign = record { none = refl; one_less = λ n. refl }

pub below_cond : Below (λ n. (g.deeper n).cond) (λ n. g.cond (g.deeper n))
below_cond = record { none = refl; one_less = λ n. refl }

pub below_cast : Below (λ n. (g.deeper n).cast) (λ n. g.cast (g.deeper n))
below_cast = record { none = refl; one_less = λ n. refl }

pub below_unary : Below (λ n. (g.deeper n).unary) (λ n. g.unary (g.deeper n))
below_unary = record { none = refl; one_less = λ n. refl }

pub below_braces : Below (λ n. (g.deeper n).braces) (λ n. g.braces (g.deeper n))
below_braces = record { none = refl; one_less = λ n. refl }

pub heads_deep_expr : Heads (λ n. (g.deeper n).expr) (at starts_assign)
heads_deep_expr = heads_below below_expr heads_expr

pub heads_deep_assign : Heads (λ n. (g.deeper n).assign) (at starts_assign)
heads_deep_assign = heads_below below_assign heads_assign

pub heads_deep_cond : Heads (λ n. (g.deeper n).cond) (at starts_unary)
heads_deep_cond = heads_below below_cond heads_cond

pub heads_deep_cast : Heads (λ n. (g.deeper n).cast) (at starts_unary)
heads_deep_cast = heads_below below_cast heads_cast

pub heads_deep_unary : Heads (λ n. (g.deeper n).unary) (at starts_unary)
heads_deep_unary = heads_below below_unary heads_unary

pub heads_deep_braces : Heads (λ n. (g.deeper n).braces) (at (just k.OpenBrace))
heads_deep_braces = heads_below below_braces heads_braces

-- ---- lists one level deeper

pub heads_args : Heads (λ n. g.args (g.deeper n)) (at starts_assign)
heads_args = heads_as _ (heads_both _ heads_deep_assign)

pub heads_clause : Heads (λ n. g.clause (g.deeper n)) (at starts_clause)
unfolding same_class
heads_clause = heads_sub (sub (λ c. starts_assign c || just k.OpenBrace c) starts_clause refl) (heads_or (heads_as clauses.Value heads_deep_assign) (heads_as clauses.Nested heads_deep_braces))

pub room : Room (λ n. (r.deeper n).room)
unfolding r.deeper
room = record { none = refl; some = λ n. refl }
