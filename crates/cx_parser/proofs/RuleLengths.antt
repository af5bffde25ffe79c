-- No rule leaves more tokens than there were.
use Rattle.std.proofs.Common.{◌≡◌, ℕ, zero, suc, Bool, true, false, List, [], ◌∷◌, length, Option, if◌then◌else◌}
use Rattle.cx_tree.specs.declared.names.Ident.{Ident}
use Rattle.cx_tree.specs.declared.names.TypeName.{TypeName}
use Rattle.cx_tree.specs.declared.names.FunctionName.{FunctionName}
use Rattle.cx_tree.specs.declared.names.Last.{Last}
use Rattle.cx_tree.specs.declared.names.Last.TheVariants as last
use Rattle.cx_tree.specs.declared.operators.AssignOp.{AssignOp}
use Rattle.cx_tree.specs.declared.operators.PrefixOp.{PrefixOp}
use Rattle.cx_tree.specs.declared.operators.Overloaded.{Overloaded}
use Rattle.cx_tree.specs.declared.operators.Overloaded.TheVariants as v
use Rattle.cx_tree.specs.declared.specifiers.Elaboration.{Elaboration}
use Rattle.cx_tree.specs.declared.specifiers.Modifier.{Modifier}
use Rattle.cx_tree.specs.declared.specifiers.TypeWord.{TypeWord}
use Rattle.cx_tree.specs.declared.specifiers.WordOrModifier.{WordOrModifier}
use Rattle.cx_tree.specs.declared.specifiers.Named.{Named}
use Rattle.cx_tree.specs.declared.specifiers.Specs.{Specs}
use Rattle.cx_tree.specs.declared.specifiers.SpecsType.{SpecsType}
use Rattle.cx_tree.specs.declared.specifiers.Star.{Star}
use Rattle.cx_tree.specs.declared.specifiers.Ptrs.{Ptrs}
use Rattle.cx_tree.specs.declared.exprs.Expr.{Expr}
use Rattle.cx_tree.specs.declared.exprs.ExprKind.{ExprKind}
use Rattle.cx_tree.specs.declared.exprs.ExprKind.TheVariants as e
use Rattle.cx_tree.specs.declared.exprs.More.{More}
use Rattle.cx_tree.specs.declared.exprs.MoreKind.{MoreKind}
use Rattle.cx_tree.specs.declared.exprs.MoreKind.TheVariants as m
use Rattle.cx_tree.specs.declared.exprs.Args.{Args}
use Rattle.cx_tree.specs.declared.exprs.Braces.{Braces}
use Rattle.cx_tree.specs.declared.exprs.CastWord.{CastWord}
use Rattle.cx_tree.specs.declared.exprs.Clause.{Clause}
use Rattle.cx_tree.specs.declared.exprs.Clause.TheVariants as clauses
use Rattle.cx_tree.specs.declared.exprs.Given.{Given}
use Rattle.cx_tree.specs.declared.exprs.Given.TheVariants as gives
use Rattle.cx_tree.specs.declared.exprs.Bound.{Bound}
use Rattle.cx_tree.specs.declared.exprs.TypeId.{TypeId}
use Rattle.cx_syntax.specs.declared.class.Class.{Class}
use Rattle.cx_syntax.specs.declared.class.Class.TheVariants as k
use Rattle.cx_syntax.specs.declared.lexeme.Lexeme.{Lexeme}
use Rattle.cx_syntax.specs.declared.parts.MemberPart.{MemberPart}
use Rattle.cx_syntax.specs.declared.parts.MemberPart.TheVariants as part
use Rattle.cx_syntax.specs.declared.parts.Tail.{Tail}
use Rattle.cx_grammar.specs.Language.{joined}
use Rattle.cx_grammar.specs.Sets.{of}
use Rattle.cx_grammar.specs.Reads.{tail_of}
use Rattle.cx_grammar.specs.Exact.{Outcome, stop}
use Rattle.cx_grammar.specs.Reading.{Reader, Shortens, token, the, refuse, guarded, sees, sees_two, many_of, upto_of, maybe_if, such_of, names_by, separated_by, trailed_by, measured_by, ◌>>◌, ◌<$>◌, ◌⊳◌, ◌⊲◌}
use Rattle.cx_syntax.specs.Classes.{class_at, is, same_class}
use Rattle.cx_syntax.specs.Linked.{read_then, links_of}
use Rattle.cx_syntax.specs.Ahead.{qtype_ahead, type_ahead, type_fault, fault_at}
use Rattle.cx_syntax.specs.Sets.{is_type, is_id, is_name, is_modifier, is_word, is_modifier_or_word, is_elaboration, is_single_operator, is_literal, is_string, is_cast_word, is_step, is_reach, is_prefix, is_assignment, allowed, starts_last, starts_typed, starts_given, starts_more, starts_unary, starts_assign, starts_clause, starts_tail}
use Rattle.cx_syntax.specs.Values.{pick, span_of, ident_of, text_of, literal_of, modifier_of, word_of, either_of, elaboration_of, overloaded_of, binary_of, assignment_of, prefix_of, step_of, reach_of, cast_word_of, operator_named, destructor_named, function_name, type_name, named_of, is_specified, words_of, named_type, specs_of, star_of, ptrs_of, bound_of, typeid_of, expr_of, args_of, braces_of, name_of, made_of_word, made_of_type, named_cast, member_of, more_of, postfixed, Operand, closed, closed_kind, prefixed, sizeof_operand, deleted, new_operand, cast_of, Turn, ends_open, chained, assigned_of, chosen_of, tailed, condition, thrown, comma_of}
use Rattle.cx_syntax.specs.Ahead.{name_fault}
use Rattle.cx_syntax.specs.Sets.{is_operator_word, follows_name}
use Rattle.cx_syntax.specs.Readers as r
use Rattle.cx_syntax.specs.Readers.{choose, just}
use Rattle.cx_parser_names.proofs.Lengths.{Keeps, Shrinks, Leaves, shortens_of, keeps_of, keeps_as, shrinks_as, keeps_both, shrinks_both, keeps_then, shrinks_token, shrinks_before, shrinks_behind, keeps_refuse, keeps_guarded, shrinks_guarded, keeps_if, shrinks_if, leaves_if, keeps_maybe, keeps_such, keeps_measured, shrinks_measured, keeps_many, keeps_upto, keeps_separated, keeps_trailed, keeps_names, keeps_links}

one : {A : Type 0} (f : Lexeme → Option A) → Keeps (token f)
one f = keeps_of (shrinks_token f)

a : (c : Class) → Keeps (the (is c))
a c = keeps_of (shrinks_token _)

keeps_choose : {A : Type 0} (set : Class → Bool) {read other : Reader Lexeme A} → Keeps read → Keeps other → Keeps (choose set read other)
keeps_choose set h g = keeps_if (sees (of class_at set)) h g

shrinks_choose : {A : Type 0} (set : Class → Bool) {read other : Reader Lexeme A} → Shrinks read → Shrinks other → Shrinks (choose set read other)
shrinks_choose set h g = shrinks_if (sees (of class_at set)) h g

before : {A : Type 0} (c : Class) {read : Reader Lexeme A} → Keeps read → Keeps (is c ⊳ read)
before c h = keeps_of (shrinks_before (is c) h)

behind : {A : Type 0} (c : Class) {read : Reader Lexeme A} → Keeps read → Keeps (read ⊲ is c)
behind c h = keeps_of (shrinks_behind (is c) h)

-- ---- names, specifiers and pointers

keeps_op : Keeps r.op
unfolding r.op
keeps_op = keeps_choose (just k.OpenParen) (keeps_as (λ _. v.Call) (before k.OpenParen (a k.CloseParen))) (keeps_choose (just k.OpenBracket) (keeps_as (λ _. v.Subscript) (before k.OpenBracket (a k.CloseBracket))) (one (pick is_single_operator overloaded_of)))

keeps_last_part : Keeps r.last_part
unfolding r.last_part
keeps_last_part = keeps_choose is_id (keeps_as last.Ident (one (pick is_id ident_of))) (keeps_as last.Operator (keeps_as operator_named (keeps_measured span_of (before k.Operator keeps_op))))

keeps_fname_parts : Keeps r.fname_parts
keeps_fname_parts = keeps_names (pick is_name ident_of) (is k.ColonColon) (of class_at is_name) (of class_at starts_last) keeps_last_part

keeps_fname : Keeps r.fname
unfolding r.fname
keeps_fname = keeps_as function_name (keeps_measured span_of keeps_fname_parts)

keeps_destructor_name : Keeps r.destructor_name
keeps_destructor_name = keeps_as destructor_named (keeps_measured span_of (before k.Tilde (one (pick is_type ident_of))))

keeps_qtype : Keeps r.qtype
unfolding r.qtype
keeps_qtype = keeps_as type_name (keeps_measured span_of (keeps_both (keeps_maybe (is k.ColonColon) (a k.ColonColon)) (keeps_names (pick is_name ident_of) (is k.ColonColon) (of class_at is_name) (of class_at is_type) (one (pick is_type ident_of)))))

keeps_named : Keeps r.named
unfolding r.named
keeps_named = keeps_as named_of (keeps_both (keeps_maybe (of class_at is_elaboration) (one (pick is_elaboration elaboration_of))) keeps_qtype)

keeps_words_type : Keeps r.words_type
unfolding r.words_type
keeps_words_type = keeps_as words_of (keeps_both (one (pick is_word word_of)) (keeps_many (of class_at is_modifier_or_word) (one (pick is_modifier_or_word either_of))))

keeps_name_type : Keeps r.name_type
unfolding r.name_type
keeps_name_type = keeps_as named_type (keeps_both keeps_named (keeps_many (of class_at is_modifier) (one (pick is_modifier modifier_of))))

keeps_specs : Keeps r.specs
unfolding r.specs
keeps_specs = keeps_as specs_of (keeps_measured span_of (keeps_such is_specified (keeps_both (keeps_many (of class_at is_modifier) (one (pick is_modifier modifier_of))) (keeps_maybe (of class_at starts_typed) (keeps_choose is_word keeps_words_type keeps_name_type)))))

shrinks_star : Shrinks r.star
unfolding r.star
shrinks_star = shrinks_as star_of (shrinks_measured span_of (shrinks_before (is k.Star) (keeps_maybe (is k.Const) (a k.Const))))

keeps_ptrs : Keeps r.ptrs
unfolding r.ptrs
keeps_ptrs = keeps_as ptrs_of (keeps_both (keeps_upto 64 (is k.Star) (keeps_of shrinks_star)) (keeps_maybe (is k.Amp) (a k.Amp)))

-- ---- faults

name_fault_leaves : (A : Type 0) (n : ℕ) (b : Bool) (goes : Class → Bool) (ts : List Lexeme) → Leaves n (name_fault {A = A} b goes ts)
name_fault_leaves A n b goes [] = tt
name_fault_leaves A n true goes (t ∷ ts) = leaves_if n (is k.ColonColon t) (name_fault {A = A} false is_operator_word ts) (fault_at goes (t ∷ ts)) (name_fault_leaves A n false is_operator_word ts) tt
name_fault_leaves A n false goes (t ∷ ts) = leaves_if n (is_name t.class) (name_fault {A = A} true (if is_type t.class then starts_given else follows_name) ts) (fault_at goes (t ∷ ts)) (name_fault_leaves A n true (if is_type t.class then starts_given else follows_name) ts) tt

type_fault_leaves : (A : Type 0) (n : ℕ) (ts : List Lexeme) → Leaves n (type_fault {A = A} ts)
type_fault_leaves A n ts = leaves_if n (sees (of class_at is_word) ts) (fault_at {A = A} starts_given (tail_of ts)) _ tt
    (leaves_if n (sees (is k.ColonColon) ts) (name_fault {A = A} false is_operator_word (tail_of ts)) (name_fault {A = A} false starts_assign ts) (name_fault_leaves A n false is_operator_word (tail_of ts)) (name_fault_leaves A n false starts_assign ts))

-- ---- the rules over those one level deeper

pub record Kept (d : r.Readers) : Type 0 where
  pub expr : Keeps d.expr
  pub assign : Keeps d.assign
  pub cond : Keeps d.cond
  pub cast : Keeps d.cast
  pub unary : Keeps d.unary
  pub braces : Keeps d.braces

module _ (d : r.Readers) (h : Kept d) where
  shrinks_bound : Shrinks (r.bound d)
  unfolding r.bound
  shrinks_bound = shrinks_as bound_of (shrinks_measured span_of (shrinks_before (is k.OpenBracket) (behind k.CloseBracket (keeps_maybe (of class_at starts_unary) (keeps_guarded d.room h.cond)))))

  keeps_typeid : Keeps (r.typeid d)
  unfolding r.typeid
  keeps_typeid = keeps_as typeid_of (keeps_measured span_of (keeps_both keeps_specs (keeps_both keeps_ptrs (keeps_upto 16 (is k.OpenBracket) (keeps_of shrinks_bound)))))

  pub short_arg : Shortens (r.other_arg d)
  short_arg = shortens_of (shrinks_before (is k.Comma) h.assign)

  keeps_args : Keeps (r.args d)
  unfolding r.args
  keeps_args = keeps_guarded d.room (keeps_separated (is k.Comma) h.assign)

  shrinks_paren_args : Shrinks (r.paren_args d)
  unfolding r.paren_args
  shrinks_paren_args = shrinks_as args_of (shrinks_measured span_of (shrinks_before (is k.OpenParen) (behind k.CloseParen (keeps_maybe (of class_at starts_assign) keeps_args))))

  keeps_clause : Keeps (r.clause d)
  unfolding r.clause
  keeps_clause = keeps_choose (just k.OpenBrace) (keeps_as clauses.Nested h.braces) (keeps_as clauses.Value h.assign)

  pub short_clause : Shortens (r.other_clause d)
  short_clause = shortens_of (shrinks_before (is k.Comma) keeps_clause)

  keeps_clauses_in : Keeps (r.clauses_in d)
  unfolding r.clauses_in
  keeps_clauses_in = keeps_guarded d.room (keeps_trailed (is k.Comma) (of class_at starts_clause) keeps_clause)

  keeps_braces : Keeps (r.braces d)
  unfolding r.braces
  keeps_braces = keeps_as braces_of (keeps_measured span_of (before k.OpenBrace (behind k.CloseBrace (keeps_maybe (of class_at starts_clause) keeps_clauses_in))))

  keeps_given : Keeps (r.given d)
  unfolding r.given
  keeps_given = keeps_choose (just k.OpenParen) (keeps_as gives.Args (keeps_of shrinks_paren_args)) (keeps_as gives.Braces keeps_braces)

  keeps_string : Keeps (r.string d)
  unfolding r.string
  keeps_string = keeps_as e.Str (keeps_as joined (keeps_both (one (pick is_string text_of)) (keeps_many (of class_at is_string) (one (pick is_string text_of)))))

  keeps_paren : Keeps (r.paren d)
  unfolding r.paren
  keeps_paren = keeps_guarded d.room (keeps_as e.Paren (before k.OpenParen (behind k.CloseParen h.expr)))

  keeps_word_cast : Keeps (r.word_cast d)
  unfolding r.word_cast
  keeps_word_cast = keeps_guarded d.room (keeps_as named_cast (keeps_both (one (pick is_cast_word cast_word_of)) (keeps_both (before k.Less (behind k.Greater keeps_typeid)) (before k.OpenParen (behind k.CloseParen h.expr)))))

  keeps_word_made : Keeps (r.word_made d)
  unfolding r.word_made
  keeps_word_made = keeps_as made_of_word (keeps_both (one (pick is_word word_of)) keeps_given)

  keeps_id_expression : Keeps (r.id_expression d)
  unfolding r.id_expression
  keeps_id_expression = keeps_as name_of (keeps_measured span_of (keeps_both (keeps_maybe (is k.ColonColon) (a k.ColonColon)) keeps_fname_parts))

  keeps_type_made : Keeps (r.type_made d)
  unfolding r.type_made
  keeps_type_made = keeps_as made_of_type (keeps_both keeps_qtype keeps_given)

  keeps_head_kind : Keeps (r.head_kind d)
  unfolding r.head_kind
  keeps_head_kind = (keeps_choose is_literal (one (pick is_literal literal_of)) (keeps_choose is_string keeps_string (keeps_choose (just k.OpenParen) keeps_paren (keeps_choose is_cast_word keeps_word_cast (keeps_choose is_word keeps_word_made (keeps_if qtype_ahead keeps_type_made keeps_id_expression))))))

  keeps_head : Keeps (r.head d)
  unfolding r.head
  keeps_head = keeps_as expr_of (keeps_measured span_of keeps_head_kind)

  shrinks_subscript : Shrinks (r.subscript d)
  unfolding r.subscript
  shrinks_subscript = shrinks_guarded d.room (shrinks_as m.Subscript (shrinks_before (is k.OpenBracket) (behind k.CloseBracket h.expr)))

  keeps_member_part : Keeps (r.member_part d)
  unfolding r.member_part
  keeps_member_part = keeps_choose (just k.Tilde) (keeps_as part.Destructor (behind k.CloseParen (behind k.OpenParen keeps_destructor_name))) (keeps_as part.Name keeps_fname)

  shrinks_member : Shrinks (r.member d)
  unfolding r.member
  shrinks_member = shrinks_as member_of (shrinks_both (shrinks_token (pick is_reach reach_of)) keeps_member_part)

  shrinks_more_kind : Shrinks (r.more_kind d)
  unfolding r.more_kind
  shrinks_more_kind = shrinks_choose (just k.OpenBracket) shrinks_subscript (shrinks_choose (just k.OpenParen) (shrinks_as m.Call shrinks_paren_args) (shrinks_choose is_step (shrinks_token (pick is_step step_of)) shrinks_member))

  shrinks_more : Shrinks (r.more d)
  unfolding r.more
  shrinks_more = shrinks_as more_of (shrinks_measured span_of shrinks_more_kind)

  pub short_more : Shortens (r.more d)
  short_more = shortens_of shrinks_more

  keeps_postfix : Keeps (r.postfix d)
  unfolding r.postfix
  keeps_postfix = keeps_as postfixed (keeps_measured span_of (keeps_both keeps_head (keeps_many (of class_at starts_more) (keeps_of shrinks_more))))

  keeps_prefix : Keeps (r.prefix d)
  unfolding r.prefix
  keeps_prefix = keeps_guarded d.room (keeps_as prefixed (keeps_measured span_of (keeps_both (one (pick is_prefix prefix_of)) h.cast)))

  keeps_delete : Keeps (r.delete d)
  unfolding r.delete
  keeps_delete = keeps_guarded d.room (keeps_as deleted (keeps_measured span_of (keeps_both (before k.Delete (keeps_maybe (is k.OpenBracket) (before k.OpenBracket (a k.CloseBracket)))) h.cast)))

  keeps_new_bound : Keeps (r.new_bound d)
  unfolding r.new_bound
  keeps_new_bound = keeps_guarded d.room (before k.OpenBracket (behind k.CloseBracket h.expr))

  keeps_new : Keeps (r.new d)
  unfolding r.new
  keeps_new = keeps_as new_operand (keeps_measured span_of (keeps_both (before k.New keeps_specs) (keeps_both (keeps_upto 64 (is k.Star) (keeps_of shrinks_star)) (keeps_both (keeps_maybe (is k.OpenBracket) keeps_new_bound) (keeps_maybe (of class_at starts_given) keeps_given)))))

  keeps_alignof_type : Keeps (r.alignof_type d)
  unfolding r.alignof_type
  keeps_alignof_type = keeps_as closed_kind (keeps_measured span_of (keeps_as e.AlignofType (before k.Alignof (before k.OpenParen (behind k.CloseParen keeps_typeid)))))

  keeps_sizeof_type : Keeps (r.sizeof_type d)
  unfolding r.sizeof_type
  keeps_sizeof_type = keeps_as closed_kind (keeps_measured span_of (keeps_as e.SizeofType (before k.Sizeof (before k.OpenParen (behind k.CloseParen keeps_typeid)))))

  keeps_sizeof_expr : Keeps (r.sizeof_expr d)
  unfolding r.sizeof_expr
  keeps_sizeof_expr = keeps_as sizeof_operand (keeps_measured span_of (before k.Sizeof h.unary))

  -- a fault takes no token
  sizeof_leaves : (next ts : List Lexeme) → Leaves (suc (length ts)) (r.sizeof_by d next ts)
  sizeof_leaves next ts = leaves_if (suc (length ts)) (sees (is k.OpenParen) next)
      (if type_ahead (tail_of next) then r.sizeof_type d ts else (if d.room_for_two then r.sizeof_expr d ts else type_fault (tail_of next))) (if d.room then r.sizeof_expr d ts else fault_at starts_unary next)
      (leaves_if (suc (length ts)) (type_ahead (tail_of next)) (r.sizeof_type d ts) (if d.room_for_two then r.sizeof_expr d ts else type_fault (tail_of next)) (keeps_sizeof_type.at ts)
      (leaves_if (suc (length ts)) d.room_for_two (r.sizeof_expr d ts) (type_fault (tail_of next)) (keeps_sizeof_expr.at ts) (type_fault_leaves Operand (suc (length ts)) (tail_of next))))
      (leaves_if (suc (length ts)) d.room (r.sizeof_expr d ts) (fault_at starts_unary next) (keeps_sizeof_expr.at ts) tt)

  keeps_sizeof : Keeps (r.sizeof d)
  unfolding r.sizeof
  keeps_sizeof = record { at = λ ts. sizeof_leaves (tail_of ts) ts }

  keeps_unary : Keeps (r.unary d)
  unfolding r.unary
  keeps_unary = keeps_choose is_prefix keeps_prefix (keeps_choose (just k.Delete) keeps_delete (keeps_choose (just k.New) keeps_new (keeps_choose (just k.Alignof) keeps_alignof_type (keeps_choose (just k.Sizeof) keeps_sizeof (keeps_as closed keeps_postfix)))))

  keeps_type_cast : Keeps (r.type_cast d)
  unfolding r.type_cast
  keeps_type_cast = keeps_guarded d.room (keeps_as cast_of (keeps_measured span_of (keeps_both (before k.OpenParen (behind k.CloseParen keeps_typeid)) h.cast)))

  keeps_cast : Keeps (r.cast d)
  unfolding r.cast
  keeps_cast = keeps_if (r.cast_ahead d) keeps_type_cast keeps_unary

  -- ---- chains and what holds them

  shrinks_turn : (p : ℕ) (next : Reader Lexeme Operand) (open_new : Bool) → Keeps next → Shrinks (r.turn d p next open_new)
  shrinks_turn p next open_new g = shrinks_both (shrinks_token (pick (allowed p open_new) binary_of)) g

  keeps_chain : (p : ℕ) → Keeps (r.chain d p)
  unfolding r.chain
  keeps_chain zero = keeps_cast
  keeps_chain (suc p) = let g = keeps_chain p in keeps_as chained (keeps_measured span_of (keeps_then g (λ first. keeps_links (r.allowed_at d p) (λ b. keeps_of (shrinks_turn p (r.chain d p) b g)) ends_open first.1)))

  pub short_turn : (p : ℕ) (open_new : Bool) → Shortens (r.turn d p (r.chain d p) open_new)
  short_turn p open_new = shortens_of (shrinks_turn p (r.chain d p) open_new (keeps_chain p))

  keeps_assigned : Keeps (r.assigned d)
  unfolding r.assigned
  keeps_assigned = keeps_guarded d.room (keeps_as assigned_of (keeps_both (one (pick is_assignment assignment_of)) h.assign))

  keeps_choice : Keeps (r.choice d)
  unfolding r.choice
  keeps_choice = keeps_guarded d.room (keeps_both (before k.Question (behind k.Colon h.expr)) h.assign)

  keeps_chosen : Keeps (r.chosen d)
  unfolding r.chosen
  keeps_chosen = keeps_guarded d.room (keeps_as chosen_of (keeps_both (before k.Question (behind k.Colon h.expr)) h.assign))

  keeps_tail : Keeps (r.tail d)
  unfolding r.tail
  keeps_tail = keeps_choose is_assignment keeps_assigned keeps_chosen

  keeps_chain_or_more : Keeps (r.chain_or_more d)
  unfolding r.chain_or_more
  keeps_chain_or_more = keeps_as tailed (keeps_measured span_of (keeps_both (keeps_chain 10) (keeps_maybe (of class_at starts_tail) keeps_tail)))

  keeps_throw : Keeps (r.throw d)
  unfolding r.throw
  keeps_throw = keeps_as thrown (keeps_measured span_of (before k.Throw (keeps_maybe (of class_at starts_assign) (keeps_guarded d.room h.assign))))

  keeps_assign : Keeps (r.assign d)
  unfolding r.assign
  keeps_assign = keeps_choose (just k.Throw) keeps_throw keeps_chain_or_more

  keeps_cond : Keeps (r.cond d)
  unfolding r.cond
  keeps_cond = keeps_as condition (keeps_measured span_of (keeps_both (keeps_chain 10) (keeps_maybe (is k.Question) keeps_choice)))

  pub short_other : Shortens (r.other d)
  short_other = shortens_of (shrinks_before (is k.Comma) keeps_assign)

  keeps_expr : Keeps (r.expr d)
  unfolding r.expr
  keeps_expr = keeps_as comma_of (keeps_measured span_of (keeps_both keeps_assign (keeps_many (is k.Comma) (before k.Comma keeps_assign))))

pub kept : (n : ℕ) → Kept (r.deeper n)
unfolding r.deeper
kept zero = record { expr = keeps_refuse; assign = keeps_refuse; cond = keeps_refuse; cast = keeps_refuse; unary = keeps_refuse; braces = keeps_refuse }
kept (suc n) = let h = kept n in record {
  expr = keeps_expr (r.deeper n) h;
  assign = keeps_assign (r.deeper n) h;
  cond = keeps_cond (r.deeper n) h;
  cast = keeps_cast (r.deeper n) h;
  unary = keeps_unary (r.deeper n) h;
  braces = keeps_braces (r.deeper n) h;
}
