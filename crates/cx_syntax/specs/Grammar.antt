-- The grammar of expressions ([expr]) and of the types that stand in them ([dcl.type], [dcl.name]): one line for each alternative.
use Rattle.std.specs.Prelude.{ℕ, zero, suc, Bool, List}
use Rattle.cx_tree.specs.declared.names.Ident.{Ident}
use Rattle.cx_tree.specs.declared.names.TypeName.{TypeName}
use Rattle.cx_tree.specs.declared.names.DestructorName.{DestructorName}
use Rattle.cx_tree.specs.declared.names.FunctionName.{FunctionName}
use Rattle.cx_tree.specs.declared.names.OperatorName.{OperatorName}
use Rattle.cx_tree.specs.declared.names.Last.{Last}
use Rattle.cx_tree.specs.declared.names.Last.TheVariants as last
use Rattle.cx_tree.specs.declared.operators.Overloaded.{Overloaded}
use Rattle.cx_tree.specs.declared.operators.Overloaded.TheVariants as v
use Rattle.cx_tree.specs.declared.specifiers.Modifier.{Modifier}
use Rattle.cx_tree.specs.declared.specifiers.SimpleType.{SimpleType}
use Rattle.cx_tree.specs.declared.specifiers.Named.{Named}
use Rattle.cx_tree.specs.declared.specifiers.Specs.{Specs}
use Rattle.cx_tree.specs.declared.specifiers.SpecsType.{SpecsType}
use Rattle.cx_tree.specs.declared.specifiers.Star.{Star}
use Rattle.cx_tree.specs.declared.specifiers.Ptrs.{Ptrs}
use Rattle.cx_tree.specs.declared.exprs.Expr.{Expr}
use Rattle.cx_tree.specs.declared.exprs.ExprKind.{ExprKind}
use Rattle.cx_tree.specs.declared.exprs.ExprKind.TheVariants as e
use Rattle.cx_tree.specs.declared.exprs.More.{More}
use Rattle.cx_tree.specs.declared.exprs.MoreKind.{MoreKind}
use Rattle.cx_tree.specs.declared.exprs.MoreKind.TheVariants as m
use Rattle.cx_tree.specs.declared.exprs.Args.{Args}
use Rattle.cx_tree.specs.declared.exprs.Braces.{Braces}
use Rattle.cx_tree.specs.declared.exprs.Clause.{Clause}
use Rattle.cx_tree.specs.declared.exprs.Clause.TheVariants as clauses
use Rattle.cx_tree.specs.declared.exprs.Given.{Given}
use Rattle.cx_tree.specs.declared.exprs.Given.TheVariants as gives
use Rattle.cx_tree.specs.declared.exprs.Bound.{Bound}
use Rattle.cx_tree.specs.declared.exprs.TypeId.{TypeId}
use Rattle.cx_syntax.specs.declared.class.Class.TheVariants as k
use Rattle.cx_syntax.specs.declared.lexeme.Lexeme.{Lexeme}
use Rattle.cx_syntax.specs.declared.parts.MemberPart.{MemberPart}
use Rattle.cx_syntax.specs.declared.parts.MemberPart.TheVariants as part
use Rattle.cx_syntax.specs.declared.parts.Tail.{Tail}
use Rattle.cx_grammar.specs.Language.{Language, one, the, ◌>>◌, ◌<$>◌, ◌∥◌, ◌⊳◌, ◌⊲◌, maybe, many, upto, such, names, separated, trailed, measured, joined, absent, there}
use Rattle.cx_syntax.specs.Classes.{is}
use Rattle.cx_syntax.specs.Linked.{then_by, links}
use Rattle.cx_syntax.specs.Sets.{is_type, is_id, is_name, is_modifier, is_word, is_modifier_or_word, is_elaboration, is_single_operator, is_literal, is_string, is_cast_word, is_step, is_reach, is_prefix, is_assignment, allowed}
use Rattle.cx_syntax.specs.Values.{pick, span_of, ident_of, text_of, literal_of, modifier_of, word_of, either_of, elaboration_of, overloaded_of, binary_of, assignment_of, prefix_of, step_of, reach_of, cast_word_of, operator_named, destructor_named, function_name, type_name, named_of, is_specified, words_of, named_type, specs_of, star_of, ptrs_of, bound_of, typeid_of, expr_of, args_of, braces_of, name_of, made_of_word, made_of_type, named_cast, member_of, more_of, postfixed, Operand, closed, closed_kind, prefixed, sizeof_operand, deleted, new_operand, cast_of, Turn, ends_open, chained, assigned_of, chosen_of, tailed, condition, thrown, comma_of}

-- ---- names ([expr.prim.id], [over.oper])

-- name = ID | TYPE
abbrev pub name : Language Lexeme Ident
name = one (pick is_name ident_of)

-- the ID, and the TYPE, of a rule
abbrev pub id : Language Lexeme Ident
id = one (pick is_id ident_of)

abbrev pub type_only : Language Lexeme Ident
type_only = one (pick is_type ident_of)

-- op = "(" ")" | "[" "]" | an operator of one token
abbrev pub op : Language Lexeme Overloaded
op = ((λ _. v.Call) <$> (is k.OpenParen ⊳ the (is k.CloseParen)))
    ∥ ((λ _. v.Subscript) <$> (is k.OpenBracket ⊳ the (is k.CloseBracket)))
    ∥ one (pick is_single_operator overloaded_of)

-- "operator" op, and its place
abbrev pub operator_name : Language Lexeme OperatorName
operator_name = operator_named <$> measured span_of (is k.Operator ⊳ op)

-- ID | "operator" op
abbrev pub last_part : Language Lexeme Last
last_part = (last.Ident <$> id) ∥ (last.Operator <$> operator_name)

-- fname = (name "::")* (ID | "operator" op)
abbrev pub fname : Language Lexeme FunctionName
fname = function_name <$> measured span_of (names (pick is_name ident_of) (is k.ColonColon) last_part)

-- qtype = "::"? (name "::")* TYPE
abbrev pub qtype : Language Lexeme TypeName
qtype = type_name <$> measured span_of (maybe (the (is k.ColonColon)) >> names (pick is_name ident_of) (is k.ColonColon) type_only)

-- "~" TYPE, and its place
abbrev pub destructor_name : Language Lexeme DestructorName
destructor_name = destructor_named <$> measured span_of (is k.Tilde ⊳ type_only)

-- fname | "~" TYPE "(" ")"
abbrev pub member_part : Language Lexeme MemberPart
member_part = (part.Name <$> fname) ∥ (part.Destructor <$> (destructor_name ⊲ is k.OpenParen ⊲ is k.CloseParen))

-- ("." | "->") (fname | "~" TYPE "(" ")")
abbrev pub member : Language Lexeme MoreKind
member = member_of <$> (one (pick is_reach reach_of) >> member_part)

-- ---- specifiers and pointers ([dcl.spec], [dcl.ptr])

abbrev pub modifier : Language Lexeme Modifier
modifier = one (pick is_modifier modifier_of)

abbrev pub word : Language Lexeme SimpleType
word = one (pick is_word word_of)

-- named = (key | "enum")? qtype
abbrev pub named : Language Lexeme Named
named = named_of <$> (maybe (one (pick is_elaboration elaboration_of)) >> qtype)

-- word (mod | word)*, or named mod*
abbrev pub words_type : Language Lexeme SpecsType
words_type = words_of <$> (word >> many (one (pick is_modifier_or_word either_of)))

abbrev pub name_type : Language Lexeme SpecsType
name_type = named_type <$> (named >> many modifier)

-- specs = mod* (word (mod | word)* | named mod*)?, at least one token
abbrev pub specs : Language Lexeme Specs
specs = specs_of <$> measured span_of (such is_specified (many modifier >> maybe (words_type ∥ name_type)))

-- stars = ("*" "const"?){0..64}
abbrev pub star : Language Lexeme Star
star = star_of <$> measured span_of (is k.Star ⊳ maybe (the (is k.Const)))

abbrev pub stars : Language Lexeme (List Star)
stars = upto 64 star

-- ptrs = stars "&"?
abbrev pub ptrs : Language Lexeme Ptrs
ptrs = ptrs_of <$> (stars >> maybe (the (is k.Amp)))

-- the symbols that are marked as one level deeper
pub record Deeper : Type 1 where
  pub expr : Language Lexeme Expr
  pub assign : Language Lexeme Expr
  pub cond : Language Lexeme Expr
  pub cast : Language Lexeme Operand
  pub unary : Language Lexeme Operand
  pub braces : Language Lexeme Braces

module _ (d : Deeper) where
  -- bound = "[" cond^? "]"
  abbrev pub bound : Language Lexeme Bound
  bound = bound_of <$> measured span_of (is k.OpenBracket ⊳ maybe d.cond ⊲ is k.CloseBracket)

  -- typeid = specs ptrs bound{0..16}
  abbrev pub typeid : Language Lexeme TypeId
  typeid = typeid_of <$> measured span_of (specs >> ptrs >> upto 16 bound)

  -- ---- lists in parentheses and braces ([expr.call], [dcl.init.list])

  -- args = assign^ ("," assign^)*
  abbrev pub args : Language Lexeme (List Expr)
  args = separated (is k.Comma) d.assign

  -- "(" args? ")"
  abbrev pub paren_args : Language Lexeme Args
  paren_args = args_of <$> measured span_of (is k.OpenParen ⊳ maybe args ⊲ is k.CloseParen)

  -- clause = assign^ | braces^
  abbrev pub clause : Language Lexeme Clause
  clause = (clauses.Value <$> d.assign) ∥ (clauses.Nested <$> d.braces)

  -- braces = "{" (clause ("," clause)* ","?)? "}"
  abbrev pub braces : Language Lexeme Braces
  braces = braces_of <$> measured span_of (is k.OpenBrace ⊳ maybe (trailed (is k.Comma) clause) ⊲ is k.CloseBrace)

  -- "(" args? ")" | braces
  abbrev pub given : Language Lexeme Given
  given = (gives.Args <$> paren_args) ∥ (gives.Braces <$> braces)

  -- ---- heads ([expr.prim], [expr.type.conv], [expr.static.cast])

  -- NUMBER | CHAR | "true" | "false" | "nullptr" | "this"
  abbrev pub literal : Language Lexeme ExprKind
  literal = one (pick is_literal literal_of)

  -- STR+
  abbrev pub string : Language Lexeme ExprKind
  string = e.Str <$> (joined <$> (one (pick is_string text_of) >> many (one (pick is_string text_of))))

  -- "(" expr^ ")"
  abbrev pub paren : Language Lexeme ExprKind
  paren = e.Paren <$> (is k.OpenParen ⊳ d.expr ⊲ is k.CloseParen)

  -- ("static_cast" | "const_cast" | "reinterpret_cast") "<" typeid ">" "(" expr^ ")"
  abbrev pub word_cast : Language Lexeme ExprKind
  word_cast = named_cast <$> (one (pick is_cast_word cast_word_of) >> (is k.Less ⊳ typeid ⊲ is k.Greater) >> (is k.OpenParen ⊳ d.expr ⊲ is k.CloseParen))

  -- word ("(" args? ")" | braces)
  abbrev pub word_made : Language Lexeme ExprKind
  word_made = made_of_word <$> (word >> given)

  -- "::"? fname
  abbrev pub id_expression : Language Lexeme ExprKind
  id_expression = name_of <$> measured span_of (maybe (the (is k.ColonColon)) >> names (pick is_name ident_of) (is k.ColonColon) last_part)

  -- qtype ("(" args? ")" | braces)
  abbrev pub type_made : Language Lexeme ExprKind
  type_made = made_of_type <$> (qtype >> given)

  -- head = a literal | STR+ | "(" expr^ ")" | a named cast | word given | "::"? fname | qtype given
  abbrev pub head_kind : Language Lexeme ExprKind
  head_kind = literal ∥ string ∥ paren ∥ word_cast ∥ word_made ∥ id_expression ∥ type_made

  abbrev pub head : Language Lexeme Expr
  head = expr_of <$> measured span_of head_kind

  -- ---- what stands behind a head ([expr.post])

  -- "[" expr^ "]"
  abbrev pub subscript : Language Lexeme MoreKind
  subscript = m.Subscript <$> (is k.OpenBracket ⊳ d.expr ⊲ is k.CloseBracket)

  -- more = "[" expr^ "]" | "(" args? ")" | "++" | "--" | ("." | "->") (fname | "~" TYPE "(" ")")
  abbrev pub more_kind : Language Lexeme MoreKind
  more_kind = subscript ∥ (m.Call <$> paren_args) ∥ one (pick is_step step_of) ∥ member

  abbrev pub more : Language Lexeme More
  more = more_of <$> measured span_of more_kind

  -- postfix = head more*
  abbrev pub postfix : Language Lexeme Expr
  postfix = postfixed <$> measured span_of (head >> many more)

  -- ---- operands ([expr.unary], [expr.sizeof], [expr.alignof], [expr.new], [expr.delete], [expr.cast])

  -- ("++" | "--" | "*" | "&" | "+" | "-" | "!" | "~") cast^
  abbrev pub prefix : Language Lexeme Operand
  prefix = prefixed <$> measured span_of (one (pick is_prefix prefix_of) >> d.cast)

  -- "delete" ("[" "]")? cast^
  abbrev pub delete : Language Lexeme Operand
  delete = deleted <$> measured span_of (is k.Delete ⊳ maybe (is k.OpenBracket ⊳ the (is k.CloseBracket)) >> d.cast)

  -- "[" expr^ "]"
  abbrev pub new_bound : Language Lexeme Expr
  new_bound = is k.OpenBracket ⊳ d.expr ⊲ is k.CloseBracket

  -- "new" specs stars ("[" expr^ "]")? ("(" args? ")" | braces)?
  abbrev pub new : Language Lexeme Operand
  new = new_operand <$> measured span_of (is k.New ⊳ specs >> stars >> maybe new_bound >> maybe given)

  -- "alignof" "(" typeid ")"
  abbrev pub alignof_type : Language Lexeme Operand
  alignof_type = closed_kind <$> measured span_of (e.AlignofType <$> (is k.Alignof ⊳ is k.OpenParen ⊳ typeid ⊲ is k.CloseParen))

  -- "sizeof" "(" typeid ")"
  abbrev pub sizeof_type : Language Lexeme Operand
  sizeof_type = closed_kind <$> measured span_of (e.SizeofType <$> (is k.Sizeof ⊳ is k.OpenParen ⊳ typeid ⊲ is k.CloseParen))

  -- "sizeof" unary^
  abbrev pub sizeof_expr : Language Lexeme Operand
  sizeof_expr = sizeof_operand <$> measured span_of (is k.Sizeof ⊳ d.unary)

  -- unary = an operator and cast^ | delete | new | alignof | sizeof of a type or of unary^ | postfix
  abbrev pub unary : Language Lexeme Operand
  unary = prefix ∥ delete ∥ new ∥ alignof_type ∥ (sizeof_type ∥ sizeof_expr) ∥ (closed <$> postfix)

  -- "(" typeid ")" cast^
  abbrev pub type_cast : Language Lexeme Operand
  type_cast = cast_of <$> measured span_of ((is k.OpenParen ⊳ typeid ⊲ is k.CloseParen) >> d.cast)

  -- cast = "(" typeid ")" cast^ | unary
  abbrev pub cast : Language Lexeme Operand
  cast = type_cast ∥ unary

  -- ---- chains ([expr.mul] to [expr.log.or])

  -- an operator of the level and its right operand; behind the type of a `new` there is no `*`, `&` or `&&`
  abbrev pub turn : ℕ → Language Lexeme Operand → Bool → Language Lexeme Turn
  turn p next open_new = one (pick (allowed p open_new) binary_of) >> next

  -- ten levels, tightest first, each next (op next)*, the first over cast
  abbrev pub chain : ℕ → Language Lexeme Operand
  chain zero = cast
  chain (suc p) = chained <$> measured span_of (then_by (chain p) (λ first. links (turn p (chain p)) ends_open first.1))

  -- ---- assignment and conditional expressions ([expr.ass], [expr.cond], [expr.throw], [expr.comma])

  -- asgop assign^
  abbrev pub assigned : Language Lexeme Tail
  assigned = assigned_of <$> (one (pick is_assignment assignment_of) >> d.assign)

  -- "?" expr^ ":" assign^
  abbrev pub choice : Language Lexeme (Expr × Expr)
  choice = (is k.Question ⊳ d.expr ⊲ is k.Colon) >> d.assign

  -- chain | chain asgop assign^ | chain "?" expr^ ":" assign^
  abbrev pub chain_or_more : Language Lexeme Expr
  chain_or_more = tailed <$> measured span_of (chain 10 >> maybe (assigned ∥ (chosen_of <$> choice)))

  -- "throw" assign^?
  abbrev pub throw : Language Lexeme Expr
  throw = thrown <$> measured span_of (is k.Throw ⊳ maybe d.assign)

  -- assign = chain | chain asgop assign^ | chain "?" expr^ ":" assign^ | "throw" assign^?
  abbrev pub assign : Language Lexeme Expr
  assign = throw ∥ chain_or_more

  -- cond = chain ("?" expr^ ":" assign^)?
  abbrev pub cond : Language Lexeme Expr
  cond = condition <$> measured span_of (chain 10 >> maybe choice)

  -- expr = assign ("," assign)*
  abbrev pub expr : Language Lexeme Expr
  expr = comma_of <$> measured span_of (assign >> many (is k.Comma ⊳ assign))

-- one level deeper, with so many levels left
abbrev pub deeper : ℕ → Deeper
deeper zero = record { expr = absent; assign = absent; cond = absent; cast = absent; unary = absent; braces = absent }
deeper (suc n) = record {
  expr = there (expr (deeper n));
  assign = there (assign (deeper n));
  cond = there (cond (deeper n));
  cast = there (cast (deeper n));
  unary = there (unary (deeper n));
  braces = there (braces (deeper n));
}
