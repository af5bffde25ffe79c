-- The readers of the rules of expressions: each has the name of its language, and chooses by the tokens ahead and then by the level.
use Rattle.std.specs.Prelude.{ℕ, zero, suc, Bool, true, false, List, Option, if◌then◌else◌}
use Rattle.cx_tree.specs.declared.names.Ident.{Ident}
use Rattle.cx_tree.specs.declared.names.TypeName.{TypeName}
use Rattle.cx_tree.specs.declared.names.DestructorName.{DestructorName}
use Rattle.cx_tree.specs.declared.names.FunctionName.{FunctionName}
use Rattle.cx_tree.specs.declared.names.OperatorName.{OperatorName}
use Rattle.cx_tree.specs.declared.names.Last.{Last}
use Rattle.cx_tree.specs.declared.names.Last.TheVariants as last
use Rattle.cx_tree.specs.declared.operators.AssignOp.{AssignOp}
use Rattle.cx_tree.specs.declared.operators.PrefixOp.{PrefixOp}
use Rattle.cx_tree.specs.declared.operators.Overloaded.{Overloaded}
use Rattle.cx_tree.specs.declared.operators.Overloaded.TheVariants as v
use Rattle.cx_tree.specs.declared.specifiers.Elaboration.{Elaboration}
use Rattle.cx_tree.specs.declared.specifiers.Modifier.{Modifier}
use Rattle.cx_tree.specs.declared.specifiers.SimpleType.{SimpleType}
use Rattle.cx_tree.specs.declared.specifiers.WordOrModifier.{WordOrModifier}
use Rattle.cx_tree.specs.declared.specifiers.Named.{Named}
use Rattle.cx_tree.specs.declared.specifiers.Specs.{Specs}
use Rattle.cx_tree.specs.declared.specifiers.SpecsType.{SpecsType}
use Rattle.cx_tree.specs.declared.specifiers.Star.{Star}
use Rattle.cx_tree.specs.declared.specifiers.Ptrs.{Ptrs}
use Rattle.cx_tree.specs.declared.exprs.Expr.{Expr}
use Rattle.cx_tree.specs.declared.exprs.ExprKind.{ExprKind}
use Rattle.cx_tree.specs.declared.exprs.ExprKind.TheVariants as e
use Rattle.cx_tree.specs.declared.exprs.More.{More}
use Rattle.cx_tree.specs.declared.exprs.MoreKind.{MoreKind}
use Rattle.cx_tree.specs.declared.exprs.MoreKind.TheVariants as m
use Rattle.cx_tree.specs.declared.exprs.Args.{Args}
use Rattle.cx_tree.specs.declared.exprs.Braces.{Braces}
use Rattle.cx_tree.specs.declared.exprs.CastWord.{CastWord}
use Rattle.cx_tree.specs.declared.exprs.Clause.{Clause}
use Rattle.cx_tree.specs.declared.exprs.Clause.TheVariants as clauses
use Rattle.cx_tree.specs.declared.exprs.Given.{Given}
use Rattle.cx_tree.specs.declared.exprs.Given.TheVariants as gives
use Rattle.cx_tree.specs.declared.exprs.Bound.{Bound}
use Rattle.cx_tree.specs.declared.exprs.TypeId.{TypeId}
use Rattle.cx_syntax.specs.declared.class.Class.{Class}
use Rattle.cx_syntax.specs.declared.class.Class.TheVariants as k
use Rattle.cx_syntax.specs.declared.lexeme.Lexeme.{Lexeme}
use Rattle.cx_syntax.specs.declared.parts.MemberPart.{MemberPart}
use Rattle.cx_syntax.specs.declared.parts.MemberPart.TheVariants as part
use Rattle.cx_syntax.specs.declared.parts.Tail.{Tail}
use Rattle.cx_grammar.specs.Language.{joined}
use Rattle.cx_grammar.specs.Sets.{of}
use Rattle.cx_grammar.specs.Reads.{tail_of}
use Rattle.cx_grammar.specs.Reading.{Reader, token, the, refuse, guarded, sees, many_of, upto_of, maybe_if, such_of, names_by, separated_by, trailed_by, measured_by, ◌>>◌, ◌<$>◌, ◌⊳◌, ◌⊲◌}
use Rattle.cx_syntax.specs.Classes.{class_at, is, same_class}
use Rattle.cx_syntax.specs.Linked.{read_then, links_of}
use Rattle.cx_syntax.specs.Ahead.{qtype_ahead, type_ahead, type_fault, fault_at}
use Rattle.cx_syntax.specs.Sets.{is_type, is_id, is_name, is_modifier, is_word, is_modifier_or_word, is_elaboration, is_single_operator, is_literal, is_string, is_cast_word, is_step, is_reach, is_prefix, is_assignment, allowed, starts_last, starts_typed, starts_given, starts_more, starts_unary, starts_assign, starts_clause, starts_tail}
use Rattle.cx_syntax.specs.Values.{pick, span_of, ident_of, text_of, literal_of, modifier_of, word_of, either_of, elaboration_of, overloaded_of, binary_of, assignment_of, prefix_of, step_of, reach_of, cast_word_of, operator_named, destructor_named, function_name, type_name, named_of, is_specified, words_of, named_type, specs_of, star_of, ptrs_of, bound_of, typeid_of, expr_of, args_of, braces_of, name_of, made_of_word, made_of_type, named_cast, member_of, more_of, postfixed, Operand, closed, closed_kind, prefixed, sizeof_operand, deleted, new_operand, cast_of, Turn, ends_open, chained, assigned_of, chosen_of, tailed, condition, thrown, comma_of}

-- the first reader where the next token is of the set, else the second
abbrev pub choose : {A : Type 0} → (Class → Bool) → Reader Lexeme A → Reader Lexeme A → Reader Lexeme A
choose set r s ts = if sees (of class_at set) ts then r ts else s ts

-- a set of one class
abbrev pub just : Class → Class → Bool
just c d = same_class d c

-- ---- names

abbrev pub name : Reader Lexeme Ident
name = token (pick is_name ident_of)

abbrev pub id : Reader Lexeme Ident
id = token (pick is_id ident_of)

abbrev pub type_only : Reader Lexeme Ident
type_only = token (pick is_type ident_of)

unfoldable pub op : Reader Lexeme Overloaded
op = choose (just k.OpenParen) ((λ _. v.Call) <$> (is k.OpenParen ⊳ the (is k.CloseParen)))
    (choose (just k.OpenBracket) ((λ _. v.Subscript) <$> (is k.OpenBracket ⊳ the (is k.CloseBracket)))
    (token (pick is_single_operator overloaded_of)))

-- "operator" op
abbrev pub operator_name : Reader Lexeme OperatorName
operator_name = operator_named <$> measured_by span_of (is k.Operator ⊳ op)

unfoldable pub last_part : Reader Lexeme Last
last_part = choose is_id (last.Ident <$> id) (last.Operator <$> operator_name)

-- "~" TYPE
abbrev pub destructor_name : Reader Lexeme DestructorName
destructor_name = destructor_named <$> measured_by span_of (is k.Tilde ⊳ type_only)

-- a name with `::` behind it, while these two tokens stand there
abbrev pub scope : Reader Lexeme Ident
scope = token (pick is_name ident_of) ⊲ is k.ColonColon

abbrev pub fname_parts : Reader Lexeme (List Ident × Last)
fname_parts = names_by (pick is_name ident_of) (is k.ColonColon) (of class_at is_name) (of class_at starts_last) last_part

unfoldable pub fname : Reader Lexeme FunctionName
fname = function_name <$> measured_by span_of fname_parts

abbrev pub colon : Reader Lexeme (Unit {0})
colon = the (is k.ColonColon)

-- "::"?
abbrev pub colons : Reader Lexeme (Option (Unit {0}))
colons = maybe_if (is k.ColonColon) colon

-- (name "::")* TYPE
abbrev pub type_names : Reader Lexeme (List Ident × Ident)
type_names = names_by (pick is_name ident_of) (is k.ColonColon) (of class_at is_name) (of class_at is_type) type_only

abbrev pub qtype_parts : Reader Lexeme (Option (Unit {0}) × (List Ident × Ident))
qtype_parts = colons >> type_names

unfoldable pub qtype : Reader Lexeme TypeName
qtype = type_name <$> measured_by span_of qtype_parts

-- ---- specifiers and pointers

abbrev pub modifier : Reader Lexeme Modifier
modifier = token (pick is_modifier modifier_of)

abbrev pub word : Reader Lexeme SimpleType
word = token (pick is_word word_of)

-- (key | "enum")?
abbrev pub elaboration : Reader Lexeme (Option Elaboration)
elaboration = maybe_if (of class_at is_elaboration) (token (pick is_elaboration elaboration_of))

unfoldable pub named : Reader Lexeme Named
named = named_of <$> (elaboration >> qtype)

abbrev pub modifiers : Reader Lexeme (List Modifier)
modifiers = many_of (of class_at is_modifier) modifier

abbrev pub word_or_modifier : Reader Lexeme WordOrModifier
word_or_modifier = token (pick is_modifier_or_word either_of)

abbrev pub words_behind : Reader Lexeme (List WordOrModifier)
words_behind = many_of (of class_at is_modifier_or_word) word_or_modifier

unfoldable pub words_type : Reader Lexeme SpecsType
words_type = words_of <$> (word >> words_behind)

unfoldable pub name_type : Reader Lexeme SpecsType
name_type = named_type <$> (named >> modifiers)

abbrev pub typed : Reader Lexeme SpecsType
typed = choose is_word words_type name_type

abbrev pub specs_parts : Reader Lexeme (List Modifier × Option SpecsType)
specs_parts = modifiers >> maybe_if (of class_at starts_typed) typed

-- specifiers where a name behind a mod is a type's
unfoldable pub specs : Reader Lexeme Specs
specs = specs_of <$> measured_by span_of (such_of is_specified specs_parts)

unfoldable pub star : Reader Lexeme Star
star = star_of <$> measured_by span_of (is k.Star ⊳ maybe_if (is k.Const) (the (is k.Const)))

abbrev pub stars : Reader Lexeme (List Star)
stars = upto_of 64 (is k.Star) star

unfoldable pub ptrs : Reader Lexeme Ptrs
ptrs = ptrs_of <$> (stars >> maybe_if (is k.Amp) (the (is k.Amp)))

-- `[` and `]`
abbrev pub empty_brackets : Reader Lexeme (Unit {0})
empty_brackets = is k.OpenBracket ⊳ the (is k.CloseBracket)

-- ("[" "]")?
abbrev pub brackets : Reader Lexeme (Option (Unit {0}))
brackets = maybe_if (is k.OpenBracket) empty_brackets

-- the readers one level deeper
pub record Readers : Type 0 where
  -- there is such a level
  pub room : Bool
  -- and another below it
  pub room_for_two : Bool
  pub expr : Reader Lexeme Expr
  pub assign : Reader Lexeme Expr
  pub cond : Reader Lexeme Expr
  pub cast : Reader Lexeme Operand
  pub unary : Reader Lexeme Operand
  pub braces : Reader Lexeme Braces

module _ (d : Readers) where
  -- a cond in brackets, where it begins
  abbrev pub bound_size : Reader Lexeme (Option Expr)
  bound_size = maybe_if (of class_at starts_unary) (guarded d.room d.cond)

  unfoldable pub bound : Reader Lexeme Bound
  bound = bound_of <$> measured_by span_of (is k.OpenBracket ⊳ bound_size ⊲ is k.CloseBracket)

  abbrev pub bounds : Reader Lexeme (List Bound)
  bounds = upto_of 16 (is k.OpenBracket) bound

  -- what stands behind the specs of a typeid
  abbrev pub declarator : Reader Lexeme (Ptrs × List Bound)
  declarator = ptrs >> bounds

  unfoldable pub typeid : Reader Lexeme TypeId
  typeid = typeid_of <$> measured_by span_of (specs >> declarator)

  -- a typeid in parentheses
  abbrev pub paren_typeid : Reader Lexeme TypeId
  paren_typeid = is k.OpenParen ⊳ typeid ⊲ is k.CloseParen

  -- an expr in parentheses
  abbrev pub paren_expr : Reader Lexeme Expr
  paren_expr = is k.OpenParen ⊳ d.expr ⊲ is k.CloseParen

  -- ---- lists in parentheses and braces

  -- one argument more
  abbrev pub other_arg : Reader Lexeme Expr
  other_arg = is k.Comma ⊳ d.assign

  unfoldable pub args : Reader Lexeme (List Expr)
  args = guarded d.room (separated_by (is k.Comma) d.assign)

  unfoldable pub paren_args : Reader Lexeme Args
  paren_args = args_of <$> measured_by span_of (is k.OpenParen ⊳ maybe_if (of class_at starts_assign) args ⊲ is k.CloseParen)

  unfoldable pub clause : Reader Lexeme Clause
  clause = choose (just k.OpenBrace) (clauses.Nested <$> d.braces) (clauses.Value <$> d.assign)

  -- one clause more
  abbrev pub other_clause : Reader Lexeme Clause
  other_clause = is k.Comma ⊳ clause

  unfoldable pub clauses_in : Reader Lexeme (List Clause)
  clauses_in = guarded d.room (trailed_by (is k.Comma) (of class_at starts_clause) clause)

  unfoldable pub braces : Reader Lexeme Braces
  braces = braces_of <$> measured_by span_of (is k.OpenBrace ⊳ maybe_if (of class_at starts_clause) clauses_in ⊲ is k.CloseBrace)

  unfoldable pub given : Reader Lexeme Given
  given = choose (just k.OpenParen) (gives.Args <$> paren_args) (gives.Braces <$> braces)

  -- ---- heads

  abbrev pub literal : Reader Lexeme ExprKind
  literal = token (pick is_literal literal_of)

  abbrev pub piece : Reader Lexeme (List ℕ)
  piece = token (pick is_string text_of)

  unfoldable pub string : Reader Lexeme ExprKind
  string = e.Str <$> (joined <$> (piece >> many_of (of class_at is_string) piece))

  unfoldable pub paren : Reader Lexeme ExprKind
  paren = guarded d.room (e.Paren <$> paren_expr)

  -- the word, the typeid between `<` and `>`, and the expr in parentheses
  abbrev pub word_cast_parts : Reader Lexeme (CastWord × (TypeId × Expr))
  word_cast_parts = token (pick is_cast_word cast_word_of) >> (is k.Less ⊳ typeid ⊲ is k.Greater) >> paren_expr

  unfoldable pub word_cast : Reader Lexeme ExprKind
  word_cast = guarded d.room (named_cast <$> word_cast_parts)

  unfoldable pub word_made : Reader Lexeme ExprKind
  word_made = made_of_word <$> (word >> given)

  unfoldable pub id_expression : Reader Lexeme ExprKind
  id_expression = name_of <$> measured_by span_of (colons >> fname_parts)

  unfoldable pub type_made : Reader Lexeme ExprKind
  type_made = made_of_type <$> (qtype >> given)

  -- a name that is an expression, or a type and what is made of it
  abbrev pub named_head : Reader Lexeme ExprKind
  named_head ts = if qtype_ahead ts then type_made ts else id_expression ts

  unfoldable pub head_kind : Reader Lexeme ExprKind
  head_kind = choose is_literal literal (choose is_string string (choose (just k.OpenParen) paren (choose is_cast_word word_cast (choose is_word word_made named_head))))

  unfoldable pub head : Reader Lexeme Expr
  head = expr_of <$> measured_by span_of head_kind

  -- ---- what stands behind a head

  unfoldable pub subscript : Reader Lexeme MoreKind
  subscript = guarded d.room (m.Subscript <$> (is k.OpenBracket ⊳ d.expr ⊲ is k.CloseBracket))

  unfoldable pub member_part : Reader Lexeme MemberPart
  member_part = choose (just k.Tilde) (part.Destructor <$> (destructor_name ⊲ is k.OpenParen ⊲ is k.CloseParen)) (part.Name <$> fname)

  unfoldable pub member : Reader Lexeme MoreKind
  member = member_of <$> (token (pick is_reach reach_of) >> member_part)

  unfoldable pub more_kind : Reader Lexeme MoreKind
  more_kind = choose (just k.OpenBracket) subscript (choose (just k.OpenParen) (m.Call <$> paren_args) (choose is_step (token (pick is_step step_of)) member))

  unfoldable pub more : Reader Lexeme More
  more = more_of <$> measured_by span_of more_kind

  abbrev pub mores : Reader Lexeme (List More)
  mores = many_of (of class_at starts_more) more

  unfoldable pub postfix : Reader Lexeme Expr
  postfix = postfixed <$> measured_by span_of (head >> mores)

  -- ---- operands

  abbrev pub prefix_parts : Reader Lexeme (PrefixOp × Operand)
  prefix_parts = token (pick is_prefix prefix_of) >> d.cast

  unfoldable pub prefix : Reader Lexeme Operand
  prefix = guarded d.room (prefixed <$> measured_by span_of prefix_parts)

  abbrev pub delete_parts : Reader Lexeme (Option (Unit {0}) × Operand)
  delete_parts = is k.Delete ⊳ brackets >> d.cast

  unfoldable pub delete : Reader Lexeme Operand
  delete = guarded d.room (deleted <$> measured_by span_of delete_parts)

  abbrev pub new_bound_parts : Reader Lexeme Expr
  new_bound_parts = is k.OpenBracket ⊳ d.expr ⊲ is k.CloseBracket

  unfoldable pub new_bound : Reader Lexeme Expr
  new_bound = guarded d.room new_bound_parts

  abbrev pub maybe_new_bound : Reader Lexeme (Option Expr)
  maybe_new_bound = maybe_if (is k.OpenBracket) new_bound

  abbrev pub maybe_given : Reader Lexeme (Option Given)
  maybe_given = maybe_if (of class_at starts_given) given

  abbrev pub new_end : Reader Lexeme (Option Expr × Option Given)
  new_end = maybe_new_bound >> maybe_given

  abbrev pub new_starred : Reader Lexeme (List Star × (Option Expr × Option Given))
  new_starred = stars >> new_end

  unfoldable pub new : Reader Lexeme Operand
  new = new_operand <$> measured_by span_of (is k.New ⊳ specs >> new_starred)

  unfoldable pub alignof_type : Reader Lexeme Operand
  alignof_type = closed_kind <$> measured_by span_of (e.AlignofType <$> (is k.Alignof ⊳ paren_typeid))

  unfoldable pub sizeof_type : Reader Lexeme Operand
  sizeof_type = closed_kind <$> measured_by span_of (e.SizeofType <$> (is k.Sizeof ⊳ paren_typeid))

  unfoldable pub sizeof_expr : Reader Lexeme Operand
  sizeof_expr = sizeof_operand <$> measured_by span_of (is k.Sizeof ⊳ d.unary)

  -- Behind the word: a type in parentheses, or unary^. Where two levels are not left an expression in parentheses cannot stand there.
  abbrev pub sizeof_by : List Lexeme → Reader Lexeme Operand
  sizeof_by behind ts =
      if sees (is k.OpenParen) behind then (if type_ahead (tail_of behind) then sizeof_type ts else (if d.room_for_two then sizeof_expr ts else type_fault (tail_of behind)))
      else (if d.room then sizeof_expr ts else fault_at starts_unary behind)

  unfoldable pub sizeof : Reader Lexeme Operand
  sizeof ts = sizeof_by (tail_of ts) ts

  abbrev pub closed_postfix : Reader Lexeme Operand
  closed_postfix = closed <$> postfix

  unfoldable pub unary : Reader Lexeme Operand
  unary = choose is_prefix prefix (choose (just k.Delete) delete (choose (just k.New) new (choose (just k.Alignof) alignof_type (choose (just k.Sizeof) sizeof closed_postfix))))

  -- a type in parentheses comes next
  abbrev pub cast_ahead : List Lexeme → Bool
  cast_ahead ts = if sees (is k.OpenParen) ts then type_ahead (tail_of ts) else false

  abbrev pub type_cast_parts : Reader Lexeme (TypeId × Operand)
  type_cast_parts = paren_typeid >> d.cast

  unfoldable pub type_cast : Reader Lexeme Operand
  type_cast = guarded d.room (cast_of <$> measured_by span_of type_cast_parts)

  unfoldable pub cast : Reader Lexeme Operand
  cast ts = if cast_ahead ts then type_cast ts else unary ts

  -- ---- chains

  abbrev pub allowed_at : ℕ → Bool → Lexeme → Bool
  allowed_at p open_new = of class_at (allowed p open_new)

  -- one operator and its right operand
  abbrev pub turn : ℕ → Reader Lexeme Operand → Bool → Reader Lexeme Turn
  turn p next open_new = token (pick (allowed p open_new) binary_of) >> next

  abbrev pub turns : ℕ → Reader Lexeme Operand → Bool → Reader Lexeme (List Turn)
  turns p next = links_of (allowed_at p) (turn p next) ends_open

  unfoldable pub chain : ℕ → Reader Lexeme Operand
  chain zero = cast
  chain (suc p) = chained <$> measured_by span_of (read_then (chain p) (λ first. turns p (chain p) first.1))

  -- ---- assignment and conditional expressions

  abbrev pub assigned_parts : Reader Lexeme (AssignOp × Expr)
  assigned_parts = token (pick is_assignment assignment_of) >> d.assign

  unfoldable pub assigned : Reader Lexeme Tail
  assigned = guarded d.room (assigned_of <$> assigned_parts)

  abbrev pub choice_parts : Reader Lexeme (Expr × Expr)
  choice_parts = (is k.Question ⊳ d.expr ⊲ is k.Colon) >> d.assign

  unfoldable pub choice : Reader Lexeme (Expr × Expr)
  choice = guarded d.room choice_parts

  unfoldable pub chosen : Reader Lexeme Tail
  chosen = guarded d.room (chosen_of <$> choice_parts)

  unfoldable pub tail : Reader Lexeme Tail
  tail = choose is_assignment assigned chosen

  unfoldable pub chain_or_more : Reader Lexeme Expr
  chain_or_more = tailed <$> measured_by span_of (chain 10 >> maybe_if (of class_at starts_tail) tail)

  -- assign^?
  abbrev pub maybe_thrown : Reader Lexeme (Option Expr)
  maybe_thrown = maybe_if (of class_at starts_assign) (guarded d.room d.assign)

  unfoldable pub throw : Reader Lexeme Expr
  throw = thrown <$> measured_by span_of (is k.Throw ⊳ maybe_thrown)

  unfoldable pub assign : Reader Lexeme Expr
  assign = choose (just k.Throw) throw chain_or_more

  unfoldable pub cond : Reader Lexeme Expr
  cond = condition <$> measured_by span_of (chain 10 >> maybe_if (is k.Question) choice)

  -- one expression more
  abbrev pub other : Reader Lexeme Expr
  other = is k.Comma ⊳ assign

  unfoldable pub expr : Reader Lexeme Expr
  expr = comma_of <$> measured_by span_of (assign >> many_of (is k.Comma) other)

-- one level deeper, with so many levels left
unfoldable pub deeper : ℕ → Readers
deeper zero = record { room = false; room_for_two = false; expr = refuse; assign = refuse; cond = refuse; cast = refuse; unary = refuse; braces = refuse }
deeper (suc n) = record {
  room = true;
  room_for_two = (deeper n).room;
  expr = expr (deeper n);
  assign = assign (deeper n);
  cond = cond (deeper n);
  cast = cast (deeper n);
  unary = unary (deeper n);
  braces = braces (deeper n);
}
