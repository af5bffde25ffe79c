-- Expressions as plain data ([expr]): one constructor for each alternative of the grammar, each operation with its operands. The operations
-- of a chain, the parts behind a head and the expressions between commas are operations on all before them. The last argument of a form is
-- where it stands: from its first token to its last, parentheses round it not counted, except as Paren.
use Rattle.std.specs.Prelude.{ℕ, ℤ, Bool, List}
use Rattle.cx_base.specs.declared.diag.Span.{Span}
use Rattle.cx_ints.specs.declared.int.Int.{Int}
use Rattle.cx_tree.specs.declared.exprs.CastWord.{CastWord}
use Rattle.cx_tree.specs.declared.exprs.Reach.{Reach}
use Rattle.cx_tree.specs.declared.names.DestructorName.{DestructorName}
use Rattle.cx_tree.specs.declared.names.FunctionName.{FunctionName}
use Rattle.cx_tree.specs.declared.names.TypeName.{TypeName}
use Rattle.cx_tree.specs.declared.operators.AssignOp.{AssignOp}
use Rattle.cx_tree.specs.declared.operators.BinaryOp.{BinaryOp}
use Rattle.cx_tree.specs.declared.operators.PrefixOp.{PrefixOp}
use Rattle.cx_tree.specs.declared.specifiers.Ptrs.{Ptrs}
use Rattle.cx_tree.specs.declared.specifiers.SimpleType.{SimpleType}
use Rattle.cx_tree.specs.declared.specifiers.Specs.{Specs}
use Rattle.cx_tree.specs.declared.specifiers.Star.{Star}

mutual
  pub data Expression : Type 0 where
    -- [expr.prim.literal]
    Number : Int → Span → Expression
    Character : ℤ → Span → Expression
    String : List (List ℕ) → Span → Expression
    True : Span → Expression
    False : Span → Expression
    Nullptr : Span → Expression
    -- [expr.prim.this]
    This : Span → Expression
    -- ( e )
    Paren : Expression → Span → Expression
    -- [expr.prim.id]
    Name : FunctionName → Span → Expression
    -- int(e), int{e}, T(e), T{e} ([expr.type.conv])
    OfWord : SimpleType → Making → Span → Expression
    OfType : TypeName → Making → Span → Expression
    -- static_cast<T>(e) ([expr.static.cast], [expr.const.cast], [expr.reinterpret.cast])
    NamedCast : CastWord → TypeWritten → Expression → Span → Expression
    -- a[e] ([expr.sub])
    Subscript : Expression → Expression → Span → Expression
    -- f(a, b) ([expr.call])
    Call : Expression → Arguments → Span → Expression
    -- e++, e-- ([expr.post.incr])
    PostIncrement : Expression → Span → Expression
    PostDecrement : Expression → Span → Expression
    -- e.m, e->m ([expr.ref]); e.~T(), e->~T() ([expr.prim.id.dtor])
    Member : Expression → Reach → FunctionName → Span → Expression
    Destroy : Expression → Reach → DestructorName → Span → Expression
    -- sizeof e, sizeof(T) ([expr.sizeof]), alignof(T) ([expr.alignof])
    SizeofExpression : Expression → Span → Expression
    SizeofType : TypeWritten → Span → Expression
    AlignofType : TypeWritten → Span → Expression
    -- ! e, ++e ([expr.unary.op], [expr.pre.incr])
    Prefix : PrefixOp → Expression → Span → Expression
    -- new T[e](a, b) ([expr.new])
    New : Specs → List Star → Perhaps → Making → Span → Expression
    -- delete e, delete[] e ([expr.delete])
    Delete : Bool → Expression → Span → Expression
    -- (T)e ([expr.cast])
    Cast : TypeWritten → Expression → Span → Expression
    -- a + b ([expr.mul] to [expr.log.or])
    Binary : BinaryOp → Expression → Expression → Span → Expression
    -- a = b ([expr.ass])
    Assign : AssignOp → Expression → Expression → Span → Expression
    -- c ? a : b ([expr.cond])
    Conditional : Expression → Expression → Expression → Span → Expression
    -- throw, throw e ([expr.throw])
    Throw : Perhaps → Span → Expression
    -- a, b ([expr.comma])
    Comma : Expression → Expression → Span → Expression

  -- an expression that may be missing
  pub data Perhaps : Type 0 where
    Missing : Perhaps
    There : Expression → Perhaps

  -- a, b
  pub data Arguments : Type 0 where
    no_arguments : Arguments
    argument : Expression → Arguments → Arguments

  -- what stands in braces ([dcl.init.list]), a list in braces with its place
  pub data InitializerClause : Type 0 where
    Value : Expression → InitializerClause
    Nested : InitializerList → Span → InitializerClause

  pub data InitializerList : Type 0 where
    no_clauses : InitializerList
    clause : InitializerClause → InitializerList → InitializerList

  -- what an object is made from, with its place: (a, b), {a, b}, or nothing
  pub data Making : Type 0 where
    FromArguments : Arguments → Span → Making
    FromBraces : InitializerList → Span → Making
    FromNothing : Making

  -- [e], [] ([dcl.array])
  pub data Bounds : Type 0 where
    no_bounds : Bounds
    bound : Perhaps → Span → Bounds → Bounds

  -- a type without a name, its specifiers as they are written ([dcl.name])
  pub data TypeWritten : Type 0 where
    Written : Specs → Ptrs → Bounds → Span → TypeWritten
