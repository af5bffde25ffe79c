-- What a judgement gives, by what its body gives.
use Rattle.std.proofs.Common.{◌≡◌, ℕ, Bool, true, false, List, [], ◌∷◌, ◌++◌, length, Option, None, Some, refl, ap, ◌∙◌, slice_get, nat_lt}
use Rattle.cx_base.specs.declared.diag.Span.{Span}
use Rattle.cx_base.specs.declared.rule.Rule.{Rule}
use Rattle.cx_base.specs.declared.rule.Rule.TheVariants as rule
use Rattle.cx_base.specs.declared.limits.Limits.{Limits}
use Rattle.cx_base.specs.declared.int_type.IntType.{IntType}
use Rattle.cx_ints.specs.declared.int.Int.{Int as Number}
use Rattle.cx_type_defs.specs.declared.ids.VarId.{VarId}
use Rattle.cx_type_defs.specs.Tables.{changed_at}
use Rattle.cx_type_defs.specs.Same.{Form}
use Rattle.cx_type_defs.proofs.Lists.{slice_get-last, slice_get-changed_same}
use Rattle.cx_state.specs.declared.kind.Scalar.TheVariants as scalar
use Rattle.cx_state.specs.declared.kind.Birth.TheVariants as birth
use Rattle.cx_state.specs.declared.root.JudgeMode.{JudgeMode}
use Rattle.cx_state.specs.Objects.{Path, Leaf, Object, Objects}
use Rattle.cx_state.specs.Counts as counts
use Rattle.cx_state.specs.States.{Out, Value, Violation, Stuck}
use Rattle.cx_typed.specs.declared.judge.Outcome.{Outcome}
use Rattle.cx_typed.specs.declared.judge.Outcome.TheVariants as outcome
use Rattle.cx_typed.specs.declared.judge.Value.TheVariants as value
use Rattle.cx_typed.specs.Trees.{Tx, Var, OfExpr, OfVariable, FullTree}
use Rattle.cx_typed.specs.Well.{int_of}
use Rattle.cx_typed.specs.Meaning.{Given, Prvalue, Lvalue, eval}
use Rattle.cx_typed.specs.Judging.{Kept, tables_of, request, start_memory, setting, evaluated, violated, outcome_of}
use Rattle.cx_typed.specs.Bodies.{fresh, began}
use Rattle.cx_typed.proofs.Start.{empty, fresh_is}

abbrev pub of_expr : Tx Form → Span → FullTree
of_expr x at = record { body = OfExpr x; span = at }

abbrev pub of_var : VarId → Span → FullTree
of_var v at = record { body = OfVariable v; span = at }

-- whether a full-expression may begin
abbrev pub may_begin : Limits → Bool
may_begin l = nat_lt 0 l.exprs

module _ (vs : List Var) (l : Limits) (ks : Kept) (md : JudgeMode) (at : Span) where
  abbrev told : FullTree → Outcome
  told f = outcome_of f.span (evaluated vs l ks f md)

  -- ---- an expression

  module _ (x : Tx Form) where
    abbrev gives : Out Given
    gives = eval (tables_of vs) x (began vs l ks None)

    pub expr_exprs : may_begin l ≡ false → told (of_expr x at) ≡ violated rule.LimitExprs at []
    expr_exprs h = rw h refl

    pub expr_value : (a : Number) → may_begin l ≡ true → gives ≡ Value (Prvalue (scalar.Int a)) (began vs l ks None) → told (of_expr x at) ≡ outcome.Value (value.Int a)
    expr_value a h e = rw (h, e) refl

    pub expr_place : (p : Path) → may_begin l ≡ true → gives ≡ Value (Lvalue p) (began vs l ks None) → told (of_expr x at) ≡ violated rule.LeftOutForm at []
    expr_place p h e = rw (h, e) refl

    pub expr_broken : (r : Rule) (w : Span) → may_begin l ≡ true → gives ≡ Violation r w (began vs l ks None) → told (of_expr x at) ≡ violated r w []
    expr_broken r w h e = rw (h, e) refl

    pub expr_stuck : may_begin l ≡ true → gives ≡ Stuck → told (of_expr x at) ≡ violated rule.LeftOutForm at []
    expr_stuck h e = rw (h, e) refl

  -- ---- a variable

  module _ (v : VarId) (d : Var) (there : slice_get vs v.0 ≡ Some d) where
    abbrev passed : Option Rule
    passed = counts.passed_limit (tables_of vs) (setting vs l ks md).limits (start_memory vs ks).objects (request v birth.Here)

    pub var_limit : (r : Rule) → passed ≡ Some r → told (of_var v at) ≡ violated r d.at []
    var_limit r h = rw (there, h) refl

    module _ (may : passed ≡ None) where
      pub var_exprs : (x : Tx Form) → d.init ≡ Some x → may_begin l ≡ false → told (of_var v at) ≡ violated rule.LimitExprs at []
      var_exprs x i h = rw (there, may, i, h) refl

      pub var_broken : (x : Tx Form) (r : Rule) (w : Span) → d.init ≡ Some x → may_begin l ≡ true → eval (tables_of vs) x (began vs l ks (Some v)) ≡ Violation r w (began vs l ks (Some v)) → told (of_var v at) ≡ violated r w []
      var_broken x r w i h e = rw (there, may, i, h, e) refl

      pub var_stuck : (x : Tx Form) → d.init ≡ Some x → may_begin l ≡ true → eval (tables_of vs) x (began vs l ks (Some v)) ≡ Stuck → told (of_var v at) ≡ violated rule.LeftOutForm at []
      var_stuck x i h e = rw (there, may, i, h, e) refl

      pub var_place : (x : Tx Form) (p : Path) → d.init ≡ Some x → may_begin l ≡ true → eval (tables_of vs) x (began vs l ks (Some v)) ≡ Value (Lvalue p) (began vs l ks (Some v)) → told (of_var v at) ≡ violated rule.LeftOutForm at []
      var_place x p i h e = rw (there, may, i, h, e) refl

      module _ (ty : IntType) (is_int : int_of d.ty ≡ Some ty) where
        abbrev made : Objects
        made = (start_memory vs ks).objects ++ fresh (tables_of vs) v ∷ []

        abbrev number : ℕ
        number = length (start_memory vs ks).objects

        last : slice_get made number ≡ Some (empty v)
        last = slice_get-last (start_memory vs ks).objects (fresh (tables_of vs) v) ∙ ap Some (fresh_is vs v d ty there is_int)

        pub var_open : d.init ≡ None → told (of_var v at) ≡ violated rule.ResultIndeterminate at []
        var_open i = rw (there, may, i, last) refl

        abbrev with_number : Number → Object → Object
        with_number a o = record o { tree = Leaf (scalar.Int a) }

        after : (a : Number) → slice_get (changed_at (with_number a) made number) number ≡ Some (with_number a (empty v))
        after a = slice_get-changed_same (with_number a) made number (empty v) last

        pub var_value : (x : Tx Form) (a : Number) → d.init ≡ Some x → may_begin l ≡ true → eval (tables_of vs) x (began vs l ks (Some v)) ≡ Value (Prvalue (scalar.Int a)) (began vs l ks (Some v)) → told (of_var v at) ≡ outcome.Value (value.Int a)
        var_value x a i h e = rw (there, may, i, h, e, last, after a) refl
