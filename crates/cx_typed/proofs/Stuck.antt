-- What is well typed never gets stuck: it gives a value of its type, or an object where it is an lvalue, or breaks a rule.
use Rattle.std.proofs.Common.{◌≡◌, ℕ, Bool, true, false, List, [], ◌∷◌, Option, None, Some, Result, Ok, Err, refl, sym, ap, subst, ◌∙◌, slice_get}
use Rattle.cx_base.specs.declared.diag.Span.{Span}
use Rattle.cx_base.specs.declared.rule.Rule.{Rule}
use Rattle.cx_base.specs.declared.int_type.IntType.{IntType}
use Rattle.cx_base.specs.declared.int_type.IntType.TheVariants as type
use Rattle.cx_ints.specs.declared.int.Int.{Int as Number}
use Rattle.cx_ints.specs.Operations.{IsOf, result_type}
use Rattle.cx_ints.specs.Conversions.{convert, promote}
use Rattle.cx_ints.proofs.Results.{OkOf, operation_of, unary_of}
use Rattle.cx_ints.proofs.TypeLaws.{converted_fits, truth_fits}
use Rattle.cx_type_defs.specs.declared.ids.VarId.{VarId}
use Rattle.cx_type_defs.specs.Tables.{Tables}
use Rattle.cx_type_defs.specs.Same.{Form}
use Rattle.cx_type_defs.proofs.Lists.{some_inj}
use Rattle.cx_state.specs.declared.kind.Scalar.{Scalar}
use Rattle.cx_state.specs.declared.kind.Scalar.TheVariants as scalar
use Rattle.cx_state.specs.declared.root.Root.TheVariants as root
use Rattle.cx_state.specs.Objects.{Path}
use Rattle.cx_state.specs.Steps as steps
use Rattle.cx_state.specs.States.{Memory, State, Out, Value, Violation, Stuck, then_do, does, step, bound, found}
use Rattle.cx_ops.specs.declared.StrictOp.{StrictOp}
use Rattle.cx_ops.specs.declared.StrictOp.TheVariants as op
use Rattle.cx_ops.specs.Strict.{given, given_type, delivered}
use Rattle.cx_typed.specs.declared.exprs.ChainOp.{ChainOp}
use Rattle.cx_typed.specs.declared.exprs.ChainOp.TheVariants as chain
use Rattle.cx_typed.specs.Trees.{Note, Tx, Constant, Variable, Load, Unary, Binary, Conditional, note_of}
use Rattle.cx_typed.specs.Well.{int_of, IsNumber, IsLike, IsLoad, IsUnary, IsStrict, IsBinary, WellTyped}
use Rattle.cx_typed.specs.Meaning.{Given, Prvalue, Lvalue, whole, placed, load, as_prvalue, operate, truth_of, decided, joined, eval}

abbrev pub Numbered : IntType → Scalar Path → Type 0
Numbered ty (scalar.Int a) = IsOf ty a
Numbered ty _ = ⊥

-- ---- states in which each variable stands for an object that holds a number of its type, or may not be read

abbrev pub Loads : Option IntType → Result (Scalar Path) Rule → Type 0
Loads None r = ⊥
Loads (Some ty) (Ok v) = Numbered ty v
Loads (Some ty) (Err r) = Unit {0}

-- the object has this type, as far as reading it tells
abbrev pub Holds : Tables → Memory → Path → Form → Type 0
Holds t m p f = Loads (int_of f) (steps.load t m.objects p)

abbrev pub StandsFor : Tables → Memory → Form → Option ℕ → Type 0
StandsFor t m f None = ⊥
StandsFor t m f (Some n) = Holds t m (whole n) f

abbrev pub Stands : Tables → List Form → Memory → Type 0
Stands t fs m = (v : VarId) (f : Form) → slice_get fs v.0 ≡ Some f → StandsFor t m f (bound m.bindings (root.Variable v))

-- ---- what an expression may give

abbrev pub GivesAt : Tables → State → Note Form → Bool → Given → Type 0
GivesAt t s i false (Prvalue v) = (ty : IntType) × (int_of i.ty ≡ Some ty) × Numbered ty v
GivesAt t s i true (Lvalue p) = Holds t s.memory p i.ty
GivesAt t s i _ _ = ⊥

-- it leaves the state as it is
abbrev pub Fitting : Tables → State → Note Form → Out Given → Type 0
Fitting t s i (Value g u) = (u ≡ s) × GivesAt t s i i.lvalue g
Fitting t s i (Violation r at u) = Unit {0}
Fitting t s i Stuck = ⊥

-- ---- operations

abbrev GivesNumber : IntType → Option (Result Number Rule) → Type 0
GivesNumber ty None = ⊥
GivesNumber ty (Some (Ok a)) = IsOf ty a
GivesNumber ty (Some (Err r)) = Unit {0}

ok-gives : (ty : IntType) (r : Result Number Rule) → OkOf ty r → GivesNumber ty (Some r)
ok-gives ty (Ok a) h = h
ok-gives ty (Err r) h = tt

one-gives : (o : StrictOp) (a : Number) (t r : IntType) → given_type o (t ∷ []) ≡ Some r → a.ty ≡ t → GivesNumber r (given o (a ∷ []))
one-gives (op.Convert ty) a t r e h = subst (λ u. IsOf u (convert a ty)) (some_inj ty r e) (refl, converted_fits ty a.value)
one-gives op.Not a t r e h = subst (λ u. GivesNumber u (given op.Not (a ∷ []))) (some_inj type.Bool r e) (refl, truth_fits _)
one-gives (op.Unary o) a t r e h = subst (λ u. GivesNumber u (given (op.Unary o) (a ∷ []))) (ap promote h ∙ some_inj (promote t) r e) (ok-gives (promote a.ty) _ (unary_of o a))
one-gives (op.Binary o) a t r e h = absurd (cc)

two-gives : (o : StrictOp) (a b : Number) (t u r : IntType) → given_type o (t ∷ u ∷ []) ≡ Some r → a.ty ≡ t → b.ty ≡ u → GivesNumber r (given o (a ∷ b ∷ []))
two-gives (op.Convert ty) a b t u r e h k = absurd (cc)
two-gives op.Not a b t u r e h k = absurd (cc)
two-gives (op.Unary o) a b t u r e h k = absurd (cc)
two-gives (op.Binary o) a b t u r e h k = subst (λ w. GivesNumber w (given (op.Binary o) (a ∷ b ∷ []))) (ap (λ x. result_type o x b.ty) h ∙ ap (result_type o t) k ∙ some_inj (result_type o t u) r e) (ok-gives (result_type o a.ty b.ty) _ (operation_of o a b))

module _ (t : Tables) (s : State) where
  -- ---- what is given

  as-number : (i : Note Form) (ty : IntType) (a : Number) → IsNumber ty i → IsOf ty a → GivesAt t s i i.lvalue (Prvalue (scalar.Int a))
  as-number i ty a n h = subst (λ b. GivesAt t s i b (Prvalue (scalar.Int a))) (sym n.prvalue) (ty, n.of_type, h)

  pub record IsGiven (ty : IntType) (g : Given) : Type 0 where
    pub number : Number
    pub is_number : g ≡ Prvalue (scalar.Int number)
    pub is_of : IsOf ty number

  prvalue-given : (i : Note Form) (ty : IntType) (v : Scalar Path) → int_of i.ty ≡ Some ty → GivesAt t s i false (Prvalue v) → IsGiven ty (Prvalue v)
  prvalue-given i ty (scalar.Int a) e h = record { number = a; is_number = refl; is_of = subst (λ u. IsOf u a) (some_inj h.0 ty (sym h.1 ∙ e)) h.2 }
  prvalue-given i ty scalar.Null e h = absurd h.2
  prvalue-given i ty (scalar.Place p) e h = absurd h.2
  prvalue-given i ty scalar.Indeterminate e h = absurd h.2

  pub as-given : (i : Note Form) (ty : IntType) (g : Given) → IsNumber ty i → GivesAt t s i i.lvalue g → IsGiven ty g
  as-given i ty (Prvalue v) n h = prvalue-given i ty v n.of_type (subst (λ b. GivesAt t s i b (Prvalue v)) n.prvalue h)
  as-given i ty (Lvalue p) n h = absurd (subst (λ b. GivesAt t s i b (Lvalue p)) n.prvalue h)

  -- ---- steps

  bind-fits : (x i : Note Form) (o : Out Given) (k : Given → State → Out Given) → Fitting t s x o → ((g : Given) → GivesAt t s x x.lvalue g → Fitting t s i (k g s)) → Fitting t s i (then_do o k)
  bind-fits x i (Value g u) k f go = subst (λ w. Fitting t s i (k g w)) (sym f.0) (go g f.1)
  bind-fits x i (Violation r at u) k f go = tt
  bind-fits x i Stuck k f go = absurd f

  number-fits : (i : Note Form) (ty : IntType) (at : Span) (x : Option (Result Number Rule)) → IsNumber ty i → GivesNumber ty x → Fitting t s i (does at s (as_prvalue (delivered s.memory x)))
  number-fits i ty at None n h = absurd h
  number-fits i ty at (Some (Ok a)) n h = (refl, as-number i ty a n h)
  number-fits i ty at (Some (Err r)) n h = tt

  variable-fits : (i : Note Form) (o : Option ℕ) → i.lvalue ≡ true → StandsFor t s.memory i.ty o → Fitting t s i (does i.span s (placed s.memory o))
  variable-fits i None l h = absurd h
  variable-fits i (Some n) l h = (refl, subst (λ b. GivesAt t s i b (Lvalue (whole n))) (sym l) h)

  loaded-fits : (i : Note Form) (ty : IntType) (r : Result (Scalar Path) Rule) → IsNumber ty i → Loads (Some ty) r → Fitting t s i (does i.span s (as_prvalue (found s.memory r)))
  loaded-fits i ty (Ok (scalar.Int a)) n h = (refl, as-number i ty a n h)
  loaded-fits i ty (Ok scalar.Null) n h = absurd h
  loaded-fits i ty (Ok (scalar.Place p)) n h = absurd h
  loaded-fits i ty (Ok scalar.Indeterminate) n h = absurd h
  loaded-fits i ty (Err r) n h = tt

  load-fits : (x i : Note Form) → IsLoad x i → (g : Given) → GivesAt t s x x.lvalue g → Fitting t s i (step i.span (load t g) s)
  load-fits x i l (Prvalue v) h = absurd (subst (λ b. GivesAt t s x b (Prvalue v)) l.of_object h)
  load-fits x i l (Lvalue p) h = loaded-fits i l.ty (steps.load t s.memory.objects p) l.gives (subst (λ o. Loads o (steps.load t s.memory.objects p)) l.of_type (subst (λ b. GivesAt t s x b (Lvalue p)) l.of_object h))

  unary-fits : (o : StrictOp) (x i : Note Form) → IsUnary o x i → (g : Given) → GivesAt t s x x.lvalue g → Fitting t s i (step i.span (operate o (g ∷ [])) s)
  unary-fits o x i w g h =
      let a = as-given x w.operand g w.of_number h in
      subst (λ z. Fitting t s i (step i.span (operate o (z ∷ [])) s)) (sym a.is_number) (number-fits i w.result i.span (given o (a.number ∷ [])) w.gives (one-gives o a.number w.operand w.result w.of_type a.is_of.0))

  strict-fits : (o : StrictOp) (x y i : Note Form) (at : Span) → IsStrict o x y i → (g : Given) → GivesAt t s x x.lvalue g → (k : Given) → GivesAt t s y y.lvalue k → Fitting t s i (step at (operate o (g ∷ k ∷ [])) s)
  strict-fits o x y i at w g h k l =
      let a = as-given x w.left g w.of_left h in
      let b = as-given y w.right k w.of_right l in
      subst (λ z. Fitting t s i (step at (operate o (z ∷ k ∷ [])) s)) (sym a.is_number)
      (subst (λ z. Fitting t s i (step at (operate o (Prvalue (scalar.Int a.number) ∷ z ∷ [])) s)) (sym b.is_number)
      (number-fits i w.result at (given o (a.number ∷ b.number ∷ [])) w.gives (two-gives o a.number b.number w.left w.right w.result w.of_type a.is_of.0 b.is_of.0)))

  -- ---- what fits one node fits one like it

  like-gives : (i j : Note Form) (g : Given) → IsLike i j → GivesAt t s j j.lvalue g → GivesAt t s i i.lvalue g
  like-gives i j g l h = by i.lvalue j.lvalue l.same_category g h
    where
      by : (b c : Bool) → b ≡ c → (k : Given) → GivesAt t s j c k → GivesAt t s i b k
      by true true e (Lvalue p) m = subst (λ f. Holds t s.memory p f) (sym l.same_type) m
      by false false e (Prvalue v) m = (m.0, ap int_of l.same_type ∙ m.1, m.2)
      by true true e (Prvalue v) m = absurd m
      by false false e (Lvalue p) m = absurd m
      by true false e k m = absurd (cc)
      by false true e k m = absurd (cc)

  like-fits : (i j : Note Form) (o : Out Given) → IsLike i j → Fitting t s j o → Fitting t s i o
  like-fits i j (Value g u) l f = (f.0, like-gives i j g l f.1)
  like-fits i j (Violation r at u) l f = tt
  like-fits i j Stuck l f = absurd f

  given-number : (ty : IntType) (i j : Note Form) (g : Given) → IsNumber ty i → IsNumber ty j → GivesAt t s j j.lvalue g → GivesAt t s i i.lvalue g
  given-number ty i j g n m h = let a = as-given j ty g m h in subst (λ z. GivesAt t s i i.lvalue z) (sym a.is_number) (as-number i ty a.number n a.is_of)

  number-like : (ty : IntType) (i j : Note Form) (o : Out Given) → IsNumber ty i → IsNumber ty j → Fitting t s j o → Fitting t s i o
  number-like ty i j (Value g u) n m f = (f.0, given-number ty i j g n m f.1)
  number-like ty i j (Violation r at u) n m f = tt
  number-like ty i j Stuck n m f = absurd f

  -- ---- choices

  decided-fits : (i : Note Form) (b : Bool) (x y : Out Given) → Fitting t s i x → Fitting t s i y → Fitting t s i (decided (Some b) x y)
  decided-fits i true x y f g = f
  decided-fits i false x y f g = g

  chosen-fits : (c i : Note Form) (g : Given) (x y : Out Given) → IsNumber type.Bool c → GivesAt t s c c.lvalue g → Fitting t s i x → Fitting t s i y → Fitting t s i (decided (truth_of g) x y)
  chosen-fits c i g x y n h f k =
      let a = as-given c type.Bool g n h in
      subst (λ z. Fitting t s i (decided (truth_of z) x y)) (sym a.is_number) (decided-fits i _ x y f k)

  joined-fits : (o : ChainOp) (x y i : Note Form) (at : Span) (right : State → Out Given) → IsBinary o x y i → Fitting t s y (right s) → (g : Given) → GivesAt t s x x.lvalue g → Fitting t s i (joined o g at right s)
  joined-fits (chain.Strict o) x y i at right w f g h = bind-fits y i (right s) _ f (λ k l. strict-fits o x y i at w g h k l)
  joined-fits chain.And x y i at right w f g h = chosen-fits x i g (right s) (Value g s) w.of_left h (number-like type.Bool i y (right s) w.gives w.of_right f) (refl, given-number type.Bool i x g w.gives w.of_left h)
  joined-fits chain.Or x y i at right w f g h = chosen-fits x i g (Value g s) (right s) w.of_left h (refl, given-number type.Bool i x g w.gives w.of_left h) (number-like type.Bool i y (right s) w.gives w.of_right f)
  joined-fits chain.Comma x y i at right w f g h = like-fits i y (right s) w f

  -- ---- expressions

  pub fits : (fs : List Form) → Stands t fs s.memory → (x : Tx Form) → WellTyped fs x → Fitting t s (note_of x) (eval t x s)
  fits fs st (Constant a i) w = (refl, as-number i a.ty a w.0 (refl, w.1))
  fits fs st (Variable v i) w = variable-fits i (bound s.memory.bindings (root.Variable v)) w.1 (st v i.ty w.0)
  fits fs st (Load x i) w = bind-fits (note_of x) i (eval t x s) _ (fits fs st x w.0) (load-fits (note_of x) i w.1)
  fits fs st (Unary o x i) w = bind-fits (note_of x) i (eval t x s) _ (fits fs st x w.0) (unary-fits o (note_of x) i w.1)
  fits fs st (Binary o x y i) w = bind-fits (note_of x) i (eval t x s) _ (fits fs st x w.0) (joined-fits o (note_of x) (note_of y) i i.span (eval t y) w.2 (fits fs st y w.1))
  fits fs st (Conditional c x y i) w = bind-fits (note_of c) i (eval t c s) _ (fits fs st c w.0) (λ g h. chosen-fits (note_of c) i g (eval t x s) (eval t y s) w.3.of_condition h (like-fits i (note_of x) (eval t x s) w.3.like_second (fits fs st x w.1)) (like-fits i (note_of y) (eval t y s) w.3.like_third (fits fs st y w.2)))
