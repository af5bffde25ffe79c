-- What stays where the types and the variables of a program grow.
use Rattle.std.proofs.Common.{◌≡◌, ℕ, zero, suc, ◌<◌, ◌≤◌, ◌+◌, ◌^◌, length-append, Bool, true, List, [], ◌∷◌, ◌++◌, length, Option, None, Some, Result, Ok, Err, ◌⊎◌, inl, inr, refl, sym, ap, subst, ◌∙◌, slice_get, map, arith}
use Rattle.std.specs.Prelude.{option_map, OnOk, OnErr}
use Rattle.std.specs.List.{AllByRecursion}
use Rattle.cx_base.specs.declared.int_type.IntType.{IntType}
use Rattle.cx_type_defs.specs.declared.ids.TypeId.{TypeId}
use Rattle.cx_type_defs.specs.declared.ids.VarId.{VarId}
use Rattle.cx_type_defs.specs.declared.kind.TypeRow.{TypeRow}
use Rattle.cx_type_defs.specs.declared.answer.TypeAnswer.{TypeAnswer}
use Rattle.cx_type_defs.specs.Tables.{Tables, Grows as TypesGrow, with_row, changed_at}
use Rattle.cx_type_defs.specs.Same.{Form, form_of}
use Rattle.cx_type_defs.specs.Sound.{Sound}
use Rattle.cx_type_defs.proofs.Lists.{Along-length, slice_get-more, some_inj}
use Rattle.cx_type_defs.proofs.Looking.{Grows-same}
use Rattle.cx_type_defs.proofs.Growing.{Grows-row}
use Rattle.cx_type_defs.proofs.Forms.{form-grows}
use Rattle.cx_base.specs.declared.Memory.{Memory}
use Rattle.cx_typed.specs.declared.exprs.TExpr.{TExpr}
use Rattle.cx_typed.specs.declared.program.TVariable.{TVariable}
use Rattle.cx_typed.specs.Trees.{Note, Tx, Constant, Variable, Load, Unary, Binary, Conditional, with_types, AllTypes, Var}
use Rattle.cx_typed.specs.Shown.{plain, shown, Within, var_shown}
use Rattle.cx_typed.specs.Well.{WellTyped, VarFits, AllFit, InitFits, IsInteger, MayInitialize, MayInitializeAs, IsNumber, IsNumberOf, int_of, types_of}
use Rattle.cx_typed.specs.Fitting.{IsVariableIn, IsInitIn, IsProgram}

-- ---- trees

-- a tree is the same with types that are the same
pub types_same : {T U : Type 0} (f g : T → U) (x : Tx T) → AllTypes (λ i. f i ≡ g i) x → with_types f x ≡ with_types g x
types_same f g (Constant a i) h = ap (λ ty. Constant a (record { ty = ty; lvalue = i.lvalue; span = i.span })) h
types_same f g (Variable v i) h = ap (λ ty. Variable v (record { ty = ty; lvalue = i.lvalue; span = i.span })) h
types_same f g (Load x i) h = rw (types_same f g x h.0, h.1) refl
types_same f g (Unary o x i) h = rw (types_same f g x h.0, h.1) refl
types_same f g (Binary o x y i) h = rw (types_same f g x h.0, types_same f g y h.1, h.2) refl
types_same f g (Conditional c x y i) h = rw (types_same f g c h.0, types_same f g x h.1, types_same f g y h.2, h.3) refl

pub types_on : {T : Type 0} (P Q : T → Type 0) → ((i : T) → P i → Q i) → (x : Tx T) → AllTypes P x → AllTypes Q x
types_on P Q go (Constant a i) h = go i.ty h
types_on P Q go (Variable v i) h = go i.ty h
types_on P Q go (Load x i) h = (types_on P Q go x h.0, go i.ty h.1)
types_on P Q go (Unary o x i) h = (types_on P Q go x h.0, go i.ty h.1)
types_on P Q go (Binary o x y i) h = (types_on P Q go x h.0, types_on P Q go y h.1, go i.ty h.2)
types_on P Q go (Conditional c x y i) h = (types_on P Q go c h.0, types_on P Q go x h.1, types_on P Q go y h.2, go i.ty h.3)

module _ (t u : Tables) (g : TypesGrow t u) where
  rows-more : (n : ℕ) → n < length t.rows → n < length u.rows
  rows-more n h = omega (arith, Along-length (λ (a b : TypeRow). b ≡ a) t.rows u.rows g.row_list)

  pub within_grown : (e : TExpr) → Within t e → Within u e
  within_grown e w = record { each = types_on (λ (i : TypeId). i.0 < length t.rows) (λ (i : TypeId). i.0 < length u.rows) (λ i h. rows-more i.0 h) (plain e) w.each }

  module _ (s : Sound t) where
    pub shown_kept : (e : TExpr) → Within t e → shown u e ≡ shown t e
    shown_kept e w = types_same (form_of true u) (form_of true t) (plain e) (types_on (λ (i : TypeId). i.0 < length t.rows) (λ (i : TypeId). form_of true u i ≡ form_of true t i) (λ i h. sym (form-grows true t u s g i h)) (plain e) w.each)

    init-kept : (o : Option TExpr) → IsInitIn t o → option_map (shown u) o ≡ option_map (shown t) o
    init-kept None h = refl
    init-kept (Some e) h = ap Some (shown_kept e h)

    init-grown : (o : Option TExpr) → IsInitIn t o → IsInitIn u o
    init-grown None h = tt
    init-grown (Some e) h = within_grown e h

    var-kept : (v : TVariable) → IsVariableIn t v → var_shown u v ≡ var_shown t v
    var-kept v h = rw (← form-grows true t u s g v.ty h.ty, init-kept v.init h.init) refl

    pub vars_kept : (vs : List TVariable) → AllByRecursion (IsVariableIn t) vs → map (var_shown u) vs ≡ map (var_shown t) vs
    vars_kept [] h = refl
    vars_kept (v ∷ vs) h = rw (var-kept v h.0, vars_kept vs h.1) refl

    vars-grown : (vs : List TVariable) → AllByRecursion (IsVariableIn t) vs → AllByRecursion (IsVariableIn u) vs
    vars-grown [] h = tt
    vars-grown (v ∷ vs) h = (record { ty = rows-more v.ty.0 h.0.ty; init = init-grown v.init h.0.init }, vars-grown vs h.1)

    pub program_grown : (vs : List TVariable) → IsProgram (record { types = t; variables = vs }) → IsProgram (record { types = u; variables = vs })
    program_grown vs p = record { types = vars-grown vs p.types; fits = subst AllFit (sym (vars_kept vs p.types)) p.fits; few = p.few }

-- the types after a call that may have added one
pub types_grown : {A : Type 0} (r : Result A TypeAnswer) (t u : Tables) (row : TypeRow) → OnOk r ((u ≡ t) ⊎ (u ≡ with_row t row)) → OnErr r (u ≡ t) → TypesGrow t u
types_grown (Ok a) t u row (inl e) n = subst (TypesGrow t) (sym e) (Grows-same t)
types_grown (Ok a) t u row (inr e) n = subst (TypesGrow t) (sym e) (Grows-row t row)
types_grown (Err b) t u row o e = subst (TypesGrow t) (sym e) (Grows-same t)

pub types_one_more : {A : Type 0} (r : Result A TypeAnswer) (t u : Tables) (row : TypeRow) → OnOk r ((u ≡ t) ⊎ (u ≡ with_row t row)) → OnErr r (u ≡ t) → length u.rows ≤ length t.rows + 1
types_one_more (Ok a) t u row (inl e) n = rw e (omega arith)
types_one_more (Ok a) t u row (inr e) n = rw e (omega (arith, length-append t.rows (row ∷ [])))
types_one_more (Err b) t u row o e = rw e (omega arith)

-- ---- well typed, where there are more variables

abbrev pub HasMore : List Form → List Form → Type 0
HasMore fs gs = (n : ℕ) (f : Form) → slice_get fs n ≡ Some f → slice_get gs n ≡ Some f

pub well_more : (fs gs : List Form) → HasMore fs gs → (x : Tx Form) → WellTyped fs x → WellTyped gs x
well_more fs gs m (Constant a i) w = w
well_more fs gs m (Variable v i) w = (m v.0 i.ty w.0, w.1)
well_more fs gs m (Load x i) w = (well_more fs gs m x w.0, w.1)
well_more fs gs m (Unary o x i) w = (well_more fs gs m x w.0, w.1)
well_more fs gs m (Binary o x y i) w = (well_more fs gs m x w.0, well_more fs gs m y w.1, w.2)
well_more fs gs m (Conditional c x y i) w = (well_more fs gs m c w.0, well_more fs gs m x w.1, well_more fs gs m y w.2, w.3)

init-more : (fs gs : List Form) → HasMore fs gs → (ty : IntType) (o : Option (Tx Form)) → InitFits fs ty o → InitFits gs ty o
init-more fs gs m ty None h = tt
init-more fs gs m ty (Some x) h = (well_more fs gs m x h.0, h.1)

var-more : (fs gs : List Form) → HasMore fs gs → (v : Var) → VarFits fs v → VarFits gs v
var-more fs gs m v h = record { ty = h.ty; of_type = h.of_type; init = init-more fs gs m h.ty v.init h.init }

vars-more : (fs gs : List Form) → HasMore fs gs → (vs : List Var) → AllByRecursion (VarFits fs) vs → AllByRecursion (VarFits gs) vs
vars-more fs gs m [] h = tt
vars-more fs gs m (v ∷ vs) h = (var-more fs gs m v h.0, vars-more fs gs m vs h.1)

-- ---- one variable more

all-push : {A : Type 0} (P : A → Type 0) (xs : List A) (y : A) → AllByRecursion P xs → P y → AllByRecursion P (xs ++ y ∷ [])
all-push P [] y h k = (k, tt)
all-push P (x ∷ xs) y h k = (h.0, all-push P xs y h.1 k)

pub map_push : {A B : Type 0} (f : A → B) (xs : List A) (y : A) → map f (xs ++ y ∷ []) ≡ map f xs ++ f y ∷ []
map_push f [] y = refl
map_push f (x ∷ xs) y = ap (λ l. f x ∷ l) (map_push f xs y)

pub map_length : {A B : Type 0} (f : A → B) (xs : List A) → length (map f xs) ≡ length xs
map_length f [] = refl
map_length f (x ∷ xs) = ap suc (map_length f xs)

no-init : (t : Tables) (o : Option TExpr) → o ≡ None → IsInitIn t o
no-init t None e = tt
no-init t (Some x) e = absurd (cc)

no-init-fits : (fs : List Form) (ty : IntType) (t : Tables) (o : Option TExpr) → o ≡ None → InitFits fs ty (option_map (shown t) o)
no-init-fits fs ty t None e = tt
no-init-fits fs ty t (Some x) e = absurd (cc)

pub program_declared : (t : Tables) (vs : List TVariable) (v : TVariable) → IsProgram (record { types = t; variables = vs }) → v.ty.0 < length t.rows → IsInteger (form_of true t v.ty) → v.init ≡ None → length vs + 1 < 2 ^ 23 → IsProgram (record { types = t; variables = vs ++ v ∷ [] })
program_declared t vs v p known integer none few =
    let f : Var = var_shown t v in
    let fs : List Var = map (var_shown t) vs in
    let more : HasMore (types_of fs) (types_of (fs ++ f ∷ [])) = λ n h e. subst (λ l. slice_get l n ≡ Some h) (sym (map_push (λ (w : Var). w.ty) fs f)) (slice_get-more (types_of fs) (f.ty ∷ []) n h e) in
    let fit : VarFits (types_of (fs ++ f ∷ [])) f = record { ty = integer.ty; of_type = integer.of_type; init = no-init-fits (types_of (fs ++ f ∷ [])) integer.ty t v.init none } in
    let all : AllFit (fs ++ f ∷ []) = record { each = all-push (VarFits (types_of (fs ++ f ∷ []))) fs f (vars-more (types_of fs) (types_of (fs ++ f ∷ [])) more fs p.fits.each) fit } in
    record {
      types = all-push (IsVariableIn t) vs v p.types (record { ty = known; init = no-init t v.init none });
      fits = subst AllFit (sym (map_push (var_shown t) vs v)) all;
      few = length-push vs v few;
    }
  where
    length-push : (xs : List TVariable) (x : TVariable) → length xs + 1 < 2 ^ 23 → length (xs ++ x ∷ []) < 2 ^ 23
    length-push xs x h = omega (arith, pushed xs x)
      where
        pushed : (ys : List TVariable) (y : TVariable) → length (ys ++ y ∷ []) ≡ length ys + 1
        pushed [] y = refl
        pushed (z ∷ ys) y = omega (arith, pushed ys y)

-- ---- what a variable is initialized from

all-changed : {A : Type 0} (P : A → Type 0) (f : A → A) (xs : List A) (k : ℕ) → AllByRecursion P xs → ((x : A) → slice_get xs k ≡ Some x → P x → P (f x)) → AllByRecursion P (changed_at f xs k)
all-changed P f [] k h go = tt
all-changed P f (x ∷ xs) zero h go = (go x refl h.0, h.1)
all-changed P f (x ∷ xs) (suc k) h go = (h.0, all-changed P f xs k h.1 go)

pub map_changed : {A B : Type 0} (m : A → B) (f : A → A) (g : B → B) (xs : List A) (k : ℕ) → ((x : A) → m (f x) ≡ g (m x)) → map m (changed_at f xs k) ≡ changed_at g (map m xs) k
map_changed m f g [] k e = refl
map_changed m f g (x ∷ xs) zero e = ap (λ y. y ∷ map m xs) (e x)
map_changed m f g (x ∷ xs) (suc k) e = ap (λ l. m x ∷ l) (map_changed m f g xs k e)

map-same : {A B : Type 0} (m : A → B) (f : A → A) (xs : List A) (k : ℕ) → ((x : A) → m (f x) ≡ m x) → map m (changed_at f xs k) ≡ map m xs
map-same m f [] k e = refl
map-same m f (x ∷ xs) zero e = ap (λ y. y ∷ map m xs) (e x)
map-same m f (x ∷ xs) (suc k) e = ap (λ l. m x ∷ l) (map-same m f xs k e)

length-changed : {A : Type 0} (f : A → A) (xs : List A) (k : ℕ) → length (changed_at f xs k) ≡ length xs
length-changed f [] k = refl
length-changed f (x ∷ xs) zero = refl
length-changed f (x ∷ xs) (suc k) = ap suc (length-changed f xs k)

abbrev pub with_init : TExpr → TVariable → TVariable
with_init e v = record v { init = Some e }

abbrev pub var_with_init : Tx Form → Var → Var
var_with_init x v = record v { init = Some x }

init-number : (ty : IntType) (o : Option IntType) (i : Note Form) → o ≡ Some ty → IsNumberOf o i → IsNumber ty i
init-number ty None i e h = absurd h
init-number ty (Some u) i e h = subst (λ w. IsNumber w i) (some_inj u ty e) h

pub initialize_there : (vs : List Var) (v : VarId) (x : Tx Form) → MayInitialize vs v x → v.0 < length vs
initialize_there vs v x h = by vs v.0 h
  where
    by : (ws : List Var) (n : ℕ) → MayInitializeAs (types_of vs) (slice_get ws n) x → n < length ws
    by [] n m = absurd m
    by (w ∷ ws) zero m = omega arith
    by (w ∷ ws) (suc n) m = omega (arith, by ws n m)

pub program_initialized : (t : Tables) (vs : List TVariable) (v : VarId) (e : TExpr) → IsProgram (record { types = t; variables = vs }) → Within t e → MayInitialize (map (var_shown t) vs) v (shown t e) → IsProgram (record { types = t; variables = changed_at (with_init e) vs v.0 })
program_initialized t vs v e p w may =
    let fs : List Var = map (var_shown t) vs in
    let x : Tx Form = shown t e in
    let now : List Var = changed_at (var_with_init x) fs v.0 in
    let same : types_of now ≡ types_of fs = map-same (λ (f : Var). f.ty) (var_with_init x) fs v.0 (λ f. refl) in
    let go : (f : Var) → slice_get fs v.0 ≡ Some f → VarFits (types_of fs) f → VarFits (types_of fs) (var_with_init x f) =
    λ f at h. fit f h (subst (λ o. MayInitializeAs (types_of fs) o x) at may) in
    record {
      types = all-changed (IsVariableIn t) (with_init e) vs v.0 p.types (λ d at h. record { ty = h.ty; init = w });
      fits = subst AllFit (sym (map_changed (var_shown t) (with_init e) (var_with_init x) vs v.0 (λ d. refl))) (record { each = subst (λ l. AllByRecursion (VarFits l) now) (sym same) (all-changed (VarFits (types_of fs)) (var_with_init x) fs v.0 p.fits.each go) });
      few = subst (λ n. n < 2 ^ 23) (sym (length-changed (with_init e) vs v.0)) p.few;
    }
  where
    fit : (f : Var) → VarFits (types_of (map (var_shown t) vs)) f → MayInitializeAs (types_of (map (var_shown t) vs)) (Some f) (shown t e) → VarFits (types_of (map (var_shown t) vs)) (var_with_init (shown t e) f)
    fit f h m = record { ty = h.ty; of_type = h.of_type; init = (m.1, init-number h.ty (int_of f.ty) _ h.of_type m.2) }

-- the same, after a call that may have failed
pub program_pushed : (r : Result (Unit {0}) Memory) (t : Tables) (vs now : List TVariable) (v : TVariable) → OnOk r (now ≡ vs ++ v ∷ []) → OnErr r (now ≡ vs) → IsProgram (record { types = t; variables = vs }) → v.ty.0 < length t.rows → IsInteger (form_of true t v.ty) → v.init ≡ None → length vs + 1 < 2 ^ 23 → IsProgram (record { types = t; variables = now })
program_pushed (Ok a) t vs now v e n p known integer none few = subst (λ l. IsProgram (record { types = t; variables = l })) (sym e) (program_declared t vs v p known integer none few)
program_pushed (Err b) t vs now v n e p known integer none few = subst (λ l. IsProgram (record { types = t; variables = l })) (sym e) p

pub vars_initialized : (t : Tables) (vs : List TVariable) (k : ℕ) (e : TExpr) → map (var_shown t) (changed_at (with_init e) vs k) ≡ changed_at (var_with_init (shown t e)) (map (var_shown t) vs) k
vars_initialized t vs k e = map_changed (var_shown t) (with_init e) (var_with_init (shown t e)) vs k (λ d. refl)

pub vars_pushed : (t : Tables) (vs : List TVariable) (v : TVariable) → map (var_shown t) (vs ++ v ∷ []) ≡ map (var_shown t) vs ++ var_shown t v ∷ []
vars_pushed t vs v = map_push (var_shown t) vs v
