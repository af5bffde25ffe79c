-- What reading a variable gives where a judgement starts.
use Rattle.std.proofs.Common.{◌≡◌, ℕ, zero, suc, ◌+◌, ◌*◌, ◌<◌, ◌≤◌, ◌==◌, Bool, true, false, List, [], ◌∷◌, ◌++◌, length, map, Option, None, Some, Result, Err, refl, sym, ap, ◌∙◌, slice_get, sum, arith, if◌then◌else◌, eqb-true, eq-eqb}
use Rattle.std.proofs.lemmas.Bool.{eqb-false, ne_eqb}
use Rattle.std.proofs.lemmas.List.Sums.{sum_by-append}
use Rattle.std.specs.Prelude.{option_map, unwrap_or}
use Rattle.std.specs.List.{AllByRecursion, find}
use Rattle.cx_base.specs.declared.rule.Rule.{Rule}
use Rattle.cx_base.specs.declared.rule.Rule.TheVariants as rule
use Rattle.cx_base.specs.declared.int_type.IntType.{IntType}
use Rattle.cx_type_defs.specs.declared.ids.VarId.{VarId}
use Rattle.cx_type_defs.specs.declared.kind.TypeKind.TheVariants as kind
use Rattle.cx_type_defs.specs.Tables.{Tables}
use Rattle.cx_type_defs.specs.Same.{Form, Void, Nullptr, Int, Enum, Pointer, Reference, Array, Class, Const, Unknown}
use Rattle.cx_type_defs.specs.Questions.{Question, OfType, asked, cells_of, kind_answer}
use Rattle.cx_type_defs.proofs.Asked.{asked-kind, under}
use Rattle.cx_type_defs.proofs.Lists.{slice_get-more, slice_get-last, some_inj, within-slice_get}
use Rattle.cx_state.specs.declared.kind.Scalar.{Scalar}
use Rattle.cx_state.specs.declared.kind.Scalar.TheVariants as scalar
use Rattle.cx_state.specs.declared.kind.Birth.{Birth}
use Rattle.cx_state.specs.declared.kind.Birth.TheVariants as birth
use Rattle.cx_state.specs.declared.kind.Kind.TheVariants as made
use Rattle.cx_state.specs.declared.kind.Phase.TheVariants as phase
use Rattle.cx_state.specs.declared.root.Root.{Root}
use Rattle.cx_state.specs.declared.root.Root.TheVariants as root
use Rattle.cx_state.specs.Objects.{Path, Leaf, Object, Objects}
use Rattle.cx_state.specs.Steps as steps
use Rattle.cx_state.specs.Counts as counts
use Rattle.cx_state.specs.States.{same_root, bound}
use Rattle.cx_typed.specs.declared.judge.Value.{Value as Val}
use Rattle.cx_typed.specs.declared.judge.Value.TheVariants as value
use Rattle.cx_typed.specs.declared.judge.KeptValue.{KeptValue}
use Rattle.cx_typed.specs.Trees.{Var}
use Rattle.cx_typed.specs.Well.{int_of}
use Rattle.cx_typed.specs.Meaning.{whole}
use Rattle.cx_typed.specs.Bodies.{fresh, ready, read_of, reads, IsIntVar}
use Rattle.cx_typed.specs.Judging.{Kept, kept_at, row_of, tables_of, type_of, kept_object, request, addresses, named, numbered, start_memory, KeptFit, IsOfVar}

-- ---- names

abbrev pub named_at : List (Root × Object) → Root → Option Object
named_at [] r = None
named_at (x ∷ xs) r = if same_root x.0 r then Some x.1 else named_at xs r

abbrev pub objects_of : List (Root × Object) → Objects
objects_of xs = map (λ (x : Root × Object). x.1) xs

-- the object of a name is at the name's number
pub record IsThere (bs : List (Root × ℕ)) (os : Objects) (r : Root) (o : Object) : Type 0 where
  pub number : ℕ
  pub is_bound : bound bs r ≡ Some number
  pub is_object : slice_get os number ≡ Some o

numbered-there : (xs : List (Root × Object)) (n : ℕ) (r : Root) (o : Object) → named_at xs r ≡ Some o → (i : ℕ) × (bound (numbered n xs) r ≡ Some (n + i)) × (slice_get (objects_of xs) i ≡ Some o)
numbered-there [] n r o h = absurd (cc)
numbered-there (x ∷ xs) n r o h = by (same_root x.0 r) h (numbered-there xs (suc n) r o)
  where
    by : (b : Bool) → (if b then Some x.1 else named_at xs r) ≡ Some o → (named_at xs r ≡ Some o → (i : ℕ) × (bound (numbered (suc n) xs) r ≡ Some (suc n + i)) × (slice_get (objects_of xs) i ≡ Some o)) → (i : ℕ) × (option_map (λ (b : Root × ℕ). b.1) (if b then Some (x.0, n) else find (λ (b : Root × ℕ). same_root b.0 r) (numbered (suc n) xs)) ≡ Some (n + i)) × (slice_get (objects_of (x ∷ xs)) i ≡ Some o)
    by true e go = (0, ap Some (omega arith), e)
    by false e go = let q = go e in (suc q.0, q.1 ∙ ap Some (omega arith), q.2)

eqb-flip : (a b : ℕ) (t : Bool) → (a == b) ≡ t → (b == a) ≡ t
eqb-flip a b true e = eq-eqb b a (sym (eqb-true a b e))
eqb-flip a b false e = ne_eqb b a (λ q. eqb-false a b e (sym q))

abbrev kept-names : Kept → List (Root × Object)
kept-names ks = map (λ (k : VarId × KeptValue). (root.Variable k.0, kept_object k)) ks

kept-named : (ks : Kept) (rest : List (Root × Object)) (v : VarId) (k : KeptValue) → kept_at ks v ≡ Some k → (w : VarId) × (named_at (kept-names ks ++ rest) (root.Variable v) ≡ Some (kept_object (w, k)))
kept-named [] rest v k h = absurd (cc)
kept-named (e ∷ ks) rest v k h = by (v.0 == e.0.0) (e.0.0 == v.0) (eqb-flip v.0 e.0.0 (v.0 == e.0.0) refl) h (kept-named ks rest v k)
  where
    by : (b c : Bool) → c ≡ b → (if b then Some e.1 else kept_at ks v) ≡ Some k → (kept_at ks v ≡ Some k → (w : VarId) × (named_at (kept-names ks ++ rest) (root.Variable v) ≡ Some (kept_object (w, k)))) → (w : VarId) × ((if c then Some (kept_object e) else named_at (kept-names ks ++ rest) (root.Variable v)) ≡ Some (kept_object (w, k)))
    by true true q e1 go = (e.0, ap (λ x. Some (kept_object (e.0, x))) (some_inj e.1 k e1))
    by false false q e1 go = go e1
    by true false q e1 go = absurd (cc)
    by false true q e1 go = absurd (cc)

others-named : (ks : Kept) (rest : List (Root × Object)) (v : VarId) → kept_at ks v ≡ None → named_at (kept-names ks ++ rest) (root.Variable v) ≡ named_at rest (root.Variable v)
others-named [] rest v h = refl
others-named (e ∷ ks) rest v h = by (v.0 == e.0.0) (e.0.0 == v.0) (eqb-flip v.0 e.0.0 (v.0 == e.0.0) refl) h (others-named ks rest v)
  where
    by : (b c : Bool) → c ≡ b → (if b then Some e.1 else kept_at ks v) ≡ None → (kept_at ks v ≡ None → named_at (kept-names ks ++ rest) (root.Variable v) ≡ named_at rest (root.Variable v)) → (if c then Some (kept_object e) else named_at (kept-names ks ++ rest) (root.Variable v)) ≡ named_at rest (root.Variable v)
    by true true q e1 go = absurd (cc)
    by false false q e1 go = go e1
    by true false q e1 go = absurd (cc)
    by false true q e1 go = absurd (cc)

abbrev pub address : Tables → VarId → Object
address t v = counts.new_object t (request v birth.Opaque)

address-named : (t : Tables) (n : ℕ) (vs : List Var) (v : VarId) → n ≤ v.0 → v.0 < n + length vs → named_at (addresses t n vs) (root.Variable v) ≡ Some (address t v)
address-named t n [] v h k = absurd (omega arith)
address-named t n (w ∷ vs) v h k = by (n == v.0) refl (λ apart. address-named t (suc n) vs v (omega arith) (omega arith))
  where
    by : (b : Bool) → (n == v.0) ≡ b → ((n ≡ v.0 → ⊥) → named_at (addresses t (suc n) vs) (root.Variable v) ≡ Some (address t v)) → (if b then Some (address t (record { 0 = n })) else named_at (addresses t (suc n) vs) (root.Variable v)) ≡ Some (address t v)
    by true e go = ap (λ i. Some (address t (record { 0 = i }))) (eqb-true n v.0 e)
    by false e go = go (eqb-false n v.0 e)

-- ---- reading

load-kept : (t : Tables) (os : Objects) (n : ℕ) (v : VarId) (k : KeptValue) → slice_get os n ≡ Some (kept_object (v, k)) → steps.load t os (whole n) ≡ read_of (Some k)
load-kept t os n v k h = rw h (by k.birth k.value)
  where
    by : (b : Birth) (x : Val) → steps.load t (kept_object (v, record { value = x; birth = b }) ∷ []) (whole 0) ≡ read_of (Some (record { value = x; birth = b }))
    by birth.Here (value.Int a) = refl
    by birth.Usable (value.Int a) = refl
    by birth.Opaque (value.Int a) = refl

load-address : (t : Tables) (os : Objects) (n : ℕ) (v : VarId) → slice_get os n ≡ Some (address t v) → steps.load t os (whole n) ≡ Err rule.NotUsable
load-address t os n v h = rw h refl

-- ---- the start

start-there : (vs : List Var) (ks : Kept) (v : VarId) (o : Object) → named_at (named vs ks) (root.Variable v) ≡ Some o → IsThere (start_memory vs ks).bindings (start_memory vs ks).objects (root.Variable v) o
start-there vs ks v o h = let q = numbered-there (named vs ks) 0 (root.Variable v) o h in record { number = q.0; is_bound = q.1 ∙ ap Some (omega arith); is_object = q.2 }

-- a variable's object, and what reading it gives
pub record Reads (t : Tables) (bs : List (Root × ℕ)) (os : Objects) (v : VarId) (r : Result (Scalar Path) Rule) : Type 0 where
  pub number : ℕ
  pub is_bound : bound bs (root.Variable v) ≡ Some number
  pub object : Object
  pub is_object : slice_get os number ≡ Some object
  pub gives : steps.load t os (whole number) ≡ r

start-reads : (vs : List Var) (ks : Kept) (v : VarId) → v.0 < length vs → Reads (tables_of vs) (start_memory vs ks).bindings (start_memory vs ks).objects v (read_of (kept_at ks v))
start-reads vs ks v h = by (kept_at ks v) refl
  where
    by : (o : Option KeptValue) → kept_at ks v ≡ o → Reads (tables_of vs) (start_memory vs ks).bindings (start_memory vs ks).objects v (read_of o)
    by None e =
        let n = others-named ks (addresses (tables_of vs) 0 vs) v e ∙ address-named (tables_of vs) 0 vs v (omega arith) (omega arith) in
        let q = start-there vs ks v (address (tables_of vs) v) n in
        record { number = q.number; is_bound = q.is_bound; object = _; is_object = q.is_object; gives = load-address (tables_of vs) (start_memory vs ks).objects q.number v q.is_object }
    by (Some k) e =
        let n = kept-named ks (addresses (tables_of vs) 0 vs) v k e in
        let q = start-there vs ks v (kept_object (n.0, k)) n.1 in
        record { number = q.number; is_bound = q.is_bound; object = _; is_object = q.is_object; gives = load-kept (tables_of vs) (start_memory vs ks).objects q.number n.0 k q.is_object }

-- ---- the object of a judged variable

row-int : (f : Form) (ty : IntType) → int_of f ≡ Some ty → (row_of f).kind ≡ kind.Int ty
row-int Void ty e = absurd (cc)
row-int Nullptr ty e = absurd (cc)
row-int (Int u) ty e = ap kind.Int (some_inj u ty e)
row-int (Enum i) ty e = absurd (cc)
row-int (Pointer f) ty e = absurd (cc)
row-int (Reference f) ty e = absurd (cc)
row-int (Array f n) ty e = absurd (cc)
row-int (Class c) ty e = absurd (cc)
row-int (Const f) ty e = row-int f ty e
row-int Unknown ty e = absurd (cc)

row-at : (vs : List Var) (n : ℕ) (v : Var) → slice_get vs n ≡ Some v → slice_get (map (λ (w : Var). row_of w.ty) vs) n ≡ Some (row_of v.ty)
row-at [] n v h = absurd (cc)
row-at (w ∷ vs) zero v h = ap (λ (x : Option Var). option_map (λ (u : Var). row_of u.ty) x) h
row-at (w ∷ vs) (suc n) v h = row-at vs n v h

-- the answer of a question for an integer type
int-asked : {R : Type 0} (q : Question R) (vs : List Var) (v : VarId) (d : Var) (ty : IntType) → slice_get vs v.0 ≡ Some d → int_of d.ty ≡ Some ty → (n : ℕ) × (asked q (tables_of vs) (OfType (type_of v)) ≡ Some (q.of_scalar n))
int-asked q vs v d ty at e =
    let k : (row_of d.ty).kind ≡ kind.Int ty = row-int d.ty ty e in
    (_, asked-kind q (tables_of vs) (type_of v) (row_of d.ty) (row-at vs v.0 d at) ∙ ap (kind_answer q (tables_of vs) (under q (tables_of vs))) k)

-- a scalar without a value
abbrev pub empty : VarId → Object
empty v = record { ty = type_of v; count = None; kind = made.Static; konst = false; birth = birth.Here; released = false; counted = true; tree = Leaf scalar.Indeterminate }

pub fresh_is : (vs : List Var) (v : VarId) (d : Var) (ty : IntType) → slice_get vs v.0 ≡ Some d → int_of d.ty ≡ Some ty → fresh (tables_of vs) v ≡ empty v
fresh_is vs v d ty at e = ap (λ x. record (empty v) { tree = unwrap_or x steps.blank }) (int-asked (steps.new_in phase.Unborn) vs v d ty at e).1

load-empty : (t : Tables) (os : Objects) (n : ℕ) (v : VarId) → slice_get os n ≡ Some (empty v) → steps.load t os (whole n) ≡ Err rule.Indeterminate
load-empty t os n v h = rw h refl

-- ---- with it

load-more : (t : Tables) (os more : Objects) (n : ℕ) (o : Object) (r : Result (Scalar Path) Rule) → slice_get os n ≡ Some o → steps.load t os (whole n) ≡ r → steps.load t (os ++ more) (whole n) ≡ r
load-more t os more n o r h e = rw (slice_get-more os more n o h) (rw h at e)

-- behind the binding of the judged variable

bound-first : (bs : List (Root × ℕ)) (j v : VarId) (n : ℕ) → (j.0 == v.0) ≡ true → bound ((root.Variable j, n) ∷ bs) (root.Variable v) ≡ Some n
bound-first bs j v n e = rw e refl

bound-other : (bs : List (Root × ℕ)) (j v : VarId) (n : ℕ) → (j.0 == v.0) ≡ false → bound ((root.Variable j, n) ∷ bs) (root.Variable v) ≡ bound bs (root.Variable v)
bound-other bs j v n e = rw e refl

judged-reads : (vs : List Var) (ks : Kept) (j v : VarId) → IsIntVar vs (Some j) → v.0 < length vs → (b : Bool) → (j.0 == v.0) ≡ b → Reads (tables_of vs) (ready vs ks (Some j)).bindings (ready vs ks (Some j)).objects v (if b then Err rule.Indeterminate else read_of (kept_at ks v))
judged-reads vs ks j v h k true e =
    let os : Objects = (start_memory vs ks).objects in
    let last : slice_get (os ++ fresh (tables_of vs) j ∷ []) (length os) ≡ Some (empty j) = slice_get-last os (fresh (tables_of vs) j) ∙ ap Some (fresh_is vs j h.0 h.1 h.2 h.3) in
    record { number = length os; is_bound = bound-first (start_memory vs ks).bindings j v (length os) e; object = empty j; is_object = last; gives = load-empty (tables_of vs) (os ++ fresh (tables_of vs) j ∷ []) (length os) j last }
judged-reads vs ks j v h k false e =
    let os : Objects = (start_memory vs ks).objects in
    let q = start-reads vs ks v k in
    record { number = q.number; is_bound = bound-other (start_memory vs ks).bindings j v (length os) e ∙ q.is_bound; object = q.object; is_object = slice_get-more os (fresh (tables_of vs) j ∷ []) q.number q.object q.is_object; gives = load-more (tables_of vs) os (fresh (tables_of vs) j ∷ []) q.number q.object (read_of (kept_at ks v)) q.is_object q.gives }

pub ready_reads : (vs : List Var) (ks : Kept) (o : Option VarId) → IsIntVar vs o → (v : VarId) → v.0 < length vs → Reads (tables_of vs) (ready vs ks o).bindings (ready vs ks o).objects v (reads ks o v)
ready_reads vs ks None h v k = start-reads vs ks v k
ready_reads vs ks (Some j) h v k = judged-reads vs ks j v h k (j.0 == v.0) refl

-- ---- how many cells there are

sum-cons : (x : ℕ) (xs : List ℕ) → sum (x ∷ xs) ≡ x + sum xs
sum-cons x xs = omega (arith, sum_by-append (λ y. y) (x ∷ []) xs)

abbrev share : Tables → Object → ℕ
share t o = if counts.is_live o then counts.cells_in t o else 0

-- an object of an integer type has one cell
int-cells : (vs : List Var) (o : Option Var) (v : VarId) (x : Val) → slice_get vs v.0 ≡ o → IsOfVar o x → unwrap_or (asked cells_of (tables_of vs) (OfType (type_of v))) 0 ≡ 1
int-cells vs None v x e h = absurd h
int-cells vs (Some d) v (value.Int a) e h = ap (λ c. unwrap_or c 0) (int-asked cells_of vs v d a.ty e h.0).1

kept-cells : (vs : List Var) (ks : Kept) → AllByRecursion (λ (k : VarId × KeptValue). IsOfVar (slice_get vs k.0.0) k.1.value) ks → sum (map (share (tables_of vs)) (objects_of (kept-names ks))) ≡ length ks
kept-cells vs [] h = refl
kept-cells vs (k ∷ ks) h =
    sum-cons (share (tables_of vs) (kept_object k)) (map (share (tables_of vs)) (objects_of (kept-names ks)))
    ∙ ap (λ c. 1 * c + sum (map (share (tables_of vs)) (objects_of (kept-names ks)))) (int-cells vs (slice_get vs k.0.0) k.0 k.1.value refl h.0)
    ∙ ap (λ n. 1 * 1 + n) (kept-cells vs ks h.1)
    ∙ omega arith

address-cells : (t : Tables) (n : ℕ) (vs : List Var) → sum (map (share t) (objects_of (addresses t n vs))) ≡ 0
address-cells t n [] = refl
address-cells t n (v ∷ vs) = sum-cons 0 (map (share t) (objects_of (addresses t (suc n) vs))) ∙ ap (λ m. 0 + m) (address-cells t (suc n) vs)

regroup : (a b c : ℕ) → a + (b + c) ≡ (a + b) + c
regroup a b c = omega arith

sum-both : (t : Tables) (xs ys : List (Root × Object)) → sum (map (share t) (objects_of (xs ++ ys))) ≡ sum (map (share t) (objects_of xs)) + sum (map (share t) (objects_of ys))
sum-both t [] ys = none (sum (map (share t) (objects_of ys)))
  where
    none : (n : ℕ) → n ≡ 0 + n
    none n = omega arith
sum-both t (x ∷ xs) ys =
    sum-cons (share t x.1) (map (share t) (objects_of (xs ++ ys))) ∙ ap (λ n. share t x.1 + n) (sum-both t xs ys) ∙ regroup (share t x.1) (sum (map (share t) (objects_of xs))) (sum (map (share t) (objects_of ys))) ∙ ap (λ n. n + sum (map (share t) (objects_of ys))) (sym (sum-cons (share t x.1) (map (share t) (objects_of xs))))

pub start_cells : (vs : List Var) (ks : Kept) → KeptFit vs ks → counts.live_cells (tables_of vs) (start_memory vs ks).objects ≡ length ks
start_cells vs ks h = sum-both (tables_of vs) (kept-names ks) (addresses (tables_of vs) 0 vs) ∙ ap (λ n. n + sum (map (share (tables_of vs)) (objects_of (addresses (tables_of vs) 0 vs)))) (kept-cells vs ks h.each) ∙ ap (λ n. length ks + n) (address-cells (tables_of vs) 0 vs) ∙ omega arith

pub fresh_cells : (vs : List Var) (v : VarId) (d : Var) (ty : IntType) → slice_get vs v.0 ≡ Some d → int_of d.ty ≡ Some ty → counts.cells_in (tables_of vs) (fresh (tables_of vs) v) ≡ 1
fresh_cells vs v d ty at e = ap (λ c. 1 * unwrap_or c 0) (int-asked cells_of vs v d ty at e).1

-- ---- a name that no variable has

numbered-none : (xs : List (Root × Object)) (n : ℕ) (r : Root) → named_at xs r ≡ None → bound (numbered n xs) r ≡ None
numbered-none [] n r h = refl
numbered-none (x ∷ xs) n r h = by (same_root x.0 r) h (numbered-none xs (suc n) r)
  where
    by : (b : Bool) → (if b then Some x.1 else named_at xs r) ≡ None → (named_at xs r ≡ None → bound (numbered (suc n) xs) r ≡ None) → option_map (λ (b : Root × ℕ). b.1) (if b then Some (x.0, n) else find (λ (b : Root × ℕ). same_root b.0 r) (numbered (suc n) xs)) ≡ None
    by true e go = absurd (cc)
    by false e go = go e

of-var-there : (vs : List Var) (n : ℕ) (x : Val) → IsOfVar (slice_get vs n) x → n < length vs
of-var-there [] n x h = absurd h
of-var-there (v ∷ vs) zero x h = omega arith
of-var-there (v ∷ vs) (suc n) x h = omega (arith, of-var-there vs n x h)

addresses-none : (t : Tables) (n : ℕ) (vs : List Var) (v : VarId) → n + length vs ≤ v.0 → named_at (addresses t n vs) (root.Variable v) ≡ None
addresses-none t n [] v h = refl
addresses-none t n (w ∷ vs) v h = by (n == v.0) (ne_eqb n v.0 (λ e. omega arith)) (addresses-none t (suc n) vs v (omega arith))
  where
    by : (b : Bool) → b ≡ false → named_at (addresses t (suc n) vs) (root.Variable v) ≡ None → (if b then Some (address t (record { 0 = n })) else named_at (addresses t (suc n) vs) (root.Variable v)) ≡ None
    by true e go = absurd (cc)
    by false e go = go

kept-none : (vs : List Var) (ks : Kept) (rest : List (Root × Object)) (v : VarId) → AllByRecursion (λ (k : VarId × KeptValue). IsOfVar (slice_get vs k.0.0) k.1.value) ks → length vs ≤ v.0 → named_at rest (root.Variable v) ≡ None → named_at (kept-names ks ++ rest) (root.Variable v) ≡ None
kept-none vs [] rest v h k r = r
kept-none vs (e ∷ ks) rest v h k r =
    let there : e.0.0 < length vs = of-var-there vs e.0.0 e.1.value h.0 in
    by (e.0.0 == v.0) (ne_eqb e.0.0 v.0 (λ q. omega arith)) (kept-none vs ks rest v h.1 k r)
  where
    by : (b : Bool) → b ≡ false → named_at (kept-names ks ++ rest) (root.Variable v) ≡ None → (if b then Some (kept_object e) else named_at (kept-names ks ++ rest) (root.Variable v)) ≡ None
    by true q go = absurd (cc)
    by false q go = go

start-none : (vs : List Var) (ks : Kept) (v : VarId) → KeptFit vs ks → length vs ≤ v.0 → bound (start_memory vs ks).bindings (root.Variable v) ≡ None
start-none vs ks v f h = numbered-none (named vs ks) 0 (root.Variable v) (kept-none vs ks (addresses (tables_of vs) 0 vs) v f.each h (addresses-none (tables_of vs) 0 vs v (omega arith)))

pub ready_none : (vs : List Var) (ks : Kept) (o : Option VarId) (v : VarId) → KeptFit vs ks → IsIntVar vs o → length vs ≤ v.0 → bound (ready vs ks o).bindings (root.Variable v) ≡ None
ready_none vs ks None v f i h = start-none vs ks v f h
ready_none vs ks (Some j) v f i h =
    let there : j.0 < length vs = within-slice_get vs j.0 i.0 i.2 in
    bound-other (start_memory vs ks).bindings j v (length (start_memory vs ks).objects) (ne_eqb j.0 v.0 (λ q. omega arith)) ∙ start-none vs ks v f h
