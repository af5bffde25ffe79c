-- What is kept of a row, and what is found of one that may come in.
use Rattle.std.proofs.Common.{◌≡◌, ℕ, ◌+◌, ◌*◌, ◌<◌, ◌≤◌, Bool, true, false, ◌||◌, Option, None, Some, Result, Ok, Err, ◌⊎◌, inl, inr, refl, sym, ap, subst, ◌∙◌, slice_get, arith, nat_lt, if◌then◌else◌}
use Rattle.std.specs.Prelude.{option_map, option_and_then, unwrap_or, is_none}
use Rattle.std.proofs.lemmas.Bool.{lt-ltb, le-ltb}
use Rattle.std.proofs.Math.Nat.{mul-le-mul_left}
use Rattle.cx_type_defs.specs.declared.answer.TypeAnswer.{TypeAnswer}
use Rattle.cx_type_defs.specs.declared.answer.TypeAnswer.TheVariants as answer
use Rattle.cx_type_defs.specs.declared.ids.TypeId.{TypeId}
use Rattle.cx_type_defs.specs.declared.ids.ClassId.{ClassId}
use Rattle.cx_type_defs.specs.declared.kind.TypeRow.{TypeRow}
use Rattle.cx_type_defs.specs.declared.kind.TypeKind.{TypeKind}
use Rattle.cx_type_defs.specs.declared.kind.TypeKind.TheVariants as kind
use Rattle.cx_type_defs.specs.declared.decl.ClassBody.{ClassBody}
use Rattle.cx_type_defs.specs.declared.decl.Extent.{Extent}
use Rattle.cx_types.specs.declared.facts.RowFacts.{RowFacts}
use Rattle.cx_types.specs.declared.facts.Measure.{Measure}
use Rattle.cx_type_defs.specs.Tables.{Tables, Grows, body_at}
use Rattle.cx_type_defs.specs.Questions.{Always, given, Question, Part, OfType, OfClass, address_answer, kind_answer, asked, depth_of, cells_of, nodes_of, literal_of, extent_of, literal_answer}
use Rattle.cx_type_defs.specs.Refusals.{is_large, large_kind, no_element, lacks_element, kind_refusal}
use Rattle.cx_types.specs.Kept.{RowTold, KeptRow, KeptClass, IsLeaf, IsNoClass, IsOpen, IsOpenKind, RowFound, IsAddressDepth, IsPlain}
use Rattle.cx_type_defs.proofs.Lists.{some_inj}
use Rattle.cx_type_defs.proofs.Looking.{row-grows, Grows-same}
use Rattle.cx_type_defs.proofs.Asked.{asked-opens, asked-kind, asked-class, asked-incomplete, no-body, under}

pub asked-type_class : {R : Type 0} (q : Question R) (t : Tables) (id : TypeId) (row : TypeRow) (c : ClassId) → slice_get t.rows id.0 ≡ Some row → row.kind ≡ kind.Class c → asked q t (OfType id) ≡ asked q t (OfClass c)
asked-type_class q t id row c at is = asked-kind q t id row at ∙ ap (kind_answer q t (under q t)) is ∙ sym (asked-class q t c)

pub spread-one : (o : Option (Option Extent)) → o ≡ option_map (extent_of.of_array 1) o
spread-one None = refl
spread-one (Some None) = refl
spread-one (Some (Some e)) = ap (λ n. Some (Some (record { size = n; align = e.align }))) (let z : e.size ≡ 1 * e.size = omega arith in z)

-- a row of a complete class

pub class-row : (t : Tables) (id : TypeId) (row : TypeRow) (c : ClassId) (o : Option ClassBody) (m : Measure) → slice_get t.rows id.0 ≡ Some row → row.kind ≡ kind.Class c → KeptClass t c o (Some m) → KeptRow t id (record { facts = m.facts; count = 1; leaf = id })
class-row t id row c None m at is h = absurd h
class-row t id row c (Some b) m at is h = record { small = h.small; few_leaves = h.some_cells; later = told }
  where
    told : (u : Tables) → Grows t u → RowTold u id (record { facts = m.facts; count = 1; leaf = id })
    told u g =
        let at' : slice_get u.rows id.0 ≡ Some row = row-grows t u g id.0 row at in
        let l = h.later u g in
        record {
          told = record {
            depth_told = asked-type_class depth_of u id row c at' is ∙ l.told.depth_told;
            cells_told = asked-type_class cells_of u id row c at' is ∙ l.told.cells_told;
            nodes_told = asked-type_class nodes_of u id row c at' is ∙ l.told.nodes_told;
            literal_told = asked-type_class literal_of u id row c at' is ∙ l.told.literal_told;
          };
          spread = spread-one (asked extent_of u (OfType id));
          fits = λ e x. h.fits e (some_inj m.extent (Some e) (sym l.extent_told ∙ sym (asked-type_class extent_of u id row c at' is) ∙ x));
          leaf_stands = (row, at', subst IsLeaf (sym is) tt);
        }

pub no-class : (k : TypeKind) → ((c : ClassId) → k ≡ kind.Class c → ⊥) → IsNoClass k
no-class (kind.Class c) h = h c refl
no-class kind.Void h = tt
no-class kind.Nullptr h = tt
no-class (kind.Int _) h = tt
no-class (kind.Enum _) h = tt
no-class (kind.Pointer _) h = tt
no-class (kind.Reference _) h = tt
no-class (kind.Array _ _) h = tt

-- an incomplete class is asked in vain

open-kind : {R : Type 0} (q : Question R) (t : Tables) (k : TypeKind) → IsOpenKind t k → kind_answer q t (under q t) k ≡ None
open-kind q t (kind.Class c) h = sym (asked-class q t c) ∙ asked-incomplete q t c h
open-kind q t kind.Void h = absurd h
open-kind q t kind.Nullptr h = absurd h
open-kind q t (kind.Int _) h = absurd h
open-kind q t (kind.Enum _) h = absurd h
open-kind q t (kind.Pointer _) h = absurd h
open-kind q t (kind.Reference _) h = absurd h
open-kind q t (kind.Array _ _) h = absurd h

pub open-asked : {R : Type 0} (q : Question R) (t : Tables) (id : TypeId) → IsOpen t id → asked q t (OfType id) ≡ None
open-asked q t id h = asked-kind q t id h.0 h.1 ∙ open-kind q t h.0.kind h.2

pub kept-literal : (t : Tables) (id : TypeId) (f : RowFacts) → KeptRow t id f → f.facts.literal ≡ literal_answer t id
kept-literal t id f h = sym (ap (λ o. unwrap_or o false) (h.later t (Grows-same t)).told.literal_told)

pub open-literal : (t : Tables) (id : TypeId) → IsOpen t id → false ≡ literal_answer t id
open-literal t id h = sym (ap (λ o. unwrap_or o false) (open-asked literal_of t id h))

-- pointers and references

address-deeper : (k : TypeKind) → IsNoClass k → (o : Option ℕ) (d : ℕ) → o ≡ Some d → address_answer depth_of o k ≡ Some (d + 1)
address-deeper (kind.Class c) h o d e = absurd h
address-deeper kind.Void h o d e = ap (option_map (λ n. n + 1)) e
address-deeper kind.Nullptr h o d e = ap (option_map (λ n. n + 1)) e
address-deeper (kind.Int _) h o d e = ap (option_map (λ n. n + 1)) e
address-deeper (kind.Enum _) h o d e = ap (option_map (λ n. n + 1)) e
address-deeper (kind.Pointer _) h o d e = ap (option_map (λ n. n + 1)) e
address-deeper (kind.Reference _) h o d e = ap (option_map (λ n. n + 1)) e
address-deeper (kind.Array _ _) h o d e = ap (option_map (λ n. n + 1)) e

pub address-depth-deeper : (t : Tables) (to : TypeId) (row : TypeRow) (f : RowFacts) → slice_get t.rows to.0 ≡ Some row → ((c : ClassId) → row.kind ≡ kind.Class c → ⊥) → KeptRow t to f → IsAddressDepth t to (f.facts.depth + 1)
address-depth-deeper t to row f at isnt h = (
  ap (option_and_then (λ (r : TypeRow). address_answer depth_of (asked depth_of t (OfType to)) r.kind)) at
      ∙ address-deeper row.kind (no-class row.kind isnt) (asked depth_of t (OfType to)) f.facts.depth (h.later t (Grows-same t)).told.depth_told,
  (let z = h.small.few_levels in omega arith),
)

address-always : {R : Type 0} (q : Question R) → q.of_address ≡ Always (q.of_scalar 8) → (k : TypeKind) (o : Option R) → address_answer q o k ≡ Some (q.of_scalar 8)
address-always q a (kind.Class c) o = refl
address-always q a kind.Void o = ap (λ m. given m o) a
address-always q a kind.Nullptr o = ap (λ m. given m o) a
address-always q a (kind.Int _) o = ap (λ m. given m o) a
address-always q a (kind.Enum _) o = ap (λ m. given m o) a
address-always q a (kind.Pointer _) o = ap (λ m. given m o) a
address-always q a (kind.Reference _) o = ap (λ m. given m o) a
address-always q a (kind.Array _ _) o = ap (λ m. given m o) a

pub pointer-always : {R : Type 0} (q : Question R) → q.of_address ≡ Always (q.of_scalar 8) → (t : Tables) (below : Part → Option R) (to : TypeId) (row : TypeRow) → slice_get t.rows to.0 ≡ Some row → kind_answer q t below (kind.Pointer to) ≡ Some (q.of_scalar 8)
pointer-always q a t below to row at = ap (option_and_then (λ (r : TypeRow). address_answer q (below (OfType to)) r.kind)) at ∙ address-always q a row.kind (below (OfType to))

-- refusals by the limits

or-true : (a b c : Bool) → (a ≡ true) ⊎ ((b ≡ true) ⊎ (c ≡ true)) → (a || b || c) ≡ true
or-true true b c h = refl
or-true false true c h = refl
or-true false false true h = refl
or-true false false false (inl h) = absurd (cc)
or-true false false false (inr (inl h)) = absurd (cc)
or-true false false false (inr (inr h)) = absurd (cc)

pub large-true : (depth cells nodes : Option ℕ) (d c n : ℕ) → depth ≡ Some d → cells ≡ Some c → nodes ≡ Some n → (512 < d) ⊎ ((1073741824 < c) ⊎ (1048576 < n)) → is_large depth cells nodes ≡ true
large-true depth cells nodes d c n ed ec en h =
    ap (λ o. is_large o cells nodes) ed ∙ ap (λ o. is_large (Some d) o nodes) ec ∙ ap (λ o. is_large (Some d) (Some c) o) en
    ∙ or-true (nat_lt 512 d) (nat_lt 1073741824 c) (nat_lt 1048576 n)
    (elim h as (λ _. (nat_lt 512 d ≡ true) ⊎ ((nat_lt 1073741824 c ≡ true) ⊎ (nat_lt 1048576 n ≡ true))) [ inl x ↦ inl (lt-ltb 512 d x) | inr y ↦ (elim y as (λ _. (nat_lt 512 d ≡ true) ⊎ ((nat_lt 1073741824 c ≡ true) ⊎ (nat_lt 1048576 n ≡ true))) [ inl x ↦ inr (inl (lt-ltb 1073741824 c x)) | inr x ↦ inr (inr (lt-ltb 1048576 n x)) ]) ])

pub large-false : (depth cells nodes : Option ℕ) (d c n : ℕ) → depth ≡ Some d → cells ≡ Some c → nodes ≡ Some n → d ≤ 512 → c ≤ 1073741824 → n ≤ 1048576 → is_large depth cells nodes ≡ false
large-false depth cells nodes d c n ed ec en hd hc hn =
    ap (λ o. is_large o cells nodes) ed ∙ ap (λ o. is_large (Some d) o nodes) ec ∙ ap (λ o. is_large (Some d) (Some c) o) en
    ∙ ap (λ x. x || nat_lt 1073741824 c || nat_lt 1048576 n) (le-ltb 512 d hd) ∙ ap (λ x. false || x || nat_lt 1048576 n) (le-ltb 1073741824 c hc) ∙ ap (λ x. false || false || x) (le-ltb 1048576 n hn)

pub refused-large : (t : Tables) (k : TypeKind) → lacks_element t k ≡ false → large_kind t k ≡ true → kind_refusal t k ≡ Some answer.TooLarge
refused-large t k a b = ap (λ x. if x then Some answer.Incomplete else if large_kind t k then Some answer.TooLarge else None) a ∙ ap (λ x. if x then Some answer.TooLarge else None) b

pub not-refused : (t : Tables) (k : TypeKind) → lacks_element t k ≡ false → large_kind t k ≡ false → kind_refusal t k ≡ None
not-refused t k a b = ap (λ x. if x then Some answer.Incomplete else if large_kind t k then Some answer.TooLarge else None) a ∙ ap (λ x. if x then Some answer.TooLarge else None) b

pub refused-incomplete : (t : Tables) (k : TypeKind) → lacks_element t k ≡ true → kind_refusal t k ≡ Some answer.Incomplete
refused-incomplete t k a = ap (λ x. if x then Some answer.Incomplete else if large_kind t k then Some answer.TooLarge else None) a

-- pointers

pub pointer-large : (t : Tables) (id to : TypeId) (row : TypeRow) (d : ℕ) → slice_get t.rows to.0 ≡ Some row → IsAddressDepth t to d → 512 < d → RowFound t id (kind.Pointer to) (Err answer.TooLarge)
pointer-large t id to row d at h lt =
    refused-large t (kind.Pointer to) refl (large-true _ _ _ d 1 1 h.0 (pointer-always cells_of refl t (asked cells_of t) to row at) (pointer-always nodes_of refl t (asked nodes_of t) to row at) (inl lt))

pub pointer-found : (t : Tables) (id to : TypeId) (row : TypeRow) (d : ℕ) → slice_get t.rows to.0 ≡ Some row → IsAddressDepth t to d → d ≤ 512
    → RowFound t id (kind.Pointer to) (Ok (record { facts = record { depth = d; cells = 1; nodes = 1; literal = true }; count = 1; leaf = id }))
pointer-found t id to row d at h le =
    let cells = pointer-always cells_of refl t (asked cells_of t) to row at in
    let nodes = pointer-always nodes_of refl t (asked nodes_of t) to row at in (
      not-refused t (kind.Pointer to) refl (large-false _ _ _ d 1 1 h.0 cells nodes le (omega arith) (omega arith)),
      record {
        found = record { depth_found = h.0; cells_found = cells; nodes_found = nodes; literal_found = pointer-always literal_of refl t (asked literal_of t) to row at };
        small = record { few_levels = le; few_cells = omega arith; few_nodes = omega arith; some_nodes = omega arith };
        few_leaves = omega arith;
        leaf = (refl, refl);
      },
    )

pub reference-found : (t : Tables) (id to : TypeId) (r : Result RowFacts TypeAnswer) → RowFound t id (kind.Pointer to) r → RowFound t id (kind.Reference to) r
reference-found t id to (Ok f) h = (
  h.0,
  record {
    found = record { depth_found = h.1.found.depth_found; cells_found = h.1.found.cells_found; nodes_found = h.1.found.nodes_found; literal_found = h.1.found.literal_found };
    small = h.1.small;
    few_leaves = h.1.few_leaves;
    leaf = h.1.leaf;
  },
)
reference-found t id to (Err e) h = h

-- arrays

element-lacks : (t : Tables) (of : TypeId) (n : ℕ) (row : TypeRow) → slice_get t.rows of.0 ≡ Some row → (b : Bool) → no_element t row.kind ≡ b → lacks_element t (kind.Array of n) ≡ b
element-lacks t of n row at b e =
    ap (λ o. is_none (option_and_then (λ (r : TypeRow). if no_element t r.kind then None else Some r) o)) at ∙ ap (λ x. is_none (if x then None else Some row)) e ∙ same b
  where
    same : (b : Bool) → is_none (if b then None else Some row) ≡ b
    same true = refl
    same false = refl

pub array-of_none : (t : Tables) (id of : TypeId) (n : ℕ) (row : TypeRow) → slice_get t.rows of.0 ≡ Some row → no_element t row.kind ≡ true → RowFound t id (kind.Array of n) (Err answer.Incomplete)
array-of_none t id of n row at e = refused-incomplete t (kind.Array of n) (element-lacks t of n row at true e)

open-no_element : (t : Tables) (k : TypeKind) → IsOpenKind t k → no_element t k ≡ true
open-no_element t (kind.Class c) h = ap is_none h
open-no_element t kind.Void h = absurd h
open-no_element t kind.Nullptr h = absurd h
open-no_element t (kind.Int _) h = absurd h
open-no_element t (kind.Enum _) h = absurd h
open-no_element t (kind.Pointer _) h = absurd h
open-no_element t (kind.Reference _) h = absurd h
open-no_element t (kind.Array _ _) h = absurd h

pub array-of_open : (t : Tables) (id of : TypeId) (n : ℕ) → IsOpen t of → RowFound t id (kind.Array of n) (Err answer.Incomplete)
array-of_open t id of n h = array-of_none t id of n h.0 h.1 (open-no_element t h.0.kind h.2)

-- a type that is kept is one of elements, but for void and references
kept-element : (t : Tables) (k : TypeKind) → IsPlain k → ((c : ClassId) → k ≡ kind.Class c → body_at t c ≡ None → ⊥) → no_element t k ≡ false
kept-element t kind.Void h isnt = absurd h
kept-element t (kind.Reference _) h isnt = absurd h
kept-element t kind.Nullptr h isnt = refl
kept-element t (kind.Int _) h isnt = refl
kept-element t (kind.Enum _) h isnt = refl
kept-element t (kind.Pointer _) h isnt = refl
kept-element t (kind.Array _ _) h isnt = refl
kept-element t (kind.Class c) h isnt = some (body_at t c) (isnt c refl)
  where
    some : (o : Option ClassBody) → (o ≡ None → ⊥) → is_none o ≡ false
    some None h = absurd (h refl)
    some (Some b) h = refl

kept-no_open : (t : Tables) (id : TypeId) (row : TypeRow) (f : RowFacts) → slice_get t.rows id.0 ≡ Some row → KeptRow t id f → (c : ClassId) → row.kind ≡ kind.Class c → body_at t c ≡ None → ⊥
kept-no_open t id row f at h c is none =
    let e : Some f.facts.depth ≡ None = sym (h.later t (Grows-same t)).told.depth_told ∙ asked-type_class depth_of t id row c at is ∙ asked-incomplete depth_of t c none in
    cc

module _ (t : Tables) (id of : TypeId) (n : ℕ) (row : TypeRow) (g : RowFacts) (at : slice_get t.rows of.0 ≡ Some row) (plain : IsPlain row.kind) (kept : KeptRow t of g) (some : 1 ≤ n) where
  lacks : lacks_element t (kind.Array of n) ≡ false
  lacks = element-lacks t of n row at false (kept-element t row.kind plain (kept-no_open t of row g at kept))

  array-depth : kind_answer depth_of t (asked depth_of t) (kind.Array of n) ≡ Some (g.facts.depth + 1)
  array-depth = ap (option_map (λ d. d + 1)) (kept.later t (Grows-same t)).told.depth_told

  array-cells : kind_answer cells_of t (asked cells_of t) (kind.Array of n) ≡ Some (n * g.facts.cells)
  array-cells = ap (option_map (λ d. n * d)) (kept.later t (Grows-same t)).told.cells_told

  array-nodes : kind_answer nodes_of t (asked nodes_of t) (kind.Array of n) ≡ Some (g.facts.nodes + 1)
  array-nodes = ap (option_map (λ d. d + 1)) (kept.later t (Grows-same t)).told.nodes_told

  pub array-large : (512 < g.facts.depth + 1) ⊎ ((1073741824 < n * g.facts.cells) ⊎ (1048576 < g.facts.nodes + 1)) → RowFound t id (kind.Array of n) (Err answer.TooLarge)
  array-large h = refused-large t (kind.Array of n) lacks (large-true _ _ _ _ _ _ array-depth array-cells array-nodes h)

  pub array-found : (f : RowFacts) → f.facts.depth ≡ g.facts.depth + 1 → f.facts.cells ≡ n * g.facts.cells → f.facts.nodes ≡ g.facts.nodes + 1 → f.facts.literal ≡ g.facts.literal → f.count ≡ n * g.count → f.leaf ≡ g.leaf
      → f.facts.depth ≤ 512 → f.facts.cells ≤ 1073741824 → f.facts.nodes ≤ 1048576 → RowFound t id (kind.Array of n) (Ok f)
  array-found f ed ec en el ek ef hd hc hn =
      let d = array-depth ∙ ap Some (sym ed) in
      let c = array-cells ∙ ap Some (sym ec) in
      let k = array-nodes ∙ ap Some (sym en) in (
        not-refused t (kind.Array of n) lacks (large-false _ _ _ _ _ _ d c k hd hc hn),
        record {
          found = record { depth_found = d; cells_found = c; nodes_found = k; literal_found = ap (option_map (λ l. l)) (kept.later t (Grows-same t)).told.literal_told ∙ ap Some (sym el) };
          small = record { few_levels = hd; few_cells = hc; few_nodes = hn; some_nodes = (let z = en in omega arith) };
          few_leaves = (let z = kept.few_leaves in let y = mul-le-mul_left n z in omega arith);
          leaf = (g, kept, ek, ef, some);
        },
      )

-- classes: a complete one was within the limits, and an incomplete one is asked in vain

class-answered : {R : Type 0} (q : Question R) (t : Tables) (c : ClassId) (d : ℕ) (r : R) → asked depth_of t (OfClass c) ≡ Some d → asked q t (OfClass c) ≡ Some r → kind_answer q t (asked q t) (kind.Class c) ≡ Some r
class-answered q t c d r ed e = sym (asked-opens q t (OfClass c) d ed) ∙ e

class-small : (t : Tables) (c : ClassId) (o : Option ClassBody) (m : Option Measure) → body_at t c ≡ o → KeptClass t c o m → large_kind t (kind.Class c) ≡ false
class-small t c (Some b) (Some m) e h =
    let l = (h.later t (Grows-same t)).told in
    large-false _ _ _ m.facts.depth m.facts.cells m.facts.nodes
    (class-answered depth_of t c m.facts.depth m.facts.depth l.depth_told l.depth_told)
    (class-answered cells_of t c m.facts.depth m.facts.cells l.depth_told l.cells_told)
    (class-answered nodes_of t c m.facts.depth m.facts.nodes l.depth_told l.nodes_told)
    h.small.few_levels h.small.few_cells h.small.few_nodes
class-small t c None None e h =
    ap (λ o. is_large o (kind_answer cells_of t (asked cells_of t) (kind.Class c)) (kind_answer nodes_of t (asked nodes_of t) (kind.Class c))) (no-body depth_of (asked depth_of t) (slice_get t.classes c.0) e)
    ∙ ap (λ o. is_large None o (kind_answer nodes_of t (asked nodes_of t) (kind.Class c))) (no-body cells_of (asked cells_of t) (slice_get t.classes c.0) e)
    ∙ ap (λ o. is_large None None o) (no-body nodes_of (asked nodes_of t) (slice_get t.classes c.0) e)
class-small t c (Some b) None e h = absurd h
class-small t c None (Some m) e h = absurd h

pub class-found : (t : Tables) (id : TypeId) (c : ClassId) (m : Option Measure) (f : RowFacts) → KeptClass t c (body_at t c) m → RowFound t id (kind.Class c) (Ok f)
class-found t id c m f h = (not-refused t (kind.Class c) refl (class-small t c (body_at t c) m refl h), tt)
