-- The equations of a question that is asked of the tables.
use Rattle.std.proofs.Common.{◌≡◌, ℕ, suc, ◌≤◌, Bool, true, false, Option, None, Some, Ok, Err, refl, sym, ap, subst, ◌∙◌, slice_get, arith, if◌then◌else◌}
use Rattle.std.specs.Prelude.{option_and_then}
use Rattle.cx_type_defs.specs.declared.ids.TypeId.{TypeId}
use Rattle.cx_type_defs.specs.declared.ids.ClassId.{ClassId}
use Rattle.cx_type_defs.specs.declared.kind.TypeRow.{TypeRow}
use Rattle.cx_type_defs.specs.declared.kind.TypeKind.TheVariants as kind
use Rattle.cx_type_defs.specs.declared.decl.ClassDecl.{ClassDecl}
use Rattle.cx_type_defs.specs.declared.decl.ClassBody.{ClassBody}
use Rattle.cx_type_defs.specs.declared.decl.ClassKey.{ClassKey}
use Rattle.cx_type_defs.specs.Tables.{Tables, Grows, body_at}
use Rattle.cx_type_defs.proofs.Lists.{option_and_then-some}
use Rattle.cx_type_defs.specs.Questions.{Question, Part, OfType, OfClass, body_answer, class_answer, kind_answer, part_answer, looked, most_levels, asked, depth_of, cells_of, is_complete, counted, cells_answer}
use Rattle.cx_base.specs.declared.rule.Rule.TheVariants as rule
use Rattle.cx_type_defs.proofs.Looking.{Grows-same, part-keeps, looked-keeps}
use Rattle.cx_type_defs.proofs.Levels.{looked-depth, looked-opens, looked-row, looked-body}

most_levels-suc : most_levels ≡ suc 511
unfolding most_levels
most_levels-suc = refl

most_levels-is : most_levels ≡ 512
unfolding most_levels
most_levels-is = refl

pub asked-depth : (t : Tables) (p : Part) (d : ℕ) → asked depth_of t p ≡ Some d → (1 ≤ d) × (d ≤ 512)
unfolding asked
asked-depth t p d e = let l = looked-depth t most_levels p d e in (l.0, subst (λ n. d ≤ n) most_levels-is l.1)

-- a question answers a part by its answers for the parts below, where the part's depth is known
pub asked-opens : {R : Type 0} (q : Question R) (t : Tables) (p : Part) (d : ℕ) → asked depth_of t p ≡ Some d → asked q t p ≡ part_answer q t (asked q t) p
unfolding asked
asked-opens q t p d e =
    let P : ℕ → Type 0 = λ n. looked depth_of t n p ≡ Some d → looked q t n p ≡ part_answer q t (looked q t n) p in
    subst P (sym most_levels-suc) (looked-opens q t 511 p d) e

-- a row that came in is answered as one of its form was before, if that isn't too deep
pub asked-row : {R : Type 0} (q : Question R) (t u : Tables) → Grows t u → (id : TypeId) (row : TypeRow) → slice_get u.rows id.0 ≡ Some row
    → (d : ℕ) → kind_answer depth_of t (asked depth_of t) row.kind ≡ Some d → d ≤ 512
    → (r : R) → kind_answer q t (asked q t) row.kind ≡ Some r → asked q u (OfType id) ≡ Some r
unfolding asked
asked-row q t u grows id row at d ed le r e =
    let P : ℕ → Type 0 = λ n. kind_answer depth_of t (looked depth_of t n) row.kind ≡ Some d → d ≤ n → kind_answer q t (looked q t n) row.kind ≡ Some r → looked q u n (OfType id) ≡ Some r in
    subst P (sym most_levels-suc) (λ x y z. looked-row q t u grows 511 id row at d x y r z) ed (subst (λ n. d ≤ n) (sym most_levels-is) le) e

pub asked-body : {R : Type 0} (q : Question R) (t u : Tables) → Grows t u → (c : ClassId) (k : ClassKey) (b : ClassBody)
    → ((R : Type 0) (q : Question R) (below : Part → Option R) → class_answer q below (slice_get u.classes c.0) ≡ body_answer q below k b)
    → (d : ℕ) → body_answer depth_of (asked depth_of t) k b ≡ Some d → d ≤ 512
    → (r : R) → body_answer q (asked q t) k b ≡ Some r → asked q u (OfClass c) ≡ Some r
unfolding asked
asked-body q t u grows c k b at d ed le r e =
    let P : ℕ → Type 0 = λ n. body_answer depth_of (looked depth_of t n) k b ≡ Some d → d ≤ n → body_answer q (looked q t n) k b ≡ Some r → looked q u n (OfClass c) ≡ Some r in
    subst P (sym most_levels-suc) (λ x y z. looked-body q t u grows 511 c k b at d x y r z) ed (subst (λ n. d ≤ n) (sym most_levels-is) le) e

-- what one level below the top is answered
unfoldable pub under : {R : Type 0} → Question R → Tables → Part → Option R
under q t = looked q t 511

pub asked-kind : {R : Type 0} (q : Question R) (t : Tables) (id : TypeId) (row : TypeRow) → slice_get t.rows id.0 ≡ Some row → asked q t (OfType id) ≡ kind_answer q t (under q t) row.kind
unfolding asked under looked
asked-kind q t id row e =
    let P : ℕ → Type 0 = λ n. looked q t n (OfType id) ≡ kind_answer q t (looked q t 511) row.kind in
    subst P (sym most_levels-suc) (ap (option_and_then (λ (r : TypeRow). kind_answer q t (looked q t 511) r.kind)) e)

-- a type that is a class is asked what the class is asked
pub asked-class : {R : Type 0} (q : Question R) (t : Tables) (c : ClassId) → asked q t (OfClass c) ≡ kind_answer q t (under q t) (kind.Class c)
unfolding asked under looked
asked-class q t c =
    let P : ℕ → Type 0 = λ n. looked q t n (OfClass c) ≡ class_answer q (looked q t 511) (slice_get t.classes c.0) in
    subst P (sym most_levels-suc) refl

-- an incomplete class is asked in vain
pub no-body : {R : Type 0} (q : Question R) (f : Part → Option R) (o : Option ClassDecl) → option_and_then (λ (d : ClassDecl). d.body) o ≡ None → class_answer q f o ≡ None
no-body q f None e = refl
no-body q f (Some d) e = ap (option_and_then (body_answer q f d.key)) e

pub asked-incomplete : {R : Type 0} (q : Question R) (t : Tables) (c : ClassId) → body_at t c ≡ None → asked q t (OfClass c) ≡ None
asked-incomplete q t c e = asked-class q t c ∙ no-body q (under q t) (slice_get t.classes c.0) e

-- what is answered stands in the tables

pub asked-stands : {R : Type 0} (q : Question R) (t : Tables) (id : TypeId) (r : R) → asked q t (OfType id) ≡ Some r → (row : TypeRow) × (slice_get t.rows id.0 ≡ Some row)
unfolding asked looked
asked-stands q t id r e =
    let P : ℕ → Type 0 = λ n. looked q t n (OfType id) ≡ Some r → (row : TypeRow) × (slice_get t.rows id.0 ≡ Some row) in
    subst P (sym most_levels-suc) (λ x. let i = option_and_then-some (λ (w : TypeRow). kind_answer q t (looked q t 511) w.kind) (slice_get t.rows id.0) r x in (i.0, i.1)) e

pub asked-has_body : {R : Type 0} (q : Question R) (t : Tables) (c : ClassId) (r : R) → asked q t (OfClass c) ≡ Some r → (b : ClassBody) × (body_at t c ≡ Some b)
asked-has_body {R} q t c r e = of (body_at t c) refl
  where
    of : (o : Option ClassBody) → body_at t c ≡ o → (b : ClassBody) × (body_at t c ≡ Some b)
    of None h = let z : Some r ≡ None = sym e ∙ asked-incomplete q t c h in absurd (cc)
    of (Some b) h = (b, h)

-- a complete class is answered by its body
pub asked-by_body : {R : Type 0} (q : Question R) (t : Tables) (c : ClassId) (b : ClassBody) (d : ℕ) (r : R) → body_at t c ≡ Some b → asked depth_of t (OfClass c) ≡ Some d → asked q t (OfClass c) ≡ Some r
    → (k : ClassKey) × (body_answer q (asked q t) k b ≡ Some r)
asked-by_body q t c b d r is deep e =
    let i = option_and_then-some (λ (w : ClassDecl). w.body) (slice_get t.classes c.0) b is in
    let open_ : class_answer q (asked q t) (slice_get t.classes c.0) ≡ Some r = sym (asked-opens q t (OfClass c) d deep) ∙ e in
    (i.0.key, ap (option_and_then (body_answer q (asked q t) i.0.key)) (sym i.2) ∙ ap (class_answer q (asked q t)) (sym i.1) ∙ open_)

-- an answer is that by the answers for the parts below
pub asked-by_parts : {R : Type 0} (q : Question R) (t : Tables) (p : Part) (r : R) → asked q t p ≡ Some r → part_answer q t (asked q t) p ≡ Some r
unfolding asked looked
asked-by_parts q t p r e =
    let P : ℕ → Type 0 = λ n. looked q t n p ≡ Some r → part_answer q t (looked q t n) p ≡ Some r in
    subst P (sym most_levels-suc) (λ x. part-keeps q (looked q t 511) (looked q t 512) (record { keep = λ s y h. looked-keeps q t t (Grows-same t) 511 512 (omega arith) s y h }) t t (Grows-same t) p r x) e

-- a type whose cells are told is complete, and has so many
pub cells-told : (t : Tables) (id : TypeId) (n : ℕ) → cells_answer t id ≡ Ok n → (is_complete t id ≡ true) × (asked cells_of t (OfType id) ≡ Some n)
cells-told t id n e = of (is_complete t id) refl e
  where
    of_cells : (o : Option ℕ) → counted o ≡ Ok n → o ≡ Some n
    of_cells None x = absurd (cc)
    of_cells (Some m) x = cc

    of : (b : Bool) → is_complete t id ≡ b → (if b then counted (asked cells_of t (OfType id)) else Err rule.Incomplete) ≡ Ok n → (is_complete t id ≡ true) × (asked cells_of t (OfType id) ≡ Some n)
    of true c x = (c, of_cells (asked cells_of t (OfType id)) x)
    of false c x = absurd (cc)
