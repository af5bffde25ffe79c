-- How a type is written in the tables, and its form.
use Rattle.std.proofs.Common.{◌≡◌, ℕ, ◌<◌, ◌==◌, Bool, true, false, ◌&&◌, List, Some, refl, ap, subst, ◌∙◌, length, slice_get, arith, if◌then◌else◌}
use Rattle.cx_type_defs.specs.declared.ids.TypeId.{TypeId}
use Rattle.cx_type_defs.specs.declared.kind.TypeRow.{TypeRow}
use Rattle.cx_type_defs.specs.declared.kind.TypeKind.{TypeKind}
use Rattle.cx_type_defs.specs.declared.kind.TypeKind.TheVariants as kind
use Rattle.cx_type_defs.specs.Tables.{Tables}
use Rattle.cx_type_defs.specs.Sound.{Sound}
use Rattle.cx_type_defs.specs.Same.{Form, Const, made_const, kind_form, form_of, is_normal_kind}
use Rattle.cx_type_defs.specs.Levels.{part_of}
use Rattle.cx_type_defs.proofs.Lists.{within-slice_get}
use Rattle.cx_type_defs.proofs.Forms.{form-opens}
use Rattle.cx_lookup.specs.Ranks.{qualifies}
use Rattle.cx_lookup.specs.declared.convert.Level.{Level}
use Rattle.cx_lookup.specs.declared.convert.Level.TheVariants as level
use Rattle.cx_lookup.specs.Levels.{gate, parts_level, level_of}

abbrev pub shape : Bool → Form → Form
shape true f = Const f
shape false f = f

shape-of : (F : TypeId → Form) (rows : List TypeRow) (konst : Bool) (k : TypeKind) → is_normal_kind rows konst k ≡ true → (if true && konst then made_const (kind_form F k) else kind_form F k) ≡ shape konst (kind_form F k)
shape-of F rows false k e = refl
shape-of F rows true kind.Void e = refl
shape-of F rows true kind.Nullptr e = refl
shape-of F rows true (kind.Int a) e = refl
shape-of F rows true (kind.Enum a) e = refl
shape-of F rows true (kind.Pointer a) e = refl
shape-of F rows true (kind.Reference a) e = absurd (cc)
shape-of F rows true (kind.Array a n) e = absurd (cc)
shape-of F rows true (kind.Class a) e = refl

pub opened : (t : Tables) → Sound t → (id : TypeId) (r : TypeRow) → slice_get t.rows id.0 ≡ Some r → form_of true t id ≡ shape r.konst (kind_form (form_of true t) r.kind)
opened t s id r at = form-opens true t s id r at ∙ shape-of (form_of true t) t.rows r.konst r.kind (s.rows_normal id.0 r at)

abbrev pub by_level : (TypeId → Form) → Level → Bool
by_level F (level.Settled b) = b
by_level F (level.Below above f g) = qualifies above false (F f) (F g)

elements : (F : TypeId → Form) (above same : Bool) (f g : TypeId) → (same && qualifies above false (F f) (F g)) ≡ by_level F (if same then level.Below above f g else level.Settled false)
elements F above true f g = refl
elements F above false f g = refl

parts-are : (F : TypeId → Form) (above here : Bool) (a b : TypeKind) → qualifies above here (kind_form F a) (kind_form F b) ≡ by_level F (parts_level above (above && here) a b)
parts-are F above here kind.Void kind.Void = refl
parts-are F above here kind.Void kind.Nullptr = refl
parts-are F above here kind.Void (kind.Int a') = refl
parts-are F above here kind.Void (kind.Enum a') = refl
parts-are F above here kind.Void (kind.Pointer a') = refl
parts-are F above here kind.Void (kind.Reference a') = refl
parts-are F above here kind.Void (kind.Array a' n') = refl
parts-are F above here kind.Void (kind.Class a') = refl
parts-are F above here kind.Nullptr kind.Void = refl
parts-are F above here kind.Nullptr kind.Nullptr = refl
parts-are F above here kind.Nullptr (kind.Int a') = refl
parts-are F above here kind.Nullptr (kind.Enum a') = refl
parts-are F above here kind.Nullptr (kind.Pointer a') = refl
parts-are F above here kind.Nullptr (kind.Reference a') = refl
parts-are F above here kind.Nullptr (kind.Array a' n') = refl
parts-are F above here kind.Nullptr (kind.Class a') = refl
parts-are F above here (kind.Int a) kind.Void = refl
parts-are F above here (kind.Int a) kind.Nullptr = refl
parts-are F above here (kind.Int a) (kind.Int a') = refl
parts-are F above here (kind.Int a) (kind.Enum a') = refl
parts-are F above here (kind.Int a) (kind.Pointer a') = refl
parts-are F above here (kind.Int a) (kind.Reference a') = refl
parts-are F above here (kind.Int a) (kind.Array a' n') = refl
parts-are F above here (kind.Int a) (kind.Class a') = refl
parts-are F above here (kind.Enum a) kind.Void = refl
parts-are F above here (kind.Enum a) kind.Nullptr = refl
parts-are F above here (kind.Enum a) (kind.Int a') = refl
parts-are F above here (kind.Enum a) (kind.Enum a') = refl
parts-are F above here (kind.Enum a) (kind.Pointer a') = refl
parts-are F above here (kind.Enum a) (kind.Reference a') = refl
parts-are F above here (kind.Enum a) (kind.Array a' n') = refl
parts-are F above here (kind.Enum a) (kind.Class a') = refl
parts-are F above here (kind.Pointer a) kind.Void = refl
parts-are F above here (kind.Pointer a) kind.Nullptr = refl
parts-are F above here (kind.Pointer a) (kind.Int a') = refl
parts-are F above here (kind.Pointer a) (kind.Enum a') = refl
parts-are F above here (kind.Pointer a) (kind.Pointer a') = refl
parts-are F above here (kind.Pointer a) (kind.Reference a') = refl
parts-are F above here (kind.Pointer a) (kind.Array a' n') = refl
parts-are F above here (kind.Pointer a) (kind.Class a') = refl
parts-are F above here (kind.Reference a) kind.Void = refl
parts-are F above here (kind.Reference a) kind.Nullptr = refl
parts-are F above here (kind.Reference a) (kind.Int a') = refl
parts-are F above here (kind.Reference a) (kind.Enum a') = refl
parts-are F above here (kind.Reference a) (kind.Pointer a') = refl
parts-are F above here (kind.Reference a) (kind.Reference a') = refl
parts-are F above here (kind.Reference a) (kind.Array a' n') = refl
parts-are F above here (kind.Reference a) (kind.Class a') = refl
parts-are F above here (kind.Array a n) kind.Void = refl
parts-are F above here (kind.Array a n) kind.Nullptr = refl
parts-are F above here (kind.Array a n) (kind.Int a') = refl
parts-are F above here (kind.Array a n) (kind.Enum a') = refl
parts-are F above here (kind.Array a n) (kind.Pointer a') = refl
parts-are F above here (kind.Array a n) (kind.Reference a') = refl
parts-are F above here (kind.Array a n) (kind.Array a' n') = elements F above (n == n') a a'
parts-are F above here (kind.Array a n) (kind.Class a') = refl
parts-are F above here (kind.Class a) kind.Void = refl
parts-are F above here (kind.Class a) kind.Nullptr = refl
parts-are F above here (kind.Class a) (kind.Int a') = refl
parts-are F above here (kind.Class a) (kind.Enum a') = refl
parts-are F above here (kind.Class a) (kind.Pointer a') = refl
parts-are F above here (kind.Class a) (kind.Reference a') = refl
parts-are F above here (kind.Class a) (kind.Array a' n') = refl
parts-are F above here (kind.Class a) (kind.Class a') = refl

shapes : (F : TypeId → Form) (above k l : Bool) (a b : TypeKind) → qualifies above false (shape k (kind_form F a)) (shape l (kind_form F b)) ≡ (gate above k l && qualifies above l (kind_form F a) (kind_form F b))
shapes F above true true a b = refl
shapes F above false false a b = refl
shapes F above true false a kind.Void = refl
shapes F above true false a kind.Nullptr = refl
shapes F above true false a (kind.Int a') = refl
shapes F above true false a (kind.Enum a') = refl
shapes F above true false a (kind.Pointer a') = refl
shapes F above true false a (kind.Reference a') = refl
shapes F above true false a (kind.Array a' n') = refl
shapes F above true false a (kind.Class a') = refl
shapes F above false true kind.Void b = refl
shapes F above false true kind.Nullptr b = refl
shapes F above false true (kind.Int a) b = refl
shapes F above false true (kind.Enum a) b = refl
shapes F above false true (kind.Pointer a) b = refl
shapes F above false true (kind.Reference a) b = refl
shapes F above false true (kind.Array a n) b = refl
shapes F above false true (kind.Class a) b = refl

gated : (F : TypeId → Form) (g x : Bool) (l : Level) → x ≡ by_level F l → (g && x) ≡ by_level F (if g then l else level.Settled false)
gated F true x l e = e
gated F false x l e = refl

pub two-open : (t : Tables) → Sound t → (above : Bool) (f g : TypeId) (r q : TypeRow) → slice_get t.rows f.0 ≡ Some r → slice_get t.rows g.0 ≡ Some q → qualifies above false (form_of true t f) (form_of true t g) ≡ by_level (form_of true t) (level_of above r q)
two-open t s above f g r q at_f at_g =
    ap (λ x. qualifies above false x (form_of true t g)) (opened t s f r at_f)
    ∙ ap (λ x. qualifies above false (shape r.konst (kind_form (form_of true t) r.kind)) x) (opened t s g q at_g)
    ∙ shapes (form_of true t) above r.konst q.konst r.kind q.kind
    ∙ gated (form_of true t) (gate above r.konst q.konst) (qualifies above q.konst (kind_form (form_of true t) r.kind) (kind_form (form_of true t) q.kind)) (parts_level above (above && q.konst) r.kind q.kind)
    (parts-are (form_of true t) above q.konst r.kind q.kind)

pub part-known : (t : Tables) → Sound t → (id : TypeId) (r : TypeRow) (p : TypeId) → slice_get t.rows id.0 ≡ Some r → part_of r.kind ≡ Some p → (p.0 < id.0) × (p.0 < length t.rows)
part-known t s id r p at is =
    let older = s.parts_older id.0 r p at is in
    (older, omega (arith, older, within-slice_get t.rows id.0 r at))

-- the types that a level leads to are parts of those that it was of
abbrev pub AreParts : TypeKind → TypeKind → Level → Type 0
AreParts a b (level.Settled same) = Unit {0}
AreParts a b (level.Below above f g) = (part_of a ≡ Some f) × (part_of b ≡ Some g)

elements-are : (above same : Bool) (f g : TypeId) (n m : ℕ) → AreParts (kind.Array f n) (kind.Array g m) (if same then level.Below above f g else level.Settled false)
elements-are above true f g n m = (refl, refl)
elements-are above false f g n m = tt

parts-come : (above below : Bool) (a b : TypeKind) → AreParts a b (parts_level above below a b)
parts-come above below kind.Void kind.Void = tt
parts-come above below kind.Void kind.Nullptr = tt
parts-come above below kind.Void (kind.Int b) = tt
parts-come above below kind.Void (kind.Enum b) = tt
parts-come above below kind.Void (kind.Pointer b) = tt
parts-come above below kind.Void (kind.Reference b) = tt
parts-come above below kind.Void (kind.Array b m) = tt
parts-come above below kind.Void (kind.Class b) = tt
parts-come above below kind.Nullptr kind.Void = tt
parts-come above below kind.Nullptr kind.Nullptr = tt
parts-come above below kind.Nullptr (kind.Int b) = tt
parts-come above below kind.Nullptr (kind.Enum b) = tt
parts-come above below kind.Nullptr (kind.Pointer b) = tt
parts-come above below kind.Nullptr (kind.Reference b) = tt
parts-come above below kind.Nullptr (kind.Array b m) = tt
parts-come above below kind.Nullptr (kind.Class b) = tt
parts-come above below (kind.Int a) kind.Void = tt
parts-come above below (kind.Int a) kind.Nullptr = tt
parts-come above below (kind.Int a) (kind.Int b) = tt
parts-come above below (kind.Int a) (kind.Enum b) = tt
parts-come above below (kind.Int a) (kind.Pointer b) = tt
parts-come above below (kind.Int a) (kind.Reference b) = tt
parts-come above below (kind.Int a) (kind.Array b m) = tt
parts-come above below (kind.Int a) (kind.Class b) = tt
parts-come above below (kind.Enum a) kind.Void = tt
parts-come above below (kind.Enum a) kind.Nullptr = tt
parts-come above below (kind.Enum a) (kind.Int b) = tt
parts-come above below (kind.Enum a) (kind.Enum b) = tt
parts-come above below (kind.Enum a) (kind.Pointer b) = tt
parts-come above below (kind.Enum a) (kind.Reference b) = tt
parts-come above below (kind.Enum a) (kind.Array b m) = tt
parts-come above below (kind.Enum a) (kind.Class b) = tt
parts-come above below (kind.Pointer a) kind.Void = tt
parts-come above below (kind.Pointer a) kind.Nullptr = tt
parts-come above below (kind.Pointer a) (kind.Int b) = tt
parts-come above below (kind.Pointer a) (kind.Enum b) = tt
parts-come above below (kind.Pointer a) (kind.Pointer b) = (refl, refl)
parts-come above below (kind.Pointer a) (kind.Reference b) = tt
parts-come above below (kind.Pointer a) (kind.Array b m) = tt
parts-come above below (kind.Pointer a) (kind.Class b) = tt
parts-come above below (kind.Reference a) kind.Void = tt
parts-come above below (kind.Reference a) kind.Nullptr = tt
parts-come above below (kind.Reference a) (kind.Int b) = tt
parts-come above below (kind.Reference a) (kind.Enum b) = tt
parts-come above below (kind.Reference a) (kind.Pointer b) = tt
parts-come above below (kind.Reference a) (kind.Reference b) = tt
parts-come above below (kind.Reference a) (kind.Array b m) = tt
parts-come above below (kind.Reference a) (kind.Class b) = tt
parts-come above below (kind.Array a n) kind.Void = tt
parts-come above below (kind.Array a n) kind.Nullptr = tt
parts-come above below (kind.Array a n) (kind.Int b) = tt
parts-come above below (kind.Array a n) (kind.Enum b) = tt
parts-come above below (kind.Array a n) (kind.Pointer b) = tt
parts-come above below (kind.Array a n) (kind.Reference b) = tt
parts-come above below (kind.Array a n) (kind.Array b m) = elements-are above (n == m) a b n m
parts-come above below (kind.Array a n) (kind.Class b) = tt
parts-come above below (kind.Class a) kind.Void = tt
parts-come above below (kind.Class a) kind.Nullptr = tt
parts-come above below (kind.Class a) (kind.Int b) = tt
parts-come above below (kind.Class a) (kind.Enum b) = tt
parts-come above below (kind.Class a) (kind.Pointer b) = tt
parts-come above below (kind.Class a) (kind.Reference b) = tt
parts-come above below (kind.Class a) (kind.Array b m) = tt
parts-come above below (kind.Class a) (kind.Class b) = tt

come : (g : Bool) (a b : TypeKind) (l : Level) → AreParts a b l → AreParts a b (if g then l else level.Settled false)
come true a b l p = p
come false a b l p = tt

pub level-parts : (above : Bool) (r q : TypeRow) (next : Bool) (f g : TypeId) → level_of above r q ≡ level.Below next f g → (part_of r.kind ≡ Some f) × (part_of q.kind ≡ Some g)
level-parts above r q next f g e =
    subst (AreParts r.kind q.kind) e (come (gate above r.konst q.konst) r.kind q.kind (parts_level above (above && q.konst) r.kind q.kind) (parts-come above (above && q.konst) r.kind q.kind))
