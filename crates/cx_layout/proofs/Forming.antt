-- The form of a type, opened by one level.
use Rattle.std.proofs.Common.{◌≡◌, ℕ, zero, suc, ◌-◌, ◌≤◌, ◌<◌, Bool, true, false, List, [], ◌∷◌, length, map, Option, None, Some, refl, sym, ap, ◌∙◌, arith, slice_get, if◌then◌else◌}
use Rattle.std.specs.Prelude.{option_map, option_and_then}
use Rattle.cx_type_defs.specs.declared.ids.TypeId.{TypeId}
use Rattle.cx_type_defs.specs.declared.ids.ClassId.{ClassId}
use Rattle.cx_type_defs.specs.declared.kind.TypeRow.{TypeRow}
use Rattle.cx_type_defs.specs.declared.decl.Field.{Field}
use Rattle.cx_type_defs.specs.declared.decl.ClassBody.{ClassBody}
use Rattle.cx_type_defs.specs.declared.decl.ClassDecl.{ClassDecl}
use Rattle.cx_type_defs.specs.Tables.{Tables, body_at, base_of, field_of}
use Rattle.cx_type_defs.specs.Questions.{Part, OfType, OfClass}
use Rattle.cx_layout.specs.declared.columns.Node.{Node}
use Rattle.cx_layout.specs.declared.columns.ClassParts.{ClassParts}
use Rattle.cx_layout.specs.Forms.{Form, Forms, Class, count}
use Rattle.cx_layout.specs.TypeForms.{is_union, each_form, base_parts, member_parts, with_parts, body_form, class_form, kind_form, form_in}
use Rattle.cx_layout.specs.Laying.{HasRoom, parts_in, group_parts, group_forms, parts_seen}
use Rattle.cx_layout.proofs.Options.{some_inj, and_then_some, map_some}
use Rattle.cx_layout.proofs.Laying.{each_count}
use Rattle.cx_layout.proofs.Filling.{get_within, get_there}

pub room_form : (ns : List Node) (ks : List ℕ) (o : ℕ) (m : Option Form) → HasRoom ns ks o m → (f : Form) × (m ≡ Some f)
room_form ns ks o None h = absurd h
room_form ns ks o (Some f) h = (f, refl)

pub form_levels : (t : Tables) (l : ℕ) (p : Part) (f : Form) → form_in t l p ≡ Some f → 1 ≤ l
unfolding form_in
form_levels t zero p f e = absurd (cc)
form_levels t (suc l) p f e = omega arith

pub form_class : (t : Tables) (l : ℕ) (c : ClassId) → 1 ≤ l → form_in t l (OfClass c) ≡ class_form (form_in t (l - 1)) c (slice_get t.classes c.0)
unfolding form_in
form_class t zero c h = absurd (omega arith)
form_class t (suc l) c h = let z : l ≡ suc l - 1 = omega arith in ap (λ n. class_form (form_in t n) c (slice_get t.classes c.0)) z

pub form_type : (t : Tables) (l : ℕ) (id : TypeId) → 1 ≤ l → form_in t l (OfType id) ≡ option_and_then (λ (r : TypeRow). kind_form t (form_in t (l - 1)) r.kind) (slice_get t.rows id.0)
unfolding form_in
form_type t zero id h = absurd (omega arith)
form_type t (suc l) id h = let z : l ≡ suc l - 1 = omega arith in ap (λ n. option_and_then (λ (r : TypeRow). kind_form t (form_in t n) r.kind) (slice_get t.rows id.0)) z

pub form_row : (t : Tables) (l : ℕ) (id : TypeId) (r : TypeRow) → 1 ≤ l → slice_get t.rows id.0 ≡ Some r → form_in t l (OfType id) ≡ kind_form t (form_in t (l - 1)) r.kind
form_row t l id r h e = form_type t l id h ∙ ap (option_and_then (λ (r : TypeRow). kind_form t (form_in t (l - 1)) r.kind)) e

pub type_known : (t : Tables) (l : ℕ) (id : TypeId) (f : Form) → form_in t l (OfType id) ≡ Some f → id.0 < length t.rows
type_known t l id f e =
    let m = and_then_some (λ (r : TypeRow). kind_form t (form_in t (l - 1)) r.kind) (slice_get t.rows id.0) f (sym (form_type t l id (form_levels t l (OfType id) f e)) ∙ e) in
    get_within t.rows id.0 m.0 m.1

pub with_some : (c : ClassId) (u : Bool) (a b : Option Forms) (f : Form) → with_parts c u a b ≡ Some f → (bs : Forms) × (ms : Forms) × (a ≡ Some bs) × (b ≡ Some ms) × (Class c u bs ms ≡ f)
with_some c u (Some bs) (Some ms) f e = (bs, ms, refl, refl, some_inj (Class c u bs ms) f e)
with_some c u (Some bs) None f e = absurd (cc)
with_some c u None (Some ms) f e = absurd (cc)
with_some c u None None f e = absurd (cc)

-- a class that has a form: what is known of it
pub record ClassTold (t : Tables) (l : ℕ) (c : ClassId) (f : Form) : Type 0 where
  pub decl : ClassDecl
  pub body : ClassBody
  pub is_decl : slice_get t.classes c.0 ≡ Some decl
  pub is_body : decl.body ≡ Some body
  pub bases : Forms
  pub members : Forms
  pub base_forms : group_forms t l c true ≡ Some bases
  pub member_forms : group_forms t l c false ≡ Some members
  pub form_is : Class c (is_union decl.key) bases members ≡ f
  pub base_count : count bases ≡ length (base_parts decl.key body)
  pub member_count : count members ≡ length (member_parts body)

pub group_is : (t : Tables) (c : ClassId) (b : Bool) (d : ClassDecl) (x : ClassBody) → slice_get t.classes c.0 ≡ Some d → d.body ≡ Some x → group_parts t c b ≡ Some (parts_in b d x)
group_is t c b d x e g = ap (option_and_then (λ (d : ClassDecl). option_map (parts_in b d) d.body)) e ∙ ap (option_map (parts_in b d)) g

pub class_told : (t : Tables) (l : ℕ) (c : ClassId) (f : Form) → class_form (form_in t l) c (slice_get t.classes c.0) ≡ Some f → ClassTold t l c f
class_told t l c f e =
    let x = and_then_some (λ (d : ClassDecl). option_and_then (body_form (form_in t l) c d.key) d.body) (slice_get t.classes c.0) f e in
    let y = and_then_some (body_form (form_in t l) c x.0.key) x.0.body f x.2 in
    let z = with_some c (is_union x.0.key) (each_form (form_in t l) (base_parts x.0.key y.0)) (each_form (form_in t l) (member_parts y.0)) f y.2 in
    record {
      decl = x.0;
      body = y.0;
      is_decl = x.1;
      is_body = y.1;
      bases = z.0;
      members = z.1;
      base_forms = ap (option_and_then (each_form (form_in t l))) (group_is t c true x.0 y.0 x.1 y.1) ∙ z.2;
      member_forms = ap (option_and_then (each_form (form_in t l))) (group_is t c false x.0 y.0 x.1 y.1) ∙ z.3;
      form_is = z.4;
      base_count = each_count (form_in t l) (base_parts x.0.key y.0) z.0 z.2;
      member_count = each_count (form_in t l) (member_parts y.0) z.1 z.3;
    }

pub told_body : (t : Tables) (l : ℕ) (c : ClassId) (f : Form) → (h : ClassTold t l c f) → body_at t c ≡ Some h.body
told_body t l c f h = ap (option_and_then (λ (d : ClassDecl). d.body)) h.is_decl ∙ h.is_body

-- what the calls on a complete class tell
pub seen_is : (t : Tables) (l : ℕ) (c : ClassId) (f : Form) (p : ClassParts) (h : ClassTold t l c f) → parts_seen t c ≡ Some p → p ≡ record { class = c; is_union = is_union h.decl.key; bases = count h.bases; members = count h.members }
seen_is t l c f p h e =
    let see : ClassDecl → ClassBody → ClassParts = λ d b. record { class = c; is_union = is_union d.key; bases = length (base_parts d.key b); members = length (member_parts b) } in
    let a : parts_seen t c ≡ Some (see h.decl h.body) = ap (option_and_then (λ (d : ClassDecl). option_map (see d) d.body)) h.is_decl ∙ ap (option_map (see h.decl)) h.is_body in
    some_inj p (see h.decl h.body) (sym e ∙ a)
    ∙ ap (λ n. record { class = c; is_union = is_union h.decl.key; bases = n; members = length (member_parts h.body) }) (sym h.base_count)
    ∙ ap (λ n. record { class = c; is_union = is_union h.decl.key; bases = count h.bases; members = n }) (sym h.member_count)

-- a part of a group, as the tables tell it

pub record GroupTold (t : Tables) (c : ClassId) (b : Bool) (ps : List Part) : Type 0 where
  pub decl : ClassDecl
  pub body : ClassBody
  pub is_decl : slice_get t.classes c.0 ≡ Some decl
  pub is_body : body_at t c ≡ Some body
  pub parts_are : parts_in b decl body ≡ ps

pub group_told : (t : Tables) (c : ClassId) (b : Bool) (ps : List Part) → group_parts t c b ≡ Some ps → GroupTold t c b ps
group_told t c b ps e =
    let x = and_then_some (λ (d : ClassDecl). option_map (parts_in b d) d.body) (slice_get t.classes c.0) ps e in
    let y = map_some (parts_in b x.0) x.0.body ps x.2 in
    record { decl = x.0; body = y.0; is_decl = x.1; is_body = ap (option_and_then (λ (d : ClassDecl). d.body)) x.1 ∙ y.1; parts_are = y.2 }

get_map : {A B : Type 0} (f : A → B) (xs : List A) (i : ℕ) → slice_get (map f xs) i ≡ option_map f (slice_get xs i)
get_map f [] i = refl
get_map f (x ∷ xs) zero = refl
get_map f (x ∷ xs) (suc i) = get_map f xs i

base_item : (u : Bool) (xs : List ClassId) (ps : List Part) (i : ℕ) → (if u then [] else map OfClass xs) ≡ ps → i < length ps → (d : ClassId) × (slice_get xs i ≡ Some d) × (slice_get ps i ≡ Some (OfClass d))
base_item true xs ps i e l = let z : 0 ≡ length ps = ap length e in absurd (omega arith)
base_item false xs ps i e l =
    let g = get_there ps i l in
    let m = map_some OfClass (slice_get xs i) g.0 (sym (get_map OfClass xs i) ∙ ap (λ (k : List Part). slice_get k i) e ∙ g.1) in
    (m.0, m.1, g.1 ∙ ap Some (sym m.2))

pub base_piece : (t : Tables) (c : ClassId) (ps : List Part) (i : ℕ) → group_parts t c true ≡ Some ps → i < length ps → (d : ClassId) × (base_of t c i ≡ Some d) × (slice_get ps i ≡ Some (OfClass d))
base_piece t c ps i e l =
    let h = group_told t c true ps e in
    let m = base_item (is_union h.decl.key) h.body.bases ps i h.parts_are l in
    (m.0, ap (option_and_then (λ (b : ClassBody). slice_get b.bases i)) h.is_body ∙ m.1, m.2)

pub member_piece : (t : Tables) (c : ClassId) (ps : List Part) (i : ℕ) → group_parts t c false ≡ Some ps → i < length ps → (x : Field) × (field_of t c i ≡ Some x) × (slice_get ps i ≡ Some (OfType x.ty))
member_piece t c ps i e l =
    let h = group_told t c false ps e in
    let g = get_there ps i l in
    let m = map_some (λ (f : Field). OfType f.ty) (slice_get h.body.fields i) g.0 (sym (get_map (λ (f : Field). OfType f.ty) h.body.fields i) ∙ ap (λ (k : List Part). slice_get k i) h.parts_are ∙ g.1) in
    (m.0, ap (option_and_then (λ (b : ClassBody). slice_get b.fields i)) h.is_body ∙ m.1, g.1 ∙ ap Some (sym m.2))
