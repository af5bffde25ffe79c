-- What the calls that lay parts ask and give.
use Rattle.std.proofs.Common.{◌≡◌, ℕ, zero, suc, ◌+◌, ◌*◌, ◌-◌, ◌≤◌, ◌<◌, Bool, true, false, List, [], ◌∷◌, ◌++◌, length, set, Option, None, Some, refl, sym, ap, subst, ◌∙◌, arith, slice_get, length-append}
use Rattle.std.proofs.Math.Nat.{mul-le-mul_right}
use Rattle.std.specs.Prelude.{option_map, is_some, IsSome}
use Rattle.cx_type_defs.specs.declared.ids.Step.TheVariants as step
use Rattle.cx_type_defs.specs.declared.ids.TypeId.{TypeId}
use Rattle.cx_type_defs.specs.declared.ids.ClassId.{ClassId}
use Rattle.cx_type_defs.specs.declared.kind.TypeRow.{TypeRow}
use Rattle.cx_type_defs.specs.declared.kind.TypeKind.{TypeKind}
use Rattle.cx_type_defs.specs.declared.kind.TypeKind.TheVariants as kind
use Rattle.cx_type_defs.specs.Tables.{Tables, body_at}
use Rattle.cx_type_defs.specs.Questions.{Part, OfType, OfClass}
use Rattle.cx_layout.specs.declared.columns.Kind.TheVariants as node_kind
use Rattle.cx_layout.specs.declared.columns.ClassParts.{ClassParts}
use Rattle.cx_layout.specs.declared.columns.Under.{Under}
use Rattle.cx_layout.specs.declared.columns.Node.{Node}
use Rattle.cx_layout.specs.declared.lay.Group.{Group}
use Rattle.cx_layout.specs.Forms.{Form, Forms, Row, Leaf, Class, End, More, count, nodes_in, cells, cells_in, together, Full}
use Rattle.cx_layout.specs.TypeForms.{is_union, each_form, class_form, kind_form, form_in}
use Rattle.cx_layout.specs.Laid.{under}
use Rattle.cx_layout.specs.Laying.{Room, HasRoom, Lays, LaysForm, LaysAll, GroupRoom, GroupHasRoom, LaysFirst, LaysGroup, group_parts, group_forms, parts_seen, first, under_in, element_cells}
use Rattle.cx_layout.proofs.Options.{and_then_some}
use Rattle.cx_layout.proofs.Laying.{nth, each_nth, each_count, first_count, first_next, first_all, lays_none, lays_next, part_room}
use Rattle.cx_layout.proofs.WaysBack.{full_parts}
use Rattle.cx_layout.proofs.Filling.{array_lays, class_lays, bases, members, bases_room, members_room}
use Rattle.cx_layout.proofs.Forming.{room_form, form_levels, form_class, form_row, type_known, ClassTold, class_told, told_body, seen_is}

pub room_levels : (t : Tables) (ns : List Node) (ks : List ℕ) (o l : ℕ) (p : Part) → HasRoom ns ks o (form_in t l p) → 1 ≤ l
room_levels t ns ks o l p h = let f = room_form ns ks o (form_in t l p) h in form_levels t l p f.0 f.1

pub room_known : (t : Tables) (ns : List Node) (ks : List ℕ) (o l : ℕ) (id : TypeId) → HasRoom ns ks o (form_in t l (OfType id)) → id.0 < length t.rows
room_known t ns ks o l id h = let f = room_form ns ks o (form_in t l (OfType id)) h in type_known t l id f.0 f.1

pub class_open : (t : Tables) (ns : List Node) (ks : List ℕ) (o l : ℕ) (c : ClassId) → HasRoom ns ks o (form_in t l (OfClass c)) → form_in t l (OfClass c) ≡ class_form (form_in t (l - 1)) c (slice_get t.classes c.0)
class_open t ns ks o l c h = form_class t l c (room_levels t ns ks o l (OfClass c) h)

pub type_open : (t : Tables) (ns : List Node) (ks : List ℕ) (o l : ℕ) (id : TypeId) (r : TypeRow) (k : TypeKind) → HasRoom ns ks o (form_in t l (OfType id)) → slice_get t.rows id.0 ≡ Some r → r.kind ≡ k → form_in t l (OfType id) ≡ kind_form t (form_in t (l - 1)) k
type_open t ns ks o l id r k h e z = form_row t l id r (room_levels t ns ks o l (OfType id) h) e ∙ ap (kind_form t (form_in t (l - 1))) z

pub leaf_form : (t : Tables) (ns : List Node) (ks : List ℕ) (o l : ℕ) (k : TypeKind) → ((a : TypeId) (n : ℕ) → k ≡ kind.Array a n → ⊥) → ((c : ClassId) → k ≡ kind.Class c → ⊥) → HasRoom ns ks o (kind_form t (form_in t l) k) → kind_form t (form_in t l) k ≡ Some Leaf
leaf_form t ns ks o l kind.Void a b h = absurd h
leaf_form t ns ks o l kind.Nullptr a b h = refl
leaf_form t ns ks o l (kind.Int _) a b h = refl
leaf_form t ns ks o l (kind.Enum _) a b h = refl
leaf_form t ns ks o l (kind.Pointer _) a b h = refl
leaf_form t ns ks o l (kind.Reference _) a b h = refl
leaf_form t ns ks o l (kind.Array x n) a b h = absurd (a x n refl)
leaf_form t ns ks o l (kind.Class c) a b h = absurd (b c refl)

-- an array

pub element_room : (ns : List Node) (ks : List ℕ) (o m : ℕ) (x : Option Form) (row : Node) → HasRoom ns ks o (option_map (Row m) x) → HasRoom (ns ++ row ∷ []) ks 0 x
element_room ns ks o m None row h = absurd h
element_room ns ks o m (Some f) row h =
    let a = length-append ns (row ∷ []) in
    let b = h.few_nodes in
    let c = h.few_parts in
    let d = h.few_element_cells in
    record {
      few_nodes = omega arith;
      few_parts = omega arith;
      few_cells = omega arith;
      few_element_cells = inner f h.full d;
      full = full_parts f h.full;
    }
  where
    inner : (f : Form) → Full f → cells f ≤ 1073741824 → element_cells f ≤ 1073741824
    inner Leaf h l = omega arith
    inner (Row n f) h l = let b : 1 ≤ n = h.0 in let d : 1 * cells f ≤ n * cells f = mul-le-mul_right (cells f) b in omega arith
    inner (Class k u bs ms) h l = omega arith

pub array_laid : (ns : List Node) (ks : List ℕ) (o m : ℕ) (x : Option Form) (row filled : Node) (ms : List Node) (js : List ℕ) (u : Under) (c : ℕ) → HasRoom ns ks o (option_map (Row m) x) → LaysForm (ns ++ row ∷ []) ks ms js (under (length ns) (step.Elem 0) 0) x c
    → filled.kind ≡ node_kind.Array m → filled.cells ≡ m * c → filled.under ≡ u → LaysForm ns ks (set ms (length ns) filled) js u (option_map (Row m) x) (m * c)
array_laid ns ks o m None row filled ms js u c h l k e w = absurd h
array_laid ns ks o m (Some f) row filled ms js u c h l k e w = array_lays ns ms ks js row filled u m f c l k e w

pub array_cells : (ns : List Node) (ks : List ℕ) (o m : ℕ) (x : Option Form) (n2 n3 : List Node) (k2 k3 : List ℕ) (u : Under) (c : ℕ) → HasRoom ns ks o (option_map (Row m) x) → LaysForm n2 k2 n3 k3 u x c → m * c ≤ 1073741824
array_cells ns ks o m None n2 n3 k2 k3 u c h l = absurd h
array_cells ns ks o m (Some f) n2 n3 k2 k3 u c h l = let a = h.few_cells in let w : m * c ≡ m * cells f = ap (λ n. m * n) l.cells_are in omega arith

-- a class

module _ (t : Tables) (l : ℕ) (c : ClassId) (p : ClassParts) (ns : List Node) (ks : List ℕ) (o : ℕ) (row : Node) (h : HasRoom ns ks o (class_form (form_in t l) c (slice_get t.classes c.0))) (seen : parts_seen t c ≡ Some p) where
  pub form_there : (f : Form) × (class_form (form_in t l) c (slice_get t.classes c.0) ≡ Some f)
  form_there = room_form ns ks o (class_form (form_in t l) c (slice_get t.classes c.0)) h

  pub told : ClassTold t l c form_there.0
  told = class_told t l c form_there.0 form_there.1

  pub class_is : class_form (form_in t l) c (slice_get t.classes c.0) ≡ Some (Class c (is_union told.decl.key) told.bases told.members)
  class_is = form_there.1 ∙ ap Some (sym told.form_is)

  pub room : Room ns ks o (Class c (is_union told.decl.key) told.bases told.members)
  room = subst (HasRoom ns ks o) class_is h

  pub parts_are : p ≡ record { class = c; is_union = is_union told.decl.key; bases = count told.bases; members = count told.members }
  parts_are = seen_is t l c form_there.0 p told seen

  pub bases_asked : GroupHasRoom (ns ++ row ∷ []) ks (bases c p.is_union told.bases told.members p.bases p.members (length ns)) (group_forms t l c true)
  bases_asked = subst (GroupHasRoom (ns ++ row ∷ []) ks (bases c p.is_union told.bases told.members p.bases p.members (length ns))) (sym told.base_forms)
      (bases_room c (is_union told.decl.key) told.bases told.members p.bases p.members ns ks row o room (ap (λ (x : ClassParts). x.bases) parts_are))

  module _ (ns2 : List Node) (ks2 js2 : List ℕ) (c1 : ℕ) (g : LaysGroup (ns ++ row ∷ []) ks [] ns2 ks2 js2 (bases c p.is_union told.bases told.members p.bases p.members (length ns)) (group_forms t l c true) c1) where
    pub laid_bases : LaysAll (ns ++ row ∷ []) ks [] ns2 ks2 js2 (bases c p.is_union told.bases told.members p.bases p.members (length ns)) told.bases c1
    laid_bases = subst (λ x. LaysGroup (ns ++ row ∷ []) ks [] ns2 ks2 js2 (bases c p.is_union told.bases told.members p.bases p.members (length ns)) x c1) told.base_forms g

    pub union_is : p.is_union ≡ is_union told.decl.key
    union_is = ap (λ (x : ClassParts). x.is_union) parts_are

    pub members_asked : GroupHasRoom ns2 ks2 (members c p.is_union told.bases told.members p.bases p.members (length ns) c1) (group_forms t l c false)
    members_asked = subst (GroupHasRoom ns2 ks2 (members c p.is_union told.bases told.members p.bases p.members (length ns) c1)) (sym told.member_forms)
        (subst (λ u. GroupRoom ns2 ks2 (members c u told.bases told.members p.bases p.members (length ns) c1) told.members) (sym union_is)
        (members_room c (is_union told.decl.key) told.bases told.members p.bases p.members ns ns2 ks ks2 js2 row o c1 room (ap (λ (x : ClassParts). x.members) parts_are) laid_bases))

    pub base_cells : c1 ≤ 1073741824
    base_cells = let a = room.few_cells in let b = laid_bases.cells_are in omega arith

    module _ (ns3 : List Node) (ks3 js3 : List ℕ) (c2 : ℕ) (m : LaysGroup ns2 ks2 js2 ns3 ks3 js3 (members c p.is_union told.bases told.members p.bases p.members (length ns) c1) (group_forms t l c false) c2) where
      pub laid_members : LaysAll ns2 ks2 js2 ns3 ks3 js3 (members c (is_union told.decl.key) told.bases told.members p.bases p.members (length ns) c1) told.members c2
      laid_members = subst (λ u. LaysAll ns2 ks2 js2 ns3 ks3 js3 (members c u told.bases told.members p.bases p.members (length ns) c1) told.members c2) union_is
          (subst (λ x. LaysGroup ns2 ks2 js2 ns3 ks3 js3 (members c p.is_union told.bases told.members p.bases p.members (length ns) c1) x c2) told.member_forms m)

      -- all numbers are small
      pub sums : (1 + c1 + c2 ≤ 1073741824) × (length ks3 + p.bases ≤ 1048577) × (length ns < length ns3)
      sums =
          let a = room.few_cells in
          let b = laid_bases.cells_are in
          let d = laid_members.cells_are in
          let e = room.few_nodes in
          let f = room.few_parts in
          let f1 = laid_bases.few_parts in
          let f2 = laid_members.few_parts in
          let n1 = laid_bases.as_many in
          let n2 = laid_members.as_many in
          let x = length-append ns (row ∷ []) in
          let z : p.bases ≡ count told.bases = ap (λ (x : ClassParts). x.bases) parts_are in
          (omega arith, omega arith, omega arith)

      pub class_laid : (filled : Node) (u : Under) → filled.kind ≡ node_kind.Class p → filled.cells ≡ 1 + c1 + c2 → filled.under ≡ u → filled.bases_from ≡ length ks3 → filled.members_from ≡ length ks3 + p.bases
          → LaysForm ns ks (set ns3 (length ns) filled) (ks3 ++ js3) u (class_form (form_in t l) c (slice_get t.classes c.0)) (1 + c1 + c2)
      class_laid filled u k e w b1 b2 =
          subst (λ x. LaysForm ns ks (set ns3 (length ns) filled) (ks3 ++ js3) u x (1 + c1 + c2)) (sym class_is)
          (class_lays c (is_union told.decl.key) told.bases told.members p.bases p.members ns ns2 ns3 ks ks2 ks3 js2 js3 row filled u c1 c2 laid_bases laid_members
          (k ∙ ap node_kind.Class parts_are) e w b1 (b2 ∙ ap (λ (x : ClassParts). length ks3 + x.bases) parts_are))

  pub class_complete : IsSome (body_at t c)
  class_complete = ap is_some (told_body t l c form_there.0 told)

-- a part of a group

first_nodes : (i : ℕ) (fs : Forms) → nodes_in (first i fs) ≤ nodes_in fs
first_nodes zero fs = omega arith
first_nodes (suc i) End = omega arith
first_nodes (suc i) (More f fs) = let w = first_nodes i fs in omega arith

first_cells : (u : Bool) (i : ℕ) (fs : Forms) → cells_in u (first i fs) ≤ cells_in u fs
first_cells u zero fs = omega arith
first_cells true (suc i) End = omega arith
first_cells false (suc i) End = omega arith
first_cells true (suc i) (More f fs) = let w = first_cells true i fs in omega arith
first_cells false (suc i) (More f fs) = let w = first_cells false i fs in omega arith

module _ (t : Tables) (l : ℕ) (ns : List Node) (ks js : List ℕ) (g : Group) (h : GroupHasRoom ns ks g (group_forms t l g.class g.of_bases)) where
  pub group_there : (x : Option Forms) → GroupHasRoom ns ks g x → (fs : Forms) × (x ≡ Some fs)
  group_there None h = absurd h
  group_there (Some fs) h = (fs, refl)

  pub forms : (fs : Forms) × (group_forms t l g.class g.of_bases ≡ Some fs)
  forms = group_there (group_forms t l g.class g.of_bases) h

  pub room_of : GroupRoom ns ks g forms.0
  room_of = subst (GroupHasRoom ns ks g) forms.1 h

  pub pieces : (ps : List Part) × (group_parts t g.class g.of_bases ≡ Some ps) × (each_form (form_in t l) ps ≡ Some forms.0)
  pieces = and_then_some (each_form (form_in t l)) (group_parts t g.class g.of_bases) forms.0 forms.1

  pub piece_there : (i : ℕ) → i < g.count → i < length pieces.0
  piece_there i k = let a = room_of.count_is in let b = each_count (form_in t l) pieces.0 forms.0 pieces.2 in omega arith

  pub group_none : LaysFirst 0 ns ks js ns ks js g (group_forms t l g.class g.of_bases) 0
  group_none = subst (λ x. LaysFirst 0 ns ks js ns ks js g x 0) (sym forms.1) (lays_none ns ks js g)

  module _ (i c : ℕ) (ms : List Node) (ls us : List ℕ) (p : Part) (k : i < g.count) (laid : LaysFirst i ns ks js ms ls us g (group_forms t l g.class g.of_bases) c) (is_piece : slice_get pieces.0 i ≡ Some p) where
    pub so_far : LaysAll ns ks js ms ls us g (first i forms.0) c
    so_far = subst (λ x. LaysFirst i ns ks js ms ls us g x c) forms.1 laid

    pub one : (f : Form) × (form_in t l p ≡ Some f) × (nth forms.0 i ≡ Some f)
    one = each_nth (form_in t l) pieces.0 forms.0 i p pieces.2 is_piece

    pub one_room : Room ms ls (under_in g i c).offset one.0
    one_room = part_room ns ks js ms ls us g forms.0 i one.0 c room_of one.2 so_far

    pub piece_asked : HasRoom ms ls (under_in g i c).offset (form_in t l p)
    piece_asked = subst (HasRoom ms ls (under_in g i c).offset) (sym one.1) one_room

    pub piece_next : (new : List Node) (news : List ℕ) (d : ℕ) → LaysForm ms ls new news (under_in g i c) (form_in t l p) d → LaysFirst (i + 1) ns ks js new news (us ++ length ms ∷ []) g (group_forms t l g.class g.of_bases) (together g.shared c d)
    piece_next new news d m =
        let a : Lays ms ls new news (under_in g i c) one.0 d = subst (λ x. LaysForm ms ls new news (under_in g i c) x d) one.1 m in
        let n : count (first i forms.0) ≡ i = first_count forms.0 i one.0 one.2 in
        let b = lays_next ns ks js ms ls us new news g (first i forms.0) one.0 c d so_far (subst (λ k. Lays ms ls new news (under_in g k c) one.0 d) (sym n) a) in
        let z : suc i ≡ i + 1 = omega arith in
        subst (λ x. LaysFirst (i + 1) ns ks js new news (us ++ length ms ∷ []) g x (together g.shared c d)) (sym forms.1)
        (subst (λ k. LaysAll ns ks js new news (us ++ length ms ∷ []) g (first k forms.0) (together g.shared c d)) z
        (subst (λ y. LaysAll ns ks js new news (us ++ length ms ∷ []) g y (together g.shared c d)) (sym (first_next forms.0 i one.0 one.2)) b))

    pub piece_cells : (new : List Node) (news : List ℕ) (d : ℕ) → LaysForm ms ls new news (under_in g i c) (form_in t l p) d → d ≤ 1073741824
    piece_cells new news d m =
        let a : Lays ms ls new news (under_in g i c) one.0 d = subst (λ x. LaysForm ms ls new news (under_in g i c) x d) one.1 m in
        let b = a.cells_are in
        let e = one_room.few_cells in
        omega arith

  pub so_small : (i c : ℕ) (ms : List Node) (ls us : List ℕ) → LaysFirst i ns ks js ms ls us g (group_forms t l g.class g.of_bases) c → (g.offset + c ≤ 1073741824) × (length ms ≤ 1048577)
  so_small i c ms ls us laid =
      let a : LaysAll ns ks js ms ls us g (first i forms.0) c = subst (λ x. LaysFirst i ns ks js ms ls us g x c) forms.1 laid in
      let b = a.cells_are in
      let d = a.as_many in
      let e = room_of.few_cells in
      let f = room_of.few_nodes in
      let x = first_cells g.shared i forms.0 in
      let y = first_nodes i forms.0 in
      (omega arith, omega arith)

  pub group_all : (i c : ℕ) (ms : List Node) (ls us : List ℕ) → g.count ≤ i → LaysFirst i ns ks js ms ls us g (group_forms t l g.class g.of_bases) c → LaysGroup ns ks js ms ls us g (group_forms t l g.class g.of_bases) c
  group_all i c ms ls us k laid =
      let a : LaysAll ns ks js ms ls us g (first i forms.0) c = subst (λ x. LaysFirst i ns ks js ms ls us g x c) forms.1 laid in
      let b = room_of.count_is in
      subst (λ x. LaysGroup ns ks js ms ls us g x c) (sym forms.1) (subst (λ y. LaysAll ns ks js ms ls us g y c) (first_all forms.0 i (omega arith)) a)
