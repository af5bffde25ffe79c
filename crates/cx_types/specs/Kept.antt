-- What the tables keep beside their lists, so that each question is answered at once: what is kept is what is asked, now
-- and where the tables have grown. No contract of a public call cites this.
use Rattle.std.specs.Prelude.{◌≡◌, ℕ, ◌+◌, ◌*◌, ◌^◌, ◌<◌, ◌≤◌, List, length, Option, None, Some, Result, Ok, Err, slice_get, option_map, option_and_then}
use Rattle.cx_type_defs.specs.declared.ids.TypeId.{TypeId}
use Rattle.cx_type_defs.specs.declared.ids.ClassId.{ClassId}
use Rattle.cx_type_defs.specs.declared.ids.EnumId.{EnumId}
use Rattle.cx_type_defs.specs.declared.ids.FuncId.{FuncId}
use Rattle.cx_type_defs.specs.declared.kind.TypeRow.{TypeRow}
use Rattle.cx_type_defs.specs.declared.kind.TypeKind.{TypeKind}
use Rattle.cx_type_defs.specs.declared.kind.TypeKind.TheVariants as kind
use Rattle.cx_type_defs.specs.declared.decl.ClassDecl.{ClassDecl}
use Rattle.cx_type_defs.specs.declared.decl.ClassBody.{ClassBody}
use Rattle.cx_type_defs.specs.declared.decl.ClassKey.{ClassKey}
use Rattle.cx_type_defs.specs.declared.decl.EnumDecl.{EnumDecl}
use Rattle.cx_type_defs.specs.declared.decl.EnumEnd.{EnumEnd}
use Rattle.cx_type_defs.specs.declared.decl.Extent.{Extent}
use Rattle.cx_types.specs.declared.facts.Facts.{Facts}
use Rattle.cx_types.specs.declared.facts.RowFacts.{RowFacts}
use Rattle.cx_types.specs.declared.facts.Measure.{Measure}
use Rattle.cx_type_defs.specs.declared.answer.TypeAnswer.{TypeAnswer}
use Rattle.cx_type_defs.specs.Refusals.{kind_refusal}
use Rattle.cx_type_defs.specs.Tables.{Tables, Grows, IsKnown, body_at, lists_function, declared_pure}
use Rattle.cx_type_defs.specs.Levels.{part_of}
use Rattle.cx_type_defs.specs.Same.{AreNormal}
use Rattle.cx_type_defs.specs.Bodies.{IsFit}
use Rattle.cx_type_defs.specs.Enums.{IsFixedIfScoped, IsUnder}
use Rattle.cx_type_defs.specs.Slots.{base_slots}
use Rattle.cx_type_defs.specs.Questions.{Part, OfType, OfClass, asked, address_answer, kind_answer, depth_of, cells_of, nodes_of, literal_of, extent_of}

pub record Told (t : Tables) (p : Part) (f : Facts) : Type 0 where
  pub depth_told : asked depth_of t p ≡ Some f.depth
  pub cells_told : asked cells_of t p ≡ Some f.cells
  pub nodes_told : asked nodes_of t p ≡ Some f.nodes
  pub literal_told : asked literal_of t p ≡ Some f.literal

-- within the limits
pub record Small (f : Facts) : Type 0 where
  pub few_levels : f.depth ≤ 512
  pub few_cells : f.cells ≤ 1073741824
  pub few_nodes : f.nodes ≤ 1048576
  pub some_nodes : 1 ≤ f.nodes

-- an extent is bounded by the cells
pub record Fitting (cells : ℕ) (e : Extent) : Type 0 where
  pub size_fits : e.size + 8 ≤ 16 * cells
  pub least_align : 1 ≤ e.align
  pub most_align : e.align ≤ 8

abbrev pub IsLeaf : TypeKind → Type 0
IsLeaf (kind.Array of n) = ⊥
IsLeaf _ = Unit {0}

abbrev pub IsNoClass : TypeKind → Type 0
IsNoClass (kind.Class c) = ⊥
IsNoClass _ = Unit {0}

pub record RowTold (t : Tables) (id : TypeId) (f : RowFacts) : Type 0 where
  pub told : Told t (OfType id) f.facts
  pub spread : asked extent_of t (OfType id) ≡ option_map (extent_of.of_array f.count) (asked extent_of t (OfType f.leaf))
  pub fits : (e : Extent) → asked extent_of t (OfType id) ≡ Some (Some e) → Fitting f.facts.cells e
  pub leaf_stands : (r : TypeRow) × (slice_get t.rows f.leaf.0 ≡ Some r) × IsLeaf r.kind

pub record KeptRow (t : Tables) (id : TypeId) (f : RowFacts) : Type 0 where
  pub small : Small f.facts
  pub few_leaves : f.count ≤ f.facts.cells
  pub later : (u : Tables) → Grows t u → RowTold u id f

pub record ClassTold (t : Tables) (c : ClassId) (m : Measure) : Type 0 where
  pub told : Told t (OfClass c) m.facts
  pub extent_told : asked extent_of t (OfClass c) ≡ Some m.extent

pub record KeptBody (t : Tables) (c : ClassId) (b : ClassBody) (m : Measure) : Type 0 where
  pub small : Small m.facts
  pub fits : (e : Extent) → m.extent ≡ Some e → Fitting m.facts.cells e
  pub some_cells : 1 ≤ m.facts.cells
  pub few_parts : length b.bases + length b.fields + 1 ≤ m.facts.nodes
  pub later : (u : Tables) → Grows t u → ClassTold u c m

abbrev pub KeptClass : Tables → ClassId → Option ClassBody → Option Measure → Type 0
KeptClass t c (Some b) (Some m) = KeptBody t c b m
KeptClass t c None None = Unit {0}
KeptClass t c _ _ = ⊥

pub record Kept (t : Tables) (facts : List RowFacts) (measures : List (Option Measure)) : Type 0 where
  pub each_row : length facts ≡ length t.rows
  pub each_class : length measures ≡ length t.classes
  pub known : (i : ℕ) (r : TypeRow) → slice_get t.rows i ≡ Some r → IsKnown t r.kind
  pub older : (i : ℕ) (r : TypeRow) (part : TypeId) → slice_get t.rows i ≡ Some r → part_of r.kind ≡ Some part → part.0 < i
  pub normal : AreNormal t
  pub once : (i j : ℕ) (r : TypeRow) → slice_get t.rows i ≡ Some r → slice_get t.rows j ≡ Some r → i ≡ j
  pub rows_kept : (id : TypeId) (r : TypeRow) (f : RowFacts) → slice_get t.rows id.0 ≡ Some r → slice_get facts id.0 ≡ Some f → IsNoClass r.kind → KeptRow t id f
  pub classes_kept : (c : ClassId) (d : ClassDecl) (m : Option Measure) → slice_get t.classes c.0 ≡ Some d → slice_get measures c.0 ≡ Some m → KeptClass t c d.body m

-- a class has at least as many slots as its bases together, and their numbers are below 2^32
pub record KeptSlots (t : Tables) (b : ClassBody) : Type 0 where
  pub few_slots : length b.slots < 2 ^ 32
  pub bases_fit : (u : Tables) → Grows t u → base_slots u b ≤ length b.slots

abbrev pub SlotsFit : Tables → Option ClassBody → Type 0
SlotsFit t None = Unit {0}
SlotsFit t (Some b) = KeptSlots t b

-- a class fits its key, now and where the tables have grown
abbrev pub StaysFit : Tables → ClassKey → Option ClassBody → Type 0
StaysFit t k None = Unit {0}
StaysFit t k (Some b) = (u : Tables) → Grows t u → IsFit u k b

-- an enumeration has a fixed type if it is scoped, and its list ended as it might
pub record IsFitEnum (d : EnumDecl) : Type 0 where
  pub scoped_fixed : IsFixedIfScoped d.scoped d.fixed
  pub end_fits : (e : EnumEnd) → d.end ≡ Some e → IsUnder d.fixed e.under e.low e.high

-- all that the tables keep: what is found of types and classes, the slots of bases, and the pure functions
pub record AllKept (t : Tables) (facts : List RowFacts) (measures : List (Option Measure)) (pures : List FuncId) : Type 0 where
  pub measures_kept : Kept t facts measures
  pub slots_kept : (c : ClassId) (d : ClassDecl) → slice_get t.classes c.0 ≡ Some d → SlotsFit t d.body
  pub bodies_fit : (c : ClassId) (d : ClassDecl) → slice_get t.classes c.0 ≡ Some d → StaysFit t d.key d.body
  pub enums_fit : (e : EnumId) (d : EnumDecl) → slice_get t.enums e.0 ≡ Some d → IsFitEnum d
  pub pures_kept : (f : FuncId) → lists_function f pures ≡ declared_pure t f

-- a row is of an incomplete class
abbrev pub IsOpenKind : Tables → TypeKind → Type 0
IsOpenKind t (kind.Class c) = body_at t c ≡ None
IsOpenKind t _ = ⊥

abbrev pub IsOpen : Tables → TypeId → Type 0
IsOpen t id = (r : TypeRow) × (slice_get t.rows id.0 ≡ Some r) × IsOpenKind t r.kind

-- what is kept of any type: nothing exactly where it is an incomplete class
abbrev pub KeptType : Tables → TypeId → Option RowFacts → Type 0
KeptType t id None = IsOpen t id
KeptType t id (Some f) = KeptRow t id f

-- what is found of a type that isn't in the tables yet
pub record Found (t : Tables) (k : TypeKind) (f : Facts) : Type 0 where
  pub depth_found : kind_answer depth_of t (asked depth_of t) k ≡ Some f.depth
  pub cells_found : kind_answer cells_of t (asked cells_of t) k ≡ Some f.cells
  pub nodes_found : kind_answer nodes_of t (asked nodes_of t) k ≡ Some f.nodes
  pub literal_found : kind_answer literal_of t (asked literal_of t) k ≡ Some f.literal

-- its leaf: that of its elements, or itself
abbrev pub FoundLeaf : Tables → TypeId → TypeKind → RowFacts → Type 0
FoundLeaf t id (kind.Array of n) f = (g : RowFacts) × KeptRow t of g × (f.count ≡ n * g.count) × (f.leaf ≡ g.leaf) × (1 ≤ n)
FoundLeaf t id kind.Void f = (f.count ≡ 0) × (f.leaf ≡ id)
FoundLeaf t id _ f = (f.count ≡ 1) × (f.leaf ≡ id)

-- a type that may come in as the next one
pub record FoundRow (t : Tables) (id : TypeId) (k : TypeKind) (f : RowFacts) : Type 0 where
  pub found : Found t k f.facts
  pub small : Small f.facts
  pub few_leaves : f.count ≤ f.facts.cells
  pub leaf : FoundLeaf t id k f

-- nothing is kept beside a row of a class
abbrev pub MayCome : Tables → TypeId → TypeKind → RowFacts → Type 0
MayCome t id (kind.Class c) f = Unit {0}
MayCome t id k f = FoundRow t id k f

abbrev pub IsAddressDepth : Tables → TypeId → ℕ → Type 0
IsAddressDepth t to d = (option_and_then (λ (r : TypeRow). address_answer depth_of (asked depth_of t (OfType to)) r.kind) (slice_get t.rows to.0) ≡ Some d) × (d ≤ 513)

-- what is found of a type, or why it is refused
abbrev pub RowFound : Tables → TypeId → TypeKind → Result RowFacts TypeAnswer → Type 0
RowFound t id k (Ok f) = (kind_refusal t k ≡ None) × MayCome t id k f
RowFound t id k (Err e) = kind_refusal t k ≡ Some e

-- elements may be of such a type, if it is complete
abbrev pub IsPlain : TypeKind → Type 0
IsPlain kind.Void = ⊥
IsPlain (kind.Reference to) = ⊥
IsPlain _ = Unit {0}

abbrev pub IsPlainAt : Tables → TypeId → Type 0
IsPlainAt t of = (r : TypeRow) × (slice_get t.rows of.0 ≡ Some r) × IsPlain r.kind

abbrev pub IsLeafAt : Tables → TypeId → Type 0
IsLeafAt t id = (r : TypeRow) × (slice_get t.rows id.0 ≡ Some r) × IsLeaf r.kind
