-- What is found of a class's parts. No contract of a public call cites this.
use Rattle.std.specs.Prelude.{◌≡◌, ℕ, ◌+◌, ◌<◌, ◌≤◌, Bool, true, false, List, [], ◌∷◌, length, Option, None, Some, Result, Ok, Err, map, is_some, unwrap_or}
use Rattle.std.specs.List.{list_any}
use Rattle.std.specs.Global.{Vec}
use Rattle.cx_type_defs.specs.declared.answer.TypeAnswer.{TypeAnswer}
use Rattle.cx_type_defs.specs.declared.answer.TypeAnswer.TheVariants as answer
use Rattle.cx_type_defs.specs.declared.decl.Field.{Field}
use Rattle.cx_type_defs.specs.declared.decl.Extent.{Extent}
use Rattle.cx_type_defs.specs.declared.decl.ClassBody.{ClassBody}
use Rattle.cx_type_defs.specs.declared.decl.ClassKey.{ClassKey}
use Rattle.cx_type_defs.specs.declared.decl.ClassFlags.{ClassFlags}
use Rattle.cx_types.specs.declared.facts.Measure.{Measure}
use Rattle.cx_type_defs.specs.Tables.{Tables}
use Rattle.cx_type_defs.specs.Questions.{Part, OfType, body_answer, asked, depth_of, cells_of, nodes_of, literal_of, extent_of, all_true}
use Rattle.cx_type_defs.specs.declared.decl.ClassDecl.{ClassDecl}
use Rattle.cx_type_defs.specs.Refusals.{is_large, body_refusal, Refuses}
use Rattle.cx_types.specs.Kept.{Told, Small, Fitting}

abbrev pub laid : Measure → Extent
laid m = unwrap_or m.extent (record { size = 0; align = 1 })

abbrev pub IsAllSized : List Measure → Type 0
IsAllSized ms = all_true (map (λ (m : Measure). is_some m.extent) ms) ≡ true

-- a part's measure is within the limits, and its extent is bounded
pub record IsGood (m : Measure) : Type 0 where
  pub small : Small m.facts
  pub fits : (e : Extent) → m.extent ≡ Some e → Fitting m.facts.cells e

abbrev pub AreGood : List Measure → Type 0
AreGood [] = Unit {0}
AreGood (m ∷ ms) = IsGood m × AreGood ms

pub record PartTold (t : Tables) (p : Part) (m : Measure) : Type 0 where
  pub told : Told t p m.facts
  pub extent_told : asked extent_of t p ≡ Some m.extent
  pub good : IsGood m

abbrev pub PartsTold : {A : Type 0} → Tables → (A → Part) → List A → List Measure → Type 0
PartsTold t part [] [] = Unit {0}
PartsTold t part (x ∷ xs) (m ∷ ms) = PartTold t (part x) m × PartsTold t part xs ms
PartsTold t part _ _ = ⊥

abbrev pub part_of_field : Field → Part
part_of_field f = OfType f.ty

-- the measures of the parts, unless one lacks
abbrev pub Gathered : {A : Type 0} → Tables → (A → Part) → (A → Bool) → List A → Result (List Measure) TypeAnswer → Type 0
Gathered t part lacks xs (Ok ms) = PartsTold t part xs ms
Gathered t part lacks xs (Err answer.Incomplete) = list_any lacks xs ≡ true
Gathered t part lacks xs (Err answer.TooLarge) = ⊥
Gathered t part lacks xs (Err answer.Memory) = Unit {0}

-- the measure of a class by those of its bases and members
pub record Measured (k : ClassKey) (fl : ClassFlags) (bs fs : List Measure) (m : Measure) : Type 0 where
  pub depth_by : m.facts.depth ≡ depth_of.of_class k fl (map (λ (m : Measure). m.facts.depth) bs) (map (λ (m : Measure). m.facts.depth) fs)
  pub cells_by : m.facts.cells ≡ cells_of.of_class k fl (map (λ (m : Measure). m.facts.cells) bs) (map (λ (m : Measure). m.facts.cells) fs)
  pub nodes_by : m.facts.nodes ≡ nodes_of.of_class k fl (map (λ (m : Measure). m.facts.nodes) bs) (map (λ (m : Measure). m.facts.nodes) fs)
  pub literal_by : m.facts.literal ≡ literal_of.of_class k fl (map (λ (m : Measure). m.facts.literal) bs) (map (λ (m : Measure). m.facts.literal) fs)
  pub extent_by : m.extent ≡ extent_of.of_class k fl (map (λ (m : Measure). m.extent) bs) (map (λ (m : Measure). m.extent) fs)
  pub good : IsGood m

abbrev pub too_large : ClassKey → ClassFlags → List Measure → List Measure → Bool
too_large k fl bs fs =
    is_large (Some (depth_of.of_class k fl (map (λ (m : Measure). m.facts.depth) bs) (map (λ (m : Measure). m.facts.depth) fs)))
    (Some (cells_of.of_class k fl (map (λ (m : Measure). m.facts.cells) bs) (map (λ (m : Measure). m.facts.cells) fs)))
    (Some (nodes_of.of_class k fl (map (λ (m : Measure). m.facts.nodes) bs) (map (λ (m : Measure). m.facts.nodes) fs)))

-- a number as counted: exact where it is within the limit, and beyond it where it is beyond
abbrev pub Capped : ℕ → ℕ → ℕ → Type 0
Capped limit exact counted = (exact ≤ limit → counted ≡ exact) × (limit < exact → limit < counted)

abbrev pub WasMeasured : ClassKey → ClassFlags → List Measure → List Measure → Option Measure → Type 0
WasMeasured k fl bs fs None = too_large k fl bs fs ≡ true
WasMeasured k fl bs fs (Some m) = Measured k fl bs fs m × (too_large k fl bs fs ≡ false)

abbrev pub GatheredVec : {A : Type 0} → Tables → (A → Part) → (A → Bool) → List A → Result (Vec Measure) TypeAnswer → Type 0
GatheredVec t part lacks xs (Ok v) = PartsTold t part xs v.items
GatheredVec t part lacks xs (Err answer.Incomplete) = list_any lacks xs ≡ true
GatheredVec t part lacks xs (Err answer.TooLarge) = ⊥
GatheredVec t part lacks xs (Err answer.Memory) = Unit {0}

-- what is told of a class that is to be completed
pub record BodyTold (t : Tables) (k : ClassKey) (b : ClassBody) (m : Measure) : Type 0 where
  pub depth_told : body_answer depth_of (asked depth_of t) k b ≡ Some m.facts.depth
  pub cells_told : body_answer cells_of (asked cells_of t) k b ≡ Some m.facts.cells
  pub nodes_told : body_answer nodes_of (asked nodes_of t) k b ≡ Some m.facts.nodes
  pub literal_told : body_answer literal_of (asked literal_of t) k b ≡ Some m.facts.literal
  pub extent_told : body_answer extent_of (asked extent_of t) k b ≡ Some m.extent
  pub good : IsGood m
  pub some_cells : 1 ≤ m.facts.cells
  pub few_parts : length b.bases + length b.fields + 1 ≤ m.facts.nodes

abbrev pub BodyMeasured : Tables → ClassKey → ClassBody → Result Measure TypeAnswer → Type 0
BodyMeasured t k b (Ok m) = BodyTold t k b m × (body_refusal t b k ≡ None)
BodyMeasured t k b (Err e) = Refuses (body_refusal t b k) e

abbrev pub IsOpenClass : Option ClassDecl → ClassKey → Type 0
IsOpenClass None k = ⊥
IsOpenClass (Some d) k = (d.body ≡ None) × (d.key ≡ k)
