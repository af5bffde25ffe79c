-- A class that is completed.
use Rattle.std.proofs.Common.{◌≡◌, ℕ, zero, suc, ◌≤◌, Bool, true, false, ◌||◌, List, [], ◌∷◌, ◌++◌, length, map, set, sum, Option, None, Some, Err, ◌⊎◌, inl, inr, refl, sym, ap, subst, ◌∙◌, slice_get, arith, if◌then◌else◌}
use Rattle.std.specs.Prelude.{option_and_then, is_none, is_some, not}
use Rattle.std.specs.List.{list_any}
use Rattle.cx_type_defs.specs.declared.answer.TypeAnswer.{TypeAnswer}
use Rattle.cx_type_defs.specs.declared.answer.TypeAnswer.TheVariants as answer
use Rattle.cx_type_defs.specs.declared.ids.TypeId.{TypeId}
use Rattle.cx_type_defs.specs.declared.ids.ClassId.{ClassId}
use Rattle.cx_type_defs.specs.declared.decl.ClassDecl.{ClassDecl}
use Rattle.cx_type_defs.specs.declared.decl.ClassBody.{ClassBody}
use Rattle.cx_type_defs.specs.declared.decl.ClassKey.{ClassKey}
use Rattle.cx_type_defs.specs.declared.decl.Field.{Field}
use Rattle.cx_type_defs.specs.declared.decl.Extent.{Extent}
use Rattle.cx_types.specs.declared.facts.RowFacts.{RowFacts}
use Rattle.cx_types.specs.declared.facts.Measure.{Measure}
use Rattle.cx_type_defs.specs.Tables.{Tables, Grows, ClassGrows, body_at, with_body, changed_at}
use Rattle.cx_type_defs.specs.Questions.{Question, Part, OfType, OfClass, each, joined, body_answer, class_answer, asked, depth_of, cells_of, nodes_of, literal_of, extent_of, is_complete}
use Rattle.cx_type_defs.specs.Refusals.{is_large, lacks_part, large_body, body_refusal, Refuses}
use Rattle.cx_types.specs.Kept.{KeptRow, KeptClass, KeptBody, ClassTold, Kept}
use Rattle.cx_types.specs.Parts.{AreGood, PartTold, PartsTold, part_of_field, Measured, too_large, BodyTold, IsOpenClass, GatheredVec}
use Rattle.cx_type_defs.proofs.Lists.{slice_get-changed_same, some_inj, Along-at, slice_get-set}
use Rattle.cx_type_defs.proofs.Looking.{Grows-same, Grows-then}
use Rattle.cx_type_defs.proofs.Asked.{asked-body, asked-incomplete}
use Rattle.cx_type_defs.proofs.Growing.{Grows-body}
use Rattle.cx_types.proofs.Keeping.{changed-length, IsKnown-grows, KeptRow-grows, KeptClass-grows}
use Rattle.cx_types.proofs.Totals.{sum-cons}

pub type-told : (t : Tables) (id : TypeId) (f : RowFacts) (x : Option Extent) → KeptRow t id f → asked extent_of t (OfType id) ≡ Some x → PartTold t (OfType id) (record { facts = f.facts; extent = x })
type-told t id f x h e =
    let l = h.later t (Grows-same t) in
    record { told = l.told; extent_told = e; good = record { small = h.small; fits = λ w y. l.fits w (e ∙ ap Some y) } }

pub class-told : (t : Tables) (c : ClassId) (o : Option ClassBody) (m : Measure) → KeptClass t c o (Some m) → PartTold t (OfClass c) m
class-told t c (Some b) m h =
    let l = h.later t (Grows-same t) in
    record { told = l.told; extent_told = l.extent_told; good = record { small = h.small; fits = h.fits } }
class-told t c None m h = absurd h

pub PartsTold-push : {A : Type 0} (t : Tables) (part : A → Part) (xs : List A) (ms : List Measure) (x : A) (m : Measure) → PartsTold t part xs ms → PartTold t (part x) m → PartsTold t part (xs ++ x ∷ []) (ms ++ m ∷ [])
PartsTold-push t part [] [] x m h p = (p, tt)
PartsTold-push t part (y ∷ ys) (n ∷ ms) x m h p = (h.0, PartsTold-push t part ys ms x m h.1 p)
PartsTold-push t part [] (n ∷ ms) x m h p = absurd h
PartsTold-push t part (y ∷ ys) [] x m h p = absurd h

module _ {A : Type 0} (t : Tables) (part : A → Part) where
  pub parts-good : (xs : List A) (ms : List Measure) → PartsTold t part xs ms → AreGood ms
  parts-good [] [] h = tt
  parts-good (x ∷ xs) (m ∷ ms) h = (h.0.good, parts-good xs ms h.1)
  parts-good [] (m ∷ ms) h = absurd h
  parts-good (x ∷ xs) [] h = absurd h

  parts-each : {R : Type 0} (q : Question R) (g : Measure → R) → ((p : Part) (m : Measure) → PartTold t p m → asked q t p ≡ Some (g m)) → (xs : List A) (ms : List Measure) → PartsTold t part xs ms → each (λ x. asked q t (part x)) xs ≡ Some (map g ms)
  parts-each q g h [] [] p = refl
  parts-each q g h (x ∷ xs) (m ∷ ms) p =
      let a = h (part x) m p.0 in
      let b = parts-each q g h xs ms p.1 in
      cc
  parts-each q g h [] (m ∷ ms) p = absurd p
  parts-each q g h (x ∷ xs) [] p = absurd p

  parts-count : (xs : List A) (ms : List Measure) → PartsTold t part xs ms → length xs ≤ sum (map (λ (m : Measure). m.facts.nodes) ms)
  parts-count [] [] p = omega arith
  parts-count (x ∷ xs) (m ∷ ms) p = let a = p.0.good.small.some_nodes in omega (arith, parts-count xs ms p.1, sum-cons m.facts.nodes (map (λ (w : Measure). w.facts.nodes) ms))
  parts-count [] (m ∷ ms) p = absurd p
  parts-count (x ∷ xs) [] p = absurd p

  parts-lack : (lacks : A → Bool) → ((x : A) (m : Measure) → PartTold t (part x) m → lacks x ≡ false) → (xs : List A) (ms : List Measure) → PartsTold t part xs ms → list_any lacks xs ≡ false
  parts-lack lacks h [] [] p = refl
  parts-lack lacks h (x ∷ xs) (m ∷ ms) p = ap (λ b. b || list_any lacks xs) (h x m p.0) ∙ parts-lack lacks h xs ms p.1
  parts-lack lacks h [] (m ∷ ms) p = absurd p
  parts-lack lacks h (x ∷ xs) [] p = absurd p

class-complete : (t : Tables) (c : ClassId) (m : Measure) → PartTold t (OfClass c) m → is_none (body_at t c) ≡ false
class-complete t c m h = of (body_at t c) refl
  where
    of : (o : Option ClassBody) → body_at t c ≡ o → is_none o ≡ false
    of None e = let z : Some m.extent ≡ None = sym h.extent_told ∙ asked-incomplete extent_of t c e in absurd (cc)
    of (Some b) e = refl

field-complete : (t : Tables) (f : Field) (m : Measure) → PartTold t (part_of_field f) m → not (is_complete t f.ty) ≡ false
field-complete t f m h = ap (λ o. not (is_some o)) h.extent_told

module _ (t : Tables) (k : ClassKey) (b : ClassBody) (bs fs : List Measure) (pb : PartsTold t OfClass b.bases bs) (pf : PartsTold t part_of_field b.fields fs) where
  body-of : {R : Type 0} (q : Question R) (g : Measure → R) → ((p : Part) (m : Measure) → PartTold t p m → asked q t p ≡ Some (g m)) → body_answer q (asked q t) k b ≡ Some (q.of_class k b.flags (map g bs) (map g fs))
  body-of q g h =
      ap (λ o. joined (q.of_class k b.flags) o (each (λ (f : Field). asked q t (OfType f.ty)) b.fields)) (parts-each t OfClass q g h b.bases bs pb)
      ∙ ap (joined (q.of_class k b.flags) (Some (map g bs))) (parts-each t part_of_field q g h b.fields fs pf)

  depth-body : body_answer depth_of (asked depth_of t) k b ≡ Some (depth_of.of_class k b.flags (map (λ (m : Measure). m.facts.depth) bs) (map (λ (m : Measure). m.facts.depth) fs))
  depth-body = body-of depth_of (λ m. m.facts.depth) (λ p m h. h.told.depth_told)

  cells-body : body_answer cells_of (asked cells_of t) k b ≡ Some (cells_of.of_class k b.flags (map (λ (m : Measure). m.facts.cells) bs) (map (λ (m : Measure). m.facts.cells) fs))
  cells-body = body-of cells_of (λ m. m.facts.cells) (λ p m h. h.told.cells_told)

  nodes-body : body_answer nodes_of (asked nodes_of t) k b ≡ Some (nodes_of.of_class k b.flags (map (λ (m : Measure). m.facts.nodes) bs) (map (λ (m : Measure). m.facts.nodes) fs))
  nodes-body = body-of nodes_of (λ m. m.facts.nodes) (λ p m h. h.told.nodes_told)

  lacks-none : lacks_part t b ≡ false
  lacks-none =
      ap (λ x. x || list_any (λ (f : Field). not (is_complete t f.ty)) b.fields) (parts-lack t OfClass (λ c. is_none (body_at t c)) (class-complete t) b.bases bs pb)
      ∙ parts-lack t part_of_field (λ (f : Field). not (is_complete t f.ty)) (field-complete t) b.fields fs pf

  large-is : large_body t k b ≡ too_large k b.flags bs fs
  large-is =
      ap (λ o. is_large o (body_answer cells_of (asked cells_of t) k b) (body_answer nodes_of (asked nodes_of t) k b)) depth-body
      ∙ ap (λ o. is_large (Some (depth_of.of_class k b.flags (map (λ (m : Measure). m.facts.depth) bs) (map (λ (m : Measure). m.facts.depth) fs))) o (body_answer nodes_of (asked nodes_of t) k b)) cells-body
      ∙ ap (λ o. is_large (Some (depth_of.of_class k b.flags (map (λ (m : Measure). m.facts.depth) bs) (map (λ (m : Measure). m.facts.depth) fs))) (Some (cells_of.of_class k b.flags (map (λ (m : Measure). m.facts.cells) bs) (map (λ (m : Measure). m.facts.cells) fs))) o) nodes-body

  pub refusal-large : too_large k b.flags bs fs ≡ true → body_refusal t b k ≡ Some answer.TooLarge
  refusal-large h = ap (λ x. if x then Some answer.Incomplete else if large_body t k b then Some answer.TooLarge else None) lacks-none ∙ ap (λ x. if x then Some answer.TooLarge else None) (large-is ∙ h)

  pub refusal-none : too_large k b.flags bs fs ≡ false → body_refusal t b k ≡ None
  refusal-none h = ap (λ x. if x then Some answer.Incomplete else if large_body t k b then Some answer.TooLarge else None) lacks-none ∙ ap (λ x. if x then Some answer.TooLarge else None) (large-is ∙ h)

  pub body-told : (m : Measure) → Measured k b.flags bs fs m → BodyTold t k b m
  body-told m h = record {
    depth_told = depth-body ∙ ap Some (sym h.depth_by);
    cells_told = cells-body ∙ ap Some (sym h.cells_by);
    nodes_told = nodes-body ∙ ap Some (sym h.nodes_by);
    literal_told = body-of literal_of (λ m. m.facts.literal) (λ p m h. h.told.literal_told) ∙ ap Some (sym h.literal_by);
    extent_told = body-of extent_of (λ m. m.extent) (λ p m h. h.extent_told) ∙ ap Some (sym h.extent_by);
    good = h.good;
    some_cells = (let z = h.cells_by in omega arith);
    few_parts = (let z = h.nodes_by in omega (arith, parts-count t OfClass b.bases bs pb, parts-count t part_of_field b.fields fs pf));
  }

pub refusal-bases : (t : Tables) (k : ClassKey) (b : ClassBody) → list_any (λ c. is_none (body_at t c)) b.bases ≡ true → body_refusal t b k ≡ Some answer.Incomplete
refusal-bases t k b h = ap (λ x. if (x || list_any (λ (f : Field). not (is_complete t f.ty)) b.fields) then Some answer.Incomplete else if large_body t k b then Some answer.TooLarge else None) h

or-right : (a b : Bool) → b ≡ true → (a || b) ≡ true
or-right true b h = refl
or-right false b h = h

pub refusal-fields : (t : Tables) (k : ClassKey) (b : ClassBody) → list_any (λ (f : Field). not (is_complete t f.ty)) b.fields ≡ true → body_refusal t b k ≡ Some answer.Incomplete
refusal-fields t k b h = ap (λ x. if x then Some answer.Incomplete else if large_body t k b then Some answer.TooLarge else None) (or-right (list_any (λ c. is_none (body_at t c)) b.bases) (list_any (λ (f : Field). not (is_complete t f.ty)) b.fields) h)

-- the tables with the class complete

pub slice_get-changed : {A : Type 0} (f : A → A) (xs : List A) (k i : ℕ) (y : A) → slice_get (changed_at f xs k) i ≡ Some y → ((i ≡ k) × (x : A) × (slice_get xs i ≡ Some x) × (y ≡ f x)) ⊎ ((i ≡ k → ⊥) × (slice_get xs i ≡ Some y))
slice_get-changed f [] k i y e = absurd (cc)
slice_get-changed f (x ∷ xs) zero zero y e = inl (refl, x, refl, sym (some_inj (f x) y e))
slice_get-changed f (x ∷ xs) zero (suc i) y e = inr ((λ z. omega arith), e)
slice_get-changed f (x ∷ xs) (suc k) zero y e = inr ((λ z. omega arith), e)
slice_get-changed f (x ∷ xs) (suc k) (suc i) y e =
    elim (slice_get-changed f xs k i y e) as (λ _. ((suc i ≡ suc k) × (w : _) × (slice_get xs i ≡ Some w) × (y ≡ f w)) ⊎ ((suc i ≡ suc k → ⊥) × (slice_get xs i ≡ Some y)))
    [ inl h ↦ inl (ap suc h.0, h.1, h.2, h.3) | inr h ↦ inr ((λ z. let w : i ≡ k = omega arith in h.0 w), h.1) ]

module _ (t : Tables) (c : ClassId) (k : ClassKey) (b : ClassBody) (m : Measure) (d : ClassDecl) (at : slice_get t.classes c.0 ≡ Some d) (none : d.body ≡ None) (key : d.key ≡ k) (told : BodyTold t k b m) where
  grown : Grows t (with_body t c b)
  grown = Grows-body t c b d at none

  answer-at : (v : Tables) → Grows (with_body t c b) v → (R : Type 0) (q : Question R) (below : Part → Option R) → class_answer q below (slice_get v.classes c.0) ≡ body_answer q below k b
  answer-at v g R q below =
      let a = Along-at ClassGrows (with_body t c b).classes v.classes g.class_list c.0 (record d { body = Some b }) (slice_get-changed_same (λ (w : ClassDecl). record w { body = Some b }) t.classes c.0 d at) in
      ap (class_answer q below) a.1 ∙ ap (option_and_then (body_answer q below a.0.key)) a.2.body_stays ∙ ap (λ z. body_answer q below z b) (a.2.same_key ∙ key)

  class-later : (v : Tables) → Grows (with_body t c b) v → ClassTold v c m
  class-later v g =
      let gt = Grows-then t (with_body t c b) v grown g in
      let at' = answer-at v g in
      let l = told.good.small.few_levels in
      record {
        told = record {
          depth_told = asked-body depth_of t v gt c k b at' m.facts.depth told.depth_told l m.facts.depth told.depth_told;
          cells_told = asked-body cells_of t v gt c k b at' m.facts.depth told.depth_told l m.facts.cells told.cells_told;
          nodes_told = asked-body nodes_of t v gt c k b at' m.facts.depth told.depth_told l m.facts.nodes told.nodes_told;
          literal_told = asked-body literal_of t v gt c k b at' m.facts.depth told.depth_told l m.facts.literal told.literal_told;
        };
        extent_told = asked-body extent_of t v gt c k b at' m.facts.depth told.depth_told l m.extent told.extent_told;
      }

  kept-body : KeptBody (with_body t c b) c b m
  kept-body = record { small = told.good.small; fits = told.good.fits; some_cells = told.some_cells; few_parts = told.few_parts; later = class-later }

  pub Kept-body : (rf : List RowFacts) (ms : List (Option Measure)) → Kept t rf ms → Kept (with_body t c b) rf (set ms c.0 (Some m))
  Kept-body rf ms h = record {
    each_row = h.each_row;
    each_class = length-set' ms c.0 (Some m) ∙ h.each_class ∙ sym (changed-length (λ (w : ClassDecl). record w { body = Some b }) t.classes c.0);
    known = λ i r e. IsKnown-grows t (with_body t c b) (omega arith) (let z = changed-length (λ (w : ClassDecl). record w { body = Some b }) t.classes c.0 in omega arith) (omega arith) r.kind (h.known i r e);
    older = h.older;
    normal = h.normal;
    once = h.once;
    rows_kept = λ id r f e x n. KeptRow-grows t (with_body t c b) grown id f (h.rows_kept id r f e x n);
    classes_kept = λ i w o e x. kept-of i w o (slice_get-changed (λ (v : ClassDecl). record v { body = Some b }) t.classes c.0 i.0 w e) (slice_get-set ms c.0 (Some m) i.0 o x);
  }
    where
      length-set' : {A : Type 0} (xs : List A) (i : ℕ) (y : A) → length (set xs i y) ≡ length xs
      length-set' [] i y = refl
      length-set' (x ∷ xs) zero y = refl
      length-set' (x ∷ xs) (suc i) y = ap suc (length-set' xs i y)

      kept-of : (i : ClassId) (w : ClassDecl) (o : Option Measure) → ((i.0 ≡ c.0) × (x : ClassDecl) × (slice_get t.classes i.0 ≡ Some x) × (w ≡ record x { body = Some b })) ⊎ ((i.0 ≡ c.0 → ⊥) × (slice_get t.classes i.0 ≡ Some w)) → ((i.0 ≡ c.0) × (o ≡ Some m)) ⊎ ((i.0 ≡ c.0 → ⊥) × (slice_get ms i.0 ≡ Some o)) → KeptClass (with_body t c b) i w.body o
      kept-of i w o (inl p) (inl r) =
          subst (λ z. KeptClass (with_body t c b) i z o) (sym (ap (λ (v : ClassDecl). v.body) p.3)) (subst (λ z. KeptClass (with_body t c b) i (Some b) z) (sym r.1) (subst (λ (n : ℕ). KeptBody (with_body t c b) (record { 0 = n }) b m) (sym p.0) kept-body))
      kept-of i w o (inl p) (inr r) = absurd (r.0 p.0)
      kept-of i w o (inr p) (inl r) = absurd (p.0 r.0)
      kept-of i w o (inr p) (inr r) = KeptClass-grows t (with_body t c b) grown i w.body o (h.classes_kept i w o p.1 r.1)

pub Kept-open : (t : Tables) (c : ClassId) (k : ClassKey) (b : ClassBody) (m : Measure) (rf : List RowFacts) (ms : List (Option Measure)) → IsOpenClass (slice_get t.classes c.0) k → BodyTold t k b m → Kept t rf ms → Kept (with_body t c b) rf (set ms c.0 (Some m))
Kept-open t c k b m rf ms o told h = of (slice_get t.classes c.0) refl o
  where
    of : (w : Option ClassDecl) → slice_get t.classes c.0 ≡ w → IsOpenClass w k → Kept (with_body t c b) rf (set ms c.0 (Some m))
    of None e x = absurd x
    of (Some d) e x = Kept-body t c k b m d e x.0 x.1 told rf ms h

pub gathered-bases : (t : Tables) (k : ClassKey) (b : ClassBody) (xs : List ClassId) (e : TypeAnswer) → xs ≡ b.bases → GatheredVec t OfClass (λ c. is_none (body_at t c)) xs (Err e) → Refuses (body_refusal t b k) e
gathered-bases t k b xs answer.Incomplete same h = inr (refusal-bases t k b (subst (λ (l : List ClassId). list_any (λ c. is_none (body_at t c)) l ≡ true) same h))
gathered-bases t k b xs answer.TooLarge same h = absurd h
gathered-bases t k b xs answer.Memory same h = inl refl

pub gathered-fields : (t : Tables) (k : ClassKey) (b : ClassBody) (xs : List Field) (e : TypeAnswer) → xs ≡ b.fields → GatheredVec t part_of_field (λ (f : Field). not (is_complete t f.ty)) xs (Err e) → Refuses (body_refusal t b k) e
gathered-fields t k b xs answer.Incomplete same h = inr (refusal-fields t k b (subst (λ (l : List Field). list_any (λ (f : Field). not (is_complete t f.ty)) l ≡ true) same h))
gathered-fields t k b xs answer.TooLarge same h = absurd h
gathered-fields t k b xs answer.Memory same h = inl refl
