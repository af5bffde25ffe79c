-- The slots of bases: where one of them stands, and that their number stays where the tables grow.
use Rattle.std.proofs.Common.{◌≡◌, ℕ, zero, suc, ◌+◌, ◌<◌, ◌≤◌, Bool, true, false, ◌||◌, List, [], ◌∷◌, length, map, take, get_or, sum, Option, None, Some, refl, sym, ap, subst, ◌∙◌, slice_get, arith}
use Rattle.std.specs.Prelude.{IfSome, option_map, option_and_then, unwrap_or, nat_lt, if◌then◌else◌}
use Rattle.std.specs.List.{list_any}
use Rattle.std.proofs.lemmas.Bool.{lt-ltb, le-ltb, ltb-true}
use Rattle.std.proofs.lemmas.List.Sums.{sum-map, sum_by-take-le, sum_by_more_le}
use Rattle.cx_type_defs.specs.declared.ids.ClassId.{ClassId}
use Rattle.cx_type_defs.specs.declared.decl.ClassDecl.{ClassDecl}
use Rattle.cx_type_defs.specs.declared.decl.ClassBody.{ClassBody}
use Rattle.cx_type_defs.specs.declared.decl.ClassKey.{ClassKey}
use Rattle.cx_type_defs.specs.declared.decl.Field.{Field}
use Rattle.cx_type_defs.specs.Tables.{Tables, Grows, body_at}
use Rattle.cx_type_defs.specs.Slots.{slot_count, base_slots, slot_among}
use Rattle.cx_type_defs.specs.Questions.{OfType, OfClass, each, body_answer, asked, depth_of}
use Rattle.cx_type_defs.specs.Bodies.{body_has_virtual, IsFit}
use Rattle.cx_types.specs.Kept.{SlotsFit, StaysFit}
use Rattle.cx_type_defs.proofs.Lists.{some_inj, option_map-some, joined-some, both-some}
use Rattle.cx_type_defs.proofs.Looking.{Grows-same, Grows-then}
use Rattle.cx_type_defs.proofs.Growing.{body-stays}
use Rattle.cx_type_defs.proofs.Asked.{asked-incomplete, asked-has_body}
use Rattle.cx_types.proofs.Totals.{sum-cons}

slots-of : Option ClassBody → ℕ
slots-of o = length (unwrap_or (option_map (λ (b : ClassBody). b.slots) o) [])

-- the slots of a complete class stay
count-stays : (t u : Tables) → Grows t u → (c : ClassId) (n : ℕ) → asked depth_of t (OfClass c) ≡ Some n → slot_count u c ≡ slot_count t c
unfolding slots-of
count-stays t u g c n e = of (body_at t c) refl
  where
    of : (o : Option ClassBody) → body_at t c ≡ o → slot_count u c ≡ slot_count t c
    of None h = let z : Some n ≡ None = sym e ∙ asked-incomplete depth_of t c h in absurd (cc)
    of (Some b) h = ap slots-of (body-stays t u g c b h) ∙ ap slots-of (sym h)

counts-stay : (t u : Tables) → Grows t u → (cs : List ClassId) (ns : List ℕ) → each (λ c. asked depth_of t (OfClass c)) cs ≡ Some ns → sum (map (slot_count u) cs) ≡ sum (map (slot_count t) cs)
counts-stay t u g [] ns e = refl
counts-stay t u g (c ∷ cs) ns e =
    let i = both-some (asked depth_of t (OfClass c)) (each (λ c. asked depth_of t (OfClass c)) cs) ns e in
    let a = count-stays t u g c i.0 i.2 in
    let b = counts-stay t u g cs i.1 i.3 in
    omega (arith, sum-cons (slot_count u c) (map (slot_count u) cs), sum-cons (slot_count t c) (map (slot_count t) cs))

-- the bases of a class whose depth is found are complete
pub base_slots-stay : (t u : Tables) → Grows t u → (k : ClassKey) (b : ClassBody) (d : ℕ) → body_answer depth_of (asked depth_of t) k b ≡ Some d → base_slots u b ≡ base_slots t b
base_slots-stay t u g k b d e =
    let i = joined-some (depth_of.of_class k b.flags) (each (λ c. asked depth_of t (OfClass c)) b.bases) (each (λ (f : Field). asked depth_of t (OfType f.ty)) b.fields) d e in
    counts-stay t u g b.bases i.0 i.2

pub SlotsFit-grows : (t u : Tables) → Grows t u → (o : Option ClassBody) → SlotsFit t o → SlotsFit u o
SlotsFit-grows t u g None h = tt
SlotsFit-grows t u g (Some b) h = record { few_slots = h.few_slots; bases_fit = λ v w. h.bases_fit v (Grows-then t u v g w) }

-- whether a base has virtual functions is told once and for all

virtual-stays : (t u : Tables) → Grows t u → (cs : List ClassId) (ns : List ℕ) → each (λ c. asked depth_of t (OfClass c)) cs ≡ Some ns → list_any (λ c. body_has_virtual (body_at u c)) cs ≡ list_any (λ c. body_has_virtual (body_at t c)) cs
virtual-stays t u g [] ns e = refl
virtual-stays t u g (c ∷ cs) ns e =
    let i = both-some (asked depth_of t (OfClass c)) (each (λ c. asked depth_of t (OfClass c)) cs) ns e in
    let b = asked-has_body depth_of t c i.0 i.2 in
    ap (λ o. body_has_virtual o || list_any (λ w. body_has_virtual (body_at u w)) cs) (body-stays t u g c b.0 b.1 ∙ sym b.1)
    ∙ ap (λ v. body_has_virtual (body_at t c) || v) (virtual-stays t u g cs i.1 i.3)

pub fit-stays : (t u : Tables) → Grows t u → (k : ClassKey) (b : ClassBody) (d : ℕ) → body_answer depth_of (asked depth_of t) k b ≡ Some d → IsFit t k b → IsFit u k b
fit-stays t u g k b d e h =
    let i = joined-some (depth_of.of_class k b.flags) (each (λ c. asked depth_of t (OfClass c)) b.bases) (each (λ (f : Field). asked depth_of t (OfType f.ty)) b.fields) d e in
    let same = virtual-stays t u g b.bases i.0 i.2 in
    record { alone = h.alone; tells_virtual = λ n. h.tells_virtual (ap (λ v. nat_lt 0 (length b.slots) || (b.flags.virtual_dtor || v)) (sym same) ∙ n) }

pub StaysFit-grows : (t u : Tables) → Grows t u → (k : ClassKey) (o : Option ClassBody) → StaysFit t k o → StaysFit u k o
StaysFit-grows t u g k None h = tt
StaysFit-grows t u g k (Some b) h = λ v w. h v (Grows-then t u v g w)

-- where a slot of a base stands

pub among-none : (count : ClassId → ℕ) (cs : List ClassId) (i k : ℕ) → length cs ≤ i → slot_among count cs i k ≡ None
among-none count [] i k h = refl
among-none count (c ∷ cs) zero k h = absurd (omega arith)
among-none count (c ∷ cs) (suc i) k h = ap (option_map (λ n. count c + n)) (among-none count cs i k (omega arith))

pub among-large : (count : ClassId → ℕ) (cs : List ClassId) (i k : ℕ) (d : ClassId) → i < length cs → count (get_or cs i d) ≤ k → slot_among count cs i k ≡ None
among-large count [] i k d l h = refl
among-large count (x ∷ xs) zero k d l h = ap (λ b. if b then Some k else None) (le-ltb k (count x) h)
among-large count (x ∷ xs) (suc i) k d l h = ap (option_map (λ n. count x + n)) (among-large count xs i k d (omega arith) h)

pub among-found : (count : ClassId → ℕ) (cs : List ClassId) (i k : ℕ) (d : ClassId) → i < length cs → k < count (get_or cs i d) → slot_among count cs i k ≡ Some (sum (map count (take i cs)) + k)
among-found count [] i k d l h = absurd (omega arith)
among-found count (x ∷ xs) zero k d l h = ap (λ b. if b then Some k else None) (lt-ltb k (count x) h) ∙ ap Some (let z : k ≡ 0 + k = omega arith in z)
among-found count (x ∷ xs) (suc i) k d l h =
    let s : count x + (sum (map count (take i xs)) + k) ≡ sum (map count (x ∷ take i xs)) + k = omega (arith, sum-cons (count x) (map count (take i xs))) in
    ap (option_map (λ n. count x + n)) (among-found count xs i k d (omega arith) h) ∙ ap Some s

-- it is one of the slots of the bases
pub among-below : (count : ClassId → ℕ) (cs : List ClassId) (i k n : ℕ) → slot_among count cs i k ≡ Some n → n < sum (map count cs)
among-below count [] i k n e = absurd (cc)
among-below count (x ∷ xs) zero k n e = of (nat_lt k (count x)) refl e
  where
    of : (b : Bool) → nat_lt k (count x) ≡ b → (if b then Some k else None) ≡ Some n → n < sum (map count (x ∷ xs))
    of true t h = let l = ltb-true k (count x) t in let same : k ≡ n = some_inj k n h in omega (arith, sum-cons (count x) (map count xs))
    of false t h = absurd (cc)
among-below count (x ∷ xs) (suc i) k n e =
    let w = option_map-some (λ m. count x + m) (slot_among count xs i k) n e in
    let l = among-below count xs i k w.0 w.1 in
    let s = w.2 in
    omega (arith, sum-cons (count x) (map count xs))

pub bases-within : (t : Tables) (o : Option ClassBody) (b : ClassBody) → SlotsFit t o → o ≡ Some b → (base_slots t b ≤ length b.slots) × (length b.slots < 4294967296)
bases-within t None b h e = absurd (cc)
bases-within t (Some a) b h e = subst (λ (w : ClassBody). (base_slots t w ≤ length w.slots) × (length w.slots < 4294967296)) (some_inj a b e) (h.bases_fit t (Grows-same t), h.few_slots)

pub within-class : (t : Tables) (c : ClassId) (d : ClassDecl) (b : ClassBody) (cs : List ClassId) (i k : ℕ) (o : Option ℕ) → slice_get t.classes c.0 ≡ Some d → SlotsFit t d.body → d.body ≡ Some b → cs ≡ b.bases → o ≡ slot_among (slot_count t) cs i k → IfSome o (λ n. n < slot_count t c)
unfolding slots-of
within-class t c d b cs i k None at fit e same is = tt
within-class t c d b cs i k (Some n) at fit e same is =
    let count : slot_count t c ≡ length b.slots = ap (λ (o : Option ClassDecl). slots-of (option_and_then (λ (w : ClassDecl). w.body) o)) at ∙ ap slots-of e in
    let w = bases-within t d.body b fit e in
    let l = among-below (slot_count t) b.bases i k n (ap (λ l. slot_among (slot_count t) l i k) (sym same) ∙ sym is) in
    let few = w.0 in
    omega arith

-- sums over the first bases

pub sum-more : (count : ClassId → ℕ) (cs : List ClassId) (i : ℕ) (d : ClassId) → i < length cs → sum (map count (take i cs)) + count (get_or cs i d) ≤ sum (map count cs)
sum-more count cs i d h = omega (arith, sum_by_more_le count cs i d h, sum-map count (take i cs), sum-map count cs)

pub sum-before : (count : ClassId → ℕ) (cs : List ClassId) (i : ℕ) → sum (map count (take i cs)) ≤ sum (map count cs)
sum-before count cs i = omega (arith, sum_by-take-le count cs i, sum-map count (take i cs), sum-map count cs)
