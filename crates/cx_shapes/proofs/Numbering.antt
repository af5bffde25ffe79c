-- A part's steps and its number determine each other.
use Rattle.std.proofs.Common.{◌≡◌, ℕ, zero, suc, ◌+◌, ◌*◌, ◌-◌, ◌/◌, ◌<◌, ◌≤◌, nat_lt, Bool, true, false, List, [], ◌∷◌, ◌++◌, Option, None, Some, inl, inr, refl, sym, ap, subst, ◌∙◌, arith, if◌then◌else◌}
use Rattle.std.proofs.lemmas.Bool.{cases_Bool, ltb-true, lt-ltb}
use Rattle.std.proofs.lemmas.Nat.{div-mul-add}
use Rattle.std.proofs.Math.Nat.{div-mul-le_self, lt-div-mul-add, suc-mul, mul-le-mul_right}
use borrow.Author.Tests.{ltb-false}
use Rattle.std.specs.Prelude.{option_map, option_and_then}
use Rattle.cx_type_defs.proofs.Lists.{some_inj, option_map-some, option_and_then-some}
use Rattle.cx_type_defs.specs.declared.ids.Step.{Step}
use Rattle.cx_type_defs.specs.declared.ids.Step.TheVariants as step
use Rattle.cx_shapes.specs.Forms.{Form, Forms, Leaf, Row, Class, Union, End, More, size, sizes, Part, further, item, part_of, below_of, Found, later, search, Way, by, way, Leads, steps_in, steps_at, Stands}

pub size_pos : (f : Form) → 1 ≤ size f
size_pos Leaf = omega arith
size_pos (Row n f) = omega arith
size_pos (Class bs ms) = omega arith
size_pos (Union ms) = omega arith

-- tests

pub lt_true : (a b : ℕ) → nat_lt a b ≡ true → a < b
lt_true a b e = ltb-true a b e

pub lt_false : (a b : ℕ) → nat_lt a b ≡ false → b ≤ a
lt_false a b e = ltb-false a b e

pub not_lt : (a b : ℕ) → b ≤ a → nat_lt a b ≡ false
not_lt a b h = elim (cases_Bool (nat_lt a b)) as (λ _. nat_lt a b ≡ false) [ inl e ↦ (let w = lt_true a b e in absurd (omega arith)) | inr e ↦ e ]

-- an if with None on its other side
pub if_some : {A : Type 0} (b : Bool) (a x : A) → (if b then Some a else None) ≡ Some x → (b ≡ true) × (a ≡ x)
if_some true a x e = (refl, some_inj a x e)
if_some false a x e = absurd (cc)

-- lists

pub item_fits : (fs : Forms) (i : ℕ) (p : Part) → item fs i ≡ Some p → p.0 + size p.1 ≤ sizes fs
item_fits End i p e = absurd (cc)
item_fits (More f fs) zero p e = let w = some_inj (0, f) p e in subst (λ (q : Part). q.0 + size q.1 ≤ size f + sizes fs) w (omega arith)
item_fits (More f fs) (suc i) p e =
    let h = option_map-some (further (size f)) (item fs i) p e in
    let k : h.0.0 + size h.0.1 ≤ sizes fs = item_fits fs i h.0 h.1 in
    subst (λ (q : Part). q.0 + size q.1 ≤ size f + sizes fs) h.2 (omega arith)

-- an item holds a number
pub record Holds (fs : Forms) (j : ℕ) (x : Found) : Type 0 where
  pub is_item : item fs x.0 ≡ Some (x.1, x.2)
  pub from : x.1 ≤ j
  pub before : j < x.1 + size x.2

pub search_holds : (fs : Forms) (j : ℕ) (x : Found) → search fs j ≡ Some x → Holds fs j x
search_holds End j x e = absurd (cc)
search_holds (More f fs) j x e = elim (cases_Bool (nat_lt j (size f))) as (λ _. Holds (More f fs) j x) [
  | inl h ↦ (
      let w : (0, 0, f) ≡ x = some_inj (0, 0, f) x (sym (ap (λ b. if b then Some (0, 0, f) else option_map (later (size f)) (search fs (j - size f))) h) ∙ e) in
      let l : j < size f = lt_true j (size f) h in
      subst (Holds (More f fs) j) w (record { is_item = refl; from = omega arith; before = omega arith }))
  | inr h ↦ (
      let l : size f ≤ j = lt_false j (size f) h in
      let m = option_map-some (later (size f)) (search fs (j - size f)) x (sym (ap (λ b. if b then Some (0, 0, f) else option_map (later (size f)) (search fs (j - size f))) h) ∙ e) in
      let k : Holds fs (j - size f) m.0 = search_holds fs (j - size f) m.0 m.1 in
      let a : m.0.1 ≤ j - size f = k.from in
      let b : j - size f < m.0.1 + size m.0.2 = k.before in
      subst (Holds (More f fs) j) m.2 (record { is_item = ap (option_map (further (size f))) k.is_item; from = omega arith; before = omega arith }))
]

pub holds_search : (fs : Forms) (j : ℕ) (i o : ℕ) (g : Form) → item fs i ≡ Some (o, g) → o ≤ j → j < o + size g → search fs j ≡ Some (i, o, g)
holds_search End j i o g e a b = absurd (cc)
holds_search (More f fs) j zero o g e a b =
    let w : (0, f) ≡ (o, g) = some_inj (0, f) (o, g) e in
    let k : j < 0 + size f = subst (λ (q : Part). j < q.0 + size q.1) (sym w) b in
    let l : j < size f = omega arith in
    ap (λ b. if b then Some (0, 0, f) else option_map (later (size f)) (search fs (j - size f))) (lt-ltb j (size f) l) ∙ ap (λ (q : Part). Some (0, q.0, q.1)) w
holds_search (More f fs) j (suc i) o g e a b =
    let h = option_map-some (further (size f)) (item fs i) (o, g) e in
    let z : size f + h.0.0 ≡ o = ap (λ (q : Part). q.0) h.2 in
    let y : h.0.1 ≡ g = ap (λ (q : Part). q.1) h.2 in
    let l : size f ≤ j = omega arith in
    let c : h.0.0 ≤ j - size f = omega arith in
    let s : size h.0.1 ≡ size g = ap size y in
    let d : j - size f < h.0.0 + size h.0.1 = omega arith in
    let n : nat_lt j (size f) ≡ false = not_lt j (size f) l in
    ap (λ b. if b then Some (0, 0, f) else option_map (later (size f)) (search fs (j - size f))) n
    ∙ ap (option_map (later (size f))) (holds_search fs (j - size f) i h.0.0 h.0.1 h.1 c d)
    ∙ ap (λ (q : Part). Some (suc i, q.0, q.1)) h.2

pub search_some : (fs : Forms) (j : ℕ) → j < sizes fs → (x : Found) × (search fs j ≡ Some x)
search_some End j h = absurd (omega arith)
search_some (More f fs) j h = elim (cases_Bool (nat_lt j (size f))) as (λ _. (x : Found) × (search (More f fs) j ≡ Some x)) [
  | inl e ↦ ((0, 0, f), ap (λ b. if b then Some (0, 0, f) else option_map (later (size f)) (search fs (j - size f))) e)
  | inr e ↦ (
      let l : size f ≤ j = lt_false j (size f) e in
      let m = search_some fs (j - size f) (omega arith) in
      (later (size f) m.0, ap (λ b. if b then Some (0, 0, f) else option_map (later (size f)) (search fs (j - size f))) e ∙ ap (option_map (later (size f))) m.1))
]

-- parts

-- a part lies within, behind the first
pub record Within (f : Form) (p : Part) : Type 0 where
  pub behind : 1 ≤ p.0
  pub within : p.0 + size p.1 ≤ size f

pub further_fits : (n : ℕ) (o : Option Part) (p : Part) (bound : ℕ) → ((q : Part) → o ≡ Some q → q.0 + size q.1 ≤ bound) → option_map (further n) o ≡ Some p → (n ≤ p.0) × (p.0 + size p.1 ≤ n + bound)
further_fits n o p bound h e =
    let m = option_map-some (further n) o p e in
    let k : m.0.0 + size m.0.1 ≤ bound = h m.0 m.1 in
    subst (λ (q : Part). (n ≤ q.0) × (q.0 + size q.1 ≤ n + bound)) m.2 (omega arith, omega arith)

pub part_fits : (f : Form) (s : Step) (p : Part) → part_of f s ≡ Some p → Within f p
part_fits (Row n f) (step.Elem i) p e =
    let h = if_some (nat_lt i n) (suc (i * size f), f) p e in
    let l : i < n = lt_true i n h.0 in
    let m : suc i * size f ≤ n * size f = mul-le-mul_right (size f) l in
    let k : suc i * size f ≡ i * size f + size f = suc-mul i (size f) in
    subst (Within (Row n f)) h.1 (record { behind = omega arith; within = omega arith })
part_fits (Class bs ms) (step.Base i) p e = let h = further_fits 1 (item bs i) p (sizes bs) (item_fits bs i) e in record { behind = h.0; within = omega arith }
part_fits (Class bs ms) (step.Field i) p e = let h = further_fits (suc (sizes bs)) (item ms i) p (sizes ms) (item_fits ms i) e in record { behind = omega arith; within = omega arith }
part_fits (Union ms) (step.Field i) p e = let h = further_fits 1 (item ms i) p (sizes ms) (item_fits ms i) e in record { behind = h.0; within = omega arith }
part_fits Leaf s p e = absurd (cc)
part_fits (Row n f) (step.Base i) p e = absurd (cc)
part_fits (Row n f) (step.Field i) p e = absurd (cc)
part_fits (Class bs ms) (step.Elem i) p e = absurd (cc)
part_fits (Union ms) (step.Elem i) p e = absurd (cc)
part_fits (Union ms) (step.Base i) p e = absurd (cc)

by_leads : (f : Form) (s : ℕ → Step) (n : ℕ) (fs : Forms) (j : ℕ) (w : Way) → 1 ≤ n → n ≤ suc j → ((i : ℕ) → part_of f (s i) ≡ option_map (further n) (item fs i))
    → option_map (by s n) (search fs (suc j - n)) ≡ Some w → Leads f j w
by_leads f s n fs j w y l h e =
    let m = option_map-some (by s n) (search fs (suc j - n)) w e in
    let k : Holds fs (suc j - n) m.0 = search_holds fs (suc j - n) m.0 m.1 in
    let a : m.0.1 ≤ suc j - n = k.from in
    let b : suc j - n < m.0.1 + size m.0.2 = k.before in
    subst (Leads f j) m.2 (record { is_part = h m.0.0 ∙ ap (option_map (further n)) k.is_item; behind = omega arith; from = omega arith; before = omega arith })

pub quotient_below : (j n k : ℕ) → j < n * k → j / k * k ≤ j → j / k < n
quotient_below j n k l a = elim (cases_Bool (nat_lt (j / k) n)) as (λ _. j / k < n) [
  | inl e ↦ lt_true (j / k) n e
  | inr e ↦ (let g : n ≤ j / k = lt_false (j / k) n e in let m : n * k ≤ j / k * k = mul-le-mul_right k g in absurd (omega arith))
]

pub way_leads : (f : Form) (j : ℕ) (w : Way) → way f j ≡ Some w → Leads f j w
way_leads Leaf j w e = absurd (cc)
way_leads (Row n f) j w e =
    let h = if_some (nat_lt j (n * size f)) (step.Elem (j / size f), suc (j / size f * size f), f) w e in
    let l : j < n * size f = lt_true j (n * size f) h.0 in
    let p : 1 ≤ size f = size_pos f in
    let a : j / size f * size f ≤ j = div-mul-le_self j (size f) in
    let b : j < j / size f * size f + size f = lt-div-mul-add {a = j} {b = size f} p in
    let c : j / size f < n = quotient_below j n (size f) l a in
    subst (Leads (Row n f) j) h.1 (record { is_part = ap (λ b. if b then Some (suc (j / size f * size f), f) else None) (lt-ltb (j / size f) n c); behind = omega arith; from = omega arith; before = omega arith })
way_leads (Class bs ms) j w e = elim (cases_Bool (nat_lt j (sizes bs))) as (λ _. Leads (Class bs ms) j w) [
  | inl h ↦ by_leads (Class bs ms) step.Base 1 bs j w (omega arith) (omega arith) (λ i. refl)
      (ap (λ k. option_map (by step.Base 1) (search bs k)) (omega arith) ∙ sym (ap (λ b. if b then option_map (by step.Base 1) (search bs j) else option_map (by step.Field (suc (sizes bs))) (search ms (j - sizes bs))) h) ∙ e)
  | inr h ↦ (
      let l : sizes bs ≤ j = lt_false j (sizes bs) h in
      by_leads (Class bs ms) step.Field (suc (sizes bs)) ms j w (omega arith) (omega arith) (λ i. refl)
      (ap (λ k. option_map (by step.Field (suc (sizes bs))) (search ms k)) (omega arith) ∙ sym (ap (λ b. if b then option_map (by step.Base 1) (search bs j) else option_map (by step.Field (suc (sizes bs))) (search ms (j - sizes bs))) h) ∙ e))
]
way_leads (Union ms) j w e = by_leads (Union ms) step.Field 1 ms j w (omega arith) (omega arith) (λ i. refl) (ap (λ k. option_map (by step.Field 1) (search ms k)) (omega arith) ∙ e)

-- the other way round

by_way : (s : ℕ → Step) (n : ℕ) (fs : Forms) (j i : ℕ) (p : Part) → option_map (further n) (item fs i) ≡ Some p → p.0 ≤ suc j → suc j < p.0 + size p.1
    → option_map (by s n) (search fs (suc j - n)) ≡ Some (s i, p.0, p.1)
by_way s n fs j i p e a b =
    let m = option_map-some (further n) (item fs i) p e in
    let c : n + m.0.0 ≡ p.0 = ap (λ (q : Part). q.0) m.2 in
    let d : size m.0.1 ≡ size p.1 = ap (λ (q : Part). size q.1) m.2 in
    ap (option_map (by s n)) (holds_search fs (suc j - n) i m.0.0 m.0.1 m.1 (omega arith) (omega arith)) ∙ ap (λ (q : Part). Some (s i, q.0, q.1)) m.2

pub leads_way : (f : Form) (s : Step) (j : ℕ) (p : Part) → part_of f s ≡ Some p → p.0 ≤ suc j → suc j < p.0 + size p.1 → way f j ≡ Some (s, p.0, p.1)
leads_way (Row n f) (step.Elem i) j p e a b =
    let h = if_some (nat_lt i n) (suc (i * size f), f) p e in
    let l : i < n = lt_true i n h.0 in
    let o : suc (i * size f) ≡ p.0 = ap (λ (q : Part). q.0) h.1 in
    let z : size f ≡ size p.1 = ap (λ (q : Part). size q.1) h.1 in
    let m : suc i * size f ≤ n * size f = mul-le-mul_right (size f) l in
    let k : suc i * size f ≡ i * size f + size f = suc-mul i (size f) in
    let r : j - i * size f < size f = omega arith in
    let y : i * size f + (j - i * size f) ≡ j = omega arith in
    let d : j / size f ≡ i = ap (λ x. x / size f) (sym y) ∙ div-mul-add i (size f) (j - i * size f) r in
    let t : j < n * size f = omega arith in
    ap (λ b. if b then Some (step.Elem (j / size f), suc (j / size f * size f), f) else None) (lt-ltb j (n * size f) t)
    ∙ ap (λ x. Some (step.Elem x, suc (x * size f), f)) d
    ∙ ap (λ (q : Part). Some (step.Elem i, q.0, q.1)) h.1
leads_way (Class bs ms) (step.Base i) j p e a b =
    let h = further_fits 1 (item bs i) p (sizes bs) (item_fits bs i) e in
    let l : j < sizes bs = omega arith in
    ap (λ b. if b then option_map (by step.Base 1) (search bs j) else option_map (by step.Field (suc (sizes bs))) (search ms (j - sizes bs))) (lt-ltb j (sizes bs) l)
    ∙ ap (λ k. option_map (by step.Base 1) (search bs k)) (omega arith) ∙ by_way step.Base 1 bs j i p e a b
leads_way (Class bs ms) (step.Field i) j p e a b =
    let h = further_fits (suc (sizes bs)) (item ms i) p (sizes ms) (item_fits ms i) e in
    let g : suc (sizes bs) ≤ p.0 = h.0 in
    let l : sizes bs ≤ j = omega arith in
    ap (λ b. if b then option_map (by step.Base 1) (search bs j) else option_map (by step.Field (suc (sizes bs))) (search ms (j - sizes bs))) (not_lt j (sizes bs) l)
    ∙ ap (λ k. option_map (by step.Field (suc (sizes bs))) (search ms k)) (omega arith) ∙ by_way step.Field (suc (sizes bs)) ms j i p e a b
leads_way (Union ms) (step.Field i) j p e a b = ap (λ k. option_map (by step.Field 1) (search ms k)) (omega arith) ∙ by_way step.Field 1 ms j i p e a b
leads_way Leaf s j p e a b = absurd (cc)
leads_way (Row n f) (step.Base i) j p e a b = absurd (cc)
leads_way (Row n f) (step.Field i) j p e a b = absurd (cc)
leads_way (Class bs ms) (step.Elem i) j p e a b = absurd (cc)
leads_way (Union ms) (step.Elem i) j p e a b = absurd (cc)
leads_way (Union ms) (step.Base i) j p e a b = absurd (cc)

-- each number within has a way

by_some : (s : ℕ → Step) (n : ℕ) (o : Option Found) → ((x : Found) × (o ≡ Some x)) → (w : Way) × (option_map (by s n) o ≡ Some w)
by_some s n o h = (by s n h.0, ap (option_map (by s n)) h.1)

pub way_some : (f : Form) (j : ℕ) → suc j < size f → (w : Way) × (way f j ≡ Some w)
way_some Leaf j h = absurd (omega arith)
way_some (Row n f) j h =
    let l : j < n * size f = omega arith in
    ((step.Elem (j / size f), suc (j / size f * size f), f), ap (λ b. if b then Some (step.Elem (j / size f), suc (j / size f * size f), f) else None) (lt-ltb j (n * size f) l))
way_some (Class bs ms) j h = elim (cases_Bool (nat_lt j (sizes bs))) as (λ _. (w : Way) × (way (Class bs ms) j ≡ Some w)) [
  | inl e ↦ (
      let m = by_some step.Base 1 (search bs j) (search_some bs j (lt_true j (sizes bs) e)) in
      (m.0, ap (λ b. if b then option_map (by step.Base 1) (search bs j) else option_map (by step.Field (suc (sizes bs))) (search ms (j - sizes bs))) e ∙ m.1))
  | inr e ↦ (
      let l : sizes bs ≤ j = lt_false j (sizes bs) e in
      let m = by_some step.Field (suc (sizes bs)) (search ms (j - sizes bs)) (search_some ms (j - sizes bs) (omega arith)) in
      (m.0, ap (λ b. if b then option_map (by step.Base 1) (search bs j) else option_map (by step.Field (suc (sizes bs))) (search ms (j - sizes bs))) e ∙ m.1))
]
way_some (Union ms) j h = by_some step.Field 1 (search ms j) (search_some ms j (omega arith))

-- steps

pub below_fits : (f : Form) (ss : List Step) (p : Part) → below_of f ss ≡ Some p → p.0 + size p.1 ≤ size f
below_fits f [] p e = subst (λ (q : Part). q.0 + size q.1 ≤ size f) (some_inj (0, f) p e) (omega arith)
below_fits f (s ∷ ss) p e =
    let m = option_and_then-some (λ (p : Part). option_map (further p.0) (below_of p.1 ss)) (part_of f s) p e in
    let w = part_fits f s m.0 m.1 in
    let h : m.0.0 + size m.0.1 ≤ size f = w.within in
    let k = further_fits m.0.0 (below_of m.0.1 ss) p (size m.0.1) (below_fits m.0.1 ss) m.2 in
    omega arith

pub steps_lead : (n : ℕ) (f : Form) (j : ℕ) (ss : List Step) → steps_in n f j ≡ Some ss → (g : Form) × (below_of f ss ≡ Some (j, g))
steps_lead n f zero ss e = (f, ap (below_of f) (sym (some_inj [] ss e)))
steps_lead zero f (suc j) ss e = absurd (cc)
steps_lead (suc n) f (suc j) ss e =
    let m = option_and_then-some (λ (w : Way). option_map (λ ss. w.0 ∷ ss) (steps_in n w.2 (suc j - w.1))) (way f j) ss e in
    let h = option_map-some (λ ss. m.0.0 ∷ ss) (steps_in n m.0.2 (suc j - m.0.1)) ss m.2 in
    let l : Leads f j m.0 = way_leads f j m.0 m.1 in
    let from : m.0.1 ≤ suc j = l.from in
    let i = steps_lead n m.0.2 (suc j - m.0.1) h.0 h.1 in
    let sum : m.0.1 + (suc j - m.0.1) ≡ suc j = omega arith in
    (i.0, ap (below_of f) (sym h.2) ∙ ap (option_and_then (λ (p : Part). option_map (further p.0) (below_of p.1 h.0))) l.is_part ∙ ap (option_map (further m.0.1)) i.1 ∙ ap (λ x. Some (x, i.0)) sum)

pub lead_steps : (n : ℕ) (f : Form) (ss : List Step) (p : Part) → below_of f ss ≡ Some p → p.0 ≤ n → steps_in n f p.0 ≡ Some ss
lead_steps n f [] p e l = ap (steps_in n f) (sym (ap (λ (q : Part). q.0) (some_inj (0, f) p e)))
lead_steps n f (s ∷ ss) p e l =
    let m = option_and_then-some (λ (p : Part). option_map (further p.0) (below_of p.1 ss)) (part_of f s) p e in
    let h = option_map-some (further m.0.0) (below_of m.0.1 ss) p m.2 in
    let w = part_fits f s m.0 m.1 in
    let behind : 1 ≤ m.0.0 = w.behind in
    let fit : h.0.0 + size h.0.1 ≤ size m.0.1 = below_fits m.0.1 ss h.0 h.1 in
    let pos : 1 ≤ size h.0.1 = size_pos h.0.1 in
    let o : m.0.0 + h.0.0 ≡ p.0 = ap (λ (q : Part). q.0) h.2 in
    go n (p.0 - 1) (omega arith) (omega arith) m.0 h.0 m.1 h.1 behind fit pos (omega arith) (λ k b. lead_steps k m.0.1 ss h.0 h.1 b) ∙ refl
  where
    go : (n j : ℕ) → p.0 ≡ suc j → suc j ≤ n → (q r : Part) → part_of f s ≡ Some q → below_of q.1 ss ≡ Some r → 1 ≤ q.0 → r.0 + size r.1 ≤ size q.1 → 1 ≤ size r.1 → q.0 + r.0 ≡ suc j
        → ((k : ℕ) → r.0 ≤ k → steps_in k q.1 r.0 ≡ Some ss) → steps_in n f p.0 ≡ Some (s ∷ ss)
    go zero j is l q r e d b fit pos o ih = absurd (omega arith)
    go (suc n) j is l q r e d b fit pos o ih =
        let z : suc j - q.0 ≡ r.0 = omega arith in
        ap (steps_in (suc n) f) is
        ∙ ap (option_and_then (λ (w : Way). option_map (λ ss. w.0 ∷ ss) (steps_in n w.2 (suc j - w.1)))) (leads_way f s j q e (omega arith) (omega arith))
        ∙ ap (λ k. option_map (λ ss. s ∷ ss) (steps_in n q.1 k)) z
        ∙ ap (option_map (λ ss. s ∷ ss)) (ih n (omega arith))

-- one step more
pub below_more : (f : Form) (ss us : List Step) (p q : Part) → below_of f ss ≡ Some p → below_of p.1 us ≡ Some q → below_of f (ss ++ us) ≡ Some (further p.0 q)
below_more f [] us p q e d =
    let w : (0, f) ≡ p = some_inj (0, f) p e in
    let y : below_of f us ≡ Some q = subst (λ (r : Part). below_of r.1 us ≡ Some q) (sym w) d in
    let z : 0 + q.0 ≡ q.0 = omega arith in
    y ∙ ap (λ n. Some (n, q.1)) (sym z) ∙ ap (λ (r : Part). Some (further r.0 q)) w
below_more f (s ∷ ss) us p q e d =
    let m = option_and_then-some (λ (p : Part). option_map (further p.0) (below_of p.1 ss)) (part_of f s) p e in
    let h = option_map-some (further m.0.0) (below_of m.0.1 ss) p m.2 in
    let i = below_more m.0.1 ss us h.0 q h.1 (subst (λ (r : Part). below_of r.1 us ≡ Some q) (sym h.2) d) in
    let z : m.0.0 + (h.0.0 + q.0) ≡ m.0.0 + h.0.0 + q.0 = omega arith in
    ap (option_and_then (λ (p : Part). option_map (further p.0) (below_of p.1 (ss ++ us)))) m.1
    ∙ ap (option_map (further m.0.0)) i
    ∙ ap (λ n. Some (n, q.1)) z
    ∙ ap (λ (r : Part). Some (further r.0 q)) h.2

-- how many steps are allowed is no matter, where they are as many as the number

pub steps_same : (n m : ℕ) (f : Form) (j : ℕ) → j ≤ n → j ≤ m → steps_in n f j ≡ steps_in m f j
steps_same n m f zero a b = refl
steps_same zero m f (suc j) a b = absurd (omega arith)
steps_same (suc n) zero f (suc j) a b = absurd (omega arith)
steps_same (suc n) (suc m) f (suc j) a b = go (way f j) (λ w e. way_leads f j w e) (λ w k x y. steps_same n m w k x y)
  where
    go : (o : Option Way) → ((w : Way) → o ≡ Some w → Leads f j w) → ((w : Form) (k : ℕ) → k ≤ n → k ≤ m → steps_in n w k ≡ steps_in m w k)
        → option_and_then (λ (w : Way). option_map (λ ss. w.0 ∷ ss) (steps_in n w.2 (suc j - w.1))) o ≡ option_and_then (λ (w : Way). option_map (λ ss. w.0 ∷ ss) (steps_in m w.2 (suc j - w.1))) o
    go None h ih = refl
    go (Some w) h ih =
        let l : Leads f j w = h w refl in
        let q : 1 ≤ w.1 = l.behind in
        ap (option_map (λ ss. w.0 ∷ ss)) (ih w.2 (suc j - w.1) (omega arith) (omega arith))

pub steps_way : (f : Form) (j : ℕ) (w : Way) → way f j ≡ Some w → steps_at f (suc j) ≡ option_map (λ ss. w.0 ∷ ss) (steps_at w.2 (suc j - w.1))
steps_way f j w e =
    let l : Leads f j w = way_leads f j w e in
    let q : 1 ≤ w.1 = l.behind in
    ap (option_and_then (λ (w : Way). option_map (λ ss. w.0 ∷ ss) (steps_in j w.2 (suc j - w.1)))) e
    ∙ ap (option_map (λ ss. w.0 ∷ ss)) (steps_same j (suc j - w.1) w.2 (suc j - w.1) (omega arith) (omega arith))

pub steps_none : (f : Form) (j : ℕ) → way f j ≡ None → steps_at f (suc j) ≡ None
steps_none f j e = ap (option_and_then (λ (w : Way). option_map (λ ss. w.0 ∷ ss) (steps_in j w.2 (suc j - w.1)))) e

-- where a part stands

pub stands_here : (f : Form) → Stands f 0 f
stands_here f = record { steps = []; are_steps = refl; leads = refl }

pub stands : (f : Form) (j : ℕ) (ss : List Step) → steps_at f j ≡ Some ss → (g : Form) × (below_of f ss ≡ Some (j, g))
stands f j ss e = steps_lead j f j ss e

pub stands_more : (f : Form) (j : ℕ) (w : Way) (g : Form) → way f j ≡ Some w → Stands w.2 (suc j - w.1) g → Stands f (suc j) g
stands_more f j w g e h =
    let l : Leads f j w = way_leads f j w e in
    let from : w.1 ≤ suc j = l.from in
    let z : w.1 + (suc j - w.1) ≡ suc j = omega arith in
    record {
      steps = w.0 ∷ h.steps;
      are_steps = steps_way f j w e ∙ ap (option_map (λ ss. w.0 ∷ ss)) h.are_steps;
      leads = ap (option_and_then (λ (p : Part). option_map (further p.0) (below_of p.1 h.steps))) l.is_part ∙ ap (option_map (further w.1)) h.leads ∙ ap (λ n. Some (n, g)) z;
    }
