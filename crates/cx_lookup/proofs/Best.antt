-- The function that a call chooses is the best viable one, whatever the order, and a walk finds it.
use Rattle.std.proofs.Common.{◌≡◌, ◌⊎◌, inl, inr, ℕ, ◌==◌, Bool, true, false, ◌||◌, List, [], ◌∷◌, Option, None, Some, refl, sym, ap, ◌∙◌, subst, true≢false, if◌then◌else◌}
use Rattle.std.specs.Prelude.{◌≢◌, ◌↔◌, not, cond, is_none}
use Rattle.std.specs.List.{find, list_any}
use Rattle.std.specs.Option.{unwrap_or}
use Rattle.std.proofs.lemmas.Bool.{eqb-true}
use Rattle.cx_type_defs.specs.declared.ids.ClassId.{ClassId}
use Rattle.cx_type_defs.specs.declared.ids.FuncId.{FuncId}
use Rattle.cx_lookup.specs.Ranks.{Argument, World, derived}
use Rattle.cx_lookup.specs.Choice.{Signature, Conversions, Viable, IsBest, Choice, Chosen, NoMatch, Ambiguous, Among, HaveTheSame, AreApart, is_better, beats, best_of, of_best, choice_of, choice, conversions, with_viable, viable, last_kept, walked}
use Rattle.cx_lookup.proofs.Strict.{one-way, one-best}

-- ---- the first that passes

some-is : {X : Type 0} (x y : X) → Some x ≡ Some y → x ≡ y
some-is x y e = ap (λ o. unwrap_or o x) e

first-passes : {X : Type 0} (p : X → Bool) (xs : List X) (x : X) → find p xs ≡ Some x → Among x xs × (p x ≡ true)
first-passes p [] x e = absurd (cc)
first-passes {X} p (y ∷ ys) x e = of (p y) refl e (first-passes p ys x)
  where
    of : (b : Bool) → p y ≡ b → cond b (Some y) (find p ys) ≡ Some x → (find p ys ≡ Some x → Among x ys × (p x ≡ true)) → Among x (y ∷ ys) × (p x ≡ true)
    of true h e next = (inl (sym (some-is y x e)), ap p (sym (some-is y x e)) ∙ h)
    of false h e next = let r = next e in (inr r.0, r.1)

first-comes : {X : Type 0} (p : X → Bool) (xs : List X) (x : X) → Among x xs → p x ≡ true → (w : X) × (find p xs ≡ Some w)
first-comes p [] x m h = absurd m
first-comes {X} p (y ∷ ys) x m h = of (p y) refl m (λ n. first-comes p ys x n h)
  where
    of : (b : Bool) → p y ≡ b → (x ≡ y) ⊎ Among x ys → (Among x ys → (w : X) × (find p ys ≡ Some w)) → (w : X) × (cond b (Some y) (find p ys) ≡ Some w)
    of true k m next = (y, refl)
    of false k (inl e) next = absurd (true≢false (sym h ∙ ap p e ∙ k))
    of false k (inr n) next = next n

left-false : (a b : Bool) → (a || b) ≡ false → a ≡ false
left-false true b e = e
left-false false b e = refl

right-false : (a b : Bool) → (a || b) ≡ false → b ≡ false
right-false true b e = absurd (true≢false e)
right-false false b e = e

both-false : (a b : Bool) → a ≡ false → b ≡ false → (a || b) ≡ false
both-false true b e f = absurd (true≢false e)
both-false false b e f = f

right-true : (a b : Bool) → a ≡ false → (a || b) ≡ true → b ≡ true
right-true true b e f = absurd (true≢false e)
right-true false b e f = f

un-not : (b c : Bool) → not b ≡ c → b ≡ not c
un-not true c e = ap not e
un-not false c e = ap not e

none-does : {X : Type 0} (q : X → Bool) (xs : List X) (x : X) → list_any q xs ≡ false → Among x xs → q x ≡ false
none-does q [] x e m = absurd m
none-does q (y ∷ ys) x e (inl i) = ap q i ∙ left-false (q y) (list_any q ys) e
none-does q (y ∷ ys) x e (inr m) = none-does q ys x (right-false (q y) (list_any q ys) e) m

each-fails : {X : Type 0} (q : X → Bool) (xs : List X) → ((x : X) → Among x xs → q x ≡ false) → list_any q xs ≡ false
each-fails q [] h = refl
each-fails q (y ∷ ys) h = both-false (q y) (list_any q ys) (h y (inl refl)) (each-fails q ys (λ x m. h x (inr m)))

-- ---- the test is the relation

abbrev beaten : (ClassId → ClassId → Bool) → List Argument → Viable → Viable → Bool
beaten d args v o = not (beats d args v o)

is-best : (d : ClassId → ClassId → Bool) (args : List Argument) (vs : List Viable) (v : Viable) → Among v vs → list_any (beaten d args v) vs ≡ false → IsBest d args vs v
is-best d args vs v m t = record {
  viable = m;
  beats = λ o n e. right-true (o.id.0 == v.id.0) (is_better d args v.by o.by) e (un-not (beats d args v o) false (none-does (beaten d args v) vs o t n));
}

passes : (d : ClassId → ClassId → Bool) (args : List Argument) (vs : List Viable) (v : Viable) → IsBest d args vs v → list_any (beaten d args v) vs ≡ false
passes d args vs v p = each-fails (beaten d args v) vs (λ o m. of o m (o.id.0 == v.id.0) refl)
  where
    of : (o : Viable) → Among o vs → (b : Bool) → (o.id.0 == v.id.0) ≡ b → not (b || is_better d args v.by o.by) ≡ false
    of o m true e = refl
    of o m false e = ap not (p.beats o m e)

pub found : (d : ClassId → ClassId → Bool) (args : List Argument) (vs : List Viable) (v : Viable) → best_of d args vs ≡ Some v → IsBest d args vs v
found d args vs v e =
    let r = first-passes (λ v. not (list_any (beaten d args v) vs)) vs v e in
    is-best d args vs v r.0 (un-not (list_any (beaten d args v) vs) true r.1)

comes : (d : ClassId → ClassId → Bool) (args : List Argument) (vs : List Viable) (v : Viable) → IsBest d args vs v → (w : Viable) × (best_of d args vs ≡ Some w)
comes d args vs v p = first-comes (λ v. not (list_any (beaten d args v) vs)) vs v p.viable (ap not (passes d args vs v p))

abbrev the-id : ℕ → FuncId
the-id n = record { 0 = n }

same-id : (f g : FuncId) → (f.0 == g.0) ≡ true → f ≡ g
same-id f g e = ap the-id (eqb-true f.0 g.0 e)

-- ---- what is chosen

pub chosen : (d : ClassId → ClassId → Bool) (args : List Argument) (vs : List Viable) (v : Viable) → IsBest d args vs v → choice_of d args vs ≡ Chosen v.id
chosen d args [] v p = absurd p.viable
chosen d args (x ∷ xs) v p =
    let c = comes d args (x ∷ xs) v p in
    ap of_best c.1 ∙ ap Chosen (same-id c.0.id v.id (one-best d args (x ∷ xs) c.0 v (found d args (x ∷ xs) c.0 c.1) p))

abbrev the-function : Choice → FuncId → FuncId
the-function (Chosen f) g = f
the-function c g = g

pub chosen-best : (d : ClassId → ClassId → Bool) (args : List Argument) (vs : List Viable) (f : FuncId) → choice_of d args vs ≡ Chosen f → (v : Viable) × IsBest d args vs v × (v.id ≡ f)
chosen-best d args [] f e = absurd (cc)
chosen-best d args (x ∷ xs) f e = of (best_of d args (x ∷ xs)) refl e
  where
    of : (b : Option Viable) → best_of d args (x ∷ xs) ≡ b → of_best b ≡ Chosen f → (v : Viable) × IsBest d args (x ∷ xs) v × (v.id ≡ f)
    of None h e = absurd (cc)
    of (Some v) h e = (v, found d args (x ∷ xs) v h, ap (λ c. the-function c f) e)

pub no-match : (d : ClassId → ClassId → Bool) (args : List Argument) (vs : List Viable) → (choice_of d args vs ≡ NoMatch) ↔ (vs ≡ [])
no-match d args [] = (λ e. refl, λ e. refl)
no-match d args (x ∷ xs) = (λ e. of (best_of d args (x ∷ xs)) e, λ e. absurd (cc))
  where
    of : (b : Option Viable) → of_best b ≡ NoMatch → (x ∷ xs) ≡ []
    of None e = absurd (cc)
    of (Some v) e = absurd (cc)

pub ambiguous : (d : ClassId → ClassId → Bool) (args : List Argument) (vs : List Viable) → (choice_of d args vs ≡ Ambiguous) ↔ ((vs ≢ []) × ((v : Viable) → IsBest d args vs v → ⊥))
ambiguous d args [] = (λ e. absurd (cc), λ h. absurd (h.0 refl))
ambiguous d args (x ∷ xs) = (λ e. (λ n. cc, λ v p. other v (sym (chosen d args (x ∷ xs) v p) ∙ e)), λ h. of (best_of d args (x ∷ xs)) refl h.1)
  where
    other : (v : Viable) → Chosen v.id ≡ Ambiguous → ⊥
    other v e = cc

    of : (b : Option Viable) → best_of d args (x ∷ xs) ≡ b → ((v : Viable) → IsBest d args (x ∷ xs) v → ⊥) → of_best b ≡ Ambiguous
    of None e h = refl
    of (Some v) e h = absurd (h v (found d args (x ∷ xs) v e))

-- ---- the order

none-listed : {X : Type 0} (xs ys : List X) → HaveTheSame xs ys → xs ≡ [] → ys ≡ []
none-listed xs [] h e = refl
none-listed [] (y ∷ ys) h e = absurd (h.back y (inl refl))
none-listed (x ∷ xs) (y ∷ ys) h e = absurd (cc)

turned : {X : Type 0} (xs ys : List X) → HaveTheSame xs ys → HaveTheSame ys xs
turned xs ys h = record { there = h.back; back = h.there }

best-there : (d : ClassId → ClassId → Bool) (args : List Argument) (vs ws : List Viable) → HaveTheSame vs ws → (v : Viable) → IsBest d args vs v → IsBest d args ws v
best-there d args vs ws h v p = record { viable = h.there v p.viable; beats = λ o m e. p.beats o (h.back o m) e }

choice-order : (d : ClassId → ClassId → Bool) (args : List Argument) (vs ws : List Viable) → HaveTheSame vs ws → choice_of d args vs ≡ choice_of d args ws
choice-order d args vs ws h = of (choice_of d args vs) refl
  where
    of : (c : Choice) → choice_of d args vs ≡ c → c ≡ choice_of d args ws
    of (Chosen f) e =
        let b = chosen-best d args vs f e in
        sym (ap Chosen b.2) ∙ sym (chosen d args ws b.0 (best-there d args vs ws h b.0 b.1))
    of NoMatch e = sym ((no-match d args ws).1 (none-listed vs ws h ((no-match d args vs).0 e)))
    of Ambiguous e =
        let a = (ambiguous d args vs).0 e in
        sym ((ambiguous d args ws).1 (λ n. a.0 (none-listed ws vs (turned vs ws h) n), λ v p. a.1 v (best-there d args ws vs (turned vs ws h) v p)))

-- a function is viable by its own signature
listed : (w : World) (args : List Argument) (ss : List Signature) (v : Viable) → Among v (viable w args ss) → (s : Signature) × Among s ss × Among v (with_viable s.id (conversions w s.first args s.parameters s.defaults) [])
listed w args [] v m = absurd m
listed w args (s ∷ ss) v m = of (conversions w s.first args s.parameters s.defaults) refl m (λ n. later (listed w args ss v n))
  where
    later : (s : Signature) × Among s ss × Among v (with_viable s.id (conversions w s.first args s.parameters s.defaults) []) → (x : Signature) × Among x (s ∷ ss) × Among v (with_viable x.id (conversions w x.first args x.parameters x.defaults) [])
    later r = (r.0, inr r.1, r.2)

    of : (c : Option Conversions) → conversions w s.first args s.parameters s.defaults ≡ c → Among v (with_viable s.id c (viable w args ss)) → (Among v (viable w args ss) → (x : Signature) × Among x (s ∷ ss) × Among v (with_viable x.id (conversions w x.first args x.parameters x.defaults) [])) → (x : Signature) × Among x (s ∷ ss) × Among v (with_viable x.id (conversions w x.first args x.parameters x.defaults) [])
    of None e m next = next m
    of (Some cs) e (inl i) next = (s, inl refl, subst (λ c. Among v (with_viable s.id c [])) (sym e) (inl i))
    of (Some cs) e (inr n) next = next n

more : (f : FuncId) (c : Option Conversions) (vs : List Viable) (v : Viable) → Among v (with_viable f c []) → Among v (with_viable f c vs)
more f None vs v m = absurd m
more f (Some cs) vs v (inl e) = inl e
more f (Some cs) vs v (inr m) = absurd m

past : (f : FuncId) (c : Option Conversions) (vs : List Viable) (v : Viable) → Among v vs → Among v (with_viable f c vs)
past f None vs v m = m
past f (Some cs) vs v m = inr m

is-viable : (w : World) (args : List Argument) (ss : List Signature) (s : Signature) (v : Viable) → Among s ss → Among v (with_viable s.id (conversions w s.first args s.parameters s.defaults) []) → Among v (viable w args ss)
is-viable w args [] s v m n = absurd m
is-viable w args (x ∷ xs) s v (inl e) n = more x.id (conversions w x.first args x.parameters x.defaults) (viable w args xs) v (subst (λ s. Among v (with_viable s.id (conversions w s.first args s.parameters s.defaults) [])) e n)
is-viable w args (x ∷ xs) s v (inr m) n = past x.id (conversions w x.first args x.parameters x.defaults) (viable w args xs) v (is-viable w args xs s v m n)

viable-there : (w : World) (args : List Argument) (ss others : List Signature) → HaveTheSame ss others → (v : Viable) → Among v (viable w args ss) → Among v (viable w args others)
viable-there w args ss others h v m = let s = listed w args ss v m in is-viable w args others s.0 v (h.there s.0 s.1) s.2

pub order : (w : World) (ss others : List Signature) (args : List Argument) → HaveTheSame ss others → choice w ss args ≡ choice w others args
order w ss others args h = choice-order (derived w.types) args (viable w args ss) (viable w args others) (record { there = viable-there w args ss others h; back = viable-there w args others ss (turned ss others h) })

-- ---- the walk

step-over : (l v o : Viable) (os : List Viable) → Among l (v ∷ os) → Among l (v ∷ o ∷ os)
step-over l v o os (inl e) = inl e
step-over l v o os (inr m) = inr (inr m)

last-among : (d : ClassId → ClassId → Bool) (args : List Argument) (v : Viable) (os : List Viable) → Among (last_kept d args v os) (v ∷ os)
last-among d args v [] = inl refl
last-among d args v (o ∷ os) = of (is_better d args v.by o.by) (last-among d args v os) (last-among d args o os)
  where
    of : (b : Bool) → Among (last_kept d args v os) (v ∷ os) → Among (last_kept d args o os) (o ∷ os) → Among (last_kept d args (if b then v else o) os) (v ∷ o ∷ os)
    of true kept gone = step-over (last_kept d args v os) v o os kept
    of false kept gone = inr gone

last-best : (d : ClassId → ClassId → Bool) (args : List Argument) (vs : List Viable) (b : Viable) → IsBest d args vs b → AreApart vs → (v : Viable) (os : List Viable) → ((x : Viable) → Among x (v ∷ os) → Among x vs) → Among b (v ∷ os) → last_kept d args v os ≡ b
last-best d args vs b p a v [] s (inl e) = sym e
last-best d args vs b p a v [] s (inr m) = absurd m
last-best d args vs b p a v (o ∷ os) s m =
    of (is_better d args v.by o.by) refl m
    (last-best d args vs b p a v os (λ x k. s x (step-over x v o os k)))
    (last-best d args vs b p a o os (λ x k. s x (inr k)))
  where
    not-beaten : (c : Bool) → (v.id.0 == b.id.0) ≡ c → b ≡ o → is_better d args v.by o.by ≡ true → b ≡ v
    not-beaten true k i h = sym (a v b (s v (inl refl)) p.viable k)
    not-beaten false k i h = absurd (true≢false (sym (p.beats v (s v (inl refl)) k) ∙ one-way d args v.by b.by (subst (λ x. is_better d args v.by x.by ≡ true) (sym i) h)))

    stays : (c : Bool) → (o.id.0 == b.id.0) ≡ c → b ≡ v → is_better d args v.by o.by ≡ false → b ≡ o
    stays true k i h = sym (a o b (s o (inr (inl refl))) p.viable k)
    stays false k i h = absurd (true≢false (sym (p.beats o (s o (inr (inl refl))) k) ∙ subst (λ x. is_better d args x.by o.by ≡ false) (sym i) h))

    of : (t : Bool) → is_better d args v.by o.by ≡ t → Among b (v ∷ o ∷ os) → (Among b (v ∷ os) → last_kept d args v os ≡ b) → (Among b (o ∷ os) → last_kept d args o os ≡ b) → last_kept d args (if t then v else o) os ≡ b
    of true h (inl e) keep go = keep (inl e)
    of true h (inr (inl e)) keep go = keep (inl (not-beaten (v.id.0 == b.id.0) refl e h))
    of true h (inr (inr n)) keep go = keep (inr n)
    of false h (inl e) keep go = go (inl (stays (o.id.0 == b.id.0) refl e h))
    of false h (inr n) keep go = go n

pub walk : (d : ClassId → ClassId → Bool) (args : List Argument) (vs : List Viable) → AreApart vs → walked d args vs ≡ best_of d args vs
walk d args [] a = refl
walk d args (v ∷ os) a = of (list_any (beaten d args (last_kept d args v os)) (v ∷ os)) refl (best_of d args (v ∷ os)) refl
  where
    of : (t : Bool) → list_any (beaten d args (last_kept d args v os)) (v ∷ os) ≡ t → (b : Option Viable) → best_of d args (v ∷ os) ≡ b → (if t then None else Some (last_kept d args v os)) ≡ b
    of true h None e = refl
    of true h (Some b) e =
        let p = found d args (v ∷ os) b e in
        let is = last-best d args (v ∷ os) b p a v os (λ x m. m) p.viable in
        absurd (true≢false (sym h ∙ ap (λ x. list_any (beaten d args x) (v ∷ os)) is ∙ passes d args (v ∷ os) b p))
    of false h None e =
        let c = comes d args (v ∷ os) (last_kept d args v os) (is-best d args (v ∷ os) (last_kept d args v os) (last-among d args v os) h) in
        absurd (true≢false (ap is_none (sym e ∙ c.1)))
    of false h (Some b) e =
        let p = found d args (v ∷ os) b e in
        ap Some (last-best d args (v ∷ os) b p a v os (λ x m. m) p.viable)
