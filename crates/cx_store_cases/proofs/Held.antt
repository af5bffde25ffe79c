-- What objects hold after each step: a place that is held lies in an object below the mark.
use Rattle.std.proofs.Common.{◌≡◌, ℕ, ◌<◌, ◌≤◌, inl, inr, Bool, true, false, not, ◌&&◌, List, [], ◌∷◌, ◌++◌, Option, None, Some, Ok, Result, refl, sym, ap, subst, ◌∙◌, arith, if◌then◌else◌, ◌==◌}
use Rattle.std.specs.Prelude.{option_and_then}
use Rattle.cx_base.specs.declared.rule.Rule.{Rule}
use Rattle.cx_base.specs.declared.limits.Limits.{Limits}
use Rattle.std.specs.List.{find}
use Rattle.cx_type_defs.specs.declared.ids.Step.{Step}
use Rattle.cx_type_defs.specs.declared.ids.Step.TheVariants as step
use Rattle.cx_type_defs.specs.declared.ids.ClassId.{ClassId}
use Rattle.cx_type_defs.specs.declared.kind.TypeRow.{TypeRow}
use Rattle.cx_type_defs.specs.declared.kind.TypeKind.{TypeKind}
use Rattle.cx_type_defs.specs.declared.kind.TypeKind.TheVariants as kind
use Rattle.cx_type_defs.specs.declared.decl.Field.{Field}
use Rattle.cx_type_defs.specs.Tables.{Tables, no_types, field_of, changed_at}
use Rattle.cx_type_defs.specs.Questions.{is_complete}
use Rattle.cx_type_defs.proofs.Lists.{some_inj, option_and_then-some, slice_get-push}
use Rattle.cx_state.specs.declared.kind.Phase.{Phase}
use Rattle.cx_state.specs.declared.kind.Birth.{Birth}
use Rattle.cx_state.specs.declared.kind.Scalar.{Scalar}
use Rattle.cx_state.specs.declared.kind.Scalar.TheVariants as scalar
use Rattle.cx_state.specs.Objects.{Path, Tree, Trees, Leaf, Row, Class, Union, Active, part, part_changed, below, changed, Object, Objects, put}
use Rattle.cx_state.specs.Places.{row_of}
use Rattle.cx_state.specs.Conditions as on
use Rattle.cx_state.specs.Steps.{unless, ended, is_ended, activated, begun, member_tree, with_phase, deactivated, given_up, init, store, advance, activate, deactivate, release, settle, cut}
use Rattle.cx_state.specs.Counts.{Request, new_object, passes_limit, limit_order, make}
use Rattle.cx_state.specs.Forms.{MayHold, TreeFits, Fit, HoldsBelow}
use Rattle.cx_state.proofs.Fitting.{TreeFits-here, TreeFits-part, part_changed-part}
use Rattle.cx_state.proofs.Growing.{part-typed}
use Rattle.cx_state.proofs.Written.{leaf-scalar}
use Rattle.cx_state.proofs.Stepped.{only-part, member_tree-is}
use Rattle.cx_state.proofs.RowsKept.{changed_at-object, take-object}
use Rattle.cx_state.proofs.NewTrees.{asked-fits}
use Rattle.cx_state.proofs.PartsComplete.{member-complete}
use Rattle.cx_state.proofs.Making.{new-fits, new-of}
use Rattle.cx_state.proofs.EndedTrees.{listed-ended}
use Rattle.cx_store.specs.Stores.{Changed}
use Rattle.cx_store_cases.specs.Seats.{HeldBelow, IsBelow}

abbrev Safe : ℕ → Path → Type 0
Safe mark p = p.object < mark

-- each place that a tree holds is so
record Only (Q : Path → Type 0) (x : Tree) : Type 0 where
  only : (ss : List Step) (p : Path) → below x ss ≡ Some (Leaf (scalar.Place p)) → Q p

part-only : (Q : Path → Type 0) (x : Tree) → Only Q x → (s : Step) (y : Tree) → part x s ≡ Some y → Only Q y
part-only Q x h s y e = record { only = λ ss p f. h.only (s ∷ ss) p (ap (option_and_then (λ z. below z ss)) e ∙ f) }

-- a tree that has no value itself holds what its parts hold
parts-only : (Q : Path → Type 0) (x : Tree) → ((v : Scalar Path) → x ≡ Leaf v → ⊥) → ((s : Step) (y : Tree) → part x s ≡ Some y → Only Q y) → Only Q x
parts-only Q x n h = record { only = held }
  where
    held : (ss : List Step) (p : Path) → below x ss ≡ Some (Leaf (scalar.Place p)) → Q p
    held [] p e = absurd (n (scalar.Place p) (some_inj x (Leaf (scalar.Place p)) e))
    held (s ∷ ss) p e = let i = option_and_then-some (λ y. below y ss) (part x s) (Leaf (scalar.Place p)) e in (h s i.0 i.1).only ss p i.2

leaf-only : (Q : Path → Type 0) (v : Scalar Path) → ((p : Path) → v ≡ scalar.Place p → Q p) → Only Q (Leaf v)
leaf-only Q v h = record { only = held }
  where
    held : (ss : List Step) (p : Path) → below (Leaf v) ss ≡ Some (Leaf (scalar.Place p)) → Q p
    held [] p e = h p (cc)
    held (s ∷ ss) p e = absurd (cc)

part_changed-leaf : (f : Tree → Tree) (x : Tree) (s : Step) (v : Scalar Path) → part_changed f x s ≡ Leaf v → x ≡ Leaf v
part_changed-leaf f (Leaf w) s v e = e
part_changed-leaf f (Row xs) (step.Elem i) v e = absurd (cc)
part_changed-leaf f (Row xs) (step.Base i) v e = absurd (cc)
part_changed-leaf f (Row xs) (step.Field i) v e = absurd (cc)
part_changed-leaf f (Class p bs ms) (step.Elem i) v e = absurd (cc)
part_changed-leaf f (Class p bs ms) (step.Base i) v e = absurd (cc)
part_changed-leaf f (Class p bs ms) (step.Field i) v e = absurd (cc)
part_changed-leaf f Union s v e = absurd (cc)
part_changed-leaf f (Active m x) (step.Elem i) v e = absurd (cc)
part_changed-leaf f (Active m x) (step.Base i) v e = absurd (cc)
part_changed-leaf f (Active m x) (step.Field i) v e = absurd (cc)

changed-only : (Q : Path → Type 0) (f : Tree → Tree) (us : List Step) (x : Tree) → Only Q x → ((z : Tree) → Only Q z → Only Q (f z)) → (ss : List Step) (p : Path) → below (changed f x us) ss ≡ Some (Leaf (scalar.Place p)) → Q p
changed-only Q f [] x h g ss p e = (g x h).only ss p e
changed-only Q f (s ∷ us) x h g [] p e = h.only [] p (ap Some (part_changed-leaf (λ y. changed f y us) x s (scalar.Place p) (some_inj (part_changed (λ y. changed f y us) x s) (Leaf (scalar.Place p)) e)))
changed-only Q f (s ∷ us) x h g (u ∷ ss) p e =
    let i = option_and_then-some (λ y. below y ss) (part (part_changed (λ y. changed f y us) x s) u) (Leaf (scalar.Place p)) e in
    elim (part_changed-part (λ y. changed f y us) x s u i.0 i.1) as (λ _. Q p) [
      | inl a ↦ h.only (u ∷ ss) p (ap (option_and_then (λ y. below y ss)) a ∙ i.2)
      | inr w ↦ changed-only Q f us w.0 (part-only Q x h u w.0 w.1) g ss p (subst (λ y. below y ss ≡ Some (Leaf (scalar.Place p))) (sym w.3) i.2)
    ]

-- new trees hold no places: they have the form of their type where there are no objects

no-held : (t : Tables) (k : TypeKind) (p : Path) → MayHold t [] k (scalar.Place p) → ⊥
no-held t (kind.Pointer to) p h = let e = h.is_found in absurd (cc)
no-held t (kind.Reference to) p h = let e = h.is_found in absurd (cc)
no-held t kind.Void p h = h
no-held t kind.Nullptr p h = h
no-held t (kind.Int _) p h = h
no-held t (kind.Enum _) p h = h
no-held t (kind.Array _ _) p h = h
no-held t (kind.Class _) p h = h

no-place : (t : Tables) (ss : List Step) (r : TypeRow) (x : Tree) (p : Path) → TreeFits t [] r x → below x ss ≡ Some (Leaf (scalar.Place p)) → ⊥
no-place t [] r x p h e =
    no-held t r.kind p (leaf-scalar t [] r.kind (scalar.Place p) (TreeFits-here t [] r (Leaf (scalar.Place p)) (subst (TreeFits t [] r) (some_inj x (Leaf (scalar.Place p)) e) h)))
no-place t (s ∷ ss) r x p h e =
    let i = option_and_then-some (λ y. below y ss) (part x s) (Leaf (scalar.Place p)) e in
    let q = part-typed t [] r x (TreeFits-here t [] r x h) s i.0 i.1 in
    no-place t ss q.0 i.0 p (TreeFits-part t [] r x h s q.0 i.0 q.1 i.1) i.2

new-only : (Q : Path → Type 0) (t : Tables) (r : TypeRow) (x : Tree) → TreeFits t [] r x → Only Q x
new-only Q t r x h = record { only = λ ss p e. absurd (no-place t ss r x p h e) }

-- other phases and members

phase-part : (to p : Phase) (bs ms : Trees) (s : Step) → part (Class to bs ms) s ≡ part (Class p bs ms) s
phase-part to p bs ms (step.Base i) = refl
phase-part to p bs ms (step.Field i) = refl
phase-part to p bs ms (step.Elem i) = refl

phase-only : (Q : Path → Type 0) (to : Phase) (x : Tree) → Only Q x → Only Q (with_phase to x)
phase-only Q to (Class p bs ms) h = parts-only Q (Class to bs ms) (λ v e. absurd (cc)) (λ s y e. part-only Q (Class p bs ms) h s y (sym (phase-part to p bs ms s) ∙ e))
phase-only Q to (Leaf v) h = h
phase-only Q to (Row xs) h = h
phase-only Q to Union h = h
phase-only Q to (Active m x) h = h

active-only : (Q : Path → Type 0) (m : ℕ) (new : Tree) → Only Q new → Only Q (Active m new)
active-only Q m new h = parts-only Q (Active m new) (λ v e. absurd (cc)) member
  where
    member : (s : Step) (y : Tree) → part (Active m new) s ≡ Some y → Only Q y
    member (step.Field i) y e = subst (Only Q) (only-part m i new y e).1 h
    member (step.Base i) y e = absurd (cc)
    member (step.Elem i) y e = absurd (cc)

either-only : (Q : Path → Type 0) (b : Bool) (x y : Tree) → Only Q x → Only Q y → Only Q (if b then x else y)
either-only Q true x y g h = g
either-only Q false x y g h = h

activated-only : (Q : Path → Type 0) (m : ℕ) (new x : Tree) → Only Q new → Only Q x → Only Q (activated m new x)
activated-only Q m new Union g h = active-only Q m new g
activated-only Q m new (Active k x) g h = either-only Q ((k == m) && not (is_ended x)) (Active k x) (Active m new) h (active-only Q m new g)
activated-only Q m new (Leaf v) g h = h
activated-only Q m new (Row xs) g h = h
activated-only Q m new (Class p bs ms) g h = h

deactivated-only : (Q : Path → Type 0) (x : Tree) → Only Q x → Only Q (deactivated x)
deactivated-only Q (Active m x) h = parts-only Q Union (λ v e. absurd (cc)) (λ s y e. absurd (cc))
deactivated-only Q Union h = h
deactivated-only Q (Leaf v) h = h
deactivated-only Q (Row xs) h = h
deactivated-only Q (Class p bs ms) h = h

-- what has ended holds nothing
ended-holds : (Q : Path → Type 0) (ss : List Step) (x : Tree) (p : Path) → below (ended x) ss ≡ Some (Leaf (scalar.Place p)) → Q p
ended-holds Q [] (Leaf v) p e = absurd (cc)
ended-holds Q [] (Row xs) p e = absurd (cc)
ended-holds Q [] (Class _ bs ms) p e = absurd (cc)
ended-holds Q [] Union p e = absurd (cc)
ended-holds Q [] (Active m x) p e = absurd (cc)
ended-holds Q (s ∷ ss) (Leaf v) p e = absurd (cc)
ended-holds Q (step.Elem i ∷ ss) (Row xs) p e =
    let y = option_and_then-some (λ z. below z ss) (part (ended (Row xs)) (step.Elem i)) (Leaf (scalar.Place p)) e in
    let z = listed-ended xs i y.0 y.1 in
    ended-holds Q ss z.0 p (subst (λ w. below w ss ≡ Some (Leaf (scalar.Place p))) (sym z.2) y.2)
ended-holds Q (step.Base i ∷ ss) (Row xs) p e = absurd (cc)
ended-holds Q (step.Field i ∷ ss) (Row xs) p e = absurd (cc)
ended-holds Q (step.Base i ∷ ss) (Class k bs ms) p e =
    let y = option_and_then-some (λ z. below z ss) (part (ended (Class k bs ms)) (step.Base i)) (Leaf (scalar.Place p)) e in
    let z = listed-ended bs i y.0 y.1 in
    ended-holds Q ss z.0 p (subst (λ w. below w ss ≡ Some (Leaf (scalar.Place p))) (sym z.2) y.2)
ended-holds Q (step.Field i ∷ ss) (Class k bs ms) p e =
    let y = option_and_then-some (λ z. below z ss) (part (ended (Class k bs ms)) (step.Field i)) (Leaf (scalar.Place p)) e in
    let z = listed-ended ms i y.0 y.1 in
    ended-holds Q ss z.0 p (subst (λ w. below w ss ≡ Some (Leaf (scalar.Place p))) (sym z.2) y.2)
ended-holds Q (step.Elem i ∷ ss) (Class k bs ms) p e = absurd (cc)
ended-holds Q (s ∷ ss) Union p e = absurd (cc)
ended-holds Q (s ∷ ss) (Active m x) p e = absurd (cc)

-- objects

pub held-more : (os : Objects) (m k : ℕ) → m ≤ k → HeldBelow os m → HeldBelow os k
held-more os m k l h = record { held = λ n o ss p a e. let b = h.held n o ss p a e in omega arith }

-- one object changes
held-one : (f : Object → Object) (os : Objects) (i m : ℕ) → HeldBelow os m → ((o : Object) → Only (Safe m) o.tree → Only (Safe m) (f o).tree) → HeldBelow (changed_at f os i) m
held-one f os i m h g = record {
  held = λ n o ss p a e. elim (changed_at-object f os i n o a) as (λ _. Safe m p) [
    | inl b ↦ h.held n o ss p b e
    | inr w ↦ (g w.0 (record { only = λ us q c. h.held n w.0 us q w.1 c })).only ss p (subst (λ (x : Object). below x.tree ss ≡ Some (Leaf (scalar.Place p))) (sym w.3) e)
  ];
}

held-put : (f : Tree → Tree) (os : Objects) (p : Path) (m : ℕ) → HeldBelow os m → ((z : Tree) → Only (Safe m) z → Only (Safe m) (f z)) → HeldBelow (put f os p) m
held-put f os p m h g =
    held-one (λ (o : Object). record o { tree = changed f o.tree p.steps }) os p.object m h (λ o k. record { only = changed-only (Safe m) f p.steps o.tree k g })

held-by : (b : Option Rule) (os after now : Objects) (r : Result (Unit {0}) Rule) (m : ℕ) → HeldBelow os m → HeldBelow after m → Changed (unless b after) os now r → HeldBelow now m
held-by None os after now r m h g c = subst (λ w. HeldBelow w m) (sym c.1) g
held-by (Some x) os after now r m h g c = subst (λ w. HeldBelow w m) (sym c.1) h

written-only : (m : ℕ) (v : Scalar Path) → IsBelow m v → Only (Safe m) (Leaf v)
written-only m v h = leaf-only (Safe m) v (λ p e. subst (IsBelow m) e h)

pub held-init : (t : Tables) (os now : Objects) (p : Path) (v : Scalar Path) (r : Result (Unit {0}) Rule) (m : ℕ) → HeldBelow os m → IsBelow m v → Changed (init t os p v) os now r → HeldBelow now m
held-init t os now p v r m h s c = held-by (on.broken t os p on.Init) os (put (λ _. Leaf v) os p) now r m h (held-put (λ _. Leaf v) os p m h (λ z k. written-only m v s)) c

pub held-store : (t : Tables) (os now : Objects) (p : Path) (v : Scalar Path) (r : Result (Unit {0}) Rule) (m : ℕ) → HeldBelow os m → IsBelow m v → Changed (store t os p v) os now r → HeldBelow now m
held-store t os now p v r m h s c = held-by (on.broken t os p on.Store) os (put (λ _. Leaf v) os p) now r m h (held-put (λ _. Leaf v) os p m h (λ z k. written-only m v s)) c

pub held-advance : (t : Tables) (os now : Objects) (p : Path) (to : Phase) (r : Result (Unit {0}) Rule) (m : ℕ) → HeldBelow os m → Changed (advance t os p to) os now r → HeldBelow now m
held-advance t os now p to r m h c = held-by (on.broken t os p (on.Advance to)) os (put (with_phase to) os p) now r m h (held-put (with_phase to) os p m h (λ z k. phase-only (Safe m) to z k)) c

pub held-activate : (t : Tables) (os now : Objects) (p : Path) (i : ℕ) (alive : Bool) (row : TypeRow) (c : ClassId) (f : Field) (r : Result (Unit {0}) Rule) (m : ℕ) → Fit t os → row_of t os p ≡ Some row → row.kind ≡ kind.Class c → field_of t c i ≡ Some f
    → HeldBelow os m → Changed (activate t os p i alive) os now r → HeldBelow now m
held-activate t os now p i alive row c f r m fit e ek ef h change =
    let new = member_tree t (begun alive) i (row_of t os p) in
    let complete = member-complete t os p row c i f fit e ek ef in
    let w = new-of t (begun alive) f.ty complete in
    let is : w.tree ≡ new = member_tree-is t (begun alive) i (row_of t os p) row c f w.tree e ek ef w.is_tree in
    let fits : TreeFits t [] (record { kind = w.row.kind; konst = w.row.konst }) new = subst (TreeFits t [] (record { kind = w.row.kind; konst = w.row.konst })) is ((asked-fits t [] (begun alive)).type_fits f.ty w.tree w.is_tree w.row w.is_row w.row.konst) in
    held-by (on.broken t os p on.Activate) os (put (activated i new) os p) now r m h (held-put (activated i new) os p m h (λ z k. activated-only (Safe m) i new z (new-only (Safe m) t (record { kind = w.row.kind; konst = w.row.konst }) new fits) k)) change

pub held-deactivate : (t : Tables) (os now : Objects) (p : Path) (r : Result (Unit {0}) Rule) (m : ℕ) → HeldBelow os m → Changed (deactivate t os p) os now r → HeldBelow now m
held-deactivate t os now p r m h c = held-by (on.broken t os p on.Activate) os (put deactivated os p) now r m h (held-put deactivated os p m h (λ z k. deactivated-only (Safe m) z k)) c

pub held-release : (os now : Objects) (p : Path) (r : Result (Unit {0}) Rule) (m : ℕ) → HeldBelow os m → Changed (release os p) os now r → HeldBelow now m
held-release os now p r m h c =
    held-by (on.broken no_types os p on.Release) os (changed_at given_up os p.object) now r m h (held-one given_up os p.object m h (λ o k. record { only = λ ss q a. ended-holds (Safe m) ss o.tree q a })) c

pub held-settle : (os now : Objects) (p : Path) (b : Birth) (m : ℕ) → HeldBelow os m → now ≡ settle os p b → HeldBelow now m
held-settle os now p b m h e = subst (λ w. HeldBelow w m) (sym e) (held-one (λ (o : Object). record o { birth = b }) os p.object m h (λ o k. k))

held-push : (t : Tables) (os : Objects) (q : Request) (m : ℕ) → is_complete t q.ty ≡ true → HeldBelow os m → HeldBelow (os ++ new_object t q ∷ []) m
held-push t os q m complete h = record {
  held = λ n o ss p a e. elim (slice_get-push os (new_object t q) n o a) as (λ _. Safe m p) [
    | inl b ↦ h.held n o ss p b e
    | inr w ↦
        let fit = new-fits t [] q complete in
        absurd (no-place t ss fit.row (new_object t q).tree p fit.parts (subst (λ (x : Object). below x.tree ss ≡ Some (Leaf (scalar.Place p))) w.1 e))
  ];
}

pub held-made : (t : Tables) (limits : Limits) (os now : Objects) (q : Request) (m : ℕ) → is_complete t q.ty ≡ true → HeldBelow os m → make t limits os q ≡ Ok now → HeldBelow now m
held-made t limits os now q m complete h e = by (find (passes_limit t limits os (new_object t q)) limit_order) e
  where
    by : (b : Option Rule) → unless b (os ++ new_object t q ∷ []) ≡ Ok now → HeldBelow now m
    by None e = subst (λ w. HeldBelow w m) (cc) (held-push t os q m complete h)
    by (Some x) e = absurd (cc)

pub held-cut : (os now : Objects) (mark m : ℕ) → HeldBelow os m → now ≡ cut os mark → HeldBelow now m
held-cut os now mark m h e = subst (λ w. HeldBelow w m) (sym e) (record { held = λ n o ss p a f. h.held n o ss p (take-object os mark n o a).0 f })

-- so objects may be cut off from that mark on
pub may-cut : (os : Objects) (mark m : ℕ) → m ≤ mark → HeldBelow os m → HoldsBelow os mark
may-cut os mark m l h = record {
  holds_below = λ n o ss p a b e. let c = h.held n o ss p b e in omega arith;
}
