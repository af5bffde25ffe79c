-- A part's slots stand together, and what stands around them doesn't change with the part.
use Rattle.std.proofs.Common.{◌≡◌, ℕ, zero, suc, ◌+◌, ◌*◌, ◌-◌, ◌<◌, ◌==◌, true, false, Bool, List, [], ◌∷◌, ◌++◌, length, None, Some, refl, sym, ap, subst, ◌∙◌, arith, append_assoc, length-append, if◌then◌else◌, eqb-true}
use Rattle.std.proofs.lemmas.Bool.{lt-ltb}
use Rattle.std.proofs.Math.Nat.{suc-mul}
use Rattle.std.specs.Prelude.{option_map, option_and_then}
use Rattle.cx_type_defs.specs.declared.ids.Step.{Step}
use Rattle.cx_type_defs.specs.declared.ids.Step.TheVariants as step
use Rattle.cx_state.specs.Objects.{Tree, Trees, size, tree_at, tree_changed, part, part_changed, below, changed}
use Rattle.cx_state.specs.Objects as tree
use Rattle.cx_layout.specs.Forms.{Form, Forms, Leaf, Row, Class, End, More, nodes, nodes_in, cells, cells_in, Part, further, whole, item, part_of, below_of}
use Rattle.cx_layout.proofs.Options.{some_inj, and_then_some, if_some}
use Rattle.cx_slots.specs.Slots.{Slot}
use Rattle.cx_slots.specs.Slots as slot
use Rattle.cx_slots.specs.Flat.{EachFits, Fits, AllFit, MemberFits, blanks, flat_each, cells_at, flat, flat_all, flat_member}
use Rattle.cx_slots.specs.Frames.{Frame, Framed, PathFrame}
use Rattle.cx_slots.proofs.Lengths.{blanks_length, flat_length, all_length}
use Rattle.cx_slots.proofs.Reading.{append_none}

module _ {n : ℕ} {u : Form} {y : Tree} {whole : List Slot} {new : (Tree → Tree) → List Slot} {fit : (Tree → Tree) → Type 0} where
  -- with more in front
  pub behind : (a : List Slot) (k : ℕ) (more : (Tree → Tree) → Type 0) → length a ≡ k → ((g : Tree → Tree) → fit g → more g) → Frame n u y whole new fit → Frame (k + n) u y (a ++ whole) (λ g. a ++ new g) more
  behind a k more e h f = record {
    front = a ++ f.front;
    back = f.back;
    from = (let w = length-append a f.front in let v = f.from in omega arith);
    there = f.there;
    as_was = ap (λ l. a ++ l) f.as_was ∙ sym (append_assoc a f.front (flat u y ++ f.back));
    as_new = λ g. ap (λ l. a ++ l) (f.as_new g) ∙ sym (append_assoc a f.front (flat u (g y) ++ f.back));
    fits = λ g w. h g (f.fits g w);
  }

  -- with more behind
  pub before : (b : List Slot) (more : (Tree → Tree) → Type 0) → ((g : Tree → Tree) → fit g → more g) → Frame n u y whole new fit → Frame n u y (whole ++ b) (λ g. new g ++ b) more
  before b more h f = record {
    front = f.front;
    back = f.back ++ b;
    from = f.from;
    there = f.there;
    as_was = ap (λ l. l ++ b) f.as_was ∙ append_assoc f.front (flat u y ++ f.back) b ∙ ap (λ l. f.front ++ l) (append_assoc (flat u y) f.back b);
    as_new = λ g. ap (λ l. l ++ b) (f.as_new g) ∙ append_assoc f.front (flat u (g y) ++ f.back) b ∙ ap (λ l. f.front ++ l) (append_assoc (flat u (g y)) f.back b);
    fits = λ g w. h g (f.fits g w);
  }

  -- the new slots told otherwise
  pub told : (told_new : (Tree → Tree) → List Slot) (more : (Tree → Tree) → Type 0) → ((g : Tree → Tree) → told_new g ≡ new g) → ((g : Tree → Tree) → fit g → more g) → Frame n u y whole new fit → Frame n u y whole told_new more
  told told_new more e h f = record {
    front = f.front;
    back = f.back;
    from = f.from;
    there = f.there;
    as_was = f.as_was;
    as_new = λ g. e g ∙ f.as_new g;
    fits = λ g w. h g (f.fits g w);
  }

  -- a part of a part
  pub deeper : {m : ℕ} {v : Form} {z : Tree} (ch : (Tree → Tree) → Tree → Tree) → Frame n u y whole new fit
      → Frame m v z (flat u y) (λ g. flat u (ch g y)) (λ g. Fits u (ch g y)) → Frame (n + m) v z whole (λ g. new (ch g)) (λ g. fit (ch g))
  deeper {m} {v} {z} ch f k = record {
    front = f.front ++ k.front;
    back = k.back ++ f.back;
    from = (let w = length-append f.front k.front in let a = f.from in let b = k.from in omega arith);
    there = k.there;
    as_was = f.as_was ∙ ap (λ l. f.front ++ (l ++ f.back)) k.as_was ∙ joined f.front k.front (flat v z) k.back f.back;
    as_new = λ g. f.as_new (ch g) ∙ ap (λ l. f.front ++ (l ++ f.back)) (k.as_new g) ∙ joined f.front k.front (flat v (g z)) k.back f.back;
    fits = λ g w. f.fits (ch g) (k.fits g w);
  }
    where
      joined : (a b c d e : List Slot) → a ++ ((b ++ (c ++ d)) ++ e) ≡ (a ++ b) ++ (c ++ (d ++ e))
      joined a b c d e = simp append_assoc

-- the whole itself
itself : (f : Form) (x : Tree) → Fits f x → Frame 0 f x (flat f x) (λ g. flat f (g x)) (λ g. Fits f (g x))
itself f x h = record {
  front = [];
  back = [];
  from = refl;
  there = h;
  as_was = sym (append_none (flat f x));
  as_new = λ g. sym (append_none (flat f (g x)));
  fits = λ g w. w;
}

-- an element

each_frame : (f : Form) (xs : Trees) (i : ℕ) (y : Tree) → EachFits (Fits f) xs → tree_at xs i ≡ Some y
    → Frame (i * cells f) f y (flat_each (flat f) xs) (λ g. flat_each (flat f) (tree_changed g xs i)) (λ g. EachFits (Fits f) (tree_changed g xs i))
each_frame f tree.End i y h e = absurd (cc)
each_frame f (tree.More x xs) zero y h e =
    subst (λ z. Frame (0 * cells f) f z (flat f x ++ flat_each (flat f) xs) (λ g. flat f (g x) ++ flat_each (flat f) xs) (λ g. Fits f (g x) × EachFits (Fits f) xs)) (some_inj x y e) (record {
      front = [];
      back = flat_each (flat f) xs;
      from = omega arith;
      there = h.0;
      as_was = refl;
      as_new = λ g. refl;
      fits = λ g w. (w, h.1);
    })
each_frame f (tree.More x xs) (suc i) y h e =
    let w : cells f + i * cells f ≡ suc i * cells f = (let v = suc-mul i (cells f) in omega arith) in
    subst (λ n. Frame n f y (flat f x ++ flat_each (flat f) xs) (λ g. flat f x ++ flat_each (flat f) (tree_changed g xs i)) (λ g. Fits f x × EachFits (Fits f) (tree_changed g xs i))) w
    (behind (flat f x) (cells f) (λ g. Fits f x × EachFits (Fits f) (tree_changed g xs i)) (flat_length f x h.0) (λ g v. (h.0, v)) (each_frame f xs i y h.1 e))

each_within : (xs : Trees) (i : ℕ) (y : Tree) → tree_at xs i ≡ Some y → i < size xs
each_within tree.End i y e = absurd (cc)
each_within (tree.More x xs) zero y e = omega arith
each_within (tree.More x xs) (suc i) y e = let w = each_within xs i y e in omega arith

changed_size : (g : Tree → Tree) (xs : Trees) (i : ℕ) → size (tree_changed g xs i) ≡ size xs
changed_size g tree.End i = refl
changed_size g (tree.More x xs) zero = refl
changed_size g (tree.More x xs) (suc i) = ap suc (changed_size g xs i)

-- a base or a member

abbrev ItemFrame : Forms → Trees → ℕ → Tree → Type 0
ItemFrame fs xs i y = (p : Part) × (item false fs i ≡ Some p) × Frame p.slot p.form y (flat_all fs xs) (λ g. flat_all fs (tree_changed g xs i)) (λ g. AllFit fs (tree_changed g xs i))

item_frame : (fs : Forms) (xs : Trees) (i : ℕ) (y : Tree) → AllFit fs xs → tree_at xs i ≡ Some y → ItemFrame fs xs i y
item_frame End tree.End i y h e = absurd (cc)
item_frame (More f fs) tree.End i y h e = absurd h
item_frame End (tree.More x xs) i y h e = absurd h
item_frame (More f fs) (tree.More x xs) zero y h e = (
  whole f,
  refl,
  subst (λ z. Frame 0 f z (flat f x ++ flat_all fs xs) (λ g. flat f (g x) ++ flat_all fs xs) (λ g. Fits f (g x) × AllFit fs xs)) (some_inj x y e) (record {
    front = [];
    back = flat_all fs xs;
    from = refl;
    there = h.0;
    as_was = refl;
    as_new = λ g. refl;
    fits = λ g w. (w, h.1);
  }),
)
item_frame (More f fs) (tree.More x xs) (suc i) y h e =
    let r = item_frame fs xs i y h.1 e in (
      further (nodes f) (cells f) r.0,
      ap (option_map (further (nodes f) (cells f))) r.1,
      behind (flat f x) (cells f) (λ g. Fits f x × AllFit fs (tree_changed g xs i)) (flat_length f x h.0) (λ g v. (h.0, v)) r.2,
    )

-- the active member

abbrev MemberFrame : Forms → ℕ → Tree → Type 0
MemberFrame ms m x = (p : Part) × (item true ms m ≡ Some p) × Frame p.slot p.form x (flat_member ms m x) (λ g. flat_member ms m (g x)) (λ g. MemberFits ms m (g x))

member_frame : (ms : Forms) (m : ℕ) (x : Tree) → MemberFits ms m x → MemberFrame ms m x
member_frame End m x h = absurd h
member_frame (More f fs) zero x h = (whole f, refl, itself f x h)
member_frame (More f fs) (suc m) x h =
    let r = member_frame fs m x h in
    let w : r.0.slot ≡ 0 + r.0.slot = omega arith in
    (further (nodes f) 0 r.0, ap (option_map (further (nodes f) 0)) r.1, subst (λ n. Frame n r.0.form x (flat_member fs m x) (λ g. flat_member fs m (g x)) (λ g. MemberFits fs m (g x))) w r.2)

-- one step

abbrev PartFrame : Form → Tree → Step → Tree → Type 0
PartFrame f x s y = (p : Part) × (part_of f s ≡ Some p) × Frame p.slot p.form y (flat f x) (λ g. flat f (part_changed g x s)) (λ g. Fits f (part_changed g x s))

-- a union with that active member
abbrev union_slots : Forms → Forms → ℕ → Tree → List Slot
union_slots bs ms m x = slot.Active (Some m) ∷ (blanks (cells_in false bs) ++ (flat_member ms m x ++ blanks (cells_in true ms - cells_at ms m)))

active_frame : (bs ms : Forms) (m i : ℕ) (b : Bool) (x y : Tree) → MemberFits ms m x → m ≡ i → b ≡ true → x ≡ y
    → (p : Part) × (option_map (further (suc (nodes_in bs)) (suc (cells_in false bs))) (item true ms i) ≡ Some p) × Frame p.slot p.form y (union_slots bs ms m x) (λ g. union_slots bs ms m (if b then g x else x)) (λ g. MemberFits ms m (if b then g x else x))
active_frame bs ms m i b x y h e t d =
    let r = member_frame ms m x h in
    let pad : List Slot = blanks (cells_in true ms - cells_at ms m) in
    let head : List Slot = slot.Active (Some m) ∷ blanks (cells_in false bs) in (
      further (suc (nodes_in bs)) (suc (cells_in false bs)) r.0,
      ap (λ k. option_map (further (suc (nodes_in bs)) (suc (cells_in false bs))) (item true ms k)) (sym e) ∙ ap (option_map (further (suc (nodes_in bs)) (suc (cells_in false bs)))) r.1,
      subst (λ z. Frame (suc (cells_in false bs) + r.0.slot) r.0.form z (union_slots bs ms m x) (λ g. union_slots bs ms m (if b then g x else x)) (λ g. MemberFits ms m (if b then g x else x))) d
          (told (λ g. union_slots bs ms m (if b then g x else x)) (λ g. MemberFits ms m (if b then g x else x))
          (λ g. ap (λ c. union_slots bs ms m (if c then g x else x)) t)
          (λ g w. subst (λ c. MemberFits ms m (if c then g x else x)) (sym t) w)
          (behind head (suc (cells_in false bs)) (λ g. MemberFits ms m (g x)) (ap suc (blanks_length (cells_in false bs))) (λ g w. w) (before pad (λ g. MemberFits ms m (g x)) (λ g w. w) r.2))),
    )

part_frame : (f : Form) (x : Tree) (s : Step) (y : Tree) → Fits f x → part x s ≡ Some y → PartFrame f x s y
part_frame (Row n f) (tree.Row xs) (step.Elem i) y h e =
    let w = each_within xs i y e in
    let l : i < n = subst (λ k. i < k) h.0 w in (
      record { node = 1; slot = i * cells f; form = f },
      ap (λ b. if b then Some (record { node = 1; slot = i * cells f; form = f }) else None) (lt-ltb i n l),
      told (λ g. flat_each (flat f) (tree_changed g xs i)) (λ g. Fits (Row n f) (tree.Row (tree_changed g xs i))) (λ g. refl) (λ g v. (changed_size g xs i ∙ h.0, v)) (each_frame f xs i y h.1 e),
    )
part_frame (Class c false bs ms) (tree.Class p xs ys) (step.Base i) y h e =
    let r = item_frame bs xs i y h.0 e in (
      further 1 1 r.0,
      ap (option_map (further 1 1)) r.1,
      behind (slot.Header p ∷ []) 1 (λ g. AllFit bs (tree_changed g xs i) × AllFit ms ys) refl (λ g v. (v, h.1)) (before (flat_all ms ys) (λ g. AllFit bs (tree_changed g xs i)) (λ g v. v) r.2),
    )
part_frame (Class c false bs ms) (tree.Class p xs ys) (step.Field i) y h e =
    let r = item_frame ms ys i y h.1 e in (
      further (suc (nodes_in bs)) (suc (cells_in false bs)) r.0,
      ap (option_map (further (suc (nodes_in bs)) (suc (cells_in false bs)))) r.1,
      behind (slot.Header p ∷ flat_all bs xs) (suc (cells_in false bs)) (λ g. AllFit bs xs × AllFit ms (tree_changed g ys i)) (ap suc (all_length bs xs h.0)) (λ g v. (h.0, v)) r.2,
    )
part_frame (Class c true bs ms) (tree.Active m x) (step.Field i) y h e =
    let w = if_some (m == i) x y e in
    active_frame bs ms m i (m == i) x y h (eqb-true m i w.0) w.0 w.1
part_frame Leaf (tree.Leaf v) s y h e = absurd (cc)
part_frame (Row n f) (tree.Row xs) (step.Base i) y h e = absurd (cc)
part_frame (Row n f) (tree.Row xs) (step.Field i) y h e = absurd (cc)
part_frame (Class c false bs ms) (tree.Class p xs ys) (step.Elem i) y h e = absurd (cc)
part_frame (Class c true bs ms) (tree.Active m x) (step.Base i) y h e = absurd (cc)
part_frame (Class c true bs ms) (tree.Active m x) (step.Elem i) y h e = absurd (cc)
part_frame (Class c true bs ms) tree.Union s y h e = absurd (cc)
part_frame f x s y h e = absurd h

-- any path

pub path_frame : (f : Form) (x : Tree) (ss : List Step) (y : Tree) → Fits f x → below x ss ≡ Some y → PathFrame f x ss y
path_frame f x [] y h e = (whole f, refl, subst (λ z. Frame 0 f z (flat f x) (λ g. flat f (g x)) (λ g. Fits f (g x))) (some_inj x y e) (itself f x h))
path_frame f x (s ∷ ss) y h e =
    let w = and_then_some (λ z. below z ss) (part x s) y e in
    let a = part_frame f x s w.0 h w.1 in
    let b = path_frame a.0.form w.0 ss y a.2.there w.2 in (
      further a.0.node a.0.slot b.0,
      ap (option_and_then (λ (p : Part). option_map (further p.node p.slot) (below_of p.form ss))) a.1 ∙ ap (option_map (further a.0.node a.0.slot)) b.1,
      deeper (λ g z. changed g z ss) a.2 b.2,
    )

-- where the part at the end of the steps is known
pub part_framed : (f : Form) (x : Tree) (ss : List Step) (p : Part) (y : Tree) → Fits f x → below_of f ss ≡ Some p → below x ss ≡ Some y → Framed f x ss p y
part_framed f x ss p y h a e = let r = path_frame f x ss y h e in subst (λ q. Framed f x ss q y) (some_inj r.0 p (sym r.1 ∙ a)) r.2
