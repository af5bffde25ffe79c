-- The slots of a tree of a form, and the tree that slots stand for ([intro.object], [class.mem], [class.union]).
use Rattle.std.specs.Prelude.{◌≡◌, ℕ, zero, suc, ◌-◌, true, false, List, [], ◌∷◌, ◌++◌, drop, Option, None, Some}
use Rattle.cx_state.specs.declared.kind.Phase.{Phase}
use Rattle.cx_state.specs.declared.kind.Phase.TheVariants as phase
use Rattle.cx_state.specs.declared.kind.Scalar.{Scalar}
use Rattle.cx_state.specs.declared.kind.Scalar.TheVariants as scalar
use Rattle.cx_state.specs.Objects.{Path, Tree, Trees, size}
use Rattle.cx_state.specs.Objects as tree
use Rattle.cx_layout.specs.Forms.{Form, Forms, Leaf, Row, Class, End, More, cells, cells_in}
use Rattle.cx_slots.specs.Slots.{Slot}
use Rattle.cx_slots.specs.Slots as slot

-- the tree is of that form

abbrev pub EachFits : (Tree → Type 0) → Trees → Type 0
EachFits P tree.End = Unit {0}
EachFits P (tree.More x xs) = P x × EachFits P xs

abbrev mutual
  pub Fits : Form → Tree → Type 0
  Fits Leaf (tree.Leaf v) = Unit {0}
  Fits (Row n f) (tree.Row xs) = (size xs ≡ n) × EachFits (Fits f) xs
  Fits (Class c false bs ms) (tree.Class p xs ys) = AllFit bs xs × AllFit ms ys
  Fits (Class c true bs ms) tree.Union = Unit {0}
  Fits (Class c true bs ms) (tree.Active m x) = MemberFits ms m x
  Fits f x = ⊥

  pub AllFit : Forms → Trees → Type 0
  AllFit End tree.End = Unit {0}
  AllFit (More f fs) (tree.More x xs) = Fits f x × AllFit fs xs
  AllFit fs xs = ⊥

  pub MemberFits : Forms → ℕ → Tree → Type 0
  MemberFits End m x = ⊥
  MemberFits (More f fs) zero x = Fits f x
  MemberFits (More f fs) (suc m) x = MemberFits fs m x

-- The slots of a tree. Behind the header of a union, what its active member doesn't use is blank.

abbrev pub blanks : ℕ → List Slot
blanks zero = []
blanks (suc n) = slot.Value scalar.Indeterminate ∷ blanks n

abbrev pub flat_each : (Tree → List Slot) → Trees → List Slot
flat_each f tree.End = []
flat_each f (tree.More x xs) = f x ++ flat_each f xs

abbrev pub cells_at : Forms → ℕ → ℕ
cells_at End m = 0
cells_at (More f fs) zero = cells f
cells_at (More f fs) (suc m) = cells_at fs m

abbrev mutual
  pub flat : Form → Tree → List Slot
  flat Leaf (tree.Leaf v) = slot.Value v ∷ []
  flat (Row n f) (tree.Row xs) = flat_each (flat f) xs
  flat (Class c false bs ms) (tree.Class p xs ys) = slot.Header p ∷ (flat_all bs xs ++ flat_all ms ys)
  flat (Class c true bs ms) tree.Union = slot.Active None ∷ (blanks (cells_in false bs) ++ blanks (cells_in true ms))
  flat (Class c true bs ms) (tree.Active m x) = slot.Active (Some m) ∷ (blanks (cells_in false bs) ++ (flat_member ms m x ++ blanks (cells_in true ms - cells_at ms m)))
  flat f x = []

  pub flat_all : Forms → Trees → List Slot
  flat_all End xs = []
  flat_all (More f fs) (tree.More x xs) = flat f x ++ flat_all fs xs
  flat_all (More f fs) tree.End = []

  pub flat_member : Forms → ℕ → Tree → List Slot
  flat_member End m x = []
  flat_member (More f fs) zero x = flat f x
  flat_member (More f fs) (suc m) x = flat_member fs m x

-- the tree that the first slots of a list stand for

abbrev pub value_in : List Slot → Scalar Path
value_in (slot.Value v ∷ l) = v
value_in _ = scalar.Indeterminate

abbrev pub phase_in : List Slot → Phase
phase_in (slot.Header p ∷ l) = p
phase_in _ = phase.Unborn

abbrev pub active_in : List Slot → Option ℕ
active_in (slot.Active m ∷ l) = m
active_in _ = None

abbrev pub each_picture : (List Slot → Tree) → ℕ → ℕ → List Slot → Trees
each_picture f c zero l = tree.End
each_picture f c (suc n) l = tree.More (f l) (each_picture f c n (drop c l))

abbrev pub active_picture : (ℕ → List Slot → Tree) → Option ℕ → List Slot → Tree
active_picture f None l = tree.Union
active_picture f (Some m) l = tree.Active m (f m l)

abbrev mutual
  pub picture : Form → List Slot → Tree
  picture Leaf l = tree.Leaf (value_in l)
  picture (Row n f) l = tree.Row (each_picture (picture f) (cells f) n l)
  picture (Class c false bs ms) l = tree.Class (phase_in l) (all_pictures bs (drop 1 l)) (all_pictures ms (drop (cells_in false bs) (drop 1 l)))
  picture (Class c true bs ms) l = active_picture (member_picture ms) (active_in l) (drop (cells_in false bs) (drop 1 l))

  pub all_pictures : Forms → List Slot → Trees
  all_pictures End l = tree.End
  all_pictures (More f fs) l = tree.More (picture f l) (all_pictures fs (drop (cells f) l))

  pub member_picture : Forms → ℕ → List Slot → Tree
  member_picture End m l = tree.Union
  member_picture (More f fs) zero l = picture f l
  member_picture (More f fs) (suc m) l = member_picture fs m l

-- slots that stand for a tree of the form, and hold nothing besides
pub record Stands (f : Form) (l : List Slot) : Type 0 where
  pub fits : Fits f (picture f l)
  pub all : flat f (picture f l) ≡ l
