-- Objects, what they hold, and how their parts are named ([intro.object]).
use Rattle.std.specs.Prelude.{ℕ, zero, suc, ◌==◌, Bool, true, false, ◌&&◌, List, [], ◌∷◌, Option, None, Some, slice_get, option_and_then, if◌then◌else◌}
use Rattle.cx_type_defs.specs.Tables.{changed_at}
use Rattle.cx_type_defs.specs.declared.ids.Step.{Step}
use Rattle.cx_type_defs.specs.declared.ids.Step.TheVariants as step
use Rattle.cx_type_defs.specs.declared.ids.TypeId.{TypeId}
use Rattle.cx_state.specs.declared.kind.Kind.{Kind}
use Rattle.cx_state.specs.declared.kind.Birth.{Birth}
use Rattle.cx_state.specs.declared.kind.Phase.{Phase}
use Rattle.cx_state.specs.declared.kind.Scalar.{Scalar}

-- Where something is: the number of an object, the steps from it to a part of it, outermost first, and whether this is
-- the place just past that part. The place past an array of n elements steps to element n and has the mark.
pub record Path : Type 0 where
  pub object : ℕ
  pub steps : List Step
  pub past : Bool

-- What a part holds: a scalar or reference its value, an array its elements, a class its phase, its bases and its
-- members, and a union its active member with what that holds, if it has one ([class.union]).
mutual
  pub data Tree : Type 0 where
    Leaf : Scalar Path → Tree
    Row : Trees → Tree
    Class : Phase → Trees → Trees → Tree
    Union : Tree
    Active : ℕ → Tree → Tree

  pub data Trees : Type 0 where
    End : Trees
    More : Tree → Trees → Trees

-- An object of a type, or an array of `count` of it that a new-expression made. Its number is its place in the list of
-- all objects.
pub record Object : Type 0 where
  pub ty : TypeId
  pub count : Option ℕ
  pub kind : Kind
  pub konst : Bool
  pub birth : Birth
  pub released : Bool
  pub counted : Bool
  pub tree : Tree

abbrev pub Objects : Type 0
Objects = List Object

-- lists of trees

abbrev pub trees : List Tree → Trees
trees [] = End
trees (x ∷ xs) = More x (trees xs)

abbrev pub copies : ℕ → Tree → Trees
copies zero x = End
copies (suc n) x = More x (copies n x)

abbrev pub size : Trees → ℕ
size End = 0
size (More x xs) = suc (size xs)

abbrev pub tree_at : Trees → ℕ → Option Tree
tree_at End i = None
tree_at (More x xs) zero = Some x
tree_at (More x xs) (suc i) = tree_at xs i

abbrev pub tree_changed : (Tree → Tree) → Trees → ℕ → Trees
tree_changed f End i = End
tree_changed f (More x xs) zero = More (f x) xs
tree_changed f (More x xs) (suc i) = More x (tree_changed f xs i)

-- parts of a tree

-- the part that a step leads to; of a union's members only the active one is there
abbrev pub part : Tree → Step → Option Tree
part (Row xs) (step.Elem i) = tree_at xs i
part (Class phase bases members) (step.Base i) = tree_at bases i
part (Class phase bases members) (step.Field i) = tree_at members i
part (Active m x) (step.Field i) = if m == i then Some x else None
part _ _ = None

abbrev pub part_changed : (Tree → Tree) → Tree → Step → Tree
part_changed f (Row xs) (step.Elem i) = Row (tree_changed f xs i)
part_changed f (Class phase bases members) (step.Base i) = Class phase (tree_changed f bases i) members
part_changed f (Class phase bases members) (step.Field i) = Class phase bases (tree_changed f members i)
part_changed f (Active m x) (step.Field i) = Active m (if m == i then f x else x)
part_changed f x _ = x

-- what stands at the end of the steps
abbrev pub below : Tree → List Step → Option Tree
below x [] = Some x
below x (s ∷ ss) = option_and_then (λ y. below y ss) (part x s)

-- the tree with what stands at the end of the steps changed by f
abbrev pub changed : (Tree → Tree) → Tree → List Step → Tree
changed f x [] = f x
changed f x (s ∷ ss) = part_changed (λ y. changed f y ss) x s

-- what stands at a path
abbrev pub at : Objects → Path → Option Tree
at os p = option_and_then (λ (o : Object). below o.tree p.steps) (slice_get os p.object)

-- the objects with what stands at a path changed by f
abbrev pub put : (Tree → Tree) → Objects → Path → Objects
put f os p = changed_at (λ (o : Object). record o { tree = changed f o.tree p.steps }) os p.object

-- comparing

abbrev pub same_step : Step → Step → Bool
same_step (step.Base i) (step.Base j) = i == j
same_step (step.Field i) (step.Field j) = i == j
same_step (step.Elem i) (step.Elem j) = i == j
same_step _ _ = false

abbrev pub same_steps : List Step → List Step → Bool
same_steps [] [] = true
same_steps (s ∷ ss) (u ∷ us) = same_step s u && same_steps ss us
same_steps _ _ = false

abbrev pub same_bool : Bool → Bool → Bool
same_bool true b = b
same_bool false true = false
same_bool false false = true

abbrev pub same_path : Path → Path → Bool
same_path p q = (p.object == q.object) && same_steps p.steps q.steps && same_bool p.past q.past
