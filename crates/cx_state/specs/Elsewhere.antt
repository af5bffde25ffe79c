-- Which places lie apart, and what a change at one place leaves as it was ([intro.object], [basic.life]).
use Rattle.std.specs.Prelude.{◌≡◌, ℕ, ◌==◌, Bool, true, false, ◌&&◌, ◌||◌, not, List, [], ◌∷◌, ◌++◌, length, Some, slice_get, option_map}
use Rattle.cx_type_defs.specs.declared.ids.Step.{Step}
use Rattle.cx_state.specs.declared.kind.Phase.TheVariants as phase
use Rattle.cx_state.specs.declared.kind.Scalar.TheVariants as scalar
use Rattle.cx_state.specs.Objects.{Path, Tree, Leaf, Row, Class, Union, Active, Object, Objects, same_step, at}

-- one list of steps is the beginning of another, or all of it
abbrev pub is_front : List Step → List Step → Bool
is_front [] us = true
is_front (s ∷ ss) [] = false
is_front (s ∷ ss) (u ∷ us) = same_step s u && is_front ss us

-- two paths lead to parts of which neither is the other or lies within it
abbrev pub is_aside : Path → Path → Bool
is_aside p q = not (p.object == q.object) || not (is_front p.steps q.steps) && not (is_front q.steps p.steps)

abbrev pub IsAside : Path → Path → Type 0
IsAside p q = is_aside p q ≡ true

-- the second path leads neither to what the first leads to nor to a part of it
abbrev pub is_outside : Path → Path → Bool
is_outside p q = not ((p.object == q.object) && is_front p.steps q.steps)

-- the path to a part of what a path leads to
abbrev pub within : Path → List Step → Bool → Path
within p ss past = record { object = p.object; steps = p.steps ++ ss; past = past }

-- All that a change at a path may have changed is what the path leads to: no other object, nothing of its own object
-- but the tree, and nothing aside of it there.
pub record Elsewhere (before after : Objects) (p : Path) : Type 0 where
  pub as_many : length after ≡ length before
  pub other_objects : (i : ℕ) → (i ≡ p.object → ⊥) → slice_get after i ≡ slice_get before i
  pub record_stays : (o : Object) → slice_get before p.object ≡ Some o → (x : Tree) × (slice_get after p.object ≡ Some (record o { tree = x }))
  pub aside : (q : Path) → IsAside p q → at after q ≡ at before q

-- one object is changed, by f, and no other
pub record OneObject (f : Object → Object) (before after : Objects) (i : ℕ) : Type 0 where
  pub as_many : length after ≡ length before
  pub that_object : slice_get after i ≡ option_map f (slice_get before i)
  pub other_objects : (j : ℕ) → (j ≡ i → ⊥) → slice_get after j ≡ slice_get before j

-- it has no value, isn't alive, and has no active member
abbrev pub is_over : Tree → Bool
is_over (Leaf scalar.Indeterminate) = true
is_over (Leaf v) = false
is_over (Row xs) = true
is_over (Class phase.Ended bases members) = true
is_over (Class p bases members) = false
is_over Union = true
is_over (Active m x) = false
