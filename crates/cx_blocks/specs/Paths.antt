-- The paths of places ([basic.compound], [expr.add]).
use Rattle.std.specs.Prelude.{ℕ, zero, suc, ◌-◌, ◌==◌, Bool, false, ◌&&◌, List, [], ◌∷◌, ◌++◌, Option, slice_get, option_map, unwrap_or}
use Rattle.std.specs.List.{find}
use Rattle.cx_type_defs.specs.declared.ids.Step.{Step}
use Rattle.cx_type_defs.specs.declared.ids.Step.TheVariants as step
use Rattle.cx_state.specs.Objects.{Path}
use Rattle.cx_layout.specs.declared.columns.Descriptor.{Descriptor}
use Rattle.cx_layout.specs.declared.place.Place.{Place}
use Rattle.cx_layout.specs.Forms.{Form, Row, Part, below_of}
use Rattle.cx_layout.specs.Places.{place_at}
use Rattle.cx_layout.specs.Described.{form_at}
use Rattle.cx_layout.proofs.WaysBack.{way}

-- the steps lead to the node and cell of a place
abbrev pub is_part : Place → Part → Bool
is_part at p = (p.node == at.node) && (p.slot == at.slot)

abbrev pub do_lead : Form → Place → List Step → Bool
do_lead f at ss = unwrap_or (option_map (is_part at) (place_at f at.past ss)) false

-- Which steps may: those to a part at that node and cell, or past the last element of an array those to the array, whose
-- first cell is so many cells before, with its length.

abbrev pub count_of : Form → ℕ
count_of (Row m f) = m
count_of f = 0

abbrev pub end_steps : Form → List Step → List Step
end_steps f us = us ++ step.Elem (unwrap_or (option_map (λ (p : Part). count_of p.form) (below_of f us)) 0) ∷ []

abbrev pub ends_before : Form → Place → ℕ → List (List Step)
ends_before f at zero = end_steps f (way f (at.node - 1) at.slot) ∷ []
ends_before f at (suc k) = end_steps f (way f (at.node - 1) (at.slot - suc k)) ∷ ends_before f at k

-- steps that no object has: a base has no elements
abbrev pub nowhere : List Step
nowhere = step.Base 0 ∷ step.Elem 0 ∷ []

-- the steps that lead to a place, and where none do, steps that no object has
unfoldable pub steps_to : Form → Place → List Step
steps_to f at = unwrap_or (find (do_lead f at) (way f at.node at.slot ∷ ends_before f at at.slot)) nowhere

-- the path of a place, where each object has the descriptor with its number in a list
abbrev pub path_steps : List Descriptor → Option ℕ → Place → List Step
path_steps ds n at = unwrap_or (option_map (λ n. steps_to (form_at ds n) at) n) nowhere

abbrev pub path_in : List Descriptor → List ℕ → Place → Path
path_in ds ns at = record { object = at.block; steps = path_steps ds (slice_get ns at.block) at; past = at.past }
