-- The form of a union's shape.
use Rattle.std.proofs.Common.{◌≡◌, ℕ, List, map, rules}
use Rattle.cx_shapes.specs.declared.shape.Shape as s
use Rattle.cx_shapes.specs.declared.shape.Shape.{Shape}
use Rattle.cx_shapes.specs.Forms.{Union, form_of, told}

pub view_union : (ms : List Shape) (es : List ℕ) → form_of (s.Union ms es) ≡ Union (told es (map form_of ms))
view_union ms es = search (rules, s.the_lemmas)
