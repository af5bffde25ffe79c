-- The number of parts.
use Rattle.std.proofs.Common.{◌≡◌, ℕ, ◌+◌, ◌<◌, ◌≤◌, List, [], ◌∷◌, ◌++◌, length, map, take, get_or, sym, ap, ◌∙◌, arith}
use Rattle.std.proofs.lemmas.List.{take_more}
use Rattle.cx_shapes.specs.declared.shape.Shape.{Shape}
use Rattle.cx_shapes.specs.Forms.{Form, Leaf, Row, Class, Union, form_of, forms_of, size, sizes, nodes, nodes_in}

pub sizes_push : (xs : List Shape) (x : Shape) → sizes (forms_of (map form_of (xs ++ x ∷ []))) ≡ sizes (forms_of (map form_of xs)) + size (form_of x)
sizes_push [] x = omega arith
sizes_push (y ∷ ys) x = omega (arith, sizes_push ys x)

-- one more of a list
pub sizes_more : (xs : List Shape) (i : ℕ) (x : Shape) → i < length xs → x ≡ get_or xs i x
    → sizes (forms_of (map form_of (take (i + 1) xs))) ≡ sizes (forms_of (map form_of (take i xs))) + size (form_of x)
sizes_more xs i x h e = ap (λ ys. sizes (forms_of (map form_of ys))) (take_more xs i x h ∙ ap (λ z. take i xs ++ z ∷ []) (sym e)) ∙ sizes_push (take i xs) x

pub nodes_pos : (f : Form) → 1 ≤ nodes f
nodes_pos Leaf = omega arith
nodes_pos (Row n f) = omega arith
nodes_pos (Class bs ms) = omega arith
nodes_pos (Union ms) = omega arith

nodes_push : (xs : List Shape) (x : Shape) → nodes_in (forms_of (map form_of (xs ++ x ∷ []))) ≡ nodes_in (forms_of (map form_of xs)) + nodes (form_of x)
nodes_push [] x = omega arith
nodes_push (y ∷ ys) x = omega (arith, nodes_push ys x)

pub nodes_more : (xs : List Shape) (i : ℕ) (x : Shape) → i < length xs → x ≡ get_or xs i x
    → nodes_in (forms_of (map form_of (take (i + 1) xs))) ≡ nodes_in (forms_of (map form_of (take i xs))) + nodes (form_of x)
nodes_more xs i x h e = ap (λ ys. nodes_in (forms_of (map form_of ys))) (take_more xs i x h ∙ ap (λ z. take i xs ++ z ∷ []) (sym e)) ∙ nodes_push (take i xs) x
