-- The records that stay where others are cut off.
use Rattle.std.proofs.Common.{◌≡◌, ℕ, zero, suc, ◌+◌, ◌<◌, ◌≤◌, List, [], ◌∷◌, map, take, sum, Option, None, Some, refl, sym, ap, subst, ◌∙◌, slice_get, arith, if◌then◌else◌}
use Rattle.std.specs.Prelude.{option_map, option_and_then, unwrap_or}
use Rattle.cx_types.proofs.Totals.{sum-cons}
use Rattle.cx_type_defs.specs.Tables.{Tables}
use Rattle.cx_state.specs.Objects as tree
use Rattle.cx_state.specs.Objects.{Path, Object, Objects, below}
use Rattle.cx_state.specs.Forms.{Fit, HoldsBelow}
use Rattle.cx_state.proofs.EndedTrees.{Fit-cut}
use Rattle.cx_store.specs.Stores.{PathsBelow}
use Rattle.cx_shapes.specs.Forms.{Form, Leaf}
use Rattle.cx_shapes.proofs.Walking.{below_tree}
use Rattle.cx_records.specs.declared.place.Place.{Place}
use Rattle.cx_records.specs.declared.record.Record.{Record}
use Rattle.cx_records.specs.Records.{steps_of, is_past, nowhere, path_in, cells_of, record_form, forms_in, object_in, objects_of}
use Rattle.cx_records.specs.Fits.{Fits, live_in, live_of}
use Rattle.cx_records.proofs.Placed.{get_map}
use Rattle.cx_records.proofs.Writing.{refit}
use Rattle.cx_records.proofs.Making.{object_stays}

pub get_take : {A : Type 0} (xs : List A) (m n : ℕ) → n < m → slice_get (take m xs) n ≡ slice_get xs n
get_take [] zero n l = absurd (omega arith)
get_take [] (suc m) n l = refl
get_take (x ∷ xs) zero n l = absurd (omega arith)
get_take (x ∷ xs) (suc m) zero l = refl
get_take (x ∷ xs) (suc m) (suc n) l = get_take xs m n (omega arith)

pub take_within : {A : Type 0} (xs : List A) (m n : ℕ) (x : A) → slice_get (take m xs) n ≡ Some x → n < m
take_within [] zero n x e = absurd (cc)
take_within [] (suc m) n x e = absurd (cc)
take_within (a ∷ xs) zero n x e = absurd (cc)
take_within (a ∷ xs) (suc m) zero x e = omega arith
take_within (a ∷ xs) (suc m) (suc n) x e = omega (arith, take_within xs m n x e)

pub map_take : {A B : Type 0} (f : A → B) (m : ℕ) (xs : List A) → map f (take m xs) ≡ take m (map f xs)
map_take f zero [] = refl
map_take f zero (x ∷ xs) = refl
map_take f (suc m) [] = refl
map_take f (suc m) (x ∷ xs) = ap (λ l. f x ∷ l) (map_take f m xs)

pub map_same : (f g : Record → Object) (rs : List Record) → ((n : ℕ) (r : Record) → slice_get rs n ≡ Some r → f r ≡ g r) → map f rs ≡ map g rs
map_same f g [] h = refl
map_same f g (r ∷ rs) h = ap (λ x. x ∷ map f rs) (h 0 r refl) ∙ ap (λ l. g r ∷ l) (map_same f g rs (λ n x e. h (suc n) x e))

pub sum_take : (m : ℕ) (xs : List ℕ) → sum (take m xs) ≤ sum xs
sum_take zero [] = omega arith
sum_take zero (x ∷ xs) = omega arith
sum_take (suc m) [] = omega arith
sum_take (suc m) (x ∷ xs) = let a = sum-cons x (take m xs) in let b = sum-cons x xs in let c = sum_take m xs in omega arith

pub path_below : (fs : List Form) (m : ℕ) (p : Place) → p.object < m → path_in (take m fs) p ≡ path_in fs p
path_below fs m p l = ap (λ (o : Option Form). record { object = p.object; steps = unwrap_or (option_and_then (steps_of p) o) nowhere; past = is_past p.end }) (get_take fs m p.object l)

pub paths_cut : (rs : List Record) (m : ℕ) → PathsBelow m (path_in (forms_in rs)) (path_in (forms_in (take m rs)))
paths_cut rs m p l = ap (λ z. path_in z p) (map_take record_form m rs) ∙ path_below (forms_in rs) m p l

pub objects_cut : (rs : List Record) (m : ℕ) → HoldsBelow (objects_of rs) m → objects_of (take m rs) ≡ take m (objects_of rs)
objects_cut rs m h =
    let fs = forms_in rs in
    let gs = take m fs in
    let stays : (n : ℕ) (r : Record) → slice_get (take m rs) n ≡ Some r → object_in gs r ≡ object_in fs r = λ n r e.
    let l : n < m = take_within rs m n r e in
    let x : slice_get rs n ≡ Some r = sym (get_take rs m n l) ∙ e in
    sym (object_stays fs gs r (λ ss j b o p v.
    let z : 0 + j ≡ j = omega arith in
    let y : below (object_in fs r).tree ss ≡ Some (tree.Leaf (cells_of fs r.contents j).value) =
    below_tree (record_form r) (cells_of fs r.contents) 0 ss (j, Leaf) b ∙ ap (λ c. if c then Some (tree.Leaf (cells_of fs r.contents (0 + j)).value) else None) o ∙ ap (λ k. Some (tree.Leaf (cells_of fs r.contents k).value)) z in
    sym (path_below fs m p (h.holds_below n (object_in fs r) ss (path_in fs p) l (get_map (object_in fs) rs n ∙ ap (option_map (object_in fs)) x) (y ∙ ap (λ z. Some (tree.Leaf z)) v))))) in
    ap (λ z. map (object_in z) (take m rs)) (map_take record_form m rs) ∙ map_same (object_in gs) (object_in fs) (take m rs) stays ∙ map_take (object_in fs) m rs

pub fits_cut : (t : Tables) (rs : List Record) (live after m : ℕ) → HoldsBelow (objects_of rs) m → Fits t rs live → (live_of (take m rs) ≤ live → after ≡ live_of (take m rs)) → Fits t (take m rs) after
fits_cut t rs live after m h f e =
    let c : live ≡ live_of rs = f.count in
    let a : live_of (take m rs) ≤ live_of rs = subst (λ z. sum z ≤ live_of rs) (sym (map_take live_in m rs)) (sum_take m (map live_in rs)) in
    record {
      fit = subst (Fit t) (sym (objects_cut rs m h)) (Fit-cut t (objects_of rs) m f.fit h);
      kept = λ n r g. refit t (forms_in rs) (forms_in (take m rs)) r (f.kept n r (sym (get_take rs m n (take_within rs m n r g)) ∙ g));
      count = e (omega arith);
    }
