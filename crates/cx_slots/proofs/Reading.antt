-- The slots of a tree stand for that tree.
use Rattle.std.proofs.Common.{◌≡◌, ℕ, zero, suc, ◌-◌, true, false, List, [], ◌∷◌, ◌++◌, length, drop, refl, sym, ap, subst, ◌∙◌, append_assoc}
use Rattle.std.proofs.Math.Seq.{drop-append_seam}
use Rattle.cx_state.specs.Objects.{Tree, Trees, size}
use Rattle.cx_state.specs.Objects as tree
use Rattle.cx_layout.specs.Forms.{Form, Forms, Leaf, Row, Class, End, More, cells, cells_in}
use Rattle.cx_slots.specs.Slots.{Slot}
use Rattle.cx_slots.specs.Flat.{EachFits, Fits, AllFit, MemberFits, blanks, flat_each, cells_at, flat, flat_all, flat_member, each_picture, picture, all_pictures, member_picture, Stands}
use Rattle.cx_slots.proofs.Lengths.{blanks_length, flat_length, all_length}

drop_front : {A : Type 0} (a b : List A) (n : ℕ) → length a ≡ n → drop n (a ++ b) ≡ b
drop_front a b n h = ap (λ k. drop k (a ++ b)) (sym h) ∙ drop-append_seam a b

pub append_none : {A : Type 0} (a : List A) → a ++ [] ≡ a
append_none [] = refl
append_none (x ∷ a) = ap (λ l. x ∷ l) (append_none a)

each_read : (c : ℕ) (f : Tree → List Slot) (g : List Slot → Tree) (P : Tree → Type 0) (l : (x : Tree) → P x → length (f x) ≡ c) (h : (x : Tree) (more : List Slot) → P x → g (f x ++ more) ≡ x)
    (xs : Trees) (more : List Slot) → EachFits P xs → each_picture g c (size xs) (flat_each f xs ++ more) ≡ xs
each_read c f g P l h tree.End more e = refl
each_read c f g P l h (tree.More x xs) more e =
    ap (λ s. tree.More (g s) (each_picture g c (size xs) (drop c s))) (append_assoc (f x) (flat_each f xs) more)
    ∙ ap (λ y. tree.More y (each_picture g c (size xs) (drop c (f x ++ (flat_each f xs ++ more))))) (h x (flat_each f xs ++ more) e.0)
    ∙ ap (λ s. tree.More x (each_picture g c (size xs) s)) (drop_front (f x) (flat_each f xs ++ more) c (l x e.0))
    ∙ ap (tree.More x) (each_read c f g P l h xs more e.1)

mutual
  pub read : (f : Form) (x : Tree) (more : List Slot) → Fits f x → picture f (flat f x ++ more) ≡ x
  read Leaf (tree.Leaf v) more h = refl
  read (Row n f) (tree.Row xs) more h =
      ap (λ k. tree.Row (each_picture (picture f) (cells f) k (flat_each (flat f) xs ++ more))) (sym h.0)
      ∙ ap tree.Row (each_read (cells f) (flat f) (picture f) (Fits f) (flat_length f) (read f) xs more h.1)
  read (Class c false bs ms) (tree.Class p xs ys) more h =
      ap (λ l. tree.Class p (all_pictures bs l) (all_pictures ms (drop (cells_in false bs) l))) (append_assoc (flat_all bs xs) (flat_all ms ys) more)
      ∙ ap (λ a. tree.Class p a (all_pictures ms (drop (cells_in false bs) (flat_all bs xs ++ (flat_all ms ys ++ more))))) (all_read bs xs (flat_all ms ys ++ more) h.0)
      ∙ ap (λ l. tree.Class p xs (all_pictures ms l)) (drop_front (flat_all bs xs) (flat_all ms ys ++ more) (cells_in false bs) (all_length bs xs h.0))
      ∙ ap (tree.Class p xs) (all_read ms ys more h.1)
  read (Class c true bs ms) tree.Union more h = refl
  read (Class c true bs ms) (tree.Active m x) more h =
      let pad : List Slot = blanks (cells_in true ms - cells_at ms m) in
      ap (λ l. tree.Active m (member_picture ms m (drop (cells_in false bs) l))) (append_assoc (blanks (cells_in false bs)) (flat_member ms m x ++ pad) more)
      ∙ ap (λ l. tree.Active m (member_picture ms m l)) (drop_front (blanks (cells_in false bs)) ((flat_member ms m x ++ pad) ++ more) (cells_in false bs) (blanks_length (cells_in false bs)))
      ∙ ap (λ l. tree.Active m (member_picture ms m l)) (append_assoc (flat_member ms m x) pad more)
      ∙ ap (tree.Active m) (member_read ms m x (pad ++ more) h)
  read f x more h = absurd h

  pub all_read : (fs : Forms) (xs : Trees) (more : List Slot) → AllFit fs xs → all_pictures fs (flat_all fs xs ++ more) ≡ xs
  all_read End tree.End more h = refl
  all_read (More f fs) (tree.More x xs) more h =
      ap (λ l. tree.More (picture f l) (all_pictures fs (drop (cells f) l))) (append_assoc (flat f x) (flat_all fs xs) more)
      ∙ ap (λ y. tree.More y (all_pictures fs (drop (cells f) (flat f x ++ (flat_all fs xs ++ more))))) (read f x (flat_all fs xs ++ more) h.0)
      ∙ ap (λ l. tree.More x (all_pictures fs l)) (drop_front (flat f x) (flat_all fs xs ++ more) (cells f) (flat_length f x h.0))
      ∙ ap (tree.More x) (all_read fs xs more h.1)
  all_read fs xs more h = absurd h

  pub member_read : (fs : Forms) (m : ℕ) (x : Tree) (more : List Slot) → MemberFits fs m x → member_picture fs m (flat_member fs m x ++ more) ≡ x
  member_read End m x more h = absurd h
  member_read (More f fs) zero x more h = read f x more h
  member_read (More f fs) (suc m) x more h = member_read fs m x more h

-- so slots that are those of a tree stand for it
pub stands : (f : Form) (x : Tree) (l : List Slot) → Fits f x → l ≡ flat f x → Stands f l × (picture f l ≡ x)
stands f x l h e =
    let nil : flat f x ++ [] ≡ flat f x = append_none (flat f x) in
    let p : picture f l ≡ x = ap (picture f) (e ∙ sym nil) ∙ read f x [] h in
    (record { fits = subst (Fits f) (sym p) h; all = ap (flat f) p ∙ sym e }, p)

pub stands_length : (f : Form) (l : List Slot) → Stands f l → length l ≡ cells f
stands_length f l h = ap length (sym h.all) ∙ flat_length f (picture f l) h.fits
