-- A tree of a form takes as many slots as the form has cells.
use Rattle.std.proofs.Common.{◌≡◌, ℕ, zero, suc, ◌*◌, ◌-◌, ◌≤◌, true, false, List, ◌++◌, length, refl, ap, ◌∙◌, arith, length-append}
use Rattle.std.proofs.Math.Nat.{suc-mul}
use Rattle.cx_state.specs.Objects.{Tree, Trees, size}
use Rattle.cx_state.specs.Objects as tree
use Rattle.cx_layout.specs.Forms.{Form, Forms, Leaf, Row, Class, End, More, cells, cells_in}
use Rattle.cx_slots.specs.Slots.{Slot}
use Rattle.cx_slots.specs.Flat.{EachFits, Fits, AllFit, MemberFits, blanks, flat_each, cells_at, flat, flat_all, flat_member}

pub blanks_length : (n : ℕ) → length (blanks n) ≡ n
blanks_length zero = refl
blanks_length (suc n) = ap suc (blanks_length n)

-- a member is no wider than the widest
pub member_within : (fs : Forms) (m : ℕ) → cells_at fs m ≤ cells_in true fs
member_within End m = omega arith
member_within (More f fs) zero = omega arith
member_within (More f fs) (suc m) = let h = member_within fs m in omega arith

each_length : (c : ℕ) (f : Tree → List Slot) (P : Tree → Type 0) (h : (x : Tree) → P x → length (f x) ≡ c) (xs : Trees) → EachFits P xs → length (flat_each f xs) ≡ size xs * c
each_length c f P h tree.End e = omega arith
each_length c f P h (tree.More x xs) e =
    let a = h x e.0 in
    let b = each_length c f P h xs e.1 in
    let w = suc-mul (size xs) c in
    let k = length-append (f x) (flat_each f xs) in
    omega arith

mutual
  pub flat_length : (f : Form) (x : Tree) → Fits f x → length (flat f x) ≡ cells f
  flat_length Leaf (tree.Leaf v) h = refl
  flat_length (Row n f) (tree.Row xs) h = each_length (cells f) (flat f) (Fits f) (flat_length f) xs h.1 ∙ ap (λ k. k * cells f) h.0
  flat_length (Class c false bs ms) (tree.Class p xs ys) h =
      let a = all_length bs xs h.0 in
      let b = all_length ms ys h.1 in
      let k = length-append (flat_all bs xs) (flat_all ms ys) in
      omega arith
  flat_length (Class c true bs ms) tree.Union h =
      let a = blanks_length (cells_in false bs) in
      let b = blanks_length (cells_in true ms) in
      let k = length-append (blanks (cells_in false bs)) (blanks (cells_in true ms)) in
      omega arith
  flat_length (Class c true bs ms) (tree.Active m x) h =
      let a = member_length ms m x h in
      let w = member_within ms m in
      let d = blanks_length (cells_in false bs) in
      let b = blanks_length (cells_in true ms - cells_at ms m) in
      let k = length-append (flat_member ms m x) (blanks (cells_in true ms - cells_at ms m)) in
      let l = length-append (blanks (cells_in false bs)) (flat_member ms m x ++ blanks (cells_in true ms - cells_at ms m)) in
      omega arith
  flat_length f x h = absurd h

  pub all_length : (fs : Forms) (xs : Trees) → AllFit fs xs → length (flat_all fs xs) ≡ cells_in false fs
  all_length End tree.End h = refl
  all_length (More f fs) (tree.More x xs) h =
      let a = flat_length f x h.0 in
      let b = all_length fs xs h.1 in
      let k = length-append (flat f x) (flat_all fs xs) in
      omega arith
  all_length fs xs h = absurd h

  pub member_length : (fs : Forms) (m : ℕ) (x : Tree) → MemberFits fs m x → length (flat_member fs m x) ≡ cells_at fs m
  member_length End m x h = absurd h
  member_length (More f fs) zero x h = flat_length f x h
  member_length (More f fs) (suc m) x h = member_length fs m x h
