-- Cells that are made new.
use Rattle.std.proofs.Common.{◌≡◌, ℕ, ◌+◌, ◌<◌, ◌≤◌, ◌==◌, List, Some, inl, inr, refl, sym, ap, ◌∙◌, arith, eqb-true}
use Rattle.std.proofs.lemmas.Bool.{cases_Bool, eqb-false}
use Rattle.cx_state.specs.declared.kind.Phase.{Phase}
use Rattle.cx_shapes.specs.Forms.{Form, size}
use Rattle.cx_shapes.specs.Contents.{fresh, tree_of}
use Rattle.cx_shapes.proofs.Parting.{SameBut, tree_same}
use Rattle.cx_shapes.proofs.Fresh.{all_fresh}
use Rattle.cx_records.specs.declared.record.Content.TheVariants as content
use Rattle.cx_records.specs.declared.record.Contents.{Contents}
use Rattle.cx_records.specs.declared.record.Contents.TheVariants as contents
use Rattle.cx_records.specs.Records.{cell_of, cells_of}
use Rattle.cx_records.specs.Fits.{IsFull}
use Rattle.cx_records.specs.Writes.{HasRoom, Puts}
use Rattle.cx_records.proofs.Writing.{with_same, cell_here}
use Rattle.cx_record_unions.specs.Members.{HasRooms, Cleared, Renewed}

-- one cell more

pub cleared_none : (n : ℕ) (p : Phase) (c : Contents) → Cleared n n p c c
cleared_none n p c = record {
  within = λ fs j a b. absurd (omega arith);
  before = λ fs j a. refl;
  behind = λ fs j a. refl;
  full = λ f h. h;
  room = λ j h. h;
}

pub cleared_more : (from n : ℕ) (p : Phase) (old mid new : Contents) → from ≤ n → Cleared from n p old mid → Puts n (content.Phase p) mid new → Cleared from (n + 1) p old new
cleared_more from n p old mid new l w q = record {
  within = λ fs j a b. elim (cases_Bool (j == n)) as (λ _. cells_of fs new j ≡ fresh p) [
    | inl e ↦ ap (cells_of fs new) (eqb-true j n e) ∙ cell_here (cells_of fs mid) (cells_of fs new) n (fresh p) (q.cells fs)
    | inr e ↦ (let ne = eqb-false j n e in q.cells fs j ∙ with_same n (fresh p) (cells_of fs mid) j ne ∙ w.within fs j a (omega arith))
  ];
  before = λ fs j a. q.cells fs j ∙ with_same n (fresh p) (cells_of fs mid) j (λ e. absurd (omega arith)) ∙ w.before fs j a;
  behind = λ fs j a. q.cells fs j ∙ with_same n (fresh p) (cells_of fs mid) j (λ e. absurd (omega arith)) ∙ w.behind fs j (omega arith);
  full = λ f h. q.full f (w.full f h);
  room = λ j h. q.room j (w.room j h);
}

-- a member's cells

module _ (fs : List Form) (number from to m : ℕ) (p : Phase) (old new : Contents) (w : Renewed number from to m p old new) (l : number < from) where
  away : (j : ℕ) → (j ≡ number → ⊥) → cells_of fs new j ≡ cells_of fs w.between j
  away j h = w.put.cells fs j ∙ with_same number (cell_of fs (content.Member m)) (cells_of fs w.between) j h

  pub renewed_member : (cells_of fs new number).member ≡ Some m
  renewed_member = ap (λ x. x.member) (cell_here (cells_of fs w.between) (cells_of fs new) number (cell_of fs (content.Member m)) (w.put.cells fs))

  pub renewed_but : (size_f size_g : ℕ) → from ≤ to → to ≤ number + size_g → SameBut (cells_of fs old) (cells_of fs new) 0 size_f number size_g
  renewed_but size_f size_g o h = record {
    before = record { same = λ k a b. sym (away k (λ e. absurd (omega arith)) ∙ w.cleared.before fs k (omega arith)) };
    behind = record { same = λ k a b. sym (away k (λ e. absurd (omega arith)) ∙ w.cleared.behind fs k (omega arith)) };
  }

  pub renewed_tree : (g : Form) (b : ℕ) → from ≡ b → to ≡ b + size g → tree_of g (all_fresh p) b ≡ tree_of g (cells_of fs new) b
  renewed_tree g b e h = tree_same g (all_fresh p) (cells_of fs new) b (record { same = λ k x y. sym (away k (λ z. absurd (omega arith)) ∙ w.cleared.within fs k (omega arith) (omega arith)) })

-- where there is one content, there is one of each part
pub all_rooms : (f : Form) (c : Contents) (k n : ℕ) → HasRoom k c → IsFull f c → n ≤ size f → HasRooms n c
all_rooms f (contents.Same x) k n h full l = absurd h
all_rooms f (contents.Each items) k n h full l = record { room = λ j b. omega arith }
