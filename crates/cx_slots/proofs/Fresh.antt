-- New trees have their form, and are written part by part.
use Rattle.std.proofs.Common.{◌≡◌, ℕ, zero, suc, ◌*◌, ◌<◌, true, false, List, ◌++◌, length, Some, refl, sym, ap, ◌∙◌, arith, append_assoc, length-append}
use Rattle.std.specs.Prelude.{option_map}
use Rattle.cx_state.specs.declared.kind.Phase.{Phase}
use Rattle.cx_state.specs.Objects.{Tree, Trees, size, copies}
use Rattle.cx_state.specs.Objects as tree
use Rattle.cx_layout.specs.Forms.{Form, Forms, Leaf, Row, Class, End, More, count, nodes, cells, cells_in, Part, further, whole, item}
use Rattle.cx_slots.specs.Slots.{Slot}
use Rattle.cx_slots.specs.Flat.{EachFits, Fits, AllFit, flat_each, flat}
use Rattle.cx_slots.specs.Fresh.{fresh, all_fresh, new_slots, all_new, first}
use Rattle.cx_slots.proofs.Lengths.{flat_length, all_length}
use Rattle.cx_slots.proofs.Reading.{append_none}

copies_size : (n : ℕ) (x : Tree) → size (copies n x) ≡ n
copies_size zero x = refl
copies_size (suc n) x = ap suc (copies_size n x)

copies_fit : (P : Tree → Type 0) (n : ℕ) (x : Tree) → P x → EachFits P (copies n x)
copies_fit P zero x h = tt
copies_fit P (suc n) x h = (h, copies_fit P n x h)

mutual
  pub fresh_fits : (p : Phase) (f : Form) → Fits f (fresh p f)
  fresh_fits p Leaf = tt
  fresh_fits p (Row n f) = (copies_size n (fresh p f), copies_fit (Fits f) n (fresh p f) (fresh_fits p f))
  fresh_fits p (Class c false bs ms) = (all_fresh_fit p bs, all_fresh_fit p ms)
  fresh_fits p (Class c true bs ms) = tt

  pub all_fresh_fit : (p : Phase) (fs : Forms) → AllFit fs (all_fresh p fs)
  all_fresh_fit p End = tt
  all_fresh_fit p (More f fs) = (fresh_fits p f, all_fresh_fit p fs)

pub new_length : (p : Phase) (f : Form) → length (new_slots p f) ≡ cells f
new_length p f = flat_length f (fresh p f) (fresh_fits p f)

pub all_new_length : (p : Phase) (fs : Forms) → length (all_new p fs) ≡ cells_in false fs
all_new_length p fs = all_length fs (all_fresh p fs) (all_fresh_fit p fs)

-- one element more
pub copies_more : (f : Tree → List Slot) (x : Tree) (n : ℕ) → flat_each f (copies (suc n) x) ≡ flat_each f (copies n x) ++ f x
copies_more f x zero = append_none (f x)
copies_more f x (suc n) = ap (λ k. f x ++ k) (copies_more f x n) ∙ sym (append_assoc (f x) (flat_each f (copies n x)) (f x))

pub copies_length : (p : Phase) (f : Form) (n : ℕ) → length (flat_each (flat f) (copies n (fresh p f))) ≡ n * cells f
copies_length p f n = flat_length (Row n f) (tree.Row (copies n (fresh p f))) (fresh_fits p (Row n f))

-- one base or member more
pub record Nth (fs : Forms) (k : ℕ) (p : Phase) : Type 0 where
  pub part : Part
  pub is_part : item false fs k ≡ Some part
  pub slot : part.slot ≡ length (all_new p (first k fs))
  pub more : all_new p (first (suc k) fs) ≡ all_new p (first k fs) ++ new_slots p part.form

pub nth : (p : Phase) (fs : Forms) (k : ℕ) → k < count fs → Nth fs k p
nth p End k l = absurd (omega arith)
nth p (More f fs) zero l = record { part = whole f; is_part = refl; slot = refl; more = append_none (new_slots p f) }
nth p (More f fs) (suc k) l =
    let h = nth p fs k (omega arith) in
    let a = new_length p f in
    let b = length-append (new_slots p f) (all_new p (first k fs)) in
    let c = h.slot in
    record {
      part = further (nodes f) (cells f) h.part;
      is_part = ap (option_map (further (nodes f) (cells f))) h.is_part;
      slot = omega arith;
      more = ap (λ t. new_slots p f ++ t) h.more ∙ sym (append_assoc (new_slots p f) (all_new p (first k fs)) (new_slots p h.part.form));
    }

pub first_all : (fs : Forms) (n : ℕ) → n ≡ count fs → first n fs ≡ fs
first_all End zero e = refl
first_all End (suc n) e = refl
first_all (More f fs) zero e = absurd (cc)
first_all (More f fs) (suc n) e = ap (More f) (first_all fs n (cc))
