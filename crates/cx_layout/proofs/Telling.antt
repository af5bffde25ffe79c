-- Columns describe one form, and go on describing it where they grow and where rows before it change.
use Rattle.std.proofs.Common.{◌≡◌, ℕ, zero, suc, ◌+◌, ◌≤◌, Bool, false, List, [], ◌∷◌, ◌++◌, Some, refl, ap, ◌∙◌, arith, slice_get, get_or}
use Rattle.cx_type_defs.specs.declared.ids.Step.{Step}
use Rattle.cx_type_defs.specs.declared.ids.Step.TheVariants as step
use Rattle.cx_layout.specs.declared.columns.Under.{Under}
use Rattle.cx_layout.specs.declared.columns.Node.{Node}
use Rattle.cx_layout.specs.Forms.{Form, Forms, Leaf, Row, Class, End, More, count, nodes, nodes_in, cells_in, stride}
use Rattle.cx_layout.specs.Laid.{kind_of, IsNode, IsUnder, Listed, Laid, PartsLaid, read_parts, read_kind, read_node, form_in}
use Rattle.cx_layout.proofs.Fitting.{nodes_pos}

at_some : (ks : List ℕ) (k n : ℕ) → slice_get ks k ≡ Some n → get_or ks k 0 ≡ n
at_some [] k n e = absurd (cc)
at_some (x ∷ ks) zero n e = cc
at_some (x ∷ ks) (suc k) n e = at_some ks k n e

reads : (r : ℕ → Form) (ks : List ℕ) (ns : List Node) (n : ℕ) (f : Form) (h : IsNode ns n f) → read_node r ks n (slice_get ns n) ≡ read_kind r ks n h.row.bases_from h.row.members_from (kind_of f)
reads r ks ns n f h = ap (read_node r ks n) h.is_row ∙ ap (read_kind r ks n h.row.bases_from h.row.members_from) h.kind

mutual
  -- at as many levels as the form has nodes, the form is read
  pub laid_form : (ns : List Node) (ks : List ℕ) (n : ℕ) (f : Form) (k : ℕ) → nodes f ≤ k → Laid ns ks n f → form_in k ns ks n ≡ f
  laid_form ns ks n f zero l h = let w = nodes_pos f in absurd (omega arith)
  laid_form ns ks n Leaf (suc k) l h = reads (form_in k ns ks) ks ns n Leaf h
  laid_form ns ks n (Row m f) (suc k) l h = reads (form_in k ns ks) ks ns n (Row m f) h.0 ∙ ap (Row m) (laid_form ns ks (suc n) f k (omega arith) h.2)
  laid_form ns ks n (Class c u bs ms) (suc k) l h =
      reads (form_in k ns ks) ks ns n (Class c u bs ms) h.0
      ∙ ap (λ fs. Class c u fs (read_parts (form_in k ns ks) ks h.0.row.members_from (count ms))) (parts_form ns ks n step.Base false 0 h.0.row.bases_from (suc n) 1 bs k (omega arith) h.1 h.3)
      ∙ ap (Class c u bs) (parts_form ns ks n step.Field u 0 h.0.row.members_from (n + suc (nodes_in bs)) (suc (cells_in false bs)) ms k (omega arith) h.2 h.4)

  parts_form : (ns : List Node) (ks : List ℕ) (p : ℕ) (s : ℕ → Step) (u : Bool) (i a n o : ℕ) (fs : Forms) (k : ℕ) → nodes_in fs ≤ k → Listed ks a n fs → PartsLaid ns ks p s u i n o fs → read_parts (form_in k ns ks) ks a (count fs) ≡ fs
  parts_form ns ks p s u i a n o End k l h g = refl
  parts_form ns ks p s u i a n o (More f fs) k l h g =
      ap (λ t. More (form_in k ns ks t) (read_parts (form_in k ns ks) ks (suc a) (count fs))) (at_some ks a n h.0)
      ∙ ap (λ g. More g (read_parts (form_in k ns ks) ks (suc a) (count fs))) (laid_form ns ks n f k (omega arith) g.1)
      ∙ ap (More f) (parts_form ns ks p s u (suc i) (suc a) (n + nodes f) (o + stride u f) fs k (omega arith) h.1 g.2)

-- what stands from number m on stands in the other list too
abbrev pub StaysFrom : {A : Type 0} → ℕ → List A → List A → Type 0
StaysFrom {A} m xs ys = (i : ℕ) (x : A) → m ≤ i → slice_get xs i ≡ Some x → slice_get ys i ≡ Some x

pub get_more : {A : Type 0} (xs ys : List A) (i : ℕ) (x : A) → slice_get xs i ≡ Some x → slice_get (xs ++ ys) i ≡ Some x
get_more [] ys i x e = absurd (cc)
get_more (y ∷ xs) ys zero x e = e
get_more (y ∷ xs) ys (suc i) x e = get_more xs ys i x e

module _ (ns ms : List Node) (ks js : List ℕ) (m : ℕ) (rows : StaysFrom m ns ms) (lists : StaysFrom 0 ks js) where
  abbrev node_stays : (n : ℕ) (f : Form) → m ≤ n → IsNode ns n f → IsNode ms n f
  node_stays n f l h = record { row = h.row; is_row = rows n h.row l h.is_row; kind = h.kind; cells = h.cells }

  abbrev pub under_stays : (n : ℕ) (u : Under) → m ≤ n → IsUnder ns n u → IsUnder ms n u
  under_stays n u l h = record { row = h.row; is_row = rows n h.row l h.is_row; under_is = h.under_is }

  pub listed_stays : (k n : ℕ) (fs : Forms) → Listed ks k n fs → Listed js k n fs
  listed_stays k n End h = tt
  listed_stays k n (More f fs) h = (lists k n (omega arith) h.0, listed_stays (suc k) (n + nodes f) fs h.1)

  mutual
    pub laid_stays : (n : ℕ) (f : Form) → m ≤ n → Laid ns ks n f → Laid ms js n f
    laid_stays n Leaf l h = node_stays n Leaf l h
    laid_stays n (Row k f) l h = (node_stays n (Row k f) l h.0, under_stays (suc n) _ (omega arith) h.1, laid_stays (suc n) f (omega arith) h.2)
    laid_stays n (Class c u bs ms) l h = (
      node_stays n (Class c u bs ms) l h.0,
      listed_stays h.0.row.bases_from (suc n) bs h.1,
      listed_stays h.0.row.members_from (n + suc (nodes_in bs)) ms h.2,
      parts_stay n step.Base false 0 (suc n) 1 bs (omega arith) h.3,
      parts_stay n step.Field u 0 (n + suc (nodes_in bs)) (suc (cells_in false bs)) ms (omega arith) h.4,
    )

    pub parts_stay : (p : ℕ) (s : ℕ → Step) (u : Bool) (i n o : ℕ) (fs : Forms) → m ≤ n → PartsLaid ns ks p s u i n o fs → PartsLaid ms js p s u i n o fs
    parts_stay p s u i n o End l h = tt
    parts_stay p s u i n o (More f fs) l h = (under_stays n _ l h.0, laid_stays n f l h.1, parts_stay p s u (suc i) (n + nodes f) (o + stride u f) fs (omega arith) h.2)
