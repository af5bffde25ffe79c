-- Sets of texts, and the table that holds one.
use Rattle.std.proofs.Common.{◌≡◌, ℕ, Bool, true, false, ◌||◌, List, [], ◌∷◌, ◌++◌, map, refl, sym, ap, ◌∙◌, Vec, if◌then◌else◌}
use Rattle.std.proofs.lemmas.List.{map-append}
use Rattle.std.proofs.lemmas.Map.Text.{is_eq-slice_cmp}
use Rattle.std.specs.Cmp.{Equal-is}
use Rattle.std.specs.Cmp.Lexicographic.{slice_cmp, nat_list_cmp_total}
use Rattle.std.specs.FinSet.{contains, contains-from_list, contains-insert, contains_tied, from_list, from_list_push, insert, nat_cmp-IsAntisymmetric, same_set, slice_cmp-IsAntisymmetric}
use Rattle.std.specs.List.{list_any}
use Rattle.std.specs.Ordering.{nat_cmp, eq_by_cmp}
use Rattle.std.specs.Str.{bytes_eq}
use Rattle.indexmap.specs.IndexSet.{insert_key}
use Rattle.cx_type_names.specs.Names.{Texts}

-- the members of the set of some texts
pub contains-texts : (names : List (List ℕ)) (name : List ℕ) → contains (from_list {R = slice_cmp nat_cmp} names) name ≡ list_any (bytes_eq name) names
contains-texts names name = contains-from_list nat_list_cmp_total names name ∙ by names
  where
    by : (names : List (List ℕ)) → list_any (eq_by_cmp (slice_cmp nat_cmp) name) names ≡ list_any (bytes_eq name) names
    by [] = refl
    by (other ∷ names) = λ i. is_eq-slice_cmp name other i || by names i

-- a member that is put in again changes nothing
pub insert-member : (s : Texts) (name : List ℕ) → contains s name ≡ true → s ≡ insert s name
insert-member s name there =
    same_set nat_list_cmp_total (slice_cmp-IsAntisymmetric nat_cmp-IsAntisymmetric) s (insert s name)
    (λ q. by q (eq_by_cmp (slice_cmp nat_cmp) q name) refl ∙ sym (contains-insert nat_list_cmp_total s name q))
  where
    by : (q : List ℕ) (b : Bool) → eq_by_cmp (slice_cmp nat_cmp) q name ≡ b → contains s q ≡ (b || contains s q)
    by q true same = sym (contains_tied nat_list_cmp_total s q name ((Equal-is (slice_cmp nat_cmp q name)).0 same)) ∙ there
    by q false other = refl

module _ {A : Type 0} where
  any-texts : (keys : List (Vec ℕ A)) (name : List ℕ) → list_any (λ key. bytes_eq name key.items) keys ≡ list_any (bytes_eq name) (map (λ key. key.items) keys)
  any-texts [] name = refl
  any-texts (key ∷ keys) name = ap (λ b. bytes_eq name key.items || b) (any-texts keys name)

  -- a look-up by a slice
  pub has-text : (keys : List (Vec ℕ A)) (name : List ℕ)
      → list_any (λ key. bytes_eq name key.items) keys ≡ contains (from_list {R = slice_cmp nat_cmp} (map (λ key. key.items) keys)) name
  has-text keys name = any-texts keys name ∙ sym (contains-texts (map (λ key. key.items) keys) name)

  -- a key that has the bytes of a name that was not there
  pub insert-named : (keys : List (Vec ℕ A)) (key : Vec ℕ A) (name : List ℕ) → key.items ≡ name
      → list_any (λ other. bytes_eq name other.items) keys ≡ false
      → (after : List (Vec ℕ A)) → after ≡ insert_key (λ x y. bytes_eq x.items y.items) keys key
      → (s : Texts) → from_list {R = slice_cmp nat_cmp} (map (λ k. k.items) keys) ≡ s
      → from_list {R = slice_cmp nat_cmp} (map (λ k. k.items) after) ≡ insert s name
  insert-named keys key name bytes absent after inserted s view =
      let unknown : list_any (λ other. bytes_eq key.items other.items) keys ≡ false =
      ap (λ (b : List ℕ). list_any (λ other. bytes_eq b other.items) keys) bytes ∙ absent in
      ap (λ (ks : List (Vec ℕ A)). from_list {R = slice_cmp nat_cmp} (map (λ k. k.items) ks))
      (inserted ∙ ap (λ b. if b then keys else keys ++ key ∷ []) unknown)
      ∙ ap (from_list {R = slice_cmp nat_cmp}) (map-append (λ k. k.items) keys (key ∷ []))
      ∙ from_list_push nat_list_cmp_total (slice_cmp-IsAntisymmetric nat_cmp-IsAntisymmetric) (map (λ k. k.items) keys) key.items
      ∙ (λ i. insert (view i) (bytes i))
