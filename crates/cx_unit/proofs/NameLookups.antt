-- What the table of `Names` says of its entries, at the names' bytes.
use Rattle.std.proofs.Common.{◌≡◌, ℕ, Bool, true, false, List, [], ◌∷◌, ◌++◌, cond, None, Some, Vec, refl, ap, ◌∙◌}
use Rattle.std.proofs.lemmas.Cmp.{nat_list_eq_equiv}
use Rattle.std.proofs.lemmas.List.{map-append}
use Rattle.std.specs.Map.{lookup}
use Rattle.std.specs.Str.{bytes_eq}
use Rattle.indexmap.specs.IndexMap.{IndexMap, insert_entry}
use Rattle.indexmap.proofs.CallerLemmas.{insert_entry-new}
use Rattle.cx_unit.specs.Names.{named_entries, value_among}

module _ {A V : Type 0} where
  -- a look-up by a slice finds the value of the first entry that has its bytes
  pub lookup-named : (entries : List (Vec ℕ A × V)) (name : List ℕ)
      → lookup (λ key. bytes_eq name key.items) entries ≡ value_among (named_entries entries) name
  lookup-named [] name = refl
  lookup-named (entry ∷ entries) name =
      λ i. cond (nat_list_eq_equiv.symm name entry.0.items i) (Some entry.1) (lookup-named entries name i)

  -- a key that has the bytes of a name that was not there goes last
  pub named-insert : {S : Type 0} (m : IndexMap (Vec ℕ A) V S) (key : Vec ℕ A) (value : V) (after : List (Vec ℕ A × V))
      (named : List (List ℕ × V)) (name : List ℕ) → named_entries m.entries ≡ named → key.items ≡ name → value_among named name ≡ None
      → after ≡ insert_entry (λ x y. bytes_eq x.items y.items) m.entries key value → named_entries after ≡ named ++ (name, value) ∷ []
  named-insert m key value after named name view bytes absent inserted =
      let unknown : value_among (named_entries m.entries) key.items ≡ None = (λ i. value_among (view i) (bytes i)) ∙ absent in
      ap named_entries (inserted ∙ insert_entry-new (λ x y. bytes_eq x.items y.items) m key value (lookup-named m.entries key.items ∙ unknown))
      ∙ map-append (λ entry. (entry.0.items, entry.1)) m.entries ((key, value) ∷ [])
      ∙ (λ i. view i ++ (bytes i, value) ∷ [])

module _ {V : Type 0} where
  -- a name that was not there has its value once it is declared
  pub value_among-declared : (entries : List (List ℕ × V)) (name : List ℕ) (value : V)
      → value_among entries name ≡ None → value_among (entries ++ (name, value) ∷ []) name ≡ Some value
  value_among-declared [] name value absent = ap (λ same. cond same (Some value) None) (nat_list_eq_equiv.refl name)
  value_among-declared (entry ∷ entries) name value absent =
      by (bytes_eq entry.0 name) absent (value_among-declared entries name value)
    where
      by : (same : Bool) → cond same (Some entry.1) (value_among entries name) ≡ None
          → (value_among entries name ≡ None → value_among (entries ++ (name, value) ∷ []) name ≡ Some value)
          → cond same (Some entry.1) (value_among (entries ++ (name, value) ∷ []) name) ≡ Some value
      by true none rest = cc
      by false none rest = rest none

  -- another name keeps its value, or stays unknown
  pub value_among-other : (entries : List (List ℕ × V)) (name other : List ℕ) (value : V)
      → bytes_eq name other ≡ false → value_among (entries ++ (name, value) ∷ []) other ≡ value_among entries other
  value_among-other [] name other value apart = ap (λ same. cond same (Some value) None) apart
  value_among-other (entry ∷ entries) name other value apart =
      ap (cond (bytes_eq entry.0 other) (Some entry.1)) (value_among-other entries name other value apart)

-- the names a, ab and a again
three_names : List (List ℕ × ℕ)
three_names = (97 ∷ [], 1) ∷ (97 ∷ 98 ∷ [], 2) ∷ (97 ∷ [], 3) ∷ []

first_entry_counts : value_among three_names (97 ∷ []) ≡ Some 1
unfolding three_names
first_entry_counts = refl

whole_name_counts : value_among three_names (97 ∷ 98 ∷ []) ≡ Some 2
unfolding three_names
whole_name_counts = refl

unknown_name : value_among three_names (98 ∷ []) ≡ None
unfolding three_names
unknown_name = refl

empty_name : value_among three_names [] ≡ None
unfolding three_names
empty_name = refl
