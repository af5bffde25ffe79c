-- What the hashed table of a scope says of its names.
use Rattle.std.proofs.Common.{◌≡◌, ℕ, Bool, true, false, List, [], ◌∷◌, ◌++◌, map, cond, Some, Vec, refl, sym, ap, ◌∙◌, if◌then◌else◌}
use Rattle.std.specs.Prelude.{unwrap_or}
use Rattle.std.specs.Map.{lookup, set_value}
use Rattle.std.specs.Str.{bytes_eq}
use Rattle.std.proofs.lemmas.Map.Steps.{set_value_same}
use Rattle.indexmap.specs.IndexMap.{insert_entry}
use Rattle.cx_scopes.specs.declared.kinds.Entity.{Entity}
use Rattle.cx_scopes.specs.Names.{Names, meanings, with_meaning}

module _ {A : Type 0} where
  -- the entries of the table, by the bytes of their keys
  abbrev pub named : List (Vec ℕ A × List Entity) → Names
  named entries = map (λ entry. (entry.0.items, entry.1)) entries

  abbrev pub has_name : List ℕ → Vec ℕ A → Bool
  has_name name key = bytes_eq name key.items

  pub meanings-lookup : (entries : List (Vec ℕ A × List Entity)) (name : List ℕ) → meanings (named entries) name ≡ unwrap_or (lookup (has_name name) entries) []
  meanings-lookup [] name = refl
  meanings-lookup (entry ∷ entries) name = by (bytes_eq name entry.0.items) (meanings-lookup entries name)
    where
      by : (b : Bool) → meanings (named entries) name ≡ unwrap_or (lookup (has_name name) entries) []
          → (if b then entry.1 else meanings (named entries) name) ≡ unwrap_or (cond b (Some entry.1) (lookup (has_name name) entries)) []
      by true rest = refl
      by false rest = rest

  -- the list of a name with one more meaning
  pub named-set_value : (entries : List (Vec ℕ A × List Entity)) (name : List ℕ) (es : List Entity) (e : Entity) → lookup (has_name name) entries ≡ Some es
      → named (set_value (has_name name) entries (es ++ e ∷ [])) ≡ with_meaning (named entries) name e
  named-set_value [] name es e h = cc
  named-set_value (entry ∷ entries) name es e h = by (bytes_eq name entry.0.items) (named-set_value entries name es e) h
    where
      by : (b : Bool) → (lookup (has_name name) entries ≡ Some es → named (set_value (has_name name) entries (es ++ e ∷ [])) ≡ with_meaning (named entries) name e)
          → cond b (Some entry.1) (lookup (has_name name) entries) ≡ Some es
          → named (cond b ((entry.0, es ++ e ∷ []) ∷ entries) (entry ∷ set_value (has_name name) entries (es ++ e ∷ []))) ≡ (if b then (entry.0.items, entry.1 ++ e ∷ []) ∷ named entries else (entry.0.items, entry.1) ∷ with_meaning (named entries) name e)
      by true rest k = let same : es ≡ entry.1 = cc in ap (λ l. (entry.0.items, l ++ e ∷ []) ∷ named entries) same
      by false rest k = ap (λ l. (entry.0.items, entry.1) ∷ l) (rest k)

  -- a name that has no meanings yet
  pub named-insert : (entries : List (Vec ℕ A × List Entity)) (key : Vec ℕ A) (name : List ℕ) (e : Entity) → key.items ≡ name → meanings (named entries) name ≡ []
      → named (insert_entry (λ x y. bytes_eq x.items y.items) entries key (e ∷ [])) ≡ with_meaning (named entries) name e
  named-insert [] key name e bytes h = ap (λ n. (n, e ∷ []) ∷ []) bytes
  named-insert (entry ∷ entries) key name e bytes h =
      ap (λ n. named (if bytes_eq n entry.0.items then (entry.0, e ∷ []) ∷ entries else entry ∷ insert_entry (λ x y. bytes_eq x.items y.items) entries key (e ∷ []))) bytes
      ∙ by (bytes_eq name entry.0.items) (named-insert entries key name e bytes) h
    where
      by : (b : Bool) → (meanings (named entries) name ≡ [] → named (insert_entry (λ x y. bytes_eq x.items y.items) entries key (e ∷ [])) ≡ with_meaning (named entries) name e)
          → (if b then entry.1 else meanings (named entries) name) ≡ []
          → named (if b then (entry.0, e ∷ []) ∷ entries else entry ∷ insert_entry (λ x y. bytes_eq x.items y.items) entries key (e ∷ [])) ≡ (if b then (entry.0.items, entry.1 ++ e ∷ []) ∷ named entries else (entry.0.items, entry.1) ∷ with_meaning (named entries) name e)
      by true rest k = ap (λ (l : List Entity). (entry.0.items, l ++ e ∷ []) ∷ named entries) (sym k)
      by false rest k = ap (λ l. (entry.0.items, entry.1) ∷ l) (rest k)

  -- a list that is written back as it was changes nothing
  pub named-same : (entries : List (Vec ℕ A × List Entity)) (name : List ℕ) (es : List Entity) → lookup (has_name name) entries ≡ Some es
      → named (set_value (has_name name) entries es) ≡ named entries
  named-same entries name es h = ap named (set_value_same (has_name name) entries es h)
