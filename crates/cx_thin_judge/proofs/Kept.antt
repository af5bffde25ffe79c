-- What the judge keeps, as its map tells it.
use Rattle.std.proofs.Common.{◌≡◌, ◌==◌, [], ◌∷◌, Some, refl, ap, if◌then◌else◌}
use Rattle.std.specs.Map.{lookup}
use Rattle.indexmap.specs.IndexMap.{insert_entry}
use Rattle.cx_type_defs.specs.declared.ids.VarId.{VarId}
use Rattle.cx_typed.specs.declared.judge.KeptValue.{KeptValue}
use Rattle.cx_typed.specs.Judging.{Kept, kept_at, keeping}

pub lookup_kept : (ks : Kept) (v : VarId) → lookup (λ (k : VarId). v.0 == k.0) ks ≡ kept_at ks v
lookup_kept [] v = refl
lookup_kept (k ∷ ks) v = ap (λ x. if v.0 == k.0.0 then Some k.1 else x) (lookup_kept ks v)

pub insert_kept : (ks : Kept) (v : VarId) (x : KeptValue) → insert_entry (λ (a b : VarId). a.0 == b.0) ks v x ≡ keeping ks v x
insert_kept [] v x = refl
insert_kept (k ∷ ks) v x = ap (λ l. if v.0 == k.0.0 then (k.0, x) ∷ ks else k ∷ l) (insert_kept ks v x)
