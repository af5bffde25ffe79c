-- The slots of a class: first those of its bases, base by base, and then one for each virtual function that it declares
-- and that overrides none ([class.virtual]).
use Rattle.std.specs.Prelude.{ℕ, zero, suc, ◌+◌, List, [], ◌∷◌, length, Option, None, Some, option_and_then, option_map, unwrap_or, sum, map, nat_lt, if◌then◌else◌}
use Rattle.cx_type_defs.specs.declared.ids.ClassId.{ClassId}
use Rattle.cx_type_defs.specs.declared.decl.ClassBody.{ClassBody}
use Rattle.cx_type_defs.specs.Tables.{Tables, body_at}

-- how many slots a class has, and bases have together
abbrev pub slot_count : Tables → ClassId → ℕ
slot_count t c = length (unwrap_or (option_map (λ (b : ClassBody). b.slots) (body_at t c)) [])

abbrev pub base_slots : Tables → ClassBody → ℕ
base_slots t b = sum (map (slot_count t) b.bases)

-- the slot that stands for slot k of base i: that slot, behind those of the bases before it
abbrev pub slot_among : (ClassId → ℕ) → List ClassId → ℕ → ℕ → Option ℕ
slot_among count [] i k = None
slot_among count (c ∷ cs) zero k = if nat_lt k (count c) then Some k else None
slot_among count (c ∷ cs) (suc i) k = option_map (λ n. count c + n) (slot_among count cs i k)

abbrev pub base_slot : Tables → ClassId → ℕ → ℕ → Option ℕ
base_slot t c i k = option_and_then (λ (b : ClassBody). slot_among (slot_count t) b.bases i k) (body_at t c)
