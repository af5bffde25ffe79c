-- Chains of pointers, references and arrays ([basic.compound]): where one leads, and how long it gets.
use Rattle.std.specs.Prelude.{ℕ, zero, suc, ◌+◌, Option, None, Some, slice_get, option_and_then}
use Rattle.cx_type_defs.specs.declared.ids.TypeId.{TypeId}
use Rattle.cx_type_defs.specs.declared.kind.TypeRow.{TypeRow}
use Rattle.cx_type_defs.specs.declared.kind.TypeKind.{TypeKind}
use Rattle.cx_type_defs.specs.declared.kind.TypeKind.TheVariants as kind
use Rattle.cx_type_defs.specs.Tables.{Tables}
use Rattle.cx_type_defs.specs.Questions.{most_levels}

-- How many types a walk along a chain meets at most: one more than a type may have levels, since a pointer to a class
-- has one level, and the class is met behind it.
unfoldable pub most_steps : ℕ
most_steps = most_levels + 1

-- what a pointer or reference leads to, and of what type an array's elements are
abbrev pub part_of : TypeKind → Option TypeId
part_of (kind.Pointer to) = Some to
part_of (kind.Reference to) = Some to
part_of (kind.Array of n) = Some of
part_of _ = None

abbrev pub part_at : Tables → TypeId → Option TypeId
part_at t id = option_and_then (λ (r : TypeRow). part_of r.kind) (slice_get t.rows id.0)

-- the type to which so many steps along the chain lead from this one, if it is so long
unfoldable pub led_to : Tables → ℕ → TypeId → Option TypeId
led_to t zero id = Some id
led_to t (suc n) id = option_and_then (led_to t n) (part_at t id)
