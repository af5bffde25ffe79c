-- How a class is derived from another ([class.derived]): a way goes from a class to one of its direct bases, and on from
-- there, and a class is reached from itself by no step. A base that is reached by several ways is ambiguous
-- ([class.member.lookup], [conv.ptr]).
use Rattle.std.specs.Prelude.{ℕ, zero, suc, ◌+◌, ◌==◌, List, [], ◌∷◌, Option, Some, option_map, option_and_then, unwrap_or, if◌then◌else◌}
use Rattle.std.specs.List.{sum_by}
use Rattle.cx_type_defs.specs.declared.ids.ClassId.{ClassId}
use Rattle.cx_type_defs.specs.declared.decl.ClassBody.{ClassBody}
use Rattle.cx_type_defs.specs.Tables.{Tables, body_at, base_of}
use Rattle.cx_type_defs.specs.Questions.{most_levels}
use Rattle.cx_derived.specs.declared.walk.Ways.{Ways}
use Rattle.cx_derived.specs.declared.walk.Ways.TheVariants as ways

-- the class to which these steps lead: each is the number of a direct base of the class that was reached
abbrev pub led : Tables → ClassId → List ℕ → Option ClassId
led t c [] = Some c
led t c (i ∷ is) = option_and_then (λ b. led t b is) (base_of t c i)

-- the direct bases of a class, none while it is incomplete
abbrev pub bases_at : Tables → ClassId → List ClassId
bases_at t c = unwrap_or (option_map (λ (b : ClassBody). b.bases) (body_at t c)) []

-- how many ways of fewer than n steps lead to the base
unfoldable pub ways_within : Tables → ClassId → ℕ → ClassId → ℕ
ways_within t base zero c = 0
ways_within t base (suc n) c = (if c.0 == base.0 then 1 else 0) + sum_by (ways_within t base n) (bases_at t c)

-- how many ways lead to the base: none has as many steps as a class may have levels
unfoldable pub ways_to : Tables → ClassId → ClassId → ℕ
ways_to t c base = ways_within t base most_levels c

-- a number of ways, as far as it matters
abbrev pub as_ways : ℕ → Ways
as_ways zero = ways.None
as_ways (suc zero) = ways.One
as_ways (suc (suc n)) = ways.Several
