-- The type of an integer literal ([lex.icon]).
use Rattle.std.specs.Prelude.{ℕ, Bool, true, false, not, ◌&&◌, nat_le, pos, List, [], ◌∷◌, Option}
use Rattle.std.specs.List.{find}
use Rattle.cx_base.specs.declared.int_type.IntType.{IntType}
use Rattle.cx_base.specs.declared.int_type.IntType.TheVariants as type
use Rattle.cx_ints.specs.declared.literals.Suffix.{Suffix}
use Rattle.cx_ints.specs.declared.literals.Suffix.TheVariants as suffix
use Rattle.cx_ints.specs.Ranges.{is_signed, fits}
use Rattle.cx_ints.specs.Conversions.{rank}

-- the types that a literal may have, in the order in which they are tried
unfoldable pub literal_types : List IntType
literal_types = type.Int ∷ type.UInt ∷ type.Long ∷ type.ULong ∷ type.LongLong ∷ type.ULongLong ∷ []

unfoldable pub has_u : Suffix → Bool
has_u suffix.U = true
has_u suffix.UL = true
has_u suffix.ULL = true
has_u _ = false

-- the first type that the suffix lets stand
unfoldable pub lowest : Suffix → IntType
lowest suffix.L = type.Long
lowest suffix.UL = type.Long
lowest suffix.LL = type.LongLong
lowest suffix.ULL = type.LongLong
lowest _ = type.Int

-- No signed type stands where there is a `u`, no unsigned one in a decimal literal without it, and none before long or long long where there is an `l` or `ll`.
unfoldable pub is_listed : Bool → Suffix → IntType → Bool
is_listed decimal s t =
    not (has_u s && is_signed t) && (not (decimal && not (has_u s) && not (is_signed t)) && nat_le (rank (lowest s)) (rank t))

-- the first type of the list that has the value
unfoldable pub literal_type : ℕ → Bool → Suffix → Option IntType
literal_type value decimal s = find (λ t. is_listed decimal s t && fits t (pos value)) literal_types
