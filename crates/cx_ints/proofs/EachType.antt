-- What holds for all twelve types, by one test that computes; and with it the laws of promotions and common types.
use Rattle.std.proofs.Common.{◌≡◌, ℕ, Bool, true, false, refl, sym, ap, ◌∙◌, List, [], ◌∷◌, Option, Some, None, zero, suc}
use Rattle.std.specs.Prelude.{◌&&◌, nat_eq}
use Rattle.std.proofs.lemmas.Bool.{eqb-true}
use Rattle.cx_base.specs.declared.int_type.IntType.{IntType}
use Rattle.cx_base.specs.declared.int_type.IntType.TheVariants as type
use Rattle.cx_ints.specs.Ranges.{width, is_signed, greatest}
use Rattle.cx_ints.specs.Conversions.{promote, common, common_promoted, mixed, higher, rank, unsigned_of}

all_types : List IntType
all_types = type.Bool ∷ type.Char ∷ type.SChar ∷ type.UChar ∷ type.Short ∷ type.UShort ∷ type.Int ∷ type.UInt ∷ type.Long ∷ type.ULong ∷ type.LongLong ∷ type.ULongLong ∷ []

place : IntType → ℕ
place type.Bool = 0
place type.Char = 1
place type.SChar = 2
place type.UChar = 3
place type.Short = 4
place type.UShort = 5
place type.Int = 6
place type.UInt = 7
place type.Long = 8
place type.ULong = 9
place type.LongLong = 10
place type.ULongLong = 11

type_at : List IntType → ℕ → Option IntType
type_at [] i = None
type_at (t ∷ ts) zero = Some t
type_at (t ∷ ts) (suc i) = type_at ts i

found : (t : IntType) → type_at all_types (place t) ≡ Some t
unfolding type_at all_types place
found type.Bool = refl
found type.Char = refl
found type.SChar = refl
found type.UChar = refl
found type.Short = refl
found type.UShort = refl
found type.Int = refl
found type.UInt = refl
found type.Long = refl
found type.ULong = refl
found type.LongLong = refl
found type.ULongLong = refl

all_of : (IntType → Bool) → List IntType → Bool
all_of p [] = true
all_of p (t ∷ ts) = p t && all_of p ts

all_at : (p : IntType → Bool) (ts : List IntType) (i : ℕ) (t : IntType) → all_of p ts ≡ true → type_at ts i ≡ Some t → p t ≡ true
unfolding all_of type_at
all_at p [] i t e f = absurd (cc)
all_at p (u ∷ ts) zero t e f = let same : u ≡ t = cc in sym (ap p same) ∙ first (p u) (all_of p ts) e
  where
    first : (x y : Bool) → x && y ≡ true → x ≡ true
    first true y h = refl
    first false y h = h
all_at p (u ∷ ts) (suc i) t e f = all_at p ts i t (second (p u) (all_of p ts) e) f
  where
    second : (x y : Bool) → x && y ≡ true → y ≡ true
    second true y h = h
    second false y h = absurd (cc)

every : (IntType → Bool) → Bool
every p = all_of p all_types

at_each : (p : IntType → Bool) → every p ≡ true → (t : IntType) → p t ≡ true
unfolding every
at_each p e t = all_at p all_types (place t) t e (found t)

same_type : IntType → IntType → Bool
same_type t u = nat_eq (place t) (place u)

same_is : (t u : IntType) → same_type t u ≡ true → t ≡ u
unfolding same_type
same_is t u e =
    let places = eqb-true (place t) (place u) e in
    let both : Some t ≡ Some u = sym (found t) ∙ ap (type_at all_types) places ∙ found u in
    cc

-- ---- laws
promote_test : every (λ t. same_type (promote (promote t)) (promote t)) ≡ true
unfolding every all_of all_types same_type place promote width
promote_test = refl

pub promote_again : (t : IntType) → promote (promote t) ≡ promote t
promote_again t = same_is _ _ (at_each (λ u. same_type (promote (promote u)) (promote u)) promote_test t)

common_test : every (λ t. every (λ u. same_type (common t u) (common u t))) ≡ true
unfolding every all_of all_types same_type place common common_promoted mixed higher rank unsigned_of greatest is_signed promote width
common_test = refl

pub common_symmetric : (t u : IntType) → common u t ≡ common t u
common_symmetric t u =
    same_is _ _ (at_each (λ v. same_type (common u v) (common v u)) (at_each (λ v. every (λ w. same_type (common v w) (common w v))) common_test u) t)

promoted_test : every (λ t. every (λ u. same_type (promote (common t u)) (common t u))) ≡ true
unfolding every all_of all_types same_type place common common_promoted mixed higher rank unsigned_of greatest is_signed promote width
promoted_test = refl

pub common_promoted_already : (t u : IntType) → promote (common t u) ≡ common t u
common_promoted_already t u =
    same_is _ _ (at_each (λ v. same_type (promote (common t v)) (common t v)) (at_each (λ v. every (λ w. same_type (promote (common v w)) (common v w))) promoted_test t) u)

one_test : every (λ t. same_type (common t t) (promote t)) ≡ true
unfolding every all_of all_types same_type place common common_promoted mixed higher rank unsigned_of greatest is_signed promote width
one_test = refl

pub common_of_one : (t u : IntType) → t ≡ u → common t u ≡ promote t
common_of_one t u e =
    ap (common t) (sym e) ∙ same_is _ _ (at_each (λ v. same_type (common v v) (promote v)) one_test t)
