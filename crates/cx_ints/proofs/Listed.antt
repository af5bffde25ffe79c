-- The type that a literal gets has its value.
use Rattle.std.proofs.Common.{◌≡◌, ℕ, Bool, true, false, refl, List, [], ◌∷◌, Some, pos}
use Rattle.std.specs.Prelude.{IfSome, ◌&&◌, if◌then◌else◌}
use Rattle.std.specs.List.{find}
use Rattle.cx_base.specs.declared.int_type.IntType.{IntType}
use Rattle.cx_ints.specs.declared.literals.Suffix.{Suffix}
use Rattle.cx_ints.specs.Ranges.{Fits, fits}
use Rattle.cx_ints.specs.Literals.{is_listed, literal_type, literal_types}
use Rattle.cx_ints.proofs.Results.{fits_fact, both_true}

find_fits : (p : IntType → Bool) (value : ℕ) (ts : List IntType) → IfSome (find (λ t. p t && fits t (pos value)) ts) (λ t. Fits t (pos value))
find_fits p value [] = tt
find_fits p value (t ∷ ts) = by (p t && fits t (pos value)) refl (find_fits p value ts)
  where
    by : (b : Bool) → p t && fits t (pos value) ≡ b → IfSome (find (λ u. p u && fits u (pos value)) ts) (λ u. Fits u (pos value)) → IfSome (if b then Some t else find (λ u. p u && fits u (pos value)) ts) (λ u. Fits u (pos value))
    by true e rest = fits_fact t (pos value) (both_true (p t) (fits t (pos value)) e).1
    by false e rest = rest

pub literal_fits : (value : ℕ) (decimal : Bool) (s : Suffix) → IfSome (literal_type value decimal s) (λ t. Fits t (pos value))
unfolding literal_type
literal_fits value decimal s = find_fits (λ t. is_listed decimal s t) value literal_types
