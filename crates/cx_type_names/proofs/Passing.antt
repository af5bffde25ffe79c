-- Attribute groups are passed one by one.
use Rattle.std.proofs.Common.{◌≡◌, ℕ, zero, suc, ◌≤◌, Bool, true, false, List, [], ◌∷◌, length, Option, Some, None, refl, ap, arith, if◌then◌else◌}
use Rattle.std.specs.Option.{option_map_or}
use Rattle.cx_token_defs.specs.declared.Token.{Token}
use Rattle.cx_type_names.specs.declared.role.Bracket.{Bracket}
use Rattle.cx_type_names.specs.declared.role.Bracket.TheVariants.{Square}
use Rattle.cx_type_names.specs.Groups.{behind_closer, behind_closers, behind_group, behind_groups, behind_groups_upto, behind_square, open_behind}
use Rattle.cx_type_names.specs.Roles.{closes, opens, role_of}

pub some-same : {A : Type 0} (x y : A) → Some x ≡ Some y → x ≡ y
some-same x y e = cc

pub none-some : {A : Type 0} {P : Type 0} (x : A) → None ≡ Some x → P
none-some x e = absurd cc

closers-length : (u : Option (List Bracket)) (s r : List Token) → behind_closers u s ≡ Some r → length r ≤ length s
closers-length None s r e = none-some r e
closers-length (Some []) s r e = let same : s ≡ r = some-same s r e in let alike : length s ≡ length r = ap length same in omega arith
closers-length (Some (b ∷ u)) [] r e = none-some r e
closers-length (Some (b ∷ u)) (t ∷ s) r e = let less : length r ≤ length s = closers-length (open_behind (role_of t) (b ∷ u)) s r e in omega arith

square-length : (s r : List Token) → behind_square s ≡ Some r → length r ≤ length s
square-length [] r e = none-some r e
square-length (t ∷ s) r e = by (opens Square (role_of t)) e
  where
    by : (b : Bool) → (if b then behind_closers (Some (Square ∷ [])) s else None) ≡ Some r → length r ≤ suc (length s)
    by true e = let less : length r ≤ length s = closers-length (Some (Square ∷ [])) s r e in omega arith
    by false e = none-some r e

closer-length : (s r : List Token) → behind_closer s ≡ Some r → length r ≤ length s
closer-length [] r e = none-some r e
closer-length (t ∷ s) r e = by (closes Square (role_of t)) e
  where
    by : (b : Bool) → (if b then Some s else None) ≡ Some r → length r ≤ suc (length s)
    by true e = let same : length s ≡ length r = ap length (some-same s r e) in omega arith
    by false e = none-some r e

pub group-length : (t : Token) (s r : List Token) → behind_group (t ∷ s) ≡ Some r → length r ≤ length s
group-length t s r e = by (opens Square (role_of t)) e
  where
    then_closer : (o : Option (List Token)) → behind_square s ≡ o → option_map_or behind_closer o None ≡ Some r → length r ≤ length s
    then_closer None square e = none-some r e
    then_closer (Some inner) square e =
        let inside : length inner ≤ length s = square-length s inner square in
        let behind : length r ≤ length inner = closer-length inner r e in
        omega arith

    by : (b : Bool) → (if b then option_map_or behind_closer (behind_square s) None else None) ≡ Some r → length r ≤ length s
    by true e = then_closer (behind_square s) refl e
    by false e = none-some r e

-- the bound is no matter where it is no less than the list's length
enough : (n m : ℕ) (s : List Token) → length s ≤ n → length s ≤ m → behind_groups_upto n s ≡ behind_groups_upto m s
enough zero zero s few less = refl
enough zero (suc m) [] few less = refl
enough zero (suc m) (t ∷ s) few less = absurd (omega arith)
enough (suc n) zero [] few less = refl
enough (suc n) zero (t ∷ s) few less = absurd (omega arith)
enough (suc n) (suc m) [] few less = refl
enough (suc n) (suc m) (t ∷ s) few less = by (behind_group (t ∷ s)) refl (λ r fits. enough n m r fits)
  where
    by : (o : Option (List Token)) → behind_group (t ∷ s) ≡ o
        → ((r : List Token) → length r ≤ n → length r ≤ m → behind_groups_upto n r ≡ behind_groups_upto m r)
        → option_map_or (behind_groups_upto n) o (t ∷ s) ≡ option_map_or (behind_groups_upto m) o (t ∷ s)
    by None e rest = refl
    by (Some r) e rest = let shorter : length r ≤ length s = group-length t s r e in rest r (omega arith) (omega arith)

-- behind the first group, or none
pub groups-first : (t : Token) (s : List Token) → behind_groups (t ∷ s) ≡ option_map_or behind_groups (behind_group (t ∷ s)) (t ∷ s)
unfolding behind_groups
groups-first t s = by (behind_group (t ∷ s)) refl
  where
    by : (o : Option (List Token)) → behind_group (t ∷ s) ≡ o
        → option_map_or (behind_groups_upto (length s)) o (t ∷ s) ≡ option_map_or (λ r. behind_groups_upto (length r) r) o (t ∷ s)
    by None e = refl
    by (Some r) e = let shorter : length r ≤ length s = group-length t s r e in enough (length s) (length r) r shorter (omega arith)
