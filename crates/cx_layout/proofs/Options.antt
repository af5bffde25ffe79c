-- Options and tests.
use Rattle.std.proofs.Common.{◌≡◌, ℕ, ◌≤◌, nat_lt, Bool, true, false, Option, None, Some, inl, inr, refl, ap, arith, if◌then◌else◌}
use Rattle.std.proofs.lemmas.Bool.{ltb-true, cases_Bool}
use Rattle.std.specs.Prelude.{option_map, option_and_then, is_some}

pub some_inj : {A : Type 0} (a b : A) → Some a ≡ Some b → a ≡ b
some_inj a b e = cc

pub and_then_some : {A B : Type 0} (f : A → Option B) (o : Option A) (b : B) → option_and_then f o ≡ Some b → (a : A) × (o ≡ Some a) × (f a ≡ Some b)
and_then_some f None b e = absurd (cc)
and_then_some f (Some a) b e = (a, refl, e)

pub map_some : {A B : Type 0} (f : A → B) (o : Option A) (b : B) → option_map f o ≡ Some b → (a : A) × (o ≡ Some a) × (f a ≡ b)
map_some f None b e = absurd (cc)
map_some f (Some a) b e = (a, refl, some_inj (f a) b e)

pub some_of : {A : Type 0} (o : Option A) → is_some o ≡ true → (a : A) × (o ≡ Some a)
some_of None e = absurd (cc)
some_of (Some a) e = (a, refl)

pub there_if : {A : Type 0} (o : Option A) (a : A) → o ≡ Some a → is_some o ≡ true
there_if o a e = ap is_some e

-- an if with None on its other side
pub if_some : {A : Type 0} (b : Bool) (a x : A) → (if b then Some a else None) ≡ Some x → (b ≡ true) × (a ≡ x)
if_some true a x e = (refl, some_inj a x e)
if_some false a x e = absurd (cc)

pub not_lt : (a b : ℕ) → b ≤ a → nat_lt a b ≡ false
not_lt a b h = elim (cases_Bool (nat_lt a b)) as (λ _. nat_lt a b ≡ false) [ inl e ↦ (let w = ltb-true a b e in absurd (omega arith)) | inr e ↦ e ]
