-- The enumerators of an enumeration whose list has ended are among its values.
use Rattle.std.proofs.Common.{◌≡◌, ℕ, ◌-◌, ◌^◌, ◌<◌, ◌≤◌, ◌⊎◌, inl, inr, true≢false, Bool, true, false, List, [], ◌∷◌, Option, None, Some, MatchOption, refl, sym, ap, subst, ◌∙◌, slice_get, arith, ℤ, pos, negsuc, ◌≤ℤ◌}
use Rattle.std.specs.Prelude.{option_and_then, int_le, ◌&&◌, if◌then◌else◌}
use Rattle.std.specs.List.{find}
use Rattle.std.proofs.lemmas.Int.{ints}
use Rattle.std.proofs.Math.Pow.{pow_mono}
use Rattle.cx_base.specs.declared.int_type.IntType.{IntType}
use Rattle.cx_base.specs.declared.int_type.IntType.TheVariants as int
use Rattle.cx_type_defs.specs.declared.ids.EnumId.{EnumId}
use Rattle.cx_type_defs.specs.declared.decl.EnumDecl.{EnumDecl}
use Rattle.cx_type_defs.specs.declared.decl.EnumEnd.{EnumEnd}
use Rattle.cx_type_defs.specs.Tables.{Tables, Grows, EnumGrows, with_end, under_of, under_at}
use Rattle.cx_ints.specs.Ranges.{width, is_signed, least, greatest}
use Rattle.cx_type_defs.specs.Enums.{bit_values, type_values, Holds, IsUnder, MayEnd, holds, field_of_bits, field_bits, field_values, enum_values, values_at}
use Rattle.cx_type_defs.specs.Sound.{Sound}
use Rattle.cx_type_defs.proofs.Lists.{some_inj, option_and_then-some, Along-at, slice_get-changed_same}
use Rattle.cx_type_defs.proofs.Fields.{first-above, field_fits, field_least}

int_le-is : (a b : ℤ) → a ≤ℤ b → int_le a b ≡ true
int_le-is a b h = grind (arith, ints)

is-int_le : (a b : ℤ) → int_le a b ≡ true → a ≤ℤ b
is-int_le a b h = omega (arith, ints)

both-true : (a b : Bool) → a ≡ true → b ≡ true → (a && b) ≡ true
both-true true true x y = refl
both-true true false x y = y
both-true false b x y = x

both-left : (a b : Bool) → (a && b) ≡ true → a ≡ true
both-left true b h = refl
both-left false b h = h

both-right : (a b : Bool) → (a && b) ≡ true → b ≡ true
both-right true b h = h
both-right false b h = absurd (cc)

holds-from : (v : ℤ × ℤ) (low high : ℤ) → Holds v low high → holds v low high ≡ true
holds-from v low high h = both-true (int_le v.0 low) (int_le high v.1) (int_le-is v.0 low h.0) (int_le-is high v.1 h.1)

holds-to : (v : ℤ × ℤ) (low high : ℤ) → holds v low high ≡ true → Holds v low high
holds-to v low high h = (is-int_le v.0 low (both-left (int_le v.0 low) (int_le high v.1) h), is-int_le high v.1 (both-right (int_le v.0 low) (int_le high v.1) h))

-- numbers that so many bits hold with one sign are held by the bit-field of so many bits
field-holds : (signed : Bool) (bits : ℕ) (low high : ℤ) → 1 ≤ bits → Holds (bit_values signed bits) low high → Holds (field_of_bits low bits) low high
field-holds signed bits low high some h = of signed (int_le low (negsuc 0)) refl h
  where
    of : (s b : Bool) → int_le low (negsuc 0) ≡ b → Holds (bit_values s bits) low high → Holds (bit_values b bits) low high
    of true true e h = h
    of false false e h = h
    of false true e h = let l = is-int_le low (negsuc 0) e in let m = h.0 in absurd (omega (arith, ints))
    of true false e h =
        let more : 2 ^ (bits - 1) ≤ 2 ^ bits = pow_mono (let l : bits - 1 ≤ bits = omega arith in l) in
        let low_fits : pos 0 ≤ℤ low = grind (arith, ints) in
        let below = h.1 in
        (low_fits, omega (arith, ints))

-- the values of a type are those of so many bits, with or without a sign
pub type-bits : (ty : IntType) → (type_values ty ≡ bit_values (is_signed ty) (width ty)) × (1 ≤ width ty) × (width ty ≤ 64) × (is_signed ty ≡ true → 2 ≤ width ty)
unfolding least greatest is_signed width
type-bits int.Bool = (refl, omega arith, omega arith, (λ e. absurd (cc)))
type-bits int.Char = (refl, omega arith, omega arith, (λ e. omega arith))
type-bits int.SChar = (refl, omega arith, omega arith, (λ e. omega arith))
type-bits int.UChar = (refl, omega arith, omega arith, (λ e. omega arith))
type-bits int.Short = (refl, omega arith, omega arith, (λ e. omega arith))
type-bits int.UShort = (refl, omega arith, omega arith, (λ e. omega arith))
type-bits int.Int = (refl, omega arith, omega arith, (λ e. omega arith))
type-bits int.UInt = (refl, omega arith, omega arith, (λ e. omega arith))
type-bits int.Long = (refl, omega arith, omega arith, (λ e. omega arith))
type-bits int.ULong = (refl, omega arith, omega arith, (λ e. omega arith))
type-bits int.LongLong = (refl, omega arith, omega arith, (λ e. omega arith))
type-bits int.ULongLong = (refl, omega arith, omega arith, (λ e. omega arith))

-- the type holds the least and the greatest enumerator
pub under-holds : (fixed : Option IntType) (under : IntType) (low high : ℤ) → IsUnder fixed under low high → Holds (type_values under) low high
unfolding IsUnder
under-holds (Some ty) under low high u = subst (λ t. Holds (type_values t) low high) (sym u.0) u.1
under-holds None under low high u = holds-to (type_values under) low high (find-passes (λ ty. holds (type_values ty) low high) (int.Int ∷ int.UInt ∷ int.Long ∷ int.ULong ∷ []) under u)
  where
    find-passes : (test : IntType → Bool) (xs : List IntType) (y : IntType) → find test xs ≡ Some y → test y ≡ true
    find-passes test [] y e = absurd (cc)
    find-passes test (x ∷ xs) y e = of (test x) refl e (λ z. find-passes test xs y z)
      where
        of : (b : Bool) → test x ≡ b → (if b then Some x else find test xs) ≡ Some y → (find test xs ≡ Some y → test y ≡ true) → test y ≡ true
        of true t z go = ap test (sym (some_inj x y z)) ∙ t
        of false t z go = go z

values-hold : (fixed : Option IntType) (e : EnumEnd) → IsUnder fixed e.under e.low e.high → MatchOption (enum_values fixed (Some e)) ⊥ (λ v. Holds v e.low e.high)
unfolding IsUnder
values-hold (Some ty) e u = u.1
values-hold None e u =
    let h = under-holds None e.under e.low e.high u in
    let b = type-bits e.under in
    let f = field-holds (is_signed e.under) (width e.under) e.low e.high b.1 (subst (λ v. Holds v e.low e.high) b.0 h) in
    holds-to (field_values e.low e.high) e.low e.high (field_fits e.low e.high (width e.under) b.1 b.2 (holds-from (field_of_bits e.low (width e.under)) e.low e.high f))

pub ended-range : (t u : Tables) (id : EnumId) (under : IntType) (low high : ℤ) → MayEnd (slice_get t.enums id.0) under low high → Grows (with_end t id (record { under = under; low = low; high = high })) u → MatchOption (values_at u id) ⊥ (λ v. Holds v low high)
ended-range t u id under low high may g = of (slice_get t.enums id.0) refl may
  where
    e : EnumEnd
    e = record { under = under; low = low; high = high }

    of : (o : Option EnumDecl) → slice_get t.enums id.0 ≡ o → MayEnd o under low high → MatchOption (values_at u id) ⊥ (λ v. Holds v low high)
    of None at m = absurd m
    of (Some d) at m =
        let a = Along-at EnumGrows (with_end t id e).enums u.enums g.enum_list id.0 (record d { end = Some e }) (slice_get-changed_same (λ (w : EnumDecl). record w { end = Some e }) t.enums id.0 d at) in
        let is : values_at u id ≡ enum_values d.fixed (Some e) = ap (option_and_then (λ (w : EnumDecl). enum_values w.fixed w.end)) a.1 ∙ ap (λ f. enum_values f a.0.end) a.2.same_fixed ∙ ap (enum_values d.fixed) a.2.end_stays in
        subst (λ v. MatchOption v ⊥ (λ v. Holds v low high)) (sym is) (values-hold d.fixed e m.2)

-- an enumeration's values are among those of its type

at-most_or_more : (a b : ℕ) → (a ≤ b) ⊎ (b < a)
at-most_or_more a b = grind arith

within-bits : (s : Bool) (w : ℕ) (low high : ℤ) → 1 ≤ w → (s ≡ true → 2 ≤ w) → Holds (bit_values s w) low high → Holds (bit_values s w) (field_values low high).0 (field_values low high).1
within-bits s w low high some sign h = of s (int_le low (negsuc 0)) refl sign h
  where
    least_bits : 1 ≤ field_bits low high
    least_bits = first-above (λ bits. holds (field_of_bits low bits) low high) 64 1

    fewest : (bits : ℕ) → 1 ≤ bits → Holds (field_of_bits low bits) low high → field_bits low high ≤ bits
    fewest bits one fit =
        elim (at-most_or_more (field_bits low high) bits) as (λ _. field_bits low high ≤ bits)
        [ inl le ↦ le | inr more ↦ absurd (true≢false (sym (holds-from (field_of_bits low bits) low high fit) ∙ field_least low high bits one more)) ]

    of : (sg neg : Bool) → int_le low (negsuc 0) ≡ neg → (sg ≡ true → 2 ≤ w) → Holds (bit_values sg w) low high → Holds (bit_values sg w) (bit_values neg (field_bits low high)).0 (bit_values neg (field_bits low high)).1
    of true true e two m =
        let le = fewest w some (subst (λ b. Holds (bit_values b w) low high) (sym e) m) in
        let more : 2 ^ (field_bits low high - 1) ≤ 2 ^ (w - 1) = pow_mono (let l : field_bits low high - 1 ≤ w - 1 = omega arith in l) in
        (omega (arith, ints), omega (arith, ints))
    of false true e two m = let l = is-int_le low (negsuc 0) e in let z = m.0 in absurd (omega (arith, ints))
    of true false e two m =
        let fit : Holds (bit_values false (w - 1)) low high = (grind (arith, ints), m.1) in
        let le = fewest (w - 1) (let t = two refl in omega arith) (subst (λ b. Holds (bit_values b (w - 1)) low high) (sym e) fit) in
        let more : 2 ^ field_bits low high ≤ 2 ^ (w - 1) = pow_mono le in
        (omega (arith, ints), omega (arith, ints))
    of false false e two m =
        let le = fewest w some (subst (λ b. Holds (bit_values b w) low high) (sym e) m) in
        let more : 2 ^ field_bits low high ≤ 2 ^ w = pow_mono le in
        (omega (arith, ints), omega (arith, ints))

ended-within : (fixed : Option IntType) (e : EnumEnd) (v : ℤ × ℤ) → IsUnder fixed e.under e.low e.high → enum_values fixed (Some e) ≡ Some v → Holds (type_values e.under) v.0 v.1
unfolding IsUnder
ended-within (Some ty) e v u is =
    let same : type_values e.under ≡ v = ap type_values u.0 ∙ some_inj (type_values ty) v is in
    subst (λ (w : ℤ × ℤ). Holds (type_values e.under) w.0 w.1) same (omega (arith, ints), omega (arith, ints))
ended-within None e v u is =
    let h = under-holds None e.under e.low e.high u in
    let b = type-bits e.under in
    let w = within-bits (is_signed e.under) (width e.under) e.low e.high b.1 b.3 (subst (λ v. Holds v e.low e.high) b.0 h) in
    subst (λ (x : ℤ × ℤ). Holds (type_values e.under) x.0 x.1) (some_inj (field_values e.low e.high) v is) (subst (λ (x : ℤ × ℤ). Holds x (field_values e.low e.high).0 (field_values e.low e.high).1) (sym b.0) w)

-- of known enumerations, whether their list has ended or not
pub values-within : (t : Tables) → Sound t → (id : EnumId) (ty : IntType) (v : ℤ × ℤ) → under_at t id ≡ Some ty → values_at t id ≡ Some v → Holds (type_values ty) v.0 v.1
values-within t s id ty v u e =
    let d = option_and_then-some (λ (w : EnumDecl). enum_values w.fixed w.end) (slice_get t.enums id.0) v e in
    let w : under_of d.0.fixed d.0.end ≡ Some ty = sym (ap (option_and_then (λ (x : EnumDecl). under_of x.fixed x.end)) d.1) ∙ u in
    of d.0.fixed d.0.end w d.2 (λ end is. s.ends_fit id d.0 end d.1 is)
  where
    of : (fixed : Option IntType) (end : Option EnumEnd) → under_of fixed end ≡ Some ty → enum_values fixed end ≡ Some v → ((x : EnumEnd) → end ≡ Some x → IsUnder fixed x.under x.low x.high) → Holds (type_values ty) v.0 v.1
    of (Some f) end w x fit =
        let same : type_values ty ≡ v = ap type_values (sym (some_inj f ty w)) ∙ some_inj (type_values f) v x in
        subst (λ (z : ℤ × ℤ). Holds (type_values ty) z.0 z.1) same (omega (arith, ints), omega (arith, ints))
    of None None w x fit = absurd (cc)
    of None (Some end) w x fit = subst (λ (z : IntType). Holds (type_values z) v.0 v.1) (some_inj end.under ty w) (ended-within None end v (fit end refl) x)
