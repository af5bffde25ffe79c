-- Better is strict, and at most one function is the best.
use Rattle.std.proofs.Common.{◌≡◌, ℕ, ◌==◌, Bool, true, false, ◌&&◌, ◌||◌, List, refl, sym, ap, ◌∙◌, true≢false, arith}
use Rattle.std.specs.Prelude.{not, nat_lt}
use Rattle.std.proofs.lemmas.Bool.{eqb-true, eqb-false, eq-eqb, le-ltb}
use Rattle.cx_type_defs.specs.declared.ids.ClassId.{ClassId}
use Rattle.cx_type_defs.specs.Same.{Form, Void, Nullptr, Int, Enum, Pointer, Reference, Array, Class, Const, Unknown}
use Rattle.cx_type_defs.specs.Tables.{Tables}
use Rattle.cx_derived.specs.Ways.{ways_to}
use Rattle.cx_lookup.specs.Ranks.{Argument, derived, takes_const}
use Rattle.cx_lookup.specs.Better.{Converted, Aim, AtClass, AtVoid, AtBool, Elsewhere, aim, is_aiming, is_pointer, is_standard, order, aims_before, below, less_const, closer, better}
use Rattle.cx_lookup.specs.Choice.{Conversions, Viable, IsBest, better_once, is_better}

lt-self : (n : ℕ) → nat_lt n n ≡ false
lt-self n = le-ltb n n (omega arith)

same-self : (n : ℕ) → (n == n) ≡ true
same-self n = eq-eqb n n refl

and-not : (b : Bool) → (b && not b) ≡ false
and-not true = refl
and-not false = refl

not-and : (b : Bool) → (not b && b) ≡ false
not-and true = refl
not-and false = refl

none : (a b c : Bool) → b ≡ false → c ≡ false → ((a && b) || c) ≡ false
none a true c eb ec = absurd (cc)
none a false true eb ec = absurd (cc)
none true false false eb ec = refl
none false false false eb ec = refl

whole : (l e s c : Bool) → l ≡ false → c ≡ false → (l || (e && (s && c))) ≡ false
whole true e s c el ec = absurd (cc)
whole false e s true el ec = absurd (cc)
whole false true true false el ec = refl
whole false true false false el ec = refl
whole false false s false el ec = refl

derived-self : (t : Tables) (c : ClassId) → derived t c c ≡ false
derived-self t c = ap (λ b. not b && nat_lt 0 (ways_to t c c)) (same-self c.0)

below-self : (f : Form) → below f f ≡ false
below-self (Pointer g) = and-not (takes_const g g)
below-self Void = refl
below-self Nullptr = refl
below-self (Int _) = refl
below-self (Enum _) = refl
below-self (Reference _) = refl
below-self (Array _ _) = refl
below-self (Class _) = refl
below-self (Const _) = refl
below-self Unknown = refl

less-self : (f : Form) → less_const f f ≡ false
less-self (Reference g) = and-not (takes_const g g)
less-self (Pointer g) = and-not (takes_const g g)
less-self (Const g) = below-self g
less-self Void = refl
less-self Nullptr = refl
less-self (Int _) = refl
less-self (Enum _) = refl
less-self (Array _ _) = refl
less-self (Class _) = refl
less-self Unknown = refl

aims-self : (t : Tables) (p : Bool) (a : Aim) → aims_before (derived t) p a a ≡ false
aims-self t p (AtClass c) = derived-self t c
aims-self t p AtVoid = refl
aims-self t p AtBool = refl
aims-self t p Elsewhere = refl

pub better-self : (t : Tables) (from : Form) (c : Converted) → better (derived t) from c c ≡ false
better-self t from c =
    whole (nat_lt (order c.by.kind) (order c.by.kind)) (order c.by.kind == order c.by.kind) (is_standard c.by.kind) (closer (derived t) from c.to c.to)
    (lt-self (order c.by.kind))
    (none (is_aiming from) (aims_before (derived t) (is_pointer from) (aim c.to) (aim c.to)) (less_const c.to c.to) (aims-self t (is_pointer from) (aim c.to)) (less-self c.to))

pub function-self : (d : ClassId → ClassId → Bool) (args : List Argument) (cs : Conversions) → is_better d args cs cs ≡ false
function-self d args cs = not-and (better_once d args cs cs)

not-both : (a b : Bool) → (not a && b) ≡ true → (not b && a) ≡ false
not-both true b e = absurd (cc)
not-both false true e = refl
not-both false false e = refl

pub one-way : (d : ClassId → ClassId → Bool) (args : List Argument) (cs es : Conversions) → is_better d args cs es ≡ true → is_better d args es cs ≡ false
one-way d args cs es e = not-both (better_once d args es cs) (better_once d args cs es) e

comes-by : (n m : ℕ) (a b : Bool) → (n == m) ≡ a → (m == n) ≡ b → a ≡ b
comes-by n m true true e f = refl
comes-by n m false false e f = refl
comes-by n m true false e f = absurd (eqb-false m n f (sym (eqb-true n m e)))
comes-by n m false true e f = absurd (eqb-false n m e (sym (eqb-true m n f)))

same-comes : (n m : ℕ) → (n == m) ≡ (m == n)
same-comes n m = comes-by n m (n == m) (m == n) refl refl

pub one-best : (d : ClassId → ClassId → Bool) (args : List Argument) (vs : List Viable) (v w : Viable) → IsBest d args vs v → IsBest d args vs w → (v.id.0 == w.id.0) ≡ true
one-best d args vs v w p q = of (v.id.0 == w.id.0) refl
  where
    of : (b : Bool) → (v.id.0 == w.id.0) ≡ b → b ≡ true
    of true e = refl
    of false e = absurd (true≢false (sym (p.beats w q.viable (same-comes w.id.0 v.id.0 ∙ e)) ∙ one-way d args w.by v.by (q.beats v p.viable e)))
