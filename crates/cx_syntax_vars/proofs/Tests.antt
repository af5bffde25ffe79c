-- What a test of two parts tells of each.
use Rattle.std.proofs.Common.{◌≡◌, Bool, true, false, ◌&&◌, ◌||◌, refl}

pub and_split : (b c : Bool) → (b && c) ≡ true → (b ≡ true) × (c ≡ true)
and_split true c e = (refl, e)
and_split false c e = cc

pub and_rest : (b c : Bool) → b ≡ true → (b && c) ≡ false → c ≡ false
and_rest true c e f = f
and_rest false c e f = cc

pub and_no : (b : Bool) → (b && false) ≡ false
and_no true = refl
and_no false = refl

pub or_split : (b c : Bool) → (b || c) ≡ false → (b ≡ false) × (c ≡ false)
or_split true c e = cc
or_split false c e = (refl, e)
