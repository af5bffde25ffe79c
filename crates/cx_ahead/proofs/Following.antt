-- Operators that may follow an operand.
use Rattle.std.proofs.Common.{◌≡◌, Bool, true, false, refl, sym, if◌then◌else◌, Some, None, ℕ, ◌&&◌, not}
use Rattle.cx_tree.specs.declared.operators.BinaryOp.{BinaryOp}
use Rattle.cx_syntax.specs.declared.class.Class.{Class}
use Rattle.cx_syntax.specs.Sets.{operators, allowed, is_after_new}
use Rattle.cx_syntax.specs.Values.{binary_by}
use Rattle.cx_ahead.specs.Operators.{operator_in}

kept_by : {A : Type 0} (set blocks : Bool) (v : A) → blocks ≡ false → (if set then Some v else None) ≡ (if set && not blocks then Some v else None)
kept_by true true v e = cc
kept_by true false v e = refl
kept_by false blocks v e = refl

blocked_by : {A : Type 0} (set blocks : Bool) (v : A) → blocks ≡ true → None ≡ (if set && not blocks then Some v else None)
blocked_by true true v e = refl
blocked_by true false v e = cc
blocked_by false blocks v e = refl

pub kept : (p : ℕ) (open_new : Bool) (c : Class) → (open_new && is_after_new c) ≡ false → operator_in (operators p) c ≡ operator_in (allowed p open_new) c
kept p open_new c e = kept_by (operators p c) (open_new && is_after_new c) (binary_by c) e

pub blocked : (p : ℕ) (open_new : Bool) (c : Class) → (open_new && is_after_new c) ≡ true → None ≡ operator_in (allowed p open_new) c
blocked p open_new c e = blocked_by (operators p c) (open_new && is_after_new c) (binary_by c) e

found_by : {A : Type 0} (set : Bool) (v w : A) → (if set then Some v else None) ≡ Some w → true ≡ set
found_by true v w e = refl
found_by false v w e = cc

missing_by : {A : Type 0} (set : Bool) (v : A) → (if set then Some v else None) ≡ None → false ≡ set
missing_by false v e = refl
missing_by true v e = cc

pub found : (set : Class → Bool) (c : Class) (o : BinaryOp) → operator_in set c ≡ Some o → true ≡ set c
found set c o e = found_by (set c) (binary_by c) o e

pub missing : (set : Class → Bool) (c : Class) → operator_in set c ≡ None → false ≡ set c
missing set c e = missing_by (set c) (binary_by c) e
