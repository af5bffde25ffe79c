-- The readers one level deeper.
use Rattle.std.proofs.Common.{◌≡◌, ℕ, zero, suc, ◌-◌, ◌≤◌, true, not, List, refl, ap, subst, arith, nat_eq, nat_lt, ◌<◌, Result, ◌≢◌}
use Rattle.std.proofs.lemmas.Bool.Decides.{nat_tests}
use Rattle.cx_syntax.specs.declared.lexeme.Lexeme.{Lexeme}
use Rattle.cx_grammar.specs.declared.stop.ParseStop.{ParseStop}
use Rattle.cx_grammar.specs.Reading.{Reader}
use Rattle.cx_grammar.specs.Reads.{Reads}
use Rattle.cx_syntax.specs.Readers.{deeper, expr, assign, cond, cast, unary, braces}

pub room_is : (n : ℕ) → not (nat_eq n 0) ≡ (deeper n).room
unfolding deeper
room_is zero = refl
room_is (suc n) = let h : suc n ≢ 0 = omega arith in grind (arith, nat_tests)

pub two_is : (n : ℕ) → nat_lt 1 n ≡ (deeper n).room_for_two
unfolding deeper
two_is zero = refl
two_is (suc zero) = refl
two_is (suc (suc n)) = let h : 1 < suc (suc n) = omega arith in grind (arith, nat_tests)

pub two_and_one : (n : ℕ) → (deeper n).room_for_two ≡ true → (deeper n).room ≡ true
unfolding deeper
two_and_one zero e = cc
two_and_one (suc n) e = refl

pub deep : (n : ℕ) → (deeper n).room ≡ true → 1 ≤ n
unfolding deeper
deep zero e = cc
deep (suc n) e = omega arith

one_less : (n : ℕ) → suc n - 1 ≡ n
one_less n = omega arith

pub reads_as : {A : Type 0} {r s : Reader Lexeme A} (ts new : List Lexeme) (o : Result A ParseStop) → r ≡ s → Reads (r ts) o new → Reads (s ts) o new
reads_as {A} ts new o e h = let P : Reader Lexeme A → Type 0 = λ f. Reads (f ts) o new in subst P e h

pub expr_deeper : (n : ℕ) → (deeper n).room ≡ true → expr (deeper (n - 1)) ≡ (deeper n).expr
unfolding deeper
expr_deeper zero e = cc
expr_deeper (suc n) e = ap (λ m. expr (deeper m)) (one_less n)

pub assign_deeper : (n : ℕ) → (deeper n).room ≡ true → assign (deeper (n - 1)) ≡ (deeper n).assign
unfolding deeper
assign_deeper zero e = cc
assign_deeper (suc n) e = ap (λ m. assign (deeper m)) (one_less n)

pub cond_deeper : (n : ℕ) → (deeper n).room ≡ true → cond (deeper (n - 1)) ≡ (deeper n).cond
unfolding deeper
cond_deeper zero e = cc
cond_deeper (suc n) e = ap (λ m. cond (deeper m)) (one_less n)

pub cast_deeper : (n : ℕ) → (deeper n).room ≡ true → cast (deeper (n - 1)) ≡ (deeper n).cast
unfolding deeper
cast_deeper zero e = cc
cast_deeper (suc n) e = ap (λ m. cast (deeper m)) (one_less n)

pub unary_deeper : (n : ℕ) → (deeper n).room ≡ true → unary (deeper (n - 1)) ≡ (deeper n).unary
unfolding deeper
unary_deeper zero e = cc
unary_deeper (suc n) e = ap (λ m. unary (deeper m)) (one_less n)

pub braces_deeper : (n : ℕ) → (deeper n).room ≡ true → braces (deeper (n - 1)) ≡ (deeper n).braces
unfolding deeper
braces_deeper zero e = cc
braces_deeper (suc n) e = ap (λ m. braces (deeper m)) (one_less n)
