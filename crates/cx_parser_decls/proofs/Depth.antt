-- The readers one level deeper.
use Rattle.std.proofs.Common.{◌≡◌, ℕ, zero, suc, ◌-◌, ◌≤◌, true, not, List, refl, ap, subst, arith, nat_eq, Result, ◌≢◌}
use Rattle.std.proofs.lemmas.Bool.Decides.{nat_tests}
use Rattle.cx_syntax.specs.declared.lexeme.Lexeme.{Lexeme}
use Rattle.cx_grammar.specs.declared.stop.ParseStop.{ParseStop}
use Rattle.cx_grammar.specs.Reading.{Reader}
use Rattle.cx_grammar.specs.Reads.{Reads}
use Rattle.cx_syntax_decls.specs.Readers.{deeper_member, deeper_decl, member, decl}

one_less : (n : ℕ) → suc n - 1 ≡ n
one_less n = omega arith

pub reads_as : {A : Type 0} {r s : Reader Lexeme A} (ts new : List Lexeme) (o : Result A ParseStop) → r ≡ s → Reads (r ts) o new → Reads (s ts) o new
reads_as {A} ts new o e h = let P : Reader Lexeme A → Type 0 = λ f. Reads (f ts) o new in subst P e h

-- ---- members

pub member_room : (n : ℕ) → not (nat_eq n 0) ≡ (deeper_member n).room
unfolding deeper_member
member_room zero = refl
member_room (suc n) = let h : suc n ≢ 0 = omega arith in grind (arith, nat_tests)

pub deep_member : (n : ℕ) → (deeper_member n).room ≡ true → 1 ≤ n
unfolding deeper_member
deep_member zero e = cc
deep_member (suc n) e = omega arith

pub member_deeper : (n : ℕ) → (deeper_member n).room ≡ true → member (n - 1) ≡ (deeper_member n).member
unfolding deeper_member
member_deeper zero e = cc
member_deeper (suc n) e = ap (λ m. member m) (one_less n)

-- ---- declarations

pub decl_room : (n : ℕ) → not (nat_eq n 0) ≡ (deeper_decl n).room
unfolding deeper_decl
decl_room zero = refl
decl_room (suc n) = let h : suc n ≢ 0 = omega arith in grind (arith, nat_tests)

pub deep_decl : (n : ℕ) → (deeper_decl n).room ≡ true → 1 ≤ n
unfolding deeper_decl
deep_decl zero e = cc
deep_decl (suc n) e = omega arith

pub decl_deeper : (n : ℕ) → (deeper_decl n).room ≡ true → decl (n - 1) ≡ (deeper_decl n).decl
unfolding deeper_decl
decl_deeper zero e = cc
decl_deeper (suc n) e = ap (λ m. decl m) (one_less n)
