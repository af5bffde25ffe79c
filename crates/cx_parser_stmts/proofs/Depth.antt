-- The readers one level deeper.
use Rattle.std.proofs.Common.{◌≡◌, ◌≢◌, ℕ, zero, suc, ◌-◌, ◌≤◌, true, not, List, length, refl, ap, subst, arith, nat_eq, Result}
use Rattle.std.proofs.lemmas.Bool.Decides.{nat_tests}
use Rattle.cx_base.specs.declared.rule.Rule.TheVariants.{Syntax}
use Rattle.cx_grammar.specs.Exact.{stop}
use Rattle.cx_grammar.specs.declared.stop.ParseStop.{ParseStop}
use Rattle.cx_grammar.specs.Reading.{Reader}
use Rattle.cx_grammar.specs.Reads.{Reads}
use Rattle.cx_syntax.specs.declared.lexeme.Lexeme.{Lexeme}
use Rattle.cx_syntax.specs.Readers as e
use Rattle.cx_syntax_stmts.specs.Readers as r

pub room_is : (n : ℕ) → not (nat_eq n 0) ≡ r.room n
unfolding e.deeper
room_is zero = refl
room_is (suc n) = let h : suc n ≢ 0 = omega arith in grind (arith, nat_tests)

pub deep : (n : ℕ) → r.room n ≡ true → 1 ≤ n
unfolding e.deeper
deep zero there = cc
deep (suc n) there = omega arith

one_less : (n : ℕ) → suc n - 1 ≡ n
one_less n = omega arith

pub reads_as : {A : Type 0} {read other : Reader Lexeme A} (ts new : List Lexeme) (o : Result A ParseStop) → read ≡ other → Reads (read ts) o new → Reads (other ts) o new
reads_as {A} ts new o same h = let P : Reader Lexeme A → Type 0 = λ f. Reads (f ts) o new in subst P same h

pub stmt_deeper : (n : ℕ) → r.room n ≡ true → r.stmt (n - 1) ≡ (r.deeper n).stmt
unfolding e.deeper r.deeper
stmt_deeper zero there = cc
stmt_deeper (suc n) there = ap (λ m. r.stmt m) (one_less n)

pub item_deeper : (n : ℕ) → r.room n ≡ true → r.item (n - 1) ≡ (r.deeper n).item
unfolding e.deeper r.deeper
item_deeper zero there = cc
item_deeper (suc n) there = ap (λ m. r.item m) (one_less n)

-- ---- an expression one level deeper

pub none_below : (n : ℕ) (ts : List Lexeme) → n ≡ 0 → (e.deeper n).expr ts ≡ stop Syntax (length ts)
unfolding e.deeper
none_below zero ts is = refl
none_below (suc n) ts is = absurd (omega arith)

pub expr_deeper : (n : ℕ) → n ≢ 0 → e.expr (e.deeper (n - 1)) ≡ (e.deeper n).expr
unfolding e.deeper
expr_deeper zero h = absurd (h refl)
expr_deeper (suc n) h = ap (λ m. e.expr (e.deeper m)) (one_less n)
