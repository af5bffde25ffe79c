-- The readers one level deeper.
use Rattle.std.proofs.Common.{◌≡◌, ◌≢◌, ℕ, zero, suc, ◌-◌, ◌≤◌, true, not, List, refl, ap, subst, arith, nat_eq, Result, Err, ◌∙◌}
use Rattle.std.proofs.lemmas.Bool.Decides.{nat_tests}
use Rattle.cx_syntax.specs.declared.lexeme.Lexeme.{Lexeme}
use Rattle.cx_grammar.specs.declared.stop.ParseStop.{ParseStop}
use Rattle.cx_grammar.specs.declared.stop.ParseStop.TheVariants.{Fault}
use Rattle.cx_base.specs.declared.rule.Rule.{Rule}
use Rattle.cx_grammar.specs.Exact.{Outcome, stop}
use Rattle.cx_grammar.specs.Reads.{Reads}
use Rattle.cx_syntax.specs.Readers.{deeper, assign}

pub room_is : (n : ℕ) → not (nat_eq n 0) ≡ (deeper n).room
unfolding deeper
room_is zero = refl
room_is (suc n) = let h : suc n ≢ 0 = omega arith in grind (arith, nat_tests)

pub deep : (n : ℕ) → (deeper n).room ≡ true → 1 ≤ n
unfolding deeper
deep zero e = cc
deep (suc n) e = omega arith

pub assign_deeper : (n : ℕ) (ts : List Lexeme) → (deeper n).room ≡ true → assign (deeper (n - 1)) ts ≡ (deeper n).assign ts
unfolding deeper
assign_deeper zero ts e = cc
assign_deeper (suc n) ts e = let same : suc n - 1 ≡ n = omega arith in ap (λ m. assign (deeper m) ts) same

-- what reads one outcome reads an equal one
pub reads_as : {A : Type 0} {o p : Outcome Lexeme A} (new : List Lexeme) (r : Result A ParseStop) → o ≡ p → Reads o r new → Reads p r new
reads_as {A} new r e h = let P : Outcome Lexeme A → Type 0 = λ x. Reads x r new in subst P e h

-- a fault where the reader has it
pub stops_at : {A : Type 0} {o : Outcome Lexeme A} (rule : Rule) (left : ℕ) (e : ParseStop) (new : List Lexeme) → o ≡ stop rule left → e ≡ Fault rule left → Reads o (Err e) new
stops_at rule left e new q f r l g = let same : stop rule left ≡ stop r l = cc in q ∙ same
