use Rattle.std.proofs.Common.{◌≡◌, true, refl}
use Rattle.cx_syntax.specs.declared.class.Class.{Class}
use Rattle.cx_syntax.specs.Sets.{starts_unary}
use Rattle.cx_ahead.proofs.Sums.{◌▿◌, hit}
use Rattle.cx_ahead.proofs.sets.StartsUnaryTestLexeme.test.Goals as goal

pub returns-in-Number : goal.returns-in-Number
returns-in-Number c =
    ((λ e. hit starts_unary refl e) ▿ (λ e. hit starts_unary refl e) ▿ (λ e. hit starts_unary refl e) ▿ (λ e. hit starts_unary refl e) ▿ (λ e. hit starts_unary refl e) ▿ (λ e. hit starts_unary refl e) ▿ (λ e. hit starts_unary refl e) ▿ (λ e. hit starts_unary refl e) ▿ (λ e. hit starts_unary refl e) ▿ (λ e. hit starts_unary refl e) ▿ (λ e. hit starts_unary refl e) ▿ (λ e. hit starts_unary refl e) ▿ (λ e. hit starts_unary refl e) ▿ (λ e. hit starts_unary refl e) ▿ (λ e. hit starts_unary refl e) ▿ (λ e. hit starts_unary refl e) ▿ (λ e. hit starts_unary refl e) ▿ (λ e. hit starts_unary refl e) ▿ (λ e. hit starts_unary refl e) ▿ (λ e. hit starts_unary refl e) ▿ (λ e. hit starts_unary refl e) ▿ (λ e. hit starts_unary refl e) ▿ (λ e. hit starts_unary refl e) ▿ (λ e. hit starts_unary refl e) ▿ (λ e. hit starts_unary refl e) ▿ (λ e. hit starts_unary refl e) ▿ (λ e. hit starts_unary refl e) ▿ (λ e. hit starts_unary refl e) ▿ (λ e. hit starts_unary refl e) ▿ (λ e. hit starts_unary refl e) ▿ (λ e. hit starts_unary refl e) ▿ (λ e. hit starts_unary refl e) ▿ (λ e. hit starts_unary refl e) ▿ (λ e. hit starts_unary refl e) ▿ (λ e. hit starts_unary refl e) ▿ (λ e. hit starts_unary refl e) ▿ (λ e. hit starts_unary refl e) ▿ (λ e. hit starts_unary refl e) ▿ (λ e. hit starts_unary refl e) ▿ (λ e. hit starts_unary refl e) ▿ (λ e. hit starts_unary refl e)) c.in-Number.is
