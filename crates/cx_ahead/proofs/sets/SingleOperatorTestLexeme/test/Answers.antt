use Rattle.std.proofs.Common.{◌≡◌, true, refl}
use Rattle.cx_syntax.specs.declared.class.Class.{Class}
use Rattle.cx_syntax.specs.Sets.{is_single_operator}
use Rattle.cx_ahead.proofs.Sums.{◌▿◌, hit}
use Rattle.cx_ahead.proofs.sets.SingleOperatorTestLexeme.test.Goals as goal

pub returns-in-Arrow : goal.returns-in-Arrow
returns-in-Arrow c =
    ((λ e. hit is_single_operator refl e) ▿ (λ e. hit is_single_operator refl e) ▿ (λ e. hit is_single_operator refl e) ▿ (λ e. hit is_single_operator refl e) ▿ (λ e. hit is_single_operator refl e) ▿ (λ e. hit is_single_operator refl e) ▿ (λ e. hit is_single_operator refl e) ▿ (λ e. hit is_single_operator refl e) ▿ (λ e. hit is_single_operator refl e) ▿ (λ e. hit is_single_operator refl e) ▿ (λ e. hit is_single_operator refl e) ▿ (λ e. hit is_single_operator refl e) ▿ (λ e. hit is_single_operator refl e) ▿ (λ e. hit is_single_operator refl e) ▿ (λ e. hit is_single_operator refl e) ▿ (λ e. hit is_single_operator refl e) ▿ (λ e. hit is_single_operator refl e) ▿ (λ e. hit is_single_operator refl e) ▿ (λ e. hit is_single_operator refl e) ▿ (λ e. hit is_single_operator refl e) ▿ (λ e. hit is_single_operator refl e) ▿ (λ e. hit is_single_operator refl e) ▿ (λ e. hit is_single_operator refl e) ▿ (λ e. hit is_single_operator refl e) ▿ (λ e. hit is_single_operator refl e) ▿ (λ e. hit is_single_operator refl e) ▿ (λ e. hit is_single_operator refl e) ▿ (λ e. hit is_single_operator refl e) ▿ (λ e. hit is_single_operator refl e) ▿ (λ e. hit is_single_operator refl e) ▿ (λ e. hit is_single_operator refl e) ▿ (λ e. hit is_single_operator refl e)) c.in-Arrow.is
