use Rattle.std.proofs.Common.{◌≡◌, true, refl}
use Rattle.cx_syntax.specs.declared.class.Class.{Class}
use Rattle.cx_syntax.specs.Sets.{follows_name}
use Rattle.cx_ahead.proofs.Sums.{◌▿◌, hit}
use Rattle.cx_ahead.proofs.sets.FollowsNameTestLexeme.test.Goals as goal

pub returns-in-OpenBracket : goal.returns-in-OpenBracket
returns-in-OpenBracket c =
    ((λ e. hit follows_name refl e) ▿ (λ e. hit follows_name refl e) ▿ (λ e. hit follows_name refl e) ▿ (λ e. hit follows_name refl e) ▿ (λ e. hit follows_name refl e) ▿ (λ e. hit follows_name refl e) ▿ (λ e. hit follows_name refl e) ▿ (λ e. hit follows_name refl e) ▿ (λ e. hit follows_name refl e) ▿ (λ e. hit follows_name refl e) ▿ (λ e. hit follows_name refl e) ▿ (λ e. hit follows_name refl e) ▿ (λ e. hit follows_name refl e) ▿ (λ e. hit follows_name refl e) ▿ (λ e. hit follows_name refl e) ▿ (λ e. hit follows_name refl e) ▿ (λ e. hit follows_name refl e) ▿ (λ e. hit follows_name refl e) ▿ (λ e. hit follows_name refl e) ▿ (λ e. hit follows_name refl e) ▿ (λ e. hit follows_name refl e) ▿ (λ e. hit follows_name refl e) ▿ (λ e. hit follows_name refl e) ▿ (λ e. hit follows_name refl e) ▿ (λ e. hit follows_name refl e) ▿ (λ e. hit follows_name refl e) ▿ (λ e. hit follows_name refl e) ▿ (λ e. hit follows_name refl e) ▿ (λ e. hit follows_name refl e) ▿ (λ e. hit follows_name refl e) ▿ (λ e. hit follows_name refl e) ▿ (λ e. hit follows_name refl e) ▿ (λ e. hit follows_name refl e) ▿ (λ e. hit follows_name refl e) ▿ (λ e. hit follows_name refl e) ▿ (λ e. hit follows_name refl e) ▿ (λ e. hit follows_name refl e) ▿ (λ e. hit follows_name refl e)) c.in-OpenBracket.is
