-- The readers of attributes take a token at least, and give no more levels than there are.
use Rattle.std.proofs.Common.{◌≡◌, ◌≢◌, ℕ, zero, suc, ◌+◌, ◌-◌, ◌≤◌, ◌<◌, Bool, true, false, not, nat_eq, List, length, refl, ◌∙◌, ap, subst, arith}
use Rattle.std.proofs.lemmas.Bool.Decides.{nat_tests}
use Rattle.cx_base.specs.declared.rule.Rule.{Rule}
use Rattle.cx_grammar.specs.Exact.{Exact, Outcome, done, stop}
use Rattle.cx_grammar.specs.Reading.{Reader, Shortens, made, guarded}
use Rattle.cx_grammar.specs.Sets.{by, never}
use Rattle.cx_grammar.proofs.Loops.{shortens}
use Rattle.cx_syntax.specs.declared.lexeme.Lexeme.{Lexeme}
use Rattle.cx_syntax_parts.specs.Grammar as g
use Rattle.cx_syntax_parts.specs.Readers as r
use Rattle.cx_syntax_parts.proofs.Soup.{heads_soup, heads_deep_soup, heads_attribute, exactly_soup, exactly_deep_soup, exactly_attribute}
use Rattle.cx_syntax_parts.proofs.Nested.{soup_within}
use Rattle.cx_parser_vars.specs.Parts as parts

pub short_soup : (left : ℕ) → Shortens (r.soup left)
short_soup left = shortens heads_soup (exactly_soup left)

pub short_attribute : (left : ℕ) → Shortens (r.attribute left)
short_attribute left = shortens heads_attribute (exactly_attribute left)

guarded_short : {A : Type 0} (room : Bool) {read : Reader Lexeme A} → (room ≡ true → Shortens read) → (ts rest : List Lexeme) (v : A) → guarded room read ts ≡ done v rest → length rest < length ts
guarded_short true s ts rest v e = let short = s refl in short.at ts rest v e
guarded_short false s ts rest v e = cc

pub short_below : (left : ℕ) → Shortens (parts.soup_below left)
short_below left = record { at = guarded_short (r.deeper_soup left).room (λ e. shortens heads_deep_soup (exactly_deep_soup left e)) }

-- the levels of a soup stay within those that are left
pub soup_bounded : (left : ℕ) (ts rest : List Lexeme) (v : ℕ) → r.soup left ts ≡ done v rest → v ≤ left
soup_bounded left ts rest v e = let P : Outcome Lexeme ℕ → Type 0 = λ o. Exact (λ n. g.soup n) (by never) left ts o in let x = exactly_soup left in let d = subst P e (x.at ts) in let w = soup_within left in
    w.at d.used v (d.spells left (let l : left ≤ left = omega arith in l))

-- ---- one level deeper

pub room_is : (left : ℕ) → not (nat_eq left 0) ≡ (r.deeper_soup left).room
unfolding r.deeper_soup
room_is zero = refl
room_is (suc left) = let h : suc left ≢ 0 = omega arith in grind (arith, nat_tests)

pub deep : (left : ℕ) → (r.deeper_soup left).room ≡ true → 1 ≤ left
unfolding r.deeper_soup
deep zero e = cc
deep (suc left) e = omega arith

pub below_is : (left : ℕ) (ts : List Lexeme) → (r.deeper_soup left).room ≡ true → parts.soup_below left ts ≡ made suc (r.soup (left - 1) ts)
unfolding r.deeper_soup
below_is zero ts e = cc
below_is (suc left) ts e = let same : left ≡ suc left - 1 = omega arith in ap (λ n. made suc (r.soup n ts)) same

pub below_read : (left : ℕ) (ts rest : List Lexeme) (v : ℕ) → (r.deeper_soup left).room ≡ true → r.soup (left - 1) ts ≡ done v rest → parts.soup_below left ts ≡ done (1 + v) rest
below_read left ts rest v e s = let one : suc v ≡ 1 + v = omega arith in below_is left ts e ∙ (ap (made suc) s ∙ ap (λ m. done m rest) one)

pub below_stopped : (left : ℕ) (ts : List Lexeme) (rule : Rule) (l : ℕ) → (r.deeper_soup left).room ≡ true → r.soup (left - 1) ts ≡ stop rule l → parts.soup_below left ts ≡ stop rule l
below_stopped left ts rule l e s = below_is left ts e ∙ ap (made suc) s
