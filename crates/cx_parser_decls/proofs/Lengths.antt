-- What loops read is never empty.
use Rattle.std.proofs.Common.{◌≡◌, ℕ, zero, suc, length}
use Rattle.cx_base.specs.declared.rule.Rule.TheVariants.{Nesting}
use Rattle.cx_syntax.specs.declared.class.Class.TheVariants as k
use Rattle.cx_syntax.specs.declared.lexeme.Lexeme.{Lexeme}
use Rattle.cx_grammar.specs.Exact.{Outcome, done, stop}
use Rattle.cx_grammar.specs.Reading.{Shortens}
use Rattle.cx_grammar.proofs.Heads.{heads_before}
use Rattle.cx_grammar.proofs.Loops.{shortens}
use Rattle.cx_grammar.proofs.Steps.{exactly_before, exactly_token}
use Rattle.cx_syntax.specs.Classes.{is}
use Rattle.cx_syntax.specs.Grammar as e
use Rattle.cx_syntax_decls.specs.Grammar as g
use Rattle.cx_syntax_decls.specs.Readers.{deeper_member, deeper_decl, other_name, decl, other_minit, other_base}
use Rattle.cx_syntax_decls.proofs.Classes.{exactly_base}
use Rattle.cx_syntax_decls.proofs.Knots.{exactly_decl, exactly_member, heads_decl}
use Rattle.cx_syntax_decls.proofs.Members.{heads_member}
use Rattle.cx_syntax_decls.proofs.Special.{exactly_minit}
use Rattle.cx_parser_decls.specs.Parts.{guarded_decl, guarded_member}

pub short_member : (n : ℕ) → Shortens (guarded_member n)
unfolding deeper_member
short_member zero = record { at = λ ts rest v e. absurd (let h : stop Nesting (length ts) ≡ done v rest = e in cc) }
short_member (suc n) = shortens heads_member (exactly_member n)

pub short_decl : (n : ℕ) → Shortens (decl n)
short_decl n = shortens heads_decl (exactly_decl n)

pub short_deeper_decl : (n : ℕ) → Shortens (guarded_decl n)
unfolding deeper_decl
short_deeper_decl zero = record { at = λ ts rest v e. absurd (let h : stop Nesting (length ts) ≡ done v rest = e in cc) }
short_deeper_decl (suc n) = short_decl n

pub short_name : Shortens other_name
short_name = shortens (heads_before {G = λ n. e.id} (is k.ColonColon)) (exactly_before {least = 0} (is k.ColonColon) exactly_token)

pub short_minit : (left : ℕ) → Shortens (other_minit left)
short_minit left = shortens (heads_before {G = λ n. g.minit n} (is k.Comma)) (exactly_before (is k.Comma) (exactly_minit left))

pub short_base : (left : ℕ) → Shortens (other_base left)
short_base left = shortens (heads_before {G = λ n. g.base n} (is k.Comma)) (exactly_before (is k.Comma) (exactly_base left))
