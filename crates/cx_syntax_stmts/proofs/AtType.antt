-- Where a type comes next a statement has nothing behind the type's name; and each statement begins with what an expression may begin with.
use Rattle.std.proofs.Common.{◌≡◌, ℕ, zero, suc, Bool, true, false, ◌||◌, List, refl, sym, ◌∙◌, ap, inr}
use Rattle.cx_grammar.specs.Language.{unless, some}
use Rattle.cx_grammar.specs.Exact.{Family}
use Rattle.cx_grammar.specs.Reading.{sees}
use Rattle.cx_grammar.proofs.Heads.{heads_the}
use Rattle.cx_tree.specs.declared.stmts.StmtKind.TheVariants as kinds
use Rattle.cx_syntax.specs.declared.class.Class.TheVariants as k
use Rattle.cx_syntax.specs.declared.lexeme.Lexeme.{Lexeme}
use Rattle.cx_syntax.specs.Ahead.{type_ahead, qtype_end, ends_bare}
use Rattle.cx_syntax.specs.Classes.{is, same_class}
use Rattle.cx_syntax.specs.Goes.{goes_name}
use Rattle.cx_syntax.specs.Readers as x
use Rattle.cx_syntax.specs.Readers.{just}
use Rattle.cx_syntax.specs.Sets.{is_word, begins_type, starts_name, starts_specs}
use Rattle.cx_syntax.proofs.Ahead.{Told, is_type_name, is_none, told}
use Rattle.cx_syntax.proofs.Basics.{at, apart, sub}
use Rattle.cx_syntax.proofs.Fronts.{Short, Never, never_two, never_as, never_ended, never_elsewhere}
use Rattle.cx_syntax.proofs.NameFaults.{seen_sub}
use Rattle.cx_syntax.proofs.TypeOrExpr.{TypeFront, unseen_by, name_first, by_word}
use Rattle.cx_syntax_stmts.specs.Ahead.{begins_call}
use Rattle.cx_syntax_stmts.specs.Grammar as g
use Rattle.cx_syntax_stmts.proofs.Depth as d

-- ---- a type comes next

pub named_first : (u : List Lexeme) → Told (qtype_end u) (x.qtype u) (x.id_expression (x.deeper 0) u) → ends_bare (qtype_end u) ≡ true → sees (at starts_specs) u ≡ true
named_first u (is_type_name rest v e a o) h = seen_sub (sub starts_name starts_specs refl) u (name_first u rest v a)
named_first u (is_none left e a p) h = absurd (let both : false ≡ true = sym (ap ends_bare e) ∙ h in cc)

pub first_by : (u : List Lexeme) (b c : Bool) → sees (at begins_type) u ≡ b → sees (at is_word) u ≡ c → (b || by_word c u) ≡ true → sees (at starts_specs) u ≡ true
first_by u true c p q h = seen_sub (sub begins_type starts_specs refl) u p
first_by u false true p q h = seen_sub (sub is_word starts_specs refl) u q
first_by u false false p q h = named_first u (told (x.deeper 0) u) h

-- it begins with a token of specs
pub type_first : (u : List Lexeme) → type_ahead u ≡ true → sees (at starts_specs) u ≡ true
type_first u h = first_by u (sees (at begins_type) u) (sees (at is_word) u) refl refl h

pub short_unless : {T A : Type 0} {L : Family T A} {q : T → Bool} {ts used : List T} (test : List T → Bool) → Short L q ts used → Short (λ n. unless test (L n)) q ts used
short_unless test s = record { only = λ n x y w e z. s.only n x y w e z.part; ends = λ n x y e b. s.ends n x y e b.part }

module _ (u : List Lexeme) (f : TypeFront u) (first : sees (at starts_specs) u ≡ true) where
  pub never_expr_stmt : Never (λ n. g.expr_stmt n) u f.run
  unfolding same_class
  never_expr_stmt = never_as kinds.Expr (never_as _ (never_ended (short_unless begins_call f.expr) (heads_the (is k.Semicolon)) (apart goes_name (just k.Semicolon) refl)))

  pub never_jump : Never d.break_or_more u f.run
  unfolding same_class
  never_jump = never_two (never_elsewhere d.heads_break u (unseen_by (apart starts_specs (just k.Break) refl) u first) f.run)
      (never_two (never_elsewhere d.heads_continue u (unseen_by (apart starts_specs (just k.Continue) refl) u first) f.run)
      (never_two (never_elsewhere d.heads_return u (unseen_by (apart starts_specs (just k.Return) refl) u first) f.run) never_expr_stmt))

  pub never_loop : Never d.while_or_more u f.run
  unfolding same_class
  never_loop = never_two (never_elsewhere d.heads_while u (unseen_by (apart starts_specs (just k.While) refl) u first) f.run)
      (never_two (never_elsewhere d.heads_do u (unseen_by (apart starts_specs (just k.Do) refl) u first) f.run)
      (never_two (never_elsewhere d.heads_for u (unseen_by (apart starts_specs (just k.For) refl) u first) f.run)
      (never_two (never_elsewhere d.heads_switch u (unseen_by (apart starts_specs (just k.Switch) refl) u first) f.run) never_jump)))

  pub never_stmt_kind : Never (λ n. g.stmt_kind n (g.deeper n)) u f.run
  unfolding same_class
  never_stmt_kind = never_two (never_elsewhere d.heads_block_stmt u (unseen_by (apart starts_specs (just k.OpenBrace) refl) u first) f.run)
      (never_two (never_elsewhere d.heads_empty u (unseen_by (apart starts_specs (just k.Semicolon) refl) u first) f.run)
      (never_two (never_elsewhere d.heads_if u (unseen_by (apart starts_specs (just k.If) refl) u first) f.run) never_loop))

-- ---- what an expression statement begins, a statement begins

pub expr_kind : (n : ℕ) (x : List Lexeme) → (g.expr_stmt n).begins x → (g.stmt_kind n (g.deeper n)).begins x
expr_kind zero x b = inr (some refl (inr (some refl (inr (some refl (inr (some refl (inr (some refl (inr (some refl (inr (some refl (inr (some refl (inr (some refl (inr (some refl b)))))))))))))))))))
expr_kind (suc n) x b = inr (some refl (inr (some refl (inr (some refl (inr (some refl (inr (some refl (inr (some refl (inr (some refl (inr (some refl (inr (some refl (inr (some refl b)))))))))))))))))))
