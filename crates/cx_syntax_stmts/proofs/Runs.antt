-- Where the tokens ahead are no type's: an expr begins with what a type may have there, and specs go no further.
use Rattle.std.proofs.Common.{◌≡◌, ℕ, zero, suc, Bool, false, List, [], ◌∷◌, ◌++◌, Option, Some, None, refl, sym, ap, inl, inr}
use Rattle.std.proofs.lemmas.List.{append-nil}
use Rattle.cx_grammar.specs.Language.{in_first, upto}
use Rattle.cx_tree.specs.declared.specifiers.Ptrs.{Ptrs}
use Rattle.cx_syntax.specs.declared.lexeme.Lexeme.{Lexeme}
use Rattle.cx_syntax.specs.Ahead.{type_ahead}
use Rattle.cx_syntax.specs.Grammar as g
use Rattle.cx_syntax.specs.Values.{is_there, span_of}
use Rattle.cx_syntax.proofs.Basics.{at}
use Rattle.cx_syntax.proofs.Fronts.{Short}
use Rattle.cx_syntax.proofs.TypeOrExpr.{ends_type, expr_front}
use Rattle.cx_syntax_stmts.specs.Ahead.{call_at, begins_call}
use Rattle.cx_syntax_stmts.proofs.Refused.{clear_front}
use Rattle.cx_syntax_stmts.proofs.Calls.{stable, call_of, run, run_clear, run_at}

-- ---- what specs spell, a typeid does

pub no_turns : {B : Type 0} (h : _) (most : ℕ) → (upto {T = Lexeme} {A = B} most h).spells [] []
no_turns h zero = record { value = tt; made = refl; part = refl }
no_turns h (suc most) = inr (record { value = tt; made = refl; part = refl })

abbrev no_ptrs : Ptrs
no_ptrs = record { stars = []; is_reference = false }

pub no_ptrs_spelled : g.ptrs.spells [] no_ptrs
no_ptrs_spelled = record { value = ([], None); made = refl; part = record { front = []; back = []; cut = refl; first = no_turns g.star 64; second = inl (record { value = tt; made = refl; part = refl }) } }

pub short_specs : {q : Lexeme → Bool} {u used : List Lexeme} → Short (λ n. g.typeid (g.deeper n)) q u used → Short (λ n. g.specs) q u used
short_specs s = record {
  only = λ n x y w e z. s.only n x y (_) e (record {
    value = ((w, (no_ptrs, [])), span_of x);
    made = refl;
    part = record {
      part = record { front = x; back = []; cut = sym (append-nil x); first = z; second = record { front = []; back = []; cut = refl; first = no_ptrs_spelled; second = no_turns (g.bound (g.deeper n)) 16 } };
      measure = refl;
    };
  });
  ends = λ n x y e b. s.ends n x y e (in_first b);
}

-- ---- an expression comes next

pub record PlainFront (u : List Lexeme) : Type 0 where
  pub run : List Lexeme
  pub rest : List Lexeme
  pub cut : u ≡ run ++ rest
  -- an expr begins with the run, which is no type and `(`
  pub exprs : (n : ℕ) → (g.expr (g.deeper n)).begins run
  pub clear : begins_call run ≡ false
  -- specs go no further
  pub specs : Short (λ n. g.specs) (at ends_type) u run

pub plain_by : (u : List Lexeme) (o : Option ℕ) → call_at u ≡ o → type_ahead u ≡ false → PlainFront u
plain_by u None e h = let f = expr_front u h in record {
  run = f.run;
  rest = f.rest;
  cut = f.cut;
  exprs = f.exprs;
  clear = clear_front begins_call stable u f.run f.rest f.cut (ap is_there e);
  specs = short_specs f.typeid;
}
plain_by u (Some left) e h = let f = call_of u left e in let a = run_at u left f in record {
  run = run u left f;
  rest = f.paren ∷ f.after;
  cut = a.cut;
  exprs = a.exprs;
  clear = run_clear u left f;
  specs = short_specs a.typeid;
}

pub plain_front : (u : List Lexeme) → type_ahead u ≡ false → PlainFront u
plain_front u h = plain_by u (call_at u) refl h
