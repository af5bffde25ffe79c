-- The readers of local variables are exact ([dcl.pre]).
use Rattle.std.proofs.Common.{◌≡◌, ℕ, Bool, true, false, List, [], ◌∷◌, None, refl}
use Rattle.cx_grammar.specs.Language.{◌⊲◌, in_first, in_second}
use Rattle.cx_grammar.specs.Exact.{Family}
use Rattle.cx_grammar.specs.Sets.{by, never}
use Rattle.cx_grammar.proofs.Heads.{Heads, heads_as, heads_both, heads_before, heads_behind, heads_the, heads_sub, heads_measured, opens, opens_many, opens_sub}
use Rattle.cx_grammar.proofs.Steps.{Exactly, exactly_as, exactly_behind, exactly_both}
use Rattle.cx_grammar.proofs.Sides.{exactly_measured}
use Rattle.cx_tree.specs.declared.stmts.Var.{Var}
use Rattle.cx_syntax.specs.declared.class.Class.{Class}
use Rattle.cx_syntax.specs.declared.class.Class.TheVariants as k
use Rattle.cx_syntax.specs.declared.lexeme.Lexeme.{Lexeme}
use Rattle.cx_syntax.specs.Classes.{is, same_class}
use Rattle.cx_syntax.specs.Sets.{is_id, is_modifier, starts_specs}
use Rattle.cx_syntax.specs.Values.{pick, span_of, ident_of, ptrs_of}
use Rattle.cx_syntax.specs.Readers.{just}
use Rattle.cx_syntax.proofs.Basics.{at, apart, sub, heads_after, begun_pick}
use Rattle.cx_syntax.proofs.Names.{goes_name}
use Rattle.cx_syntax.proofs.Specifiers.{goes_typed, starts_ptrs, opens_ptrs, heads_specs}
use Rattle.cx_syntax.proofs.Fronts.{Short, Never, short_as, short_measured, short_skip, short_both, never_as, never_covers, never_ended}
use Rattle.cx_syntax.proofs.TypeOrExpr.{unseen_by}
use Rattle.cx_syntax_parts.specs.Goes.{goes_attrs}
use Rattle.cx_syntax_parts.proofs.Soup.{exactly_attrs, opens_attrs}
use Rattle.cx_syntax_vars.specs.Goes.{goes_vars}
use Rattle.cx_syntax_vars.specs.Sets.{leads_type, starts_var, starts_param}
use Rattle.cx_syntax_vars.specs.Values.{var_of, local_of, bare_local_of}
use Rattle.cx_syntax_vars.specs.Grammar as l
use Rattle.cx_syntax_vars.specs.Readers as s
use Rattle.cx_syntax_vars.proofs.Covering.{short_token, blocked_first}
use Rattle.cx_syntax_vars.proofs.SpecsBefore.{exactly_specs_then}
use Rattle.cx_syntax_vars.proofs.Names.{Declares, decides_type}
use Rattle.cx_syntax_vars.proofs.Typedefs.{ptrs_none}
use Rattle.cx_syntax_vars.proofs.Vars.{blank_attrs, starts_end, opens_var_attrs, exactly_vars, heads_vars}

-- ---- a variable's name with `::` behind it

-- each ID begins variables
pub id_begins : (n : ℕ) (t : Lexeme) → is_id t.class ≡ true → (l.vars n).begins (t ∷ [])
id_begins n t e = in_first (in_second [] (t ∷ []) (ptrs_of ([], None)) refl ptrs_none (in_first (begun_pick is_id ident_of t e)))

module _ (t c : Lexeme) (rest : List Lexeme) (id : is_id t.class ≡ true) (colons : is k.ColonColon c ≡ true) where
  pub short_var : Short (λ n. l.var n) (at goes_name) (t ∷ c ∷ rest) (t ∷ [])
  unfolding same_class
  short_var = short_as var_of (short_measured span_of (short_skip opens_ptrs (unseen_by (apart is_id starts_ptrs refl) (t ∷ c ∷ rest) id)
      (short_both (short_token (pick is_id ident_of) t (c ∷ rest) (blocked_first (at goes_name) c rest colons)) opens_var_attrs (apart goes_name starts_end refl))))

  pub short_vars : Short (λ n. l.vars n) (at goes_name) (t ∷ c ∷ rest) (t ∷ [])
  unfolding same_class
  short_vars = short_as _ (short_both short_var (opens_many (heads_before {G = λ n. l.var n} (is k.Comma))) (apart goes_name (just k.Comma) refl))

  never_vars : Never (λ n. l.vars n ⊲ is k.Semicolon) (t ∷ c ∷ rest) (t ∷ [])
  unfolding same_class
  never_vars = never_as _ (never_ended short_vars (heads_the (is k.Semicolon)) (apart goes_name (just k.Semicolon) refl))

-- ---- specifiers and variables

abbrev vars_end : Family Lexeme (List Var)
vars_end n = l.vars n ⊲ is k.Semicolon

abbrev none : Class → Bool
none c = false

heads_vars_end : Heads vars_end (at starts_var)
heads_vars_end = heads_behind {G = λ n. l.vars n} (is k.Semicolon) heads_vars

exactly_vars_end : (left : ℕ) → Exactly vars_end (by never) left (s.vars_end left)
unfolding same_class
exactly_vars_end left = exactly_behind (is k.Semicolon) (exactly_vars left) (apart goes_vars (just k.Semicolon) refl)

pub declares_vars : (left : ℕ) → Declares vars_end starts_var none left
declares_vars left = record {
  opens = opens heads_vars_end;
  apart = apart leads_type starts_var refl;
  over = λ n w t z e. absurd (heads_vars_end.full n w z);
  blank = heads_vars_end.blank left;
  ids = λ t e. in_first (id_begins left t e);
  named = λ t c rest e f. never_covers (by (at none)) (never_vars t c rest e f);
}

pub exactly_declared : (left : ℕ) → Exactly (λ n. l.declared n) (by never) left (s.declared left)
unfolding s.declared same_class
exactly_declared left = exactly_specs_then starts_var none heads_vars_end (λ n. refl) (apart is_modifier starts_var refl) (apart goes_typed starts_var refl) (exactly_vars_end left) (decides_type starts_var none (declares_vars left))

pub heads_declared : Heads (λ n. l.declared n) (at starts_specs)
heads_declared = heads_both vars_end heads_specs

-- ---- local variables

pub exactly_local : (left : ℕ) → Exactly (λ n. l.local n) (by never) left (s.local left)
unfolding s.local same_class
exactly_local left = exactly_as local_of (exactly_measured span_of (exactly_both (exactly_attrs left) (exactly_declared left) heads_declared (apart goes_attrs starts_specs refl)))

pub heads_local : Heads (λ n. l.local n) (at starts_param)
unfolding same_class
heads_local = heads_as local_of (heads_measured span_of (heads_after (opens_sub (sub goes_attrs starts_param refl) opens_attrs) blank_attrs (heads_sub (sub starts_specs starts_param refl) heads_declared)))

pub exactly_bare_local : (left : ℕ) → Exactly (λ n. l.bare_local n) (by never) left (s.bare_local left)
unfolding s.bare_local
exactly_bare_local left = exactly_as bare_local_of (exactly_measured span_of (exactly_declared left))

pub heads_bare_local : Heads (λ n. l.bare_local n) (at starts_specs)
heads_bare_local = heads_as bare_local_of (heads_measured span_of heads_declared)
