-- The readers of parameters are exact ([dcl.fct]).
use Rattle.std.proofs.Common.{◌≡◌, ℕ, Bool, true, ◌||◌, List, [], ◌∷◌, Option, None, refl, inr}
use Rattle.cx_grammar.specs.Language.{maybe, present, ◌>>◌, in_first, in_second, some}
use Rattle.cx_grammar.specs.Exact.{Family}
use Rattle.cx_grammar.specs.Sets.{by}
use Rattle.cx_grammar.proofs.Heads.{Heads, Opens, heads_as, heads_both, heads_before, heads_sub, heads_measured, opens_both, opens_maybe, opens_sub, never_sub, same_sub}
use Rattle.cx_grammar.proofs.Steps.{Exactly, ExactlyAt, exactly_token, exactly_as, exactly_before, exactly_both, exactly_open, exactly_maybe, exactly_separated}
use Rattle.cx_grammar.proofs.Choices.{exactly_on}
use Rattle.cx_grammar.proofs.Levels.{marked, marked_before, present_at}
use Rattle.cx_grammar.proofs.Sides.{exactly_measured}
use Rattle.cx_tree.specs.declared.names.Ident.{Ident}
use Rattle.cx_tree.specs.declared.specifiers.Ptrs.{Ptrs}
use Rattle.cx_tree.specs.declared.exprs.Bound.{Bound}
use Rattle.cx_tree.specs.declared.exprs.Expr.{Expr}
use Rattle.cx_syntax.specs.declared.class.Class.{Class}
use Rattle.cx_syntax.specs.declared.class.Class.TheVariants as k
use Rattle.cx_syntax.specs.declared.lexeme.Lexeme.{Lexeme}
use Rattle.cx_syntax.specs.Classes.{is, same_class}
use Rattle.cx_syntax.specs.Sets.{is_id, is_modifier, starts_typed, starts_specs}
use Rattle.cx_syntax.specs.Goes.{goes_assign}
use Rattle.cx_syntax.specs.Values.{pick, span_of, ident_of, ptrs_of}
use Rattle.cx_syntax.specs.Grammar as g
use Rattle.cx_syntax.specs.Readers as r
use Rattle.cx_syntax.specs.Readers.{just}
use Rattle.cx_syntax.proofs.Basics.{at, apart, sub, heads_pick, heads_after, begun_pick, opens_upto}
use Rattle.cx_syntax.proofs.Names.{goes_name}
use Rattle.cx_syntax.proofs.Specifiers.{goes_typed, goes_ptrs, starts_ptrs, exactly_ptrs, opens_ptrs, heads_specs}
use Rattle.cx_syntax.proofs.Depth.{room, heads_bound}
use Rattle.cx_syntax.proofs.Lists.{exactly_bounds}
use Rattle.cx_syntax.proofs.Exact.{sound}
use Rattle.cx_syntax.proofs.Fronts.{Short, short_skip, short_both}
use Rattle.cx_syntax.proofs.TypeOrExpr.{unseen_by}
use Rattle.cx_syntax_parts.specs.Goes.{goes_attrs}
use Rattle.cx_syntax_parts.proofs.Soup.{exactly_attrs, opens_attrs}
use Rattle.cx_syntax_vars.specs.Goes.{goes_param, goes_params}
use Rattle.cx_syntax_vars.specs.Sets.{leads_type, starts_param}
use Rattle.cx_syntax_vars.specs.Values.{param_of}
use Rattle.cx_syntax_vars.specs.Grammar as l
use Rattle.cx_syntax_vars.specs.Readers as s
use Rattle.cx_syntax_vars.proofs.Covering.{short_token, short_maybe, short_covers, blocked_first}
use Rattle.cx_syntax_vars.proofs.SpecsBefore.{exactly_specs_open}
use Rattle.cx_syntax_vars.proofs.Names.{Declares, decides_type}
use Rattle.cx_syntax_vars.proofs.Typedefs.{ptrs_blank, ptrs_none}
use Rattle.cx_syntax_vars.proofs.Vars.{bounds, blank_attrs}

-- ---- a default argument, which goes a level deeper

pub heads_default : Heads (λ n. l.default_argument n) (at (just k.Equal))
heads_default = heads_before {G = λ n. (g.deeper n).assign} (is k.Equal)

default_at : (left : ℕ) → ExactlyAt (at (just k.Equal)) (λ n. present (l.default_argument n)) (by (at goes_assign)) left (s.default_argument left)
unfolding s.default_argument
default_at left = exactly_on (at (just k.Equal)) (s.default_argument left) (λ t ts e. marked (λ n. (r.deeper n).room) room left (marked_before (λ n. (g.deeper n).assign) (is k.Equal) t e refl (λ x w z. z) (λ n. refl))
    (λ there. exactly_before (is k.Equal) ((sound left).assign there)))

-- ---- what stands behind the specifiers

abbrev param_bounds : Family Lexeme (List Bound × Option Expr)
param_bounds n = bounds n >> maybe (l.default_argument n)

abbrev param_name : Family Lexeme (Option Ident × (List Bound × Option Expr))
param_name n = maybe g.id >> param_bounds n

abbrev pub declarator : Family Lexeme (Ptrs × (Option Ident × (List Bound × Option Expr)))
declarator n = g.ptrs >> param_name n

abbrev starts_bounds : Class → Bool
starts_bounds c = just k.OpenBracket c || just k.Equal c

abbrev starts_name : Class → Bool
starts_name c = is_id c || starts_bounds c

abbrev starts_declarator : Class → Bool
starts_declarator c = starts_ptrs c || starts_name c

abbrev goes_declarator : Class → Bool
goes_declarator c = goes_ptrs c || goes_assign c

opens_bounds : Opens param_bounds (at starts_bounds)
unfolding same_class
opens_bounds = opens_both (opens_sub (sub (just k.OpenBracket) starts_bounds refl) (opens_upto heads_bound 16)) (opens_sub (sub (just k.Equal) starts_bounds refl) (opens_maybe heads_default))

opens_name : Opens param_name (at starts_name)
unfolding same_class
opens_name = opens_both (opens_sub (sub is_id starts_name refl) (opens_maybe (heads_pick is_id ident_of))) (opens_sub (sub starts_bounds starts_name refl) opens_bounds)

pub opens_declarator : Opens declarator (at starts_declarator)
unfolding same_class
opens_declarator = opens_both (opens_sub (sub starts_ptrs starts_declarator refl) opens_ptrs) (opens_sub (sub starts_name starts_declarator refl) opens_name)

exactly_param_bounds : (left : ℕ) → Exactly param_bounds (by (at goes_assign)) left (s.param_bounds left)
unfolding same_class
exactly_param_bounds left = exactly_open (at goes_assign) (exactly_bounds left (sound left))
    (exactly_maybe (at goes_assign) heads_default (default_at left) (same_sub (at goes_assign)) (sub (just k.Equal) goes_assign refl))
    (opens_maybe heads_default) (apart (just k.OpenBracket) (just k.Equal) refl) (sub (just k.OpenBracket) goes_assign refl) (same_sub (at goes_assign))

exactly_name : (left : ℕ) → Exactly param_name (by (at goes_assign)) left (s.param_name left)
unfolding same_class
exactly_name left = exactly_open (at goes_assign)
    (exactly_maybe (at is_id) (heads_pick is_id ident_of) (present_at refl (λ n. refl) exactly_token) (never_sub (at is_id)) (same_sub (at is_id)))
    (exactly_param_bounds left) opens_bounds (apart is_id starts_bounds refl) (sub is_id goes_assign refl) (same_sub (at goes_assign))

pub exactly_declarator : (left : ℕ) → Exactly declarator (by (at goes_declarator)) left (s.param_declarator left)
unfolding same_class
exactly_declarator left = exactly_open (at goes_declarator) (exactly_ptrs left) (exactly_name left) opens_name (apart goes_ptrs starts_name refl) (sub goes_ptrs goes_declarator refl) (sub goes_assign goes_declarator refl)

-- ---- specifiers, and perhaps a name

pub declarator_blank : (n : ℕ) → (declarator n).begins []
declarator_blank n = in_first ptrs_blank

declarator_stays : (n : ℕ) → (declarator n).stays ≡ true
declarator_stays n = refl

-- what may follow an ID that is the name, or where it may stand
abbrev goes_id : Class → Bool
goes_id c = is_id c || goes_name c

module _ (t c : Lexeme) (rest : List Lexeme) (id : is_id t.class ≡ true) (colons : is k.ColonColon c ≡ true) where
  short_declarator : Short declarator (at goes_id) (t ∷ c ∷ rest) (t ∷ [])
  unfolding same_class
  short_declarator = short_skip opens_ptrs (unseen_by (apart is_id starts_ptrs refl) (t ∷ c ∷ rest) id)
      (short_both (short_maybe (blocked_first (at goes_id) t (c ∷ rest) (sub is_id goes_id refl t id)) (short_token (pick is_id ident_of) t (c ∷ rest) (blocked_first (at goes_id) c rest (sub (just k.ColonColon) goes_id refl c colons))))
      opens_bounds (apart goes_id starts_bounds refl))

declares_param : (left : ℕ) → Declares declarator starts_declarator goes_param left
unfolding same_class
declares_param left = record {
  opens = opens_declarator;
  apart = apart leads_type starts_declarator refl;
  over = λ n w t z e. sub starts_typed goes_param refl t e;
  blank = declarator_blank left;
  ids = λ t e. in_second [] (t ∷ []) (ptrs_of ([], None)) refl ptrs_none (in_first (inr (some refl (begun_pick is_id ident_of t e))));
  named = λ t c rest e f. short_covers (at goes_param) c rest refl (sub goes_id goes_param refl) (short_declarator t c rest e f);
}

pub exactly_specs_declarator : (left : ℕ) → Exactly (λ n. g.specs >> declarator n) (by (at goes_param)) left (s.param_specs left)
unfolding same_class
exactly_specs_declarator left = exactly_specs_open starts_declarator goes_declarator goes_param opens_declarator declarator_blank declarator_stays (apart is_modifier starts_declarator refl) (apart goes_typed starts_declarator refl)
    (sub is_modifier goes_param refl) (sub goes_typed goes_param refl) (sub goes_declarator goes_param refl) (exactly_declarator left) (decides_type starts_declarator goes_param (declares_param left))

-- ---- parameters

pub exactly_param : (left : ℕ) → Exactly (λ n. l.param n) (by (at goes_param)) left (s.param left)
unfolding s.param same_class
exactly_param left = exactly_as param_of (exactly_measured span_of (exactly_both (exactly_attrs left) (exactly_specs_declarator left) (heads_both declarator heads_specs) (apart goes_attrs starts_specs refl)))

pub heads_param : Heads (λ n. l.param n) (at starts_param)
unfolding same_class
heads_param = heads_as param_of (heads_measured span_of (heads_after (opens_sub (sub goes_attrs starts_param refl) opens_attrs) blank_attrs (heads_sub (sub starts_specs starts_param refl) (heads_both declarator heads_specs))))

pub exactly_params : (left : ℕ) → Exactly (λ n. l.params n) (by (at goes_params)) left (s.params left)
unfolding s.params same_class
exactly_params left = exactly_separated (at goes_params) heads_param (is k.Comma) (exactly_param left) (present_at refl (λ n. refl) (exactly_before (is k.Comma) (exactly_param left)))
    (apart goes_param (just k.Comma) refl) (sub goes_param goes_params refl) (sub (just k.Comma) goes_params refl)

pub heads_params : Heads (λ n. l.params n) (at starts_param)
heads_params = heads_as _ (heads_both _ heads_param)
