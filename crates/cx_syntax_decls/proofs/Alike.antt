-- Variables and a function begin alike: how far each goes ([dcl.decl], [dcl.fct]).
use Rattle.std.proofs.Common.{◌≡◌, ℕ, Bool, true, false, ◌||◌, List, [], ◌∷◌, ◌++◌, Option, Some, None, refl, ap, subst, if◌then◌else◌, arith}
use Rattle.cx_grammar.specs.Language.{maybe, upto, whole, in_first, in_second, joined, ◌>>◌, ◌<$>◌, ◌⊲◌}
use Rattle.cx_grammar.specs.Exact.{Family, Outcome, done, Exact}
use Rattle.cx_grammar.specs.Reading.{sees}
use Rattle.cx_grammar.specs.Sets.{by}
use Rattle.cx_grammar.proofs.Heads.{Apart, Heads, Opens, heads_as, heads_both, heads_before, heads_or, heads_sub, heads_the, opens_both, opens_many, opens_maybe, opens_sub}
use Rattle.cx_tree.specs.declared.exprs.Bound.{Bound}
use Rattle.cx_tree.specs.declared.names.Ident.{Ident}
use Rattle.cx_tree.specs.declared.specifiers.Ptrs.{Ptrs}
use Rattle.cx_tree.specs.declared.stmts.Init.{Init}
use Rattle.cx_tree.specs.declared.stmts.InitKind.TheVariants as i
use Rattle.cx_tree.specs.declared.decls.EntityKind.{EntityKind}
use Rattle.cx_tree.specs.declared.decls.EntityKind.TheVariants as kinds
use Rattle.cx_syntax.specs.declared.class.Class.{Class}
use Rattle.cx_syntax.specs.declared.class.Class.TheVariants as k
use Rattle.cx_syntax.specs.declared.lexeme.Lexeme.{Lexeme}
use Rattle.cx_syntax.specs.Classes.{is, same_class}
use Rattle.cx_syntax.specs.Goes.{goes_name, goes_ptrs}
use Rattle.cx_syntax.specs.Sets.{is_id, is_name, starts_fname, starts_last}
use Rattle.cx_syntax.specs.Values.{pick, span_of, ident_of}
use Rattle.cx_syntax.specs.Grammar as e
use Rattle.cx_syntax.specs.Readers as er
use Rattle.cx_syntax.specs.Readers.{just}
use Rattle.cx_syntax.proofs.Basics.{at, apart, sub, heads_pick, opens_upto}
use Rattle.cx_syntax.proofs.Depth as h
use Rattle.cx_syntax.proofs.Fronts.{Never, Short, never_as, never_elsewhere, never_ended, never_led, never_measured, never_short, never_two, short_as, short_both, short_measured, short_skip}
use Rattle.cx_syntax.proofs.Names.{last_begins}
use Rattle.cx_syntax.proofs.Specifiers.{exactly_ptrs}
use Rattle.cx_syntax.proofs.TypeOrExpr.{unseen_by, blocked_seen}
use Rattle.cx_syntax_parts.specs.Goes.{goes_attrs}
use Rattle.cx_syntax_parts.specs.Grammar as pg
use Rattle.cx_syntax_vars.specs.Grammar as vg
use Rattle.cx_syntax_vars.specs.Sets.{starts_init}
use Rattle.cx_syntax_vars.specs.Values.{init_of, list_of, var_of}
use Rattle.cx_syntax_vars.proofs.Covering.{short_maybe}
use Rattle.cx_syntax_decls.specs.Grammar as g
use Rattle.cx_syntax_decls.specs.Values.{function_of}
use Rattle.cx_syntax_decls.proofs.Arguments.{closed_args}
use Rattle.cx_syntax_decls.proofs.Declared.{passed_token, passed_name}
use Rattle.cx_syntax_decls.proofs.Functions.{behind_ptrs, heads_behind_ptrs, heads_paren_params}
use Rattle.cx_syntax_decls.proofs.Lower.{opens_attrs, heads_init}
use Rattle.cx_syntax_decls.proofs.Passing.{Passed, passed_done, behind_never, behind_open, behind_short, blocked_first, heads_at, opens_at, short_idle}

abbrev pub variables : Family Lexeme EntityKind
variables n = kinds.Vars <$> (vg.vars n ⊲ is k.Semicolon)

abbrev pub functions : Family Lexeme EntityKind
functions n = kinds.Function <$> g.function n

-- ---- what stands behind the name of a variable

abbrev pub bounds : Family Lexeme (List Bound)
bounds n = upto 16 (e.bound (e.deeper n))

abbrev pub var_end : Family Lexeme (ℕ × (List Bound × Option Init))
var_end n = pg.attrs n >> bounds n >> maybe (vg.init n)

abbrev pub named_var : Family Lexeme (Ident × (ℕ × (List Bound × Option Init)))
named_var n = e.id >> var_end n

abbrev pub starts_var_end : Class → Bool
starts_var_end c = just k.OpenBracket c || starts_init c

pub opens_bounds : Opens bounds (at (just k.OpenBracket))
opens_bounds = opens_upto h.heads_bound 16

pub opens_var_end : Opens var_end (at starts_var_end)
unfolding same_class
opens_var_end = opens_both (opens_sub (sub goes_attrs starts_var_end refl) opens_attrs) (opens_both (opens_sub (sub (just k.OpenBracket) starts_var_end refl) opens_bounds) (opens_sub (sub starts_init starts_var_end refl) (opens_maybe heads_init)))

pub heads_named_var : Heads named_var (at is_id)
heads_named_var = heads_both var_end (heads_pick is_id ident_of)

-- what may stand behind a variable among others
abbrev pub goes_list : Class → Bool
goes_list c = just k.Comma c || just k.Semicolon c

-- no token
abbrev pub none : Class → Bool
none c = false

heads_equals : Heads (λ n. vg.equals n) (at (just k.Equal))
unfolding same_class
heads_equals = heads_sub (sub (λ c. just k.Equal c || just k.Equal c) (just k.Equal) refl) (heads_or (heads_as i.Equals (heads_before {G = λ n. e.assign (e.deeper n)} (is k.Equal))) (heads_as i.EqualsList (heads_before {G = λ n. e.braces (e.deeper n)} (is k.Equal))))

-- at a `(`, where the arguments are not spelled; at the levels m
module _ (m : ℕ → ℕ) (p : Lexeme) (w more : List Lexeme) (paren : is k.OpenParen p ≡ true) (s : Never (λ n. closed_args (m n)) w more) where
  never_init : Never (λ n. vg.init (m n)) (p ∷ w) (p ∷ more)
  unfolding same_class
  never_init = never_as init_of (never_measured span_of (never_two (never_elsewhere (heads_at m heads_equals) (p ∷ w) (unseen_by (apart (just k.OpenParen) (just k.Equal) refl) (p ∷ w) paren) (p ∷ more))
      (never_two (never_elsewhere (heads_as i.DirectList (heads_at m h.heads_braces)) (p ∷ w) (unseen_by (apart (just k.OpenParen) (just k.OpenBrace) refl) (p ∷ w) paren) (p ∷ more))
      (never_as i.Direct (never_as list_of (never_measured span_of (never_led (is k.OpenParen) p s)))))))

  pub paren_var_end : Short (λ n. var_end (m n)) (at (just k.OpenParen)) (p ∷ w) (p ∷ more)
  unfolding same_class
  paren_var_end = let blocked = blocked_first (at (just k.OpenParen)) p w paren in
      short_skip (opens_at m opens_attrs) (unseen_by (apart (just k.OpenParen) goes_attrs refl) (p ∷ w) paren)
      (short_skip (opens_at m opens_bounds) (unseen_by (apart (just k.OpenParen) (just k.OpenBracket) refl) (p ∷ w) paren)
      (short_maybe blocked (never_short (at (just k.OpenParen)) never_init)))

-- ---- behind `*` and `&`

module _ (ts : List Lexeme) (v : Ptrs) (u : List Lexeme) (read : er.ptrs ts ≡ done v u) where
  pub ptrs_exact : Exact (λ (n : ℕ). e.ptrs) (by (at goes_ptrs)) 0 ts (done v u)
  ptrs_exact = let P : Outcome Lexeme Ptrs → Type 0 = λ o. Exact (λ (n : ℕ). e.ptrs) (by (at goes_ptrs)) 0 ts o in subst P read ((exactly_ptrs 0).at ts)

  -- their tokens
  abbrev pub marks : List Lexeme
  marks = ptrs_exact.used

  pub marks_cut : ts ≡ marks ++ u
  marks_cut = ptrs_exact.core.cut

  marks_passed : Passed (λ (n : ℕ). e.ptrs) (at goes_ptrs) ts marks u
  marks_passed = passed_done (λ n. e.ptrs) (at goes_ptrs) 0 ts u v ptrs_exact

  pub function_never : {more : List Lexeme} → Never behind_ptrs u more → Never functions ts (marks ++ more)
  unfolding same_class
  function_never s = never_as kinds.Function (never_as function_of (behind_never marks_passed heads_behind_ptrs (apart goes_ptrs starts_fname refl) s))

  pub function_begins : (n : ℕ) (x : List Lexeme) → (behind_ptrs n).begins x → (functions n).begins (marks ++ x)
  function_begins n x b = in_second marks x v refl (ptrs_exact.spells 0 (omega arith)) b

  pub vars_begins : (n : ℕ) (x : List Lexeme) → (named_var n).begins x → (variables n).begins (marks ++ x)
  vars_begins n x b = in_first (in_first (in_second marks x v refl (ptrs_exact.spells 0 (omega arith)) b))

  -- what a variable spells is followed by a token that no list of variables goes on with
  pub vars_never : (m : ℕ → ℕ) (q : Class → Bool) → Apart (at q) (at goes_list) → {more : List Lexeme} → Short (λ n. named_var (m n)) (at q) u more → Never (λ n. variables (m n)) ts (marks ++ more)
  unfolding same_class
  vars_never m q a s = never_as kinds.Vars (never_as _ (never_ended (short_as joined (short_both
      (short_as var_of (short_measured span_of (behind_short marks_passed (heads_at m heads_named_var) (apart goes_ptrs is_id refl) s)))
      (opens_many (heads_before {G = λ n. vg.var (m n)} (is k.Comma))) (λ t x y. a t x (sub (just k.Comma) goes_list refl t y)))) (heads_the (is k.Semicolon)) (λ t x y. a t x (sub (just k.Semicolon) goes_list refl t y))))

-- ---- at another token than an ID

pub vars_elsewhere : (m : ℕ → ℕ) (u : List Lexeme) → sees (at is_id) u ≡ false → Short (λ n. named_var (m n)) (at none) u []
vars_elsewhere m u unseen = never_short (at none) (never_elsewhere (heads_at m heads_named_var) u unseen [])

pub function_elsewhere : (u : List Lexeme) → sees (at starts_fname) u ≡ false → Never behind_ptrs u []
function_elsewhere u unseen = never_elsewhere heads_behind_ptrs u unseen []

-- ---- at an ID

module _ (t : Lexeme) (w : List Lexeme) (id : is_id t.class ≡ true) where
  pub id_spelled : e.id.spells (t ∷ []) (ident_of t)
  id_spelled = record { token = t; alone = refl; fits = ap (λ b. if b then Some (ident_of t) else None) id }

  pub id_begun : (n : ℕ) → (named_var n).begins (t ∷ [])
  id_begun n = in_first (whole (ident_of t) id_spelled)

  pub name_begun : (n : ℕ) → (behind_ptrs n).begins (t ∷ [])
  name_begun n = in_first (in_second [] (t ∷ []) [] refl refl (last_begins t (sub is_id is_name refl t id) (sub is_id starts_last refl t id)))

  -- a variable goes so far as what stands behind the name
  pub id_short : (m : ℕ → ℕ) (q : Class → Bool) {more : List Lexeme} → Short (λ n. var_end (m n)) (at q) w more → Short (λ n. named_var (m n)) (at q) (t ∷ w) (t ∷ more)
  id_short m q s = behind_open (passed_token (pick is_id ident_of) (at none) t w) (opens_at m opens_var_end) (λ x i. cc) (λ x i. cc) s

  -- behind `::` no variable goes on
  pub colons_short : (m : ℕ → ℕ) → sees (is k.ColonColon) w ≡ true → Short (λ n. named_var (m n)) (at goes_name) (t ∷ w) (t ∷ [])
  unfolding same_class
  colons_short m colons = id_short m goes_name (short_idle (opens_at m opens_var_end) w (unseen_by (apart goes_name starts_var_end refl) w colons) (at goes_name) (blocked_seen (at goes_name) w colons))

  -- with neither `::` nor `(` behind it no function goes on
  pub lone_never : sees (is k.ColonColon) w ≡ false → sees (is k.OpenParen) w ≡ false → Never behind_ptrs (t ∷ w) (t ∷ [])
  unfolding same_class
  lone_never lone unseen = behind_never (passed_name t w id lone) (heads_both (λ n. g.function_end n) heads_paren_params) (apart goes_name (just k.OpenParen) refl)
      (never_elsewhere (heads_both (λ n. g.function_end n) heads_paren_params) w unseen [])
