-- What stands in the parentheses of a `for` is read exactly ([stmt.for], [stmt.ranged]).
use Rattle.std.proofs.Common.{◌≡◌, ℕ, zero, suc, ◌≤◌, Bool, true, false, not, ◌&&◌, ◌||◌, if◌then◌else◌, List, [], ◌∷◌, ◌++◌, length, Option, None, refl, sym, ◌∙◌, ap, subst, inl, inr, append_assoc, arith, length-append}
use Rattle.std.proofs.lemmas.List.{append-nil}
use Rattle.cx_base.specs.declared.rule.Rule.{Rule}
use Rattle.cx_base.specs.declared.rule.Rule.TheVariants.{Nesting}
use Rattle.cx_grammar.specs.Language.{Language, present, maybe, many, the, ◌<$>◌, ◌>>◌, ◌⊲◌, ◌⊳◌, some, in_first, in_second}
use Rattle.cx_grammar.specs.Exact.{Family, Outcome, done, stop, Exact}
use Rattle.cx_grammar.specs.Reading.{sees, ◌<$>◌ as ◌<$$>◌}
use Rattle.cx_grammar.specs.Sets.{by, never}
use Rattle.cx_grammar.proofs.Heads.{Heads, heads_as, heads_both, heads_before, heads_the, heads_unless, heads_sub, heads_behind, opens, opens_sub, opens_maybe, opens_many, never_apart, never_sub, same_sub}
use Rattle.cx_grammar.proofs.Steps.{Exactly, exactly_token, exactly_as, exactly_before, exactly_behind, exactly_both, exactly_open, exactly_maybe}
use Rattle.cx_grammar.proofs.Choices.{Right, right_of}
use Rattle.cx_grammar.proofs.Levels.{present_deep, there_present}
use Rattle.cx_tree.specs.declared.exprs.Bound.{Bound}
use Rattle.cx_tree.specs.declared.exprs.Expr.{Expr}
use Rattle.cx_tree.specs.declared.stmts.ForStart.{ForStart}
use Rattle.cx_tree.specs.declared.stmts.ForStart.TheVariants as start
use Rattle.cx_tree.specs.declared.stmts.Init.{Init}
use Rattle.cx_tree.specs.declared.stmts.Var.{Var}
use Rattle.cx_tree.specs.declared.names.Ident.{Ident}
use Rattle.cx_tree.specs.declared.specifiers.Ptrs.{Ptrs}
use Rattle.cx_tree.specs.declared.specifiers.Specs.{Specs}
use Rattle.cx_syntax.specs.declared.class.Class.{Class}
use Rattle.cx_syntax.specs.declared.class.Class.TheVariants as k
use Rattle.cx_syntax.specs.declared.lexeme.Lexeme.{Lexeme}
use Rattle.cx_syntax.specs.Ahead.{type_ahead}
use Rattle.cx_syntax.specs.Classes.{is, same_class}
use Rattle.cx_syntax.specs.Goes.{goes_args, goes_name}
use Rattle.cx_syntax.specs.Grammar as e
use Rattle.cx_syntax.specs.Readers as x
use Rattle.cx_syntax.specs.Readers.{just}
use Rattle.cx_syntax.specs.Sets.{is_id, is_modifier, starts_assign, starts_specs}
use Rattle.cx_syntax.specs.Values.{span_of, pick, ident_of, ptrs_of}
use Rattle.cx_syntax.proofs.Basics.{at, apart, sub, heads_pick, heads_after, begun_pick, exactly_widened}
use Rattle.cx_syntax.proofs.Beside.{first_begun, second_begun, covers_present}
use Rattle.cx_syntax.proofs.Depth as h
use Rattle.cx_syntax.proofs.Exact.{sound}
use Rattle.cx_syntax.proofs.Fronts.{Short, Never, Blocked, never_as, never_measured, never_both, never_two, never_ended, never_covers, short_sub, short_both, short_below, short_done, short_stop, short_skip}
use Rattle.cx_syntax.proofs.Lists.{exactly_deep, deep, stays_from}
use Rattle.cx_syntax.proofs.NameFaults.{seen_sub}
use Rattle.cx_syntax.proofs.Specifiers.{exactly_ptrs, opens_ptrs, starts_ptrs, goes_ptrs, goes_typed}
use Rattle.cx_syntax.proofs.TypeOrExpr.{TypeFront, ends_type, type_front, unseen_by, blocked_seen}
use Rattle.cx_syntax_parts.specs.Grammar as pg
use Rattle.cx_syntax_vars.specs.Grammar as v
use Rattle.cx_syntax_vars.specs.Readers as w
use Rattle.cx_syntax_vars.specs.Sets.{starts_var, leads_type}
use Rattle.cx_syntax_vars.specs.Values.{var_of, bare_local_of}
use Rattle.cx_syntax_vars.proofs.Covering.{short_maybe, short_covers, short_token, blocked_first, blocked_unseen}
use Rattle.cx_syntax_vars.proofs.SpecsBefore.{exactly_specs_then}
use Rattle.cx_syntax_vars.proofs.Names.{Declares, decides_type}
use Rattle.cx_syntax_vars.proofs.Typedefs.{ptrs_none}
use Rattle.cx_syntax_vars.proofs.Vars.{opens_var_attrs, starts_end, var_end, heads_vars}
use Rattle.cx_syntax_vars.proofs.Locals.{exactly_bare_local}
use Rattle.cx_syntax_stmts.specs.declared.parts.ForHead.{ForHead}
use Rattle.cx_syntax_stmts.specs.Ahead.{type_end, begins_call}
use Rattle.cx_syntax_stmts.specs.Grammar as g
use Rattle.cx_syntax_stmts.specs.Readers as r
use Rattle.cx_syntax_stmts.specs.Values.{steps_of, range_of}
use Rattle.cx_syntax_stmts.proofs.AtType.{type_first, short_unless}
use Rattle.cx_syntax_stmts.proofs.Calls.{exactly_plain}
use Rattle.cx_syntax_stmts.proofs.Runs.{PlainFront, plain_front}
use Rattle.cx_syntax_stmts.proofs.Under.{Under, under_refl, under_trans, under_as, under_measured, under_both, under_three, never_under, never_more}

abbrev pub goes_head : Class → Bool
goes_head c = goes_args c || starts_assign c

-- ---- specs ptrs ID

abbrev pub declarator : Family Lexeme (Ptrs × Ident)
declarator n = e.ptrs >> e.id

abbrev pub range_name : Family Lexeme (Specs × (Ptrs × Ident))
range_name n = e.specs >> (e.ptrs >> e.id)

pub ptrs_blank : e.ptrs.begins []
ptrs_blank = in_first (inr refl)

pub heads_declarator : Heads declarator (at starts_var)
unfolding same_class
heads_declarator = heads_after (opens_sub (sub starts_ptrs starts_var refl) opens_ptrs) (λ n. ptrs_blank) (heads_sub (sub is_id starts_var refl) (heads_pick is_id ident_of))

pub exactly_declarator : (left : ℕ) → Exactly declarator (by (at goes_name)) left r.declarator
unfolding same_class
exactly_declarator left = exactly_widened (never_sub (at goes_name)) (exactly_both (exactly_ptrs left) exactly_token (heads_pick is_id ident_of) (apart goes_ptrs is_id refl))

pub id_begins : (t : Lexeme) → is_id t.class ≡ true → (e.ptrs >> e.id).begins (t ∷ [])
id_begins t i = in_second [] (t ∷ []) (ptrs_of ([], None)) refl ptrs_none (begun_pick is_id ident_of t i)

-- an ID with `::` behind it
pub short_declarator : (t c : Lexeme) (rest : List Lexeme) → is_id t.class ≡ true → is k.ColonColon c ≡ true → Short declarator (at goes_name) (t ∷ c ∷ rest) (t ∷ [])
unfolding same_class
short_declarator t c rest i j = short_skip opens_ptrs (unseen_by (apart is_id starts_ptrs refl) (t ∷ c ∷ rest) i) (short_token (pick is_id ident_of) t (c ∷ rest) (blocked_first (at goes_name) c rest j))

pub declares : (left : ℕ) → Declares declarator starts_var goes_name left
unfolding same_class
declares left = record {
  opens = opens heads_declarator;
  apart = apart leads_type starts_var refl;
  over = λ n w t z i. absurd (heads_declarator.full n w z);
  blank = heads_declarator.blank left;
  ids = id_begins;
  named = λ t c rest i j. short_covers (at goes_name) c rest refl (same_sub (at goes_name)) (short_declarator t c rest i j);
}

pub exactly_range_name : (left : ℕ) → Exactly range_name (by (at goes_name)) left r.range_name
unfolding same_class
exactly_range_name left = exactly_specs_then starts_var goes_name heads_declarator (λ n. refl) (apart is_modifier starts_var refl) (apart goes_typed starts_var refl) (exactly_declarator left) (decides_type starts_var goes_name (declares left))

-- ---- one level deeper there is an expression

pub expr_stays : (n : ℕ) → 1 ≤ n → (e.deeper n).expr.stays ≡ true
expr_stays n l = stays_from (λ m. (e.deeper m).expr) (λ m. refl) n l

pub deep_begins : (n : ℕ) → 1 ≤ n → (x : List Lexeme) → ((m : ℕ) → (e.expr (e.deeper m)).begins x) → (e.deeper n).expr.begins x
deep_begins zero l x b = absurd (omega arith)
deep_begins (suc n) l x b = b n

pub deep_spelled : (n : ℕ) (x : List Lexeme) (w : Expr) → (e.deeper n).expr.spells x w → (m : ℕ) × (e.expr (e.deeper m)).spells x w
deep_spelled zero x w s = absurd s
deep_spelled (suc n) x w s = (n, s)

-- ---- an expression and `;`, or `;` alone

abbrev pub plain_deep : Family Lexeme Expr
plain_deep n = g.plain (e.deeper n).expr

abbrev pub first_expr : Family Lexeme ForStart
first_expr n = start.Expr <$> maybe (g.plain (e.deeper n).expr) ⊲ is k.Semicolon

abbrev pub local_start : Family Lexeme ForStart
local_start n = start.Local <$> v.bare_local n

pub heads_plain_deep : Heads plain_deep (at starts_assign)
unfolding type_end
heads_plain_deep = heads_unless begins_call refl h.heads_deep_expr

abbrev pub starts_first : Class → Bool
starts_first c = starts_assign c || just k.Semicolon c

pub heads_then_semicolon : {A : Type 0} {G : Family Lexeme A} → Heads G (at starts_assign) → Heads (λ n. maybe (G n) ⊲ is k.Semicolon) (at starts_first)
unfolding same_class
heads_then_semicolon g = heads_as _ (heads_after (opens_sub (sub starts_assign starts_first refl) (opens_maybe g)) (λ n. inl refl) (heads_sub (sub (just k.Semicolon) starts_first refl) (heads_the (is k.Semicolon))))

-- ---- specs ptrs ID are a front of variables, and end them where no declarator goes on

-- what stands behind the name of a variable
abbrev pub rest_of_var : Family Lexeme (ℕ × (List Bound × Option Init))
rest_of_var n = pg.attrs n >> var_end n

abbrev pub other_vars : Family Lexeme (List Var)
other_vars n = many (is k.Comma ⊳ v.var n)

pub declared_under : Under (λ n. v.declared n) (λ n. ((range_name n >> rest_of_var n) >> other_vars n) >> the (is k.Semicolon))
declared_under = under_trans (under_both (under_refl (λ n. e.specs))
    (under_as _ (under_both (under_as _ (under_both (under_as var_of (under_measured span_of (under_three (λ n. e.ptrs) (λ n. e.id) rest_of_var))) (under_refl other_vars))) (under_refl (λ n. the (is k.Semicolon))))))
    (under_trans (under_three (λ n. e.specs) (λ n. (declarator n >> rest_of_var n) >> other_vars n) (λ n. the (is k.Semicolon)))
    (under_both (under_trans (under_three (λ n. e.specs) (λ n. declarator n >> rest_of_var n) other_vars) (under_both (under_three (λ n. e.specs) declarator rest_of_var) (under_refl other_vars))) (under_refl (λ n. the (is k.Semicolon)))))

-- a token with which variables go on behind a name
abbrev pub not_going : Class → Bool
not_going c = not (starts_end c || (just k.Comma c || just k.Semicolon c))

pub never_declared : {u run : List Lexeme} → Short range_name (at not_going) u run → Never (λ n. v.declared n) u run
unfolding same_class
never_declared s = never_under declared_under (never_ended (short_both (short_both s opens_var_attrs (apart not_going starts_end refl))
    (opens_many (heads_before {G = λ n. v.var n} (is k.Comma))) (apart not_going (just k.Comma) refl)) (heads_the (is k.Semicolon)) (apart not_going (just k.Semicolon) refl))

-- a front of such a name begins variables
pub name_in_var : (n : ℕ) (x : List Lexeme) → (e.ptrs >> e.id).begins x → (v.vars n).begins x
name_in_var n x (in_first b) = in_first (in_first b)
name_in_var n x (in_second f l p cut s b) = in_first (in_second f l p cut s (in_first b))

pub name_begins : (n : ℕ) (x : List Lexeme) → (range_name n).begins x → (v.declared n).begins x
name_begins n x (in_first b) = in_first b
name_begins n x (in_second f l p cut s b) = in_second f l p cut s (in_first (name_in_var n l b))

-- no level is counted in it, so that no fault is one of nesting
pub no_nesting : {A : Type 0} (L : Language Lexeme A) (go : A → Lexeme → Bool) (least : ℕ) (ts : List Lexeme) (l : ℕ) → Exact (λ n. L) go least ts (stop Nesting l) → ⊥
no_nesting L go least ts l z =
    let dp = z.deep refl in
    let w = z.core.ends least (λ i. refl) (z.used ++ dp.token ∷ []) dp.after (z.core.cut ∙ (ap (λ y. z.used ++ y) dp.is ∙ sym (append_assoc z.used (dp.token ∷ []) dp.after))) (dp.begins dp.enough (omega arith)) in
    let a : length z.used ≡ length ((z.used ++ dp.token ∷ []) ++ w.0) = ap length w.1 in
    let b = length-append (z.used ++ dp.token ∷ []) w.0 in let c = length-append z.used (dp.token ∷ []) in omega arith

-- ---- what a `for` begins with

abbrev pub not_semicolon : Class → Bool
not_semicolon c = not (just k.Semicolon c)

pub heads_vars_end : Heads (λ n. v.vars n ⊲ is k.Semicolon) (at starts_var)
heads_vars_end = heads_behind (is k.Semicolon) heads_vars

-- at a type no expression stands there
pub never_first_expr : (u : List Lexeme) (f : TypeFront u) → sees (at starts_specs) u ≡ true → Never first_expr u f.run
unfolding same_class
never_first_expr u f s = never_as start.Expr (never_as _ (never_ended (short_maybe (blocked_seen (at not_semicolon) u (seen_sub (sub starts_specs not_semicolon refl) u s))
    (short_sub (sub goes_name not_semicolon refl) (short_unless begins_call (short_below h.below_expr f.expr)))) (heads_the (is k.Semicolon)) (apart not_semicolon (just k.Semicolon) refl)))

-- at an expression there are no variables
pub never_local : (u : List Lexeme) (f : PlainFront u) → Never local_start u f.run
unfolding same_class
never_local u f = never_as start.Local (never_as bare_local_of (never_measured span_of (never_ended f.specs heads_vars_end (apart ends_type starts_var refl))))

pub heads_first_expr : Heads first_expr (at starts_first)
heads_first_expr = heads_as start.Expr (heads_then_semicolon heads_plain_deep)

module _ (left : ℕ) (there : (x.deeper left).room ≡ true) where
  pub some_left : 1 ≤ left
  some_left = deep left there

  pub exactly_plain_deep : Exactly plain_deep (by (at goes_args)) left (r.plain (x.deeper left).expr)
  exactly_plain_deep = exactly_plain ((sound left).expr there) (λ n l y b. let m : 1 ≤ n = (let p = some_left in omega arith) in deep_begins n m y b) deep_spelled

  pub exactly_maybe_expr : Exactly (λ n. maybe (e.deeper n).expr) (by (at goes_head)) left (r.maybe_expr left)
  unfolding same_class
  exactly_maybe_expr = exactly_maybe (at goes_head) h.heads_deep_expr (present_deep some_left (λ n. refl) ((sound left).expr there)) (sub goes_args goes_head refl) (sub starts_assign goes_head refl)

  pub exactly_first_expr : Exactly first_expr (by never) left (r.first_expr left)
  unfolding same_class
  exactly_first_expr = exactly_as start.Expr (exactly_behind (is k.Semicolon)
      (exactly_maybe (at goes_head) heads_plain_deep (present_deep some_left (λ n. refl) exactly_plain_deep) (sub goes_args goes_head refl) (sub starts_assign goes_head refl)) (apart goes_head (just k.Semicolon) refl))

  pub local_right : (ts : List Lexeme) → Right (λ n. present (local_start n)) (by never) left ts ((start.Local <$$> w.bare_local left) ts)
  local_right ts = there_present refl (λ n. refl) (right_of (exactly_as start.Local (exactly_bare_local left)) ts)

  pub first_right : (ts : List Lexeme) → Right (λ n. present (first_expr n)) (by never) left ts (r.first_expr left ts)
  first_right ts = there_present refl (λ n. refl) (right_of exactly_first_expr ts)

  pub plain_begun : (u : List Lexeme) (f : PlainFront u) → (first_expr left).begins f.run
  plain_begun u f = in_first (inr (some (expr_stays left some_left) (record { part = deep_begins left some_left f.run f.exprs; clear = f.clear })))

  pub start_by : (ts : List Lexeme) (b : Bool) → type_ahead ts ≡ b → Right (λ n. g.for_start n) (by never) left ts (if b then (start.Local <$$> w.bare_local left) ts else r.first_expr left ts)
  start_by ts true i = let f = type_front ts i in first_begun (local_right ts) f.run f.rest f.cut (covers_present (never_covers (by never) (never_first_expr ts f (type_first ts i)))) (some refl (in_first f.specs))
  start_by ts false i = let f = plain_front ts i in second_begun (first_right ts) f.run f.rest f.cut (covers_present (never_covers (by never) (never_local ts f))) (some refl (plain_begun ts f))

  pub exactly_for_start : Exactly (λ n. g.for_start n) (by never) left (r.for_start left)
  unfolding r.for_start
  exactly_for_start = record { at = λ ts. (start_by ts (type_ahead ts) refl).exact }

  -- ---- the two kinds of `for`

  pub exactly_steps : Exactly (λ n. g.for_steps n) (by (at goes_head)) left (r.for_steps left)
  unfolding r.for_steps same_class
  exactly_steps = exactly_both exactly_for_start
      (exactly_open (at goes_head) (exactly_behind (is k.Semicolon) exactly_maybe_expr (apart goes_head (just k.Semicolon) refl)) exactly_maybe_expr (opens_maybe h.heads_deep_expr) (never_apart (at starts_assign)) (never_sub (at goes_head)) (same_sub (at goes_head)))
      (heads_both (λ n. maybe (e.deeper n).expr) (heads_then_semicolon h.heads_deep_expr)) (never_apart (at starts_first))

  pub exactly_range : Exactly (λ n. g.for_range n) (by (at goes_args)) left (r.for_range left)
  unfolding r.for_range same_class
  exactly_range = exactly_both (exactly_range_name left) (exactly_before (is k.Colon) ((sound left).expr there)) (heads_before {G = λ n. (e.deeper n).expr} (is k.Colon)) (apart goes_name (just k.Colon) refl)

  abbrev steps_head : Family Lexeme ForHead
  steps_head n = steps_of <$> g.for_steps n

  abbrev range_head : Family Lexeme ForHead
  range_head n = range_of <$> g.for_range n

  pub steps_right : (ts : List Lexeme) → Right (λ n. present (steps_head n)) (by (at goes_head)) left ts ((steps_of <$$> r.for_steps left) ts)
  steps_right ts = there_present refl (λ n. refl) (right_of (exactly_as steps_of exactly_steps) ts)

  pub range_right : (ts : List Lexeme) → Right (λ n. present (range_head n)) (by (at goes_head)) left ts ((range_of <$$> r.for_range left) ts)
  unfolding same_class
  range_right ts = right_of (exactly_deep some_left (λ n. refl) (exactly_as range_of (exactly_widened (sub goes_args goes_head refl) exactly_range))) ts

  -- ---- no type comes next

  pub head_at_plain : (ts : List Lexeme) → type_ahead ts ≡ false → Right (λ n. g.for_head n) (by (at goes_head)) left ts ((steps_of <$$> r.for_steps left) ts)
  unfolding same_class
  head_at_plain ts i = let f = plain_front ts i in first_begun (steps_right ts) f.run f.rest f.cut
      (covers_present (never_covers (by (at goes_head)) (never_as range_of (never_both (λ n. is k.Colon ⊳ (e.deeper n).expr) (never_ended f.specs heads_declarator (apart ends_type starts_var refl))))))
      (some refl (in_first (inr (some refl (plain_begun ts f)))))

  -- ---- a type comes next

  abbrev pub NameExact : List Lexeme → Outcome Lexeme (Specs × (Ptrs × Ident)) → Type 0
  NameExact ts o = Exact range_name (by (at goes_name)) left ts o

  abbrev pub ends_name : Class → Bool
  ends_name c = goes_name c || just k.Colon c

  -- with a name and `:` behind it
  pub head_at_range : (ts rest : List Lexeme) (u : Specs × (Ptrs × Ident)) → type_ahead ts ≡ true → NameExact ts (done u rest) → sees (is k.Colon) rest ≡ true → Right (λ n. g.for_head n) (by (at goes_head)) left ts ((range_of <$$> r.for_range left) ts)
  unfolding same_class
  head_at_range ts rest u i z c =
      let f = type_front ts i in
      let within = z.core.ends left tt f.run f.rest f.cut (in_first f.specs) in
      let short = short_done range_name (at goes_name) (at not_going) left ts (sub goes_name not_going refl) u rest z (blocked_seen (at not_going) rest (seen_sub (sub (just k.Colon) not_going refl) rest c)) in
      second_begun (range_right ts) z.used rest z.core.cut
      (covers_present (never_covers (by (at goes_head)) (never_as steps_of (never_both (λ n. (maybe (e.deeper n).expr ⊲ is k.Semicolon) >> maybe (e.deeper n).expr)
      (never_two (never_as start.Local (never_as bare_local_of (never_measured span_of (never_declared short)))) (never_more within (never_first_expr ts f (type_first ts i))))))))
      (some (expr_stays left some_left) (in_first (z.core.begins left (omega arith) z.used [] (sym (append-nil z.used)))))

  abbrev pub not_colon : Class → Bool
  not_colon c = not (just k.Colon c)

  pub steps_begun : (y : List Lexeme) → (range_name left).begins y → (steps_head left).begins y
  steps_begun y b = in_first (inl (some refl (name_begins left y b)))

  -- with something else behind a name, or no name
  pub head_at_steps : (ts used rest : List Lexeme) → ts ≡ used ++ rest → (range_name left).begins used → Short range_name (at not_colon) ts used → Right (λ n. g.for_head n) (by (at goes_head)) left ts ((steps_of <$$> r.for_steps left) ts)
  unfolding same_class
  head_at_steps ts used rest cut b short = first_begun (steps_right ts) used rest cut
      (covers_present (never_covers (by (at goes_head)) (never_as range_of (never_ended short (heads_before {G = λ n. (e.deeper n).expr} (is k.Colon)) (apart not_colon (just k.Colon) refl)))))
      (some refl (steps_begun used b))

  pub not_colon_next : (rest : List Lexeme) → sees (is k.Colon) rest ≡ false → Blocked (at not_colon) rest
  not_colon_next rest c = blocked_unseen (is k.Colon) (at not_colon) rest c (λ t i. ap not i)

  pub by_colon : (ts rest : List Lexeme) (u : Specs × (Ptrs × Ident)) → type_ahead ts ≡ true → NameExact ts (done u rest) → (c : Bool) → sees (is k.Colon) rest ≡ c
      → Right (λ n. g.for_head n) (by (at goes_head)) left ts (if c then (range_of <$$> r.for_range left) ts else (steps_of <$$> r.for_steps left) ts)
  unfolding same_class
  by_colon ts rest u i z true c = head_at_range ts rest u i z c
  by_colon ts rest u i z false c = head_at_steps ts z.used rest z.core.cut (z.core.begins left (omega arith) z.used [] (sym (append-nil z.used)))
      (short_done range_name (at goes_name) (at not_colon) left ts (sub goes_name not_colon refl) u rest z (not_colon_next rest c))

  pub by_name : (ts : List Lexeme) → type_ahead ts ≡ true → (o : Outcome Lexeme (Specs × (Ptrs × Ident))) → NameExact ts o
      → Right (λ n. g.for_head n) (by (at goes_head)) left ts (if r.colon_behind o then (range_of <$$> r.for_range left) ts else (steps_of <$$> r.for_steps left) ts)
  unfolding same_class
  by_name ts i (done u rest) z = by_colon ts rest u i z (sees (is k.Colon) rest) refl
  by_name ts i (stop rule l) z = elim z.is [
    | inl e1 ↦ let P : Rule → Type 0 = λ q. NameExact ts (stop q l) in let y = subst P e1 z in head_at_steps ts y.used y.rest y.core.cut (y.core.begins left (omega arith) y.used [] (sym (append-nil y.used)))
        (short_stop range_name (at goes_name) (at not_colon) left ts (sub goes_name not_colon refl) l y)
    | inr e2 ↦ let P : Rule → Type 0 = λ q. NameExact ts (stop q l) in absurd (no_nesting (e.specs >> (e.ptrs >> e.id)) (by (at goes_name)) left ts l (subst P e2 z))
  ]

  pub head_by : (ts : List Lexeme) (b : Bool) → type_ahead ts ≡ b → Right (λ n. g.for_head n) (by (at goes_head)) left ts (if (b && r.colon_behind (r.range_name ts)) then (range_of <$$> r.for_range left) ts else (steps_of <$$> r.for_steps left) ts)
  head_by ts true i = by_name ts i (r.range_name ts) ((exactly_range_name left).at ts)
  head_by ts false i = head_at_plain ts i

  pub exactly_for_head : Exactly (λ n. g.for_head n) (by (at goes_head)) left (r.for_head left)
  unfolding r.for_head r.range_ahead
  exactly_for_head = record { at = λ ts. (head_by ts (type_ahead ts) refl).exact }
