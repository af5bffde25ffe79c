-- The reader of a variable is exact, and that of variables with commas between them ([dcl.decl]): `[` behind a name is an attribute's where another `[` follows, else a bound's.
use Rattle.std.proofs.Common.{◌≡◌, ℕ, Bool, true, false, ◌||◌, List, [], ◌∷◌, Option, refl, inl, inr}
use Rattle.cx_grammar.specs.Language.{maybe, upto, many, ◌>>◌, ◌⊳◌, ◌⊲◌, in_first, none_yet, some}
use Rattle.cx_grammar.specs.Exact.{Family}
use Rattle.cx_grammar.specs.Reading.{sees, sees_two, many_when}
use Rattle.cx_grammar.specs.Sets.{by}
use Rattle.cx_grammar.proofs.Heads.{Heads, Opens, heads_as, heads_both, heads_before, heads_the, heads_sub, heads_measured, opens_both, opens_maybe, opens_sub, never_apart, never_sub, same_sub}
use Rattle.cx_grammar.proofs.Steps.{Exactly, exactly_token, exactly_as, exactly_before, exactly_both, exactly_open, exactly_maybe, exactly_separated}
use Rattle.cx_grammar.proofs.Levels.{present_at, begun_by}
use Rattle.cx_grammar.proofs.Sides.{exactly_measured}
use Rattle.cx_tree.specs.declared.exprs.Bound.{Bound}
use Rattle.cx_tree.specs.declared.stmts.Init.{Init}
use Rattle.cx_syntax.specs.declared.class.Class.{Class}
use Rattle.cx_syntax.specs.declared.class.Class.TheVariants as k
use Rattle.cx_syntax.specs.declared.lexeme.Lexeme.{Lexeme}
use Rattle.cx_syntax.specs.Classes.{is, same_class}
use Rattle.cx_syntax.specs.Sets.{is_id, starts_unary}
use Rattle.cx_syntax.specs.Values.{span_of, ident_of, bound_of}
use Rattle.cx_syntax.specs.Grammar as g
use Rattle.cx_syntax.specs.Readers.{just}
use Rattle.cx_syntax.proofs.Basics.{at, apart, sub, heads_pick, heads_after, opens_upto}
use Rattle.cx_syntax.proofs.Specifiers.{goes_ptrs, starts_ptrs, exactly_ptrs, opens_ptrs}
use Rattle.cx_syntax.proofs.Depth.{heads_bound, heads_deep_cond}
use Rattle.cx_syntax.proofs.Lists.{exactly_bounds}
use Rattle.cx_syntax.proofs.Exact.{sound}
use Rattle.cx_syntax.proofs.Fronts.{Never, never_as, never_measured, never_elsewhere, never_led}
use Rattle.cx_syntax.proofs.TypeOrExpr.{unseen_by}
use Rattle.cx_levels.specs.Levels.{greatest}
use Rattle.cx_syntax_parts.specs.Grammar as parts
use Rattle.cx_syntax_parts.specs.Readers as parts_read
use Rattle.cx_syntax_parts.proofs.Soup.{heads_attribute, exactly_attribute, opens_attrs}
use Rattle.cx_syntax_vars.specs.Goes.{goes_var, goes_vars}
use Rattle.cx_syntax_vars.specs.Sets.{starts_init, starts_var}
use Rattle.cx_syntax_vars.specs.Values.{var_of}
use Rattle.cx_syntax_vars.specs.Grammar as l
use Rattle.cx_syntax_vars.specs.Readers as s
use Rattle.cx_syntax_vars.proofs.Tests.{and_rest, and_split}
use Rattle.cx_syntax_vars.proofs.Covering.{Blank, blank_maybe, blank_upto, blank_both, blank_covers}
use Rattle.cx_syntax_vars.proofs.ManyThen.{Next, Last, exactly_many_then, exactly_first_as}
use Rattle.cx_syntax_vars.proofs.Inits.{heads_init, exactly_init}
use Rattle.cx_syntax_vars.proofs.Typedefs.{ptrs_blank}

-- no attributes
pub blank_attrs : (n : ℕ) → (parts.attrs n).begins []
blank_attrs n = record { front = []; back = []; cut = refl; turns = []; whole = refl; next = none_yet refl }

-- ---- bounds and an initializer

abbrev pub bounds : Family Lexeme (List Bound)
bounds n = upto 16 (g.bound (g.deeper n))

-- what stands behind a variable's attributes
abbrev pub var_end : Family Lexeme (List Bound × Option Init)
var_end n = bounds n >> maybe (l.init n)

abbrev pub starts_end : Class → Bool
starts_end c = just k.OpenBracket c || starts_init c

pub opens_var_end : Opens var_end (at starts_end)
unfolding same_class
opens_var_end = opens_both (opens_sub (sub (just k.OpenBracket) starts_end refl) (opens_upto heads_bound 16)) (opens_sub (sub starts_init starts_end refl) (opens_maybe heads_init))

pub exactly_var_end : (left : ℕ) → Exactly var_end (by (at goes_var)) left (s.var_end left)
unfolding same_class
exactly_var_end left = exactly_open (at goes_var) (exactly_bounds left (sound left))
    (exactly_maybe (at goes_var) heads_init (present_at refl (λ n. refl) (exactly_init left)) (same_sub (at goes_var)) (sub starts_init goes_var refl))
    (opens_maybe heads_init) (apart (just k.OpenBracket) starts_init refl) (sub (just k.OpenBracket) goes_var refl) (same_sub (at goes_var))

-- ---- `[` behind a name

abbrev two_brackets : List Lexeme → Bool
two_brackets ts = sees_two (is k.OpenBracket) (is k.OpenBracket) ts

abbrev starts_in_bound : Class → Bool
starts_in_bound c = starts_unary c || just k.CloseBracket c

heads_in_bound : Heads (λ n. maybe (g.deeper n).cond ⊲ is k.CloseBracket) (at starts_in_bound)
unfolding same_class
heads_in_bound = heads_as _ (heads_after (opens_sub (sub starts_unary starts_in_bound refl) (opens_maybe heads_deep_cond)) (λ n. inl refl) (heads_sub (sub (just k.CloseBracket) starts_in_bound refl) (heads_the (is k.CloseBracket))))

module _ (t : Lexeme) (rest : List Lexeme) (opens_it : is k.OpenBracket t ≡ true) where
  -- with another behind it, it begins a bound and is no whole one
  never_bound : sees (is k.OpenBracket) rest ≡ true → Never (λ n. g.bound (g.deeper n)) (t ∷ rest) (t ∷ [])
  unfolding same_class
  never_bound e = never_as bound_of (never_measured span_of (never_led (is k.OpenBracket) t (never_elsewhere heads_in_bound rest (unseen_by (apart (just k.OpenBracket) starts_in_bound refl) rest e) [])))

  blank_end : sees (is k.OpenBracket) rest ≡ true → Blank var_end (t ∷ rest) (t ∷ [])
  unfolding same_class
  blank_end e = blank_both (blank_upto (never_bound e) 16) (blank_maybe (never_elsewhere heads_init (t ∷ rest) (unseen_by (apart (just k.OpenBracket) starts_init refl) (t ∷ rest) opens_it) (t ∷ [])))

  attribute_begun : (n : ℕ) → (parts.attribute n).begins (t ∷ [])
  attribute_begun n = begun_by (λ m. is k.OpenBracket ⊳ parts.several (parts.soup m) ⊲ is k.CloseBracket ⊲ is k.CloseBracket) (is k.OpenBracket) t opens_it n

  attribute_next : (left : ℕ) → sees (is k.OpenBracket) rest ≡ true → Next (λ n. parts.attribute n) var_end (at goes_var) left (t ∷ rest)
  unfolding same_class
  attribute_next left e = record { front = t ∷ []; rest = rest; cut = refl; begins = attribute_begun left; covers = blank_covers (at goes_var) (sub (just k.OpenBracket) goes_var refl t opens_it) (blank_end e) }

  -- without one it begins attributes, and is none
  never_attribute : sees (is k.OpenBracket) rest ≡ false → Never (λ n. parts.attribute n) (t ∷ rest) (t ∷ [])
  never_attribute e = never_led (is k.OpenBracket) t (never_elsewhere (heads_before {G = λ n. parts.several (parts.soup n) ⊲ is k.CloseBracket ⊲ is k.CloseBracket} (is k.OpenBracket)) rest e [])

  bound_begun : (n : ℕ) → (var_end n).begins (t ∷ [])
  bound_begun n = in_first (inl (in_first (some refl (begun_by (λ m. maybe (g.deeper m).cond ⊲ is k.CloseBracket) (is k.OpenBracket) t opens_it n))))

  bound_next : (left : ℕ) → sees (is k.OpenBracket) rest ≡ false → Last (λ n. parts.attribute n) var_end left (t ∷ rest)
  bound_next left e = record { front = t ∷ []; rest = rest; cut = refl; begins = bound_begun left; never = never_attribute e }

next_attribute : (left : ℕ) (ts : List Lexeme) → two_brackets ts ≡ true → Next (λ n. parts.attribute n) var_end (at goes_var) left ts
next_attribute left [] e = absurd (let f : false ≡ true = e in cc)
next_attribute left (t ∷ rest) e = let f = and_split (is k.OpenBracket t) (sees (is k.OpenBracket) rest) e in attribute_next t rest f.0 left f.1

none_next : (left : ℕ) (ts : List Lexeme) → sees (is k.OpenBracket) ts ≡ false → Last (λ n. parts.attribute n) var_end left ts
none_next left ts e = record { front = []; rest = ts; cut = refl; begins = in_first (inr refl); never = never_elsewhere heads_attribute ts e [] }

last_by : (left : ℕ) (t : Lexeme) (rest : List Lexeme) (b : Bool) → is k.OpenBracket t ≡ b → two_brackets (t ∷ rest) ≡ false → Last (λ n. parts.attribute n) var_end left (t ∷ rest)
last_by left t rest true i e = bound_next t rest i left (and_rest (is k.OpenBracket t) (sees (is k.OpenBracket) rest) i e)
last_by left t rest false i e = none_next left (t ∷ rest) i

last_attribute : (left : ℕ) (ts : List Lexeme) → two_brackets ts ≡ false → Last (λ n. parts.attribute n) var_end left ts
last_attribute left [] e = none_next left [] refl
last_attribute left (t ∷ rest) e = last_by left t rest (is k.OpenBracket t) refl e

-- attributes, and what stands behind them
pub exactly_var_attrs : (left : ℕ) → Exactly (λ n. parts.attrs n >> var_end n) (by (at goes_var)) left (s.var_attrs left)
unfolding s.name_attrs
exactly_var_attrs left = exactly_first_as (λ n. many (parts.attribute n)) var_end greatest (many_when two_brackets (parts_read.attribute left)) (s.var_end left) (exactly_many_then two_brackets refl heads_attribute (λ n. refl) (exactly_attribute left) (exactly_var_end left) (next_attribute left) (last_attribute left))

pub opens_var_attrs : Opens (λ n. parts.attrs n >> var_end n) (at starts_end)
unfolding same_class
opens_var_attrs = opens_both (opens_sub (sub (just k.OpenBracket) starts_end refl) opens_attrs) opens_var_end

-- ---- variables

pub heads_named_var : Heads (λ n. g.id >> parts.attrs n >> var_end n) (at is_id)
heads_named_var = heads_both (λ n. parts.attrs n >> var_end n) (heads_pick is_id ident_of)

pub exactly_named_var : (left : ℕ) → Exactly (λ n. g.id >> parts.attrs n >> var_end n) (by (at goes_var)) left (s.named_var left)
exactly_named_var left = exactly_open (at goes_var) exactly_token (exactly_var_attrs left) opens_var_attrs (never_apart (at starts_end)) (never_sub (at goes_var)) (same_sub (at goes_var))

pub exactly_var : (left : ℕ) → Exactly (λ n. l.var n) (by (at goes_var)) left (s.var left)
unfolding s.var same_class
exactly_var left = exactly_as var_of (exactly_measured span_of (exactly_both (exactly_ptrs left) (exactly_named_var left) heads_named_var (apart goes_ptrs is_id refl)))

pub heads_var : Heads (λ n. l.var n) (at starts_var)
unfolding same_class
heads_var = heads_as var_of (heads_measured span_of (heads_after (opens_sub (sub starts_ptrs starts_var refl) opens_ptrs) (λ n. ptrs_blank) (heads_sub (sub is_id starts_var refl) heads_named_var)))

pub exactly_vars : (left : ℕ) → Exactly (λ n. l.vars n) (by (at goes_vars)) left (s.vars left)
unfolding s.vars same_class
exactly_vars left = exactly_separated (at goes_vars) heads_var (is k.Comma) (exactly_var left) (present_at refl (λ n. refl) (exactly_before (is k.Comma) (exactly_var left)))
    (apart goes_var (just k.Comma) refl) (sub goes_var goes_vars refl) (sub (just k.Comma) goes_vars refl)

pub heads_vars : Heads (λ n. l.vars n) (at starts_var)
heads_vars = heads_as _ (heads_both _ heads_var)
