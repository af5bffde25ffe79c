-- An expression that does not begin with a type and `(` ([dcl.ambig.res]): what stands before the `(`, and the reader.
use Rattle.std.proofs.Common.{◌≡◌, ℕ, ◌≤◌, Bool, true, false, not, ◌&&◌, if◌then◌else◌, List, [], ◌∷◌, ◌++◌, length, Option, Some, None, refl, sym, ◌∙◌, ap, subst, append_assoc}
use Rattle.std.proofs.lemmas.List.{append-nil}
use Rattle.cx_grammar.specs.Exact.{Family, GoesOn, Within, Exact}
use Rattle.cx_grammar.specs.Reading.{Reader, sees}
use Rattle.cx_grammar.specs.Reads.{tail_of}
use Rattle.cx_grammar.specs.Sets.{by}
use Rattle.cx_grammar.proofs.Heads.{or_right}
use Rattle.cx_grammar.proofs.Lists.{cancel}
use Rattle.cx_grammar.proofs.Steps.{Exactly}
use Rattle.cx_grammar.proofs.Unless.{Stable, First}
use Rattle.cx_token_defs.specs.declared.TokenKind.TheVariants as kind
use Rattle.cx_tree.specs.declared.exprs.Expr.{Expr}
use Rattle.cx_syntax.specs.declared.class.Class.TheVariants as k
use Rattle.cx_syntax.specs.declared.lexeme.Lexeme.{Lexeme}
use Rattle.cx_syntax.specs.Ahead.{names_end, qtype_end, type_ahead, ends_bare}
use Rattle.cx_syntax.specs.Classes.{is, same_class}
use Rattle.cx_syntax.specs.Goes.{goes_name, goes_args}
use Rattle.cx_syntax.specs.Grammar as g
use Rattle.cx_syntax.specs.Readers as r
use Rattle.cx_syntax.specs.Readers.{just}
use Rattle.cx_syntax.specs.Sets.{is_type, is_name, is_word, begins_type, starts_name, starts_given}
use Rattle.cx_syntax.specs.Values.{no_mark, is_there}
use Rattle.cx_syntax.proofs.Basics.{at, apart, sub, false_of}
use Rattle.cx_syntax.proofs.Ahead.{Told, is_type_name, is_none, told}
use Rattle.cx_syntax.proofs.Exact.{exactly_expr}
use Rattle.cx_syntax.proofs.Fronts.{Blocked}
use Rattle.cx_syntax.proofs.Near.{same_used}
use Rattle.cx_syntax.proofs.TypeOrExpr.{ExprAt, type_front, unseen_by, word_read, expr_at_word, qtype_read, name_first, expr_at_type}
use Rattle.cx_syntax_stmts.specs.Ahead.{type_end, at_paren, call_at, begins_call}
use Rattle.cx_syntax_stmts.specs.Grammar as sg
use Rattle.cx_syntax_stmts.specs.Readers as sr
use Rattle.cx_syntax_stmts.proofs.Refused.{front_begins, clear_exact, refused_exact}

-- ---- where a type ends

-- no `::` comes next
abbrev pub NoColons : List Lexeme → Type 0
NoColons z = sees (is k.ColonColon) z ≡ false

-- The tokens of a type, of which there is one at least, are it whatever follows them but `::`.
pub record Cut (end : List Lexeme → Option (List Lexeme)) (ts rest : List Lexeme) : Type 0 where
  pub first : Lexeme
  pub more : List Lexeme
  pub cut : ts ≡ first ∷ more ++ rest
  pub again : (z : List Lexeme) → NoColons z → end (first ∷ more ++ z) ≡ Some z

abbrev pub last_end : Bool → List Lexeme → Option (List Lexeme)
last_end b rest = if b then Some rest else None

pub some_same : {A : Type 0} {a b : A} → Some a ≡ Some b → a ≡ b
some_same e = cc

pub no_some : {A : Type 0} {a : A} → None ≡ Some a → ⊥
no_some e = cc

pub not_second : (b c : Bool) → c ≡ false → (b && c) ≡ false
not_second true c e = e
not_second false c e = refl

-- the last name
pub lone_again : (t : Lexeme) (z : List Lexeme) → is_type t.class ≡ true → NoColons z → names_end (t ∷ z) ≡ Some z
lone_again t [] e c = ap (λ b. last_end b []) e
lone_again t (u ∷ z) e c = ap (λ b. if b then names_end z else last_end (is_type t.class) (u ∷ z)) (not_second (is_name t.class) (is k.ColonColon u) c) ∙ ap (λ b. last_end b (u ∷ z)) e

pub lone_cut : (t : Lexeme) (ts rest : List Lexeme) (b : Bool) → is_type t.class ≡ b → last_end b ts ≡ Some rest → Cut names_end (t ∷ ts) rest
lone_cut t ts rest true p e = record { first = t; more = []; cut = ap (λ l. t ∷ l) (some_same e); again = λ z c. lone_again t z p c }
lone_cut t ts rest false p e = absurd (no_some e)

-- a name and `::` before them
pub scope_cut : (t u : Lexeme) (ts rest : List Lexeme) → (is_name t.class && is k.ColonColon u) ≡ true → Cut names_end ts rest → Cut names_end (t ∷ u ∷ ts) rest
scope_cut t u ts rest p c = record {
  first = t;
  more = u ∷ c.first ∷ c.more;
  cut = ap (λ l. t ∷ u ∷ l) c.cut;
  again = λ z n. ap (λ b. if b then names_end (c.first ∷ c.more ++ z) else last_end (is_type t.class) (u ∷ c.first ∷ c.more ++ z)) p ∙ c.again z n;
}

pub scopes_cut : (t u : Lexeme) (ts rest : List Lexeme) → (names_end ts ≡ Some rest → Cut names_end ts rest) → (b : Bool) → (is_name t.class && is k.ColonColon u) ≡ b
    → (if b then names_end ts else last_end (is_type t.class) (u ∷ ts)) ≡ Some rest → Cut names_end (t ∷ u ∷ ts) rest
scopes_cut t u ts rest again true p e = scope_cut t u ts rest p (again e)
scopes_cut t u ts rest again false p e = lone_cut t (u ∷ ts) rest (is_type t.class) refl e

pub names_cut : (ts rest : List Lexeme) → names_end ts ≡ Some rest → Cut names_end ts rest
names_cut [] rest e = absurd (no_some e)
names_cut (t ∷ []) rest e = lone_cut t [] rest (is_type t.class) refl e
names_cut (t ∷ u ∷ ts) rest e = scopes_cut t u ts rest (names_cut ts rest) (is_name t.class && is k.ColonColon u) refl e

-- a qtype, with or without `::` before it
pub qtype_by : (ts rest : List Lexeme) (b : Bool) → sees (is k.ColonColon) ts ≡ b → (if b then names_end (tail_of ts) else names_end ts) ≡ Some rest → Cut qtype_end ts rest
qtype_by ts rest false p e = let c = names_cut ts rest e in record {
  first = c.first;
  more = c.more;
  cut = c.cut;
  again = λ z n. ap (λ b. if b then names_end (c.more ++ z) else names_end (c.first ∷ c.more ++ z)) (sym (ap (sees (is k.ColonColon)) c.cut) ∙ p) ∙ c.again z n;
}
qtype_by [] rest true p e = absurd (no_some e)
qtype_by (t ∷ ts) rest true p e = let c = names_cut ts rest e in record {
  first = t;
  more = c.first ∷ c.more;
  cut = ap (λ l. t ∷ l) c.cut;
  again = λ z n. ap (λ b. if b then names_end (c.first ∷ c.more ++ z) else names_end (t ∷ c.first ∷ c.more ++ z)) p ∙ c.again z n;
}

abbrev pub type_by : Bool → List Lexeme → Option (List Lexeme)
type_by b ts = if b then Some (tail_of ts) else qtype_end ts

pub type_cut_by : (ts rest : List Lexeme) (b : Bool) → sees (at is_word) ts ≡ b → type_by b ts ≡ Some rest → Cut type_end ts rest
unfolding type_end
type_cut_by [] rest true p e = absurd (let c : false ≡ true = p in cc)
type_cut_by (t ∷ ts) rest true p e = record { first = t; more = []; cut = ap (λ l. t ∷ l) (some_same e); again = λ z n. ap (λ b. type_by b (t ∷ z)) p }
type_cut_by ts rest false p e = let c = qtype_by ts rest (sees (is k.ColonColon) ts) refl e in record {
  first = c.first;
  more = c.more;
  cut = c.cut;
  again = λ z n. ap (λ b. type_by b (c.first ∷ c.more ++ z)) (sym (ap (sees (at is_word)) c.cut) ∙ p) ∙ c.again z n;
}

pub type_end_is : (ts : List Lexeme) (b : Bool) → sees (at is_word) ts ≡ b → type_end ts ≡ type_by b ts
unfolding type_end
type_end_is ts b e = ap (λ c. type_by c ts) e

-- the tokens of a type and what is left behind them
pub record TypeCut (ts rest : List Lexeme) : Type 0 where
  pub run : List Lexeme
  pub cut : ts ≡ run ++ rest
  pub again : (z : List Lexeme) → NoColons z → type_end (run ++ z) ≡ Some z

pub run_cut : (ts rest : List Lexeme) → Cut type_end ts rest → TypeCut ts rest
run_cut ts rest c = record { run = c.first ∷ c.more; cut = c.cut; again = c.again }

pub type_cut : (ts rest : List Lexeme) → type_end ts ≡ Some rest → TypeCut ts rest
unfolding type_end
type_cut ts rest e = run_cut ts rest (type_cut_by ts rest (sees (at is_word) ts) refl e)

-- ---- a type and `(`

-- The tokens begin with a type; so many are left from the `(` behind it on.
pub record Call (u : List Lexeme) (left : ℕ) : Type 0 where
  pub paren : Lexeme
  pub after : List Lexeme
  pub ends : type_end u ≡ Some (paren ∷ after)
  pub opens : is k.OpenParen paren ≡ true
  pub size : length (paren ∷ after) ≡ left

pub paren_by : (u rest : List Lexeme) (left : ℕ) → type_end u ≡ Some rest → (b : Bool) → sees (is k.OpenParen) rest ≡ b → (if b then Some (length rest) else None) ≡ Some left → Call u left
paren_by u [] left e true p s = absurd (let c : false ≡ true = p in cc)
paren_by u (t ∷ rest) left e true p s = record { paren = t; after = rest; ends = e; opens = p; size = some_same s }
paren_by u rest left e false p s = absurd (no_some s)

pub call_by : (u : List Lexeme) (left : ℕ) (o : Option (List Lexeme)) → type_end u ≡ o → at_paren o ≡ Some left → Call u left
call_by u left None e s = absurd (no_some s)
call_by u left (Some rest) e s = paren_by u rest left e (sees (is k.OpenParen) rest) refl s

pub call_of : (u : List Lexeme) (left : ℕ) → call_at u ≡ Some left → Call u left
call_of u left e = call_by u left (type_end u) refl e

pub there_some : {A : Type 0} (o : Option A) → is_there o ≡ true → (a : A) × (o ≡ Some a)
there_some (Some a) e = (a, refl)
there_some None e = absurd (let c : false ≡ true = e in cc)

pub no_colons : (t : Lexeme) (rest : List Lexeme) → is k.OpenParen t ≡ true → NoColons (t ∷ rest)
unfolding same_class
no_colons t rest e = false_of (is k.ColonColon t) (λ i. apart (just k.OpenParen) (just k.ColonColon) refl t e i)

-- what ends in a type and `(` begins with these
pub called : (ts rest : List Lexeme) (t : Lexeme) → type_end ts ≡ Some (t ∷ rest) → is k.OpenParen t ≡ true → begins_call ts ≡ true
called ts rest t e p = ap (λ o. is_there (at_paren o)) e ∙ ap (λ b. is_there (if b then Some (length (t ∷ rest)) else None)) p

-- more tokens do not change it
pub still_called : (x y run rest : List Lexeme) (t : Lexeme) → x ≡ run ++ t ∷ rest → ((z : List Lexeme) → NoColons z → type_end (run ++ z) ≡ Some z) → is k.OpenParen t ≡ true → begins_call (x ++ y) ≡ true
still_called x y run rest t e again p = ap (λ l. begins_call (l ++ y)) e
    ∙ (ap begins_call (append_assoc run (t ∷ rest) y) ∙ called (run ++ (t ∷ (rest ++ y))) (rest ++ y) t (again (t ∷ (rest ++ y)) (no_colons t (rest ++ y) p)) p)

pub still_by : (x y : List Lexeme) (left : ℕ) → Call x left → begins_call (x ++ y) ≡ true
still_by x y left f = let c = type_cut x (f.paren ∷ f.after) f.ends in still_called x y c.run f.after f.paren c.cut c.again f.opens

pub stable : Stable begins_call
stable = record { more = λ x y e. let found = there_some (call_at x) e in still_by x y found.0 (call_of x found.0 found.1) }

module _ (u : List Lexeme) (left : ℕ) (f : Call u left) where
  abbrev pub call_cut : TypeCut u (f.paren ∷ f.after)
  call_cut = type_cut u (f.paren ∷ f.after) f.ends

  -- the type
  abbrev pub run : List Lexeme
  run = call_cut.run

  pub run_clear : begins_call run ≡ false
  run_clear = ap begins_call (sym (append-nil run)) ∙ ap (λ o. is_there (at_paren o)) (call_cut.again [] refl)

  pub first_call : First begins_call u left
  first_call = record {
    before = run;
    token = f.paren;
    after = f.after;
    cut = call_cut.cut;
    size = f.size;
    clear = run_clear;
    passed = called (run ++ f.paren ∷ []) [] f.paren (call_cut.again (f.paren ∷ []) (no_colons f.paren [] f.opens)) f.opens;
  }

  pub given_next : sees (at starts_given) (f.paren ∷ f.after) ≡ true
  unfolding same_class
  given_next = sub (just k.OpenParen) starts_given refl f.paren f.opens

-- ---- the type begins an expr, and a typeid goes no further

abbrev pub RunAt : (u : List Lexeme) (left : ℕ) → Call u left → Type 0
RunAt u left f = ExprAt u (run u left f) (f.paren ∷ f.after)

pub word_run : (t : Lexeme) (ts : List Lexeme) (left : ℕ) (f : Call (t ∷ ts) left) → is_word t.class ≡ true → RunAt (t ∷ ts) left f
word_run t ts left f is_it =
    let tails : ts ≡ f.paren ∷ f.after = some_same (sym (type_end_is (t ∷ ts) true is_it) ∙ f.ends) in
    let there = expr_at_word t ts is_it (ap (sees (at starts_given)) tails ∙ given_next (t ∷ ts) left f) in
    let used = (word_read t ts is_it).used in
    let same_run = same_used used ts (run (t ∷ ts) left f) (f.paren ∷ f.after) (sym there.cut ∙ (call_cut (t ∷ ts) left f).cut) (ap length tails) in
    subst (λ (z : List Lexeme). ExprAt (t ∷ ts) z (f.paren ∷ f.after)) same_run.0 (subst (λ (z : List Lexeme). ExprAt (t ∷ ts) used z) tails there)

pub name_run : (u : List Lexeme) (left : ℕ) (f : Call u left) → qtype_end u ≡ Some (f.paren ∷ f.after) → Told (qtype_end u) (r.qtype u) (r.id_expression (r.deeper 0) u) → RunAt u left f
name_run u left f q (is_type_name rest v e a o) =
    let ends : rest ≡ f.paren ∷ f.after = some_same (sym e ∙ q) in
    let first = name_first u rest v a in
    let there = expr_at_type u rest v a (unseen_by (apart starts_name begins_type refl) u first) (ap (sees (at starts_given)) ends ∙ given_next u left f) in
    let used = (qtype_read u rest v a).used in
    let same_run = same_used used rest (run u left f) (f.paren ∷ f.after) (sym there.cut ∙ (call_cut u left f).cut) (ap length ends) in
    subst (λ (z : List Lexeme). ExprAt u z (f.paren ∷ f.after)) same_run.0 (subst (λ (z : List Lexeme). ExprAt u used z) ends there)
name_run u left f q (is_none l e a p) = absurd (no_some (sym e ∙ q))

pub run_by : (u : List Lexeme) (left : ℕ) (f : Call u left) (b : Bool) → sees (at is_word) u ≡ b → RunAt u left f
run_by [] left f true p = absurd (let c : false ≡ true = p in cc)
run_by (t ∷ ts) left f true p = word_run t ts left f p
run_by u left f false p = name_run u left f (sym (type_end_is u false p) ∙ f.ends) (told (r.deeper 0) u)

pub run_at : (u : List Lexeme) (left : ℕ) (f : Call u left) → RunAt u left f
run_at u left f = run_by u left f (sees (at is_word) u) refl

-- ---- what is spelled within the type has `::` behind it

-- any token that neither `::` nor what a type makes an object from begins with
abbrev pub semicolon : Lexeme
semicolon = record { class = k.Semicolon; kind = kind.Punct; span = record { start = no_mark; end = no_mark }; text = [] }

pub bare_by : (ts rest : List Lexeme) (b : Bool) → sees (at is_word) ts ≡ b → type_by b ts ≡ Some rest → sees (at starts_given) rest ≡ false
    → (if b then not (sees (at starts_given) (tail_of ts)) else ends_bare (qtype_end ts)) ≡ true
bare_by ts rest true p e n = ap (λ (l : List Lexeme). not (sees (at starts_given) l)) (some_same e) ∙ ap not n
bare_by ts rest false p e n = ap ends_bare e ∙ ap not n

abbrev pub bare_behind : Bool → List Lexeme → Bool
bare_behind b ts = if b then not (sees (at starts_given) (tail_of ts)) else ends_bare (qtype_end ts)

pub bare_ahead : (ts rest : List Lexeme) → type_end ts ≡ Some rest → sees (at starts_given) rest ≡ false → type_ahead ts ≡ true
bare_ahead ts rest e n = or_right (sees (at begins_type) ts) (bare_by ts rest (sees (at is_word) ts) refl (sym (type_end_is ts (sees (at is_word) ts) refl) ∙ e) n)

pub seen_blocked : (d : List Lexeme) → Blocked (at goes_name) (d ++ semicolon ∷ []) → sees (at goes_name) (d ++ semicolon ∷ []) ≡ true
seen_blocked [] b = b semicolon [] refl
seen_blocked (t ∷ d) b = b t (d ++ semicolon ∷ []) refl

module _ (u : List Lexeme) (left : ℕ) (f : Call u left) where
  pub within_goes : (d x : List Lexeme) → run u left f ≡ x ++ d → (n : ℕ) (w : Expr) → (g.expr (g.deeper n)).spells x w → sees (at goes_name) (d ++ semicolon ∷ []) ≡ true
  unfolding same_class
  within_goes d x e n w s =
      let front = type_front (run u left f ++ semicolon ∷ []) (bare_ahead (run u left f ++ semicolon ∷ []) (semicolon ∷ []) ((call_cut u left f).again (semicolon ∷ []) refl) refl) in
      let blocked = front.expr.only n x (d ++ semicolon ∷ []) w (ap (λ l. l ++ semicolon ∷ []) e ∙ append_assoc x d (semicolon ∷ [])) s in
      seen_blocked d blocked.1

  pub name_goes : (d y : List Lexeme) (w : Expr) → y ≡ d ++ f.paren ∷ f.after → sees (at goes_name) (d ++ semicolon ∷ []) ≡ true → GoesOn (by (at goes_args)) w y
  unfolding same_class
  name_goes [] y w e s = absurd (let c : false ≡ true = s in cc)
  name_goes (t ∷ d) [] w e s = cc
  name_goes (t ∷ d) (v ∷ y) w e s = let heads : v ≡ t = cc in subst (λ (z : Lexeme). at goes_args z ≡ true) (sym heads) (sub goes_name goes_args refl t s)

  pub call_goes : (n : ℕ) (x y : List Lexeme) (w : Expr) → u ≡ x ++ y → Within (run u left f) x → (g.expr (g.deeper n)).spells x w → GoesOn (by (at goes_args)) w y
  call_goes n x y w e within s =
      let d = within.0 in
      let rest : x ++ y ≡ x ++ (d ++ f.paren ∷ f.after) = sym e ∙ ((call_cut u left f).cut ∙ (ap (λ l. l ++ f.paren ∷ f.after) within.1 ∙ append_assoc x d (f.paren ∷ f.after))) in
      name_goes d y w (cancel x y (d ++ f.paren ∷ f.after) rest) (within_goes d x within.1 n w s)

  pub call_begins : (n : ℕ) (x y : List Lexeme) → run u left f ≡ x ++ y → (g.expr (g.deeper n)).begins x
  call_begins n x y e = front_begins (λ n. g.expr (g.deeper n)) (by (at goes_args)) (exactly_expr 0) (run u left f) x y e ((run_at u left f).exprs 0) n

-- ---- the reader

-- At the `(` behind a type the reader of an expression that is not to begin so is exact.
module _ {G : Family Lexeme Expr} {left : ℕ} {read : Reader Lexeme Expr} (g_read : Exactly G (by (at goes_args)) left read)
    (begins : (n : ℕ) → left ≤ n → (x : List Lexeme) → ((m : ℕ) → (g.expr (g.deeper m)).begins x) → (G n).begins x)
    (spelled : (n : ℕ) (x : List Lexeme) (w : Expr) → (G n).spells x w → (m : ℕ) × (g.expr (g.deeper m)).spells x w) where
  pub plain_at : (ts : List Lexeme) (o : Option ℕ) → call_at ts ≡ o → Exact (λ n. sg.plain (G n)) (by (at goes_args)) left ts (sr.plain_by o read ts)
  unfolding first_call type_cut
  plain_at ts None e = clear_exact begins_call stable G (by (at goes_args)) left ts (read ts) (ap is_there e) (g_read.at ts)
  plain_at ts (Some l) e = let f = call_of ts l e in refused_exact begins_call stable G (by (at goes_args)) left ts l (first_call ts l f)
      (λ n p x y c. begins n p x (λ m. call_begins ts l f m x y c))
      (λ n x y w c within s. let z = spelled n x w s in call_goes ts l f z.0 x y w c within z.1)

  pub exactly_plain : Exactly (λ n. sg.plain (G n)) (by (at goes_args)) left (sr.plain read)
  exactly_plain = record { at = λ ts. plain_at ts (call_at ts) refl }
