-- The list of arguments of an initializer, which does not begin with a word or with a type's name that something is made of ([dcl.init]).
use Rattle.std.proofs.Common.{◌≡◌, ℕ, zero, suc, ◌≤◌, Bool, true, false, not, ◌&&◌, ◌||◌, if◌then◌else◌, List, [], ◌∷◌, ◌++◌, length, Option, Some, None, refl, sym, ◌∙◌, ap, subst, inl, inr, append_assoc, arith, length-append}
use Rattle.std.proofs.lemmas.List.{append-nil}
use Rattle.cx_base.specs.declared.rule.Rule.TheVariants.{Syntax}
use Rattle.cx_grammar.specs.Language.{in_first, some}
use Rattle.cx_grammar.specs.Exact.{Family, GoesOn, Within, shorter, Outcome, done, stop, Exact}
use Rattle.cx_grammar.specs.Reading.{guarded, separated_by, sees}
use Rattle.cx_grammar.specs.Reads.{tail_of}
use Rattle.cx_grammar.specs.Sets.{by}
use Rattle.cx_grammar.proofs.Lists.{cancel}
use Rattle.cx_grammar.proofs.Parts.{not_nesting}
use Rattle.cx_grammar.proofs.Heads.{heads_before, opens_many}
use Rattle.cx_grammar.proofs.Steps.{Exactly}
use Rattle.cx_grammar.proofs.Unless.{Stable, clear_front, beyond}
use Rattle.cx_grammar.proofs.Trailed.{goes_at}
use Rattle.cx_tree.specs.declared.exprs.Expr.{Expr}
use Rattle.cx_tree.specs.declared.names.TypeName.{TypeName}
use Rattle.cx_syntax.specs.declared.class.Class.TheVariants as k
use Rattle.cx_syntax.specs.declared.lexeme.Lexeme.{Lexeme}
use Rattle.cx_syntax.specs.Classes.{is, same_class}
use Rattle.cx_syntax.specs.Ahead.{names_end, qtype_end, type_ahead, ends_bare}
use Rattle.cx_syntax.specs.Sets.{is_type, is_name, is_word, begins_type, starts_given}
use Rattle.cx_syntax.specs.Goes.{goes_args}
use Rattle.cx_syntax.specs.Values.{span_of}
use Rattle.cx_syntax.specs.Grammar as g
use Rattle.cx_syntax.specs.Readers as r
use Rattle.cx_syntax.specs.Readers.{just}
use Rattle.cx_syntax.proofs.Basics.{at, apart, sub}
use Rattle.cx_syntax.proofs.Names.{goes_name, exactly_qtype}
use Rattle.cx_syntax.proofs.Ahead.{Told, is_type_name, is_none, told}
use Rattle.cx_syntax.proofs.Depth as h
use Rattle.cx_syntax.proofs.Lists.{args_there, deep}
use Rattle.cx_syntax.proofs.Exact.{sound}
use Rattle.cx_syntax.proofs.Fronts.{Short, Blocked, short_as, short_both, short_below}
use Rattle.cx_syntax.proofs.TypeOrExpr.{type_front, type_head, postfix_unary, unary_cast, cast_chain}
use Rattle.cx_syntax.proofs.Viable.{sample}
use Rattle.cx_syntax_vars.specs.Ahead.{left_of, is_some, type_made_at, begins_made}
use Rattle.cx_syntax_vars.specs.Grammar as l
use Rattle.cx_syntax_vars.specs.Readers as s
use Rattle.cx_syntax_vars.proofs.Tests.{and_no, and_rest}

-- ---- where names with a TYPE at their end stop

-- the names, and the token behind them
pub record NamesRun (ts : List Lexeme) (u : Lexeme) (rest : List Lexeme) : Type 0 where
  pub run : List Lexeme
  pub cut : ts ≡ run ++ u ∷ rest
  pub alone : names_end run ≡ Some []
  pub token : is k.ColonColon u ≡ false
  pub more : (c : Lexeme) (z : List Lexeme) → is k.ColonColon c ≡ false → names_end (run ++ c ∷ z) ≡ Some (c ∷ z)

abbrev pub bare : Bool → List Lexeme → Option (List Lexeme)
bare b rest = if b then Some rest else None

abbrev pub names_by : Bool → Bool → List Lexeme → List Lexeme → Option (List Lexeme)
names_by b c ts rest = if b then names_end ts else bare c rest

pub some_left : {v w : List Lexeme} → Some v ≡ Some w → v ≡ w
some_left e = cc

pub no_left : {w : List Lexeme} → None ≡ Some w → ⊥
no_left e = cc

-- the last name
last_run : (t v u : Lexeme) (ts rest : List Lexeme) → (is_name t.class && is k.ColonColon v) ≡ false → (c : Bool) → is_type t.class ≡ c → bare c (v ∷ ts) ≡ Some (u ∷ rest) → NamesRun (t ∷ v ∷ ts) u rest
last_run t v u ts rest e false f h = absurd (no_left h)
last_run t v u ts rest e true f h = let both : v ∷ ts ≡ u ∷ rest = some_left h in let heads : v ≡ u = cc in record {
  run = t ∷ [];
  cut = ap (λ l. t ∷ l) both;
  alone = ap (λ b. bare b []) f;
  token = subst (λ (z : Lexeme). is k.ColonColon z ≡ false) heads (and_rest (is_name t.class) (is k.ColonColon v) (sub is_type is_name refl t f) e);
  more = λ c z n. ap (λ b. names_by (is_name t.class && b) (is_type t.class) z (c ∷ z)) n ∙ (ap (λ b. names_by b (is_type t.class) z (c ∷ z)) (and_no (is_name t.class)) ∙ ap (λ b. bare b (c ∷ z)) f);
}

-- a name and `::` before the others
led_run : (t v u : Lexeme) (ts rest : List Lexeme) → (is_name t.class && is k.ColonColon v) ≡ true → NamesRun ts u rest → NamesRun (t ∷ v ∷ ts) u rest
led_run t v u ts rest e n = record {
  run = t ∷ v ∷ n.run;
  cut = ap (λ l. t ∷ v ∷ l) n.cut;
  alone = ap (λ b. names_by b (is_type t.class) n.run (v ∷ n.run)) e ∙ n.alone;
  token = n.token;
  more = λ c z i. ap (λ b. names_by b (is_type t.class) (n.run ++ c ∷ z) (v ∷ (n.run ++ c ∷ z))) e ∙ n.more c z i;
}

one_end : (t u : Lexeme) (rest : List Lexeme) (c : Bool) → bare c [] ≡ Some (u ∷ rest) → ⊥
one_end t u rest true e = let none : [] ≡ u ∷ rest = some_left e in cc
one_end t u rest false e = no_left e

run_by : (t v : Lexeme) (ts : List Lexeme) (u : Lexeme) (rest : List Lexeme) (b : Bool) → (is_name t.class && is k.ColonColon v) ≡ b → names_by b (is_type t.class) ts (v ∷ ts) ≡ Some (u ∷ rest) → (names_end ts ≡ Some (u ∷ rest) → NamesRun ts u rest) → NamesRun (t ∷ v ∷ ts) u rest
run_by t v ts u rest true e f again = led_run t v u ts rest e (again f)
run_by t v ts u rest false e f again = last_run t v u ts rest e (is_type t.class) refl f

names_run : (ts : List Lexeme) (u : Lexeme) (rest : List Lexeme) → names_end ts ≡ Some (u ∷ rest) → NamesRun ts u rest
names_run [] u rest e = absurd (no_left e)
names_run (t ∷ []) u rest e = absurd (one_end t u rest (is_type t.class) e)
names_run (t ∷ v ∷ ts) u rest e = run_by t v ts u rest (is_name t.class && is k.ColonColon v) refl e (λ f. names_run ts u rest f)

-- ---- the same for a qualified name

pub record TypeRun (ts : List Lexeme) (u : Lexeme) (rest : List Lexeme) : Type 0 where
  pub run : List Lexeme
  pub cut : ts ≡ run ++ u ∷ rest
  pub alone : qtype_end run ≡ Some []
  pub token : is k.ColonColon u ≡ false
  pub more : (c : Lexeme) (z : List Lexeme) → is k.ColonColon c ≡ false → qtype_end (run ++ c ∷ z) ≡ Some (c ∷ z)

abbrev pub ends_by : Bool → List Lexeme → Option (List Lexeme)
ends_by b ts = if b then names_end (tail_of ts) else names_end ts

plain_run : (ts : List Lexeme) (u : Lexeme) (rest : List Lexeme) → sees (is k.ColonColon) ts ≡ false → (n : NamesRun ts u rest) → TypeRun ts u rest
plain_run ts u rest e n = record {
  run = n.run;
  cut = n.cut;
  alone = ap (λ b. ends_by b n.run) (unseen n.run n.cut) ∙ n.alone;
  token = n.token;
  more = λ c z i. ap (λ b. ends_by b (n.run ++ c ∷ z)) (unseen_more n.run c z i n.cut) ∙ n.more c z i;
}
  where
    unseen : (run : List Lexeme) → ts ≡ run ++ u ∷ rest → sees (is k.ColonColon) run ≡ false
    unseen [] h = refl
    unseen (t ∷ run) h = sym (ap (sees (is k.ColonColon)) h) ∙ e

    unseen_more : (run : List Lexeme) (c : Lexeme) (z : List Lexeme) → is k.ColonColon c ≡ false → ts ≡ run ++ u ∷ rest → sees (is k.ColonColon) (run ++ c ∷ z) ≡ false
    unseen_more [] c z i h = i
    unseen_more (t ∷ run) c z i h = sym (ap (sees (is k.ColonColon)) h) ∙ e

global_run : (t : Lexeme) (ts : List Lexeme) (u : Lexeme) (rest : List Lexeme) → is k.ColonColon t ≡ true → NamesRun ts u rest → TypeRun (t ∷ ts) u rest
global_run t ts u rest e n = record {
  run = t ∷ n.run;
  cut = ap (λ l. t ∷ l) n.cut;
  alone = ap (λ b. ends_by b (t ∷ n.run)) e ∙ n.alone;
  token = n.token;
  more = λ c z i. ap (λ b. ends_by b (t ∷ (n.run ++ c ∷ z))) e ∙ n.more c z i;
}

type_run_by : (ts : List Lexeme) (u : Lexeme) (rest : List Lexeme) (b : Bool) → sees (is k.ColonColon) ts ≡ b → ends_by b ts ≡ Some (u ∷ rest) → TypeRun ts u rest
type_run_by ts u rest false e f = plain_run ts u rest e (names_run ts u rest f)
type_run_by [] u rest true e f = absurd (no_left f)
type_run_by (t ∷ ts) u rest true e f = global_run t ts u rest e (names_run ts u rest f)

pub type_run : (ts : List Lexeme) (u : Lexeme) (rest : List Lexeme) → qtype_end ts ≡ Some (u ∷ rest) → TypeRun ts u rest
type_run ts u rest e = type_run_by ts u rest (sees (is k.ColonColon) ts) refl e

-- ---- the test

-- which tokens pass it
pub data Made (ts : List Lexeme) : Type 0 where
  by_word : sees (at is_word) ts ≡ true → Made ts
  by_type : (u : Lexeme) (rest : List Lexeme) → sees (at is_word) ts ≡ false → qtype_end ts ≡ Some (u ∷ rest) → Made ts

abbrev pub made_by : Bool → List Lexeme → Option ℕ
made_by b ts = if b then Some (length ts) else left_of (qtype_end ts)

no_number : (n : ℕ) → None ≡ Some n → ⊥
no_number n e = cc

made_end : (ts : List Lexeme) (n : ℕ) (o : Option (List Lexeme)) → qtype_end ts ≡ o → sees (at is_word) ts ≡ false → left_of o ≡ Some n → Made ts
made_end ts n None e f i = absurd (no_number n i)
made_end ts n (Some []) e f i = absurd (no_number n i)
made_end ts n (Some (u ∷ rest)) e f i = by_type u rest f e

made_at : (ts : List Lexeme) (n : ℕ) (b : Bool) → sees (at is_word) ts ≡ b → made_by b ts ≡ Some n → Made ts
made_at ts n true e i = by_word e
made_at ts n false e i = made_end ts n (qtype_end ts) refl e i

pub made_of : (ts : List Lexeme) (n : ℕ) → type_made_at ts ≡ Some n → Made ts
made_of ts n e = made_at ts n (sees (at is_word) ts) refl e

word_passes : (ts : List Lexeme) → sees (at is_word) ts ≡ true → begins_made ts ≡ true
word_passes ts e = ap (λ b. is_some (made_by b ts)) e

type_passes : (ts : List Lexeme) (u : Lexeme) (rest : List Lexeme) (b : Bool) → sees (at is_word) ts ≡ b → qtype_end ts ≡ Some (u ∷ rest) → begins_made ts ≡ true
type_passes ts u rest true e f = word_passes ts e
type_passes ts u rest false e f = ap (λ b. is_some (made_by b ts)) e ∙ ap (λ o. is_some (left_of o)) f

pub made_passes : (ts : List Lexeme) → Made ts → begins_made ts ≡ true
made_passes ts (by_word e) = word_passes ts e
made_passes ts (by_type u rest e f) = type_passes ts u rest false e f

sees_more : (p : Lexeme → Bool) (x y : List Lexeme) → sees p x ≡ true → sees p (x ++ y) ≡ true
sees_more p [] y e = absurd (let f : false ≡ true = e in cc)
sees_more p (t ∷ x) y e = e

type_more : (x y rest : List Lexeme) (u : Lexeme) → TypeRun x u rest → qtype_end (x ++ y) ≡ Some (u ∷ (rest ++ y))
type_more x y rest u t = ap qtype_end (ap (λ l. l ++ y) t.cut ∙ append_assoc t.run (u ∷ rest) y) ∙ t.more u (rest ++ y) t.token

made_more : (x y : List Lexeme) → Made x → begins_made (x ++ y) ≡ true
made_more x y (by_word e) = word_passes (x ++ y) (sees_more (at is_word) x y e)
made_more x y (by_type u rest e f) = type_passes (x ++ y) u (rest ++ y) (sees (at is_word) (x ++ y)) refl (type_more x y rest u (type_run x u rest f))

passes_made : (ts : List Lexeme) (o : Option ℕ) → type_made_at ts ≡ o → is_some o ≡ true → Made ts
passes_made ts None e i = absurd (let f : false ≡ true = i in cc)
passes_made ts (Some n) e i = made_of ts n e

pub stable_made : Stable begins_made
stable_made = record { more = λ x y e. made_more x y (passes_made x (type_made_at x) refl e) }

-- ---- arguments that do not pass it

abbrev args : Family Lexeme (List Expr)
args n = g.args (g.deeper n)

clearly : (left : ℕ) (ts : List Lexeme) (o : Outcome Lexeme (List Expr)) → begins_made ts ≡ false → Exact args (by (at goes_args)) left ts o → Exact (λ n. l.init_args n) (by (at goes_args)) left ts o
clearly left ts (done v rest) c e = let clear = clear_front begins_made stable_made e.used rest ts e.core.cut c in record {
  used = e.used;
  spells = λ n p. record { part = e.spells n p; clear = clear };
  core = record {
    cut = e.core.cut;
    begins = λ n p x y f. record { part = e.core.begins n p x y f; clear = clear_front begins_made stable_made x y e.used f clear };
    only = λ n q x y w f z. e.core.only n q x y w f z.part;
    ends = λ n q x y f z. e.core.ends n q x y f z.part;
  };
}
clearly left ts (stop rule l) c e = let clear = clear_front begins_made stable_made e.used e.rest ts e.core.cut c in record {
  used = e.used;
  rest = e.rest;
  size = e.size;
  is = e.is;
  deep = λ i. let d = e.deep i in record {
    token = d.token;
    after = d.after;
    is = d.is;
    enough = d.enough;
    begins = λ n p. record { part = d.begins n p; clear = clear_front begins_made stable_made (e.used ++ d.token ∷ []) d.after ts (e.core.cut ∙ (ap (λ z. e.used ++ z) d.is ∙ sym (append_assoc e.used (d.token ∷ []) d.after))) c };
  };
  core = record {
    cut = e.core.cut;
    begins = λ n p x y f. record { part = e.core.begins n p x y f; clear = clear_front begins_made stable_made x y e.used f clear };
    only = λ n q x y w f z. e.core.only n q x y w f z.part;
    ends = λ n q x y f z. e.core.ends n q x y f z.part;
  };
}

-- ---- a word comes first

not_clear : (ts x y : List Lexeme) (t : Lexeme) → sees (at is_word) ts ≡ true → ts ≡ (t ∷ x) ++ y → begins_made (t ∷ x) ≡ false → ⊥
not_clear ts x y t w e c = let both : true ≡ false = sym (word_passes (t ∷ x) (sym (ap (sees (at is_word)) e) ∙ w)) ∙ c in cc

word_only : (ts : List Lexeme) → sees (at is_word) ts ≡ true → (n : ℕ) (x y : List Lexeme) (w : List Expr) → ts ≡ x ++ y → (l.init_args n).spells x w → ⊥
word_only ts w n [] y v e s = h.heads_args.full n v s.part
word_only ts w n (t ∷ x) y v e s = not_clear ts x y t w e s.clear

word_ends : (ts : List Lexeme) → sees (at is_word) ts ≡ true → (n : ℕ) (x y : List Lexeme) → ts ≡ x ++ y → (l.init_args n).begins x → Within [] x
word_ends ts w n [] y e b = ([], refl)
word_ends ts w n (t ∷ x) y e b = absurd (not_clear ts x y t w e b.clear)

word_refused : (left : ℕ) (ts : List Lexeme) → sees (at is_word) ts ≡ true → Exact (λ n. l.init_args n) (by (at goes_args)) left ts (stop Syntax (length ts))
word_refused left ts w = record {
  used = [];
  rest = ts;
  size = refl;
  is = inl refl;
  deep = λ i. absurd (not_nesting i);
  core = record {
    cut = refl;
    begins = λ n p x y e. let P : List Lexeme → Type 0 = λ z. (l.init_args n).begins z in subst P (none_front x y e) (record { part = h.heads_args.blank n; clear = refl });
    only = λ n q x y v e s. absurd (word_only ts w n x y v e s);
    ends = λ n q x y e b. word_ends ts w n x y e b;
  };
}
  where
    none_front : (x y : List Lexeme) → [] ≡ x ++ y → [] ≡ x
    none_front [] y e = refl
    none_front (t ∷ x) y e = cc

-- ---- a type comes first, and a token behind it

-- what an expression spells, an assignment spells as one
pub short_assign : {q : Lexeme → Bool} {u run : List Lexeme} → Short (λ n. g.expr (g.deeper n)) q u run → Short (λ n. g.assign (g.deeper n)) q u run
short_assign {u = u} s = record {
  only = λ n x y w e z. s.only n x y w e (record { value = ((w, []), span_of x); made = refl; part = record { part = record { front = x; back = []; cut = sym (append-nil x); first = z; second = refl }; measure = refl } });
  ends = λ n x y e b. s.ends n x y e (in_first b);
}

pub short_args : {u run : List Lexeme} → Short (λ n. g.expr (g.deeper n)) (at goes_name) u run → Short args (at goes_name) u run
unfolding same_class
short_args s = let assign = short_below h.below_assign (short_assign s) in
    short_as _ (short_both assign (opens_many (heads_before {G = λ n. (g.deeper n).assign} (is k.Comma))) (apart goes_name (just k.Comma) refl))

type_assign : (n : ℕ) (x : List Lexeme) → g.qtype.begins x → (g.assign (g.deeper n)).begins x
type_assign zero x b = inr (some refl (in_first (cast_chain 0 10 x (unary_cast 0 x (postfix_unary 0 x (in_first (type_head 0 x (in_first b))))))))
type_assign (suc n) x b = inr (some refl (in_first (cast_chain (suc n) 10 x (unary_cast (suc n) x (postfix_unary (suc n) x (in_first (type_head (suc n) x (in_first b))))))))

type_args : (n : ℕ) (x : List Lexeme) → 1 ≤ n → g.qtype.begins x → (args n).begins x
type_args zero x p b = absurd (omega arith)
type_args (suc n) x p b = in_first (type_assign n x b)

module _ (ts : List Lexeme) (u : Lexeme) (rest : List Lexeme) (no_word : sees (at is_word) ts ≡ false) (run : TypeRun ts u rest) (front : (x y : List Lexeme) → run.run ≡ x ++ y → g.qtype.begins x) where
  -- the run with a `;` behind it is the front of no expression
  abbrev ended : List Lexeme
  ended = run.run ++ sample k.Semicolon ∷ []

  run_word : sees (at is_word) run.run ≡ false
  run_word = by_run run.run run.cut
    where
      by_run : (x : List Lexeme) → ts ≡ x ++ u ∷ rest → sees (at is_word) x ≡ false
      by_run [] e = refl
      by_run (t ∷ x) e = sym (ap (sees (at is_word)) e) ∙ no_word

  ended_word : sees (at is_word) ended ≡ false
  ended_word = by_run run.run run_word
    where
      by_run : (x : List Lexeme) → sees (at is_word) x ≡ false → sees (at is_word) (x ++ sample k.Semicolon ∷ []) ≡ false
      by_run [] e = refl
      by_run (t ∷ x) e = e

  type_by : (b c : Bool) → c ≡ false → ends_bare (qtype_end ended) ≡ true → (b || (if c then not (sees (at starts_given) (tail_of ended)) else ends_bare (qtype_end ended))) ≡ true
  type_by true c e f = refl
  type_by false c e f = ap (λ d. if d then not (sees (at starts_given) (tail_of ended)) else ends_bare (qtype_end ended)) e ∙ f

  ended_type : type_ahead ended ≡ true
  unfolding same_class
  ended_type = type_by (sees (at begins_type) ended) (sees (at is_word) ended) ended_word (ap ends_bare (run.more (sample k.Semicolon) [] refl))

  ended_args : Short args (at goes_name) ended (type_front ended ended_type).run
  ended_args = short_args (type_front ended ended_type).expr

  run_clear : begins_made run.run ≡ false
  run_clear = ap (λ b. is_some (made_by b run.run)) run_word ∙ ap (λ o. is_some (left_of o)) run.alone

  run_passes : begins_made (run.run ++ u ∷ []) ≡ true
  run_passes = type_passes (run.run ++ u ∷ []) u [] (sees (at is_word) (run.run ++ u ∷ [])) refl (run.more u [] run.token)

  goes_by : (x d y : List Lexeme) (w : List Expr) → ts ≡ x ++ y → run.run ≡ x ++ d → Blocked (at goes_name) (d ++ sample k.Semicolon ∷ []) → GoesOn (by (at goes_args)) w y
  unfolding same_class
  goes_by x [] y w e c b = absurd (let f : false ≡ true = b (sample k.Semicolon) [] refl in cc)
  goes_by x (t ∷ d) y w e c b = goes_at (at goes_args) w y t (d ++ u ∷ rest) (cancel x y (t ∷ (d ++ u ∷ rest)) (sym e ∙ (run.cut ∙ (ap (λ z. z ++ u ∷ rest) c ∙ append_assoc x (t ∷ d) (u ∷ rest)))))
      (sub goes_name goes_args refl t (b t (d ++ sample k.Semicolon ∷ []) refl))

  type_only : (n : ℕ) (x y : List Lexeme) (w : List Expr) → ts ≡ x ++ y → (l.init_args n).spells x w → Within run.run x × GoesOn (by (at goes_args)) w y
  type_only n x y w e s = let near = beyond begins_made stable_made run.run u rest x y (sym run.cut ∙ e) run_passes s.clear in
      (near, goes_by x near.0 y w e near.1 (ended_args.only n x (near.0 ++ sample k.Semicolon ∷ []) w (ap (λ z. z ++ sample k.Semicolon ∷ []) near.1 ∙ append_assoc x near.0 (sample k.Semicolon ∷ [])) s.part).1)

  type_refused : (left : ℕ) → 1 ≤ left → Exact (λ n. l.init_args n) (by (at goes_args)) left ts (stop Syntax (length (u ∷ rest)))
  type_refused left p = record {
    used = run.run;
    rest = u ∷ rest;
    size = refl;
    is = inl refl;
    deep = λ i. absurd (not_nesting i);
    core = record {
      cut = run.cut;
      begins = λ n q x y e. let some_left : 1 ≤ n = omega arith in record { part = type_args n x some_left (front x y e); clear = clear_front begins_made stable_made x y run.run e run_clear };
      only = λ n q x y w e s. let c = type_only n x y w e s in shorter c.0 c.1;
      ends = λ n q x y e b. beyond begins_made stable_made run.run u rest x y (sym run.cut ∙ e) run_passes b.clear;
    };
  }

-- ---- by the test

abbrev Args : Type 0
Args = List Expr

same_front : (x y z : List Lexeme) → x ++ z ≡ y ++ z → x ≡ y
same_front [] [] z e = refl
same_front [] (t ∷ y) z e = let l : length z ≡ length ((t ∷ y) ++ z) = ap length e in let m = length-append (t ∷ y) z in let m2 = length-append (t ∷ []) y in absurd (omega arith)
same_front (t ∷ x) [] z e = let l : length ((t ∷ x) ++ z) ≡ length z = ap length e in let m = length-append (t ∷ x) z in let m2 = length-append (t ∷ []) x in absurd (omega arith)
same_front (t ∷ x) (u ∷ y) z e = let tails : x ++ z ≡ y ++ z = cc in let heads : t ≡ u = cc in let same_tails = same_front x y z tails in cc

module _ (left : ℕ) (there : (r.deeper left).room ≡ true) where
  args_exact : (ts : List Lexeme) → Exact args (by (at goes_args)) left ts (r.args (r.deeper left) ts)
  unfolding r.args
  args_exact ts = let P : Bool → Type 0 = λ b. Exact args (by (at goes_args)) left ts (guarded b (separated_by (is k.Comma) (r.deeper left).assign) ts) in
      subst P (sym there) ((args_there left (sound left) there).at ts)

  abbrev Right : List Lexeme → Outcome Lexeme Args → Type 0
  Right ts o = Exact (λ n. l.init_args n) (by (at goes_args)) left ts o

  -- where qtype_end says so, a type was read
  at_type : (ts : List Lexeme) (u : Lexeme) (rest : List Lexeme) → sees (at is_word) ts ≡ false → Told (qtype_end ts) (r.qtype ts) (r.id_expression (r.deeper 0) ts) → qtype_end ts ≡ Some (u ∷ rest) → Right ts (stop Syntax (length (u ∷ rest)))
  at_type ts u rest w (is_none a e f z) i = absurd (no_left (sym e ∙ i))
  at_type ts u rest w (is_type_name more v e f z) i =
      let run = type_run ts u rest i in
      let same_rest : more ≡ u ∷ rest = some_left (sym e ∙ i) in
      let P : Outcome Lexeme TypeName → Type 0 = λ o. Exact (λ n. g.qtype) (by (at goes_name)) 0 ts o in
      let x = subst P f ((exactly_qtype 0).at ts) in
      let same_run : x.used ≡ run.run = same_front x.used run.run (u ∷ rest) (sym (x.core.cut ∙ ap (λ z. x.used ++ z) same_rest) ∙ run.cut) in
      type_refused ts u rest w run (λ a b c. x.core.begins 0 (omega arith) a b (same_run ∙ c)) left (deep left there)

  at_end : (ts : List Lexeme) (o : Option (List Lexeme)) → sees (at is_word) ts ≡ false → qtype_end ts ≡ o → Right ts (s.args_by left (left_of o) ts)
  at_end ts None w e = clearly left ts (r.args (r.deeper left) ts) (ap (λ b. is_some (made_by b ts)) w ∙ ap (λ o. is_some (left_of o)) e) (args_exact ts)
  at_end ts (Some []) w e = clearly left ts (r.args (r.deeper left) ts) (ap (λ b. is_some (made_by b ts)) w ∙ ap (λ o. is_some (left_of o)) e) (args_exact ts)
  at_end ts (Some (u ∷ rest)) w e = at_type ts u rest w (told (r.deeper 0) ts) e

  by_first : (ts : List Lexeme) (b : Bool) → sees (at is_word) ts ≡ b → Right ts (s.args_by left (made_by b ts) ts)
  by_first ts true e = word_refused left ts e
  by_first ts false e = at_end ts (qtype_end ts) e refl

  pub exactly_init_args : Exactly (λ n. l.init_args n) (by (at goes_args)) left (s.init_args left)
  unfolding s.init_args
  exactly_init_args = record { at = λ ts. by_first ts (sees (at is_word) ts) refl }
