-- What the names ahead tell: a qtype stands there, and an fname stays behind its last name; or a qtype stops no later than an fname.
use Rattle.std.proofs.Common.{◌≡◌, ℕ, zero, suc, ◌≤◌, Bool, true, false, not, ◌&&◌, if◌then◌else◌, List, [], ◌∷◌, length, Option, Some, None, refl, sym, ◌∙◌, ap, subst, arith, length-append}
use Rattle.cx_base.specs.declared.rule.Rule.TheVariants.{Syntax}
use Rattle.cx_grammar.specs.Language.{passing}
use Rattle.cx_grammar.specs.Exact.{Outcome, done, stop}
use Rattle.cx_grammar.specs.Reading.{Reader, made, refuse, sees, sees_two, token, token_by, many_from, many_when, last_name, taken, ◌>>=◌, ◌<$>◌}
use Rattle.cx_grammar.specs.Reads.{tail_of}
use Rattle.cx_grammar.proofs.Names.{on_name, turn_on}
use Rattle.cx_tree.specs.declared.names.Ident.{Ident}
use Rattle.cx_tree.specs.declared.names.TypeName.{TypeName}
use Rattle.cx_tree.specs.declared.exprs.ExprKind.{ExprKind}
use Rattle.cx_tree.specs.declared.names.Last.{Last}
use Rattle.cx_tree.specs.declared.names.Last.TheVariants as last
use Rattle.cx_syntax.specs.declared.class.Class.TheVariants as k
use Rattle.cx_syntax.specs.declared.lexeme.Lexeme.{Lexeme}
use Rattle.cx_syntax.specs.Classes.{is}
use Rattle.cx_syntax.specs.Ahead.{names_end, qtype_end}
use Rattle.cx_syntax.specs.Sets.{is_type, is_id, is_name, starts_last}
use Rattle.cx_syntax.specs.Values.{span_of, ident_of, type_name, name_of}
use Rattle.cx_syntax.specs.Readers as r
use Rattle.cx_syntax.proofs.Basics.{at, apart, sub, both_true, false_of}
use Rattle.cx_syntax.proofs.Beside.{reach, reach_within}
use Rattle.cx_syntax.proofs.Names.{exactly_last_part}

-- The first outcome is that of a type's name, the second that of a name that is no type's.
pub data Told {B C : Type 0} (ahead : Option (List Lexeme)) (a : Outcome Lexeme B) (b : Outcome Lexeme C) : Type 0 where
  is_type_name : (rest : List Lexeme) (v : B) → ahead ≡ Some rest → a ≡ done v rest → b ≡ stop Syntax (length rest) → Told ahead a b
  is_none : (left : ℕ) → ahead ≡ None → a ≡ stop Syntax left → reach b ≤ left → Told ahead a b

pub told_same : {B C : Type 0} {e e' : Option (List Lexeme)} {a a' : Outcome Lexeme B} {b b' : Outcome Lexeme C} → e ≡ e' → a ≡ a' → b ≡ b' → Told e' a' b' → Told e a b
told_same p q s (is_type_name rest v x y z) = is_type_name rest v (p ∙ x) (q ∙ y) (s ∙ z)
told_same p q s (is_none left x y z) = is_none left (p ∙ x) (q ∙ y) (let m : ℕ → Type 0 = λ n. n ≤ left in subst m (ap reach (sym s)) z)

-- what is made of both
pub told_lift : {B B' C C' : Type 0} {e : Option (List Lexeme)} {a : Outcome Lexeme B} {b : Outcome Lexeme C} (F : Outcome Lexeme B → Outcome Lexeme B') (G : Outcome Lexeme C → Outcome Lexeme C')
    → ((v : B) (rest : List Lexeme) → (w : B') × (F (done v rest) ≡ done w rest)) → ((left : ℕ) → F (stop Syntax left) ≡ stop Syntax left) → ((left : ℕ) → G (stop Syntax left) ≡ stop Syntax left) → ((o : Outcome Lexeme C) → reach (G o) ≡ reach o)
    → Told e a b → Told e (F a) (G b)
told_lift F G f f' g' h (is_type_name rest v x y z) = let w = f v rest in is_type_name rest w.0 x (ap F y ∙ w.1) (ap G z ∙ g' (length rest))
told_lift {b = b} F G f f' g' h (is_none left x y z) = is_none left x (ap F y ∙ f' left) (let m : ℕ → Type 0 = λ n. n ≤ left in subst m (sym (h b)) z)

-- ---- the last name

abbrev pub type_end : Bool → Bool → Lexeme → List Lexeme → Outcome Lexeme Ident
type_end b c t rest = if c && not b then refuse rest else token_by (if b then Some (ident_of t) else None) t rest

abbrev pub name_end : Bool → Bool → Lexeme → List Lexeme → Outcome Lexeme Last
name_end b c t rest = if c && not b then refuse rest else r.last_part (t ∷ rest)

pub reach_last : (t : Lexeme) (rest : List Lexeme) → reach (r.last_part (t ∷ rest)) ≤ length (t ∷ rest)
reach_last t rest = reach_within (λ n. _) _ 0 (t ∷ rest) (r.last_part (t ∷ rest)) ((exactly_last_part 0).at (t ∷ rest))

abbrev pub bare_end : Bool → List Lexeme → Option (List Lexeme)
bare_end b rest = if b then Some rest else None

-- an ID is read whole
pub id_read : (t : Lexeme) (rest : List Lexeme) → is_id t.class ≡ true → reach (r.last_part (t ∷ rest)) ≡ length rest
unfolding r.last_part
id_read t rest e = ap (λ b. reach (if b then made last.Ident (token_by (if b then Some (ident_of t) else None) t rest) else (last.Operator <$> r.operator_name) (t ∷ rest))) e

pub told_last : (t : Lexeme) (rest : List Lexeme) (b c : Bool) → is_type t.class ≡ b → is_name t.class ≡ c
    → Told (bare_end (is_type t.class) rest) (type_end (is_type t.class) (is_name t.class) t rest) (name_end (starts_last t.class) (is_name t.class) t rest)
told_last t rest true c p q =
    let named = sub is_type is_name refl t p in
    let not_last = false_of (starts_last t.class) (λ e. apart is_type starts_last refl t p e) in
    is_type_name rest (ident_of t) (ap (λ b. bare_end b rest) p)
    (ap (λ b. type_end b (is_name t.class) t rest) p ∙ ap (λ d. type_end true d t rest) named)
    (ap (λ b. name_end b (is_name t.class) t rest) not_last ∙ ap (λ d. name_end false d t rest) named)
told_last t rest false true p q =
    let ends = sub (λ d. is_name d && not (is_type d)) starts_last refl t (both_true (is_name t.class) (not (is_type t.class)) q (ap not p)) in
    let id = sub (λ d. is_name d && not (is_type d)) is_id refl t (both_true (is_name t.class) (not (is_type t.class)) q (ap not p)) in
    is_none (length rest) (ap (λ b. bare_end b rest) p)
    (ap (λ b. type_end b (is_name t.class) t rest) p ∙ ap (λ d. type_end false d t rest) q)
    (let e = ap (λ b. reach (name_end b (is_name t.class) t rest)) ends ∙ (ap (λ d. reach (name_end true d t rest)) q ∙ id_read t rest id) in omega arith)
told_last t rest false false p q =
    is_none (length (t ∷ rest)) (ap (λ b. bare_end b rest) p)
    (ap (λ b. type_end b (is_name t.class) t rest) p ∙ ap (λ d. type_end false d t rest) q)
    (let e = ap (λ d. reach (name_end (starts_last t.class) d t rest)) q in let m = reach_last t rest in omega arith)

abbrev pub two : List Lexeme → Bool
two ts = sees_two (at is_name) (is k.ColonColon) ts

abbrev pub type_behind : List Lexeme → Outcome Lexeme Ident
type_behind ts = last_name (at is_name) (at is_type) r.type_only ts

abbrev pub name_behind : List Lexeme → Outcome Lexeme Last
name_behind ts = last_name (at is_name) (at starts_last) r.last_part ts

pub no_name_end : reach (r.last_part []) ≡ 0
unfolding r.last_part
no_name_end = refl

-- no name with `::` behind it comes next
pub told_end : (ts : List Lexeme) → two ts ≡ false → Told (names_end ts) (type_behind ts) (name_behind ts)
told_end [] e = is_none 0 refl refl (let z = no_name_end in omega arith)
told_end (t ∷ []) e = told_last t [] (is_type t.class) (is_name t.class) refl refl
told_end (t ∷ u ∷ rest) e = told_same (ap (λ b. if b then names_end rest else bare_end (is_type t.class) (u ∷ rest)) e) refl refl (told_last t (u ∷ rest) (is_type t.class) (is_name t.class) refl refl)

-- ---- the names before it

abbrev pub scopes_then : {B : Type 0} → Reader Lexeme B → ℕ → List Lexeme → Outcome Lexeme (List Ident × B)
scopes_then after n ts = many_from two r.scope n ts >>= (λ vs rest. made (λ b. (vs, b)) (after rest))

pub scope_read : (t u : Lexeme) (rest : List Lexeme) → is_name t.class ≡ true → is k.ColonColon u ≡ true → r.scope (t ∷ u ∷ rest) ≡ done (ident_of t) rest
scope_read t u rest p q = ap (λ b. made (λ (v : Ident × Unit {0}). v.0) (token_by (if b then Some (ident_of t) else None) t (u ∷ rest) >>= (λ a more. made (λ w. (a, w)) (token (passing (is k.ColonColon)) more)))) p
    ∙ ap (λ c. made (λ (v : Ident × Unit {0}). v.0) (made (λ w. (ident_of t, w)) (token_by (if c then Some tt else None) u rest))) q

-- one name and `::`, and then what stands behind them
pub scope_step : {B : Type 0} (after : Reader Lexeme B) (n : ℕ) (t u : Lexeme) (rest : List Lexeme) → two (t ∷ u ∷ rest) ≡ true → is_name t.class ≡ true → is k.ColonColon u ≡ true
    → scopes_then after (suc n) (t ∷ u ∷ rest) ≡ made (on_name (ident_of t)) (scopes_then after n rest)
scope_step after n t u rest e p q =
    ap (λ b. (if b then r.scope (t ∷ u ∷ rest) >>= (λ v more. made (λ vs. v ∷ vs) (many_from two r.scope n more)) else done [] (t ∷ u ∷ rest)) >>= (λ vs more. made (λ b. (vs, b)) (after more))) e
    ∙ (turn_on two r.scope after n (r.scope (t ∷ u ∷ rest)) ∙ ap (λ o. o >>= (λ v more. made (on_name v) (scopes_then after n more))) (scope_read t u rest p q))

pub and_first : (b c : Bool) → (b && c) ≡ true → b ≡ true
and_first true c e = refl
and_first false c e = e

pub and_second : (b c : Bool) → (b && c) ≡ true → c ≡ true
and_second true c e = e
and_second false c e = cc

pub scopes_end : {B : Type 0} (after : Reader Lexeme B) (n : ℕ) (ts : List Lexeme) → two ts ≡ false → scopes_then after n ts ≡ made (λ b. ([], b)) (after ts)
scopes_end after zero ts e = refl
scopes_end after (suc n) ts e = ap (λ b. (if b then r.scope ts >>= (λ v more. made (λ vs. v ∷ vs) (many_from two r.scope n more)) else done [] ts) >>= (λ vs more. made (λ b. (vs, b)) (after more))) e

pub reach_made : {B C : Type 0} (f : B → C) (o : Outcome Lexeme B) → reach (made f o) ≡ reach o
reach_made f (done v rest) = refl
reach_made f (stop rule left) = refl

pub told_made : {B B' C C' : Type 0} {e : Option (List Lexeme)} {a : Outcome Lexeme B} {b : Outcome Lexeme C} (f : B → B') (g : C → C') → Told e a b → Told e (made f a) (made g b)
told_made f g t = told_lift (made f) (made g) (λ v rest. (f v, refl)) (λ left. refl) (λ left. refl) (reach_made g) t

pub no_second : (b : Bool) → (b && false) ≡ false
no_second true = refl
no_second false = refl

abbrev pub ToldAt : ℕ → List Lexeme → Type 0
ToldAt n ts = Told (names_end ts) (scopes_then type_behind n ts) (scopes_then name_behind n ts)

pub told_by : (n : ℕ) (t u : Lexeme) (rest : List Lexeme) → ((m : ℕ) → n ≡ suc m → ToldAt m rest) → (b : Bool) → two (t ∷ u ∷ rest) ≡ b → length (t ∷ u ∷ rest) ≤ n → ToldAt n (t ∷ u ∷ rest)
told_by n t u rest again false e fits = told_same refl (scopes_end type_behind n (t ∷ u ∷ rest) e) (scopes_end name_behind n (t ∷ u ∷ rest) e) (told_made (λ b. ([], b)) (λ b. ([], b)) (told_end (t ∷ u ∷ rest) e))
told_by zero t u rest again true e fits = let l = length-append (t ∷ []) (u ∷ rest) in absurd (omega arith)
told_by (suc m) t u rest again true e fits = let p = and_first (is_name t.class) (is k.ColonColon u) e in let q = and_second (is_name t.class) (is k.ColonColon u) e in
    told_same (ap (λ b. if b then names_end rest else bare_end (is_type t.class) (u ∷ rest)) e) (scope_step type_behind m t u rest e p q) (scope_step name_behind m t u rest e p q)
    (told_made (on_name (ident_of t)) (on_name (ident_of t)) (again m refl))

pub told_scopes : (n : ℕ) (ts : List Lexeme) → length ts ≤ n → Told (names_end ts) (scopes_then type_behind n ts) (scopes_then name_behind n ts)
told_scopes n [] fits = told_same refl (scopes_end type_behind n [] refl) (scopes_end name_behind n [] refl) (told_made (λ b. ([], b)) (λ b. ([], b)) (told_end [] refl))
told_scopes n (t ∷ []) fits = let e : two (t ∷ []) ≡ false = no_second (is_name t.class) in
    told_same refl (scopes_end type_behind n (t ∷ []) e) (scopes_end name_behind n (t ∷ []) e) (told_made (λ b. ([], b)) (λ b. ([], b)) (told_end (t ∷ []) e))
told_scopes n (t ∷ u ∷ rest) fits = told_by n t u rest (λ m e. told_scopes m rest (let l = length-append (t ∷ u ∷ []) rest in omega arith)) (two (t ∷ u ∷ rest)) refl fits

pub told_names : (ts : List Lexeme) → Told (names_end ts) (r.type_names ts) (r.fname_parts ts)
unfolding many_when
told_names ts = told_scopes (length ts) ts (omega arith)

-- ---- with `::` before them

abbrev pub qtype_made : List Lexeme → Option (Unit {0}) → Outcome Lexeme (List Ident × Ident) → Outcome Lexeme TypeName
qtype_made ts c o = made type_name (made (λ b. (c, b)) o >>= (λ v rest. done (v, span_of (taken ts rest)) rest))

abbrev pub name_made : List Lexeme → Option (Unit {0}) → Outcome Lexeme (List Ident × Last) → Outcome Lexeme ExprKind
name_made ts c o = made name_of (made (λ b. (c, b)) o >>= (λ v rest. done (v, span_of (taken ts rest)) rest))

abbrev pub colons_by : Bool → List Lexeme → Outcome Lexeme (Option (Unit {0}))
colons_by b ts = if b then made Some (r.colon ts) else done None ts

pub reach_name : (ts : List Lexeme) (c : Option (Unit {0})) (o : Outcome Lexeme (List Ident × Last)) → reach (name_made ts c o) ≡ reach o
reach_name ts c (done v rest) = refl
reach_name ts c (stop rule left) = refl

pub told_both : (ts more : List Lexeme) (c : Option (Unit {0})) → Told (names_end more) (qtype_made ts c (r.type_names more)) (name_made ts c (r.fname_parts more))
told_both ts more c = told_lift (qtype_made ts c) (name_made ts c) (λ v rest. (_, refl)) (λ left. refl) (λ left. refl) (reach_name ts c) (told_names more)

-- without `::`
pub qtype_plain : (ts : List Lexeme) → sees (is k.ColonColon) ts ≡ false → r.qtype ts ≡ qtype_made ts None (r.type_names ts)
unfolding r.qtype
qtype_plain ts e = ap (λ b. made type_name ((colons_by b ts >>= (λ c rest. made (λ v. (c, v)) (r.type_names rest))) >>= (λ v rest. done (v, span_of (taken ts rest)) rest))) e

pub name_plain : (d : r.Readers) (ts : List Lexeme) → sees (is k.ColonColon) ts ≡ false → r.id_expression d ts ≡ name_made ts None (r.fname_parts ts)
unfolding r.id_expression
name_plain d ts e = ap (λ b. made name_of ((colons_by b ts >>= (λ c rest. made (λ v. (c, v)) (r.fname_parts rest))) >>= (λ v rest. done (v, span_of (taken ts rest)) rest))) e

-- with it
pub qtype_global : (t : Lexeme) (rest : List Lexeme) → is k.ColonColon t ≡ true → r.qtype (t ∷ rest) ≡ qtype_made (t ∷ rest) (Some tt) (r.type_names rest)
unfolding r.qtype
qtype_global t rest e = ap (λ b. made type_name ((colons_by b (t ∷ rest) >>= (λ c more. made (λ v. (c, v)) (r.type_names more))) >>= (λ v more. done (v, span_of (taken (t ∷ rest) more)) more))) e
    ∙ ap (λ b. made type_name ((made Some (token_by (if b then Some tt else None) t rest) >>= (λ c more. made (λ v. (c, v)) (r.type_names more))) >>= (λ v more. done (v, span_of (taken (t ∷ rest) more)) more))) e

pub name_global : (d : r.Readers) (t : Lexeme) (rest : List Lexeme) → is k.ColonColon t ≡ true → r.id_expression d (t ∷ rest) ≡ name_made (t ∷ rest) (Some tt) (r.fname_parts rest)
unfolding r.id_expression
name_global d t rest e = ap (λ b. made name_of ((colons_by b (t ∷ rest) >>= (λ c more. made (λ v. (c, v)) (r.fname_parts more))) >>= (λ v more. done (v, span_of (taken (t ∷ rest) more)) more))) e
    ∙ ap (λ b. made name_of ((made Some (token_by (if b then Some tt else None) t rest) >>= (λ c more. made (λ v. (c, v)) (r.fname_parts more))) >>= (λ v more. done (v, span_of (taken (t ∷ rest) more)) more))) e

pub told_at : (d : r.Readers) (ts : List Lexeme) (b : Bool) → sees (is k.ColonColon) ts ≡ b → Told (qtype_end ts) (r.qtype ts) (r.id_expression d ts)
told_at d ts false e = told_same (ap (λ b. if b then names_end (tail_of ts) else names_end ts) e) (qtype_plain ts e) (name_plain d ts e) (told_both ts ts None)
told_at d [] true e = cc
told_at d (t ∷ rest) true e = told_same (ap (λ b. if b then names_end rest else names_end (t ∷ rest)) e) (qtype_global t rest e) (name_global d t rest e) (told_both (t ∷ rest) rest (Some tt))

pub told : (d : r.Readers) (ts : List Lexeme) → Told (qtype_end ts) (r.qtype ts) (r.id_expression d ts)
told d ts = told_at d ts (sees (is k.ColonColon) ts) refl
