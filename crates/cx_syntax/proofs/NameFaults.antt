-- Where names stand and an expression may not: the fault behind the names that a type begins with too.
use Rattle.std.proofs.Common.{◌≡◌, ℕ, zero, suc, ◌≤◌, Bool, true, false, not, ◌&&◌, if◌then◌else◌, List, [], ◌∷◌, ◌++◌, length, Option, Some, None, refl, sym, ◌∙◌, ap, arith, length-append}
use Rattle.cx_base.specs.declared.rule.Rule.TheVariants.{Syntax}
use Rattle.cx_grammar.specs.Exact.{Outcome, done, stop}
use Rattle.cx_grammar.specs.Reading.{made, taken, refuse, sees, token_by, many_when, ◌>>=◌, ◌<$>◌}
use Rattle.cx_grammar.specs.Reads.{tail_of}
use Rattle.cx_grammar.proofs.Heads.{Sub}
use Rattle.cx_grammar.proofs.Names.{on_name}
use Rattle.cx_tree.specs.declared.names.Ident.{Ident}
use Rattle.cx_tree.specs.declared.names.TypeName.{TypeName}
use Rattle.cx_tree.specs.declared.names.Last.{Last}
use Rattle.cx_tree.specs.declared.names.Last.TheVariants as last
use Rattle.cx_tree.specs.declared.operators.Overloaded.{Overloaded}
use Rattle.cx_tree.specs.declared.exprs.ExprKind.{ExprKind}
use Rattle.cx_grammar.specs.Sets.{by, never}
use Rattle.cx_syntax.specs.Grammar as g
use Rattle.cx_syntax.specs.declared.class.Class.{Class}
use Rattle.cx_syntax.specs.declared.class.Class.TheVariants as k
use Rattle.cx_syntax.specs.declared.lexeme.Lexeme.{Lexeme}
use Rattle.cx_syntax.specs.Classes.{is, same_class}
use Rattle.cx_syntax.specs.Ahead.{names_end, qtype_end, name_fault, fault_at, type_fault}
use Rattle.cx_syntax.specs.Sets.{is_type, is_id, is_name, is_word, is_operator_word, starts_name, starts_last, starts_given, starts_assign, follows_name}
use Rattle.cx_syntax.specs.Values.{ident_of, operator_named, span_of, Operand}
use Rattle.cx_syntax.specs.Readers as r
use Rattle.cx_syntax.proofs.Basics.{at, apart, sub, both_true, false_of}
use Rattle.cx_syntax.proofs.Names.{exactly_op}
use Rattle.cx_syntax.proofs.Beside.{reach, reach_within}
use Rattle.cx_syntax.proofs.Ahead.{two, bare_end, type_behind, name_behind, scopes_then, scope_step, scopes_end, reach_made, and_first, and_second, no_second, qtype_made, name_made, reach_name, qtype_plain, name_plain, qtype_global, name_global}

abbrev pub fault : Bool → (Class → Bool) → List Lexeme → Outcome Lexeme Operand
fault behind goes ts = name_fault behind goes ts

-- What the names say of the two readings, and where the fault is.
pub data Faulted (goes : Class → Bool) (ts : List Lexeme) (ahead : Option (List Lexeme)) (a : Outcome Lexeme (List Ident × Ident)) (b : Outcome Lexeme (List Ident × Last)) (o : Outcome Lexeme Operand) : Type 0 where
  at_type : (rest : List Lexeme) (v : List Ident × Ident) → ahead ≡ Some rest → a ≡ done v rest → o ≡ fault_at starts_given rest → Faulted goes ts ahead a b o
  at_id : (rest : List Lexeme) (w : List Ident × Last) → a ≡ stop Syntax (length rest) → b ≡ done w rest → o ≡ fault_at follows_name rest → Faulted goes ts ahead a b o
  at_scope : (front rest : List Lexeme) → ts ≡ front ++ rest → sees (at is_name) ts ≡ true → a ≡ stop Syntax (length rest) → o ≡ fault_at is_operator_word rest
      → (sees (at is_operator_word) rest ≡ false → b ≡ stop Syntax (length rest)) → ((f : Lexeme) (after : List Lexeme) → rest ≡ f ∷ after → at is_operator_word f ≡ true → reach b ≤ length after) → Faulted goes ts ahead a b o
  at_start : sees (at is_name) ts ≡ false → a ≡ stop Syntax (length ts) → o ≡ fault_at goes ts
      → (sees (at is_operator_word) ts ≡ false → b ≡ stop Syntax (length ts)) → ((f : Lexeme) (after : List Lexeme) → ts ≡ f ∷ after → at is_operator_word f ≡ true → reach b ≤ length after) → Faulted goes ts ahead a b o

-- ---- the last name

-- an operator's token is passed
pub reach_operator : (ts : List Lexeme) (o : Outcome Lexeme Overloaded) → reach (made last.Operator (made operator_named (made (λ (pair : Unit {0} × Overloaded). pair.1) (made (λ v. (tt, v)) o) >>= (λ v more. done (v, span_of (taken ts more)) more)))) ≡ reach o
reach_operator ts (done v rest) = refl
reach_operator ts (stop rule left) = refl

pub operator_read : (t : Lexeme) (rest : List Lexeme) → at is_operator_word t ≡ true → reach (r.last_part (t ∷ rest)) ≤ length rest
unfolding r.last_part same_class
operator_read t rest e =
    let not_id = false_of (is_id t.class) (λ i. apart is_operator_word is_id refl t e i) in
    let word = sub is_operator_word (λ c. r.just k.Operator c) refl t e in
    let whole : reach (r.last_part (t ∷ rest)) ≡ reach (r.op rest) =
    ap (λ b. reach (if b then made last.Ident (r.id (t ∷ rest)) else (last.Operator <$> r.operator_name) (t ∷ rest))) not_id
    ∙ (ap (λ b. reach (made last.Operator (made operator_named (made (λ (pair : Unit {0} × Overloaded). pair.1) (token_by (if b then Some tt else None) t rest >>= (λ u more. made (λ v. (u, v)) (r.op more))) >>= (λ v more. done (v, span_of (taken (t ∷ rest) more)) more))))) word
    ∙ reach_operator (t ∷ rest) (r.op rest)) in
    let w = reach_within (λ n. g.op) (by never) 0 rest (r.op rest) ((exactly_op 0).at rest) in omega arith

-- what is neither a name nor an operator is the fault
pub other_read : (t : Lexeme) (rest : List Lexeme) → is_name t.class ≡ false → at is_operator_word t ≡ false → r.last_part (t ∷ rest) ≡ stop Syntax (length (t ∷ rest))
unfolding r.last_part same_class
other_read t rest e f =
    let not_id = false_of (is_id t.class) (λ i. let n = sub is_id is_name refl t i in let both : true ≡ false = sym n ∙ e in cc) in
    let not_word = false_of (r.just k.Operator t.class) (λ i. let n = sub (λ c. r.just k.Operator c) is_operator_word refl t i in let both : true ≡ false = sym n ∙ f in cc) in
    ap (λ b. if b then made last.Ident (r.id (t ∷ rest)) else (last.Operator <$> r.operator_name) (t ∷ rest)) not_id
    ∙ ap (λ b. made last.Operator (made operator_named (made (λ (pair : Unit {0} × Overloaded). pair.1) (token_by (if b then Some tt else None) t rest >>= (λ u more. made (λ v. (u, v)) (r.op more))) >>= (λ v more. done (v, span_of (taken (t ∷ rest) more)) more)))) not_word

-- ---- no name with `::` behind it comes next

abbrev pub goes_behind : Bool → Class → Bool
goes_behind b = if b then starts_given else follows_name

pub fault_behind : (goes : Class → Bool) (rest : List Lexeme) → sees (is k.ColonColon) rest ≡ false → fault true goes rest ≡ fault_at goes rest
fault_behind goes [] e = refl
fault_behind goes (u ∷ rest) e = ap (λ b. if b then fault false is_operator_word rest else fault_at goes (u ∷ rest)) e

abbrev pub type_end : Bool → Bool → Lexeme → List Lexeme → Outcome Lexeme Ident
type_end b c t rest = if c && not b then refuse rest else token_by (if b then Some (ident_of t) else None) t rest

abbrev pub name_end : Bool → Bool → Lexeme → List Lexeme → Outcome Lexeme Last
name_end b c t rest = if c && not b then refuse rest else r.last_part (t ∷ rest)

pub id_done : (t : Lexeme) (rest : List Lexeme) → is_id t.class ≡ true → r.last_part (t ∷ rest) ≡ done (last.Ident (ident_of t)) rest
unfolding r.last_part
id_done t rest e = ap (λ b. if b then made last.Ident (token_by (if b then Some (ident_of t) else None) t rest) else (last.Operator <$> r.operator_name) (t ∷ rest)) e

-- what is made of the last name
abbrev pub no_scope : {B : Type 0} → B → List Ident × B
no_scope b = ([], b)

pub end_by : (goes : Class → Bool) (t : Lexeme) (rest : List Lexeme) (b c : Bool) → is_type t.class ≡ b → is_name t.class ≡ c → (is_name t.class ≡ true → sees (is k.ColonColon) rest ≡ false)
    → Faulted goes (t ∷ rest) (bare_end (is_type t.class) rest) (made no_scope (type_end (is_type t.class) (is_name t.class) t rest)) (made no_scope (name_end (starts_last t.class) (is_name t.class) t rest)) (fault false goes (t ∷ rest))
end_by goes t rest true c p q colons =
    let named = sub is_type is_name refl t p in
    at_type rest ([], ident_of t) (ap (λ b. bare_end b rest) p)
    (ap (λ b. made no_scope (type_end b (is_name t.class) t rest)) p ∙ ap (λ d. made no_scope (type_end true d t rest)) named)
    (ap (λ d. if d then fault true (goes_behind (is_type t.class)) rest else fault_at goes (t ∷ rest)) named ∙ (ap (λ b. fault true (goes_behind b) rest) p ∙ fault_behind starts_given rest (colons named)))
end_by goes t rest false true p q colons =
    let ends = sub (λ d. is_name d && not (is_type d)) starts_last refl t (both_true (is_name t.class) (not (is_type t.class)) q (ap not p)) in
    let id = sub (λ d. is_name d && not (is_type d)) is_id refl t (both_true (is_name t.class) (not (is_type t.class)) q (ap not p)) in
    at_id rest ([], last.Ident (ident_of t))
    (ap (λ b. made no_scope (type_end b (is_name t.class) t rest)) p ∙ ap (λ d. made no_scope (type_end false d t rest)) q)
    (ap (λ b. made no_scope (name_end b (is_name t.class) t rest)) ends ∙ (ap (λ d. made no_scope (name_end true d t rest)) q ∙ ap (made no_scope) (id_done t rest id)))
    (ap (λ d. if d then fault true (goes_behind (is_type t.class)) rest else fault_at goes (t ∷ rest)) q ∙ (ap (λ b. fault true (goes_behind b) rest) p ∙ fault_behind follows_name rest (colons q)))
end_by goes t rest false false p q colons =
    let read = ap (λ d. made no_scope (name_end (starts_last t.class) d t rest)) q in
    at_start q
    (ap (λ b. made no_scope (type_end b (is_name t.class) t rest)) p ∙ ap (λ d. made no_scope (type_end false d t rest)) q)
    (ap (λ d. if d then fault true (goes_behind (is_type t.class)) rest else fault_at goes (t ∷ rest)) q)
    (λ e. read ∙ ap (made no_scope) (other_read t rest q e))
    (λ f after c e. let tails : rest ≡ after = cc in let heads : t ≡ f = cc in
    let w = operator_read t rest (ap (at is_operator_word) heads ∙ e) in let m = reach_made {B = Last} no_scope (r.last_part (t ∷ rest)) in let x = ap reach read in let l = ap length tails in omega arith)

-- ---- names with `::` before it

abbrev pub FaultedAt : (Class → Bool) → ℕ → List Lexeme → Type 0
FaultedAt goes n ts = Faulted goes ts (names_end ts) (scopes_then type_behind n ts) (scopes_then name_behind n ts) (fault false goes ts)

pub faulted_same : {goes : Class → Bool} {ts : List Lexeme} {e e' : Option (List Lexeme)} {a a' : Outcome Lexeme (List Ident × Ident)} {b b' : Outcome Lexeme (List Ident × Last)} {o o' : Outcome Lexeme Operand}
    → e ≡ e' → a ≡ a' → b ≡ b' → o ≡ o' → Faulted goes ts e' a' b' o' → Faulted goes ts e a b o
faulted_same p q s z (at_type rest v x y w) = at_type rest v (p ∙ x) (q ∙ y) (z ∙ w)
faulted_same p q s z (at_id rest w y x v) = at_id rest w (q ∙ y) (s ∙ x) (z ∙ v)
faulted_same p q s z (at_scope front rest c n y w x v) = at_scope front rest c n (q ∙ y) (z ∙ w) (λ i. s ∙ x i) (λ f after i j. let m = v f after i j in let l = ap reach s in omega arith)
faulted_same p q s z (at_start n y w x v) = at_start n (q ∙ y) (z ∙ w) (λ i. s ∙ x i) (λ f after i j. let m = v f after i j in let l = ap reach s in omega arith)

pub no_colons : (c : Lexeme → Bool) (t : Lexeme) (rest : List Lexeme) → two (t ∷ rest) ≡ false → is_name t.class ≡ true → sees (is k.ColonColon) rest ≡ false
no_colons c t rest e n = false_of (sees (is k.ColonColon) rest) (λ i. let both : true ≡ false = sym (both_true (is_name t.class) (sees (is k.ColonColon) rest) n i) ∙ e in cc)

pub faulted_end : (goes : Class → Bool) (n : ℕ) (t : Lexeme) (rest : List Lexeme) → two (t ∷ rest) ≡ false → names_end (t ∷ rest) ≡ bare_end (is_type t.class) rest → FaultedAt goes n (t ∷ rest)
faulted_end goes n t rest e names = faulted_same names (scopes_end type_behind n (t ∷ rest) e) (scopes_end name_behind n (t ∷ rest) e) refl
    (end_by goes t rest (is_type t.class) (is_name t.class) refl refl (no_colons (at is_name) t rest e))

-- one name and `::` more
pub faulted_more : (goes : Class → Bool) (m : ℕ) (t u : Lexeme) (rest : List Lexeme) → is_name t.class ≡ true → FaultedAt is_operator_word m rest
    → Faulted goes (t ∷ u ∷ rest) (names_end rest) (made (on_name (ident_of t)) (scopes_then type_behind m rest)) (made (on_name (ident_of t)) (scopes_then name_behind m rest)) (fault false is_operator_word rest)
faulted_more goes m t u rest name (at_type more v x y w) = at_type more (on_name (ident_of t) v) x (ap (made (on_name (ident_of t))) y) w
faulted_more goes m t u rest name (at_id more w y x v) = at_id more (on_name (ident_of t) w) (ap (made (on_name (ident_of t))) y) (ap (made (on_name (ident_of t))) x) v
faulted_more goes m t u rest name (at_scope front more c n y w x v) = at_scope (t ∷ u ∷ front) more (ap (λ l. t ∷ u ∷ l) c) name (ap (made (on_name (ident_of t))) y) w
    (λ i. ap (made (on_name (ident_of t))) (x i)) (λ f after i j. let z = v f after i j in let l = reach_made (on_name (ident_of t)) (scopes_then name_behind m rest) in omega arith)
faulted_more goes m t u rest name (at_start n y w x v) = at_scope (t ∷ u ∷ []) rest refl name (ap (made (on_name (ident_of t))) y) w
    (λ i. ap (made (on_name (ident_of t))) (x i)) (λ f after i j. let z = v f after i j in let l = reach_made (on_name (ident_of t)) (scopes_then name_behind m rest) in omega arith)

pub faulted_by : (goes : Class → Bool) (n : ℕ) (t u : Lexeme) (rest : List Lexeme) → ((m : ℕ) → n ≡ suc m → FaultedAt is_operator_word m rest) → (b : Bool) → two (t ∷ u ∷ rest) ≡ b → length (t ∷ u ∷ rest) ≤ n → FaultedAt goes n (t ∷ u ∷ rest)
faulted_by goes n t u rest again false e fits = faulted_end goes n t (u ∷ rest) e (ap (λ b. if b then names_end rest else bare_end (is_type t.class) (u ∷ rest)) e)
faulted_by goes zero t u rest again true e fits = let l = length-append (t ∷ []) (u ∷ rest) in absurd (omega arith)
faulted_by goes (suc m) t u rest again true e fits = let p = and_first (is_name t.class) (is k.ColonColon u) e in let q = and_second (is_name t.class) (is k.ColonColon u) e in
    faulted_same (ap (λ b. if b then names_end rest else bare_end (is_type t.class) (u ∷ rest)) e) (scope_step type_behind m t u rest e p q) (scope_step name_behind m t u rest e p q)
    (ap (λ b. if b then fault true (goes_behind (is_type t.class)) (u ∷ rest) else fault_at goes (t ∷ u ∷ rest)) p
    ∙ ap (λ b. if b then fault false is_operator_word rest else fault_at (goes_behind (is_type t.class)) (u ∷ rest)) q)
    (faulted_more goes m t u rest p (again m refl))

pub no_last : r.last_part [] ≡ stop Syntax 0
unfolding r.last_part
no_last = refl

pub nothing_next : (f : Lexeme) (after : List Lexeme) → [] ≡ f ∷ after → ⊥
nothing_next f after e = cc

pub faulted_names : (goes : Class → Bool) (n : ℕ) (ts : List Lexeme) → length ts ≤ n → FaultedAt goes n ts
faulted_names goes n [] fits = at_start refl (scopes_end type_behind n [] refl) refl (λ e. scopes_end name_behind n [] refl ∙ ap (made no_scope) no_last) (λ f after c e. absurd (nothing_next f after c))
faulted_names goes n (t ∷ []) fits = faulted_end goes n t [] (no_second (is_name t.class)) refl
faulted_names goes n (t ∷ u ∷ rest) fits = faulted_by goes n t u rest (λ m e. faulted_names is_operator_word m rest (let l = length-append (t ∷ u ∷ []) rest in omega arith)) (two (t ∷ u ∷ rest)) refl fits

pub faulted : (goes : Class → Bool) (ts : List Lexeme) → Faulted goes ts (names_end ts) (r.type_names ts) (r.fname_parts ts) (fault false goes ts)
unfolding many_when
faulted goes ts = faulted_names goes (length ts) ts (omega arith)

pub seen_sub : {p q : Lexeme → Bool} → Sub p q → (ts : List Lexeme) → sees p ts ≡ true → sees q ts ≡ true
seen_sub k [] e = e
seen_sub k (t ∷ ts) e = k t e

pub colon_first : (t : Lexeme) → is k.ColonColon t ≡ true → at starts_name t ≡ true
unfolding same_class
colon_first t e = sub (λ c. r.just k.ColonColon c) starts_name refl t e

-- ---- with `::` before them

-- The two readings of the tokens, and where the fault is.
pub data NameFault (u : List Lexeme) : Type 0 where
  behind_type : (rest : List Lexeme) (v : TypeName) → qtype_end u ≡ Some rest → r.qtype u ≡ done v rest → type_fault {A = Operand} u ≡ fault_at starts_given rest → NameFault u
  behind_id : (rest : List Lexeme) (w : ExprKind) → r.qtype u ≡ stop Syntax (length rest) → r.id_expression (r.deeper 0) u ≡ done w rest → type_fault {A = Operand} u ≡ fault_at follows_name rest → NameFault u
  behind_scope : (front rest : List Lexeme) → u ≡ front ++ rest → sees (at starts_name) u ≡ true → r.qtype u ≡ stop Syntax (length rest) → type_fault {A = Operand} u ≡ fault_at is_operator_word rest
      → (sees (at is_operator_word) rest ≡ false → r.id_expression (r.deeper 0) u ≡ stop Syntax (length rest))
      → ((f : Lexeme) (after : List Lexeme) → rest ≡ f ∷ after → at is_operator_word f ≡ true → reach (r.id_expression (r.deeper 0) u) ≤ length after) → NameFault u
  at_first : r.qtype u ≡ stop Syntax (length u) → type_fault {A = Operand} u ≡ fault_at starts_assign u → NameFault u

abbrev pub word_fault : Bool → Bool → List Lexeme → Outcome Lexeme Operand
word_fault b c u = if b then fault_at starts_given (tail_of u) else (if c then fault false is_operator_word (tail_of u) else fault false starts_assign u)

pub plain_fault : (u : List Lexeme) → sees (at is_word) u ≡ false → sees (is k.ColonColon) u ≡ false → type_fault {A = Operand} u ≡ fault false starts_assign u
plain_fault u e f = ap (λ b. word_fault b (sees (is k.ColonColon) u) u) e ∙ ap (λ c. word_fault false c u) f

pub plain_name : (u : List Lexeme) → sees (at is_word) u ≡ false → sees (is k.ColonColon) u ≡ false → Faulted starts_assign u (names_end u) (r.type_names u) (r.fname_parts u) (fault false starts_assign u) → NameFault u
plain_name u e f (at_type rest v n a o) = behind_type rest _ (ap (λ b. if b then names_end (tail_of u) else names_end u) f ∙ n) (qtype_plain u f ∙ ap (qtype_made u None) a) (plain_fault u e f ∙ o)
plain_name u e f (at_id rest w a b o) = behind_id rest _ (qtype_plain u f ∙ ap (qtype_made u None) a) (name_plain (r.deeper 0) u f ∙ ap (name_made u None) b) (plain_fault u e f ∙ o)
plain_name u e f (at_scope front rest c n a o s g) = behind_scope front rest c (seen_sub (sub is_name starts_name refl) u n) (qtype_plain u f ∙ ap (qtype_made u None) a) (plain_fault u e f ∙ o)
    (λ i. name_plain (r.deeper 0) u f ∙ ap (name_made u None) (s i)) (λ z after i j. let m = g z after i j in let l = ap reach (name_plain (r.deeper 0) u f) ∙ reach_name u None (r.fname_parts u) in omega arith)
plain_name u e f (at_start n a o s g) = at_first (qtype_plain u f ∙ ap (qtype_made u None) a) (plain_fault u e f ∙ o)

pub global_fault : (t : Lexeme) (rest : List Lexeme) → at is_word t ≡ false → is k.ColonColon t ≡ true → type_fault {A = Operand} (t ∷ rest) ≡ fault false is_operator_word rest
global_fault t rest e f = ap (λ b. word_fault b (is k.ColonColon t) (t ∷ rest)) e ∙ ap (λ c. word_fault false c (t ∷ rest)) f

pub global_name : (t : Lexeme) (ts : List Lexeme) → at is_word t ≡ false → is k.ColonColon t ≡ true → Faulted is_operator_word ts (names_end ts) (r.type_names ts) (r.fname_parts ts) (fault false is_operator_word ts) → NameFault (t ∷ ts)
global_name t ts e f (at_type rest v n a o) = behind_type rest _ (ap (λ b. if b then names_end ts else names_end (t ∷ ts)) f ∙ n) (qtype_global t ts f ∙ ap (qtype_made (t ∷ ts) (Some tt)) a) (global_fault t ts e f ∙ o)
global_name t ts e f (at_id rest w a b o) = behind_id rest _ (qtype_global t ts f ∙ ap (qtype_made (t ∷ ts) (Some tt)) a) (name_global (r.deeper 0) t ts f ∙ ap (name_made (t ∷ ts) (Some tt)) b) (global_fault t ts e f ∙ o)
global_name t ts e f (at_scope front rest c n a o s g) = behind_scope (t ∷ front) rest (ap (λ l. t ∷ l) c) (colon_first t f) (qtype_global t ts f ∙ ap (qtype_made (t ∷ ts) (Some tt)) a) (global_fault t ts e f ∙ o)
    (λ i. name_global (r.deeper 0) t ts f ∙ ap (name_made (t ∷ ts) (Some tt)) (s i)) (λ z after i j. let m = g z after i j in let l = ap reach (name_global (r.deeper 0) t ts f) ∙ reach_name (t ∷ ts) (Some tt) (r.fname_parts ts) in omega arith)
global_name t ts e f (at_start n a o s g) = behind_scope (t ∷ []) ts refl (colon_first t f) (qtype_global t ts f ∙ ap (qtype_made (t ∷ ts) (Some tt)) a) (global_fault t ts e f ∙ o)
    (λ i. name_global (r.deeper 0) t ts f ∙ ap (name_made (t ∷ ts) (Some tt)) (s i)) (λ z after i j. let m = g z after i j in let l = ap reach (name_global (r.deeper 0) t ts f) ∙ reach_name (t ∷ ts) (Some tt) (r.fname_parts ts) in omega arith)

pub name_fault_at : (u : List Lexeme) → sees (at is_word) u ≡ false → (b : Bool) → sees (is k.ColonColon) u ≡ b → NameFault u
name_fault_at u e false f = plain_name u e f (faulted starts_assign u)
name_fault_at [] e true f = absurd (let c : false ≡ true = f in cc)
name_fault_at (t ∷ ts) e true f = global_name t ts e f (faulted is_operator_word ts)

pub name_fault_of : (u : List Lexeme) → sees (at is_word) u ≡ false → NameFault u
name_fault_of u e = name_fault_at u e (sees (is k.ColonColon) u) refl
