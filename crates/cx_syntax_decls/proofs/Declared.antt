-- What stands before a declared name, and the name: read whole ([dcl.decl], [expr.prim.id]).
use Rattle.std.proofs.Common.{◌≡◌, ℕ, zero, suc, Bool, true, false, not, ◌&&◌, if◌then◌else◌, List, [], ◌∷◌, ◌++◌, length, Option, Some, None, refl, sym, ◌∙◌, ap, subst, inl, arith}
use Rattle.std.proofs.lemmas.List.{append-nil}
use Rattle.cx_grammar.specs.Language.{one, nothing, whole}
use Rattle.cx_grammar.specs.Exact.{Outcome, done, Exact}
use Rattle.cx_grammar.specs.Reading as reading
use Rattle.cx_grammar.specs.Reading.{Reader, made, maybe_if, measured_by, refuse, sees, taken, token_by, turns_then, many_when, many_from, upto_of, last_name, ◌>>=◌, ◌<$>◌ as ◌<$$>◌, ◌⊳◌ as ◌▷◌}
use Rattle.cx_grammar.specs.Sets.{by}
use Rattle.cx_tree.specs.declared.names.FunctionName.{FunctionName}
use Rattle.cx_tree.specs.declared.names.Last.TheVariants as last
use Rattle.cx_tree.specs.declared.specifiers.Star.{Star}
use Rattle.cx_syntax.specs.declared.class.Class.TheVariants as k
use Rattle.cx_syntax.specs.declared.lexeme.Lexeme.{Lexeme}
use Rattle.cx_syntax.specs.Classes.{is}
use Rattle.cx_syntax.specs.Goes.{goes_name}
use Rattle.cx_syntax.specs.Sets.{is_id, is_name, starts_last}
use Rattle.cx_syntax.specs.Values.{span_of, ident_of, function_name, star_of, ptrs_of}
use Rattle.cx_syntax.specs.Grammar as e
use Rattle.cx_syntax.specs.Readers as er
use Rattle.cx_syntax.proofs.Basics.{at, sub}
use Rattle.cx_syntax.proofs.Ahead.{two, scopes_end, name_behind, no_second}
use Rattle.cx_syntax.proofs.Fronts.{none_front}
use Rattle.cx_syntax.proofs.Names.{exactly_fname}
use Rattle.cx_syntax.proofs.Near.{same_used}
use Rattle.cx_syntax_decls.proofs.Passing.{Passed, passed_done}

-- ---- one token

token_cut : {T : Type 0} (t s : T) (ts x y : List T) → t ∷ ts ≡ x ++ y → x ≡ s ∷ [] → (x ≡ t ∷ []) × (y ≡ ts)
token_cut t s ts x y e alone = let c : t ∷ ts ≡ s ∷ y = e ∙ ap (λ l. l ++ y) alone in let heads : t ≡ s = cc in let tails : y ≡ ts = cc in (alone ∙ ap (λ z. z ∷ []) (sym heads), tails)

pub passed_token : {T A : Type 0} (f : T → Option A) (q : T → Bool) (t : T) (ts : List T) → Passed (λ n. one f) q (t ∷ ts) (t ∷ []) ts
passed_token f q t ts = record {
  cut = refl;
  only = λ n x y w c s. inl (token_cut t s.token ts x y c s.alone);
  ends = λ n x y c b. elim b [ nothing none ↦ none_front (t ∷ []) x none | whole w s ↦ ([], sym (append-nil x ∙ (token_cut t s.token ts x y c s.alone).0)) ];
}

-- ---- `*` and `&` are always read

pub record Read {A : Type 0} (o : Outcome Lexeme A) : Type 0 where
  pub value : A
  pub rest : List Lexeme
  pub is : o ≡ done value rest

maybe_by : (p : Lexeme → Bool) (t : Lexeme) (ts : List Lexeme) (b : Bool) → p t ≡ b → Read (maybe_if p (reading.the p) (t ∷ ts))
maybe_by p t ts true e = record { value = Some tt; rest = ts; is = ap (λ b. if b then made Some (token_by (if b then Some tt else None) t ts) else done None (t ∷ ts)) e }
maybe_by p t ts false e = record { value = None; rest = t ∷ ts; is = ap (λ b. if b then made Some (token_by (if b then Some tt else None) t ts) else done None (t ∷ ts)) e }

maybe_read : (p : Lexeme → Bool) (ts : List Lexeme) → Read (maybe_if p (reading.the p) ts)
maybe_read p [] = record { value = None; rest = []; is = refl }
maybe_read p (t ∷ ts) = maybe_by p t ts (p t) refl

abbrev maybe_const : Reader Lexeme (Option (Unit {0}))
maybe_const = maybe_if (is k.Const) (reading.the (is k.Const))

star_read : (t : Lexeme) (ts : List Lexeme) → is k.Star t ≡ true → Read (er.star (t ∷ ts))
unfolding er.star
star_read t ts i = let m = maybe_read (is k.Const) ts in record {
  value = star_of (m.value, span_of (taken (t ∷ ts) m.rest));
  rest = m.rest;
  is = ap (λ b. made star_of (made (λ (p : Unit {0} × Option (Unit {0})). p.1) (token_by (if b then Some tt else None) t ts >>= (λ a rest. made (λ c. (a, c)) (maybe_const rest))) >>= (λ v rest. done (v, span_of (taken (t ∷ ts) rest)) rest))) i
      ∙ ap (λ o. made star_of (made (λ (p : Unit {0} × Option (Unit {0})). p.1) (made (λ c. (tt, c)) o) >>= (λ v rest. done (v, span_of (taken (t ∷ ts) rest)) rest))) m.is;
}

abbrev stars_of : ℕ → List Lexeme → Outcome Lexeme (List Star)
stars_of n ts = turns_then (sees (is k.Star)) er.star (λ ts. done [] ts) n ts

abbrev turn_by : ℕ → List Lexeme → Bool → Outcome Lexeme (List Star)
turn_by n ts b = if b then er.star ts >>= (λ v rest. made (λ vs. v ∷ vs) (stars_of n rest)) else done [] ts

stars_by : (n : ℕ) (t : Lexeme) (ts : List Lexeme) → ((u : List Lexeme) → Read (stars_of n u)) → (b : Bool) → is k.Star t ≡ b → Read (stars_of (suc n) (t ∷ ts))
stars_by n t ts again false i = record { value = []; rest = t ∷ ts; is = ap (turn_by n (t ∷ ts)) i }
stars_by n t ts again true i = let s = star_read t ts i in let r = again s.rest in record {
  value = s.value ∷ r.value;
  rest = r.rest;
  is = ap (turn_by n (t ∷ ts)) i ∙ (ap (λ o. o >>= (λ v rest. made (λ vs. v ∷ vs) (stars_of n rest))) s.is ∙ ap (made (λ vs. s.value ∷ vs)) r.is);
}

stars_read : (n : ℕ) (ts : List Lexeme) → Read (stars_of n ts)
stars_read zero ts = record { value = []; rest = ts; is = refl }
stars_read (suc n) [] = record { value = []; rest = []; is = refl }
stars_read (suc n) (t ∷ ts) = stars_by n t ts (stars_read n) (is k.Star t) refl

abbrev maybe_amp : Reader Lexeme (Option (Unit {0}))
maybe_amp = maybe_if (is k.Amp) (reading.the (is k.Amp))

pub ptrs_read : (ts : List Lexeme) → Read (er.ptrs ts)
unfolding er.ptrs
ptrs_read ts = let s = stars_read 64 ts in let m = maybe_read (is k.Amp) s.rest in record {
  value = ptrs_of (s.value, m.value);
  rest = m.rest;
  is = ap (λ o. made ptrs_of (o >>= (λ a rest. made (λ b. (a, b)) (maybe_amp rest)))) s.is ∙ ap (λ o. made ptrs_of (made (λ b. (s.value, b)) o)) m.is;
}

-- ---- an ID with no `::` behind it is a function's name

module _ (t : Lexeme) (ts : List Lexeme) (id : is_id t.class ≡ true) (lone : sees (is k.ColonColon) ts ≡ false) where
  two_not : two (t ∷ ts) ≡ false
  two_not = ap (λ b. is_name t.class && b) lone ∙ no_second (is_name t.class)

  ends_name : (is_name t.class && not (starts_last t.class)) ≡ false
  ends_name = ap (λ b. is_name t.class && not b) (sub is_id starts_last refl t id) ∙ no_second (is_name t.class)

  last_read : name_behind (t ∷ ts) ≡ done (last.Ident (ident_of t)) ts
  unfolding er.last_part
  last_read = ap (λ b. if b then refuse ts else er.last_part (t ∷ ts)) ends_name
      ∙ ap (λ b. if b then made last.Ident (token_by (if b then Some (ident_of t) else None) t ts) else (last.Operator <$$> er.operator_name) (t ∷ ts)) id

  parts_read : er.fname_parts (t ∷ ts) ≡ done ([], last.Ident (ident_of t)) ts
  unfolding many_when
  parts_read = scopes_end name_behind (length (t ∷ ts)) (t ∷ ts) two_not ∙ ap (made (λ b. ([], b))) last_read

  abbrev whole_name : FunctionName
  whole_name = function_name (([], last.Ident (ident_of t)), span_of (taken (t ∷ ts) ts))

  name_read : er.fname (t ∷ ts) ≡ done whole_name ts
  unfolding er.fname
  name_read = ap (λ o. made function_name (o >>= (λ v rest. done (v, span_of (taken (t ∷ ts) rest)) rest))) parts_read

  name_exact : Exact (λ (n : ℕ). e.fname) (by (at goes_name)) 0 (t ∷ ts) (done whole_name ts)
  name_exact = let P : Outcome Lexeme FunctionName → Type 0 = λ o. Exact (λ n. e.fname) (by (at goes_name)) 0 (t ∷ ts) o in subst P name_read ((exactly_fname 0).at (t ∷ ts))

  name_used : name_exact.used ≡ t ∷ []
  name_used = (same_used name_exact.used ts (t ∷ []) ts (sym name_exact.core.cut) refl).0

  pub passed_name : Passed (λ (n : ℕ). e.fname) (at goes_name) (t ∷ ts) (t ∷ []) ts
  passed_name = let P : List Lexeme → Type 0 = λ l. Passed (λ (n : ℕ). e.fname) (at goes_name) (t ∷ ts) l ts in subst P name_used (passed_done (λ n. e.fname) (at goes_name) 0 (t ∷ ts) ts whole_name name_exact)

  pub name_spelled : e.fname.spells (t ∷ []) whole_name
  name_spelled = let P : List Lexeme → Type 0 = λ l. e.fname.spells l whole_name in subst P name_used (name_exact.spells 0 (omega arith))
