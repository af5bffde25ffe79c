-- Behind a declared name and `(`: how far parameters and the arguments of an initializer go ([dcl.fct], [dcl.init]).
use Rattle.std.proofs.Common.{◌≡◌, ℕ, suc, Bool, true, false, not, ◌&&◌, ◌||◌, List, [], ◌∷◌, length, Option, Some, None, refl, sym, ◌∙◌, ap, subst, if◌then◌else◌, inl, inr, arith}
use Rattle.std.proofs.lemmas.List.{append-nil}
use Rattle.cx_grammar.specs.Language.{the, maybe, some, in_first, in_second, joined, ◌>>◌, ◌⊲◌}
use Rattle.cx_grammar.specs.Exact.{Family}
use Rattle.cx_grammar.specs.Reading.{sees}
use Rattle.cx_grammar.proofs.Heads.{Opens, heads_both, heads_before, heads_the, opens_both, opens_many, opens_maybe, opens_sub}
use Rattle.cx_tree.specs.declared.exprs.Bound.{Bound}
use Rattle.cx_tree.specs.declared.exprs.Expr.{Expr}
use Rattle.cx_tree.specs.declared.names.Ident.{Ident}
use Rattle.cx_tree.specs.declared.decls.Param.{Param}
use Rattle.cx_tree.specs.declared.specifiers.Ptrs.{Ptrs}
use Rattle.cx_syntax.specs.declared.class.Class.{Class}
use Rattle.cx_syntax.specs.declared.class.Class.TheVariants as k
use Rattle.cx_syntax.specs.declared.lexeme.Lexeme.{Lexeme}
use Rattle.cx_syntax.specs.Ahead.{qtype_end}
use Rattle.cx_syntax.specs.Classes.{is, same_class}
use Rattle.cx_syntax.specs.Goes.{goes_name}
use Rattle.cx_syntax.specs.Sets.{is_id, is_word, starts_assign}
use Rattle.cx_syntax.specs.Values.{span_of, ident_of}
use Rattle.cx_syntax.specs.Grammar as e
use Rattle.cx_syntax.specs.Readers as er
use Rattle.cx_syntax.specs.Readers.{just}
use Rattle.cx_syntax.proofs.Ahead.{Told, is_type_name, is_none, told}
use Rattle.cx_syntax.proofs.Basics.{at, apart, sub, both_true, heads_pick, false_of}
use Rattle.cx_syntax.proofs.Fronts.{Blocked, Never, Short, never_as, never_both, never_elsewhere, never_ended, never_led, short_as, short_both, short_measured, short_skip, short_sub}
use Rattle.cx_syntax.proofs.Near.{same_used}
use Rattle.cx_syntax.proofs.Specifiers.{opens_ptrs, starts_ptrs}
use Rattle.cx_syntax.proofs.TypeOrExpr.{ends_type, not_seen, unseen_by, qtype_read, qtype_typed, typed_specs, whole_front}
use Rattle.cx_syntax_vars.specs.Grammar as vg
use Rattle.cx_syntax_vars.specs.Values.{param_of}
use Rattle.cx_syntax_vars.proofs.Covering.{short_maybe}
use Rattle.cx_syntax_decls.specs.Grammar as g
use Rattle.cx_syntax_decls.specs.Sets.{begins_params}
use Rattle.cx_syntax_decls.proofs.Alike.{bounds, named_var, id_spelled, opens_bounds}
use Rattle.cx_syntax_decls.proofs.Arguments.{closed_args, heads_init_args, never_word, type_run, type_cut}
use Rattle.cx_syntax_decls.proofs.Cuts.{some_same, no_some}
use Rattle.cx_syntax_decls.proofs.Declared.{passed_name, name_spelled}
use Rattle.cx_syntax_decls.proofs.Functions.{behind_ptrs, heads_paren_params}
use Rattle.cx_syntax_decls.proofs.Lower.{opens_attrs}
use Rattle.cx_syntax_decls.proofs.Passing.{behind_never}

-- ---- specs, where a typeid goes no further

abbrev pub no_ptrs : Ptrs
no_ptrs = record { stars = []; is_reference = false }

pub no_ptrs_spelled : e.ptrs.spells [] no_ptrs
no_ptrs_spelled = record { value = ([], None); made = refl; part = record { front = []; back = []; cut = refl; first = inr (record { value = tt; made = refl; part = refl }); second = inl (record { value = tt; made = refl; part = refl }) } }

bounds_spelled : (n : ℕ) → (bounds n).spells [] []
bounds_spelled n = inr (record { value = tt; made = refl; part = refl })

pub specs_short : {q : Lexeme → Bool} {u used : List Lexeme} → Short (λ n. e.typeid (e.deeper n)) q u used → Short (λ n. e.specs) q u used
specs_short s = record {
  only = λ n x y w c z. s.only n x y (_) c (record {
    value = ((w, (no_ptrs, [])), span_of x);
    made = refl;
    part = record { part = record { front = x; back = []; cut = sym (append-nil x); first = z; second = record { front = []; back = []; cut = refl; first = no_ptrs_spelled; second = bounds_spelled n } }; measure = refl };
  });
  ends = λ n x y c b. s.ends n x y c (in_first b);
}

-- ---- parameters

abbrev param_end : Family Lexeme (Ptrs × (Option Ident × (List Bound × Option Expr)))
param_end n = e.ptrs >> maybe e.id >> bounds n >> maybe (vg.default_argument n)

abbrev starts_param_end : Class → Bool
starts_param_end c = starts_ptrs c || (is_id c || (just k.OpenBracket c || just k.Equal c))

opens_param_end : Opens param_end (at starts_param_end)
unfolding same_class
opens_param_end = opens_both (opens_sub (sub starts_ptrs starts_param_end refl) opens_ptrs) (opens_both (opens_sub (sub is_id starts_param_end refl) (opens_maybe (heads_pick is_id ident_of)))
    (opens_both (opens_sub (sub (just k.OpenBracket) starts_param_end refl) opens_bounds) (opens_sub (sub (just k.Equal) starts_param_end refl) (opens_maybe (heads_before {G = λ n. (e.deeper n).assign} (is k.Equal))))))

abbrev not_close : Class → Bool
not_close c = not (just k.CloseParen c)

abbrev pub closed_params : Family Lexeme (Option (List Param))
closed_params n = maybe (vg.params n) ⊲ is k.CloseParen

-- what parameters may begin with beside specs, and what stands behind none
abbrev pub starts_no_specs : Class → Bool
starts_no_specs c = just k.OpenBracket c || just k.CloseParen c

blocked_close : (w : List Lexeme) → sees (is k.CloseParen) w ≡ false → Blocked (at not_close) w
blocked_close [] c = λ t r d. cc
blocked_close (u ∷ w) c = λ t r d. let same_token : u ≡ t = cc in subst (λ z. at not_close z ≡ true) same_token (ap not c)

-- where specs go no further than so far
pub never_params : (w run : List Lexeme) → sees (at starts_no_specs) w ≡ false → Short (λ n. e.specs) (at ends_type) w run → Never closed_params w run
unfolding same_class
never_params w run unseen s = never_as _ (never_ended (short_maybe (blocked_close w (not_seen (sub (just k.CloseParen) starts_no_specs refl) w unseen)) (short_sub (sub ends_type not_close refl)
    (short_as joined (short_both
    (short_as param_of (short_measured span_of (short_skip opens_attrs (not_seen (sub (just k.OpenBracket) starts_no_specs refl) w unseen) (short_both s opens_param_end (apart ends_type starts_param_end refl)))))
    (opens_many (heads_before {G = λ n. vg.param n} (is k.Comma))) (apart ends_type (just k.Comma) refl))))) (heads_the (is k.CloseParen)) (apart not_close (just k.CloseParen) refl))

-- what specs begin, and a typeid, a list of parameters does
specs_params : (n : ℕ) (x : List Lexeme) → (e.specs >> param_end n).begins x → (maybe (vg.params n)).begins x
specs_params n x b = inr (some refl (in_first (in_second [] x _ refl (record { value = []; made = refl; part = refl }) b)))

pub params_specs : (n : ℕ) (x : List Lexeme) → e.specs.begins x → (maybe (vg.params n)).begins x
params_specs n x b = specs_params n x (in_first b)

declarator_param : (n : ℕ) (x : List Lexeme) → (e.ptrs >> bounds n).begins x → (param_end n).begins x
declarator_param n x (in_first b) = in_first b
declarator_param n x (in_second f l v cut s b) = in_second f l v cut s (in_second [] l None refl (inl (record { value = tt; made = refl; part = refl })) (in_first b))

pub params_typeid : (n : ℕ) (x : List Lexeme) → (e.typeid (e.deeper n)).begins x → (maybe (vg.params n)).begins x
params_typeid n x (in_first b) = specs_params n x (in_first b)
params_typeid n x (in_second f l v cut s b) = specs_params n x (in_second f l v cut s (declarator_param n l b))

-- ---- behind a name and `(`

module _ (t p : Lexeme) (w : List Lexeme) (id : is_id t.class ≡ true) (paren : is k.OpenParen p ≡ true) where
  paren_lone : sees (is k.ColonColon) (p ∷ w) ≡ false
  unfolding same_class
  paren_lone = false_of (is k.ColonColon p) (λ j. apart (just k.OpenParen) (just k.ColonColon) refl p paren j)

  paren_spelled : (the (is k.OpenParen)).spells (p ∷ []) tt
  paren_spelled = record { token = p; alone = refl; fits = ap (λ b. if b then Some tt else None) paren }

  pub paren_function_never : {run : List Lexeme} → Never closed_params w run → Never behind_ptrs (t ∷ p ∷ w) (t ∷ p ∷ run)
  unfolding same_class
  paren_function_never s = behind_never (passed_name t (p ∷ w) id paren_lone) (heads_both (λ n. g.function_end n) heads_paren_params) (apart goes_name (just k.OpenParen) refl)
      (never_both (λ n. g.function_end n) (never_led (is k.OpenParen) p s))

  pub paren_function_begins : (n : ℕ) (x : List Lexeme) → (maybe (vg.params n)).begins x → (behind_ptrs n).begins (t ∷ p ∷ x)
  paren_function_begins n x b = in_second (t ∷ []) (p ∷ x) _ refl (name_spelled t (p ∷ w) id paren_lone) (in_first (in_second (p ∷ []) x tt refl paren_spelled (in_first b)))

  -- arguments, where there is a level for them
  pub paren_vars_begins : (m : ℕ) (x : List Lexeme) → (closed_args (suc m)).begins x → (named_var (suc m)).begins (t ∷ p ∷ x)
  paren_vars_begins m x b = in_second (t ∷ []) (p ∷ x) (ident_of t) refl (id_spelled t w id) (in_second [] (p ∷ x) _ refl (record { value = []; made = refl; part = refl })
      (in_second [] (p ∷ x) [] refl (bounds_spelled (suc m)) (inr (some refl (inr (some refl (inr (some refl (in_second (p ∷ []) x tt refl paren_spelled b)))))))))

-- ---- where only parameters can stand

unfoldable begins_other : Class → Bool
begins_other c = begins_params c && not (is_word c)

other_by : (w : List Lexeme) → sees (at begins_params) w ≡ true → sees (at is_word) w ≡ false → sees (at begins_other) w ≡ true
unfolding begins_other
other_by [] b c = b
other_by (t ∷ w) b c = both_true (begins_params t.class) (not (is_word t.class)) b (ap not c)

-- the first token tells
pub never_first : (w : List Lexeme) → sees (at begins_params) w ≡ true → (b : Bool) → sees (at is_word) w ≡ b → Never closed_args w []
unfolding begins_other same_class
never_first w first true word = never_word w word
never_first w first false word = never_as _ (never_both _ (never_elsewhere heads_init_args w (unseen_by (apart begins_other starts_assign refl) w (other_by w first word)) []))

-- a type's name
module _ (w rest : List Lexeme) (ahead : qtype_end w ≡ Some rest) (no_word : sees (at is_word) w ≡ false) where
  run_by : Told (qtype_end w) (er.qtype w) (er.id_expression (er.deeper 0) w) → e.qtype.begins (type_run w rest ahead no_word)
  run_by (is_type_name rest2 v x a o) = let q = qtype_read w rest2 v a in let c = type_cut w rest ahead no_word in
      let same_run = same_used q.used rest2 (type_run w rest ahead no_word) rest (sym q.core.cut ∙ c.cut) (ap length (some_same (sym x ∙ ahead))) in
      subst (λ (l : List Lexeme). e.qtype.begins l) same_run.0 (q.core.begins 0 (omega arith) q.used [] (whole_front q.used))
  run_by (is_none left x a o) = absurd (no_some (sym x ∙ ahead))

  pub run_specs : e.specs.begins (type_run w rest ahead no_word)
  run_specs = typed_specs (type_run w rest ahead no_word) (qtype_typed (type_run w rest ahead no_word) (run_by (told (er.deeper 0) w)))
