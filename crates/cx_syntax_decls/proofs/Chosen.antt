-- The reader of variables or a function is exact: it goes by what the tokens ahead tell ([dcl.decl], [dcl.fct]).
use Rattle.std.proofs.Common.{◌≡◌, ℕ, zero, suc, ◌≤◌, Bool, true, false, not, ◌&&◌, ◌||◌, if◌then◌else◌, List, [], ◌∷◌, ◌++◌, length, Option, Some, None, refl, sym, ◌∙◌, ap, subst, inl, inr, append_assoc, arith}
use Rattle.std.proofs.lemmas.List.{append-nil}
use Rattle.cx_base.specs.declared.rule.Rule.TheVariants.{Syntax, Nesting}
use Rattle.cx_grammar.specs.Language.{◌⊲◌, BeginsPresent, none_yet, some, present, maybe, in_first, in_second}
use Rattle.cx_grammar.specs.Exact.{Family, Outcome, done, stop, Within}
use Rattle.cx_grammar.specs.Reading.{Reader, made, sees}
use Rattle.cx_grammar.specs.Reads.{tail_of}
use Rattle.cx_grammar.specs.Sets.{by, never}
use Rattle.cx_grammar.proofs.Heads.{not_both}
use Rattle.cx_grammar.proofs.Parts.{not_nesting}
use Rattle.cx_grammar.proofs.Steps.{Exactly, exactly_as, exactly_behind}
use Rattle.cx_grammar.proofs.Choices.{Right, right_of}
use Rattle.cx_grammar.proofs.Levels.{there_present}
use Rattle.cx_tree.specs.declared.specifiers.Ptrs.{Ptrs}
use Rattle.cx_tree.specs.declared.decls.EntityKind.{EntityKind}
use Rattle.cx_tree.specs.declared.decls.EntityKind.TheVariants as kinds
use Rattle.cx_syntax.specs.declared.class.Class.TheVariants as k
use Rattle.cx_syntax.specs.declared.lexeme.Lexeme.{Lexeme}
use Rattle.cx_syntax.specs.Ahead.{ends_bare, found, qtype_ahead, qtype_end, type_ahead, type_fault}
use Rattle.cx_syntax.specs.Classes.{is, same_class}
use Rattle.cx_syntax.specs.Goes.{goes_name}
use Rattle.cx_syntax.specs.Sets.{begins_type, is_id, is_word, starts_fname, starts_given}
use Rattle.cx_syntax.specs.Grammar as e
use Rattle.cx_syntax.specs.Readers as er
use Rattle.cx_syntax.specs.Readers.{just}
use Rattle.cx_syntax.proofs.Basics.{at, apart, sub, false_of}
use Rattle.cx_syntax.proofs.Beside.{begins_in, ends_in, covers_present, first_begun, second_begun}
use Rattle.cx_syntax.proofs.Following.{or_either}
use Rattle.cx_syntax.proofs.Fronts.{Never, never_as, never_both, never_covers, none_front}
use Rattle.cx_syntax.proofs.Near.{near}
use Rattle.cx_syntax.proofs.Sizeof.{Near, syntax, nesting, has_room}
use Rattle.cx_syntax.proofs.TypeOrExpr.{ExprFront, expr_front, not_seen, unseen_by}
use Rattle.cx_syntax_vars.specs.Goes.{goes_vars}
use Rattle.cx_syntax_vars.specs.Grammar as vg
use Rattle.cx_syntax_decls.specs.Ahead.{params_ahead, rest_of}
use Rattle.cx_syntax_decls.specs.Grammar as g
use Rattle.cx_syntax_decls.specs.Readers as r
use Rattle.cx_syntax_decls.specs.Sets.{begins_params, begins_qualified}
use Rattle.cx_syntax_decls.specs.Values.{no_variables}
use Rattle.cx_syntax_decls.proofs.Alike.{variables, functions, heads_named_var, goes_list, none, marks, marks_cut, function_never, function_begins, vars_begins, vars_never, vars_elsewhere, function_elsewhere, id_begun, name_begun, id_short, colons_short, lone_never, paren_var_end}
use Rattle.cx_syntax_decls.proofs.Arguments.{closed_args, never_type, never_args, type_run, type_cut, closed_begins}
use Rattle.cx_syntax_decls.proofs.Declared.{Read, ptrs_read}
use Rattle.cx_syntax_decls.proofs.Functions.{heads_behind_ptrs, exactly_function}
use Rattle.cx_syntax_decls.proofs.Lower.{exactly_vars}
use Rattle.cx_syntax_decls.proofs.Parens.{starts_no_specs, never_params, params_specs, params_typeid, specs_short, paren_function_never, paren_function_begins, paren_vars_begins, never_first, run_specs}

-- ---- each of the two

pub exactly_vars_end : (left : ℕ) → Exactly (λ n. vg.vars n ⊲ is k.Semicolon) (by never) left (r.vars_end left)
unfolding r.vars_end same_class
exactly_vars_end left = exactly_behind (is k.Semicolon) (exactly_vars left) (apart goes_vars (just k.Semicolon) refl)

abbrev function_read : ℕ → List Lexeme → Outcome Lexeme EntityKind
function_read left ts = made kinds.Function (r.function left ts)

abbrev vars_read : ℕ → List Lexeme → Outcome Lexeme EntityKind
vars_read left ts = made kinds.Vars (r.vars_end left ts)

function_right : (left : ℕ) (ts : List Lexeme) → Right (λ n. present (functions n)) (by never) left ts (function_read left ts)
function_right left ts = there_present refl (λ n. refl) (right_of (exactly_as kinds.Function (exactly_function left)) ts)

vars_right : (left : ℕ) (ts : List Lexeme) → Right (λ n. present (variables n)) (by never) left ts (vars_read left ts)
vars_right left ts = there_present refl (λ n. refl) (right_of (exactly_as kinds.Vars (exactly_vars_end left)) ts)

abbrev pub entity_kinds : Family Lexeme EntityKind
entity_kinds n = g.entity_kind n

pub cut_more : (ts a u x y : List Lexeme) → ts ≡ a ++ u → u ≡ x ++ y → ts ≡ (a ++ x) ++ y
cut_more ts a u x y e c = e ∙ (ap (λ l. a ++ l) c ∙ sym (append_assoc a x y))

-- a front of what begins a language begins it at each number of levels
pub front_begins : {A : Type 0} (L : Family Lexeme A) (go : A → Lexeme → Bool) {read : Reader Lexeme A} → Exactly L go 0 read → (u x y : List Lexeme) → u ≡ x ++ y → (L 0).begins u → (n : ℕ) → (L n).begins x
front_begins L go {read = read} g u x y e b n = let w = ends_in L go 0 u (read u) (g.at u) u [] (sym (append-nil u)) b in
    begins_in L go 0 u (read u) (g.at u) n (omega arith) x (y ++ w.0) (w.1 ∙ (ap (λ l. l ++ w.0) e ∙ append_assoc x y w.0))

pub no_room : (er.deeper 0).room ≡ false
unfolding er.deeper
no_room = refl

-- ---- behind `*` and `&`

module _ (ts : List Lexeme) (v : Ptrs) (u : List Lexeme) (read : er.ptrs ts ≡ done v u) where
  abbrev KindRight : ℕ → Outcome Lexeme EntityKind → Type 0
  KindRight left o = Right entity_kinds (by never) left ts o

  -- a function is read, and no variable goes further than so far
  function_chosen : (left : ℕ) (x y : List Lexeme) → u ≡ x ++ y → Never variables ts (marks ts v u read ++ x) → (g.function left).begins (marks ts v u read ++ x) → KindRight left (function_read left ts)
  function_chosen left x y c s b = second_begun (function_right left ts) (marks ts v u read ++ x) y (cut_more ts (marks ts v u read) u x y (marks_cut ts v u read) c)
      (covers_present (never_covers (by never) s)) (some refl b)

  -- variables are, and no function does
  vars_chosen : (left : ℕ) (x y : List Lexeme) → u ≡ x ++ y → Never functions ts (marks ts v u read ++ x) → (variables left).begins (marks ts v u read ++ x) → KindRight left (vars_read left ts)
  vars_chosen left x y c s b = first_begun (vars_right left ts) (marks ts v u read ++ x) y (cut_more ts (marks ts v u read) u x y (marks_cut ts v u read) c)
      (covers_present (never_covers (by never) s)) (some refl b)

  -- ---- at the last level no arguments are there

  module _ (x y : List Lexeme) (c : u ≡ x ++ y) (fn : Never functions ts (marks ts v u read ++ x)) (fb : (g.function 0).begins (marks ts v u read ++ x)) where
    abbrev whole : List Lexeme
    whole = marks ts v u read ++ x

    fronts : (n : ℕ) (f d : List Lexeme) → whole ≡ f ++ d → (entity_kinds n).begins f
    fronts n f d e2 = inr (some refl (front_begins functions (by never) (exactly_as kinds.Function (exactly_function 0)) whole f d e2 fb n))

    functions_end : (n : ℕ) (f d : List Lexeme) → ts ≡ f ++ d → BeginsPresent (functions n) f → Within whole f
    functions_end n f d e2 (none_yet none2) = none_front whole f none2
    functions_end n f d e2 (some st b) = fn.ends n f d e2 b

    variables_end : (s : Never variables ts whole) (n : ℕ) (f d : List Lexeme) → ts ≡ f ++ d → BeginsPresent (variables n) f → Within whole f
    variables_end s n f d e2 (none_yet none2) = none_front whole f none2
    variables_end s n f d e2 (some st b) = s.ends n f d e2 b

    -- the fault is one at each level
    last_syntax : Never variables ts whole → KindRight 0 (stop Syntax (length y))
    last_syntax s = record {
      exact = record {
        used = whole;
        rest = y;
        size = refl;
        is = inl refl;
        deep = λ i. absurd (not_nesting i);
        core = record {
          cut = cut_more ts (marks ts v u read) u x y (marks_cut ts v u read) c;
          begins = λ n p f d e2. fronts n f d e2;
          only = λ n q f d w e2 z. elim z [ inl a ↦ absurd (s.only n f d w e2 a) | inr b ↦ absurd (fn.only n f d w e2 b) ];
          ends = λ n q f d e2 z. elim z [ inl a ↦ variables_end s n f d e2 a | inr b ↦ functions_end n f d e2 b ];
        };
      };
    }

    variables_last : (s : Never (λ (n : ℕ). variables 0) ts whole) (f d : List Lexeme) → ts ≡ f ++ d → BeginsPresent (variables 0) f → Within whole f
    variables_last s f d e2 (none_yet none2) = none_front whole f none2
    variables_last s f d e2 (some st b) = s.ends 0 f d e2 b

    -- with more levels arguments go on with the next token
    last_nesting : Never (λ (n : ℕ). variables 0) ts whole → (t : Lexeme) (after : List Lexeme) → y ≡ t ∷ after → ((n : ℕ) → (variables (suc (suc n))).begins (whole ++ t ∷ [])) → KindRight 0 (stop Nesting (length y))
    last_nesting s t after is_next deeper = record {
      exact = record {
        used = whole;
        rest = y;
        size = refl;
        is = inr refl;
        deep = λ i. record { token = t; after = after; is = is_next; enough = 2; begins = deep_begins };
        core = record {
          cut = cut_more ts (marks ts v u read) u x y (marks_cut ts v u read) c;
          begins = λ n p f d e2. fronts n f d e2;
          only = λ n q f d w e2 z. elim z [ inl a ↦ absurd (let P : ℕ → Type 0 = λ m. (variables m).spells f w in s.only 0 f d w e2 (subst P (q refl) a)) | inr b ↦ absurd (fn.only n f d w e2 b) ];
          ends = λ n q f d e2 z. elim z [ inl a ↦ (let P : ℕ → Type 0 = λ m. BeginsPresent (variables m) f in variables_last s f d e2 (subst P (q refl) a)) | inr b ↦ functions_end n f d e2 b ];
        };
      };
    }
      where
        deep_begins : (n : ℕ) → 2 ≤ n → (entity_kinds n).begins (whole ++ t ∷ [])
        deep_begins zero p = absurd (omega arith)
        deep_begins (suc zero) p = absurd (omega arith)
        deep_begins (suc (suc n)) p = inl (some refl (deeper n))

  -- ---- by the tests

  abbrev by_tests : ℕ → Bool → Bool → Bool → Bool → Bool → Bool → Outcome Lexeme EntityKind
  by_tests left q i c o p room = if q || (i && (c || (o && p))) then function_read left ts else (if (i && o) && not room then made no_variables (type_fault (tail_of (tail_of u))) else vars_read left ts)

  -- not at an ID
  not_named : (left : ℕ) → sees (at begins_qualified) u ≡ false → sees (at is_id) u ≡ false → KindRight left (vars_read left ts)
  unfolding same_class
  not_named left q i = vars_chosen left [] u refl (function_never ts v u read (function_elsewhere u (unseen_name u q i))) (vars_begins ts v u read left [] (heads_named_var.blank left))
    where
      name_by : (t : Lexeme) → begins_qualified t.class ≡ false → is_id t.class ≡ false → starts_fname t.class ≡ true → ⊥
      name_by t q i s = or_either (begins_qualified t.class) (is_id t.class) (sub starts_fname (λ c. begins_qualified c || is_id c) refl t s) (λ a. not_both a q) (λ b. not_both b i)

      unseen_name : (w : List Lexeme) → sees (at begins_qualified) w ≡ false → sees (at is_id) w ≡ false → sees (at starts_fname) w ≡ false
      unseen_name [] q i = refl
      unseen_name (t ∷ w) q i = false_of (starts_fname t.class) (λ s. name_by t q i s)

  qualified : (left : ℕ) → sees (at begins_qualified) u ≡ true → KindRight left (function_read left ts)
  unfolding same_class
  qualified left q = function_chosen left [] u refl (vars_never ts v u read (λ n. n) none (λ t a b. not_true a) (vars_elsewhere (λ n. n) u (unseen_by (apart begins_qualified is_id refl) u q))) (function_begins ts v u read left [] (heads_behind_ptrs.blank left))
    where
      not_true : false ≡ true → ⊥
      not_true e = cc

module _ (ts : List Lexeme) (v : Ptrs) (t : Lexeme) (w : List Lexeme) (read : er.ptrs ts ≡ done v (t ∷ w)) (id : is_id t.class ≡ true) where
  abbrev IdRight : ℕ → Outcome Lexeme EntityKind → Type 0
  IdRight left o = Right entity_kinds (by never) left ts o

  at_colons : (left : ℕ) → sees (is k.ColonColon) w ≡ true → IdRight left (function_read left ts)
  unfolding same_class
  at_colons left c = function_chosen ts v (t ∷ w) read left (t ∷ []) w refl (vars_never ts v (t ∷ w) read (λ n. n) goes_name (apart goes_name goes_list refl) (colons_short t w id (λ n. n) c)) (function_begins ts v (t ∷ w) read left (t ∷ []) (name_begun t w id left))

  at_none : (left : ℕ) → sees (is k.ColonColon) w ≡ false → sees (is k.OpenParen) w ≡ false → IdRight left (vars_read left ts)
  at_none left c o = vars_chosen ts v (t ∷ w) read left (t ∷ []) w refl (function_never ts v (t ∷ w) read (lone_never t w id c o)) (vars_begins ts v (t ∷ w) read left (t ∷ []) (id_begun t w id left))

module _ (ts : List Lexeme) (v : Ptrs) (t p : Lexeme) (w : List Lexeme) (read : er.ptrs ts ≡ done v (t ∷ p ∷ w)) (id : is_id t.class ≡ true) (paren : is k.OpenParen p ≡ true) where
  abbrev ParenRight : ℕ → Outcome Lexeme EntityKind → Type 0
  ParenRight left o = Right entity_kinds (by never) left ts o

  abbrev front : List Lexeme
  front = marks ts v (t ∷ p ∷ w) read

  args_never : (m : ℕ → ℕ) {run : List Lexeme} → Never (λ n. closed_args (m n)) w run → Never (λ n. variables (m n)) ts (front ++ t ∷ p ∷ run)
  unfolding same_class
  args_never m {run = run} s = vars_never ts v (t ∷ p ∷ w) read m (just k.OpenParen) (apart (just k.OpenParen) goes_list refl) (id_short t (p ∷ w) id m (just k.OpenParen) (paren_var_end m p w run paren s))

  params_chosen : (left : ℕ) (run rest : List Lexeme) → w ≡ run ++ rest → Never closed_args w run → (maybe (vg.params left)).begins run → ParenRight left (function_read left ts)
  params_chosen left run rest c s b = function_chosen ts v (t ∷ p ∷ w) read left (t ∷ p ∷ run) rest (ap (λ l. t ∷ p ∷ l) c) (args_never (λ n. n) s)
      (function_begins ts v (t ∷ p ∷ w) read left (t ∷ p ∷ run) (paren_function_begins t p w id paren left run b))

  at_type : (left : ℕ) (rest : List Lexeme) → qtype_end w ≡ Some rest → sees (at is_word) w ≡ false → ParenRight left (function_read left ts)
  at_type left rest ahead no_word = params_chosen left (type_run w rest ahead no_word) rest (type_cut w rest ahead no_word).cut (never_type w rest ahead no_word) (params_specs left (type_run w rest ahead no_word) (run_specs w rest ahead no_word))

  found_some : (left : ℕ) (o : Option (List Lexeme)) → qtype_end w ≡ o → found o ≡ true → sees (at is_word) w ≡ false → ParenRight left (function_read left ts)
  found_some left (Some rest) e h no_word = at_type left rest e no_word
  found_some left None e h no_word = absurd (let c : false ≡ true = h in cc)

  no_word_first : sees (at begins_params) w ≡ false → sees (at is_word) w ≡ false
  unfolding same_class
  no_word_first b = not_seen (sub is_word begins_params refl) w b

  at_params : (left : ℕ) (b : Bool) → sees (at begins_params) w ≡ b → (b || qtype_ahead w) ≡ true → ParenRight left (function_read left ts)
  at_params left true b e = params_chosen left [] w refl (never_first w b (sees (at is_word) w) refl) (inl refl)
  at_params left false b e = found_some left (qtype_end w) refl e (no_word_first b)

  -- ---- arguments can stand there

  module _ (b : sees (at begins_params) w ≡ false) (none_ahead : qtype_end w ≡ None) where
    expr_ahead : type_ahead w ≡ false
    unfolding same_class
    expr_ahead = ap (λ c. c || (if sees (at is_word) w then not (sees (at starts_given) (tail_of w)) else ends_bare (qtype_end w))) (not_seen (sub begins_type begins_params refl) w b)
        ∙ (ap (λ c. if c then not (sees (at starts_given) (tail_of w)) else ends_bare (qtype_end w)) (no_word_first b) ∙ ap ends_bare none_ahead)

    no_specs : sees (at starts_no_specs) w ≡ false
    unfolding same_class
    no_specs = not_seen (sub starts_no_specs begins_params refl) w b

    params_never : (f : ExprFront w) → Never functions ts (front ++ t ∷ p ∷ f.run)
    params_never f = function_never ts v (t ∷ p ∷ w) read (paren_function_never t p w id paren (never_params w f.run no_specs (specs_short f.typeid)))

    args_begin : (m : ℕ) (x y : List Lexeme) → w ≡ x ++ y → ((e.deeper (suc m)).expr ⊲ is k.CloseParen).begins x → (variables (suc m)).begins (front ++ t ∷ p ∷ x)
    args_begin m x y c a = vars_begins ts v (t ∷ p ∷ w) read (suc m) (t ∷ p ∷ x) (paren_vars_begins t p w id paren m x (closed_begins w (no_word_first b) none_ahead (suc m) x y c a))

    at_args : (m : ℕ) → ParenRight (suc m) (vars_read (suc m) ts)
    at_args m = let f = expr_front w expr_ahead in vars_chosen ts v (t ∷ p ∷ w) read (suc m) (t ∷ p ∷ f.run) f.rest (ap (λ l. t ∷ p ∷ l) f.cut) (params_never f) (args_begin m f.run f.rest f.cut (in_first (f.exprs m)))

    no_args_last : (run : List Lexeme) → Never (λ (n : ℕ). closed_args 0) w run
    no_args_last run = never_as _ (never_both _ (record { only = λ n x y u c s. s.part.part.first; ends = λ n x y c z. none_front run x (none_begun x z.part) }))
      where
        none_begun : (x : List Lexeme) → (e.args (e.deeper 0)).begins x → x ≡ []
        none_begun x (in_first c) = c
        none_begun x (in_second f l u c s z) = absurd s

    last_begins : (f : ExprFront w) → (g.function 0).begins (front ++ t ∷ p ∷ f.run)
    last_begins f = function_begins ts v (t ∷ p ∷ w) read 0 (t ∷ p ∷ f.run) (paren_function_begins t p w id paren 0 f.run (params_typeid 0 f.run (f.types 0 f.run [] (sym (append-nil f.run)))))

    last_by : (f : ExprFront w) → Near w f.run f.rest → ParenRight 0 (made no_variables (type_fault w))
    last_by f (syntax fault s) = let P : Outcome Lexeme EntityKind → Type 0 = λ o. ParenRight 0 o in
        subst P (sym (ap (made no_variables) fault)) (last_syntax ts v (t ∷ p ∷ w) read (t ∷ p ∷ f.run) f.rest (ap (λ l. t ∷ p ∷ l) f.cut) (params_never f) (last_begins f) (args_never (λ n. n) (never_args s)))
    last_by f (nesting c after fault is_next deeper) = let P : Outcome Lexeme EntityKind → Type 0 = λ o. ParenRight 0 o in
        subst P (sym (ap (made no_variables) fault)) (last_nesting ts v (t ∷ p ∷ w) read (t ∷ p ∷ f.run) f.rest (ap (λ l. t ∷ p ∷ l) f.cut) (params_never f) (last_begins f) (args_never (λ n. 0) (no_args_last f.run)) c after is_next
        (λ n. let Q : List Lexeme → Type 0 = λ l. (variables (suc (suc n))).begins l in
        subst Q (sym (append_assoc front (t ∷ p ∷ f.run) (c ∷ []))) (args_begin (suc n) (f.run ++ c ∷ []) after (cut_more w f.run f.rest (c ∷ []) after f.cut is_next) (deeper n))))

    at_last : ParenRight 0 (made no_variables (type_fault w))
    at_last = let n = near w expr_ahead in last_by n.0 n.1

    -- by the level
    by_level : (left : ℕ) → ParenRight left (if not (er.deeper left).room then made no_variables (type_fault w) else vars_read left ts)
    by_level zero = let P : Bool → Type 0 = λ c. ParenRight 0 (if not c then made no_variables (type_fault w) else vars_read 0 ts) in subst P (sym no_room) at_last
    by_level (suc m) = let P : Bool → Type 0 = λ c. ParenRight (suc m) (if not c then made no_variables (type_fault w) else vars_read (suc m) ts) in subst P (sym (has_room m)) (at_args m)

  none_found : (left : ℕ) (o : Option (List Lexeme)) → qtype_end w ≡ o → found o ≡ false → sees (at begins_params) w ≡ false → ParenRight left (if not (er.deeper left).room then made no_variables (type_fault w) else vars_read left ts)
  none_found left None e h b = by_level b e left
  none_found left (Some rest) e h b = absurd (let c : true ≡ false = h in cc)

  at_others : (left : ℕ) (b : Bool) → sees (at begins_params) w ≡ b → (b || qtype_ahead w) ≡ false → ParenRight left (if not (er.deeper left).room then made no_variables (type_fault w) else vars_read left ts)
  at_others left true b e = absurd (let c : true ≡ false = e in cc)
  at_others left false b e = none_found left (qtype_end w) refl e b

-- ---- all

module _ (left : ℕ) (ts : List Lexeme) (v : Ptrs) where
  abbrev Chosen : Outcome Lexeme EntityKind → Type 0
  Chosen o = Right entity_kinds (by never) left ts o

  named_by : (t : Lexeme) (w : List Lexeme) (read : er.ptrs ts ≡ done v (t ∷ w)) → is_id t.class ≡ true → (c o p : Bool) → sees (is k.ColonColon) w ≡ c → sees (is k.OpenParen) w ≡ o → params_ahead (tail_of w) ≡ p
      → Chosen (by_tests ts v (t ∷ w) read left false true c o p (er.deeper left).room)
  named_by t w read id true o p ce oe pe = at_colons ts v t w read id left ce
  named_by t w read id false false p ce oe pe = at_none ts v t w read id left ce oe
  named_by t [] read id false true p ce oe pe = absurd (let c : false ≡ true = oe in cc)
  named_by t (q ∷ w) read id false true true ce oe pe = at_params ts v t q w read id oe left (sees (at begins_params) w) refl pe
  named_by t (q ∷ w) read id false true false ce oe pe = at_others ts v t q w read id oe left (sees (at begins_params) w) refl pe

  token_by : (t : Lexeme) (w : List Lexeme) (read : er.ptrs ts ≡ done v (t ∷ w)) → (q i : Bool) → begins_qualified t.class ≡ q → is_id t.class ≡ i
      → Chosen (by_tests ts v (t ∷ w) read left q i (sees (is k.ColonColon) w) (sees (is k.OpenParen) w) (params_ahead (tail_of w)) (er.deeper left).room)
  token_by t w read true i qe ie = qualified ts v (t ∷ w) read left qe
  token_by t w read false false qe ie = not_named ts v (t ∷ w) read left qe ie
  token_by t w read false true qe ie = named_by t w read ie (sees (is k.ColonColon) w) (sees (is k.OpenParen) w) (params_ahead (tail_of w)) refl refl refl

  kind_by : (u : List Lexeme) → er.ptrs ts ≡ done v u → Chosen (r.entity_kind_by left u ts)
  kind_by [] read = not_named ts v [] read left refl refl
  kind_by (t ∷ w) read = token_by t w read (begins_qualified t.class) (is_id t.class) refl refl

kind_right : (left : ℕ) (ts : List Lexeme) → Read (er.ptrs ts) → Right entity_kinds (by never) left ts (r.entity_kind left ts)
unfolding r.entity_kind
kind_right left ts p = let P : List Lexeme → Type 0 = λ u. Right entity_kinds (by never) left ts (r.entity_kind_by left u ts) in subst P (sym (ap rest_of p.is)) (kind_by left ts p.value p.rest p.is)

pub exactly_entity_kind : (left : ℕ) → Exactly entity_kinds (by never) left (r.entity_kind left)
exactly_entity_kind left = record { at = λ ts. (kind_right left ts (ptrs_read ts)).exact }
