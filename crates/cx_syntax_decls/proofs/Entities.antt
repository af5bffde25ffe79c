-- Specifiers and then variables or a function are read exactly: behind modifiers a name is a type's where a type's name stands ([dcl.pre], [dcl.spec]).
use Rattle.std.proofs.Common.{◌≡◌, ℕ, ◌≤◌, Bool, true, false, ◌&&◌, ◌||◌, if◌then◌else◌, List, [], ◌∷◌, ◌++◌, length, Some, None, refl, sym, ◌∙◌, ap, subst, inl, inr, arith}
use Rattle.std.proofs.lemmas.List.{append-nil}
use Rattle.cx_base.specs.declared.rule.Rule.TheVariants.{Syntax}
use Rattle.cx_grammar.specs.Language.{◌>>◌, ◌<$>◌, none_yet, some, nothing, whole, in_first, in_second, joined}
use Rattle.cx_grammar.specs.Exact.{Family, Within, done, stop, Exact}
use Rattle.cx_grammar.specs.Reading.{sees}
use Rattle.cx_grammar.specs.Reads.{tail_of}
use Rattle.cx_grammar.specs.Sets.{by, never}
use Rattle.cx_grammar.proofs.Heads.{Heads, heads_as, heads_behind, heads_both, heads_or, heads_sub, heads_the, heads_before, not_both, opens_many, passes, same_sub}
use Rattle.cx_grammar.proofs.Steps.{Exactly, exactly_as, exactly_both}
use Rattle.cx_grammar.proofs.Unless.{front_by, within_trans}
use Rattle.cx_tree.specs.declared.names.TypeName.{TypeName}
use Rattle.cx_tree.specs.declared.decls.Entity.{Entity}
use Rattle.cx_tree.specs.declared.decls.EntityKind.{EntityKind}
use Rattle.cx_tree.specs.declared.decls.EntityKind.TheVariants as kinds
use Rattle.cx_tree.specs.declared.specifiers.Specs.{Specs}
use Rattle.cx_syntax.specs.declared.class.Class.{Class}
use Rattle.cx_syntax.specs.declared.class.Class.TheVariants as k
use Rattle.cx_syntax.specs.declared.lexeme.Lexeme.{Lexeme}
use Rattle.cx_syntax.specs.Ahead.{found, names_end, qtype_ahead, qtype_end}
use Rattle.cx_syntax.specs.Classes.{is, same_class}
use Rattle.cx_syntax.specs.Goes.{goes_name}
use Rattle.cx_syntax.specs.Sets.{is_elaboration, is_id, is_modifier, is_name, is_type, is_word, starts_fname, starts_name, starts_specs}
use Rattle.cx_syntax.specs.Values.{name_of, span_of}
use Rattle.cx_syntax.specs.Grammar as e
use Rattle.cx_syntax.specs.Readers as er
use Rattle.cx_syntax.specs.Readers.{just}
use Rattle.cx_syntax.proofs.Ahead.{Told, is_type_name, is_none, told}
use Rattle.cx_syntax.proofs.Basics.{at, apart, sub, false_of}
use Rattle.cx_syntax.proofs.Beside.{reach, used_holds, begins_in}
use Rattle.cx_syntax.proofs.Fronts.{Never, Short, never_as, never_covers, never_elsewhere, never_ended, never_short, never_two, short_as, short_both, short_measured, short_more, short_skip, short_stop, short_sub, short_two}
use Rattle.cx_syntax.proofs.Names.{heads_qtype, heads_fname}
use Rattle.cx_syntax.proofs.Primary.{exactly_id, stopped}
use Rattle.cx_syntax.proofs.Specifiers.{goes_typed, heads_specs, heads_words_type, opens_ptrs, starts_ptrs}
use Rattle.cx_syntax.proofs.TypeOrExpr.{ends_type, name_first, not_seen, qtype_read, qtype_stop, qtype_typed, short_name_type, unseen_by, whole_front}
use Rattle.cx_syntax_parts.specs.Goes.{goes_attrs}
use Rattle.cx_syntax_parts.specs.Grammar as pg
use Rattle.cx_syntax_vars.specs.Grammar as vg
use Rattle.cx_syntax_vars.specs.Sets.{starts_var}
use Rattle.cx_syntax_vars.specs.Values.{var_of}
use Rattle.cx_syntax_vars.proofs.Covering.{never_skip}
use Rattle.cx_syntax_vars.proofs.SpecsBefore.{Decides, DeclaratorNext, TypeNext, exactly_specs_then, type}
use Rattle.cx_syntax_decls.specs.Ahead.{named_next}
use Rattle.cx_syntax_decls.specs.Grammar as g
use Rattle.cx_syntax_decls.specs.Readers as r
use Rattle.cx_syntax_decls.specs.Sets.{leads_typed}
use Rattle.cx_syntax_decls.specs.Values.{entity_of, function_of}
use Rattle.cx_syntax_decls.proofs.Alike.{variables, functions, named_var, heads_named_var, colons_short, none}
use Rattle.cx_syntax_decls.proofs.Chosen.{entity_kinds, exactly_entity_kind}
use Rattle.cx_syntax_decls.proofs.Cuts.{no_some}
use Rattle.cx_syntax_decls.proofs.Functions.{heads_function, heads_paren_params, starts_function}
use Rattle.cx_syntax_decls.proofs.Lower.{exactly_attrs, heads_vars}
use Rattle.cx_syntax_decls.proofs.Parens.{no_ptrs, no_ptrs_spelled}

-- ---- what variables and functions begin with

abbrev pub starts_kind : Class → Bool
starts_kind c = starts_ptrs c || starts_fname c

pub heads_entity_kind : Heads entity_kinds (at starts_kind)
unfolding same_class
heads_entity_kind = heads_sub (sub (λ c. starts_var c || starts_function c) starts_kind refl) (heads_or (heads_as kinds.Vars (heads_behind (is k.Semicolon) heads_vars)) (heads_as kinds.Function heads_function))

-- ---- fnames and names that are expressions

pub name_short : {q : Lexeme → Bool} {u used : List Lexeme} → Short (λ n. e.id_expression (e.deeper n)) q u used → Short (λ n. e.fname) q u used
name_short s = record {
  only = λ n x y w c z. s.only n x y (name_of ((None, z.value.0), z.value.1)) c (record {
    value = ((None, z.value.0), z.value.1);
    made = refl;
    part = record { part = record { front = []; back = x; cut = refl; first = inl (record { value = tt; made = refl; part = refl }); second = z.part.part }; measure = z.part.measure };
  });
  ends = λ n x y c b. s.ends n x y c (in_second [] x None refl (inl (record { value = tt; made = refl; part = refl })) b);
}

-- where no `::` comes first
module _ (x : List Lexeme) (plain : sees (is k.ColonColon) x ≡ false) where
  led_by : (f l : List Lexeme) (s : Lexeme) → x ≡ f ++ l → f ≡ s ∷ [] → is k.ColonColon s ≡ true → ⊥
  led_by f l s cut alone colons = let first : x ≡ s ∷ l = cut ∙ ap (λ z. z ++ l) alone in not_both colons (sym (ap (sees (is k.ColonColon)) first) ∙ plain)

  fname_begins : (n : ℕ) → (e.id_expression (e.deeper n)).begins x → e.fname.begins x
  fname_begins n (in_first (inl none_first)) = subst (λ (l : List Lexeme). e.fname.begins l) (sym none_first) (heads_fname.blank n)
  fname_begins n (in_first (inr (none_yet none_first))) = subst (λ (l : List Lexeme). e.fname.begins l) (sym none_first) (heads_fname.blank n)
  fname_begins n (in_first (inr (some st (nothing none_first)))) = subst (λ (l : List Lexeme). e.fname.begins l) (sym none_first) (heads_fname.blank n)
  fname_begins n (in_first (inr (some st (whole w s)))) = absurd (led_by x [] s.token (sym (append-nil x)) s.alone (passes (is k.ColonColon) s.token w s.fits))
  fname_begins n (in_second f l o cut (inl s) b) = subst (λ (z : List Lexeme). e.fname.begins z) (sym (cut ∙ ap (λ z. z ++ l) s.part)) b
  fname_begins n (in_second f l o cut (inr s) b) = absurd (led_by f l s.part.token cut s.part.alone (passes (is k.ColonColon) s.part.token s.value s.part.fits))

-- ---- where no type's name stands

or_no : (b c : Bool) → (b || c) ≡ false → (b ≡ false) × (c ≡ false)
or_no true c p = cc
or_no false c p = (refl, p)

module _ (u : List Lexeme) (plain : sees (at leads_typed) u ≡ false) where
  no_word : sees (at is_word) u ≡ false
  unfolding same_class
  no_word = not_seen (sub is_word leads_typed refl) u plain

  no_key : sees (at is_elaboration) u ≡ false
  unfolding same_class
  no_key = not_seen (sub is_elaboration leads_typed refl) u plain

  no_colons : sees (is k.ColonColon) u ≡ false
  unfolding same_class
  no_colons = not_seen (sub (just k.ColonColon) leads_typed refl) u plain

  front_plain : (x y : List Lexeme) → u ≡ x ++ y → sees (is k.ColonColon) x ≡ false
  front_plain [] y c = refl
  front_plain (t ∷ x) y c = sym (ap (sees (is k.ColonColon)) c) ∙ no_colons

  module _ (left : ℕ) (a : er.qtype u ≡ stop Syntax left) where
    abbrev run : List Lexeme
    run = (qtype_stop u left a).used

    typed_short : Short (λ n. type) (at ends_type) u run
    unfolding same_class
    typed_short = short_two (never_short (at ends_type) (never_elsewhere heads_words_type u no_word run))
        (short_name_type u run no_key (short_sub (sub goes_name ends_type refl) (short_stop (λ n. e.qtype) (at goes_name) (at goes_name) 0 u (same_sub (at goes_name)) left (qtype_stop u left a))))

    typed_never : Never (λ n. type >> g.entity_kind n) u run
    unfolding same_class
    typed_never = never_ended typed_short heads_entity_kind (apart ends_type starts_kind refl)

    name_run : reach (er.id_expression (er.deeper 0) u) ≤ left → (n : ℕ) → e.fname.begins run
    name_run p n = let s = qtype_stop u left a in let i = (exactly_id 0 (er.deeper 0)).at u in
        let w = used_holds (λ n. e.id_expression (e.deeper n)) (by (at goes_name)) 0 u (er.id_expression (er.deeper 0) u) i s.used s.rest s.core.cut (let z = s.size in omega arith) in
        fname_begins run (front_plain run s.rest s.core.cut) n (begins_in (λ n. e.id_expression (e.deeper n)) (by (at goes_name)) 0 u (er.id_expression (er.deeper 0) u) i n (omega arith) s.used w.0 w.1)

    declared_next : (level : ℕ) → reach (er.id_expression (er.deeper 0) u) ≤ left → DeclaratorNext entity_kinds none level u
    declared_next level p = record {
      front = run;
      rest = (qtype_stop u left a).rest;
      cut = (qtype_stop u left a).core.cut;
      covers = never_covers (by (at none)) typed_never;
      begins = inr (some refl (in_second [] run no_ptrs refl no_ptrs_spelled (in_first (name_run p level))));
    }

  declared_told : (level : ℕ) → qtype_ahead u ≡ false → Told (qtype_end u) (er.qtype u) (er.id_expression (er.deeper 0) u) → DeclaratorNext entity_kinds none level u
  declared_told level ahead (is_none left x a p) = declared_next left a level p
  declared_told level ahead (is_type_name rest v x a o) = absurd (let c : true ≡ false = sym (ap found x) ∙ ahead in cc)

-- ---- where one stands

never_more : {A : Type 0} {L : Family Lexeme A} {ts used more : List Lexeme} → Within more used → Never L ts used → Never L ts more
never_more {used = used} {more = more} w s = record { only = s.only; ends = λ n x y c b. within_trans more used x w (s.ends n x y c b) }

-- an ID that begins a type's name has `::` behind it
id_scope : (t : Lexeme) (w rest : List Lexeme) → is_id t.class ≡ true → names_end (t ∷ w) ≡ Some rest → sees (is k.ColonColon) w ≡ true
id_scope t [] rest id c = absurd (no_some (sym (ap (λ b. if b then Some [] else None) (false_of (is_type t.class) (λ j. apart is_id is_type refl t id j))) ∙ c))
id_scope t (u ∷ w) rest id c = scope_by (is_name t.class && is k.ColonColon u) refl c
  where
    scope_by : (b : Bool) → (is_name t.class && is k.ColonColon u) ≡ b → (if b then names_end w else (if is_type t.class then Some (u ∷ w) else None)) ≡ Some rest → is k.ColonColon u ≡ true
    scope_by true p c = second (is_name t.class) p
      where
        second : (b : Bool) → (b && is k.ColonColon u) ≡ true → is k.ColonColon u ≡ true
        second true p = p
        second false p = cc
    scope_by false p c = absurd (no_some (sym (ap (λ b. if b then Some (u ∷ w) else None) (false_of (is_type t.class) (λ j. apart is_id is_type refl t id j))) ∙ c))

within_first : (t : Lexeme) (w used rest : List Lexeme) → t ∷ w ≡ used ++ rest → (used ≡ [] → ⊥) → Within used (t ∷ [])
within_first t w [] rest c some_used = absurd (some_used refl)
within_first t w (u ∷ used) rest c some_used = let heads : t ≡ u = cc in (used, ap (λ z. z ∷ used) (sym heads))

abbrev scoped_var : (t : Lexeme) (w : List Lexeme) → Type 0
scoped_var t w = Short (λ n. named_var n) (at goes_name) (t ∷ w) (t ∷ [])

module _ (u : List Lexeme) (plain : sees (at leads_typed) u ≡ false) (rest : List Lexeme) (v : TypeName) (ahead : qtype_end u ≡ Some rest) (a : er.qtype u ≡ done v rest) where
  abbrev pub type_exact : Exact (λ n. e.qtype) (by (at goes_name)) 0 u (done v rest)
  type_exact = qtype_read u rest v a

  unseen_ptrs : sees (at starts_ptrs) u ≡ false
  unfolding same_class
  unseen_ptrs = unseen_by (apart starts_name starts_ptrs refl) u (name_first u rest v a)

  functions_never : er.id_expression (er.deeper 0) u ≡ stop Syntax (length rest) → Never functions u type_exact.used
  unfolding same_class
  functions_never o = let s = stopped (exactly_id 0 (er.deeper 0)) u (length rest) o in let q = type_exact in
      never_as kinds.Function (never_as function_of (never_skip opens_ptrs unseen_ptrs (never_ended
      (name_short (short_more (front_by s.used s.rest q.used rest (sym s.core.cut ∙ q.core.cut) (let z = s.size in omega arith)) (short_stop (λ n. e.id_expression (e.deeper n)) (at goes_name) (at goes_name) 0 u (same_sub (at goes_name)) (length rest) s)))
      (heads_both (λ n. g.function_end n) heads_paren_params) (apart goes_name (just k.OpenParen) refl))))

  some_type : type_exact.used ≡ [] → ⊥
  some_type none_used = heads_qtype.full 0 v (subst (λ (l : List Lexeme). e.qtype.spells l v) none_used (type_exact.spells 0 (omega arith)))

  list_never : {used : List Lexeme} → Short (λ n. named_var n) (at goes_name) u used → Never variables u used
  unfolding same_class
  list_never s = never_as kinds.Vars (never_as _ (never_ended (short_as joined (short_both (short_as var_of (short_measured span_of (short_skip opens_ptrs unseen_ptrs s)))
      (opens_many (heads_before {G = λ n. vg.var n} (is k.Comma))) (apart goes_name (just k.Comma) refl))) (heads_the (is k.Semicolon)) (apart goes_name (just k.Semicolon) refl)))

  named_by : (t : Lexeme) (w : List Lexeme) → u ≡ t ∷ w → (b : Bool) → is_id t.class ≡ b → scoped_var t w
  named_by t w c true id = colons_short t w id (λ n. n) (id_scope t w rest id (sym (ap (λ b. if b then names_end (tail_of u) else names_end u) (no_colons u plain) ∙ ap names_end c) ∙ ahead))
  named_by t w c false id = never_short (at goes_name) (never_elsewhere heads_named_var (t ∷ w) id (t ∷ []))

  vars_by : (w : List Lexeme) → u ≡ w → Never variables u type_exact.used
  vars_by [] c = absurd (no_name (sym (ap qtype_end c) ∙ ahead))
    where
      no_name : None ≡ Some rest → ⊥
      no_name e2 = no_some e2
  vars_by (t ∷ w) c = never_more (within_first t w type_exact.used rest (sym c ∙ type_exact.core.cut) some_type)
      (list_never (let P : List Lexeme → Type 0 = λ l. Short (λ n. named_var n) (at goes_name) l (t ∷ []) in subst P (sym c) (named_by t w c (is_id t.class) refl)))

  pub kind_never : er.id_expression (er.deeper 0) u ≡ stop Syntax (length rest) → Never entity_kinds u type_exact.used
  kind_never o = never_two (vars_by u refl) (functions_never o)

  type_comes : er.id_expression (er.deeper 0) u ≡ stop Syntax (length rest) → TypeNext entity_kinds none u
  type_comes o = record {
    front = type_exact.used;
    rest = rest;
    cut = type_exact.core.cut;
    covers = never_covers (by (at none)) (kind_never o);
    begins = qtype_typed type_exact.used (type_exact.core.begins 0 (omega arith) type_exact.used [] (whole_front type_exact.used));
  }

type_told : (u : List Lexeme) → sees (at leads_typed) u ≡ false → found (qtype_end u) ≡ true → Told (qtype_end u) (er.qtype u) (er.id_expression (er.deeper 0) u) → TypeNext entity_kinds none u
type_told u plain ahead (is_type_name rest v x a o) = type_comes u plain rest v x a o
type_told u plain ahead (is_none left x a p) = absurd (let c : false ≡ true = sym (ap found x) ∙ ahead in cc)

type_by : (u : List Lexeme) (b : Bool) → sees (at leads_typed) u ≡ b → (b || qtype_ahead u) ≡ true → TypeNext entity_kinds none u
unfolding same_class
type_by u true leads c = record { front = []; rest = u; cut = refl; covers = never_covers (by (at none)) (never_elsewhere heads_entity_kind u (unseen_by (apart leads_typed starts_kind refl) u leads) []); begins = inl (none_yet refl) }
type_by u false leads c = type_told u leads c (told (er.deeper 0) u)

decides : (left : ℕ) → Decides entity_kinds none left named_next
decides left = record {
  declarator = λ u c. let s = or_no (sees (at leads_typed) u) (qtype_ahead u) c in declared_told u s.0 left s.1 (told (er.deeper 0) u);
  typed = λ u c. type_by u (sees (at leads_typed) u) refl c;
}

-- ---- specifiers, and an entity

abbrev pub entity_end : Family Lexeme (Specs × EntityKind)
entity_end n = e.specs >> g.entity_kind n

pub exactly_entity_end : (left : ℕ) → Exactly entity_end (by never) left (r.entity_end left)
unfolding r.entity_end same_class
exactly_entity_end left = exactly_specs_then starts_kind none heads_entity_kind (λ n. refl) (apart is_modifier starts_kind refl) (apart goes_typed starts_kind refl) (exactly_entity_kind left) (decides left)

pub heads_entity_end : Heads entity_end (at starts_specs)
heads_entity_end = heads_both (λ n. g.entity_kind n) heads_specs

-- an entity, be it no class
abbrev pub plain_entity : Family Lexeme Entity
plain_entity n = entity_of <$> (pg.attrs n >> entity_end n)

pub exactly_entity : (left : ℕ) → Exactly plain_entity (by never) left (r.entity left)
unfolding r.entity same_class
exactly_entity left = exactly_as entity_of (exactly_both (exactly_attrs left) (exactly_entity_end left) heads_entity_end (apart goes_attrs starts_specs refl))
