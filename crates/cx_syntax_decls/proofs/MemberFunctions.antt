-- Constructors, destructors and entities begin alike: which is read is told behind their attributes and modifiers ([class.mem], [class.ctor], [class.dtor]).
use Rattle.std.proofs.Common.{◌≡◌, ℕ, Bool, true, false, not, ◌&&◌, ◌||◌, if◌then◌else◌, List, [], ◌∷◌, ◌++◌, length, Some, None, refl, sym, ◌∙◌, ap, subst, inl, inr, arith}
use Rattle.cx_base.specs.declared.rule.Rule.TheVariants.{Syntax}
use Rattle.cx_grammar.specs.Language.{many, present, none_yet, some, in_first, in_second, ◌>>◌, ◌<$>◌, ◌∥◌}
use Rattle.cx_grammar.specs.Exact.{Family, Outcome, done, stop, Exact}
use Rattle.cx_grammar.specs.Reading.{made, sees}
use Rattle.cx_grammar.specs.Sets.{by, never}
use Rattle.cx_grammar.proofs.Classes.{variants}
use Rattle.cx_grammar.proofs.Heads.{Apart, Heads, heads_as, heads_both, heads_sub, heads_two, not_both, opens_many, opens_sub, same_sub}
use Rattle.cx_grammar.proofs.Parts.{Same}
use Rattle.cx_grammar.proofs.Sames.{same_refl, same_both, same_trans, exactly_same}
use Rattle.cx_grammar.proofs.Steps.{Exactly, exactly_as, exactly_both}
use Rattle.cx_grammar.proofs.Choices.{Right, right_of, right_two}
use Rattle.cx_grammar.proofs.Levels.{there_present}
use Rattle.cx_tree.specs.declared.names.TypeName.{TypeName}
use Rattle.cx_tree.specs.declared.specifiers.Modifier.{Modifier}
use Rattle.cx_tree.specs.declared.decls.MemberKind.{MemberKind}
use Rattle.cx_tree.specs.declared.decls.MemberKind.TheVariants as m
use Rattle.cx_syntax.specs.declared.class.Class.{Class}
use Rattle.cx_syntax.specs.declared.class.Class.TheVariants as k
use Rattle.cx_syntax.specs.declared.lexeme.Lexeme.{Lexeme}
use Rattle.cx_syntax.specs.contracts.class.Class.{enum}
use Rattle.cx_syntax.specs.Ahead.{names_end, qtype_end}
use Rattle.cx_syntax.specs.Classes.{is, same_class}
use Rattle.cx_syntax.specs.Goes.{goes_name}
use Rattle.cx_syntax.specs.Sets.{is_elaboration, is_modifier, is_name, is_type, is_word, starts_specs, starts_typed}
use Rattle.cx_syntax.specs.Values.{pick, span_of, ident_of, modifier_of, specs_of}
use Rattle.cx_syntax.specs.Grammar as e
use Rattle.cx_syntax.specs.Readers as er
use Rattle.cx_syntax.specs.Readers.{just}
use Rattle.cx_syntax.proofs.Ahead.{Told, is_type_name, is_none, told, no_second}
use Rattle.cx_syntax.proofs.Basics.{at, apart, sub, begun_pick, false_of, heads_after, heads_pick}
use Rattle.cx_syntax.proofs.Beside.{covers_present, first_begun, second_begun}
use Rattle.cx_syntax.proofs.Fronts.{Never, Short, never_as, never_covers, never_elsewhere, never_ended, never_short, never_two, short_as, short_done, short_measured, short_two}
use Rattle.cx_syntax.proofs.Specifiers.{exactly_modifiers, heads_typed, heads_words_type}
use Rattle.cx_syntax.proofs.TypeOrExpr.{ends_type, qtype_read, short_name_type, unseen_by}
use Rattle.cx_syntax_parts.specs.Goes.{goes_attrs}
use Rattle.cx_syntax_parts.specs.Grammar as pg
use Rattle.cx_syntax_vars.proofs.Covering.{either_before, one_left}
use Rattle.cx_syntax_vars.proofs.Names.{name_type_begun, type_read}
use Rattle.cx_syntax_vars.proofs.SpecsBefore.{ModsRead, mods_alone, mods_read, mods_typed, specs_apart, type, with_type}
use Rattle.cx_syntax_decls.specs.Ahead.{rest_of}
use Rattle.cx_syntax_decls.specs.Grammar as g
use Rattle.cx_syntax_decls.specs.Readers as r
use Rattle.cx_syntax_decls.specs.Sets.{leads_typed}
use Rattle.cx_syntax_decls.specs.Values.{Behind, of_ctor, of_dtor, of_entity, ConstructorEnd, DestructorEnd, constructor_of, destructor_of, entity_of, function_by, member_function_of}
use Rattle.cx_syntax_decls.proofs.Alike.{none}
use Rattle.cx_syntax_decls.proofs.Chosen.{cut_more, entity_kinds}
use Rattle.cx_syntax_decls.proofs.Cuts.{no_some, some_same}
use Rattle.cx_syntax_decls.proofs.Entities.{entity_end, exactly_entity_end, heads_entity_end, heads_entity_kind, kind_never, plain_entity, starts_kind}
use Rattle.cx_syntax_decls.proofs.Functions.{heads_paren_params}
use Rattle.cx_syntax_decls.proofs.Lower.{blank_attrs, exactly_attrs}
use Rattle.cx_syntax_decls.proofs.Passing.{Passed, passed_done, behind_never, behind_short, blocked_first}
use Rattle.cx_syntax_decls.proofs.Declared.{passed_token}
use Rattle.cx_syntax_decls.proofs.Special.{exactly_ctor_end, exactly_dtor_end, heads_ctor_end, heads_dtor_end}

abbrev pub ctor_behind : Family Lexeme (List Modifier × ConstructorEnd)
ctor_behind n = many e.modifier >> g.ctor_end n

abbrev pub dtor_behind : Family Lexeme (List Modifier × DestructorEnd)
dtor_behind n = many e.modifier >> g.dtor_end n

pub exactly_ctor_behind : (left : ℕ) → Exactly ctor_behind (by never) left (r.ctor_behind left)
exactly_ctor_behind left = exactly_both (exactly_modifiers left) (exactly_ctor_end left) heads_ctor_end (apart is_modifier is_type refl)

pub exactly_dtor_behind : (left : ℕ) → Exactly dtor_behind (by never) left (r.dtor_behind left)
unfolding same_class
exactly_dtor_behind left = exactly_both (exactly_modifiers left) (exactly_dtor_end left) heads_dtor_end (apart is_modifier (just k.Tilde) refl)

-- the three, each as what stands behind attributes
abbrev a_ctor : Family Lexeme Behind
a_ctor n = of_ctor <$> ctor_behind n

abbrev a_dtor : Family Lexeme Behind
a_dtor n = of_dtor <$> dtor_behind n

abbrev an_entity : Family Lexeme Behind
an_entity n = of_entity <$> entity_end n

abbrev pub behind_attrs : Family Lexeme Behind
behind_attrs n = a_ctor n ∥ (a_dtor n ∥ an_entity n)

pub never_same : {A : Type 0} {G H : Family Lexeme A} {ts used : List Lexeme} → Same G H → Never G ts used → Never H ts used
never_same c s = record { only = λ n x y w d z. s.only n x y w d (c.spelled n x w z); ends = λ n x y d b. s.ends n x y d (c.begun n x b) }

-- ---- a TYPE that no `::` follows

module _ (t p : Lexeme) (w : List Lexeme) (is_it : is_type t.class ≡ true) (lone : is k.ColonColon p ≡ false) where
  plain : sees (at leads_typed) (t ∷ p ∷ w) ≡ false
  unfolding same_class
  plain = unseen_by (apart is_type leads_typed refl) (t ∷ p ∷ w) is_it

  not_global : is k.ColonColon t ≡ false
  unfolding same_class
  not_global = false_of (is k.ColonColon t) (λ j. apart is_type (just k.ColonColon) refl t is_it j)

  type_ends : qtype_end (t ∷ p ∷ w) ≡ Some (p ∷ w)
  type_ends = ap (λ b. if b then names_end (p ∷ w) else names_end (t ∷ p ∷ w)) not_global
      ∙ (ap (λ b. if is_name t.class && b then names_end w else (if is_type t.class then Some (p ∷ w) else None)) lone ∙ (ap (λ b. if b then names_end w else (if is_type t.class then Some (p ∷ w) else None)) (no_second (is_name t.class)) ∙ ap (λ b. if b then Some (p ∷ w) else None) is_it))

  kind_at : (rest : List Lexeme) (v : TypeName) → rest ≡ p ∷ w → (x : qtype_end (t ∷ p ∷ w) ≡ Some rest) (a : er.qtype (t ∷ p ∷ w) ≡ done v rest) → er.id_expression (er.deeper 0) (t ∷ p ∷ w) ≡ stop Syntax (length rest) → Never entity_kinds (t ∷ p ∷ w) (t ∷ [])
  kind_at rest v c x a o = let q = qtype_read (t ∷ p ∷ w) rest v a in let K : List Lexeme → Type 0 = λ l. Never entity_kinds (t ∷ p ∷ w) l in
      subst K (one_left t (p ∷ w) q.used rest q.core.cut (ap length c)) (kind_never (t ∷ p ∷ w) plain rest v x a o)

  kind_told : Told (qtype_end (t ∷ p ∷ w)) (er.qtype (t ∷ p ∷ w)) (er.id_expression (er.deeper 0) (t ∷ p ∷ w)) → Never entity_kinds (t ∷ p ∷ w) (t ∷ [])
  kind_told (is_type_name rest v x a o) = kind_at rest v (some_same (sym x ∙ type_ends)) x a o
  kind_told (is_none left x a o) = absurd (no_some (sym x ∙ type_ends))

  -- nothing is declared at it
  pub type_kind : Never entity_kinds (t ∷ p ∷ w) (t ∷ [])
  type_kind = kind_told (told (er.deeper 0) (t ∷ p ∷ w))

  -- as a type it goes no further before `(` and `{`
  pub type_short : is k.OpenParen p ≡ true → Short (λ n. type) (at ends_type) (t ∷ p ∷ w) (t ∷ [])
  unfolding same_class
  type_short paren = let a = type_read t (p ∷ w) is_it lone in let q = qtype_read (t ∷ p ∷ w) (p ∷ w) a.value a.is in let T : List Lexeme → Type 0 = λ l. Short (λ n. type) (at ends_type) (t ∷ p ∷ w) l in
      subst T (one_left t (p ∷ w) q.used (p ∷ w) q.core.cut refl) (short_two (never_short (at ends_type) (never_elsewhere heads_words_type (t ∷ p ∷ w) (unseen_by (apart is_type is_word refl) (t ∷ p ∷ w) is_it) q.used))
      (short_name_type (t ∷ p ∷ w) q.used (unseen_by (apart is_type is_elaboration refl) (t ∷ p ∷ w) is_it)
      (short_done (λ n. e.qtype) (at goes_name) (at ends_type) 0 (t ∷ p ∷ w) (sub goes_name ends_type refl) a.value (p ∷ w) q (blocked_first (at ends_type) p w (sub (just k.OpenParen) ends_type refl p paren)))))

-- ---- behind modifiers

module _ (ts : List Lexeme) (ms : List Modifier) (u : List Lexeme) (read : er.modifiers ts ≡ done ms u) where
  pub mods_exact : Exact (λ (n : ℕ). many e.modifier) (by (at is_modifier)) 0 ts (done ms u)
  mods_exact = let P : Outcome Lexeme (List Modifier) → Type 0 = λ o. Exact (λ (n : ℕ). many e.modifier) (by (at is_modifier)) 0 ts o in subst P read ((exactly_modifiers 0).at ts)

  abbrev pub front : List Lexeme
  front = mods_exact.used

  mods_passed : Passed (λ (n : ℕ). many e.modifier) (at is_modifier) ts front u
  mods_passed = passed_done (λ n. many e.modifier) (at is_modifier) 0 ts u ms mods_exact

  alone_passed : Passed (λ (n : ℕ). mods_alone) (at is_modifier) ts front u
  alone_passed = record { cut = mods_passed.cut; only = λ n x y w c s. mods_passed.only n x y s.part.part.value c s.part.part.part.part; ends = mods_passed.ends }

  ctor_never : {more : List Lexeme} → Never (λ n. g.ctor_end n) u more → Never a_ctor ts (front ++ more)
  ctor_never s = never_as of_ctor (behind_never mods_passed heads_ctor_end (apart is_modifier is_type refl) s)

  dtor_never : {more : List Lexeme} → Never (λ n. g.dtor_end n) u more → Never a_dtor ts (front ++ more)
  unfolding same_class
  dtor_never s = never_as of_dtor (behind_never mods_passed heads_dtor_end (apart is_modifier (just k.Tilde) refl) s)

  entity_never : (q : Class → Bool) → Apart (at q) (at starts_kind) → {more : List Lexeme} → Short (λ n. type) (at q) u more → Never entity_kinds u more → Never an_entity ts (front ++ more)
  unfolding same_class
  entity_never q a s z = never_as of_entity (never_same (same_trans (either_before (λ n. mods_alone) (λ n. mods_typed) entity_kinds (λ n. refl) (λ n. refl) (λ n. refl)) (same_both specs_apart (same_refl entity_kinds)))
      (never_two (behind_never alone_passed heads_entity_kind (apart is_modifier starts_kind refl) z)
      (never_ended (short_as specs_of (short_measured span_of (short_as with_type (behind_short mods_passed heads_typed (apart is_modifier starts_typed refl) s)))) heads_entity_kind a)))

  ctor_begins : (n : ℕ) (x : List Lexeme) → (g.ctor_end n).begins x → (a_ctor n).begins (front ++ x)
  ctor_begins n x b = in_second front x ms refl (mods_exact.spells 0 (omega arith)) b

  dtor_begins : (n : ℕ) (x : List Lexeme) → (g.dtor_end n).begins x → (a_dtor n).begins (front ++ x)
  dtor_begins n x b = in_second front x ms refl (mods_exact.spells 0 (omega arith)) b

  entity_begins : (n : ℕ) (x : List Lexeme) → type.begins x → (an_entity n).begins (front ++ x)
  entity_begins n x b = in_first (in_second front x ms refl (mods_exact.spells 0 (omega arith)) (inr (some refl b)))

  -- ---- each of the three

  abbrev BehindRight : ℕ → Outcome Lexeme Behind → Type 0
  BehindRight left o = Right behind_attrs (by never) left ts o

  ctor_right : (left : ℕ) → Right (λ n. present (a_ctor n)) (by never) left ts (made of_ctor (r.ctor_behind left ts))
  ctor_right left = there_present refl (λ n. refl) (right_of (exactly_as of_ctor (exactly_ctor_behind left)) ts)

  dtor_right : (left : ℕ) → Right (λ n. present (a_dtor n)) (by never) left ts (made of_dtor (r.dtor_behind left ts))
  dtor_right left = there_present refl (λ n. refl) (right_of (exactly_as of_dtor (exactly_dtor_behind left)) ts)

  entity_right : (left : ℕ) → Right (λ n. present (an_entity n)) (by never) left ts (made of_entity (r.entity_end left ts))
  entity_right left = there_present refl (λ n. refl) (right_of (exactly_as of_entity (exactly_entity_end left)) ts)

  module _ (left : ℕ) (x y : List Lexeme) (c : u ≡ x ++ y) where
    whole_cut : ts ≡ (front ++ x) ++ y
    whole_cut = cut_more ts front u x y mods_exact.core.cut c

    ctor_chosen : Never a_dtor ts (front ++ x) → Never an_entity ts (front ++ x) → (g.ctor_end left).begins x → BehindRight left (made of_ctor (r.ctor_behind left ts))
    ctor_chosen d n b = first_begun (ctor_right left) (front ++ x) y whole_cut (covers_present (never_covers (by never) (never_two d n))) (some refl (ctor_begins left x b))

    dtor_chosen : Never a_ctor ts (front ++ x) → Never an_entity ts (front ++ x) → (g.dtor_end left).begins x → BehindRight left (made of_dtor (r.dtor_behind left ts))
    dtor_chosen d n b = second_begun (right_two (first_begun (dtor_right left) (front ++ x) y whole_cut (covers_present (never_covers (by never) n)) (some refl (dtor_begins left x b))))
        (front ++ x) y whole_cut (covers_present (never_covers (by never) d)) (some refl (inl (some refl (dtor_begins left x b))))

    entity_chosen : Never a_ctor ts (front ++ x) → Never a_dtor ts (front ++ x) → type.begins x → BehindRight left (made of_entity (r.entity_end left ts))
    entity_chosen d n b = second_begun (right_two (second_begun (entity_right left) (front ++ x) y whole_cut (covers_present (never_covers (by never) n)) (some refl (entity_begins left x b))))
        (front ++ x) y whole_cut (covers_present (never_covers (by never) d)) (some refl (inr (some refl (entity_begins left x b))))

  -- ---- by the next tokens

  at_tilde : (left : ℕ) → sees (is k.Tilde) u ≡ true → BehindRight left (made of_dtor (r.dtor_behind left ts))
  unfolding same_class
  at_tilde left i = dtor_chosen left [] u refl (ctor_never (never_elsewhere heads_ctor_end u (unseen_by (apart (just k.Tilde) is_type refl) u i) []))
      (entity_never none (λ t a b. no_true a) (never_short (at none) (never_elsewhere heads_typed u (unseen_by (apart (just k.Tilde) starts_typed refl) u i) [])) (never_elsewhere heads_entity_kind u (unseen_by (apart (just k.Tilde) starts_kind refl) u i) []))
      (heads_dtor_end.blank left)
    where
      no_true : false ≡ true → ⊥
      no_true c = cc

  -- neither a TYPE nor `~`
  at_other : (left : ℕ) → sees (at is_type) u ≡ false → sees (is k.Tilde) u ≡ false → BehindRight left (made of_entity (r.entity_end left ts))
  at_other left t i = entity_chosen left [] u refl (ctor_never (never_elsewhere heads_ctor_end u t [])) (dtor_never (never_elsewhere heads_dtor_end u i [])) (inl (none_yet refl))

module _ (ts : List Lexeme) (ms : List Modifier) (t : Lexeme) (w : List Lexeme) (read : er.modifiers ts ≡ done ms (t ∷ w)) (is_it : is_type t.class ≡ true) where
  type_tilde : sees (is k.Tilde) (t ∷ w) ≡ false
  unfolding same_class
  type_tilde = unseen_by (apart is_type (just k.Tilde) refl) (t ∷ w) is_it

  at_named : (left : ℕ) → sees (is k.OpenParen) w ≡ false → Right behind_attrs (by never) left ts (made of_entity (r.entity_end left ts))
  at_named left o = entity_chosen ts ms (t ∷ w) read left (t ∷ []) w refl
      (ctor_never ts ms (t ∷ w) read (behind_never (passed_token (pick is_type ident_of) (at none) t w) (heads_both (λ n. pg.noex n >> g.ctor_body n) heads_paren_params) (λ x i. cc) (never_elsewhere (heads_both (λ n. pg.noex n >> g.ctor_body n) heads_paren_params) w o [])))
      (dtor_never ts ms (t ∷ w) read (never_elsewhere heads_dtor_end (t ∷ w) type_tilde (t ∷ []))) (name_type_begun t (sub is_type is_name refl t is_it))

module _ (ts : List Lexeme) (ms : List Modifier) (t p : Lexeme) (w : List Lexeme) (read : er.modifiers ts ≡ done ms (t ∷ p ∷ w)) (is_it : is_type t.class ≡ true) (paren : is k.OpenParen p ≡ true) where
  at_ctor : (left : ℕ) → Right behind_attrs (by never) left ts (made of_ctor (r.ctor_behind left ts))
  unfolding same_class
  at_ctor left = let lone = false_of (is k.ColonColon p) (λ j. apart (just k.OpenParen) (just k.ColonColon) refl p paren j) in ctor_chosen ts ms (t ∷ p ∷ w) read left (t ∷ []) (p ∷ w) refl
      (dtor_never ts ms (t ∷ p ∷ w) read (never_elsewhere heads_dtor_end (t ∷ p ∷ w) (type_tilde ts ms t (p ∷ w) read is_it) (t ∷ [])))
      (entity_never ts ms (t ∷ p ∷ w) read ends_type (apart ends_type starts_kind refl) (type_short t p w is_it lone paren) (type_kind t p w is_it lone)) (in_first (begun_pick is_type ident_of t is_it))

module _ (left : ℕ) (ts : List Lexeme) (ms : List Modifier) where
  abbrev behind_by : Bool → Bool → List Lexeme → Outcome Lexeme Behind
  behind_by c d ts = if c then made of_ctor (r.ctor_behind left ts) else (if d then made of_dtor (r.dtor_behind left ts) else made of_entity (r.entity_end left ts))

  typed_by : (t : Lexeme) (w : List Lexeme) → er.modifiers ts ≡ done ms (t ∷ w) → is_type t.class ≡ true → (o : Bool) → sees (is k.OpenParen) w ≡ o → (d : Bool) → is k.Tilde t ≡ d → Right behind_attrs (by never) left ts (behind_by o d ts)
  typed_by t [] read i true oe d de = absurd (let c : false ≡ true = oe in cc)
  typed_by t (p ∷ w) read i true oe d de = at_ctor ts ms t p w read i oe left
  typed_by t w read i false oe true de = absurd (not_both de (type_tilde ts ms t w read i))
  typed_by t w read i false oe false de = at_named ts ms t w read i left oe

  first_by : (t : Lexeme) (w : List Lexeme) → er.modifiers ts ≡ done ms (t ∷ w) → (i d : Bool) → is_type t.class ≡ i → is k.Tilde t ≡ d → Right behind_attrs (by never) left ts (behind_by (i && sees (is k.OpenParen) w) d ts)
  first_by t w read true d ie de = typed_by t w read ie (sees (is k.OpenParen) w) refl d de
  first_by t w read false true ie de = at_tilde ts ms (t ∷ w) read left de
  first_by t w read false false ie de = at_other ts ms (t ∷ w) read left ie de

  mods_by : (u : List Lexeme) → er.modifiers ts ≡ done ms u → Right behind_attrs (by never) left ts (r.behind_attrs_by left u ts)
  mods_by [] read = at_other ts ms [] read left refl refl
  mods_by (t ∷ w) read = first_by t w read (is_type t.class) (is k.Tilde t) refl refl

behind_right : (left : ℕ) (ts : List Lexeme) → ModsRead ts → Right behind_attrs (by never) left ts (r.behind_attrs left ts)
unfolding r.behind_attrs
behind_right left ts p = let P : List Lexeme → Type 0 = λ u. Right behind_attrs (by never) left ts (r.behind_attrs_by left u ts) in subst P (sym (ap rest_of p.is)) (mods_by left ts p.taken p.rest p.is)

pub exactly_behind_attrs : (left : ℕ) → Exactly behind_attrs (by never) left (r.behind_attrs left)
exactly_behind_attrs left = record { at = λ ts. (behind_right left ts (mods_read ts)).exact }

-- ---- with the attributes

-- as the grammar writes them, be an entity a class or not
abbrev pub plain_functions : Family Lexeme MemberKind
plain_functions n = (m.Constructor <$> g.ctor n) ∥ ((m.Destructor <$> g.dtor n) ∥ (m.Entity <$> plain_entity n))

-- as they are read
abbrev read_functions : Family Lexeme MemberKind
read_functions n = member_function_of <$> (pg.attrs n >> behind_attrs n)

functions_spells : (n : ℕ) (x : List Lexeme) (w : MemberKind) → (read_functions n).spells x w → (plain_functions n).spells x w
functions_spells n x w s = let i = s.part in elim i.second [
  | inl a ↦ inl (record { value = constructor_of (s.value.0, a.value); made = s.made ∙ ap (function_by s.value.0) a.made; part = record { value = (s.value.0, a.value); made = refl; part = record { front = i.front; back = i.back; cut = i.cut; first = i.first; second = a.part } } })
  | inr (inl a) ↦ inr (inl (record { value = destructor_of (s.value.0, a.value); made = s.made ∙ ap (function_by s.value.0) a.made; part = record { value = (s.value.0, a.value); made = refl; part = record { front = i.front; back = i.back; cut = i.cut; first = i.first; second = a.part } } }))
  | inr (inr a) ↦ inr (inr (record { value = entity_of (s.value.0, a.value); made = s.made ∙ ap (function_by s.value.0) a.made; part = record { value = (s.value.0, a.value); made = refl; part = record { front = i.front; back = i.back; cut = i.cut; first = i.first; second = a.part } } }))
]

functions_spelled : (n : ℕ) (x : List Lexeme) (w : MemberKind) → (plain_functions n).spells x w → (read_functions n).spells x w
functions_spelled n x w (inl s) = let i = s.part.part in record { value = (s.part.value.0, of_ctor s.part.value.1); made = s.made ∙ ap m.Constructor s.part.made; part = record { front = i.front; back = i.back; cut = i.cut; first = i.first; second = inl (record { value = s.part.value.1; made = refl; part = i.second }) } }
functions_spelled n x w (inr (inl s)) = let i = s.part.part in record { value = (s.part.value.0, of_dtor s.part.value.1); made = s.made ∙ ap m.Destructor s.part.made; part = record { front = i.front; back = i.back; cut = i.cut; first = i.first; second = inr (inl (record { value = s.part.value.1; made = refl; part = i.second })) } }
functions_spelled n x w (inr (inr s)) = let i = s.part.part in record { value = (s.part.value.0, of_entity s.part.value.1); made = s.made ∙ ap m.Entity s.part.made; part = record { front = i.front; back = i.back; cut = i.cut; first = i.first; second = inr (inr (record { value = s.part.value.1; made = refl; part = i.second })) } }

abbrev Attributed : ℕ → List Lexeme → Type 0
Attributed n x = (plain_functions n).begins x

mods_blank : (n : ℕ) → (ctor_behind n).begins []
mods_blank n = in_first (record { front = []; back = []; cut = refl; turns = []; whole = refl; next = none_yet refl })

-- a front behind the attributes
behind_begun : (n : ℕ) (x f l : List Lexeme) (v : ℕ) → x ≡ f ++ l → (pg.attrs n).spells f v → (behind_attrs n).begins l → Attributed n x
behind_begun n x f l v cut s (inl (none_yet c)) = inl (some refl (in_second f l v cut s (subst (λ (z : List Lexeme). (ctor_behind n).begins z) (sym c) (mods_blank n))))
behind_begun n x f l v cut s (inl (some st b)) = inl (some refl (in_second f l v cut s b))
behind_begun n x f l v cut s (inr (none_yet c)) = inl (some refl (in_second f l v cut s (subst (λ (z : List Lexeme). (ctor_behind n).begins z) (sym c) (mods_blank n))))
behind_begun n x f l v cut s (inr (some st (inl (none_yet c)))) = inr (some refl (inr (some refl (in_second f l v cut s (subst (λ (z : List Lexeme). (entity_end n).begins z) (sym c) (heads_entity_end.blank n))))))
behind_begun n x f l v cut s (inr (some st (inr (none_yet c)))) = inr (some refl (inr (some refl (in_second f l v cut s (subst (λ (z : List Lexeme). (entity_end n).begins z) (sym c) (heads_entity_end.blank n))))))
behind_begun n x f l v cut s (inr (some st (inl (some st2 b)))) = inr (some refl (inl (some refl (in_second f l v cut s b))))
behind_begun n x f l v cut s (inr (some st (inr (some st2 b)))) = inr (some refl (inr (some refl (in_second f l v cut s b))))

functions_begins : (n : ℕ) (x : List Lexeme) → (read_functions n).begins x → (plain_functions n).begins x
functions_begins n x (in_first b) = inl (some refl (in_first b))
functions_begins n x (in_second f l v cut s b) = behind_begun n x f l v cut s b

none_begun : (n : ℕ) (x : List Lexeme) → x ≡ [] → (read_functions n).begins x
none_begun n x c = in_first (subst (λ (z : List Lexeme). (pg.attrs n).begins z) (sym c) (blank_attrs n))

functions_begun : (n : ℕ) (x : List Lexeme) → (plain_functions n).begins x → (read_functions n).begins x
functions_begun n x (inl (none_yet c)) = none_begun n x c
functions_begun n x (inl (some st (in_first b))) = in_first b
functions_begun n x (inl (some st (in_second f l v cut s b))) = in_second f l v cut s (inl (some refl b))
functions_begun n x (inr (none_yet c)) = none_begun n x c
functions_begun n x (inr (some st (inl (none_yet c)))) = none_begun n x c
functions_begun n x (inr (some st (inl (some st2 (in_first b))))) = in_first b
functions_begun n x (inr (some st (inl (some st2 (in_second f l v cut s b))))) = in_second f l v cut s (inr (some refl (inl (some refl b))))
functions_begun n x (inr (some st (inr (none_yet c)))) = none_begun n x c
functions_begun n x (inr (some st (inr (some st2 (in_first b))))) = in_first b
functions_begun n x (inr (some st (inr (some st2 (in_second f l v cut s b))))) = in_second f l v cut s (inr (some refl (inr (some refl b))))

functions_same : Same read_functions plain_functions
functions_same = record { spells = functions_spells; spelled = functions_spelled; begins = functions_begins; begun = functions_begun }

-- what stands behind attributes
abbrev pub starts_behind : Class → Bool
starts_behind c = just k.Tilde c || starts_specs c

heads_mods : {A : Type 0} {H : Family Lexeme A} (p : Class → Bool) → (variants enum).each (λ c. not (p c) || starts_behind c) ≡ true → Heads H (at p) → Heads (λ n. many e.modifier >> H n) (at starts_behind)
unfolding same_class
heads_mods p s h = heads_after (opens_sub (sub is_modifier starts_behind refl) (opens_many (heads_pick is_modifier modifier_of))) (λ n. record { front = []; back = []; cut = refl; turns = []; whole = refl; next = none_yet refl }) (heads_sub (sub p starts_behind s) h)

pub heads_ctor_behind : Heads ctor_behind (at starts_behind)
unfolding same_class
heads_ctor_behind = heads_mods is_type refl heads_ctor_end

pub heads_dtor_behind : Heads dtor_behind (at starts_behind)
unfolding same_class
heads_dtor_behind = heads_mods (just k.Tilde) refl heads_dtor_end

heads_behind_attrs : Heads behind_attrs (at starts_behind)
unfolding same_class
heads_behind_attrs = heads_two (heads_as of_ctor heads_ctor_behind) (same_sub (at starts_behind)) (heads_two (heads_as of_dtor heads_dtor_behind) (same_sub (at starts_behind)) (heads_as of_entity (heads_sub (sub starts_specs starts_behind refl) heads_entity_end)))

pub exactly_member_function : (left : ℕ) → Exactly plain_functions (by never) left (r.member_function left)
unfolding r.member_function same_class
exactly_member_function left = exactly_same functions_same (exactly_as member_function_of (exactly_both (exactly_attrs left) (exactly_behind_attrs left) heads_behind_attrs (apart goes_attrs starts_behind refl)))

-- each by itself

pub exactly_ctor : (left : ℕ) → Exactly (λ n. g.ctor n) (by never) left (r.ctor left)
unfolding r.ctor same_class
exactly_ctor left = exactly_as constructor_of (exactly_both (exactly_attrs left) (exactly_ctor_behind left) heads_ctor_behind (apart goes_attrs starts_behind refl))

pub exactly_dtor : (left : ℕ) → Exactly (λ n. g.dtor n) (by never) left (r.dtor left)
unfolding r.dtor same_class
exactly_dtor left = exactly_as destructor_of (exactly_both (exactly_attrs left) (exactly_dtor_behind left) heads_dtor_behind (apart goes_attrs starts_behind refl))
