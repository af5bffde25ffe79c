-- Members and declarations that stand one level deeper: each token that may begin one does with a level to spare, and the readers are exact at each number of levels ([class.mem], [dcl.dcl]).
use Rattle.std.proofs.Common.{◌≡◌, ℕ, zero, suc, ◌≤◌, Bool, true, false, ◌||◌, if◌then◌else◌, List, [], ◌∷◌, Some, None, refl, ap, inl, inr, arith}
use Rattle.cx_grammar.specs.Language.{the, many, joined, present, some, whole, in_first, in_second, ◌>>◌, ◌<$>◌, ◌∥◌, ◌⊳◌, ◌⊲◌}
use Rattle.cx_grammar.specs.Exact.{Family}
use Rattle.cx_grammar.specs.Reading.{guarded, made}
use Rattle.cx_grammar.specs.Sets.{by, never}
use Rattle.cx_grammar.proofs.Choices.{Right, exactly_on, right_of}
use Rattle.cx_grammar.proofs.Heads.{Heads, heads_as, heads_before, heads_both, heads_measured, heads_or, heads_the, heads_two, never_apart, never_sub, or_right, same_sub}
use Rattle.cx_grammar.proofs.Levels.{Below, Marked, Room, exactly_below, heads_below, marked, present_at}
use Rattle.cx_grammar.proofs.Parts.{exact_as}
use Rattle.cx_grammar.proofs.Sides.{exactly_measured}
use Rattle.cx_grammar.proofs.Steps.{Exactly, ExactlyAt, exactly_token, exactly_as, exactly_before, exactly_behind, exactly_both, exactly_many, exactly_separated}
use Rattle.cx_tree.specs.declared.decls.Decl.{Decl}
use Rattle.cx_tree.specs.declared.decls.DeclKind.{DeclKind}
use Rattle.cx_tree.specs.declared.decls.DeclKind.TheVariants as d
use Rattle.cx_tree.specs.declared.decls.MemberKind.TheVariants as m
use Rattle.cx_syntax.specs.declared.class.Class.{Class}
use Rattle.cx_syntax.specs.declared.class.Class.TheVariants as k
use Rattle.cx_syntax.specs.declared.lexeme.Lexeme.{Lexeme}
use Rattle.cx_syntax.specs.Classes.{is, same_class}
use Rattle.cx_syntax.specs.Sets.{is_elaboration, is_id, is_modifier, is_name, is_word, starts_name, starts_specs}
use Rattle.cx_syntax.specs.Values.{span_of, ident_of, modifier_of, word_of}
use Rattle.cx_syntax.specs.Grammar as e
use Rattle.cx_syntax.specs.Readers.{just}
use Rattle.cx_syntax.proofs.Basics.{at, apart, sub, begun_pick, exactly_choice, exactly_pair, heads_pick}
use Rattle.cx_syntax.proofs.Begins.{begun_colons, or_begins}
use Rattle.cx_syntax.proofs.Following.{or_either}
use Rattle.cx_syntax.proofs.Fronts.{never_as}
use Rattle.cx_syntax.proofs.TypeOrExpr.{qtype_typed, typed_specs, word_typed}
use Rattle.cx_syntax_parts.specs.Goes.{goes_attrs}
use Rattle.cx_syntax_parts.specs.Grammar as pg
use Rattle.cx_syntax_parts.specs.Sets.{is_access}
use Rattle.cx_syntax_parts.specs.Values.{access_of}
use Rattle.cx_syntax_vars.specs.Grammar as vg
use Rattle.cx_syntax_decls.specs.Grammar as g
use Rattle.cx_syntax_decls.specs.Grammar.{final_class}
use Rattle.cx_syntax_decls.specs.Readers as r
use Rattle.cx_syntax_decls.specs.Sets.{is_key, starts_decl, starts_entity, starts_function, starts_member}
use Rattle.cx_syntax_decls.specs.Values.{decl_of, member_of, namespace_of, unit_of}
use Rattle.cx_syntax_decls.proofs.Classes.{exactly_class_over, heads_class}
use Rattle.cx_syntax_decls.proofs.Elaborated.{specs_entity, word_entity}
use Rattle.cx_syntax_decls.proofs.Entities.{exactly_entity}
use Rattle.cx_syntax_decls.proofs.Lower.{exactly_attrs, heads_assert, exactly_assert, heads_alias, exactly_alias, heads_enum, heads_typedef, exactly_typedef}
use Rattle.cx_syntax_decls.proofs.Members.{aliases, asserts, below_member, declared, empties, entity_right, from_aliases, from_asserts, from_empties, from_typedefs, functions, functions_begin, functions_never, functions_right, heads_accesses, heads_aliases, heads_asserts, heads_declared, heads_deep_member, heads_empties, heads_entity, heads_typedefs, starts_aliases, starts_asserts, starts_empties, starts_typedefs, typedefs}
use Rattle.cx_syntax_decls.proofs.Special.{qtype_begins}
use Rattle.cx_syntax_decls.proofs.Which.{exactly_which}

-- ---- one token

module _ (t : Lexeme) where
  the_begun : (c : Class) → is c t ≡ true → (the (is c)).begins (t ∷ [])
  the_begun c i = whole tt (record { token = t; alone = refl; fits = ap (λ b. if b then Some tt else None) i })

  specs_name : starts_name t.class ≡ true → e.specs.begins (t ∷ [])
  unfolding same_class
  specs_name i = or_either (is_name t.class) (just k.ColonColon t.class) (sub starts_name (λ c. is_name c || just k.ColonColon c) refl t i) (λ j. typed_specs (t ∷ []) (qtype_typed (t ∷ []) (qtype_begins t j)))
      (λ j. typed_specs (t ∷ []) (qtype_typed (t ∷ []) (in_first (inr (some refl (begun_colons t j))))))

  specs_other : (is_word t.class || starts_name t.class) ≡ true → e.specs.begins (t ∷ [])
  specs_other i = or_either (is_word t.class) (starts_name t.class) i (λ j. typed_specs (t ∷ []) (word_typed (t ∷ []) (begun_pick is_word word_of t j))) specs_name

  specs_first : (is_modifier t.class || (is_word t.class || starts_name t.class)) ≡ true → e.specs.begins (t ∷ [])
  specs_first i = or_either (is_modifier t.class) (is_word t.class || starts_name t.class) i (λ j. in_first (record { front = []; back = t ∷ []; cut = refl; turns = []; whole = refl; next = some refl (begun_pick is_modifier modifier_of t j) })) specs_other

  attrs_begun : (n : ℕ) → at goes_attrs t ≡ true → (pg.attrs n).begins (t ∷ [])
  attrs_begun n i = record { front = []; back = t ∷ []; cut = refl; turns = []; whole = refl; next = some refl (in_first (the_begun k.OpenBracket i)) }

  -- specifiers begin an entity
  specs_begun : (n : ℕ) → starts_specs t.class ≡ true → (g.entity n).begins (t ∷ [])
  specs_begun n i = record {
    part = or_either (is_elaboration t.class) (is_modifier t.class || (is_word t.class || starts_name t.class)) (sub starts_specs (λ c. is_elaboration c || (is_modifier c || (is_word c || starts_name c))) refl t i) (λ j. word_entity t j n)
        (λ j. specs_entity n (t ∷ []) (in_first (specs_first j)));
    clear = refl;
  }

  entity_begun : (n : ℕ) → starts_entity t.class ≡ true → (g.entity n).begins (t ∷ [])
  entity_begun n i = or_either (just k.OpenBracket t.class) (starts_specs t.class) i (λ j. record { part = in_first (attrs_begun n j); clear = refl }) (specs_begun n)

  dtor_begun : (n : ℕ) → is k.Tilde t ≡ true → (g.dtor n).begins (t ∷ [])
  dtor_begun n i = in_second [] (t ∷ []) _ refl (record { value = []; made = refl; part = refl }) (in_second [] (t ∷ []) [] refl refl (in_first (in_first (in_first (in_first (the_begun k.Tilde i))))))

  functions_begun : (n : ℕ) → starts_function t.class ≡ true → (functions n).begins (t ∷ [])
  functions_begun n i = or_either (just k.Tilde t.class) (starts_entity t.class) i (λ j. inr (some refl (inl (some refl (dtor_begun n j))))) (λ j. functions_begin n (t ∷ []) (entity_begun n j))

  assert_begun : (n : ℕ) → is k.StaticAssert t ≡ true → (pg.assert n).begins (t ∷ [])
  assert_begun n i = in_first (in_first (the_begun k.StaticAssert i))

assert_stays : (n : ℕ) → (pg.assert n).stays ≡ true
assert_stays zero = refl
assert_stays (suc n) = refl

-- ---- each alternative of a member

module _ (t : Lexeme) (n : ℕ) where
  declared_begun : starts_function t.class ≡ true → (declared n).begins (t ∷ [])
  declared_begun i = inr (some refl (inr (some refl (functions_begun t n i))))

  typedefs_begun : starts_typedefs t.class ≡ true → (typedefs n ∥ declared n).begins (t ∷ [])
  typedefs_begun i = or_begins (just k.Typedef t.class) (starts_function t.class) i (λ j. some refl (in_first (the_begun t k.Typedef j))) (λ j. some refl (declared_begun j))

  aliases_begun : starts_aliases t.class ≡ true → (aliases n ∥ (typedefs n ∥ declared n)).begins (t ∷ [])
  aliases_begun i = or_begins (just k.Using t.class) (starts_typedefs t.class) i (λ j. some refl (in_first (in_first (the_begun t k.Using j)))) (λ j. some refl (typedefs_begun j))

  asserts_begun : starts_asserts t.class ≡ true → (asserts n ∥ (aliases n ∥ (typedefs n ∥ declared n))).begins (t ∷ [])
  asserts_begun i = or_begins (just k.StaticAssert t.class) (starts_aliases t.class) i (λ j. some (assert_stays n) (assert_begun t n j)) (λ j. some refl (aliases_begun j))

  empties_begun : starts_empties t.class ≡ true → (empties n ∥ (asserts n ∥ (aliases n ∥ (typedefs n ∥ declared n)))).begins (t ∷ [])
  empties_begun i = or_begins (just k.Semicolon t.class) (starts_asserts t.class) i (λ j. some refl (the_begun t k.Semicolon j)) (λ j. some (or_right (pg.assert n).stays refl) (asserts_begun j))

  member_begun : starts_member t.class ≡ true → (g.member n).begins (t ∷ [])
  member_begun i = or_begins (is_access t.class) (starts_empties t.class) i (λ j. some refl (in_first (begun_pick is_access access_of t j))) (λ j. some refl (empties_begun j))

-- ---- members

member_marked : (t : Lexeme) → at starts_member t ≡ true → Marked (λ n. g.deeper_member n) t
member_marked t i = record { enough = 1; begins = deep_begun; gone = refl; unspelled = λ x w s. s; stays = λ n. refl }
  where
    deep_begun : (n : ℕ) → 1 ≤ n → (g.deeper_member n).begins (t ∷ [])
    deep_begun zero p = absurd (omega arith)
    deep_begun (suc n) p = member_begun t n i

room_members : Room (λ n. (r.deeper_member n).room)
unfolding r.deeper_member
room_members = record { none = refl; some = λ n. refl }

no_members : (r.deeper_member 0).room ≡ true → ⊥
unfolding r.deeper_member
no_members c = cc

abbrev Members : ℕ → Type 0
Members left = ExactlyAt (at starts_member) (λ n. present (g.deeper_member n)) (by never) left (guarded (r.deeper_member left).room (r.deeper_member left).member)

members_at : (left : ℕ) → ((r.deeper_member left).room ≡ true → Exactly (λ n. g.deeper_member n) (by never) left (r.deeper_member left).member) → Members left
members_at left x = exactly_on (at starts_member) (guarded (r.deeper_member left).room (r.deeper_member left).member) (λ t ts h. marked (λ n. (r.deeper_member n).room) room_members left (member_marked t h) x)

module _ (left : ℕ) (below : Members left) where
  class_over : Exactly (λ n. g.class n) (by never) left (r.class left)
  class_over = exactly_class_over left below heads_deep_member

  exactly_declared : Exactly declared (by never) left (r.declared_member left (r.deeper_member left))
  unfolding r.declared_member
  exactly_declared = exactly_which m.Enum m.Class functions functions_never functions_begin (λ n. refl) left (r.member_function left) (λ ts f. functions_right left ts f) class_over

  exactly_member_kind : Exactly (λ n. g.member_kind n (g.deeper_member n)) (by never) left (r.member_kind left (r.deeper_member left))
  unfolding r.member_kind same_class
  exactly_member_kind = exactly_choice is_access starts_empties refl heads_accesses from_empties (present_at refl (λ n. refl) (exactly_as m.Access (exactly_behind (is k.Colon) exactly_token (never_apart (is k.Colon)))))
      (exactly_pair (exactly_choice (just k.Semicolon) starts_asserts refl heads_empties from_asserts (present_at refl (λ n. refl) (exactly_as (λ _. m.Empty) exactly_token))
      (exactly_pair (exactly_choice (just k.StaticAssert) starts_aliases refl heads_asserts from_aliases (present_at refl (λ n. refl) (exactly_as m.Assert (exactly_assert left)))
      (exactly_pair (exactly_choice (just k.Using) starts_typedefs refl heads_aliases from_typedefs (present_at refl (λ n. refl) (exactly_as m.Alias (exactly_alias left)))
      (exactly_pair (exactly_choice (just k.Typedef) starts_function refl heads_typedefs heads_declared (present_at refl (λ n. refl) (exactly_as m.Typedef (exactly_typedef left)))
      (exactly_pair exactly_declared)))))))))

  exactly_member_over : Exactly (λ n. g.member n) (by never) left (r.member left)
  unfolding r.member_over
  exactly_member_over = exactly_as member_of (exactly_measured span_of exactly_member_kind)

-- members one level deeper
sound_members : (left : ℕ) → (r.deeper_member left).room ≡ true → Exactly (λ n. g.deeper_member n) (by never) left (r.deeper_member left).member
unfolding r.deeper_member
sound_members zero c = absurd (no_members c)
sound_members (suc left) c = exactly_below below_member (exactly_member_over left (members_at left (sound_members left)))

pub exactly_member : (left : ℕ) → Exactly (λ n. g.member n) (by never) left (r.member left)
exactly_member left = exactly_member_over left (members_at left (sound_members left))

pub exactly_class : (left : ℕ) → Exactly (λ n. g.class n) (by never) left (r.class left)
exactly_class left = class_over left (members_at left (sound_members left))

-- ---- namespaces

abbrev bodies_below : Family Lexeme (List Decl)
bodies_below n = is k.OpenBrace ⊳ many (g.deeper_decl n) ⊲ is k.CloseBrace

exactly_space_names : (left : ℕ) → Exactly (λ n. g.space_names) (by (at (just k.ColonColon))) left r.space_names
unfolding r.space_names
exactly_space_names left = exactly_separated (at (just k.ColonColon)) (heads_pick is_id ident_of) (is k.ColonColon) exactly_token (present_at refl (λ n. refl) (exactly_before (is k.ColonColon) exactly_token)) (never_apart (is k.ColonColon)) (never_sub (at (just k.ColonColon))) (same_sub (is k.ColonColon))

abbrev starts_space_names : Class → Bool
starts_space_names c = is_id c

heads_space_names : Heads (λ n. g.space_names) (at is_id)
heads_space_names = heads_as joined (heads_both (λ n. many (is k.ColonColon ⊳ e.id)) (heads_pick is_id ident_of))

pub heads_space : Heads (λ n. g.space n) (at (just k.Namespace))
heads_space = heads_as namespace_of (heads_both (λ n. g.space_names >> bodies_below n) (heads_before {G = λ n. pg.attrs n} (is k.Namespace)))

-- ---- declarations

abbrev declared_here : Family Lexeme DeclKind
declared_here n = (d.Enum <$> pg.enum n) ∥ ((d.Class <$> g.class n) ∥ (d.Entity <$> g.entity n))

heads_declared_here : Heads declared_here (at starts_entity)
unfolding same_class
heads_declared_here = heads_two (heads_as d.Enum heads_enum) (sub (just k.Enum) starts_entity refl) (heads_two (heads_as d.Class heads_class) (sub is_key starts_entity refl) (heads_as d.Entity heads_entity))

abbrev typedef_decls : Family Lexeme DeclKind
typedef_decls n = d.Typedef <$> vg.typedef

abbrev alias_decls : Family Lexeme DeclKind
alias_decls n = d.Alias <$> pg.alias n

abbrev assert_decls : Family Lexeme DeclKind
assert_decls n = d.Assert <$> pg.assert n

abbrev space_decls : Family Lexeme DeclKind
space_decls n = d.Namespace <$> g.space n

abbrev empty_decls : Family Lexeme DeclKind
empty_decls n = (λ _. d.Empty) <$> the (is k.Semicolon)

abbrev starts_typedef_decls : Class → Bool
starts_typedef_decls c = just k.Typedef c || starts_entity c

abbrev starts_alias_decls : Class → Bool
starts_alias_decls c = just k.Using c || starts_typedef_decls c

abbrev starts_assert_decls : Class → Bool
starts_assert_decls c = just k.StaticAssert c || starts_alias_decls c

abbrev starts_space_decls : Class → Bool
starts_space_decls c = just k.Namespace c || starts_assert_decls c

heads_typedef_decls : Heads (λ n. typedef_decls n ∥ declared_here n) (at starts_typedef_decls)
unfolding same_class
heads_typedef_decls = heads_or (heads_as d.Typedef heads_typedef) heads_declared_here

heads_alias_decls : Heads (λ n. alias_decls n ∥ (typedef_decls n ∥ declared_here n)) (at starts_alias_decls)
unfolding same_class
heads_alias_decls = heads_or (heads_as d.Alias heads_alias) heads_typedef_decls

heads_assert_decls : Heads (λ n. assert_decls n ∥ (alias_decls n ∥ (typedef_decls n ∥ declared_here n))) (at starts_assert_decls)
unfolding same_class
heads_assert_decls = heads_or (heads_as d.Assert heads_assert) heads_alias_decls

heads_space_decls : Heads (λ n. space_decls n ∥ (assert_decls n ∥ (alias_decls n ∥ (typedef_decls n ∥ declared_here n)))) (at starts_space_decls)
unfolding same_class
heads_space_decls = heads_or (heads_as d.Namespace heads_space) heads_assert_decls

pub heads_decl : Heads (λ n. g.decl n) (at starts_decl)
unfolding same_class
heads_decl = heads_as decl_of (heads_measured span_of (heads_or (heads_as (λ _. d.Empty) (heads_the (is k.Semicolon))) heads_space_decls))

pub below_decl : Below (λ n. g.deeper_decl n) (λ n. g.decl n)
below_decl = record { none = refl; one_less = λ n. refl }

pub heads_deep_decl : Heads (λ n. g.deeper_decl n) (at starts_decl)
heads_deep_decl = heads_below below_decl heads_decl

module _ (t : Lexeme) (n : ℕ) where
  here_begun : starts_entity t.class ≡ true → (declared_here n).begins (t ∷ [])
  here_begun i = inr (some refl (inr (some refl (entity_begun t n i))))

  typedef_begun : starts_typedef_decls t.class ≡ true → (typedef_decls n ∥ declared_here n).begins (t ∷ [])
  typedef_begun i = or_begins (just k.Typedef t.class) (starts_entity t.class) i (λ j. some refl (in_first (the_begun t k.Typedef j))) (λ j. some refl (here_begun j))

  alias_begun : starts_alias_decls t.class ≡ true → (alias_decls n ∥ (typedef_decls n ∥ declared_here n)).begins (t ∷ [])
  alias_begun i = or_begins (just k.Using t.class) (starts_typedef_decls t.class) i (λ j. some refl (in_first (in_first (the_begun t k.Using j)))) (λ j. some refl (typedef_begun j))

  assert_decl_begun : starts_assert_decls t.class ≡ true → (assert_decls n ∥ (alias_decls n ∥ (typedef_decls n ∥ declared_here n))).begins (t ∷ [])
  assert_decl_begun i = or_begins (just k.StaticAssert t.class) (starts_alias_decls t.class) i (λ j. some (assert_stays n) (assert_begun t n j)) (λ j. some refl (alias_begun j))

  space_begun : starts_space_decls t.class ≡ true → (space_decls n ∥ (assert_decls n ∥ (alias_decls n ∥ (typedef_decls n ∥ declared_here n)))).begins (t ∷ [])
  space_begun i = or_begins (just k.Namespace t.class) (starts_assert_decls t.class) i (λ j. some refl (in_first (in_first (the_begun t k.Namespace j)))) (λ j. some (or_right (pg.assert n).stays refl) (assert_decl_begun j))

  decl_begun : starts_decl t.class ≡ true → (g.decl n).begins (t ∷ [])
  decl_begun i = or_begins (just k.Semicolon t.class) (starts_space_decls t.class) i (λ j. some refl (the_begun t k.Semicolon j)) (λ j. some refl (space_begun j))

decl_marked : (t : Lexeme) → at starts_decl t ≡ true → Marked (λ n. g.deeper_decl n) t
decl_marked t i = record { enough = 1; begins = deep_begun; gone = refl; unspelled = λ x w s. s; stays = λ n. refl }
  where
    deep_begun : (n : ℕ) → 1 ≤ n → (g.deeper_decl n).begins (t ∷ [])
    deep_begun zero p = absurd (omega arith)
    deep_begun (suc n) p = decl_begun t n i

room_decls : Room (λ n. (r.deeper_decl n).room)
unfolding r.deeper_decl
room_decls = record { none = refl; some = λ n. refl }

no_decls : (r.deeper_decl 0).room ≡ true → ⊥
unfolding r.deeper_decl
no_decls c = cc

abbrev Decls : ℕ → Type 0
Decls left = ExactlyAt (at starts_decl) (λ n. present (g.deeper_decl n)) (by never) left (guarded (r.deeper_decl left).room (r.deeper_decl left).decl)

decls_at : (left : ℕ) → ((r.deeper_decl left).room ≡ true → Exactly (λ n. g.deeper_decl n) (by never) left (r.deeper_decl left).decl) → Decls left
decls_at left x = exactly_on (at starts_decl) (guarded (r.deeper_decl left).room (r.deeper_decl left).decl) (λ t ts h. marked (λ n. (r.deeper_decl n).room) room_decls left (decl_marked t h) x)

abbrev starts_space_attrs : Class → Bool
starts_space_attrs c = is_id c

module _ (left : ℕ) (below : Decls left) where
  exactly_decls : Exactly (λ n. many (g.deeper_decl n)) (by (at starts_decl)) left (r.decls left (r.deeper_decl left))
  unfolding r.decls
  exactly_decls = exactly_many (at starts_decl) heads_deep_decl below (never_sub (at starts_decl)) (same_sub (at starts_decl)) (never_apart (at starts_decl))

  exactly_space_over : Exactly (λ n. g.space n) (by never) left (r.space left)
  unfolding r.space_over same_class
  exactly_space_over = exactly_as namespace_of (exactly_both (exactly_before (is k.Namespace) (exactly_attrs left))
      (exactly_both (exactly_space_names left) (exactly_before (is k.OpenBrace) (exactly_behind (is k.CloseBrace) exactly_decls (apart starts_decl (just k.CloseBrace) refl)))
      (heads_before {G = λ n. many (g.deeper_decl n) ⊲ is k.CloseBrace} (is k.OpenBrace)) (apart (just k.ColonColon) (just k.OpenBrace) refl))
      (heads_both bodies_below heads_space_names) (apart goes_attrs is_id refl))

  exactly_declared_here : Exactly declared_here (by never) left (r.declared left (r.deeper_decl left))
  unfolding r.declared
  exactly_declared_here = exactly_which d.Enum d.Class (λ n. d.Entity <$> g.entity n) (λ ts used i s. never_as d.Entity s) (λ n x b. b) (λ n. refl) left (λ ts. made d.Entity (r.entity left ts))
      (λ ts f. entity_made left ts f) (exactly_class left)
    where
      entity_made : (left : ℕ) (ts : List Lexeme) → final_class ts ≡ false → Right (λ n. d.Entity <$> g.entity n) (by never) left ts (made d.Entity (r.entity left ts))
      entity_made left ts f = record { exact = exact_as d.Entity (λ n. g.entity n) (by never) (by never) (λ v t i. i) left ts (r.entity left ts) (entity_right left ts (r.entity left ts) f (right_of (exactly_entity left) ts)).exact }

  exactly_decl_kind : Exactly (λ n. g.decl_kind n (g.deeper_decl n)) (by never) left (r.decl_kind left (r.deeper_decl left))
  unfolding r.decl_kind same_class
  exactly_decl_kind = exactly_choice (just k.Semicolon) starts_space_decls refl (heads_as (λ _. d.Empty) (heads_the (is k.Semicolon))) heads_space_decls (present_at refl (λ n. refl) (exactly_as (λ _. d.Empty) exactly_token))
      (exactly_pair (exactly_choice (just k.Namespace) starts_assert_decls refl (heads_as d.Namespace heads_space) heads_assert_decls (present_at refl (λ n. refl) (exactly_as d.Namespace exactly_space_over))
      (exactly_pair (exactly_choice (just k.StaticAssert) starts_alias_decls refl (heads_as d.Assert heads_assert) heads_alias_decls (present_at refl (λ n. refl) (exactly_as d.Assert (exactly_assert left)))
      (exactly_pair (exactly_choice (just k.Using) starts_typedef_decls refl (heads_as d.Alias heads_alias) heads_typedef_decls (present_at refl (λ n. refl) (exactly_as d.Alias (exactly_alias left)))
      (exactly_pair (exactly_choice (just k.Typedef) starts_entity refl (heads_as d.Typedef heads_typedef) heads_declared_here (present_at refl (λ n. refl) (exactly_as d.Typedef (exactly_typedef left)))
      (exactly_pair exactly_declared_here)))))))))

  exactly_decl_over : Exactly (λ n. g.decl n) (by never) left (r.decl left)
  unfolding r.decl_over
  exactly_decl_over = exactly_as decl_of (exactly_measured span_of exactly_decl_kind)

-- declarations one level deeper
sound_decls : (left : ℕ) → (r.deeper_decl left).room ≡ true → Exactly (λ n. g.deeper_decl n) (by never) left (r.deeper_decl left).decl
unfolding r.deeper_decl
sound_decls zero c = absurd (no_decls c)
sound_decls (suc left) c = exactly_below below_decl (exactly_decl_over left (decls_at left (sound_decls left)))

pub exactly_decl : (left : ℕ) → Exactly (λ n. g.decl n) (by never) left (r.decl left)
exactly_decl left = exactly_decl_over left (decls_at left (sound_decls left))

pub exactly_space : (left : ℕ) → Exactly (λ n. g.space n) (by never) left (r.space left)
exactly_space left = exactly_space_over left (decls_at left (sound_decls left))

-- ---- a unit

pub exactly_unit : (left : ℕ) → Exactly (λ n. g.unit n) (by never) left (r.unit left)
unfolding r.unit same_class
exactly_unit left = exactly_as unit_of (exactly_behind (is k.End)
    (exactly_many (at starts_decl) heads_decl (present_at refl (λ n. refl) (exactly_decl left)) (never_sub (at starts_decl)) (same_sub (at starts_decl)) (never_apart (at starts_decl))) (apart starts_decl (just k.End) refl))
