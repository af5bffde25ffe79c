-- An enumeration, a class, or what else is declared with their words: the tests tell which ([dcl.enum], [class.pre], [dcl.type.elab]).
use Rattle.std.proofs.Common.{◌≡◌, ℕ, suc, Bool, true, false, not, ◌&&◌, ◌||◌, if◌then◌else◌, List, [], ◌∷◌, ◌++◌, Some, None, refl, sym, ◌∙◌, ap, subst, inl, inr, append_assoc}
use Rattle.cx_grammar.specs.Language.{the, maybe, present, some, in_first, in_second, joined, ◌>>◌, ◌<$>◌, ◌∥◌}
use Rattle.cx_grammar.specs.Exact.{Family, Outcome, Within}
use Rattle.cx_grammar.specs.Reading.{Reader, made, sees, sees_two}
use Rattle.cx_grammar.specs.Reads.{tail_of}
use Rattle.cx_grammar.specs.Sets.{by, never, of}
use Rattle.cx_grammar.proofs.Heads.{Heads, heads_as, heads_before, heads_the, not_both, opens_many, opens_maybe, or_right}
use Rattle.cx_grammar.proofs.Choices.{Right, right_of, right_two, second_of_two}
use Rattle.cx_grammar.proofs.Levels.{begun_by, there_present}
use Rattle.cx_grammar.proofs.Steps.{Exactly, exactly_as}
use Rattle.cx_tree.specs.declared.decls.Class.{Class as ClassTree}
use Rattle.cx_tree.specs.declared.decls.EntityKind.TheVariants as kinds
use Rattle.cx_tree.specs.declared.decls.Enumeration.{Enumeration}
use Rattle.cx_syntax.specs.declared.class.Class.TheVariants as k
use Rattle.cx_syntax.specs.declared.lexeme.Lexeme.{Lexeme}
use Rattle.cx_syntax.specs.Classes.{class_at, is, same_class}
use Rattle.cx_syntax.specs.Sets.{is_elaboration, is_id, is_modifier, is_name, is_type, starts_name}
use Rattle.cx_syntax.specs.Values.{pick, span_of, ident_of}
use Rattle.cx_syntax.specs.Grammar as e
use Rattle.cx_syntax.specs.Readers.{just}
use Rattle.cx_syntax.proofs.Ahead.{and_first, and_second}
use Rattle.cx_syntax.proofs.Basics.{at, apart, sub, begun_pick, both_true, false_of}
use Rattle.cx_syntax.proofs.Beside.{covers_present, first_begun, second_begun}
use Rattle.cx_syntax.proofs.Fronts.{Never, never_as, never_covers, never_elsewhere, never_ended, never_led, never_measured, never_two, short_as, short_both, short_measured, short_skip}
use Rattle.cx_syntax.proofs.Following.{or_either}
use Rattle.cx_syntax.proofs.NameFaults.{seen_sub}
use Rattle.cx_syntax.proofs.Names.{heads_qtype}
use Rattle.cx_syntax.proofs.Specifiers.{opens_ptrs, starts_ptrs}
use Rattle.cx_syntax.proofs.TypeOrExpr.{not_seen, unseen_by, blocked_seen}
use Rattle.cx_syntax_parts.specs.Goes.{goes_attrs}
use Rattle.cx_syntax_parts.specs.Grammar as pg
use Rattle.cx_syntax_parts.specs.Readers as pr
use Rattle.cx_syntax_parts.specs.Sets.{is_enum_key}
use Rattle.cx_syntax_parts.proofs.Enums.{heads_behind_name, heads_named, heads_unnamed, starts_behind_name, starts_unnamed}
use Rattle.cx_syntax_stmts.specs.Ahead.{enum_ahead, enum_behind}
use Rattle.cx_syntax_stmts.specs.Sets.{follows_enum, follows_enum_name}
use Rattle.cx_syntax_vars.specs.Grammar as vg
use Rattle.cx_syntax_vars.specs.Values.{var_of}
use Rattle.cx_syntax_vars.proofs.Covering.{never_skip}
use Rattle.cx_syntax_decls.specs.Ahead.{class_ahead, class_behind}
use Rattle.cx_syntax_decls.specs.Grammar as g
use Rattle.cx_syntax_decls.specs.Grammar.{final_class}
use Rattle.cx_syntax_decls.specs.Readers as r
use Rattle.cx_syntax_decls.specs.Sets.{begins_class_body, begins_class_end, is_final, is_key}
use Rattle.cx_syntax_decls.specs.Values.{function_of}
use Rattle.cx_syntax_decls.proofs.Alike.{id_short, lone_never, none, opens_var_end, starts_var_end}
use Rattle.cx_syntax_decls.proofs.Chosen.{entity_kinds}
use Rattle.cx_syntax_decls.proofs.Classes.{final_class_begun, final_end, heads_class, key_class, name_class, named_class, other_end, starts_class_end, unnamed_class}
use Rattle.cx_syntax_decls.proofs.Declared.{passed_token}
use Rattle.cx_syntax_decls.proofs.Elaborated.{name_entity, named_never, type_entity, unnamed_never, word_entity}
use Rattle.cx_syntax_decls.proofs.Entities.{heads_entity_kind, plain_entity, starts_kind}
use Rattle.cx_syntax_decls.proofs.Lower.{opens_attrs, heads_enum, exactly_enum}
use Rattle.cx_syntax_decls.proofs.MemberFunctions.{type_kind}
use Rattle.cx_syntax_decls.proofs.Passing.{behind_never, short_idle}

-- ---- an enumeration at `enum`

module _ (c : Lexeme) (enumerated : is k.Enum c ≡ true) where
  word_spelled : (the (is k.Enum)).spells (c ∷ []) tt
  word_spelled = record { token = c; alone = refl; fits = ap (λ b. if b then Some tt else None) enumerated }

  word_enum : (n : ℕ) → (pg.enum n).begins (c ∷ [])
  word_enum n = inl (some refl (begun_by (λ m. maybe (the (of class_at is_enum_key)) >> pg.attrs m >> e.type_only >> maybe pg.enum_base >> pg.enum_end m) (is k.Enum) c enumerated n))

  type_enum : (n : ℕ) (t : Lexeme) → is_type t.class ≡ true → (pg.enum n).begins (c ∷ t ∷ [])
  type_enum n t is_it = inl (some refl (in_second (c ∷ []) (t ∷ []) tt refl word_spelled (in_second [] (t ∷ []) None refl (inl (record { value = tt; made = refl; part = refl }))
      (in_second [] (t ∷ []) _ refl (record { value = []; made = refl; part = refl }) (in_first (begun_pick is_type ident_of t is_it))))))

  -- nothing follows that is an enumeration's alone, nor a TYPE
  unnamed_enum : (u : List Lexeme) → sees (at follows_enum) u ≡ false → sees (at is_type) u ≡ false → Never (λ n. pg.enum n) (c ∷ u) (c ∷ [])
  unfolding same_class
  unnamed_enum u f t = let attrs = not_seen (sub goes_attrs follows_enum refl) u f in never_as _ (never_measured span_of (never_two
      (never_as _ (never_led (is k.Enum) c (never_skip (opens_maybe (heads_the (of class_at is_enum_key))) (not_seen (sub is_enum_key follows_enum refl) u f) (never_skip opens_attrs attrs (never_elsewhere heads_named u t [])))))
      (never_as _ (never_led (is k.Enum) c (never_skip opens_attrs attrs (never_elsewhere heads_unnamed u (not_seen (sub starts_unnamed follows_enum refl) u f) []))))))

  -- behind a TYPE nothing that is one's
  named_enum : (t : Lexeme) (w : List Lexeme) → is_type t.class ≡ true → sees (at follows_enum_name) w ≡ false → Never (λ n. pg.enum n) (c ∷ t ∷ w) (c ∷ t ∷ [])
  unfolding same_class
  named_enum t w is_it f = let attrs = unseen_by (apart is_type goes_attrs refl) (t ∷ w) is_it in never_as _ (never_measured span_of (never_two
      (never_as _ (never_led (is k.Enum) c (never_skip (opens_maybe (heads_the (of class_at is_enum_key))) (unseen_by (apart is_type is_enum_key refl) (t ∷ w) is_it)
      (never_skip opens_attrs attrs (behind_never (passed_token (pick is_type ident_of) (at none) t w) heads_behind_name (λ x a b. no_true a) (never_elsewhere heads_behind_name w (not_seen (sub starts_behind_name follows_enum_name refl) w f) []))))))
      (never_as _ (never_led (is k.Enum) c (never_skip opens_attrs attrs (never_elsewhere heads_unnamed (t ∷ w) (unseen_by (apart is_type starts_unnamed refl) (t ∷ w) is_it) (t ∷ [])))))))
    where
      no_true : false ≡ true → ⊥
      no_true a = cc

-- ---- an entity behind a class's name

never_unless : {ts used : List Lexeme} → Never plain_entity ts used → Never (λ n. g.entity n) ts used
never_unless s = record { only = λ n x y w d z. s.only n x y w d z.part; ends = λ n x y d b. s.ends n x y d b.part }

unless_begins : (n : ℕ) (x : List Lexeme) → final_class x ≡ false → (plain_entity n).begins x → (g.entity n).begins x
unless_begins n x c b = record { part = b; clear = c }

-- `final` before `:` is no name that is declared
module _ (f d : Lexeme) (w : List Lexeme) (colon : is k.Colon d ≡ true) where
  lone : is k.ColonColon d ≡ false
  unfolding same_class
  lone = false_of (is k.ColonColon d) (λ j. apart (just k.Colon) (just k.ColonColon) refl d colon j)

  id_kind : is_id f.class ≡ true → Never entity_kinds (f ∷ d ∷ w) (f ∷ [])
  unfolding same_class
  id_kind id = let ptrs = unseen_by (apart is_id starts_ptrs refl) (f ∷ d ∷ w) id in never_two
      (never_as kinds.Vars (never_as _ (never_ended (short_as joined (short_both (short_as var_of (short_measured span_of (short_skip opens_ptrs ptrs
      (id_short f (d ∷ w) id (λ n. n) (just k.Colon) (short_idle opens_var_end (d ∷ w) (unseen_by (apart (just k.Colon) starts_var_end refl) (d ∷ w) colon) (at (just k.Colon)) (blocked_seen (at (just k.Colon)) (d ∷ w) colon))))))
      (opens_many (heads_before {G = λ n. vg.var n} (is k.Comma))) (apart (just k.Colon) (just k.Comma) refl))) (heads_the (is k.Semicolon)) (apart (just k.Colon) (just k.Semicolon) refl))))
      (never_as kinds.Function (never_as function_of (never_skip opens_ptrs ptrs (lone_never f (d ∷ w) id lone (false_of (is k.OpenParen d) (λ j. apart (just k.Colon) (just k.OpenParen) refl d colon j))))))

  kind_by : (b : Bool) → is_type f.class ≡ b → is_name f.class ≡ true → Never entity_kinds (f ∷ d ∷ w) (f ∷ [])
  kind_by true t named = type_kind f d w t lone
  kind_by false t named = id_kind (sub (λ c. is_name c && not (is_type c)) is_id refl f (both_true (is_name f.class) (not (is_type f.class)) named (ap not t)))

module _ (c t f : Lexeme) (keyed : is_key c.class ≡ true) (is_it : is_type t.class ≡ true) (is_one : is_final f.class ≡ true) where
  key_elaborates : is_elaboration c.class ≡ true
  key_elaborates = sub is_key is_elaboration refl c keyed

  -- bases
  colon_entity : (d : Lexeme) (w : List Lexeme) → is k.Colon d ≡ true → Never plain_entity (c ∷ t ∷ f ∷ d ∷ w) (c ∷ t ∷ f ∷ [])
  unfolding same_class
  colon_entity d w colon = named_never c t (f ∷ d ∷ w) key_elaborates is_it (unseen_by (apart is_final (just k.ColonColon) refl) (f ∷ d ∷ w) is_one) (unseen_by (apart is_final is_modifier refl) (f ∷ d ∷ w) is_one)
      (kind_by f d w colon (is_type f.class) refl (sub is_final is_name refl f is_one))

  -- members: no entity begins with the four tokens
  module _ (d : Lexeme) (w : List Lexeme) (opens_it : is k.OpenBrace d ≡ true) where
    four : final_class (c ∷ t ∷ f ∷ d ∷ []) ≡ true
    four = both_true _ (is k.OpenBrace d) (both_true _ (is_final f.class) (both_true (is_key c.class) (is_type t.class) keyed is_it) is_one) opens_it

    not_past : (x y : List Lexeme) → c ∷ t ∷ f ∷ d ∷ w ≡ x ++ y → final_class x ≡ false → Within (c ∷ t ∷ f ∷ []) x
    not_past [] y p z = (c ∷ t ∷ f ∷ [], refl)
    not_past (a ∷ []) y p z = let one : c ≡ a = cc in (t ∷ f ∷ [], ap (λ l. l ∷ t ∷ f ∷ []) one)
    not_past (a ∷ b ∷ []) y p z = let one : c ≡ a = cc in let two : t ≡ b = cc in (f ∷ [], ap (λ l. l ∷ t ∷ f ∷ []) one ∙ ap (λ l. a ∷ l ∷ f ∷ []) two)
    not_past (a ∷ b ∷ h ∷ []) y p z = let one : c ≡ a = cc in let two : t ≡ b = cc in let three : f ≡ h = cc in ([], ap (λ l. l ∷ t ∷ f ∷ []) one ∙ (ap (λ l. a ∷ l ∷ f ∷ []) two ∙ ap (λ l. a ∷ b ∷ l ∷ []) three))
    not_past (a ∷ b ∷ h ∷ j ∷ x) y p z = let one : c ≡ a = cc in let two : t ≡ b = cc in let three : f ≡ h = cc in let last : d ≡ j = cc in
        absurd (not_both (sym (ap (λ l. final_class (l ∷ t ∷ f ∷ d ∷ [])) one ∙ (ap (λ l. final_class (a ∷ l ∷ f ∷ d ∷ [])) two ∙ (ap (λ l. final_class (a ∷ b ∷ l ∷ d ∷ [])) three ∙ ap (λ l. final_class (a ∷ b ∷ h ∷ l ∷ [])) last))) ∙ four) z)

    -- the same with `:` in the place of the brace
    abbrev colon : Lexeme
    colon = record { class = k.Colon; kind = d.kind; span = d.span; text = [] }

    is_colon : is k.Colon colon ≡ true
    unfolding same_class
    is_colon = refl

    brace_entity : Never (λ n. g.entity n) (c ∷ t ∷ f ∷ d ∷ w) (c ∷ t ∷ f ∷ [])
    brace_entity = record {
      only = λ n x y v p z. let q = not_past x y p z.clear in (colon_entity colon [] is_colon).only n x (q.0 ++ colon ∷ []) v (ap (λ l. l ++ colon ∷ []) q.1 ∙ append_assoc x q.0 (colon ∷ [])) z.part;
      ends = λ n x y p b. not_past x y p b.clear;
    }

  -- either
  class_entity : (d : Lexeme) (w : List Lexeme) → begins_class_body d.class ≡ true → (b : Bool) → is k.Colon d ≡ b → Never (λ n. g.entity n) (c ∷ t ∷ f ∷ d ∷ w) (c ∷ t ∷ f ∷ [])
  unfolding same_class
  class_entity d w body true p = never_unless (colon_entity d w p)
  class_entity d w body false p = brace_entity d w (sub (λ l. begins_class_body l && not (just k.Colon l)) (just k.OpenBrace) refl d (both_true (begins_class_body d.class) (not (just k.Colon d.class)) body (ap not p)))

-- ---- the tests

no_key_final : (ts : List Lexeme) → final_class ts ≡ true → class_ahead ts ≡ true
unfolding same_class
no_key_final [] z = cc
no_key_final (t ∷ []) z = cc
no_key_final (t ∷ u ∷ []) z = cc
no_key_final (t ∷ u ∷ v ∷ []) z = cc
no_key_final (t ∷ u ∷ v ∷ w ∷ ts) z =
    let three = and_first ((is_key t.class && is_type u.class) && is_final v.class) (is k.OpenBrace w) z in
    let two = and_first (is_key t.class && is_type u.class) (is_final v.class) three in
    both_true (is_key t.class) _ (and_first (is_key t.class) (is_type u.class) two) (or_right (is k.OpenBracket u)
    (both_true (is_type u.class) _ (and_second (is_key t.class) (is_type u.class) two) (or_right (begins_class_end v.class)
    (both_true (is_final v.class) (begins_class_body w.class) (and_second (is_key t.class && is_type u.class) (is_final v.class) three) (sub (just k.OpenBrace) begins_class_body refl w (and_second ((is_key t.class && is_type u.class) && is_final v.class) (is k.OpenBrace w) z))))))

pub not_final : (ts : List Lexeme) → class_ahead ts ≡ false → final_class ts ≡ false
not_final ts nc = false_of (final_class ts) (λ z. not_both (no_key_final ts z) nc)

not_end : (f : Lexeme) → begins_class_end f.class ≡ false → is_final f.class ≡ false → starts_class_end f.class ≡ false
unfolding same_class
not_end f other last = false_of (starts_class_end f.class) (λ s. or_either (begins_class_end f.class) (is_final f.class) (sub starts_class_end (λ c. begins_class_end c || is_final c) refl f s) (λ a. not_both a other) (λ b. not_both b last))

-- ---- which of them

module _ {R : Type 0} (fe : Enumeration → R) (fc : ClassTree → R) (X : Family Lexeme R)
    (lift_never : (ts used : List Lexeme) → sees (at is_elaboration) ts ≡ true → Never (λ n. g.entity n) ts used → Never X ts used)
    (lift_begins : (n : ℕ) (x : List Lexeme) → (g.entity n).begins x → (X n).begins x) (stays : (n : ℕ) → (X n).stays ≡ true)
    (left : ℕ) (read : Reader Lexeme R) (x_right : (ts : List Lexeme) → final_class ts ≡ false → Right X (by never) left ts (read ts))
    (class_exact : Exactly (λ n. g.class n) (by never) left (r.class left))
  where
    abbrev enums : Family Lexeme R
    enums n = fe <$> pg.enum n

    abbrev classes : Family Lexeme R
    classes n = fc <$> g.class n

    abbrev pub which : Family Lexeme R
    which n = enums n ∥ (classes n ∥ X n)

    heads_enums : Heads enums (at (just k.Enum))
    heads_enums = heads_as fe heads_enum

    heads_classes : Heads classes (at is_key)
    heads_classes = heads_as fc heads_class

    abbrev WhichRight : List Lexeme → Outcome Lexeme R → Type 0
    WhichRight ts o = Right which (by never) left ts o

    enum_there : (ts : List Lexeme) → Right (λ n. present (enums n)) (by never) left ts (made fe (pr.enum left ts))
    enum_there ts = there_present refl (λ n. refl) (right_of (exactly_as fe (exactly_enum left)) ts)

    class_there : (ts : List Lexeme) → Right (λ n. present (classes n)) (by never) left ts (made fc (r.class left ts))
    class_there ts = there_present refl (λ n. refl) (right_of (exactly_as fc class_exact) ts)

    other_there : (ts : List Lexeme) → class_ahead ts ≡ false → Right (λ n. present (X n)) (by never) left ts (read ts)
    other_there ts nc = there_present (stays 0) (λ n. stays (suc n)) (x_right ts (not_final ts nc))

    -- with neither word
    elsewhere : (ts : List Lexeme) → sees (at (just k.Enum)) ts ≡ false → sees (at is_key) ts ≡ false → class_ahead ts ≡ false → WhichRight ts (read ts)
    elsewhere ts en key nc = second_of_two heads_enums en (right_two (second_of_two heads_classes key (other_there ts nc)))

    module _ (ts used rest : List Lexeme) (cut : ts ≡ used ++ rest) where
      enum_chosen : sees (at (just k.Enum)) ts ≡ true → Never (λ n. g.entity n) ts used → (pg.enum left).begins used → WhichRight ts (made fe (pr.enum left ts))
      unfolding same_class
      enum_chosen en s b = first_begun (enum_there ts) used rest cut (covers_present (never_covers (by never) (never_two (never_elsewhere heads_classes ts (unseen_by (apart (just k.Enum) is_key refl) ts en) used)
          (lift_never ts used (seen_sub (sub (just k.Enum) is_elaboration refl) ts en) s)))) (some refl b)

      class_chosen : sees (at is_key) ts ≡ true → Never (λ n. g.entity n) ts used → (g.class left).begins used → WhichRight ts (made fc (r.class left ts))
      unfolding same_class
      class_chosen key s b = second_begun (right_two (first_begun (class_there ts) used rest cut (covers_present (never_covers (by never) (lift_never ts used (seen_sub (sub is_key is_elaboration refl) ts key) s))) (some refl b)))
          used rest cut (covers_present (never_covers (by never) (never_elsewhere heads_enums ts (unseen_by (apart is_key (just k.Enum) refl) ts key) used))) (some refl (inl (some refl b)))

      other_at_enum : sees (at (just k.Enum)) ts ≡ true → class_ahead ts ≡ false → Never (λ n. pg.enum n) ts used → (g.entity left).begins used → WhichRight ts (read ts)
      unfolding same_class
      other_at_enum en nc s b = second_begun (right_two (second_of_two heads_classes (unseen_by (apart (just k.Enum) is_key refl) ts en) (other_there ts nc)))
          used rest cut (covers_present (never_covers (by never) (never_as fe s))) (some refl (inr (some (stays left) (lift_begins left used b))))

      other_at_key : sees (at is_key) ts ≡ true → class_ahead ts ≡ false → Never (λ n. g.class n) ts used → (g.entity left).begins used → WhichRight ts (read ts)
      unfolding same_class
      other_at_key key nc s b = second_of_two heads_enums (unseen_by (apart is_key (just k.Enum) refl) ts key)
          (right_two (second_begun (other_there ts nc) used rest cut (covers_present (never_covers (by never) (never_as fc s))) (some (stays left) (lift_begins left used b))))

    -- ---- at `enum`

    module _ (c : Lexeme) (en : is k.Enum c ≡ true) where
      enum_elaborates : is_elaboration c.class ≡ true
      unfolding same_class
      enum_elaborates = sub (just k.Enum) is_elaboration refl c en

      enum_no_key : is_key c.class ≡ false
      unfolding same_class
      enum_no_key = false_of (is_key c.class) (λ i. apart (just k.Enum) is_key refl c en i)

      enum_no_class : (u : List Lexeme) → class_ahead (c ∷ u) ≡ false
      enum_no_class u = ap (λ b. b && (sees (is k.OpenBracket) u || (sees (at is_type) u && class_behind (tail_of u)))) enum_no_key

      -- what follows is an enumeration's
      at_follows : (u : List Lexeme) → sees (at follows_enum) u ≡ true → WhichRight (c ∷ u) (made fe (pr.enum left (c ∷ u)))
      unfolding same_class
      at_follows u f = enum_chosen (c ∷ u) (c ∷ []) u refl en (never_unless (unnamed_never c u enum_elaborates (never_elsewhere heads_qtype u (unseen_by (apart follows_enum starts_name refl) u f) []))) (word_enum c en left)

      at_type_follows : (t : Lexeme) (w : List Lexeme) → is_type t.class ≡ true → sees (at follows_enum_name) w ≡ true → WhichRight (c ∷ t ∷ w) (made fe (pr.enum left (c ∷ t ∷ w)))
      unfolding same_class
      at_type_follows t w is_it f = enum_chosen (c ∷ t ∷ w) (c ∷ t ∷ []) w refl en
          (never_unless (named_never c t w enum_elaborates is_it (unseen_by (apart follows_enum_name (just k.ColonColon) refl) w f) (unseen_by (apart follows_enum_name is_modifier refl) w f)
          (never_elsewhere heads_entity_kind w (unseen_by (apart follows_enum_name starts_kind refl) w f) []))) (type_enum c en left t is_it)

      at_named : (t : Lexeme) (w : List Lexeme) → is_type t.class ≡ true → sees (at follows_enum_name) w ≡ false → WhichRight (c ∷ t ∷ w) (read (c ∷ t ∷ w))
      at_named t w is_it f = other_at_enum (c ∷ t ∷ w) (c ∷ t ∷ []) w refl en (enum_no_class (t ∷ w)) (named_enum c en t w is_it f) (unless_begins left (c ∷ t ∷ []) refl (type_entity c enum_elaborates left t (sub is_type is_name refl t is_it)))

      at_unnamed : (u : List Lexeme) → sees (at follows_enum) u ≡ false → sees (at is_type) u ≡ false → WhichRight (c ∷ u) (read (c ∷ u))
      at_unnamed u f t = other_at_enum (c ∷ u) (c ∷ []) u refl en (enum_no_class u) (unnamed_enum c en u f t) (unless_begins left (c ∷ []) refl (word_entity c enum_elaborates left))

      abbrev enum_or : Bool → List Lexeme → Outcome Lexeme R
      enum_or b ts = if b then made fe (pr.enum left ts) else read ts

      enum_typed : (t : Lexeme) (w : List Lexeme) → sees (at follows_enum) (t ∷ w) ≡ false → (b d : Bool) → is_type t.class ≡ b → sees (at follows_enum_name) w ≡ d → WhichRight (c ∷ t ∷ w) (enum_or (b && d) (c ∷ t ∷ w))
      enum_typed t w f true true bt dt = at_type_follows t w bt dt
      enum_typed t w f true false bt dt = at_named t w bt dt
      enum_typed t w f false d bt dt = at_unnamed (t ∷ w) f bt

      enum_by : (u : List Lexeme) (b : Bool) → sees (at follows_enum) u ≡ b → WhichRight (c ∷ u) (enum_or (b || (sees (at is_type) u && sees (at follows_enum_name) (tail_of u))) (c ∷ u))
      enum_by u true f = at_follows u f
      enum_by [] false f = at_unnamed [] f refl
      enum_by (t ∷ w) false f = enum_typed t w f (is_type t.class) (sees (at follows_enum_name) w) refl refl

    -- ---- at a key

    module _ (c : Lexeme) (key : is_key c.class ≡ true) where
      key_elaborated : is_elaboration c.class ≡ true
      key_elaborated = sub is_key is_elaboration refl c key

      abbrev class_or : Bool → List Lexeme → Outcome Lexeme R
      class_or b ts = if b then made fc (r.class left ts) else read ts

      at_attrs : (u : List Lexeme) → sees (is k.OpenBracket) u ≡ true → WhichRight (c ∷ u) (made fc (r.class left (c ∷ u)))
      unfolding same_class
      at_attrs u o = class_chosen (c ∷ u) (c ∷ []) u refl key (never_unless (unnamed_never c u key_elaborated (never_elsewhere heads_qtype u (unseen_by (apart (just k.OpenBracket) starts_name refl) u o) []))) (key_class c key left)

      at_end : (t : Lexeme) (w : List Lexeme) → is_type t.class ≡ true → sees (at begins_class_end) w ≡ true → WhichRight (c ∷ t ∷ w) (made fc (r.class left (c ∷ t ∷ w)))
      unfolding same_class
      at_end t w is_it f = class_chosen (c ∷ t ∷ w) (c ∷ t ∷ []) w refl key
          (never_unless (named_never c t w key_elaborated is_it (unseen_by (apart begins_class_end (just k.ColonColon) refl) w f) (unseen_by (apart begins_class_end is_modifier refl) w f)
          (never_elsewhere heads_entity_kind w (unseen_by (apart begins_class_end starts_kind refl) w f) []))) (name_class c key left t is_it)

      at_final : (t f d : Lexeme) (w : List Lexeme) → is_type t.class ≡ true → is_final f.class ≡ true → begins_class_body d.class ≡ true → WhichRight (c ∷ t ∷ f ∷ d ∷ w) (made fc (r.class left (c ∷ t ∷ f ∷ d ∷ w)))
      at_final t f d w is_it is_one body = class_chosen (c ∷ t ∷ f ∷ d ∷ w) (c ∷ t ∷ f ∷ []) (d ∷ w) refl key (class_entity c t f key is_it is_one d w body (is k.Colon d) refl) (final_class_begun c key left t f is_it is_one)

      module _ (t : Lexeme) (is_it : is_type t.class ≡ true) where
        -- what declares no class
        at_name : (w : List Lexeme) → class_ahead (c ∷ t ∷ w) ≡ false → sees (at starts_class_end) w ≡ false → WhichRight (c ∷ t ∷ w) (read (c ∷ t ∷ w))
        at_name w nc unseen = other_at_key (c ∷ t ∷ w) (c ∷ t ∷ []) w refl key nc (named_class c key t w is_it (other_end w unseen)) (unless_begins left (c ∷ t ∷ []) refl (type_entity c key_elaborated left t (sub is_type is_name refl t is_it)))

        at_final_name : (f : Lexeme) (w : List Lexeme) → class_ahead (c ∷ t ∷ f ∷ w) ≡ false → is_final f.class ≡ true → sees (at begins_class_body) w ≡ false → WhichRight (c ∷ t ∷ f ∷ w) (read (c ∷ t ∷ f ∷ w))
        at_final_name f w nc is_one unseen = other_at_key (c ∷ t ∷ f ∷ w) (c ∷ t ∷ f ∷ []) w refl key nc (named_class c key t (f ∷ w) is_it (final_end f w is_one unseen))
            (unless_begins left (c ∷ t ∷ f ∷ []) refl (name_entity c key_elaborated t f is_it (sub is_final is_name refl f is_one) left))

        -- by what follows
        final_by : (f : Lexeme) (w : List Lexeme) → begins_class_end f.class ≡ false → (b d : Bool) → is_final f.class ≡ b → sees (at begins_class_body) w ≡ d → (b && d) ≡ class_ahead (c ∷ t ∷ f ∷ w) → WhichRight (c ∷ t ∷ f ∷ w) (class_or (b && d) (c ∷ t ∷ f ∷ w))
        final_by f [] other true true bt dt all = absurd (let z : false ≡ true = dt in cc)
        final_by f (d ∷ w) other true true bt dt all = at_final t f d w is_it bt dt
        final_by f w other true false bt dt all = at_final_name f w (sym all) bt dt
        final_by f w other false d bt dt all = at_name (f ∷ w) (sym all) (not_end f other bt)

        end_by : (w : List Lexeme) (b : Bool) → sees (at begins_class_end) w ≡ b → (b || sees_two (at is_final) (at begins_class_body) w) ≡ class_ahead (c ∷ t ∷ w) → WhichRight (c ∷ t ∷ w) (class_or (b || sees_two (at is_final) (at begins_class_body) w) (c ∷ t ∷ w))
        end_by w true b all = at_end t w is_it b
        end_by [] false b all = at_name [] (sym all) refl
        end_by (f ∷ w) false b all = final_by f w b (is_final f.class) (sees (at begins_class_body) w) refl refl all

      -- no TYPE behind the key
      at_untyped : (u : List Lexeme) → class_ahead (c ∷ u) ≡ false → sees (is k.OpenBracket) u ≡ false → sees (at is_type) u ≡ false → WhichRight (c ∷ u) (read (c ∷ u))
      unfolding same_class
      at_untyped u nc o t = other_at_key (c ∷ u) (c ∷ []) u refl key nc (unnamed_class c key u o t) (unless_begins left (c ∷ []) refl (word_entity c key_elaborated left))

      typed_by : (u : List Lexeme) → sees (is k.OpenBracket) u ≡ false → (b : Bool) → sees (at is_type) u ≡ b → (b && class_behind (tail_of u)) ≡ class_ahead (c ∷ u) → WhichRight (c ∷ u) (class_or (b && class_behind (tail_of u)) (c ∷ u))
      typed_by [] o true b all = absurd (let z : false ≡ true = b in cc)
      typed_by (t ∷ w) o true b all = end_by t b w (sees (at begins_class_end) w) refl all
      typed_by u o false b all = at_untyped u (sym all) o b

      attrs_by : (u : List Lexeme) (o : Bool) → sees (is k.OpenBracket) u ≡ o → (o || (sees (at is_type) u && class_behind (tail_of u))) ≡ class_ahead (c ∷ u) → WhichRight (c ∷ u) (class_or (o || (sees (at is_type) u && class_behind (tail_of u))) (c ∷ u))
      attrs_by u true o all = at_attrs u o
      attrs_by u false o all = typed_by u o (sees (at is_type) u) refl all

    -- ---- by the first token

    abbrev which_by : Bool → Bool → List Lexeme → Outcome Lexeme R
    which_by b d ts = if b then made fe (pr.enum left ts) else (if d then made fc (r.class left ts) else read ts)

    key_by : (c : Lexeme) (u : List Lexeme) (b : Bool) → is k.Enum c ≡ false → is_key c.class ≡ b → WhichRight (c ∷ u) (which_by false (b && (sees (is k.OpenBracket) u || (sees (at is_type) u && class_behind (tail_of u)))) (c ∷ u))
    key_by c u true en key = attrs_by c key u (sees (is k.OpenBracket) u) refl (sym (ap (λ b. b && (sees (is k.OpenBracket) u || (sees (at is_type) u && class_behind (tail_of u)))) key))
    key_by c u false en key = elsewhere (c ∷ u) en key (ap (λ b. b && (sees (is k.OpenBracket) u || (sees (at is_type) u && class_behind (tail_of u)))) key)

    first_by : (c : Lexeme) (u : List Lexeme) (b : Bool) → is k.Enum c ≡ b → WhichRight (c ∷ u) (which_by (b && enum_behind u) (class_ahead (c ∷ u)) (c ∷ u))
    first_by c u true en = let P : Bool → Type 0 = λ d. WhichRight (c ∷ u) (which_by (enum_behind u) d (c ∷ u)) in subst P (sym (enum_no_class c en u)) (enum_by c en u (sees (at follows_enum) u) refl)
    first_by c u false en = key_by c u (is_key c.class) en refl

    which_at : (ts : List Lexeme) → WhichRight ts (which_by (enum_ahead ts) (class_ahead ts) ts)
    which_at [] = elsewhere [] refl refl refl
    which_at (c ∷ u) = first_by c u (is k.Enum c) refl

    pub exactly_which : Exactly which (by never) left (λ ts. which_by (enum_ahead ts) (class_ahead ts) ts)
    exactly_which = record { at = λ ts. (which_at ts).exact }
