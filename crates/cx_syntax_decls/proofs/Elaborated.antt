-- At a key or `enum`: how far an entity goes, an enumeration and a class ([dcl.type.elab], [dcl.enum], [class.pre]).
use Rattle.std.proofs.Common.{◌≡◌, ℕ, Bool, true, false, if◌then◌else◌, List, [], ◌∷◌, Some, None, refl, ap, subst, inr, arith}
use Rattle.cx_grammar.specs.Language.{one, many, maybe, some, in_first, in_second, ◌>>◌}
use Rattle.cx_grammar.specs.Reading.{sees}
use Rattle.cx_grammar.proofs.Sames.{same_both, same_refl, same_trans}
use Rattle.cx_grammar.proofs.Heads.{heads_both, opens_many}
use Rattle.cx_tree.specs.declared.names.TypeName.{TypeName}
use Rattle.cx_tree.specs.declared.specifiers.Specs.{Specs}
use Rattle.cx_syntax.specs.declared.class.Class.{Class}
use Rattle.cx_syntax.specs.declared.class.Class.TheVariants as k
use Rattle.cx_syntax.specs.declared.lexeme.Lexeme.{Lexeme}
use Rattle.cx_syntax.specs.Classes.{is, same_class}
use Rattle.cx_syntax.specs.Goes.{goes_name}
use Rattle.cx_syntax.specs.Sets.{is_elaboration, is_modifier, is_name, is_type, is_word, starts_name}
use Rattle.cx_syntax.specs.Values.{pick, span_of, elaboration_of, modifier_of, named_of, named_type, specs_of}
use Rattle.cx_syntax.specs.Grammar as e
use Rattle.cx_syntax.specs.Readers.{just}
use Rattle.cx_syntax.proofs.Begins.{begins_scopes}
use Rattle.cx_syntax.proofs.Basics.{at, apart, sub, begun_pick, heads_pick, false_of}
use Rattle.cx_syntax.proofs.Fronts.{Never, never_as, never_both, never_elsewhere, never_measured, never_two}
use Rattle.cx_syntax.proofs.Names.{heads_qtype}
use Rattle.cx_syntax.proofs.Specifiers.{goes_typed, heads_words_type, heads_typed}
use Rattle.cx_syntax.proofs.TypeOrExpr.{qtype_read, typed_specs, unseen_by}
use Rattle.cx_syntax_parts.specs.Goes.{goes_attrs}
use Rattle.cx_syntax_vars.proofs.Covering.{either_before, never_skip, one_left}
use Rattle.cx_syntax_vars.proofs.Names.{type_read}
use Rattle.cx_syntax_vars.proofs.SpecsBefore.{heads_alone, mods_alone, mods_typed, specs_apart, type, with_type}
use Rattle.cx_syntax_decls.specs.Grammar as g
use Rattle.cx_syntax_decls.specs.Values.{entity_of}
use Rattle.cx_syntax_decls.proofs.Alike.{none}
use Rattle.cx_syntax_decls.proofs.Chosen.{entity_kinds}
use Rattle.cx_syntax_decls.proofs.Declared.{passed_token}
use Rattle.cx_syntax_decls.proofs.Entities.{entity_end, heads_entity_kind, plain_entity, starts_kind}
use Rattle.cx_syntax_decls.proofs.Lower.{opens_attrs}
use Rattle.cx_syntax_decls.proofs.Parens.{no_ptrs, no_ptrs_spelled}
use Rattle.cx_syntax_decls.proofs.Special.{qtype_begins}
use Rattle.cx_syntax_decls.proofs.MemberFunctions.{never_same}
use Rattle.cx_syntax_decls.proofs.Passing.{Passed, passed_done, passed_as, passed_both, passed_idle, passed_maybe, passed_measured, passed_never, passed_two, passed_behind, behind_never, blocked_first}

-- ---- an entity

module _ (c : Lexeme) (u : List Lexeme) (elaborated : is_elaboration c.class ≡ true) where
  no_mod : sees (at is_modifier) (c ∷ u) ≡ false
  no_mod = unseen_by (apart is_elaboration is_modifier refl) (c ∷ u) elaborated

  no_word : sees (at is_word) (c ∷ u) ≡ false
  no_word = unseen_by (apart is_elaboration is_word refl) (c ∷ u) elaborated

  no_attrs : sees (at goes_attrs) (c ∷ u) ≡ false
  unfolding same_class
  no_attrs = unseen_by (apart is_elaboration goes_attrs refl) (c ∷ u) elaborated

  word_passed : Passed (λ (n : ℕ). maybe (one (pick is_elaboration elaboration_of))) (at is_elaboration) (c ∷ u) (c ∷ []) u
  word_passed = passed_maybe (blocked_first (at is_elaboration) c u elaborated) (passed_token (pick is_elaboration elaboration_of) (at is_elaboration) c u)

  -- no type is named behind the word
  name_never : {more : List Lexeme} → Never (λ n. e.qtype) u more → Never (λ n. type) (c ∷ u) (c ∷ more)
  name_never s = never_two (never_elsewhere heads_words_type (c ∷ u) no_word _) (never_as named_type (never_both (λ n. many e.modifier) (never_as named_of (behind_never word_passed heads_qtype (apart is_elaboration starts_name refl) s))))

  -- what stands behind specs
  end_never : {more : List Lexeme} → Never (λ n. mods_typed >> g.entity_kind n) (c ∷ u) (c ∷ more) → Never plain_entity (c ∷ u) (c ∷ more)
  end_never s = never_as entity_of (never_skip opens_attrs no_attrs (never_same (same_trans (either_before (λ n. mods_alone) (λ n. mods_typed) entity_kinds (λ n. refl) (λ n. refl) (λ n. refl)) (same_both specs_apart (same_refl entity_kinds)))
      (never_two (never_elsewhere (heads_both entity_kinds heads_alone) (c ∷ u) no_mod _) s)))

  pub unnamed_never : {more : List Lexeme} → Never (λ n. e.qtype) u more → Never plain_entity (c ∷ u) (c ∷ more)
  unnamed_never s = end_never (never_both entity_kinds (never_as specs_of (never_measured span_of (never_as with_type (never_skip (opens_many (heads_pick is_modifier modifier_of)) no_mod (name_never s))))))

-- behind the word a TYPE alone
module _ (c t : Lexeme) (w : List Lexeme) (elaborated : is_elaboration c.class ≡ true) (is_it : is_type t.class ≡ true) (lone : sees (is k.ColonColon) w ≡ false) (last : sees (at is_modifier) w ≡ false) where
  type_passed : Passed (λ (n : ℕ). e.qtype) (at goes_name) (t ∷ w) (t ∷ []) w
  type_passed = let a = type_read t w is_it lone in let q = qtype_read (t ∷ w) w a.value a.is in
      let P : List Lexeme → Type 0 = λ l. Passed (λ (n : ℕ). e.qtype) (at goes_name) (t ∷ w) l w in subst P (one_left t w q.used w q.core.cut refl) (passed_done (λ n. e.qtype) (at goes_name) 0 (t ∷ w) w a.value q)

  mods_idle : (q : Class → Bool) (ts : List Lexeme) → sees (at is_modifier) ts ≡ false → Passed (λ (n : ℕ). many e.modifier) (at q) ts [] ts
  mods_idle q ts unseen = passed_idle (at q) (opens_many (heads_pick is_modifier modifier_of)) ts unseen

  named_passed : Passed (λ (n : ℕ). e.named) (at goes_name) (c ∷ t ∷ w) (c ∷ t ∷ []) w
  named_passed = passed_as named_of (passed_behind (word_passed c (t ∷ w) elaborated) heads_qtype (apart is_elaboration starts_name refl) type_passed)

  typed_passed : Passed (λ (n : ℕ). type) (at goes_typed) (c ∷ t ∷ w) (c ∷ t ∷ []) w
  unfolding same_class
  typed_passed = passed_two (passed_never (at goes_typed) w refl (never_elsewhere heads_words_type (c ∷ t ∷ w) (no_word c (t ∷ w) elaborated) (c ∷ t ∷ [])))
      (passed_as named_type (passed_both named_passed (opens_many (heads_pick is_modifier modifier_of)) (apart goes_name is_modifier refl) (sub goes_name goes_typed refl) (mods_idle goes_typed w last)))

  specs_passed : Passed (λ (n : ℕ). mods_typed) (at goes_typed) (c ∷ t ∷ w) (c ∷ t ∷ []) w
  specs_passed = passed_as specs_of (passed_measured span_of (passed_as with_type (passed_behind (mods_idle none (c ∷ t ∷ w) (no_mod c (t ∷ w) elaborated)) heads_typed (λ x a b. no_true a) typed_passed)))
    where
      no_true : false ≡ true → ⊥
      no_true a = cc

  pub named_never : {more : List Lexeme} → Never entity_kinds w more → Never plain_entity (c ∷ t ∷ w) (c ∷ t ∷ more)
  unfolding same_class
  named_never s = end_never c (t ∷ w) elaborated (behind_never specs_passed heads_entity_kind (apart goes_typed starts_kind refl) s)

-- ---- what an entity begins there

pub specs_entity : (n : ℕ) (x : List Lexeme) → (entity_end n).begins x → (plain_entity n).begins x
specs_entity n x b = in_second [] x _ refl (record { value = []; made = refl; part = refl }) b

module _ (c : Lexeme) (elaborated : is_elaboration c.class ≡ true) where
  pub word_entity : (n : ℕ) → (plain_entity n).begins (c ∷ [])
  word_entity n = specs_entity n (c ∷ []) (in_first (typed_specs (c ∷ []) (inr (some refl (in_first (in_first (inr (some refl (begun_pick is_elaboration elaboration_of c elaborated)))))))))

  word_spelled : (maybe (one (pick is_elaboration elaboration_of))).spells (c ∷ []) (Some (elaboration_of c))
  word_spelled = inr (record { value = elaboration_of c; made = refl; part = record { token = c; alone = refl; fits = ap (λ b. if b then Some (elaboration_of c) else None) elaborated } })

  pub type_entity : (n : ℕ) (t : Lexeme) → is_name t.class ≡ true → (plain_entity n).begins (c ∷ t ∷ [])
  type_entity n t i = specs_entity n (c ∷ t ∷ []) (in_first (typed_specs (c ∷ t ∷ []) (inr (some refl (in_first (in_second (c ∷ []) (t ∷ []) (Some (elaboration_of c)) refl word_spelled (qtype_begins t i)))))))

  -- and a declared name behind a TYPE
  module _ (t f : Lexeme) (is_it : is_type t.class ≡ true) (is_one : is_name f.class ≡ true) where
    f_lone : is k.ColonColon f ≡ false
    unfolding same_class
    f_lone = false_of (is k.ColonColon f) (λ j. apart is_name (just k.ColonColon) refl f is_one j)

    type_spelled : (v : TypeName) × e.qtype.spells (t ∷ []) v
    type_spelled = let a = type_read t (f ∷ []) is_it f_lone in let q = qtype_read (t ∷ f ∷ []) (f ∷ []) a.value a.is in
        (a.value, let P : List Lexeme → Type 0 = λ l. e.qtype.spells l a.value in subst P (one_left t (f ∷ []) q.used (f ∷ []) q.core.cut refl) (q.spells 0 (omega arith)))

    pub specs_spelled : (v : Specs) × e.specs.spells (c ∷ t ∷ []) v
    specs_spelled = (
      _,
      record {
        value = (([], Some (named_type (named_of (Some (elaboration_of c), type_spelled.0), []))), span_of (c ∷ t ∷ []));
        made = refl;
        part = record {
          part = record {
            part = record {
              front = [];
              back = c ∷ t ∷ [];
              cut = refl;
              first = refl;
              second = inr (record {
                value = named_type (named_of (Some (elaboration_of c), type_spelled.0), []);
                made = refl;
                part = inr (record {
                  value = (named_of (Some (elaboration_of c), type_spelled.0), []);
                  made = refl;
                  part = record {
                    front = c ∷ t ∷ [];
                    back = [];
                    cut = refl;
                    first = record { value = (Some (elaboration_of c), type_spelled.0); made = refl; part = record { front = c ∷ []; back = t ∷ []; cut = refl; first = word_spelled; second = type_spelled.1 } };
                    second = refl;
                  };
                });
              });
            };
            such_a = refl;
          };
          measure = refl;
        };
      },
    )

    pub name_entity : (n : ℕ) → (plain_entity n).begins (c ∷ t ∷ f ∷ [])
    name_entity n = specs_entity n (c ∷ t ∷ f ∷ []) (in_second (c ∷ t ∷ []) (f ∷ []) specs_spelled.0 refl specs_spelled.1 (inr (some refl (in_second [] (f ∷ []) no_ptrs refl no_ptrs_spelled (in_first (in_first (begins_scopes f is_one)))))))
