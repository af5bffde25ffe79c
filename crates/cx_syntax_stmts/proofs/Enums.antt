-- Behind `enum` the next two tokens tell an enumeration from variables of one ([dcl.enum], [dcl.type.elab]).
use Rattle.std.proofs.Common.{◌≡◌, ℕ, Bool, true, false, not, ◌||◌, if◌then◌else◌, List, [], ◌∷◌, Some, None, refl, ap, subst, inl, inr}
use Rattle.cx_grammar.specs.Language.{Language, one, the, maybe, many, ◌∥◌, ◌>>◌, ◌⊲◌, nothing, whole, some, in_first, in_second}
use Rattle.cx_grammar.specs.Exact.{Family, Outcome, Exact}
use Rattle.cx_grammar.specs.Reading.{sees}
use Rattle.cx_grammar.specs.Sets.{of, by}
use Rattle.cx_grammar.proofs.Heads.{heads_the, opens_maybe, opens_many}
use Rattle.cx_tree.specs.declared.names.TypeName.{TypeName}
use Rattle.cx_tree.specs.declared.specifiers.Elaboration.{Elaboration}
use Rattle.cx_tree.specs.declared.specifiers.Modifier.{Modifier}
use Rattle.cx_tree.specs.declared.stmts.Var.{Var}
use Rattle.cx_grammar.proofs.Levels.{begun_by}
use Rattle.cx_syntax.specs.declared.class.Class.{Class}
use Rattle.cx_syntax.specs.declared.class.Class.TheVariants as k
use Rattle.cx_syntax.specs.declared.lexeme.Lexeme.{Lexeme}
use Rattle.cx_syntax.specs.Classes.{is, same_class}
use Rattle.cx_syntax.specs.Goes.{goes_name}
use Rattle.cx_syntax.specs.Grammar as e
use Rattle.cx_syntax.specs.Readers.{just}
use Rattle.cx_syntax.specs.Sets.{is_type, is_word, is_modifier, is_elaboration, starts_name}
use Rattle.cx_syntax.specs.Values.{pick, span_of, ident_of, modifier_of, elaboration_of}
use Rattle.cx_syntax.proofs.Basics.{at, apart, sub, begun_pick, pick_fits, heads_pick}
use Rattle.cx_syntax.proofs.Fronts.{Short, Never, never_as, never_measured, never_two, never_both, never_ended, never_elsewhere, never_led, short_both, short_done}
use Rattle.cx_syntax.proofs.Names.{exactly_qtype, heads_qtype}
use Rattle.cx_syntax.proofs.Specifiers.{heads_words_type}
use Rattle.cx_syntax.proofs.NameFaults.{seen_sub}
use Rattle.cx_syntax.proofs.TypeOrExpr.{unseen_by, not_seen, blocked_seen}
use Rattle.cx_syntax_parts.specs.Goes.{goes_attrs}
use Rattle.cx_syntax_parts.specs.Grammar as pg
use Rattle.cx_syntax_parts.specs.Sets.{is_enum_key}
use Rattle.cx_syntax_parts.proofs.Soup.{opens_attrs}
use Rattle.cx_syntax_parts.proofs.Enums.{named_parts, heads_named, heads_unnamed, heads_behind_name, starts_unnamed, starts_behind_name}
use Rattle.cx_syntax_vars.specs.Grammar as v
use Rattle.cx_syntax_vars.specs.Sets.{starts_var}
use Rattle.cx_syntax_vars.proofs.Covering.{never_skip, short_token, blocked_unseen, one_left}
use Rattle.cx_syntax_vars.proofs.Names.{type_read}
use Rattle.cx_syntax_stmts.specs.Sets.{follows_enum, follows_enum_name}
use Rattle.cx_syntax_stmts.proofs.Begins.{begins_qtype, no_part, no_attrs}
use Rattle.cx_syntax_stmts.proofs.Fors.{heads_vars_end}
use Rattle.cx_syntax_stmts.proofs.Under.{Under, under_refl, under_trans, under_as, under_measured, under_both, under_such, under_into, under_after, never_under, never_perhaps, never_or}

-- ---- what is no enumeration

abbrev pub not_enum_name : Class → Bool
not_enum_name c = not (follows_enum_name c)

-- where neither a name nor what only an enumeration has comes next
pub never_enum_at : (t : Lexeme) (rest : List Lexeme) → sees (at follows_enum) rest ≡ false → sees (at is_type) rest ≡ false → Never (λ n. pg.enum n) (t ∷ rest) (t ∷ [])
unfolding same_class
never_enum_at t rest u no_type = never_as _ (never_measured span_of (never_two
    (never_as _ (never_led (is k.Enum) t (never_skip (opens_maybe (heads_the (of _ is_enum_key))) (not_seen (sub is_enum_key follows_enum refl) rest u)
    (never_skip opens_attrs (not_seen (sub goes_attrs follows_enum refl) rest u) (never_elsewhere heads_named rest no_type [])))))
    (never_as _ (never_led (is k.Enum) t (never_skip opens_attrs (not_seen (sub goes_attrs follows_enum refl) rest u) (never_elsewhere heads_unnamed rest (not_seen (sub starts_unnamed follows_enum refl) rest u) []))))))

-- and behind its name
pub never_enum_named : (t s : Lexeme) (rest : List Lexeme) → is_type s.class ≡ true → sees (at follows_enum_name) rest ≡ false → Never (λ n. pg.enum n) (t ∷ s ∷ rest) (t ∷ s ∷ [])
unfolding same_class
never_enum_named t s rest i u = never_as _ (never_measured span_of (never_two
    (never_as _ (never_led (is k.Enum) t (never_skip (opens_maybe (heads_the (of _ is_enum_key))) (unseen_by (apart is_type is_enum_key refl) (s ∷ rest) i)
    (never_skip opens_attrs (unseen_by (apart is_type goes_attrs refl) (s ∷ rest) i)
    (never_ended (short_token (pick is_type ident_of) s rest (blocked_unseen (at follows_enum_name) (at not_enum_name) rest u (λ w z. ap not z))) heads_behind_name (apart not_enum_name starts_behind_name refl))))))
    (never_as _ (never_led (is k.Enum) t (never_skip opens_attrs (unseen_by (apart is_type goes_attrs refl) (s ∷ rest) i) (never_elsewhere heads_unnamed (s ∷ rest) (unseen_by (apart is_type starts_unnamed refl) (s ∷ rest) i) (s ∷ [])))))))

-- variables begin so
pub specs_named : (t s : Lexeme) → is_elaboration t.class ≡ true → at starts_name s ≡ true → e.specs.begins (t ∷ s ∷ [])
specs_named t s i j = in_second [] (t ∷ s ∷ []) [] refl refl (inr (some refl (inr (some refl (in_first (in_second (t ∷ []) (s ∷ []) (Some (elaboration_of t)) refl
    (inr (record { value = elaboration_of t; made = refl; part = record { token = t; alone = refl; fits = ap (λ b. if b then Some (elaboration_of t) else None) i } })) (begins_qtype s j)))))))

pub local_begins : (n : ℕ) (x : List Lexeme) → e.specs.begins x → (v.local n).begins x
local_begins n x b = in_second [] x 0 refl (no_attrs n) (in_first b)

-- ---- what are no variables

abbrev pub vars_end : Family Lexeme (List Var)
vars_end n = v.vars n ⊲ is k.Semicolon

-- the modifiers, and then the type and the variables
pub declared_under : Under (λ n. v.declared n) (λ n. many e.modifier >> (maybe (e.words_type ∥ e.name_type) >> vars_end n))
declared_under = under_trans (under_both (under_as _ (under_measured span_of (under_such _ (under_refl (λ n. many e.modifier >> maybe (e.words_type ∥ e.name_type)))))) (under_refl vars_end))
    (under_after (λ n. many e.modifier) (λ n. maybe (e.words_type ∥ e.name_type)) vars_end)

abbrev pub behind_word : Family Lexeme ((TypeName × List Modifier) × List Var)
behind_word n = (e.qtype >> many e.modifier) >> vars_end n

abbrev pub elaboration : Language Lexeme Elaboration
elaboration = one (pick is_elaboration elaboration_of)

pub name_under : Under (λ n. e.name_type >> vars_end n) (λ n. maybe elaboration >> behind_word n)
name_under = under_trans (under_both (under_as _ (under_trans (under_both (under_as _ (under_refl (λ n. maybe elaboration >> e.qtype))) (under_refl (λ n. many e.modifier))) (under_after (λ n. maybe elaboration) (λ n. e.qtype) (λ n. many e.modifier)))) (under_refl vars_end))
    (under_after (λ n. maybe elaboration) (λ n. e.qtype >> many e.modifier) vars_end)

pub pick_under : {A : Type 0} (set : Class → Bool) (f : Lexeme → A) → Under (λ (n : ℕ). one (pick set f)) (λ n. the (at set))
pick_under set f = record {
  spells = λ n x w s. (tt, record { token = s.token; alone = s.alone; fits = ap (λ b. if b then Some tt else None) (pick_fits set f s.token w s.fits) });
  begins = λ n x b. elim b [ nothing z ↦ nothing z | whole w s ↦ whole tt (record { token = s.token; alone = s.alone; fits = ap (λ b. if b then Some tt else None) (pick_fits set f s.token w s.fits) }) ];
}

module _ (t : Lexeme) (rest used : List Lexeme) (word : is k.Enum t ≡ true) (b : Never behind_word rest used) where
  -- the class of the token
  pub enum_class : at (just k.Enum) t ≡ true
  enum_class = word

  pub never_name : Never (λ n. e.name_type >> vars_end n) (t ∷ rest) (t ∷ used)
  unfolding same_class
  never_name = never_under name_under (never_perhaps
      (never_both vars_end (never_both (λ n. many e.modifier) (never_elsewhere heads_qtype (t ∷ rest) (unseen_by (apart (just k.Enum) starts_name refl) (t ∷ rest) word) (t ∷ used))))
      (never_under (under_trans (under_both (pick_under is_elaboration elaboration_of) (under_refl behind_word)) (under_into (λ (pair : Unit {0} × _). pair.1) (λ n. the (at is_elaboration) >> behind_word n))) (never_led (at is_elaboration) t b)))

  pub never_declared_enum : Never (λ n. v.declared n) (t ∷ rest) (t ∷ used)
  unfolding same_class
  never_declared_enum = never_under declared_under (never_skip (opens_many (heads_pick is_modifier modifier_of)) (unseen_by (apart (just k.Enum) is_modifier refl) (t ∷ rest) word)
      (never_perhaps (never_elsewhere heads_vars_end (t ∷ rest) (unseen_by (apart (just k.Enum) starts_var refl) (t ∷ rest) word) (t ∷ used))
      (never_or (never_both vars_end (never_elsewhere heads_words_type (t ∷ rest) (unseen_by (apart (just k.Enum) is_word refl) (t ∷ rest) word) (t ∷ used))) never_name)))

  pub never_local_enum : Never (λ n. v.local n) (t ∷ rest) (t ∷ used)
  unfolding same_class
  never_local_enum = never_as _ (never_measured span_of (never_skip opens_attrs (unseen_by (apart (just k.Enum) goes_attrs refl) (t ∷ rest) word) never_declared_enum))

-- behind `enum` stands what only an enumeration has
pub no_name : (rest : List Lexeme) → sees (at follows_enum) rest ≡ true → Never behind_word rest []
no_name rest s = never_both vars_end (never_both (λ n. many e.modifier) (never_elsewhere heads_qtype rest (unseen_by (apart follows_enum starts_name refl) rest s) []))

-- or behind its name
abbrev pub ends_enum_name : Class → Bool
ends_enum_name c = goes_name c || follows_enum_name c

module _ (s : Lexeme) (rest : List Lexeme) (i : is_type s.class ≡ true) (ends : sees (at follows_enum_name) rest ≡ true) where
  pub short_enum_name : Short (λ n. e.qtype) (at ends_enum_name) (s ∷ rest) (s ∷ [])
  unfolding same_class
  short_enum_name =
      let p = type_read s rest i (unseen_by (apart follows_enum_name (just k.ColonColon) refl) rest ends) in
      let P : Outcome Lexeme TypeName → Type 0 = λ o. Exact (λ n. e.qtype) (by (at goes_name)) 0 (s ∷ rest) o in
      let z = subst P p.is ((exactly_qtype 0).at (s ∷ rest)) in
      let Q : List Lexeme → Type 0 = λ l. Short (λ n. e.qtype) (at ends_enum_name) (s ∷ rest) l in
      subst Q (one_left s rest z.used rest z.core.cut refl) (short_done (λ n. e.qtype) (at goes_name) (at ends_enum_name) 0 (s ∷ rest) (sub goes_name ends_enum_name refl) p.value rest z
      (blocked_seen (at ends_enum_name) rest (seen_sub (sub follows_enum_name ends_enum_name refl) rest ends)))

  pub no_more : Never behind_word (s ∷ rest) (s ∷ [])
  unfolding same_class
  no_more = never_ended (short_both short_enum_name (opens_many (heads_pick is_modifier modifier_of)) (apart ends_enum_name is_modifier refl)) heads_vars_end (apart ends_enum_name starts_var refl)

-- an enumeration begins so
pub enum_begins : (n : ℕ) (t : Lexeme) → is k.Enum t ≡ true → (pg.enum n).begins (t ∷ [])
enum_begins n t i = inl (some refl (begun_by named_parts (is k.Enum) t i n))

pub enum_named : (n : ℕ) (t s : Lexeme) → is k.Enum t ≡ true → is_type s.class ≡ true → (pg.enum n).begins (t ∷ s ∷ [])
enum_named n t s i j = inl (some refl (in_second (t ∷ []) (s ∷ []) tt refl (record { token = t; alone = refl; fits = ap (λ b. if b then Some tt else None) i })
    (in_second [] (s ∷ []) None refl (no_part _) (in_second [] (s ∷ []) 0 refl (no_attrs n) (in_first (begun_pick is_type ident_of s j))))))
