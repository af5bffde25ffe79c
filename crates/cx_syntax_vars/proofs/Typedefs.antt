-- The reader of a typedef is exact ([dcl.typedef]).
use Rattle.std.proofs.Common.{◌≡◌, ℕ, Bool, true, false, not, ◌&&◌, ◌||◌, List, [], ◌∷◌, None, refl, ap, subst, inl, inr}
use Rattle.cx_grammar.specs.Language.{◌>>◌, ◌⊲◌, none_yet, in_first, in_second}
use Rattle.cx_grammar.specs.Exact.{Family, Outcome, done, Exact}
use Rattle.cx_grammar.specs.Reading.{sees}
use Rattle.cx_grammar.specs.Sets.{by, never}
use Rattle.cx_grammar.proofs.Heads.{Heads, heads_as, heads_both, heads_the, heads_sub, heads_measured, heads_before, heads_behind, opens_maybe, opens_many, opens_sub, never_apart}
use Rattle.cx_grammar.proofs.Steps.{Exactly, exactly_token, exactly_as, exactly_before, exactly_behind, exactly_both}
use Rattle.cx_grammar.proofs.Sides.{exactly_measured}
use Rattle.cx_tree.specs.declared.names.Ident.{Ident}
use Rattle.cx_tree.specs.declared.names.TypeName.{TypeName}
use Rattle.cx_tree.specs.declared.specifiers.Ptrs.{Ptrs}
use Rattle.cx_syntax.specs.declared.class.Class.{Class}
use Rattle.cx_syntax.specs.declared.class.Class.TheVariants as k
use Rattle.cx_syntax.specs.declared.lexeme.Lexeme.{Lexeme}
use Rattle.cx_syntax.specs.Classes.{is, same_class}
use Rattle.cx_syntax.specs.Sets.{is_type, is_name, is_word, is_elaboration, is_modifier, starts_typed}
use Rattle.cx_syntax.specs.Values.{pick, span_of, ident_of, modifier_of, elaboration_of, named_of, named_type, ptrs_of}
use Rattle.cx_syntax.specs.Grammar as g
use Rattle.cx_syntax.specs.Readers.{just}
use Rattle.cx_syntax.proofs.Basics.{at, apart, sub, false_of, heads_pick, heads_after, begun_pick, both_true}
use Rattle.cx_syntax.proofs.Names.{goes_name, exactly_qtype}
use Rattle.cx_syntax.proofs.Specifiers.{goes_typed, goes_ptrs, starts_ptrs, exactly_ptrs, opens_ptrs, heads_typed, heads_words_type}
use Rattle.cx_syntax.proofs.Fronts.{Short, Never, short_as, short_two, short_both, short_skip, short_done, never_short, never_as, never_covers, never_ended, never_elsewhere}
use Rattle.cx_syntax.proofs.TypeOrExpr.{unseen_by, not_true, not_false}
use Rattle.cx_syntax_vars.specs.Ahead.{aliased_next}
use Rattle.cx_syntax_vars.specs.Values.{typedef_of}
use Rattle.cx_syntax_vars.specs.Grammar as l
use Rattle.cx_syntax_vars.specs.Readers as s
use Rattle.cx_syntax_vars.proofs.Tests.{and_rest, and_split}
use Rattle.cx_syntax_vars.proofs.Covering.{never_skip, short_token, blocked_first, blocked_unseen, one_left}
use Rattle.cx_syntax_vars.proofs.Names.{TypeRead, type_read, name_type_begun}
use Rattle.cx_syntax_vars.proofs.SpecsBefore.{type, DeclaratorNext, TypeNext, Decides, exactly_specs_then}

-- ---- what stands behind the specifiers

-- ptrs TYPE ";"
abbrev pub declarator : Family Lexeme (Ptrs × Ident)
declarator n = g.ptrs >> g.type_only ⊲ is k.Semicolon

abbrev pub starts_declarator : Class → Bool
starts_declarator c = starts_ptrs c || is_type c

heads_name : Heads (λ n. g.type_only ⊲ is k.Semicolon) (at is_type)
heads_name = heads_behind {G = λ n. g.type_only} (is k.Semicolon) (heads_pick is_type ident_of)

-- no pointer
pub ptrs_blank : g.ptrs.begins []
ptrs_blank = in_first (inr refl)

pub ptrs_none : g.ptrs.spells [] (ptrs_of ([], None))
ptrs_none = record {
  value = ([], None);
  made = refl;
  part = record { front = []; back = []; cut = refl; first = inr (record { value = tt; made = refl; part = refl }); second = inl (record { value = tt; made = refl; part = refl }) };
}

pub heads_declarator : Heads declarator (at starts_declarator)
unfolding same_class
heads_declarator = heads_after (opens_sub (sub starts_ptrs starts_declarator refl) opens_ptrs) (λ n. ptrs_blank) (heads_sub (sub is_type starts_declarator refl) heads_name)

pub exactly_declarator : (left : ℕ) → Exactly declarator (by never) left s.typedef_end
unfolding same_class
exactly_declarator left = exactly_both (exactly_ptrs left) (exactly_behind (is k.Semicolon) exactly_token (never_apart (is k.Semicolon))) heads_name (apart goes_ptrs is_type refl)

-- ---- a TYPE behind modifiers

-- `;`, or what goes on with a name
abbrev ends_name : Class → Bool
ends_name c = just k.Semicolon c || goes_name c

abbrev unended : Class → Bool
unended c = not (just k.Semicolon c)

module _ (t : Lexeme) (rest : List Lexeme) (is_it : is_type t.class ≡ true) where
  no_ptrs : sees (at starts_ptrs) (t ∷ rest) ≡ false
  unfolding same_class
  no_ptrs = unseen_by (apart is_type starts_ptrs refl) (t ∷ rest) is_it

  -- with no `;` behind it, it is no declarator
  never_declarator : sees (is k.Semicolon) rest ≡ false → Never declarator (t ∷ rest) (t ∷ [])
  unfolding same_class
  never_declarator e = never_skip opens_ptrs no_ptrs (never_as _ (never_ended (short_token (pick is_type ident_of) t rest (blocked_unseen (is k.Semicolon) (at unended) rest e (λ u h. ap not h)))
      (heads_the (is k.Semicolon)) (apart unended (just k.Semicolon) refl)))

  token_begun : (n : ℕ) → (declarator n).begins (t ∷ [])
  token_begun n = in_second [] (t ∷ []) (ptrs_of ([], None)) refl ptrs_none (in_first (begun_pick is_type ident_of t is_it))

-- with one behind it, it is no type before a declarator
module _ (t c : Lexeme) (rest : List Lexeme) (is_it : is_type t.class ≡ true) (ends : is k.Semicolon c ≡ true) where
  no_colons : sees (is k.ColonColon) (c ∷ rest) ≡ false
  unfolding same_class
  no_colons = false_of (is k.ColonColon c) (λ i. apart (just k.Semicolon) (just k.ColonColon) refl c ends i)

  named : TypeRead t (c ∷ rest)
  named = type_read t (c ∷ rest) is_it no_colons

  qtype_read : Exact (λ n. g.qtype) (by (at goes_name)) 0 (t ∷ c ∷ rest) (done named.value (c ∷ rest))
  qtype_read = let P : Outcome Lexeme TypeName → Type 0 = λ o. Exact (λ n. g.qtype) (by (at goes_name)) 0 (t ∷ c ∷ rest) o in subst P named.is ((exactly_qtype 0).at (t ∷ c ∷ rest))

  short_qtype : Short (λ n. g.qtype) (at ends_name) (t ∷ c ∷ rest) (t ∷ [])
  unfolding same_class
  short_qtype = subst (λ (l : List Lexeme). Short (λ n. g.qtype) (at ends_name) (t ∷ c ∷ rest) l) (one_left t (c ∷ rest) qtype_read.used (c ∷ rest) qtype_read.core.cut refl)
      (short_done (λ n. g.qtype) (at goes_name) (at ends_name) 0 (t ∷ c ∷ rest) (sub goes_name ends_name refl) named.value (c ∷ rest) qtype_read (blocked_first (at ends_name) c rest (sub (just k.Semicolon) ends_name refl c ends)))

  short_type : Short (λ n. type) (at ends_name) (t ∷ c ∷ rest) (t ∷ [])
  unfolding same_class
  short_type = let ts = t ∷ c ∷ rest in short_two (never_short (at ends_name) (never_elsewhere heads_words_type ts (unseen_by (apart is_type is_word refl) ts is_it) (t ∷ [])))
      (short_as named_type (short_both (short_as named_of (short_skip (opens_maybe (heads_pick is_elaboration elaboration_of)) (unseen_by (apart is_type is_elaboration refl) ts is_it) short_qtype))
      (opens_many (heads_pick is_modifier modifier_of)) (apart ends_name is_modifier refl)))

  never_typed : Never (λ n. type >> declarator n) (t ∷ c ∷ rest) (t ∷ [])
  unfolding same_class
  never_typed = never_ended short_type heads_declarator (apart ends_name starts_declarator refl)

-- ---- what the tokens behind modifiers decide

abbrev none : Class → Bool
none c = false

none_typed : (left : ℕ) (ts : List Lexeme) → sees (at starts_typed) ts ≡ false → DeclaratorNext declarator none left ts
none_typed left ts unseen = record { front = []; rest = ts; cut = refl; covers = never_covers (by (at none)) (never_elsewhere (heads_both declarator heads_typed) ts unseen []); begins = heads_declarator.blank left }

declared_by : (left : ℕ) (t : Lexeme) (rest : List Lexeme) → (is_type t.class && sees (is k.Semicolon) rest) ≡ true → DeclaratorNext declarator none left (t ∷ rest)
declared_by left t [] e = absurd (let f : false ≡ true = (and_split (is_type t.class) false e).1 in cc)
declared_by left t (c ∷ rest) e = let f = and_split (is_type t.class) (is k.Semicolon c) e in
    record { front = t ∷ []; rest = c ∷ rest; cut = refl; covers = never_covers (by (at none)) (never_typed t c rest f.0 f.1); begins = token_begun t (c ∷ rest) f.0 left }

declared_at : (left : ℕ) (t : Lexeme) (rest : List Lexeme) (b : Bool) → starts_typed t.class ≡ b → (starts_typed t.class && not (is_type t.class && sees (is k.Semicolon) rest)) ≡ false → DeclaratorNext declarator none left (t ∷ rest)
declared_at left t rest false e f = none_typed left (t ∷ rest) e
declared_at left t rest true e f = declared_by left t rest (not_false (is_type t.class && sees (is k.Semicolon) rest) (and_rest (starts_typed t.class) (not (is_type t.class && sees (is k.Semicolon) rest)) e f))

declared : (left : ℕ) (ts : List Lexeme) → aliased_next ts ≡ false → DeclaratorNext declarator none left ts
declared left [] e = none_typed left [] refl
declared left (t ∷ rest) e = declared_at left t rest (starts_typed t.class) refl e

other_type : (t : Lexeme) → starts_typed t.class ≡ true → is_type t.class ≡ false → starts_declarator t.class ≡ true → ⊥
unfolding same_class
other_type t f e i = apart (λ c. starts_typed c && not (is_type c)) starts_declarator refl t (both_true (starts_typed t.class) (not (is_type t.class)) f (ap not e)) i

typed_at : (t : Lexeme) (rest : List Lexeme) (b : Bool) → is_type t.class ≡ b → starts_typed t.class ≡ true → (is_type t.class && sees (is k.Semicolon) rest) ≡ false → TypeNext declarator none (t ∷ rest)
typed_at t rest true e f h = record { front = t ∷ []; rest = rest; cut = refl; covers = never_covers (by (at none)) (never_declarator t rest e (and_rest (is_type t.class) (sees (is k.Semicolon) rest) e h)); begins = name_type_begun t (sub is_type is_name refl t e) }
typed_at t rest false e f h = record {
  front = [];
  rest = t ∷ rest;
  cut = refl;
  covers = never_covers (by (at none)) (never_elsewhere heads_declarator (t ∷ rest) (false_of (starts_declarator t.class) (λ i. other_type t f e i)) []);
  begins = inl (none_yet refl);
}

typed_next : (ts : List Lexeme) → aliased_next ts ≡ true → TypeNext declarator none ts
typed_next [] e = absurd (let f : false ≡ true = e in cc)
typed_next (t ∷ rest) e = let f = and_split (starts_typed t.class) (not (is_type t.class && sees (is k.Semicolon) rest)) e in typed_at t rest (is_type t.class) refl f.0 (not_true (is_type t.class && sees (is k.Semicolon) rest) f.1)

pub decides_typedef : (left : ℕ) → Decides declarator none left aliased_next
decides_typedef left = record { declarator = declared left; typed = typed_next }

-- ---- typedefs

pub exactly_typedef : (left : ℕ) → Exactly (λ n. l.typedef) (by never) left s.typedef
unfolding s.typedef same_class
exactly_typedef left = exactly_as typedef_of (exactly_measured span_of (exactly_before (is k.Typedef)
    (exactly_specs_then starts_declarator none heads_declarator (λ n. refl) (apart is_modifier starts_declarator refl) (apart goes_typed starts_declarator refl) (exactly_declarator left) (decides_typedef left))))

pub heads_typedef : Heads (λ n. l.typedef) (at (just k.Typedef))
heads_typedef = heads_as typedef_of (heads_measured span_of (heads_before {G = λ n. g.specs >> declarator n} (is k.Typedef)))
