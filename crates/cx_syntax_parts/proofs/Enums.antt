-- The reader of enumerations is exact ([dcl.enum]).
use Rattle.std.proofs.Common.{◌≡◌, ℕ, Bool, false, ◌||◌, List, [], ◌++◌, Option, Some, None, refl, sym, ◌∙◌, ap, subst, inl, inr}
use Rattle.cx_grammar.specs.Language.{the, maybe, none_yet, some, in_first, in_second, ◌>>◌, ◌<$>◌, ◌∥◌, ◌⊳◌, ◌⊲◌}
use Rattle.cx_grammar.specs.Exact.{Family}
use Rattle.cx_grammar.specs.Sets.{by, never, of}
use Rattle.cx_grammar.proofs.Heads.{Heads, heads_as, heads_before, heads_behind, heads_both, heads_measured, heads_or, heads_sub, heads_two, opens_maybe, opens_sub, never_apart, same_sub}
use Rattle.cx_grammar.proofs.Steps.{Exactly, exactly_token, exactly_as, exactly_before, exactly_both, exactly_maybe}
use Rattle.cx_grammar.proofs.Levels.{present_at}
use Rattle.cx_grammar.proofs.Parts.{Same}
use Rattle.cx_grammar.proofs.Sames.{exactly_same}
use Rattle.cx_grammar.proofs.Sides.{exactly_measured}
use Rattle.cx_tree.specs.declared.specifiers.Specs.{Specs}
use Rattle.cx_tree.specs.declared.decls.EnumerationKind.{EnumerationKind}
use Rattle.cx_tree.specs.declared.decls.Enumerator.{Enumerator}
use Rattle.cx_syntax.specs.declared.class.Class.{Class}
use Rattle.cx_syntax.specs.declared.class.Class.TheVariants as k
use Rattle.cx_syntax.specs.declared.lexeme.Lexeme.{Lexeme}
use Rattle.cx_syntax.specs.Classes.{class_at, is, same_class}
use Rattle.cx_syntax.specs.Sets.{is_type, starts_specs}
use Rattle.cx_syntax.specs.Values.{span_of, ident_of}
use Rattle.cx_syntax.specs.Grammar as e
use Rattle.cx_syntax.specs.Readers.{just}
use Rattle.cx_syntax.proofs.Basics.{at, apart, sub, heads_pick, heads_after, exactly_stays, exactly_choice}
use Rattle.cx_syntax.proofs.Specifiers.{exactly_specs}
use Rattle.cx_syntax_parts.specs.Goes.{goes_attrs}
use Rattle.cx_syntax_parts.specs.Sets.{is_enum_key}
use Rattle.cx_syntax_parts.specs.Values.{Named, named_of, scoped_enum_of, named_enum_of, unnamed_of, unnamed_enum_of, enumeration_of}
use Rattle.cx_syntax_parts.specs.Grammar as g
use Rattle.cx_syntax_parts.specs.Readers as r
use Rattle.cx_syntax_parts.proofs.Soup.{exactly_attrs, opens_attrs}
use Rattle.cx_syntax_parts.proofs.Declarations.{blank_attrs, heads_enums, heads_enum_end, starts_enum_end, exactly_enums_end, exactly_enum_end}
use Rattle.cx_syntax_parts.proofs.Factored.{exactly_behind_token}

-- ---- what stands behind the attributes

abbrev pub goes_base : Class → Bool
goes_base c = starts_specs c || just k.Colon c

pub heads_base : Heads (λ n. g.enum_base) (at (just k.Colon))
heads_base = heads_before {G = λ n. e.specs} (is k.Colon)

pub exactly_base : (left : ℕ) → Exactly (λ n. maybe g.enum_base) (by (at goes_base)) left r.enum_base
unfolding same_class
exactly_base left = exactly_maybe (at goes_base) heads_base (present_at refl (λ n. refl) (exactly_before (is k.Colon) (exactly_specs left))) (sub starts_specs goes_base refl) (sub (just k.Colon) goes_base refl)

-- with a name: TYPE (":" specs)? (";" | enums ";")
abbrev pub named : Family Lexeme Named
named n = e.type_only >> maybe g.enum_base >> g.enum_end n

abbrev pub starts_behind_name : Class → Bool
starts_behind_name c = just k.Colon c || starts_enum_end c

pub heads_behind_name : Heads (λ n. maybe g.enum_base >> g.enum_end n) (at starts_behind_name)
unfolding same_class
heads_behind_name = heads_after (opens_sub (sub (just k.Colon) starts_behind_name refl) (opens_maybe heads_base)) (λ n. inl refl) (heads_sub (sub starts_enum_end starts_behind_name refl) heads_enum_end)

pub heads_named : Heads named (at is_type)
heads_named = heads_both _ (heads_pick is_type ident_of)

pub exactly_named : (left : ℕ) → Exactly named (by never) left (r.named left)
unfolding r.named same_class
exactly_named left = exactly_both exactly_token (exactly_both (exactly_base left) (exactly_enum_end left) heads_enum_end (apart goes_base starts_enum_end refl)) heads_behind_name (never_apart (at starts_behind_name))

-- without: (":" specs)? enums ";"
abbrev pub unnamed : Family Lexeme (Option Specs × List Enumerator)
unnamed n = maybe g.enum_base >> g.enums n ⊲ is k.Semicolon

abbrev pub starts_unnamed : Class → Bool
starts_unnamed c = just k.Colon c || just k.OpenBrace c

pub heads_enums_end : Heads (λ n. g.enums n ⊲ is k.Semicolon) (at (just k.OpenBrace))
heads_enums_end = heads_behind (is k.Semicolon) heads_enums

pub heads_unnamed : Heads unnamed (at starts_unnamed)
unfolding same_class
heads_unnamed = heads_after (opens_sub (sub (just k.Colon) starts_unnamed refl) (opens_maybe heads_base)) (λ n. inl refl) (heads_sub (sub (just k.OpenBrace) starts_unnamed refl) heads_enums_end)

pub exactly_unnamed : (left : ℕ) → Exactly unnamed (by never) left (r.unnamed left)
unfolding r.unnamed same_class
exactly_unnamed left = exactly_both (exactly_base left) (exactly_enums_end left) heads_enums_end (apart goes_base (just k.OpenBrace) refl)

-- ---- what stands behind `enum`, as the reader takes it

abbrev pub scoped_enum : Family Lexeme (ℕ × EnumerationKind)
scoped_enum n = scoped_enum_of <$> (of class_at is_enum_key ⊳ (g.attrs n >> named n))

abbrev pub unscoped_kind : Family Lexeme EnumerationKind
unscoped_kind n = (named_of false <$> named n) ∥ (unnamed_of <$> unnamed n)

abbrev pub unscoped_enum : Family Lexeme (ℕ × EnumerationKind)
unscoped_enum n = g.attrs n >> unscoped_kind n

abbrev pub starts_kind : Class → Bool
starts_kind c = is_type c || starts_unnamed c

abbrev pub starts_unscoped : Class → Bool
starts_unscoped c = goes_attrs c || starts_kind c

pub heads_scoped : Heads scoped_enum (at is_enum_key)
heads_scoped = heads_as scoped_enum_of (heads_before {G = λ n. g.attrs n >> named n} (of class_at is_enum_key))

pub heads_kind : Heads unscoped_kind (at starts_kind)
heads_kind = heads_or (heads_as (named_of false) heads_named) (heads_as unnamed_of heads_unnamed)

pub heads_unscoped : Heads unscoped_enum (at starts_unscoped)
unfolding same_class
heads_unscoped = heads_after (opens_sub (sub goes_attrs starts_unscoped refl) opens_attrs) blank_attrs (heads_sub (sub starts_kind starts_unscoped refl) heads_kind)

pub exactly_scoped : (left : ℕ) → Exactly scoped_enum (by never) left (r.scoped_enum left)
unfolding r.scoped_enum same_class
exactly_scoped left = exactly_as scoped_enum_of (exactly_before (of class_at is_enum_key) (exactly_both (exactly_attrs left) (exactly_named left) heads_named (apart goes_attrs is_type refl)))

pub exactly_kind : (left : ℕ) → Exactly unscoped_kind (by never) left (r.unscoped_kind left)
unfolding r.unscoped_kind same_class
exactly_kind left = exactly_choice is_type starts_unnamed refl (heads_as (named_of false) heads_named) (heads_as unnamed_of heads_unnamed)
    (present_at refl (λ n. refl) (exactly_as (named_of false) (exactly_named left))) (exactly_stays refl (λ n. refl) (exactly_as unnamed_of (exactly_unnamed left)))

pub exactly_read : (left : ℕ) → Exactly (λ n. scoped_enum n ∥ unscoped_enum n) (by never) left (r.enum_kind left)
unfolding r.enum_kind same_class
exactly_read left = exactly_choice is_enum_key starts_unscoped refl heads_scoped heads_unscoped (present_at refl (λ n. refl) (exactly_scoped left))
    (exactly_stays refl (λ n. refl) (exactly_both (exactly_attrs left) (exactly_kind left) heads_kind (apart goes_attrs starts_kind refl)))

-- ---- the same, as the grammar has it

abbrev pub key : Family Lexeme (Unit {0})
key n = the (of class_at is_enum_key)

-- ("class" | "struct")? attrs TYPE (":" specs)? (";" | enums ";")
abbrev pub named_parts : Family Lexeme (Option (Unit {0}) × (ℕ × Named))
named_parts n = maybe (key n) >> g.attrs n >> named n

-- attrs (":" specs)? enums ";"
abbrev pub unnamed_parts : Family Lexeme (ℕ × (Option Specs × List Enumerator))
unnamed_parts n = g.attrs n >> unnamed n

abbrev pub written : Family Lexeme (ℕ × EnumerationKind)
written n = (named_enum_of <$> named_parts n) ∥ (unnamed_enum_of <$> unnamed_parts n)

abbrev pub taken : Family Lexeme (ℕ × EnumerationKind)
taken n = scoped_enum n ∥ unscoped_enum n

named_spelled : (n : ℕ) (x f b : List Lexeme) (w : ℕ × EnumerationKind) (v : Option (Unit {0}) × (ℕ × Named)) → w ≡ named_enum_of v → x ≡ f ++ b → (maybe (key n)).spells f v.0 → (g.attrs n >> named n).spells b v.1 → (taken n).spells x w
named_spelled n x f b w v made cut (inl e) s = let P : ℕ × EnumerationKind → Type 0 = λ z. (unscoped_enum n).spells x z in
    inr (subst P (sym (made ∙ ap (λ o. named_enum_of (o, v.1)) e.made)) (record { front = s.front; back = s.back; cut = cut ∙ (ap (λ l. l ++ b) e.part ∙ s.cut); first = s.first; second = inl (record { value = v.1.1; made = refl; part = s.second }) }))
named_spelled n x f b w v made cut (inr e) s =
    inl (record { value = v.1; made = made ∙ ap (λ o. named_enum_of (o, v.1)) e.made; part = record { value = (e.value, v.1); made = refl; part = record { front = f; back = b; cut = cut; first = e.part; second = s } } })

to_spells : (n : ℕ) (x : List Lexeme) (w : ℕ × EnumerationKind) → (written n).spells x w → (taken n).spells x w
to_spells n x w (inl s) = named_spelled n x s.part.front s.part.back w s.value s.made s.part.cut s.part.first s.part.second
to_spells n x w (inr s) = let P : ℕ × EnumerationKind → Type 0 = λ z. (unscoped_enum n).spells x z in
    inr (subst P (sym s.made) (record { front = s.part.front; back = s.part.back; cut = s.part.cut; first = s.part.first; second = inr (record { value = s.value.1; made = refl; part = s.part.second }) }))

kind_spelled : (n : ℕ) (x f b : List Lexeme) (w : ℕ × EnumerationKind) → x ≡ f ++ b → (g.attrs n).spells f w.0 → (unscoped_kind n).spells b w.1 → (written n).spells x w
kind_spelled n x f b w cut first (inl a) = inl (record {
  value = (None, (w.0, a.value));
  made = ap (λ k. (w.0, k)) a.made;
  part = record {
    front = [];
    back = x;
    cut = refl;
    first = inl (record { value = tt; made = refl; part = refl });
    second = record { front = f; back = b; cut = cut; first = first; second = a.part };
  };
})
kind_spelled n x f b w cut first (inr a) = inr (record { value = (w.0, a.value); made = ap (λ k. (w.0, k)) a.made; part = record { front = f; back = b; cut = cut; first = first; second = a.part } })

from_spells : (n : ℕ) (x : List Lexeme) (w : ℕ × EnumerationKind) → (taken n).spells x w → (written n).spells x w
from_spells n x w (inl s) = inl (record {
  value = (Some s.part.value.0, s.part.value.1);
  made = s.made ∙ ap scoped_enum_of s.part.made;
  part = record {
    front = s.part.part.front;
    back = s.part.part.back;
    cut = s.part.part.cut;
    first = inr (record { value = s.part.value.0; made = refl; part = s.part.part.first });
    second = s.part.part.second;
  };
})
from_spells n x w (inr s) = kind_spelled n x s.front s.back w s.cut s.first s.second

named_begins : (n : ℕ) (x : List Lexeme) → (g.attrs n >> named n).begins x → (unscoped_enum n).begins x
named_begins n x (in_first c) = in_first c
named_begins n x (in_second f b v cut s c) = in_second f b v cut s (inl (some refl c))

unnamed_begins : (n : ℕ) (x : List Lexeme) → (unnamed_parts n).begins x → (unscoped_enum n).begins x
unnamed_begins n x (in_first c) = in_first c
unnamed_begins n x (in_second f b v cut s c) = in_second f b v cut s (inr (some refl c))

parts_begun : (n : ℕ) (x f b : List Lexeme) (v : Option (Unit {0})) → x ≡ f ++ b → (maybe (key n)).spells f v → (g.attrs n >> named n).begins b → (taken n).begins x
parts_begun n x f b v cut (inl e) c = let P : List Lexeme → Type 0 = λ l. (unscoped_enum n).begins l in inr (some refl (subst P (sym (cut ∙ ap (λ l. l ++ b) e.part)) (named_begins n b c)))
parts_begun n x f b v cut (inr e) c = inl (some refl (in_second f b e.value cut e.part c))

to_begins : (n : ℕ) (x : List Lexeme) → (written n).begins x → (taken n).begins x
to_begins n x (inl (none_yet e)) = inl (none_yet e)
to_begins n x (inr (none_yet e)) = inr (none_yet e)
to_begins n x (inl (some st (in_first (inl e)))) = inl (none_yet e)
to_begins n x (inl (some st (in_first (inr (none_yet e))))) = inl (none_yet e)
to_begins n x (inl (some st (in_first (inr (some st2 c))))) = inl (some refl (in_first c))
to_begins n x (inl (some st (in_second f b v cut s c))) = parts_begun n x f b v cut s c
to_begins n x (inr (some st c)) = inr (some refl (unnamed_begins n x c))

blank_unnamed : (n : ℕ) (b : List Lexeme) → b ≡ [] → (unnamed n).begins b
blank_unnamed n b e = let P : List Lexeme → Type 0 = λ l. (unnamed n).begins l in subst P (sym e) (heads_unnamed.blank n)

from_begins : (n : ℕ) (x : List Lexeme) → (taken n).begins x → (written n).begins x
from_begins n x (inl (none_yet e)) = inl (none_yet e)
from_begins n x (inr (none_yet e)) = inr (none_yet e)
from_begins n x (inl (some st (in_first c))) = inl (some refl (in_first (inr (some refl c))))
from_begins n x (inl (some st (in_second f b v cut s c))) = inl (some refl (in_second f b (Some v) cut (inr (record { value = v; made = refl; part = s })) c))
from_begins n x (inr (some st (in_first c))) = inr (some refl (in_first c))
from_begins n x (inr (some st (in_second f b v cut s (inl (none_yet e))))) = inr (some refl (in_second f b v cut s (blank_unnamed n b e)))
from_begins n x (inr (some st (in_second f b v cut s (inr (none_yet e))))) = inr (some refl (in_second f b v cut s (blank_unnamed n b e)))
from_begins n x (inr (some st (in_second f b v cut s (inl (some st2 c))))) = inl (some refl (in_second [] x None refl (inl (record { value = tt; made = refl; part = refl })) (in_second f b v cut s c)))
from_begins n x (inr (some st (in_second f b v cut s (inr (some st2 c))))) = inr (some refl (in_second f b v cut s c))

-- the reader's order is the grammar's
pub same_enum : Same taken written
same_enum = record { spells = from_spells; spelled = to_spells; begins = from_begins; begun = to_begins }

-- ---- enumerations

pub exactly_written : (left : ℕ) → Exactly written (by never) left (r.enum_kind left)
exactly_written left = exactly_same same_enum (exactly_read left)

pub heads_enum : Heads (λ n. g.enum n) (at (just k.Enum))
heads_enum = heads_as enumeration_of (heads_measured span_of (heads_two (heads_as named_enum_of (heads_before {G = named_parts} (is k.Enum))) (same_sub (is k.Enum)) (heads_as unnamed_enum_of (heads_before {G = unnamed_parts} (is k.Enum)))))

pub exactly_enum : (left : ℕ) → Exactly (λ n. g.enum n) (by never) left (r.enum left)
unfolding r.enum
exactly_enum left = exactly_as enumeration_of (exactly_measured span_of (exactly_behind_token (is k.Enum) named_enum_of unnamed_enum_of named_parts unnamed_parts (λ n. in_first (inl refl)) (λ n. in_first (blank_attrs n)) refl (λ n. refl) (exactly_written left)))
