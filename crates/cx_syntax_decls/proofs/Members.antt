-- The readers of members and classes are exact at each number of levels ([class.mem]).
use Rattle.std.proofs.Common.{◌≡◌, ℕ, Bool, true, false, not, ◌||◌, List, [], ◌∷◌, ◌++◌, refl, sym, ◌∙◌, ap, inl, inr, append_assoc}
use Rattle.cx_grammar.specs.Language.{the, many, none_yet, some, ◌>>◌, ◌<$>◌, ◌∥◌, ◌⊲◌}
use Rattle.cx_grammar.specs.Exact.{Family, Outcome, done, stop, Exact}
use Rattle.cx_grammar.specs.Reading.{sees}
use Rattle.cx_grammar.specs.Sets.{by, never}
use Rattle.cx_grammar.proofs.Choices.{Right}
use Rattle.cx_grammar.proofs.Classes.{variants}
use Rattle.cx_grammar.proofs.Heads.{Heads, heads_as, heads_behind, heads_measured, heads_or, heads_sub, heads_the, heads_two, heads_unless, opens_many, opens_sub, same_sub}
use Rattle.cx_grammar.proofs.Levels.{Below, heads_below}
use Rattle.cx_tree.specs.declared.decls.Entity.{Entity}
use Rattle.cx_tree.specs.declared.decls.MemberKind.{MemberKind}
use Rattle.cx_tree.specs.declared.decls.MemberKind.TheVariants as m
use Rattle.cx_syntax.specs.declared.class.Class.{Class}
use Rattle.cx_syntax.specs.declared.class.Class.TheVariants as k
use Rattle.cx_syntax.specs.declared.lexeme.Lexeme.{Lexeme}
use Rattle.cx_syntax.specs.contracts.class.Class.{enum}
use Rattle.cx_syntax.specs.Classes.{is, same_class}
use Rattle.cx_syntax.specs.Sets.{is_elaboration, is_modifier, is_type, starts_specs}
use Rattle.cx_syntax.specs.Values.{span_of, modifier_of}
use Rattle.cx_syntax.specs.Grammar as e
use Rattle.cx_syntax.specs.Readers.{just}
use Rattle.cx_syntax.proofs.Basics.{at, apart, sub, heads_after, heads_pick}
use Rattle.cx_syntax.proofs.Fronts.{Never, never_as, never_elsewhere, never_two}
use Rattle.cx_syntax.proofs.TypeOrExpr.{unseen_by}
use Rattle.cx_syntax_parts.specs.Goes.{goes_attrs}
use Rattle.cx_syntax_parts.specs.Grammar as pg
use Rattle.cx_syntax_parts.specs.Sets.{is_access}
use Rattle.cx_syntax_vars.specs.Grammar as vg
use Rattle.cx_syntax_decls.specs.Grammar as g
use Rattle.cx_syntax_decls.specs.Grammar.{final_class}
use Rattle.cx_syntax_decls.specs.Readers as r
use Rattle.cx_syntax_decls.specs.Sets.{is_key, starts_entity, starts_function, starts_member}
use Rattle.cx_syntax_decls.specs.Values.{constructor_of, destructor_of, entity_of, member_of}
use Rattle.cx_syntax_decls.proofs.Classes.{heads_class}
use Rattle.cx_syntax_decls.proofs.Entities.{heads_entity_end, plain_entity}
use Rattle.cx_syntax_decls.proofs.Lower.{opens_attrs, blank_attrs, heads_access, heads_assert, heads_alias, heads_enum, heads_typedef}
use Rattle.cx_syntax_decls.proofs.MemberFunctions.{exactly_member_function, plain_functions}
use Rattle.cx_syntax_decls.proofs.Special.{heads_ctor_end, heads_dtor_end}

-- ---- two languages that have the same fronts and spellings at some tokens

module _ {A : Type 0} (G H : Family Lexeme A) (go : A → Lexeme → Bool) (least : ℕ) (ts : List Lexeme)
    (spells : (n : ℕ) (x y : List Lexeme) (w : A) → ts ≡ x ++ y → (G n).spells x w → (H n).spells x w) (spelled : (n : ℕ) (x y : List Lexeme) (w : A) → ts ≡ x ++ y → (H n).spells x w → (G n).spells x w)
    (begins : (n : ℕ) (x y : List Lexeme) → ts ≡ x ++ y → (G n).begins x → (H n).begins x) (begun : (n : ℕ) (x y : List Lexeme) → ts ≡ x ++ y → (H n).begins x → (G n).begins x)
  where
    cut_at : (used rest x y : List Lexeme) → ts ≡ used ++ rest → used ≡ x ++ y → ts ≡ x ++ (y ++ rest)
    cut_at used rest x y e c = e ∙ (ap (λ l. l ++ rest) c ∙ append_assoc x y rest)

    pub alike_exact : (o : Outcome Lexeme A) → Exact G go least ts o → Exact H go least ts o
    alike_exact (done v rest) x = record {
      used = x.used;
      spells = λ n p. spells n x.used rest v x.core.cut (x.spells n p);
      core = record { cut = x.core.cut; begins = λ n p a b c. begins n a (b ++ rest) (cut_at x.used rest a b x.core.cut c) (x.core.begins n p a b c); only = λ n q a b w c s. x.core.only n q a b w c (spelled n a b w c s); ends = λ n q a b c s. x.core.ends n q a b c (begun n a b c s) };
    }
    alike_exact (stop rule left) x = record {
      used = x.used;
      rest = x.rest;
      size = x.size;
      is = x.is;
      deep = λ i. let d = x.deep i in record { token = d.token; after = d.after; is = d.is; enough = d.enough; begins = λ n p. begins n (x.used ++ d.token ∷ []) d.after (x.core.cut ∙ (ap (λ l. x.used ++ l) d.is ∙ sym (append_assoc x.used (d.token ∷ []) d.after))) (d.begins n p) };
      core = record { cut = x.core.cut; begins = λ n p a b c. begins n a (b ++ x.rest) (cut_at x.used x.rest a b x.core.cut c) (x.core.begins n p a b c); only = λ n q a b w c s. x.core.only n q a b w c (spelled n a b w c s); ends = λ n q a b c s. x.core.ends n q a b c (begun n a b c s) };
    }

-- a front of tokens that are no class with `final`
final_front : (ts x y : List Lexeme) → ts ≡ x ++ y → final_class ts ≡ false → final_class x ≡ false
final_front ts [] y c f = refl
final_front ts (a ∷ []) y c f = refl
final_front ts (a ∷ b ∷ []) y c f = refl
final_front ts (a ∷ b ∷ d ∷ []) y c f = refl
final_front ts (a ∷ b ∷ d ∷ j ∷ x) y c f = ap final_class (sym c) ∙ f

-- an entity, where no class with `final` stands
pub entity_right : (left : ℕ) (ts : List Lexeme) (o : Outcome Lexeme Entity) → final_class ts ≡ false → Right plain_entity (by never) left ts o → Right (λ n. g.entity n) (by never) left ts o
entity_right left ts o f x = record { exact = alike_exact plain_entity (λ n. g.entity n) (by never) left ts (λ n a b w c s. record { part = s; clear = final_front ts a b c f }) (λ n a b w c s. s.part) (λ n a b c s. record { part = s; clear = final_front ts a b c f }) (λ n a b c s. s.part) o x.exact }

-- ---- what is declared in a class with no word of its own

abbrev pub functions : Family Lexeme MemberKind
functions n = (m.Constructor <$> g.ctor n) ∥ ((m.Destructor <$> g.dtor n) ∥ (m.Entity <$> g.entity n))

module _ (left : ℕ) (ts : List Lexeme) (f : final_class ts ≡ false) where
  to_spells : (n : ℕ) (x y : List Lexeme) (w : MemberKind) → ts ≡ x ++ y → (plain_functions n).spells x w → (functions n).spells x w
  to_spells n x y w c (inl s) = inl s
  to_spells n x y w c (inr (inl s)) = inr (inl s)
  to_spells n x y w c (inr (inr s)) = inr (inr (record { value = s.value; made = s.made; part = record { part = s.part; clear = final_front ts x y c f } }))

  from_spells : (n : ℕ) (x y : List Lexeme) (w : MemberKind) → ts ≡ x ++ y → (functions n).spells x w → (plain_functions n).spells x w
  from_spells n x y w c (inl s) = inl s
  from_spells n x y w c (inr (inl s)) = inr (inl s)
  from_spells n x y w c (inr (inr s)) = inr (inr (record { value = s.value; made = s.made; part = s.part.part }))

  to_begins : (n : ℕ) (x y : List Lexeme) → ts ≡ x ++ y → (plain_functions n).begins x → (functions n).begins x
  to_begins n x y c (inl (none_yet z)) = inl (none_yet z)
  to_begins n x y c (inl (some st b)) = inl (some st b)
  to_begins n x y c (inr (none_yet z)) = inr (none_yet z)
  to_begins n x y c (inr (some st (inl (none_yet z)))) = inr (some st (inl (none_yet z)))
  to_begins n x y c (inr (some st (inl (some st2 b)))) = inr (some st (inl (some st2 b)))
  to_begins n x y c (inr (some st (inr (none_yet z)))) = inr (some st (inr (none_yet z)))
  to_begins n x y c (inr (some st (inr (some st2 b)))) = inr (some st (inr (some st2 (record { part = b; clear = final_front ts x y c f }))))

  from_begins : (n : ℕ) (x y : List Lexeme) → ts ≡ x ++ y → (functions n).begins x → (plain_functions n).begins x
  from_begins n x y c (inl (none_yet z)) = inl (none_yet z)
  from_begins n x y c (inl (some st b)) = inl (some st b)
  from_begins n x y c (inr (none_yet z)) = inr (none_yet z)
  from_begins n x y c (inr (some st (inl (none_yet z)))) = inr (some st (inl (none_yet z)))
  from_begins n x y c (inr (some st (inl (some st2 b)))) = inr (some st (inl (some st2 b)))
  from_begins n x y c (inr (some st (inr (none_yet z)))) = inr (some st (inr (none_yet z)))
  from_begins n x y c (inr (some st (inr (some st2 b)))) = inr (some st (inr (some st2 b.part)))

  pub functions_right : Right functions (by never) left ts (r.member_function left ts)
  functions_right = record { exact = alike_exact plain_functions functions (by never) left ts to_spells from_spells to_begins from_begins (r.member_function left ts) ((exactly_member_function left).at ts) }

-- ---- what the alternatives begin with

abbrev starts_special : Class → Bool
starts_special c = goes_attrs c || (is_modifier c || (is_type c || just k.Tilde c))

abbrev starts_modified : Class → Bool
starts_modified c = is_modifier c || (is_type c || just k.Tilde c)

heads_modified : {A : Type 0} {H : Family Lexeme A} (p : Class → Bool) → (variants enum).each (λ c. not (p c) || starts_modified c) ≡ true → Heads H (at p) → Heads (λ n. many e.modifier >> H n) (at starts_modified)
unfolding same_class
heads_modified p s h = heads_after (opens_sub (sub is_modifier starts_modified refl) (opens_many (heads_pick is_modifier modifier_of))) (λ n. record { front = []; back = []; cut = refl; turns = []; whole = refl; next = none_yet refl }) (heads_sub (sub p starts_modified s) h)

heads_attributed : {A : Type 0} {H : Family Lexeme A} (p q : Class → Bool) → (variants enum).each (λ c. not (p c) || q c) ≡ true → (variants enum).each (λ c. not (goes_attrs c) || q c) ≡ true → Heads H (at p) → Heads (λ n. pg.attrs n >> H n) (at q)
heads_attributed p q s a h = heads_after (opens_sub (sub goes_attrs q a) opens_attrs) blank_attrs (heads_sub (sub p q s) h)

heads_ctor : Heads (λ n. g.ctor n) (at starts_special)
unfolding same_class
heads_ctor = heads_as constructor_of (heads_attributed starts_modified starts_special refl refl (heads_modified is_type refl heads_ctor_end))

heads_dtor : Heads (λ n. g.dtor n) (at starts_special)
unfolding same_class
heads_dtor = heads_as destructor_of (heads_attributed starts_modified starts_special refl refl (heads_modified (just k.Tilde) refl heads_dtor_end))

heads_plain_entity : Heads plain_entity (at starts_entity)
unfolding same_class
heads_plain_entity = heads_as entity_of (heads_attributed starts_specs starts_entity refl refl heads_entity_end)

pub heads_entity : Heads (λ n. g.entity n) (at starts_entity)
heads_entity = heads_unless final_class refl heads_plain_entity

heads_functions : Heads functions (at starts_function)
unfolding same_class
heads_functions = heads_two (heads_as m.Constructor heads_ctor) (sub starts_special starts_function refl) (heads_two (heads_as m.Destructor (heads_sub (sub starts_special starts_function refl) heads_dtor)) (same_sub (at starts_function))
    (heads_as m.Entity (heads_sub (sub starts_entity starts_function refl) heads_entity)))

-- at a key or `enum` no special member function is there
pub functions_never : (ts used : List Lexeme) → sees (at is_elaboration) ts ≡ true → Never (λ n. g.entity n) ts used → Never functions ts used
unfolding same_class
functions_never ts used word s = let other = unseen_by (apart is_elaboration starts_special refl) ts word in
    never_two (never_elsewhere (heads_as m.Constructor heads_ctor) ts other used) (never_two (never_elsewhere (heads_as m.Destructor heads_dtor) ts other used) (never_as m.Entity s))

pub functions_begin : (n : ℕ) (x : List Lexeme) → (g.entity n).begins x → (functions n).begins x
functions_begin n x b = inr (some refl (inr (some refl b)))

-- ---- a member

abbrev pub declared : Family Lexeme MemberKind
declared n = (m.Enum <$> pg.enum n) ∥ ((m.Class <$> g.class n) ∥ functions n)

pub heads_declared : Heads declared (at starts_function)
unfolding same_class
heads_declared = heads_two (heads_as m.Enum heads_enum) (sub (just k.Enum) starts_function refl) (heads_two (heads_as m.Class heads_class) (sub is_key starts_function refl) heads_functions)

abbrev pub typedefs : Family Lexeme MemberKind
typedefs n = m.Typedef <$> vg.typedef

abbrev pub aliases : Family Lexeme MemberKind
aliases n = m.Alias <$> pg.alias n

abbrev pub asserts : Family Lexeme MemberKind
asserts n = m.Assert <$> pg.assert n

abbrev pub empties : Family Lexeme MemberKind
empties n = (λ _. m.Empty) <$> the (is k.Semicolon)

abbrev pub accesses : Family Lexeme MemberKind
accesses n = m.Access <$> (pg.access ⊲ is k.Colon)

pub heads_typedefs : Heads typedefs (at (just k.Typedef))
heads_typedefs = heads_as m.Typedef heads_typedef

pub heads_aliases : Heads aliases (at (just k.Using))
heads_aliases = heads_as m.Alias heads_alias

pub heads_asserts : Heads asserts (at (just k.StaticAssert))
heads_asserts = heads_as m.Assert heads_assert

pub heads_empties : Heads empties (at (just k.Semicolon))
heads_empties = heads_as (λ _. m.Empty) (heads_the (is k.Semicolon))

pub heads_accesses : Heads accesses (at is_access)
heads_accesses = heads_as m.Access (heads_behind (is k.Colon) heads_access)

abbrev pub starts_typedefs : Class → Bool
starts_typedefs c = just k.Typedef c || starts_function c

abbrev pub starts_aliases : Class → Bool
starts_aliases c = just k.Using c || starts_typedefs c

abbrev pub starts_asserts : Class → Bool
starts_asserts c = just k.StaticAssert c || starts_aliases c

abbrev pub starts_empties : Class → Bool
starts_empties c = just k.Semicolon c || starts_asserts c

pub from_typedefs : Heads (λ n. typedefs n ∥ declared n) (at starts_typedefs)
unfolding same_class
from_typedefs = heads_or heads_typedefs heads_declared

pub from_aliases : Heads (λ n. aliases n ∥ (typedefs n ∥ declared n)) (at starts_aliases)
unfolding same_class
from_aliases = heads_or heads_aliases from_typedefs

pub from_asserts : Heads (λ n. asserts n ∥ (aliases n ∥ (typedefs n ∥ declared n))) (at starts_asserts)
unfolding same_class
from_asserts = heads_or heads_asserts from_aliases

pub from_empties : Heads (λ n. empties n ∥ (asserts n ∥ (aliases n ∥ (typedefs n ∥ declared n)))) (at starts_empties)
unfolding same_class
from_empties = heads_or heads_empties from_asserts

pub heads_member : Heads (λ n. g.member n) (at starts_member)
unfolding same_class
heads_member = heads_as member_of (heads_measured span_of (heads_or heads_accesses from_empties))

pub below_member : Below (λ n. g.deeper_member n) (λ n. g.member n)
below_member = record { none = refl; one_less = λ n. refl }

pub heads_deep_member : Heads (λ n. g.deeper_member n) (at starts_member)
heads_deep_member = heads_below below_member heads_member
