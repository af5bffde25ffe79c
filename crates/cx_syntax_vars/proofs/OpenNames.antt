-- Fronts of a list of arguments that are names alone: they go on to a name that is an expression. Other fronts have told whether a type comes first.
use Rattle.std.proofs.Common.{◌≡◌, ℕ, Bool, true, false, ◌&&◌, if◌then◌else◌, List, [], ◌∷◌, ◌++◌, Some, None, refl, sym, ◌∙◌, ap, inl, inr}
use Rattle.cx_grammar.specs.Language.{Language, names}
use Rattle.cx_grammar.specs.Reading.{sees}
use Rattle.cx_grammar.specs.Reads.{tail_of}
use Rattle.cx_tree.specs.declared.exprs.ExprKind.{ExprKind}
use Rattle.cx_tree.specs.declared.names.Ident.{Ident}
use Rattle.cx_tree.specs.declared.names.Last.{Last}
use Rattle.cx_tree.specs.declared.names.Last.TheVariants as last
use Rattle.cx_syntax.specs.declared.class.Class.TheVariants as k
use Rattle.cx_syntax.specs.declared.lexeme.Lexeme.{Lexeme}
use Rattle.cx_syntax.specs.Classes.{is, same_class}
use Rattle.cx_syntax.specs.Ahead.{names_end, qtype_end}
use Rattle.cx_syntax.specs.Sets.{is_type, is_name}
use Rattle.cx_syntax.specs.Values.{pick, span_of, ident_of, name_of, function_name}
use Rattle.cx_syntax.specs.Grammar as g
use Rattle.cx_syntax.proofs.Basics.{sub, false_of}
use Rattle.cx_syntax.proofs.Viable.{sample}
use Rattle.cx_syntax_vars.proofs.Tests.{and_split}
use Rattle.cx_syntax_vars.proofs.Arguments.{bare, names_by, ends_by, some_left}

-- ---- names with `::` between them, and perhaps `::` at the end

abbrev pub names_open : List Lexeme → Bool
names_open [] = true
names_open (t ∷ []) = is_name t.class
names_open (t ∷ u ∷ ts) = (is_name t.class && is k.ColonColon u) && names_open ts

none_some : {v : List Lexeme} → Some v ≡ None → ⊥
none_some e = cc

not_bare : (b : Bool) (rest : List Lexeme) → bare b rest ≡ None → b ≡ false
not_bare true rest e = absurd (none_some e)
not_bare false rest e = refl

not_type : (t : Lexeme) → is_name t.class ≡ false → is_type t.class ≡ false
not_type t e = false_of (is_type t.class) (λ i. let both : true ≡ false = sym (sub is_type is_name refl t i) ∙ e in cc)

-- a token that is no name ends nothing
no_name_end : (t : Lexeme) (y : List Lexeme) → is_name t.class ≡ false → names_end (t ∷ y) ≡ None
no_name_end t [] e = ap (λ b. bare b []) (not_type t e)
no_name_end t (u ∷ y) e = ap (λ b. names_by (b && is k.ColonColon u) (is_type t.class) y (u ∷ y)) e ∙ ap (λ b. bare b (u ∷ y)) (not_type t e)

closed_by : (t u : Lexeme) (ts y : List Lexeme) (b : Bool) → (is_name t.class && is k.ColonColon u) ≡ b → (b && names_open ts) ≡ false → names_by b (is_type t.class) ts (u ∷ ts) ≡ None
    → (names_open ts ≡ false → names_end ts ≡ None → names_end (ts ++ y) ≡ None) → names_end (t ∷ u ∷ (ts ++ y)) ≡ None
closed_by t u ts y true e o n again = ap (λ b. names_by b (is_type t.class) (ts ++ y) (u ∷ (ts ++ y))) e ∙ again o n
closed_by t u ts y false e o n again = ap (λ b. names_by b (is_type t.class) (ts ++ y) (u ∷ (ts ++ y))) e ∙ ap (λ b. bare b (u ∷ (ts ++ y))) (not_bare (is_type t.class) (u ∷ ts) n)

-- where other tokens stand, no type comes first whatever follows
pub closed_names : (x y : List Lexeme) → names_open x ≡ false → names_end x ≡ None → names_end (x ++ y) ≡ None
closed_names [] y o n = cc
closed_names (t ∷ []) y o n = no_name_end t y o
closed_names (t ∷ u ∷ ts) y o n = closed_by t u ts y (is_name t.class && is k.ColonColon u) refl (open_is t u ts o) (end_is t u ts n) (λ p q. closed_names ts y p q)
  where
    open_is : (t u : Lexeme) (ts : List Lexeme) → names_open (t ∷ u ∷ ts) ≡ false → ((is_name t.class && is k.ColonColon u) && names_open ts) ≡ false
    open_is t u ts e = e

    end_is : (t u : Lexeme) (ts : List Lexeme) → names_end (t ∷ u ∷ ts) ≡ None → names_by (is_name t.class && is k.ColonColon u) (is_type t.class) ts (u ∷ ts) ≡ None
    end_is t u ts e = e

-- ---- names go on to a name that is an expression

abbrev scoped : Language Lexeme (List Ident × Last)
scoped = names (pick is_name ident_of) (is k.ColonColon) g.last_part

pub record NameBehind (x : List Lexeme) : Type 0 where
  pub more : List Lexeme
  pub value : List Ident × Last
  pub spelled : scoped.spells (x ++ more) value
  pub end : names_end (x ++ more) ≡ None

abbrev id : Lexeme
id = sample k.Ident

abbrev colons : Lexeme
colons = sample k.ColonColon

id_spelled : NameBehind []
id_spelled = record { more = id ∷ []; value = ([], last.Ident (ident_of id)); spelled = record { front = []; back = id ∷ []; cut = refl; first = refl; second = inl (record { value = ident_of id; made = refl; part = record { token = id; alone = refl; fits = refl } }) }; end = refl }

-- a name and `::` before them
led_spelled : (t u : Lexeme) (y : List Lexeme) (v : List Ident × Last) → is_name t.class ≡ true → is k.ColonColon u ≡ true → scoped.spells y v → scoped.spells (t ∷ u ∷ y) (ident_of t ∷ v.0, v.1)
led_spelled t u y v e f s = record {
  front = t ∷ u ∷ s.front;
  back = s.back;
  cut = ap (λ l. t ∷ u ∷ l) s.cut;
  first = (
    t ∷ u ∷ [],
    s.front,
    refl,
    record {
      value = (ident_of t, tt);
      made = refl;
      part = record {
        front = t ∷ [];
        back = u ∷ [];
        cut = refl;
        first = record { token = t; alone = refl; fits = ap (λ b. if b then Some (ident_of t) else None) e };
        second = record { token = u; alone = refl; fits = ap (λ b. if b then Some tt else None) f };
      };
    },
    s.first,
  );
  second = s.second;
}

led_end : (t u : Lexeme) (y : List Lexeme) → is_name t.class ≡ true → is k.ColonColon u ≡ true → names_end y ≡ None → names_end (t ∷ u ∷ y) ≡ None
led_end t u y e f n = ap (λ b. names_by (b && is k.ColonColon u) (is_type t.class) y (u ∷ y)) e ∙ (ap (λ b. names_by b (is_type t.class) y (u ∷ y)) f ∙ n)

led : (t u : Lexeme) (x : List Lexeme) → is_name t.class ≡ true → is k.ColonColon u ≡ true → NameBehind x → NameBehind (t ∷ u ∷ x)
led t u x e f n = record { more = n.more; value = (ident_of t ∷ n.value.0, n.value.1); spelled = led_spelled t u (x ++ n.more) n.value e f n.spelled; end = led_end t u (x ++ n.more) e f n.end }

colons_are : is k.ColonColon colons ≡ true
unfolding same_class
colons_are = refl

-- behind a name stand `::` and another
lone : (t : Lexeme) → is_name t.class ≡ true → NameBehind (t ∷ [])
unfolding id_spelled
lone t e = let n = id_spelled in record { more = colons ∷ id ∷ []; value = (ident_of t ∷ n.value.0, n.value.1); spelled = led_spelled t colons (id ∷ []) n.value e colons_are n.spelled; end = led_end t colons (id ∷ []) e colons_are n.end }

pub open_names : (x : List Lexeme) → names_open x ≡ true → NameBehind x
open_names [] e = id_spelled
open_names (t ∷ []) e = lone t e
open_names (t ∷ u ∷ x) e = let p = and_split (is_name t.class && is k.ColonColon u) (names_open x) e in let q = and_split (is_name t.class) (is k.ColonColon u) p.0 in led t u x q.0 q.1 (open_names x p.1)

-- ---- with `::` before them

abbrev behind_colons : Bool → List Lexeme → List Lexeme
behind_colons b x = if b then tail_of x else x

abbrev pub run_open : List Lexeme → Bool
run_open x = names_open (behind_colons (sees (is k.ColonColon) x) x)

pub record ExprBehind (x : List Lexeme) : Type 0 where
  pub more : List Lexeme
  pub value : ExprKind
  pub spelled : (n : ℕ) → (g.id_expression (g.deeper n)).spells (x ++ more) value
  pub end : qtype_end (x ++ more) ≡ None

plain_first : (t : Lexeme) (x : List Lexeme) → sees (is k.ColonColon) (t ∷ x) ≡ false → NameBehind (t ∷ x) → ExprBehind (t ∷ x)
plain_first t x e n = record {
  more = n.more;
  value = name_of ((None, n.value), span_of (t ∷ (x ++ n.more)));
  spelled = λ m. record {
    value = ((None, n.value), span_of (t ∷ (x ++ n.more)));
    made = refl;
    part = record {
      part = record {
        front = [];
        back = t ∷ (x ++ n.more);
        cut = refl;
        first = inl (record { value = tt; made = refl; part = refl });
        second = n.spelled;
      };
      measure = refl;
    };
  };
  end = ap (λ b. ends_by b (t ∷ (x ++ n.more))) e ∙ n.end;
}

global_first : (t : Lexeme) (x : List Lexeme) → is k.ColonColon t ≡ true → NameBehind x → ExprBehind (t ∷ x)
global_first t x e n = record {
  more = n.more;
  value = name_of ((Some tt, n.value), span_of (t ∷ (x ++ n.more)));
  spelled = λ m. record {
    value = ((Some tt, n.value), span_of (t ∷ (x ++ n.more)));
    made = refl;
    part = record {
      part = record {
        front = t ∷ [];
        back = x ++ n.more;
        cut = refl;
        first = inr (record { value = tt; made = refl; part = record { token = t; alone = refl; fits = ap (λ b. if b then Some tt else None) e } });
        second = n.spelled;
      };
      measure = refl;
    };
  };
  end = ap (λ b. ends_by b (t ∷ (x ++ n.more))) e ∙ n.end;
}

open_by : (t : Lexeme) (x : List Lexeme) (b : Bool) → is k.ColonColon t ≡ b → names_open (behind_colons b (t ∷ x)) ≡ true → ExprBehind (t ∷ x)
open_by t x true e o = global_first t x e (open_names x o)
open_by t x false e o = plain_first t x e (open_names (t ∷ x) o)

pub open_run : (t : Lexeme) (x : List Lexeme) → run_open (t ∷ x) ≡ true → ExprBehind (t ∷ x)
open_run t x o = open_by t x (is k.ColonColon t) refl o

closed_run_by : (t : Lexeme) (x y : List Lexeme) (b : Bool) → is k.ColonColon t ≡ b → names_open (behind_colons b (t ∷ x)) ≡ false → ends_by b (t ∷ x) ≡ None → qtype_end (t ∷ (x ++ y)) ≡ None
closed_run_by t x y true e o n = ap (λ b. ends_by b (t ∷ (x ++ y))) e ∙ closed_names x y o n
closed_run_by t x y false e o n = ap (λ b. ends_by b (t ∷ (x ++ y))) e ∙ closed_names (t ∷ x) y o n

pub closed_run : (t : Lexeme) (x y : List Lexeme) → run_open (t ∷ x) ≡ false → qtype_end (t ∷ x) ≡ None → qtype_end (t ∷ (x ++ y)) ≡ None
closed_run t x y o n = closed_run_by t x y (is k.ColonColon t) refl o n

-- where a type's name is all, the front is open
bare_type : (b : Bool) (v : List Lexeme) → bare b [] ≡ Some v → b ≡ true
bare_type true v e = refl
bare_type false v e = cc

bare_longer : (b : Bool) (u : Lexeme) (ts : List Lexeme) → bare b (u ∷ ts) ≡ Some [] → ⊥
bare_longer true u ts e = let none : u ∷ ts ≡ [] = some_left e in cc
bare_longer false u ts e = cc

ended_by : (t u : Lexeme) (ts : List Lexeme) (b : Bool) → (is_name t.class && is k.ColonColon u) ≡ b → names_by b (is_type t.class) ts (u ∷ ts) ≡ Some [] → (names_end ts ≡ Some [] → names_open ts ≡ true) → ((is_name t.class && is k.ColonColon u) && names_open ts) ≡ true
ended_by t u ts true e n again = ap (λ b. b && names_open ts) e ∙ again n
ended_by t u ts false e n again = absurd (bare_longer (is_type t.class) u ts n)

ended_open : (x : List Lexeme) → names_end x ≡ Some [] → names_open x ≡ true
ended_open [] e = refl
ended_open (t ∷ []) e = sub is_type is_name refl t (bare_type (is_type t.class) [] e)
ended_open (t ∷ u ∷ ts) e = ended_by t u ts (is_name t.class && is k.ColonColon u) refl e (λ f. ended_open ts f)

ended_run_by : (x : List Lexeme) (b : Bool) → sees (is k.ColonColon) x ≡ b → ends_by b x ≡ Some [] → names_open (behind_colons b x) ≡ true
ended_run_by x true e n = ended_open (tail_of x) n
ended_run_by x false e n = ended_open x n

pub ended_run : (x : List Lexeme) → qtype_end x ≡ Some [] → run_open x ≡ true
ended_run x e = ended_run_by x (sees (is k.ColonColon) x) refl e
