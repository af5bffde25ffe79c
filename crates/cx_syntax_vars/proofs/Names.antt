-- A name behind modifiers: a type's, or the one that is declared.
use Rattle.std.proofs.Common.{◌≡◌, ℕ, Bool, true, false, not, ◌&&◌, ◌||◌, List, [], ◌∷◌, ◌++◌, length, None, refl, sym, ◌∙◌, ap, subst, inl}
use Rattle.cx_base.specs.declared.rule.Rule.TheVariants.{Syntax}
use Rattle.cx_grammar.specs.Language.{many, none_yet, some, in_first, in_second}
use Rattle.cx_grammar.specs.Exact.{Family, GoesOn, Within, done, stop, Exact}
use Rattle.cx_grammar.specs.Reading.{made, sees, many_when}
use Rattle.cx_grammar.specs.Sets.{by}
use Rattle.cx_grammar.proofs.Heads.{Apart, Opens, heads_both, opens_maybe}
use Rattle.cx_tree.specs.declared.names.TypeName.{TypeName}
use Rattle.cx_syntax.specs.declared.class.Class.{Class}
use Rattle.cx_syntax.specs.declared.class.Class.TheVariants as k
use Rattle.cx_syntax.specs.declared.lexeme.Lexeme.{Lexeme}
use Rattle.cx_syntax.specs.Classes.{is, same_class}
use Rattle.cx_syntax.specs.Sets.{is_type, is_id, is_name, is_word, is_elaboration, starts_typed}
use Rattle.cx_syntax.specs.Values.{ident_of, elaboration_of, named_of, named_type}
use Rattle.cx_syntax.specs.Grammar as g
use Rattle.cx_syntax.specs.Readers as r
use Rattle.cx_syntax.specs.Readers.{just}
use Rattle.cx_syntax.proofs.Basics.{at, apart, sub, both_true, false_of, heads_pick, begun_pick}
use Rattle.cx_syntax.proofs.Names.{goes_name, exactly_qtype, heads_qtype}
use Rattle.cx_syntax.proofs.Specifiers.{heads_typed, heads_words_type}
use Rattle.cx_syntax.proofs.Ahead.{two, type_behind, type_end, qtype_made, qtype_plain, scopes_end}
use Rattle.cx_syntax.proofs.Primary.{stopped}
use Rattle.cx_syntax.proofs.Beside.{Covers, stop_covers}
use Rattle.cx_syntax.proofs.Fronts.{Never, never_covers, never_as, never_two, never_both, never_elsewhere}
use Rattle.cx_syntax.proofs.TypeOrExpr.{qtype_typed, unseen_by, not_false}
use Rattle.cx_syntax_vars.specs.Ahead.{type_next}
use Rattle.cx_syntax_vars.specs.Sets.{leads_type}
use Rattle.cx_syntax_vars.proofs.Tests.{and_no, and_rest, and_split, or_split}
use Rattle.cx_syntax_vars.proofs.Covering.{never_skip, goes_whole, one_left}
use Rattle.cx_syntax_vars.proofs.SpecsBefore.{type, DeclaratorNext, TypeNext, Decides}

-- ---- a name with no `::` behind it

module _ (t : Lexeme) (rest : List Lexeme) (named : is_name t.class ≡ true) (lone : sees (is k.ColonColon) rest ≡ false) where
  not_two : two (t ∷ rest) ≡ false
  not_two = ap (λ b. is_name t.class && b) lone ∙ and_no (is_name t.class)

  no_colons : sees (is k.ColonColon) (t ∷ rest) ≡ false
  unfolding same_class
  no_colons = unseen_by (apart is_name (just k.ColonColon) refl) (t ∷ rest) named

  names_read : r.type_names (t ∷ rest) ≡ made (λ b. ([], b)) (type_end (is_type t.class) true t rest)
  unfolding many_when
  names_read = scopes_end type_behind (length (t ∷ rest)) (t ∷ rest) not_two ∙ ap (λ c. made (λ b. ([], b)) (type_end (is_type t.class) c t rest)) named

  name_read : r.qtype (t ∷ rest) ≡ qtype_made (t ∷ rest) None (made (λ b. ([], b)) (type_end (is_type t.class) true t rest))
  name_read = qtype_plain (t ∷ rest) no_colons ∙ ap (qtype_made (t ∷ rest) None) names_read

-- an ID is no type
pub id_refused : (t : Lexeme) (rest : List Lexeme) → is_id t.class ≡ true → sees (is k.ColonColon) rest ≡ false → r.qtype (t ∷ rest) ≡ stop Syntax (length rest)
id_refused t rest e lone = name_read t rest (sub is_id is_name refl t e) lone
    ∙ ap (λ b. qtype_made (t ∷ rest) None (made (λ b. ([], b)) (type_end b true t rest))) (false_of (is_type t.class) (λ i. apart is_id is_type refl t e i))

pub record TypeRead (t : Lexeme) (rest : List Lexeme) : Type 0 where
  pub value : TypeName
  pub is : r.qtype (t ∷ rest) ≡ done value rest

-- a TYPE is one
pub type_read : (t : Lexeme) (rest : List Lexeme) → is_type t.class ≡ true → sees (is k.ColonColon) rest ≡ false → TypeRead t rest
type_read t rest e lone = record { value = _; is = name_read t rest (sub is_type is_name refl t e) lone ∙ ap (λ b. qtype_made (t ∷ rest) None (made (λ b. ([], b)) (type_end b true t rest))) e }

-- ---- an ID with no `::` behind it: no type, but the front of one

module _ (t : Lexeme) (rest : List Lexeme) (id : is_id t.class ≡ true) (lone : sees (is k.ColonColon) rest ≡ false) where
  refused : Exact (λ n. g.qtype) (by (at goes_name)) 0 (t ∷ rest) (stop Syntax (length rest))
  refused = stopped (exactly_qtype 0) (t ∷ rest) (length rest) (id_refused t rest id lone)

  one_used : refused.used ≡ t ∷ []
  one_used = one_left t rest refused.used refused.rest refused.core.cut refused.size

  not_spelled : (n : ℕ) (x y : List Lexeme) (w : TypeName) → t ∷ rest ≡ x ++ y → g.qtype.spells x w → Within (t ∷ []) x → GoesOn (by (at goes_name)) w y → ⊥
  not_spelled n [] y w e s within goes = heads_qtype.full n w s
  not_spelled n (u ∷ v ∷ x) y w e s (d, c) goes = cc
  not_spelled n (u ∷ []) [] w e s within goes = goes
  not_spelled n (u ∷ []) (v ∷ y) w e s within goes = let tails : rest ≡ v ∷ y = cc in let both : true ≡ false = sym goes ∙ (sym (ap (sees (is k.ColonColon)) tails) ∙ lone) in cc

  pub never_qtype : Never (λ n. g.qtype) (t ∷ rest) (t ∷ [])
  never_qtype = let c = stop_covers (λ n. g.qtype) (by (at goes_name)) 0 (t ∷ rest) (length rest) refused in record {
    only = λ n x y w e s. let p = c.only n x y w e s in not_spelled n x y w e s (subst (λ (l : List Lexeme). Within l x) one_used p.0) p.1;
    ends = λ n x y e b. subst (λ (l : List Lexeme). Within l x) one_used (c.ends n x y e b);
  }

  pub never_type : Never (λ n. type) (t ∷ rest) (t ∷ [])
  unfolding same_class
  never_type = never_two (never_elsewhere heads_words_type (t ∷ rest) (unseen_by (apart is_id is_word refl) (t ∷ rest) id) (t ∷ []))
      (never_as named_type (never_both (λ n. many g.modifier) (never_as named_of (never_skip (opens_maybe (heads_pick is_elaboration elaboration_of)) (unseen_by (apart is_id is_elaboration refl) (t ∷ rest) id) never_qtype))))

-- each name begins a type
pub name_type_begun : (t : Lexeme) → is_name t.class ≡ true → type.begins (t ∷ [])
name_type_begun t e = qtype_typed (t ∷ []) (in_second [] (t ∷ []) None refl (inl (record { value = tt; made = refl; part = refl }))
    (in_first (record { front = []; back = t ∷ []; cut = refl; turns = []; whole = refl; next = some refl (in_first (begun_pick is_name ident_of t e)) })))

-- ---- the test of local variables, parameters and the range of a `for`

-- what a declarator must be: it begins with no token that leads a type, but with each ID, and behind an ID it has no `::`
pub record Declares {A : Type 0} (H : Family Lexeme A) (p go : Class → Bool) (left : ℕ) : Type 0 where
  pub opens : Opens H (at p)
  pub apart : Apart (at leads_type) (at p)
  pub over : (n : ℕ) (w : A) (t : Lexeme) → (H n).spells [] w → at starts_typed t ≡ true → at go t ≡ true
  pub blank : (H left).begins []
  pub ids : (t : Lexeme) → is_id t.class ≡ true → (H left).begins (t ∷ [])
  pub named : (t c : Lexeme) (rest : List Lexeme) → is_id t.class ≡ true → is k.ColonColon c ≡ true → Covers H (by (at go)) (t ∷ c ∷ rest) (t ∷ [])

module _ {A : Type 0} {H : Family Lexeme A} (p go : Class → Bool) {left : ℕ} (d : Declares H p go left) where
  -- no type begins here
  none_typed : (ts : List Lexeme) → sees (at starts_typed) ts ≡ false → DeclaratorNext H go left ts
  none_typed ts unseen = record { front = []; rest = ts; cut = refl; covers = never_covers (by (at go)) (never_elsewhere (heads_both H heads_typed) ts unseen []); begins = d.blank }

  by_start : (t : Lexeme) (rest : List Lexeme) (b : Bool) → starts_typed t.class ≡ b → leads_type t.class ≡ false → (is_name t.class && sees (is k.ColonColon) rest) ≡ false → DeclaratorNext H go left (t ∷ rest)
  by_start t rest false e f h = none_typed (t ∷ rest) e
  by_start t rest true e f h = let id : is_id t.class ≡ true = not_false (is_id t.class) (and_rest (starts_typed t.class) (not (is_id t.class)) e f) in
      let lone = and_rest (is_name t.class) (sees (is k.ColonColon) rest) (sub is_id is_name refl t id) h in
      record { front = t ∷ []; rest = rest; cut = refl; covers = never_covers (by (at go)) (never_both H (never_type t rest id lone)); begins = d.ids t id }

  declarator_next : (ts : List Lexeme) → type_next ts ≡ false → DeclaratorNext H go left ts
  declarator_next [] e = none_typed [] refl
  declarator_next (t ∷ rest) e = let s = or_split (leads_type t.class) (is_name t.class && sees (is k.ColonColon) rest) e in by_start t rest (starts_typed t.class) refl s.0 s.1

  -- what leads a type begins no declarator
  led_only : (t : Lexeme) (rest : List Lexeme) → at leads_type t ≡ true → (n : ℕ) (x y : List Lexeme) (w : A) → t ∷ rest ≡ x ++ y → (H n).spells x w → Within [] x × GoesOn (by (at go)) w y
  led_only t rest l n (u ∷ x) y w e s = let heads : t ≡ u = cc in absurd (d.apart u (subst (λ (z : Lexeme). at leads_type z ≡ true) heads l) (d.opens.spells n u x w s))
  led_only t rest l n [] y w e s = let typed : at starts_typed t ≡ true = (and_split (starts_typed t.class) (not (is_id t.class)) l).0 in
      (([], refl), goes_whole (at go) w (t ∷ rest) [] y e refl (d.over n w t s typed))

  led_ends : (t : Lexeme) (rest : List Lexeme) → at leads_type t ≡ true → (n : ℕ) (x y : List Lexeme) → t ∷ rest ≡ x ++ y → (H n).begins x → Within [] x
  led_ends t rest l n [] y e b = ([], refl)
  led_ends t rest l n (u ∷ x) y e b = let heads : t ≡ u = cc in absurd (d.apart u (subst (λ (z : Lexeme). at leads_type z ≡ true) heads l) (d.opens.begins n u x b))

  by_lead : (t : Lexeme) (rest : List Lexeme) (b : Bool) → leads_type t.class ≡ b → (b || (is_name t.class && sees (is k.ColonColon) rest)) ≡ true → TypeNext H go (t ∷ rest)
  by_lead t rest true l e = record { front = []; rest = t ∷ rest; cut = refl; covers = record { only = led_only t rest l; ends = led_ends t rest l }; begins = inl (none_yet refl) }
  by_lead t [] false l e = let s = and_split (is_name t.class) false e in absurd (let c : false ≡ true = s.1 in cc)
  by_lead t (c ∷ rest) false l e = let s = and_split (is_name t.class) (is k.ColonColon c) e in
      let id = sub (λ z. is_name z && not (leads_type z)) is_id refl t (both_true (is_name t.class) (not (leads_type t.class)) s.0 (ap not l)) in
      record { front = t ∷ []; rest = c ∷ rest; cut = refl; covers = d.named t c rest id s.1; begins = name_type_begun t s.0 }

  type_is_next : (ts : List Lexeme) → type_next ts ≡ true → TypeNext H go ts
  type_is_next [] e = absurd (let c : false ≡ true = e in cc)
  type_is_next (t ∷ rest) e = by_lead t rest (leads_type t.class) refl e

  pub decides_type : Decides H go left type_next
  decides_type = record { declarator = declarator_next; typed = type_is_next }
