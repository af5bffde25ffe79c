-- Where a type's name ends: its tokens are one whatever follows them but `::` ([expr.prim.id.qual]).
use Rattle.std.proofs.Common.{◌≡◌, Bool, true, false, ◌&&◌, if◌then◌else◌, List, [], ◌∷◌, ◌++◌, Option, Some, None, refl, sym, ◌∙◌, ap}
use Rattle.cx_grammar.specs.Reading.{sees}
use Rattle.cx_grammar.specs.Reads.{tail_of}
use Rattle.cx_syntax.specs.declared.class.Class.TheVariants as k
use Rattle.cx_syntax.specs.declared.lexeme.Lexeme.{Lexeme}
use Rattle.cx_syntax.specs.Ahead.{names_end, qtype_end}
use Rattle.cx_syntax.specs.Classes.{is}
use Rattle.cx_syntax.specs.Sets.{is_type, is_name}
use Rattle.cx_syntax.proofs.Basics.{sub, false_of, both_true}

-- no `::` comes next
abbrev pub NoColons : List Lexeme → Type 0
NoColons z = sees (is k.ColonColon) z ≡ false

pub record Cut (end : List Lexeme → Option (List Lexeme)) (ts rest : List Lexeme) : Type 0 where
  pub first : Lexeme
  pub more : List Lexeme
  pub cut : ts ≡ first ∷ more ++ rest
  pub clear : NoColons rest
  pub again : (z : List Lexeme) → NoColons z → end (first ∷ more ++ z) ≡ Some z

abbrev pub last_end : Bool → List Lexeme → Option (List Lexeme)
last_end b rest = if b then Some rest else None

pub some_same : {A : Type 0} {a b : A} → Some a ≡ Some b → a ≡ b
some_same e = cc

pub no_some : {A : Type 0} {a : A} → None ≡ Some a → ⊥
no_some e = cc

not_second : (b c : Bool) → c ≡ false → (b && c) ≡ false
not_second true c e = e
not_second false c e = refl

-- the last name
lone_again : (t : Lexeme) (z : List Lexeme) → is_type t.class ≡ true → NoColons z → names_end (t ∷ z) ≡ Some z
lone_again t [] e c = ap (λ b. last_end b []) e
lone_again t (u ∷ z) e c = ap (λ b. if b then names_end z else last_end (is_type t.class) (u ∷ z)) (not_second (is_name t.class) (is k.ColonColon u) c) ∙ ap (λ b. last_end b (u ∷ z)) e

lone_cut : (t : Lexeme) (ts rest : List Lexeme) (b : Bool) → is_type t.class ≡ b → (b ≡ true → NoColons ts) → last_end b ts ≡ Some rest → Cut names_end (t ∷ ts) rest
lone_cut t ts rest true p c e = let all = some_same e in record { first = t; more = []; cut = ap (λ l. t ∷ l) all; clear = sym (ap (sees (is k.ColonColon)) all) ∙ c refl; again = λ z n. lone_again t z p n }
lone_cut t ts rest false p c e = absurd (no_some e)

-- a name and `::` before them
scope_cut : (t u : Lexeme) (ts rest : List Lexeme) → (is_name t.class && is k.ColonColon u) ≡ true → Cut names_end ts rest → Cut names_end (t ∷ u ∷ ts) rest
scope_cut t u ts rest p c = record {
  first = t;
  more = u ∷ c.first ∷ c.more;
  cut = ap (λ l. t ∷ u ∷ l) c.cut;
  clear = c.clear;
  again = λ z n. ap (λ b. if b then names_end (c.first ∷ c.more ++ z) else last_end (is_type t.class) (u ∷ c.first ∷ c.more ++ z)) p ∙ c.again z n;
}

-- behind a TYPE that is the last name no `::` stands
type_last : (t u : Lexeme) → (is_name t.class && is k.ColonColon u) ≡ false → is_type t.class ≡ true → is k.ColonColon u ≡ false
type_last t u p e = false_of (is k.ColonColon u) (λ i. let both : true ≡ false = sym (both_true (is_name t.class) (is k.ColonColon u) (sub is_type is_name refl t e) i) ∙ p in cc)

scopes_cut : (t u : Lexeme) (ts rest : List Lexeme) → (names_end ts ≡ Some rest → Cut names_end ts rest) → (b : Bool) → (is_name t.class && is k.ColonColon u) ≡ b
    → (if b then names_end ts else last_end (is_type t.class) (u ∷ ts)) ≡ Some rest → Cut names_end (t ∷ u ∷ ts) rest
scopes_cut t u ts rest again true p e = scope_cut t u ts rest p (again e)
scopes_cut t u ts rest again false p e = lone_cut t (u ∷ ts) rest (is_type t.class) refl (λ i. type_last t u p i) e

pub names_cut : (ts rest : List Lexeme) → names_end ts ≡ Some rest → Cut names_end ts rest
names_cut [] rest e = absurd (no_some e)
names_cut (t ∷ []) rest e = lone_cut t [] rest (is_type t.class) refl (λ i. refl) e
names_cut (t ∷ u ∷ ts) rest e = scopes_cut t u ts rest (names_cut ts rest) (is_name t.class && is k.ColonColon u) refl e

-- a qtype, with or without `::` before it
qtype_by : (ts rest : List Lexeme) (b : Bool) → sees (is k.ColonColon) ts ≡ b → (if b then names_end (tail_of ts) else names_end ts) ≡ Some rest → Cut qtype_end ts rest
qtype_by ts rest false p e = let c = names_cut ts rest e in record {
  first = c.first;
  more = c.more;
  cut = c.cut;
  clear = c.clear;
  again = λ z n. ap (λ b. if b then names_end (c.more ++ z) else names_end (c.first ∷ c.more ++ z)) (sym (ap (sees (is k.ColonColon)) c.cut) ∙ p) ∙ c.again z n;
}
qtype_by [] rest true p e = absurd (no_some e)
qtype_by (t ∷ ts) rest true p e = let c = names_cut ts rest e in record {
  first = t;
  more = c.first ∷ c.more;
  cut = ap (λ l. t ∷ l) c.cut;
  clear = c.clear;
  again = λ z n. ap (λ b. if b then names_end (c.first ∷ c.more ++ z) else names_end (t ∷ c.first ∷ c.more ++ z)) p ∙ c.again z n;
}

pub qtype_cut : (ts rest : List Lexeme) → qtype_end ts ≡ Some rest → Cut qtype_end ts rest
qtype_cut ts rest e = qtype_by ts rest (sees (is k.ColonColon) ts) refl e
