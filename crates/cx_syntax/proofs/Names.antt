-- The readers of names are exact ([expr.prim.id], [over.oper]).
use Rattle.std.proofs.Common.{◌≡◌, ℕ, Bool, true, ◌||◌, ◌&&◌, List, [], ◌∷◌, Option, refl, inl, inr}
use Rattle.cx_grammar.specs.Language.{one, the, maybe, many, names, none_yet, some, nothing, whole, ◌<$>◌, ◌⊳◌, ◌⊲◌}
use Rattle.cx_grammar.specs.Exact.{Family}
use Rattle.cx_grammar.specs.Sets.{by, never}
use Rattle.cx_grammar.proofs.Heads.{Heads, Opens, heads_as, heads_before, heads_or, heads_the, heads_sub, heads_measured, heads_behind, opens_many, opens_maybe, opens_sub, never_sub, same_sub}
use Rattle.cx_grammar.proofs.Steps.{Exactly, exactly_token, exactly_as, exactly_before, exactly_both, exactly_maybe}
use Rattle.cx_grammar.proofs.Levels.{present_at}
use Rattle.cx_grammar.proofs.Names.{exactly_names}
use Rattle.cx_grammar.proofs.Sides.{exactly_measured}
use Rattle.cx_syntax.specs.declared.class.Class.{Class}
use Rattle.cx_syntax.specs.declared.class.Class.TheVariants as k
use Rattle.cx_syntax.specs.declared.lexeme.Lexeme.{Lexeme}
use Rattle.cx_tree.specs.declared.names.Ident.{Ident}
use Rattle.cx_tree.specs.declared.names.Last.{Last}
use Rattle.cx_tree.specs.declared.names.Last.TheVariants as last
use Rattle.cx_tree.specs.declared.operators.Overloaded.{Overloaded}
use Rattle.cx_tree.specs.declared.operators.Overloaded.TheVariants as v
use Rattle.cx_syntax.specs.Classes.{is, same_class}
use Rattle.cx_syntax.specs.Sets.{is_type, is_id, is_name, is_single_operator, starts_last, starts_fname, starts_name}
pub use Rattle.cx_syntax.specs.Goes.{goes_name}
use Rattle.cx_syntax.specs.Values.{pick, span_of, ident_of, operator_named, destructor_named, function_name, type_name, overloaded_of}
use Rattle.cx_syntax.specs.Grammar as g
use Rattle.cx_syntax.specs.Readers as r
use Rattle.cx_syntax.specs.Readers.{just}
use Rattle.cx_syntax.proofs.Basics.{at, apart, sub, pick_fits, pick_named, heads_pick, begun_pick, exactly_stays, exactly_pair, exactly_choice, both_true, heads_after}

-- ---- operators

abbrev pub starts_op : Class → Bool
starts_op c = just k.OpenParen c || (just k.OpenBracket c || is_single_operator c)

abbrev pub call : Family Lexeme Overloaded
call n = (λ _. v.Call) <$> (is k.OpenParen ⊳ the (is k.CloseParen))

abbrev pub brackets : Family Lexeme Overloaded
brackets n = (λ _. v.Subscript) <$> (is k.OpenBracket ⊳ the (is k.CloseBracket))

pub heads_call : Heads call (at (just k.OpenParen))
heads_call = heads_as (λ _. v.Call) (heads_before {G = λ n. the (is k.CloseParen)} (is k.OpenParen))

pub heads_brackets : Heads brackets (at (just k.OpenBracket))
heads_brackets = heads_as (λ _. v.Subscript) (heads_before {G = λ n. the (is k.CloseBracket)} (is k.OpenBracket))

pub heads_single : Heads (λ n. one (pick is_single_operator overloaded_of)) (at is_single_operator)
heads_single = heads_pick is_single_operator overloaded_of

pub exactly_op : (left : ℕ) → Exactly (λ n. g.op) (by never) left r.op
unfolding r.op same_class
exactly_op left = exactly_choice (just k.OpenParen) (λ c. just k.OpenBracket c || is_single_operator c) refl heads_call (heads_or heads_brackets heads_single)
    (present_at refl (λ n. refl) (exactly_as (λ _. v.Call) (exactly_before (is k.OpenParen) exactly_token)))
    (exactly_pair (exactly_choice (just k.OpenBracket) is_single_operator refl heads_brackets heads_single
    (present_at refl (λ n. refl) (exactly_as (λ _. v.Subscript) (exactly_before (is k.OpenBracket) exactly_token)))
    (exactly_stays refl (λ n. refl) exactly_token)))

-- ---- the end of an fname, and fname

abbrev pub operator_part : Family Lexeme Last
operator_part n = last.Operator <$> g.operator_name

abbrev pub id_part : Family Lexeme Last
id_part n = last.Ident <$> g.id

pub heads_operator_part : Heads operator_part (at (just k.Operator))
heads_operator_part = heads_as last.Operator (heads_as operator_named (heads_measured span_of (heads_before {G = λ n. g.op} (is k.Operator))))

pub heads_id_part : Heads id_part (at is_id)
heads_id_part = heads_as last.Ident (heads_pick is_id ident_of)

pub heads_last_part : Heads (λ n. g.last_part) (at starts_last)
unfolding same_class
heads_last_part = heads_sub (sub (λ c. is_id c || just k.Operator c) starts_last refl) (heads_or heads_id_part heads_operator_part)

pub exactly_last_part : (left : ℕ) → Exactly (λ n. g.last_part) (by never) left r.last_part
unfolding r.last_part same_class
exactly_last_part left = exactly_choice is_id (just k.Operator) refl heads_id_part heads_operator_part
    (present_at refl (λ n. refl) (exactly_as last.Ident exactly_token))
    (exactly_stays refl (λ n. refl) (exactly_as last.Operator (exactly_as operator_named (exactly_measured span_of (exactly_before (is k.Operator) (exactly_op left))))))

-- a name that ends an fname is all of the end
pub lone_spelled : (t : Lexeme) (x : List Lexeme) (w : Last) → at is_name t ≡ true → g.last_part.spells (t ∷ x) w → x ≡ []
unfolding same_class
lone_spelled t x w is (inl s) = let alone = s.part.alone in cc
lone_spelled t x w is (inr s) = absurd (apart is_name (just k.Operator) refl t is (heads_operator_part.spells 0 t x w s))

pub lone_begun : (t : Lexeme) (x : List Lexeme) → at is_name t ≡ true → g.last_part.begins (t ∷ x) → x ≡ []
unfolding same_class
lone_begun t x is (inl (none_yet e)) = cc
lone_begun t x is (inr (none_yet e)) = cc
lone_begun t x is (inl (some st (nothing e))) = cc
lone_begun t x is (inl (some st (whole v s))) = let alone = s.alone in cc
lone_begun t x is (inr (some st b)) = absurd (apart is_name (just k.Operator) refl t is (heads_operator_part.begins 0 t x b))

pub name_ends : (t : Lexeme) → at is_name t ≡ true → at starts_last t ≡ true → at is_id t ≡ true
name_ends t e f = sub (λ c. is_name c && starts_last c) is_id refl t (both_true (is_name t.class) (starts_last t.class) e f)

pub last_begins : (t : Lexeme) → at is_name t ≡ true → at starts_last t ≡ true → g.last_part.begins (t ∷ [])
last_begins t is e = inl (some refl (begun_pick is_id ident_of t (name_ends t is e)))

abbrev pub fname_parts : Family Lexeme (List Ident × Last)
fname_parts n = names (pick is_name ident_of) (is k.ColonColon) g.last_part

pub exactly_fname_parts : (left : ℕ) → Exactly fname_parts (by (at goes_name)) left r.fname_parts
exactly_fname_parts left = exactly_names (at goes_name) heads_last_part (exactly_last_part left) (λ t w e. pick_fits is_name ident_of t w e) (λ t e. pick_named is_name ident_of t e)
    (λ n t x w is s. lone_spelled t x w is s) (λ n t x is b. lone_begun t x is b) last_begins (never_sub (at goes_name)) (same_sub (at goes_name))

pub exactly_fname : (left : ℕ) → Exactly (λ n. g.fname) (by (at goes_name)) left r.fname
unfolding r.fname
exactly_fname left = exactly_as function_name (exactly_measured span_of (exactly_fname_parts left))

pub heads_scopes : Opens (λ n. many (one (pick is_name ident_of) ⊲ is k.ColonColon)) (at is_name)
heads_scopes = opens_many (heads_behind {G = λ n. one (pick is_name ident_of)} (is k.ColonColon) (heads_pick is_name ident_of))

pub heads_fname_parts : Heads fname_parts (at starts_fname)
heads_fname_parts = heads_after (opens_sub (sub is_name starts_fname refl) heads_scopes) (λ n. record { front = []; back = []; cut = refl; turns = []; whole = refl; next = none_yet refl })
    (heads_sub (sub starts_last starts_fname refl) heads_last_part)

pub heads_fname : Heads (λ n. g.fname) (at starts_fname)
heads_fname = heads_as function_name (heads_measured span_of heads_fname_parts)

-- ---- the name of a destructor

pub heads_destructor_name : Heads (λ n. g.destructor_name) (at (just k.Tilde))
heads_destructor_name = heads_as destructor_named (heads_measured span_of (heads_before {G = λ n. g.type_only} (is k.Tilde)))

pub exactly_destructor_name : (left : ℕ) → Exactly (λ n. g.destructor_name) (by never) left r.destructor_name
exactly_destructor_name left = exactly_as destructor_named (exactly_measured span_of (exactly_before (is k.Tilde) exactly_token))

-- ---- qtype

abbrev pub type_names : Family Lexeme (List Ident × Ident)
type_names n = names (pick is_name ident_of) (is k.ColonColon) g.type_only

pub heads_type_only : Heads (λ n. g.type_only) (at is_type)
heads_type_only = heads_pick is_type ident_of

pub lone_type : (t : Lexeme) (x : List Lexeme) (w : Ident) → g.type_only.spells (t ∷ x) w → x ≡ []
lone_type t x w s = let alone = s.alone in cc

pub lone_type_begun : (t : Lexeme) (x : List Lexeme) → g.type_only.begins (t ∷ x) → x ≡ []
lone_type_begun t x (nothing e) = cc
lone_type_begun t x (whole v s) = let alone = s.alone in cc

pub exactly_type_names : (left : ℕ) → Exactly type_names (by (at goes_name)) left (r.type_names)
exactly_type_names left = exactly_names (at goes_name) heads_type_only (exactly_token {f = pick is_type ident_of}) (λ t w e. pick_fits is_name ident_of t w e) (λ t e. pick_named is_name ident_of t e)
    (λ n t x w is s. lone_type t x w s) (λ n t x is b. lone_type_begun t x b) (λ t is e. begun_pick is_type ident_of t e) (never_sub (at goes_name)) (same_sub (at goes_name))

pub heads_type_names : Heads type_names (at is_name)
heads_type_names = heads_after heads_scopes (λ n. record { front = []; back = []; cut = refl; turns = []; whole = refl; next = none_yet refl }) (heads_sub (sub is_type is_name refl) heads_type_only)

abbrev pub colons : Family Lexeme (Option (Unit {0}))
colons n = maybe (the (is k.ColonColon))

pub opens_colons : Opens colons (at goes_name)
opens_colons = opens_maybe (heads_the (is k.ColonColon))

pub exactly_colons : (left : ℕ) → Exactly colons (by (at goes_name)) left r.colons
exactly_colons left = exactly_maybe (at goes_name) (heads_the (is k.ColonColon)) (present_at refl (λ n. refl) exactly_token) (never_sub (at goes_name)) (same_sub (at goes_name))

pub exactly_qtype : (left : ℕ) → Exactly (λ n. g.qtype) (by (at goes_name)) left r.qtype
unfolding r.qtype same_class
exactly_qtype left = exactly_as type_name (exactly_measured span_of (exactly_both (exactly_colons left) (exactly_type_names left) heads_type_names (apart goes_name is_name refl)))

pub heads_qtype : Heads (λ n. g.qtype) (at starts_name)
unfolding same_class
heads_qtype = heads_as type_name (heads_measured span_of (heads_after (opens_sub (sub goes_name starts_name refl) opens_colons) (λ n. inl refl) (heads_sub (sub is_name starts_name refl) heads_type_names)))
