-- The reader of an initializer is exact ([dcl.init]).
use Rattle.std.proofs.Common.{◌≡◌, ℕ, Bool, true, false, ◌||◌, List, ◌∷◌, refl, subst}
use Rattle.cx_grammar.specs.Language.{present, ◌<$>◌, ◌∥◌, ◌⊲◌}
use Rattle.cx_grammar.specs.Exact.{Family, Outcome}
use Rattle.cx_grammar.specs.Reading.{Reader, made, guarded, measured_by, ◌<$>◌ as ◌<$$>◌}
use Rattle.cx_grammar.specs.Sets.{by, never}
use Rattle.cx_grammar.proofs.Heads.{Heads, heads_as, heads_before, heads_or, heads_sub, heads_measured, never_sub}
use Rattle.cx_grammar.proofs.Steps.{Exactly, ExactlyAt, exactly_as, exactly_before, exactly_behind}
use Rattle.cx_grammar.proofs.Choices.{Right, exactly_on}
use Rattle.cx_grammar.proofs.Levels.{Marked, marked, present_at, begun_by}
use Rattle.cx_grammar.proofs.Sames.{exactly_same, swapped}
use Rattle.cx_grammar.proofs.Sides.{exactly_measured}
use Rattle.cx_tree.specs.declared.stmts.InitKind.{InitKind}
use Rattle.cx_tree.specs.declared.stmts.InitKind.TheVariants as i
use Rattle.cx_syntax.specs.declared.class.Class.{Class}
use Rattle.cx_syntax.specs.declared.class.Class.TheVariants as k
use Rattle.cx_syntax.specs.declared.lexeme.Lexeme.{Lexeme}
use Rattle.cx_syntax.specs.Classes.{is, same_class}
use Rattle.cx_syntax.specs.Sets.{starts_assign}
use Rattle.cx_syntax.specs.Goes.{goes_assign, goes_args}
use Rattle.cx_syntax.specs.Values.{span_of}
use Rattle.cx_syntax.specs.Grammar as g
use Rattle.cx_syntax.specs.Readers as r
use Rattle.cx_syntax.specs.Readers.{just}
use Rattle.cx_syntax.proofs.Basics.{at, apart, sub, exactly_widened, exactly_stays, exactly_pair, exactly_choice}
use Rattle.cx_syntax.proofs.Depth.{room, heads_assign, heads_braces, same_either}
use Rattle.cx_syntax.proofs.Lists.{exactly_braces}
use Rattle.cx_syntax.proofs.Exact.{sound, exactly_assign}
use Rattle.cx_syntax_parts.proofs.Factored.{exactly_behind_token}
use Rattle.cx_syntax_vars.specs.Goes.{goes_var}
use Rattle.cx_syntax_vars.specs.Sets.{starts_init}
use Rattle.cx_syntax_vars.specs.Values.{list_of, init_of}
use Rattle.cx_syntax_vars.specs.Grammar as l
use Rattle.cx_syntax_vars.specs.Readers as s
use Rattle.cx_syntax_vars.proofs.Covering.{rotated}
use Rattle.cx_syntax_vars.proofs.Arguments.{exactly_init_args}

-- ---- `=` and a value

abbrev assign_value : Family Lexeme InitKind
assign_value n = i.Equals <$> g.assign (g.deeper n)

abbrev braces_value : Family Lexeme InitKind
braces_value n = i.EqualsList <$> g.braces (g.deeper n)

pub exactly_equals_value : (left : ℕ) → Exactly (λ n. assign_value n ∥ braces_value n) (by (at goes_assign)) left (s.equals_value left)
unfolding s.equals_value same_class
exactly_equals_value left = exactly_same (swapped braces_value assign_value)
    (exactly_choice (just k.OpenBrace) starts_assign refl (heads_as i.EqualsList heads_braces) (heads_as i.Equals heads_assign)
    (present_at refl (λ n. refl) (exactly_as i.EqualsList (exactly_widened (never_sub (at goes_assign)) (exactly_braces left (sound left)))))
    (exactly_stays refl (λ n. refl) (exactly_as i.Equals (exactly_assign left))))

pub exactly_equals : (left : ℕ) → Exactly (λ n. l.equals n) (by (at goes_assign)) left (s.equals left)
exactly_equals left = exactly_behind_token (is k.Equal) i.Equals i.EqualsList (λ n. g.assign (g.deeper n)) (λ n. g.braces (g.deeper n)) heads_assign.blank heads_braces.blank refl (λ n. refl) (exactly_equals_value left)

pub heads_equals : Heads (λ n. l.equals n) (at (just k.Equal))
heads_equals = heads_sub (λ t e. same_either (just k.Equal t.class) e)
    (heads_or (heads_as i.Equals (heads_before {G = λ n. g.assign (g.deeper n)} (is k.Equal))) (heads_as i.EqualsList (heads_before {G = λ n. g.braces (g.deeper n)} (is k.Equal))))

-- ---- arguments in parentheses

pub heads_paren_init : Heads (λ n. l.paren_init n) (at (just k.OpenParen))
heads_paren_init = heads_as list_of (heads_measured span_of (heads_before {G = λ n. l.init_args n ⊲ is k.CloseParen} (is k.OpenParen)))

paren_there : (left : ℕ) → (r.deeper left).room ≡ true → Exactly (λ n. l.paren_init n) (by never) left (list_of <$$> measured_by span_of (s.paren_parts left))
unfolding same_class
paren_there left there = exactly_as list_of (exactly_measured span_of (exactly_before (is k.OpenParen) (exactly_behind (is k.CloseParen) (exactly_init_args left there) (apart goes_args (just k.CloseParen) refl))))

paren_marked : (t : Lexeme) → at (just k.OpenParen) t ≡ true → Marked (λ n. i.Direct <$> l.paren_init n) t
paren_marked t e = record { enough = 0; begins = λ n p. begun_by (λ m. l.init_args m ⊲ is k.CloseParen) (is k.OpenParen) t e n; gone = refl; unspelled = λ x w z. z.part.part.part.part.second.part.first.part.part.first; stays = λ n. refl }

-- what is made of a part that goes a level deeper
guarded_made : {A B : Type 0} (f : A → B) (b : Bool) (read : Reader Lexeme A) (ts : List Lexeme) → guarded b (f <$$> read) ts ≡ made f (guarded b read ts)
guarded_made f true read ts = refl
guarded_made f false read ts = refl

guarded_right : (left : ℕ) (t : Lexeme) (ts : List Lexeme) → Right (λ n. present (i.Direct <$> l.paren_init n)) (by (at goes_var)) left (t ∷ ts) (guarded (r.deeper left).room (i.Direct <$$> list_of <$$> measured_by span_of (s.paren_parts left)) (t ∷ ts))
    → Right (λ n. present (i.Direct <$> l.paren_init n)) (by (at goes_var)) left (t ∷ ts) ((i.Direct <$$> s.paren_init left) (t ∷ ts))
unfolding s.paren_init
guarded_right left t ts e = let P : Outcome Lexeme InitKind → Type 0 = λ o. Right (λ n. present (i.Direct <$> l.paren_init n)) (by (at goes_var)) left (t ∷ ts) o in
    subst P (guarded_made i.Direct (r.deeper left).room (list_of <$$> measured_by span_of (s.paren_parts left)) (t ∷ ts)) e

paren_at : (left : ℕ) → ExactlyAt (at (just k.OpenParen)) (λ n. present (i.Direct <$> l.paren_init n)) (by (at goes_var)) left (i.Direct <$$> s.paren_init left)
unfolding s.paren_init
paren_at left = exactly_on (at (just k.OpenParen)) (i.Direct <$$> s.paren_init left) (λ t ts e. guarded_right left t ts (marked (λ n. (r.deeper n).room) room left (paren_marked t e) (λ there. exactly_as i.Direct (exactly_widened (never_sub (at goes_var)) (paren_there left there)))))

-- ---- initializers

abbrev starts_equals_or_braces : Class → Bool
starts_equals_or_braces c = just k.Equal c || just k.OpenBrace c

pub exactly_kind : (left : ℕ) → Exactly (λ n. l.equals n ∥ (i.DirectList <$> g.braces (g.deeper n)) ∥ (i.Direct <$> l.paren_init n)) (by (at goes_var)) left (s.init_kind left)
unfolding s.init_kind same_class
exactly_kind left = exactly_same (rotated (λ n. l.equals n) (λ n. i.DirectList <$> g.braces (g.deeper n)) (λ n. i.Direct <$> l.paren_init n))
    (exactly_choice (just k.OpenParen) starts_equals_or_braces refl (heads_as i.Direct heads_paren_init) (heads_or heads_equals (heads_as i.DirectList heads_braces)) (paren_at left)
    (exactly_pair (exactly_choice (just k.Equal) (just k.OpenBrace) refl heads_equals (heads_as i.DirectList heads_braces)
    (present_at refl (λ n. refl) (exactly_equals left))
    (exactly_stays refl (λ n. refl) (exactly_as i.DirectList (exactly_widened (never_sub (at goes_var)) (exactly_braces left (sound left))))))))

pub exactly_init : (left : ℕ) → Exactly (λ n. l.init n) (by (at goes_var)) left (s.init left)
unfolding s.init
exactly_init left = exactly_as init_of (exactly_measured span_of (exactly_kind left))

pub heads_init : Heads (λ n. l.init n) (at starts_init)
unfolding same_class
heads_init = heads_as init_of (heads_measured span_of (heads_sub (sub (λ c. just k.Equal c || (just k.OpenBrace c || just k.OpenParen c)) starts_init refl)
    (heads_or heads_equals (heads_or (heads_as i.DirectList heads_braces) (heads_as i.Direct heads_paren_init)))))
