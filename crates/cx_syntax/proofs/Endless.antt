-- The token that ends every list is in no spelling and no front of one.
use Rattle.std.proofs.Common.{◌≡◌, ℕ, zero, suc, Bool, true, false, not, ◌&&◌, List, [], ◌∷◌, ◌++◌, refl, sym, subst}
use Rattle.cx_grammar.specs.Language.{Language, one, the, ◌⊳◌, ◌⊲◌, names}
use Rattle.cx_grammar.proofs.Plain.{Free, Plain, plain_one, plain_the, plain_both, plain_as, plain_present, plain_or, plain_maybe, plain_many, plain_upto, plain_before, plain_behind, plain_such, plain_measured, plain_absent, plain_there}
use Rattle.cx_grammar.proofs.Classes.{variants}
use Rattle.cx_syntax.specs.declared.class.Class.{Class}
use Rattle.cx_syntax.specs.declared.class.Class.TheVariants as k
use Rattle.cx_syntax.specs.declared.lexeme.Lexeme.{Lexeme}
use Rattle.cx_syntax.specs.contracts.class.Class.{enum}
use Rattle.cx_syntax.specs.Classes.{is, same_class}
use Rattle.cx_syntax.specs.Linked.{then_by, then_first, then_second, links, SpellsLinks, flag_behind}
use Rattle.cx_syntax.specs.Sets.{is_type, is_id, is_name, is_modifier, is_word, is_modifier_or_word, is_elaboration, is_single_operator, is_literal, is_string, is_cast_word, is_step, is_reach, is_prefix, is_assignment, operators, allowed, is_after_new}
use Rattle.cx_syntax.specs.Values.{pick, ident_of, text_of, literal_of, modifier_of, word_of, either_of, elaboration_of, overloaded_of, binary_of, assignment_of, prefix_of, step_of, reach_of, cast_word_of, Operand}
use Rattle.cx_syntax.specs.Symbols.{NoEnd}
use Rattle.cx_syntax.specs.Grammar as g
use Rattle.cx_syntax.specs.Readers.{just}
use Rattle.cx_syntax.proofs.Basics.{at, apart, pick_fits, false_of}

abbrev pub ended : Lexeme → Bool
ended t = is k.End t

abbrev pub Endless : {A : Type 0} → Language Lexeme A → Type 0
Endless g = Plain ended g

-- ---- tokens

pub not_end : (set : Class → Bool) → (variants enum).each (λ c. not (set c && just k.End c)) ≡ true → (t : Lexeme) → at set t ≡ true → ended t ≡ false
not_end set e t i = false_of (just k.End t.class) (λ j. apart set (just k.End) e t i j)

-- a token of a set without `End`
pub endless_pick : {A : Type 0} (set : Class → Bool) (f : Lexeme → A) → (variants enum).each (λ c. not (set c && just k.End c)) ≡ true → Endless (one (pick set f))
endless_pick set f a = plain_one (pick set f) (λ t v e. not_end set a t (pick_fits set f t v e))

pub endless_the : (c : Class) → (variants enum).each (λ d. not (just c d && just k.End d)) ≡ true → Endless (the (is c))
endless_the c a = plain_the (is c) (not_end (just c) a)

pub before : {A : Type 0} {g : Language Lexeme A} (c : Class) → (variants enum).each (λ d. not (just c d && just k.End d)) ≡ true → Endless g → Endless (is c ⊳ g)
before c a g = plain_before (is c) (not_end (just c) a) g

pub behind : {A : Type 0} {g : Language Lexeme A} (c : Class) → (variants enum).each (λ d. not (just c d && just k.End d)) ≡ true → Endless g → Endless (g ⊲ is c)
behind c a g = plain_behind (is c) (not_end (just c) a) g

-- ---- what may follow a value, and turns

pub free_both : (x y : List Lexeme) → Free ended x → Free ended y → Free ended (x ++ y)
free_both [] y a b = b
free_both (t ∷ x) y a b = (a.0, free_both x y a.1 b)

pub free_cut : (x f b : List Lexeme) → x ≡ f ++ b → Free ended f → Free ended b → Free ended x
free_cut x f b e p q = let P : List Lexeme → Type 0 = λ l. Free ended l in subst P (sym e) (free_both f b p q)

pub free_none : (x : List Lexeme) → x ≡ [] → Free ended x
free_none x e = let P : List Lexeme → Type 0 = λ l. Free ended l in subst P (sym e) tt

pub endless_then : {A B : Type 0} {g : Language Lexeme A} {h : A → Language Lexeme B} → Endless g → ((v : A) → Endless (h v)) → Endless (then_by g h)
endless_then a b = record {
  spells = λ x w s. free_cut x s.front s.back s.cut (a.spells s.front w.0 s.first) ((b w.0).spells s.back w.1 s.second);
  begins = λ x c. elim c [ then_first d ↦ a.begins x d | then_second f l v cut s d ↦ free_cut x f l cut (a.spells f v s) ((b v).begins l d) ];
}

pub links_free : {B : Type 0} {h : Bool → Language Lexeme B} (flag : B → Bool) → ((b : Bool) → Endless (h b)) → (b : Bool) (x : List Lexeme) (w : List B) → SpellsLinks h flag b x w → Free ended x
links_free flag a b x [] s = free_none x s
links_free flag a b x (v ∷ vs) s = free_cut x s.0 s.1 s.2 ((a b).spells s.0 v s.3) (links_free flag a (flag v) s.1 vs s.4)

pub endless_links : {B : Type 0} {h : Bool → Language Lexeme B} {flag : B → Bool} → ((b : Bool) → Endless (h b)) → (b : Bool) → Endless (links h flag b)
endless_links {flag = flag} a b = record {
  spells = λ x w s. links_free flag a b x w s;
  begins = λ x s. free_cut x s.front s.back s.cut (links_free flag a b s.front s.turns s.whole) ((plain_present (a (flag_behind flag b s.turns))).begins s.back s.next);
}

pub and_left : (b c : Bool) → (b && c) ≡ true → b ≡ true
and_left true c e = refl
and_left false c e = e

pub level_end : (p : ℕ) (t : Lexeme) → at (operators p) t ≡ true → ended t ≡ false
unfolding same_class
level_end zero t i = not_end (operators 0) refl t i
level_end (suc zero) t i = not_end (operators 1) refl t i
level_end (suc (suc zero)) t i = not_end (operators 2) refl t i
level_end (suc (suc (suc zero))) t i = not_end (operators 3) refl t i
level_end (suc (suc (suc (suc zero)))) t i = not_end (operators 4) refl t i
level_end (suc (suc (suc (suc (suc zero))))) t i = not_end (operators 5) refl t i
level_end (suc (suc (suc (suc (suc (suc zero)))))) t i = not_end (operators 6) refl t i
level_end (suc (suc (suc (suc (suc (suc (suc zero))))))) t i = not_end (operators 7) refl t i
level_end (suc (suc (suc (suc (suc (suc (suc (suc zero)))))))) t i = not_end (operators 8) refl t i
level_end (suc (suc (suc (suc (suc (suc (suc (suc (suc zero))))))))) t i = not_end (operators 9) refl t i
level_end (suc (suc (suc (suc (suc (suc (suc (suc (suc (suc p)))))))))) t i = cc

-- ---- names, specifiers, pointers

pub endless_names : {B : Type 0} {h : Language Lexeme B} → Endless h → Endless (names (pick is_name ident_of) (is k.ColonColon) h)
unfolding same_class
endless_names a = plain_both (plain_many (behind k.ColonColon refl (endless_pick is_name ident_of refl))) a

pub endless_fname_parts : Endless (names (pick is_name ident_of) (is k.ColonColon) g.last_part)
unfolding same_class
endless_fname_parts = endless_names (plain_or (plain_as _ (endless_pick is_id ident_of refl)) (plain_as _ (plain_as _ (plain_measured _ (before k.Operator refl
    (plain_or (plain_as _ (before k.OpenParen refl (endless_the k.CloseParen refl))) (plain_or (plain_as _ (before k.OpenBracket refl (endless_the k.CloseBracket refl))) (endless_pick is_single_operator overloaded_of refl))))))))

pub endless_fname : Endless g.fname
endless_fname = plain_as _ (plain_measured _ endless_fname_parts)

pub endless_destructor_name : Endless g.destructor_name
unfolding same_class
endless_destructor_name = plain_as _ (plain_measured _ (before k.Tilde refl (endless_pick is_type ident_of refl)))

pub endless_qtype : Endless g.qtype
unfolding same_class
endless_qtype = plain_as _ (plain_measured _ (plain_both (plain_maybe (endless_the k.ColonColon refl)) (endless_names (endless_pick is_type ident_of refl))))

pub endless_specs : Endless g.specs
unfolding same_class
endless_specs = let modifier = endless_pick is_modifier modifier_of refl in
    plain_as _ (plain_measured _ (plain_such _ (plain_both (plain_many modifier) (plain_maybe (plain_or (plain_as _ (plain_both (endless_pick is_word word_of refl) (plain_many (endless_pick is_modifier_or_word either_of refl))))
    (plain_as _ (plain_both (plain_as _ (plain_both (plain_maybe (endless_pick is_elaboration elaboration_of refl)) endless_qtype)) (plain_many modifier))))))))

pub endless_stars : Endless g.stars
unfolding same_class
endless_stars = plain_upto 64 (plain_as _ (plain_measured _ (before k.Star refl (plain_maybe (endless_the k.Const refl)))))

pub endless_ptrs : Endless g.ptrs
unfolding same_class
endless_ptrs = plain_as _ (plain_both endless_stars (plain_maybe (endless_the k.Amp refl)))

-- the symbols one level deeper
pub record EndlessBelow (d : g.Deeper) : Type 0 where
  pub expr : Endless d.expr
  pub assign : Endless d.assign
  pub cond : Endless d.cond
  pub cast : Endless d.cast
  pub unary : Endless d.unary
  pub braces : Endless d.braces

module _ (d : g.Deeper) (e : EndlessBelow d) where
  pub endless_typeid : Endless (g.typeid d)
  unfolding same_class
  endless_typeid = plain_as _ (plain_measured _ (plain_both endless_specs (plain_both endless_ptrs (plain_upto 16 (plain_as _ (plain_measured _ (before k.OpenBracket refl (behind k.CloseBracket refl (plain_maybe e.cond)))))))))

  pub in_parens : {A : Type 0} {h : Language Lexeme A} → Endless h → Endless (is k.OpenParen ⊳ h ⊲ is k.CloseParen)
  unfolding same_class
  in_parens a = before k.OpenParen refl (behind k.CloseParen refl a)

  pub paren_args : Endless (g.paren_args d)
  unfolding same_class
  paren_args = plain_as _ (plain_measured _ (in_parens (plain_maybe (plain_as _ (plain_both e.assign (plain_many (before k.Comma refl e.assign)))))))

  pub endless_braces : Endless (g.braces d)
  unfolding same_class
  endless_braces = let clause = plain_or (plain_as _ e.assign) (plain_as _ e.braces) in
      plain_as _ (plain_measured _ (before k.OpenBrace refl (behind k.CloseBrace refl (plain_maybe (plain_as _ (plain_both clause (plain_as _ (plain_both (plain_many (before k.Comma refl clause)) (plain_maybe (endless_the k.Comma refl))))))))))

  pub given : Endless (g.given d)
  given = plain_or (plain_as _ paren_args) (plain_as _ endless_braces)

  pub head : Endless (g.head d)
  unfolding same_class
  head = let string = endless_pick is_string text_of refl in
      plain_as _ (plain_measured _ (plain_or (endless_pick is_literal literal_of refl) (plain_or (plain_as _ (plain_as _ (plain_both string (plain_many string)))) (plain_or (plain_as _ (in_parens e.expr))
      (plain_or (plain_as _ (plain_both (endless_pick is_cast_word cast_word_of refl) (plain_both (before k.Less refl (behind k.Greater refl endless_typeid)) (in_parens e.expr))))
      (plain_or (plain_as _ (plain_both (endless_pick is_word word_of refl) given)) (plain_or (plain_as _ (plain_measured _ (plain_both (plain_maybe (endless_the k.ColonColon refl)) endless_fname_parts))) (plain_as _ (plain_both endless_qtype given)))))))))

  pub more : Endless (g.more d)
  unfolding same_class
  more = plain_as _ (plain_measured _ (plain_or (plain_as _ (before k.OpenBracket refl (behind k.CloseBracket refl e.expr))) (plain_or (plain_as _ paren_args) (plain_or (endless_pick is_step step_of refl)
      (plain_as _ (plain_both (endless_pick is_reach reach_of refl) (plain_or (plain_as _ endless_fname) (plain_as _ (behind k.CloseParen refl (behind k.OpenParen refl endless_destructor_name))))))))))

  pub postfix : Endless (g.postfix d)
  postfix = plain_as _ (plain_measured _ (plain_both head (plain_many more)))

  pub new : Endless (g.new d)
  unfolding same_class
  new = plain_as _ (plain_measured _ (plain_both (before k.New refl endless_specs) (plain_both endless_stars (plain_both (plain_maybe (before k.OpenBracket refl (behind k.CloseBracket refl e.expr))) (plain_maybe given)))))

  pub endless_unary : Endless (g.unary d)
  unfolding same_class
  endless_unary = plain_or (plain_as _ (plain_measured _ (plain_both (endless_pick is_prefix prefix_of refl) e.cast)))
      (plain_or (plain_as _ (plain_measured _ (plain_both (before k.Delete refl (plain_maybe (before k.OpenBracket refl (endless_the k.CloseBracket refl)))) e.cast)))
      (plain_or new (plain_or (plain_as _ (plain_measured _ (plain_as _ (before k.Alignof refl (in_parens endless_typeid)))))
      (plain_or (plain_or (plain_as _ (plain_measured _ (plain_as _ (before k.Sizeof refl (in_parens endless_typeid))))) (plain_as _ (plain_measured _ (before k.Sizeof refl e.unary)))) (plain_as _ postfix)))))

  pub endless_cast : Endless (g.cast d)
  endless_cast = plain_or (plain_as _ (plain_measured _ (plain_both (in_parens endless_typeid) e.cast))) endless_unary

  pub turn : (p : ℕ) (b : Bool) → (next : Language Lexeme Operand) → Endless next → Endless (g.turn d p next b)
  turn p b next a = plain_both (plain_one (pick (allowed p b) binary_of) (λ t v i. level_end p t (and_left (operators p t.class) (not (b && is_after_new t.class)) (pick_fits (allowed p b) binary_of t v i)))) a

  pub endless_chain : (p : ℕ) → Endless (g.chain d p)
  endless_chain zero = endless_cast
  endless_chain (suc p) = plain_as _ (plain_measured _ (endless_then (endless_chain p) (λ first. endless_links (λ b. turn p b (g.chain d p) (endless_chain p)) first.1)))

  pub choice : Endless (g.choice d)
  unfolding same_class
  choice = plain_both (before k.Question refl (behind k.Colon refl e.expr)) e.assign

  pub endless_assign : Endless (g.assign d)
  unfolding same_class
  endless_assign = plain_or (plain_as _ (plain_measured _ (before k.Throw refl (plain_maybe e.assign))))
      (plain_as _ (plain_measured _ (plain_both (endless_chain 10) (plain_maybe (plain_or (plain_as _ (plain_both (endless_pick is_assignment assignment_of refl) e.assign)) (plain_as _ choice))))))

  pub endless_cond : Endless (g.cond d)
  endless_cond = plain_as _ (plain_measured _ (plain_both (endless_chain 10) (plain_maybe choice)))

  pub endless_expr : Endless (g.expr d)
  unfolding same_class
  endless_expr = plain_as _ (plain_measured _ (plain_both endless_assign (plain_many (before k.Comma refl endless_assign))))

pub endless_below : (n : ℕ) → EndlessBelow (g.deeper n)
endless_below zero = record { expr = plain_absent ended; assign = plain_absent ended; cond = plain_absent ended; cast = plain_absent ended; unary = plain_absent ended; braces = plain_absent ended }
endless_below (suc n) = let e = endless_below n in let d = g.deeper n in record {
  expr = plain_there (endless_expr d e);
  assign = plain_there (endless_assign d e);
  cond = plain_there (endless_cond d e);
  cast = plain_there (endless_cast d e);
  unary = plain_there (endless_unary d e);
  braces = plain_there (endless_braces d e);
}

-- ---- at each number of levels

pub no_end : (ts : List Lexeme) → Free ended ts → NoEnd ts
no_end [] f = tt
no_end (t ∷ ts) f = (f.0, no_end ts f.1)
