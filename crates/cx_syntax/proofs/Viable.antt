-- Each symbol of the grammar has a spelling, and each of its fronts goes on to one at the same number of levels.
use Rattle.std.proofs.Common.{◌≡◌, ℕ, zero, suc, Bool, true, List, [], ◌∷◌, ◌++◌, Option, Some, None, refl, sym, ◌∙◌, ap, subst, inl, inr, append_assoc, if◌then◌else◌}
use Rattle.std.proofs.lemmas.List.{append-nil}
use Rattle.cx_grammar.specs.Language.{Language, one, the, none_yet, some, in_first, in_second, ◌>>◌, ◌∥◌, ◌⊳◌, ◌⊲◌, maybe, many, upto, such, names}
use Rattle.cx_token_defs.specs.declared.TokenKind.TheVariants as kind
use Rattle.cx_tree.specs.declared.specifiers.Modifier.{Modifier}
use Rattle.cx_tree.specs.declared.specifiers.SpecsType.{SpecsType}
use Rattle.cx_syntax.specs.declared.class.Class.{Class}
use Rattle.cx_syntax.specs.declared.class.Class.TheVariants as k
use Rattle.cx_syntax.specs.declared.lexeme.Lexeme.{Lexeme}
use Rattle.cx_syntax.specs.Classes.{is, same_class}
use Rattle.cx_syntax.specs.Sets.{is_type, is_id, is_name, is_modifier, is_word, is_modifier_or_word, is_elaboration, is_single_operator, is_literal, is_string, is_cast_word, is_step, is_reach, is_prefix, is_assignment, allowed}
use Rattle.cx_syntax.specs.Values.{pick, no_mark, is_specified, ident_of, text_of, literal_of, modifier_of, word_of, either_of, elaboration_of, overloaded_of, binary_of, assignment_of, prefix_of, step_of, reach_of, cast_word_of, ends_open, Operand}
use Rattle.cx_syntax.specs.Grammar as g
use Rattle.cx_syntax.specs.Readers.{just}
use Rattle.cx_syntax.proofs.Continued.{Goes, Viable, front_one, both_front, viable_one, viable_the, viable_both, viable_as, viable_or, viable_maybe, viable_many, viable_upto, viable_before, viable_behind, viable_measured, viable_then, viable_links, viable_absent, viable_there}

-- ---- tokens

abbrev pub sample : Class → Lexeme
sample c = record { class = c; kind = kind.Word; span = record { start = no_mark; end = no_mark }; text = [] }

pub some_pick : {A : Type 0} (set : Class → Bool) (f : Lexeme → A) (c : Class) → set c ≡ true → Viable (one (pick set f))
some_pick set f c e = viable_one (pick set f) (sample c) (f (sample c)) (ap (λ b. if b then Some (f (sample c)) else None) e)

pub some_the : (c : Class) → just c c ≡ true → Viable (the (is c))
some_the c e = viable_the (is c) (sample c) e

pub before : {A : Type 0} {g : Language Lexeme A} (c : Class) → just c c ≡ true → Viable g → Viable (is c ⊳ g)
before c e a = viable_before (is c) (sample c) e a

pub behind : {A : Type 0} {g : Language Lexeme A} (c : Class) → just c c ≡ true → Viable g → Viable (g ⊲ is c)
behind c e a = viable_behind (is c) (sample c) e a

pub so_many : {A : Type 0} {g : Language Lexeme A} (most : ℕ) → Viable g → Viable (upto most g)
so_many most a = viable_upto a most

-- ---- rules

pub scoped : {B : Type 0} {h : Language Lexeme B} → Viable h → Viable (names (pick is_name ident_of) (is k.ColonColon) h)
unfolding same_class
scoped a = viable_both (viable_many (behind k.ColonColon refl (some_pick is_name ident_of k.Ident refl))) a

pub viable_fname_parts : Viable (names (pick is_name ident_of) (is k.ColonColon) g.last_part)
unfolding same_class
viable_fname_parts = scoped (viable_or (viable_as _ (some_pick is_id ident_of k.Ident refl)) (viable_as _ (viable_as _ (viable_measured _ (before k.Operator refl
    (viable_or (viable_as _ (before k.OpenParen refl (some_the k.CloseParen refl))) (viable_or (viable_as _ (before k.OpenBracket refl (some_the k.CloseBracket refl))) (some_pick is_single_operator overloaded_of k.Not refl))))))))

pub viable_fname : Viable g.fname
viable_fname = viable_as _ (viable_measured _ viable_fname_parts)

pub viable_destructor_name : Viable g.destructor_name
unfolding same_class
viable_destructor_name = viable_as _ (viable_measured _ (before k.Tilde refl (some_pick is_type ident_of k.TypeName refl)))

pub viable_qtype : Viable g.qtype
unfolding same_class
viable_qtype = viable_as _ (viable_measured _ (viable_both (viable_maybe (some_the k.ColonColon refl)) (scoped (some_pick is_type ident_of k.TypeName refl))))

-- specifiers hold a token
pub typed_parts : Viable (g.words_type ∥ g.name_type)
unfolding same_class
typed_parts = viable_or (viable_as _ (viable_both (some_pick is_word word_of k.Int refl) (viable_many (some_pick is_modifier_or_word either_of k.Int refl))))
    (viable_as _ (viable_both (viable_as _ (viable_both (viable_maybe (some_pick is_elaboration elaboration_of k.Enum refl)) viable_qtype)) (viable_many (some_pick is_modifier modifier_of k.Const refl))))

abbrev pub parts : Language Lexeme (List Modifier × Option SpecsType)
parts = many g.modifier >> maybe (g.words_type ∥ g.name_type)

pub with_type : (x f l : List Lexeme) (ms : List Modifier) (v : SpecsType) → x ≡ f ++ l → (many g.modifier).spells f ms → (more : List Lexeme) → (g.words_type ∥ g.name_type).spells (l ++ more) v → (such is_specified parts).spells (x ++ more) (ms, Some v)
with_type x f l [] v e s more z = record { part = record { front = f; back = l ++ more; cut = ap (λ y. y ++ more) e ∙ append_assoc f l more; first = s; second = inr (record { value = v; made = refl; part = z }) }; such_a = refl }
with_type x f l (u ∷ us) v e s more z = record { part = record { front = f; back = l ++ more; cut = ap (λ y. y ++ more) e ∙ append_assoc f l more; first = s; second = inr (record { value = v; made = refl; part = z }) }; such_a = refl }

pub without_type : (t : Lexeme) (x : List Lexeme) (ms : List Modifier) → (many g.modifier).spells (t ∷ x) ms → (such is_specified parts).spells (t ∷ x) (ms, None)
without_type t x [] s = cc
without_type t x (u ∷ us) s = record { part = record { front = t ∷ x; back = []; cut = sym (append-nil (t ∷ x)); first = s; second = inl (record { value = tt; made = refl; part = refl }) }; such_a = refl }

pub specified_front : (t : Lexeme) (x : List Lexeme) → parts.begins (t ∷ x) → Goes (such is_specified parts) (t ∷ x)
unfolding same_class
specified_front t x (in_first c) = let p = (viable_many (some_pick is_modifier modifier_of k.Const refl)).front refl t x c in record { more = p.more; value = (p.value, None); spelled = without_type t (x ++ p.more) p.value p.spelled }
specified_front t x (in_second f [] ms cut s c) = let P : List Lexeme → Type 0 = λ l. (many g.modifier).spells l ms in
    record { more = []; value = (ms, None); spelled = without_type t (x ++ []) ms (subst P (sym (append-nil (t ∷ x) ∙ (cut ∙ append-nil f))) s) }
specified_front t x (in_second f (u ∷ l) ms cut s (inl e)) = cc
specified_front t x (in_second f (u ∷ l) ms cut s (inr (none_yet e))) = cc
specified_front t x (in_second f (u ∷ l) ms cut s (inr (some st c))) = let p = typed_parts.front refl u l c in record { more = p.more; value = (ms, Some p.value); spelled = with_type (t ∷ x) f (u ∷ l) ms p.value cut s p.more p.spelled }

pub specified_any : Goes (such is_specified parts) []
specified_any = let p = typed_parts.any refl in record { more = p.more; value = ([], Some p.value); spelled = with_type [] [] [] [] p.value refl refl p.more p.spelled }

pub viable_specs : Viable g.specs
viable_specs = viable_as _ (viable_measured _ (record { any = λ s. specified_any; front = λ s t x c. specified_front t x c }))

pub viable_stars : Viable g.stars
unfolding same_class
viable_stars = so_many 64 (viable_as _ (viable_measured _ (before k.Star refl (viable_maybe (some_the k.Const refl)))))

pub viable_ptrs : Viable g.ptrs
unfolding same_class
viable_ptrs = viable_as _ (viable_both viable_stars (viable_maybe (some_the k.Amp refl)))

-- the symbols one level deeper
pub record ViableBelow (d : g.Deeper) : Type 0 where
  pub expr : Viable d.expr
  pub assign : Viable d.assign
  pub cond : Viable d.cond
  pub cast : Viable d.cast
  pub unary : Viable d.unary
  pub braces : Viable d.braces

module _ (d : g.Deeper) (e : ViableBelow d) where
  pub viable_typeid : Viable (g.typeid d)
  unfolding same_class
  viable_typeid = viable_as _ (viable_measured _ (viable_both viable_specs (viable_both viable_ptrs (so_many 16 (viable_as _ (viable_measured _ (before k.OpenBracket refl (behind k.CloseBracket refl (viable_maybe e.cond)))))))))

  pub in_parens : {A : Type 0} {h : Language Lexeme A} → Viable h → Viable (is k.OpenParen ⊳ h ⊲ is k.CloseParen)
  unfolding same_class
  in_parens a = before k.OpenParen refl (behind k.CloseParen refl a)

  pub paren_args : Viable (g.paren_args d)
  unfolding same_class
  paren_args = viable_as _ (viable_measured _ (in_parens (viable_maybe (viable_as _ (viable_both e.assign (viable_many (before k.Comma refl e.assign)))))))

  pub viable_braces : Viable (g.braces d)
  unfolding same_class
  viable_braces = let clause = viable_or (viable_as _ e.assign) (viable_as _ e.braces) in
      viable_as _ (viable_measured _ (before k.OpenBrace refl (behind k.CloseBrace refl (viable_maybe (viable_as _ (viable_both clause (viable_as _ (viable_both (viable_many (before k.Comma refl clause)) (viable_maybe (some_the k.Comma refl))))))))))

  pub given : Viable (g.given d)
  given = viable_or (viable_as _ paren_args) (viable_as _ viable_braces)

  pub head : Viable (g.head d)
  unfolding same_class
  head = let string = some_pick is_string text_of k.StrLiteral refl in
      viable_as _ (viable_measured _ (viable_or (some_pick is_literal literal_of k.True refl) (viable_or (viable_as _ (viable_as _ (viable_both string (viable_many string)))) (viable_or (viable_as _ (in_parens e.expr))
      (viable_or (viable_as _ (viable_both (some_pick is_cast_word cast_word_of k.StaticCast refl) (viable_both (before k.Less refl (behind k.Greater refl viable_typeid)) (in_parens e.expr))))
      (viable_or (viable_as _ (viable_both (some_pick is_word word_of k.Int refl) given)) (viable_or (viable_as _ (viable_measured _ (viable_both (viable_maybe (some_the k.ColonColon refl)) viable_fname_parts))) (viable_as _ (viable_both viable_qtype given)))))))))

  pub more : Viable (g.more d)
  unfolding same_class
  more = viable_as _ (viable_measured _ (viable_or (viable_as _ (before k.OpenBracket refl (behind k.CloseBracket refl e.expr))) (viable_or (viable_as _ paren_args) (viable_or (some_pick is_step step_of k.PlusPlus refl)
      (viable_as _ (viable_both (some_pick is_reach reach_of k.Dot refl) (viable_or (viable_as _ viable_fname) (viable_as _ (behind k.CloseParen refl (behind k.OpenParen refl viable_destructor_name))))))))))

  pub postfix : Viable (g.postfix d)
  postfix = viable_as _ (viable_measured _ (viable_both head (viable_many more)))

  pub new : Viable (g.new d)
  unfolding same_class
  new = viable_as _ (viable_measured _ (viable_both (before k.New refl viable_specs) (viable_both viable_stars (viable_both (viable_maybe (before k.OpenBracket refl (behind k.CloseBracket refl e.expr))) (viable_maybe given)))))

  pub viable_unary : Viable (g.unary d)
  unfolding same_class
  viable_unary = viable_or (viable_as _ (viable_measured _ (viable_both (some_pick is_prefix prefix_of k.Minus refl) e.cast)))
      (viable_or (viable_as _ (viable_measured _ (viable_both (before k.Delete refl (viable_maybe (before k.OpenBracket refl (some_the k.CloseBracket refl)))) e.cast)))
      (viable_or new (viable_or (viable_as _ (viable_measured _ (viable_as _ (before k.Alignof refl (in_parens viable_typeid)))))
      (viable_or (viable_or (viable_as _ (viable_measured _ (viable_as _ (before k.Sizeof refl (in_parens viable_typeid))))) (viable_as _ (viable_measured _ (before k.Sizeof refl e.unary)))) (viable_as _ postfix)))))

  pub viable_cast : Viable (g.cast d)
  viable_cast = viable_or (viable_as _ (viable_measured _ (viable_both (in_parens viable_typeid) e.cast))) viable_unary

  pub turn_front : (p : ℕ) (b : Bool) (next : Language Lexeme Operand) → Viable next → (g.turn d p next b).stays ≡ true → (t : Lexeme) (x : List Lexeme) → (g.turn d p next b).begins (t ∷ x) → Goes (g.turn d p next b) (t ∷ x)
  turn_front p b next a s t x c = both_front (λ i u y k. front_one (pick (allowed p b) binary_of) u y k) a s t x c

  pub viable_chain : (p : ℕ) → Viable (g.chain d p)
  viable_chain zero = viable_cast
  viable_chain (suc p) = viable_as _ (viable_measured _ (viable_then (viable_chain p) (λ first. viable_links (λ b. g.turn d p (g.chain d p) b) ends_open (λ b. turn_front p b (g.chain d p) (viable_chain p)) first.1) (λ first. refl)))

  pub choice : Viable (g.choice d)
  unfolding same_class
  choice = viable_both (before k.Question refl (behind k.Colon refl e.expr)) e.assign

  pub viable_assign : Viable (g.assign d)
  unfolding same_class
  viable_assign = viable_or (viable_as _ (viable_measured _ (before k.Throw refl (viable_maybe e.assign))))
      (viable_as _ (viable_measured _ (viable_both (viable_chain 10) (viable_maybe (viable_or (viable_as _ (viable_both (some_pick is_assignment assignment_of k.Equal refl) e.assign)) (viable_as _ choice))))))

  pub viable_cond : Viable (g.cond d)
  viable_cond = viable_as _ (viable_measured _ (viable_both (viable_chain 10) (viable_maybe choice)))

  pub viable_expr : Viable (g.expr d)
  unfolding same_class
  viable_expr = viable_as _ (viable_measured _ (viable_both viable_assign (viable_many (before k.Comma refl viable_assign))))

-- ---- levels

pub unary_stays : (n : ℕ) → (g.unary (g.deeper n)).stays ≡ true
unary_stays zero = refl
unary_stays (suc n) = refl

pub cast_stays : (n : ℕ) → (g.cast (g.deeper n)).stays ≡ true
cast_stays zero = refl
cast_stays (suc n) = refl

pub cond_stays : (n : ℕ) → (g.cond (g.deeper n)).stays ≡ true
cond_stays zero = refl
cond_stays (suc n) = refl

pub viable_below : (n : ℕ) → ViableBelow (g.deeper n)
viable_below zero = record { expr = viable_absent; assign = viable_absent; cond = viable_absent; cast = viable_absent; unary = viable_absent; braces = viable_absent }
viable_below (suc n) = let e = viable_below n in let d = g.deeper n in record {
  expr = viable_there refl (viable_expr d e);
  assign = viable_there refl (viable_assign d e);
  cond = viable_there (cond_stays n) (viable_cond d e);
  cast = viable_there (cast_stays n) (viable_cast d e);
  unary = viable_there (unary_stays n) (viable_unary d e);
  braces = viable_there refl (viable_braces d e);
}

-- a symbol that stays at each level goes on from each front
pub goes_on : {A : Type 0} {g : Language Lexeme A} → g.stays ≡ true → Viable g → (ts : List Lexeme) → g.begins ts → Goes g ts
goes_on s a [] b = a.any s
goes_on s a (t ∷ ts) b = a.front s t ts b
