-- The arguments of an initializer in parentheses: where a type's name stands they go no further than it, and they are an expression's operands elsewhere ([dcl.init]).
use Rattle.std.proofs.Common.{◌≡◌, ℕ, zero, suc, Bool, true, false, not, if◌then◌else◌, List, [], ◌∷◌, ◌++◌, length, Option, Some, None, refl, sym, ◌∙◌, ap, subst, inl, inr, append_assoc}
use Rattle.std.proofs.lemmas.List.{append-nil}
use Rattle.cx_grammar.specs.Language.{many, SpellsMany, none_yet, some, nothing, whole, in_first, in_second, the, ◌>>◌, ◌⊳◌, ◌⊲◌}
use Rattle.cx_grammar.specs.Exact.{Family, Within}
use Rattle.cx_grammar.specs.Reading.{sees}
use Rattle.cx_grammar.specs.Reads.{tail_of}
use Rattle.cx_grammar.proofs.Heads.{Heads, not_both, passes, or_right, heads_unless}
use Rattle.cx_grammar.proofs.Lists.{splits, cancel}
use Rattle.cx_grammar.proofs.Parts.{Same}
use Rattle.cx_grammar.proofs.Sames.{same_refl, same_as, same_both}
use Rattle.cx_tree.specs.declared.exprs.Expr.{Expr}
use Rattle.cx_syntax.specs.declared.class.Class.TheVariants as k
use Rattle.cx_syntax.specs.declared.lexeme.Lexeme.{Lexeme}
use Rattle.cx_syntax.specs.Ahead.{qtype_end, type_ahead, ends_bare}
use Rattle.cx_syntax.specs.Classes.{is, same_class}
use Rattle.cx_syntax.specs.Goes.{goes_name}
use Rattle.cx_syntax.specs.Sets.{is_word, begins_type, starts_assign, starts_given}
use Rattle.cx_syntax.specs.Values.{span_of}
use Rattle.cx_syntax.specs.Grammar as g
use Rattle.cx_syntax.specs.Readers.{just}
use Rattle.cx_syntax.proofs.Basics.{at, apart, false_of}
use Rattle.cx_syntax.proofs.Depth as h
use Rattle.cx_syntax.proofs.Fronts.{Never, Blocked, none_front, never_as, never_both}
use Rattle.cx_syntax.proofs.TypeOrExpr.{TypeFront, type_front}
use Rattle.cx_syntax_vars.specs.Ahead.{begins_made, is_some, left_of}
use Rattle.cx_syntax_vars.specs.Grammar as v
use Rattle.cx_syntax_decls.proofs.Cuts.{Cut, NoColons, qtype_cut, no_some}

-- ---- arguments are the operands of an expression

module _ {T A : Type 0} {G H : Family T A} (e : Same G H) (st : (n : ℕ) → (G n).stays ≡ (H n).stays) where
  turns_spells : (n : ℕ) (x : List T) (vs : List A) → SpellsMany (G n) x vs → SpellsMany (H n) x vs
  turns_spells n x [] s = s
  turns_spells n x (w ∷ ws) s = (s.0, s.1, s.2, e.spells n s.0 w s.3, turns_spells n s.1 ws s.4)

  turns_spelled : (n : ℕ) (x : List T) (vs : List A) → SpellsMany (H n) x vs → SpellsMany (G n) x vs
  turns_spelled n x [] s = s
  turns_spelled n x (w ∷ ws) s = (s.0, s.1, s.2, e.spelled n s.0 w s.3, turns_spelled n s.1 ws s.4)

  pub same_many : Same (λ n. many (G n)) (λ n. many (H n))
  same_many = record {
    spells = turns_spells;
    spelled = turns_spelled;
    begins = λ n x b. record { front = b.front; back = b.back; cut = b.cut; turns = b.turns; whole = turns_spells n b.front b.turns b.whole; next = elim b.next [ none_yet c ↦ none_yet c | some s c ↦ some (sym (st n) ∙ s) (e.begins n b.back c) ] };
    begun = λ n x b. record { front = b.front; back = b.back; cut = b.cut; turns = b.turns; whole = turns_spelled n b.front b.turns b.whole; next = elim b.next [ none_yet c ↦ none_yet c | some s c ↦ some (st n ∙ s) (e.begun n b.back c) ] };
  }

pub same_assign : Same (λ n. (g.deeper (suc n)).assign) (λ n. g.assign (g.deeper n))
same_assign = record { spells = λ n x w s. s; spelled = λ n x w s. s; begins = λ n x b. b; begun = λ n x b. b }

others_stay : (n : ℕ) → (is k.Comma ⊳ (g.deeper (suc n)).assign).stays ≡ (is k.Comma ⊳ g.assign (g.deeper n)).stays
others_stay zero = refl
others_stay (suc n) = refl

abbrev operands : Family Lexeme (Expr × List Expr)
operands n = g.assign (g.deeper n) >> many (is k.Comma ⊳ g.assign (g.deeper n))

pub same_operands : Same (λ n. (g.deeper (suc n)).assign >> many (is k.Comma ⊳ (g.deeper (suc n)).assign)) operands
same_operands = same_both same_assign (same_many (same_as (λ pair. pair.1) (same_both (same_refl (λ n. the (is k.Comma))) same_assign)) others_stay)

-- what arguments spell, an expr spells
pub args_spelled : (n : ℕ) (x : List Lexeme) (w : List Expr) → (g.args (g.deeper n)).spells x w → (u : Expr) × (g.deeper n).expr.spells x u
args_spelled zero x w s = absurd s.part.first
args_spelled (suc n) x w s = (_, record { value = (s.value, span_of x); made = refl; part = record { part = same_operands.spells n x s.value s.part; measure = refl } })

pub args_begun : (n : ℕ) (x : List Lexeme) → (g.args (g.deeper n)).begins x → (g.deeper n).expr.begins x
args_begun zero x (in_first b) = b
args_begun zero x (in_second f l w cut s b) = absurd s
args_begun (suc n) x b = same_operands.begins n x b

-- and what an expr spells and begins, arguments do
pub expr_args : (n : ℕ) (x : List Lexeme) (u : Expr) → (g.deeper n).expr.spells x u → (w : List Expr) × (g.args (g.deeper n)).spells x w
expr_args zero x u s = absurd s
expr_args (suc n) x u s = (_, record { value = s.value.0; made = refl; part = same_operands.spelled n x s.value.0 s.part.part })

pub args_begins : (n : ℕ) (x : List Lexeme) → (g.deeper n).expr.begins x → (g.args (g.deeper n)).begins x
args_begins zero x b = in_first b
args_begins (suc n) x b = same_operands.begun n x b

-- ---- the test

abbrev word_made : Bool → List Lexeme → Bool
word_made b ts = is_some (if b then Some (length ts) else left_of (qtype_end ts))

pub made_word : (ts : List Lexeme) → sees (at is_word) ts ≡ true → begins_made ts ≡ true
made_word ts e = ap (λ b. word_made b ts) e

made_by : (b : Bool) (ts rest : List Lexeme) (t : Lexeme) → qtype_end ts ≡ Some (t ∷ rest) → word_made b ts ≡ true
made_by true ts rest t e = refl
made_by false ts rest t e = ap (λ o. is_some (left_of o)) e

-- a token behind a type's name
pub made_type : (ts rest : List Lexeme) (t : Lexeme) → qtype_end ts ≡ Some (t ∷ rest) → begins_made ts ≡ true
made_type ts rest t e = made_by (sees (at is_word) ts) ts rest t e

no_colons_front : (t : Lexeme) (z y : List Lexeme) → NoColons (t ∷ z) → NoColons (t ∷ z ++ y)
no_colons_front t z y c = c

clear_by : (w x y : List Lexeme) (o : Option (List Lexeme)) → w ≡ x ++ y → qtype_end w ≡ None → qtype_end x ≡ o → is_some (left_of o) ≡ false
clear_by w x y None e none p = refl
clear_by w x y (Some []) e none p = refl
clear_by w x y (Some (t ∷ rest)) e none p = let c = qtype_cut x (t ∷ rest) p in
    absurd (no_some (sym none ∙ (ap qtype_end (e ∙ (ap (λ l. l ++ y) c.cut ∙ append_assoc (c.first ∷ c.more) (t ∷ rest) y)) ∙ c.again (t ∷ rest ++ y) c.clear)))

front_word : (w x y : List Lexeme) → w ≡ x ++ y → sees (at is_word) w ≡ false → sees (at is_word) x ≡ false
front_word w [] y e h = refl
front_word w (t ∷ x) y e h = sym (ap (sees (at is_word)) e) ∙ h

-- fronts of tokens that begin with no word and no type's name
pub made_clear : (w x y : List Lexeme) → w ≡ x ++ y → sees (at is_word) w ≡ false → qtype_end w ≡ None → begins_made x ≡ false
made_clear w x y e h none = ap (λ b. word_made b x) (front_word w x y e h) ∙ clear_by w x y (qtype_end x) e none refl

-- ---- at a word

abbrev pub closed_args : Family Lexeme (List Expr)
closed_args n = v.init_args n ⊲ is k.CloseParen

pub heads_init_args : Heads (λ n. v.init_args n) (at starts_assign)
heads_init_args = heads_unless begins_made refl h.heads_args

word_front : (w x y : List Lexeme) → w ≡ x ++ y → sees (at is_word) w ≡ true → begins_made x ≡ false → x ≡ []
word_front w [] y e i c = refl
word_front w (t ∷ x) y e i c = absurd (not_both (made_word (t ∷ x) (sym (ap (sees (at is_word)) e) ∙ i)) c)

pub never_word : (w : List Lexeme) → sees (at is_word) w ≡ true → Never closed_args w []
never_word w i = never_as _ (never_both _ (record {
  only = λ n x y u e s. h.heads_args.full n u (let P : List Lexeme → Type 0 = λ l. (g.args (g.deeper n)).spells l u in subst P (word_front w x y e i s.clear) s.part);
  ends = λ n x y e b. none_front [] x (word_front w x y e i b.clear);
}))

-- ---- at a type's name

module _ (w rest : List Lexeme) (ahead : qtype_end w ≡ Some rest) (no_word : sees (at is_word) w ≡ false) where
  abbrev pub type_cut : Cut qtype_end w rest
  type_cut = qtype_cut w rest ahead

  -- its tokens
  abbrev pub type_run : List Lexeme
  type_run = type_cut.first ∷ type_cut.more

  past_by : (f r d : List Lexeme) → f ≡ type_run ++ d → rest ≡ d ++ r → begins_made f ≡ false → Within type_run f
  past_by f r [] e p c = ([], sym (append-nil f ∙ (e ∙ append-nil type_run)))
  past_by f r (t ∷ d) e p c = absurd (not_both (made_type f d t (ap qtype_end e ∙ type_cut.again (t ∷ d) (sym (ap (sees (is k.ColonColon)) p) ∙ type_cut.clear))) c)

  -- what does not pass the test goes no further
  not_past : (f r : List Lexeme) → w ≡ f ++ r → begins_made f ≡ false → Within type_run f
  not_past f r e c = elim (splits f r type_run rest (sym e ∙ type_cut.cut)) [ inl (d, p, q) ↦ past_by f r d p q c | inr (d, p, q) ↦ (d, p) ]

  module _ (t : Lexeme) (closes : is k.CloseParen t ≡ true) where
    no_colon : is k.ColonColon t ≡ false
    unfolding same_class
    no_colon = false_of (is k.ColonColon t) (λ i. apart (just k.CloseParen) (just k.ColonColon) refl t closes i)

    bare : ends_bare (Some (t ∷ [])) ≡ true
    unfolding same_class
    bare = ap not (false_of (starts_given t.class) (λ i. apart (just k.CloseParen) starts_given refl t closes i))

    abbrev closed_run : List Lexeme
    closed_run = type_run ++ t ∷ []

    run_word : sees (at is_word) closed_run ≡ false
    run_word = sym (ap (sees (at is_word)) type_cut.cut) ∙ no_word

    run_ahead : type_ahead closed_run ≡ true
    run_ahead = or_right (sees (at begins_type) closed_run)
        (ap (λ b. if b then not (sees (at starts_given) (tail_of closed_run)) else ends_bare (qtype_end closed_run)) run_word ∙ (ap ends_bare (type_cut.again (t ∷ []) no_colon) ∙ bare))

    run_front : TypeFront closed_run
    run_front = type_front closed_run run_ahead

    goes_close : (d : List Lexeme) (r : List Lexeme) → d ++ rest ≡ t ∷ r → Blocked (at goes_name) (d ++ t ∷ []) → ⊥
    unfolding same_class
    goes_close [] r e b = apart (just k.CloseParen) goes_name refl t closes (b t [] refl)
    goes_close (u ∷ d) r e b = let same_token : u ≡ t = cc in apart (just k.CloseParen) goes_name refl t closes (b t (d ++ t ∷ []) (ap (λ z. z ∷ d ++ t ∷ []) same_token))

    -- behind what it spells no `)` stands
    not_closed : (n : ℕ) (f r : List Lexeme) (u : List Expr) → w ≡ f ++ t ∷ r → (v.init_args n).spells f u → ⊥
    not_closed zero f r u e s = s.part.part.first
    not_closed (suc n) f r u e s = let d = not_past f (t ∷ r) e s.clear in let p = args_spelled (suc n) f u s.part in
        let b = run_front.expr.only n f (d.0 ++ t ∷ []) p.0 (ap (λ l. l ++ t ∷ []) d.1 ∙ append_assoc f d.0 (t ∷ [])) p.1 in
        goes_close d.0 r (let whole : f ++ (d.0 ++ rest) ≡ f ++ t ∷ r = sym (append_assoc f d.0 rest) ∙ (ap (λ l. l ++ rest) (sym d.1) ∙ (sym type_cut.cut ∙ e)) in cancel f (d.0 ++ rest) (t ∷ r) whole) b.1

  close_spelled : (n : ℕ) (x y f l : List Lexeme) (u : List Expr) (s : Lexeme) → w ≡ x ++ y → x ≡ f ++ l → l ≡ s ∷ [] → is k.CloseParen s ≡ true → (v.init_args n).spells f u → ⊥
  close_spelled n x y f l u s e cut alone closes z = not_closed s closes n f y u (e ∙ (ap (λ z. z ++ y) cut ∙ (append_assoc f l y ∙ ap (λ z. f ++ (z ++ y)) alone))) z

  close_begun : (n : ℕ) (x y f l : List Lexeme) (u : List Expr) → w ≡ x ++ y → x ≡ f ++ l → (v.init_args n).spells f u → (the (is k.CloseParen)).begins l → Within type_run x
  close_begun n x y f l u e cut s (nothing none) = let same_front : x ≡ f = cut ∙ (ap (λ z. f ++ z) none ∙ append-nil f) in
      subst (Within type_run) (sym same_front) (not_past f y (e ∙ ap (λ z. z ++ y) same_front) s.clear)
  close_begun n x y f l u e cut s (whole b z) = absurd (close_spelled n x y f l u z.token e cut z.alone (passes (is k.CloseParen) z.token b z.fits) s)

  -- the list goes no further than the name
  pub never_type : Never closed_args w type_run
  never_type = record {
    only = λ n x y u e s. let i = s.part in close_spelled n x y i.front i.back s.value.0 i.second.token e i.cut i.second.alone (passes (is k.CloseParen) i.second.token s.value.1 i.second.fits) i.first;
    ends = λ n x y e b. elim b [ in_first c ↦ not_past x y e c.clear | in_second f k u cut s c ↦ close_begun n x y f k u e cut s c ];
  }

-- ---- elsewhere

module _ (w : List Lexeme) (no_word : sees (at is_word) w ≡ false) (none : qtype_end w ≡ None) where
  -- what an expr begins there, the list begins
  pub init_begins : (n : ℕ) (x y : List Lexeme) → w ≡ x ++ y → (g.deeper n).expr.begins x → (v.init_args n).begins x
  init_begins n x y e b = record { part = args_begins n x b; clear = made_clear w x y e no_word none }

  pub init_spells : (n : ℕ) (x y : List Lexeme) (u : Expr) → w ≡ x ++ y → (g.deeper n).expr.spells x u → (a : List Expr) × (v.init_args n).spells x a
  init_spells n x y u e s = let p = expr_args n x u s in (p.0, record { part = p.1; clear = made_clear w x y e no_word none })

  -- and with `)` behind it
  pub closed_begins : (n : ℕ) (x y : List Lexeme) → w ≡ x ++ y → ((g.deeper n).expr ⊲ is k.CloseParen).begins x → (closed_args n).begins x
  closed_begins n x y e (in_first b) = in_first (init_begins n x y e b)
  closed_begins n x y e (in_second f l u cut s b) = let p = init_spells n f (l ++ y) u (e ∙ (ap (λ z. z ++ y) cut ∙ append_assoc f l y)) s in in_second f l p.0 cut p.1 b

-- the list goes no further than an expression
pub never_args : {w used : List Lexeme} → Never (λ n. (g.deeper n).expr ⊲ is k.CloseParen) w used → Never closed_args w used
never_args s = record {
  only = λ n x y u e z. let p = args_spelled n z.part.front z.value.0 z.part.first.part in
      s.only n x y p.0 e (record { value = (p.0, z.value.1); made = refl; part = record { front = z.part.front; back = z.part.back; cut = z.part.cut; first = p.1; second = z.part.second } });
  ends = λ n x y e b. elim b [
    | in_first c ↦ s.ends n x y e (in_first (args_begun n x c.part))
    | in_second f l u cut z c ↦ let p = args_spelled n f u z.part in s.ends n x y e (in_second f l p.0 cut p.1 c)
  ];
}
