-- What the tokens ahead tell of types and expressions: at a type, what an expr begins has nothing behind the type's name; at an expression, what a typeid begins has nothing behind the name.
use Rattle.std.proofs.Common.{◌≡◌, ℕ, zero, suc, ◌≤◌, Bool, true, false, not, ◌||◌, ◌&&◌, if◌then◌else◌, List, [], ◌∷◌, ◌++◌, length, Option, Some, None, refl, sym, ◌∙◌, ap, subst, inl, inr, arith}
use Rattle.std.proofs.lemmas.List.{append-nil}
use Rattle.cx_base.specs.declared.rule.Rule.TheVariants.{Syntax}
use Rattle.cx_grammar.specs.Language.{maybe, many, none_yet, some, in_first, in_second, ◌∥◌}
use Rattle.cx_grammar.specs.Exact.{Family, Outcome, done, stop, Exact, Within}
use Rattle.cx_grammar.specs.Reading.{sees, token_by}
use Rattle.cx_grammar.specs.Reads.{tail_of}
use Rattle.cx_grammar.specs.Sets.{by, never}
use Rattle.cx_grammar.proofs.Heads.{Heads, Sub, Apart, heads_sub, heads_both, heads_before, opens_maybe, opens_many, never_sub, same_sub}
use Rattle.cx_grammar.proofs.Steps.{exactly_token}
use Rattle.cx_grammar.proofs.Unless.{front_by}
use Rattle.cx_tree.specs.declared.specifiers.Modifier.{Modifier}
use Rattle.cx_tree.specs.declared.specifiers.SpecsType.{SpecsType}
use Rattle.cx_syntax.specs.declared.class.Class.{Class}
use Rattle.cx_syntax.specs.declared.class.Class.TheVariants as k
use Rattle.cx_syntax.specs.declared.lexeme.Lexeme.{Lexeme}
use Rattle.cx_syntax.specs.Classes.{is, same_class}
use Rattle.cx_syntax.specs.Linked.{links, then_first}
use Rattle.cx_syntax.specs.Ahead.{type_ahead, qtype_end, ends_bare}
use Rattle.cx_syntax.specs.Sets.{is_modifier, is_modifier_or_word, is_word, is_elaboration, is_prefix, is_literal, is_string, is_cast_word, operators, allowed, is_after_new, begins_type, starts_id_expression, starts_name, starts_named, starts_given, starts_more, starts_tail, starts_assign}
use Rattle.cx_syntax.specs.Values.{pick, span_of, word_of, modifier_of, elaboration_of, either_of, binary_of, expr_of, postfixed, closed, chained, ends_open, tailed, comma_of, words_of, named_of, named_type, is_specified, specs_of, typeid_of, Operand}
use Rattle.cx_syntax.specs.Grammar as g
use Rattle.cx_syntax.specs.Readers as r
use Rattle.cx_syntax.specs.Readers.{just}
use Rattle.cx_syntax.proofs.Basics.{at, apart, sub, false_of, heads_pick}
use Rattle.cx_syntax.proofs.Names.{goes_name, exactly_qtype, heads_qtype}
use Rattle.cx_syntax.proofs.Specifiers.{heads_specs, heads_words_type, heads_name_type, no_modifier}
use Rattle.cx_syntax.proofs.Linked.{opens_links}
use Rattle.cx_syntax.proofs.Depth as h
use Rattle.cx_syntax.proofs.Lists.{heads_behind_specs, opens_declarator}
use Rattle.cx_syntax.proofs.Beside.{reach, used_holds, begins_in}
use Rattle.cx_syntax.proofs.Fronts.{Blocked, Short, never_short, never_as, short_more, short_sub, short_done, short_stop, never_elsewhere, short_as, short_measured, short_two, short_both, never_ended, short_skip, short_then, none_front}
use Rattle.cx_syntax.proofs.Ahead.{Told, is_type_name, is_none, told}
use Rattle.cx_syntax.proofs.Primary.{exactly_id, stopped}

-- ---- sets

-- what an expression that is no name may begin with, but for literals
abbrev pub starts_other : Class → Bool
starts_other c = is_prefix c || (just k.Delete c || (just k.New c || (just k.Alignof c || (just k.Sizeof c || (just k.OpenParen c || just k.Throw c)))))

-- what may stand behind a head in an expr
abbrev pub goes_past : Class → Bool
goes_past c = starts_more c || (operators 0 c || (operators 1 c || (operators 2 c || (operators 3 c || (operators 4 c || (operators 5 c || (operators 6 c || (operators 7 c || (operators 8 c || (operators 9 c || (starts_tail c || just k.Comma c)))))))))))

pub not_seen : {p q : Lexeme → Bool} → Sub p q → (ts : List Lexeme) → sees q ts ≡ false → sees p ts ≡ false
not_seen k [] e = refl
not_seen {p = p} k (t ∷ ts) e = false_of (p t) (λ i. let both : true ≡ false = sym (k t i) ∙ e in cc)

pub level_past : (p : ℕ) → Sub (at (operators p)) (at goes_past)
level_past zero = sub (operators 0) goes_past refl
level_past (suc zero) = sub (operators 1) goes_past refl
level_past (suc (suc zero)) = sub (operators 2) goes_past refl
level_past (suc (suc (suc zero))) = sub (operators 3) goes_past refl
level_past (suc (suc (suc (suc zero)))) = sub (operators 4) goes_past refl
level_past (suc (suc (suc (suc (suc zero))))) = sub (operators 5) goes_past refl
level_past (suc (suc (suc (suc (suc (suc zero)))))) = sub (operators 6) goes_past refl
level_past (suc (suc (suc (suc (suc (suc (suc zero))))))) = sub (operators 7) goes_past refl
level_past (suc (suc (suc (suc (suc (suc (suc (suc zero)))))))) = sub (operators 8) goes_past refl
level_past (suc (suc (suc (suc (suc (suc (suc (suc (suc zero))))))))) = sub (operators 9) goes_past refl
level_past (suc (suc (suc (suc (suc (suc (suc (suc (suc (suc p)))))))))) = λ t e. cc

pub and_left : (b c : Bool) → (b && c) ≡ true → b ≡ true
and_left true c e = refl
and_left false c e = e

pub allowed_level : (p : ℕ) (b : Bool) → Sub (at (allowed p b)) (at (operators p))
allowed_level p b t e = and_left (operators p t.class) (not (b && is_after_new t.class)) e

-- ---- how far an expr goes where a head goes so far

module _ (q : Class → Bool) (a : Apart (at q) (at goes_past)) (u run : List Lexeme) (other : sees (at starts_other) u ≡ false) (s : Short (λ n. g.head_kind (g.deeper n)) (at q) u run) where
  pub short_head : Short (λ n. g.head (g.deeper n)) (at q) u run
  short_head = short_as expr_of (short_measured span_of s)

  pub short_postfix : Short (λ n. g.postfix (g.deeper n)) (at q) u run
  short_postfix = short_as postfixed (short_measured span_of (short_both short_head (opens_many h.heads_more) (λ t i j. a t i (sub starts_more goes_past refl t j))))

  pub short_unary : Short (λ n. g.unary (g.deeper n)) (at q) u run
  unfolding same_class
  short_unary = short_two (never_short (at q) (never_elsewhere h.heads_prefix u (not_seen (sub is_prefix starts_other refl) u other) run))
      (short_two (never_short (at q) (never_elsewhere h.heads_delete u (not_seen (sub (just k.Delete) starts_other refl) u other) run))
      (short_two (never_short (at q) (never_elsewhere h.heads_new u (not_seen (sub (just k.New) starts_other refl) u other) run))
      (short_two (never_short (at q) (never_elsewhere h.heads_alignof u (not_seen (sub (just k.Alignof) starts_other refl) u other) run))
      (short_two (never_short (at q) (never_elsewhere h.heads_sizeof u (not_seen (sub (just k.Sizeof) starts_other refl) u other) run)) (short_as closed short_postfix)))))

  pub short_chain : (p : ℕ) → Short (λ n. g.chain (g.deeper n) p) (at q) u run
  unfolding same_class
  short_chain zero = short_two (never_short (at q) (never_elsewhere h.heads_type_cast u (not_seen (sub (just k.OpenParen) starts_other refl) u other) run)) short_unary
  short_chain (suc p) = short_as chained (short_measured span_of (short_then (λ (first : Operand) n. links (g.turn (g.deeper n) p (g.chain (g.deeper n) p)) ends_open first.1) (short_chain p)
      (λ first. opens_links (λ b n. g.turn (g.deeper n) p (g.chain (g.deeper n) p) b) ends_open (at (operators p)) (λ b. heads_sub (allowed_level p b) (heads_both _ (heads_pick (allowed p b) binary_of))) first.1)
      (λ t i j. a t i (level_past p t j))))

  pub short_assign : Short (λ n. g.assign (g.deeper n)) (at q) u run
  unfolding same_class
  short_assign = short_two (never_short (at q) (never_elsewhere h.heads_throw u (not_seen (sub (just k.Throw) starts_other refl) u other) run))
      (short_as tailed (short_measured span_of (short_both (short_chain 10) (opens_maybe h.heads_tail) (λ t i j. a t i (sub starts_tail goes_past refl t j)))))

  pub short_expr : Short (λ n. g.expr (g.deeper n)) (at q) u run
  unfolding same_class
  short_expr = short_as comma_of (short_measured span_of (short_both short_assign (opens_many (heads_before {G = λ n. g.assign (g.deeper n)} (is k.Comma))) (λ t i j. a t i (sub (just k.Comma) goes_past refl t j))))

-- ---- what a head begins, an expr begins

pub postfix_unary : (n : ℕ) (x : List Lexeme) → (g.postfix (g.deeper n)).begins x → (g.unary (g.deeper n)).begins x
postfix_unary zero x b = inr (some refl (inr (some refl (inr (some refl (inr (some refl (inr (some refl b)))))))))
postfix_unary (suc n) x b = inr (some refl (inr (some refl (inr (some refl (inr (some refl (inr (some refl b)))))))))

pub unary_cast : (n : ℕ) (x : List Lexeme) → (g.unary (g.deeper n)).begins x → (g.cast (g.deeper n)).begins x
unary_cast zero x b = inr (some refl b)
unary_cast (suc n) x b = inr (some refl b)

pub cast_chain : (n p : ℕ) (x : List Lexeme) → (g.cast (g.deeper n)).begins x → (g.chain (g.deeper n) p).begins x
cast_chain n zero x b = b
cast_chain n (suc p) x b = then_first (cast_chain n p x b)

pub chain_expr : (n : ℕ) (x : List Lexeme) → (g.chain_or_more (g.deeper n)).begins x → (g.expr (g.deeper n)).begins x
chain_expr zero x b = in_first (inr (some refl b))
chain_expr (suc n) x b = in_first (inr (some refl b))

pub head_expr : (n : ℕ) (x : List Lexeme) → (g.head_kind (g.deeper n)).begins x → (g.expr (g.deeper n)).begins x
head_expr n x b = chain_expr n x (in_first (cast_chain n 10 x (unary_cast n x (postfix_unary n x (in_first b)))))

-- the alternatives of a head that are always there
pub made_head : (n : ℕ) (x : List Lexeme) → (g.word_made (g.deeper n)).begins x → (g.head_kind (g.deeper n)).begins x
made_head zero x b = inr (some refl (inr (some refl (inr (some refl (inr (some refl (inl (some refl b)))))))))
made_head (suc n) x b = inr (some refl (inr (some refl (inr (some refl (inr (some refl (inl (some refl b)))))))))

pub id_head : (n : ℕ) (x : List Lexeme) → (g.id_expression (g.deeper n)).begins x → (g.head_kind (g.deeper n)).begins x
id_head zero x b = inr (some refl (inr (some refl (inr (some refl (inr (some refl (inr (some refl (inl (some refl b)))))))))))
id_head (suc n) x b = inr (some refl (inr (some refl (inr (some refl (inr (some refl (inr (some refl (inl (some refl b)))))))))))

pub type_head : (n : ℕ) (x : List Lexeme) → (g.type_made (g.deeper n)).begins x → (g.head_kind (g.deeper n)).begins x
type_head zero x b = inr (some refl (inr (some refl (inr (some refl (inr (some refl (inr (some refl (inr (some refl b)))))))))))
type_head (suc n) x b = inr (some refl (inr (some refl (inr (some refl (inr (some refl (inr (some refl (inr (some refl b)))))))))))

-- ---- how far a head goes at a word or a name

abbrev pub starts_primary : Class → Bool
starts_primary c = is_literal c || (is_string c || (just k.OpenParen c || is_cast_word c))

pub short_head_kind : (q : Class → Bool) (u run : List Lexeme) → sees (at starts_primary) u ≡ false → Short (λ n. g.word_made (g.deeper n)) (at q) u run → Short (λ n. g.id_expression (g.deeper n)) (at q) u run
    → Short (λ n. g.type_made (g.deeper n)) (at q) u run → Short (λ n. g.head_kind (g.deeper n)) (at q) u run
unfolding same_class
short_head_kind q u run other made id type = short_two (never_short (at q) (never_elsewhere h.heads_literal u (not_seen (sub is_literal starts_primary refl) u other) run))
    (short_two (never_short (at q) (never_elsewhere h.heads_string u (not_seen (sub is_string starts_primary refl) u other) run))
    (short_two (never_short (at q) (never_elsewhere h.heads_paren u (not_seen (sub (just k.OpenParen) starts_primary refl) u other) run))
    (short_two (never_short (at q) (never_elsewhere h.heads_word_cast u (not_seen (sub is_cast_word starts_primary refl) u other) run))
    (short_two made (short_two id type)))))

pub blocked_seen : (q : Lexeme → Bool) (y : List Lexeme) → sees q y ≡ true → Blocked q y
blocked_seen q [] e = absurd (let c : false ≡ true = e in cc)
blocked_seen q (u ∷ y) e = λ t r c. let same_token : u ≡ t = cc in subst (λ z. q z ≡ true) same_token e

abbrev pub not_given : Class → Bool
not_given c = not (starts_given c)

pub blocked_not : (y : List Lexeme) → sees (at starts_given) y ≡ false → Blocked (at not_given) y
blocked_not [] e = λ t r c. cc
blocked_not (u ∷ y) e = λ t r c. let same_token : u ≡ t = cc in subst (λ z. at not_given z ≡ true) same_token (ap not e)

-- ---- how far a typeid goes

-- what may follow what is a type's front and an expression's
abbrev pub ends_type : Class → Bool
ends_type c = starts_given c || goes_name c

module _ (u run : List Lexeme) (no_mod : sees (at is_modifier) u ≡ false) where
  pub specified_only : (s : Short (λ n. g.words_type ∥ g.name_type) (at ends_type) u run) (n : ℕ) (x y f l : List Lexeme) (ms : List Modifier) (o : Option SpecsType) → u ≡ x ++ y → x ≡ f ++ l → (many g.modifier).spells f ms
      → (maybe (g.words_type ∥ g.name_type)).spells l o → is_specified (ms, o) ≡ true → Within run x × Blocked (at ends_type) y
  specified_only s n x y (t ∷ f) l ms o e cut z w i = let m = (opens_many (heads_pick is_modifier modifier_of)).spells n t f ms z in
      absurd (let first : u ≡ t ∷ (f ++ l ++ y) = e ∙ ap (λ v. v ++ y) cut in let both : true ≡ false = sym m ∙ (sym (ap (sees (at is_modifier)) first) ∙ no_mod) in cc)
  specified_only s n x y [] l (m ∷ ms) o e cut z w i = absurd (no_modifier m z.0 z.1 z.2 z.3)
  specified_only s n x y [] l [] None e cut z w i = cc
  specified_only s n x y [] l [] (Some v) e cut z (inl a) i = let no_type = a.made in cc
  specified_only s n x y [] l [] (Some v) e cut z (inr a) i = s.only n x y a.value e (let P : List Lexeme → Type 0 = λ v. (g.words_type ∥ g.name_type).spells v a.value in subst P (sym cut) a.part)

  pub specified_begun : (s : Short (λ n. g.words_type ∥ g.name_type) (at ends_type) u run) (n : ℕ) (x y f l : List Lexeme) (ms : List Modifier) → u ≡ x ++ y → x ≡ f ++ l → (many g.modifier).spells f ms
      → (maybe (g.words_type ∥ g.name_type)).begins l → Within run x
  specified_begun s n x y (t ∷ f) l ms e cut z b = let m = (opens_many (heads_pick is_modifier modifier_of)).spells n t f ms z in
      absurd (let first : u ≡ t ∷ (f ++ l ++ y) = e ∙ ap (λ v. v ++ y) cut in let both : true ≡ false = sym m ∙ (sym (ap (sees (at is_modifier)) first) ∙ no_mod) in cc)
  specified_begun s n x y [] l ms e cut z (inl none) = none_front run x (cut ∙ none)
  specified_begun s n x y [] l ms e cut z (inr (none_yet none)) = none_front run x (cut ∙ none)
  specified_begun s n x y [] l ms e cut z (inr (some st b)) = s.ends n x y e (let P : List Lexeme → Type 0 = λ v. (g.words_type ∥ g.name_type).begins v in subst P (sym cut) b)

  pub modifiers_begun : (n : ℕ) (x y : List Lexeme) → u ≡ x ++ y → (many g.modifier).begins x → Within run x
  modifiers_begun n [] y e b = none_front run [] refl
  modifiers_begun n (t ∷ x) y e b = let m = (opens_many {G = λ (n : ℕ). g.modifier} (heads_pick is_modifier modifier_of)).begins n t x b in absurd (let both : true ≡ false = sym m ∙ (sym (ap (sees (at is_modifier)) e) ∙ no_mod) in cc)

  pub short_specs : Short (λ n. g.words_type ∥ g.name_type) (at ends_type) u run → Short (λ n. g.specs) (at ends_type) u run
  short_specs s = short_as specs_of (short_measured span_of (record {
    only = λ n x y w e z. specified_only s n x y z.part.front z.part.back w.0 w.1 e z.part.cut z.part.first z.part.second z.such_a;
    ends = λ n x y e b. elim b [ in_first c ↦ modifiers_begun n x y e c | in_second f l v cut z c ↦ specified_begun s n x y f l v e cut z c ];
  }))

  pub short_typeid : Short (λ n. g.words_type ∥ g.name_type) (at ends_type) u run → Short (λ n. g.typeid (g.deeper n)) (at ends_type) u run
  unfolding same_class
  short_typeid s = short_as typeid_of (short_measured span_of (short_both (short_specs s) opens_declarator (apart ends_type heads_behind_specs refl)))

pub short_name_type : (u run : List Lexeme) → sees (at is_elaboration) u ≡ false → Short (λ n. g.qtype) (at ends_type) u run → Short (λ n. g.name_type) (at ends_type) u run
unfolding same_class
short_name_type u run none s = short_as named_type (short_both (short_as named_of (short_skip (opens_maybe (heads_pick is_elaboration elaboration_of)) none s)) (opens_many (heads_pick is_modifier modifier_of)) (apart ends_type is_modifier refl))

pub typed_specs : (x : List Lexeme) → (g.words_type ∥ g.name_type).begins x → g.specs.begins x
typed_specs x b = in_second [] x [] refl refl (inr (some refl b))

pub typed_typeid : (n : ℕ) (x : List Lexeme) → (g.words_type ∥ g.name_type).begins x → (g.typeid (g.deeper n)).begins x
typed_typeid n x b = in_first (typed_specs x b)

pub word_typed : (x : List Lexeme) → g.word.begins x → (g.words_type ∥ g.name_type).begins x
word_typed x b = inl (some refl (in_first b))

pub qtype_typed : (x : List Lexeme) → g.qtype.begins x → (g.words_type ∥ g.name_type).begins x
qtype_typed x b = inr (some refl (in_first (in_second [] x None refl (inl (record { value = tt; made = refl; part = refl })) b)))

-- ---- a type comes next

pub record TypeFront (u : List Lexeme) : Type 0 where
  pub run : List Lexeme
  pub rest : List Lexeme
  pub cut : u ≡ run ++ rest
  -- specs and a typeid begin with the run
  pub specs : g.specs.begins run
  pub types : (n : ℕ) → (g.typeid (g.deeper n)).begins run
  -- an expr goes no further, and what it spells ends before `::`
  pub expr : Short (λ n. g.expr (g.deeper n)) (at goes_name) u run

-- ---- an expression comes next

pub record ExprFront (u : List Lexeme) : Type 0 where
  pub run : List Lexeme
  pub rest : List Lexeme
  pub cut : u ≡ run ++ rest
  -- an expr and a typeid begin with the run
  pub exprs : (n : ℕ) → (g.expr (g.deeper n)).begins run
  pub types : (n : ℕ) (x y : List Lexeme) → run ≡ x ++ y → (g.typeid (g.deeper n)).begins x
  -- a typeid goes no further
  pub typeid : Short (λ n. g.typeid (g.deeper n)) (at ends_type) u run

-- the same at a run that is given
pub record ExprAt (u run rest : List Lexeme) : Type 0 where
  pub cut : u ≡ run ++ rest
  pub exprs : (n : ℕ) → (g.expr (g.deeper n)).begins run
  pub types : (n : ℕ) (x y : List Lexeme) → run ≡ x ++ y → (g.typeid (g.deeper n)).begins x
  pub typeid : Short (λ n. g.typeid (g.deeper n)) (at ends_type) u run

abbrev pub front_at : {u run rest : List Lexeme} → ExprAt u run rest → ExprFront u
front_at {run = run} {rest = rest} f = record { run = run; rest = rest; cut = f.cut; exprs = f.exprs; types = f.types; typeid = f.typeid }

pub whole_front : (x : List Lexeme) → x ≡ x ++ []
whole_front x = sym (append-nil x)

pub seen_head : {A : Type 0} {L : Family Lexeme A} {p : Lexeme → Bool} → Heads L p → (n : ℕ) (used rest u : List Lexeme) (v : A) → u ≡ used ++ rest → (L n).spells used v → sees p u ≡ true
seen_head h n [] rest u v e s = absurd (h.full n v s)
seen_head {p = p} h n (t ∷ used) rest u v e s = ap (sees p) e ∙ h.spells n t used v s

pub unseen_by : {p q : Lexeme → Bool} → Apart p q → (ts : List Lexeme) → sees p ts ≡ true → sees q ts ≡ false
unseen_by a [] e = refl
unseen_by {q = q} a (t ∷ ts) e = false_of (q t) (λ h. a t e h)

pub type_at_type : (u : List Lexeme) → sees (at begins_type) u ≡ true → TypeFront u
type_at_type u e = record {
  run = [];
  rest = u;
  cut = refl;
  specs = heads_specs.blank 0;
  types = h.heads_typeid.blank;
  expr = never_short (at goes_name) (never_elsewhere h.heads_expr u (unseen_by (apart begins_type starts_assign refl) u e) []);
}

-- a word
module _ (t : Lexeme) (rest : List Lexeme) (is_it : is_word t.class ≡ true) where
  pub word_read : Exact (λ n. g.word) (by never) 0 (t ∷ rest) (done (word_of t) rest)
  word_read = let P : Outcome Lexeme _ → Type 0 = λ o. Exact (λ n. g.word) (by never) 0 (t ∷ rest) o in subst P (ap (λ b. token_by (if b then Some (word_of t) else None) t rest) is_it) ((exactly_token {f = pick is_word word_of} {least = 0}).at (t ∷ rest))

  pub type_at_word : sees (at starts_given) rest ≡ false → TypeFront (t ∷ rest)
  unfolding same_class
  type_at_word e = record {
    run = word_read.used;
    rest = rest;
    cut = word_read.core.cut;
    specs = typed_specs word_read.used (word_typed word_read.used (word_read.core.begins 0 (omega arith) word_read.used [] (whole_front word_read.used)));
    types = λ n. typed_typeid n word_read.used (word_typed word_read.used (word_read.core.begins 0 (omega arith) word_read.used [] (whole_front word_read.used)));
    expr = short_expr goes_name (apart goes_name goes_past refl) (t ∷ rest) word_read.used (unseen_by (apart is_word starts_other refl) (t ∷ rest) is_it)
        (short_head_kind goes_name (t ∷ rest) word_read.used (unseen_by (apart is_word starts_primary refl) (t ∷ rest) is_it)
        (never_short (at goes_name) (never_as _ (never_ended (short_done (λ n. g.word) never (at not_given) 0 (t ∷ rest) (never_sub (at not_given)) (word_of t) rest word_read (blocked_not rest e)) h.heads_given (apart not_given starts_given refl))))
        (never_short (at goes_name) (never_elsewhere h.heads_id_expression (t ∷ rest) (unseen_by (apart is_word starts_id_expression refl) (t ∷ rest) is_it) word_read.used))
        (never_short (at goes_name) (never_elsewhere h.heads_type_made (t ∷ rest) (unseen_by (apart is_word starts_name refl) (t ∷ rest) is_it) word_read.used)));
  }

  pub expr_at_word : sees (at starts_given) rest ≡ true → ExprAt (t ∷ rest) word_read.used rest
  unfolding same_class
  expr_at_word e = record {
    cut = word_read.core.cut;
    exprs = λ n. head_expr n word_read.used (made_head n word_read.used (in_first (word_read.core.begins 0 (omega arith) word_read.used [] (whole_front word_read.used))));
    types = λ n x y c. typed_typeid n x (word_typed x (word_read.core.begins 0 (omega arith) x y c));
    typeid = short_typeid (t ∷ rest) word_read.used (unseen_by (apart is_word is_modifier refl) (t ∷ rest) is_it) (short_two
        (short_as words_of (short_both (short_done (λ n. g.word) never (at ends_type) 0 (t ∷ rest) (never_sub (at ends_type)) (word_of t) rest word_read (λ u r c. sub starts_given ends_type refl u (blocked_seen (at starts_given) rest e u r c)))
        (opens_many (heads_pick is_modifier_or_word either_of)) (apart ends_type is_modifier_or_word refl)))
        (never_short (at ends_type) (never_elsewhere heads_name_type (t ∷ rest) (unseen_by (apart is_word starts_named refl) (t ∷ rest) is_it) word_read.used)));
  }

-- a name
module _ (u : List Lexeme) where
  module _ (rest : List Lexeme) (v : _) (a : r.qtype u ≡ done v rest) where
    pub qtype_read : Exact (λ n. g.qtype) (by (at goes_name)) 0 u (done v rest)
    qtype_read = let P : Outcome Lexeme _ → Type 0 = λ o. Exact (λ n. g.qtype) (by (at goes_name)) 0 u o in subst P a ((exactly_qtype 0).at u)

    pub name_first : sees (at starts_name) u ≡ true
    name_first = seen_head heads_qtype 0 qtype_read.used rest u v qtype_read.core.cut (qtype_read.spells 0 (omega arith))

    pub type_at_name : r.id_expression (r.deeper 0) u ≡ stop Syntax (length rest) → sees (at starts_given) rest ≡ false → TypeFront u
    unfolding same_class
    type_at_name o e = let s = stopped (exactly_id 0 (r.deeper 0)) u (length rest) o in record {
      run = qtype_read.used;
      rest = rest;
      cut = qtype_read.core.cut;
      specs = typed_specs qtype_read.used (qtype_typed qtype_read.used (qtype_read.core.begins 0 (omega arith) qtype_read.used [] (whole_front qtype_read.used)));
      types = λ n. typed_typeid n qtype_read.used (qtype_typed qtype_read.used (qtype_read.core.begins 0 (omega arith) qtype_read.used [] (whole_front qtype_read.used)));
      expr = short_expr goes_name (apart goes_name goes_past refl) u qtype_read.used (unseen_by (apart starts_name starts_other refl) u name_first)
          (short_head_kind goes_name u qtype_read.used (unseen_by (apart starts_name starts_primary refl) u name_first)
          (never_short (at goes_name) (never_elsewhere h.heads_word_made u (unseen_by (apart starts_name is_word refl) u name_first) qtype_read.used))
          (short_more (front_by s.used s.rest qtype_read.used rest (sym s.core.cut ∙ qtype_read.core.cut) (let z = s.size in omega arith))
          (short_stop (λ n. g.id_expression (g.deeper n)) (at goes_name) (at goes_name) 0 u (same_sub (at goes_name)) (length rest) s))
          (never_short (at goes_name) (never_as _ (never_ended (short_done (λ n. g.qtype) (at goes_name) (at not_given) 0 u (sub goes_name not_given refl) v rest qtype_read (blocked_not rest e)) h.heads_given (apart not_given starts_given refl)))));
    }

    pub expr_at_type : sees (at begins_type) u ≡ false → sees (at starts_given) rest ≡ true → ExprAt u qtype_read.used rest
    unfolding same_class
    expr_at_type none e = record {
      cut = qtype_read.core.cut;
      exprs = λ n. head_expr n qtype_read.used (type_head n qtype_read.used (in_first (qtype_read.core.begins 0 (omega arith) qtype_read.used [] (whole_front qtype_read.used))));
      types = λ n x y c. typed_typeid n x (qtype_typed x (qtype_read.core.begins 0 (omega arith) x y c));
      typeid = short_typeid u qtype_read.used (not_seen (sub is_modifier begins_type refl) u none) (short_two
          (never_short (at ends_type) (never_elsewhere heads_words_type u (unseen_by (apart starts_name is_word refl) u name_first) qtype_read.used))
          (short_name_type u qtype_read.used (not_seen (sub is_elaboration begins_type refl) u none)
          (short_done (λ n. g.qtype) (at goes_name) (at ends_type) 0 u (sub goes_name ends_type refl) v rest qtype_read (λ t r c. sub starts_given ends_type refl t (blocked_seen (at starts_given) rest e t r c)))));
    }

  module _ (left : ℕ) (a : r.qtype u ≡ stop Syntax left) where
    pub qtype_stop : Exact (λ n. g.qtype) (by (at goes_name)) 0 u (stop Syntax left)
    qtype_stop = stopped (exactly_qtype 0) u left a

    pub expr_at_other : reach (r.id_expression (r.deeper 0) u) ≤ left → sees (at begins_type) u ≡ false → sees (at is_word) u ≡ false → ExprAt u qtype_stop.used qtype_stop.rest
    unfolding same_class
    expr_at_other p none no_word = let s = qtype_stop in let i = (exactly_id 0 (r.deeper 0)).at u in
        let w = used_holds (λ n. g.id_expression (g.deeper n)) (by (at goes_name)) 0 u (r.id_expression (r.deeper 0) u) i s.used s.rest s.core.cut (let z = s.size in omega arith) in record {
          cut = s.core.cut;
          exprs = λ n. head_expr n s.used (id_head n s.used (begins_in (λ n. g.id_expression (g.deeper n)) (by (at goes_name)) 0 u (r.id_expression (r.deeper 0) u) i n (omega arith) s.used w.0 w.1));
          types = λ n x y c. typed_typeid n x (qtype_typed x (s.core.begins 0 (omega arith) x y c));
          typeid = short_typeid u s.used (not_seen (sub is_modifier begins_type refl) u none) (short_two
              (never_short (at ends_type) (never_elsewhere heads_words_type u no_word s.used))
              (short_name_type u s.used (not_seen (sub is_elaboration begins_type refl) u none) (short_sub (sub goes_name ends_type refl) (short_stop (λ n. g.qtype) (at goes_name) (at goes_name) 0 u (same_sub (at goes_name)) left s))));
        }

-- ---- by the test

pub not_true : (b : Bool) → not b ≡ true → b ≡ false
not_true true e = cc
not_true false e = refl

pub not_false : (b : Bool) → not b ≡ false → b ≡ true
not_false true e = refl
not_false false e = cc

abbrev pub by_word : Bool → List Lexeme → Bool
by_word b u = if b then not (sees (at starts_given) (tail_of u)) else ends_bare (qtype_end u)

pub type_by_name : (u : List Lexeme) → Told (qtype_end u) (r.qtype u) (r.id_expression (r.deeper 0) u) → ends_bare (qtype_end u) ≡ true → TypeFront u
type_by_name u (is_type_name rest v e a o) h = type_at_name u rest v a o (not_true (sees (at starts_given) rest) (sym (ap ends_bare e) ∙ h))
type_by_name u (is_none left e a p) h = absurd (let both : false ≡ true = sym (ap ends_bare e) ∙ h in cc)

pub type_by : (u : List Lexeme) (b c : Bool) → sees (at begins_type) u ≡ b → sees (at is_word) u ≡ c → (b || by_word c u) ≡ true → TypeFront u
type_by u true c p q h = type_at_type u p
type_by [] false true p q h = absurd (let both : false ≡ true = q in cc)
type_by (t ∷ rest) false true p q h = type_at_word t rest q (not_true (sees (at starts_given) rest) h)
type_by u false false p q h = type_by_name u (told (r.deeper 0) u) h

pub type_front : (u : List Lexeme) → type_ahead u ≡ true → TypeFront u
type_front u h = type_by u (sees (at begins_type) u) (sees (at is_word) u) refl refl h

pub expr_by_name : (u : List Lexeme) → sees (at begins_type) u ≡ false → sees (at is_word) u ≡ false → Told (qtype_end u) (r.qtype u) (r.id_expression (r.deeper 0) u) → ends_bare (qtype_end u) ≡ false → ExprFront u
expr_by_name u none no_word (is_type_name rest v e a o) h = front_at (expr_at_type u rest v a none (not_false (sees (at starts_given) rest) (sym (ap ends_bare e) ∙ h)))
expr_by_name u none no_word (is_none left e a p) h = front_at (expr_at_other u left a p none no_word)

pub expr_by : (u : List Lexeme) (b c : Bool) → sees (at begins_type) u ≡ b → sees (at is_word) u ≡ c → (b || by_word c u) ≡ false → ExprFront u
expr_by u true c p q h = absurd (let both : true ≡ false = h in cc)
expr_by [] false true p q h = absurd (let both : false ≡ true = q in cc)
expr_by (t ∷ rest) false true p q h = front_at (expr_at_word t rest q (not_false (sees (at starts_given) rest) h))
expr_by u false false p q h = expr_by_name u p q (told (r.deeper 0) u) h

pub expr_front : (u : List Lexeme) → type_ahead u ≡ false → ExprFront u
expr_front u h = expr_by u (sees (at begins_type) u) (sees (at is_word) u) refl refl h
