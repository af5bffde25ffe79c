-- With a level to spare, each token that a rule may begin with begins it; and the alternatives that go a level deeper.
use Rattle.std.proofs.Common.{◌≡◌, ℕ, zero, suc, ◌≤◌, Bool, true, false, ◌||◌, List, [], ◌∷◌, Some, None, refl, sym, ◌∙◌, ap, inl, inr, arith, if◌then◌else◌}
use Rattle.cx_grammar.specs.Language.{Language, one, the, maybe, many, trailed, BeginsPresent, some, whole, in_first, in_second, ◌<$>◌, ◌∥◌, ◌⊳◌, ◌⊲◌}
use Rattle.cx_grammar.specs.Exact.{Family}
use Rattle.cx_grammar.proofs.Levels.{Marked, begun_by}
use Rattle.cx_syntax.specs.declared.class.Class.TheVariants as k
use Rattle.cx_syntax.specs.declared.lexeme.Lexeme.{Lexeme}
use Rattle.cx_syntax.specs.Classes.{is, same_class}
use Rattle.cx_syntax.specs.Linked.{then_first}
use Rattle.cx_syntax.specs.Sets.{is_name, is_word, is_literal, is_string, is_cast_word, is_prefix, is_assignment, starts_id_expression, starts_head, starts_unary, starts_assign, starts_clause}
use Rattle.cx_syntax.specs.Values.{pick, ident_of, text_of, literal_of, word_of, prefix_of, cast_word_of, assignment_of, closed, chosen_of}
use Rattle.cx_syntax.specs.Grammar as g
use Rattle.cx_syntax.specs.Readers.{just}
use Rattle.cx_syntax.proofs.Basics.{at, sub, begun_pick}
use Rattle.cx_syntax.proofs.Depth.{starts_named_head, starts_made, starts_cast_or_made, starts_paren_or_made, starts_string_or_more, starts_delete_or_more, starts_new_or_more, starts_alignof_or_more, starts_sizeof_or_head}

pub or_begins : {A : Type 0} {G H : Language Lexeme A} {x : List Lexeme} (b c : Bool) → (b || c) ≡ true → (b ≡ true → BeginsPresent G x) → (c ≡ true → BeginsPresent H x) → (G ∥ H).begins x
or_begins true c e f h = inl (f refl)
or_begins false c e f h = inr (h e)

-- ---- names

pub begins_scopes : (t : Lexeme) → at is_name t ≡ true → (many (one (pick is_name ident_of) ⊲ is k.ColonColon)).begins (t ∷ [])
begins_scopes t e = record { front = []; back = t ∷ []; cut = refl; turns = []; whole = refl; next = some refl (in_first (begun_pick is_name ident_of t e)) }

pub begins_fname : (t : Lexeme) (b : Bool) → (is_name t.class) ≡ b → at (λ c. is_name c || just k.Operator c) t ≡ true → g.fname.begins (t ∷ [])
begins_fname t true e h = in_first (begins_scopes t e)
begins_fname t false e h = in_second [] (t ∷ []) [] refl refl (inr (some refl (begun_by (λ m. g.op) (is k.Operator) t (ap (λ b. b || just k.Operator t.class) (sym e) ∙ h) 0)))

pub begun_colons : (t : Lexeme) → is k.ColonColon t ≡ true → (the (is k.ColonColon)).begins (t ∷ [])
begun_colons t e = whole tt (record { token = t; alone = refl; fits = ap (λ b. if b then Some tt else None) e })

pub begins_id : (t : Lexeme) (n : ℕ) (b : Bool) → just k.ColonColon t.class ≡ b → at starts_id_expression t ≡ true → (g.id_expression (g.deeper n)).begins (t ∷ [])
unfolding same_class
begins_id t n true e h = in_first (inr (some refl (begun_colons t e)))
begins_id t n false e h = in_second [] (t ∷ []) None refl (inl (record { value = tt; made = refl; part = refl })) (begins_fname t (is_name t.class) refl
    (ap (λ b. b || (is_name t.class || just k.Operator t.class)) (sym e) ∙ sub starts_id_expression (λ c. just k.ColonColon c || (is_name c || just k.Operator c)) refl t h))

pub begins_id_expression : (t : Lexeme) (n : ℕ) → at starts_id_expression t ≡ true → (g.id_expression (g.deeper n)).begins (t ∷ [])
begins_id_expression t n h = begins_id t n (just k.ColonColon t.class) refl h

-- ---- heads

module _ (t : Lexeme) (n : ℕ) where
  pub begins_named_head : at starts_named_head t ≡ true → (g.id_expression (g.deeper (suc n)) ∥ g.type_made (g.deeper (suc n))).begins (t ∷ [])
  begins_named_head h = inl (some refl (begins_id_expression t (suc n) (sub starts_named_head starts_id_expression refl t h)))

  pub begins_made : at starts_made t ≡ true → (g.word_made (g.deeper (suc n)) ∥ g.id_expression (g.deeper (suc n)) ∥ g.type_made (g.deeper (suc n))).begins (t ∷ [])
  begins_made h = or_begins (is_word t.class) (starts_named_head t.class) h (λ e. some refl (in_first (begun_pick is_word word_of t e))) (λ e. some refl (begins_named_head e))

  pub begins_cast_or_made : at starts_cast_or_made t ≡ true → (g.word_cast (g.deeper (suc n)) ∥ g.word_made (g.deeper (suc n)) ∥ g.id_expression (g.deeper (suc n)) ∥ g.type_made (g.deeper (suc n))).begins (t ∷ [])
  begins_cast_or_made h = or_begins (is_cast_word t.class) (starts_made t.class) h (λ e. some refl (in_first (begun_pick is_cast_word cast_word_of t e))) (λ e. some refl (begins_made e))

  pub begins_paren_or_made : at starts_paren_or_made t ≡ true → (g.paren (g.deeper (suc n)) ∥ g.word_cast (g.deeper (suc n)) ∥ g.word_made (g.deeper (suc n)) ∥ g.id_expression (g.deeper (suc n)) ∥ g.type_made (g.deeper (suc n))).begins (t ∷ [])
  begins_paren_or_made h = or_begins (just k.OpenParen t.class) (starts_cast_or_made t.class) h (λ e. some refl (begun_by (λ m. (g.deeper m).expr ⊲ is k.CloseParen) (is k.OpenParen) t e (suc n))) (λ e. some refl (begins_cast_or_made e))

  pub begins_string_or_more : at starts_string_or_more t ≡ true → (g.string (g.deeper (suc n)) ∥ g.paren (g.deeper (suc n)) ∥ g.word_cast (g.deeper (suc n)) ∥ g.word_made (g.deeper (suc n)) ∥ g.id_expression (g.deeper (suc n)) ∥ g.type_made (g.deeper (suc n))).begins (t ∷ [])
  begins_string_or_more h = or_begins (is_string t.class) (starts_paren_or_made t.class) h (λ e. some refl (in_first (begun_pick is_string text_of t e))) (λ e. some refl (begins_paren_or_made e))

  pub begins_head : at starts_head t ≡ true → (g.head (g.deeper (suc n))).begins (t ∷ [])
  unfolding same_class
  begins_head h = or_begins (is_literal t.class) (starts_string_or_more t.class) (sub starts_head (λ c. is_literal c || starts_string_or_more c) refl t h) (λ e. some refl (begun_pick is_literal literal_of t e)) (λ e. some refl (begins_string_or_more e))

  -- ---- operands

  pub begins_sizeof_or_head : at starts_sizeof_or_head t ≡ true → ((g.sizeof_type (g.deeper (suc n)) ∥ g.sizeof_expr (g.deeper (suc n))) ∥ (closed <$> g.postfix (g.deeper (suc n)))).begins (t ∷ [])
  begins_sizeof_or_head h = or_begins (just k.Sizeof t.class) (starts_head t.class) h
      (λ e. some refl (inl (some refl (begun_by (λ m. is k.OpenParen ⊳ g.typeid (g.deeper m) ⊲ is k.CloseParen) (is k.Sizeof) t e (suc n))))) (λ e. some refl (in_first (begins_head e)))

  pub begins_alignof_or_more : at starts_alignof_or_more t ≡ true → (g.alignof_type (g.deeper (suc n)) ∥ (g.sizeof_type (g.deeper (suc n)) ∥ g.sizeof_expr (g.deeper (suc n))) ∥ (closed <$> g.postfix (g.deeper (suc n)))).begins (t ∷ [])
  begins_alignof_or_more h = or_begins (just k.Alignof t.class) (starts_sizeof_or_head t.class) h
      (λ e. some refl (begun_by (λ m. is k.OpenParen ⊳ g.typeid (g.deeper m) ⊲ is k.CloseParen) (is k.Alignof) t e (suc n))) (λ e. some refl (begins_sizeof_or_head e))

  pub begins_new_or_more : at starts_new_or_more t ≡ true → (g.new (g.deeper (suc n)) ∥ g.alignof_type (g.deeper (suc n)) ∥ (g.sizeof_type (g.deeper (suc n)) ∥ g.sizeof_expr (g.deeper (suc n))) ∥ (closed <$> g.postfix (g.deeper (suc n)))).begins (t ∷ [])
  begins_new_or_more h = or_begins (just k.New t.class) (starts_alignof_or_more t.class) h
      (λ e. some refl (in_first (begun_by (λ m. g.specs) (is k.New) t e (suc n)))) (λ e. some refl (begins_alignof_or_more e))

  pub begins_delete_or_more : at starts_delete_or_more t ≡ true → (g.delete (g.deeper (suc n)) ∥ g.new (g.deeper (suc n)) ∥ g.alignof_type (g.deeper (suc n)) ∥ (g.sizeof_type (g.deeper (suc n)) ∥ g.sizeof_expr (g.deeper (suc n))) ∥ (closed <$> g.postfix (g.deeper (suc n)))).begins (t ∷ [])
  begins_delete_or_more h = or_begins (just k.Delete t.class) (starts_new_or_more t.class) h
      (λ e. some refl (in_first (begun_by (λ m. maybe (is k.OpenBracket ⊳ the (is k.CloseBracket))) (is k.Delete) t e (suc n)))) (λ e. some refl (begins_new_or_more e))

  pub begins_unary : at starts_unary t ≡ true → (g.unary (g.deeper (suc n))).begins (t ∷ [])
  unfolding same_class
  begins_unary h = or_begins (is_prefix t.class) (starts_delete_or_more t.class) (sub starts_unary (λ c. is_prefix c || starts_delete_or_more c) refl t h)
      (λ e. some refl (in_first (begun_pick is_prefix prefix_of t e))) (λ e. some refl (begins_delete_or_more e))

  pub begins_chain : (p : ℕ) → at starts_unary t ≡ true → (g.chain (g.deeper (suc n)) p).begins (t ∷ [])
  begins_chain zero h = inr (some refl (begins_unary h))
  begins_chain (suc p) h = then_first (begins_chain p h)

  pub begins_cond : at starts_unary t ≡ true → (g.cond (g.deeper (suc n))).begins (t ∷ [])
  begins_cond h = in_first (begins_chain 10 h)

  pub begins_assign : at starts_assign t ≡ true → (g.assign (g.deeper (suc n))).begins (t ∷ [])
  unfolding same_class
  begins_assign h = or_begins (just k.Throw t.class) (starts_unary t.class) (sub starts_assign (λ c. just k.Throw c || starts_unary c) refl t h)
      (λ e. some refl (begun_by (λ m. maybe (g.deeper m).assign) (is k.Throw) t e (suc n))) (λ e. some refl (in_first (begins_chain 10 e)))

  pub begins_expr : at starts_assign t ≡ true → (g.expr (g.deeper (suc n))).begins (t ∷ [])
  begins_expr h = in_first (begins_assign h)

  pub begins_clause : at starts_clause t ≡ true → (g.clause (g.deeper (suc (suc n)))).begins (t ∷ [])
  unfolding same_class
  begins_clause h = or_begins (starts_assign t.class) (just k.OpenBrace t.class) (sub starts_clause (λ c. starts_assign c || just k.OpenBrace c) refl t h)
      (λ e. some refl (begins_assign e)) (λ e. some refl (begun_by (λ m. maybe (trailed (is k.Comma) (g.clause (g.deeper m))) ⊲ is k.CloseBrace) (is k.OpenBrace) t e (suc n)))

-- ---- alternatives that go a level deeper

-- from two levels on
pub from_two : {A : Type 0} (G : Family Lexeme A) (x : List Lexeme) → ((n : ℕ) → (G (suc (suc n))).begins x) → (n : ℕ) → 2 ≤ n → (G n).begins x
from_two G x b zero p = absurd (omega arith)
from_two G x b (suc zero) p = absurd (omega arith)
from_two G x b (suc (suc n)) p = b n

module _ (t : Lexeme) where
  pub cond_marked : at starts_unary t ≡ true → Marked (λ n. (g.deeper n).cond) t
  cond_marked h = record { enough = 2; begins = from_two (λ n. (g.deeper n).cond) (t ∷ []) (λ n. begins_cond t n h); gone = refl; unspelled = λ x w s. s; stays = λ n. refl }

  pub assign_marked : at starts_assign t ≡ true → Marked (λ n. (g.deeper n).assign) t
  assign_marked h = record { enough = 2; begins = from_two (λ n. (g.deeper n).assign) (t ∷ []) (λ n. begins_assign t n h); gone = refl; unspelled = λ x w s. s; stays = λ n. refl }

  pub args_marked : at starts_assign t ≡ true → Marked (λ n. g.args (g.deeper n)) t
  args_marked h = record { enough = 2; begins = from_two (λ n. g.args (g.deeper n)) (t ∷ []) (λ n. in_first (begins_assign t n h)); gone = refl; unspelled = λ x w s. s.part.first; stays = λ n. refl }

  pub no_clause : {x : List Lexeme} {w : _} → (g.clause (g.deeper 0)).spells x w → ⊥
  no_clause s = elim s [ inl a ↦ a.part | inr b ↦ b.part ]

  pub clauses_marked : at starts_clause t ≡ true → Marked (λ n. trailed (is k.Comma) (g.clause (g.deeper n))) t
  clauses_marked h = record { enough = 2; begins = from_two (λ n. trailed (is k.Comma) (g.clause (g.deeper n))) (t ∷ []) (λ n. in_first (begins_clause t n h)); gone = refl; unspelled = λ x w s. no_clause s.part.first; stays = λ n. refl }

  pub paren_marked : at (just k.OpenParen) t ≡ true → Marked (λ n. g.paren (g.deeper n)) t
  paren_marked h = record { enough = 0; begins = λ n l. begun_by (λ m. (g.deeper m).expr ⊲ is k.CloseParen) (is k.OpenParen) t h n; gone = refl; unspelled = λ x w s. s.part.part.second.part.first; stays = λ n. refl }

  pub word_cast_marked : at is_cast_word t ≡ true → Marked (λ n. g.word_cast (g.deeper n)) t
  word_cast_marked h = record { enough = 0; begins = λ n l. in_first (begun_pick is_cast_word cast_word_of t h); gone = refl; unspelled = λ x w s. s.part.second.second.part.second.part.first; stays = λ n. refl }

  pub subscript_marked : at (just k.OpenBracket) t ≡ true → Marked (λ n. g.subscript (g.deeper n)) t
  subscript_marked h = record { enough = 0; begins = λ n l. begun_by (λ m. (g.deeper m).expr ⊲ is k.CloseBracket) (is k.OpenBracket) t h n; gone = refl; unspelled = λ x w s. s.part.part.second.part.first; stays = λ n. refl }

  pub new_bound_marked : at (just k.OpenBracket) t ≡ true → Marked (λ n. g.new_bound (g.deeper n)) t
  new_bound_marked h = record { enough = 0; begins = λ n l. begun_by (λ m. (g.deeper m).expr ⊲ is k.CloseBracket) (is k.OpenBracket) t h n; gone = refl; unspelled = λ x w s. s.part.second.part.first; stays = λ n. refl }

  pub prefix_marked : at is_prefix t ≡ true → Marked (λ n. g.prefix (g.deeper n)) t
  prefix_marked h = record { enough = 0; begins = λ n l. in_first (begun_pick is_prefix prefix_of t h); gone = refl; unspelled = λ x w s. s.part.part.second; stays = λ n. refl }

  pub delete_marked : at (just k.Delete) t ≡ true → Marked (λ n. g.delete (g.deeper n)) t
  delete_marked h = record { enough = 0; begins = λ n l. in_first (begun_by (λ m. maybe (is k.OpenBracket ⊳ the (is k.CloseBracket))) (is k.Delete) t h n); gone = refl; unspelled = λ x w s. s.part.part.second; stays = λ n. refl }

  pub type_cast_marked : at (just k.OpenParen) t ≡ true → Marked (λ n. g.type_cast (g.deeper n)) t
  type_cast_marked h = record { enough = 0; begins = λ n l. in_first (begun_by (λ m. g.typeid (g.deeper m) ⊲ is k.CloseParen) (is k.OpenParen) t h n); gone = refl; unspelled = λ x w s. s.part.part.second; stays = λ n. refl }

  pub assigned_marked : at is_assignment t ≡ true → Marked (λ n. g.assigned (g.deeper n)) t
  assigned_marked h = record { enough = 0; begins = λ n l. in_first (begun_pick is_assignment assignment_of t h); gone = refl; unspelled = λ x w s. s.part.second; stays = λ n. refl }

  pub chosen_marked : at (just k.Question) t ≡ true → Marked (λ n. chosen_of <$> g.choice (g.deeper n)) t
  chosen_marked h = record { enough = 0; begins = λ n l. in_first (begun_by (λ m. (g.deeper m).expr ⊲ is k.Colon) (is k.Question) t h n); gone = refl; unspelled = λ x w s. s.part.second; stays = λ n. refl }

  pub choice_marked : at (just k.Question) t ≡ true → Marked (λ n. g.choice (g.deeper n)) t
  choice_marked h = record { enough = 0; begins = λ n l. in_first (begun_by (λ m. (g.deeper m).expr ⊲ is k.Colon) (is k.Question) t h n); gone = refl; unspelled = λ x w s. s.second; stays = λ n. refl }
