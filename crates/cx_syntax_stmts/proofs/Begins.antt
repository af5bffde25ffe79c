-- With a level to spare, each token that a rule may begin with begins it; and the alternatives that go a level deeper.
use Rattle.std.proofs.Common.{◌≡◌, ℕ, suc, Bool, true, false, ◌||◌, if◌then◌else◌, [], ◌∷◌, Some, None, refl, ◌∙◌, ap, inl, inr}
use Rattle.cx_grammar.specs.Language.{Language, the, maybe, many, some, whole, in_first, in_second, ◌>>◌, ◌∥◌, ◌⊳◌, ◌⊲◌}
use Rattle.cx_grammar.proofs.Levels.{Marked, begun_by}
use Rattle.cx_syntax.specs.declared.class.Class.{Class}
use Rattle.cx_syntax.specs.declared.class.Class.TheVariants as k
use Rattle.cx_syntax.specs.declared.lexeme.Lexeme.{Lexeme}
use Rattle.cx_syntax.specs.Ahead.{names_end}
use Rattle.cx_syntax.specs.Classes.{is, same_class}
use Rattle.cx_syntax.specs.Grammar as e
use Rattle.cx_syntax.specs.Readers.{just}
use Rattle.cx_syntax.specs.Sets.{is_type, is_name, is_word, is_modifier, is_elaboration, starts_assign, starts_specs, starts_typed, starts_named, starts_name}
use Rattle.cx_syntax.specs.Values.{is_there, modifier_of, word_of, elaboration_of}
use Rattle.cx_syntax.proofs.Basics.{at, sub, begun_pick}
use Rattle.cx_syntax.proofs.Begins.{or_begins, begins_expr, begins_scopes, from_two}
use Rattle.cx_syntax_parts.specs.Grammar as pg
use Rattle.cx_syntax_vars.specs.Grammar as v
use Rattle.cx_syntax_stmts.specs.Ahead.{at_paren, begins_call}
use Rattle.cx_syntax_stmts.specs.Grammar as g
use Rattle.cx_syntax_stmts.specs.Sets.{starts_stmt_kind, starts_item}
use Rattle.cx_syntax_stmts.specs.Values.{place_of}
use Rattle.cx_syntax_stmts.proofs.Calls.{type_by, type_end_is}
use Rattle.cx_syntax_stmts.proofs.Depth.{starts_return_or_expr, starts_continue_or_more, starts_break_or_more, starts_switch_or_more, starts_for_or_more, starts_do_or_more, starts_while_or_more, starts_if_or_more, starts_empty_or_more, return_or_expr, continue_or_more, break_or_more, switch_or_more, for_or_more, do_or_more, while_or_more, if_or_more, empty_or_more}

-- ---- one token

pub begun_the : (p : Lexeme → Bool) (t : Lexeme) → p t ≡ true → (the p).begins (t ∷ [])
begun_the p t e = whole tt (record { token = t; alone = refl; fits = ap (λ b. if b then Some tt else None) e })

pub begun_place : (c : Class) (t : Lexeme) → at (just c) t ≡ true → (g.place c).begins (t ∷ [])
begun_place c t e = begun_pick (just c) place_of t e

-- one token is no type and `(`
pub lone_end : (t : Lexeme) (b c : Bool) → is_there (at_paren (if b then names_end [] else (if c then Some [] else None))) ≡ false
lone_end t true c = refl
lone_end t false true = refl
lone_end t false false = refl

pub lone_by : (t : Lexeme) (b : Bool) → is_there (at_paren (type_by b (t ∷ []))) ≡ false
lone_by t true = refl
lone_by t false = lone_end t (is k.ColonColon t) (is_type t.class)

pub lone_clear : (t : Lexeme) → begins_call (t ∷ []) ≡ false
lone_clear t = ap (λ o. is_there (at_paren o)) (type_end_is (t ∷ []) (is_word t.class) refl) ∙ lone_by t (is_word t.class)

-- ---- statements

module _ (t : Lexeme) (n : ℕ) where
  pub begins_return_or_expr : at starts_return_or_expr t ≡ true → (return_or_expr (suc n)).begins (t ∷ [])
  begins_return_or_expr h = or_begins (just k.Return t.class) (starts_assign t.class) h
      (λ e. some refl (begun_by (λ m. maybe (g.returned m) ⊲ is k.Semicolon) (is k.Return) t e (suc n)))
      (λ e. some refl (in_first (record { part = begins_expr t n e; clear = lone_clear t })))

  pub begins_continue_or_more : at starts_continue_or_more t ≡ true → (continue_or_more (suc n)).begins (t ∷ [])
  begins_continue_or_more h = or_begins (just k.Continue t.class) (starts_return_or_expr t.class) h (λ e. some refl (in_first (begun_place k.Continue t e))) (λ e. some refl (begins_return_or_expr e))

  pub begins_break_or_more : at starts_break_or_more t ≡ true → (break_or_more (suc n)).begins (t ∷ [])
  begins_break_or_more h = or_begins (just k.Break t.class) (starts_continue_or_more t.class) h (λ e. some refl (in_first (begun_place k.Break t e))) (λ e. some refl (begins_continue_or_more e))

  pub begins_switch_or_more : at starts_switch_or_more t ≡ true → (switch_or_more (suc n)).begins (t ∷ [])
  begins_switch_or_more h = or_begins (just k.Switch t.class) (starts_break_or_more t.class) h (λ e. some refl (in_first (begun_by (λ m. g.condition m) (is k.Switch) t e (suc n)))) (λ e. some refl (begins_break_or_more e))

  pub begins_for_or_more : at starts_for_or_more t ≡ true → (for_or_more (suc n)).begins (t ∷ [])
  begins_for_or_more h = or_begins (just k.For t.class) (starts_switch_or_more t.class) h (λ e. some refl (in_first (in_first (begun_place k.For t e)))) (λ e. some refl (begins_switch_or_more e))

  pub begins_do_or_more : at starts_do_or_more t ≡ true → (do_or_more (suc n)).begins (t ∷ [])
  begins_do_or_more h = or_begins (just k.Do t.class) (starts_for_or_more t.class) h (λ e. some refl (in_first (begun_place k.Do t e))) (λ e. some refl (begins_for_or_more e))

  pub begins_while_or_more : at starts_while_or_more t ≡ true → (while_or_more (suc n)).begins (t ∷ [])
  begins_while_or_more h = or_begins (just k.While t.class) (starts_do_or_more t.class) h (λ e. some refl (in_first (begun_place k.While t e))) (λ e. some refl (begins_do_or_more e))

  pub begins_if_or_more : at starts_if_or_more t ≡ true → (if_or_more (suc n)).begins (t ∷ [])
  begins_if_or_more h = or_begins (just k.If t.class) (starts_while_or_more t.class) h (λ e. some refl (inl (in_first (begun_by (λ m. maybe (the (is k.Constexpr))) (is k.If) t e (suc n))))) (λ e. some refl (begins_while_or_more e))

  pub begins_empty_or_more : at starts_empty_or_more t ≡ true → (empty_or_more (suc n)).begins (t ∷ [])
  begins_empty_or_more h = or_begins (just k.Semicolon t.class) (starts_if_or_more t.class) h (λ e. some refl (begun_the (is k.Semicolon) t e)) (λ e. some refl (begins_if_or_more e))

  pub begins_stmt_kind : at starts_stmt_kind t ≡ true → (g.stmt_kind (suc n) (g.deeper (suc n))).begins (t ∷ [])
  unfolding same_class
  begins_stmt_kind h = or_begins (just k.OpenBrace t.class) (starts_empty_or_more t.class) (sub starts_stmt_kind (λ c. just k.OpenBrace c || starts_empty_or_more c) refl t h)
      (λ e. some refl (in_first (begun_by (λ m. many (g.deeper m).item) (is k.OpenBrace) t e (suc n)))) (λ e. some refl (begins_empty_or_more e))

-- ---- behind attributes

pub no_attrs : (n : ℕ) → (pg.attrs n).spells [] 0
no_attrs n = record { value = []; made = refl; part = refl }

-- a token that begins attributes
pub begins_attrs : (n : ℕ) (t : Lexeme) → is k.OpenBracket t ≡ true → (pg.attrs n).begins (t ∷ [])
begins_attrs n t e = record { front = []; back = t ∷ []; cut = refl; turns = []; whole = refl; next = some refl (begun_by (λ m. is k.OpenBracket ⊳ pg.several (pg.soup m) ⊲ is k.CloseBracket ⊲ is k.CloseBracket) (is k.OpenBracket) t e n) }

-- ---- specifiers

pub no_part : {A : Type 0} (h : Language Lexeme A) → (maybe h).spells [] None
no_part h = inl (record { value = tt; made = refl; part = refl })

pub or_else : (b c : Bool) {P : Type 0} → (b || c) ≡ true → (b ≡ true → P) → (c ≡ true → P) → P
or_else true c e f g = f refl
or_else false c e f g = g e

pub begins_qtype : (t : Lexeme) → at starts_name t ≡ true → e.qtype.begins (t ∷ [])
unfolding same_class
begins_qtype t h = or_else (just k.ColonColon t.class) (is_name t.class) (sub starts_name (λ c. just k.ColonColon c || is_name c) refl t h)
    (λ c. in_first (inr (some refl (begun_the (is k.ColonColon) t c)))) (λ c. in_second [] (t ∷ []) None refl (no_part _) (in_first (begins_scopes t c)))

pub begins_name_type : (t : Lexeme) → at starts_named t ≡ true → e.name_type.begins (t ∷ [])
begins_name_type t h = or_else (is_elaboration t.class) (starts_name t.class) (sub starts_named (λ c. is_elaboration c || starts_name c) refl t h)
    (λ c. in_first (in_first (inr (some refl (begun_pick is_elaboration elaboration_of t c))))) (λ c. in_first (in_second [] (t ∷ []) None refl (no_part _) (begins_qtype t c)))

pub begins_typed : (t : Lexeme) → at starts_typed t ≡ true → (e.words_type ∥ e.name_type).begins (t ∷ [])
begins_typed t h = or_begins (is_word t.class) (starts_named t.class) (sub starts_typed (λ c. is_word c || starts_named c) refl t h)
    (λ c. some refl (in_first (begun_pick is_word word_of t c))) (λ c. some refl (begins_name_type t c))

pub begins_specs : (t : Lexeme) → at starts_specs t ≡ true → e.specs.begins (t ∷ [])
begins_specs t h = or_else (is_modifier t.class) (starts_typed t.class) (sub starts_specs (λ c. is_modifier c || starts_typed c) refl t h)
    (λ c. in_first (record { front = []; back = t ∷ []; cut = refl; turns = []; whole = refl; next = some refl (begun_pick is_modifier modifier_of t c) }))
    (λ c. in_second [] (t ∷ []) [] refl refl (inr (some refl (begins_typed t c))))

-- ---- what stands in a block

abbrev pub starts_word_item : Class → Bool
starts_word_item c = just k.StaticAssert c || (just k.Using c || just k.Typedef c)

module _ (t : Lexeme) (n : ℕ) where
  pub word_item : at starts_word_item t ≡ true → (g.item (suc n)).begins (t ∷ [])
  word_item h = or_else (just k.StaticAssert t.class) (just k.Using t.class || just k.Typedef t.class) h
      (λ c. inl (some refl (in_first (begun_by (λ m. is k.OpenParen ⊳ e.cond (e.deeper m)) (is k.StaticAssert) t c (suc n)))))
      (λ d. or_else (just k.Using t.class) (just k.Typedef t.class) d
      (λ c. inr (some refl (inl (some refl (in_first (begun_by (λ m. e.type_only) (is k.Using) t c (suc n)))))))
      (λ c. inr (some refl (inr (some refl (inl (some refl (begun_by (λ m. e.specs >> e.ptrs >> e.type_only ⊲ is k.Semicolon) (is k.Typedef) t c (suc n)))))))))

  pub stmt_item : (g.stmt (suc n)).begins (t ∷ []) → (g.item (suc n)).begins (t ∷ [])
  stmt_item b = inr (some refl (inr (some refl (inr (some refl (inr (some refl (inl (some refl b)))))))))

  pub local_item : (v.local (suc n)).begins (t ∷ []) → (g.item (suc n)).begins (t ∷ [])
  local_item b = inr (some refl (inr (some refl (inr (some refl (inr (some refl (inr (some refl b)))))))))

  pub begins_item : at starts_item t ≡ true → (g.item (suc n)).begins (t ∷ [])
  begins_item h = or_else (starts_stmt_kind t.class) (starts_specs t.class || (just k.OpenBracket t.class || starts_word_item t.class)) h
      (λ c. stmt_item (in_second [] (t ∷ []) 0 refl (no_attrs (suc n)) (begins_stmt_kind t n c)))
      (λ d. or_else (starts_specs t.class) (just k.OpenBracket t.class || starts_word_item t.class) d
      (λ c. local_item (in_second [] (t ∷ []) 0 refl (no_attrs (suc n)) (in_first (begins_specs t c))))
      (λ d2. or_else (just k.OpenBracket t.class) (starts_word_item t.class) d2 (λ c. stmt_item (in_first (begins_attrs (suc n) t c))) word_item))

pub item_marked : (t : Lexeme) → at starts_item t ≡ true → Marked (λ n. (g.deeper n).item) t
item_marked t h = record { enough = 2; begins = from_two (λ n. (g.deeper n).item) (t ∷ []) (λ n. begins_item t n h); gone = refl; unspelled = λ x w s. s; stays = λ n. refl }

-- ---- alternatives that go a level deeper

module _ (t : Lexeme) where
  pub if_marked : at (just k.If) t ≡ true → Marked (λ n. g.if_stmt n (g.deeper n)) t
  if_marked h = record {
    enough = 0;
    begins = λ n l. inl (in_first (begun_by (λ m. maybe (the (is k.Constexpr))) (is k.If) t h n));
    gone = refl;
    unspelled = λ x w s. elim s.part [ inl a ↦ a.part.second.second | inr b ↦ b.part.second.part.second ];
    stays = λ n. refl;
  }

  pub while_marked : at (just k.While) t ≡ true → Marked (λ n. g.while_stmt n (g.deeper n)) t
  while_marked h = record { enough = 0; begins = λ n l. in_first (begun_place k.While t h); gone = refl; unspelled = λ x w s. s.part.second.second; stays = λ n. refl }

  pub do_marked : at (just k.Do) t ≡ true → Marked (λ n. g.do_stmt n (g.deeper n)) t
  do_marked h = record { enough = 0; begins = λ n l. in_first (begun_place k.Do t h); gone = refl; unspelled = λ x w s. s.part.second.first; stays = λ n. refl }

  pub for_marked : at (just k.For) t ≡ true → Marked (λ n. g.for_stmt n (g.deeper n)) t
  for_marked h = record { enough = 0; begins = λ n l. in_first (in_first (begun_place k.For t h)); gone = refl; unspelled = λ x w s. s.part.second; stays = λ n. refl }

  pub switch_marked : at (just k.Switch) t ≡ true → Marked (λ n. g.switch_stmt n (g.deeper n)) t
  switch_marked h = record { enough = 0; begins = λ n l. in_first (begun_by (λ m. g.condition m) (is k.Switch) t h n); gone = refl; unspelled = λ x w s. s.part.first.part.second.part.second.part.first; stays = λ n. refl }
