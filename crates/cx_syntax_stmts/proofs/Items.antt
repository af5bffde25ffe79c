-- What stands in a block is read exactly ([stmt.dcl]): behind attributes a statement, or variables where a type comes next; or a declaration.
use Rattle.std.proofs.Common.{◌≡◌, ℕ, zero, suc, Bool, true, false, ◌&&◌, ◌||◌, if◌then◌else◌, List, [], ◌∷◌, ◌++◌, refl, ◌∙◌, ap, inr}
use Rattle.cx_base.specs.declared.diag.Span.{Span}
use Rattle.cx_grammar.specs.Language.{present, measured, ◌<$>◌, ◌∥◌, ◌>>◌, some, in_first}
use Rattle.cx_grammar.specs.Exact.{Family, Outcome}
use Rattle.cx_grammar.specs.Reading.{Reader, sees, ◌<$>◌ as ◌<$$>◌}
use Rattle.cx_grammar.specs.Reads.{tail_of}
use Rattle.cx_grammar.specs.Sets.{by, never}
use Rattle.cx_grammar.proofs.Heads.{Heads, heads_as, heads_or}
use Rattle.cx_grammar.proofs.Steps.{Exactly, exactly_made, exactly_then}
use Rattle.cx_grammar.proofs.Choices.{Right, right_of, right_two, second_of_two}
use Rattle.cx_grammar.proofs.Levels.{there_present, present_at}
use Rattle.cx_grammar.proofs.Sames.{exactly_same}
use Rattle.cx_tree.specs.declared.stmts.Item.{Item}
use Rattle.cx_tree.specs.declared.stmts.Item.TheVariants as i
use Rattle.cx_syntax.specs.declared.class.Class.{Class}
use Rattle.cx_syntax.specs.declared.class.Class.TheVariants as k
use Rattle.cx_syntax.specs.declared.lexeme.Lexeme.{Lexeme}
use Rattle.cx_syntax.specs.Ahead.{type_ahead}
use Rattle.cx_syntax.specs.Classes.{is, same_class}
use Rattle.cx_syntax.specs.Grammar as e
use Rattle.cx_syntax.specs.Readers.{just}
use Rattle.cx_syntax.specs.Sets.{is_type, is_elaboration, starts_name, starts_specs}
use Rattle.cx_syntax.specs.Values.{span_of}
use Rattle.cx_syntax.proofs.Basics.{at, apart, sub, exactly_choice, exactly_pair}
use Rattle.cx_syntax.proofs.Beside.{first_begun, second_begun, covers_present}
use Rattle.cx_syntax.proofs.Fronts.{Never, never_as, never_two, never_ended, never_elsewhere, never_covers}
use Rattle.cx_syntax.proofs.TypeOrExpr.{ends_type, type_front, unseen_by}
use Rattle.cx_syntax.proofs.Valued.{exactly_spanned}
use Rattle.cx_syntax_parts.specs.Goes.{goes_attrs}
use Rattle.cx_syntax_parts.specs.Grammar as pg
use Rattle.cx_syntax_parts.proofs.Soup.{exactly_attrs}
use Rattle.cx_syntax_parts.specs.Readers as pr
use Rattle.cx_syntax_parts.proofs.Declarations.{blank_attrs, heads_assert, exactly_assert, heads_alias, exactly_alias}
use Rattle.cx_syntax_parts.proofs.Enums.{heads_enum, exactly_enum}
use Rattle.cx_syntax_vars.specs.Grammar as v
use Rattle.cx_syntax_vars.specs.Readers as w
use Rattle.cx_syntax_vars.specs.Sets.{starts_var}
use Rattle.cx_syntax_vars.specs.Values.{local_of}
use Rattle.cx_syntax_vars.proofs.Typedefs.{heads_typedef, exactly_typedef}
use Rattle.cx_syntax_vars.proofs.Locals.{exactly_declared, heads_declared}
use Rattle.cx_syntax_stmts.specs.declared.parts.BehindAttrs.{BehindAttrs}
use Rattle.cx_syntax_stmts.specs.declared.parts.BehindAttrs.TheVariants as behind
use Rattle.cx_syntax_stmts.specs.Goes.{goes_stmt_kind, goes_item}
use Rattle.cx_syntax_stmts.specs.Grammar as g
use Rattle.cx_syntax_stmts.specs.Readers as r
use Rattle.cx_syntax_stmts.specs.Ahead.{enum_behind}
use Rattle.cx_syntax_stmts.specs.Sets.{starts_stmt_kind, follows_enum, follows_enum_name}
use Rattle.cx_syntax_stmts.specs.Values.{kind_takes_else, item_takes_else, stmt_of, vars_of, plain_of}
use Rattle.cx_syntax_stmts.proofs.Alike.{alike}
use Rattle.cx_syntax_stmts.proofs.AtType.{type_first, never_stmt_kind, expr_kind}
use Rattle.cx_syntax_stmts.proofs.Begins.{begins_specs}
use Rattle.cx_syntax_stmts.proofs.Depth as d
use Rattle.cx_syntax_stmts.proofs.Enums.{behind_word, never_enum_at, never_enum_named, never_local_enum, no_name, no_more, enum_begins, enum_named, specs_named, local_begins}
use Rattle.cx_syntax_stmts.proofs.Fors.{heads_vars_end}
use Rattle.cx_syntax_stmts.proofs.Openness as o
use Rattle.cx_syntax_stmts.proofs.Runs.{plain_front}
use Rattle.cx_syntax_stmts.proofs.Stmts.{Sound, and_first, and_second, both_are, exactly_stmt_kind}

-- ---- behind attributes

abbrev pub behind_kind : Family Lexeme BehindAttrs
behind_kind n = behind.Stmt <$> g.stmt_kind n (g.deeper n)

abbrev pub behind_vars : Family Lexeme BehindAttrs
behind_vars n = vars_of <$> v.declared n

abbrev pub goes_behind : BehindAttrs → Lexeme → Bool
goes_behind (behind.Stmt kind) t = goes_stmt_kind kind t
goes_behind (behind.Vars specs vars) t = false

abbrev pub starts_behind : Class → Bool
starts_behind c = starts_stmt_kind c || starts_specs c

pub heads_behind_attrs : Heads (λ n. behind_kind n ∥ behind_vars n) (at starts_behind)
heads_behind_attrs = heads_or (heads_as behind.Stmt d.heads_stmt_kind) (heads_as vars_of heads_declared)

pub kind_stays : (n : ℕ) → (g.stmt_kind n (g.deeper n)).stays ≡ true
kind_stays zero = refl
kind_stays (suc n) = refl

pub plain_stays : (n : ℕ) → (d.plain_items n).stays ≡ true
plain_stays zero = refl
plain_stays (suc n) = refl

module _ (left : ℕ) (s : Sound left) where
  pub vars_right : (ts : List Lexeme) → Right (λ n. present (behind_vars n)) goes_behind left ts ((vars_of <$$> w.declared left) ts)
  vars_right ts = there_present refl (λ n. refl) (right_of (exactly_made (by never) goes_behind vars_of (λ u t e. cc) (exactly_declared left)) ts)

  pub kind_right : (ts : List Lexeme) → Right (λ n. present (behind_kind n)) goes_behind left ts ((behind.Stmt <$$> r.stmt_kind left (r.deeper left)) ts)
  kind_right ts = there_present refl (λ n. refl) (right_of (exactly_made goes_stmt_kind goes_behind behind.Stmt (λ u t e. e) (exactly_stmt_kind left s)) ts)

  pub behind_by : (ts : List Lexeme) (b : Bool) → type_ahead ts ≡ b → Right (λ n. behind_kind n ∥ behind_vars n) goes_behind left ts (if b then (vars_of <$$> w.declared left) ts else (behind.Stmt <$$> r.stmt_kind left (r.deeper left)) ts)
  unfolding same_class
  behind_by ts true e = let f = type_front ts e in second_begun (vars_right ts) f.run f.rest f.cut
      (covers_present (never_covers goes_behind (never_as behind.Stmt (never_stmt_kind ts f (type_first ts e))))) (some refl (in_first f.specs))
  behind_by ts false e = let f = plain_front ts e in first_begun (kind_right ts) f.run f.rest f.cut
      (covers_present (never_covers goes_behind (never_as vars_of (never_ended f.specs heads_vars_end (apart ends_type starts_var refl)))))
      (some (kind_stays left) (expr_kind left f.run (in_first (record { part = f.exprs left; clear = f.clear }))))

  pub exactly_behind_attrs : Exactly (λ n. behind_kind n ∥ behind_vars n) goes_behind left (r.behind_attrs left (r.deeper left))
  unfolding r.behind_attrs
  exactly_behind_attrs = record { at = λ ts. (behind_by ts (type_ahead ts) refl).exact }

  -- ---- with them

  pub plain_goes : (u : (ℕ × BehindAttrs) × Span) (t : Lexeme) → goes_behind u.0.1 t ≡ true → goes_item (plain_of u) t ≡ true
  plain_goes ((attrs, behind.Stmt kind), span) t e = both_are (is k.Else t) (item_takes_else (i.Stmt (stmt_of ((attrs, kind), span)))) (and_first (is k.Else t) (kind_takes_else kind) e)
      (o.takes_stmt_item (stmt_of ((attrs, kind), span)) ∙ (o.takes_stmt ((attrs, kind), span) ∙ and_second (is k.Else t) (kind_takes_else kind) e))
  plain_goes ((attrs, behind.Vars specs vars), span) t e = cc

  pub exactly_joint : Exactly (λ n. plain_of <$> measured span_of (pg.attrs n >> (behind_kind n ∥ behind_vars n))) goes_item left (r.plain_item left (r.deeper left))
  unfolding r.plain_item same_class
  exactly_joint = exactly_made (λ u t. goes_behind u.0.1 t) goes_item plain_of plain_goes
      (exactly_spanned span_of (λ u t. goes_behind u.1 t) (exactly_then goes_behind (exactly_attrs left) exactly_behind_attrs heads_behind_attrs (apart goes_attrs starts_behind refl)))

  pub exactly_plain_item : Exactly d.plain_items goes_item left (r.plain_item left (r.deeper left))
  exactly_plain_item = exactly_same (alike span_of (λ n. pg.attrs n) (λ n. g.stmt_kind n (g.deeper n)) (λ n. v.declared n) stmt_of i.Stmt local_of i.Local behind.Stmt vars_of plain_of
      (λ p b m. refl) (λ p c m. refl) (λ n. refl) kind_stays (λ n. refl) blank_attrs d.heads_stmt_kind.blank heads_declared.blank) exactly_joint

  -- ---- an enumeration, or one of these

  pub enum_right : (ts : List Lexeme) → Right (λ n. present (i.Enum <$> pg.enum n)) goes_item left ts ((i.Enum <$$> pr.enum left) ts)
  enum_right ts = there_present refl (λ n. refl) (right_of (exactly_made (by never) goes_item i.Enum (λ u t e. cc) (exactly_enum left)) ts)

  pub plain_right : (ts : List Lexeme) → Right (λ n. present (d.plain_items n)) goes_item left ts (r.plain_item left (r.deeper left) ts)
  plain_right ts = right_two (right_of exactly_plain_item ts)

  abbrev pub enum_read : Bool → List Lexeme → Outcome Lexeme Item
  enum_read b ts = if b then (i.Enum <$$> pr.enum left) ts else r.plain_item left (r.deeper left) ts

  abbrev pub EnumRight : List Lexeme → Bool → Type 0
  EnumRight ts b = Right d.enum_or_plain goes_item left ts (enum_read b ts)

  -- a statement does not begin with `enum`
  pub no_stmt : (t : Lexeme) (rest used : List Lexeme) → is k.Enum t ≡ true → Never (λ n. g.stmt n) (t ∷ rest) used
  unfolding same_class
  no_stmt t rest used w = never_elsewhere d.heads_stmt (t ∷ rest) (unseen_by (apart (just k.Enum) d.starts_stmt refl) (t ∷ rest) w) used

  pub as_enum : (t : Lexeme) (rest used more : List Lexeme) → is k.Enum t ≡ true → rest ≡ used ++ more → Never behind_word rest used → (pg.enum left).begins (t ∷ used) → EnumRight (t ∷ rest) true
  as_enum t rest used more w cut b begun = first_begun (enum_right (t ∷ rest)) (t ∷ used) more (ap (λ l. t ∷ l) cut)
      (covers_present (never_covers goes_item (never_two (never_as i.Stmt (no_stmt t rest (t ∷ used) w)) (never_as i.Local (never_local_enum t rest used w b))))) (some refl begun)

  pub as_plain : (t : Lexeme) (rest used more : List Lexeme) → rest ≡ used ++ more → Never (λ n. pg.enum n) (t ∷ rest) (t ∷ used) → e.specs.begins (t ∷ used) → EnumRight (t ∷ rest) false
  as_plain t rest used more cut b begun = second_begun (plain_right (t ∷ rest)) (t ∷ used) more (ap (λ l. t ∷ l) cut)
      (covers_present (never_covers goes_item (never_as i.Enum b))) (some (plain_stays left) (inr (some refl (local_begins left (t ∷ used) begun))))

  -- behind a TYPE
  pub by_third : (t s : Lexeme) (rest : List Lexeme) (b : Bool) → sees (at follows_enum_name) rest ≡ b → is k.Enum t ≡ true → is_type s.class ≡ true → EnumRight (t ∷ s ∷ rest) b
  unfolding same_class
  by_third t s rest true q w j = as_enum t (s ∷ rest) (s ∷ []) rest w refl (no_more s rest j q) (enum_named left t s w j)
  by_third t s rest false q w j = as_plain t (s ∷ rest) (s ∷ []) rest refl (never_enum_named t s rest j q) (specs_named t s (sub (just k.Enum) is_elaboration refl t w) (sub is_type starts_name refl s j))

  pub by_second : (t : Lexeme) (rest : List Lexeme) (b c : Bool) → sees (at follows_enum) rest ≡ b → sees (at is_type) rest ≡ c → is k.Enum t ≡ true → EnumRight (t ∷ rest) (b || (c && sees (at follows_enum_name) (tail_of rest)))
  unfolding same_class
  by_second t rest true c p q w = as_enum t rest [] rest w refl (no_name rest p) (enum_begins left t w)
  by_second t rest false false p q w = as_plain t rest [] rest refl (never_enum_at t rest p q) (begins_specs t (sub (just k.Enum) starts_specs refl t w))
  by_second t [] false true p q w = absurd (let both : false ≡ true = q in cc)
  by_second t (s ∷ rest) false true p q w = by_third t s rest (sees (at follows_enum_name) rest) refl w q

  pub by_word : (ts : List Lexeme) (b : Bool) → sees (is k.Enum) ts ≡ b → EnumRight ts (b && enum_behind (tail_of ts))
  by_word ts false p = second_of_two (heads_as i.Enum heads_enum) p (plain_right ts)
  by_word [] true p = absurd (let both : false ≡ true = p in cc)
  by_word (t ∷ rest) true p = by_second t rest (sees (at follows_enum) rest) (sees (at is_type) rest) refl refl p

  pub exactly_enum_or_plain : Exactly d.enum_or_plain goes_item left (r.enum_or_plain left (r.deeper left))
  exactly_enum_or_plain = record { at = λ ts. (by_word ts (sees (is k.Enum) ts) refl).exact }

  -- ---- the declarations that a word begins

  pub simple : {A : Type 0} {L : Family Lexeme A} {read : Reader Lexeme A} (f : A → Item) → Exactly L (by never) left read → Exactly (λ n. f <$> L n) goes_item left (f <$$> read)
  simple f z = exactly_made (by never) goes_item f (λ u t e. cc) z

  pub exactly_item_at : Exactly (λ n. g.item n) goes_item left (r.item left)
  unfolding r.item_with same_class
  exactly_item_at = exactly_choice (just k.StaticAssert) d.starts_alias_or_more refl (heads_as i.Assert heads_assert) d.heads_alias_or_more (present_at refl (λ n. refl) (simple i.Assert (exactly_assert left))) (exactly_pair
      (exactly_choice (just k.Using) d.starts_typedef_or_more refl (heads_as i.Alias heads_alias) d.heads_typedef_or_more (present_at refl (λ n. refl) (simple i.Alias (exactly_alias left))) (exactly_pair
      (exactly_choice (just k.Typedef) d.starts_enum_or_plain refl (heads_as i.Typedef heads_typedef) d.heads_enum_or_plain (present_at refl (λ n. refl) (simple i.Typedef (exactly_typedef left))) (exactly_pair exactly_enum_or_plain)))))
