-- The readers of primary and postfix expressions are exact, given those one level deeper ([expr.prim], [expr.post]).
use Rattle.std.proofs.Common.{◌≡◌, ℕ, ◌≤◌, Bool, true, if◌then◌else◌, List, length, refl, sym, ◌∙◌, ap, subst, arith}
use Rattle.cx_base.specs.declared.rule.Rule.TheVariants.{Syntax}
use Rattle.cx_grammar.specs.Language.{present, joined, ◌<$>◌, ◌∥◌, ◌⊳◌, ◌⊲◌}
use Rattle.cx_grammar.specs.Exact.{Family, Outcome, done, stop, Exact}
use Rattle.cx_grammar.specs.Reading.{Reader, made, ◌>>=◌, ◌<$>◌ as ◌<$$>◌}
use Rattle.cx_grammar.specs.Sets.{by, never}
use Rattle.cx_grammar.proofs.Heads.{heads_both, heads_before, opens_many, never_apart, never_sub, same_sub}
use Rattle.cx_grammar.proofs.Steps.{Exactly, ExactlyAt, exactly_token, exactly_as, exactly_before, exactly_behind, exactly_both, exactly_open, exactly_many}
use Rattle.cx_grammar.proofs.Choices.{Right, right_of, right_widened, exactly_on}
use Rattle.cx_grammar.proofs.Levels.{marked, present_at, there_present}
use Rattle.cx_grammar.proofs.Sames.{exactly_same, swapped}
use Rattle.cx_grammar.proofs.Sides.{exactly_measured}
use Rattle.cx_tree.specs.declared.exprs.ExprKind.{ExprKind}
use Rattle.cx_tree.specs.declared.exprs.ExprKind.TheVariants as e
use Rattle.cx_tree.specs.declared.exprs.MoreKind.TheVariants as m
use Rattle.cx_tree.specs.declared.exprs.Given.{Given}
use Rattle.cx_tree.specs.declared.names.TypeName.{TypeName}
use Rattle.cx_syntax.specs.declared.class.Class.TheVariants as k
use Rattle.cx_syntax.specs.declared.lexeme.Lexeme.{Lexeme}
use Rattle.cx_syntax.specs.declared.parts.MemberPart.TheVariants as part
use Rattle.cx_syntax.specs.Classes.{is, same_class}
use Rattle.cx_syntax.specs.Ahead.{qtype_end, found}
use Rattle.cx_syntax.specs.Sets.{is_word, is_literal, is_string, is_cast_word, is_step, is_reach, starts_fname, starts_given, starts_more}
use Rattle.cx_syntax.specs.Values.{span_of, text_of, name_of, made_of_word, made_of_type, named_cast, expr_of, member_of, more_of, postfixed}
use Rattle.cx_syntax.specs.Grammar as g
use Rattle.cx_syntax.specs.Readers as r
use Rattle.cx_syntax.specs.Readers.{just}
use Rattle.cx_syntax.proofs.Basics.{at, apart, sub, heads_pick, exactly_widened, exactly_stays, exactly_pair, exactly_choice}
use Rattle.cx_syntax.proofs.Names.{goes_name, exactly_colons, exactly_fname, exactly_fname_parts, exactly_destructor_name, exactly_qtype, heads_fname_parts}
use Rattle.cx_syntax.specs.Goes.{goes_typeid, goes_head, goes_postfix, goes_args}
use Rattle.cx_syntax.proofs.Depth as h
use Rattle.cx_syntax.proofs.Begins as b
use Rattle.cx_syntax.proofs.Lists.{Sound, exactly_typeid, exactly_given, exactly_paren_args}
use Rattle.cx_syntax.proofs.Beside.{reach, reach_within, covers_go, covers_present, stop_covers, first_beside, second_beside}
use Rattle.cx_syntax.proofs.Ahead.{Told, is_type_name, is_none, told}

pub exactly_id : (left : ℕ) (d : r.Readers) → Exactly (λ n. g.id_expression (g.deeper n)) (by (at goes_name)) left (r.id_expression d)
unfolding r.id_expression same_class
exactly_id left d = exactly_as name_of (exactly_measured span_of (exactly_both (exactly_colons left) (exactly_fname_parts left) heads_fname_parts (apart goes_name starts_fname refl)))

pub stopped : {A : Type 0} {L : Family Lexeme A} {q : Lexeme → Bool} {left : ℕ} {read : Reader Lexeme A} → Exactly L (by q) left read → (ts : List Lexeme) (l : ℕ) → read ts ≡ stop Syntax l → Exact L (by q) left ts (stop Syntax l)
stopped {A = A} {L = L} {q = q} {left = left} g ts l e = let P : Outcome Lexeme A → Type 0 = λ o. Exact L (by q) left ts o in subst P e (g.at ts)

module _ (left : ℕ) (d : Sound left) where
  -- ---- names: an expression's or a type's

  pub exactly_id_expression : Exactly (λ n. g.id_expression (g.deeper n)) (by (at goes_name)) left (r.id_expression (r.deeper left))
  exactly_id_expression = exactly_id left (r.deeper left)

  pub exactly_type_made : Exactly (λ n. g.type_made (g.deeper n)) (by never) left (r.type_made (r.deeper left))
  unfolding r.type_made same_class
  exactly_type_made = exactly_as made_of_type (exactly_both (exactly_qtype left) (exactly_given left d) h.heads_given (apart goes_name starts_given refl))

  abbrev given_behind : Outcome Lexeme TypeName → Outcome Lexeme ExprKind
  given_behind o = made made_of_type (o >>= (λ a rest. made (λ b. (a, b)) (r.given (r.deeper left) rest)))

  pub reach_made : (v : TypeName) (o : Outcome Lexeme Given) → reach (made made_of_type (made (λ b. (v, b)) o)) ≡ reach o
  reach_made v (done w rest) = refl
  reach_made v (stop rule l) = refl

  pub made_is : (ts : List Lexeme) (o : Outcome Lexeme TypeName) → r.qtype ts ≡ o → r.type_made (r.deeper left) ts ≡ given_behind o
  unfolding r.type_made
  made_is ts o e = ap given_behind e

  pub type_reach : (ts rest : List Lexeme) (v : TypeName) → r.qtype ts ≡ done v rest → reach (r.type_made (r.deeper left) ts) ≤ length rest
  type_reach ts rest v e = let q = ap reach (made_is ts (done v rest) e) ∙ reach_made v (r.given (r.deeper left) rest) in
      let w = reach_within (λ n. g.given (g.deeper n)) (by never) left rest (r.given (r.deeper left) rest) ((exactly_given left d).at rest) in omega arith

  abbrev names_read : List Lexeme → Bool → Outcome Lexeme ExprKind
  names_read ts b = if b then r.type_made (r.deeper left) ts else r.id_expression (r.deeper left) ts

  pub named_by : (ts : List Lexeme) → Told (qtype_end ts) (r.qtype ts) (r.id_expression (r.deeper left) ts) → Right (λ n. g.id_expression (g.deeper n) ∥ g.type_made (g.deeper n)) (by (at goes_head)) left ts (names_read ts (found (qtype_end ts)))
  unfolding same_class
  named_by ts (is_type_name rest v e a o) =
      let s = stopped exactly_id_expression ts (length rest) o in
      let P : Bool → Type 0 = λ b. Right (λ n. g.id_expression (g.deeper n) ∥ g.type_made (g.deeper n)) (by (at goes_head)) left ts (names_read ts b) in
      subst P (sym (ap found e)) (second_beside (there_present refl (λ n. refl) (right_widened (never_sub (at goes_head)) (right_of exactly_type_made ts))) s.used s.rest s.core.cut
      (covers_present (covers_go (by (at goes_name)) (by (at goes_head)) (λ w t i. sub goes_name goes_head refl t i) (stop_covers (λ n. g.id_expression (g.deeper n)) (by (at goes_name)) left ts (length rest) s)))
      (let p = type_reach ts rest v a in let z = s.size in omega arith))
  named_by ts (is_none l e a p) =
      let s = stopped exactly_type_made ts l (made_is ts (stop Syntax l) a) in
      let P : Bool → Type 0 = λ b. Right (λ n. g.id_expression (g.deeper n) ∥ g.type_made (g.deeper n)) (by (at goes_head)) left ts (names_read ts b) in
      subst P (sym (ap found e)) (first_beside (there_present refl (λ n. refl) (right_widened (sub goes_name goes_head refl) (right_of exactly_id_expression ts))) s.used s.rest s.core.cut
      (covers_present (covers_go (by never) (by (at goes_head)) (λ w t i. never_sub (at goes_head) t i) (stop_covers (λ n. g.type_made (g.deeper n)) (by never) left ts l s)))
      (let z = s.size in omega arith))

  pub exactly_named_head : Exactly (λ n. g.id_expression (g.deeper n) ∥ g.type_made (g.deeper n)) (by (at goes_head)) left (r.named_head (r.deeper left))
  exactly_named_head = record { at = λ ts. (named_by ts (told (r.deeper left) ts)).exact }

  -- ---- heads

  pub exactly_string : Exactly (λ n. g.string (g.deeper n)) (by (at is_string)) left (r.string (r.deeper left))
  unfolding r.string
  exactly_string = exactly_as e.Str (exactly_as joined (exactly_open (at is_string) exactly_token
      (exactly_many (at is_string) (heads_pick is_string text_of) (present_at refl (λ n. refl) exactly_token) (never_sub (at is_string)) (same_sub (at is_string)) (never_apart (at is_string)))
      (opens_many (heads_pick is_string text_of)) (never_apart (at is_string)) (never_sub (at is_string)) (same_sub (at is_string))))

  pub exactly_paren_expr : (r.deeper left).room ≡ true → Exactly (λ n. is k.OpenParen ⊳ (g.deeper n).expr ⊲ is k.CloseParen) (by never) left (r.paren_expr (r.deeper left))
  unfolding same_class
  exactly_paren_expr there = exactly_before (is k.OpenParen) (exactly_behind (is k.CloseParen) (d.expr there) (apart goes_args (just k.CloseParen) refl))

  pub paren_at : ExactlyAt (at (just k.OpenParen)) (λ n. present (g.paren (g.deeper n))) (by (at goes_head)) left (r.paren (r.deeper left))
  unfolding r.paren
  paren_at = exactly_on (at (just k.OpenParen)) (r.paren (r.deeper left)) (λ t ts s. marked (λ n. (r.deeper n).room) h.room left (b.paren_marked t s)
      (λ there. exactly_widened (never_sub (at goes_head)) (exactly_as e.Paren (exactly_paren_expr there))))

  pub cast_there : (r.deeper left).room ≡ true → Exactly (λ n. g.word_cast (g.deeper n)) (by (at goes_head)) left (named_cast <$$> r.word_cast_parts (r.deeper left))
  unfolding same_class
  cast_there there = exactly_widened (never_sub (at goes_head)) (exactly_as named_cast (exactly_both exactly_token
      (exactly_both (exactly_before (is k.Less) (exactly_behind (is k.Greater) (exactly_typeid left d) (apart goes_typeid (just k.Greater) refl))) (exactly_paren_expr there)
      (heads_before {G = λ n. (g.deeper n).expr ⊲ is k.CloseParen} (is k.OpenParen)) (never_apart (is k.OpenParen)))
      (heads_both _ (heads_before {G = λ n. g.typeid (g.deeper n) ⊲ is k.Greater} (is k.Less))) (never_apart (is k.Less))))

  pub word_cast_at : ExactlyAt (at is_cast_word) (λ n. present (g.word_cast (g.deeper n))) (by (at goes_head)) left (r.word_cast (r.deeper left))
  unfolding r.word_cast
  word_cast_at = exactly_on (at is_cast_word) (r.word_cast (r.deeper left)) (λ t ts s. marked (λ n. (r.deeper n).room) h.room left (b.word_cast_marked t s) cast_there)

  pub exactly_word_made : Exactly (λ n. g.word_made (g.deeper n)) (by never) left (r.word_made (r.deeper left))
  unfolding r.word_made
  exactly_word_made = exactly_as made_of_word (exactly_both exactly_token (exactly_given left d) h.heads_given (never_apart (at starts_given)))

  pub exactly_head_kind : Exactly (λ n. g.head_kind (g.deeper n)) (by (at goes_head)) left (r.head_kind (r.deeper left))
  unfolding r.head_kind same_class
  exactly_head_kind = exactly_choice is_literal h.starts_string_or_more refl h.heads_literal h.heads_string_or_more (present_at refl (λ n. refl) (exactly_widened (never_sub (at goes_head)) exactly_token))
      (exactly_pair (exactly_choice is_string h.starts_paren_or_made refl h.heads_string h.heads_paren_or_made (present_at refl (λ n. refl) (exactly_widened (sub is_string goes_head refl) exactly_string))
      (exactly_pair (exactly_choice (just k.OpenParen) h.starts_cast_or_made refl h.heads_paren h.heads_cast_or_made paren_at
      (exactly_pair (exactly_choice is_cast_word h.starts_made refl h.heads_word_cast h.heads_made word_cast_at
      (exactly_pair (exactly_choice is_word h.starts_named_head refl h.heads_word_made h.heads_named_head (present_at refl (λ n. refl) (exactly_widened (never_sub (at goes_head)) exactly_word_made))
      (exactly_pair exactly_named_head)))))))))

  pub exactly_head : Exactly (λ n. g.head (g.deeper n)) (by (at goes_head)) left (r.head (r.deeper left))
  unfolding r.head
  exactly_head = exactly_as expr_of (exactly_measured span_of exactly_head_kind)

  -- ---- what stands behind a head

  pub subscript_at : ExactlyAt (at (just k.OpenBracket)) (λ n. present (g.subscript (g.deeper n))) (by (at goes_name)) left (r.subscript (r.deeper left))
  unfolding r.subscript same_class
  subscript_at = exactly_on (at (just k.OpenBracket)) (r.subscript (r.deeper left)) (λ t ts s. marked (λ n. (r.deeper n).room) h.room left (b.subscript_marked t s)
      (λ there. exactly_widened (never_sub (at goes_name)) (exactly_as m.Subscript (exactly_before (is k.OpenBracket) (exactly_behind (is k.CloseBracket) (d.expr there) (apart goes_args (just k.CloseBracket) refl))))))

  pub exactly_member_part : Exactly (λ n. g.member_part) (by (at goes_name)) left (r.member_part (r.deeper left))
  unfolding r.member_part same_class
  exactly_member_part = exactly_same (swapped (λ n. part.Destructor <$> (g.destructor_name ⊲ is k.OpenParen ⊲ is k.CloseParen)) (λ n. part.Name <$> g.fname))
      (exactly_choice (just k.Tilde) starts_fname refl h.heads_destructor h.heads_member_name
      (present_at refl (λ n. refl) (exactly_widened (never_sub (at goes_name)) (exactly_as part.Destructor
      (exactly_behind (is k.CloseParen) (exactly_behind (is k.OpenParen) (exactly_destructor_name left) (never_apart (is k.OpenParen))) (never_apart (is k.CloseParen))))))
      (exactly_stays refl (λ n. refl) (exactly_as part.Name (exactly_fname left))))

  pub exactly_member : Exactly (λ n. g.member) (by (at goes_name)) left (r.member (r.deeper left))
  unfolding r.member
  exactly_member = exactly_as member_of (exactly_both exactly_token exactly_member_part h.heads_member_part (never_apart (at h.starts_member_part)))

  pub exactly_more_kind : Exactly (λ n. g.more_kind (g.deeper n)) (by (at goes_name)) left (r.more_kind (r.deeper left))
  unfolding r.more_kind same_class
  exactly_more_kind = exactly_choice (just k.OpenBracket) h.starts_call_or_more refl h.heads_subscript h.heads_call_or_more subscript_at
      (exactly_pair (exactly_choice (just k.OpenParen) h.starts_step_or_member refl h.heads_call h.heads_step_or_member (present_at refl (λ n. refl) (exactly_widened (never_sub (at goes_name)) (exactly_as m.Call (exactly_paren_args left d))))
      (exactly_pair (exactly_choice is_step is_reach refl h.heads_step h.heads_member (present_at refl (λ n. refl) (exactly_widened (never_sub (at goes_name)) exactly_token))
      (exactly_stays refl (λ n. refl) exactly_member)))))

  pub exactly_more : Exactly (λ n. g.more (g.deeper n)) (by (at goes_name)) left (r.more (r.deeper left))
  unfolding r.more
  exactly_more = exactly_as more_of (exactly_measured span_of exactly_more_kind)

  pub exactly_postfix : Exactly (λ n. g.postfix (g.deeper n)) (by (at goes_postfix)) left (r.postfix (r.deeper left))
  unfolding r.postfix same_class
  exactly_postfix = exactly_as postfixed (exactly_measured span_of (exactly_open (at goes_postfix) exactly_head
      (exactly_many (at goes_postfix) h.heads_more (present_at refl (λ n. refl) exactly_more) (sub goes_name goes_postfix refl) (sub starts_more goes_postfix refl) (apart goes_name starts_more refl))
      (opens_many h.heads_more) (apart goes_head starts_more refl) (sub goes_head goes_postfix refl) (same_sub (at goes_postfix))))
