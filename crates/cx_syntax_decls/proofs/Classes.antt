-- Classes are read exactly, given members one level deeper ([class.pre], [class.derived], [class.mem]).
use Rattle.std.proofs.Common.{◌≡◌, ℕ, Bool, true, false, ◌||◌, if◌then◌else◌, List, [], ◌∷◌, Option, Some, None, refl, ap, inl, inr}
use Rattle.cx_grammar.specs.Language.{the, passing, many, maybe, separated, present, some, whole, in_first, in_second, ◌>>◌, ◌<$>◌, ◌⊳◌, ◌⊲◌}
use Rattle.cx_grammar.specs.Exact.{Family}
use Rattle.cx_grammar.specs.Reading.{guarded, sees}
use Rattle.cx_grammar.specs.Sets.{by, never, of}
use Rattle.cx_grammar.proofs.Heads.{Heads, heads_as, heads_before, heads_both, heads_measured, heads_or, heads_sub, heads_the, opens_maybe, opens_sub, never_apart, never_sub, same_sub}
use Rattle.cx_grammar.proofs.Levels.{present_at}
use Rattle.cx_grammar.proofs.Sides.{exactly_measured}
use Rattle.cx_grammar.proofs.Steps.{Exactly, ExactlyAt, exactly_token, exactly_as, exactly_before, exactly_behind, exactly_both, exactly_many, exactly_maybe, exactly_separated}
use Rattle.cx_tree.specs.declared.decls.ClassBody.{ClassBody}
use Rattle.cx_tree.specs.declared.decls.Member.{Member}
use Rattle.cx_syntax.specs.declared.class.Class.{Class}
use Rattle.cx_syntax.specs.declared.class.Class.TheVariants as k
use Rattle.cx_syntax.specs.declared.lexeme.Lexeme.{Lexeme}
use Rattle.cx_syntax.specs.Classes.{class_at, is, same_class}
use Rattle.cx_syntax.specs.Goes.{goes_name}
use Rattle.cx_syntax.specs.Sets.{is_type, starts_name}
use Rattle.cx_syntax.specs.Values.{pick, span_of, ident_of}
use Rattle.cx_syntax.specs.Grammar as e
use Rattle.cx_syntax.specs.Readers.{just}
use Rattle.cx_syntax.proofs.Basics.{at, apart, sub, begun_pick, exactly_choice, exactly_stays, heads_after, heads_pick}
use Rattle.cx_syntax.proofs.Fronts.{Never, never_as, never_elsewhere, never_measured, never_two}
use Rattle.cx_syntax.proofs.Names.{exactly_qtype, heads_qtype}
use Rattle.cx_syntax.proofs.TypeOrExpr.{not_seen, unseen_by}
use Rattle.cx_syntax_parts.specs.Goes.{goes_attrs}
use Rattle.cx_syntax_parts.specs.Grammar as pg
use Rattle.cx_syntax_parts.specs.Sets.{is_access}
use Rattle.cx_syntax_vars.proofs.Covering.{never_skip}
use Rattle.cx_syntax_decls.specs.Grammar as g
use Rattle.cx_syntax_decls.specs.Readers as r
use Rattle.cx_syntax_decls.specs.Sets.{is_final, is_key, starts_member, begins_class_body}
use Rattle.cx_syntax_decls.specs.Values.{base_of, body_of, class_of, key_of}
use Rattle.cx_syntax_decls.proofs.Alike.{none}
use Rattle.cx_syntax_decls.proofs.Declared.{passed_token}
use Rattle.cx_syntax_decls.proofs.Lower.{opens_attrs, blank_attrs, exactly_attrs, heads_access}
use Rattle.cx_syntax_decls.proofs.Passing.{behind_never, blocked_first, passed_maybe}

-- ---- bases

abbrev starts_base_end : Class → Bool
starts_base_end c = is_access c || starts_name c

heads_base_end : Heads (λ n. maybe pg.access >> e.qtype) (at starts_base_end)
heads_base_end = heads_after (opens_sub (sub is_access starts_base_end refl) (opens_maybe heads_access)) (λ n. inl refl) (heads_sub (sub starts_name starts_base_end refl) heads_qtype)

abbrev pub starts_base : Class → Bool
starts_base c = goes_attrs c || starts_base_end c

pub heads_base : Heads (λ n. g.base n) (at starts_base)
unfolding same_class
heads_base = heads_as base_of (heads_measured span_of (heads_after (opens_sub (sub goes_attrs starts_base refl) opens_attrs) blank_attrs (heads_sub (sub starts_base_end starts_base refl) heads_base_end)))

pub exactly_base : (left : ℕ) → Exactly (λ n. g.base n) (by (at goes_name)) left (r.base left)
unfolding r.base same_class
exactly_base left = exactly_as base_of (exactly_measured span_of (exactly_both (exactly_attrs left)
    (exactly_both (exactly_maybe (at is_access) heads_access (present_at refl (λ n. refl) exactly_token) (never_sub (at is_access)) (same_sub (at is_access))) (exactly_qtype left) heads_qtype (apart is_access starts_name refl))
    heads_base_end (apart goes_attrs starts_base_end refl)))

abbrev goes_bases : Class → Bool
goes_bases c = goes_name c || just k.Comma c

pub exactly_bases : (left : ℕ) → Exactly (λ n. g.bases n) (by (at goes_bases)) left (r.bases left)
unfolding r.bases same_class
exactly_bases left = exactly_before (is k.Colon) (exactly_separated (at goes_bases) heads_base (is k.Comma) (exactly_base left) (present_at refl (λ n. refl) (exactly_before (is k.Comma) (exactly_base left)))
    (apart goes_name (just k.Comma) refl) (sub goes_name goes_bases refl) (sub (just k.Comma) goes_bases refl))

pub heads_bases : Heads (λ n. g.bases n) (at (just k.Colon))
heads_bases = heads_before {G = λ n. separated (is k.Comma) (g.base n)} (is k.Colon)

-- ---- what stands behind a class's name

abbrev starts_bases_end : Class → Bool
starts_bases_end c = just k.Colon c || just k.OpenBrace c

abbrev goes_maybe_bases : Class → Bool
goes_maybe_bases c = just k.Colon c || goes_bases c

abbrev starts_body : Class → Bool
starts_body c = is_final c || starts_bases_end c

abbrev pub members : Family Lexeme (List Member)
members n = is k.OpenBrace ⊳ many (g.deeper_member n) ⊲ is k.CloseBrace ⊲ is k.Semicolon

heads_bases_end : Heads (λ n. maybe (g.bases n) >> members n) (at starts_bases_end)
unfolding same_class
heads_bases_end = heads_after (opens_sub (sub (just k.Colon) starts_bases_end refl) (opens_maybe heads_bases)) (λ n. inl refl)
    (heads_sub (sub (just k.OpenBrace) starts_bases_end refl) (heads_before {G = λ n. many (g.deeper_member n) ⊲ is k.CloseBrace ⊲ is k.Semicolon} (is k.OpenBrace)))

abbrev pub bodies : Family Lexeme ClassBody
bodies n = g.class_body n (g.deeper_member n)

heads_body : Heads bodies (at starts_body)
unfolding same_class
heads_body = heads_as body_of (heads_after (opens_sub (sub is_final starts_body refl) (opens_maybe (heads_the (of class_at is_final)))) (λ n. inl refl) (heads_sub (sub starts_bases_end starts_body refl) heads_bases_end))

abbrev pub class_ends : Family Lexeme (Option ClassBody)
class_ends n = g.class_end n (g.deeper_member n)

abbrev no_body : Family Lexeme (Option ClassBody)
no_body n = (λ _. None) <$> the (is k.Semicolon)

abbrev some_body : Family Lexeme (Option ClassBody)
some_body n = Some <$> bodies n

heads_no_body : Heads no_body (at (just k.Semicolon))
heads_no_body = heads_as (λ _. None) (heads_the (is k.Semicolon))

abbrev pub starts_class_end : Class → Bool
starts_class_end c = just k.Semicolon c || starts_body c

pub heads_class_end : Heads class_ends (at starts_class_end)
unfolding same_class
heads_class_end = heads_or heads_no_body (heads_as Some heads_body)

pub heads_class : Heads (λ n. g.class n) (at is_key)
heads_class = heads_as class_of (heads_measured span_of (heads_both (λ n. pg.attrs n >> e.type_only >> class_ends n) (heads_pick is_key key_of)))

abbrev starts_class_attrs : Class → Bool
starts_class_attrs c = goes_attrs c || is_type c

heads_attrs_end : Heads (λ n. pg.attrs n >> e.type_only >> class_ends n) (at starts_class_attrs)
unfolding same_class
heads_attrs_end = heads_after (opens_sub (sub goes_attrs starts_class_attrs refl) opens_attrs) blank_attrs (heads_sub (sub is_type starts_class_attrs refl) (heads_both class_ends (heads_pick is_type ident_of)))

module _ (left : ℕ) (items : ExactlyAt (at starts_member) (λ n. present (g.deeper_member n)) (by never) left (guarded (r.deeper_member left).room (r.deeper_member left).member)) (heads_items : Heads (λ n. g.deeper_member n) (at starts_member)) where
  exactly_members : Exactly (λ n. many (g.deeper_member n)) (by (at starts_member)) left (r.members left (r.deeper_member left))
  unfolding r.members
  exactly_members = exactly_many (at starts_member) heads_items items (never_sub (at starts_member)) (same_sub (at starts_member)) (never_apart (at starts_member))

  exactly_braced : Exactly members (by never) left (r.braced left (r.deeper_member left))
  unfolding same_class
  exactly_braced = exactly_before (is k.OpenBrace) (exactly_behind (is k.Semicolon) (exactly_behind (is k.CloseBrace) exactly_members (apart starts_member (just k.CloseBrace) refl)) (never_apart (is k.Semicolon)))

  exactly_class_body : Exactly bodies (by never) left (r.class_body left (r.deeper_member left))
  unfolding r.class_body same_class
  exactly_class_body = exactly_as body_of (exactly_both (exactly_maybe (at is_final) (heads_the (of class_at is_final)) (present_at refl (λ n. refl) exactly_token) (never_sub (at is_final)) (same_sub (at is_final)))
      (exactly_both (exactly_maybe (at goes_maybe_bases) heads_bases (present_at refl (λ n. refl) (exactly_bases left)) (sub goes_bases goes_maybe_bases refl) (sub (just k.Colon) goes_maybe_bases refl)) exactly_braced
      (heads_before {G = λ n. many (g.deeper_member n) ⊲ is k.CloseBrace ⊲ is k.Semicolon} (is k.OpenBrace)) (apart goes_maybe_bases (just k.OpenBrace) refl)) heads_bases_end (apart is_final starts_bases_end refl))

  exactly_class_end : Exactly class_ends (by never) left (r.class_end left (r.deeper_member left))
  unfolding r.class_end same_class
  exactly_class_end = exactly_choice (just k.Semicolon) starts_body refl heads_no_body (heads_as Some heads_body)
      (present_at refl (λ n. refl) (exactly_as (λ _. None) exactly_token)) (exactly_stays refl (λ n. refl) (exactly_as Some exactly_class_body))

  pub exactly_class_over : Exactly (λ n. g.class n) (by never) left (r.class left)
  unfolding r.class_over same_class
  exactly_class_over = exactly_as class_of (exactly_measured span_of (exactly_both exactly_token (exactly_both (exactly_attrs left) (exactly_both exactly_token exactly_class_end heads_class_end (never_apart (at starts_class_end)))
      (heads_both class_ends (heads_pick is_type ident_of)) (apart goes_attrs is_type refl)) heads_attrs_end (never_apart (at starts_class_attrs))))

-- ---- how far a class goes at a key

module _ (c : Lexeme) (keyed : is_key c.class ≡ true) where
  pub key_class : (n : ℕ) → (g.class n).begins (c ∷ [])
  key_class n = in_first (begun_pick is_key key_of c keyed)

  key_spelled : g.key.spells (c ∷ []) (key_of c)
  key_spelled = record { token = c; alone = refl; fits = ap (λ b. if b then Some (key_of c) else None) keyed }

  name_spelled : (t : Lexeme) → is_type t.class ≡ true → e.type_only.spells (t ∷ []) (ident_of t)
  name_spelled t is_it = record { token = t; alone = refl; fits = ap (λ b. if b then Some (ident_of t) else None) is_it }

  pub name_class : (n : ℕ) (t : Lexeme) → is_type t.class ≡ true → (g.class n).begins (c ∷ t ∷ [])
  name_class n t is_it = in_second (c ∷ []) (t ∷ []) (key_of c) refl key_spelled (in_second [] (t ∷ []) _ refl (record { value = []; made = refl; part = refl }) (in_first (begun_pick is_type ident_of t is_it)))

  pub final_class_begun : (n : ℕ) (t f : Lexeme) → is_type t.class ≡ true → is_final f.class ≡ true → (g.class n).begins (c ∷ t ∷ f ∷ [])
  final_class_begun n t f is_it is_one = in_second (c ∷ []) (t ∷ f ∷ []) (key_of c) refl key_spelled (in_second [] (t ∷ f ∷ []) _ refl (record { value = []; made = refl; part = refl })
      (in_second (t ∷ []) (f ∷ []) (ident_of t) refl (name_spelled t is_it) (inr (some refl (in_first (inr (some refl (whole tt (record { token = f; alone = refl; fits = ap (λ b. if b then Some tt else None) is_one })))))))))

  class_led : {u more : List Lexeme} → sees (at goes_attrs) u ≡ false → Never (λ n. e.type_only >> class_ends n) u more → Never (λ n. g.class n) (c ∷ u) (c ∷ more)
  class_led {u = u} unseen s = never_as class_of (never_measured span_of (behind_never (passed_token (pick is_key key_of) (at none) c u) heads_attrs_end (λ x a b. no_true a) (never_skip opens_attrs unseen s)))
    where
      no_true : false ≡ true → ⊥
      no_true a = cc

  -- no TYPE comes next, nor attributes
  pub unnamed_class : (u : List Lexeme) → sees (at goes_attrs) u ≡ false → sees (at is_type) u ≡ false → Never (λ n. g.class n) (c ∷ u) (c ∷ [])
  unnamed_class u unseen other = class_led unseen (never_elsewhere (heads_both class_ends (heads_pick is_type ident_of)) u other [])

  -- behind the TYPE a class does not go on so
  pub named_class : (t : Lexeme) (w : List Lexeme) {more : List Lexeme} → is_type t.class ≡ true → Never class_ends w more → Never (λ n. g.class n) (c ∷ t ∷ w) (c ∷ t ∷ more)
  unfolding same_class
  named_class t w is_it s = class_led (unseen_by (apart is_type goes_attrs refl) (t ∷ w) is_it) (behind_never (passed_token (pick is_type ident_of) (at none) t w) heads_class_end (λ x a b. no_true a) s)
    where
      no_true : false ≡ true → ⊥
      no_true a = cc

-- what begins no class's end
pub other_end : (w : List Lexeme) → sees (at starts_class_end) w ≡ false → Never class_ends w []
other_end w unseen = never_elsewhere heads_class_end w unseen []

-- `final` with neither bases nor members behind it
pub final_end : (f : Lexeme) (w : List Lexeme) → is_final f.class ≡ true → sees (at begins_class_body) w ≡ false → Never class_ends (f ∷ w) (f ∷ [])
unfolding same_class
final_end f w is_one unseen = never_two (never_elsewhere heads_no_body (f ∷ w) (unseen_by (apart is_final (just k.Semicolon) refl) (f ∷ w) is_one) (f ∷ []))
    (never_as Some (never_as body_of (behind_never (passed_maybe (blocked_first (at is_final) f w is_one) (passed_token (passing (of class_at is_final)) (at is_final) f w)) heads_bases_end (apart is_final starts_bases_end refl)
    (never_elsewhere heads_bases_end w (not_seen (sub starts_bases_end begins_class_body refl) w unseen) []))))
