-- The readers of `static_assert`, of an alias and of enumerators are exact ([dcl.pre], [dcl.typedef], [dcl.enum]).
use Rattle.std.proofs.Common.{ℕ, Bool, ◌||◌, List, [], Option, Some, None, refl, inl}
use Rattle.cx_grammar.specs.Language.{maybe, the, trailed, none_yet, ◌>>◌, ◌<$>◌, ◌⊳◌, ◌⊲◌}
use Rattle.cx_grammar.specs.Exact.{Family}
use Rattle.cx_grammar.specs.Reading.{◌⊳◌ as ◌▷◌, ◌⊲◌ as ◌◁◌}
use Rattle.cx_grammar.specs.Sets.{by, never}
use Rattle.cx_grammar.proofs.Heads.{Heads, Opens, heads_as, heads_before, heads_behind, heads_both, heads_measured, heads_or, heads_sub, heads_the, opens_both, opens_maybe, opens_sub, never_apart, never_sub, same_sub}
use Rattle.cx_grammar.proofs.Steps.{Exactly, exactly_token, exactly_as, exactly_before, exactly_behind, exactly_both, exactly_maybe, exactly_open}
use Rattle.cx_grammar.proofs.Levels.{present_at}
use Rattle.cx_grammar.proofs.Sides.{exactly_measured}
use Rattle.cx_grammar.proofs.Trailed.{exactly_trailed, heads_trailed}
use Rattle.cx_tree.specs.declared.exprs.Expr.{Expr}
use Rattle.cx_tree.specs.declared.exprs.TypeId.{TypeId}
use Rattle.cx_tree.specs.declared.decls.Enumerator.{Enumerator}
use Rattle.cx_syntax.specs.declared.class.Class.{Class}
use Rattle.cx_syntax.specs.declared.class.Class.TheVariants as k
use Rattle.cx_syntax.specs.declared.lexeme.Lexeme.{Lexeme}
use Rattle.cx_syntax.specs.Classes.{is, same_class}
use Rattle.cx_syntax.specs.Goes.{goes_assign, goes_typeid}
use Rattle.cx_syntax.specs.Sets.{is_id, is_string}
use Rattle.cx_syntax.specs.Values.{span_of, ident_of, or_none}
use Rattle.cx_syntax.specs.Grammar as e
use Rattle.cx_syntax.specs.Readers.{just}
use Rattle.cx_syntax.specs.Symbols.{typeids}
use Rattle.cx_syntax.proofs.Basics.{at, apart, sub, heads_pick, heads_after, exactly_stays, exactly_choice}
use Rattle.cx_syntax.proofs.Exact.{sound, exactly_cond}
use Rattle.cx_syntax.proofs.Lists.{exactly_typeid}
use Rattle.cx_syntax_parts.specs.Goes.{goes_attrs, goes_enumr, goes_enums}
use Rattle.cx_syntax_parts.specs.Values.{assert_of, alias_of, enumerator_of}
use Rattle.cx_syntax_parts.specs.Grammar as g
use Rattle.cx_syntax_parts.specs.Readers as r
use Rattle.cx_syntax_parts.proofs.Soup.{exactly_attrs, opens_attrs}
use Rattle.cx_syntax_parts.proofs.Words.{exactly_pieces}

pub blank_attrs : (n : ℕ) → (g.attrs n).begins []
blank_attrs n = record { front = []; back = []; cut = refl; turns = []; whole = refl; next = none_yet refl }

-- ---- static_assert

-- ("," STR+)?
abbrev pub message : Family Lexeme (Option (List (List ℕ)))
message n = maybe (is k.Comma ⊳ g.pieces)

abbrev pub goes_message : Class → Bool
goes_message c = is_string c || just k.Comma c

abbrev pub starts_message : Class → Bool
starts_message c = just k.Comma c || just k.CloseParen c

pub heads_comma_pieces : Heads (λ n. is k.Comma ⊳ g.pieces) (at (just k.Comma))
heads_comma_pieces = heads_before {G = λ n. g.pieces} (is k.Comma)

pub heads_message : Heads (λ n. message n ⊲ is k.CloseParen ⊲ is k.Semicolon) (at starts_message)
unfolding same_class
heads_message = heads_behind (is k.Semicolon) (heads_as (λ pair. pair.0) (heads_after (opens_sub (sub (just k.Comma) starts_message refl) (opens_maybe heads_comma_pieces))
    (λ n. inl refl) (heads_sub (sub (just k.CloseParen) starts_message refl) (heads_the (is k.CloseParen)))))

pub exactly_message : (left : ℕ) → Exactly message (by (at goes_message)) left (r.message left)
unfolding same_class
exactly_message left = exactly_maybe (at goes_message) heads_comma_pieces (present_at refl (λ n. refl) (exactly_before (is k.Comma) (exactly_pieces left))) (sub is_string goes_message refl) (sub (just k.Comma) goes_message refl)

pub heads_assert : Heads (λ n. g.assert n) (at (just k.StaticAssert))
heads_assert = heads_as assert_of (heads_measured span_of (heads_both _ (heads_before {G = λ n. is k.OpenParen ⊳ e.cond (e.deeper n)} (is k.StaticAssert))))

pub exactly_assert : (left : ℕ) → Exactly (λ n. g.assert n) (by never) left (r.assert left)
unfolding r.assert same_class
exactly_assert left = exactly_as assert_of (exactly_measured span_of (exactly_both (exactly_before (is k.StaticAssert) (exactly_before (is k.OpenParen) (exactly_cond left)))
    (exactly_behind (is k.Semicolon) (exactly_behind (is k.CloseParen) (exactly_message left) (apart goes_message (just k.CloseParen) refl)) (never_apart (is k.Semicolon)))
    heads_message (apart goes_assign starts_message refl)))

-- ---- an alias

-- "=" typeid ";"
abbrev pub alias_type : Family Lexeme TypeId
alias_type n = is k.Equal ⊳ e.typeid (e.deeper n) ⊲ is k.Semicolon

abbrev pub starts_behind_alias : Class → Bool
starts_behind_alias c = goes_attrs c || just k.Equal c

pub heads_alias_type : Heads alias_type (at (just k.Equal))
heads_alias_type = heads_before {G = λ n. e.typeid (e.deeper n) ⊲ is k.Semicolon} (is k.Equal)

pub exactly_alias_type : (left : ℕ) → Exactly alias_type (by never) left (is k.Equal ▷ typeids left ◁ is k.Semicolon)
unfolding same_class
exactly_alias_type left = exactly_before (is k.Equal) (exactly_behind (is k.Semicolon) (exactly_typeid left (sound left)) (apart goes_typeid (just k.Semicolon) refl))

pub heads_behind_alias : Heads (λ n. g.attrs n >> alias_type n) (at starts_behind_alias)
unfolding same_class
heads_behind_alias = heads_after (opens_sub (sub goes_attrs starts_behind_alias refl) opens_attrs) blank_attrs (heads_sub (sub (just k.Equal) starts_behind_alias refl) heads_alias_type)

pub heads_alias : Heads (λ n. g.alias n) (at (just k.Using))
heads_alias = heads_as alias_of (heads_measured span_of (heads_both _ (heads_before {G = λ n. e.type_only} (is k.Using))))

pub exactly_alias : (left : ℕ) → Exactly (λ n. g.alias n) (by never) left (r.alias left)
unfolding r.alias same_class
exactly_alias left = exactly_as alias_of (exactly_measured span_of (exactly_both (exactly_before (is k.Using) exactly_token)
    (exactly_both (exactly_attrs left) (exactly_alias_type left) heads_alias_type (apart goes_attrs (just k.Equal) refl)) heads_behind_alias (never_apart (at starts_behind_alias))))

-- ---- enumerators

-- "=" cond
abbrev pub value : Family Lexeme Expr
value n = is k.Equal ⊳ e.cond (e.deeper n)

abbrev pub goes_value : Class → Bool
goes_value c = just k.Equal c || goes_assign c

abbrev pub starts_behind_enumr : Class → Bool
starts_behind_enumr c = goes_attrs c || just k.Equal c

pub heads_value : Heads value (at (just k.Equal))
heads_value = heads_before {G = λ n. e.cond (e.deeper n)} (is k.Equal)

pub exactly_value : (left : ℕ) → Exactly (λ n. maybe (value n)) (by (at goes_value)) left (r.enumr_value left)
unfolding same_class
exactly_value left = exactly_maybe (at goes_value) heads_value (present_at refl (λ n. refl) (exactly_before (is k.Equal) (exactly_cond left))) (sub goes_assign goes_value refl) (sub (just k.Equal) goes_value refl)

pub opens_behind_enumr : Opens (λ n. g.attrs n >> maybe (value n)) (at starts_behind_enumr)
unfolding same_class
opens_behind_enumr = opens_both (opens_sub (sub goes_attrs starts_behind_enumr refl) opens_attrs) (opens_sub (sub (just k.Equal) starts_behind_enumr refl) (opens_maybe heads_value))

pub exactly_behind_enumr : (left : ℕ) → Exactly (λ n. g.attrs n >> maybe (value n)) (by (at goes_enumr)) left (r.enumr_rest left)
unfolding same_class
exactly_behind_enumr left = exactly_open (at goes_enumr) (exactly_attrs left) (exactly_value left) (opens_maybe heads_value) (apart goes_attrs (just k.Equal) refl) (sub goes_attrs goes_enumr refl) (sub goes_value goes_enumr refl)

pub heads_enumr : Heads (λ n. g.enumr n) (at is_id)
heads_enumr = heads_as enumerator_of (heads_measured span_of (heads_both _ (heads_pick is_id ident_of)))

pub exactly_enumr : (left : ℕ) → Exactly (λ n. g.enumr n) (by (at goes_enumr)) left (r.enumr left)
unfolding r.enumr same_class
exactly_enumr left = exactly_as enumerator_of (exactly_measured span_of (exactly_open (at goes_enumr) exactly_token (exactly_behind_enumr left) opens_behind_enumr
    (never_apart (at starts_behind_enumr)) (never_sub (at goes_enumr)) (same_sub (at goes_enumr))))

pub exactly_enumrs : (left : ℕ) → Exactly (λ n. trailed (is k.Comma) (g.enumr n)) (by (at goes_enums)) left (r.enumrs left)
unfolding same_class
exactly_enumrs left = exactly_trailed (at goes_enums) heads_enumr (exactly_enumr left) (λ n l. refl) (apart goes_enumr (just k.Comma) refl) (sub goes_enumr goes_enums refl) (sub (just k.Comma) goes_enums refl) (sub is_id goes_enums refl)

pub heads_enums : Heads (λ n. g.enums n) (at (just k.OpenBrace))
heads_enums = heads_as or_none (heads_before {G = λ n. maybe (trailed (is k.Comma) (g.enumr n)) ⊲ is k.CloseBrace} (is k.OpenBrace))

pub exactly_enums : (left : ℕ) → Exactly (λ n. g.enums n) (by never) left (r.enums left)
unfolding r.enums same_class
exactly_enums left = exactly_as or_none (exactly_before (is k.OpenBrace) (exactly_behind (is k.CloseBrace)
    (exactly_maybe (at goes_enums) (heads_trailed (is k.Comma) heads_enumr) (present_at refl (λ n. refl) (exactly_enumrs left)) (same_sub (at goes_enums)) (sub is_id goes_enums refl)) (apart goes_enums (just k.CloseBrace) refl)))

-- ";" | enums ";"
abbrev pub no_enums : Family Lexeme (Option (List Enumerator))
no_enums n = (λ _. None) <$> the (is k.Semicolon)

abbrev pub some_enums : Family Lexeme (Option (List Enumerator))
some_enums n = Some <$> (g.enums n ⊲ is k.Semicolon)

pub heads_no_enums : Heads no_enums (at (just k.Semicolon))
heads_no_enums = heads_as (λ _. None) (heads_the (is k.Semicolon))

pub heads_some_enums : Heads some_enums (at (just k.OpenBrace))
heads_some_enums = heads_as Some (heads_behind (is k.Semicolon) heads_enums)

abbrev pub starts_enum_end : Class → Bool
starts_enum_end c = just k.Semicolon c || just k.OpenBrace c

pub heads_enum_end : Heads (λ n. g.enum_end n) (at starts_enum_end)
heads_enum_end = heads_or heads_no_enums heads_some_enums

pub exactly_enums_end : (left : ℕ) → Exactly (λ n. g.enums n ⊲ is k.Semicolon) (by never) left (r.enums left ◁ is k.Semicolon)
exactly_enums_end left = exactly_behind (is k.Semicolon) (exactly_enums left) (never_apart (is k.Semicolon))

pub exactly_enum_end : (left : ℕ) → Exactly (λ n. g.enum_end n) (by never) left (r.enum_end left)
unfolding r.enum_end same_class
exactly_enum_end left = exactly_choice (just k.Semicolon) (just k.OpenBrace) refl heads_no_enums heads_some_enums
    (present_at refl (λ n. refl) (exactly_as (λ _. None) exactly_token)) (exactly_stays refl (λ n. refl) (exactly_as Some (exactly_enums_end left)))
