-- The readers of the words of a declaration and of the pieces of a string are exact ([dcl.fct.def], [class.virtual], [class.access], [lex.string]).
use Rattle.std.proofs.Common.{ℕ, ◌||◌, refl}
use Rattle.cx_grammar.specs.Language.{one, the, joined, ◌<$>◌, ◌⊳◌, ◌⊲◌}
use Rattle.cx_grammar.specs.Exact.{Family}
use Rattle.cx_grammar.specs.Sets.{by, never}
use Rattle.cx_grammar.proofs.Heads.{Heads, Opens, heads_as, heads_before, heads_both, heads_or, heads_sub, heads_the, opens_many, never_apart, never_sub, same_sub}
use Rattle.cx_grammar.proofs.Steps.{Exactly, exactly_token, exactly_as, exactly_before, exactly_behind, exactly_many, exactly_open}
use Rattle.cx_grammar.proofs.Levels.{present_at}
use Rattle.cx_tree.specs.declared.decls.Tail.{Tail}
use Rattle.cx_tree.specs.declared.decls.Tail.TheVariants as ends
use Rattle.cx_syntax.specs.declared.class.Class.TheVariants as k
use Rattle.cx_syntax.specs.declared.lexeme.Lexeme.{Lexeme}
use Rattle.cx_syntax.specs.Classes.{is, same_class}
use Rattle.cx_syntax.specs.Sets.{is_string}
use Rattle.cx_syntax.specs.Values.{pick, text_of}
use Rattle.cx_syntax.specs.Readers.{just}
use Rattle.cx_syntax.proofs.Basics.{at, sub, heads_pick, exactly_stays, exactly_choice}
use Rattle.cx_syntax_parts.specs.Sets.{is_tail_word, is_virtual, is_access, starts_tail}
use Rattle.cx_syntax_parts.specs.Values.{tail_of, virtual_of, access_of}
use Rattle.cx_syntax_parts.specs.Grammar as g
use Rattle.cx_syntax_parts.specs.Readers as r

-- ---- the end of a declaration without a block

abbrev pub plain_tail : Family Lexeme Tail
plain_tail n = (λ _. ends.Plain) <$> the (is k.Semicolon)

abbrev pub word_tail : Family Lexeme Tail
word_tail n = is k.Equal ⊳ one (pick is_tail_word tail_of) ⊲ is k.Semicolon

pub heads_plain_tail : Heads plain_tail (at (just k.Semicolon))
heads_plain_tail = heads_as (λ _. ends.Plain) (heads_the (is k.Semicolon))

pub heads_word_tail : Heads word_tail (at (just k.Equal))
heads_word_tail = heads_before {G = λ n. one (pick is_tail_word tail_of) ⊲ is k.Semicolon} (is k.Equal)

pub heads_tail : Heads (λ n. g.tail) (at starts_tail)
unfolding same_class
heads_tail = heads_sub (sub (λ c. just k.Semicolon c || just k.Equal c) starts_tail refl) (heads_or heads_plain_tail heads_word_tail)

pub exactly_tail : (left : ℕ) → Exactly (λ n. g.tail) (by never) left r.tail
unfolding r.tail same_class
exactly_tail left = exactly_choice (just k.Semicolon) (just k.Equal) refl heads_plain_tail heads_word_tail
    (present_at refl (λ n. refl) (exactly_as (λ _. ends.Plain) exactly_token))
    (exactly_stays refl (λ n. refl) (exactly_before (is k.Equal) (exactly_behind (is k.Semicolon) exactly_token (never_apart (is k.Semicolon)))))

-- ---- words behind a member function, and access

pub opens_virt : Opens (λ n. g.virt) (at is_virtual)
opens_virt = opens_many (heads_pick is_virtual virtual_of)

pub exactly_virt : (left : ℕ) → Exactly (λ n. g.virt) (by (at is_virtual)) left r.virt
unfolding r.virt
exactly_virt left = exactly_many (at is_virtual) (heads_pick is_virtual virtual_of) (present_at refl (λ n. refl) exactly_token) (never_sub (at is_virtual)) (same_sub (at is_virtual)) (never_apart (at is_virtual))

pub heads_access : Heads (λ n. g.access) (at is_access)
heads_access = heads_pick is_access access_of

pub exactly_access : (left : ℕ) → Exactly (λ n. g.access) (by never) left r.access
exactly_access left = exactly_token

-- ---- the pieces of a string

pub heads_pieces : Heads (λ n. g.pieces) (at is_string)
heads_pieces = heads_as joined (heads_both _ (heads_pick is_string text_of))

pub exactly_pieces : (left : ℕ) → Exactly (λ n. g.pieces) (by (at is_string)) left r.pieces
unfolding r.pieces
exactly_pieces left = exactly_as joined (exactly_open (at is_string) exactly_token
    (exactly_many (at is_string) (heads_pick is_string text_of) (present_at refl (λ n. refl) exactly_token) (never_sub (at is_string)) (same_sub (at is_string)) (never_apart (at is_string)))
    (opens_many (heads_pick is_string text_of)) (never_apart (at is_string)) (never_sub (at is_string)) (same_sub (at is_string)))
