-- The readers of attributes and of `noexcept` are exact ([dcl.attr.grammar], [except.spec]).
use Rattle.std.proofs.Common.{◌≡◌, ℕ, zero, suc, ◌≤◌, Bool, true, not, ◌&&◌, ◌||◌, [], ◌∷◌, Option, refl, arith}
use Rattle.cx_grammar.specs.Language.{one, maybe, present, some, ◌<$>◌, ◌∥◌, ◌⊳◌, ◌⊲◌}
use Rattle.cx_grammar.specs.Exact.{Family}
use Rattle.cx_grammar.specs.Reading.{Reader, guarded}
use Rattle.cx_grammar.specs.Sets.{by, never}
use Rattle.cx_grammar.proofs.Classes.{variants}
use Rattle.cx_grammar.proofs.Heads.{Heads, Opens, heads_as, heads_before, heads_or, heads_sub, opens_as, opens_many, opens_maybe, never_apart, never_sub, same_sub}
use Rattle.cx_grammar.proofs.Steps.{Exactly, ExactlyAt, exactly_token, exactly_as, exactly_before, exactly_behind, exactly_maybe, exactly_many}
use Rattle.cx_grammar.proofs.Choices.{exactly_on}
use Rattle.cx_grammar.proofs.Levels.{Below, Marked, Room, heads_below, exactly_below, marked, begun_by, present_at}
use Rattle.cx_syntax.specs.declared.class.Class.{Class}
use Rattle.cx_syntax.specs.declared.class.Class.TheVariants as k
use Rattle.cx_syntax.specs.declared.lexeme.Lexeme.{Lexeme}
use Rattle.cx_syntax.specs.contracts.class.Class.{enum}
use Rattle.cx_syntax.specs.Classes.{is, same_class}
use Rattle.cx_syntax.specs.Values.{pick}
use Rattle.cx_syntax.specs.Readers.{just}
use Rattle.cx_syntax.proofs.Basics.{at, apart, sub, heads_pick, begun_pick, exactly_stays, exactly_pair, exactly_choice}
use Rattle.cx_syntax.proofs.Begins.{or_begins}
use Rattle.cx_levels.specs.Levels.{greatest}
use Rattle.cx_syntax_parts.specs.Sets.{is_plain, starts_soup}
use Rattle.cx_syntax_parts.specs.Values.{no_levels, noexcept_levels}
use Rattle.cx_syntax_parts.specs.Goes.{goes_attrs, goes_noex}
use Rattle.cx_syntax_parts.specs.Grammar as g
use Rattle.cx_syntax_parts.specs.Readers as r

-- ---- any number of them

pub exactly_several : {G : Family Lexeme ℕ} {left : ℕ} {read : Reader Lexeme ℕ} (p : Class → Bool) → Heads G (at p) → ExactlyAt (at p) (λ n. present (G n)) (by never) left read → Exactly (λ n. g.several (G n)) (by (at p)) left (r.several (at p) read)
exactly_several p heads g = exactly_as greatest (exactly_many (at p) heads g (never_sub (at p)) (same_sub (at p)) (never_apart (at p)))

-- ---- what soup begins with

abbrev pub plain : Family Lexeme ℕ
plain n = one (pick is_plain no_levels)

-- soup one level deeper between two tokens
abbrev pub group : Class → Class → Family Lexeme ℕ
group o c n = is o ⊳ g.several (g.deeper_soup n) ⊲ is c

abbrev pub starts_bracket : Class → Bool
starts_bracket c = just k.OpenBracket c || just k.OpenBrace c

abbrev pub starts_group : Class → Bool
starts_group c = just k.OpenParen c || starts_bracket c

pub heads_plain : Heads plain (at is_plain)
heads_plain = heads_pick is_plain no_levels

pub heads_group : (o c : Class) → Heads (group o c) (at (just o))
heads_group o c = heads_before {G = λ n. g.several (g.deeper_soup n) ⊲ is c} (is o)

pub heads_brackets : Heads (λ n. group k.OpenBracket k.CloseBracket n ∥ group k.OpenBrace k.CloseBrace n) (at starts_bracket)
heads_brackets = heads_or (heads_group k.OpenBracket k.CloseBracket) (heads_group k.OpenBrace k.CloseBrace)

pub heads_groups : Heads (λ n. group k.OpenParen k.CloseParen n ∥ group k.OpenBracket k.CloseBracket n ∥ group k.OpenBrace k.CloseBrace n) (at starts_group)
heads_groups = heads_or (heads_group k.OpenParen k.CloseParen) heads_brackets

pub heads_soup : Heads (λ n. g.soup n) (at starts_soup)
unfolding same_class
heads_soup = heads_sub (sub (λ c. is_plain c || starts_group c) starts_soup refl) (heads_or heads_plain heads_groups)

pub begun_group : (o c : Class) (t : Lexeme) → at (just o) t ≡ true → (n : ℕ) → (group o c n).begins (t ∷ [])
begun_group o c t e n = begun_by (λ m. g.several (g.deeper_soup m) ⊲ is c) (is o) t e n

module _ (t : Lexeme) (n : ℕ) where
  pub begins_brackets : at starts_bracket t ≡ true → (group k.OpenBracket k.CloseBracket n ∥ group k.OpenBrace k.CloseBrace n).begins (t ∷ [])
  begins_brackets h = or_begins (just k.OpenBracket t.class) (just k.OpenBrace t.class) h (λ e. some refl (begun_group k.OpenBracket k.CloseBracket t e n)) (λ e. some refl (begun_group k.OpenBrace k.CloseBrace t e n))

  pub begins_groups : at starts_group t ≡ true → (group k.OpenParen k.CloseParen n ∥ group k.OpenBracket k.CloseBracket n ∥ group k.OpenBrace k.CloseBrace n).begins (t ∷ [])
  begins_groups h = or_begins (just k.OpenParen t.class) (starts_bracket t.class) h (λ e. some refl (begun_group k.OpenParen k.CloseParen t e n)) (λ e. some refl (begins_brackets e))

  pub begins_soup : at starts_soup t ≡ true → (g.soup n).begins (t ∷ [])
  unfolding same_class
  begins_soup h = or_begins (is_plain t.class) (starts_group t.class) (sub starts_soup (λ c. is_plain c || starts_group c) refl t h) (λ e. some refl (begun_pick is_plain no_levels t e)) (λ e. some refl (begins_groups e))

-- ---- one level deeper

pub below_soup : Below (λ n. g.deeper_soup n) (λ n. suc <$> g.soup n)
below_soup = record { none = refl; one_less = λ n. refl }

pub heads_deep_soup : Heads (λ n. g.deeper_soup n) (at starts_soup)
heads_deep_soup = heads_below below_soup (heads_as suc heads_soup)

pub soup_room : Room (λ n. (r.deeper_soup n).room)
unfolding r.deeper_soup
soup_room = record { none = refl; some = λ n. refl }

pub deep_begins : (t : Lexeme) → at starts_soup t ≡ true → (n : ℕ) → 1 ≤ n → (g.deeper_soup n).begins (t ∷ [])
deep_begins t h zero p = absurd (omega arith)
deep_begins t h (suc n) p = begins_soup t n h

pub soup_marked : (t : Lexeme) → at starts_soup t ≡ true → Marked (λ n. g.deeper_soup n) t
soup_marked t h = record { enough = 1; begins = deep_begins t h; gone = refl; unspelled = λ x w s. s; stays = λ n. refl }

-- ---- soup

module _ (left : ℕ) (deep : (r.deeper_soup left).room ≡ true → Exactly (λ n. g.deeper_soup n) (by never) left (r.deeper_soup left).soup) where
  pub soup_at : ExactlyAt (at starts_soup) (λ n. present (g.deeper_soup n)) (by never) left (guarded (r.deeper_soup left).room (r.deeper_soup left).soup)
  soup_at = exactly_on (at starts_soup) (guarded (r.deeper_soup left).room (r.deeper_soup left).soup) (λ t ts h. marked (λ n. (r.deeper_soup n).room) soup_room left (soup_marked t h) deep)

  pub exactly_soups_below : Exactly (λ n. g.several (g.deeper_soup n)) (by (at starts_soup)) left (r.soups_below (r.deeper_soup left))
  exactly_soups_below = exactly_several starts_soup heads_deep_soup soup_at

  pub exactly_group : (o c : Class) → (variants enum).each (λ d. not (starts_soup d && just c d)) ≡ true → Exactly (group o c) (by never) left (r.group (r.deeper_soup left) o c)
  exactly_group o c e = exactly_before (is o) (exactly_behind (is c) exactly_soups_below (apart starts_soup (just c) e))

  pub soup_here : Exactly (λ n. g.soup n) (by never) left (r.soup left)
  unfolding r.soup_over same_class
  soup_here = exactly_choice is_plain starts_group refl heads_plain heads_groups (present_at refl (λ n. refl) exactly_token)
      (exactly_pair (exactly_choice (just k.OpenParen) starts_bracket refl (heads_group k.OpenParen k.CloseParen) heads_brackets (present_at refl (λ n. refl) (exactly_group k.OpenParen k.CloseParen refl))
      (exactly_pair (exactly_choice (just k.OpenBracket) (just k.OpenBrace) refl (heads_group k.OpenBracket k.CloseBracket) (heads_group k.OpenBrace k.CloseBrace)
      (present_at refl (λ n. refl) (exactly_group k.OpenBracket k.CloseBracket refl)) (exactly_stays refl (λ n. refl) (exactly_group k.OpenBrace k.CloseBrace refl))))))

pub exactly_deep_soup : (left : ℕ) → (r.deeper_soup left).room ≡ true → Exactly (λ n. g.deeper_soup n) (by never) left (r.deeper_soup left).soup
unfolding r.deeper_soup
exactly_deep_soup zero e = cc
exactly_deep_soup (suc left) e = exactly_below below_soup (exactly_as suc (soup_here left (exactly_deep_soup left)))

pub exactly_soup : (left : ℕ) → Exactly (λ n. g.soup n) (by never) left (r.soup left)
exactly_soup left = soup_here left (exactly_deep_soup left)

pub exactly_soups : (left : ℕ) → Exactly (λ n. g.several (g.soup n)) (by (at starts_soup)) left (r.soups left)
exactly_soups left = exactly_several starts_soup heads_soup (present_at refl (λ n. refl) (exactly_soup left))

-- ---- attributes

pub heads_attribute : Heads (λ n. g.attribute n) (at (just k.OpenBracket))
heads_attribute = heads_before {G = λ n. is k.OpenBracket ⊳ g.several (g.soup n) ⊲ is k.CloseBracket ⊲ is k.CloseBracket} (is k.OpenBracket)

pub exactly_attribute : (left : ℕ) → Exactly (λ n. g.attribute n) (by never) left (r.attribute left)
unfolding r.attribute same_class
exactly_attribute left = exactly_before (is k.OpenBracket) (exactly_before (is k.OpenBracket) (exactly_behind (is k.CloseBracket)
    (exactly_behind (is k.CloseBracket) (exactly_soups left) (apart starts_soup (just k.CloseBracket) refl)) (never_apart (is k.CloseBracket))))

pub opens_attrs : Opens (λ n. g.attrs n) (at goes_attrs)
opens_attrs = opens_as greatest (opens_many heads_attribute)

pub exactly_attrs : (left : ℕ) → Exactly (λ n. g.attrs n) (by (at goes_attrs)) left (r.attrs left)
unfolding r.attrs
exactly_attrs left = exactly_several goes_attrs heads_attribute (present_at refl (λ n. refl) (exactly_attribute left))

-- ---- `noexcept`

-- soup in parentheses
abbrev pub soups_in : Family Lexeme ℕ
soups_in n = is k.OpenParen ⊳ g.several (g.soup n) ⊲ is k.CloseParen

abbrev pub noexcept : Family Lexeme (Option ℕ)
noexcept n = is k.Noexcept ⊳ maybe (soups_in n)

pub heads_soups_in : Heads soups_in (at (just k.OpenParen))
heads_soups_in = heads_before {G = λ n. g.several (g.soup n) ⊲ is k.CloseParen} (is k.OpenParen)

pub heads_noexcept : Heads noexcept (at (just k.Noexcept))
heads_noexcept = heads_before {G = λ n. maybe (soups_in n)} (is k.Noexcept)

pub exactly_noex_soups : (left : ℕ) → Exactly (λ n. maybe (soups_in n)) (by (at (just k.OpenParen))) left (r.noex_soups left)
unfolding same_class
exactly_noex_soups left = exactly_maybe (at (just k.OpenParen)) heads_soups_in
    (present_at refl (λ n. refl) (exactly_before (is k.OpenParen) (exactly_behind (is k.CloseParen) (exactly_soups left) (apart starts_soup (just k.CloseParen) refl))))
    (never_sub (is k.OpenParen)) (same_sub (is k.OpenParen))

pub opens_noex : Opens (λ n. g.noex n) (at (just k.Noexcept))
opens_noex = opens_as noexcept_levels (opens_maybe heads_noexcept)

pub exactly_noex : (left : ℕ) → Exactly (λ n. g.noex n) (by (at goes_noex)) left (r.noex left)
unfolding r.noex same_class
exactly_noex left = exactly_as noexcept_levels (exactly_maybe (at goes_noex) heads_noexcept (present_at refl (λ n. refl) (exactly_before (is k.Noexcept) (exactly_noex_soups left)))
    (sub (just k.OpenParen) goes_noex refl) (sub (just k.Noexcept) goes_noex refl))
