-- Small cases, worked out by hand: tokens are numbers, 0 is a separator, 1 opens, 2 closes, and those from 10 on are items.
use Rattle.std.proofs.Common.{◌≡◌, ℕ, Bool, true, false, [], ◌∷◌, length, nat_eq, nat_le, Option, Some, None, if◌then◌else◌, refl}
use Rattle.cx_base.specs.declared.rule.Rule.TheVariants.{Syntax, Nesting}
use Rattle.cx_grammar.specs.Language.{one, maybe, trailed, absent, there}
use Rattle.cx_grammar.specs.Exact.{done, stop}
use Rattle.cx_grammar.specs.Reading.{token, many_of, upto_of, such_of, measured_by, unless_at, separated_by, trailed_by, others_by, names_by, many_when, guarded}

is : ℕ → ℕ → Bool
is k t = nat_eq t k

abbrev number : ℕ → Option ℕ
number t = if nat_le 10 t then Some t else None

abbrev comma : ℕ → Bool
comma t = nat_eq t 0

abbrev is_number : ℕ → Bool
is_number t = nat_le 10 t

-- a token that is none stops at itself
not_a_number : token number (5 ∷ 11 ∷ []) ≡ stop Syntax 2
not_a_number = refl

at_the_end : token number [] ≡ stop Syntax 0
at_the_end = refl

two_numbers : many_of is_number (token number) (10 ∷ 11 ∷ 5 ∷ []) ≡ done (10 ∷ 11 ∷ []) (5 ∷ [])
unfolding many_of
two_numbers = refl

-- the bound leaves the third for what follows
at_most_two : upto_of 2 is_number (token number) (10 ∷ 11 ∷ 12 ∷ []) ≡ done (10 ∷ 11 ∷ []) (12 ∷ [])
at_most_two = refl

-- without a trailing separator a separator asks for an item
separated_items : separated_by comma (token number) (10 ∷ 0 ∷ 11 ∷ 2 ∷ []) ≡ done (10 ∷ 11 ∷ []) (2 ∷ [])
unfolding many_of
separated_items = refl

separator_left : separated_by comma (token number) (10 ∷ 0 ∷ 2 ∷ []) ≡ stop Syntax 1
unfolding many_of
separator_left = refl

-- with one it may be the last
trailed_items : trailed_by comma is_number (token number) (10 ∷ 0 ∷ 11 ∷ 0 ∷ 2 ∷ []) ≡ done (10 ∷ 11 ∷ []) (2 ∷ [])
unfolding others_by
trailed_items = refl

two_separators : trailed_by comma is_number (token number) (10 ∷ 0 ∷ 0 ∷ 2 ∷ []) ≡ done (10 ∷ []) (0 ∷ 2 ∷ [])
unfolding others_by
two_separators = refl

-- names with separators, and the last of them a number above 20
abbrev last_number : ℕ → Option ℕ
last_number t = if nat_le 20 t then Some t else None

named : names_by number comma is_number (nat_le 20) (token last_number) (10 ∷ 0 ∷ 11 ∷ 0 ∷ 25 ∷ 2 ∷ []) ≡ done (10 ∷ 11 ∷ [], 25) (2 ∷ [])
unfolding many_when
named = refl

-- a name that cannot be the last may go on, so the fault is behind it
not_the_last : names_by number comma is_number (nat_le 20) (token last_number) (10 ∷ 0 ∷ 11 ∷ 2 ∷ []) ≡ stop Syntax 1
unfolding many_when
not_the_last = refl

measured_item : measured_by length (separated_by comma (token number)) (10 ∷ 0 ∷ 11 ∷ 2 ∷ []) ≡ done (10 ∷ 11 ∷ [], 3) (2 ∷ [])
unfolding many_of
measured_item = refl

-- a value that is not such is refused behind it
not_such : such_of (nat_le 20) (token number) (11 ∷ 2 ∷ []) ≡ stop Syntax 1
not_such = refl

-- the refused token is reached, or it is not
refused_item : unless_at (λ ts. Some 2) (separated_by comma (token number)) (10 ∷ 0 ∷ 11 ∷ 2 ∷ []) ≡ stop Syntax 2
unfolding many_of
refused_item = refl

refused_later : unless_at (λ ts. Some 1) (separated_by comma (token number)) (10 ∷ 0 ∷ 11 ∷ 2 ∷ []) ≡ done (10 ∷ 11 ∷ []) (2 ∷ [])
unfolding many_of
refused_later = refl

no_room : guarded false (token number) (10 ∷ []) ≡ stop Nesting 1
no_room = refl

-- no list spells what is absent, and a separator stays where an item is
absent_stays : (trailed comma (absent {T = ℕ} {A = ℕ})).stays ≡ false
absent_stays = refl

there_stays : (trailed comma (there (one number))).stays ≡ true
there_stays = refl

group_stays : (maybe (trailed comma (absent {T = ℕ} {A = ℕ}))).stays ≡ true
group_stays = refl
