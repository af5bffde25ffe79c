-- The value of attributes and of `noexcept` is the least number of levels within which they are spelled.
use Rattle.std.proofs.Common.{◌≡◌, ℕ, zero, suc, ◌≤◌, Bool, true, false, List, [], ◌∷◌, Option, Some, None, arith, if◌then◌else◌}
use Rattle.std.proofs.Math.Nat.{le-max_left, le-max_right, max-le}
use Rattle.cx_grammar.specs.Language.{Language, one}
use Rattle.cx_levels.specs.Levels.{greatest}
use Rattle.cx_syntax.specs.declared.class.Class.TheVariants as k
use Rattle.cx_syntax.specs.declared.lexeme.Lexeme.{Lexeme}
use Rattle.cx_syntax.specs.Classes.{is}
use Rattle.cx_syntax.specs.Values.{pick}
use Rattle.cx_syntax_parts.specs.Sets.{is_plain}
use Rattle.cx_syntax_parts.specs.Symbols as symbols
use Rattle.cx_syntax_parts.specs.Symbols.{Counts}
use Rattle.cx_syntax_parts.specs.Values.{no_levels, noexcept_levels}
use Rattle.cx_syntax_parts.specs.Grammar as g
use Rattle.cx_syntax_parts.proofs.Carried.{Each, Perhaps, Holds, holds_as, holds_before, holds_behind, holds_or, holds_many, holds_maybe, holds_there, Carries, carries_same, carries_as, carries_before, carries_behind, carries_or, carries_many, carries_maybe, carries_there}

-- ---- the greatest of several

abbrev pub Within : ℕ → ℕ → Type 0
Within most v = v ≤ most

pub greatest_within : (most : ℕ) (vs : List ℕ) → Each (Within most) vs → greatest vs ≤ most
greatest_within most [] w = omega arith
greatest_within most (v ∷ vs) w = max-le w.0 (greatest_within most vs w.1)

pub each_within : (most : ℕ) (vs : List ℕ) → greatest vs ≤ most → Each (Within most) vs
each_within most [] w = tt
each_within most (v ∷ vs) w = let a = le-max_left v (greatest vs) in let b = le-max_right v (greatest vs) in let c : v ≤ most = omega arith in let d : greatest vs ≤ most = omega arith in (c, each_within most vs d)

pub holds_several : {d : Language Lexeme ℕ} (most : ℕ) → Holds (Within most) d → Holds (Within most) (g.several d)
holds_several most h = holds_as (Within most) greatest (greatest_within most) (holds_many h)

pub carries_several : {d e : Language Lexeme ℕ} (most : ℕ) → Carries (Within most) d e → Carries (Within most) (g.several d) (g.several e)
carries_several most c = carries_as (Within most) greatest (each_within most) (carries_many c)

-- ---- soup, over that one level deeper

pub plain_value : (b : Bool) (most v : ℕ) → (if b then Some 0 else None) ≡ Some v → v ≤ most
plain_value true most v e = let h : v ≡ 0 = cc in omega arith
plain_value false most v e = absurd (let h : None ≡ Some v = e in cc)

pub plain_within : (most : ℕ) → Holds (Within most) (one (pick is_plain no_levels))
plain_within most = record { at = λ x v s. plain_value (is_plain s.token.class) most v s.fits }

module _ {d : Language Lexeme ℕ} (most : ℕ) (h : Holds (Within most) d) where
  pub over_within : Holds (Within most) (g.soup_over d)
  over_within = holds_or (plain_within most)
      (holds_or (holds_before (is k.OpenParen) (holds_behind (is k.CloseParen) (holds_several most h)))
      (holds_or (holds_before (is k.OpenBracket) (holds_behind (is k.CloseBracket) (holds_several most h)))
      (holds_before (is k.OpenBrace) (holds_behind (is k.CloseBrace) (holds_several most h)))))

module _ {d e : Language Lexeme ℕ} (most : ℕ) (c : Carries (Within most) d e) where
  pub over_carries : Carries (Within most) (g.soup_over d) (g.soup_over e)
  over_carries = carries_or (carries_same (Within most) (one (pick is_plain no_levels)))
      (carries_or (carries_before (is k.OpenParen) (carries_behind (is k.CloseParen) (carries_several most c)))
      (carries_or (carries_before (is k.OpenBracket) (carries_behind (is k.CloseBracket) (carries_several most c)))
      (carries_before (is k.OpenBrace) (carries_behind (is k.CloseBrace) (carries_several most c)))))

-- ---- at each number of levels

one_more : (n v : ℕ) → Within n v → Within (suc n) (suc v)
one_more n v w = omega arith

one_less : (n v : ℕ) → Within (suc n) (suc v) → Within n v
one_less n v w = omega arith

pub deeper_soup_within : (n : ℕ) → Holds (Within n) (g.deeper_soup n)
deeper_soup_within zero = record { at = λ x v s. absurd s }
deeper_soup_within (suc n) = holds_there (holds_as (Within (suc n)) suc (one_more n) (over_within n (deeper_soup_within n)))

pub soup_within : (n : ℕ) → Holds (Within n) (g.soup n)
soup_within n = over_within n (deeper_soup_within n)

no_less : (u v : ℕ) → v ≡ suc u → Within 0 v → ⊥
no_less u v e i = absurd (omega arith)

pub deeper_soup_carries : (n m : ℕ) → Carries (Within m) (g.deeper_soup n) (g.deeper_soup m)
deeper_soup_carries zero m = record { at = λ x v i s. absurd s }
deeper_soup_carries (suc n) zero = record { at = λ x v i s. absurd (no_less s.value v s.made i) }
deeper_soup_carries (suc n) (suc m) = carries_there (carries_as (Within (suc m)) suc (one_less m) (over_carries m (deeper_soup_carries n m)))

pub soup_carries : (n m : ℕ) → Carries (Within m) (g.soup n) (g.soup m)
soup_carries n m = over_carries m (deeper_soup_carries n m)

-- ---- attributes

pub attribute_within : (n : ℕ) → Holds (Within n) (g.attribute n)
attribute_within n = holds_before (is k.OpenBracket) (holds_before (is k.OpenBracket) (holds_behind (is k.CloseBracket) (holds_behind (is k.CloseBracket) (holds_several n (soup_within n)))))

pub attrs_within : (n : ℕ) → Holds (Within n) (g.attrs n)
attrs_within n = holds_several n (attribute_within n)

pub attribute_carries : (n m : ℕ) → Carries (Within m) (g.attribute n) (g.attribute m)
attribute_carries n m = carries_before (is k.OpenBracket) (carries_before (is k.OpenBracket) (carries_behind (is k.CloseBracket) (carries_behind (is k.CloseBracket) (carries_several m (soup_carries n m)))))

pub attrs_carries : (n m : ℕ) → Carries (Within m) (g.attrs n) (g.attrs m)
attrs_carries n m = carries_several m (attribute_carries n m)

pub attrs_count : Counts symbols.attrs
attrs_count n m ts v s = ((attrs_within n).at ts v s, λ w. (attrs_carries n m).at ts v w s)

-- ---- `noexcept`

abbrev pub Nested : ℕ → Option (Option ℕ) → Type 0
Nested most o = Perhaps (Perhaps (Within most)) o

pub noexcept_within : (most : ℕ) (o : Option (Option ℕ)) → Nested most o → noexcept_levels o ≤ most
noexcept_within most None w = omega arith
noexcept_within most (Some None) w = omega arith
noexcept_within most (Some (Some v)) w = w

pub each_noexcept : (most : ℕ) (o : Option (Option ℕ)) → noexcept_levels o ≤ most → Nested most o
each_noexcept most None w = tt
each_noexcept most (Some None) w = tt
each_noexcept most (Some (Some v)) w = w

pub noex_within : (n : ℕ) → Holds (Within n) (g.noex n)
noex_within n = holds_as (Within n) noexcept_levels (noexcept_within n) (holds_maybe (holds_before (is k.Noexcept) (holds_maybe (holds_before (is k.OpenParen) (holds_behind (is k.CloseParen) (holds_several n (soup_within n)))))))

pub noex_carries : (n m : ℕ) → Carries (Within m) (g.noex n) (g.noex m)
noex_carries n m = carries_as (Within m) noexcept_levels (each_noexcept m) (carries_maybe (carries_before (is k.Noexcept) (carries_maybe (carries_before (is k.OpenParen) (carries_behind (is k.CloseParen) (carries_several m (soup_carries n m)))))))

pub noex_count : Counts symbols.noex
noex_count n m ts v s = ((noex_within n).at ts v s, λ w. (noex_carries n m).at ts v w s)
