-- The groups that are passed over are those of the grammar.
use Rattle.std.proofs.Common.{◌≡◌, ℕ, zero, suc, ◌≤◌, Bool, true, false, List, [], ◌∷◌, ◌++◌, length, Option, Some, None, refl, sym, ap, append_assoc, ◌∙◌, arith, if◌then◌else◌, true≢false}
use Rattle.std.specs.Option.{option_map_or}
use Rattle.cx_token_defs.specs.declared.Token.{Token}
use Rattle.cx_type_names.specs.declared.role.Bracket.{Bracket}
use Rattle.cx_type_names.specs.declared.role.Bracket.TheVariants.{Round, Square, Curly}
use Rattle.cx_type_names.specs.declared.role.Role.{Role}
use Rattle.cx_type_names.specs.declared.role.Role.TheVariants.{Opens, Closes, Key, Using, Typedef, Equals, Semicolon, Name, End, Other}
use Rattle.cx_type_names.specs.Groups.{behind_closer, behind_closers, behind_group, behind_groups, behind_groups_upto, behind_square, open_behind}
use Rattle.cx_type_names.specs.Roles.{closes, opens, role_of, same_bracket}
use Rattle.cx_type_names.specs.Soup.{AreGroups, AreSoup, IsGroup, empty, is_plain, more, nested, none, plain}
use Rattle.cx_type_names.proofs.Passing.{group-length, none-some, some-same}

same-itself : (b : Bracket) → same_bracket b b ≡ true
same-itself Round = refl
same-itself Square = refl
same-itself Curly = refl

same-equal : (b c : Bracket) → same_bracket b c ≡ true → b ≡ c
same-equal Round Round e = refl
same-equal Square Square e = refl
same-equal Curly Curly e = refl
same-equal Round Square e = absurd (true≢false (sym e))
same-equal Round Curly e = absurd (true≢false (sym e))
same-equal Square Round e = absurd (true≢false (sym e))
same-equal Square Curly e = absurd (true≢false (sym e))
same-equal Curly Round e = absurd (true≢false (sym e))
same-equal Curly Square e = absurd (true≢false (sym e))

plain-stays : (q : Role) (u : List Bracket) → is_plain q ≡ true → open_behind q u ≡ Some u
plain-stays (Opens b) u e = absurd (true≢false (sym e))
plain-stays (Closes b) u e = absurd (true≢false (sym e))
plain-stays End u e = absurd (true≢false (sym e))
plain-stays _ u e = refl

closer-ends : (q : Role) (b : Bracket) (u : List Bracket) → q ≡ Closes b → open_behind q (b ∷ u) ≡ Some u
closer-ends q b u e = ap (λ r. open_behind r (b ∷ u)) e ∙ ap (λ same. if same then Some u else None) (same-itself b)

-- soup opens and closes nothing
soup-passed : (soup : List Token) → AreSoup soup → (b : Bracket) (u : List Bracket) (r : List Token)
    → behind_closers (Some (b ∷ u)) (soup ++ r) ≡ behind_closers (Some (b ∷ u)) r
soup-passed soup empty b u r = refl
soup-passed soup (plain t s e h) b u r =
    ap (λ o. behind_closers o (s ++ r)) (plain-stays (role_of t) (b ∷ u) e) ∙ soup-passed s h b u r
soup-passed soup (nested k left right inner s opened closed within behind) b u r =
    ap (behind_closers (Some (b ∷ u))) (append_assoc (left ∷ inner) (right ∷ s) r)
    ∙ ap (λ q. behind_closers (open_behind q (b ∷ u)) (inner ++ right ∷ (s ++ r))) opened
    ∙ soup-passed inner within k (b ∷ u) (right ∷ (s ++ r))
    ∙ ap (λ o. behind_closers o (s ++ r)) (closer-ends (role_of right) k (b ∷ u) closed)
    ∙ soup-passed s behind b u r

-- a group is passed
pub group-passed : (tokens rest : List Token) → IsGroup tokens rest → behind_group tokens ≡ Some rest
group-passed tokens rest g =
    ap behind_group g.spelled
    ∙ ap (λ q. if opens Square q then option_map_or behind_closer (behind_square (g.second ∷ (g.soup ++ g.third ∷ g.last ∷ rest))) None else None) g.opened
    ∙ ap (λ q. option_map_or behind_closer (if opens Square q then behind_closers (Some (Square ∷ [])) (g.soup ++ g.third ∷ g.last ∷ rest) else None) None) g.opened_again
    ∙ ap (λ o. option_map_or behind_closer o None)
    (soup-passed g.soup g.filled Square [] (g.third ∷ g.last ∷ rest)
    ∙ ap (λ o. behind_closers o (g.last ∷ rest)) (closer-ends (role_of g.third) Square [] g.closed))
    ∙ ap (λ q. if closes Square q then Some rest else None) g.closed_again

-- the open brackets take their closing ones in turn, with soup before each
abbrev Spelled : List Bracket → List Token → List Token → Type 0
Spelled [] s r = s ≡ r
Spelled (b ∷ u) s r =
    (soup : List Token) × (t : Token) × (q : List Token) × (s ≡ soup ++ t ∷ q) × (role_of t ≡ Closes b) × AreSoup soup × Spelled u q r

spelled : (s : List Token) (u : List Bracket) (r : List Token) → behind_closers (Some u) s ≡ Some r → Spelled u s r
spelled [] [] r e = some-same [] r e
spelled [] (b ∷ u) r e = none-some r e
spelled (t ∷ s) [] r e = some-same (t ∷ s) r e
spelled (t ∷ s) (b ∷ u) r e = by (role_of t) refl e (λ v. spelled s v r)
  where
    more_soup : is_plain (role_of t) ≡ true → Spelled (b ∷ u) s r → Spelled (b ∷ u) (t ∷ s) r
    more_soup e h = (t ∷ h.0, h.1, h.2, ap (λ l. t ∷ l) h.3, h.4, plain t h.0 e h.5, h.6)

    opened : (k : Bracket) → role_of t ≡ Opens k → Spelled (k ∷ b ∷ u) s r → Spelled (b ∷ u) (t ∷ s) r
    opened k e h =
        let g = h.6 in (
          t ∷ h.0 ++ h.1 ∷ g.0,
          g.1,
          g.2,
          ap (λ l. t ∷ l) h.3 ∙ ap (λ l. t ∷ (h.0 ++ h.1 ∷ l)) g.3 ∙ sym (append_assoc (t ∷ h.0) (h.1 ∷ g.0) (g.1 ∷ g.2)),
          g.4,
          nested k t h.1 h.0 g.0 e h.4 h.5 g.5,
          g.6,
        )

    closed : (k : Bracket) (same : Bool) → same_bracket b k ≡ same → role_of t ≡ Closes k
        → behind_closers (if same then Some u else None) s ≡ Some r
        → (behind_closers (Some u) s ≡ Some r → Spelled u s r) → Spelled (b ∷ u) (t ∷ s) r
    closed k true same e h rest = ([], t, s, refl, e ∙ ap Closes (sym (same-equal b k same)), empty, rest h)
    closed k false same e h rest = none-some r h

    by : (q : Role) → role_of t ≡ q → behind_closers (open_behind q (b ∷ u)) s ≡ Some r
        → ((v : List Bracket) → behind_closers (Some v) s ≡ Some r → Spelled v s r) → Spelled (b ∷ u) (t ∷ s) r
    by (Opens k) e h rest = opened k e (rest (k ∷ b ∷ u) h)
    by (Closes k) e h rest = closed k (same_bracket b k) refl e h (rest u)
    by End e h rest = none-some r h
    by Key e h rest = more_soup (ap is_plain e) (rest (b ∷ u) h)
    by Using e h rest = more_soup (ap is_plain e) (rest (b ∷ u) h)
    by Typedef e h rest = more_soup (ap is_plain e) (rest (b ∷ u) h)
    by Equals e h rest = more_soup (ap is_plain e) (rest (b ∷ u) h)
    by Semicolon e h rest = more_soup (ap is_plain e) (rest (b ∷ u) h)
    by Name e h rest = more_soup (ap is_plain e) (rest (b ∷ u) h)
    by Other e h rest = more_soup (ap is_plain e) (rest (b ∷ u) h)

opens-is : (q : Role) → opens Square q ≡ true → q ≡ Opens Square
opens-is (Opens b) e = ap Opens (sym (same-equal Square b e))
opens-is _ e = absurd (true≢false (sym e))

closes-is : (q : Role) → closes Square q ≡ true → q ≡ Closes Square
closes-is (Closes b) e = ap Closes (sym (same-equal Square b e))
closes-is _ e = absurd (true≢false (sym e))

-- what is passed is a group
pub passed-group : (tokens rest : List Token) → behind_group tokens ≡ Some rest → IsGroup tokens rest
passed-group [] rest e = none-some rest e
passed-group (a ∷ s) rest e = first (opens Square (role_of a)) refl e
  where
    whole : (b : Token) (s : List Token) → role_of a ≡ Opens Square → role_of b ≡ Opens Square → (inner : List Token)
        → Spelled (Square ∷ []) s inner → behind_closer inner ≡ Some rest → IsGroup (a ∷ b ∷ s) rest
    whole b s outer again [] h e = none-some rest e
    whole b s outer again (c ∷ r) h e = last (closes Square (role_of c)) refl e
      where
        last : (x : Bool) → closes Square (role_of c) ≡ x → (if x then Some r else None) ≡ Some rest → IsGroup (a ∷ b ∷ s) rest
        last true x e = record {
          first = a;
          second = b;
          soup = h.0;
          third = h.1;
          last = c;
          spelled = ap (λ l. a ∷ b ∷ l) (h.3 ∙ (λ i. h.0 ++ h.1 ∷ h.6 i) ∙ (λ i. h.0 ++ h.1 ∷ c ∷ some-same r rest e i));
          opened = outer;
          opened_again = again;
          filled = h.5;
          closed = h.4;
          closed_again = closes-is (role_of c) x;
        }
        last false x e = none-some rest e

    square : role_of a ≡ Opens Square → (s : List Token) (o : Option (List Token)) → behind_square s ≡ o
        → option_map_or behind_closer o None ≡ Some rest → IsGroup (a ∷ s) rest
    square outer s None x e = none-some rest e
    square outer [] (Some inner) x e = none-some inner x
    square outer (b ∷ s) (Some inner) x e = second (opens Square (role_of b)) refl x
      where
        second : (y : Bool) → opens Square (role_of b) ≡ y → (if y then behind_closers (Some (Square ∷ [])) s else None) ≡ Some inner
            → IsGroup (a ∷ b ∷ s) rest
        second true y x = whole b s outer (opens-is (role_of b) y) inner (spelled s (Square ∷ []) inner x) e
        second false y x = none-some inner x

    first : (x : Bool) → opens Square (role_of a) ≡ x → (if x then option_map_or behind_closer (behind_square s) None else None) ≡ Some rest
        → IsGroup (a ∷ s) rest
    first true x e = square (opens-is (role_of a) x) s (behind_square s) refl e
    first false x e = none-some rest e

groups-upto : (n : ℕ) (s : List Token) → AreGroups s (behind_groups_upto n s)
groups-upto zero s = none s
groups-upto (suc n) s = by (behind_group s) refl (groups-upto n)
  where
    by : (o : Option (List Token)) → behind_group s ≡ o → ((r : List Token) → AreGroups r (behind_groups_upto n r))
        → AreGroups s (option_map_or (behind_groups_upto n) o s)
    by None e rest = none s
    by (Some r) e rest = more s r (behind_groups_upto n r) (passed-group s r e) (rest r)

-- what is passed are groups
pub passed-groups : (s : List Token) → AreGroups s (behind_groups s)
unfolding behind_groups
passed-groups s = groups-upto (length s) s

no-group-upto : (n : ℕ) (s : List Token) → length s ≤ n → behind_group (behind_groups_upto n s) ≡ None
no-group-upto zero [] few = refl
no-group-upto zero (t ∷ s) few = absurd (omega arith)
no-group-upto (suc n) [] few = refl
no-group-upto (suc n) (t ∷ s) few = by (behind_group (t ∷ s)) refl (no-group-upto n)
  where
    by : (o : Option (List Token)) → behind_group (t ∷ s) ≡ o → ((r : List Token) → length r ≤ n → behind_group (behind_groups_upto n r) ≡ None)
        → behind_group (option_map_or (behind_groups_upto n) o (t ∷ s)) ≡ None
    by None e rest = e
    by (Some r) e rest = let shorter : length r ≤ length s = group-length t s r e in rest r (omega arith)

-- no group is left in front
pub no-group-left : (s r : List Token) → IsGroup (behind_groups s) r → ⊥
unfolding behind_groups
no-group-left s r g = none-some r (sym (no-group-upto (length s) s (omega arith)) ∙ group-passed (behind_groups s) r g)
