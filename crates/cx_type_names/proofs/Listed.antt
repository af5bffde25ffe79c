-- What is among the names of types.
use Rattle.std.proofs.Common.{◌≡◌, ℕ, zero, suc, Bool, true, false, ◌||◌, ◌&&◌, List, [], ◌∷◌, length, Option, Some, None, refl, ap, ◌∙◌, if◌then◌else◌}
use Rattle.std.specs.List.{list_any}
use Rattle.std.specs.Option.{option_map_or}
use Rattle.std.specs.Str.{bytes_eq}
use Rattle.cx_token_defs.specs.declared.Token.{Token}
use Rattle.cx_type_names.specs.declared.role.Bracket.{Bracket}
use Rattle.cx_type_names.specs.declared.role.Bracket.TheVariants.{Square}
use Rattle.cx_type_names.specs.declared.role.Role.{Role}
use Rattle.cx_type_names.specs.declared.role.Role.TheVariants.{Key, Using, Typedef}
use Rattle.cx_type_names.specs.Groups.{behind_closer, behind_closers, behind_group, behind_groups, behind_groups_upto, behind_square, open_behind}
use Rattle.cx_type_names.specs.Names.{alias_in_front, before_semicolon, equals_in_front, identifier, identifier_in_front, is_identifier, is_standard, is_type_name, name_behind, names_in, semicolon_in_front, with_text}
use Rattle.cx_type_names.specs.Roles.{closes, is_name, is_semicolon, opens, role_of}
use Rattle.cx_type_names.proofs.Passing.{none-some, some-same}

or-last : (a b : Bool) → b ≡ true → (a || b) ≡ true
or-last true b e = refl
or-last false b e = e

or-first : (a b : Bool) → a ≡ true → (a || b) ≡ true
or-first a b e = ap (λ c. c || b) e

module _ (p : Token → Bool) where
  any-closers : (o : Option (List Bracket)) (s r : List Token) → behind_closers o s ≡ Some r → list_any p r ≡ true → list_any p s ≡ true
  any-closers None s r e h = none-some r e
  any-closers (Some []) s r e h = ap (list_any p) (some-same s r e) ∙ h
  any-closers (Some (b ∷ u)) [] r e h = none-some r e
  any-closers (Some (b ∷ u)) (t ∷ s) r e h = or-last (p t) (list_any p s) (any-closers (open_behind (role_of t) (b ∷ u)) s r e h)

  any-square : (s r : List Token) → behind_square s ≡ Some r → list_any p r ≡ true → list_any p s ≡ true
  any-square [] r e h = none-some r e
  any-square (t ∷ s) r e h = or-last (p t) (list_any p s) (by (opens Square (role_of t)) e)
    where
      by : (b : Bool) → (if b then behind_closers (Some (Square ∷ [])) s else None) ≡ Some r → list_any p s ≡ true
      by true e = any-closers (Some (Square ∷ [])) s r e h
      by false e = none-some r e

  any-closer : (s r : List Token) → behind_closer s ≡ Some r → list_any p r ≡ true → list_any p s ≡ true
  any-closer [] r e h = none-some r e
  any-closer (t ∷ s) r e h = or-last (p t) (list_any p s) (by (closes Square (role_of t)) e)
    where
      by : (b : Bool) → (if b then Some s else None) ≡ Some r → list_any p s ≡ true
      by true e = ap (list_any p) (some-same s r e) ∙ h
      by false e = none-some r e

  any-group : (s r : List Token) → behind_group s ≡ Some r → list_any p r ≡ true → list_any p s ≡ true
  any-group [] r e h = none-some r e
  any-group (t ∷ s) r e h = or-last (p t) (list_any p s) (by (opens Square (role_of t)) e)
    where
      inside : (o : Option (List Token)) → behind_square s ≡ o → option_map_or behind_closer o None ≡ Some r → list_any p s ≡ true
      inside None x e = none-some r e
      inside (Some inner) x e = any-square s inner x (any-closer inner r e h)

      by : (b : Bool) → (if b then option_map_or behind_closer (behind_square s) None else None) ≡ Some r → list_any p s ≡ true
      by true e = inside (behind_square s) refl e
      by false e = none-some r e

  any-groups-upto : (n : ℕ) (s : List Token) → list_any p (behind_groups_upto n s) ≡ true → list_any p s ≡ true
  any-groups-upto zero s h = h
  any-groups-upto (suc n) s h = by (behind_group s) refl h (any-groups-upto n)
    where
      by : (o : Option (List Token)) → behind_group s ≡ o → list_any p (option_map_or (behind_groups_upto n) o s) ≡ true
          → ((r : List Token) → list_any p (behind_groups_upto n r) ≡ true → list_any p r ≡ true) → list_any p s ≡ true
      by None e h rest = h
      by (Some r) e h rest = any-group s r e (rest r h)

  -- what stands behind groups stands in the list
  any-groups : (s : List Token) → list_any p (behind_groups s) ≡ true → list_any p s ≡ true
  unfolding behind_groups
  any-groups s h = any-groups-upto (length s) s h

  any-before_semicolon : (s : List Token) (t : Token) → before_semicolon s ≡ Some t → p t ≡ true → list_any p s ≡ true
  any-before_semicolon [] t e h = none-some t e
  any-before_semicolon (u ∷ s) t e h = by (is_semicolon (role_of u)) e (any-before_semicolon s t)
    where
      here : (b : Bool) → (if b then Some u else before_semicolon s) ≡ Some t
          → (before_semicolon s ≡ Some t → p t ≡ true → list_any p s ≡ true) → (p u || list_any p s) ≡ true
      here true e rest = or-first (p u) (list_any p s) (ap p (some-same u t e) ∙ h)
      here false e rest = or-last (p u) (list_any p s) (rest e h)

      by : (b : Bool) → (if b then None else (if semicolon_in_front s then Some u else before_semicolon s)) ≡ Some t
          → (before_semicolon s ≡ Some t → p t ≡ true → list_any p s ≡ true) → (p u || list_any p s) ≡ true
      by true e rest = none-some t e
      by false e rest = here (semicolon_in_front s) e rest

module _ (text : List ℕ) where
  identifier-is : (t u : Token) → identifier t ≡ Some u → bytes_eq text u.text ≡ true → is_identifier text t ≡ true
  identifier-is t u e h = by (is_name (role_of t)) e
    where
      by : (b : Bool) → (if b then Some t else None) ≡ Some u → (b && bytes_eq text t.text) ≡ true
      by true e = ap (λ x. bytes_eq text x.text) (some-same t u e) ∙ h
      by false e = none-some u e

  in-front : (s : List Token) (u : Token) → identifier_in_front s ≡ Some u → bytes_eq text u.text ≡ true → list_any (is_identifier text) s ≡ true
  in-front [] u e h = none-some u e
  in-front (t ∷ s) u e h = or-first (is_identifier text t) (list_any (is_identifier text) s) (identifier-is t u e h)

  alias-in : (s : List Token) (u : Token) → alias_in_front s ≡ Some u → bytes_eq text u.text ≡ true → list_any (is_identifier text) s ≡ true
  alias-in [] u e h = none-some u e
  alias-in (t ∷ s) u e h = by (equals_in_front (behind_groups s)) e
    where
      by : (b : Bool) → (if b then identifier t else None) ≡ Some u → (is_identifier text t || list_any (is_identifier text) s) ≡ true
      by true e = or-first (is_identifier text t) (list_any (is_identifier text) s) (identifier-is t u e h)
      by false e = none-some u e

  last-in : (s : List Token) (u : Token) → option_map_or identifier (before_semicolon s) None ≡ Some u → bytes_eq text u.text ≡ true
      → list_any (is_identifier text) s ≡ true
  last-in s u e h = by (before_semicolon s) refl e
    where
      by : (o : Option Token) → before_semicolon s ≡ o → option_map_or identifier o None ≡ Some u → list_any (is_identifier text) s ≡ true
      by None x e = none-some u e
      by (Some t) x e = any-before_semicolon (is_identifier text) s t x (identifier-is t u e h)

  name-in : (q : Role) (s : List Token) (u : Token) → name_behind q s ≡ Some u → bytes_eq text u.text ≡ true → list_any (is_identifier text) s ≡ true
  name-in Key s u e h = any-groups (is_identifier text) s (in-front (behind_groups s) u e h)
  name-in Using s u e h = alias-in s u e h
  name-in Typedef s u e h = last-in s u e h
  name-in _ s u e h = none-some u e

  -- a name of a type is one of the library or an identifier of the list
  pub name-listed : (s : List Token) → is_type_name s text ≡ true → (is_standard text || list_any (is_identifier text) s) ≡ true
  name-listed [] h = or-first (is_standard text) false h
  name-listed (t ∷ s) h = by (name_behind (role_of t) s) refl h (name-listed s)
    where
      more : (a b c : Bool) → (a || b) ≡ true → (a || (c || b)) ≡ true
      more true b c e = refl
      more false b c e = or-last c b e

      here : (u : Token) (b : Bool) → name_behind (role_of t) s ≡ Some u → bytes_eq text u.text ≡ b → (b || is_type_name s text) ≡ true
          → (is_type_name s text ≡ true → (is_standard text || list_any (is_identifier text) s) ≡ true)
          → (is_standard text || list_any (is_identifier text) s) ≡ true
      here u true x e h rest = or-last (is_standard text) (list_any (is_identifier text) s) (name-in (role_of t) s u x e)
      here u false x e h rest = rest h

      by : (o : Option Token) → name_behind (role_of t) s ≡ o → list_any (bytes_eq text) (with_text o (names_in s)) ≡ true
          → (is_type_name s text ≡ true → (is_standard text || list_any (is_identifier text) s) ≡ true)
          → (is_standard text || (is_identifier text t || list_any (is_identifier text) s)) ≡ true
      by None x h rest = more (is_standard text) (list_any (is_identifier text) s) (is_identifier text t) (rest h)
      by (Some u) x h rest = more (is_standard text) (list_any (is_identifier text) s) (is_identifier text t) (here u (bytes_eq text u.text) x refl h rest)

  -- the library's names are always among them
  pub standard-named : (s : List Token) → is_standard text ≡ true → is_type_name s text ≡ true
  standard-named [] h = h
  standard-named (t ∷ s) h = by (name_behind (role_of t) s) (standard-named s h)
    where
      by : (o : Option Token) → is_type_name s text ≡ true → list_any (bytes_eq text) (with_text o (names_in s)) ≡ true
      by None rest = rest
      by (Some u) rest = or-last (bytes_eq text u.text) (is_type_name s text) rest
