-- The scopes name what the program has, whatever is done.
use Rattle.std.proofs.Common.{◌≡◌, ℕ, zero, suc, ◌+◌, ◌<◌, ◌≤◌, Bool, true, false, List, [], ◌∷◌, ◌++◌, cond, fold, filter, Option, Some, None, Result, Ok, Err, subst, arith, if◌then◌else◌, is_some}
use Rattle.std.specs.Prelude.{◌==◌, unwrap_or, drop, slice_get, length}
use Rattle.std.specs.List.{flat_map}
use Rattle.std.specs.Map.{lookup}
use Rattle.std.specs.Str.{bytes_eq}
use Rattle.cx_type_defs.specs.declared.ids.TypeId.{TypeId}
use Rattle.cx_type_defs.specs.declared.ids.ClassId.{ClassId}
use Rattle.cx_type_defs.specs.Tables.{Tables}
use Rattle.cx_scopes.specs.declared.kinds.LookAnswer.{LookAnswer}
use Rattle.cx_scopes.specs.declared.kinds.LookAnswer.TheVariants.{Redeclared}
use Rattle.cx_scopes.specs.declared.kinds.ScopeId.{ScopeId}
use Rattle.cx_scopes.specs.declared.kinds.ScopeId.TheVariants as scope
use Rattle.cx_scopes.specs.declared.kinds.Entity.{Entity}
use Rattle.cx_scopes.specs.declared.kinds.Entity.TheVariants as entity
use Rattle.cx_scopes.specs.declared.kinds.ScopeKind.{ScopeKind}
use Rattle.cx_scopes.specs.declared.kinds.ScopeKind.TheVariants as kind
use Rattle.cx_scopes.specs.declared.kinds.Sought.{Sought}
use Rattle.cx_scopes.specs.declared.kinds.Sought.TheVariants as sought
use Rattle.cx_scopes.specs.declared.entered.Entered.{Entered}
use Rattle.cx_scopes.specs.Names.{Names, meanings, with_meaning, same_scope, is_among, is_function, may_join, counted, qualify, looks_into}
use Rattle.cx_scopes.specs.Scopes.{ScopeTables, no_scopes, global, names_at, with_name, meanings_at, bases_of, place_of, space_around}
use Rattle.cx_scopes.specs.Steps.{own_meanings, declared, declared_at, declared_in_space, with_declaration, with_own, types_with, with_entered, with_space, space_entered, space_entered_by, entered_with, left}
use Rattle.cx_scopes.specs.Lookup.{same_list, together, or_else, said_together, members, levels_of, said_in, said_by, said_from, answer_of, find_as_answer, find_in_as_answer}
use Rattle.cx_scopes.specs.Arguments.{NamesKnown, functions_in, associated, by_args_answer}
use Rattle.cx_scopes.specs.Counts.{Counts, HasMore, Has, HasEach, HasOwn, HasTypes, NamesWhatIs, HasFound}

-- a program that has grown has what it had
has-more : (p q : Counts) (m n : ℕ) → HasMore p q → m ≤ n → (e : Entity) → Has p m e → Has q n e
has-more p q m n g h (entity.Function f) k = let a = g.more_functions in omega arith
has-more p q m n g h (entity.Variable v) k = let a = g.more_variables in omega arith
has-more p q m n g h (entity.Field c i) k = let a = g.more_fields c in omega arith
has-more p q m n g h (entity.Enumerator e i) k = let a = g.more_enumerators e in omega arith
has-more p q m n g h (entity.Named t) k = let a = g.more_types in omega arith
has-more p q m n g h (entity.Space (scope.Space i)) k = omega arith
has-more p q m n g h (entity.Space (scope.Class c)) k = absurd k
has-more p q m n g h (entity.Space (scope.Enum e)) k = absurd k

each-more : (p q : Counts) (m n : ℕ) → HasMore p q → m ≤ n → (es : List Entity) → HasEach p m es → HasEach q n es
each-more p q m n g h [] k = tt
each-more p q m n g h (e ∷ es) k = (has-more p q m n g h e k.0, each-more p q m n g h es k.1)

own-more : (p q : Counts) (m n : ℕ) → HasMore p q → m ≤ n → (entered : List Entered) → HasOwn p m entered → HasOwn q n entered
own-more p q m n g h [] k = tt
own-more p q m n g h (x ∷ entered) k = (λ name. each-more p q m n g h (meanings x.own name) (k.0 name), own-more p q m n g h entered k.1)

types-more : (p q : Counts) → HasMore p q → (types : List (TypeId × ℕ)) → HasTypes p types → HasTypes q types
types-more p q g [] k = tt
types-more p q g (x ∷ types) k = (let a = g.more_types in let b = k.0 in omega arith, types-more p q g types k.1)

pub more-same : (p : Counts) → HasMore p p
more-same p = record { more_functions = omega arith; more_variables = omega arith; more_types = omega arith; more_fields = λ c. omega arith; more_enumerators = λ e. omega arith }

pub names-more : (p q : Counts) (s : ScopeTables) → HasMore p q → NamesWhatIs p s → NamesWhatIs q s
names-more p q s g h = record {
  places = λ at name. each-more p q s.spaces s.spaces g (omega arith) (meanings_at s at name) (h.places at name);
  own = own-more p q s.spaces s.spaces g (omega arith) s.entered h.own;
  types = types-more p q g s.types h.types;
}

pub names-none : (p : Counts) → NamesWhatIs p no_scopes
names-none p = record { places = λ at name. tt; own = tt; types = tt }

module _ (p : Counts) (n : ℕ) where
  each-append : (xs ys : List Entity) → HasEach p n xs → HasEach p n ys → HasEach p n (xs ++ ys)
  each-append [] ys h k = k
  each-append (x ∷ xs) ys h k = (h.0, each-append xs ys h.1 k)

  each-filter : (test : Entity → Bool) (es : List Entity) → HasEach p n es → HasEach p n (filter test es)
  each-filter test [] h = tt
  each-filter test (e ∷ es) h = by (test e) (each-filter test es h.1)
    where
      by : (b : Bool) → HasEach p n (filter test es) → HasEach p n (if b then e ∷ filter test es else filter test es)
      by true rest = (h.0, rest)
      by false rest = rest

  each-if : (b : Bool) (es fs : List Entity) → HasEach p n es → HasEach p n fs → HasEach p n (if b then es else fs)
  each-if true es fs h k = h
  each-if false es fs h k = k

  grown-entry : (c : Bool) (es others : List Entity) (e : Entity) → Has p n e → HasEach p n (if c then es else others) → HasEach p n (if c then es ++ e ∷ [] else others)
  grown-entry true es others e h k = each-append es (e ∷ []) k (h, tt)
  grown-entry false es others e h k = k

  grown-others : (c : Bool) (es old now : List Entity) → (HasEach p n old → HasEach p n now) → HasEach p n (if c then es else old) → HasEach p n (if c then es else now)
  grown-others true es old now rest k = k
  grown-others false es old now rest k = rest k

  -- a name has one more meaning
  each-name : (names : Names) (name : List ℕ) (e : Entity) (other : List ℕ) → Has p n e → HasEach p n (meanings names other) → HasEach p n (meanings (with_meaning names name e) other)
  each-name [] name e other h k = each-if (bytes_eq other name) (e ∷ []) [] (h, tt) tt
  each-name (entry ∷ names) name e other h k = by (bytes_eq name entry.0) (each-name names name e other h)
    where
      by : (b : Bool) → (HasEach p n (meanings names other) → HasEach p n (meanings (with_meaning names name e) other))
          → HasEach p n (meanings (if b then (entry.0, entry.1 ++ e ∷ []) ∷ names else entry ∷ with_meaning names name e) other)
      by true rest = grown-entry (bytes_eq other entry.0) entry.1 (meanings names other) e h k
      by false rest = grown-others (bytes_eq other entry.0) entry.1 (meanings names other) (meanings (with_meaning names name e) other) rest k

  -- what a list of tables says of the name in a scope
  abbrev at : List ℕ → Option Names → List Entity
  at other o = meanings (unwrap_or o []) other

  grown-table : (c : Bool) (names : Names) (o : Option Names) (name : List ℕ) (e : Entity) (other : List ℕ) → Has p n e → HasEach p n (at other (cond c (Some names) o)) → HasEach p n (at other (cond c (Some (with_meaning names name e)) o))
  grown-table true names o name e other h k = each-name names name e other h k
  grown-table false names o name e other h k = k

  grown-tables : (c : Bool) (names : Names) (old now : Option Names) (other : List ℕ) → (HasEach p n (at other old) → HasEach p n (at other now)) → HasEach p n (at other (cond c (Some names) old)) → HasEach p n (at other (cond c (Some names) now))
  grown-tables true names old now other rest k = k
  grown-tables false names old now other rest k = rest k

  first-table : (c : Bool) (name : List ℕ) (e : Entity) (other : List ℕ) → Has p n e → HasEach p n (at other (cond c (Some (with_meaning [] name e)) None))
  first-table true name e other h = each-name [] name e other h tt
  first-table false name e other h = tt

  -- a name of a scope has one more meaning
  each-table : (tables : List (ScopeId × Names)) (q : ScopeId) (name : List ℕ) (e : Entity) (place : ScopeId) (other : List ℕ) → Has p n e → HasEach p n (meanings (names_at tables place) other) → HasEach p n (meanings (names_at (with_name tables q name e) place) other)
  each-table [] q name e place other h k = first-table (same_scope place q) name e other h
  each-table (table ∷ tables) q name e place other h k = by (same_scope q table.0) (each-table tables q name e place other h)
    where
      by : (b : Bool) → (HasEach p n (meanings (names_at tables place) other) → HasEach p n (meanings (names_at (with_name tables q name e) place) other))
          → HasEach p n (meanings (names_at (if b then (table.0, with_meaning table.1 name e) ∷ tables else table ∷ with_name tables q name e) place) other)
      by true rest = grown-table (same_scope place table.0) table.1 (lookup (same_scope place) tables) name e other h k
      by false rest = grown-tables (same_scope place table.0) table.1 (lookup (same_scope place) tables) (lookup (same_scope place) (with_name tables q name e)) other rest k

  own-name : (entered : List Entered) (name : List ℕ) (e : Entity) → Has p n e → HasOwn p n entered → HasOwn p n (with_own entered name e)
  own-name [] name e h k = tt
  own-name (x ∷ entered) name e h k = (λ other. each-name x.own name e other h (k.0 other), k.1)

  types-append : (types : List (TypeId × ℕ)) (x : TypeId × ℕ) → HasTypes p types → x.0.0 < p.types → HasTypes p (types ++ x ∷ [])
  types-append [] x h k = (k, tt)
  types-append (y ∷ types) x h k = (h.0, types-append types x h.1 k)

  type-named : (b : Bool) (types : List (TypeId × ℕ)) (x : TypeId × ℕ) → HasTypes p types → x.0.0 < p.types → HasTypes p (if b then types else types ++ x ∷ [])
  type-named true types x h k = h
  type-named false types x h k = types-append types x h k

  types-declared : (types : List (TypeId × ℕ)) (q : ScopeId) (e : Entity) (around : ℕ) → Has p n e → HasTypes p types → HasTypes p (types_with types q e around)
  types-declared types (scope.Enum id) e around h k = k
  types-declared types (scope.Space m) (entity.Named t) around h k = type-named (is_some (lookup (λ (u : TypeId). t.0 == u.0) types)) types (t, around) k h
  types-declared types (scope.Space m) (entity.Function f) around h k = k
  types-declared types (scope.Space m) (entity.Variable v) around h k = k
  types-declared types (scope.Space m) (entity.Field c i) around h k = k
  types-declared types (scope.Space m) (entity.Enumerator e i) around h k = k
  types-declared types (scope.Space m) (entity.Space q) around h k = k
  types-declared types (scope.Class c) (entity.Named t) around h k = type-named (is_some (lookup (λ (u : TypeId). t.0 == u.0) types)) types (t, around) k h
  types-declared types (scope.Class c) (entity.Function f) around h k = k
  types-declared types (scope.Class c) (entity.Variable v) around h k = k
  types-declared types (scope.Class c) (entity.Field d i) around h k = k
  types-declared types (scope.Class c) (entity.Enumerator e i) around h k = k
  types-declared types (scope.Class c) (entity.Space q) around h k = k

module _ (p : Counts) where
  names-declaration : (q : Option ScopeId) (s : ScopeTables) (name : List ℕ) (e : Entity) → Has p s.spaces e → NamesWhatIs p s → NamesWhatIs p (with_declaration q s name e)
  names-declaration None s name e h k = record { places = k.places; own = own-name p s.spaces s.entered name e h k.own; types = k.types }
  names-declaration (Some q) s name e h k = record {
    places = λ place other. each-table p s.spaces s.tables q name e place other h (k.places place other);
    own = k.own;
    types = types-declared p s.spaces s.types q e (space_around s) h k.types;
  }

  pub names-declared-at : (q : Option ScopeId) (s u : ScopeTables) (name : List ℕ) (e : Entity) → Has p s.spaces e → NamesWhatIs p s → declared_at q s name e ≡ Ok u → NamesWhatIs p u
  names-declared-at q s u name e h k d = by (may_join e (own_meanings q s.entered s name)) (is_among e (own_meanings q s.entered s name)) d
    where
      by : (b c : Bool) → (if b then Ok (if c then s else with_declaration q s name e) else Err Redeclared) ≡ Ok u → NamesWhatIs p u
      by true true j = subst (NamesWhatIs p) (let same : s ≡ u = cc in same) k
      by true false j = subst (NamesWhatIs p) (let same : with_declaration q s name e ≡ u = cc in same) (names-declaration q s name e h k)
      by false c j = cc

  pub names-declared : (s u : ScopeTables) (name : List ℕ) (e : Entity) → Has p s.spaces e → NamesWhatIs p s → declared s name e ≡ Ok u → NamesWhatIs p u
  names-declared s u name e h k d = names-declared-at (place_of s.entered) s u name e h k d

  pub names-declared-in-space : (s u : ScopeTables) (name : List ℕ) (e : Entity) → Has p s.spaces e → NamesWhatIs p s → declared_in_space s name e ≡ Ok u → NamesWhatIs p u
  names-declared-in-space s u name e h k d = names-declared-at (Some (scope.Space (space_around s))) s u name e h k d

  names-entered : (s : ScopeTables) (k : ScopeKind) (q : Option ScopeId) (n : ℕ) → NamesWhatIs p s → NamesWhatIs p (with_entered s k q n)
  names-entered s k q n h = record { places = h.places; own = (λ name. tt, h.own); types = h.types }

  names-space : (s : ScopeTables) (name : List ℕ) → NamesWhatIs p s → NamesWhatIs p (with_space s name)
  names-space s name h = record {
    places = λ place other. each-table p (s.spaces + 1) s.tables (scope.Space (space_around s)) name (entity.Space (scope.Space s.spaces)) place other (omega arith)
        (each-more p p s.spaces (s.spaces + 1) (more-same p) (omega arith) (meanings_at s place other) (h.places place other));
    own = own-more p p s.spaces (s.spaces + 1) (more-same p) (omega arith) s.entered h.own;
    types = h.types;
  }

  abbrev taken : ScopeTables → Result ScopeTables LookAnswer
  taken s = Ok s

  is-ok : (a u : ScopeTables) → taken a ≡ taken u → NamesWhatIs p a → NamesWhatIs p u
  is-ok a u h x = subst (NamesWhatIs p) (let same : a ≡ u = cc in same) x

  names-in-space : (s u : ScopeTables) (name : List ℕ) (es : List Entity) → NamesWhatIs p s → space_entered es s name ≡ Ok u → NamesWhatIs p u
  names-in-space s u name [] h d = is-ok _ u d (names-entered (with_space s name) (kind.Namespace name) (Some (scope.Space s.spaces)) s.spaces (names-space s name h))
  names-in-space s u name (entity.Space (scope.Space n) ∷ es) h d = is-ok _ u d (names-entered s (kind.Namespace name) (Some (scope.Space n)) n h)
  names-in-space s u name (entity.Space (scope.Class c) ∷ es) h d = cc
  names-in-space s u name (entity.Space (scope.Enum e) ∷ es) h d = cc
  names-in-space s u name (entity.Function f ∷ es) h d = cc
  names-in-space s u name (entity.Variable v ∷ es) h d = cc
  names-in-space s u name (entity.Field c i ∷ es) h d = cc
  names-in-space s u name (entity.Enumerator e i ∷ es) h d = cc
  names-in-space s u name (entity.Named t ∷ es) h d = cc

  pub names-with : (s u : ScopeTables) (k : ScopeKind) → NamesWhatIs p s → entered_with s k ≡ Ok u → NamesWhatIs p u
  names-with s u (kind.Namespace name) h d = names-in-space s u name (meanings_at s (scope.Space (space_around s)) name) h d
  names-with s u (kind.Class c bases) h d = is-ok _ u d (record { places = h.places; own = (λ name. tt, h.own); types = h.types })
  names-with s u (kind.Enum e) h d = is-ok _ u d (record { places = h.places; own = (λ name. tt, h.own); types = h.types })
  names-with s u (kind.Function f) h d = is-ok _ u d (names-entered s (kind.Function f) None (space_around s) h)
  names-with s u kind.Block h d = is-ok _ u d (names-entered s kind.Block None (space_around s) h)

  pub names-known-space : (s : ScopeTables) (name : List ℕ) (n : ℕ) → NamesWhatIs p s → NamesWhatIs p (space_entered_by s name n)
  names-known-space s name n h = names-entered s (kind.Namespace name) (Some (scope.Space n)) n h

  own-left : (n : ℕ) (entered : List Entered) → HasOwn p n entered → HasOwn p n (drop 1 entered)
  own-left n [] h = tt
  own-left n (x ∷ entered) h = h.1

  pub names-left : (s : ScopeTables) → NamesWhatIs p s → NamesWhatIs p (left s)
  names-left s h = record { places = h.places; own = own-left s.spaces s.entered h.own; types = h.types }

-- what a lookup gives, the program has
module _ (p : Counts) (n : ℕ) where
  abbrev Said : Option (List Entity) → Type 0
  Said None = Unit {0}
  Said (Some es) = HasEach p n es

  has-counted : (what : Sought) (es : List Entity) → HasEach p n es → HasEach p n (counted what es)
  has-counted sought.Meaning es h = h
  has-counted sought.NonMember es h = h
  has-counted sought.Qualifier es h = each-if p n (qualify es) es [] h tt

  has-together : (a b : Option (List Entity)) → Said a → Said b → Said (together a b)
  has-together None b h k = tt
  has-together (Some []) b h k = k
  has-together (Some (e ∷ es)) None h k = tt
  has-together (Some (e ∷ es)) (Some []) h k = h
  has-together (Some (e ∷ es)) (Some (f ∷ fs)) h k = by (same_list (e ∷ es) (f ∷ fs))
    where
      by : (b : Bool) → Said (if b then Some (e ∷ es) else None)
      by true = h
      by false = tt

  has-else : (a b : Option (List Entity)) → Said a → Said b → Said (or_else a b)
  has-else None b h k = tt
  has-else (Some []) b h k = k
  has-else (Some (e ∷ es)) b h k = h

  has-folded : (said : ClassId → Option (List Entity)) → ((c : ClassId) → Said (said c)) → (bases : List ClassId) (sum : Option (List Entity)) → Said sum → Said (fold (λ o b. together o (said b)) sum bases)
  has-folded said h [] sum k = k
  has-folded said h (b ∷ bases) sum k = has-folded said h bases (together sum (said b)) (has-together sum (said b) k (h b))

  has-answer : (o : Option (List Entity)) → Said o → HasFound p n (answer_of o)
  has-answer None h = tt
  has-answer (Some []) h = tt
  has-answer (Some (e ∷ es)) h = h

module _ (p : Counts) (s : ScopeTables) (h : NamesWhatIs p s) where
  has-members : (what : Sought) (levels : ℕ) (c : ClassId) (name : List ℕ) → Said p s.spaces (members s what levels c name)
  unfolding members
  has-members what zero c name = tt
  has-members what (suc levels) c name =
      has-else p s.spaces (Some (counted what (meanings_at s (scope.Class c) name))) (said_together (λ b. members s what levels b name) (bases_of s c))
      (has-counted p s.spaces what (meanings_at s (scope.Class c) name) (h.places (scope.Class c) name))
      (has-folded p s.spaces (λ b. members s what levels b name) (λ b. has-members what levels b name) (bases_of s c) (Some []) tt)

  has-in : (what : Sought) (q : ScopeId) (name : List ℕ) → Said p s.spaces (said_in s what q name)
  has-in what (scope.Class c) name = has-members what (levels_of s) c name
  has-in what (scope.Space m) name = has-counted p s.spaces what (meanings_at s (scope.Space m) name) (h.places (scope.Space m) name)
  has-in what (scope.Enum e) name = has-counted p s.spaces what (meanings_at s (scope.Enum e) name) (h.places (scope.Enum e) name)

  has-by : (what : Sought) (q : Option ScopeId) (x : Entered) (name : List ℕ) → HasEach p s.spaces (meanings x.own name) → Said p s.spaces (said_by s what q x name)
  has-by what None x name own = has-counted p s.spaces what (meanings x.own name) own
  has-by what (Some q) x name own = by (looks_into what q)
    where
      by : (b : Bool) → Said p s.spaces (if b then said_in s what q name else Some [])
      by true = has-in what q name
      by false = tt

  has-from : (what : Sought) (entered : List Entered) (name : List ℕ) → HasOwn p s.spaces entered → Said p s.spaces (said_from s what entered name)
  has-from what [] name own = has-in what global name
  has-from what (x ∷ entered) name own = has-else p s.spaces (said_by s what x.scope x name) (said_from s what entered name) (has-by what x.scope x name (own.0 name)) (has-from what entered name own.1)

  pub has-found : (what : Sought) (name : List ℕ) → HasFound p s.spaces (find_as_answer s what name)
  has-found what name = has-answer p s.spaces (said_from s what s.entered name) (has-from what s.entered name h.own)

  pub has-found-in : (what : Sought) (q : ScopeId) (name : List ℕ) → HasFound p s.spaces (find_in_as_answer s what q name)
  has-found-in what q name = has-answer p s.spaces (said_in s what q name) (has-in what q name)

  has-functions : (name : List ℕ) (spaces : List ℕ) → HasEach p s.spaces (flat_map (functions_in s name) spaces)
  has-functions name [] = tt
  has-functions name (m ∷ spaces) = each-append p s.spaces (functions_in s name m) (flat_map (functions_in s name) spaces) (each-filter p s.spaces is_function (meanings_at s (scope.Space m) name) (h.places (scope.Space m) name)) (has-functions name spaces)

  pub has-found-by-args : (t : Tables) (name : List ℕ) (args : List TypeId) → HasFound p s.spaces (by_args_answer s t name args)
  has-found-by-args t name args = has-answer p s.spaces (Some (flat_map (functions_in s name) (associated s t args))) (has-functions name (associated s t args))

types-known : (p : Counts) (t : Tables) → p.types ≤ length t.rows → (types : List (TypeId × ℕ)) → HasTypes p types → (i : ℕ) (x : TypeId × ℕ) → slice_get types i ≡ Some x → x.0.0 < length t.rows
types-known p t h [] k i x at = cc
types-known p t h (y ∷ types) k zero x at = subst (λ (z : TypeId × ℕ). z.0.0 < length t.rows) (let e : y ≡ x = cc in e) (let a = k.0 in omega arith)
types-known p t h (y ∷ types) k (suc i) x at = types-known p t h types k.1 i x at

pub names-known : (p : Counts) (s : ScopeTables) (t : Tables) → NamesWhatIs p s → p.types ≤ length t.rows → NamesKnown s t
names-known p s t n h i x at = types-known p t h s.types n.types i x at
