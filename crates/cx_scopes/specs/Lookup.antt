-- The lookup of a name ([basic.lookup.unqual], [basic.lookup.qual], [class.member.lookup]).
use Rattle.std.specs.Prelude.{◌≡◌, ℕ, zero, suc, Bool, true, false, ◌&&◌, List, [], ◌∷◌, Option, None, Some, Result, Ok, Err, fold, length, if◌then◌else◌}
use Rattle.cx_type_defs.specs.declared.ids.ClassId.{ClassId}
use Rattle.cx_scopes.specs.declared.kinds.LookAnswer.{LookAnswer}
use Rattle.cx_scopes.specs.declared.kinds.LookAnswer.TheVariants.{Unknown, Ambiguous, Memory}
use Rattle.cx_scopes.specs.declared.kinds.ScopeId.{ScopeId}
use Rattle.cx_scopes.specs.declared.kinds.ScopeId.TheVariants as scope
use Rattle.cx_scopes.specs.declared.kinds.Entity.{Entity}
use Rattle.cx_scopes.specs.declared.entered.Entered.{Entered}
use Rattle.cx_scopes.specs.declared.kinds.Sought.{Sought}
use Rattle.cx_scopes.specs.declared.kinds.Sought.TheVariants as sought
use Rattle.cx_scopes.specs.Names.{meanings, same_entity, counted, looks_into}
use Rattle.cx_scopes.specs.Scopes.{ScopeTables, global, meanings_at, bases_of}

abbrev pub same_list : List Entity → List Entity → Bool
same_list [] [] = true
same_list (e ∷ es) (f ∷ fs) = same_entity e f && same_list es fs
same_list _ _ = false

-- What a scope says of a name is the list of its meanings, which is empty where it has none, or None where it is
-- ambiguous.

-- what two bases say together: one that says nothing doesn't count, and two that give different lists are ambiguous
abbrev pub together : Option (List Entity) → Option (List Entity) → Option (List Entity)
together None _ = None
together (Some []) b = b
together (Some (e ∷ es)) None = None
together (Some (e ∷ es)) (Some []) = Some (e ∷ es)
together (Some (e ∷ es)) (Some (f ∷ fs)) = if same_list (e ∷ es) (f ∷ fs) then Some (e ∷ es) else None

-- what a scope says, or where it says nothing, what is said otherwise
abbrev pub or_else : Option (List Entity) → Option (List Entity) → Option (List Entity)
or_else None rest = None
or_else (Some []) rest = rest
or_else (Some (e ∷ es)) rest = Some (e ∷ es)

-- what the bases say together, each by its own
abbrev pub said_together : (ClassId → Option (List Entity)) → List ClassId → Option (List Entity)
said_together said bases = fold (λ sum b. together sum (said b)) (Some []) bases

-- what a class says, looking so many levels deep: its own meanings, or what its direct bases say
unfoldable pub members : ScopeTables → Sought → ℕ → ClassId → List ℕ → Option (List Entity)
members s sought zero c name = Some []
members s sought (suc levels) c name = or_else (Some (counted sought (meanings_at s (scope.Class c) name))) (said_together (λ b. members s sought levels b name) (bases_of s c))

-- no class has more levels of bases than there are class scopes
abbrev pub levels_of : ScopeTables → ℕ
levels_of s = length s.classes

-- what a namespace, class or enumeration says
abbrev pub said_in : ScopeTables → Sought → ScopeId → List ℕ → Option (List Entity)
said_in s sought (scope.Class c) name = members s sought (levels_of s) c name
said_in s sought p name = Some (counted sought (meanings_at s p name))

-- what a scope that is entered says
abbrev pub said_by : ScopeTables → Sought → Option ScopeId → Entered → List ℕ → Option (List Entity)
said_by s sought (Some p) e name = if looks_into sought p then said_in s sought p name else Some []
said_by s sought None e name = Some (counted sought (meanings e.own name))

-- what the innermost scope says that says anything, going outwards to the global namespace
abbrev pub said_from : ScopeTables → Sought → List Entered → List ℕ → Option (List Entity)
said_from s sought [] name = said_in s sought global name
said_from s sought (e ∷ entered) name = or_else (said_by s sought e.scope e name) (said_from s sought entered name)

abbrev pub answer_of : Option (List Entity) → Result (List Entity) LookAnswer
answer_of None = Err Ambiguous
answer_of (Some []) = Err Unknown
answer_of (Some (e ∷ es)) = Ok (e ∷ es)

-- the lookup of an unqualified name, for what is sought
abbrev pub find_as_answer : ScopeTables → Sought → List ℕ → Result (List Entity) LookAnswer
find_as_answer s sought name = answer_of (said_from s sought s.entered name)

-- the lookup of a qualified name, for what is sought
abbrev pub find_in_as_answer : ScopeTables → Sought → ScopeId → List ℕ → Result (List Entity) LookAnswer
find_in_as_answer s sought p name = answer_of (said_in s sought p name)

-- the lookup of an unqualified name
abbrev pub find_answer : ScopeTables → List ℕ → Result (List Entity) LookAnswer
find_answer s name = find_as_answer s sought.Meaning name

-- the lookup of a qualified name
abbrev pub find_in_answer : ScopeTables → ScopeId → List ℕ → Result (List Entity) LookAnswer
find_in_answer s p name = find_in_as_answer s sought.Meaning p name

-- a call answered this, or ran out of memory
abbrev pub Answers : {A : Type 0} → Result A LookAnswer → Result A LookAnswer → Type 0
Answers answer (Ok a) = answer ≡ Ok a
Answers answer (Err Memory) = Unit {0}
Answers answer (Err e) = answer ≡ Err e

-- a refusal is the answer's, or memory ran out
abbrev pub Refuses : {A : Type 0} → Result A LookAnswer → LookAnswer → Type 0
Refuses answer Memory = Unit {0}
Refuses answer e = answer ≡ Err e
