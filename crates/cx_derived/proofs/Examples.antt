-- Small theorems on the definitions: what they give for a few classes, by computation.
use Rattle.std.proofs.Common.{◌≡◌, ℕ, true, false, List, [], ◌∷◌, None, Some, refl, map}
use Rattle.cx_type_defs.specs.declared.ids.ClassId.{ClassId}
use Rattle.cx_type_defs.specs.declared.decl.ClassKey.TheVariants as key
use Rattle.cx_type_defs.specs.declared.decl.ClassFlags.{ClassFlags}
use Rattle.cx_type_defs.specs.declared.decl.ClassDecl.{ClassDecl}
use Rattle.cx_type_defs.specs.Tables.{Tables}
use Rattle.cx_type_defs.specs.Questions.{most_levels}
use Rattle.cx_derived.specs.declared.walk.Ways.{Ways}
use Rattle.cx_derived.specs.declared.walk.Ways.TheVariants as ways
use Rattle.cx_derived.specs.Ways.{led, ways_within, ways_to, as_ways}

abbrev flags : ClassFlags
flags = record { aggregate = true; constexpr_ctor = false; constexpr_dtor = true; trivial_ctor = true; trivial_copy = true; trivial_dtor = true; virtual_dtor = false; has_virtual = false }

abbrev id : ℕ → ClassId
id n = record { 0 = n }

abbrev class : List ClassId → ClassDecl
class bases = record { name = []; key = key.Struct; body = Some (record { bases = bases; fields = []; slots = []; pures = []; flags = flags }) }

-- struct Root { }; struct Left : Root { }; struct Right : Root { }; struct Both : Left, Right { }; struct Open;
abbrev sample : Tables
sample = record {
  rows = [];
  classes = class [] ∷ class (id 0 ∷ []) ∷ class (id 0 ∷ []) ∷ class (id 1 ∷ id 2 ∷ []) ∷ record { name = []; key = key.Struct; body = None } ∷ [];
  enums = [];
}

abbrev told : ℕ → ℕ → Ways
told c base = as_ways (ways_to sample (id c) (id base))

-- from Both to each class, and to a class that the tables don't have
ways_of_both : map (told 3) (0 ∷ 1 ∷ 2 ∷ 3 ∷ 4 ∷ 5 ∷ []) ≡ ways.Several ∷ ways.One ∷ ways.One ∷ ways.One ∷ ways.None ∷ ways.None ∷ []
unfolding ways_to ways_within most_levels
ways_of_both = refl

ways_of_left : map (told 1) (0 ∷ 1 ∷ 2 ∷ 3 ∷ 4 ∷ []) ≡ ways.One ∷ ways.One ∷ ways.None ∷ ways.None ∷ ways.None ∷ []
unfolding ways_to ways_within most_levels
ways_of_left = refl

-- an incomplete class is reached from itself alone
ways_of_open : map (told 4) (0 ∷ 3 ∷ 4 ∷ []) ≡ ways.None ∷ ways.None ∷ ways.One ∷ []
unfolding ways_to ways_within most_levels
ways_of_open = refl

steps_from_both : map (led sample (id 3)) ([] ∷ (0 ∷ []) ∷ (1 ∷ []) ∷ (2 ∷ []) ∷ (0 ∷ 0 ∷ []) ∷ (1 ∷ 0 ∷ []) ∷ (0 ∷ 0 ∷ 0 ∷ []) ∷ [])
    ≡ Some (id 3) ∷ Some (id 1) ∷ Some (id 2) ∷ None ∷ Some (id 0) ∷ Some (id 0) ∷ None ∷ []
steps_from_both = refl
