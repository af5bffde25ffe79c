-- What the parts of a class's body say of each other ([class.virtual], [class.dtor], [class.union]).
use Rattle.std.specs.Prelude.{◌≡◌, Bool, true, false, ◌||◌, [], length, Option, None, Some, nat_lt}
use Rattle.std.specs.List.{list_any}
use Rattle.cx_type_defs.specs.declared.decl.ClassDecl.{ClassDecl}
use Rattle.cx_type_defs.specs.declared.decl.ClassBody.{ClassBody}
use Rattle.cx_type_defs.specs.declared.decl.ClassKey.{ClassKey}
use Rattle.cx_type_defs.specs.declared.decl.ClassKey.TheVariants as key
use Rattle.cx_type_defs.specs.Tables.{Tables, body_at}

abbrev pub body_has_virtual : Option ClassBody → Bool
body_has_virtual None = false
body_has_virtual (Some b) = b.flags.has_virtual

-- the class declares or inherits a virtual function, as its slots, its destructor or a base tell
abbrev pub needs_virtual : Tables → ClassBody → Bool
needs_virtual t b = nat_lt 0 (length b.slots) || (b.flags.virtual_dtor || list_any (λ c. body_has_virtual (body_at t c)) b.bases)

-- a union has no bases, and a class that has virtual functions says so
pub record IsFit (t : Tables) (k : ClassKey) (b : ClassBody) : Type 0 where
  pub alone : k ≡ key.Union → b.bases ≡ []
  pub tells_virtual : needs_virtual t b ≡ true → b.flags.has_virtual ≡ true

abbrev pub FitsClass : Tables → Option ClassDecl → ClassBody → Type 0
FitsClass t None b = ⊥
FitsClass t (Some d) b = IsFit t d.key b
