-- The integer types of a program by their numbers.
use Rattle.std.proofs.Common.{◌≡◌, ◌<◌, true, length}
use Rattle.std.proofs.lemmas.Option.{slice_get_within}
use Rattle.cx_base.specs.declared.int_type.IntType.{IntType}
use Rattle.cx_type_defs.specs.declared.ids.TypeId.{TypeId}
use Rattle.cx_type_defs.specs.Same.{form_of, Int}
use Rattle.cx_type_defs.specs.Sound.{Sound}
use Rattle.cx_type_defs.specs.Tables.{Tables}
use Rattle.cx_type_defs.proofs.Forms.{form-opens}
use Rattle.cx_exprs.specs.Desks.{HasInts, id_in, int_row}
use Rattle.cx_exprs.specs.declared.ints.Ints.{Ints}

pub id_form : (t : Tables) → Sound t → (i : Ints) → HasInts t i → (ty : IntType) (id : TypeId) → id ≡ id_in i ty → form_of true t id ≡ Int ty
id_form t s i h ty id e = rw e (form-opens true t s (id_in i ty) (int_row ty) (h.each ty))

pub id_known : (t : Tables) (i : Ints) → HasInts t i → (ty : IntType) (id : TypeId) → id ≡ id_in i ty → id.0 < length t.rows
id_known t i h ty id e = rw e (slice_get_within t.rows (id_in i ty).0 (int_row ty) (h.each ty))
