-- What is found at a known place.
use Rattle.std.proofs.Common.{◌≡◌, ℕ, ◌+◌, ◌<◌, ◌^◌, Bool, List, None, Some, refl, slice_get, length, ◌≤◌, arith}
use Rattle.cx_type_defs.proofs.Lists.{option_and_then-some}
use Rattle.cx_type_defs.specs.declared.ids.Step.{Step}
use Rattle.cx_type_defs.specs.Tables.{Tables}
use Rattle.cx_state.specs.Forms.{Knows}
use Rattle.cx_shapes.specs.Forms.{Form, Small, size, steps_at, below_of}
use Rattle.cx_shapes.proofs.Numbering.{stands, below_fits, size_pos}
use Rattle.cx_records.specs.declared.place.Place.{Place}
use Rattle.cx_records.specs.declared.record.Record.{Record}
use Rattle.cx_records.specs.Records.{marked, path_in, record_form, forms_in, objects_of}
use Rattle.cx_records.specs.Fits.{Fits}
use Rattle.cx_records.specs.Checks.{cells_in, StandsAt}
use Rattle.cx_shapes.specs.Contents.{opens, dies}
use Rattle.cx_shapes.proofs.Ways.{below_small}
use Rattle.cx_records.proofs.Placed.{placed, get_within}

-- a known place's number is that of a part of the record
pub record Numbered (t : Tables) (rs : List Record) (live : ℕ) (p : Place) : Type 0 where
  pub rec : Record
  pub is_rec : slice_get rs p.object ≡ Some rec
  pub steps : List Step
  pub are_steps : steps_at (record_form rec) p.part ≡ Some steps
  pub form : Form
  pub leads : below_of (record_form rec) steps ≡ Some (p.part, form)
  pub small : Small (record_form rec)
  pub few : p.part < size (record_form rec)
  pub within : p.part < 2 ^ 62

pub numbered : (t : Tables) (rs : List Record) (live : ℕ) (p : Place) → Fits t rs live → Knows t (objects_of rs) (path_in (forms_in rs) p) → Numbered t rs live p
numbered t rs live p f k =
    let w = placed t rs p k in
    let m = option_and_then-some (marked (record_form w.rec) p.end) (steps_at (record_form w.rec) p.part) w.steps w.are_steps in
    let g = stands (record_form w.rec) p.part m.0 m.1 in
    let fit : p.part + size g.0 ≤ size (record_form w.rec) = below_fits (record_form w.rec) m.0 (p.part, g.0) g.1 in
    let pos : 1 ≤ size g.0 = size_pos g.0 in
    let small = (f.kept p.object w.rec w.is_rec).small in
    let few : size (record_form w.rec) < 2 ^ 62 = small.few_parts in
    record { rec = w.rec; is_rec = w.is_rec; steps = m.0; are_steps = m.1; form = g.0; leads = g.1; small = small; few = omega arith; within = omega arith }

pub known_within : (t : Tables) (rs : List Record) (p : Place) → Knows t (objects_of rs) (path_in (forms_in rs) p) → p.object < length rs
known_within t rs p k = let w = placed t rs p k in get_within rs p.object w.rec w.is_rec

pub none_some : {A : Type 0} {a : A} → None ≡ Some a → ⊥
none_some e = cc

-- what stands at a known place
pub record Standing (rs : List Record) (p : Place) : Type 0 where
  pub form : Form
  pub there : Bool
  pub dead : Bool
  pub stands : StandsAt rs p form there dead

pub standing : (t : Tables) (rs : List Record) (live : ℕ) (p : Place) → Fits t rs live → Knows t (objects_of rs) (path_in (forms_in rs) p) → Standing rs p
standing t rs live p f k =
    let n = numbered t rs live p f k in
    let c = cells_in rs n.rec in
    record {
      form = n.form;
      there = opens (record_form n.rec) c 0 n.steps;
      dead = dies (record_form n.rec) c 0 n.steps;
      stands = record { rec = n.rec; is_rec = n.is_rec; walked = record { steps = n.steps; are_steps = n.are_steps; leads = n.leads; is_open = refl; is_dead = refl }; small = below_small (record_form n.rec) n.steps (p.part, n.form) n.leads n.small };
    }
