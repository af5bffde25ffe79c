-- What an object holds is known, and so is in an object that is there.
use Rattle.std.proofs.Common.{◌≡◌, ℕ, ◌<◌, true, false, List, [], ◌∷◌, length, Option, None, Some, refl, sym, ap, subst, ◌∙◌, slice_get}
use Rattle.std.specs.Prelude.{option_and_then}
use Rattle.cx_type_defs.specs.declared.ids.Step.{Step}
use Rattle.cx_type_defs.specs.declared.kind.TypeRow.{TypeRow}
use Rattle.cx_type_defs.specs.Tables.{Tables}
use Rattle.cx_type_defs.specs.Sound.{Sound}
use Rattle.cx_state.specs.declared.kind.Scalar.{Scalar}
use Rattle.cx_state.specs.declared.kind.Scalar.TheVariants as scalar
use Rattle.cx_state.specs.Objects as tree
use Rattle.cx_state.specs.Objects.{Path, Object, Objects, below, at}
use Rattle.cx_state.specs.Places.{root_row, row_below}
use Rattle.cx_state.specs.Forms.{Knows}
use Rattle.cx_state.proofs.Known.{plain-knows, held-knows, known-object}
use Rattle.cx_layout.specs.declared.columns.Descriptor.{Descriptor}
use Rattle.cx_layout.specs.Forms.{Form, Part, below_of}
use Rattle.cx_layout.specs.Described.{form_at}
use Rattle.cx_layout.proofs.Agreeing.{Both, below_both, root_has}
use Rattle.cx_slots.proofs.Frames.{path_frame}
use Rattle.cx_blocks.specs.declared.block.Block.{Block}
use Rattle.cx_blocks.specs.Seen.{paths_in, object_in, objects_in}
use Rattle.cx_blocks.specs.Fits.{Fits}
use Rattle.cx_blocks.proofs.Lists.{get_within}
use Rattle.cx_blocks.proofs.Objects.{the_object, as_many, block_tree}

module _ (t : Tables) (sound : Sound t) (ds : List Descriptor) (bs : List Block) (live : ℕ) (fits : Fits t ds bs live) (n : ℕ) (b : Block) (is_block : slice_get bs n ≡ Some b) where
  abbrev os : Objects
  os = objects_in ds bs

  abbrev o : Object
  o = object_in (paths_in ds bs) ds b

  here : slice_get os n ≡ Some o
  here = the_object ds bs n b is_block

  row_there : (x : Option TypeRow) (a : Option Part) (p : Part) → Both t sound x a → a ≡ Some p → (r : TypeRow) × (x ≡ Some r)
  row_there None None p h e = absurd (cc)
  row_there (Some r) a p h e = (r, refl)
  row_there None (Some q) p h e = absurd h

  -- what stands at the end of steps in an object is known
  pub part_known : (ss : List Step) (v : Scalar Path) → below o.tree ss ≡ Some (tree.Leaf v) → Knows t os (record { object = n; steps = ss; past = false })
  part_known ss v e =
      let h = fits.each n b is_block in
      let f = form_at ds b.desc in
      let r = root_has t sound o f h.form in
      let q = path_frame f o.tree ss (tree.Leaf v) (block_tree t (paths_in ds bs) ds b h) e in
      let w = row_there (row_below t r.0 ss) (below_of f ss) q.0 (below_both t sound ss r.0 f r.2) q.1 in
      plain-knows t os n ss r.0 w.0 (ap (option_and_then (root_row t)) here ∙ r.1) w.1

  pub held_within : (ss : List Step) (x : Path) → below o.tree ss ≡ Some (tree.Leaf (scalar.Place x)) → x.object < length bs
  held_within ss x e =
      let k = part_known ss (scalar.Place x) e in
      let stands : at os (record { object = n; steps = ss; past = false }) ≡ Some (tree.Leaf (scalar.Place x)) = ap (option_and_then (λ (o : Object). below o.tree ss)) here ∙ e in
      let w = known-object t os x (held-knows t os (record { object = n; steps = ss; past = false }) (scalar.Place x) fits.fit k refl stands) in
      subst (λ m. x.object < m) (as_many ds bs) (get_within os x.object w.0 w.1)
