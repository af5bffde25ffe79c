-- Blocks fit where the types grow, as each store promises.
use Rattle.std.proofs.Common.{◌≡◌, ℕ, zero, suc, List, [], ◌∷◌, map, Some, refl, sym, ap, ◌∙◌, slice_get}
use Rattle.std.specs.Prelude.{option_map}
use Rattle.cx_type_defs.specs.Tables.{Tables, Grows}
use Rattle.cx_state.proofs.Growing.{Fit-grows}
use Rattle.cx_state_kept.proofs.Reading.{cells_stay}
use Rattle.cx_layout.specs.declared.columns.Descriptor.{Descriptor}
use Rattle.cx_layout.specs.Described.{form_at}
use Rattle.cx_layout.proofs.Growing.{object_keep, are_of_grow}
use Rattle.cx_blocks.specs.declared.block.Block.{Block}
use Rattle.cx_blocks.specs.Seen.{paths_in, object_in, objects_in}
use Rattle.cx_blocks.specs.Fits.{BlockFits, Fits}

map_get : {A B : Type 0} (f : A → B) (xs : List A) (i : ℕ) → slice_get (map f xs) i ≡ option_map f (slice_get xs i)
map_get f [] i = refl
map_get f (x ∷ xs) zero = refl
map_get f (x ∷ xs) (suc i) = map_get f xs i

block_grows : (t u : Tables) → Grows t u → (ds : List Descriptor) (bs : List Block) (live : ℕ) → Fits t ds bs live → (n : ℕ) (b : Block) → slice_get bs n ≡ Some b → BlockFits u (paths_in ds bs) ds b
block_grows t u g ds bs live f n b e =
    let h = f.each n b e in
    let o = object_in (paths_in ds bs) ds b in
    record {
      form = object_keep t u g b.ty b.length (form_at ds b.desc) h.form;
      stands = h.stands;
      live = h.live;
      told = h.told;
      cells = h.cells ∙ sym (cells_stay t u o g (f.fit n o (map_get (object_in (paths_in ds bs) ds) bs n ∙ ap (option_map (object_in (paths_in ds bs) ds)) e)).complete);
    }

pub fits_grow : (t u : Tables) → Grows t u → (ds : List Descriptor) (bs : List Block) (live : ℕ) → Fits t ds bs live → Fits u ds bs live
fits_grow t u g ds bs live f = record {
  fit = Fit-grows t u g (objects_in ds bs) f.fit;
  descriptors = are_of_grow t u g ds f.descriptors;
  each = block_grows t u g ds bs live f;
  count = f.count;
}
