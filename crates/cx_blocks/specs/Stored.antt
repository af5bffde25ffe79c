-- What a store of blocks keeps: its objects, the paths of its places, and that it fits the types.
use Rattle.cx_type_defs.specs.Tables.{Tables}
use Rattle.cx_state.specs.Objects.{Path, Objects}
use Rattle.cx_layout.specs.declared.place.Place.{Place}
use Rattle.cx_blocks.specs.declared.blocks.Blocks.{Blocks}
use Rattle.cx_blocks.specs.Seen.{paths_in, objects_in}
use Rattle.cx_blocks.specs.Fits.{Fits}

abbrev pub objects : Blocks → Objects
objects s = objects_in s.layouts s.blocks.items

abbrev pub path : Blocks → Place → Path
path s = paths_in s.layouts s.blocks.items

abbrev pub fits : Blocks → Tables → Type 0
fits s t = Fits t s.layouts s.blocks.items s.live
