use Rattle.std.proofs.Common.{◌≡◌, ℕ, ◌<◌, false, Some, slice_get}
use Rattle.cx_layout.specs.declared.columns.Descriptor.{Descriptor}
use Rattle.cx_layout.specs.Described.{is_for}
use Rattle.cx_layout.proofs.layouts.number_of.Given as goal

abbrev pub invariant-loop-number : goal.invariant-loop-number
invariant-loop-number l = (k : ℕ) (d : Descriptor) → k < l.number → slice_get l.descriptors k ≡ Some d → is_for l.ty l.count d ≡ false
