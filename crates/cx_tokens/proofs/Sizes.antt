-- A shape has the size of what was found.
use Rattle.std.proofs.Common.{◌≡◌, refl}
use Rattle.cx_tokens.specs.Pieces.{Found, white, token, faulty, size_of}
use Rattle.cx_tokens.specs.Shapes.{shape_of, shape_size}

pub size_is : (found : Found) → shape_size (shape_of found) ≡ size_of found
size_is (white n) = refl
size_is (token n k) = refl
size_is (faulty n f fs) = refl
