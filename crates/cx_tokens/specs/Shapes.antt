-- What the code finds at a place.
use Rattle.std.specs.Prelude.{ℕ, Bool, nat_lt, Option, Some, None, if◌then◌else◌, fold}
use Rattle.cx_base.specs.declared.rule.Rule.{Rule}
use Rattle.cx_base.specs.declared.rule.Rule.TheVariants as rule
use Rattle.cx_tokens.specs.declared.shapes.Flaw.{Flaw}
use Rattle.cx_tokens.specs.declared.shapes.Shape.{Shape}
use Rattle.cx_tokens.specs.declared.shapes.Shape.TheVariants as shape
use Rattle.cx_tokens.specs.Pieces.{Found, white, token, faulty, flaw, size_of}

-- the one of two flaws that starts first, or the left one
abbrev pub earlier_flaw : Flaw → Flaw → Flaw
earlier_flaw f g = if nat_lt g.start f.start then g else f

-- of several faults the first
abbrev pub shape_of : Found → Shape
shape_of (white n) = shape.White n
shape_of (token n k) = shape.Token n k
shape_of (faulty n f fs) = shape.Faulty n (fold earlier_flaw f fs)

abbrev pub shape_size : Shape → ℕ
shape_size (shape.White n) = n
shape_size (shape.Token n k) = n
shape_size (shape.Faulty n f) = n

abbrev pub shape_with : Option Flaw → Found → Shape
shape_with None found = shape_of found
shape_with (Some f) found = shape.Faulty (size_of found) f

-- the one of two that starts first, or the one that there is
abbrev pub either : Option Flaw → Option Flaw → Option Flaw
either None g = g
either (Some f) None = Some f
either (Some f) (Some g) = Some (earlier_flaw f g)

-- the first flaw of a literal of so many bytes that is whole or breaks a rule, before a name or not
abbrev pub own_flaw : Bool → Bool → ℕ → Rule → Option Flaw
own_flaw whole behind n broken = if whole then (if behind then Some (flaw 0 n rule.LeftOut) else None) else Some (flaw 0 n broken)
