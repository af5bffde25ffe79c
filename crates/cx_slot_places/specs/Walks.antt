-- What walks to parts find, and where places lie to each other. No contract of a public call cites this.
use Rattle.std.specs.Prelude.{◌≡◌, ℕ, ◌+◌, ◌*◌, ◌-◌, ◌/◌, ◌^◌, ◌<◌, ◌≤◌, ◌==◌, Bool, true, false, ◌&&◌, List, ◌∷◌, ◌++◌, length, Some, slice_get, if◌then◌else◌}
use Rattle.cx_type_defs.specs.declared.ids.Step.{Step}
use Rattle.cx_type_defs.specs.declared.ids.Step.TheVariants as step
use Rattle.cx_state.specs.Objects.{same_step, same_bool}
use Rattle.cx_state.specs.Places.{Spot}
use Rattle.cx_layout.specs.declared.columns.Kind.{Kind}
use Rattle.cx_layout.specs.declared.columns.Kind.TheVariants as kind
use Rattle.cx_layout.specs.declared.columns.Node.{Node}
use Rattle.cx_layout.specs.declared.place.Place.{Place}
use Rattle.cx_layout.specs.Forms.{Form, Row, Part, cells, below_of}
use Rattle.cx_layout.specs.Places.{place_at}
use Rattle.cx_slot_places.specs.Pointers.{Parted, is_union}
use Rattle.cx_slot_places.specs.declared.walk.Next.{Next}
use Rattle.cx_slot_places.specs.declared.walk.Trail.{Trail}
use Rattle.cx_slot_places.specs.declared.seat.Seat.{Seat}
use Rattle.cx_slot_places.specs.declared.meet.Fork.{Fork}
use Rattle.cx_slot_places.specs.declared.meet.Meeting.{Meeting}
use Rattle.cx_slot_places.specs.declared.meet.Meeting.TheVariants as meeting

-- a slot lies in the part at the end of steps, which is at that node
pub record Within (f : Form) (node slot : ℕ) (ss : List Step) (p : Part) : Type 0 where
  pub leads : below_of f ss ≡ Some p
  pub node_is : p.node ≡ node
  pub from : p.slot ≤ slot
  pub before : 1 ≤ node → slot < p.slot + cells p.form

-- the step from a part with that first slot to the part of a node in which a slot lies, and that part's first slot

abbrev pub stepped_by : Step → Node → ℕ → ℕ → Next
stepped_by (step.Elem i) row start slot = record { step = step.Elem ((slot - start) / row.cells); start = start + (slot - start) / row.cells * row.cells }
stepped_by s row start slot = record { step = s; start = start + row.under.offset }

abbrev pub stepped : Node → ℕ → ℕ → Next
stepped row start slot = stepped_by row.under.step row start slot

abbrev pub CanStepBy : Step → Node → ℕ → ℕ → Type 0
CanStepBy (step.Elem i) row start slot = (start ≤ slot) × (1 ≤ row.cells)
CanStepBy s row start slot = start + row.under.offset < 2 ^ 32

abbrev pub CanStep : Node → ℕ → ℕ → Type 0
CanStep row start slot = CanStepBy row.under.step row start slot

-- the first slot of the part
abbrev pub Starts : Form → ℕ → ℕ → ℕ → Type 0
Starts f node slot start = (ss : List Step) (p : Part) → Within f node slot ss p → start ≡ p.slot

-- that, how many steps lead to it, and step k
pub record IsTrail (ss : List Step) (p : Part) (k : ℕ) (w : Trail) : Type 0 where
  pub start : w.start ≡ p.slot
  pub depth : w.depth ≡ length ss
  pub step : w.step ≡ slice_get ss k

abbrev pub Trails : Form → ℕ → ℕ → ℕ → Trail → Type 0
Trails f node slot k w = (ss : List Step) (p : Part) → Within f node slot ss p → IsTrail ss p k w

-- an array of so many elements with that many cells each, or a part that counts as one of one
abbrev pub Seats : Form → Bool → List Step → Part → Seat → ℕ → Type 0
Seats f true us p s node = (g : Form) × (p.form ≡ Row s.count g) × (s.stride ≡ cells g) × (node ≡ p.node + 1)
Seats f false us p s node = (s.count ≡ 1) × (s.stride ≡ 0) × (node ≡ p.node) × ((past : Bool) → place_at f past us ≡ Some p)

-- the array that a place is in
pub record IsSeat (f : Form) (at : Place) (x : Spot) (s : Seat) : Type 0 where
  pub part : Part
  pub leads : below_of f x.array ≡ Some part
  pub node_is : s.node ≡ part.node
  pub start_is : s.start ≡ part.slot
  pub many_is : s.many ≡ x.many
  pub index_is : s.index ≡ x.index
  pub within : s.index ≤ s.count
  pub past_is : at.past ≡ (s.index == s.count)
  pub seats : Seats f x.many x.array part s at.node

abbrev pub same_seat : Seat → Seat → Bool
same_seat s u = same_bool s.many u.many && (s.node == u.node) && (s.start == u.start)

-- how two lists of steps go on from where they part

-- some steps lead both to one part, and then each goes on by its own
pub record IsFork (f : Form) (ss us : List Step) (k : Fork) : Type 0 where
  pub both : List Step
  pub part : Part
  pub leads : below_of f both ≡ Some part
  pub after : List Step
  pub others : List Step
  pub first : ss ≡ both ++ k.left ∷ after
  pub second : us ≡ both ++ k.right ∷ others
  pub differ : same_step k.left k.right ≡ false
  pub in_union : k.in_union ≡ is_union part.form

abbrev pub IsMeeting : Form → List Step → List Step → ℕ → Meeting → Type 0
IsMeeting f ss us slot (meeting.Same start) = (ss ≡ us) × (start ≡ slot)
IsMeeting f ss us slot (meeting.Inner s) = (rest : List Step) × (ss ≡ us ++ s ∷ rest)
IsMeeting f ss us slot (meeting.Outer s) = (rest : List Step) × (us ≡ ss ++ s ∷ rest)
IsMeeting f ss us slot (meeting.Apart k) = IsFork f ss us k

abbrev pub Meets : Form → ℕ → ℕ → ℕ → ℕ → Meeting → Type 0
Meets f a slot b other m = (ss us : List Step) (p q : Part) → Within f a slot ss p → Within f b other us q → IsMeeting f ss us p.slot m

abbrev pub seen : Fork → Parted
seen k = record { in_union = k.in_union; left = k.left; right = k.right }

abbrev pub is_union_kind : Kind → Bool
is_union_kind (kind.Class c) = c.is_union
is_union_kind k = false

-- how the first of two parts lies to the second, where it goes on by one step more from what lies so to it; and where both do

abbrev pub gone_on : Kind → Node → Meeting → ℕ → Meeting
gone_on above row (meeting.Same start) slot = meeting.Inner (stepped row start slot).step
gone_on above row (meeting.Outer s) slot = meeting.Apart (record { in_union = is_union_kind above; left = row.under.step; right = s })
gone_on above row m slot = m

abbrev pub CanGoOn : Node → Meeting → ℕ → Type 0
CanGoOn row (meeting.Same start) slot = CanStep row start slot
CanGoOn row m slot = Unit {0}

abbrev pub apart_or_same : Kind → Next → Next → Meeting
apart_or_same above x y = if same_step x.step y.step then meeting.Same x.start else meeting.Apart (record { in_union = is_union_kind above; left = x.step; right = y.step })

abbrev pub both_on : Kind → Node → Meeting → ℕ → ℕ → Meeting
both_on above row (meeting.Same start) slot other = apart_or_same above (stepped row start slot) (stepped row start other)
both_on above row m slot other = m

abbrev pub turned : Meeting → Meeting
turned (meeting.Inner s) = meeting.Outer s
turned (meeting.Outer s) = meeting.Inner s
turned (meeting.Apart k) = meeting.Apart (record { in_union = k.in_union; left = k.right; right = k.left })
turned m = m
