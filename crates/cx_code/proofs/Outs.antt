-- That no part of a meaning gives back turns, and when two meanings are the same.
use Rattle.std.proofs.Common.{◌≡◌, ℕ, zero, suc, ◌≤◌, Bool, true, false, ◌∷◌, refl, arith, if◌then◌else◌}
use Rattle.cx_base.specs.declared.diag.Span.{Span}
use Rattle.cx_base.specs.declared.diag.Frame.{Frame}
use Rattle.cx_state.specs.States.{Memory, State, Setting, Out, Value, Violation, Stuck, then_do, Op, Done, Broken, Wrong, does, step, turn_left, enter, within_depth}

-- no more turns are left than l
abbrev pub Within : {A : Type 0} → ℕ → Out A → Type 0
Within l (Value a t) = t.left ≤ l
Within l (Violation r at s) = Unit {0}
Within l Stuck = Unit {0}

-- a part of a meaning that gives back no turns
abbrev pub Falls : {A : Type 0} → (State → Out A) → Type 0
Falls f = (s : State) → Within s.left (f s)

-- equal where what goes on is equal
pub then_same : {A B : Type 0} (l : ℕ) (o : Out A) → Within l o → (f g : A → State → Out B) → ((a : A) (t : State) → t.left ≤ l → f a t ≡ g a t) → then_do o f ≡ then_do o g
then_same l (Value a t) w f g h = h a t w
then_same l (Violation r at s) w f g h = refl
then_same l Stuck w f g h = refl

pub then_within : {A B : Type 0} (l : ℕ) (o : Out A) → Within l o → (f : A → State → Out B) → ((a : A) (t : State) → t.left ≤ l → Within l (f a t)) → Within l (then_do o f)
then_within l (Value a t) w f h = h a t w
then_within l (Violation r at s) w f h = tt
then_within l Stuck w f h = tt

pub weaker : {A : Type 0} (l m : ℕ) → l ≤ m → (o : Out A) → Within l o → Within m o
weaker l m le (Value a t) w = omega arith
weaker l m le (Violation r at s) w = tt
weaker l m le Stuck w = tt

pub does_within : {A : Type 0} (at : Span) (s : State) (op : Op A) → Within s.left (does at s op)
does_within at s (Done a m) = omega arith
does_within at s (Broken r) = tt
does_within at s Wrong = tt

pub if_same : {A : Type 0} (b : Bool) (x y x' y' : A) → x ≡ x' → y ≡ y' → (if b then x else y) ≡ (if b then x' else y')
if_same true x y x' y' p q = p
if_same false x y x' y' p q = q

pub if_within : {A : Type 0} (l : ℕ) (b : Bool) (x y : Out A) → Within l x → Within l y → Within l (if b then x else y)
if_within l true x y p q = p
if_within l false x y p q = q

-- turns

pub turn_same : {A : Type 0} (l : ℕ) (at : Span) (m : Memory) (f g : State → Out A) → ((t : State) → suc t.left ≤ l → f t ≡ g t) → turn_left l at m f ≡ turn_left l at m g
turn_same zero at m f g h = refl
turn_same (suc l) at m f g h = h (record { memory = m; left = l }) (omega arith)

pub turn_within : {A : Type 0} (l : ℕ) (at : Span) (m : Memory) (f : State → Out A) → Falls f → Within l (turn_left l at m f)
turn_within zero at m f h = tt
turn_within (suc l) at m f h = weaker l (suc l) (omega arith) (f (record { memory = m; left = l })) (h (record { memory = m; left = l }))

-- calls

pub enter_same : {A : Type 0} (g : Setting) (f : Frame) (s : State) (x y : State → Out A) → ((t : State) → suc t.left ≤ s.left → x t ≡ y t) → enter g f s x ≡ enter g f s y
enter_same g f s x y h =
    then_same s.left (step f.span (within_depth g) s) (does_within f.span s (within_depth g s.memory)) _ _
    (λ _ a le. turn_same a.left f.span a.memory _ _ (λ b lt. h (record { memory = record b.memory { frames = f ∷ b.memory.frames }; left = b.left }) (omega arith)))

pub enter_within : {A : Type 0} (g : Setting) (f : Frame) (s : State) (x : State → Out A) → Falls x → Within s.left (enter g f s x)
enter_within g f s x h =
    then_within s.left (step f.span (within_depth g) s) (does_within f.span s (within_depth g s.memory)) _
    (λ _ a le. weaker a.left s.left le _ (turn_within a.left f.span a.memory _ (λ b. h (record { memory = record b.memory { frames = f ∷ b.memory.frames }; left = b.left }))))
