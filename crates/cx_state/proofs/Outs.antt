-- Laws of going on from a value, for all that is made of such steps.
use Rattle.std.proofs.Common.{◌≡◌, refl}
use Rattle.cx_state.specs.States.{State, Out, Value, Violation, Stuck, then_do}

-- to go on twice is to go on with what goes on
pub then_then : {A B C : Type 0} (o : Out A) (f : A → State → Out B) (g : B → State → Out C) → then_do (then_do o f) g ≡ then_do o (λ a s. then_do (f a s) g)
then_then (Value a s) f g = refl
then_then (Violation r at s) f g = refl
then_then Stuck f g = refl

-- to go on with the value itself changes nothing
pub then_value : {A : Type 0} (o : Out A) → then_do o Value ≡ o
then_value (Value a s) = refl
then_value (Violation r at s) = refl
then_value Stuck = refl

-- what goes on alike from each value gives the same
pub then_same : {A B : Type 0} (o : Out A) (f g : A → State → Out B) → ((a : A) (s : State) → f a s ≡ g a s) → then_do o f ≡ then_do o g
then_same (Value a s) f g h = h a s
then_same (Violation r at s) f g h = refl
then_same Stuck f g h = refl
