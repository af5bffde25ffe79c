-- What code means is the same under each bound that the turns left stay below.
use Rattle.std.proofs.Common.{◌≡◌, ℕ, zero, suc, ◌+◌, ◌==◌, ◌<◌, ◌≤◌, List, [], ◌∷◌, ◌++◌, Option, Some, None, refl, ap, subst, ◌∙◌, arith, length}
use Rattle.cx_base.specs.declared.diag.Span.{Span}
use Rattle.cx_state.specs.States.{Memory, State, Setting, Out, Value, then_do, does}
use Rattle.cx_code.specs.declared.code.Code.{Code}
use Rattle.cx_code.specs.declared.code.Step.{Step}
use Rattle.cx_code.specs.Cells.{Cells, Begun, Function, Initializer, Move, Forth, Jump, Back, Enter, Leave}
use Rattle.cx_code.specs.Means.{Around, code_at, act, Runs, Calls, returned, frame_of, entering, using_init, begin, go_on, from, means, code_means}
use Rattle.cx_code.proofs.Outs.{Within, Falls, then_same, then_within, weaker, does_within, if_same, if_within, turn_same, turn_within, enter_same, enter_within}

-- what codes do with their arguments
abbrev Bodies : Type 0
Bodies = Code → Cells → State → Out Cells

-- calls are the same where what they enter is

entering_same : (g : Setting) (x y : Bodies) (c : Option (Option Code)) (cs : Cells) (at : Span) (s : State) → ((c : Code) (cs : Cells) (t : State) → suc t.left ≤ s.left → x c cs t ≡ y c cs t) → entering g x c cs at s ≡ entering g y c cs at s
entering_same g x y None cs at s h = refl
entering_same g x y (Some None) cs at s h = refl
entering_same g x y (Some (Some c)) cs at s h = enter_same g (frame_of c at) s _ _ (λ t lt. ap (λ o. then_do o (returned s.memory)) (h c cs t lt))

using_same : (x y : Bodies) (c : Option (Option Code)) (cs : Cells) (at : Span) (s : State) → ((c : Code) (cs : Cells) (t : State) → suc t.left ≤ s.left → x c cs t ≡ y c cs t) → using_init x c cs at s ≡ using_init y c cs at s
using_same x y None cs at s h = refl
using_same x y (Some None) cs at s h = refl
using_same x y (Some (Some c)) cs at s h = turn_same s.left at s.memory _ _ (λ t lt. ap (λ o. then_do o (returned s.memory)) (h c cs t lt))

begin_same : (g : Around) (x y : Bodies) (f : Begun) (cs : Cells) (at : Span) (s : State) → ((c : Code) (cs : Cells) (t : State) → suc t.left ≤ s.left → x c cs t ≡ y c cs t) → begin g x f cs at s ≡ begin g y f cs at s
begin_same g x y (Function f) cs at s h = entering_same g.setting x y (code_at g f) cs at s h
begin_same g x y (Initializer f) cs at s h = using_same x y (code_at g f) cs at s h

-- and give back no turns where that doesn't

returned_falls : (m : Memory) (f : State → Out Cells) → Falls f → Falls (λ s. then_do (f s) (returned m))
returned_falls m f h s = then_within s.left (f s) (h s) (returned m) (λ a t le. le)

entering_falls : (g : Setting) (x : Bodies) → ((c : Code) (cs : Cells) → Falls (x c cs)) → (c : Option (Option Code)) (cs : Cells) (at : Span) → Falls (λ s. entering g x c cs at s)
entering_falls g x h None cs at s = tt
entering_falls g x h (Some None) cs at s = tt
entering_falls g x h (Some (Some c)) cs at s = enter_within g (frame_of c at) s _ (returned_falls s.memory (x c cs) (h c cs))

using_falls : (x : Bodies) → ((c : Code) (cs : Cells) → Falls (x c cs)) → (c : Option (Option Code)) (cs : Cells) (at : Span) → Falls (λ s. using_init x c cs at s)
using_falls x h None cs at s = tt
using_falls x h (Some None) cs at s = tt
using_falls x h (Some (Some c)) cs at s = turn_within s.left at s.memory _ (returned_falls s.memory (x c cs) (h c cs))

begin_falls : (g : Around) (x : Bodies) → ((c : Code) (cs : Cells) → Falls (x c cs)) → (f : Begun) (cs : Cells) (at : Span) → Falls (λ s. begin g x f cs at s)
begin_falls g x h (Function f) cs at s = entering_falls g.setting x h (code_at g f) cs at s
begin_falls g x h (Initializer f) cs at s = using_falls x h (code_at g f) cs at s

-- the code from a place on is the same where its turns and calls are
from_same : (g : Around) (l : ℕ) (b1 b2 : Runs) (c1 c2 : Calls) → ((to : ℕ) (cs : Cells) (t : State) → suc t.left ≤ l → b1 to cs t ≡ b2 to cs t) → ((f : Begun) (cs : Cells) (at : Span) (t : State) → t.left ≤ l → c1 f cs at t ≡ c2 f cs at t) → ((f : Begun) (cs : Cells) (at : Span) → Falls (c2 f cs at)) → (code : List Step) (to : ℕ) (cs : Cells) (s : State) → s.left ≤ l → from g b1 c1 code to cs s ≡ from g b2 c2 code to cs s
from_same g l b1 b2 c1 c2 hb hc falls [] to cs s le = refl
from_same g l b1 b2 c1 c2 hb hc falls (i ∷ rest) to cs s le =
    if_same (to == length rest + 1) _ _ _ _
    (then_same s.left (does i.span s (act g i.span i.instr cs s.memory)) (does_within i.span s (act g i.span i.instr cs s.memory)) _ _
    (λ move t lt. by_move (λ to cs u h. from_same g l b1 b2 c1 c2 hb hc falls rest to cs u h) move t (omega arith)))
    (from_same g l b1 b2 c1 c2 hb hc falls rest to cs s le)
  where
    by_move : ((to : ℕ) (cs : Cells) (u : State) → u.left ≤ l → from g b1 c1 rest to cs u ≡ from g b2 c2 rest to cs u) → (move : Move) (t : State) → t.left ≤ l → go_on (from g b1 c1 rest) b1 c1 (length rest) i.span move t ≡ go_on (from g b2 c2 rest) b2 c2 (length rest) i.span move t
    by_move go (Forth cs) t le = go (length rest) cs t le
    by_move go (Jump k cs) t le = go k cs t le
    by_move go (Back k cs) t le = turn_same t.left i.span t.memory _ _ (λ u h. hb k cs u (omega arith))
    by_move go (Enter f args cs) t le =
        ap (λ o. then_do o (λ given u. from g b1 c1 rest (length rest) (given ++ cs) u)) (hc f args i.span t le)
        ∙ then_same t.left (c2 f args i.span t) (falls f args i.span t) _ _ (λ given u h. go (length rest) (given ++ cs) u (omega arith))
    by_move go (Leave v) t le = refl

from_falls : (g : Around) (back : Runs) (calls : Calls) → ((to : ℕ) (cs : Cells) → Falls (back to cs)) → ((f : Begun) (cs : Cells) (at : Span) → Falls (calls f cs at)) → (code : List Step) (to : ℕ) (cs : Cells) → Falls (from g back calls code to cs)
from_falls g back calls hb hc [] to cs s = tt
from_falls g back calls hb hc (i ∷ rest) to cs s =
    if_within s.left (to == length rest + 1) _ _
    (then_within s.left (does i.span s (act g i.span i.instr cs s.memory)) (does_within i.span s (act g i.span i.instr cs s.memory)) _
    (λ move t le. weaker t.left s.left le _ (by_move (λ to cs. from_falls g back calls hb hc rest to cs) move t)))
    (from_falls g back calls hb hc rest to cs s)
  where
    by_move : ((to : ℕ) (cs : Cells) → Falls (from g back calls rest to cs)) → (move : Move) → Falls (go_on (from g back calls rest) back calls (length rest) i.span move)
    by_move go (Forth cs) t = go (length rest) cs t
    by_move go (Jump k cs) t = go k cs t
    by_move go (Back k cs) t = turn_within t.left i.span t.memory _ (hb k cs)
    by_move go (Enter f args cs) t = then_within t.left (calls f args i.span t) (hc f args i.span t) _ (λ given u le. weaker u.left t.left le _ (go (length rest) (given ++ cs) u))
    by_move go (Leave v) t = omega arith

-- what a code does from its first step on, with its arguments
abbrev body : Around → ℕ → Bodies
body g n c args t = means g n c.steps (length c.steps) args t

pub means_falls : (g : Around) (n : ℕ) (code : List Step) (to : ℕ) (cs : Cells) → Falls (means g n code to cs)
means_falls g zero code to cs s = tt
means_falls g (suc n) code to cs s =
    from_falls g (means g n code) (begin g (body g n)) (means_falls g n code)
    (begin_falls g (body g n) (λ c args. means_falls g n c.steps (length c.steps) args)) code to cs s

pub means_same : (g : Around) (n m : ℕ) (code : List Step) (to : ℕ) (cs : Cells) (s : State) → s.left < n → s.left < m → means g n code to cs s ≡ means g m code to cs s
means_same g zero m code to cs s ln lm = absurd (omega arith)
means_same g (suc n) zero code to cs s ln lm = absurd (omega arith)
means_same g (suc n) (suc m) code to cs s ln lm =
    from_same g s.left (means g n code) (means g m code) (begin g (body g n)) (begin g (body g m))
    (λ to cs t h. means_same g n m code to cs t (omega arith) (omega arith))
    (λ f args at t h. begin_same g (body g n) (body g m) f args at t (λ c cs u lt. means_same g n m c.steps (length c.steps) cs u (omega arith) (omega arith)))
    (begin_falls g (body g m) (λ c args. means_falls g m c.steps (length c.steps) args))
    code to cs s (omega arith)

pub code-same : (g : Around) (n m : ℕ) (c : Code) (args : Cells) (s : State) → s.left < n → s.left < m → code_means g n c args s ≡ code_means g m c args s
code-same g n m c args s ln lm = means_same g n m c.steps (length c.steps) args s ln lm

value-within : (l : ℕ) (o : Out Cells) (given : Cells) (now : State) → Within l o → o ≡ Value given now → now.left ≤ l
value-within l o given now w e = subst (Within l) e w

pub code-turns : (g : Around) (n : ℕ) (c : Code) (args given : Cells) (s now : State) → code_means g n c args s ≡ Value given now → now.left ≤ s.left
code-turns g n c args given s now e = value-within s.left (code_means g n c args s) given now (means_falls g n c.steps (length c.steps) args s) e
