-- A walk, step by step.
use Rattle.std.proofs.Common.{◌≡◌, ℕ, zero, suc, ◌+◌, ◌-◌, ◌≤◌, Bool, true, false, ◌&&◌, ◌||◌, [], ◌∷◌, None, Some, refl, sym, ap, subst, ◌∙◌, arith}
use Rattle.std.specs.Prelude.{option_map, option_and_then, unwrap_or}
use Rattle.cx_shapes.specs.Forms.{Form, Part, further, below_of, Way, way, Leads, steps_at}
use Rattle.cx_shapes.specs.Contents.{Cells, is_open, opens, is_dead_class, dies}
use Rattle.cx_shapes.proofs.Numbering.{way_leads, steps_way, steps_none}
use Rattle.cx_records.specs.Walks.{Walked}

pub walked_here : (f : Form) (c : Cells) (b : ℕ) → Walked f c b 0 f true false
walked_here f c b = record { steps = []; are_steps = refl; leads = refl; is_open = refl; is_dead = refl }

pub walked_on : (f : Form) (c : Cells) (b j : ℕ) (w : Way) (g : Form) (o d : Bool) → way f j ≡ Some w → Walked w.2 c (b + w.1) (suc j - w.1) g o d
    → Walked f c b (suc j) g (is_open f (c b) w.0 && o) (is_dead_class f (c b) || is_open f (c b) w.0 && d)
walked_on f c b j w g o d e h =
    let l : Leads f j w = way_leads f j w e in
    let from : w.1 ≤ suc j = l.from in
    let z : w.1 + (suc j - w.1) ≡ suc j = omega arith in
    record {
      steps = w.0 ∷ h.steps;
      are_steps = steps_way f j w e ∙ ap (option_map (λ ss. w.0 ∷ ss)) h.are_steps;
      leads = ap (option_and_then (λ (p : Part). option_map (further p.0) (below_of p.1 h.steps))) l.is_part ∙ ap (option_map (further w.1)) h.leads ∙ ap (λ n. Some (n, g)) z;
      is_open = ap (λ x. is_open f (c b) w.0 && x) h.is_open ∙ ap (λ x. is_open f (c b) w.0 && unwrap_or (option_map (λ (p : Part). opens p.1 c (b + p.0) h.steps) x) false) (sym l.is_part);
      is_dead = ap (λ x. is_dead_class f (c b) || is_open f (c b) w.0 && x) h.is_dead ∙ ap (λ x. is_dead_class f (c b) || is_open f (c b) w.0 && unwrap_or (option_map (λ (p : Part). dies p.1 c (b + p.0) h.steps) x) false) (sym l.is_part);
    }

pub walked_more : (f : Form) (c : Cells) (b j : ℕ) (w : Way) (g : Form) (o d : Bool) → 1 ≤ j → way f (j - 1) ≡ Some w → Walked w.2 c (b + w.1) (j - w.1) g o d
    → (there dead : Bool) → there ≡ is_open f (c b) w.0 → dead ≡ is_dead_class f (c b) → Walked f c b j g (there && o) (dead || there && d)
walked_more f c b zero w g o d l e h there dead x y = absurd (omega arith)
walked_more f c b (suc j) w g o d l e h there dead x y =
    let z : suc j - 1 ≡ j = omega arith in
    subst (λ t. Walked f c b (suc j) g (t && o) (dead || t && d)) (sym x) (subst (λ t. Walked f c b (suc j) g (is_open f (c b) w.0 && o) (t || is_open f (c b) w.0 && d)) (sym y)
    (walked_on f c b j w g o d (ap (way f) (sym z) ∙ e) h))

pub no_walk : (f : Form) (j : ℕ) (w : Way) → 1 ≤ j → way f (j - 1) ≡ Some w → steps_at w.2 (j - w.1) ≡ None → steps_at f j ≡ None
no_walk f zero w l e h = absurd (omega arith)
no_walk f (suc j) w l e h = let z : suc j - 1 ≡ j = omega arith in steps_way f j w (ap (way f) (sym z) ∙ e) ∙ ap (option_map (λ ss. w.0 ∷ ss)) h

pub no_way : (f : Form) (j : ℕ) → 1 ≤ j → way f (j - 1) ≡ None → steps_at f j ≡ None
no_way f zero l e = absurd (omega arith)
no_way f (suc j) l e = let z : suc j - 1 ≡ j = omega arith in steps_none f j (ap (way f) (sym z) ∙ e)

-- the same, with each truth value as the code finds it
pub walked_gives : (f : Form) (c : Cells) (b j : ℕ) (w : Way) (g : Form) (o d : Bool) → 1 ≤ j → way f (j - 1) ≡ Some w → Walked w.2 c (b + w.1) (j - w.1) g o d
    → (there dead : Bool) → there ≡ is_open f (c b) w.0 → dead ≡ is_dead_class f (c b) → (t u v : Bool) → t ≡ (there && o) → v ≡ (there && d) → u ≡ (dead || v) → Walked f c b j g t u
walked_gives f c b j w g o d l e h there dead x y t u v p q r =
    subst (λ z. Walked f c b j g z u) (sym p) (subst (Walked f c b j g (there && o)) (sym (r ∙ ap (λ z. dead || z) q)) (walked_more f c b j w g o d l e h there dead x y))
