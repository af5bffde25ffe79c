-- Marks and names that compare equal are the same.
use Rattle.std.proofs.Common.{◌≡◌, ◌↔◌, ℕ, ◌==◌, true, refl, ap, subst, ◌∙◌, eqb-true, eq-eqb}
use Rattle.std.specs.Prelude.{◌&&◌}
use Rattle.cx_base.specs.declared.diag.Mark.{Mark}
use Rattle.cx_state.specs.declared.root.Root.{Root}
use Rattle.cx_state.specs.declared.root.Root.TheVariants as root
use Rattle.cx_state.specs.States.{same_mark, same_root}
use Rattle.cx_state.proofs.Paths.{and-left, and-right}

abbrev marked : ℕ → ℕ → ℕ → Mark
marked n l k = record { byte = n; line = l; col = k }

same-marks : (a b : Mark) → a.byte ≡ b.byte → a.line ≡ b.line → a.col ≡ b.col → a ≡ b
same-marks a b e f g = ap (λ n. marked n a.line a.col) e ∙ ap (λ n. marked b.byte n a.col) f ∙ ap (marked b.byte b.line) g

abbrev variable : ℕ → Root
variable n = root.Variable (record { 0 = n })

mark-same : (a b : Mark) → same_mark a b ≡ true → a ≡ b
mark-same a b h =
    let l = and-left ((a.byte == b.byte) && (a.line == b.line)) (a.col == b.col) h in
    let r = and-right ((a.byte == b.byte) && (a.line == b.line)) (a.col == b.col) h in
    same-marks a b (eqb-true a.byte b.byte (and-left (a.byte == b.byte) (a.line == b.line) l)) (eqb-true a.line b.line (and-right (a.byte == b.byte) (a.line == b.line) l)) (eqb-true a.col b.col r)

mark-itself : (a : Mark) → same_mark a a ≡ true
mark-itself a = ap (λ x. (x && (a.line == a.line)) && (a.col == a.col)) (eq-eqb a.byte a.byte refl) ∙ ap (λ x. x && (a.col == a.col)) (eq-eqb a.line a.line refl) ∙ eq-eqb a.col a.col refl

pub mark-tells : (a b : Mark) → (same_mark a b ≡ true) ↔ (a ≡ b)
mark-tells a b = (mark-same a b, (λ e. subst (λ m. same_mark a m ≡ true) e (mark-itself a)))

root-same : (a b : Root) → same_root a b ≡ true → a ≡ b
root-same (root.Variable a) (root.Variable b) h = ap variable (eqb-true a.0 b.0 h)
root-same (root.Temporary a) (root.Temporary b) h = ap root.Temporary (mark-same a b h)
root-same (root.Literal a) (root.Literal b) h = ap root.Literal (mark-same a b h)
root-same (root.Variable a) (root.Temporary b) h = absurd (cc)
root-same (root.Variable a) (root.Literal b) h = absurd (cc)
root-same (root.Temporary a) (root.Variable b) h = absurd (cc)
root-same (root.Temporary a) (root.Literal b) h = absurd (cc)
root-same (root.Literal a) (root.Variable b) h = absurd (cc)
root-same (root.Literal a) (root.Temporary b) h = absurd (cc)

root-itself : (a : Root) → same_root a a ≡ true
root-itself (root.Variable a) = eq-eqb a.0 a.0 refl
root-itself (root.Temporary a) = mark-itself a
root-itself (root.Literal a) = mark-itself a

pub root-tells : (a b : Root) → (same_root a b ≡ true) ↔ (a ≡ b)
root-tells a b = (root-same a b, (λ e. subst (λ m. same_root a m ≡ true) e (root-itself a)))
