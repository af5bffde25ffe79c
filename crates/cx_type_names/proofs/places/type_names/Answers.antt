use Rattle.std.proofs.Common.{◌<◌, ◌∙◌, ap, sym, arith}
use Rattle.cx_type_names.specs.Names.{type_names}
use Rattle.cx_type_names.specs.Walk.{known_of, rest_of}
use Rattle.cx_type_names.proofs.Rests.{rest_of-drop}
use Rattle.cx_type_names.proofs.places.type_names.Goals as goal

pub step-requires-clause-behind : goal.step-requires-clause-behind
step-requires-clause-behind c =
    let past : 0 < c.places.at = omega arith in
    c.places.invariant.1 ∙ ap known_of (sym (rest_of-drop c.places.at _ past)) ∙ ap (λ s. known_of (rest_of s)) (sym c.split_at.ensures.back)

pub step-requires-clause-names : goal.step-requires-clause-names
step-requires-clause-names c =
    let past : 0 < c.places.at = omega arith in
    c.places.invariant.2 ∙ ap type_names (sym (rest_of-drop c.places.at _ past)) ∙ ap (λ s. type_names (rest_of s)) (sym c.split_at.ensures.back)
