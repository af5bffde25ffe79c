use Rattle.std.proofs.Common.{◌≡◌, true, false, Ok, pos, ◌-ℤ◌, sym, ap, ◌∙◌, w64, rules}
use Rattle.std.proofs.lemmas.Int.{to_z-of_z}
use mir.Val.{SFits}
use Rattle.cx_state.specs.Places.{spot}
use Rattle.cx_state.specs.Pointers.{same_array}
use Rattle.cx_records.specs.Records.{objects_of, forms_in, path_in}
use Rattle.cx_record_pointers.proofs.Comparing.{distance_one}
use Rattle.cx_record_pointers.proofs.compare.distance.Goals as goal

pub returns-then-in_one : goal.returns-then-in_one
returns-then-in_one c =
    let rs = c.args.store.now.records.items in
    let p = path_in (forms_in rs) c.args.a in
    let q = path_in (forms_in rs) c.args.b in
    let one : same_array p q ≡ true = sym c.in_one.ensures ∙ c.if-in_one.true in
    let x = c.seat_at-x.ensures.seat in
    let y = c.seat_at-y.ensures.seat in
    let f : SFits w64 c.between.result = search rules in
    record {
      gives = ap Ok (to_z-of_z w64 c.between.result f ∙ c.between.ensures ∙ ap (λ i. pos i -ℤ pos c.seat_at-y.result.index) x.is_index ∙ ap (λ i. pos (spot p).index -ℤ pos i) y.is_index)
          ∙ sym (distance_one (objects_of rs) p q true (sym c.is_dangling.ensures ∙ c.if-is_dangling.false) (sym c.is_dangling-2.ensures ∙ c.if-is_dangling-2.false) one);
    }

pub returns-else-in_one : goal.returns-else-in_one
returns-else-in_one c =
    let rs = c.args.store.now.records.items in
    let p = path_in (forms_in rs) c.args.a in
    let q = path_in (forms_in rs) c.args.b in
    let one : same_array p q ≡ false = sym c.in_one.ensures ∙ c.if-in_one.false in
    record { gives = sym (distance_one (objects_of rs) p q false (sym c.is_dangling.ensures ∙ c.if-is_dangling.false) (sym c.is_dangling-2.ensures ∙ c.if-is_dangling-2.false) one) }
