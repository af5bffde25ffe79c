use Rattle.std.proofs.Common.{◌≡◌, true, false, Ok, nat_lt, refl, sym, ap, ◌∙◌}
use Rattle.cx_state.specs.Places.{spot}
use Rattle.cx_state.specs.Pointers.{same_array, or_unspecified}
use Rattle.cx_records.specs.Records.{objects_of, forms_in, path_in}
use Rattle.cx_record_pointers.proofs.Comparing.{less_one, less_apart}
use Rattle.cx_record_pointers.proofs.compare.less.Goals as goal

pub returns-then-in_one : goal.returns-then-in_one
returns-then-in_one c =
    let rs = c.args.store.now.records.items in
    let p = path_in (forms_in rs) c.args.a in
    let q = path_in (forms_in rs) c.args.b in
    let one : same_array p q ≡ true = sym c.in_one.ensures ∙ c.if-in_one.true in
    let x = c.seat_at-x.ensures.seat in
    let y = c.seat_at-y.ensures.seat in
    record {
      gives = ap (λ i. Ok (nat_lt i c.seat_at-y.result.index)) x.is_index ∙ ap (λ i. Ok (nat_lt (spot p).index i)) y.is_index
          ∙ sym (less_one c.args.types.now (objects_of rs) p q (sym c.is_dangling.ensures ∙ c.if-is_dangling.false) (sym c.is_dangling-2.ensures ∙ c.if-is_dangling-2.false) one);
    }

pub returns-then-is_past : goal.returns-then-is_past
returns-then-is_past c =
    let rs = c.args.store.now.records.items in
    let p = path_in (forms_in rs) c.args.a in
    let q = path_in (forms_in rs) c.args.b in
    let one : same_array p q ≡ false = sym c.in_one.ensures ∙ c.if-in_one.false in
    record { gives = sym (less_apart c.args.types.now (objects_of rs) p q true q.past (sym c.is_dangling.ensures ∙ c.if-is_dangling.false) (sym c.is_dangling-2.ensures ∙ c.if-is_dangling-2.false) one (sym c.is_past.ensures ∙ c.if-is_past.true) refl) }

pub returns-then-is_past-2 : goal.returns-then-is_past-2
returns-then-is_past-2 c =
    let rs = c.args.store.now.records.items in
    let p = path_in (forms_in rs) c.args.a in
    let q = path_in (forms_in rs) c.args.b in
    let one : same_array p q ≡ false = sym c.in_one.ensures ∙ c.if-in_one.false in
    record { gives = sym (less_apart c.args.types.now (objects_of rs) p q false true (sym c.is_dangling.ensures ∙ c.if-is_dangling.false) (sym c.is_dangling-2.ensures ∙ c.if-is_dangling-2.false) one (sym c.is_past.ensures ∙ c.if-is_past.false) (sym c.is_past-2.ensures ∙ c.if-is_past-2.true)) }

pub returns-in-Some : goal.returns-in-Some
returns-in-Some c =
    let rs = c.args.store.now.records.items in
    let p = path_in (forms_in rs) c.args.a in
    let q = path_in (forms_in rs) c.args.b in
    let one : same_array p q ≡ false = sym c.in_one.ensures ∙ c.if-in_one.false in
    record {
      gives = ap or_unspecified (sym c.in-Some.is ∙ c.comes_before.ensures ∙ c.meeting_at.ensures.is_before)
          ∙ sym (less_apart c.args.types.now (objects_of rs) p q false false (sym c.is_dangling.ensures ∙ c.if-is_dangling.false) (sym c.is_dangling-2.ensures ∙ c.if-is_dangling-2.false) one (sym c.is_past.ensures ∙ c.if-is_past.false) (sym c.is_past-2.ensures ∙ c.if-is_past-2.false));
    }

pub returns-in-None : goal.returns-in-None
returns-in-None c =
    let rs = c.args.store.now.records.items in
    let p = path_in (forms_in rs) c.args.a in
    let q = path_in (forms_in rs) c.args.b in
    let one : same_array p q ≡ false = sym c.in_one.ensures ∙ c.if-in_one.false in
    record {
      gives = ap or_unspecified (sym c.in-None.is ∙ c.comes_before.ensures ∙ c.meeting_at.ensures.is_before)
          ∙ sym (less_apart c.args.types.now (objects_of rs) p q false false (sym c.is_dangling.ensures ∙ c.if-is_dangling.false) (sym c.is_dangling-2.ensures ∙ c.if-is_dangling-2.false) one (sym c.is_past.ensures ∙ c.if-is_past.false) (sym c.is_past-2.ensures ∙ c.if-is_past-2.false));
    }
