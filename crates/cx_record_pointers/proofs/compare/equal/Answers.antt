use Rattle.std.proofs.Common.{◌≡◌, true, false, ◌==◌, ◌||◌, Ok, sym, ap, ◌∙◌}
use Rattle.cx_state.specs.Places.{spot}
use Rattle.cx_state.specs.Pointers.{same_array}
use Rattle.cx_records.specs.Records.{objects_of, forms_in, path_in}
use Rattle.cx_record_pointers.specs.Meetings.{in_members}
use Rattle.cx_record_pointers.proofs.Comparing.{equal_one, equal_past, equal_past_second, equal_apart, if_unspecified}
use Rattle.cx_record_pointers.proofs.compare.equal.Goals as goal

pub returns-then-in_one : goal.returns-then-in_one
returns-then-in_one c =
    let rs = c.args.store.now.records.items in
    let p = path_in (forms_in rs) c.args.a in
    let q = path_in (forms_in rs) c.args.b in
    let one : same_array p q ≡ true = sym c.in_one.ensures ∙ c.if-in_one.true in
    let x = c.seat_at-x.ensures.seat in
    let y = c.seat_at-y.ensures.seat in
    record { gives = ap (λ i. Ok (i == c.seat_at-y.result.index)) x.is_index ∙ ap (λ i. Ok ((spot p).index == i)) y.is_index ∙ sym (equal_one c.args.types.now (objects_of rs) p q c.requires.known c.requires.other one) }

pub returns-then-is_past : goal.returns-then-is_past
returns-then-is_past c =
    let rs = c.args.store.now.records.items in
    let p = path_in (forms_in rs) c.args.a in
    let q = path_in (forms_in rs) c.args.b in
    let one : same_array p q ≡ false = sym c.in_one.ensures ∙ c.if-in_one.false in
    record { gives = sym (equal_past c.args.types.now (objects_of rs) p q one (sym c.is_past.ensures ∙ c.if-is_past.true)) }

pub returns-then-is_past-2 : goal.returns-then-is_past-2
returns-then-is_past-2 c =
    let rs = c.args.store.now.records.items in
    let p = path_in (forms_in rs) c.args.a in
    let q = path_in (forms_in rs) c.args.b in
    let one : same_array p q ≡ false = sym c.in_one.ensures ∙ c.if-in_one.false in
    record { gives = sym (equal_past_second c.args.types.now (objects_of rs) p q one (sym c.is_past.ensures ∙ c.if-is_past.false) (sym c.is_past-2.ensures ∙ c.if-is_past-2.true)) }

pub returns-then-is_within : goal.returns-then-is_within
returns-then-is_within c =
    let rs = c.args.store.now.records.items in
    let p = path_in (forms_in rs) c.args.a in
    let q = path_in (forms_in rs) c.args.b in
    let l = c.in_two_literals.result in
    let w = c.is_within.result in
    let m = in_members c.meeting_at-meeting.result in
    let one : same_array p q ≡ false = sym c.in_one.ensures ∙ c.if-in_one.false in
    record {
      gives = sym (ap (λ b. if_unspecified (b || w || m)) c.if-in_two_literals.false ∙ ap (λ b. if_unspecified (b || m)) c.if-is_within.true)
          ∙ equal_apart c.args.types.now (objects_of rs) p q l w m one (sym c.is_past.ensures ∙ c.if-is_past.false) (sym c.is_past-2.ensures ∙ c.if-is_past-2.false) c.in_two_literals.ensures (c.is_within.ensures ∙ c.meeting_at-meeting.ensures.within) c.meeting_at-meeting.ensures.in_members;
    }

pub returns-then-in_members : goal.returns-then-in_members
returns-then-in_members c =
    let rs = c.args.store.now.records.items in
    let p = path_in (forms_in rs) c.args.a in
    let q = path_in (forms_in rs) c.args.b in
    let l = c.in_two_literals.result in
    let w = c.is_within.result in
    let m = c.in_members.result in
    let one : same_array p q ≡ false = sym c.in_one.ensures ∙ c.if-in_one.false in
    record {
      gives = sym (ap (λ b. if_unspecified (b || w || m)) c.if-in_two_literals.false ∙ ap (λ b. if_unspecified (b || m)) c.if-is_within.false ∙ ap if_unspecified c.if-in_members.true)
          ∙ equal_apart c.args.types.now (objects_of rs) p q l w m one (sym c.is_past.ensures ∙ c.if-is_past.false) (sym c.is_past-2.ensures ∙ c.if-is_past-2.false) c.in_two_literals.ensures (c.is_within.ensures ∙ c.meeting_at-meeting.ensures.within) (c.in_members.ensures ∙ c.meeting_at-meeting.ensures.in_members);
    }

pub returns : goal.returns
returns c =
    let rs = c.args.store.now.records.items in
    let p = path_in (forms_in rs) c.args.a in
    let q = path_in (forms_in rs) c.args.b in
    let l = c.in_two_literals.result in
    let w = c.is_within.result in
    let m = c.in_members.result in
    let one : same_array p q ≡ false = sym c.in_one.ensures ∙ c.if-in_one.false in
    record {
      gives = sym (ap (λ b. if_unspecified (b || w || m)) c.if-in_two_literals.false ∙ ap (λ b. if_unspecified (b || m)) c.if-is_within.false ∙ ap if_unspecified c.if-in_members.false)
          ∙ equal_apart c.args.types.now (objects_of rs) p q l w m one (sym c.is_past.ensures ∙ c.if-is_past.false) (sym c.is_past-2.ensures ∙ c.if-is_past-2.false) c.in_two_literals.ensures (c.is_within.ensures ∙ c.meeting_at-meeting.ensures.within) (c.in_members.ensures ∙ c.meeting_at-meeting.ensures.in_members);
    }
