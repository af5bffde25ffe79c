use Rattle.std.proofs.Common.{◌≡◌, ◌<◌, [], ◌∷◌, ◌++◌, length, None, refl, sym, ap, subst, ◌∙◌, arith, length-append}
use Rattle.cx_layout.specs.declared.columns.Descriptor.{Descriptor}
use Rattle.cx_layout.specs.Described.{AllDescribed, AreOf, IsAdded, Numbered, number_in}
use Rattle.cx_layout.proofs.Wholes.{all_more, of_more}
use Rattle.cx_layout.proofs.layouts.Layouts.add.Goals as goal

pub invariant_of-self-in-None : goal.invariant_of-self-in-None
invariant_of-self-in-None c =
    let d : Descriptor = record { ty = c.args.ty; length = c.args.count; columns = c.in_ok-columns-in-None.columns } in
    let e = c.requires.few in
    let v = ap length c.self.view_is in
    let a = length-append c.self.inside.descriptors.items (d ∷ []) in
    let l : length (c.self.inside.descriptors.items ++ d ∷ []) < 4294967296 = omega arith in
    (subst AllDescribed (sym c.in_ok-push-in-None.ensures.ok) (all_more c.self.inside.descriptors.items d c.self.invariant.0 c.in_ok-columns-in-None.ensures.table), subst (λ ds. length ds < 4294967296) (sym c.in_ok-push-in-None.ensures.ok) l)

pub returns-in_ok-push-in-None-clause-number : goal.returns-in_ok-push-in-None-clause-number
returns-in_ok-push-in-None-clause-number c =
    let d : Descriptor = record { ty = c.args.ty; length = c.args.count; columns = c.in_ok-columns-in-None.columns } in
    let none : None ≡ number_in c.args.self.now c.args.ty c.args.count = c.in-None.ensures ∙ ap (λ l. number_in l c.args.ty c.args.count) (c.as_slice.ensures.value ∙ c.self.view_is) in
    let e = c.len-number.ensures in
    let v = ap length c.self.view_is in
    let n : c.len-number.result ≡ length c.args.self.now = omega arith in
    let added : IsAdded c.args.types.now c.args.ty c.args.count c.args.self.now c.push.new.items.items c.len-number.result = record {
      added = d;
      behind = c.in_ok-push-in-None.ensures.ok ∙ ap (λ l. l ++ d ∷ []) c.self.view_is;
      number_is = n;
      ty = refl;
      length = refl;
      is_of = c.in_ok-columns-in-None.ensures.form;
    } in
    subst (λ o. Numbered c.args.types.now c.args.ty c.args.count c.args.self.now c.push.new.items.items c.len-number.result o) none added

pub returns-in_ok-push-in-None-clause-described : goal.returns-in_ok-push-in-None-clause-described
returns-in_ok-push-in-None-clause-described c =
    let d : Descriptor = record { ty = c.args.ty; length = c.args.count; columns = c.in_ok-columns-in-None.columns } in
    subst (AreOf c.args.types.now) (ap (λ l. l ++ d ∷ []) (sym c.self.view_is) ∙ sym c.in_ok-push-in-None.ensures.ok) (of_more c.args.types.now c.args.self.now d c.requires.described c.in_ok-columns-in-None.ensures.form)
