use Rattle.std.proofs.Common.{refl, sym, subst, ◌∙◌, [], ◌∷◌}
use Rattle.cx_base.specs.declared.rule.Rule.TheVariants as rule
use Rattle.cx_state.specs.Objects.{Leaf, put}
use Rattle.cx_state.specs.Conditions as on
use Rattle.cx_store.specs.Stores.{seen}
use Rattle.cx_records.specs.Records.{objects_of, forms_in, path_in}
use Rattle.cx_records.specs.Fits.{Fits}
use Rattle.cx_records.proofs.Writing.{room, given_value, store_fits, changed_ok, changed_err}
use Rattle.cx_records.proofs.store.Records.store_at.Goals as goal

pub put-requires : goal.put-requires
put-requires c = room c.args.types.now c.args.self.now.records.items c.args.self.now.live c.args.at on.Store (rule.InactiveMember ∷ rule.OutOfLifetime ∷ rule.ConstWrite ∷ []) c.requires.fits c.requires.known refl (sym c.store_rule.ensures ∙ c.in-None.is)

pub returns-in-Some-clause-changed : goal.returns-in-Some-clause-changed
returns-in-Some-clause-changed c =
    let rs = c.args.self.now.records.items in
    let q = path_in (forms_in rs) c.args.at in
    changed_err (on.broken c.args.types.now (objects_of rs) q on.Store) c.in-Some.rule (put (λ _. Leaf (seen (path_in (forms_in rs)) c.args.value)) (objects_of rs) q) (objects_of rs) (sym c.store_rule.ensures ∙ c.in-Some.is)

pub returns-in-None-clause-changed : goal.returns-in-None-clause-changed
returns-in-None-clause-changed c =
    let rs = c.args.self.now.records.items in
    let q = path_in (forms_in rs) c.args.at in
    let b = sym c.store_rule.ensures ∙ c.in-None.is in
    let g = given_value c.args.types.now rs c.put.new.self.records.items c.args.self.now.live c.args.at c.args.value on.Store (rule.InactiveMember ∷ rule.OutOfLifetime ∷ rule.ConstWrite ∷ []) c.requires.fits c.requires.known c.requires.scalar refl b c.put.ensures.written in
    changed_ok (on.broken c.args.types.now (objects_of rs) q on.Store) (put (λ _. Leaf (seen (path_in (forms_in rs)) c.args.value)) (objects_of rs) q) (objects_of rs) (objects_of c.put.new.self.records.items) b g.gives.objects

pub returns-in-None-clause-paths : goal.returns-in-None-clause-paths
returns-in-None-clause-paths c =
    let b = sym c.store_rule.ensures ∙ c.in-None.is in
    let g = given_value c.args.types.now c.args.self.now.records.items c.put.new.self.records.items c.args.self.now.live c.args.at c.args.value on.Store (rule.InactiveMember ∷ rule.OutOfLifetime ∷ rule.ConstWrite ∷ []) c.requires.fits c.requires.known c.requires.scalar refl b c.put.ensures.written in
    g.gives.forms

pub returns-in-None-clause-fit : goal.returns-in-None-clause-fit
returns-in-None-clause-fit c =
    let rs = c.args.self.now.records.items in
    let b = sym c.store_rule.ensures ∙ c.in-None.is in
    let g = given_value c.args.types.now rs c.put.new.self.records.items c.args.self.now.live c.args.at c.args.value on.Store (rule.InactiveMember ∷ rule.OutOfLifetime ∷ rule.ConstWrite ∷ []) c.requires.fits c.requires.known c.requires.scalar refl b c.put.ensures.written in
    subst (Fits c.args.types.now c.put.new.self.records.items) (sym c.put.ensures.live)
    (g.gives.fits (store_fits c.args.types.now rs c.put.new.self.records.items c.args.self.now.live c.args.at (seen (path_in (forms_in rs)) c.args.value) c.requires.fits c.requires.known c.requires.scalar c.requires.holds g.form g.typed b g.gives.objects))
