use Rattle.std.proofs.Common.{Some, refl, ap, ◌∙◌}
use Rattle.cx_type_defs.specs.declared.decl.ClassKey.TheVariants as key
use Rattle.cx_store_cases.proofs.Reaching.{class-within, union-there}
use Rattle.cx_store_cases.proofs.parts.union_of.Goals as goal

pub key-requires : goal.key-requires
key-requires g c = class-within c.args.types.now c.args.at.kind c.in_ok-class.class c.in_ok-class.ensures

pub returns-in-Union : goal.returns-in-Union
returns-in-Union g c = union-there c.args.types.now (g.S.Store.objects c.args.store.now) (g.S.Store.path c.args.store.now) c.args.at c.in_ok-class.class key.Union c.requires.seat c.in_ok-class.ensures (c.key.ensures ∙ ap Some c.in-Union.is) refl
