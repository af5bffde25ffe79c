use Rattle.std.proofs.Common.{Some, refl, ap, ◌∙◌}
use Rattle.cx_type_defs.specs.declared.decl.ClassKey.TheVariants as key
use Rattle.cx_store_cases.proofs.Reaching.{class-within, class-there}
use Rattle.cx_store_cases.proofs.parts.plain_class.Goals as goal

pub key-requires : goal.key-requires
key-requires g c = class-within c.args.types.now c.args.at.kind c.in_ok-class.class c.in_ok-class.ensures

pub returns-in-Struct : goal.returns-in-Struct
returns-in-Struct g c = class-there c.args.types.now (g.S.Store.objects c.args.store.now) (g.S.Store.path c.args.store.now) c.args.at c.in_ok-class.class key.Struct c.requires.seat c.in_ok-class.ensures (c.key.ensures ∙ ap Some c.in-Struct.is) refl

pub returns-in-Class : goal.returns-in-Class
returns-in-Class g c = class-there c.args.types.now (g.S.Store.objects c.args.store.now) (g.S.Store.path c.args.store.now) c.args.at c.in_ok-class.class key.Class c.requires.seat c.in_ok-class.ensures (c.key.ensures ∙ ap Some c.in-Class.is) refl
