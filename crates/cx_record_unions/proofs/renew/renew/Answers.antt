use Rattle.cx_record_unions.proofs.renew.renew.Goals as goal

pub put-requires : goal.put-requires
put-requires c = c.clear.ensures.room c.args.number (c.requires.rooms.room c.args.number c.requires.before)
