use Rattle.cx_parser_decls.proofs.Depth.{deep_member, member_deeper, reads_as}
use Rattle.cx_parser_decls.proofs.classes.Classes.member_below.Goals as goal

pub overflow_sub-self : goal.overflow_sub-self
overflow_sub-self g c = deep_member c.args.self.now.left c.requires.room

pub member-requires : goal.member-requires
member-requires g c = c.requires.nests.callable (deep_member c.args.self.now.left c.requires.room) _ _

pub returns : goal.returns
returns g c = reads_as c.args.tokens.now c.member.new.arg3 c.member.result (member_deeper c.args.self.now.left c.requires.room) (c.requires.nests.reads _ _ _ _ c.member.ensures)
