use Rattle.cx_parser_decls.proofs.Depth.{deep_decl, decl_deeper, reads_as}
use Rattle.cx_parser_decls.proofs.decls.Spaces.decl_below.Goals as goal

pub overflow_sub-self : goal.overflow_sub-self
overflow_sub-self g c = deep_decl c.args.self.now.left c.requires.room

pub decl-requires : goal.decl-requires
decl-requires g c = c.requires.nests.callable (deep_decl c.args.self.now.left c.requires.room) _ _

pub returns : goal.returns
returns g c = reads_as c.args.tokens.now c.decl.new.arg3 c.decl.result (decl_deeper c.args.self.now.left c.requires.room) (c.requires.nests.reads _ _ _ _ c.decl.ensures)
