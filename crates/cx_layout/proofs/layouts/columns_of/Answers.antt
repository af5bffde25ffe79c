use Rattle.std.proofs.Common.{◌≡◌, ◌≤◌, Some, sym, subst}
use Rattle.cx_layout.specs.TypeForms.{object_form, object_cells}
use Rattle.cx_layout.specs.Described.{columns_form}
use Rattle.cx_layout.proofs.Wholes.{piece_room, array_room, piece_form, array_form}
use Rattle.cx_layout.proofs.layouts.columns_of.Goals as goal

pub lay_piece-requires : goal.lay_piece-requires
lay_piece-requires c = piece_room c.args.types.now c.args.ty c.requires.sound c.requires.complete c.new.result.items c.new-2.result.items c.new.ensures.items c.new-2.ensures.items

pub lay_array-requires : goal.lay_array-requires
lay_array-requires c = array_room c.args.types.now c.args.ty c.requires.sound c.requires.complete c.in-Some.n c.new.result.items c.new-2.result.items c.new.ensures.items c.new-2.ensures.items (subst (λ o. object_cells c.args.types.now c.args.ty o ≤ 1073741824) c.in-Some.is c.requires.few_cells)

pub returns-in_ok-lay_piece-in-None-clause-form : goal.returns-in_ok-lay_piece-in-None-clause-form
returns-in_ok-lay_piece-in-None-clause-form c =
    subst (λ o. object_form c.args.types.now c.args.ty o ≡ Some (columns_form c.lay_piece.new.self)) (sym c.in-None.is)
    (piece_form c.args.types.now c.args.ty c.requires.sound c.requires.complete c.new.result.items c.lay_piece.new.self.nodes.items c.new-2.result.items c.lay_piece.new.self.parts.items _ _ c.new.ensures.items c.new-2.ensures.items c.in_ok-lay_piece-in-None.ensures).0

pub returns-in_ok-lay_piece-in-None-clause-table : goal.returns-in_ok-lay_piece-in-None-clause-table
returns-in_ok-lay_piece-in-None-clause-table c =
    (piece_form c.args.types.now c.args.ty c.requires.sound c.requires.complete c.new.result.items c.lay_piece.new.self.nodes.items c.new-2.result.items c.lay_piece.new.self.parts.items _ _ c.new.ensures.items c.new-2.ensures.items c.in_ok-lay_piece-in-None.ensures).1

pub returns-in_ok-lay_array-in-Some-clause-form : goal.returns-in_ok-lay_array-in-Some-clause-form
returns-in_ok-lay_array-in-Some-clause-form c =
    subst (λ o. object_form c.args.types.now c.args.ty o ≡ Some (columns_form c.lay_array.new.self)) (sym c.in-Some.is)
    (array_form c.args.types.now c.args.ty c.requires.sound c.requires.complete c.new.result.items c.lay_array.new.self.nodes.items c.new-2.result.items c.lay_array.new.self.parts.items _ _ c.new.ensures.items c.new-2.ensures.items c.in-Some.n (subst (λ o. object_cells c.args.types.now c.args.ty o ≤ 1073741824) c.in-Some.is c.requires.few_cells) c.in_ok-lay_array-in-Some.ensures).0

pub returns-in_ok-lay_array-in-Some-clause-table : goal.returns-in_ok-lay_array-in-Some-clause-table
returns-in_ok-lay_array-in-Some-clause-table c =
    (array_form c.args.types.now c.args.ty c.requires.sound c.requires.complete c.new.result.items c.lay_array.new.self.nodes.items c.new-2.result.items c.lay_array.new.self.parts.items _ _ c.new.ensures.items c.new-2.ensures.items c.in-Some.n (subst (λ o. object_cells c.args.types.now c.args.ty o ≤ 1073741824) c.in-Some.is c.requires.few_cells) c.in_ok-lay_array-in-Some.ensures).1
