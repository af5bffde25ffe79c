use Rattle.std.proofs.Common.{Some, sym, ap, ◌∙◌}
use Rattle.cx_type_defs.specs.declared.kind.TypeKind.TheVariants as kind
use Rattle.cx_type_defs.specs.Questions.{extent_of, bytes}
use Rattle.cx_types.proofs.Rows.{asked-type_class}
use Rattle.cx_types.proofs.Extents.{leaf-at, leaf-pointer, leaf-reference}
use Rattle.cx_types.proofs.tables.Types.leaf_extent.Goals as goal

pub returns-in-Void : goal.returns-in-Void
returns-in-Void c = sym (leaf-at c.args.self.now c.args.id c.known_row.result kind.Void c.known_row.ensures.stands c.in-Void.is)

pub returns-in-Nullptr : goal.returns-in-Nullptr
returns-in-Nullptr c = ap Some c.bytes_of.ensures ∙ sym (leaf-at c.args.self.now c.args.id c.known_row.result kind.Nullptr c.known_row.ensures.stands c.in-Nullptr.is)

pub returns-in-Int : goal.returns-in-Int
returns-in-Int c = ap Some (c.bytes_of-in-Int.ensures ∙ ap bytes c.int_bytes.ensures) ∙ sym (leaf-at c.args.self.now c.args.id c.known_row.result (kind.Int c.in-Int.ty) c.known_row.ensures.stands c.in-Int.is)

pub returns-in-Enum : goal.returns-in-Enum
returns-in-Enum c = c.enum_extent.ensures ∙ sym (leaf-at c.args.self.now c.args.id c.known_row.result (kind.Enum c.in-Enum.id) c.known_row.ensures.stands c.in-Enum.is)

pub returns-in-Pointer : goal.returns-in-Pointer
returns-in-Pointer c = ap Some c.bytes_of-in-Pointer.ensures ∙ sym (leaf-pointer c.args.self.now c.args.id c.in-Pointer.field-0 c.known_row.result c.known_row.ensures.stands c.in-Pointer.is c.known_row.ensures.known)

pub returns-in-Reference : goal.returns-in-Reference
returns-in-Reference c = ap Some c.bytes_of-in-Reference.ensures ∙ sym (leaf-reference c.args.self.now c.args.id c.in-Reference.field-0 c.known_row.result c.known_row.ensures.stands c.in-Reference.is c.known_row.ensures.known)

pub returns-in-Class : goal.returns-in-Class
returns-in-Class c = c.class_extent.ensures ∙ sym (asked-type_class extent_of c.args.self.now c.args.id c.known_row.result c.in-Class.class c.known_row.ensures.stands c.in-Class.is)
