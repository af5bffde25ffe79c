use Rattle.std.proofs.Common.{◌∙◌, ◌-◌, sym, ap}
use Rattle.std.proofs.lemmas.Result.{on_ok_weaker}
use Rattle.cx_scopes.specs.Lookup.{levels_of}
use Rattle.cx_scopes.specs.Arguments.{class_spaces, kind_spaces, listed, type_spaces, with_spaces}
use Rattle.cx_scopes.proofs.Associated.{kind_spaces-none, type_spaces-none, type_spaces-row}
use Rattle.cx_scopes.proofs.scopes.Scopes.+add_type.Goals as goal

pub returns-then-levels-eq0-clause-ok : goal.returns-then-levels-eq0-clause-ok
returns-then-levels-eq0-clause-ok t c = ap (with_spaces c.args.spaces.now) (sym (type_spaces-none c.args.self.now c.args.types.now c.args.levels c.args.id c.if-levels-eq0.true))

pub returns-in-Class-clause-ok : goal.returns-in-Class-clause-ok
returns-in-Class-clause-ok t c =
    let s = c.args.self.now in
    let u = c.args.types.now in
    let opens = type_spaces-row s u c.args.levels c.args.id c.row.result c.if-levels-eq0.false c.row.ensures ∙ ap (kind_spaces s u (type_spaces s u (c.args.levels - 1))) c.in-Class.is in
    on_ok_weaker c.add_class.result
    (λ e. e
    ∙ ap (λ n. with_spaces c.args.spaces.now (class_spaces s u n c.in-Class.class)) (c.len.ensures.len ∙ ap levels_of c.self.view_is)
    ∙ ap (with_spaces c.args.spaces.now) (sym opens))
    c.add_class.ensures.ok

pub returns-in-Enum-clause-ok : goal.returns-in-Enum-clause-ok
returns-in-Enum-clause-ok t c =
    let s = c.args.self.now in
    let u = c.args.types.now in
    let opens = type_spaces-row s u c.args.levels c.args.id c.row.result c.if-levels-eq0.false c.row.ensures ∙ ap (kind_spaces s u (type_spaces s u (c.args.levels - 1))) c.in-Enum.is in
    on_ok_weaker c.add_if.result
    (λ e. e ∙ ap (λ o. with_spaces c.args.spaces.now (listed o)) c.enum_space.ensures ∙ ap (with_spaces c.args.spaces.now) (sym opens))
    c.add_if.ensures.ok

pub returns-in-Pointer-clause-ok : goal.returns-in-Pointer-clause-ok
returns-in-Pointer-clause-ok t c =
    let s = c.args.self.now in
    let u = c.args.types.now in
    let opens = type_spaces-row s u c.args.levels c.args.id c.row.result c.if-levels-eq0.false c.row.ensures ∙ ap (kind_spaces s u (type_spaces s u (c.args.levels - 1))) c.in-Pointer.is in
    on_ok_weaker c.add_type.result (λ e. e ∙ ap (with_spaces c.args.spaces.now) (sym opens)) c.add_type.ensures.ok

pub returns-in-Array-clause-ok : goal.returns-in-Array-clause-ok
returns-in-Array-clause-ok t c =
    let s = c.args.self.now in
    let u = c.args.types.now in
    let opens = type_spaces-row s u c.args.levels c.args.id c.row.result c.if-levels-eq0.false c.row.ensures ∙ ap (kind_spaces s u (type_spaces s u (c.args.levels - 1))) c.in-Array.is in
    on_ok_weaker c.add_type-in-Array.result (λ e. e ∙ ap (with_spaces c.args.spaces.now) (sym opens)) c.add_type-in-Array.ensures.ok

pub returns-in_default-clause-ok : goal.returns-in_default-clause-ok
returns-in_default-clause-ok t c =
    let s = c.args.self.now in
    let u = c.args.types.now in
    ap (with_spaces c.args.spaces.now)
    (sym (type_spaces-row s u c.args.levels c.args.id c.row.result c.if-levels-eq0.false c.row.ensures
    ∙ kind_spaces-none s u (type_spaces s u (c.args.levels - 1)) c.row.result.kind c.in_default.not-Enum c.in_default.not-Pointer c.in_default.not-Array c.in_default.not-Class))
