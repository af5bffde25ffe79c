use Rattle.std.proofs.Common.{◌≡◌, ◌+◌, ◌≤◌, ◌||◌, take, length}
use Rattle.indexmap.specs.IndexSet.{spare}
use Rattle.cx_type_defs.specs.declared.ids.FuncId.{FuncId}
use Rattle.cx_type_defs.specs.Tables.{lists_function}
use Rattle.cx_types.proofs.func_set.FuncSet.add_all.Given as goal

abbrev pub invariant-loop-func : goal.invariant-loop-func
invariant-loop-func l = record {
  room : length l.funcs ≤ spare l.self-inside.funcs + l.func-index;
  added : (f : FuncId) → lists_function f l.self-inside.funcs.keys ≡ (lists_function f l.fn.self || lists_function f (take l.func-index l.funcs));
}
