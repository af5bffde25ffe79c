use Rattle.std.proofs.Common.{arith, ◌||◌, sym, ap, ◌∙◌, get_or, take}
use Rattle.std.proofs.lemmas.List.{take_more}
use Rattle.cx_type_defs.specs.Tables.{lists_function}
use Rattle.cx_types.proofs.Funcs.{lists-more}
use Rattle.cx_types.proofs.func_set.FuncSet.add_all.Goals as goal

pub loop-func-preserved : goal.loop-func-preserved
loop-func-preserved c = record {
  room = (let s = c.insert.ensures.spare in omega (arith, s));
  added = λ f.
      let x = get_or c.args.funcs.now c.loop-func.func-index (record { 0 = 0 }) in
      let put = rw c.unwrap.ensures at c.insert.ensures.keys in
      lists-more f x c.args.self.now c.loop-func.self-inside.funcs.keys c.insert.new.self.keys (take c.loop-func.func-index c.args.funcs.now) (c.loop-func.invariant.added f) put
      ∙ ap (λ l. lists_function f c.args.self.now || lists_function f l) (sym (take_more c.args.funcs.now c.loop-func.func-index (record { 0 = 0 }) c.loop-func-test.true));
}
