use Rattle.std.proofs.Common.{◌≡◌, suc, ◌+◌, None, ◌∷◌, ◌++◌, take, drop, get_or, refl, sym, ap, ◌∙◌, arith}
use Rattle.cx_type_defs.specs.declared.ids.Step.TheVariants as step
use Rattle.cx_layout.specs.Places.{place_of}
use Rattle.cx_layout.specs.Described.{columns_form}
use Rattle.cx_layout.proofs.Following.{split, take_more, take_whole, past_end, is_there, not_fitting, fitting, one_on}
use Rattle.cx_layout.proofs.columns.Columns.place_of.Goals as goal
use Rattle.cx_layout.proofs.columns.Columns.place_of.Goals.{then-at-via-then-at, then-at-via-else-at+then-not-has_step}

pub loop-i-init : goal.loop-i-init
loop-i-init c = refl

pub node-requires : goal.node-requires
node-requires c = is_there c.args.self.now.nodes.items c.args.self.now.parts.items (columns_form c.args.self.now) c.args.block c.requires (take c.loop-i.i c.args.steps.now) (get_or c.args.steps.now c.loop-i.i (step.Base 0)) c.loop-i.at c.loop-i.invariant

pub returns-then-at : goal.returns-then-at
returns-then-at c = sym (ap (place_of (columns_form c.args.self.now) c.args.block) (split c.args.steps.now c.loop-i.i (step.Base 0) c.loop-i-test.true) ∙ stops)
  where
    stops : place_of (columns_form c.args.self.now) c.args.block (take c.loop-i.i c.args.steps.now ++ get_or c.args.steps.now c.loop-i.i (step.Base 0) ∷ drop (suc c.loop-i.i) c.args.steps.now) ≡ None
    stops = elim c.then-at.branch as (λ _. place_of (columns_form c.args.self.now) c.args.block (take c.loop-i.i c.args.steps.now ++ get_or c.args.steps.now c.loop-i.i (step.Base 0) ∷ drop (suc c.loop-i.i) c.args.steps.now) ≡ None) [
      | then-at-via-then-at w ↦ past_end (columns_form c.args.self.now) c.args.block (take c.loop-i.i c.args.steps.now) (get_or c.args.steps.now c.loop-i.i (step.Base 0)) (drop (suc c.loop-i.i) c.args.steps.now) c.loop-i.at c.loop-i.invariant w.if-at.true
      | then-at-via-else-at+then-not-has_step w ↦ not_fitting c.args.self.now.nodes.items c.args.self.now.parts.items (columns_form c.args.self.now) c.args.block c.requires (take c.loop-i.i c.args.steps.now) (get_or c.args.steps.now c.loop-i.i (step.Base 0)) c.loop-i.at c.loop-i.invariant w.if-at.false w.node.result w.node.ensures (drop (suc c.loop-i.i) c.args.steps.now) (sym w.has_step.ensures ∙ w.if-not-has_step.true)
    ]

pub step-at-requires-clause-step : goal.step-at-requires-clause-step
step-at-requires-clause-step c = fitting c.args.self.now.nodes.items c.args.self.now.parts.items (columns_form c.args.self.now) c.args.block c.requires (take c.loop-i.i c.args.steps.now) (get_or c.args.steps.now c.loop-i.i (step.Base 0)) c.loop-i.at c.loop-i.invariant c.if-at.false c.node.result c.node.ensures (sym c.has_step.ensures ∙ c.if-not-has_step.false)

pub loop-i-preserved : goal.loop-i-preserved
loop-i-preserved c =
    let n : c.loop-i.i + 1 ≡ suc c.loop-i.i = omega arith in
    ap (λ k. place_of (columns_form c.args.self.now) c.args.block (take k c.args.steps.now)) n
    ∙ ap (place_of (columns_form c.args.self.now) c.args.block) (take_more c.args.steps.now c.loop-i.i (step.Base 0) c.loop-i-test.true)
    ∙ one_on c.args.self.now.nodes.items c.args.self.now.parts.items (columns_form c.args.self.now) c.args.block c.requires (take c.loop-i.i c.args.steps.now) (get_or c.args.steps.now c.loop-i.i (step.Base 0)) c.loop-i.at c.loop-i.invariant c.if-at.false c.node.result c.node.ensures c.step-at.result c.step-at.ensures

pub returns : goal.returns
returns c = sym (ap (place_of (columns_form c.args.self.now) c.args.block) (sym (take_whole c.args.steps.now c.loop-i.i (omega arith))) ∙ c.loop-i.invariant)
