use Rattle.std.proofs.Common.{◌≡◌, ◌+◌, ◌≤◌, ◌-◌, ◌∙◌, Some, ap, subst, arith}
use Rattle.cx_derived.specs.Ways.{led, ways_within}
use Rattle.cx_derived.proofs.Counting.{taken-all, leads, none-left, led-more, same-class}
use Rattle.cx_derived.proofs.path.steps.Goals as goal

pub loop-taken-init : goal.loop-taken-init
loop-taken-init c = record {
  led_here = ap (led c.args.types.now c.args.class) c.new-steps.ensures;
  known_here = c.requires.known;
  leads_on = taken-all c.args.types.now c.args.class c.args.base c.requires.derived;
}

pub returns-then-at-base : goal.returns-then-at-base
returns-then-at-base c = c.loop-taken.invariant.led_here ∙ ap Some (same-class c.loop-taken.at c.args.base c.if-at-base.true)

pub step_to-requires : goal.step_to-requires
step_to-requires c = c.loop-taken.invariant.known_here

pub returns-in-None : goal.returns-in-None
returns-in-None c = absurd (leads c.args.types.now c.args.base c.loop-taken.at (512 - c.loop-taken.taken) (511 - c.loop-taken.taken) c.loop-taken.invariant.leads_on c.if-at-base.false (omega arith) c.in-None.ensures)

pub loop-taken-preserved : goal.loop-taken-preserved
loop-taken-preserved c = record {
  led_here = ap (led c.args.types.now c.args.class) c.in_ok-push-in-Some.ensures.ok ∙ led-more c.args.types.now c.args.class c.loop-taken.at c.loop-taken.steps c.in-Some.i c.in-Some.next c.loop-taken.invariant.led_here c.in-Some.ensures.0;
  known_here = c.in-Some.ensures.1;
  leads_on =
      let same : 511 - c.loop-taken.taken ≡ 512 - (c.loop-taken.taken + 1) = omega arith in
      subst (λ n. 1 ≤ ways_within c.args.types.now c.args.base n c.in-Some.next) same c.in-Some.ensures.2;
}

pub returns : goal.returns
returns c = absurd (none-left c.args.types.now c.args.base c.loop-taken.at (512 - c.loop-taken.taken) c.loop-taken.invariant.leads_on (omega (arith, c.loop-taken-test.false)))
