use Rattle.std.proofs.Common.{◌≡◌, ◌-◌, ap, ◌∙◌, arith}
use Rattle.yard_steps.specs.declared.reports.Report.{Report}
use Rattle.yard_steps.specs.Steps.{ran}
use Rattle.yard.specs.Yards.{seen, ran_to}
use Rattle.yard.proofs.Running.{going, ending}
use Rattle.yard.proofs.yards.Yard.run_on.Goals as goal

pub loop-count-preserved : goal.loop-count-preserved
loop-count-preserved g c =
    let A = g.P.Policy.allowed c.args.policy.now in
    let y = seen c.loop-count.self in
    let bs = g.M.Memory.bytes c.loop-count.memory in (
      omega arith,
      c.step.ensures.on c.in_default.is,
      going A y (seen c.step.new.self) bs (g.M.Memory.bytes c.step.new.memory) (c.args.budget - c.loop-count.count) _ c.loop-count.count (omega arith) (omega arith) c.in_default.ensures.is
          ∙ c.loop-count.invariant.2,
      c.step.ensures.lent ∙ c.loop-count.invariant.3,
    )

pub returns-then-count-budget : goal.returns-then-count-budget
returns-then-count-budget g c =
    let A = g.P.Policy.allowed c.args.policy.now in
    let y = seen c.loop-count.self in
    let bs = g.M.Memory.bytes c.loop-count.memory in
    let none : 0 ≡ c.args.budget - c.loop-count.count = omega arith in
    record { is = c.spent.ensures bs ∙ (ap (λ k. ran A k c.loop-count.count y bs) none ∙ c.loop-count.invariant.2); lent = c.loop-count.invariant.3 }

pub returns-in-Some : goal.returns-in-Some
returns-in-Some g c =
    let A = g.P.Policy.allowed c.args.policy.now in
    let y = seen c.loop-count.self in
    let bs = g.M.Memory.bytes c.loop-count.memory in
    let y' = seen c.step.new.self in
    let bs' = g.M.Memory.bytes c.step.new.memory in
    record {
      is = ap (λ (r : Report). ran_to y' bs' r) c.report.ensures ∙ (ending A y y' bs bs' (c.args.budget - c.loop-count.count) c.loop-count.count c.in-Some.ending (omega arith) c.in-Some.ensures.is ∙ c.loop-count.invariant.2);
      lent = c.step.ensures.lent ∙ c.loop-count.invariant.3;
    }
