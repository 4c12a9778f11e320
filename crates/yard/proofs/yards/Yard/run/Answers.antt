use Rattle.std.proofs.Common.{None, Ok, Option, sym, refl, ap, ◌∙◌}
use mathlib.Core.Logic.{∥∥₁_map, ∥∥₁_elim}
use Rattle.refusal.specs.declared.refusals.Refusal.{Refusal}
use Rattle.yard_steps.specs.declared.reports.Report.{Report}
use Rattle.yard_steps.specs.Steps.{Ran, ran}
use Rattle.yard_steps.specs.Calls.{Running, or_refused}
use Rattle.yard_steps.proofs.Fenced.{fence}
use Rattle.yard_steps.proofs.Runs.{runnable}
use Rattle.yard.specs.Yards.{seen}
use Rattle.yard.proofs.Props.{goes_prop}
use Rattle.yard.proofs.yards.Yard.run.Goals as goal

pub returns-in-Some : goal.returns-in-Some
returns-in-Some g c =
    let y = seen c.args.self.now in
    let A = g.P.Policy.allowed c.args.policy.now in
    let bs = g.M.Memory.bytes c.args.memory.now in
    let k = c.args.budget in
    record {
      is = ap (λ (o : Option Refusal). or_refused o y bs (ran A k 0 y bs)) c.in-Some.ensures;
      lent = refl;
      token = tt;
      fenced = ∥∥₁_map c.args.self.now.whole (λ h. fence A k y bs h);
    }

pub run_on-requires : goal.run_on-requires
run_on-requires g c =
    let y = seen c.args.self.now in
    let bs = g.M.Memory.bytes c.args.memory.now in
    ∥∥₁_elim c.args.self.now.whole (goes_prop y) (λ h. let t = runnable y bs h (sym c.in_default.ensures) in record { some = t.0; free = t.1 })

pub returns : goal.returns
returns g c =
    let y = seen c.args.self.now in
    let A = g.P.Policy.allowed c.args.policy.now in
    let bs = g.M.Memory.bytes c.args.memory.now in
    let k = c.args.budget in
    let y' = seen c.run_on.new.self in
    let bs' = g.M.Memory.bytes c.run_on.new.memory in
    record {
      is = ap {B = Running} (λ (r : Report). record { yard = y'; bytes = bs'; answer = Ok r }) c.outcome.ensures.is
          ∙ (ap (λ (a : Ran). or_refused None y bs a) c.run_on.ensures.is ∙ ap (λ (o : Option Refusal). or_refused o y bs (ran A k 0 y bs)) c.in_default.ensures);
      lent = c.run_on.ensures.lent;
      token = c.outcome.ensures.token;
      fenced = ∥∥₁_map c.args.self.now.whole (λ h. fence A k y bs h);
    }
