use Rattle.std.proofs.Common.{rules, map, take, [], ◌∷◌, ◌++◌, get_or, subst}
use Rattle.std.proofs.lemmas.List.{take_more}
use Rattle.std.proofs.lemmas.Result.{err_from_is_err_and}
use mathlib.Core.Path.{subst⁻¹}
use Rattle.run.specs.Called.{Shows}
use Rattle.run.specs.Filling.{lined}
use Rattle.run.specs.Plain.{new_plain}
use Rattle.sessions.specs.Starting.{NewRuns, IsNew}
use Rattle.sessions.proofs.Beginning.{new_refused}
use Rattle.sessions.proofs.Zips.{zip_more}
use Rattle.sessions.proofs.runs.all_new.Goals as goal

pub returns-in_err-run_of : goal.returns-in_err-run_of
returns-in_err-run_of c =
    let p = err_from_is_err_and c.from_residual-in_err-run_of.result c.from_residual-in_err-run_of.ensures.1 in
    rw (p.1, p.2)
    (new_refused c.args.counts.now c.args.roles.now c.loop-role.role-index c.role-item.result c.loop-role-test.true c.role-item.is c.as_slice.result.now c.as_slice.ensures.value
    c.in_err-run_of.field-0.0 c.in_err-run_of.ensures)

pub loop-role-preserved : goal.loop-role-preserved
loop-role-preserved c =
    let i = c.loop-role.role-index in
    let roles = c.args.roles.now in
    let runs = c.loop-role.runs.items in
    let run = c.in_ok-run_of.field-0 in
    record {
      new = subst⁻¹ (λ xs. NewRuns xs c.push_reserved.new.self.items) (take_more roles i c.role-item.result c.loop-role-test.true)
          (subst⁻¹ (λ ys. NewRuns (take i roles ++ (get_or roles i c.role-item.result ∷ [])) ys) c.push_reserved.ensures.items
          (zip_more IsNew (take i roles) runs (get_or roles i c.role-item.result) run c.loop-role.invariant.new
          (subst (λ r. IsNew r run) c.role-item.is (λ m. subst (λ xs. Shows m run (new_plain (map lined xs))) c.as_slice.ensures.value (c.in_ok-run_of.ensures.1 m)))));
      count = search rules;
      room = search rules;
    }
