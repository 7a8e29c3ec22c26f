use Rattle.std.proofs.Common.{map, Ok, Err, refl, ap, ◌∙◌}
use Rattle.std.proofs.lemmas.Result.{err_from_is_err_and}
use Rattle.terms.specs.Meanings.{scope_of}
use Rattle.terms.specs.Terms.{tree_in}
use Rattle.roles.specs.declared.role.Role.{Role}
use Rattle.roles.proofs.Played.{line_ended}
use Rattle.roles.proofs.Begun.{begun}
use Rattle.roles.proofs.role.Role.start.Goals as goal

pub returns-in_err-end_line-in-Ok : goal.returns-in_err-end_line-in-Ok
returns-in_err-end_line-in-Ok c =
    let t = c.args.declarations.now.terms in
    let e = rw c.terms.ensures at c.in-Ok.ensures in
    let r : Role = record { name = c.args.number; part = c.args.name.part; rows = c.new.result; party = c.in_ok-party.party; state = c.new-2.result } in
    let p = err_from_is_err_and c.from_residual-in_err-end_line-in-Ok.result c.from_residual-in_err-end_line-in-Ok.ensures.1 in record {
      fits = rw p.1 tt;
      starts =
          rw (p.1, p.2)
          (begun t c.args.limits (scope_of c.args.declarations.now) c.args.number c.args.name r refl refl c.new.ensures.items c.in_ok-party.ensures.functions
          c.as_slice.result.now (ap (map (tree_in t)) c.as_slice.ensures.value ∙ c.in_ok-terms.ensures.given)
          c.start.new.self tt e c.end_line.new.self (Err c.in_err-end_line-in-Ok.field-0.0) c.end_line.ensures.rest c.in_err-end_line-in-Ok.ensures.ends);
    }

pub returns-in-Ok : goal.returns-in-Ok
returns-in-Ok c =
    let t = c.args.declarations.now.terms in
    let e = rw c.terms.ensures at c.in-Ok.ensures in
    let r : Role = record { name = c.args.number; part = c.args.name.part; rows = c.new.result; party = c.in_ok-party.party; state = c.new-2.result } in record {
      fits = (line_ended t (record { line = 0; at = c.args.name.at; role = 0; limits = c.args.limits }) r c.start.new.self _ refl (record { knows = e.1; orderly = e.2 })
          c.end_line.new.self (Ok tt) c.end_line.ensures.rest c.in_ok-end_line-in-Ok.ensures.ends).0;
      starts =
          begun t c.args.limits (scope_of c.args.declarations.now) c.args.number c.args.name r refl refl c.new.ensures.items c.in_ok-party.ensures.functions
          c.as_slice.result.now (ap (map (tree_in t)) c.as_slice.ensures.value ∙ c.in_ok-terms.ensures.given)
          c.start.new.self tt e c.end_line.new.self (Ok tt) c.end_line.ensures.rest c.in_ok-end_line-in-Ok.ensures.ends;
    }
