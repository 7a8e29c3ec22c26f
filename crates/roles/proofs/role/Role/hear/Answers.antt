use Rattle.roles.proofs.Played.{line_ended}
use Rattle.roles.proofs.role.Role.hear.Goals as goal

pub returns-in-Ok : goal.returns-in-Ok
returns-in-Ok c =
    let e = c.in-Ok.ensures in
    let l = line_ended c.args.table.now c.args.turn c.args.self.now c.hear.new.self _ e.0 (record { knows = e.1; orderly = e.2 })
    c.end_line.new.self c.end_line.result c.end_line.ensures.rest c.end_line.ensures.ends in record {
      fits = l.0;
      plays = l.1;
    }
