use Rattle.std.proofs.Common.{refl}
use Rattle.roles.proofs.Played.{with_state, line_ended, said_well, not_said}
use Rattle.roles.proofs.role.Role.say.Goals as goal

pub returns-in-Ok : goal.returns-in-Ok
returns-in-Ok c =
    let e = c.in-Ok.ensures in
    let l = line_ended c.args.table.now c.args.turn c.args.self.now c.say.new.self _ refl (record { knows = e.1; orderly = e.2 })
    c.end_line.new.self c.end_line.result c.end_line.ensures.rest c.end_line.ensures.ends in record {
      fits = l.0;
      plays = λ us h.
          said_well c.args.table.now c.args.turn c.args.self.now c.args.term c.args.made.now us c.say.new.self e.0 c.end_line.new.self c.end_line.result l.1;
    }

pub returns-in-Err : goal.returns-in-Err
returns-in-Err c = record {
  fits = tt;
  plays = λ us h.
      not_said c.args.table.now c.args.turn c.args.self.now c.args.term c.args.made.now us h c.say.new.self c.in-Err.fault c.in-Err.ensures c.of_role.result c.of_role.ensures (with_state c.args.self.now c.say.new.self);
}
