use Rattle.std.proofs.Common.{vec_items, sym, arith}
use Rattle.std.proofs.lemmas.List.{length-map}
use Rattle.std.proofs.lemmas.Result.{err_from_is_err_and}
use mathlib.Core.Path.{subst}
use Rattle.syntax.specs.Views.{line_of}
use Rattle.syntax.proofs.Numbers.{term_there}
use Rattle.roles.specs.Players.{player_of}
use Rattle.roles.specs.Stages.{message}
use Rattle.roles.specs.Staging.{stage_of, Comes}
use Rattle.roles.proofs.OneLine.{refused_is, no_sender_place, no_receiver, no_receiver_place, message_comes}
use Rattle.roles.proofs.translation.Translation.line.Goals as goal

pub returns-in_err-sender_place-clause-comes : goal.returns-in_err-sender_place-clause-comes
returns-in_err-sender_place-clause-comes c =
    let text = c.args.input.text.now in
    let l = line_of c.args.input.spec.now c.args.line in
    let T = c.args.self.now in
    let p = err_from_is_err_and c.from_residual-in_err-sender_place.result c.from_residual-in_err-sender_place.ensures.1 in
    rw (p.1, p.2)
    (no_sender_place c.args.input.limits text c.args.number l (stage_of T) c.in_ok-sender.sender (sym c.in_ok-sender.ensures)
    c.in_err-sender_place.field-0.0 c.in_err-sender_place.ensures.finds)

pub returns-in_err-receiver-clause-comes : goal.returns-in_err-receiver-clause-comes
returns-in_err-receiver-clause-comes c =
    let text = c.args.input.text.now in
    let l = line_of c.args.input.spec.now c.args.line in
    let T = c.args.self.now in
    let w = c.in_ok-sender_place.ensures.finds.0 in
    let p = err_from_is_err_and c.from_residual-in_err-receiver.result c.from_residual-in_err-receiver.ensures.1 in
    rw (p.1, p.2)
    (refused_is _ (no_receiver c.args.input.limits text c.args.number l (stage_of T) c.in_ok-sender.sender (sym c.in_ok-sender.ensures)
    (stage_of c.role.new.self) w c.in_err-receiver.field-0.0 (sym c.in_err-receiver.ensures)))

pub returns-in_err-receiver_place-clause-comes : goal.returns-in_err-receiver_place-clause-comes
returns-in_err-receiver_place-clause-comes c =
    let text = c.args.input.text.now in
    let l = line_of c.args.input.spec.now c.args.line in
    let T = c.args.self.now in
    let w = c.in_ok-sender_place.ensures.finds.0 in
    let p = err_from_is_err_and c.from_residual-in_err-receiver_place.result c.from_residual-in_err-receiver_place.ensures.1 in
    rw (p.1, p.2)
    (no_receiver_place c.args.input.limits text c.args.number l (stage_of T) c.in_ok-sender.sender (sym c.in_ok-sender.ensures)
    (stage_of c.role.new.self) w c.in_ok-receiver.receiver (sym c.in_ok-receiver.ensures)
    c.if-receiver-sender.false
    c.in_err-receiver_place.field-0.0 c.in_err-receiver_place.ensures.finds)

pub returns-clause-comes : goal.returns-clause-comes
returns-clause-comes c =
    let text = c.args.input.text.now in
    let l = line_of c.args.input.spec.now c.args.line in
    let T = c.args.self.now in
    let f = c.in_ok-sender_place.ensures.finds in
    let w = f.0 in
    let g = c.in_ok-receiver_place.ensures.finds in
    let v = g.0 in
    let n = length-map (vec_items c.role.new.self.roles) (player_of c.role.new.self.declarations.terms) in
    let s = c.args.input.spec.now in
    let b = f.2 in
    message_comes c.args.input.limits text c.args.number l (stage_of T) c.in_ok-sender.sender (sym c.in_ok-sender.ensures)
    (stage_of c.role.new.self) w c.in_ok-receiver.receiver (sym c.in_ok-receiver.ensures)
    c.if-receiver-sender.false
    (stage_of c.role-2.new.self) v c.in_ok-sender_place.sender_place c.in_ok-receiver_place.receiver_place f.1 (omega arith) g.1
    c.message.new.self c.message.result
    (subst (λ m. Comes (message c.args.input.limits text c.args.number m c.in_ok-sender_place.sender_place c.in_ok-receiver_place.receiver_place (stage_of c.role-2.new.self)) c.message.new.self c.message.result)
    (term_there s.terms.items c.args.line.message c.nothing-nothing.result c.term_or-message.result.now c.term_or-message.ensures c.nothing-nothing.ensures) c.message.ensures.comes)
