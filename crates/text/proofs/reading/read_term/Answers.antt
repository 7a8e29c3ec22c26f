use Rattle.std.proofs.Common.{length, Err, refl, ap, ◌∙◌, subst, arith}
use Rattle.std.proofs.lemmas.Result.{err_from_is_err_and}
use Rattle.text.specs.Standing.{frames, turn, Leads}
use Rattle.text.specs.Machine.{before}
use Rattle.text.specs.Reading.{count}
use Rattle.text.proofs.Forward.{moved}
use Rattle.text.proofs.Leading.{lead_fault, lead_token, ends_err, turns_err, turns_some, turns_none, room}
use Rattle.text.proofs.reading.read_term.Goals as goal

pub returns-in_err-token-clause-leads : goal.returns-in_err-token-clause-leads
returns-in_err-token-clause-leads c =
    let l = c.loop-builder.invariant in
    let p = err_from_is_err_and c.from_residual.result c.from_residual.ensures.1 in
    (Err c.in_err-token.field-0.0, lead_fault _ _ (ap (λ x. x.now) l.0) _ _ _ _ l.2 _ c.is_full.ensures _ c.in_err-token.ensures.read, rw (p.1, p.2) (ends_err c.in_err-token.field-0.0))

pub take-requires-clause-room : goal.take-requires-clause-room
take-requires-clause-room c = room _ _ c.is_full.ensures _ c.loop-builder.invariant.1 _ _ _ _ c.in_ok-token.ensures.read

pub returns-in_err-term-clause-leads : goal.returns-in_err-term-clause-leads
returns-in_err-term-clause-leads c =
    let l = c.loop-builder.invariant in
    let p = err_from_is_err_and c.from_residual-in_err-term.result c.from_residual-in_err-term.ensures.1 in
    (turn (frames c.loop-builder.builder.brackets.items) c.in_ok-token.token, lead_token _ _ (ap (λ x. x.now) l.0) _ _ _ _ l.2 _ c.is_full.ensures _ c.in_ok-token.ensures.read, rw (p.1, p.2) (turns_err _ _ _ _ c.in_err-term.ensures))

pub returns-in-Some-clause-leads : goal.returns-in-Some-clause-leads
returns-in-Some-clause-leads c =
    let l = c.loop-builder.invariant in
    (_, lead_token _ _ (ap (λ x. x.now) l.0) _ _ _ _ l.2 _ c.is_full.ensures _ c.in_ok-token.ensures.read, turns_some _ _ _ _ _ c.in-Some.is c.in_ok-term.ensures)

pub loop-builder-init : goal.loop-builder-init
unfolding count
loop-builder-init c = rw (c.new-builder.ensures.0, c.new-builder.ensures.1) (refl, refl, refl)

pub loop-builder-smaller : goal.loop-builder-smaller
loop-builder-smaller c =
    let m = moved c.loop-builder.reader.at c.next.new.self.at c.is_full.result c.loop-builder.reader.text.now c.in_ok-token.token c.in_ok-token.ensures.read in
    let e = ap (λ x. length x.now) c.next.ensures.same in
    omega (arith, m.0, m.1)

pub loop-builder-preserved : goal.loop-builder-preserved
loop-builder-preserved c =
    let l = c.loop-builder.invariant in
    let w = turns_none _ _ _ _ c.in_default.is c.in_ok-term.ensures in (
      c.next.ensures.same ∙ l.0,
      w.1,
      subst (Leads c.args.reader.now.text.now c.args.reader.now.at before c.next.new.self.at) w.0
          (lead_token _ _ (ap (λ x. x.now) l.0) _ _ _ _ l.2 _ c.is_full.ensures _ c.in_ok-token.ensures.read),
    )
