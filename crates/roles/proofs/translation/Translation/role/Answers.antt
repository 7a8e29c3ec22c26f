use Rattle.std.proofs.Common.{map, length, Ok, vec_items, sym, ap, ◌∙◌, arith}
use mathlib.Core.Path.{subst⁻¹}
use Rattle.std.proofs.lemmas.List.{length_push}
use Rattle.std.proofs.lemmas.Result.{err_from_is_err_and}
use Rattle.terms.specs.Meanings.{scope_of}
use Rattle.roles.specs.AllRoles.{AllFit}
use Rattle.roles.specs.Players.{player_of}
use Rattle.roles.proofs.AllFit.{all_fit_push}
use Rattle.roles.proofs.Placing.{place, placed_here, placed_nowhere, role_there, no_room, not_begun, one_more, placed_last, begun_name}
use Rattle.roles.proofs.translation.Translation.role.Goals as goal

pub returns-in-Some : goal.returns-in-Some
returns-in-Some c =
    let t = c.args.self.now.declarations.terms in
    let rs = vec_items c.args.self.now.roles in
    let k = placed_here t c.args.number rs c.in-Some.earlier c.in-Some.ensures in record {
      placed = (c.requires, k.1, omega arith);
      finds = (role_there t c.args.number c.args.input.limits c.args.input.text.now (scope_of c.args.self.now.declarations) c.args.name rs (omega (arith, k.0, k.1)), k.0, k.1);
    }

pub returns-then-place-most_roles : goal.returns-then-place-most_roles
returns-then-place-most_roles c = record {
  placed = tt;
  finds =
      let t = c.args.self.now.declarations.terms in
      let rs = vec_items c.args.self.now.roles in
      let l = c.len-place.ensures in
      let f = c.if-place-most_roles.true in
      let e = c.most_roles.ensures in
      no_room t c.args.number c.args.input.limits c.args.input.text.now (scope_of c.args.self.now.declarations) c.args.name rs
      (placed_nowhere t c.args.number rs c.in_default.ensures) (omega arith);
}

pub returns-in_err-role : goal.returns-in_err-role
returns-in_err-role c =
    let t = c.args.self.now.declarations.terms in
    let rs = vec_items c.args.self.now.roles in
    let l = c.len-place.ensures in
    let f = c.if-place-most_roles.false in
    let e = c.most_roles.ensures in
    let p = err_from_is_err_and c.from_residual.result c.from_residual.ensures.1 in record {
      placed = rw p.1 tt;
      finds =
          rw (p.1, p.2)
          (not_begun t c.args.number c.args.input.limits c.args.input.text.now (scope_of c.args.self.now.declarations) c.args.name rs
          (placed_nowhere t c.args.number rs c.in_default.ensures) (omega arith)
          c.in_err-role.field-0.0 c.in_err-role.ensures.starts);
    }

pub returns : goal.returns
returns c =
    let t = c.args.self.now.declarations.terms in
    let rs = vec_items c.args.self.now.roles in
    let r = c.in_ok-role.role in
    let e = c.in_ok-push.ensures.items in
    let l = ap length e in
    let p = length_push rs r in
    let k = c.args.self.now.roles.ok.0 in
    let n = c.len-place.ensures in
    let f = c.if-place-most_roles.false in
    let g = c.most_roles.ensures in
    let h = placed_nowhere t c.args.number rs c.in_default.ensures in record {
      placed = (subst⁻¹ (AllFit t) e (all_fit_push t rs r c.requires c.in_ok-role.ensures.fits), omega arith, omega arith);
      finds =
          let U = scope_of c.args.self.now.declarations in
          let q = c.in_ok-role.ensures.starts in (
            one_more t c.args.number c.args.input.limits c.args.input.text.now U c.args.name rs h (omega arith) r q
                ∙ ap (λ ys. Ok (record { scope = U; players = map (player_of t) ys })) (sym e),
            n ∙ k ∙ placed_last t c.args.number rs r (begun_name t c.args.number c.args.input.limits c.args.input.text.now U c.args.name rs r q) h
                ∙ ap (place t c.args.number) (sym e),
            omega arith,
          );
    }
