use Rattle.std.proofs.Common.{vec_items, Err, refl, subst, arith}
use Rattle.std.specs.Vec.{with_item}
use Rattle.std.proofs.lemmas.Result.{err_from_is_err_and}
use Rattle.syntax.specs.Views.{term_of}
use Rattle.terms.specs.Meanings.{trees_of, scope_of}
use Rattle.terms.proofs.ListedTrees.{lists_of}
use Rattle.terms.proofs.TermAnswers.{number_there, number_tree, table_grows}
use Rattle.terms.specs.Terms.{tree_in}
use Rattle.roles.specs.Parties.{makes_of}
use Rattle.roles.specs.Players.{player_of, Plays}
use Rattle.roles.specs.Playing.{says}
use Rattle.roles.proofs.Messages.{made_there, say_refused, heard_so}
use Rattle.std.proofs.lemmas.List.{length-set}
use Rattle.roles.proofs.AllFit.{all_fit_grows, all_fit_at, all_fit_after, all_keep_set}
use Rattle.roles.proofs.translation.Translation.message.Goals as goal

pub say-requires-clause-within : goal.say-requires-clause-within
say-requires-clause-within c = rw c.terms-table.ensures (number_there c.args.input.text.now _ (term_of c.args.message.now) c.args.self.now.declarations c.term.new.self c.in_ok-term.term c.in_ok-term.ensures.termed)

pub say-requires-clause-fits : goal.say-requires-clause-fits
say-requires-clause-fits c =
    let rs = vec_items c.args.self.now.roles in
    let g = table_grows c.args.input.text.now _ (term_of c.args.message.now) c.args.self.now.declarations c.term.new.self c.in_ok-term.term c.in_ok-term.ensures.termed in
    let f = all_fit_grows c.args.self.now.declarations.terms c.term.new.self.terms g rs c.requires.fit in
    rw c.terms-table.ensures (all_fit_at c.term.new.self.terms rs c.args.sender c.index_mut.result.now f c.requires.sender c.index_mut.ensures.value)

pub hear-requires-clause-within : goal.hear-requires-clause-within
hear-requires-clause-within c = rw c.terms-table.ensures (number_there c.args.input.text.now _ (term_of c.args.message.now) c.args.self.now.declarations c.term.new.self c.in_ok-term.term c.in_ok-term.ensures.termed)

pub hear-requires-clause-fits : goal.hear-requires-clause-fits
hear-requires-clause-fits c =
    let rs = vec_items c.args.self.now.roles in
    let n = length-set rs c.args.sender c.say.new.self in
    let h = c.requires.receiver in
    let g = table_grows c.args.input.text.now _ (term_of c.args.message.now) c.args.self.now.declarations c.term.new.self c.in_ok-term.term c.in_ok-term.ensures.termed in
    let f = all_fit_after c.args.self.now.declarations.terms c.term.new.self.terms g rs c.requires.fit c.args.sender c.say.new.self (rw c.terms-table.ensures at c.in_ok-say.ensures.fits) in
    rw c.terms-table.ensures (all_fit_at c.term.new.self.terms _ c.args.receiver c.index_mut-2.result.now f (omega arith) c.index_mut-2.ensures.value)

pub returns-in_err-say : goal.returns-in_err-say
returns-in_err-say c =
    let text = c.args.input.text.now in
    let m = term_of c.args.message.now in
    let d = c.args.self.now.declarations in
    let d' = c.term.new.self in
    let w = c.in_ok-term.ensures.termed in
    let p = err_from_is_err_and c.from_residual-in_err-say.result c.from_residual-in_err-say.ensures.1 in
    let those = made_there (scope_of d) (scope_of d') c.as_slice.ensures.value c.in_ok-made.ensures (rw c.terms.ensures at c.len-before.ensures) (lists_of d.terms).long in record {
      keeps = rw p.1 tt;
      comes =
          rw (p.1, p.2)
          (say_refused c.args.input.limits text c.args.number m c.args.sender c.args.receiver (scope_of d)
          d.terms (vec_items c.args.self.now.roles) c.requires.fit d'.terms (table_grows text _ m d d' c.in_ok-term.term w) (scope_of d') w.0
          c.place.result c.place.ensures _ those c.in_ok-term.term (number_tree text _ m d d' c.in_ok-term.term w) c.requires.sender c.index_mut.result.now c.say.new.self c.index_mut.ensures.value
          c.in_err-say.field-0.0
          (subst (λ t. Plays t (says c.args.input.limits c.args.number c.place.result c.args.sender (trees_of d'.terms) (makes_of c.as_slice.result.now) (tree_in t c.in_ok-term.term) (player_of t c.index_mut.result.now)) c.say.new.self (Err c.in_err-say.field-0.0))
          c.terms-table.ensures (c.in_err-say.ensures.plays (trees_of d'.terms) (rw c.terms-table.ensures (lists_of d'.terms)))));
    }

pub returns : goal.returns
returns c =
    let text = c.args.input.text.now in
    let m = term_of c.args.message.now in
    let d = c.args.self.now.declarations in
    let d' = c.term.new.self in
    let w = c.in_ok-term.ensures.termed in
    let g = table_grows text _ m d d' c.in_ok-term.term w in
    let rs = vec_items c.args.self.now.roles in
    let n = length-set rs c.args.sender c.say.new.self in
    let h = c.requires.receiver in
    let f = all_fit_after d.terms d'.terms g rs c.requires.fit c.args.sender c.say.new.self (rw c.terms-table.ensures at c.in_ok-say.ensures.fits) in
    let those = made_there (scope_of d) (scope_of d') c.as_slice.ensures.value c.in_ok-made.ensures (rw c.terms.ensures at c.len-before.ensures) (lists_of d.terms).long in record {
      keeps = all_keep_set d'.terms _ c.args.receiver c.hear.new.self c.hear.result f (rw c.terms-table.ensures at c.hear.ensures.fits);
      comes =
          heard_so c.args.input.limits text c.args.number m c.args.sender c.args.receiver (scope_of d)
          d.terms rs c.requires.fit d'.terms g (scope_of d') w.0
          c.place.result c.place.ensures _ those c.in_ok-term.term (number_tree text _ m d d' c.in_ok-term.term w) c.requires.sender c.index_mut.result.now c.say.new.self c.index_mut.ensures.value
          tt (rw c.terms-table.ensures at (c.in_ok-say.ensures.plays (trees_of d'.terms) (rw c.terms-table.ensures (lists_of d'.terms)))) (omega arith) c.index_mut-2.result.now c.hear.new.self c.index_mut-2.ensures.value
          (record { declarations = d'; roles = with_item (with_item c.args.self.now.roles c.args.sender c.say.new.self) c.args.receiver c.hear.new.self }) refl refl refl
          c.hear.result (rw c.terms-table.ensures at c.hear.ensures.plays);
    }
