use Rattle.std.proofs.Common.{vec_items, is_ok}
use Rattle.syntax.specs.Views.{term_of}
use Rattle.terms.specs.Terms.{size}
use Rattle.terms.proofs.ListedTrees.{listed_at}
use Rattle.terms.proofs.Pushing.{started_push}
use Rattle.terms.proofs.Declared.{knows_term}
use Rattle.terms.proofs.declarations.Declarations.known.Goals as goal

pub returns : goal.returns
returns c =
    knows_term c.args.reading.text.now c.args.reading.limits c.args.self.now c.args.knower (term_of c.args.term.now) c.in_default.ensures c.term.new.self c.in_ok-term.term c.in_ok-term.ensures.termed (vec_items c.push-2.new.list) c.in_ok-push-2.ensures.items

pub invariant_of-self-2-clause-started : goal.invariant_of-self-2-clause-started
invariant_of-self-2-clause-started c =
    let d = c.term.new.self in
    started_push (vec_items d.starts) (record { knower = c.args.knower; term = c.in_ok-term.term }) (size d.terms) d.started (listed_at d.terms c.in_ok-term.term _ c.in_ok-term.ensures.termed.1).0 (is_ok c.push-2.result) (vec_items c.push-2.new.list) c.push-2.ensures.items
