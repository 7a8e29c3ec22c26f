use Rattle.std.proofs.Common.{cond, Some, None, vec_items, sym, ap, ◌∙◌, rules}
use Rattle.std.specs.List.{filter_map}
use Rattle.std.proofs.lemmas.List.{take_all}
use Rattle.terms.specs.Meanings.{trees_of}
use Rattle.terms.proofs.ListedTrees.{lists_of}
use Rattle.terms.proofs.Collecting.{made_name, filter_map_more, filter_map_not, made_same}
use Rattle.terms.proofs.declarations.Declarations.made_since.Goals as goal
use Rattle.terms.proofs.declarations.Declarations.made_since.Goals.{in-Name+then-may_be_made+in_ok-push, in_default, in_default-via-in-Compound-1, in_default-via-in-Name+else-may_be_made}

pub loop-row-preserved : goal.loop-row-preserved
loop-row-preserved c =
    let h = made_name (vec_items c.args.self.now.names) in
    let rows = c.since-row-items.result.now in
    let i = c.loop-row.row-index in
    elim c.match-row.branch [
      | in-Name+then-may_be_made+in_ok-push w ↦
          ap vec_items w.made-is ∙ w.in_ok-push.ensures.items
          ∙ filter_map_more h rows i c.row-item.result c.loop-row-test.true c.row-item.is (vec_items c.loop-row.made) c.loop-row.invariant w.in-Name.name
          (ap h w.in-Name.is ∙ ap (λ b. cond b (Some w.in-Name.name) None) (sym w.may_be_made.ensures ∙ w.if-may_be_made.true))
      | in_default w ↦
          ap vec_items w.made-is
          ∙ filter_map_not h rows i c.row-item.result c.loop-row-test.true c.row-item.is (vec_items c.loop-row.made) c.loop-row.invariant
          (elim w.in_default.branch [
            | in_default-via-in-Compound-1 w' ↦ search rules
            | in_default-via-in-Name+else-may_be_made w' ↦ ap h w'.in-Name.is ∙ ap (λ b. cond b (Some w'.in-Name.name) None) (sym w'.may_be_made.ensures ∙ w'.if-may_be_made.false)
          ])
    ]

pub returns : goal.returns
returns c =
    let t = c.args.self.now.terms in
    c.loop-row.invariant
    ∙ ap (filter_map (made_name (vec_items c.args.self.now.names))) (take_all c.loop-row.row-index c.since-row-items.result.now c.loop-row-test.false ∙ c.since-row-items.ensures)
    ∙ made_same t (trees_of t) (lists_of t) (vec_items c.args.self.now.names) c.args.before
