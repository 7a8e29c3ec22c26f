use Rattle.std.proofs.Common.{rules, ◌≡◌, ◌+◌, length}
use Rattle.model.specs.Tape.{encode}
use Rattle.tape.proofs.Ending.{stands_within}
use Rattle.tape.proofs.walk.encoding.Goals as goal

pub slice_bounds-result-end : goal.slice_bounds-result-end
slice_bounds-result-end c =
    let k = c.requires.stands in
    let e : c.end_of.result ≡ c.args.start + length (encode k.0) = c.end_of.ensures k.0 k.1 in
    let l = stands_within c.args.bytes.now c.args.start k.0 k.1 in
    search rules
