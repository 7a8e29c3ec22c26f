use Rattle.std.proofs.Common.{arith}
use Rattle.tape.proofs.Asking.{named_within, part_within, part_answer}
use Rattle.tape.proofs.calls.TapeStore.part.Goals as goal

pub find_part-requires-clause-within : goal.find_part-requires-clause-within
find_part-requires-clause-within c = named_within c.args.self.now c.as_bytes.result.now c.as_bytes.ensures.bytes c.args.handle c.in_ok-place.place c.in_ok-place.ensures

pub overflow_cast-result : goal.overflow_cast-result
overflow_cast-result c =
    let l = part_within c.args.self.now c.as_bytes.result.now c.as_bytes.ensures.bytes c.args.handle c.in_ok-place.place c.args.index c.in_ok-part.part c.in_ok-place.ensures c.in_ok-part.ensures in
    omega arith

pub returns : goal.returns
returns c = part_answer c.args.self.now c.as_bytes.result.now c.as_bytes.ensures.bytes c.args.handle c.in_ok-place.place c.args.index _ c.in_ok-place.ensures c.in_ok-part.ensures
