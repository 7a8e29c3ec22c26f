use Rattle.tape.proofs.Asking.{named_within}
use Rattle.tape.proofs.calls.TapeStore.shape.Goals as goal

pub header_at-requires : goal.header_at-requires
header_at-requires c = named_within c.args.self.now c.as_bytes.result.now c.as_bytes.ensures.bytes c.args.handle c.in_ok-place.place c.in_ok-place.ensures
