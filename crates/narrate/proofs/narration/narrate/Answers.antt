use Rattle.narrate.proofs.Narrations.{taken, narrated}
use Rattle.narrate.proofs.narration.narrate.Goals as goal

pub returns : goal.returns
returns g c =
    narrated c.standard.result c.standard.ensures c.deref.result.now c.in-Ok.answer c.in-Ok.ensures.answers c.in-Ok.ensures.decided
    (g.R.Read.remaining c.args.input) (g.W.Write.contents c.args.output.now) _ c.as_bytes.result.now c.is_none.result
    (taken g.R.Read.remaining c.take.result c.args.input _ _ c.deref.result.now c.take.ensures.limit c.take.ensures.inner c.new-text.ensures.items c.deref.ensures.value c.in_ok-read_to_end.ensures.bytes)
    c.in_ok-write_all.ensures.bytes c.as_bytes.ensures.value c.is_none.ensures
