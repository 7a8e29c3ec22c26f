use Rattle.std.proofs.Common.{refl, sym, ap, ◌∙◌}
use Rattle.model.specs.Tape.{encode_all}
use Rattle.tape.specs.Headers.{header_bytes}
use Rattle.tape.specs.Making.{over}
use Rattle.tape.proofs.Decoding.{length_header}
use Rattle.tape.proofs.Building.{encode_build, valid}
use Rattle.tape.proofs.Writes.{over_twice}
use Rattle.tape.proofs.encode.encode.Goals as goal

pub returns : goal.returns
returns c ts e =
    let s = c.args.shape in
    let n = sym c.requires.count ∙ (valid c.args.used.now c.requires.whole c.args.parts.now ts e).counted in
    over_twice c.args.rest.now (header_bytes s) (encode_all ts) c.write_header.new.out c.copy_parts.new.out c.header_size.result _
    (c.header_size.ensures.value ∙ sym (length_header s)) refl c.write_header.ensures (c.copy_parts.ensures ts e)
    ∙ ap (over c.args.rest.now) (sym (encode_build s ts n))
