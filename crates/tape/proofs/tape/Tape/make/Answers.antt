use Rattle.std.proofs.Common.{◌+◌, refl, arith}
use Rattle.tape.specs.Tapes.{bytes_of}
use Rattle.tape.proofs.Building.{sized_parts}
use Rattle.tape.proofs.Making.{refused, whole_after, held_after, made}
use Rattle.tape.proofs.tape.Tape.make.Goals as goal

pub returns-then-len-self : goal.returns-then-len-self
returns-then-len-self c =
    let p = sized_parts (bytes_of c.args.self.now) c.as_bytes.result.now c.args.parts.now c.in_ok-size.field-0 c.as_bytes.ensures.bytes c.in_ok-size.ensures.size in
    refused c.args.self.now c.args.shape c.args.parts.now p.0 c.in_ok-size.field-0 c.requires.count p.1 p.2 (omega arith)

pub invariant_of-self-clause-whole : goal.invariant_of-self-clause-whole
invariant_of-self-clause-whole c =
    let p = sized_parts (bytes_of c.args.self.now) c.as_bytes.result.now c.args.parts.now c.in_ok-size.field-0 c.as_bytes.ensures.bytes c.in_ok-size.ensures.size in
    whole_after c.args.self.now c.args.shape c.args.parts.now p.0 c.in_ok-size.field-0 c.requires.count p.1 p.2
    c.deref_mut.result.now c.append.new.bytes (c.header_size.result + c.in_ok-size.field-0) (omega arith) (omega arith) c.deref_mut.ensures.value c.append.ensures

pub invariant_of-self-clause-held : goal.invariant_of-self-clause-held
invariant_of-self-clause-held c =
    let p = sized_parts (bytes_of c.args.self.now) c.as_bytes.result.now c.args.parts.now c.in_ok-size.field-0 c.as_bytes.ensures.bytes c.in_ok-size.ensures.size in
    held_after c.args.self.now c.args.shape c.args.parts.now p.0 c.in_ok-size.field-0 c.requires.count p.1 p.2
    c.deref_mut.result.now c.append.new.bytes (c.header_size.result + c.in_ok-size.field-0) (omega arith) (omega arith) c.deref_mut.ensures.value c.append.ensures
    c.requires.numbered (let e = c.requires.count in let l = c.requires.eight in omega arith)

pub returns : goal.returns
returns c =
    let p = sized_parts (bytes_of c.args.self.now) c.as_bytes.result.now c.args.parts.now c.in_ok-size.field-0 c.as_bytes.ensures.bytes c.in_ok-size.ensures.size in
    made c.args.self.now c.args.shape c.args.parts.now p.0 c.in_ok-size.field-0 c.requires.count p.1 p.2
    c.deref_mut.result.now c.append.new.bytes (c.header_size.result + c.in_ok-size.field-0) (omega arith) (omega arith) c.deref_mut.ensures.value c.append.ensures _ refl refl refl
