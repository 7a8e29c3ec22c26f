-- The law of the tape.
use Rattle.tape.specs.Law.{TapeLaw}
use Rattle.tape.proofs.Decoding.{decoding}
use Rattle.tape.proofs.Comparing.{encode_one}
use Rattle.tape.proofs.Reaching.{anywhere}

pub tape_law : TapeLaw
tape_law = record {
  decoding = decoding;
  unique = encode_one;
  everywhere = λ bs at w e. let b = anywhere bs at w e in (b.0, b.1.stands);
}
