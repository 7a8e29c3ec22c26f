use Rattle.std.proofs.Common.{◌+◌, ◌≤◌, drop, vec_items, sym, refl, ◌∙◌, arith}
use Rattle.std.proofs.Math.Seq.{take-length}
use Rattle.syntax.specs.Specs.{count}
use Rattle.syntax.specs.Views.{term_of, terms_of}
use Rattle.std.proofs.lemmas.List.{drop_all}
use Rattle.terms.proofs.Views.{view-Name, view-Tuple, view-Crypt, view-Apply, terms_at}
use Rattle.terms.specs.Terms.{size}
use Rattle.terms.proofs.Numbered.{below_more_parts}
use Rattle.terms.proofs.Growing.{grows_on, same_on, begins_on}
use Rattle.terms.proofs.Reading.{within_interned, grows_interned, name_read, tuple_read, apply_read, crypt_read, too_many, onward_none, onward_more, onward_done}
use Rattle.terms.proofs.Checking.{count-terms}
use Rattle.terms.specs.Numbering.{read_all}
use Rattle.terms.proofs.declarations.Declarations.+number_numbers.Goals as goal

pub number-returns-in-Some-clause-reads : goal.number-returns-in-Some-clause-reads
number-returns-in-Some-clause-reads t c =
    rw (c.in-Name.is, view-Name)
    (name_read c.args.text.now (vec_items c.args.self.now.names) c.args.most c.args.self.now.terms c.name.new.self c.in-Name.name.at c.in-Name.name.part c.in-Some.name c.name.result (sym c.in-Some.is ∙ c.find.ensures) c.name.ensures.interned)

pub number-returns-in-Some-clause-within : goal.number-returns-in-Some-clause-within
number-returns-in-Some-clause-within t c = within_interned c.args.self.now.terms c.name.new.self _ c.args.most c.in-Name.name.at c.name.result c.name.ensures.interned

pub number-returns-in-Some-clause-grows : goal.number-returns-in-Some-clause-grows
number-returns-in-Some-clause-grows t c = grows_interned c.args.self.now.terms c.name.new.self _ c.args.most c.in-Name.name.at c.name.result c.name.ensures.interned

pub number-returns-in_err-key_number-in-Crypt-clause-grows : goal.number-returns-in_err-key_number-in-Crypt-clause-grows
number-returns-in_err-key_number-in-Crypt-clause-grows t c =
    grows_on c.args.self.now.terms c.number.new.self.terms c.number-in-Crypt.new.self.terms c.in_ok-text_number-in-Crypt.ensures.grows c.number-in-Crypt.ensures.grows

pub number-returns-in_ok-key_number-in-Crypt-clause-within : goal.number-returns-in_ok-key_number-in-Crypt-clause-within
number-returns-in_ok-key_number-in-Crypt-clause-within t c = within_interned c.number-in-Crypt.new.self.terms c.compound.new.self _ c.args.most c.in-Crypt.at c.compound.result c.compound.ensures.interned

pub number-returns-in_ok-key_number-in-Crypt-clause-grows : goal.number-returns-in_ok-key_number-in-Crypt-clause-grows
number-returns-in_ok-key_number-in-Crypt-clause-grows t c =
    let t₁ = c.number.new.self.terms in
    let t₂ = c.number-in-Crypt.new.self.terms in
    grows_on c.args.self.now.terms t₁ c.compound.new.self c.in_ok-text_number-in-Crypt.ensures.grows
    (grows_on t₁ t₂ c.compound.new.self c.in_ok-key_number-in-Crypt.ensures.grows (grows_interned t₂ c.compound.new.self _ c.args.most c.in-Crypt.at c.compound.result c.compound.ensures.interned))

pub number-returns-in_ok-key_number-in-Crypt-clause-reads : goal.number-returns-in_ok-key_number-in-Crypt-clause-reads
number-returns-in_ok-key_number-in-Crypt-clause-reads t c =
    let a = c.in_ok-text_number-in-Crypt.ensures in
    let b = c.in_ok-key_number-in-Crypt.ensures in
    rw (c.in-Crypt.is, view-Crypt)
    (crypt_read c.args.text.now (vec_items c.args.self.now.names) c.args.most c.args.self.now.terms c.compound.new.self c.in-Crypt.at c.number.new.self.terms c.number-in-Crypt.new.self.terms (term_of c.in-Crypt.plain.value) (term_of c.in-Crypt.key.value)
    c.in_ok-text_number-in-Crypt.text_number c.in_ok-key_number-in-Crypt.key_number c.compound.result (rw c.deref.ensures at a.reads) (rw (a.same.names, c.deref-in-Crypt.ensures) at b.reads) a.within b.within b.grows (rw c.from_slice.ensures at c.compound.ensures.interned))

pub number-returns-in_ok-parts-in-Tuple-clause-within : goal.number-returns-in_ok-parts-in-Tuple-clause-within
number-returns-in_ok-parts-in-Tuple-clause-within t c = within_interned c.numbers.new.self.terms c.compound-in-Tuple.new.self _ c.args.most c.in-Tuple.at c.compound-in-Tuple.result c.compound-in-Tuple.ensures.interned

pub number-returns-in_ok-parts-in-Tuple-clause-grows : goal.number-returns-in_ok-parts-in-Tuple-clause-grows
number-returns-in_ok-parts-in-Tuple-clause-grows t c =
    grows_on c.args.self.now.terms c.numbers.new.self.terms c.compound-in-Tuple.new.self c.in_ok-parts-in-Tuple.ensures.grows
    (grows_interned c.numbers.new.self.terms c.compound-in-Tuple.new.self _ c.args.most c.in-Tuple.at c.compound-in-Tuple.result c.compound-in-Tuple.ensures.interned)

pub number-returns-in_ok-parts-in-Tuple-clause-reads : goal.number-returns-in_ok-parts-in-Tuple-clause-reads
number-returns-in_ok-parts-in-Tuple-clause-reads t c =
    let a = c.in_ok-parts-in-Tuple.ensures in
    rw (c.in-Tuple.is, view-Tuple)
    (tuple_read c.args.text.now (vec_items c.args.self.now.names) c.args.most c.args.self.now.terms c.compound-in-Tuple.new.self c.in-Tuple.at c.numbers.new.self.terms c.in_ok-parts-in-Tuple.parts c.compound-in-Tuple.result a.within
    (terms_of (vec_items c.in-Tuple.parts)) (rw c.deref-in-Tuple.ensures.value at a.reads) c.compound-in-Tuple.ensures.interned)

pub number-returns-in_ok-parts-in-Apply-clause-within : goal.number-returns-in_ok-parts-in-Apply-clause-within
number-returns-in_ok-parts-in-Apply-clause-within t c = within_interned c.numbers-in-Apply.new.self.terms c.compound-in-Apply.new.self _ c.args.most c.in-Apply.at c.compound-in-Apply.result c.compound-in-Apply.ensures.interned

pub number-returns-in_ok-parts-in-Apply-clause-grows : goal.number-returns-in_ok-parts-in-Apply-clause-grows
number-returns-in_ok-parts-in-Apply-clause-grows t c =
    grows_on c.args.self.now.terms c.numbers-in-Apply.new.self.terms c.compound-in-Apply.new.self c.in_ok-parts-in-Apply.ensures.grows
    (grows_interned c.numbers-in-Apply.new.self.terms c.compound-in-Apply.new.self _ c.args.most c.in-Apply.at c.compound-in-Apply.result c.compound-in-Apply.ensures.interned)

pub number-returns-in_ok-parts-in-Apply-clause-reads : goal.number-returns-in_ok-parts-in-Apply-clause-reads
number-returns-in_ok-parts-in-Apply-clause-reads t c =
    let a = c.in_ok-parts-in-Apply.ensures in
    rw (c.in-Apply.is, view-Apply)
    (apply_read c.args.text.now (vec_items c.args.self.now.names) c.args.most c.args.self.now.terms c.compound-in-Apply.new.self c.in-Apply.at c.numbers-in-Apply.new.self.terms c.in_ok-parts-in-Apply.parts c.compound-in-Apply.result a.within
    c.in-Apply.function c.in-Some-function_of.number (terms_of (vec_items c.in-Apply.arguments)) (sym c.in-Some-function_of.is ∙ c.function_of.ensures)
    (rw c.deref-in-Apply.ensures.value at a.reads) c.compound-in-Apply.ensures.interned)

pub numbers-loop-term-preserved : goal.numbers-loop-term-preserved
numbers-loop-term-preserved t c =
    let i = c.loop-term.invariant in
    let e = c.in_ok-number.ensures in
    record {
      below = below_more_parts (size c.loop-term.self.terms) (size c.number.new.self.terms) c.loop-term.parts c.push.new.self c.in_ok-number.field-0 e.grows.longer i.below e.within c.push.ensures;
      grows = grows_on c.args.self.now.terms c.loop-term.self.terms c.number.new.self.terms i.grows e.grows;
      same = same_on c.args.self.now c.loop-term.self c.number.new.self i.same e.same;
      begins = begins_on (vec_items c.args.self.now.terms.rows) (vec_items c.loop-term.self.terms.rows) (vec_items c.number.new.self.terms.rows) i.begins e.begins;
      few = i.few;
      onward =
          onward_more c.args.text.now (vec_items c.args.self.now.names) c.args.most c.args.self.now.terms (terms_of c.args.terms.now) c.loop-term.self.terms c.number.new.self.terms c.loop-term.parts (term_of c.term-item.result)
          (terms_of (drop (c.loop-term.term-index + 1) c.args.terms.now)) (rw (terms_at c.args.terms.now c.loop-term.term-index c.term-item.result c.loop-term-test.true c.term-item.is) at i.onward)
          i.below e.grows c.in_ok-number.field-0 (rw i.same.names at e.reads) c.push.new.self c.push.ensures;
    }

pub numbers-returns-in_err-number-clause-grows : goal.numbers-returns-in_err-number-clause-grows
numbers-returns-in_err-number-clause-grows t c = grows_on c.args.self.now.terms c.loop-term.self.terms c.number.new.self.terms c.loop-term.invariant.grows c.number.ensures.grows

pub numbers-returns-clause-reads : goal.numbers-returns-clause-reads
numbers-returns-clause-reads t c =
    onward_done c.args.text.now (vec_items c.args.self.now.names) c.args.most c.args.self.now.terms (terms_of c.args.terms.now) c.args.at c.loop-term.invariant.few c.loop-term.self.terms c.loop-term.parts
    (rw (drop_all c.loop-term.term-index c.args.terms.now c.loop-term-test.false) at c.loop-term.invariant.onward)

pub numbers-loop-term-init : goal.numbers-loop-term-init
numbers-loop-term-init t c =
    let d = c.args.self.now in
    let ts = c.args.terms.now in
    let few : count (terms_of ts) ≤ 8 = let n = count-terms ts in let m = c.if-terms-gt-MOST_PARTS.false in omega arith in
    rw c.new-parts.ensures (record {
      below = tt;
      grows = record { longer = omega arith; kept = λ j h. refl };
      same = record { names = refl; functions = refl; parameters = refl; starts = refl; rights = refl };
      begins = take-length (vec_items d.terms.rows);
      few = few;
      onward = onward_none c.args.text.now (vec_items d.names) c.args.most d.terms (terms_of ts) few;
    })

pub numbers-returns-then-terms-gt-MOST_PARTS-clause-reads : goal.numbers-returns-then-terms-gt-MOST_PARTS-clause-reads
numbers-returns-then-terms-gt-MOST_PARTS-clause-reads t c = λ us small l s.
    let ts = c.args.terms.now in
    let n = count-terms ts in
    let m = c.if-terms-gt-MOST_PARTS.true in
    too_many c.args.at (terms_of ts) (read_all c.args.text.now (vec_items c.args.self.now.names) c.args.most (terms_of ts) us) (omega arith)
