-- What a tape answers about values.
use Rattle.std.proofs.Common.{◌≡◌, ℕ, ◌<◌, ◌≤◌, true, List, length, arith, ap, sym, subst}
use Rattle.std.specs.Prelude.{Some, None, Option, Ok, Err, Result, ok_or}
use Rattle.model.specs.Trees.{Tree}
use Rattle.store.specs.declared.fault.StoreFault.{StoreFault}
use Rattle.store.specs.declared.fault.StoreFault.TheVariants.{NoPart, Mismatch}
use Rattle.store.specs.Questions.{part_of, part_value, text_of, unlocked_value, Answers}
use Rattle.tape.specs.declared.tape.Tape.{Tape}
use Rattle.tape.specs.Values.{starts, Stands, Begins}
use Rattle.tape.specs.Fitting.{starts_within}
use Rattle.tape.specs.Opening.{Gives}
use Rattle.tape.specs.Tapes.{bytes_of, tape, Names}
use Rattle.tape.proofs.Reaching.{value_there, anywhere}

gives_within : (bs : List ℕ) (o : Option Tree) (f : StoreFault) (at : ℕ) → Gives bs o f (Ok at) → at < length bs
gives_within bs None f at g = absurd g
gives_within bs (Some v) f at g = starts_within 0 bs at g.starts

module _ (t : Tape) (bs : List ℕ) (is : bs ≡ bytes_of t) where
  pub named : (h : ℕ) → starts 0 bs h ≡ true → Names t h h
  named h e =
      let there = anywhere (bytes_of t) h t.whole (subst (λ cs. starts 0 cs h ≡ true) is e) in
      record { value = there.0; means = value_there (bytes_of t) h there.0 there.1; begins = there.1 }

  pub named_within : (h at : ℕ) → Names t h at → at ≤ length bs
  named_within h at n = let l = starts_within 0 (bytes_of t) at n.begins.starts in let e = ap length is in omega arith

  gives_answers : (o : Option Tree) (f : StoreFault) (r : Result ℕ StoreFault) → Gives bs o f r → Answers (tape.means t) (ok_or o f) r
  gives_answers None f (Ok at) g = g
  gives_answers None f (Err e) g = g
  gives_answers (Some v) f (Ok at) g = value_there (bytes_of t) at v (subst (λ cs. Begins cs at v) is g)
  gives_answers (Some v) f (Err e) g = g

  pub part_answer : (h at index : ℕ) (r : Result ℕ StoreFault) → Names t h at → ((v : Tree) → Begins bs at v → Gives bs (part_of v index) NoPart r)
      → Answers (tape.means t) (part_value (tape.means t h) index) r
  part_answer h at index r n f =
      let b = subst (λ cs. Begins cs at n.value) (sym is) n.begins in
      subst (λ o. Answers (tape.means t) (part_value o index) r) (sym n.means) (gives_answers (part_of n.value index) NoPart r (f n.value b))

  pub text_answer : (h at k place : ℕ) (r : Result ℕ StoreFault) → Names t h at → Names t k place → ((v w : Tree) → Begins bs at v → Stands bs place w → Gives bs (text_of v w) Mismatch r)
      → Answers (tape.means t) (unlocked_value (tape.means t h) (tape.means t k)) r
  text_answer h at k place r n m f =
      let b = subst (λ cs. Begins cs at n.value) (sym is) n.begins in
      let c = subst (λ cs. Stands cs place m.value) (sym is) m.begins.stands in
      subst (λ o. Answers (tape.means t) (unlocked_value o (tape.means t k)) r) (sym n.means)
      (subst (λ o. Answers (tape.means t) (unlocked_value (Some n.value) o) r) (sym m.means) (gives_answers (text_of n.value m.value) Mismatch r (f n.value m.value b c)))

  pub part_within : (h at index part : ℕ) → Names t h at → ((v : Tree) → Begins bs at v → Gives bs (part_of v index) NoPart (Ok part)) → part < length bs
  part_within h at index part n f = gives_within bs (part_of n.value index) NoPart part (f n.value (subst (λ cs. Begins cs at n.value) (sym is) n.begins))

  pub text_within : (h at k place text : ℕ) → Names t h at → Names t k place → ((v w : Tree) → Begins bs at v → Stands bs place w → Gives bs (text_of v w) Mismatch (Ok text)) → text < length bs
  text_within h at k place text n m f =
      gives_within bs (text_of n.value m.value) Mismatch text
      (f n.value m.value (subst (λ cs. Begins cs at n.value) (sym is) n.begins) (subst (λ cs. Stands cs place m.value) (sym is) m.begins.stands))
