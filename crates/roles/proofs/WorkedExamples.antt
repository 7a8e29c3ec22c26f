-- The worked examples, computed.
use Rattle.std.proofs.Common.{◌≡◌, ℕ, ◌<◌, ◌≤◌, T, List, [], ◌∷◌, ◌++◌, codes, refl, sym, ap, subst, inl, inr, arith}
use Rattle.std.proofs.lemmas.Bool.{eq-eqb, ne_eqb}
use Rattle.std.proofs.lemmas.List.{append_assoc}
use lib.Utf8.{encode}
use Rattle.std.specs.Fmt.{digits}
use Rattle.text.specs.Machine.{run}
use Rattle.text.specs.Reading.{count}
use Rattle.text.specs.Trees.{sizes}
use Rattle.syntax.specs.Names.{are_inner}
use Rattle.syntax.specs.Symbols.{one_of}
use Rattle.syntax.specs.Shape.{each, names, term, declarations, lines, specification}
use Rattle.model.specs.Trees.{Head, tupled, crypted, applied, Tree, leaf, node, Trees, none, more, crypt, ◌among◌, size, sizes as tree_sizes}
use Rattle.model.specs.Deduction.{Party, opens, Derives, held, build, text}
use Rattle.model.specs.Lives.{Life, starts, Holdings}
use Rattle.model.proofs.Deduction.{Composes, known, compose as put, Saturated, complete}
use Rattle.model.specs.Roles.{meet, meet_all, say_composed, put_together, compose_all, and_then, compose, can, due_parts, due, first_due, open_parts, open_text, check_again, settle_node, settle, settle_all, unsettled, settled, give_all, start, heard, said, failed}
use Rattle.model.specs.Specifications.{message, makes}
use Rattle.program.specs.Printed.{name}
use Rattle.roles.specs.WorkedExamples.{hears_only, pair, there, two_roles, none_barred, printed, apply, everyone, closed_then, closed_under, WorkedExamples}

among_less : (t : Tree) (ts : Trees) → t among ts → size t ≤ tree_sizes ts
unfolding size
among_less t none i = absurd i
among_less t (more u us) (inl e) = let q : size t ≡ size u = ap size e in omega (arith, q)
among_less t (more u us) (inr i) = let q = among_less t us i in omega (arith, q)

-- a ciphertext alone, whose key derives from nothing but its parts
module _ (P : Party) (n k : Tree) where
  abbrev Alone : Tree → Type 0
  Alone = hears_only (crypt n k)

  -- what composes, and is smaller than the ciphertext, derives from nothing
  small : {u : Tree} → Composes P Alone u → size u < size (crypt n k) → Derives P (Holdings (starts [])) u
  unfolding size
  small (known (inl x)) s = absurd x
  small {u} (known (inr e)) s = let q : size u ≡ size (crypt n k) = ap size e in absurd (omega (arith, q, s))
  small (put {ts} m f) s = build m (λ t i. small (f t i) (let q = among_less t ts i in omega (arith, q, s)))

  module _ (no_key : ¬ Derives P (Holdings (starts [])) k) where
    alone_saturated : Saturated P Alone
    unfolding size
    alone_saturated = record { parts = parts; texts = texts }
      where
        parts : (h : Head) (ts : Trees) (t : Tree) → Alone (node h ts) → T (opens P h) → t among ts → Alone t
        parts tupled ts t (inl x) o i = elim x [ ]
        parts tupled ts t (inr e) o i = let z : ◌≡◌ {A = ℕ} 0 1 = cc in absurd (omega arith)
        parts crypted ts t c o i = elim o [ ]
        parts (applied f) ts t (inl x) o i = elim x [ ]
        parts (applied f) ts t (inr e) o i = let z : ◌≡◌ {A = ℕ} 0 1 = cc in absurd (omega arith)

        texts : (t j : Tree) → Alone (crypt t j) → Composes P Alone j → Alone t
        texts t j (inl x) c = elim x [ ]
        texts t j (inr e) c = let q : j ≡ k = cc in absurd (no_key (small (subst (Composes P Alone) q c) (omega arith)))

    neither : {u : Tree} → size u < size (crypt n k) → ¬ Derives P (Holdings (starts [])) u → ¬ Derives P Alone u
    neither s closed d = closed (small (complete P Alone Alone alone_saturated (λ t h. h) d) s)

  gives_neither : ¬ Derives P (Holdings (starts [])) n → ¬ Derives P (Holdings (starts [])) k → (¬ Derives P Alone n) × (¬ Derives P Alone k)
  unfolding size
  gives_neither no_text no_key = (neither no_key (omega arith) no_text, neither no_key (omega arith) no_key)

text_derives : (P : Party) (l : Life) (n a b : Tree) → Holdings l (crypt n (pair a b)) → Holdings l a → Holdings l b → Derives P (Holdings l) n
text_derives P l n a b c ha hb =
    text {k = pair a b} (held c) (build tt (λ t. elim [ inl p ↦ subst (Derives P (Holdings l)) (sym p) (held ha) | inr q ↦ elim q [ inl p ↦ subst (Derives P (Holdings l)) (sym p) (held hb) | inr x ↦ absurd x ] ]))

explains : (names : List (List ℕ)) (f n : ℕ)
    → printed names (two_roles none_barred (there (apply f (leaf n)) ∷ there (leaf n) ∷ [])) 1
    ≡ codes "1 hear 0\n2 hear 1\n2 apply 2 " ++ (name names f ++ codes " 1\n2 same 2 0\n")
unfolding encode digits start heard said compose settled settle settle_all settle_node unsettled first_due due due_parts can open_parts open_text check_again give_all size
explains fs f n =
    let e = eq-eqb n n refl in
    rw (e, e, e) (ap (λ xs. codes "1 hear 0\n2 hear 1\n2 apply 2 " ++ xs) (append_assoc (name fs f) (codes " 1\n") (codes "2 same 2 0\n")))

opens_later : (names : List (List ℕ)) (n k : ℕ) → ¬ (n ≡ k)
    → printed names (two_roles none_barred (there (crypt (leaf n) (leaf k)) ∷ there (leaf k) ∷ [])) 1 ≡ codes "1 hear 0\n2 hear 1\n2 open-crypt 2 0 1\n"
unfolding encode digits start heard said compose settled settle settle_all settle_node unsettled first_due due due_parts can open_parts open_text check_again give_all size
opens_later fs n k d =
    let kk = eq-eqb k k refl in
    let nk = ne_eqb n k d in
    rw (kk, kk, nk, kk, nk, settle_all, first_due, due, settle, settle_node, open_text, compose, meet) refl

compares : (names : List (List ℕ)) (n : ℕ)
    → printed names (two_roles none_barred (there (pair (leaf n) (leaf n)) ∷ [])) 1 ≡ codes "1 hear 0\n1 open-tuple 1 2 0\n1 same 2 1\n"
unfolding encode digits start heard said compose settled settle settle_all settle_node unsettled first_due due due_parts can open_parts open_text check_again give_all size
compares fs n = let e = eq-eqb n n refl in rw (e, e, settle_all, first_due, due, meet_all, meet) refl

fails_at_key : (n k : ℕ) → ¬ (n ≡ k) → said everyone (makes (closed_under n k) 1) (message (closed_under n k) 1) (start everyone []) ≡ failed (leaf k)
unfolding encode digits start heard said compose settled settle settle_all settle_node unsettled first_due due due_parts can open_parts open_text check_again give_all size
fails_at_key n k d =
    let nn = eq-eqb n n refl in
    let nk = ne_eqb n k d in
    let kk = eq-eqb k k refl in
    let kn = ne_eqb k n (λ e. d (sym e)) in
    rw (nn, nk, kn, kk, kn, say_composed, put_together, compose_all, and_then, compose) refl

fails_at_text : (n k : ℕ) → said everyone (makes (closed_then n k) 2) (message (closed_then n k) 2) (heard everyone (message (closed_then n k) 1) (start everyone [])) ≡ failed (leaf n)
unfolding encode digits start heard said compose settled settle settle_all settle_node unsettled first_due due due_parts can open_parts open_text check_again give_all size
fails_at_text n k = let e = eq-eqb n n refl in rw e refl

pub worked_examples : WorkedExamples
unfolding encode digits run count sizes are_inner one_of each names term declarations lines specification start heard said compose settled settle settle_all settle_node unsettled first_due due due_parts can open_parts open_text check_again give_all size
worked_examples =
    record {
      without_key = (refl, refl);
      gives_neither = gives_neither;
      under_tuple = refl;
      text_derives = text_derives;
      one_way = refl;
      explains = explains;
      later = refl;
      opens = opens_later;
      equal_parts = refl;
      compares = compares;
      key_not_given = (refl, refl);
      fails_at_key = fails_at_key;
      on_tape = (refl, refl);
      under_closed_key = refl;
      fails_at_text = fails_at_text;
    }
