-- The eight worked examples, proved.
use Rattle.std.proofs.Common.{◌≡◌, ℕ, T, [], ◌∷◌, refl, subst, inl, inr, arith}
use Rattle.model.specs.Trees.{Head, tupled, crypted, applied, Tree, leaf, node, Trees, crypt, ◌among◌, size}
use Rattle.model.specs.Deduction.{Party, opens, Derives, held, build, text}
use Rattle.model.specs.Roles.{compose, can, due_parts, due, first_due, open_parts, open_text, check_again, settle_node, settle, settle_all, unsettled, settled, give_all, start, heard, said}
use Rattle.model.specs.Lives.{starts, hears, Holdings}
use Rattle.model.specs.WorkedExamples.{pair, WorkedExamples}
use Rattle.model.proofs.Deduction.{Composes, known, Saturated, complete}

-- a ciphertext alone is all there is: no name is held, and nothing can be taken out of it
module _ (P : Party) (inner key : ℕ) where
  abbrev Alone : Tree → Type 0
  Alone = Holdings (hears (starts []) (crypt (leaf inner) (leaf key)))

  no_name : (n : ℕ) → ¬ Composes P Alone (leaf n)
  no_name n (known (inl x)) = x
  no_name n (known (inr e)) = let z : ◌≡◌ {A = ℕ} 0 1 = cc in omega arith

  alone_saturated : Saturated P Alone
  alone_saturated = record { parts = parts; texts = texts }
    where
      parts : (h : Head) (ts : Trees) (t : Tree) → Alone (node h ts) → T (opens P h) → t among ts → Alone t
      parts tupled ts t (inl x) o i = elim x [ ]
      parts tupled ts t (inr e) o i = let z : ◌≡◌ {A = ℕ} 0 1 = cc in absurd (omega arith)
      parts crypted ts t k o i = elim o [ ]
      parts (applied f) ts t (inl x) o i = elim x [ ]
      parts (applied f) ts t (inr e) o i = let z : ◌≡◌ {A = ℕ} 0 1 = cc in absurd (omega arith)

      texts : (t k : Tree) → Alone (crypt t k) → Composes P Alone k → Alone t
      texts t k (inl x) c = elim x [ ]
      texts t k (inr e) c = let q : k ≡ leaf key = cc in absurd (no_name key (subst (Composes P Alone) q c))

  none_derives : (n : ℕ) → ¬ Derives P Alone (leaf n)
  none_derives n d = no_name n (complete P Alone Alone alone_saturated (λ t h. h) d)

tuple_key : (P : Party) (inner a b : Tree) → Derives P (Holdings (hears (starts (a ∷ b ∷ [])) (crypt inner (pair a b)))) inner
tuple_key P inner a b =
    text {k = pair a b} (held (inr refl)) (build tt (λ t. elim [ inl p ↦ held (inl (inl p)) | inr q ↦ elim q [ inl p ↦ held (inl (inr (inl p))) | inr x ↦ absurd x ] ]))

pub worked_examples : WorkedExamples
unfolding start heard said compose settled settle settle_all settle_node unsettled first_due due due_parts can open_parts open_text check_again give_all size
worked_examples =
    record {
      no_key = λ P inner key. (none_derives P inner key inner, none_derives P inner key key);
      tuple_as_key = tuple_key;
      one_way_explained = refl;
      opened_later = refl;
      equal_parts = refl;
      key_not_given = refl;
      on_tape = (refl, refl);
      under_closed_key = refl;
    }
