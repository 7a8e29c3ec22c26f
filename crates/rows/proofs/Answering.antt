-- What a sound table answers to questions about values.
use Rattle.std.proofs.Common.{◌≡◌, ℕ, zero, suc, ◌<◌, true, if◌then◌else◌, List, [], ◌∷◌, length, Some, None, Ok, Err, Option, ok_or, option_map, refl, ap, ◌∙◌, arith}
use mathlib.Core.Path.{subst⁻¹}
use Rattle.std.proofs.lemmas.Option.{slice_get_within, get_or_from_slice_get}
use Rattle.std.specs.List.{All, slice_get}
use Rattle.program.specs.declared.kind.Kind.TheVariants as kinds
use Rattle.model.specs.Trees.{Tree, eq_tree}
use Rattle.store.specs.declared.fault.StoreFault.TheVariants.{NoPart, Mismatch}
use Rattle.store.specs.Questions as questions
use Rattle.store.specs.Questions.{part_of, part_value, text_of, unlocked_value, Answers}
use Rattle.rows.specs.declared.entry.Row.{Row}
use Rattle.rows.specs.declared.entry.Row.TheVariants.{Atom, Compound}
use Rattle.rows.specs.declared.entry.Entry.{Entry}
use Rattle.rows.specs.Rows.{values_at, row_value, values, meaning}
use Rattle.rows.specs.Classes.{value_at, IsFirst, IsOfFirst}
use Rattle.rows.specs.Answered.{asked_parts, text_and_key}
use Rattle.rows.proofs.Asking.{some_row}

module _ (es : List Entry) where
  -- one of the values of some rows
  value_of_part : (ks : List ℕ) (i : ℕ) → questions.value_at (values_at (values es) ks) i ≡ option_map (value_at es) (slice_get ks i)
  value_of_part [] i = refl
  value_of_part (k ∷ ks) zero = refl
  value_of_part (k ∷ ks) (suc i) = value_of_part ks i

  part_of_row : (r : Row) (i : ℕ) → part_of (row_value (values es) r) i ≡ option_map (value_at es) (slice_get (asked_parts r) i)
  part_of_row (Atom n) i = refl
  part_of_row (Compound kinds.Tuple ps) i = value_of_part ps i
  part_of_row (Compound kinds.Crypt ps) i = refl
  part_of_row (Compound (kinds.Apply f) ps) i = value_of_part ps i

  one_of : (ps : List ℕ) (i k : ℕ) → All (IsFirst es) ps → slice_get ps i ≡ Some k → k < length es
  one_of ps i k f e = let x = f i 0 (slice_get_within ps i k e) in let y = get_or_from_slice_get ps i k 0 e in omega (arith, x.0)

  asked_there : (r : Row) (i k : ℕ) → IsOfFirst es r → slice_get (asked_parts r) i ≡ Some k → k < length es
  asked_there (Atom n) i k f e = absurd (cc)
  asked_there (Compound kinds.Tuple ps) i k f e = one_of ps i k f e
  asked_there (Compound kinds.Crypt ps) i k f e = absurd (cc)
  asked_there (Compound (kinds.Apply g) ps) i k f e = one_of ps i k f e

  pub part_some : (r : Row) (h i k : ℕ) → IsOfFirst es r → meaning es h ≡ Some (row_value (values es) r) → slice_get (asked_parts r) i ≡ Some k → Answers (meaning es) (part_value (meaning es h) i) (Ok k)
  part_some r h i k f m e =
      let p = part_of_row r i ∙ ap (option_map (value_at es)) e in
      subst⁻¹ (λ o. Answers (meaning es) (part_value o i) (Ok k)) m (subst⁻¹ (λ o. Answers (meaning es) (ok_or o NoPart) (Ok k)) p (some_row es k (asked_there r i k f e)))

  pub part_none : (r : Row) (h i : ℕ) → meaning es h ≡ Some (row_value (values es) r) → slice_get (asked_parts r) i ≡ None → Answers (meaning es) (part_value (meaning es h) i) (Err NoPart)
  part_none r h i m e =
      let p = part_of_row r i ∙ ap (option_map (value_at es)) e in
      subst⁻¹ (λ o. Answers (meaning es) (part_value o i) (Err NoPart)) m (subst⁻¹ (λ o. Answers (meaning es) (ok_or o NoPart) (Err NoPart)) p refl)

  -- the text that is behind a key, if a value is equal to it
  abbrev behind : Tree → Option (ℕ × ℕ) → Option Tree
  behind w None = None
  behind w (Some x) = if eq_tree (value_at es x.1) w then Some (value_at es x.0) else None

  text_of_row : (r : Row) (w : Tree) → text_of (row_value (values es) r) w ≡ behind w (text_and_key r)
  text_of_row (Atom n) w = refl
  text_of_row (Compound kinds.Tuple ps) w = refl
  text_of_row (Compound (kinds.Apply g) ps) w = refl
  text_of_row (Compound kinds.Crypt []) w = refl
  text_of_row (Compound kinds.Crypt (x ∷ [])) w = refl
  text_of_row (Compound kinds.Crypt (x ∷ (y ∷ []))) w = refl
  text_of_row (Compound kinds.Crypt (x ∷ (y ∷ (z ∷ ks)))) w = refl

  pub two_there : (r : Row) (t k : ℕ) → IsOfFirst es r → text_and_key r ≡ Some (t, k) → (t < length es) × (k < length es)
  two_there (Atom n) t k f e = absurd (cc)
  two_there (Compound kinds.Tuple ps) t k f e = absurd (cc)
  two_there (Compound (kinds.Apply g) ps) t k f e = absurd (cc)
  two_there (Compound kinds.Crypt []) t k f e = absurd (cc)
  two_there (Compound kinds.Crypt (x ∷ [])) t k f e = absurd (cc)
  two_there (Compound kinds.Crypt (x ∷ (y ∷ []))) t k f e =
      let p : ◌≡◌ {A = ℕ × ℕ} (x, y) (t, k) = cc in
      let q : x ≡ t = ap (λ (x : ℕ × ℕ). x.0) p in
      let o : y ≡ k = ap (λ (x : ℕ × ℕ). x.1) p in
      let h = f 0 0 (omega arith) in
      let i = f 1 0 (omega arith) in
      (omega (arith, h.0), omega (arith, i.0))
  two_there (Compound kinds.Crypt (x ∷ (y ∷ (z ∷ ks)))) t k f e = absurd (cc)

  pub unlock_some : (r : Row) (h j t k key : ℕ) → IsOfFirst es r → meaning es h ≡ Some (row_value (values es) r) → meaning es j ≡ Some (value_at es key)
      → text_and_key r ≡ Some (t, k) → eq_tree (value_at es k) (value_at es key) ≡ true → Answers (meaning es) (unlocked_value (meaning es h) (meaning es j)) (Ok t)
  unlock_some r h j t k key f m n e q =
      let p = text_of_row r (value_at es key) ∙ ap (behind (value_at es key)) e ∙ ap (λ b. if b then Some (value_at es t) else None) q in
      subst⁻¹ (λ o. Answers (meaning es) (unlocked_value o (meaning es j)) (Ok t)) m
      (subst⁻¹ (λ o. Answers (meaning es) (unlocked_value (Some (row_value (values es) r)) o) (Ok t)) n
      (subst⁻¹ (λ o. Answers (meaning es) (ok_or o Mismatch) (Ok t)) p (some_row es t (two_there r t k f e).0)))
